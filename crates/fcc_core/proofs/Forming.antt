-- Files of the first form that have tokens are a program.
use Rattle.std.proofs.Common.{◌≡◌, ◌+◌, ◌-◌, ℕ, List, [], ◌∷◌, ◌++◌, length, take, drop, get_or, reverse, Option, Some, None, Bool, true, false, if◌then◌else◌, codes, nat_eq, refl, sym, ap, ◌∙◌, subst, take-append-drop, arith}
use Rattle.std.specs.List.{ends_with}
use Rattle.std.proofs.lemmas.List.{reverse-append}
use lib.Pointwise.{bytes_decides}
use Rattle.jf_outside.specs.Listing.{listed}
use Rattle.f_lex.specs.declared.token.Spanned.{Spanned}
use Rattle.f_lex.specs.Lexing.{Lexes}
use Rattle.c_token.specs.declared.token.CSpanned.{CSpanned}
use Rattle.source_tokens.specs.Sources.{Files, is_fortran_name, Fortran, C, Expands}
use Rattle.first_form.specs.declared.program.FirstProgram.{FirstProgram}
use Rattle.first_form.specs.Readings.{AreTexts}
use Rattle.c_read.specs.Reading.{file_of}
use Rattle.first_files.proofs.FormTexts.{form_texts}
use Rattle.first_c_files.proofs.FormFiles.{c_form_files}
use Rattle.fcc_core.specs.Sources.{is_c_name, misplaced, IsProgram}

-- ---- names

-- what ends with a suffix
with_suffix : (name suffix : List ℕ) → ends_with nat_eq name suffix ≡ true → name ≡ take (length name - length suffix) name ++ suffix
with_suffix name suffix e =
    let k : ℕ = length name - length suffix in
    sym (take-append-drop k name) ∙ ap (λ (l : List ℕ). take k name ++ l) (sym ((bytes_decides suffix (drop k name)).0 e))

-- the last byte comes first backward
last_byte : (front : List ℕ) (a b : ℕ) → get_or (reverse (front ++ a ∷ b ∷ [])) 0 0 ≡ b
last_byte front a b = ap (λ (l : List ℕ). get_or l 0 0) (reverse-append front (a ∷ b ∷ []))

last_of_four : (front : List ℕ) (a b c d : ℕ) → get_or (reverse (front ++ a ∷ b ∷ c ∷ d ∷ [])) 0 0 ≡ d
last_of_four front a b c d = ap (λ (l : List ℕ). get_or l 0 0) (reverse-append front (a ∷ b ∷ c ∷ d ∷ []))

other_byte : let c : ℕ = 99 in let zero : ℕ = 48 in c ≡ zero → ⊥
other_byte e = absurd (omega (arith, e))

c_not_fortran : (name : List ℕ) → is_c_name name ≡ true → is_fortran_name name ≡ false
c_not_fortran name e = pick (is_fortran_name name) refl
  where
    pick : (b : Bool) → is_fortran_name name ≡ b → is_fortran_name name ≡ false
    pick false f = f
    pick true f =
        absurd (other_byte (
        sym (ap (λ (l : List ℕ). get_or (reverse l) 0 0) (with_suffix name (codes ".c") e) ∙ last_byte (take (length name - 2) name) 46 99)
        ∙ ap (λ (l : List ℕ). get_or (reverse l) 0 0) (with_suffix name (codes ".f90") f) ∙ last_of_four (take (length name - 4) name) 46 102 57 48
        ))

names_are : (name other : List ℕ) → misplaced (name ∷ other ∷ []) ≡ None → (is_fortran_name name ≡ true) × (is_c_name other ≡ true)
names_are name other e = pick (is_fortran_name name) (is_c_name other) refl refl e
  where
    none : Option ℕ
    none = None

    no_file : (k : ℕ) → Some k ≡ none → ⊥
    no_file k i = cc

    pick : (a b : Bool) → is_fortran_name name ≡ a → is_c_name other ≡ b → (if a then (if b then None else Some 1) else Some 0) ≡ none → (is_fortran_name name ≡ true) × (is_c_name other ≡ true)
    pick true true p q i = (p, q)
    pick true false p q i = absurd (no_file 1 i)
    pick false b p q i = absurd (no_file 0 i)

-- ---- files

pub of_the_form : (files : Files) (name other fortran c : List ℕ) (ts : List Spanned) (us : List CSpanned) (program : FirstProgram)
    → misplaced (name ∷ other ∷ []) ≡ None → listed files name ≡ Some fortran → Lexes 0 0 fortran ts → listed files other ≡ Some c → Expands files 1 (length ts) c us
    → AreTexts fortran c program → IsProgram files (name ∷ other ∷ []) program
of_the_form files name other fortran c ts us program placed given lexes given' expands texts =
    let names = names_are name other placed in
    let text = form_texts 0 0 fortran program.label program.calls ts texts.fortran_text lexes in
    let unit = c_form_files files 1 (length ts) (expands.0 + 0) c texts.fortran_text.name program.label program.puts us texts.fortran_text.is_label texts.c_text (expands.1 0) in
    let before : 0 + length ts ≡ length ts = omega arith in
    let E : ℕ → Type 0 = λ n. Expands files 1 n c us in
    record {
      fortran = record { text = fortran; tokens = Fortran ts text.statements };
      c = record { text = c; tokens = C us (file_of us unit.externals) };
      placed = placed;
      sources = (
        record { is_listed = given; has_tokens = (names.0, lexes, record { forms = text.forms; is_file = text.file }) },
        (
          record {
            is_listed = given';
            has_tokens = (c_not_fortran other names.1, subst E (sym before) expands, record { is_file = record { fits = unit.fits; spelled = unit.spelled }; tables = refl });
          },
          tt,
        ),
      );
      are_texts = texts;
    }
