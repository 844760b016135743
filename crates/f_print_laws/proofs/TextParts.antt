-- A printed text as parts: characters, doubled delimiters, and `&` where a line is full.
use Rattle.std.proofs.Common.{◌≡◌, ℕ, Bool, true, false, cond, eqb, nat_lt, List, [], ◌∷◌, ◌++◌, refl, sym, ap, ◌∙◌, append_assoc}
use Rattle.std.specs.Prelude.{not}
use Rattle.std.proofs.lemmas.Bool.{eqb-true}
use Rattle.f_lex.specs.declared.class.Run.TheVariants as run_of
use Rattle.f_lex.specs.declared.class.Class.{Class}
use Rattle.f_lex.specs.declared.class.Class.TheVariants.{Letter, Digit, Underscore, Blank, LineEnd, Exclamation, Ampersand, Quote, Semicolon, Dot, Mark, Unused, Foreign, Nothing}
use Rattle.f_lex.specs.declared.lines.Context.TheVariants.{Inside}
use Rattle.f_lex.specs.Characters.{class_of, class_at, goes_on, is_next, is_blank}
use Rattle.f_lex.specs.Lines.{byte_at, run_at, ends_with, ends_line, first_of_line}
use Rattle.f_lex.specs.Grammar.{Part, Char, Doubled, Split, Closed, spell_parts, IsCharacter, FitsParts, content_of, Continues}
use Rattle.f_lex.proofs.Small.{is_class}
use Rattle.f_tree.specs.declared.page.Line.{Line}
use Rattle.f_tree.specs.Text.{and_then, begun, run, doubled, character, characters}
use Rattle.f_print_laws.specs.Tokens.{is_of_text, Each}
use Rattle.f_print_laws.proofs.Classes.{class_tells, Stops, not_next}

-- ---- line ends

pub line_end_is : (c : ℕ) (cs : List ℕ) → class_at (c ∷ cs) ≡ LineEnd → eqb c 10 ≡ true
line_end_is c cs e = class_tells LineEnd c cs e

no_feed : (c : ℕ) (cs : List ℕ) → is_of_text c ≡ true → class_at (c ∷ cs) ≡ LineEnd → ⊥
no_feed c cs is e = let is_false : not true ≡ true = ap not (sym (line_end_is c cs e)) ∙ is in cc

-- ---- a text goes on

char_goes_on : (c : ℕ) (cs : List ℕ) → is_of_text c ≡ true → ends_line Inside cs ≡ false → ends_line Inside (c ∷ cs) ≡ false
unfolding ends_line run_at goes_on
char_goes_on c cs is ih = pick (class_at (c ∷ cs)) refl
  where
    pick : (v : Class) → class_at (c ∷ cs) ≡ v → ends_with Inside (class_at (cond {A = List ℕ × List ℕ} (is_blank v) (c ∷ (run_at run_of.Blanks cs).0, (run_at run_of.Blanks cs).1) ([], c ∷ cs)).1) ≡ false
    pick Blank e = ih
    pick LineEnd e = absurd (no_feed c cs is e)
    pick Nothing e = absurd (is_class Nothing c cs e)
    pick Letter e = rw e refl
    pick Digit e = rw e refl
    pick Underscore e = rw e refl
    pick Exclamation e = rw e refl
    pick Ampersand e = rw e refl
    pick Quote e = rw e refl
    pick Semicolon e = rw e refl
    pick Dot e = rw e refl
    pick Mark e = rw e refl
    pick Unused e = rw e refl
    pick Foreign e = rw e refl

quote_goes_on : (cs : List ℕ) → ends_line Inside (39 ∷ cs) ≡ false
unfolding ends_line run_at goes_on class_at class_of
quote_goes_on cs = refl

ampersand_goes_on : (cs : List ℕ) → ends_line Inside (38 ∷ cs) ≡ false
unfolding ends_line run_at goes_on class_at class_of
ampersand_goes_on cs = refl

-- ---- parts

abbrev part_for : Bool → ℕ → Part
part_for true c = Doubled
part_for false c = Char c

abbrev split_before : Bool → Part → List Part → List Part
split_before true p ps = p ∷ ps
split_before false p ps = Split (10 ∷ []) true ∷ p ∷ ps

pub parts_from : List ℕ → Line → List Part
parts_from [] l = []
parts_from (c ∷ cs) l = split_before (nat_lt 2 l.room) (part_for (eqb c 39) c) (parts_from cs (character c l).1)

-- the text of these parts and their delimiter
abbrev spelled : List Part → List ℕ → List ℕ
spelled ps rest = spell_parts 39 ps Closed rest

one_spelled : (room quote : Bool) (c : ℕ) (ps : List Part) (rest : List ℕ) (l : Line)
    → spelled (split_before room (part_for quote c) ps) rest ≡ (cond room (run (cond quote (39 ∷ 39 ∷ []) (c ∷ [])) l) (and_then (38 ∷ 10 ∷ 38 ∷ [], begun 129) (run (cond quote (39 ∷ 39 ∷ []) (c ∷ []))))).0 ++ spelled ps rest
unfolding run
one_spelled true true c ps rest l = refl
one_spelled true false c ps rest l = refl
one_spelled false true c ps rest l = refl
one_spelled false false c ps rest l = refl

pub parts_spelled : (cs : List ℕ) (l : Line) (rest : List ℕ) → spelled (parts_from cs l) rest ≡ (characters cs l).0 ++ rest
unfolding characters character run parts_from
parts_spelled [] l rest = refl
parts_spelled (c ∷ cs) l rest =
    one_spelled (nat_lt 2 l.room) (eqb c 39) c (parts_from cs (character c l).1) rest l
    ∙ ap (λ (x : List ℕ). (character c l).0 ++ x) (parts_spelled cs (character c l).1 rest)
    ∙ sym (append_assoc (character c l).0 (characters cs (character c l).1).0 rest)

one_goes_on : (room quote : Bool) (c : ℕ) (ps : List Part) (rest : List ℕ) → is_of_text c ≡ true → ends_line Inside (spelled ps rest) ≡ false → ends_line Inside (spelled (split_before room (part_for quote c) ps) rest) ≡ false
one_goes_on true true c ps rest is ih = quote_goes_on (39 ∷ spelled ps rest)
one_goes_on true false c ps rest is ih = char_goes_on c (spelled ps rest) is ih
one_goes_on false quote c ps rest is ih = ampersand_goes_on (10 ∷ 38 ∷ spelled (part_for quote c ∷ ps) rest)

text_goes_on : (cs : List ℕ) (l : Line) (rest : List ℕ) → Each is_of_text cs → ends_line Inside (spelled (parts_from cs l) rest) ≡ false
unfolding parts_from
text_goes_on [] l rest a = quote_goes_on rest
text_goes_on (c ∷ cs) l rest a = one_goes_on (nat_lt 2 l.room) (eqb c 39) c (parts_from cs (character c l).1) rest a.0 (text_goes_on cs (character c l).1 rest a.1)

is_character : (c : ℕ) (body : List ℕ) (v : Class) → class_at (c ∷ body) ≡ v → is_of_text c ≡ true → ends_line Inside body ≡ false → IsCharacter v body
is_character c body LineEnd e is on = absurd (no_feed c body is e)
is_character c body Ampersand e is on = on
is_character c body Blank e is on = tt
is_character c body Nothing e is on = tt
is_character c body Letter e is on = tt
is_character c body Digit e is on = tt
is_character c body Underscore e is on = tt
is_character c body Exclamation e is on = tt
is_character c body Quote e is on = tt
is_character c body Semicolon e is on = tt
is_character c body Dot e is on = tt
is_character c body Mark e is on = tt
is_character c body Unused e is on = tt
is_character c body Foreign e is on = tt

continues : (body : List ℕ) → ends_line Inside body ≡ false → Continues Inside (10 ∷ []) true body
unfolding ends_line run_at goes_on class_at class_of is_next first_of_line byte_at
continues body on = record {
  last = refl;
  stands_between = (false, refl, refl);
  has_lead = refl;
  goes_on = rw on refl;
}

part_fits : (quote : Bool) (c : ℕ) (ps : List Part) (rest : List ℕ) → eqb c 39 ≡ quote → is_of_text c ≡ true → ends_line Inside (spelled ps rest) ≡ false → FitsParts 39 ps Closed rest → FitsParts 39 (part_for quote c ∷ ps) Closed rest
part_fits true c ps rest e is on f = f
part_fits false c ps rest e is on f = (e, is_character c (spelled ps rest) (class_at (c ∷ spelled ps rest)) refl is on, f)

one_fits : (room quote : Bool) (c : ℕ) (ps : List Part) (rest : List ℕ) → eqb c 39 ≡ quote → is_of_text c ≡ true → ends_line Inside (spelled ps rest) ≡ false → FitsParts 39 ps Closed rest → FitsParts 39 (split_before room (part_for quote c) ps) Closed rest
one_fits true quote c ps rest e is on f = part_fits quote c ps rest e is on f
one_fits false quote c ps rest e is on f = (continues (spelled (part_for quote c ∷ ps) rest) (one_goes_on true quote c ps rest is on), part_fits quote c ps rest e is on f)

pub parts_fit : (cs : List ℕ) (l : Line) (rest : List ℕ) → Each is_of_text cs → Stops rest → FitsParts 39 (parts_from cs l) Closed rest
unfolding parts_from
parts_fit [] l rest a s = not_next 39 rest refl refl s
parts_fit (c ∷ cs) l rest a s =
    one_fits (nat_lt 2 l.room) (eqb c 39) c (parts_from cs (character c l).1) rest refl a.0 (text_goes_on cs (character c l).1 rest a.1) (parts_fit cs (character c l).1 rest a.1 s)

one_content : (room quote : Bool) (c : ℕ) (ps : List Part) → eqb c 39 ≡ quote → content_of 39 (split_before room (part_for quote c) ps) ≡ c ∷ content_of 39 ps
one_content true true c ps e = ap (λ (n : ℕ). n ∷ content_of 39 ps) (sym (eqb-true c 39 e))
one_content false true c ps e = ap (λ (n : ℕ). n ∷ content_of 39 ps) (sym (eqb-true c 39 e))
one_content true false c ps e = refl
one_content false false c ps e = refl

pub parts_content : (cs : List ℕ) (l : Line) → content_of 39 (parts_from cs l) ≡ cs
unfolding parts_from
parts_content [] l = refl
parts_content (c ∷ cs) l = one_content (nat_lt 2 l.room) (eqb c 39) c (parts_from cs (character c l).1) refl ∙ ap (λ (x : List ℕ). c ∷ x) (parts_content cs (character c l).1)

-- the line behind is begun
pub text_begins : (cs : List ℕ) (l : Line) → (characters cs l).1.is_begun ≡ true
unfolding characters run
text_begins [] l = refl
text_begins (c ∷ cs) l = text_begins cs (character c l).1
