-- Texts are read in one way.
use Rattle.std.proofs.Common.{◌≡◌, ◌≢◌, ℕ, List, [], ◌∷◌, ◌++◌, map, refl, sym, ap, subst, ◌∙◌, codes, arith, inl, inr}
use Rattle.std.specs.List.{All, flat_map}
use Rattle.std.specs.Char.{IsAsciiLowercase}
use Rattle.std.proofs.lemmas.List.{append-nil}
use Rattle.std.proofs.lemmas.List.Elements.{All-weaker}
use Rattle.first_form.specs.Lines.{text_lines}
use Rattle.first_form.specs.Words.{IsName, IsInt}
use Rattle.first_form.specs.Forms.{interface_lines, call_line, end_line, include_line, opening_text, closing_text, put_text, IsArgument, AreCalls, ArePuts, IsFortranText, IsCText}
use Rattle.first_form.specs.Runs.{ArePutsBehind, call_before, put_before, put_line_before}
use Rattle.first_form.specs.Readings.{AreTexts, IsFaultInC, IsReading}
use Rattle.first_form.specs.declared.program.PutcharArgument.{PutcharArgument}
use Rattle.first_form.specs.declared.program.FirstProgram.{FirstProgram}
use Rattle.first_form.specs.declared.pair.Reading.{Reading}
use Rattle.first_form.specs.declared.pair.Reading.TheVariants.{Program, Fortran, C}
use Rattle.first_form.proofs.Fronts.{head_of, tail_of, rest_of}
use Rattle.first_form.proofs.LongestRuns.{run_is_one, spelled_lines, spelled_text}
use Rattle.first_form.proofs.CallLines.{one_call, no_call_at_end}
use Rattle.first_form.proofs.PutTexts.{cut_one, one_put, one_put_line, no_put_at_end, no_put_line_at_end}
use Rattle.first_form.proofs.FortranTexts.{program_parts, interface_parts}
use Rattle.first_form.proofs.CTexts.{opening_shape, never_empty}

-- the calls of one label
one_calls : (label calls others : List ℕ) → AreCalls calls → AreCalls others → map (call_line label) calls ++ (end_line ∷ []) ≡ map (call_line label) others ++ (end_line ∷ []) → calls ≡ others
one_calls label calls others are also e =
    (run_is_one (call_before label) IsInt (one_call label) calls others (end_line ∷ []) (end_line ∷ []) are.numbers also.numbers (no_call_at_end label) (no_call_at_end label)
    (spelled_lines (call_line label) calls (end_line ∷ []) ∙ (e ∙ sym (spelled_lines (call_line label) others (end_line ∷ []))))).0

pub one_fortran : (bytes label calls other more : List ℕ) → IsFortranText bytes label calls → IsFortranText bytes other more → (label ≡ other) × (calls ≡ more)
one_fortran bytes label calls other more h k =
    let behind = (program_parts (text_lines bytes) h.name k.name _ _ h.lines k.lines).1 in
    let parts = interface_parts (interface_lines label ++ (map (call_line label) calls ++ (end_line ∷ []))) label other (map (call_line label) calls ++ (end_line ∷ [])) (map (call_line other) more ++ (end_line ∷ [])) refl behind in
    (parts.0, one_calls other calls more h.are_calls k.are_calls (ap (λ (x : List ℕ). map (call_line x) calls ++ (end_line ∷ [])) (sym parts.0) ∙ parts.1))

one_puts : (puts others : List PutcharArgument) → ArePuts puts → ArePuts others → flat_map put_text puts ++ closing_text ≡ flat_map put_text others ++ closing_text → puts ≡ others
one_puts puts others are also e =
    (run_is_one put_before IsArgument one_put puts others closing_text closing_text are.arguments also.arguments no_put_at_end no_put_at_end
    (spelled_text put_text puts closing_text ∙ (e ∙ sym (spelled_text put_text others closing_text)))).0

one_put_lines : (puts others : List PutcharArgument) → ArePuts puts → ArePuts others → map put_text puts ++ (closing_text ∷ []) ≡ map put_text others ++ (closing_text ∷ []) → puts ≡ others
one_put_lines puts others are also e =
    (run_is_one put_line_before IsArgument one_put_line puts others (closing_text ∷ []) (closing_text ∷ []) are.arguments also.arguments no_put_line_at_end no_put_line_at_end
    (spelled_lines put_text puts (closing_text ∷ []) ∙ (e ∙ sym (spelled_lines put_text others (closing_text ∷ []))))).0

-- no parenthesis stands in a name
name_is_free : (word : List ℕ) → IsName word → All (λ b. b ≢ 40) word
name_is_free word h = All-weaker IsAsciiLowercase (λ b. b ≢ 40) (λ b letter e. omega arith) word h.letters

one_opening : (label other body rest : List ℕ) → IsName label → IsName other → opening_text label ++ body ≡ opening_text other ++ rest → (label ≡ other) × (body ≡ rest)
one_opening label other body rest h k e =
    let inner : label ++ (codes "(int c){" ++ body) ≡ other ++ (codes "(int c){" ++ rest)
    = rest_of (codes "void ") (opening_text label ++ body) (label ++ (codes "(int c){" ++ body)) (other ++ (codes "(int c){" ++ rest)) (opening_shape label body) (e ∙ opening_shape other rest) in
    let parts : (label ≡ other) × (codes "int c){" ++ body ≡ codes "int c){" ++ rest) = cut_one 40 label other (codes "int c){" ++ body) (codes "int c){" ++ rest) (name_is_free label h) (name_is_free other k) inner in
    (parts.0, rest_of (codes "int c){") (codes "int c){" ++ body) body rest refl parts.1)

-- a C text from the line that opens the function
record CStart (bytes label : List ℕ) (puts : List PutcharArgument) : Type 0 where
  body : List ℕ
  rest : List (List ℕ)
  lines : text_lines bytes ≡ include_line ∷ (opening_text label ++ body) ∷ rest
  behind : ArePutsBehind body rest puts

c_start : (bytes label : List ℕ) (puts : List PutcharArgument) → IsCText bytes label puts → CStart bytes label puts
c_start bytes label puts h = elim h.lines [
  | inl e ↦ record {
    body = [];
    rest = map put_text puts ++ (closing_text ∷ []);
    lines = e ∙ ap (λ (x : List ℕ). include_line ∷ x ∷ (map put_text puts ++ (closing_text ∷ []))) (sym (append-nil (opening_text label)));
    behind = inl (refl, refl);
  }
  | inr e ↦ record { body = flat_map put_text puts ++ closing_text; rest = []; lines = e; behind = inr (refl, refl) }
]

same_puts : (body : List ℕ) (rest : List (List ℕ)) (puts others : List PutcharArgument) → ArePuts puts → ArePuts others → ArePutsBehind body rest puts → ArePutsBehind body rest others → puts ≡ others
same_puts body rest puts others are also (inl h) (inl k) = one_put_lines puts others are also (sym h.1 ∙ k.1)
same_puts body rest puts others are also (inl h) (inr k) = absurd (never_empty (flat_map put_text others) (sym h.0 ∙ k.1))
same_puts body rest puts others are also (inr h) (inl k) = absurd (never_empty (flat_map put_text puts) (sym k.0 ∙ h.1))
same_puts body rest puts others are also (inr h) (inr k) = one_puts puts others are also (sym h.1 ∙ k.1)

pub one_c : (bytes label other : List ℕ) (puts more : List PutcharArgument) → IsName label → IsName other → IsCText bytes label puts → IsCText bytes other more → (label ≡ other) × (puts ≡ more)
one_c bytes label other puts more is_name other_name h k =
    let a = c_start bytes label puts h in
    let b = c_start bytes other more k in
    let same : (opening_text label ++ a.body) ∷ a.rest ≡ (opening_text other ++ b.body) ∷ b.rest = tail_of a.lines b.lines in
    let opened = one_opening label other a.body b.body is_name other_name (head_of refl same) in
    let lines : a.rest ≡ b.rest = tail_of refl same in (
      opened.0,
      same_puts b.body b.rest puts more h.are_puts k.are_puts
          (subst (λ (x : List ℕ). ArePutsBehind x b.rest puts) opened.1 (subst (λ (x : List (List ℕ)). ArePutsBehind a.body x puts) lines a.behind)) b.behind,
    )

-- a program with these parts
program_of : (program other : FirstProgram) → program.label ≡ other.label → program.calls ≡ other.calls → program.puts ≡ other.puts → program ≡ other
program_of program other a b c =
    let made : List ℕ → List ℕ → List PutcharArgument → FirstProgram = λ label calls puts. record { label = label; calls = calls; puts = puts } in
    ap (λ (x : List ℕ). made x program.calls program.puts) a
    ∙ (ap (λ (x : List ℕ). made other.label x program.puts) b ∙ ap (λ (x : List PutcharArgument). made other.label other.calls x) c)

one_program : (fortran c : List ℕ) (program other : FirstProgram) → AreTexts fortran c program → AreTexts fortran c other → program ≡ other
one_program fortran c program other h k =
    let first = one_fortran fortran program.label program.calls other.label other.calls h.fortran_text k.fortran_text in
    let second = one_c c program.label other.label program.puts other.puts h.fortran_text.is_label.word k.fortran_text.is_label.word h.c_text k.c_text in
    program_of program other first.0 first.1 second.1

no_fault : (fortran c : List ℕ) (program : FirstProgram) → AreTexts fortran c program → IsFaultInC fortran c → ⊥
no_fault fortran c program h k =
    k.no_c_text program.puts (subst (λ (x : List ℕ). IsCText c x program.puts) (one_fortran fortran program.label program.calls k.label k.calls h.fortran_text k.fortran_text).0 h.c_text)

pub one_reading : (fortran c : List ℕ) (reading other : Reading) → IsReading fortran c reading → IsReading fortran c other → reading ≡ other
one_reading fortran c (Program p) (Program q) h k = ap Program (one_program fortran c p q h k)
one_reading fortran c (Program p) Fortran h k = absurd (k p.label p.calls h.fortran_text)
one_reading fortran c (Program p) C h k = absurd (no_fault fortran c p h k)
one_reading fortran c Fortran (Program q) h k = absurd (h q.label q.calls k.fortran_text)
one_reading fortran c Fortran Fortran h k = refl
one_reading fortran c Fortran C h k = absurd (h k.label k.calls k.fortran_text)
one_reading fortran c C (Program q) h k = absurd (no_fault fortran c q k h)
one_reading fortran c C Fortran h k = absurd (k h.label h.calls h.fortran_text)
one_reading fortran c C C h k = refl
