-- The parts of a C text are determined by it.
use Rattle.std.proofs.Common.{◌≡◌, ◌≢◌, ℕ, List, [], ◌∷◌, ◌++◌, Vec, Global, map, refl, sym, ap, ◌∙◌, codes, append_assoc, inl, inr, ◌⊎◌, Option, Some, None, Result, Ok, Err}
use Rattle.std.specs.List.{flat_map}
use Rattle.std.specs.Option.{MatchOption}
use Rattle.std.specs.Result.{IfOk}
use Rattle.std.proofs.lemmas.List.{append-nil, append_cancel_left}
use Rattle.first_form.specs.Lines.{text_lines}
use Rattle.first_form.specs.Forms.{include_line, opening_text, closing_text, put_text, c_lines, c_one_line, ArePuts, IsCText}
use Rattle.first_form.specs.Runs.{ArePutsBehind}
use Rattle.first_form.specs.Readings.{IsNoCText}
use Rattle.first_form.specs.declared.program.PutcharArgument.{PutcharArgument}
use Rattle.first_form.proofs.Fronts.{head_of, tail_of, rest_of}

pub opening_shape : (label body : List ℕ) → opening_text label ++ body ≡ codes "void " ++ (label ++ (codes "(int c){" ++ body))
unfolding opening_text
opening_shape label body = ap (λ (x : List ℕ). codes "void " ++ x) (append_assoc label (codes "(int c){") body)

-- the line that opens the function
pub opening_line : (lines one two : List (List ℕ)) (line label body : List ℕ) (rest : List (List ℕ)) → lines ≡ include_line ∷ one → one ≡ line ∷ two
    → lines ≡ include_line ∷ (opening_text label ++ body) ∷ rest → line ≡ codes "void " ++ (label ++ (codes "(int c){" ++ body))
opening_line lines one two line label body rest first second e = head_of second (tail_of first e) ∙ opening_shape label body

pub behind_type : (line inner label body : List ℕ) → line ≡ codes "void " ++ inner → line ≡ codes "void " ++ (label ++ (codes "(int c){" ++ body)) → inner ≡ label ++ (codes "(int c){" ++ body)
behind_type line inner label body e h = rest_of (codes "void ") line inner (label ++ (codes "(int c){" ++ body)) e h

pub behind_label : (line inner behind label body : List ℕ) → line ≡ codes "void " ++ inner → inner ≡ label ++ behind → line ≡ codes "void " ++ (label ++ (codes "(int c){" ++ body))
    → behind ≡ codes "(int c){" ++ body
behind_label line inner behind label body e i h = rest_of label inner behind (codes "(int c){" ++ body) i (behind_type line inner label body e h)

pub start_is_there : (lines one two : List (List ℕ)) (line inner behind label body : List ℕ) → lines ≡ include_line ∷ one → one ≡ line ∷ two → line ≡ codes "void " ++ inner → inner ≡ label ++ behind
    → behind ≡ codes "(int c){" ++ body → lines ≡ include_line ∷ (opening_text label ++ body) ∷ two
start_is_there lines one two line inner behind label body first second e i b =
    let opened : line ≡ opening_text label ++ body
    = e ∙ (ap (λ (x : List ℕ). codes "void " ++ x) (i ∙ ap (λ (x : List ℕ). label ++ x) b) ∙ sym (opening_shape label body)) in
    first ∙ ap (λ (x : List (List ℕ)). include_line ∷ x) (second ∙ ap (λ (x : List ℕ). x ∷ two) opened)

pub no_function : (bytes label : List ℕ) → ((body : List ℕ) (rest : List (List ℕ)) → text_lines bytes ≢ include_line ∷ (opening_text label ++ body) ∷ rest) → IsNoCText bytes label
no_function bytes label none puts h = elim h.lines [
  | inl e ↦ none [] (map put_text puts ++ (closing_text ∷ []))
      (e ∙ ap (λ (x : List ℕ). include_line ∷ x ∷ (map put_text puts ++ (closing_text ∷ []))) (sym (append-nil (opening_text label))))
  | inr e ↦ none (flat_map put_text puts ++ closing_text) [] e
]

-- what stands behind the brace
pub puts_behind : (bytes label body : List ℕ) (rest : List (List ℕ)) (puts : List PutcharArgument) → text_lines bytes ≡ include_line ∷ (opening_text label ++ body) ∷ rest → IsCText bytes label puts
    → ArePutsBehind body rest puts
puts_behind bytes label body rest puts e h = elim h.lines [
  | inl lines ↦ inl (append_cancel_left (opening_text label) body [] (head_of refl (tail_of e lines) ∙ sym (append-nil (opening_text label))), tail_of refl (tail_of e lines))
  | inr lines ↦ inr (tail_of refl (tail_of e lines), append_cancel_left (opening_text label) body (flat_map put_text puts ++ closing_text) (head_of refl (tail_of e lines)))
]

pub never_empty : (text : List ℕ) → [] ≢ text ++ closing_text
unfolding closing_text
never_empty [] e = cc
never_empty (byte ∷ text) e = cc

-- where nothing stands behind the brace, the statements stand on the lines that follow
pub on_lines : {E : Type 0} (body : List ℕ) (rest : List (List ℕ)) (r : Result (Option (Vec PutcharArgument Global)) E) → body ≡ []
    → IfOk r (λ o. MatchOption o ((puts : List PutcharArgument) → ArePuts puts → rest ≢ map put_text puts ++ (closing_text ∷ []))
    (λ v. ArePuts v.items × (rest ≡ map put_text v.items ++ (closing_text ∷ []))))
    → IfOk r (λ o. MatchOption o ((puts : List PutcharArgument) → ArePuts puts → ArePutsBehind body rest puts → ⊥) (λ v. ArePuts v.items × ArePutsBehind body rest v.items))
on_lines body rest (Ok None) empty none = λ puts are behind. elim behind [ inl w ↦ none puts are w.1 | inr w ↦ never_empty (flat_map put_text puts) (sym empty ∙ w.1) ]
on_lines body rest (Ok (Some v)) empty some = (some.0, inl (empty, some.1))
on_lines body rest (Err e) empty free = free

pub text_is_there : (bytes label body : List ℕ) (rest : List (List ℕ)) (puts : List PutcharArgument) → text_lines bytes ≡ include_line ∷ (opening_text label ++ body) ∷ rest → ArePutsBehind body rest puts
    → (text_lines bytes ≡ c_lines label puts) ⊎ (text_lines bytes ≡ c_one_line label puts)
text_is_there bytes label body rest puts e (inl (none, lines)) =
    inl (e ∙ (ap (λ (x : List ℕ). include_line ∷ (opening_text label ++ x) ∷ rest) none
    ∙ (ap (λ (x : List ℕ). include_line ∷ x ∷ rest) (append-nil (opening_text label)) ∙ ap (λ (x : List (List ℕ)). include_line ∷ opening_text label ∷ x) lines)))
text_is_there bytes label body rest puts e (inr (none, line)) =
    inr (e ∙ (ap (λ (x : List ℕ). include_line ∷ (opening_text label ++ x) ∷ rest) line ∙ ap (λ (x : List (List ℕ)). include_line ∷ (opening_text label ++ (flat_map put_text puts ++ closing_text)) ∷ x) none))
