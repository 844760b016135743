-- Lines that call.
use Rattle.std.proofs.Common.{◌≡◌, ◌≢◌, ℕ, List, [], ◌∷◌, ◌++◌, Option, Some, None, refl, sym, ap, ◌∙◌, codes, arith, get_or, map}
use Rattle.std.specs.List.{All}
use Rattle.std.specs.Option.{MatchOption}
use Rattle.std.specs.Fmt.{decimal}
use Rattle.std.proofs.lemmas.Fmt.{decimal_injective}
use Rattle.first_form.specs.Words.{IsInt}
use Rattle.first_form.specs.Forms.{call_line, end_line}
use Rattle.first_form.specs.Runs.{spelled, call_before, IsLongestRun}
use Rattle.first_form.proofs.LongestRuns.{longest_run, spelled_lines}
use Rattle.first_form.proofs.Fronts.{rest_of, start_of, head_of, tail_of}

-- what stands behind the label
pub call_rest : (line label a b : List ℕ) → line ≡ codes "call " ++ a → a ≡ label ++ b → (n : ℕ) → line ≡ call_line label n → b ≡ codes "(" ++ (decimal n ++ codes "_c_int)")
unfolding call_line
call_rest line label a b el ea n e = rest_of label a b (codes "(" ++ (decimal n ++ codes "_c_int)")) ea (rest_of (codes "call ") line a (label ++ (codes "(" ++ (decimal n ++ codes "_c_int)"))) el e)

call_digits : (line label a b d : List ℕ) → line ≡ codes "call " ++ a → a ≡ label ++ b → b ≡ codes "(" ++ (d ++ codes "_c_int)") → (n : ℕ) → line ≡ call_line label n → d ≡ decimal n
call_digits line label a b d el ea eb n e =
    start_of (codes "_c_int)") (d ++ codes "_c_int)") d (decimal n) refl
    (rest_of (codes "(") b (d ++ codes "_c_int)") (decimal n ++ codes "_c_int)") eb (call_rest line label a b el ea n e))

pub call_is : (line label a b d : List ℕ) (r : Option ℕ) → line ≡ codes "call " ++ a → a ≡ label ++ b → b ≡ codes "(" ++ (d ++ codes "_c_int)")
    → MatchOption r ((n : ℕ) → IsInt n → d ≢ decimal n) (λ n. IsInt n × (d ≡ decimal n))
    → MatchOption r ((n : ℕ) → IsInt n → line ≢ call_line label n) (λ n. IsInt n × (line ≡ call_line label n))
unfolding call_line
call_is line label a b d None el ea eb none = λ n small e. none n small (call_digits line label a b d el ea eb n e)
call_is line label a b d (Some n) el ea eb (small, e) =
    (small, el ∙ ap (λ (x : List ℕ). codes "call " ++ x) (ea ∙ ap (λ (x : List ℕ). label ++ x) (eb ∙ ap (λ (x : List ℕ). codes "(" ++ (x ++ codes "_c_int)")) e)))

-- a line calls with one number
pub call_line_injective : (label : List ℕ) (m n : ℕ) → IsInt m → IsInt n → call_line label m ≡ call_line label n → m ≡ n
unfolding call_line
call_line_injective label m n hm hn e =
    decimal_injective m n (omega arith) (omega arith)
    (call_digits (call_line label m) label (label ++ (codes "(" ++ (decimal m ++ codes "_c_int)"))) (codes "(" ++ (decimal m ++ codes "_c_int)")) (decimal m) refl refl refl n e)

-- the last line calls nothing
pub end_is_no_call : (label : List ℕ) (n : ℕ) → end_line ≢ call_line label n
unfolding call_line end_line
end_is_no_call label n e = let first : ◌≡◌ {A = ℕ} 101 99 = ap (λ (l : List ℕ). get_or l 0 0) e in omega arith

-- one call in front of lines
pub one_call : (label : List ℕ) (m n : ℕ) (r s : List (List ℕ)) → IsInt m → IsInt n → call_before label m r ≡ call_before label n s → (m ≡ n) × (r ≡ s)
one_call label m n r s hm hn e = (call_line_injective label m n hm hn (head_of refl e), tail_of refl e)

-- no call stands at the end of the program
pub no_call_at_end : (label : List ℕ) (n : ℕ) (rest : List (List ℕ)) → IsInt n → (end_line ∷ []) ≢ call_before label n rest
no_call_at_end label n rest h e = end_is_no_call label n (head_of refl e)

-- the calls that are read are those that the text has
pub calls_are_read : (label : List ℕ) (text : List (List ℕ)) (calls others : List ℕ) (rest : List (List ℕ)) → IsLongestRun (call_before label) IsInt text calls rest → All IsInt others
    → text ≡ map (call_line label) others ++ (end_line ∷ []) → (calls ≡ others) × (rest ≡ end_line ∷ [])
calls_are_read label text calls others rest run small e =
    longest_run (call_before label) IsInt (one_call label) text calls others rest (end_line ∷ []) run small (no_call_at_end label)
    (e ∙ sym (spelled_lines (call_line label) others (end_line ∷ [])))

pub calls_are_there : (label : List ℕ) (text : List (List ℕ)) (calls : List ℕ) (rest : List (List ℕ)) → IsLongestRun (call_before label) IsInt text calls rest → rest ≡ end_line ∷ []
    → text ≡ map (call_line label) calls ++ (end_line ∷ [])
calls_are_there label text calls rest run e = run.spelling ∙ (ap (spelled (call_before label) calls) e ∙ spelled_lines (call_line label) calls (end_line ∷ []))
