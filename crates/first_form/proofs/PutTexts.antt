-- Statements that put.
use Rattle.std.proofs.Common.{◌≡◌, ◌≢◌, ℕ, List, [], ◌∷◌, ◌++◌, map, get_or, refl, sym, ap, subst, ◌∙◌, codes, arith, append_assoc}
use Rattle.std.specs.List.{All, flat_map}
use Rattle.std.specs.Fmt.{decimal}
use Rattle.std.specs.Char.{IsAsciiDigit}
use Rattle.std.proofs.lemmas.List.{append-nil}
use Rattle.std.proofs.lemmas.List.Elements.{All-cons, All-nil, All-head, All-tail, All-weaker}
use Rattle.std.proofs.lemmas.Fmt.{decimal_injective}
use Rattle.first_form.specs.Words.{IsInt}
use Rattle.first_form.specs.Forms.{argument_text, put_text, closing_text, IsArgument}
use Rattle.first_form.specs.Runs.{spelled, put_before, put_line_before, IsLongestRun}
use Rattle.first_form.specs.declared.program.PutcharArgument.{PutcharArgument}
use Rattle.first_form.specs.declared.program.PutcharArgument.TheVariants.{Parameter, Number}
use Rattle.first_form.proofs.Fronts.{rest_of, head_of, tail_of}
use Rattle.first_form.proofs.Numerals.{decimal_plain}
use Rattle.first_form.proofs.LongestRuns.{longest_run, spelled_lines, spelled_text}

-- an element that stands in a list is not missing there
pub is_there : (at : ℕ) (x y : List ℕ) → All (λ b. b ≢ at) (x ++ (at ∷ y)) → ⊥
is_there at [] y missing = All-head (λ b. b ≢ at) at y missing refl
is_there at (c ∷ x) y missing = is_there at x y (All-tail (λ b. b ≢ at) c (x ++ (at ∷ y)) missing)

-- a list is cut in one way at the first place of an element
pub cut_one : (at : ℕ) (x a y b : List ℕ) → All (λ c. c ≢ at) x → All (λ c. c ≢ at) a → x ++ (at ∷ y) ≡ a ++ (at ∷ b) → (x ≡ a) × (y ≡ b)
cut_one at [] [] y b hx ha e = (refl, tail_of refl e)
cut_one at [] (c ∷ a) y b hx ha e = absurd (All-head (λ d. d ≢ at) c a ha (sym (head_of refl e)))
cut_one at (c ∷ x) [] y b hx ha e = absurd (All-head (λ d. d ≢ at) c x hx (head_of refl e))
cut_one at (c ∷ x) (d ∷ a) y b hx ha e =
    let more : (x ≡ a) × (y ≡ b) = cut_one at x a y b (All-tail (λ d. d ≢ at) c x hx) (All-tail (λ c. c ≢ at) d a ha) (tail_of refl e) in
    let same : c ≡ d = head_of refl e in
    (cc (same, more.0), more.1)

-- no parenthesis stands in an argument
pub argument_is_free : (argument : PutcharArgument) → IsArgument argument → All (λ b. b ≢ 41) (argument_text argument)
argument_is_free Parameter h = All-cons (λ b. b ≢ 41) 99 [] (λ e. omega (arith, e)) (All-nil (λ b. b ≢ 41))
argument_is_free (Number n) h = All-weaker IsAsciiDigit (λ b. b ≢ 41) (λ b digit e. omega arith) (decimal n) (decimal_plain n h).digits

pub no_digit : (n : ℕ) → IsInt n → codes "c" ≢ decimal n
no_digit n h e =
    let digits : All IsAsciiDigit (99 ∷ []) = subst (All IsAsciiDigit) (sym e) (decimal_plain n h).digits in
    let digit : IsAsciiDigit 99 = All-head IsAsciiDigit 99 [] digits in
    omega arith

pub argument_text_injective : (a b : PutcharArgument) → IsArgument a → IsArgument b → argument_text a ≡ argument_text b → a ≡ b
argument_text_injective Parameter Parameter ha hb e = refl
argument_text_injective Parameter (Number n) ha hb e = absurd (no_digit n hb e)
argument_text_injective (Number n) Parameter ha hb e = absurd (no_digit n ha (sym e))
argument_text_injective (Number m) (Number n) ha hb e = ap Number (decimal_injective m n (omega arith) (omega arith) e)

pub put_shape : (argument : PutcharArgument) (rest : List ℕ) → put_text argument ++ rest ≡ codes "putchar(" ++ (argument_text argument ++ (41 ∷ 59 ∷ rest))
unfolding put_text
put_shape argument rest = ap (λ (x : List ℕ). codes "putchar(" ++ x) (append_assoc (argument_text argument) (codes ");") rest)

-- what stands before the first parenthesis, and behind it
pub put_parts : (text inner argument behind : List ℕ) → text ≡ codes "putchar(" ++ inner → inner ≡ argument ++ (41 ∷ behind) → All (λ b. b ≢ 41) argument
    → (a : PutcharArgument) (rest : List ℕ) → IsArgument a → text ≡ put_text a ++ rest → (argument ≡ argument_text a) × (behind ≡ 59 ∷ rest)
put_parts text inner argument behind et ei free a rest h e =
    cut_one 41 argument (argument_text a) behind (59 ∷ rest) free (argument_is_free a h)
    (sym ei ∙ rest_of (codes "putchar(") text inner (argument_text a ++ (41 ∷ 59 ∷ rest)) et (e ∙ put_shape a rest))

pub inner_part : (text inner : List ℕ) → text ≡ codes "putchar(" ++ inner → (a : PutcharArgument) (rest : List ℕ) → text ≡ put_text a ++ rest → inner ≡ argument_text a ++ (41 ∷ 59 ∷ rest)
inner_part text inner et a rest e = rest_of (codes "putchar(") text inner (argument_text a ++ (41 ∷ 59 ∷ rest)) et (e ∙ put_shape a rest)

pub no_parenthesis : (text inner : List ℕ) → text ≡ codes "putchar(" ++ inner → All (λ b. b ≢ 41) inner → (a : PutcharArgument) (rest : List ℕ) → IsArgument a → text ≢ put_text a ++ rest
no_parenthesis text inner et free a rest h e =
    is_there 41 (argument_text a) (59 ∷ rest) (subst (All (λ b. b ≢ 41)) (inner_part text inner et a rest e) free)

pub put_is_there : (text inner argument behind rest : List ℕ) → text ≡ codes "putchar(" ++ inner → inner ≡ argument ++ (41 ∷ behind) → behind ≡ 59 ∷ rest
    → (a : PutcharArgument) → argument ≡ argument_text a → text ≡ put_text a ++ rest
put_is_there text inner argument behind rest et ei eb a ea =
    et ∙ (ap (λ (x : List ℕ). codes "putchar(" ++ x) (ei ∙ (ap (λ (x : List ℕ). argument ++ (41 ∷ x)) eb ∙ ap (λ (x : List ℕ). x ++ (41 ∷ 59 ∷ rest)) ea)) ∙ sym (put_shape a rest))

-- one statement in front of a text
pub one_put : (a b : PutcharArgument) (r s : List ℕ) → IsArgument a → IsArgument b → put_before a r ≡ put_before b s → (a ≡ b) × (r ≡ s)
one_put a b r s ha hb e =
    let parts : (argument_text a ≡ argument_text b) × (59 ∷ r ≡ 59 ∷ s)
    = put_parts (put_text a ++ r) (argument_text a ++ (41 ∷ 59 ∷ r)) (argument_text a) (59 ∷ r) (put_shape a r) refl (argument_is_free a ha) b s hb e in
    (argument_text_injective a b ha hb parts.0, tail_of refl parts.1)

-- the same of a whole line
pub whole_put : (line : List ℕ) (a b : PutcharArgument) (rest : List ℕ) → IsArgument a → IsArgument b → line ≡ put_text a ++ rest → line ≡ put_text b → (a ≡ b) × (rest ≡ [])
whole_put line a b rest ha hb e h = one_put a b rest [] ha hb (sym e ∙ (h ∙ sym (append-nil (put_text b))))

pub one_put_line : (a b : PutcharArgument) (r s : List (List ℕ)) → IsArgument a → IsArgument b → put_line_before a r ≡ put_line_before b s → (a ≡ b) × (r ≡ s)
one_put_line a b r s ha hb e = ((whole_put (put_text a) a b [] ha hb (sym (append-nil (put_text a))) (head_of refl e)).0, tail_of refl e)

-- the brace that closes the function is no statement
pub no_put_at_end : (a : PutcharArgument) (rest : List ℕ) → IsArgument a → closing_text ≢ put_before a rest
unfolding closing_text put_text
no_put_at_end a rest h e = let first : ◌≡◌ {A = ℕ} 125 112 = ap (λ (l : List ℕ). get_or l 0 0) e in omega arith

pub no_put_line_at_end : (a : PutcharArgument) (rest : List (List ℕ)) → IsArgument a → (closing_text ∷ []) ≢ put_line_before a rest
no_put_line_at_end a rest h e = no_put_at_end a [] h (head_of refl e ∙ sym (append-nil (put_text a)))

-- the statements that are read are those that the text has
pub puts_are_read : (text : List ℕ) (puts others : List PutcharArgument) (rest : List ℕ) → IsLongestRun put_before IsArgument text puts rest → All IsArgument others
    → text ≡ flat_map put_text others ++ closing_text → (puts ≡ others) × (rest ≡ closing_text)
puts_are_read text puts others rest run are e =
    longest_run put_before IsArgument one_put text puts others rest closing_text run are no_put_at_end (e ∙ sym (spelled_text put_text others closing_text))

pub puts_are_there : (text : List ℕ) (puts : List PutcharArgument) (rest : List ℕ) → IsLongestRun put_before IsArgument text puts rest → rest ≡ closing_text → text ≡ flat_map put_text puts ++ closing_text
puts_are_there text puts rest run e = run.spelling ∙ (ap (spelled put_before puts) e ∙ spelled_text put_text puts closing_text)

pub put_lines_are_read : (text : List (List ℕ)) (puts others : List PutcharArgument) (rest : List (List ℕ)) → IsLongestRun put_line_before IsArgument text puts rest → All IsArgument others
    → text ≡ map put_text others ++ (closing_text ∷ []) → (puts ≡ others) × (rest ≡ closing_text ∷ [])
put_lines_are_read text puts others rest run are e =
    longest_run put_line_before IsArgument one_put_line text puts others rest (closing_text ∷ []) run are no_put_line_at_end (e ∙ sym (spelled_lines put_text others (closing_text ∷ [])))

pub put_lines_are_there : (text : List (List ℕ)) (puts : List PutcharArgument) (rest : List (List ℕ)) → IsLongestRun put_line_before IsArgument text puts rest → rest ≡ closing_text ∷ []
    → text ≡ map put_text puts ++ (closing_text ∷ [])
put_lines_are_there text puts rest run e = run.spelling ∙ (ap (spelled put_line_before puts) e ∙ spelled_lines put_text puts (closing_text ∷ []))
