-- One turn of each loop that reads elements.
use Rattle.std.proofs.Common.{◌≡◌, ℕ, zero, suc, Bool, List, [], ◌∷◌, Ok, Some, None, refl, ap}
use Rattle.c_grammar.specs.declared.token.Token.{Token}
use Rattle.c_grammar.specs.declared.fault.ReadError.{ReadError}
use Rattle.c_grammar.specs.declared.fault.ReadError.TheVariants as errors
use Rattle.c_grammar.specs.Grammar.{Scope}
use Rattle.c_grammar.specs.Reading.{Reader, Fails, comma_at}
use Rattle.c_unit_grammar.specs.Statements.{Initial, no_initials, initial, Init, after_initial, after_init}
use Rattle.c_unit_grammar.specs.Reading.{next_initial, initials_at, init_at, inits_at}
use Rattle.c_expression_read.specs.Gives.{onto}
use Rattle.c_expression_read.proofs.Loops.{Next}

-- ---- initial values in braces

pub initials_next : (sub : Reader Initial) (s t : Scope) (ts behind rest : List Token) (i : Initial) → next_initial ts ≡ Some behind → sub s behind ≡ Ok (i, rest) → t ≡ after_initial i s → Next initial (initials_at sub) s ts i t rest
unfolding initials_at
initials_next sub s t ts behind rest i e1 e2 e3 = λ k. rw (e1, e2, e3) refl

pub initials_fails : (sub : Reader Initial) (s : Scope) (ts behind : List Token) (e : ReadError) → next_initial ts ≡ Some behind → Fails e (sub s behind) → (k : ℕ) → Fails e (initials_at sub (suc k) s ts)
unfolding initials_at
initials_fails sub s ts behind errors.Memory e1 f = λ k. tt
initials_fails sub s ts behind (errors.Fault d) e1 f = λ k. rw (e1, f) refl

pub initials_stops : (sub : Reader Initial) (s : Scope) (ts : List Token) → next_initial ts ≡ None → (k : ℕ) → initials_at sub (suc k) s ts ≡ Ok (no_initials, ts)
unfolding initials_at
initials_stops sub s ts e = λ k. rw e refl

pub initials_zero : (sub : Reader Initial) (s : Scope) (ts : List Token) → initials_at sub zero s ts ≡ Ok (no_initials, ts)
unfolding initials_at
initials_zero sub s ts = refl

-- ---- declarators

abbrev pub one_more : Init → List Init → List Init
one_more i is = i ∷ is

pub all_of : (is : List Init) → onto one_more is [] ≡ is
all_of [] = refl
all_of (i ∷ is) = ap (one_more i) (all_of is)

pub inits_next : (n : ℕ) (td : Bool) (s t : Scope) (ts behind rest : List Token) (i : Init) → comma_at ts ≡ Some behind → init_at n td s behind ≡ Ok (i, rest) → t ≡ after_init td i s → Next one_more (inits_at n td) s ts i t rest
unfolding inits_at
inits_next n td s t ts behind rest i e1 e2 e3 = λ k. rw (e1, e2, e3) refl

pub inits_fails : (n : ℕ) (td : Bool) (s : Scope) (ts behind : List Token) (e : ReadError) → comma_at ts ≡ Some behind → Fails e (init_at n td s behind) → (k : ℕ) → Fails e (inits_at n td (suc k) s ts)
unfolding inits_at
inits_fails n td s ts behind errors.Memory e1 f = λ k. tt
inits_fails n td s ts behind (errors.Fault d) e1 f = λ k. rw (e1, f) refl

pub inits_stops : (n : ℕ) (td : Bool) (s : Scope) (ts : List Token) → comma_at ts ≡ None → (k : ℕ) → inits_at n td (suc k) s ts ≡ Ok ([], ts)
unfolding inits_at
inits_stops n td s ts e = λ k. rw e refl

pub inits_zero : (n : ℕ) (td : Bool) (s : Scope) (ts : List Token) → inits_at n td zero s ts ≡ Ok ([], ts)
unfolding inits_at
inits_zero n td s ts = refl
