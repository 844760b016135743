-- One turn of each loop that reads references or expressions.
use Rattle.std.proofs.Common.{◌≡◌, ℕ, zero, suc, List, Option, Some, None, refl}
use Rattle.f_lex.specs.declared.token.Token.{Token}
use Rattle.f_grammar.specs.Grammar.{Expr, Refer}
use Rattle.f_grammar.specs.Reading.{◌>>=◌, choose, Read, comma_at, word_at, refer_at, expr_at}
use Rattle.f_grammar.specs.Actions.{Refs, no_refs, ref, no_exprs, expr}
use Rattle.f_grammar.specs.ActionReading.{refs_at, exprs_at}
use Rattle.f_expr_read.specs.declared.error.ReadError.{ReadError}
use Rattle.f_expr_read.specs.declared.error.ReadError.TheVariants.{Memory, Form}
use Rattle.f_expr_read.specs.Gives.{Fails}
use Rattle.f_expr_read.proofs.Loops.{Next}
use Rattle.f_action_read.specs.Actions.{next_at}

-- a turn by what stands behind the comma
abbrev turn : (List Token → Read Refs) → List Token → Option (List Token) → Read Refs
turn more ts o = choose o (Some (no_refs, ts)) more

same_turn : (word : List ℕ) (more : List Token → Read Refs) (ts : List Token) (o : Option (List Token)) → choose o (Some (no_refs, ts)) (λ r. choose (word_at word r) (more r) (λ _. Some (no_refs, ts))) ≡ turn more ts (o >>= λ r. choose (word_at word r) (Some r) (λ _. None))
same_turn word more ts None = refl
same_turn word more ts (Some r) = pick (word_at word r)
  where
    pick : (o : Option (List Token)) → choose o (more r) (λ _. Some (no_refs, ts)) ≡ turn more ts (choose o (Some r) (λ _. None))
    pick None = refl
    pick (Some s) = refl

abbrev one_more : ℕ → List ℕ → ℕ → List Token → Read Refs
one_more n word k r = refer_at (expr_at n) r >>= λ x. refs_at n word k x.1 >>= λ y. Some (ref x.0 y.0, y.1)

refs_turn : (n : ℕ) (word : List ℕ) (k : ℕ) (ts : List Token) → refs_at n word (suc k) ts ≡ turn (one_more n word k) ts (next_at word ts)
unfolding refs_at
refs_turn n word k ts = same_turn word (one_more n word k) ts (comma_at ts)

pub refs_next : (n : ℕ) (word : List ℕ) (ts r after : List Token) (x : Refer) → next_at word ts ≡ Some r → refer_at (expr_at n) r ≡ Some (x, after) → Next ref (refs_at n word) ts x after
refs_next n word ts r after x e1 e2 = λ k. rw (refs_turn n word k ts, e1, e2) refl

pub refs_fails : (n : ℕ) (word : List ℕ) (ts r : List Token) (e : ReadError) → next_at word ts ≡ Some r → Fails e (refer_at (expr_at n) r) → (k : ℕ) → Fails e (refs_at n word (suc k) ts)
refs_fails n word ts r Memory e1 f = λ k. tt
refs_fails n word ts r Form e1 f = λ k. rw (refs_turn n word k ts, e1, f) refl

pub refs_stops : (n : ℕ) (word : List ℕ) (ts : List Token) → next_at word ts ≡ None → (k : ℕ) → refs_at n word (suc k) ts ≡ Some (no_refs, ts)
refs_stops n word ts e = λ k. rw (refs_turn n word k ts, e) refl

pub refs_zero : (n : ℕ) (word : List ℕ) (ts : List Token) → refs_at n word zero ts ≡ Some (no_refs, ts)
unfolding refs_at
refs_zero n word ts = refl

pub exprs_next : (n : ℕ) (ts r after : List Token) (x : Expr) → comma_at ts ≡ Some r → expr_at n r ≡ Some (x, after) → Next expr (exprs_at n) ts x after
unfolding exprs_at
exprs_next n ts r after x e1 e2 = λ k. rw (e1, e2) refl

pub exprs_fails : (n : ℕ) (ts r : List Token) (e : ReadError) → comma_at ts ≡ Some r → Fails e (expr_at n r) → (k : ℕ) → Fails e (exprs_at n (suc k) ts)
unfolding exprs_at
exprs_fails n ts r Memory e1 f = λ k. tt
exprs_fails n ts r Form e1 f = λ k. rw (e1, f) refl

pub exprs_stops : (n : ℕ) (ts : List Token) → comma_at ts ≡ None → (k : ℕ) → exprs_at n (suc k) ts ≡ Some (no_exprs, ts)
unfolding exprs_at
exprs_stops n ts e = λ k. rw e refl

pub exprs_zero : (n : ℕ) (ts : List Token) → exprs_at n zero ts ≡ Some (no_exprs, ts)
unfolding exprs_at
exprs_zero n ts = refl
