-- One turn of each loop that reads elements.
use Rattle.std.proofs.Common.{◌≡◌, ℕ, zero, suc, Bool, false, List, Some, None, refl, sym, subst}
use Rattle.f_lex.specs.declared.token.Mark.{Mark}
use Rattle.f_lex.specs.declared.token.Token.{Token}
use Rattle.f_grammar.specs.Grammar.{Expr, no_links, Part, no_parts, part, Arg, no_args, arg, Param, no_more, more}
use Rattle.f_grammar.specs.Reading.{Reader, link_at, links_at, comma_at, percent_at, arg_at, others_at, part_at, parts_at, param_at, mores_at}
use Rattle.f_expr_read.specs.declared.error.ReadError.{ReadError}
use Rattle.f_expr_read.specs.declared.error.ReadError.TheVariants.{Memory, Form}
use Rattle.f_expr_read.specs.Gives.{Fails}
use Rattle.f_expr_read.specs.Views.{linked, item}
use Rattle.f_expr_read.proofs.Loops.{Next}

pub others_next : (inner : Reader) (in_call : Bool) (ts r after : List Token) (x : Arg) → comma_at ts ≡ Some r → arg_at inner in_call r ≡ Some (x, after) → Next arg (others_at inner in_call) ts x after
unfolding others_at
others_next inner in_call ts r after x e1 e2 = λ k. rw (e1, e2) refl

pub others_fails : (inner : Reader) (in_call : Bool) (ts r : List Token) (e : ReadError) → comma_at ts ≡ Some r → Fails e (arg_at inner in_call r) → (k : ℕ) → Fails e (others_at inner in_call (suc k) ts)
unfolding others_at
others_fails inner in_call ts r Memory e1 f = λ k. tt
others_fails inner in_call ts r Form e1 f = λ k. rw (e1, f) refl

pub others_stops : (inner : Reader) (in_call : Bool) (ts : List Token) → comma_at ts ≡ None → (k : ℕ) → others_at inner in_call (suc k) ts ≡ Some (no_args, ts)
unfolding others_at
others_stops inner in_call ts e = λ k. rw e refl

pub others_zero : (inner : Reader) (in_call : Bool) (ts : List Token) → others_at inner in_call zero ts ≡ Some (no_args, ts)
unfolding others_at
others_zero inner in_call ts = refl

pub items_next : (inner : Reader) (ts r after : List Token) (x : Expr) → comma_at ts ≡ Some r → inner r ≡ Some (x, after) → Next item (others_at inner false) ts x after
unfolding others_at arg_at
items_next inner ts r after x e1 e2 = λ k. rw (e1, e2) refl

pub items_fails : (inner : Reader) (ts r : List Token) (e : ReadError) → comma_at ts ≡ Some r → Fails e (inner r) → (k : ℕ) → Fails e (others_at inner false (suc k) ts)
unfolding others_at arg_at
items_fails inner ts r Memory e1 f = λ k. tt
items_fails inner ts r Form e1 f = λ k. rw (e1, f) refl

pub items_stops : (inner : Reader) (ts : List Token) → comma_at ts ≡ None → (k : ℕ) → others_at inner false (suc k) ts ≡ Some (no_args, ts)
unfolding others_at arg_at
items_stops inner ts e = λ k. rw e refl

pub items_zero : (inner : Reader) (ts : List Token) → others_at inner false zero ts ≡ Some (no_args, ts)
unfolding others_at arg_at
items_zero inner ts = refl

pub parts_next : (inner : Reader) (ts r after : List Token) (x : Part) → percent_at ts ≡ Some r → part_at inner r ≡ Some (x, after) → Next part (parts_at inner) ts x after
unfolding parts_at
parts_next inner ts r after x e1 e2 = λ k. rw (e1, e2) refl

pub parts_fails : (inner : Reader) (ts r : List Token) (e : ReadError) → percent_at ts ≡ Some r → Fails e (part_at inner r) → (k : ℕ) → Fails e (parts_at inner (suc k) ts)
unfolding parts_at
parts_fails inner ts r Memory e1 f = λ k. tt
parts_fails inner ts r Form e1 f = λ k. rw (e1, f) refl

pub parts_stops : (inner : Reader) (ts : List Token) → percent_at ts ≡ None → (k : ℕ) → parts_at inner (suc k) ts ≡ Some (no_parts, ts)
unfolding parts_at
parts_stops inner ts e = λ k. rw e refl

pub parts_zero : (inner : Reader) (ts : List Token) → parts_at inner zero ts ≡ Some (no_parts, ts)
unfolding parts_at
parts_zero inner ts = refl

pub mores_next : (inner : Reader) (ts r after : List Token) (x : Param) → comma_at ts ≡ Some r → param_at inner false r ≡ Some (x, after) → Next more (mores_at inner) ts x after
unfolding mores_at
mores_next inner ts r after x e1 e2 = λ k. rw (e1, e2) refl

pub mores_fails : (inner : Reader) (ts r : List Token) (e : ReadError) → comma_at ts ≡ Some r → Fails e (param_at inner false r) → (k : ℕ) → Fails e (mores_at inner (suc k) ts)
unfolding mores_at
mores_fails inner ts r Memory e1 f = λ k. tt
mores_fails inner ts r Form e1 f = λ k. rw (e1, f) refl

pub mores_stops : (inner : Reader) (ts : List Token) → comma_at ts ≡ None → (k : ℕ) → mores_at inner (suc k) ts ≡ Some (no_more, ts)
unfolding mores_at
mores_stops inner ts e = λ k. rw e refl

pub mores_zero : (inner : Reader) (ts : List Token) → mores_at inner zero ts ≡ Some (no_more, ts)
unfolding mores_at
mores_zero inner ts = refl

pub links_next : (lower : Reader) (h : ℕ) (ts r after : List Token) (op : Mark) (e : Expr) (x : Mark × Expr) → x ≡ (op, e) → link_at h ts ≡ Some (op, r) → lower r ≡ Some (e, after) → Next linked (links_at lower h) ts x after
unfolding links_at
links_next lower h ts r after op e x is e1 e2 =
    let next : Next linked (links_at lower h) ts (op, e) after = λ k. rw (e1, e2) refl in
    subst (λ (y : Mark × Expr). Next linked (links_at lower h) ts y after) (sym is) next

pub links_fails : (lower : Reader) (h : ℕ) (ts r : List Token) (op : Mark) (e : ReadError) → link_at h ts ≡ Some (op, r) → Fails e (lower r) → (k : ℕ) → Fails e (links_at lower h (suc k) ts)
unfolding links_at
links_fails lower h ts r op Memory e1 f = λ k. tt
links_fails lower h ts r op Form e1 f = λ k. rw (e1, f) refl

pub links_stops : (lower : Reader) (h : ℕ) (ts : List Token) → link_at h ts ≡ None → (k : ℕ) → links_at lower h (suc k) ts ≡ Some (no_links, ts)
unfolding links_at
links_stops lower h ts e = λ k. rw e refl

pub links_zero : (lower : Reader) (h : ℕ) (ts : List Token) → links_at lower h zero ts ≡ Some (no_links, ts)
unfolding links_at
links_zero lower h ts = refl
