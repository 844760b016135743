-- One turn of the loop that reads what stands in a block.
use Rattle.std.proofs.Common.{◌≡◌, ℕ, zero, suc, Bool, List, true, false, Result, Ok, Err, refl, subst, if◌then◌else◌}
use Rattle.c_grammar.specs.declared.token.Token.{Token}
use Rattle.c_grammar.specs.declared.fault.Fault.{Fault}
use Rattle.c_grammar.specs.declared.fault.ReadError.{ReadError}
use Rattle.c_grammar.specs.declared.fault.ReadError.TheVariants as errors
use Rattle.c_grammar.specs.Grammar.{Scope, starts_type}
use Rattle.c_grammar.specs.Reading.{◌>>=◌, Read, Reader, Fails, ends_braces}
use Rattle.c_unit_grammar.specs.Statements.{Declaration, Stmt, Items, nothing, declares, does, after_declaration, after_stmt, after_items}
use Rattle.c_unit_grammar.specs.Reading.{declaration_at, items_at}
use Rattle.c_expression_read.proofs.Loops.{Next}
use Rattle.c_statement_read.specs.Views.{Item, Declared, Done, in_front, after_item, item_at}

-- an item, where it is known which of the two it is
abbrev one : Bool → Read Declaration → Read Stmt → Read Item
one b d x = if b then (d >>= λ y. Ok (Declared y.0, y.1)) else (x >>= λ y. Ok (Done y.0, y.1))

-- and what is read behind it
abbrev all : ℕ → Reader Stmt → ℕ → Scope → Bool → Read Declaration → Read Stmt → Read Items
all n sub k s b d x = if b
    then (d >>= λ y. items_at n sub k (after_declaration y.0 s) y.1 >>= λ z. Ok (declares y.0 z.0, z.1))
    else (x >>= λ y. items_at n sub k (after_stmt y.0 s) y.1 >>= λ z. Ok (does y.0 z.0, z.1))

module _ (n : ℕ) (sub : Reader Stmt) (k : ℕ) (s : Scope) where
  abbrev behind : Item × List Token → Read Items
  behind p = items_at n sub k (after_item p.0 s) p.1 >>= λ z. Ok (in_front p.0 z.0, z.1)

  goes : (p : Item × List Token) (b : Bool) (d : Read Declaration) (x : Read Stmt) → one b d x ≡ Ok p → all n sub k s b d x ≡ behind p
  goes p true (Ok y) x e =
      let same : (Declared y.0, y.1) ≡ p = cc in
      subst (λ (q : Item × List Token). all n sub k s true (Ok y) x ≡ behind q) same refl
  goes p true (Err f) x e = absurd cc
  goes p false d (Ok y) e =
      let same : (Done y.0, y.1) ≡ p = cc in
      subst (λ (q : Item × List Token). all n sub k s false d (Ok y) ≡ behind q) same refl
  goes p false d (Err f) e = absurd cc

  stops : (f : Fault) (b : Bool) (d : Read Declaration) (x : Read Stmt) → one b d x ≡ Err f → all n sub k s b d x ≡ Err f
  stops f true (Ok y) x e = absurd cc
  stops f true (Err g) x e = cc
  stops f false d (Ok y) e = absurd cc
  stops f false d (Err g) e = cc

pub items_next : (n : ℕ) (sub : Reader Stmt) (s t : Scope) (ts rest : List Token) (x : Item) → ends_braces ts ≡ false → item_at n sub s ts ≡ Ok (x, rest) → t ≡ after_item x s → Next in_front (items_at n sub) s ts x t rest
unfolding items_at
items_next n sub s t ts rest x e1 e2 e3 = λ k. rw (e1, e3) (goes n sub k s (x, rest) (starts_type s ts) (declaration_at n s ts) (sub s ts) e2)

pub items_fails : (n : ℕ) (sub : Reader Stmt) (s : Scope) (ts : List Token) (e : ReadError) → ends_braces ts ≡ false → Fails e (item_at n sub s ts) → (k : ℕ) → Fails e (items_at n sub (suc k) s ts)
unfolding items_at
items_fails n sub s ts errors.Memory e1 f = λ k. tt
items_fails n sub s ts (errors.Fault d) e1 f = λ k. rw e1 (stops n sub k s d (starts_type s ts) (declaration_at n s ts) (sub s ts) f)

pub items_stops : (n : ℕ) (sub : Reader Stmt) (s : Scope) (ts : List Token) → ends_braces ts ≡ true → (k : ℕ) → items_at n sub (suc k) s ts ≡ Ok (nothing, ts)
unfolding items_at
items_stops n sub s ts e = λ k. rw e refl

pub items_zero : (n : ℕ) (sub : Reader Stmt) (s : Scope) (ts : List Token) → items_at n sub zero s ts ≡ Ok (nothing, ts)
unfolding items_at
items_zero n sub s ts = refl

pub after_front : (e : Item) (l : Items) (s : Scope) → after_items (in_front e l) s ≡ after_items l (after_item e s)
after_front (Declared d) l s = refl
after_front (Done x) l s = refl
