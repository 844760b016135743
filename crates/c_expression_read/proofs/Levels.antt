-- A chain behind its first operand.
use Rattle.std.proofs.Common.{◌≡◌, ℕ, zero, suc, List, [], ◌∷◌, length, map, Ok, Err, refl, sym, ap, ◌∙◌, cond, Bool, true, false}
use Rattle.c_grammar.specs.declared.token.Token.{Token}
use Rattle.c_grammar.specs.declared.fault.ReadError.{ReadError}
use Rattle.c_grammar.specs.declared.fault.ReadError.TheVariants as errors
use Rattle.c_grammar.specs.Grammar.{Scope, Expr, Chain, Links, no_links, link, Posts, no_posts, post, Postfix, Post, Call, after, after_links, after_posts, after_post}
use Rattle.c_grammar.specs.Reading.{◌>>=◌, Read, Inner, Fails, closed_at, arguments_at, chain, with_posts, level_at, links_at, link_at, posts_at, primary_at, postfix_at}
use Rattle.c_expression_read.specs.Gives.{called}
use Rattle.c_expression_read.proofs.Heights.{link_any}

pub after-chain : (h : ℕ) (first : Expr) (links : Links) (s : Scope) → after (chain h first links) s ≡ after_links links (after first s)
after-chain h first no_links s = refl
after-chain h first (link j e more) s = refl

pub after-posts : (e : Expr) (posts : Posts) (s : Scope) → after (with_posts e posts) s ≡ after_posts posts (after e s)
after-posts e no_posts s = refl
after-posts e (post one more) s = refl

-- the left operand of the first joint is no matter but where something is assigned
pub links_any : (r : Inner) (h k : ℕ) (left other : Expr) (s : Scope) (ts : List Token) → (h ≡ 11 → ⊥) → links_at r (level_at r h) h k left s ts ≡ links_at r (level_at r h) h k other s ts
unfolding links_at
links_any r h zero left other s ts ne = refl
links_any r h (suc k) left other s ts ne = rw (link_any h left other ts ne) refl

pub level_fails_first : (r : Inner) (h : ℕ) (s : Scope) (ts : List Token) (e : ReadError) → Fails e (level_at r h s ts) → Fails e (level_at r (suc h) s ts)
unfolding level_at
level_fails_first r h s ts errors.Memory f = tt
level_fails_first r h s ts (errors.Fault d) f = rw f refl

module _ (r : Inner) (h : ℕ) (s t : Scope) (ts mid : List Token) (first : Expr) (e1 : level_at r h s ts ≡ Ok (first, mid)) (e2 : t ≡ after first s) where
  goes : (links : Links) (rest : List Token) → links_at r (level_at r h) h (length mid) first t mid ≡ Ok (links, rest) → level_at r (suc h) s ts ≡ Ok (chain h first links, rest)
  unfolding level_at
  goes links rest e3 =
      let e3' = ap (λ x. links_at r (level_at r h) h (length mid) first x mid) (sym e2) ∙ e3 in
      rw (e1, e3') refl

  stops : (e : ReadError) → Fails e (links_at r (level_at r h) h (length mid) first t mid) → Fails e (level_at r (suc h) s ts)
  unfolding level_at
  stops errors.Memory f = tt
  stops (errors.Fault d) f =
      let f' = ap (λ x. links_at r (level_at r h) h (length mid) first x mid) (sym e2) ∙ f in
      rw (e1, f') refl

  pub level_goes : (links : Links) (e : Expr) (rest : List Token) → links_at r (level_at r h) h (length mid) first t mid ≡ Ok (links, rest) → e ≡ chain h first links → level_at r (suc h) s ts ≡ Ok (e, rest)
  level_goes links e rest e3 e4 = goes links rest e3 ∙ ap (λ (x : Expr). Ok (x, rest)) (sym e4)

  pub level_fails : (e : ReadError) → Fails e (links_at r (level_at r h) h (length mid) first t mid) → Fails e (level_at r (suc h) s ts)
  level_fails e f = stops e f

  pub level_goes_any : (left : Expr) (links : Links) (e : Expr) (rest : List Token) → (h ≡ 11 → ⊥) → links_at r (level_at r h) h (length mid) left t mid ≡ Ok (links, rest) → e ≡ chain h first links → level_at r (suc h) s ts ≡ Ok (e, rest)
  level_goes_any left links e rest ne e3 e4 = level_goes links e rest (links_any r h (length mid) first left t mid ne ∙ e3) e4

  pub level_fails_any : (left : Expr) (e : ReadError) → (h ≡ 11 → ⊥) → Fails e (links_at r (level_at r h) h (length mid) left t mid) → Fails e (level_at r (suc h) s ts)
  level_fails_any left e ne f = level_fails e (along e (links_any r h (length mid) first left t mid ne) f)
    where
      along : (e : ReadError) → links_at r (level_at r h) h (length mid) first t mid ≡ links_at r (level_at r h) h (length mid) left t mid → Fails e (links_at r (level_at r h) h (length mid) left t mid) → Fails e (links_at r (level_at r h) h (length mid) first t mid)
      along errors.Memory q g = tt
      along (errors.Fault d) q g = q ∙ g

  -- what is declared behind it
  pub level_declares : (links : Links) (e : Expr) (u : Scope) → u ≡ after_links links t → e ≡ chain h first links → u ≡ after e s
  level_declares links e u q e4 = q ∙ ap (after_links links) e2 ∙ sym (after-chain h first links s) ∙ ap (λ (x : Expr). after x s) (sym e4)

-- ---- the arguments of a call

pub called_fails : (m : Read Expr) (e : ReadError) → Fails e m → Fails e (called m)
called_fails m errors.Memory f = tt
called_fails m (errors.Fault d) f = rw f refl

abbrev closed_call : Read Expr → Read Post
closed_call m = m >>= λ x. closed_at x.1 >>= λ rest. Ok (Call x.0, rest)

abbrev closed_post : Read Post → Read Post
closed_post m = m >>= λ p. closed_at p.1 >>= λ rest. Ok (p.0, rest)

called-closed : (m : Read Expr) → closed_call m ≡ closed_post (called m)
called-closed (Ok x) = refl
called-closed (Err e) = refl

pub arguments_fail : (r : Inner) (s : Scope) (ts : List Token) (e : ReadError) → Fails e (called (r.expr 13 s ts)) → Fails e (arguments_at r s ts)
unfolding arguments_at
arguments_fail r s ts errors.Memory f = tt
arguments_fail r s ts (errors.Fault d) f = called-closed (r.expr 13 s ts) ∙ rw f refl

pub arguments_open : (r : Inner) (s : Scope) (ts : List Token) (p : Post) (mid : List Token) (e : ReadError) → called (r.expr 13 s ts) ≡ Ok (p, mid) → Fails e (closed_at mid) → Fails e (arguments_at r s ts)
unfolding arguments_at
arguments_open r s ts p mid errors.Memory e1 f = tt
arguments_open r s ts p mid (errors.Fault d) e1 f = called-closed (r.expr 13 s ts) ∙ rw (e1, f) refl

pub arguments_go : (r : Inner) (s : Scope) (ts : List Token) (p : Post) (mid rest : List Token) → called (r.expr 13 s ts) ≡ Ok (p, mid) → closed_at mid ≡ Ok rest → arguments_at r s ts ≡ Ok (p, rest)
unfolding arguments_at
arguments_go r s ts p mid rest e1 e2 = called-closed (r.expr 13 s ts) ∙ rw (e1, e2) refl
