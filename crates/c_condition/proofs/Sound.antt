-- What is read is spelled so, fits, and is what the algebra makes of it.
use Rattle.std.proofs.Common.{◌≡◌, ℕ, zero, suc, ◌≤◌, List, [], ◌∷◌, length, Some, None, refl, ap, ◌∙◌, arith}
use Rattle.std.specs.Prelude.{IfSome}
use Rattle.c_token.specs.declared.mark.Mark.{Mark}
use Rattle.c_token.specs.declared.mark.Mark.TheVariants as mark
use Rattle.c_condition.specs.declared.token.Token.{Token}
use Rattle.c_condition.specs.declared.token.Token.TheVariants as token
use Rattle.c_condition.specs.declared.outcome.UnaryOperator.{UnaryOperator}
use Rattle.c_condition.specs.declared.marks.Opening.{Opening}
use Rattle.c_condition.specs.declared.marks.Opening.TheVariants as opening
use Rattle.c_condition.specs.declared.marks.Joint.TheVariants as joint
use Rattle.c_condition.specs.Grammar.{Expr, Constant, Name, Paren, Unary, Binary, Conditional, Comma, spell, binary_mark, unary_mark, binary_height, height, Fits}
use Rattle.c_condition.specs.Reading.{opening_of, infix_at, behind, Algebra, Found, Inner, nested_at, operand_at, links_at, level_at, conditional_at, commas_at, whole_at, inner}
use Rattle.c_condition.proofs.Folding.{fold, Within, then_some, chosen_some, infix_sound, behind_sound, IsOpening, opening_sound}

-- what was read, and what is left
pub record Reads {A : Type 0} (g : Algebra A) (n h : ℕ) (ts : List Token) (x : A × List Token) : Type 0 where
  pub tree : Expr
  pub spelled : ts ≡ spell tree x.1
  pub fits : Fits n tree
  pub low : height tree ≤ h
  pub is : x.0 ≡ fold g tree

-- the same of a nested part
pub record Nests {A : Type 0} (g : Algebra A) (n h : ℕ) (ts : List Token) (x : A × List Token) : Type 0 where
  pub tree : Expr
  pub spelled : ts ≡ spell tree x.1
  pub within : Within n tree
  pub low : height tree ≤ h
  pub is : x.0 ≡ fold g tree

pub record InnerSound {A : Type 0} (g : Algebra A) (n : ℕ) (r : Inner A) : Type 0 where
  pub whole : (ts : List Token) → IfSome (r.whole ts) (Nests g n 12 ts)
  pub operand : (ts : List Token) → IfSome (r.operand ts) (Nests g n 0 ts)

paren_fits : (n : ℕ) (e : Expr) → Within n e → Fits n (Paren e)
paren_fits zero e w = w
paren_fits (suc n) e w = w

unary_fits : (n : ℕ) (o : UnaryOperator) (e : Expr) → Within n e → height e ≤ 0 → Fits n (Unary o e)
unary_fits zero o e w l = w
unary_fits (suc n) o e w l = (w, omega (arith, l))

conditional_fits : (n : ℕ) (c m e : Expr) → Fits n c → Within n m → Fits n e → height c ≤ 10 → height e ≤ 11 → Fits n (Conditional c m e)
conditional_fits zero c m e f w t l h = w
conditional_fits (suc n) c m e f w t l h = (f, w, t, l, h)

nested_sound : {A : Type 0} (g : Algebra A) (n : ℕ) (r : Inner A) → InnerSound g n r → (m : Mark) (o : Opening) → IsOpening m o → (ts : List Token) → IfSome (nested_at g r o ts) (Reads g n 0 (token.Mark m ∷ ts))
unfolding nested_at
nested_sound {A} g n r i m opening.Parenthesis e ts = then_some (r.whole ts) _ (Nests g n 12 ts) (Reads g n 0 (token.Mark m ∷ ts)) (i.whole ts)
    (λ x p. then_some (behind joint.Close x.1) _ (λ rest. x.1 ≡ token.Mark mark.Close ∷ rest) (Reads g n 0 (token.Mark m ∷ ts)) (behind_sound joint.Close x.1)
    (λ rest q. record {
      tree = Paren p.tree;
      spelled = ap (λ k. token.Mark k ∷ ts) e ∙ ap (λ t. token.Mark mark.Open ∷ t) (p.spelled ∙ ap (spell p.tree) q);
      fits = paren_fits n p.tree p.within;
      low = omega arith;
      is = ap g.paren p.is;
    }))
nested_sound {A} g n r i m (opening.Sign o) e ts = then_some (r.operand ts) _ (Nests g n 0 ts) (Reads g n 0 (token.Mark m ∷ ts)) (i.operand ts)
    (λ x p. record {
      tree = Unary o p.tree;
      spelled = ap (λ k. token.Mark k ∷ ts) e ∙ ap (λ t. token.Mark (unary_mark o) ∷ t) p.spelled;
      fits = unary_fits n o p.tree p.within p.low;
      low = omega arith;
      is = ap (g.unary o) p.is;
    })
nested_sound {A} g n r i m opening.Nothing e ts = tt

pub operand_sound : {A : Type 0} (g : Algebra A) (n : ℕ) (r : Inner A) → InnerSound g n r → (ts : List Token) → IfSome (operand_at g r ts) (Reads g n 0 ts)
unfolding operand_at
operand_sound g n r i [] = tt
operand_sound g n r i (token.Number m ∷ ts) = record { tree = Constant m; spelled = refl; fits = tt; low = omega arith; is = refl }
operand_sound g n r i (token.Name ∷ ts) = record { tree = Name; spelled = refl; fits = tt; low = omega arith; is = refl }
operand_sound g n r i (token.Mark m ∷ ts) = nested_sound g n r i m (opening_of m) (opening_sound m) ts
operand_sound g n r i (token.Other ∷ ts) = tt

-- operators of a height behind what was read
links_sound : {A : Type 0} (g : Algebra A) (n h : ℕ) (lower : List Token → Found A) → ((ts : List Token) → IfSome (lower ts) (Reads g n h ts))
    → (k : ℕ) (all : List Token) (left : A) (ts : List Token) → Reads g n (suc h) all (left, ts) → IfSome (links_at g lower (suc h) k left ts) (Reads g n (suc h) all)
unfolding links_at
links_sound {A} g n h lower i zero all left ts p = p
links_sound {A} g n h lower i (suc k) all left ts p = chosen_some (infix_at (suc h) ts) (Some (left, ts)) _ (λ x. (ts ≡ token.Mark (binary_mark x.0) ∷ x.1) × (binary_height x.0 ≡ suc h)) (Reads g n (suc h) all)
    (infix_sound (suc h) ts) p
    (λ o q. then_some (lower o.1) _ (Reads g n h o.1) (Reads g n (suc h) all) (i o.1)
    (λ x s. links_sound g n h lower i k all (g.binary o.0 left x.0) x.1
    (record {
      tree = Binary o.0 p.tree s.tree;
      spelled = p.spelled ∙ ap (spell p.tree) (q.0 ∙ ap (λ t. token.Mark (binary_mark o.0) ∷ t) s.spelled);
      fits = (p.fits, s.fits, (let l = p.low in let b = q.1 in omega arith), (let l = s.low in let b = q.1 in omega arith));
      low = (let b = q.1 in omega arith);
      is = ap (λ l. g.binary o.0 l x.0) p.is ∙ ap (g.binary o.0 (fold g p.tree)) s.is;
    })))

higher : {A : Type 0} (g : Algebra A) (n h k : ℕ) (ts : List Token) (x : A × List Token) → h ≤ k → Reads g n h ts x → Reads g n k ts x
higher g n h k ts x l p = record { tree = p.tree; spelled = p.spelled; fits = p.fits; low = (let m = p.low in omega arith); is = p.is }

pub level_sound : {A : Type 0} (g : Algebra A) (n : ℕ) (r : Inner A) → InnerSound g n r → (h : ℕ) (ts : List Token) → IfSome (level_at g r h ts) (Reads g n h ts)
unfolding level_at
level_sound g n r i zero ts = operand_sound g n r i ts
level_sound g n r i (suc h) ts = then_some (level_at g r h ts) _ (Reads g n h ts) (Reads g n (suc h) ts) (level_sound g n r i h ts)
    (λ x p. links_sound g n h (level_at g r h) (level_sound g n r i h) (length x.1) ts x.0 x.1 (higher g n h (suc h) ts x (omega arith) p))

pub conditional_sound : {A : Type 0} (g : Algebra A) (n : ℕ) (r : Inner A) → InnerSound g n r → (k : ℕ) (ts : List Token) → IfSome (conditional_at g r k ts) (Reads g n 11 ts)
unfolding conditional_at
conditional_sound g n r i zero ts = tt
conditional_sound g n r i (suc k) ts = then_some (level_at g r 10 ts) _ (Reads g n 10 ts) (Reads g n 11 ts) (level_sound g n r i 10 ts)
    (λ x p. chosen_some (behind joint.Question x.1) (Some x) _ (λ rest. x.1 ≡ token.Mark mark.Question ∷ rest) (Reads g n 11 ts) (behind_sound joint.Question x.1) (higher g n 10 11 ts x (omega arith) p)
    (λ middle q. then_some (r.whole middle) _ (Nests g n 12 middle) (Reads g n 11 ts) (i.whole middle)
    (λ y s. then_some (behind joint.Colon y.1) _ (λ rest. y.1 ≡ token.Mark mark.Colon ∷ rest) (Reads g n 11 ts) (behind_sound joint.Colon y.1)
    (λ last c. then_some (conditional_at g r k last) _ (Reads g n 11 last) (Reads g n 11 ts) (conditional_sound g n r i k last)
    (λ z t. record {
      tree = Conditional p.tree s.tree t.tree;
      spelled = p.spelled ∙ ap (spell p.tree) (q ∙ ap (λ v. token.Mark mark.Question ∷ v) (s.spelled ∙ ap (spell s.tree) (c ∙ ap (λ v. token.Mark mark.Colon ∷ v) t.spelled)));
      fits = conditional_fits n p.tree s.tree t.tree p.fits s.within t.fits p.low t.low;
      low = omega arith;
      is = ap (λ f. g.conditional f y.0 z.0) p.is ∙ ap (λ m. g.conditional (fold g p.tree) m z.0) s.is ∙ ap (g.conditional (fold g p.tree) (fold g s.tree)) t.is;
    })))))

commas_sound : {A : Type 0} (g : Algebra A) (n : ℕ) (r : Inner A) → InnerSound g n r → (k : ℕ) (all : List Token) (left : A) (ts : List Token) → Reads g n 12 all (left, ts) → IfSome (commas_at g r k left ts) (Reads g n 12 all)
unfolding commas_at
commas_sound g n r i zero all left ts p = p
commas_sound g n r i (suc k) all left ts p = chosen_some (behind joint.Comma ts) (Some (left, ts)) _ (λ rest. ts ≡ token.Mark mark.Comma ∷ rest) (Reads g n 12 all) (behind_sound joint.Comma ts) p
    (λ next q. then_some (conditional_at g r (length next) next) _ (Reads g n 11 next) (Reads g n 12 all) (conditional_sound g n r i (length next) next)
    (λ x s. commas_sound g n r i k all (g.comma left x.0) x.1
    (record {
      tree = Comma p.tree s.tree;
      spelled = p.spelled ∙ ap (spell p.tree) (q ∙ ap (λ t. token.Mark mark.Comma ∷ t) s.spelled);
      fits = (p.fits, s.fits, s.low);
      low = omega arith;
      is = ap (λ l. g.comma l x.0) p.is ∙ ap (g.comma (fold g p.tree)) s.is;
    })))

pub whole_sound : {A : Type 0} (g : Algebra A) (n : ℕ) (r : Inner A) → InnerSound g n r → (ts : List Token) → IfSome (whole_at g r ts) (Reads g n 12 ts)
unfolding whole_at
whole_sound g n r i ts = then_some (conditional_at g r (length ts) ts) _ (Reads g n 11 ts) (Reads g n 12 ts) (conditional_sound g n r i (length ts) ts)
    (λ x p. commas_sound g n r i (length x.1) ts x.0 x.1 (higher g n 11 12 ts x (omega arith) p))

nesting : {A : Type 0} (g : Algebra A) (n h : ℕ) (ts : List Token) (o : Found A) → IfSome o (Reads g n h ts) → IfSome o (Nests g (suc n) h ts)
nesting g n h ts None i = tt
nesting g n h ts (Some x) p = record { tree = p.tree; spelled = p.spelled; within = p.fits; low = p.low; is = p.is }

pub inner_sound : {A : Type 0} (g : Algebra A) (n : ℕ) → InnerSound g n (inner g n)
unfolding inner
inner_sound g zero = record { whole = λ ts. tt; operand = λ ts. tt }
inner_sound g (suc n) = let i = inner_sound g n in
    record {
      whole = λ ts. nesting g n 12 ts (whole_at g (inner g n) ts) (whole_sound g n (inner g n) i ts);
      operand = λ ts. nesting g n 0 ts (operand_at g (inner g n) ts) (operand_sound g n (inner g n) i ts);
    }
