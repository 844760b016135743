-- One step of each loop.
use Rattle.std.proofs.Common.{◌≡◌, ℕ, zero, suc, ◌-◌, ◌<◌, ◌≤◌, List, ◌∷◌, length, Option, Some, None, refl, sym, ap, subst, ◌∙◌, arith}
use Rattle.std.specs.Prelude.{IfSome}
use Rattle.c_tree.specs.declared.operator.BinaryOperator.{BinaryOperator}
use Rattle.c_condition.specs.declared.token.Token.{Token}
use Rattle.c_condition.specs.declared.token.Token.TheVariants as token
use Rattle.c_condition.specs.declared.outcome.Outcome.{Outcome}
use Rattle.c_condition.specs.declared.choice.Choice.{Choice}
use Rattle.c_condition.specs.declared.marks.Joint.{Joint}
use Rattle.c_condition.specs.declared.marks.Joint.TheVariants as joint
use Rattle.c_condition.specs.Values.{conditional}
use Rattle.c_condition.specs.Choices.{no_choice, choice_after, settled}
use Rattle.c_condition.specs.Reading.{choose, and_then, infix_at, behind, Algebra, Found, Inner, operand_at, links_at, level_at, conditional_at, commas_at, whole_at, inner}
use Rattle.c_condition.proofs.Choosing.{settled_after, settled_first}
use Rattle.c_condition.proofs.Folding.{mark_of, behind_sound}
use Rattle.c_condition.proofs.Lengths.{longer}
use Rattle.c_condition.proofs.Sound.{Reads, Nests, level_sound, conditional_sound, inner_sound}
use Rattle.c_condition.proofs.Complete.{infix_shorter}

-- ---- heights and nestings

pub level_above : {A : Type 0} (g : Algebra A) (r : Inner A) (h : ℕ) (ts : List Token) → 1 ≤ h → level_at g r h ts ≡ and_then (level_at g r (h - 1) ts) (λ x. links_at g (level_at g r (h - 1)) h (length x.1) x.0 x.1)
unfolding level_at
level_above g r h ts l = let e : suc (h - 1) ≡ h = omega arith in
    let P : ℕ → Type 0 = λ k. level_at g r k ts ≡ and_then (level_at g r (h - 1) ts) (λ x. links_at g (level_at g r (h - 1)) k (length x.1) x.0 x.1) in subst P e refl

pub level_zero : {A : Type 0} (g : Algebra A) (r : Inner A) (h : ℕ) (ts : List Token) → h ≡ 0 → operand_at g r ts ≡ level_at g r h ts
unfolding level_at
level_zero g r h ts e = let P : ℕ → Type 0 = λ k. operand_at g r ts ≡ level_at g r k ts in subst P (sym e) refl

pub whole_above : {A : Type 0} (g : Algebra A) (n : ℕ) (ts : List Token) → 1 ≤ n → whole_at g (inner g (n - 1)) ts ≡ (inner g n).whole ts
unfolding inner
whole_above g n ts l = let e : suc (n - 1) ≡ n = omega arith in
    let P : ℕ → Type 0 = λ k. whole_at g (inner g (n - 1)) ts ≡ (inner g k).whole ts in subst P e refl

pub operand_above : {A : Type 0} (g : Algebra A) (n : ℕ) (ts : List Token) → 1 ≤ n → operand_at g (inner g (n - 1)) ts ≡ (inner g n).operand ts
unfolding inner
operand_above g n ts l = let e : suc (n - 1) ≡ n = omega arith in
    let P : ℕ → Type 0 = λ k. operand_at g (inner g (n - 1)) ts ≡ (inner g k).operand ts in subst P e refl

pub whole_zero : {A : Type 0} (g : Algebra A) (n : ℕ) (ts : List Token) → n ≡ 0 → (let o : Found A = None in o ≡ (inner g n).whole ts)
unfolding inner
whole_zero {A} g n ts e = let P : ℕ → Type 0 = λ k. let o : Found A = None in o ≡ (inner g k).whole ts in subst P (sym e) refl

pub operand_zero : {A : Type 0} (g : Algebra A) (n : ℕ) (ts : List Token) → n ≡ 0 → (let o : Found A = None in o ≡ (inner g n).operand ts)
unfolding inner
operand_zero {A} g n ts e = let P : ℕ → Type 0 = λ k. let o : Found A = None in o ≡ (inner g k).operand ts in subst P (sym e) refl

-- ---- what is read is shorter

pub level_shorter : {A : Type 0} (g : Algebra A) (n h : ℕ) (ts : List Token) (x : A × List Token) → level_at g (inner g n) h ts ≡ Some x → length x.1 < length ts
level_shorter {A} g n h ts x e = let P : Found A → Type 0 = λ o. IfSome o (Reads g n h ts) in
    let p : Reads g n h ts x = subst P e (level_sound g n (inner g n) (inner_sound g n) h ts) in
    let Q : List Token → Type 0 = λ t. length x.1 < length t in subst Q (sym p.spelled) (longer p.tree x.1)

pub conditional_shorter : {A : Type 0} (g : Algebra A) (n k : ℕ) (ts : List Token) (x : A × List Token) → conditional_at g (inner g n) k ts ≡ Some x → length x.1 < length ts
conditional_shorter {A} g n k ts x e = let P : Found A → Type 0 = λ o. IfSome o (Reads g n 11 ts) in
    let p : Reads g n 11 ts x = subst P e (conditional_sound g n (inner g n) (inner_sound g n) k ts) in
    let Q : List Token → Type 0 = λ t. length x.1 < length t in subst Q (sym p.spelled) (longer p.tree x.1)

pub nested_shorter : {A : Type 0} (g : Algebra A) (n : ℕ) (ts : List Token) (x : A × List Token) → (inner g n).whole ts ≡ Some x → length x.1 < length ts
nested_shorter {A} g n ts x e = let P : Found A → Type 0 = λ o. IfSome o (Nests g n 12 ts) in
    let p : Nests g n 12 ts x = subst P e ((inner_sound g n).whole ts) in
    let Q : List Token → Type 0 = λ t. length x.1 < length t in subst Q (sym p.spelled) (longer p.tree x.1)

pub behind_shorter : (w : Joint) (ts rest : List Token) → behind w ts ≡ Some rest → length rest < length ts
behind_shorter w ts rest e = let P : Option (List Token) → Type 0 = λ o. IfSome o (λ t. ts ≡ token.Mark (mark_of w) ∷ t) in
    let p : ts ≡ token.Mark (mark_of w) ∷ rest = subst P e (behind_sound w ts) in
    let s : length ts ≡ length (token.Mark (mark_of w) ∷ rest) = ap length p in omega arith

-- ---- operators of a height

pub links_end : {A : Type 0} (g : Algebra A) (lower : List Token → Found A) (h k : ℕ) (left : A) (ts : List Token) → infix_at h ts ≡ None → links_at g lower h k left ts ≡ Some (left, ts)
unfolding links_at
links_end g lower h zero left ts e = refl
links_end g lower h (suc k) left ts e = ap (λ o. choose o (Some (left, ts)) (λ o. and_then (lower o.1) (λ x. links_at g lower h k (g.binary o.0 left x.0) x.1))) e

pub links_stuck : {A : Type 0} (g : Algebra A) (lower : List Token → Found A) (h k : ℕ) (left : A) (ts : List Token) (o : BinaryOperator × List Token) → length ts ≤ k → infix_at h ts ≡ Some o → lower o.1 ≡ None → links_at g lower h k left ts ≡ None
unfolding links_at
links_stuck g lower h zero left ts o l e f = absurd (let s : length o.1 < length ts = infix_shorter h ts o e in omega arith)
links_stuck g lower h (suc k) left ts o l e f = ap (λ p. choose p (Some (left, ts)) (λ o. and_then (lower o.1) (λ x. links_at g lower h k (g.binary o.0 left x.0) x.1))) e
    ∙ ap (λ p. and_then p (λ x. links_at g lower h k (g.binary o.0 left x.0) x.1)) f

pub links_more : {A : Type 0} (g : Algebra A) (lower : List Token → Found A) (h k : ℕ) (left : A) (ts : List Token) (o : BinaryOperator × List Token) (x : A × List Token) → length ts ≤ k → infix_at h ts ≡ Some o → lower o.1 ≡ Some x → length x.1 < length o.1
    → (j : ℕ) × (length x.1 ≤ j) × (links_at g lower h k left ts ≡ links_at g lower h j (g.binary o.0 left x.0) x.1)
unfolding links_at
links_more g lower h zero left ts o x l e f m = absurd (let s : length o.1 < length ts = infix_shorter h ts o e in omega arith)
links_more g lower h (suc k) left ts o x l e f m = (
  k,
  (let s : length o.1 < length ts = infix_shorter h ts o e in omega arith),
  ap (λ p. choose p (Some (left, ts)) (λ o. and_then (lower o.1) (λ x. links_at g lower h k (g.binary o.0 left x.0) x.1))) e
      ∙ ap (λ p. and_then p (λ x. links_at g lower h k (g.binary o.0 left x.0) x.1)) f,
)

-- ---- conditional expressions

abbrev pub settled_found : Choice → Found Outcome → Found Outcome
settled_found c None = None
settled_found c (Some x) = Some (settled c x.0, x.1)

pub settled_none : (x : Found Outcome) → settled_found no_choice x ≡ x
settled_none None = refl
settled_none (Some x) = ap (λ y. Some (y, x.1)) (settled_first x.0)

-- what is behind a condition is settled with it
pub settled_next : (c : Choice) (first second : Outcome) (o : Found Outcome) → settled_found (choice_after c first second) o ≡ settled_found c (and_then o (λ z. Some (conditional first second z.0, z.1)))
settled_next c first second None = refl
settled_next c first second (Some z) = ap (λ y. Some (y, z.1)) (settled_after c first second z.0)

pub conditional_stuck : {A : Type 0} (g : Algebra A) (r : Inner A) (k : ℕ) (ts : List Token) → level_at g r 10 ts ≡ None → conditional_at g r k ts ≡ None
unfolding conditional_at
conditional_stuck g r zero ts e = refl
conditional_stuck g r (suc k) ts e = ap (λ o. and_then o (λ x. choose (behind joint.Question x.1) (Some x)
    (λ middle. and_then (r.whole middle) (λ y. and_then (behind joint.Colon y.1) (λ last. and_then (conditional_at g r k last) (λ z. Some (g.conditional x.0 y.0 z.0, z.1))))))) e

-- a first operand and what follows
first_read : {A : Type 0} (g : Algebra A) (r : Inner A) (k : ℕ) (ts : List Token) (x : A × List Token) → level_at g r 10 ts ≡ Some x
    → conditional_at g r (suc k) ts ≡ choose (behind joint.Question x.1) (Some x) (λ middle. and_then (r.whole middle) (λ y. and_then (behind joint.Colon y.1) (λ last. and_then (conditional_at g r k last) (λ z. Some (g.conditional x.0 y.0 z.0, z.1)))))
unfolding conditional_at
first_read g r k ts x e = ap (λ o. and_then o (λ x. choose (behind joint.Question x.1) (Some x)
    (λ middle. and_then (r.whole middle) (λ y. and_then (behind joint.Colon y.1) (λ last. and_then (conditional_at g r k last) (λ z. Some (g.conditional x.0 y.0 z.0, z.1))))))) e

pub conditional_end : {A : Type 0} (g : Algebra A) (n k : ℕ) (ts : List Token) (x : A × List Token) → length ts ≤ k → level_at g (inner g n) 10 ts ≡ Some x → behind joint.Question x.1 ≡ None → conditional_at g (inner g n) k ts ≡ Some x
conditional_end g n zero ts x l e f = absurd (let s : length x.1 < length ts = level_shorter g n 10 ts x e in omega arith)
conditional_end g n (suc k) ts x l e f = first_read g (inner g n) k ts x e
    ∙ ap (λ o. choose o (Some x) (λ middle. and_then ((inner g n).whole middle) (λ y. and_then (behind joint.Colon y.1) (λ last. and_then (conditional_at g (inner g n) k last) (λ z. Some (g.conditional x.0 y.0 z.0, z.1)))))) f

none_at_zero : {A : Type 0} (g : Algebra A) (r : Inner A) (ts : List Token) → conditional_at g r zero ts ≡ None
unfolding conditional_at
none_at_zero g r ts = refl

pub middle_stuck : {A : Type 0} (g : Algebra A) (n k : ℕ) (ts : List Token) (x : A × List Token) (middle : List Token) → level_at g (inner g n) 10 ts ≡ Some x → behind joint.Question x.1 ≡ Some middle → (inner g n).whole middle ≡ None
    → conditional_at g (inner g n) k ts ≡ None
middle_stuck g n zero ts x middle e f w = none_at_zero g (inner g n) ts
middle_stuck g n (suc k) ts x middle e f w = first_read g (inner g n) k ts x e
    ∙ ap (λ o. choose o (Some x) (λ middle. and_then ((inner g n).whole middle) (λ y. and_then (behind joint.Colon y.1) (λ last. and_then (conditional_at g (inner g n) k last) (λ z. Some (g.conditional x.0 y.0 z.0, z.1)))))) f
    ∙ ap (λ o. and_then o (λ y. and_then (behind joint.Colon y.1) (λ last. and_then (conditional_at g (inner g n) k last) (λ z. Some (g.conditional x.0 y.0 z.0, z.1))))) w

pub colon_stuck : {A : Type 0} (g : Algebra A) (n k : ℕ) (ts : List Token) (x : A × List Token) (middle : List Token) (y : A × List Token) → level_at g (inner g n) 10 ts ≡ Some x → behind joint.Question x.1 ≡ Some middle → (inner g n).whole middle ≡ Some y
    → behind joint.Colon y.1 ≡ None → conditional_at g (inner g n) k ts ≡ None
colon_stuck g n zero ts x middle y e f w c = none_at_zero g (inner g n) ts
colon_stuck g n (suc k) ts x middle y e f w c = first_read g (inner g n) k ts x e
    ∙ ap (λ o. choose o (Some x) (λ middle. and_then ((inner g n).whole middle) (λ y. and_then (behind joint.Colon y.1) (λ last. and_then (conditional_at g (inner g n) k last) (λ z. Some (g.conditional x.0 y.0 z.0, z.1)))))) f
    ∙ ap (λ o. and_then o (λ y. and_then (behind joint.Colon y.1) (λ last. and_then (conditional_at g (inner g n) k last) (λ z. Some (g.conditional x.0 y.0 z.0, z.1))))) w
    ∙ ap (λ o. and_then o (λ last. and_then (conditional_at g (inner g n) k last) (λ z. Some (g.conditional x.0 y.0 z.0, z.1)))) c

-- what follows the colon is shorter
pub last_shorter : {A : Type 0} (g : Algebra A) (n : ℕ) (ts : List Token) (x : A × List Token) (middle : List Token) (y : A × List Token) (last : List Token) → level_at g (inner g n) 10 ts ≡ Some x → behind joint.Question x.1 ≡ Some middle → (inner g n).whole middle ≡ Some y
    → behind joint.Colon y.1 ≡ Some last → length last < length ts
last_shorter g n ts x middle y last e f w c = let p : length x.1 < length ts = level_shorter g n 10 ts x e in let q : length middle < length x.1 = behind_shorter joint.Question x.1 middle f in
    let s : length y.1 < length middle = nested_shorter g n middle y w in let t : length last < length y.1 = behind_shorter joint.Colon y.1 last c in omega arith

pub conditional_more : {A : Type 0} (g : Algebra A) (n k : ℕ) (ts : List Token) (x : A × List Token) (middle : List Token) (y : A × List Token) (last : List Token) → length ts ≤ k → level_at g (inner g n) 10 ts ≡ Some x → behind joint.Question x.1 ≡ Some middle → (inner g n).whole middle ≡ Some y
    → behind joint.Colon y.1 ≡ Some last → (j : ℕ) × (length last ≤ j) × (conditional_at g (inner g n) k ts ≡ and_then (conditional_at g (inner g n) j last) (λ z. Some (g.conditional x.0 y.0 z.0, z.1)))
conditional_more g n zero ts x middle y last l e f w c = absurd (let s : length x.1 < length ts = level_shorter g n 10 ts x e in omega arith)
conditional_more g n (suc k) ts x middle y last l e f w c = (
  k,
  (let s : length last < length ts = last_shorter g n ts x middle y last e f w c in omega arith),
  first_read g (inner g n) k ts x e
      ∙ ap (λ o. choose o (Some x) (λ middle. and_then ((inner g n).whole middle) (λ y. and_then (behind joint.Colon y.1) (λ last. and_then (conditional_at g (inner g n) k last) (λ z. Some (g.conditional x.0 y.0 z.0, z.1)))))) f
      ∙ ap (λ o. and_then o (λ y. and_then (behind joint.Colon y.1) (λ last. and_then (conditional_at g (inner g n) k last) (λ z. Some (g.conditional x.0 y.0 z.0, z.1))))) w
      ∙ ap (λ o. and_then o (λ last. and_then (conditional_at g (inner g n) k last) (λ z. Some (g.conditional x.0 y.0 z.0, z.1)))) c,
)

-- ---- commas

pub commas_end : {A : Type 0} (g : Algebra A) (r : Inner A) (k : ℕ) (left : A) (ts : List Token) → behind joint.Comma ts ≡ None → commas_at g r k left ts ≡ Some (left, ts)
unfolding commas_at
commas_end g r zero left ts e = refl
commas_end g r (suc k) left ts e = ap (λ o. choose o (Some (left, ts)) (λ next. and_then (conditional_at g r (length next) next) (λ x. commas_at g r k (g.comma left x.0) x.1))) e

pub commas_stuck : {A : Type 0} (g : Algebra A) (r : Inner A) (k : ℕ) (left : A) (ts next : List Token) → length ts ≤ k → behind joint.Comma ts ≡ Some next → conditional_at g r (length next) next ≡ None → commas_at g r k left ts ≡ None
unfolding commas_at
commas_stuck g r zero left ts next l e f = absurd (let s : length next < length ts = behind_shorter joint.Comma ts next e in omega arith)
commas_stuck g r (suc k) left ts next l e f = ap (λ o. choose o (Some (left, ts)) (λ next. and_then (conditional_at g r (length next) next) (λ x. commas_at g r k (g.comma left x.0) x.1))) e
    ∙ ap (λ o. and_then o (λ x. commas_at g r k (g.comma left x.0) x.1)) f

pub commas_more : {A : Type 0} (g : Algebra A) (n k : ℕ) (left : A) (ts next : List Token) (x : A × List Token) → length ts ≤ k → behind joint.Comma ts ≡ Some next → conditional_at g (inner g n) (length next) next ≡ Some x
    → (j : ℕ) × (length x.1 ≤ j) × (commas_at g (inner g n) k left ts ≡ commas_at g (inner g n) j (g.comma left x.0) x.1)
unfolding commas_at
commas_more g n zero left ts next x l e f = absurd (let s : length next < length ts = behind_shorter joint.Comma ts next e in omega arith)
commas_more g n (suc k) left ts next x l e f = (
  k,
  (let s : length next < length ts = behind_shorter joint.Comma ts next e in let t : length x.1 < length next = conditional_shorter g n (length next) next x f in omega arith),
  ap (λ o. choose o (Some (left, ts)) (λ next. and_then (conditional_at g (inner g n) (length next) next) (λ x. commas_at g (inner g n) k (g.comma left x.0) x.1))) e
      ∙ ap (λ o. and_then o (λ x. commas_at g (inner g n) k (g.comma left x.0) x.1)) f,
)

pub whole_read : {A : Type 0} (g : Algebra A) (r : Inner A) (ts : List Token) (x : A × List Token) → conditional_at g r (length ts) ts ≡ Some x → commas_at g r (length x.1) x.0 x.1 ≡ whole_at g r ts
unfolding whole_at
whole_read g r ts x e = sym (ap (λ o. and_then o (λ x. commas_at g r (length x.1) x.0 x.1)) e)

pub whole_stuck : {A : Type 0} (g : Algebra A) (r : Inner A) (ts : List Token) → conditional_at g r (length ts) ts ≡ None → whole_at g r ts ≡ None
unfolding whole_at
whole_stuck g r ts e = ap (λ o. and_then o (λ x. commas_at g r (length x.1) x.0 x.1)) e
