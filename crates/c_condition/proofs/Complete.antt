-- What fits and is spelled before something that doesn't go on with it is read.
use Rattle.std.proofs.Common.{◌≡◌, ℕ, zero, suc, ◌<◌, ◌≤◌, List, [], ◌∷◌, length, Option, Some, None, refl, sym, ap, subst, ◌∙◌, arith, lit<, ◌⊎◌, inl, inr}
use Rattle.std.specs.Prelude.{IfSome}
use Rattle.c_tree.specs.declared.operator.BinaryOperator.{BinaryOperator}
use Rattle.c_token.specs.declared.mark.Mark.TheVariants as mark
use Rattle.c_condition.specs.declared.token.Token.{Token}
use Rattle.c_condition.specs.declared.token.Token.TheVariants as token
use Rattle.c_condition.specs.declared.marks.Joint.TheVariants as joint
use Rattle.c_condition.specs.Grammar.{Expr, Constant, Name, Paren, Unary, Binary, Conditional, Comma, spell, binary_mark, binary_height, height, Fits}
use Rattle.c_condition.specs.Reading.{choose, and_then, joint_at, infix_at, behind, Algebra, Found, Inner, nested_at, operand_at, links_at, level_at, conditional_at, commas_at, whole_at, inner}
use Rattle.c_condition.proofs.Folding.{fold, Within, infix_sound, behind_sound, Stops, stops_lower, stops_infix, infix_taken, infix_none, question_none, comma_none, opening_taken, height_positive, height_most}
use Rattle.c_condition.proofs.Lengths.{longer}
use Rattle.c_condition.proofs.Sound.{Reads, InnerSound, level_sound, conditional_sound, inner_sound}

pub record InnerComplete {A : Type 0} (g : Algebra A) (n : ℕ) (r : Inner A) : Type 0 where
  pub whole : (e : Expr) (rest : List Token) → Within n e → Stops 12 rest → r.whole (spell e rest) ≡ Some (fold g e, rest)
  pub operand : (e : Expr) (rest : List Token) → Within n e → height e ≤ 0 → r.operand (spell e rest) ≡ Some (fold g e, rest)

close_taken : (rest : List Token) → behind joint.Close (token.Mark mark.Close ∷ rest) ≡ Some rest
unfolding behind joint_at
close_taken rest = refl

question_taken : (rest : List Token) → behind joint.Question (token.Mark mark.Question ∷ rest) ≡ Some rest
unfolding behind joint_at
question_taken rest = refl

colon_taken : (rest : List Token) → behind joint.Colon (token.Mark mark.Colon ∷ rest) ≡ Some rest
unfolding behind joint_at
colon_taken rest = refl

comma_taken : (rest : List Token) → behind joint.Comma (token.Mark mark.Comma ∷ rest) ≡ Some rest
unfolding behind joint_at
comma_taken rest = refl

close_stops : (rest : List Token) → Stops 12 (token.Mark mark.Close ∷ rest)
unfolding joint_at
close_stops rest = tt

colon_stops : (rest : List Token) → Stops 12 (token.Mark mark.Colon ∷ rest)
unfolding joint_at
colon_stops rest = tt

question_stops : (rest : List Token) → Stops 10 (token.Mark mark.Question ∷ rest)
unfolding joint_at
question_stops rest = lit< tt

comma_stops : (rest : List Token) → Stops 11 (token.Mark mark.Comma ∷ rest)
unfolding joint_at
comma_stops rest = lit< tt

-- ---- operands

pub operand_taken : {A : Type 0} (g : Algebra A) (n : ℕ) (r : Inner A) → InnerComplete g n r → (e : Expr) (rest : List Token) → Fits n e → height e ≤ 0 → operand_at g r (spell e rest) ≡ Some (fold g e, rest)
unfolding operand_at nested_at
operand_taken g n r i (Constant m) rest f l = refl
operand_taken g n r i Name rest f l = refl
operand_taken g zero r i (Paren e) rest f l = absurd f
operand_taken g (suc n) r i (Paren e) rest f l = ap (λ o. and_then o (λ x. and_then (behind joint.Close x.1) (λ t. Some (g.paren x.0, t)))) (i.whole e (token.Mark mark.Close ∷ rest) f (close_stops rest))
    ∙ ap (λ o. and_then o (λ t. Some (g.paren (fold g e), t))) (close_taken rest)
operand_taken g zero r i (Unary o e) rest f l = absurd f
operand_taken g (suc n) r i (Unary o e) rest f l = ap (λ p. nested_at g r p (spell e rest)) (opening_taken o)
    ∙ ap (λ p. and_then p (λ x. Some (g.unary o x.0, x.1))) (i.operand e rest f.0 (let h = f.1 in omega arith))
operand_taken g n r i (Binary o left right) rest f l = absurd (let p = height_positive o in omega arith)
operand_taken g n r i (Conditional first second third) rest f l = absurd (omega arith)
operand_taken g n r i (Comma left right) rest f l = absurd (omega arith)

-- ---- operators between two operands

-- what a level reads is shorter
level_shorter : {A : Type 0} (g : Algebra A) (n : ℕ) (r : Inner A) → InnerSound g n r → (h : ℕ) (ts : List Token) (x : A × List Token) → level_at g r h ts ≡ Some x → length x.1 < length ts
level_shorter {A} g n r i h ts x e = let P : Found A → Type 0 = λ o. IfSome o (Reads g n h ts) in
    let p : Reads g n h ts x = subst P e (level_sound g n r i h ts) in
    let Q : List Token → Type 0 = λ t. length x.1 < length t in subst Q (sym p.spelled) (longer p.tree x.1)

pub infix_shorter : (h : ℕ) (ts : List Token) (o : BinaryOperator × List Token) → infix_at h ts ≡ Some o → length o.1 < length ts
infix_shorter h ts o e = let P : Option (BinaryOperator × List Token) → Type 0 = λ p. IfSome p (λ x. (ts ≡ token.Mark (binary_mark x.0) ∷ x.1) × (binary_height x.0 ≡ h)) in
    let p = subst P e (infix_sound h ts) in
    let s : length ts ≡ length (token.Mark (binary_mark o.0) ∷ o.1) = ap length p.0 in omega arith

nothing : (h : ℕ) → infix_at h [] ≡ None
unfolding infix_at joint_at
nothing h = refl

-- more fuel than tokens makes no difference
links_fuel : {A : Type 0} (g : Algebra A) (lower : List Token → Found A) → ((ts : List Token) (x : A × List Token) → lower ts ≡ Some x → length x.1 < length ts)
    → (h j k : ℕ) (left : A) (ts : List Token) → length ts ≤ j → length ts ≤ k → links_at g lower h j left ts ≡ links_at g lower h k left ts
unfolding links_at
links_fuel {A} g lower s h zero zero left ts a b = refl
links_fuel {A} g lower s h zero (suc k) left [] a b = sym (ap (λ o. choose o (Some (left, [])) (λ o. and_then (lower o.1) (λ x. links_at g lower h k (g.binary o.0 left x.0) x.1))) (nothing h))
links_fuel {A} g lower s h zero (suc k) left (t ∷ ts) a b = absurd (omega arith)
links_fuel {A} g lower s h (suc j) zero left [] a b = ap (λ o. choose o (Some (left, [])) (λ o. and_then (lower o.1) (λ x. links_at g lower h j (g.binary o.0 left x.0) x.1))) (nothing h)
links_fuel {A} g lower s h (suc j) zero left (t ∷ ts) a b = absurd (omega arith)
links_fuel {A} g lower s h (suc j) (suc k) left ts a b = go (λ x i c d. links_fuel g lower s h j k x i c d) (infix_at h ts) refl
  where
    after : ((x : A) (us : List Token) → length us ≤ j → length us ≤ k → links_at g lower h j x us ≡ links_at g lower h k x us) → (o : BinaryOperator × List Token) → length o.1 < length ts → (p : Found A) → lower o.1 ≡ p
        → and_then p (λ x. links_at g lower h j (g.binary o.0 left x.0) x.1) ≡ and_then p (λ x. links_at g lower h k (g.binary o.0 left x.0) x.1)
    after again o l None e = refl
    after again o l (Some x) e = let m : length x.1 < length o.1 = s o.1 x e in again (g.binary o.0 left x.0) x.1 (omega arith) (omega arith)

    go : ((x : A) (us : List Token) → length us ≤ j → length us ≤ k → links_at g lower h j x us ≡ links_at g lower h k x us) → (o : Option (BinaryOperator × List Token)) → infix_at h ts ≡ o
        → choose o (Some (left, ts)) (λ o. and_then (lower o.1) (λ x. links_at g lower h j (g.binary o.0 left x.0) x.1)) ≡ choose o (Some (left, ts)) (λ o. and_then (lower o.1) (λ x. links_at g lower h k (g.binary o.0 left x.0) x.1))
    go again None e = refl
    go again (Some o) e = after again o (infix_shorter h ts o e) (lower o.1) refl

-- no more operators
links_end : {A : Type 0} (g : Algebra A) (lower : List Token → Found A) (h k : ℕ) (left : A) (ts : List Token) → Stops h ts → links_at g lower h k left ts ≡ Some (left, ts)
unfolding links_at
links_end g lower h zero left ts s = refl
links_end g lower h (suc k) left ts s = ap (λ o. choose o (Some (left, ts)) (λ o. and_then (lower o.1) (λ x. links_at g lower h k (g.binary o.0 left x.0) x.1))) (infix_none h ts s)

-- one more operator
link_taken : {A : Type 0} (g : Algebra A) (lower : List Token → Found A) (h : ℕ) (o : BinaryOperator) (k : ℕ) (left right : A) (ts rest : List Token) → infix_at h (token.Mark (binary_mark o) ∷ ts) ≡ Some (o, ts) → lower ts ≡ Some (right, rest)
    → links_at g lower h (suc k) left (token.Mark (binary_mark o) ∷ ts) ≡ links_at g lower h k (g.binary o left right) rest
unfolding links_at
link_taken {A} g lower h o k left right ts rest t e = ap (λ p. choose p (Some (left, token.Mark (binary_mark o) ∷ ts)) (λ o. and_then (lower o.1) (λ x. links_at g lower h k (g.binary o.0 left x.0) x.1))) t
    ∙ ap (λ p. and_then p (λ x. links_at g lower h k (g.binary o left x.0) x.1)) e

abbrev pub LevelComplete : {A : Type 0} → Algebra A → ℕ → Inner A → ℕ → Type 0
LevelComplete g n r h = (e : Expr) (rest : List Token) → Fits n e → height e ≤ h → Stops h rest → level_at g r h (spell e rest) ≡ Some (fold g e, rest)

-- an expression is read as far as its own operators go
chain_taken : {A : Type 0} (g : Algebra A) (n : ℕ) (r : Inner A) → InnerSound g n r → (h : ℕ) → LevelComplete g n r h → h < 10 → (e : Expr) (rest : List Token) → Fits n e → height e ≤ suc h → Stops h rest
    → level_at g r (suc h) (spell e rest) ≡ links_at g (level_at g r h) (suc h) (length rest) (fold g e) rest
unfolding level_at
chain_taken {A} g n r i h c b (Constant m) rest f l s = ap (λ o. and_then o (λ x. links_at g (level_at g r h) (suc h) (length x.1) x.0 x.1)) (c (Constant m) rest f (omega arith) s)
chain_taken {A} g n r i h c b Name rest f l s = ap (λ o. and_then o (λ x. links_at g (level_at g r h) (suc h) (length x.1) x.0 x.1)) (c Name rest f (omega arith) s)
chain_taken {A} g n r i h c b (Paren e) rest f l s = ap (λ o. and_then o (λ x. links_at g (level_at g r h) (suc h) (length x.1) x.0 x.1)) (c (Paren e) rest f (omega arith) s)
chain_taken {A} g n r i h c b (Unary o e) rest f l s = ap (λ o. and_then o (λ x. links_at g (level_at g r h) (suc h) (length x.1) x.0 x.1)) (c (Unary o e) rest f (omega arith) s)
chain_taken {A} g n r i h c b (Conditional first second third) rest f l s = absurd (omega arith)
chain_taken {A} g n r i h c b (Comma left right) rest f l s = absurd (omega arith)
chain_taken {A} g n r i h c b (Binary o left right) rest f l s = go (nat_le_or (binary_height o) h l) (λ m. chain_taken g n r i h c b left (token.Mark (binary_mark o) ∷ spell right rest) f.0 (let low = f.2 in omega arith) (stops_infix h o (spell right rest) m))
  where
    nat_le_or : (a b : ℕ) → a ≤ suc b → (a ≤ b) ⊎ (a ≡ suc b)
    nat_le_or a b m = grind (arith)

    more : List Token
    more = token.Mark (binary_mark o) ∷ spell right rest

    next : binary_height o ≡ suc h → links_at g (level_at g r h) (suc h) (length more) (fold g left) more ≡ links_at g (level_at g r h) (suc h) (length (spell right rest)) (fold g (Binary o left right)) rest
    next e = let P : ℕ → Type 0 = λ k. infix_at k more ≡ Some (o, spell right rest) in let t : P (suc h) = subst P e (infix_taken o (spell right rest)) in
        link_taken g (level_at g r h) (suc h) o (length (spell right rest)) (fold g left) (fold g right) (spell right rest) rest t (c right rest f.1 (let l = f.3 in omega arith) s)

    go : (binary_height o ≤ h) ⊎ (binary_height o ≡ suc h) → (h < binary_height o → level_at g r (suc h) (spell left more) ≡ links_at g (level_at g r h) (suc h) (length more) (fold g left) more)
        → level_at g r (suc h) (spell left more) ≡ links_at g (level_at g r h) (suc h) (length rest) (fold g (Binary o left right)) rest
    go (inl low) again = ap (λ o. and_then o (λ x. links_at g (level_at g r h) (suc h) (length x.1) x.0 x.1)) (c (Binary o left right) rest f low s)
    go (inr e) again = again (omega arith) ∙ next e
        ∙ links_fuel g (level_at g r h) (level_shorter g n r i h) (suc h) (length (spell right rest)) (length rest) (fold g (Binary o left right)) rest (let m : length rest < length (spell right rest) = longer right rest in omega arith) (omega arith)

pub level_taken : {A : Type 0} (g : Algebra A) (n : ℕ) (r : Inner A) → InnerSound g n r → InnerComplete g n r → (h : ℕ) → h ≤ 10 → LevelComplete g n r h
unfolding level_at
level_taken g n r i c zero b e rest f l s = operand_taken g n r c e rest f l
level_taken g n r i c (suc h) b e rest f l s =
    chain_taken g n r i h (level_taken g n r i c h (omega arith)) (omega arith) e rest f l (stops_lower (suc h) h rest (omega arith) s)
    ∙ links_end g (level_at g r h) (suc h) (length rest) (fold g e) rest s

-- ---- conditional expressions

-- an expression without a question mark
plain_taken : {A : Type 0} (g : Algebra A) (n : ℕ) (r : Inner A) → InnerSound g n r → InnerComplete g n r → (k : ℕ) (e : Expr) (rest : List Token) → Fits n e → height e ≤ 10 → Stops 11 rest → length (spell e rest) ≤ k
    → conditional_at g r k (spell e rest) ≡ Some (fold g e, rest)
unfolding conditional_at
plain_taken g n r i c zero e rest f l s m = absurd (let t : length rest < length (spell e rest) = longer e rest in omega arith)
plain_taken g n r i c (suc k) e rest f l s m =
    ap (λ o. and_then o (λ x. choose (behind joint.Question x.1) (Some x) (λ middle. and_then (r.whole middle) (λ y. and_then (behind joint.Colon y.1) (λ last. and_then (conditional_at g r k last) (λ z. Some (g.conditional x.0 y.0 z.0, z.1)))))))
    (level_taken g n r i c 10 (omega arith) e rest f l (stops_lower 11 10 rest (omega arith) s))
    ∙ ap (λ o. choose o (Some (fold g e, rest)) (λ middle. and_then (r.whole middle) (λ y. and_then (behind joint.Colon y.1) (λ last. and_then (conditional_at g r k last) (λ z. Some (g.conditional (fold g e) y.0 z.0, z.1))))))
    (question_none rest s)

pub conditional_taken : {A : Type 0} (g : Algebra A) (n : ℕ) (r : Inner A) → InnerSound g n r → InnerComplete g n r → (k : ℕ) (e : Expr) (rest : List Token) → Fits n e → height e ≤ 11 → Stops 11 rest → length (spell e rest) ≤ k
    → conditional_at g r k (spell e rest) ≡ Some (fold g e, rest)
unfolding conditional_at
conditional_taken g n r i c k (Constant m) rest f l s m' = plain_taken g n r i c k (Constant m) rest f (omega arith) s m'
conditional_taken g n r i c k Name rest f l s m = plain_taken g n r i c k Name rest f (omega arith) s m
conditional_taken g n r i c k (Paren e) rest f l s m = plain_taken g n r i c k (Paren e) rest f (omega arith) s m
conditional_taken g n r i c k (Unary o e) rest f l s m = plain_taken g n r i c k (Unary o e) rest f (omega arith) s m
conditional_taken g n r i c k (Binary o left right) rest f l s m = plain_taken g n r i c k (Binary o left right) rest f (height_most o) s m
conditional_taken g n r i c k (Comma left right) rest f l s m = absurd (omega arith)
conditional_taken g zero r i c k (Conditional first second third) rest f l s m = absurd f
conditional_taken g (suc n) r i c zero (Conditional first second third) rest f l s m = absurd (let t : length rest < length (spell (Conditional first second third) rest) = longer (Conditional first second third) rest in omega arith)
conditional_taken g (suc n) r i c (suc k) (Conditional first second third) rest f l s m =
    ap (λ o. and_then o (λ x. choose (behind joint.Question x.1) (Some x) (λ middle. and_then (r.whole middle) (λ y. and_then (behind joint.Colon y.1) (λ last. and_then (conditional_at g r k last) (λ z. Some (g.conditional x.0 y.0 z.0, z.1)))))))
    (level_taken g (suc n) r i c 10 (omega arith) first (token.Mark mark.Question ∷ spell second (token.Mark mark.Colon ∷ spell third rest)) f.0 f.3 (question_stops (spell second (token.Mark mark.Colon ∷ spell third rest))))
    ∙ ap (λ o. choose o (Some (fold g first, token.Mark mark.Question ∷ spell second (token.Mark mark.Colon ∷ spell third rest))) (λ middle. and_then (r.whole middle) (λ y. and_then (behind joint.Colon y.1) (λ last. and_then (conditional_at g r k last) (λ z. Some (g.conditional (fold g first) y.0 z.0, z.1))))))
    (question_taken (spell second (token.Mark mark.Colon ∷ spell third rest)))
    ∙ ap (λ o. and_then o (λ y. and_then (behind joint.Colon y.1) (λ last. and_then (conditional_at g r k last) (λ z. Some (g.conditional (fold g first) y.0 z.0, z.1)))))
    (c.whole second (token.Mark mark.Colon ∷ spell third rest) f.1 (colon_stops (spell third rest)))
    ∙ ap (λ o. and_then o (λ last. and_then (conditional_at g r k last) (λ z. Some (g.conditional (fold g first) (fold g second) z.0, z.1)))) (colon_taken (spell third rest))
    ∙ ap (λ o. and_then o (λ z. Some (g.conditional (fold g first) (fold g second) z.0, z.1))) (conditional_taken g (suc n) r i c k third rest f.2 f.4 s fuel)
  where
    fuel : length (spell third rest) ≤ k
    fuel = let t : length (token.Mark mark.Question ∷ spell second (token.Mark mark.Colon ∷ spell third rest)) < length (spell first (token.Mark mark.Question ∷ spell second (token.Mark mark.Colon ∷ spell third rest)))
        = longer first (token.Mark mark.Question ∷ spell second (token.Mark mark.Colon ∷ spell third rest)) in
        let u : length (token.Mark mark.Colon ∷ spell third rest) < length (spell second (token.Mark mark.Colon ∷ spell third rest)) = longer second (token.Mark mark.Colon ∷ spell third rest) in omega arith

-- ---- commas

conditional_shorter : {A : Type 0} (g : Algebra A) (n : ℕ) (r : Inner A) → InnerSound g n r → (k : ℕ) (ts : List Token) (x : A × List Token) → conditional_at g r k ts ≡ Some x → length x.1 < length ts
conditional_shorter {A} g n r i k ts x e = let P : Found A → Type 0 = λ o. IfSome o (Reads g n 11 ts) in
    let p : Reads g n 11 ts x = subst P e (conditional_sound g n r i k ts) in
    let Q : List Token → Type 0 = λ t. length x.1 < length t in subst Q (sym p.spelled) (longer p.tree x.1)

comma_shorter : (ts rest : List Token) → behind joint.Comma ts ≡ Some rest → length rest < length ts
comma_shorter ts rest e = let P : Option (List Token) → Type 0 = λ o. IfSome o (λ t. ts ≡ token.Mark mark.Comma ∷ t) in
    let p : ts ≡ token.Mark mark.Comma ∷ rest = subst P e (behind_sound joint.Comma ts) in
    let s : length ts ≡ length (token.Mark mark.Comma ∷ rest) = ap length p in omega arith

no_comma : behind joint.Comma [] ≡ None
unfolding behind joint_at
no_comma = refl

commas_fuel : {A : Type 0} (g : Algebra A) (n : ℕ) (r : Inner A) → InnerSound g n r → (j k : ℕ) (left : A) (ts : List Token) → length ts ≤ j → length ts ≤ k → commas_at g r j left ts ≡ commas_at g r k left ts
unfolding commas_at
commas_fuel {A} g n r i zero zero left ts a b = refl
commas_fuel {A} g n r i zero (suc k) left [] a b = sym (ap (λ o. choose o (Some (left, [])) (λ next. and_then (conditional_at g r (length next) next) (λ x. commas_at g r k (g.comma left x.0) x.1))) no_comma)
commas_fuel {A} g n r i zero (suc k) left (t ∷ ts) a b = absurd (omega arith)
commas_fuel {A} g n r i (suc j) zero left [] a b = ap (λ o. choose o (Some (left, [])) (λ next. and_then (conditional_at g r (length next) next) (λ x. commas_at g r j (g.comma left x.0) x.1))) no_comma
commas_fuel {A} g n r i (suc j) zero left (t ∷ ts) a b = absurd (omega arith)
commas_fuel {A} g n r i (suc j) (suc k) left ts a b = go (λ x u c d. commas_fuel g n r i j k x u c d) (behind joint.Comma ts) refl
  where
    after : ((x : A) (us : List Token) → length us ≤ j → length us ≤ k → commas_at g r j x us ≡ commas_at g r k x us) → (next : List Token) → length next < length ts → (p : Found A) → conditional_at g r (length next) next ≡ p
        → and_then p (λ x. commas_at g r j (g.comma left x.0) x.1) ≡ and_then p (λ x. commas_at g r k (g.comma left x.0) x.1)
    after again next l None e = refl
    after again next l (Some x) e = let m : length x.1 < length next = conditional_shorter g n r i (length next) next x e in again (g.comma left x.0) x.1 (omega arith) (omega arith)

    go : ((x : A) (us : List Token) → length us ≤ j → length us ≤ k → commas_at g r j x us ≡ commas_at g r k x us) → (o : Option (List Token)) → behind joint.Comma ts ≡ o
        → choose o (Some (left, ts)) (λ next. and_then (conditional_at g r (length next) next) (λ x. commas_at g r j (g.comma left x.0) x.1)) ≡ choose o (Some (left, ts)) (λ next. and_then (conditional_at g r (length next) next) (λ x. commas_at g r k (g.comma left x.0) x.1))
    go again None e = refl
    go again (Some next) e = after again next (comma_shorter ts next e) (conditional_at g r (length next) next) refl

commas_end : {A : Type 0} (g : Algebra A) (r : Inner A) (k : ℕ) (left : A) (ts : List Token) → Stops 12 ts → commas_at g r k left ts ≡ Some (left, ts)
unfolding commas_at
commas_end g r zero left ts s = refl
commas_end g r (suc k) left ts s = ap (λ o. choose o (Some (left, ts)) (λ next. and_then (conditional_at g r (length next) next) (λ x. commas_at g r k (g.comma left x.0) x.1))) (comma_none ts s)

-- one more comma
next_taken : {A : Type 0} (g : Algebra A) (r : Inner A) (k : ℕ) (left right : A) (ts rest : List Token) → conditional_at g r (length ts) ts ≡ Some (right, rest) → commas_at g r (suc k) left (token.Mark mark.Comma ∷ ts) ≡ commas_at g r k (g.comma left right) rest
unfolding commas_at
next_taken g r k left right ts rest e = ap (λ o. choose o (Some (left, token.Mark mark.Comma ∷ ts)) (λ next. and_then (conditional_at g r (length next) next) (λ x. commas_at g r k (g.comma left x.0) x.1))) (comma_taken ts)
    ∙ ap (λ o. and_then o (λ x. commas_at g r k (g.comma left x.0) x.1)) e

-- a whole expression is read as far as its own commas go
row_taken : {A : Type 0} (g : Algebra A) (n : ℕ) (r : Inner A) → InnerSound g n r → InnerComplete g n r → (e : Expr) (rest : List Token) → Fits n e → Stops 11 rest → whole_at g r (spell e rest) ≡ commas_at g r (length rest) (fold g e) rest
unfolding whole_at
row_taken {A} g n r i c (Constant m) rest f s = ap (λ o. and_then o (λ x. commas_at g r (length x.1) x.0 x.1)) (conditional_taken g n r i c (length (spell (Constant m) rest)) (Constant m) rest f (omega arith) s (omega arith))
row_taken {A} g n r i c Name rest f s = ap (λ o. and_then o (λ x. commas_at g r (length x.1) x.0 x.1)) (conditional_taken g n r i c (length (spell Name rest)) Name rest f (omega arith) s (omega arith))
row_taken {A} g n r i c (Paren e) rest f s = ap (λ o. and_then o (λ x. commas_at g r (length x.1) x.0 x.1)) (conditional_taken g n r i c (length (spell (Paren e) rest)) (Paren e) rest f (omega arith) s (omega arith))
row_taken {A} g n r i c (Unary o e) rest f s = ap (λ p. and_then p (λ x. commas_at g r (length x.1) x.0 x.1)) (conditional_taken g n r i c (length (spell (Unary o e) rest)) (Unary o e) rest f (omega arith) s (omega arith))
row_taken {A} g n r i c (Binary o left right) rest f s = ap (λ p. and_then p (λ x. commas_at g r (length x.1) x.0 x.1))
    (conditional_taken g n r i c (length (spell (Binary o left right) rest)) (Binary o left right) rest f (let m = height_most o in omega arith) s (omega arith))
row_taken {A} g n r i c (Conditional first second third) rest f s = ap (λ o. and_then o (λ x. commas_at g r (length x.1) x.0 x.1))
    (conditional_taken g n r i c (length (spell (Conditional first second third) rest)) (Conditional first second third) rest f (omega arith) s (omega arith))
row_taken {A} g n r i c (Comma left right) rest f s =
    row_taken g n r i c left (token.Mark mark.Comma ∷ spell right rest) f.0 (comma_stops (spell right rest))
    ∙ next_taken g r (length (spell right rest)) (fold g left) (fold g right) (spell right rest) rest (conditional_taken g n r i c (length (spell right rest)) right rest f.1 f.2 s (omega arith))
    ∙ commas_fuel g n r i (length (spell right rest)) (length rest) (fold g (Comma left right)) rest (let m : length rest < length (spell right rest) = longer right rest in omega arith) (omega arith)

pub whole_taken : {A : Type 0} (g : Algebra A) (n : ℕ) (r : Inner A) → InnerSound g n r → InnerComplete g n r → (e : Expr) (rest : List Token) → Fits n e → Stops 12 rest → whole_at g r (spell e rest) ≡ Some (fold g e, rest)
whole_taken g n r i c e rest f s = row_taken g n r i c e rest f (stops_lower 12 11 rest (omega arith) s) ∙ commas_end g r (length rest) (fold g e) rest s

-- ---- nestings

pub inner_taken : {A : Type 0} (g : Algebra A) (n : ℕ) → InnerComplete g n (inner g n)
unfolding inner
inner_taken g zero = record { whole = λ e rest w s. absurd w; operand = λ e rest w l. absurd w }
inner_taken g (suc n) = let c = inner_taken g n in
    record { whole = λ e rest w s. whole_taken g n (inner g n) (inner_sound g n) c e rest w s; operand = λ e rest w l. operand_taken g n (inner g n) c e rest w l }
