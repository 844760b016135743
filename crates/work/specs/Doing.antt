-- Work in steps, each of which hands something to the next.
use Rattle.std.specs.Prelude.{ℕ, List}
use Rattle.work.specs.Work.{Outcome, Work, Do, Call, Loop}

infixr 20 ◌>>=◌
infixr 20 ◌>>◌
-- work that gives an X: by what comes after it
abbrev pub Doing : Type 0 → Type 0 → Type 0 → Type 0 → Type 0
Doing A V P X = (X → Work A V P) → Work A V P

abbrev pub give : {A V P X : Type 0} → X → Doing A V P X
give x k = k x

abbrev pub ◌>>=◌ : {A V P X Y : Type 0} → Doing A V P X → (X → Doing A V P Y) → Doing A V P Y
◌>>=◌ m f k = m (λ x. f x k)

abbrev pub ◌>>◌ : {A V P X Y : Type 0} → Doing A V P X → Doing A V P Y → Doing A V P Y
◌>>◌ m f k = m (λ _. f k)

-- one act, with the place that a violation in it has
abbrev pub act : {A V P : Type 0} → P → A → Doing A V P V
act at a k = Do at a k

abbrev pub call : {A V P : Type 0} → ℕ → List V → Doing A V P (List V)
call p vs k = Call p vs k

-- a loop whose first turn gets s
abbrev pub loop : {A V P : Type 0} → List V → (List V → Work A V P) → Doing A V P (Outcome V)
loop s body k = Loop s body k
