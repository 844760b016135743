-- Pieces of straight code one behind the other.
use Rattle.std.proofs.Common.{◌≡◌, ℕ, suc, List, [], ◌∷◌, ◌++◌, refl, ap, subst}
use Rattle.rv_assemble.specs.declared.unit.AsmLine.{AsmLine}
use Rattle.rv_assemble.specs.declared.unit.AsmLine.TheVariants.{Plain}
use Rattle.emitted_code.specs.Straight.{Straight, insn_of, lines}
use Rattle.emitted_code.specs.Frames.{Layout}
use Rattle.emitted_code.specs.Code.{receive, receive_one}

pub append : (xs ys : List Straight) (k : List AsmLine) → lines (xs ++ ys) k ≡ lines xs (lines ys k)
append [] ys k = refl
append (x ∷ xs) ys k = ap (λ rest. Plain (insn_of x) ∷ rest) (append xs ys k)

-- the last parameter is received behind the others
pub receive_last : (l : Layout) (i j : ℕ) (k : List AsmLine) → suc j ≡ i → lines (receive l i) k ≡ lines (receive l j) (lines (receive_one l j) k)
receive_last l i j k e =
    let P : ℕ → Type 0 = λ n. lines (receive l n) k ≡ lines (receive l j) (lines (receive_one l j) k) in
    subst P e (append (receive l j) (receive_one l j) k)
