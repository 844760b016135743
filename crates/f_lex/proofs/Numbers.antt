-- The number of some digits, as a loop reads it.
use Rattle.std.proofs.Common.{◌≡◌, ◌<◌, ◌≤◌, ◌+◌, ◌*◌, ◌-◌, ℕ, suc, List, [], ◌∷◌, false, nat_lt, arith, sym, ap, ◌∙◌, drop, get_or, length}
use Rattle.std.proofs.lemmas.Bool.Decides.{nat_tests}
use Rattle.std.proofs.Math.Seq.{drop-cons}
use Rattle.f_lex.specs.Words.{number_from}

pub number-grows : (n : ℕ) (ds : List ℕ) → n ≤ number_from n ds
number-grows n [] = omega arith
number-grows n (d ∷ ds) = omega (arith, number-grows (n * 10 + (d - 48)) ds)

not_less : (m n : ℕ) → n ≤ m → false ≡ nat_lt m n
not_less m n le = grind (arith, nat_tests)

pub too_large : (ds : List ℕ) (i value least total : ℕ) → i < length ds → number_from value (drop i ds) ≡ total → least ≤ value * 10 + (get_or ds i 0 - 48) → false ≡ nat_lt total least
too_large ds i value least total lt e le =
    let more : number_from (value * 10 + (get_or ds i 0 - 48)) (drop (suc i) ds) ≡ total = ap (number_from value) (sym (drop-cons ds i 0 lt)) ∙ e in
    not_less total least (omega (arith, le, more, number-grows (value * 10 + (get_or ds i 0 - 48)) (drop (suc i) ds)))
