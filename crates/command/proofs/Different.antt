-- Names of which no two are the same, one name after another.
use Rattle.std.proofs.Common.{arith, ◌≡◌, ◌≢◌, ◌∙◌, ℕ, ◌<◌, ◌≤◌, ◌+◌, true, false, List, length, take, get_or, sym, subst, length-take-le}
use Rattle.std.specs.Prelude.{AllPairs, nat_eq}
use Rattle.std.proofs.lemmas.List.{take_more, get_or-take}
use Rattle.std.proofs.lemmas.List.Quantifiers.{all_pairs_push}
use lib.Pointwise.{pointwise, bytes_decides}

-- no two of the names are the same
abbrev pub Differ : List (List ℕ) → Type 0
Differ names = AllPairs (λ one other. one ≢ other) names

-- a name that stands before
pub found_before : (names : List (List ℕ)) (i : ℕ) (name : List ℕ) → i < length names → name ≡ get_or names i name → (k : ℕ) → k < length (take i names) → pointwise nat_eq (get_or (take i names) k name) name ≡ true → Differ names → ⊥
found_before names i name l is k before same differ =
    let n : length (take i names) ≡ i = length-take-le i names (omega arith) in
    let front : k < i = omega (arith, n) in
    differ k i name front l (sym (get_or-take i names k name front) ∙ (bytes_decides _ name).0 same ∙ is)

-- a name that doesn't stand before
pub not_before : (names : List (List ℕ)) (i : ℕ) (name : List ℕ) → i < length names → name ≡ get_or names i name → ((k : ℕ) (d : List ℕ) → 0 ≤ k → k < length (take i names) → pointwise nat_eq (get_or (take i names) k d) name ≡ false) → Differ (take i names) → Differ (take (i + 1) names)
not_before names i name l is none differ =
    let apart : (k : ℕ) (d : List ℕ) → k < length (take i names) → get_or (take i names) k d ≢ get_or names i name =
    λ k d before same. absurd (let yes = (bytes_decides (get_or (take i names) k d) name).1 (same ∙ sym is) in let no = none k d (omega arith) before in cc) in
    subst Differ (sym (take_more names i name l)) (all_pairs_push (λ one other. one ≢ other) (take i names) (get_or names i name) differ apart)
