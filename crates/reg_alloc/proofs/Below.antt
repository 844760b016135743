-- What the tests of `validate`'s conditions say.
use Rattle.std.proofs.Common.{◌≡◌, ℕ, zero, suc, ◌+◌, ◌<◌, ◌≤◌, Bool, true, false, inl, inr, List, [], ◌∷◌, length, refl, sym, ap, ◌∙◌, arith}
use Rattle.std.specs.Prelude.{◌⊎◌, ◌&&◌, ◌||◌, ◌==◌, not, nat_lt, All}
use Rattle.std.proofs.lemmas.Bool.Decides.{eqb_tells, nat_tests}
use Rattle.std.proofs.lemmas.List.Elements.{All-nil, All-cons}
use Rattle.flatten.specs.declared.blocks.BlockInsn.{BlockInsn}
use Rattle.flatten.specs.declared.blocks.Block.{Block}
use Rattle.flatten.specs.declared.blocks.BlockProc.{BlockProc}
use Rattle.flatten.specs.Paths.{sets, uses_of, end_uses, goes_to}
use Rattle.flatten.specs.Named.{AllBelow}
use Rattle.block_homes.specs.declared.homes.Home.{Home}
use Rattle.block_homes.specs.declared.homes.Home.TheVariants as H
use Rattle.block_homes.specs.Valid.{InsnBelow, BlockBelow, IsNamed, IsHome, AreHomes}
use Rattle.reg_alloc.specs.Below.{below, insns_below, blocks_below, is_named, is_home, all_homes, are_homes}

both : (a b : Bool) → (a && b) ≡ true → (a ≡ true) × (b ≡ true)
both true b h = (refl, h)
both false b h = cc

one_of : (a b : Bool) → (a || b) ≡ true → (a ≡ true) ⊎ (b ≡ true)
one_of true b h = inl refl
one_of false b h = inr h

less : (x y : ℕ) → nat_lt x y ≡ true → x < y
less x y h = grind (arith, nat_tests)

same : (x y : ℕ) → (x == y) ≡ true → x ≡ y
same x y h = elim (eqb_tells x y) [ inl t ↦ t.1 | inr f ↦ absurd (let q = f.0 in cc) ]

not_less : (x y : ℕ) → not (nat_lt x y) ≡ true → y ≤ x
not_less x y h = grind (arith, nat_tests)

all_below : (n : ℕ) (vs : List ℕ) → below n vs ≡ true → AllBelow n vs
all_below n [] h = tt
all_below n (v ∷ vs) h = let b = both (nat_lt v n) (below n vs) h in (less v n b.0, all_below n vs b.1)

all_insns : (n : ℕ) (is : List BlockInsn) → insns_below n is ≡ true → All (InsnBelow n) is
all_insns n [] h = All-nil (InsnBelow n)
all_insns n (i ∷ is) h =
    let b = both (below n (uses_of i) && below n (sets i)) (insns_below n is) h in
    let c = both (below n (uses_of i)) (below n (sets i)) b.0 in
    All-cons (InsnBelow n) i is (all_below n (uses_of i) c.0, all_below n (sets i) c.1) (all_insns n is b.1)

all_blocks : (n m : ℕ) (ks : List Block) → blocks_below n m ks ≡ true → All (BlockBelow n m) ks
all_blocks n m [] h = All-nil (BlockBelow n m)
all_blocks n m (k ∷ ks) h =
    let ends = below n (end_uses k.end) && below m (goes_to k.end) in
    let b = both (insns_below n k.insns && ends) (blocks_below n m ks) h in
    let c = both (insns_below n k.insns) ends b.0 in
    let d = both (below n (end_uses k.end)) (below m (goes_to k.end)) c.1 in
    All-cons (BlockBelow n m) k ks (all_insns n k.insns c.0, all_below n (end_uses k.end) d.0, all_below m (goes_to k.end) d.1) (all_blocks n m ks b.1)

pub named_by : (q : BlockProc) → is_named q ≡ true → IsNamed q
named_by q h =
    let b = both (not (nat_lt q.values q.params)) (blocks_below q.values (length q.blocks) q.blocks) h in
    record { params = not_less q.values q.params b.0; blocks = all_blocks q.values (length q.blocks) q.blocks b.1 }

home_by : (n : ℕ) (x : Home) → is_home n x ≡ true → IsHome n x
home_by n (H.Register r) h =
    elim (one_of ((r == 8) || (r == 9)) (nat_lt 17 r && nat_lt r 28) h) [
      | inl a ↦ elim (one_of (r == 8) (r == 9) a) [ inl e ↦ inl (let q = same r 8 e in (omega (arith, q), omega (arith, q))) | inr e ↦ inl (let q = same r 9 e in (omega (arith, q), omega (arith, q))) ]
      | inr b ↦ inr (let c = both (nat_lt 17 r) (nat_lt r 28) b in let low = less 17 r c.0 in let high = less r 28 c.1 in (omega (arith, low), omega (arith, high)))
    ]
home_by n (H.Slot s) h = less s n h

each_home : (n : ℕ) (hs : List Home) → all_homes n hs ≡ true → All (IsHome n) hs
each_home n [] h = All-nil (IsHome n)
each_home n (x ∷ hs) h = let b = both (is_home n x) (all_homes n hs) h in All-cons (IsHome n) x hs (home_by n x b.0) (each_home n hs b.1)

pub homes_by : (n : ℕ) (hs : List Home) → are_homes n hs ≡ true → AreHomes n hs
homes_by n hs h = let b = both (length hs == n) (all_homes n hs) h in record { count = same (length hs) n b.0; each = each_home n hs b.1 }
