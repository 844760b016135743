-- What code asks of the layout of a procedure.
use Rattle.std.proofs.Common.{◌≡◌, ℕ, ◌^◌, ◌<◌, ◌≤◌, ◌⊎◌, inl, inr, List, [], ◌∷◌, length, get_or, Some, None, subst, sym, arith}
use Rattle.std.specs.Prelude.{slice_get, All}
use Rattle.std.proofs.lemmas.Option.{slice_get_cases}
use Rattle.std.proofs.lemmas.List.Elements.{All-get_or}
use Rattle.flatten.specs.declared.blocks.BlockInsn.{BlockInsn}
use Rattle.flatten.specs.declared.blocks.BlockInsn.TheVariants as I
use Rattle.flatten.specs.declared.blocks.Block.{Block}
use Rattle.flatten.specs.declared.blocks.BlockProc.{BlockProc}
use Rattle.block_homes.specs.declared.homes.Home.{Home}
use Rattle.block_homes.specs.declared.homes.Home.TheVariants as H
use Rattle.block_homes.specs.Valid.{IsHome, AreHomes}
use Rattle.emitted_code.specs.Frames.{home_or, words_of, most_words, words_of_blocks, layout_of}
use Rattle.emitted_units.specs.Sizes.{InsnHeld, InsnsHeld, BlocksHeld, ProcHeld}
use Rattle.emitted_units.proofs.Encodable.{IsPlace, Holds}

home_is_place : (n : ℕ) (h : Home) → n < 2 ^ 32 → IsHome n h → IsPlace h
home_is_place n (H.Register r) le (inl k) = omega arith
home_is_place n (H.Register r) le (inr k) = omega arith
home_is_place n (H.Slot s) le h = omega arith

homes_are_places : (n : ℕ) (homes : List Home) → n < 2 ^ 32 → All (IsHome n) homes → (x : ℕ) → IsPlace (home_or (slice_get homes x))
homes_are_places n homes le all x = go (slice_get_cases homes x).1
  where
    go : ((h : Home) × (x < length homes) × (slice_get homes x ≡ Some h) × (get_or homes x h ≡ h)) ⊎ ((length homes ≤ x) × (slice_get homes x ≡ None)) → IsPlace (home_or (slice_get homes x))
    go (inl w) =
        let is = subst (λ h. IsHome n h) w.3 (All-get_or (IsHome n) homes x w.0 w.1 all) in
        subst (λ o. IsPlace (home_or o)) (sym w.2) (home_is_place n w.0 le is)
    go (inr w) = subst (λ o. IsPlace (home_or o)) (sym w.1) (omega arith)

few_words : (i : BlockInsn) → InsnHeld i → words_of i < 2 ^ 32
few_words (I.Number x n) h = omega arith
few_words (I.Copy x y) h = omega arith
few_words (I.Binary o x y z) h = omega arith
few_words (I.Load x w s y) h = omega arith
few_words (I.Store w y z) h = omega arith
few_words (I.ProcAddress x p) h = omega arith
few_words (I.ImageAddress x n) h = omega arith
few_words (I.Call xs p ys) h = let n = h.1 in omega (arith, n)
few_words (I.CallAt xs y ys) h = let n = h.1 in omega (arith, n)
few_words (I.Take x) h = omega arith
few_words (I.Give y) h = omega arith

few_most_words : (is : List BlockInsn) → InsnsHeld is → most_words is < 2 ^ 32
few_most_words [] h = omega arith
few_most_words (i ∷ is) h = omega (arith, few_words i h.0, few_most_words is h.1)

few_words_of_blocks : (bs : List Block) → BlocksHeld bs → words_of_blocks bs < 2 ^ 32
few_words_of_blocks [] h = omega arith
few_words_of_blocks (b ∷ bs) h = omega (arith, few_most_words b.insns h.0, few_words_of_blocks bs h.2)

pub layout_holds : (f : BlockProc) (homes : List Home) → ProcHeld f → AreHomes f.values homes → Holds (layout_of f homes) f.params
layout_holds f homes held are = record { homes = homes_are_places f.values homes held.values are.each; words = few_words_of_blocks f.blocks held.blocks; size = held.frame }
