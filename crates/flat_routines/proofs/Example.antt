-- The routines' trees hold together and compute, and there are calls that meet what the contracts ask for.
use Rattle.std.proofs.Common.{◌≡◌, ℕ, zero, suc, ◌+◌, ◌-◌, ◌*◌, ◌%◌, ◌^◌, ◌<◌, ◌≤◌, pos, List, [], ◌∷◌, refl, sym, ap, ◌∙◌, arith, inl, inr}
use Rattle.std.specs.Prelude.{Bool, true, false, nat_eq, nat_le}
use Rattle.std.proofs.lemmas.Bool.Decides.{nat_tests}
use Rattle.behaviour.specs.Behaviour.{Running, Stopped}
use Rattle.flat_ir.specs.Bytes.{Bytes, Areas, poke, number, put, loaded, stored}
use Rattle.flat_ir.specs.Ranges.{AreBytes, MayUse, Apart, copied}
use Rattle.flat_ir.specs.Placement.{Places}
use Rattle.flat_ir.specs.Tree.{Procedure}
use Rattle.flat_ir.specs.Checked.{proc_fits}
use Rattle.flat_ir.specs.Flat.{World, seen, with_memory, Back, calls_of}
use Rattle.flat_ir.specs.Comes.{Exactly}
use Rattle.flat_ir.proofs.Comes.{in_objects, some_fit}
use Rattle.flat_ir.proofs.Framing.{put_bytes}
use Rattle.flat_routines.specs.Copying.{copy_bytes}
use Rattle.flat_routines.specs.Dims.{Dim, AreSubscripts, element, DimsAt}
use Rattle.flat_routines.specs.Moving.{gather, scatter, Moving, Gathering, Scattering, Gathered, Scattered}
use Rattle.flat_routines.specs.Counting.{count_elements}
use Rattle.flat_routines.specs.Views.{dims_of, AreStrides}
use Rattle.flat_routines.proofs.Counting.{counts}
use Rattle.flat_routines.proofs.Views.{is_view}
use Rattle.flat_routines.proofs.Copy.{copies}
use Rattle.array_view.specs.declared.axes.AxisDim.{AxisDim}
use Rattle.std.specs.Prelude.{negsuc}
use Rattle.flat_routines.proofs.Gather.{gathers}
use Rattle.flat_routines.proofs.Scatter.{scatters}

-- each value is set before it is used, and what is named is there
copy_holds_together : proc_fits 1 0 copy_bytes ≡ true
copy_holds_together = refl

gather_holds_together : proc_fits 1 0 (gather 0) ≡ true
gather_holds_together = refl

scatter_holds_together : proc_fits 1 0 (scatter 0) ≡ true
scatter_holds_together = refl

count_holds_together : proc_fits 1 0 count_elements ≡ true
count_holds_together = refl

abbrev areas : Areas
areas = record { image = record { low = 64; high = 64 }; objects = record { low = 96; high = 400 }; heap = record { low = 400; high = 400 } }

abbrev procs : List Procedure
procs = copy_bytes ∷ gather 0 ∷ scatter 0 ∷ count_elements ∷ []

abbrev places : Places
places = record { image = 64; areas = areas; procs = λ p. p; count = 4; frames = 0 }

-- three by two elements of four bytes, of which the first dimension runs backward
abbrev dims : List Dim
dims = record { extent = 3; stride = 2 ^ 64 - 8 } ∷ record { extent = 2; stride = 32 } ∷ []

abbrev numbered : Bytes
numbered i = i % 256

abbrev memory : Bytes
memory = put 8 (put 8 (put 8 (put 8 numbered 208 3) 216 (2 ^ 64 - 8)) 232 2) 240 32

abbrev start : World
start = record { memory = memory; frames = 0; unread = []; taken = 0; output = [] }

-- what stands at an address and behind it
abbrev bytes_from : ℕ → ℕ → Bytes → List ℕ
bytes_from zero a m = []
bytes_from (suc n) a m = m a ∷ bytes_from n (a + 1) m

abbrev showing : ℕ → ℕ → Back
showing n a rs w i = record { output = bytes_from n a w.memory; taken = 0; ending = Stopped (pos 0) }

-- ranges that meet, both ways: at 5 units and not before
upward : calls_of procs places 9 0 (102 ∷ 100 ∷ 4 ∷ []) start (showing 7 100) 5 ≡ record { output = 100 ∷ 101 ∷ 100 ∷ 101 ∷ 102 ∷ 103 ∷ 106 ∷ []; taken = 0; ending = Stopped (pos 0) }
unfolding number put poke loaded stored
upward = refl

downward : calls_of procs places 9 0 (100 ∷ 102 ∷ 4 ∷ []) start (showing 7 100) 5 ≡ record { output = 102 ∷ 103 ∷ 104 ∷ 105 ∷ 104 ∷ 105 ∷ 106 ∷ []; taken = 0; ending = Stopped (pos 0) }
unfolding number put poke loaded stored
downward = refl

not_before : calls_of procs places 9 0 (100 ∷ 102 ∷ 4 ∷ []) start (showing 7 100) 4 ≡ seen start Running
unfolding number put poke loaded stored
not_before = refl

gathered_run : calls_of procs places 20 1 (300 ∷ 120 ∷ 4 ∷ 2 ∷ 200 ∷ 6 ∷ []) start (showing 25 300) 49 ≡ record { output = 120 ∷ 121 ∷ 122 ∷ 123 ∷ 112 ∷ 113 ∷ 114 ∷ 115 ∷ 104 ∷ 105 ∷ 106 ∷ 107 ∷ 152 ∷ 153 ∷ 154 ∷ 155 ∷ 144 ∷ 145 ∷ 146 ∷ 147 ∷ 136 ∷ 137 ∷ 138 ∷ 139 ∷ 68 ∷ []; taken = 0; ending = Stopped (pos 0) }
unfolding number put poke loaded stored
gathered_run = refl

scattered_run : calls_of procs places 20 2 (300 ∷ 120 ∷ 4 ∷ 2 ∷ 200 ∷ 6 ∷ []) start (showing 9 136) 49 ≡ record { output = 64 ∷ 65 ∷ 66 ∷ 67 ∷ 140 ∷ 141 ∷ 142 ∷ 143 ∷ 60 ∷ []; taken = 0; ending = Stopped (pos 0) }
unfolding number put poke loaded stored
scattered_run = refl

-- calls that meet what is asked for
usable : (a n : ℕ) → 96 ≤ a → a + n ≤ 400 → MayUse areas a n
usable a n low high = record { each = λ i l. some_fit 1 areas (a + i) (whole (a + i)) (in_objects (record { above = omega arith; below = omega arith })); narrow = omega arith }
  where
    whole : (i : ℕ) → nat_eq (i % 1) 0 ≡ true
    whole i = grind (arith, nat_tests)

are_bytes : AreBytes memory
are_bytes = put_bytes 8 _ 240 32 (put_bytes 8 _ 232 2 (put_bytes 8 _ 216 (2 ^ 64 - 8) (put_bytes 8 _ 208 3 (λ i. omega arith))))

copy_instance : Exactly (seen start Running) 5 (showing 7 100 [] (with_memory start (copied memory 102 100 4))) (calls_of procs places 9 0 (102 ∷ 100 ∷ 4 ∷ []) start (showing 7 100))
copy_instance = copies procs places 0 refl 9 102 100 4 start (showing 7 100) (omega arith) (record { target = usable 102 4 (omega arith) (omega arith); source = usable 100 4 (omega arith) (omega arith); bytes = are_bytes }) (omega arith)

-- where an element lies
record Lying (k j : ℕ) (ks : List ℕ) : Type 0 where
  first : k < 3
  second : j < 2
  at : element 120 dims ks + 8 * k ≡ 120 + 32 * j
  are : ks ≡ k ∷ j ∷ []

lying : (ks : List ℕ) → AreSubscripts dims ks → (k : ℕ) × ((j : ℕ) × Lying k j ks)
lying [] h = absurd h
lying (k ∷ []) h = absurd h.1
lying (k ∷ j ∷ []) h = (k, (j, record { first = h.0; second = h.1.0; at = there k h.0 j h.1.0; are = refl }))
  where
    there : (k : ℕ) → k < 3 → (j : ℕ) → j < 2 → element 120 dims (k ∷ j ∷ []) + 8 * k ≡ 120 + 32 * j
    there k a j b = omega arith
lying (k ∷ j ∷ i ∷ ks) h = absurd h.1.1

dims_there : DimsAt areas memory 200 dims
unfolding number put poke loaded
dims_there = (refl, refl, (refl, refl, tt))

moving : Moving areas memory 300 120 4 200 dims
moving = record {
  bytes = are_bytes;
  base_fits = omega arith;
  dims_there = dims_there;
  dims_end = omega arith;
  packed_usable = usable 300 24 (omega arith) (omega arith);
  element_usable = λ ks h. let l = lying ks h in let e = l.1.1.at in let a = l.1.1.first in let b = l.1.1.second in usable (element 120 dims ks) 4 (omega (arith, e, a, b)) (omega (arith, e, a, b));
  element_apart = λ ks h. let l = lying ks h in let e = l.1.1.at in let b = l.1.1.second in inr (omega (arith, e, b));
}

gathering : Gathering areas memory 300 120 4 200 dims
gathering = record { moving = moving; dims_apart = inr (omega arith) }

scattering : Scattering areas memory 300 120 4 200 dims
scattering = record {
  moving = moving;
  dims_apart = λ ks h. let l = lying ks h in let e = l.1.1.at in let b = l.1.1.second in inl (omega (arith, e, b));
  each_apart = λ ks js h i differ. differing ks js (lying ks h).1.1 (lying js i).1.1 differ;
}
  where
    -- the addresses differ by a multiple of 8 that isn't 0
    differing : {k j k' j' : ℕ} (ks js : List ℕ) → Lying k j ks → Lying k' j' js → ¬ (ks ≡ js) → Apart (element 120 dims ks) 4 (element 120 dims js) 4
    differing {k} {j} {k'} {j'} ks js l l' differ =
        go (nat_le (element 120 dims ks + 4) (element 120 dims js)) refl (nat_le (element 120 dims js + 4) (element 120 dims ks)) refl
      where
        go : (b : Bool) → nat_le (element 120 dims ks + 4) (element 120 dims js) ≡ b → (c : Bool) → nat_le (element 120 dims js + 4) (element 120 dims ks) ≡ c → Apart (element 120 dims ks) 4 (element 120 dims js) 4
        go true p c q = inl (grind (arith, nat_tests))
        go false p true q = inr (grind (arith, nat_tests))
        go false p false q =
            let near : element 120 dims js < element 120 dims ks + 4 = grind (arith, nat_tests) in
            let near' : element 120 dims ks < element 120 dims js + 4 = grind (arith, nat_tests) in
            let same : k ≡ k' = omega (arith, near, near', l.at, l'.at, l.first, l'.first) in
            let same' : j ≡ j' = omega (arith, near, near', l.at, l'.at, l.first, l'.first) in
            absurd (differ (l.are ∙ (ap (λ k. k ∷ j ∷ []) same ∙ (ap (λ j. k' ∷ j ∷ []) same' ∙ sym l'.are))))

gather_instance : (m' : Bytes) × Gathered memory m' 300 120 4 dims × Exactly (seen start Running) 49 (showing 25 300 [] (with_memory start m')) (calls_of procs places 20 1 (300 ∷ 120 ∷ 4 ∷ 2 ∷ 200 ∷ 6 ∷ []) start (showing 25 300))
gather_instance = gathers copy_bytes copies procs places 0 1 refl refl 20 300 120 4 200 dims start (showing 25 300) (omega arith) (λ h. gathering) (omega arith)

scatter_instance : (m' : Bytes) × Scattered memory m' 300 120 4 dims × Exactly (seen start Running) 49 (showing 9 136 [] (with_memory start m')) (calls_of procs places 20 2 (300 ∷ 120 ∷ 4 ∷ 2 ∷ 200 ∷ 6 ∷ []) start (showing 9 136))
scatter_instance = scatters copy_bytes copies procs places 0 2 refl refl 20 300 120 4 200 dims start (showing 9 136) (omega arith) (λ h. scattering) (omega arith)

-- what is returned
abbrev telling : Back
telling rs w i = record { output = rs; taken = 0; ending = Stopped (pos 0) }

counted_run : calls_of procs places 9 3 (2 ∷ 200 ∷ []) start telling 3 ≡ record { output = 6 ∷ []; taken = 0; ending = Stopped (pos 0) }
unfolding number put poke loaded stored
counted_run = refl

count_instance : Exactly (seen start Running) 3 (telling (6 ∷ []) start) (calls_of procs places 9 3 (2 ∷ 200 ∷ []) start telling)
count_instance = counts procs places 3 refl 9 200 dims start telling (omega arith) dims_there (omega arith) (omega arith)

-- the same array as a view, whose subscripts begin at 1 and at 5
abbrev axes : List AxisDim
axes = record { lower = pos 1; extent = pos 3; sm = negsuc 7 } ∷ record { lower = pos 5; extent = pos 2; sm = pos 32 } ∷ []

same_dims : dims_of axes ≡ dims
same_dims = refl

strides : AreStrides axes
strides zero d h = record { sfits = omega arith }
strides (suc zero) d h = record { sfits = omega arith }
strides (suc (suc k)) d h = absurd (omega arith)

view_instance : element 120 dims (2 ∷ 1 ∷ []) ≡ 136
view_instance = (is_view 120 axes strides).each (2 ∷ 1 ∷ []) 136 (omega arith, (omega arith, tt)) (omega arith) refl
