-- Where a program is placed. What is said of code holds for each placement.
use Rattle.std.specs.Prelude.{◌≡◌, ℕ, zero, suc, ◌+◌, ◌-◌, ◌*◌, ◌/◌, ◌%◌, ◌^◌, ◌<◌, ◌≤◌, ◌⊎◌, nat_eq, nat_le, nat_lt, ◌&&◌, cond, Option, Some, None, List, [], ◌∷◌, length, take, slice_index}
use Rattle.jf_base.specs.Limits.{AreLimits}
use Rattle.jf_base.specs.declared.place.Limits.{Limits}
use Rattle.flat_ir.specs.declared.program.Fix.{Fix}
use Rattle.flat_ir.specs.declared.program.Target.{Target}
use Rattle.flat_ir.specs.declared.program.Target.TheVariants as T
use Rattle.flat_ir.specs.Bytes.{Bytes, Areas, put}

-- where the image begins, the address of each procedure, and the limits
pub record Placement : Type 0 where
  pub image : ℕ
  pub procs : ℕ → ℕ
  pub limits : Limits

-- the least multiple of 16 that is n or more
abbrev pub rounded : ℕ → ℕ
rounded n = (n + 15) / 16 * 16

-- behind an image of n bytes stand the frames with 8,192 bytes more, the objects, and the heap of twice its limit and 4,096 bytes
abbrev pub frames_at : ℕ → Placement → ℕ
frames_at n g = rounded (g.image + n)

abbrev pub objects_at : ℕ → Placement → ℕ
objects_at n g = frames_at n g + g.limits.frames + 8192

abbrev pub heap_at : ℕ → Placement → ℕ
heap_at n g = objects_at n g + g.limits.objects

abbrev pub heap_end : ℕ → Placement → ℕ
heap_end n g = heap_at n g + 2 * g.limits.heap + 4096

-- what code may load and store
abbrev pub areas_of : ℕ → Placement → Areas
areas_of n g = record {
  image = record { low = g.image; high = g.image + n };
  objects = record { low = objects_at n g; high = heap_at n g };
  heap = record { low = heap_at n g; high = heap_end n g };
}

-- the image begins at a multiple of 16; each of so many procedures has a multiple of 4 of its own, apart from the image and the regions; no address is 0 or 2 ^ 63 or more
pub record IsPlacement (count bytes : ℕ) (g : Placement) : Type 0 where
  pub limits : AreLimits g.limits
  pub some : 1 ≤ g.image
  pub whole : g.image % 16 ≡ 0
  pub last : heap_end bytes g ≤ 2 ^ 63
  pub procs_some : (p : ℕ) → p < count → 1 ≤ g.procs p
  pub procs_last : (p : ℕ) → p < count → g.procs p < 2 ^ 63
  pub procs_whole : (p : ℕ) → p < count → g.procs p % 4 ≡ 0
  pub procs_differ : (p q : ℕ) → p < count → q < count → g.procs p ≡ g.procs q → p ≡ q
  pub apart : (p : ℕ) → p < count → (g.procs p < g.image) ⊎ (heap_end bytes g ≤ g.procs p)

-- what code knows of its placement: the start of the image, what may be loaded and stored, the addresses of so many procedures, and the limit of frames
pub record Places : Type 0 where
  pub image : ℕ
  pub areas : Areas
  pub procs : ℕ → ℕ
  pub count : ℕ
  pub frames : ℕ

abbrev pub places : ℕ → ℕ → Placement → Places
places count bytes g = record { image = g.image; areas = areas_of bytes g; procs = g.procs; count = count; frames = g.limits.frames }

-- the procedure at an address, among the first n
abbrev pub proc_at : (ℕ → ℕ) → ℕ → ℕ → Option ℕ
proc_at procs zero a = None
proc_at procs (suc n) a = cond (nat_eq (procs n) a) (Some n) (proc_at procs n a)

abbrev pub address_of : Placement → Target → ℕ
address_of g (T.Proc p) = g.procs p
address_of g (T.Image n) = g.image + n

-- the image with its addresses; all other bytes are 0
abbrev pub fixed : Placement → List Fix → Bytes → Bytes
fixed g [] m = m
fixed g (f ∷ fs) m = fixed g fs (put 8 m (g.image + f.at) (address_of g f.target))

abbrev pub image_bytes : Placement → List ℕ → Bytes
image_bytes g image a = cond (nat_le g.image a && nat_lt a (g.image + length image)) (slice_index image (a - g.image)) 0

abbrev pub first_bytes : Placement → List ℕ → List Fix → Bytes
first_bytes g image fixes = fixed g fixes (image_bytes g image)

-- what the entry gets, as far as it has parameters: the start and the size of the objects, the start of the heap, its limit, and the start of the frames
abbrev pub entry_arguments : ℕ → ℕ → Placement → List ℕ
entry_arguments params bytes g = take params (objects_at bytes g ∷ g.limits.objects ∷ heap_at bytes g ∷ g.limits.heap ∷ frames_at bytes g ∷ [])
