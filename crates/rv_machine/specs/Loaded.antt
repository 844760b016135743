-- The machine at the start of a run.
use Rattle.std.specs.Prelude.{ℕ, ◌+◌, ◌-◌, ◌*◌, ◌/◌, ◌%◌, ◌^◌, min, List, ◌∷◌, ◌++◌, length, replicate}
use Rattle.jf_base.specs.declared.place.Limits.{Limits}
use Rattle.program_image.specs.declared.Image.{Image}
use Rattle.rv_machine.specs.declared.event.Mode.TheVariants.{Ready}
use Rattle.rv_machine.specs.State.{State}

-- the least multiple of 16 that is n or more
abbrev pub rounded : ℕ → ℕ
rounded n = (n + 15) / 16 * 16

-- the memory begins at 65,536 with the image. Behind it, each at a multiple of 16, stand the frames with 8,192 bytes more,
abbrev pub frames_at : Image → ℕ
frames_at i = 65536 + rounded (length i.bytes)

-- the objects,
abbrev pub objects_at : Image → Limits → ℕ
objects_at i l = frames_at i + l.frames + 8192

-- and the heap of twice its limit and 4,096 bytes
abbrev pub heap_at : Image → Limits → ℕ
heap_at i l = objects_at i l + l.objects

abbrev pub memory_size : Image → Limits → ℕ
memory_size i l = heap_at i l + 2 * l.heap + 4096 - 65536

-- x2 is the end of the frames, a0 and a1 the start and size of the objects, a2 the start of the heap, a3 its limit, a4 the start of the frames, and all others are 0
abbrev pub first_registers : Image → Limits → List ℕ
first_registers i l =
    0 ∷ 0 ∷ objects_at i l ∷ 0 ∷ 0 ∷ 0 ∷ 0 ∷ 0 ∷ 0 ∷ 0 ∷ objects_at i l ∷ l.objects ∷ heap_at i l ∷ l.heap ∷ frames_at i ∷ replicate 17 0

-- the code is the first `code_len` bytes, or all where there are fewer; `entry` is an offset from the first address
unfoldable pub loaded : Image → Limits → State
loaded i l = record {
  registers = first_registers i l;
  memory = i.bytes ++ replicate (memory_size i l - length i.bytes) 0;
  code = min i.code_len (length i.bytes);
  pc = (65536 + i.entry) % 2 ^ 64;
  mode = Ready;
}
