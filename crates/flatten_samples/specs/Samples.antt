-- Small programs, and where they are placed.
use Rattle.std.specs.Prelude.{◌+◌, ◌*◌, List, [], ◌∷◌, false}
use Rattle.jf_base.specs.declared.numbers.Width.TheVariants.{W1, W4, W8}
use Rattle.flat_ir.specs.declared.program.Exceeded.TheVariants as X
use Rattle.flat_ir.specs.declared.program.Operation.TheVariants as O
use Rattle.flat_ir.specs.declared.program.FlatExpr.TheVariants as E
use Rattle.flat_ir.specs.declared.program.FlatStmt.{FlatStmt}
use Rattle.flat_ir.specs.declared.program.FlatStmt.TheVariants as S
use Rattle.flat_ir.specs.declared.program.FlatProc.{FlatProc}
use Rattle.flat_ir.specs.declared.program.FlatProgram.{FlatProgram}
use Rattle.flat_ir.specs.Placement.{Placement}
use Rattle.flatten.specs.declared.blocks.BlockInsn.TheVariants as I
use Rattle.flatten.specs.declared.blocks.BlockEnd.TheVariants as B
use Rattle.flatten.specs.declared.blocks.BlockProc.{BlockProc}

-- the image at 65536, procedures from 4096 on, and 64 bytes of frames
abbrev pub placed : Placement
placed = record { image = 65536; procs = λ p. 4096 + 4 * p; limits = record { steps = 1000; heap = 4096; objects = 4096; frames = 64 } }

-- the sum of two arguments
abbrev pub adds : FlatProc
adds = record { params = 2; values = 2; charge = 16; body = S.Return (E.Binary O.Add (E.Value 0) (E.Value 1) ∷ []) ∷ [] }

-- every kind of statement but a limit
abbrev pub each_kind : List FlatStmt
each_kind =
    S.Take 0
    ∷ S.Give (E.Binary O.Add (E.Value 0) (E.Number 1))
    ∷ S.Store W4 (E.Image 0) (E.Number 1099511627843)
    ∷ S.Load 1 W8 false (E.Image 0)
    ∷ S.Give (E.Value 1)
    ∷ S.Call (2 ∷ []) 0 (E.Value 1 ∷ E.Number 1 ∷ [])
    ∷ S.Give (E.Value 2)
    ∷ S.CallAt (2 ∷ []) (E.Procedure 0) (E.Number 1 ∷ E.Value 2 ∷ [])
    ∷ S.Give (E.Value 2)
    ∷ S.Set 3 (E.Number 2)
    ∷ S.Loop (S.If (E.Value 3) (S.Set 3 (E.Binary O.Sub (E.Value 3) (E.Number 1)) ∷ []) (S.Break 0 ∷ []) ∷ [])
    ∷ S.Stop (E.Binary O.Add (E.Value 3) (E.Load W1 false (E.Image 0)))
    ∷ []

abbrev pub kinds : FlatProgram
kinds = record {
  procs = adds ∷ record { params = 0; values = 4; charge = 32; body = each_kind } ∷ [];
  image = 0 ∷ 0 ∷ 0 ∷ 0 ∷ 0 ∷ 0 ∷ 0 ∷ 0 ∷ [];
  fixes = [];
  entry = 1;
}

-- a procedure that gives a byte and calls itself, with a frame of 16 bytes: four frames fit
abbrev pub calls_itself : FlatProgram
calls_itself = record {
  procs = record { params = 0; values = 0; charge = 16; body = S.Give (E.Number 120) ∷ S.Call [] 0 [] ∷ [] } ∷ [];
  image = [];
  fixes = [];
  entry = 0;
}

-- a loop within a loop, both left at once, and then a limit
abbrev pub leaves_two : FlatProgram
leaves_two = record {
  procs = record { params = 0; values = 0; charge = 0; body = S.Loop (S.Loop (S.Give (E.Number 97) ∷ S.Break 1 ∷ []) ∷ S.Give (E.Number 98) ∷ []) ∷ S.Limit X.Objects ∷ [] } ∷ [];
  image = [];
  fixes = [];
  entry = 0;
}

-- a value that is set on one of two paths alone, before both give it
abbrev pub sets_on_one_path : BlockProc
sets_on_one_path = record {
  params = 1;
  blocks =
      record { insns = []; end = B.Branch 0 1 2 }
      ∷ record { insns = I.Number 1 7 ∷ []; end = B.Jump 2 }
      ∷ record { insns = I.Give 1 ∷ []; end = B.Return [] }
      ∷ [];
  values = 2;
  frame = 0;
}
