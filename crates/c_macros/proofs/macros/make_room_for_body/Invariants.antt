use Rattle.std.proofs.Common.{◌≡◌, ℕ, ◌+◌, ◌-◌, List, [], get_or}
use Rattle.std.specs.Prelude.{vec_len}
use Rattle.c_macros.specs.declared.token.Token.{Token}
use Rattle.c_macros.specs.Stack.{texts}
use Rattle.c_macros.specs.Keeping.{put}
use Rattle.c_macros.proofs.macros.make_room_for_body.Given as goal

abbrev pub invariant-loop-alloc : goal.invariant-loop-alloc
invariant-loop-alloc l = record {
  same : (n : ℕ) → get_or (texts l.bodies.items) n [] ≡ get_or (texts l.fn.bodies.items) n [];
  value : (body : List Token) → put (texts l.bodies.items) l.name body [] ≡ put (texts l.fn.bodies.items) l.name body [];
}

abbrev pub decreases-loop-alloc : goal.decreases-loop-alloc
decreases-loop-alloc l = (l.name + 1) - vec_len l.bodies
