use Rattle.std.proofs.Common.{◌≤◌, ◌<◌, length, arith, ap, sym, ◌∙◌, [], ◌∷◌, ◌++◌}
use Rattle.c_macros.specs.Keeping.{put}
use Rattle.c_macros.proofs.Puts.{put_longer, put_set}
use Rattle.c_define.proofs.definitions.put_written.Goals as goal

pub loop-alloc-preserved : goal.loop-alloc-preserved
loop-alloc-preserved c =
    let k = c.loop-alloc.written.ok.0 in let e = c.len.ensures in
    let ls = c.loop-alloc.written.items in
    let le : length ls ≤ c.args.number = omega arith in
    ap (λ l. put l c.args.number c.args.tokens []) (c.in_ok-push.ensures.items ∙ ap (λ v. ls ++ (v ∷ [])) (c.from_vec.ensures ∙ c.new.ensures.items)) ∙ put_longer ls c.args.number c.args.tokens [] le ∙ c.loop-alloc.invariant

pub returns : goal.returns
returns c =
    let k = c.loop-alloc.written.ok.0 in let e = c.len.ensures in
    let lt : c.args.number < length c.loop-alloc.written.items = omega arith in
    sym (put_set c.loop-alloc.written.items c.args.number c.args.tokens [] lt) ∙ c.loop-alloc.invariant
