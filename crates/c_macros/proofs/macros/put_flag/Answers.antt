use Rattle.std.proofs.Common.{◌≤◌, ◌<◌, length, get_or, arith, ap, sym, ◌∙◌, false}
use Rattle.c_macros.specs.Keeping.{put}
use Rattle.c_macros.proofs.Puts.{put_longer, put_set}
use Rattle.c_macros.proofs.Tracked.{one_down}
use Rattle.c_macros.proofs.macros.put_flag.Goals as goal

pub loop-flags-preserved : goal.loop-flags-preserved
loop-flags-preserved c =
    let k = c.loop-flags.flags.ok.0 in let e = c.len.ensures in
    let le : length c.loop-flags.flags.items ≤ c.args.name = omega arith in
    record {
      size = (let n = c.in_ok-push.ensures.len in omega arith);
      same = λ m. ap (λ l. get_or l m false) c.in_ok-push.ensures.items ∙ one_down c.loop-flags.flags.items m ∙ c.loop-flags.invariant.same m;
      value = ap (λ l. put l c.args.name c.args.up false) c.in_ok-push.ensures.items ∙ put_longer c.loop-flags.flags.items c.args.name c.args.up false le ∙ c.loop-flags.invariant.value;
    }

pub returns-clause-value : goal.returns-clause-value
returns-clause-value c =
    let k = c.loop-flags.flags.ok.0 in let e = c.len.ensures in
    let lt : c.args.name < length c.loop-flags.flags.items = omega arith in
    sym (put_set c.loop-flags.flags.items c.args.name c.args.up false lt) ∙ c.loop-flags.invariant.value
