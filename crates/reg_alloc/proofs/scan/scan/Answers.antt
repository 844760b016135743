use Rattle.std.proofs.Common.{◌+◌, ◌<◌, ◌≤◌, ◌≡◌, ◌∙◌, ℕ, ap, arith, rules, length}
use Rattle.std.specs.Prelude.{slice_index_or}
use Rattle.reg_alloc.specs.declared.scan.Choice.TheVariants as C
use Rattle.reg_alloc.proofs.Scanning.{at_first}
use Rattle.reg_alloc.proofs.Choosing.{codes_length, open_code, open_proper}
use Rattle.reg_alloc.proofs.Starting.{done_more, order_more, all_done}
use Rattle.reg_alloc.specs.Scan.{codes}
use Rattle.reg_alloc.proofs.scan.scan.Goals as goal

pub loop-i-init : goal.loop-i-init
loop-i-init c =
    let cs = c.in_ok-choices.choices.items in
    let users = c.in_ok-users.users.items in
    let n : length cs ≡ c.args.p.now.values = search rules in
    let all : (u : ℕ) → u < length cs → slice_index_or cs u C.Open ≡ C.Open = λ u lt. c.in_ok-choices.ensures.all u (let m = c.in_ok-choices.ensures.len in omega (arith, m, lt)) in
    record {
      scan = at_first c.args.p.now c.args.ranges.now (codes cs) users (codes_length cs ∙ n) c.in_ok-users.ensures.len (open_code cs all) c.in_ok-users.ensures.all;
      proper = open_proper cs all;
      order = λ j d lo hi. omega arith;
      done = λ j d lt h z. omega (arith, lt);
    }

pub loop-i-preserved : goal.loop-i-preserved
loop-i-preserved c =
    let starts = c.in_ok-starts.starts.items in
    let lt : c.loop-i.i < length starts = (let t = c.loop-i-test.true in let n = c.len-i-end.ensures in omega (arith, t, n)) in
    record {
      scan = c.choose.ensures.scan;
      proper = c.choose.ensures.proper;
      order = order_more starts c.loop-i.i c.index-start.result.now c.index-start.ensures lt c.in_ok-starts.ensures.order;
      done = done_more starts (codes c.loop-i.choices.items) (codes c.choose.new.choices.items) c.loop-i.i c.index-start.result.now c.index-start.ensures lt c.choose.ensures.kept c.choose.ensures.done c.loop-i.invariant.done;
    }

pub returns-clause-scan : goal.returns-clause-scan
returns-clause-scan c =
    let all = all_done c.args.ranges.now c.in_ok-starts.starts.items (codes c.loop-i.choices.items) c.loop-i.i c.in_ok-starts.ensures.starts (let t = c.loop-i-test.false in let n = c.len-i-end.ensures in omega (arith, t, n)) c.loop-i.invariant.done in
    (c.loop-i.users.items, c.loop-i.at, c.loop-i.invariant.scan, λ v lv h. all v (let n = c.requires.ranges.count in omega (arith, n, lv)) h)
