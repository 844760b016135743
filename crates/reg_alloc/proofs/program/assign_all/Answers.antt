use Rattle.std.proofs.Common.{◌∙◌, sym, ap, arith, length, length-append, List, ◌∷◌, []}
use Rattle.block_homes.specs.declared.homes.Assignment.{Assignment}
use Rattle.reg_alloc.proofs.Assigned.{assigned_more, are_assigned, all_valid}
use Rattle.reg_alloc.proofs.program.assign_all.Goals as goal

pub loop-proc-preserved : goal.loop-proc-preserved
loop-proc-preserved c =
    let old = c.loop-proc.assignments.items in
    let new = c.add.new.assignments.items in
    let a = c.in_ok-assignment.assignment in
    let e = c.in_ok-assignment.ensures in
    let n = ap (λ (l : List Assignment). length l) c.in_ok-add.ensures in
    let m = length-append old (a ∷ []) in
    record {
      so_far = omega (arith, n, m, c.loop-proc.invariant.so_far);
      each = assigned_more c.args.procs.now old new c.loop-proc.proc-index c.proc-item.result a c.in_ok-add.ensures c.loop-proc.invariant.so_far c.loop-proc-test.true c.proc-item.is (record { homes = e.homes; valid = e.valid; slots = e.slots }) c.loop-proc.invariant.each;
    }

pub returns-clause-assigned : goal.returns-clause-assigned
returns-clause-assigned c = are_assigned c.args.procs.now c.loop-proc.assignments.items c.loop-proc.proc-index c.loop-proc.invariant.so_far (let t = c.loop-proc-test.false in let u = c.loop-proc.auto.proc-index-end in omega (arith, t, u)) c.loop-proc.invariant.each

pub returns-clause-valid : goal.returns-clause-valid
returns-clause-valid c = all_valid c.args.procs.now c.loop-proc.assignments.items c.loop-proc.proc-index c.loop-proc.invariant.so_far (let t = c.loop-proc-test.false in let u = c.loop-proc.auto.proc-index-end in omega (arith, t, u)) c.loop-proc.invariant.each c.requires.named
