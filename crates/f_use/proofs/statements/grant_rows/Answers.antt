use Rattle.std.proofs.Common.{◌≡◌, ℕ, ◌+◌, length, subst, arith}
use Rattle.f_use.specs.Origins.{Grew}
use Rattle.f_use.specs.Uses.{RowsGive}
use Rattle.f_use.proofs.Grants.{rows_none, rows_more}
use Rattle.f_use.proofs.statements.grant_rows.Goals as goal

pub numbers-init : goal.numbers-init
numbers-init c = record { within = omega arith; grew = rows_none c.args.stated.now.items c.args.scope c.args.module_name.now c.args.source c.args.names.now c.args.table.now }

pub numbers-preserved : goal.numbers-preserved
numbers-preserved c = record {
  within = omega arith;
  grew = rows_more c.args.stated.now.items c.args.scope c.args.module_name.now c.args.source c.args.names.now c.args.table.now c.numbers.table c.grant_row.new.table c.numbers.number (c.numbers.number + 1) (omega arith) c.numbers.invariant.grew c.in_ok-grant_row.ensures;
}

pub returns : goal.returns
returns c =
    let within = c.numbers.invariant.within in
    let ended = c.numbers-test.false in
    let len = c.len-count.ensures in
    let all : c.numbers.number ≡ length c.args.names.now = omega (arith, within, ended, len) in
    let P : ℕ → Type 0 = λ n. Grew c.args.table.now c.numbers.table (RowsGive c.args.stated.now.items c.args.scope c.args.module_name.now c.args.source c.args.names.now n) (RowsGive c.args.stated.now.items c.args.scope c.args.module_name.now c.args.source c.args.names.now n) in
    subst P all c.numbers.invariant.grew
