use Rattle.std.proofs.Common.{sym, subst, Option}
use Rattle.std.specs.Prelude.{MatchOption}
use Rattle.c_literal.specs.declared.integer.IntegerConstant.{IntegerConstant}
use Rattle.c_literal.specs.Integers.{IsConstant, IsNoConstant}
use Rattle.c_literal.proofs.IntegerLaws.{constant_read}
use Rattle.c_literal.proofs.integer.integer_constant.Goals as goal

pub returns : goal.returns
returns c = let P : Option IntegerConstant → Type 0 = λ o. MatchOption o (IsNoConstant c.args.spelling.now) (IsConstant c.args.spelling.now) in
    subst P (sym c.constant_at.ensures) (constant_read c.args.spelling.now)
