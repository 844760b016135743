use Rattle.std.proofs.Common.{refl}
use Rattle.f_scope.specs.BuiltIn.{intrinsic_names, constant_names, type_names, procedure_names}
use Rattle.f_scope.proofs.built_in.before_program.Goals as goal

pub returns : goal.returns
unfolding intrinsic_names constant_names type_names procedure_names
returns c = rw (c.in_ok-push-2.ensures.items, c.in_ok-put_all-4.ensures, c.in_ok-put_all-3.ensures, c.in_ok-put_all-2.ensures, c.in_ok-put_built_in.ensures, c.in_ok-push.ensures.items, c.in_ok-put_all.ensures, c.new-items.ensures.items) refl
