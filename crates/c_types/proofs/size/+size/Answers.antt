use Rattle.std.proofs.Common.{sym, ◌∙◌, arith}
use Rattle.c_types.specs.Sizes.{alignment, whole_size}
use Rattle.c_types.proofs.SizeLemmas.{has_both, none_unaligned, empty_row, row_too_large}
use Rattle.c_types.proofs.size.+size.Goals as goal

pub array_size-returns-in-None-clause-value : goal.array_size-returns-in-None-clause-value
array_size-returns-in-None-clause-value t c =
    none_unaligned (alignment c.args.t.now c.args.element.now) (whole_size c.args.t.now c.args.element.now) c.args.n (has_both c.args.t.now c.args.element.now) (sym c.align_of.ensures.value ∙ c.in-None.is)

pub array_size-returns-in-Some-clause-value : goal.array_size-returns-in-Some-clause-value
array_size-returns-in-Some-clause-value t c =
    empty_row (alignment c.args.t.now c.args.element.now) (whole_size c.args.t.now c.args.element.now) c.args.n c.in-Some.field-0 (has_both c.args.t.now c.args.element.now) (sym c.align_of.ensures.value ∙ c.in-Some.is) c.if-n-eq0.true

pub array_size-returns-else-size-n-clause-value : goal.array_size-returns-else-size-n-clause-value
array_size-returns-else-size-n-clause-value t c =
    row_too_large (whole_size c.args.t.now c.args.element.now) c.args.n c.in-Some-size_of.size (sym c.size_of.ensures.value ∙ c.in-Some-size_of.is) c.if-size-n.false (omega arith)
