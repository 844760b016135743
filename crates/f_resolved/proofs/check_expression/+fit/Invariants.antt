use Rattle.std.proofs.Common.{◌≡◌, map, drop}
use Rattle.f_resolved.specs.Lists.{all_of}
use Rattle.f_resolved.specs.Expressions.{argument_fits, each_given, expression_fits, link_fits, part_seen, selects, subscript_fits}
use Rattle.f_resolved.proofs.check_expression.+fit.Given as goal

abbrev pub invariant-are_expressions-expressions : goal.invariant-are_expressions-expressions
invariant-are_expressions-expressions l = all_of (map (expression_fits l.p l.here) (drop l.one-index l.all)) ≡ all_of (map (expression_fits l.p l.here) l.all)

abbrev pub invariant-are_arguments-arguments : goal.invariant-are_arguments-arguments
invariant-are_arguments-arguments l = each_given l.callee (map (argument_fits l.p l.here) (drop l.one-index l.all)) ≡ each_given l.callee (map (argument_fits l.p l.here) l.all)

abbrev pub invariant-are_links-links : goal.invariant-are_links-links
invariant-are_links-links l = all_of (map (link_fits l.p l.here) (drop l.one-index l.all)) ≡ all_of (map (link_fits l.p l.here) l.all)

abbrev pub invariant-are_subscripts-subscripts : goal.invariant-are_subscripts-subscripts
invariant-are_subscripts-subscripts l = all_of (map (subscript_fits l.p l.here) (drop l.one-index l.all)) ≡ all_of (map (subscript_fits l.p l.here) l.all)

abbrev pub invariant-are_parts-parts : goal.invariant-are_parts-parts
invariant-are_parts-parts l = selects l.before (map (part_seen l.p l.here) (drop l.one-index l.all)) ≡ selects l.fn.first (map (part_seen l.p l.here) l.all)
