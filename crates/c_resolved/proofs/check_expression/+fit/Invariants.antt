use Rattle.std.proofs.Common.{◌≡◌, map, drop}
use Rattle.c_resolved.specs.Lists.{all_of}
use Rattle.c_resolved.specs.Expressions.{expr_fits, postfix_fits, link_fits, choice_fits, target_fits}
use Rattle.c_resolved.proofs.check_expression.+fit.Given as goal

abbrev pub invariant-are_exprs-exprs : goal.invariant-are_exprs-exprs
invariant-are_exprs-exprs l = all_of (map (expr_fits l.counts l.t) (drop l.one-index l.all)) ≡ all_of (map (expr_fits l.counts l.t) l.all)

abbrev pub invariant-are_postfixes-postfixes : goal.invariant-are_postfixes-postfixes
invariant-are_postfixes-postfixes l = all_of (map (postfix_fits l.counts l.t) (drop l.one-index l.all)) ≡ all_of (map (postfix_fits l.counts l.t) l.all)

abbrev pub invariant-are_links-links : goal.invariant-are_links-links
invariant-are_links-links l = all_of (map (link_fits l.counts l.t) (drop l.one-index l.all)) ≡ all_of (map (link_fits l.counts l.t) l.all)

abbrev pub invariant-are_choices-choices : goal.invariant-are_choices-choices
invariant-are_choices-choices l = all_of (map (choice_fits l.counts l.t) (drop l.one-index l.all)) ≡ all_of (map (choice_fits l.counts l.t) l.all)

abbrev pub invariant-are_targets-targets : goal.invariant-are_targets-targets
invariant-are_targets-targets l = all_of (map (target_fits l.counts l.t) (drop l.one-index l.all)) ≡ all_of (map (target_fits l.counts l.t) l.all)
