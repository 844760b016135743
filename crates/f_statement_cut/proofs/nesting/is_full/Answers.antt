use Rattle.std.proofs.Common.{◌≡◌, ℕ, ◌-◌, nat_lt, not, sym, ap, ◌∙◌}
use Rattle.f_statement_cut.proofs.Deepening.{full, bounded}
use Rattle.f_statement_cut.proofs.nesting.is_full.Goals as goal

is_most : (nested most around : ℕ) → most ≡ 64 - around → not (nat_lt nested most) ≡ not (nat_lt nested (64 - around))
is_most nested most around e = ap (λ (n : ℕ). not (nat_lt nested n)) e

pub returns-clause-exact : goal.returns-clause-exact
returns-clause-exact c = is_most c.args.nested c.saturating_sub.result c.args.around c.saturating_sub.ensures ∙ full c.args.around c.args.nested

pub returns-clause-small : goal.returns-clause-small
returns-clause-small c = λ e. bounded c.args.around c.args.nested (sym (is_most c.args.nested c.saturating_sub.result c.args.around c.saturating_sub.ensures ∙ full c.args.around c.args.nested) ∙ e)
