use Rattle.std.proofs.Common.{◌≡◌, ◌-◌, length, map}
use Rattle.f_declaration_grammar.specs.Listing.{behind_at}
use Rattle.f_expr_read.specs.Gives.{behind}
use Rattle.f_expr_read.specs.Views.{tokens_of}
use Rattle.f_specifier_read.proofs.Lists.{front}
use Rattle.f_specifier_read.proofs.list.more.Given as goal

abbrev pub invariant-loop : goal.invariant-loop
invariant-loop g l = behind front (map g.T.Parse.seen l.all) (behind_at g.T.Parse.one (l.end - l.counter) (tokens_of l.rest)) ≡ behind front (map g.T.Parse.seen l.fn.items) (behind_at g.T.Parse.one (length l.tokens) (tokens_of l.tokens))
