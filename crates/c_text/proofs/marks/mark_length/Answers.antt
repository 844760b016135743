use Rattle.std.proofs.Common.{◌≤◌, subst, sym, ℕ, length}
use Rattle.c_text.specs.Marks.{mark_length}
use Rattle.c_text.proofs.Best.{longest_within}
use Rattle.c_text.proofs.marks.mark_length.Goals as goal

pub returns-clause-value : goal.returns-clause-value
unfolding mark_length
returns-clause-value c = c.longest.ensures

pub returns-clause-within : goal.returns-clause-within
returns-clause-within c = let P : ℕ → Type 0 = λ n. n ≤ length c.args.text.now in subst P (sym c.longest.ensures) (longest_within _ c.args.text.now)
