use Rattle.std.proofs.Common.{◌≡◌, ℕ, List, sym, subst}
use Rattle.f_use.specs.Places.{AreUsePlaces}
use Rattle.f_use.proofs.associated.associate.Goals as goal

pub used_tables-requires-clause-lists : goal.used_tables-requires-clause-lists
used_tables-requires-clause-lists c = let P : List (List ℕ) → Type 0 = λ l. AreUsePlaces c.args.stated.items l c.args.stated.scopes in subst P (sym c.as_slice.ensures.value) c.in_ok-lists.ensures
