-- What is known of a program's statements.
use Rattle.std.specs.Prelude.{◌≡◌, ℕ, List, [], Option, Some, None, Bool, true}
use Rattle.f_items.specs.declared.item.Access.{Access}
use Rattle.f_items.specs.declared.item.Name.{Name}
use Rattle.f_items.specs.declared.item.Item.TheVariants.{Imports}
use Rattle.f_items.specs.Places.{Located}
use Rattle.f_items.specs.Accessible.{Stands, is_public_access}
use Rattle.f_scope.specs.Program.{Outline}
use Rattle.f_scope.specs.Tables.{Row}
use Rattle.f_stated.specs.Said.{AreSaid}
use Rattle.f_stated.specs.declared.said.Saying.TheVariants as saying

-- the tables say where each scope says something first
pub record AreStated (o : Outline) (access defaults imports whole_imports renamings : List (List Row)) : Type 0 where
  pub access_are : AreSaid saying.Access o.items access o.scopes
  pub defaults_are : AreSaid saying.DefaultAccess o.items defaults o.scopes
  pub imports_are : AreSaid saying.Import o.items imports o.scopes
  pub whole_imports_are : AreSaid saying.WholeImport o.items whole_imports o.scopes
  pub renamings_are : AreSaid saying.Renaming o.items renamings o.scopes

-- a name is public by what is said of it, by what is said of all other names, or if nothing is said
abbrev pub public_by : Option Access → Option Access → Bool
public_by (Some a) other = is_public_access a
public_by None (Some a) = is_public_access a
public_by None None = true

-- an IMPORT statement of the scope has the name
abbrev pub NamesImport : List Located → ℕ → List ℕ → Type 0
NamesImport p scope name = (n : Name) × (n.bytes ≡ name) × Stands p scope (Imports n)
