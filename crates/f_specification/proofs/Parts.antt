-- What a single statement of a specification part does by the table of what may stand where is what `next_part` says (ISO/IEC 1539-1:2018, 5.3.2).
use Rattle.std.proofs.Common.{◌≡◌, Some, true, refl, ap}
use Rattle.std.specs.Prelude.{is_some}
use Rattle.std.specs.Option.{IsSome}
use Rattle.f_statement_grammar.specs.Statements.{Declaring}
use Rattle.f_unit_grammar.specs.Units.{Part, Beginning, BehindImport, BehindImplicit, Executing, Scope, InProgram, InModule, InProcedure, InBody, InUnit, Role, stays, none, role, use_role, import_role, implicit_role, if_declares}
use Rattle.f_declared.specs.declared.statement.Declared.{Declared}
use Rattle.f_declared.specs.declared.statement.Declared.TheVariants as statement
use Rattle.f_declared.specs.Views.{view_declared}
use Rattle.f_unit_parts.specs.declared.kind.Kind.{Kind}
use Rattle.f_unit_parts.specs.declared.kind.Kind.TheVariants as kind
use Rattle.f_unit_parts.specs.Views.{kind_of}
use Rattle.f_specification.specs.Stages.{next_part, is_single}

-- the unit stays open, and how far it has come is as `next_part` says
pub record Stays (u : Scope) (p : Part) (k : Kind) (r : Role) : Type 0 where
  pub behind : Part
  pub part_is : next_part p k ≡ Some behind
  pub role_is : r ≡ stays (InUnit u behind)

use_stays : (u : Scope) (p : Part) → (use_role u p ≡ none → ⊥) → Stays u p kind.Use (use_role u p)
use_stays u Beginning h = record { behind = Beginning; part_is = refl; role_is = refl }
use_stays u BehindImport h = absurd (h refl)
use_stays u BehindImplicit h = absurd (h refl)
use_stays u Executing h = absurd (h refl)

import_stays : (u : Scope) (p : Part) → (import_role u p ≡ none → ⊥) → Stays u p kind.Import (import_role u p)
import_stays (InBody f name) Beginning h = record { behind = BehindImport; part_is = refl; role_is = refl }
import_stays (InBody f name) BehindImport h = absurd (h refl)
import_stays (InBody f name) BehindImplicit h = absurd (h refl)
import_stays (InBody f name) Executing h = absurd (h refl)
import_stays (InProgram name) p h = absurd (h refl)
import_stays (InModule name) p h = absurd (h refl)
import_stays (InProcedure f name) p h = absurd (h refl)

implicit_stays : (u : Scope) (p : Part) → (implicit_role u p ≡ none → ⊥) → Stays u p kind.ImplicitNone (implicit_role u p)
implicit_stays u Beginning h = record { behind = BehindImplicit; part_is = refl; role_is = refl }
implicit_stays u BehindImport h = record { behind = BehindImplicit; part_is = refl; role_is = refl }
implicit_stays u BehindImplicit h = absurd (h refl)
implicit_stays u Executing h = absurd (h refl)

abbrev declaration_role : Scope → Part → Role
declaration_role u p = if_declares p (stays (InUnit u BehindImplicit))

-- the premise is that the statement is a declaration, at each part
declaration_stays : (u : Scope) (p : Part) (k : Kind) → next_part Beginning k ≡ Some BehindImplicit → next_part BehindImport k ≡ Some BehindImplicit → next_part BehindImplicit k ≡ Some BehindImplicit → (declaration_role u p ≡ none → ⊥) → Stays u p k (declaration_role u p)
declaration_stays u Beginning k at_beginning behind_import behind_implicit h = record { behind = BehindImplicit; part_is = at_beginning; role_is = refl }
declaration_stays u BehindImport k at_beginning behind_import behind_implicit h = record { behind = BehindImplicit; part_is = behind_import; role_is = refl }
declaration_stays u BehindImplicit k at_beginning behind_import behind_implicit h = record { behind = BehindImplicit; part_is = behind_implicit; role_is = refl }
declaration_stays u Executing k at_beginning behind_import behind_implicit h = absurd (h refl)

-- a single statement that may stand in a unit leaves it open, as far as `next_part` says
pub single_stays : (u : Scope) (p : Part) (d : Declared) → is_single (kind_of d) ≡ true → (role (InUnit u p) (Declaring (view_declared d)) ≡ none → ⊥) → Stays u p (kind_of d) (role (InUnit u p) (Declaring (view_declared d)))
unfolding role
single_stays u p (statement.Use used) is h = use_stays u p h
single_stays u p (statement.Import i) is h = import_stays u p h
single_stays u p (statement.ImplicitNone place) is h = implicit_stays u p h
single_stays u p (statement.Variables v) is h = declaration_stays u p kind.Variables refl refl refl h
single_stays u p (statement.Access a) is h = declaration_stays u p kind.Access refl refl refl h
single_stays u p (statement.Save place) is h = declaration_stays u p kind.Save refl refl refl h
single_stays u p (statement.ProcedurePointers ps) is h = declaration_stays u p kind.ProcedurePointers refl refl refl h
single_stays u p (statement.Program place name) is h = absurd (cc)
single_stays u p (statement.Module place name) is h = absurd (cc)
single_stays u p (statement.Head head) is h = absurd (cc)
single_stays u p (statement.Contains place) is h = absurd (cc)
single_stays u p (statement.TypeStart t) is h = absurd (cc)
single_stays u p (statement.InterfaceStart place is_abstract) is h = absurd (cc)
single_stays u p (statement.End place) is h = absurd (cc)
single_stays u p (statement.EndOf place what is_one_word name) is h = absurd (cc)

-- so it may be put there
pub single_may_be_put : (u : Scope) (p : Part) (d : Declared) → is_single (kind_of d) ≡ true → (role (InUnit u p) (Declaring (view_declared d)) ≡ none → ⊥) → IsSome (next_part p (kind_of d))
single_may_be_put u p d is h = let s = single_stays u p d is h in ap is_some s.part_is
