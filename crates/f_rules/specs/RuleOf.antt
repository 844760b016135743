-- Which rule an item breaks, by what its name denotes.
use Rattle.std.specs.Prelude.{◌≡◌, ◌≤◌, ℕ, List, Option, Some, None, Bool, true, false, not, ◌&&◌, is_some, if◌then◌else◌}
use Rattle.f_items.specs.declared.item.Class.{Class}
use Rattle.f_items.specs.declared.item.Declared.{Declared as Named}
use Rattle.f_items.specs.declared.item.Need.{Need}
use Rattle.f_items.specs.Places.{Located, At}
use Rattle.f_items.specs.Declarations.{Declaration, declaration_of, IsDeclared}
use Rattle.f_items.specs.Rules.{Breaks, fits, is_iso_c_binding}
use Rattle.f_scope.specs.declared.name_rule.Rule.{Rule}
use Rattle.f_scope.specs.declared.name_rule.Rule.TheVariants as alone
use Rattle.f_use.specs.declared.origins.Origins.{Origins}
use Rattle.f_rules.specs.declared.declared_types.PartType.{PartType}
use Rattle.f_rules.specs.declared.declared_types.PartType.TheVariants.{Untold, NotDerived, Derived}
use Rattle.f_rules.specs.declared.rule.NameRule.{NameRule}
use Rattle.f_rules.specs.declared.rule.NameRule.TheVariants.{DeclaredOnce, Declared, Public, Present, Acyclic, Single, Typed, Fitting}

abbrev pub number_of : NameRule → ℕ
number_of DeclaredOnce = 1
number_of Declared = 2
number_of Public = 3
number_of Present = 4
number_of Acyclic = 5
number_of Single = 6
number_of Typed = 7
number_of Fitting = 8

-- the least rule that the item at place k breaks, or that it breaks none
abbrev pub RuleFound : List Located → ℕ → Located → Option NameRule → Type 0
RuleFound p k l None = (rule : ℕ) → Breaks p k l rule → ⊥
RuleFound p k l (Some r) = Breaks p k l (number_of r) × ((other : ℕ) → Breaks p k l other → number_of r ≤ other)

abbrev pub RuleAt : List Located → ℕ → Option NameRule → Type 0
RuleAt p k r = (l : Located) → At p k l → RuleFound p k l r

-- ---- by what is found

abbrev pub class_fits : Need → Option Class → Bool
class_fits need None = true
class_fits need (Some c) = fits need c

abbrev pub two : Option ℕ → Bool
two other = is_some other

-- what a reference breaks
abbrev pub reference_rule : Option Origins → Option Class → Need → Option NameRule
reference_rule None c need = Some Declared
reference_rule (Some o) c need = if is_some o.other then Some Single else (if class_fits need c then None else Some Fitting)

-- what a name in a USE statement breaks
abbrev pub taken_rule : Option Origins → Bool → Option NameRule
taken_rule None public = Some Declared
taken_rule (Some o) public = if public then (if is_some o.other then Some Single else None) else Some Public

-- what a declaration breaks, where it is known what it breaks by itself
abbrev pub declared_rule : Option Rule → Bool → Bool → Option NameRule
declared_rule (Some alone.DeclaredOnce) used imported = Some DeclaredOnce
declared_rule (Some alone.Declared) used imported = if used then Some DeclaredOnce else (if imported then Some DeclaredOnce else Some Declared)
declared_rule None used imported = if used then Some DeclaredOnce else (if imported then Some DeclaredOnce else None)

-- what a selection breaks, by the type of the part before it
abbrev pub selection_rule : PartType → Option ℕ → Option NameRule
selection_rule Untold c = None
selection_rule NotDerived c = None
selection_rule (Derived t) None = Some Declared
selection_rule (Derived t) (Some c) = None

-- what a USE statement breaks
abbrev pub use_rule : Option ℕ → Bool → List ℕ → Option NameRule
use_rule None is_intrinsic name = Some Present
use_rule (Some m) is_intrinsic name = if is_intrinsic && not (is_iso_c_binding name) then Some Present else None
