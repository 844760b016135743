-- The derivation of a file's statements is the one that its units say, and tells them.
use Rattle.std.proofs.Common.{◌≡◌, List, [], sym, ap, subst, ◌∙◌}
use Rattle.f_tree.specs.declared.unit.Unit.{Unit as UnitTree}
use Rattle.f_unit_grammar.specs.Units.{File, IsFile, spell_trees}
use Rattle.f_unit_parts.specs.Units.{units_of}
use Rattle.f_unit_laws.specs.Shapes.{bare_units}
use Rattle.f_unit_laws.specs.Derivations.{derivation}
use Rattle.f_unit_laws.proofs.Spelled.{units_spelled}
use Rattle.f_unit_laws.proofs.Formed.{AreMatched, trees_stand, one_list}
use Rattle.f_unit_laws.proofs.Sorted.{derivation_formed}
use Rattle.f_unit_laws.proofs.UnitShapes.{units_from, units_back}

derived : (units : List UnitTree) (file : IsFile (units_of units [])) → file.trees ≡ derivation units
derived units file = one_list file.trees (derivation units) (trees_stand file.trees 0 File File file.stand).0 (derivation_formed units) (sym file.spelled ∙ sym (units_spelled units))

pub units_are_derivations : (units : List UnitTree) → (spell_trees (derivation units) [] ≡ units_of units []) × ((file : IsFile (units_of units [])) → file.trees ≡ derivation units)
units_are_derivations units = (units_spelled units, derived units)

-- the units of a file by its derivation
told : (units : List UnitTree) → IsFile (units_of units []) → units_from (derivation units) ≡ bare_units units
told units file = units_back (bare_units units) (subst AreMatched (derived units file) (trees_stand file.trees 0 File File file.stand).1)

pub one_tree : (a b : List UnitTree) → IsFile (units_of a []) → units_of a [] ≡ units_of b [] → bare_units a ≡ bare_units b
one_tree a b file same =
    let derivations : derivation a ≡ derivation b = one_list (derivation a) (derivation b) (derivation_formed a) (derivation_formed b) (units_spelled a ∙ same ∙ sym (units_spelled b)) in
    sym (told a file) ∙ ap units_from derivations ∙ told b (subst IsFile same file)
