-- Declarations each of whose numbers names a thing that is there (ISO/IEC 9899:2011, 6.7).
use Rattle.std.specs.Prelude.{ℕ, Bool, true, ◌&&◌, List, map, nat_le, nat_lt}
use Rattle.std.specs.List.{list_all}
use Rattle.c_types.specs.Sizes.{Bodies}
use Rattle.c_resolved.specs.declared.declaration.StringLiteral.{StringLiteral}
use Rattle.c_resolved.specs.declared.declaration.Initializer.{Initializer, Initializer-F, fold-Initializer}
use Rattle.c_resolved.specs.declared.declaration.Initializer.TheOpen as open_
use Rattle.c_resolved.specs.declared.declaration.Local.{Local}
use Rattle.c_resolved.specs.declared.declaration.LocalDeclaration.{LocalDeclaration}
use Rattle.c_resolved.specs.declared.declaration.Declaration.{Declaration}
use Rattle.c_resolved.specs.declared.check_type.Counts.{Counts}
use Rattle.c_resolved.specs.Lists.{all_of, of_any}
use Rattle.c_resolved.specs.Kinds.{name_fits, token_fits, type_fits}
use Rattle.c_resolved.specs.Expressions.{expr_fits}

-- 6.4.5: each part is a string literal of the unit
abbrev pub string_fits : Counts → StringLiteral → Bool
string_fits n s = nat_lt s.first n.literals && (list_all (λ x. nat_lt x n.literals) s.others && token_fits n s.at)

abbrev pub initializer_step : Counts → Bodies → Initializer-F Bool → Bool
initializer_step n types (open_.Value e) = expr_fits n types e
initializer_step n types (open_.Text s) = string_fits n s
initializer_step n types (open_.Aggregate items at) = all_of items && token_fits n at

abbrev pub initializer_fits : Counts → Bodies → Initializer → Bool
initializer_fits n types = fold-Initializer Bool (initializer_step n types)

abbrev pub local_fits : Counts → Local → Bool
local_fits n x = name_fits n x.name && (type_fits n x.kind && token_fits n x.at)

-- what a block declares is a local of its function and no parameter
abbrev pub local_declaration_fits : Counts → Bodies → LocalDeclaration → Bool
local_declaration_fits n types d = nat_le n.parameters d.local && (nat_lt d.local n.locals && (of_any (initializer_fits n types) d.value && token_fits n d.at))

abbrev pub declaration_fits : Counts → Bodies → Declaration → Bool
declaration_fits n types d = list_all (λ x. local_declaration_fits n types x) d.locals && token_fits n d.at
