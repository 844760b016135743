-- Statements each of whose numbers names a thing that is there (ISO/IEC 9899:2011, 6.8).
use Rattle.std.specs.Prelude.{ℕ, Bool, true, ◌&&◌, List, Option, map}
use Rattle.c_types.specs.Sizes.{Bodies}
use Rattle.c_resolved.specs.declared.statement.BlockItem.{BlockItem, fold-BlockItem}
use Rattle.c_resolved.specs.declared.statement.BlockItem.TheOpen as open_
use Rattle.c_resolved.specs.declared.statement.BlockItem.TheOpen.{Statement-F, BlockItem-F}
use Rattle.c_resolved.specs.declared.statement.BlockItem.TheFolds.{fold-Statement}
use Rattle.c_resolved.specs.declared.statement.Statement.{Statement}
use Rattle.c_resolved.specs.declared.statement.ForStart.{ForStart}
use Rattle.c_resolved.specs.declared.statement.ForStart.TheVariants as start
use Rattle.c_resolved.specs.declared.check_type.Counts.{Counts}
use Rattle.c_resolved.specs.Lists.{all_of, if_there, of_any}
use Rattle.c_resolved.specs.Kinds.{token_fits}
use Rattle.c_resolved.specs.Expressions.{expr_fits}
use Rattle.c_resolved.specs.Declarations.{declaration_fits}

-- 6.8.5.3
abbrev pub start_fits : Counts → Bodies → ForStart → Bool
start_fits n types (start.Declaration d) = declaration_fits n types d
start_fits n types (start.Expression e) = of_any (expr_fits n types) e

abbrev pub statement_step : Counts → Bodies → Statement-F Bool Bool → Bool
statement_step n types (open_.Block items at) = all_of items && token_fits n at
statement_step n types (open_.Expression value at) = of_any (expr_fits n types) value && token_fits n at
statement_step n types (open_.If test body otherwise at) = expr_fits n types test && (body && (if_there otherwise && token_fits n at))
statement_step n types (open_.Switch value body at) = expr_fits n types value && (body && token_fits n at)
statement_step n types (open_.Case constant value body at) = expr_fits n types constant && (body && token_fits n at)
statement_step n types (open_.Default body at) = body && token_fits n at
statement_step n types (open_.While test body at) = expr_fits n types test && (body && token_fits n at)
statement_step n types (open_.DoWhile body test at) = body && (expr_fits n types test && token_fits n at)
statement_step n types (open_.For first test step body at) = start_fits n types first && (of_any (expr_fits n types) test && (of_any (expr_fits n types) step && (body && token_fits n at)))
statement_step n types (open_.Break at) = token_fits n at
statement_step n types (open_.Continue at) = token_fits n at
statement_step n types (open_.Return value at) = of_any (expr_fits n types) value && token_fits n at

-- 6.8.2
abbrev pub item_step : Counts → Bodies → BlockItem-F Bool Bool → Bool
item_step n types (open_.Declaration d) = declaration_fits n types d
item_step n types (open_.Statement s) = s

abbrev pub statement_fits : Counts → Bodies → Statement → Bool
statement_fits n types = fold-Statement Bool Bool (item_step n types) (statement_step n types)

abbrev pub item_fits : Counts → Bodies → BlockItem → Bool
item_fits n types = fold-BlockItem Bool Bool (item_step n types) (statement_step n types)

abbrev pub items_fit : Counts → Bodies → List BlockItem → Bool
items_fit n types items = all_of (map (item_fits n types) items)
