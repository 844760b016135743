-- The trees of statements as the grammar has them, without the numbers of their tokens.
use Rattle.std.specs.Prelude.{ℕ, List, [], ◌∷◌, Option, Some, None, Ok, if◌then◌else◌}
use Rattle.std.specs.Option.{option_map}
use Rattle.c_tree.specs.declared.statement.BlockItem.{BlockItem, fold-BlockItem}
use Rattle.c_tree.specs.declared.statement.BlockItem.TheOpen as open_
use Rattle.c_tree.specs.declared.statement.BlockItem.TheOpen.{BlockItem-F, Statement-F}
use Rattle.c_tree.specs.declared.statement.BlockItem.TheFolds.{fold-Statement}
use Rattle.c_tree.specs.declared.statement.Statement.{Statement}
use Rattle.c_tree.specs.declared.statement.ForStart.{ForStart}
use Rattle.c_tree.specs.declared.statement.ForStart.TheVariants as start
use Rattle.c_grammar.specs.Grammar.{Scope, Expr, starts_type}
use Rattle.c_grammar.specs.Reading.{◌>>=◌, Read, Reader}
use Rattle.c_unit_grammar.specs.Statements.{Declaration, Start, ForDeclares, ForExpr, Stmt, Block, Empty, Do, OnlyIf, IfElse, Switch, Case, Default, While, DoWhile, For, Break, Continue, Return, Items, nothing, declares, does, after_declaration, after_stmt}
use Rattle.c_unit_grammar.specs.Reading.{declaration_at}
use Rattle.c_expression_read.specs.Gives.{onto}
use Rattle.c_expression_read.specs.Views.{view}
use Rattle.c_declaration_read.specs.Views.{view_declaration}

-- what stands in a block
pub data Item : Type 0 where
  Declared : (d : Declaration) → Item
  Done : (x : Stmt) → Item

abbrev pub in_front : Item → Items → Items
in_front (Declared d) rest = declares d rest
in_front (Done x) rest = does x rest

abbrev pub items_of : List Item → Items
items_of is = onto in_front is nothing

abbrev pub after_item : Item → Scope → Scope
after_item (Declared d) s = after_declaration d s
after_item (Done x) s = after_stmt x s

-- a declaration where specifiers begin, and else a statement
abbrev pub item_at : ℕ → Reader Stmt → Reader Item
item_at n sub s ts = if starts_type s ts then (declaration_at n s ts >>= λ x. Ok (Declared x.0, x.1)) else (sub s ts >>= λ x. Ok (Done x.0, x.1))

-- a block
abbrev pub block_of : Read Items → Read Stmt
block_of read = read >>= λ x. Ok (Block x.0, x.1)

-- ---- trees

abbrev pub view_start : ForStart → Start
view_start (start.Declaration d) = ForDeclares (view_declaration d)
view_start (start.Expression e) = ForExpr (option_map view e)

-- an expression, or nothing, before a semicolon
abbrev pub expression_of : Option Expr → Stmt
expression_of None = Empty
expression_of (Some e) = Do e

abbrev pub if_of : Expr → Stmt → Option Stmt → Stmt
if_of test body None = OnlyIf test body
if_of test body (Some otherwise) = IfElse test body otherwise

abbrev pub item_seen : BlockItem-F Item Stmt → Item
item_seen (open_.Declaration d) = Declared (view_declaration d)
item_seen (open_.Statement x) = Done x

abbrev pub statement_seen : Statement-F Item Stmt → Stmt
statement_seen (open_.Block items at) = Block (items_of items)
statement_seen (open_.Expression value at) = expression_of (option_map view value)
statement_seen (open_.If test body otherwise at) = if_of (view test) body otherwise
statement_seen (open_.Switch value body at) = Switch (view value) body
statement_seen (open_.Case value body at) = Case (view value) body
statement_seen (open_.Default body at) = Default body
statement_seen (open_.While test body at) = While (view test) body
statement_seen (open_.DoWhile body test at) = DoWhile body (view test)
statement_seen (open_.For start test step body at) = For (view_start start) (option_map view test) (option_map view step) body
statement_seen (open_.Break at) = Break
statement_seen (open_.Continue at) = Continue
statement_seen (open_.Return value at) = Return (option_map view value)

abbrev pub view_statement : Statement → Stmt
view_statement = fold-Statement Item Stmt item_seen statement_seen

abbrev pub view_item : BlockItem → Item
view_item = fold-BlockItem Item Stmt item_seen statement_seen
