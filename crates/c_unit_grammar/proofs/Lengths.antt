-- The rest of the tokens is no longer than the whole.
use Rattle.std.proofs.Common.{ℕ, ◌+◌, ◌≤◌, List, [], ◌∷◌, length, Option, Some, None, arith}
use Rattle.c_grammar.specs.declared.token.Token.{Token}
use Rattle.c_grammar.specs.declared.token.Token.TheVariants as token
use Rattle.c_grammar.specs.Grammar.{Expr, spell, spell_decl, spell_comma}
use Rattle.c_grammar.proofs.Lengths.{grows, grows_specs, grows_decl, grows_comma}
use Rattle.c_unit_grammar.specs.Statements.{Initial, Value, Braced, Initials, no_initials, initial, spell_initial, spell_initials, Init, init, Declaration, Bare, Declares, spell_value, spell_init, spell_inits, spell_declaration, Start, ForDeclares, ForExpr, Stmt, Block, Empty, Do, OnlyIf, IfElse, Switch, Case, Default, While, DoWhile, For, Break, Continue, Return, Items, nothing, declares, does, spell_optional, spell_start, spell_stmt, spell_items, Ext, Outer, Defines, spell_ext}

abbrev pub count_initials : Initials → ℕ
count_initials no_initials = 0
count_initials (initial i more) = count_initials more + 1

mutual
  pub grows_initial : (i : Initial) (rest : List Token) → length rest ≤ length (spell_initial i rest)
  grows_initial (Value e) rest = grows e rest
  grows_initial (Braced i is c) rest = omega (arith, grows_initial i (spell_initials is (spell_comma c (token.BraceClose ∷ rest))), grows_initials is (spell_comma c (token.BraceClose ∷ rest)), grows_comma c (token.BraceClose ∷ rest))

  pub grows_initials : (is : Initials) (rest : List Token) → count_initials is + length rest ≤ length (spell_initials is rest)
  grows_initials no_initials rest = omega arith
  grows_initials (initial i more) rest = omega (arith, grows_initial i (spell_initials more rest), grows_initials more rest)

pub grows_value : (v : Option Initial) (rest : List Token) → length rest ≤ length (spell_value v rest)
grows_value None rest = omega arith
grows_value (Some i) rest = omega (arith, grows_initial i rest)

pub grows_init : (i : Init) (rest : List Token) → length rest ≤ length (spell_init i rest)
grows_init (init d v) rest = omega (arith, grows_decl d (spell_value v rest), grows_value v rest)

pub grows_inits : (is : List Init) (rest : List Token) → length is + length rest ≤ length (spell_inits is rest)
grows_inits [] rest = omega arith
grows_inits (i ∷ is) rest = omega (arith, grows_init i (spell_inits is rest), grows_inits is rest)

pub grows_declaration : (d : Declaration) (rest : List Token) → length rest + 1 ≤ length (spell_declaration d rest)
grows_declaration (Bare specs) rest = omega (arith, grows_specs specs (token.Semi ∷ rest))
grows_declaration (Declares specs i is) rest =
    omega (arith, grows_specs specs (spell_init i (spell_inits is (token.Semi ∷ rest))), grows_init i (spell_inits is (token.Semi ∷ rest)), grows_inits is (token.Semi ∷ rest))

pub grows_optional : (e : Option Expr) (rest : List Token) → length rest ≤ length (spell_optional e rest)
grows_optional None rest = omega arith
grows_optional (Some e) rest = grows e rest

pub grows_start : (i : Start) (rest : List Token) → length rest + 1 ≤ length (spell_start i rest)
grows_start (ForDeclares d) rest = grows_declaration d rest
grows_start (ForExpr e) rest = omega (arith, grows_optional e (token.Semi ∷ rest))

abbrev pub count_items : Items → ℕ
count_items nothing = 0
count_items (declares d more) = count_items more + 1
count_items (does x more) = count_items more + 1

mutual
  pub grows_stmt : (x : Stmt) (rest : List Token) → length rest + 1 ≤ length (spell_stmt x rest)
  grows_stmt (Block items) rest = omega (arith, grows_items items (token.BraceClose ∷ rest))
  grows_stmt Empty rest = omega arith
  grows_stmt (Do e) rest = omega (arith, grows e (token.Semi ∷ rest))
  grows_stmt (OnlyIf e a) rest = omega (arith, grows e (token.Close ∷ spell_stmt a rest), grows_stmt a rest)
  grows_stmt (IfElse e a b) rest = omega (arith, grows e (token.Close ∷ spell_stmt a (token.Else ∷ spell_stmt b rest)), grows_stmt a (token.Else ∷ spell_stmt b rest), grows_stmt b rest)
  grows_stmt (Switch e a) rest = omega (arith, grows e (token.Close ∷ spell_stmt a rest), grows_stmt a rest)
  grows_stmt (Case e a) rest = omega (arith, grows e (token.Colon ∷ spell_stmt a rest), grows_stmt a rest)
  grows_stmt (Default a) rest = omega (arith, grows_stmt a rest)
  grows_stmt (While e a) rest = omega (arith, grows e (token.Close ∷ spell_stmt a rest), grows_stmt a rest)
  grows_stmt (DoWhile a e) rest = omega (arith, grows_stmt a (token.While ∷ token.Open ∷ spell e (token.Close ∷ token.Semi ∷ rest)), grows e (token.Close ∷ token.Semi ∷ rest))
  grows_stmt (For i e f a) rest =
      omega (arith, grows_start i (spell_optional e (token.Semi ∷ spell_optional f (token.Close ∷ spell_stmt a rest))), grows_optional e (token.Semi ∷ spell_optional f (token.Close ∷ spell_stmt a rest)), grows_optional f (token.Close ∷ spell_stmt a rest), grows_stmt a rest)
  grows_stmt Break rest = omega arith
  grows_stmt Continue rest = omega arith
  grows_stmt (Return e) rest = omega (arith, grows_optional e (token.Semi ∷ rest))

  pub grows_items : (items : Items) (rest : List Token) → count_items items + length rest ≤ length (spell_items items rest)
  grows_items nothing rest = omega arith
  grows_items (declares d more) rest = omega (arith, grows_declaration d (spell_items more rest), grows_items more rest)
  grows_items (does x more) rest = omega (arith, grows_stmt x (spell_items more rest), grows_items more rest)

pub grows_ext : (x : Ext) (rest : List Token) → length rest + 1 ≤ length (spell_ext x rest)
grows_ext (Outer d) rest = grows_declaration d rest
grows_ext (Defines specs d body) rest =
    omega (arith, grows_specs specs (spell_decl d (token.BraceOpen ∷ spell_items body (token.BraceClose ∷ rest))), grows_decl d (token.BraceOpen ∷ spell_items body (token.BraceClose ∷ rest)), grows_items body (token.BraceClose ∷ rest))
