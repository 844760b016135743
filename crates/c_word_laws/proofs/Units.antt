-- Declarations, statements and external declarations have no word without use.
use Rattle.std.proofs.Common.{◌≡◌, true, false, List, [], ◌∷◌, Option, Some, None, refl, sym, ap, ◌∙◌}
use Rattle.c_grammar.specs.declared.token.Token.{Token}
use Rattle.c_grammar.specs.declared.token.Token.TheVariants as token
use Rattle.c_grammar.specs.Grammar.{Expr, spell, spell_decl, spell_comma}
use Rattle.c_unit_grammar.specs.Statements.{Initial, Value, Braced, Initials, no_initials, initial, spell_initial, spell_initials, Init, init, Declaration, Bare, Declares, spell_value, spell_init, spell_inits, spell_declaration, Start, ForDeclares, ForExpr, Stmt, Block, Empty, Do, OnlyIf, IfElse, Switch, Case, Default, While, DoWhile, For, Break, Continue, Return, Items, nothing, declares, does, spell_optional, spell_start, spell_stmt, spell_items, Ext, Outer, Defines, spell_ext, spell_exts}
use Rattle.c_word_laws.specs.Unused.{has_unused}
use Rattle.c_word_laws.proofs.Expressions.{used, used_specs, used_decl, used_comma}

mutual
  pub used_initial : (i : Initial) (rest : List Token) → has_unused (spell_initial i rest) ≡ has_unused rest
  used_initial (Value e) rest = used e rest
  used_initial (Braced i is c) rest = used_initial i (spell_initials is (spell_comma c (token.BraceClose ∷ rest))) ∙ used_initials is (spell_comma c (token.BraceClose ∷ rest)) ∙ used_comma c (token.BraceClose ∷ rest)

  pub used_initials : (is : Initials) (rest : List Token) → has_unused (spell_initials is rest) ≡ has_unused rest
  used_initials no_initials rest = refl
  used_initials (initial i more) rest = used_initial i (spell_initials more rest) ∙ used_initials more rest

pub used_value : (v : Option Initial) (rest : List Token) → has_unused (spell_value v rest) ≡ has_unused rest
used_value None rest = refl
used_value (Some i) rest = used_initial i rest

pub used_init : (i : Init) (rest : List Token) → has_unused (spell_init i rest) ≡ has_unused rest
used_init (init d v) rest = used_decl d (spell_value v rest) ∙ used_value v rest

pub used_inits : (is : List Init) (rest : List Token) → has_unused (spell_inits is rest) ≡ has_unused rest
used_inits [] rest = refl
used_inits (i ∷ is) rest = used_init i (spell_inits is rest) ∙ used_inits is rest

pub used_declaration : (d : Declaration) (rest : List Token) → has_unused (spell_declaration d rest) ≡ has_unused rest
used_declaration (Bare specs) rest = used_specs specs (token.Semi ∷ rest)
used_declaration (Declares specs i is) rest = used_specs specs (spell_init i (spell_inits is (token.Semi ∷ rest))) ∙ used_init i (spell_inits is (token.Semi ∷ rest)) ∙ used_inits is (token.Semi ∷ rest)

pub used_optional : (e : Option Expr) (rest : List Token) → has_unused (spell_optional e rest) ≡ has_unused rest
used_optional None rest = refl
used_optional (Some e) rest = used e rest

pub used_start : (i : Start) (rest : List Token) → has_unused (spell_start i rest) ≡ has_unused rest
used_start (ForDeclares d) rest = used_declaration d rest
used_start (ForExpr e) rest = used_optional e (token.Semi ∷ rest)

mutual
  pub used_stmt : (x : Stmt) (rest : List Token) → has_unused (spell_stmt x rest) ≡ has_unused rest
  used_stmt (Block items) rest = used_items items (token.BraceClose ∷ rest)
  used_stmt Empty rest = refl
  used_stmt (Do e) rest = used e (token.Semi ∷ rest)
  used_stmt (OnlyIf e a) rest = used e (token.Close ∷ spell_stmt a rest) ∙ used_stmt a rest
  used_stmt (IfElse e a b) rest = used e (token.Close ∷ spell_stmt a (token.Else ∷ spell_stmt b rest)) ∙ used_stmt a (token.Else ∷ spell_stmt b rest) ∙ used_stmt b rest
  used_stmt (Switch e a) rest = used e (token.Close ∷ spell_stmt a rest) ∙ used_stmt a rest
  used_stmt (Case e a) rest = used e (token.Colon ∷ spell_stmt a rest) ∙ used_stmt a rest
  used_stmt (Default a) rest = used_stmt a rest
  used_stmt (While e a) rest = used e (token.Close ∷ spell_stmt a rest) ∙ used_stmt a rest
  used_stmt (DoWhile a e) rest = used_stmt a (token.While ∷ token.Open ∷ spell e (token.Close ∷ token.Semi ∷ rest)) ∙ used e (token.Close ∷ token.Semi ∷ rest)
  used_stmt (For i e f a) rest = used_start i (spell_optional e (token.Semi ∷ spell_optional f (token.Close ∷ spell_stmt a rest))) ∙ used_optional e (token.Semi ∷ spell_optional f (token.Close ∷ spell_stmt a rest)) ∙ used_optional f (token.Close ∷ spell_stmt a rest) ∙ used_stmt a rest
  used_stmt Break rest = refl
  used_stmt Continue rest = refl
  used_stmt (Return e) rest = used_optional e (token.Semi ∷ rest)

  pub used_items : (items : Items) (rest : List Token) → has_unused (spell_items items rest) ≡ has_unused rest
  used_items nothing rest = refl
  used_items (declares d more) rest = used_declaration d (spell_items more rest) ∙ used_items more rest
  used_items (does x more) rest = used_stmt x (spell_items more rest) ∙ used_items more rest

pub used_ext : (x : Ext) (rest : List Token) → has_unused (spell_ext x rest) ≡ has_unused rest
used_ext (Outer d) rest = used_declaration d rest
used_ext (Defines specs d body) rest = used_specs specs (spell_decl d (token.BraceOpen ∷ spell_items body (token.BraceClose ∷ rest))) ∙ used_decl d (token.BraceOpen ∷ spell_items body (token.BraceClose ∷ rest)) ∙ used_items body (token.BraceClose ∷ rest)

pub used_exts : (xs : List Ext) (rest : List Token) → has_unused (spell_exts xs rest) ≡ has_unused rest
used_exts [] rest = refl
used_exts (x ∷ xs) rest = used_ext x (spell_exts xs rest) ∙ used_exts xs rest

pub no_file : (ts : List Token) (xs : List Ext) → has_unused ts ≡ true → ts ≡ spell_exts xs [] → ⊥
no_file ts xs has is = let no : true ≡ false = sym has ∙ ap has_unused is ∙ used_exts xs [] in absurd cc
