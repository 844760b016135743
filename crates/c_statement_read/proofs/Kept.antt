-- Declarations and statements declare names behind the others, so a scope is ended by cutting it off.
use Rattle.std.proofs.Common.{◌≡◌, Bool, List, [], ◌∷◌, length, take, Option, Some, None}
use Rattle.c_grammar.specs.Grammar.{Scope, Expr, Specs, Decl, after, after_specs, after_decl, name_of, is_typedef}
use Rattle.c_grammar.proofs.Kept.{Longer, same, then, bound, cut, longer, longer_specs, longer_decl}
use Rattle.c_unit_grammar.specs.Statements.{Initial, Value, Braced, Initials, no_initials, initial, after_initial, after_initials, Init, init, Declaration, Bare, Declares, declared, after_value, after_init, after_inits, after_declaration, Start, ForDeclares, ForExpr, Stmt, Block, Empty, Do, OnlyIf, IfElse, Switch, Case, Default, While, DoWhile, For, Break, Continue, Return, Items, nothing, declares, does, after_optional, after_start, after_stmt, after_items}

mutual
  longer_initial : (i : Initial) (s : Scope) → Longer s (after_initial i s)
  longer_initial (Value e) s = longer e s
  longer_initial (Braced i is c) s = then s _ _ (longer_initial i s) (longer_initials is (after_initial i s))

  longer_initials : (is : Initials) (s : Scope) → Longer s (after_initials is s)
  longer_initials no_initials s = same s
  longer_initials (initial i more) s = then s _ _ (longer_initial i s) (longer_initials more (after_initial i s))

longer_value : (v : Option Initial) (s : Scope) → Longer s (after_value v s)
longer_value None s = same s
longer_value (Some i) s = longer_initial i s

longer_declared : (td : Bool) (d : Decl) (s : Scope) → Longer s (declared td d s)
longer_declared td d s = then s _ _ (longer_decl d s) (bound (name_of d) td (after_decl d s))

longer_init : (td : Bool) (i : Init) (s : Scope) → Longer s (after_init td i s)
longer_init td (init d value) s = then s _ _ (longer_declared td d s) (longer_value value (declared td d s))

longer_inits : (td : Bool) (is : List Init) (s : Scope) → Longer s (after_inits td is s)
longer_inits td [] s = same s
longer_inits td (i ∷ is) s = then s _ _ (longer_init td i s) (longer_inits td is (after_init td i s))

longer_declaration : (d : Declaration) (s : Scope) → Longer s (after_declaration d s)
longer_declaration (Bare specs) s = longer_specs specs s
longer_declaration (Declares specs i is) s = then s _ _ (longer_specs specs s) (longer_inits (is_typedef specs) (i ∷ is) (after_specs specs s))

longer_optional : (e : Option Expr) (s : Scope) → Longer s (after_optional e s)
longer_optional None s = same s
longer_optional (Some e) s = longer e s

longer_start : (i : Start) (s : Scope) → Longer s (after_start i s)
longer_start (ForDeclares d) s = longer_declaration d s
longer_start (ForExpr e) s = longer_optional e s

longer_statement : (x : Stmt) (s : Scope) → Longer s (after_stmt x s)
longer_statement (Block items) s = same s
longer_statement Empty s = same s
longer_statement (Do e) s = longer e s
longer_statement (OnlyIf e a) s = same s
longer_statement (IfElse e a b) s = same s
longer_statement (Switch e a) s = same s
longer_statement (Case e a) s = then s _ _ (longer e s) (longer_statement a (after e s))
longer_statement (Default a) s = longer_statement a s
longer_statement (While e a) s = same s
longer_statement (DoWhile a e) s = same s
longer_statement (For i e f a) s = same s
longer_statement Break s = same s
longer_statement Continue s = same s
longer_statement (Return e) s = longer_optional e s

longer_items : (items : Items) (s : Scope) → Longer s (after_items items s)
longer_items nothing s = same s
longer_items (declares d more) s = then s _ _ (longer_declaration d s) (longer_items more (after_declaration d s))
longer_items (does x more) s = then s _ _ (longer_statement x s) (longer_items more (after_stmt x s))

pub kept_test : (e : Expr) (s : Scope) → take (length s) (after e s) ≡ s
kept_test e s = cut s _ (longer e s)

pub kept_for : (i : Start) (e f : Option Expr) (s : Scope) → take (length s) (after_optional f (after_optional e (after_start i s))) ≡ s
kept_for i e f s = cut s _ (then s _ _ (longer_start i s) (then _ _ _ (longer_optional e (after_start i s)) (longer_optional f (after_optional e (after_start i s)))))

pub kept_statement : (x : Stmt) (s : Scope) → take (length s) (after_stmt x s) ≡ s
kept_statement x s = cut s _ (longer_statement x s)

pub kept_items : (items : Items) (s : Scope) → take (length s) (after_items items s) ≡ s
kept_items items s = cut s _ (longer_items items s)
