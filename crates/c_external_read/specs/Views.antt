-- The trees of external declarations as the grammar has them, without the numbers of their tokens.
use Rattle.std.specs.Prelude.{ℕ, Ok, map}
use Rattle.c_tree.specs.declared.unit.External.{External}
use Rattle.c_tree.specs.declared.unit.External.TheVariants as external
use Rattle.c_grammar.specs.Grammar.{Scope, Typed, typed, bind, name_of, is_typedef}
use Rattle.c_grammar.specs.Reading.{◌>>=◌, Reader, choose}
use Rattle.c_unit_grammar.specs.Statements.{Items, body_scope, Ext, Outer, Defines}
use Rattle.c_unit_grammar.specs.Reading.{brace_at, behind_at, body_at}
use Rattle.c_expression_read.specs.Views.{view_declarator, view_specifier, specs_of}
use Rattle.c_declaration_read.specs.Views.{view_declaration}
use Rattle.c_statement_read.specs.Views.{view_item, items_of}

abbrev pub view_external : External → Ext
view_external (external.Declaration d) = Outer (view_declaration d)
view_external (external.Function specifiers declarator body tokens at) = Defines (specs_of (map view_specifier specifiers)) (view_declarator declarator) (items_of (map view_item body))

-- a function's definition
abbrev pub defines : Typed → Items → Ext
defines (typed specs d) body = Defines specs d body

-- the name of a function is declared, and in its body its parameters are
abbrev pub named : Typed → Scope → Scope
named (typed specs d) s = bind (name_of d) (is_typedef specs) s

abbrev pub inside_body : Typed → Scope → Scope
inside_body (typed specs d) s = body_scope (is_typedef specs) d s

-- what stands behind specifiers and a first declarator
abbrev pub outer_behind : ℕ → Typed → Reader Ext
outer_behind n (typed specs d) s ts = choose (brace_at ts) (behind_at n specs d s ts >>= λ y. Ok (Outer y.0, y.1)) (λ rest. body_at n specs d s rest)
