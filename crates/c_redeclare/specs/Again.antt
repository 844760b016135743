-- What lists of parts declare, in the order of the text.
use Rattle.std.specs.Prelude.{List, [], ◌∷◌}
use Rattle.c_grammar.specs.Grammar.{Scope, Expr, Joint, Specs, Decl, after, after_joint, after_specs, after_decl, after_decls}
use Rattle.c_expression_read.specs.Views.{decls_of}

-- expressions
abbrev pub after_each : List Expr → Scope → Scope
after_each [] s = s
after_each (e ∷ es) s = after_each es (after e s)

-- operands with the joints behind them
abbrev pub after_fronts : List (Expr × Joint) → Scope → Scope
after_fronts [] s = s
after_fronts (x ∷ xs) s = after_fronts xs (after_joint x.1 (after x.0 s))

-- members that are declared together; without a declarator there is none
abbrev pub after_together : Specs × List Decl → Scope → Scope
after_together (specs, []) s = s
after_together (specs, d ∷ ds) s = after_decls (decls_of ds) (after_decl d (after_specs specs s))
