-- Expressions, specifiers and declarators have one tree.
use Rattle.std.proofs.Common.{◌≡◌, ℕ, List, Ok, sym, ap, ◌∙◌}
use Rattle.c_grammar.specs.declared.token.Allowed.{Allowed}
use Rattle.c_grammar.specs.declared.token.Token.{Token}
use Rattle.c_grammar.specs.Grammar.{Scope, Expr, spell, Fits, Stops, Typed, spell_typed, FitsTyped, Ends, NoBraces}
use Rattle.c_grammar.specs.Reading.{Read, level_at, typed_at, inner}
use Rattle.c_grammar.proofs.Again.{level_again, typed_again}

ok_is : (x y : Expr × List Token) → let d : Read Expr = Ok x in let e : Read Expr = Ok y in d ≡ e → x ≡ y
ok_is x y e = cc

pub one_spelling : (n h : ℕ) (s : Scope) (t u : Expr) (rest others : List Token) → Fits n h s t → Fits n h s u → Stops h rest → Stops h others → spell t rest ≡ spell u others → (t ≡ u) × (rest ≡ others)
one_spelling n h s t u rest others ft fu st su e =
    let same = ok_is (t, rest) (u, others) (sym (level_again t n h s rest ft st) ∙ ap (level_at (inner n) h s) e ∙ level_again u n h s others fu su) in
    (ap (λ (x : Expr × List Token). x.0) same, ap (λ (x : Expr × List Token). x.1) same)

typed_is : (x y : Typed × List Token) → let d : Read Typed = Ok x in let e : Read Typed = Ok y in d ≡ e → x ≡ y
typed_is x y e = cc

pub one_declaring : (n : ℕ) (a : Allowed) (s : Scope) (t u : Typed) (rest others : List Token) → FitsTyped n a s t → FitsTyped n a s u → Ends rest → NoBraces rest → Ends others → NoBraces others → spell_typed t rest ≡ spell_typed u others → (t ≡ u) × (rest ≡ others)
one_declaring n a s t u rest others ft fu er br eo bo e =
    let same = typed_is (t, rest) (u, others) (sym (typed_again t n a s rest ft er br) ∙ ap (typed_at (inner n) a s) e ∙ typed_again u n a s others fu eo bo) in
    (ap (λ (x : Typed × List Token). x.0) same, ap (λ (x : Typed × List Token). x.1) same)
