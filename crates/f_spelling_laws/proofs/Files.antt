-- The tokens of units that are a file are those of a file with the same statements.
use Rattle.std.proofs.Common.{◌≡◌, List, [], ◌∷◌, ◌++◌, true, refl, sym, ap, subst}
use Rattle.f_lex.specs.declared.token.Token.{Token}
use Rattle.f_lex.specs.declared.token.Token.TheVariants as token
use Rattle.f_statement_grammar.specs.Statements.{Statement, spell_statement}
use Rattle.f_unit_grammar.specs.Rules.{cuts, in_first, Cut, HaveForms, IsText}
use Rattle.f_unit_parts.specs.Units.{units_of}
use Rattle.f_spelling_laws.specs.Statements.{spell_statements}
use Rattle.f_spelling_laws.specs.Laws.{Fit, OfFiles}
use Rattle.f_spelling_laws.proofs.Endless.{Endless, endless}
use Rattle.f_spelling_laws.proofs.Whole.{units}

-- a statement goes up to its end
cut_is : (a : List Token) → Endless a → (ts : List Token) → cuts (a ++ token.End ∷ ts) ≡ (a, true) ∷ cuts ts
unfolding cuts
cut_is [] x ts = refl
cut_is (token.Name n ∷ a) x ts = ap (in_first (token.Name n)) (cut_is a x ts)
cut_is (token.Number digits k ∷ a) x ts = ap (in_first (token.Number digits k)) (cut_is a x ts)
cut_is (token.Truth value k ∷ a) x ts = ap (in_first (token.Truth value k)) (cut_is a x ts)
cut_is (token.Text bytes k ∷ a) x ts = ap (in_first (token.Text bytes k)) (cut_is a x ts)
cut_is (token.Mark m ∷ a) x ts = ap (in_first (token.Mark m)) (cut_is a x ts)
cut_is (token.End ∷ a) x ts = absurd x

forms : (ss : List Statement) → Fit ss → HaveForms (cuts (spell_statements ss [])) ss
unfolding cuts
forms [] fit = tt
forms (s ∷ ss) fit = subst (λ (cs : List Cut). HaveForms cs (s ∷ ss)) (sym (cut_is (spell_statement s) (endless s) (spell_statements ss []))) ((refl, fit.0, refl), forms ss fit.1)

pub files : OfFiles
files us sure file fit = subst (λ (ts : List Token). (text : IsText ts) × (text.statements ≡ units_of us [])) (sym (units us sure []))
    (record { statements = units_of us []; forms = forms (units_of us []) fit; file = file }, refl)
