-- Units of a text, printed by themselves and read again.
use Rattle.std.proofs.Common.{◌≡◌, ◌⊎◌, inl, inr, List, [], ◌∷◌, ◌++◌, Bool, true, false, ◌&&◌, map, refl, sym, ap, subst, ◌∙◌, append_assoc}
use Rattle.f_lex.specs.declared.token.Token.{Token}
use Rattle.f_lex.specs.declared.token.Token.TheVariants as token
use Rattle.f_lex.specs.declared.token.Spanned.{Spanned}
use Rattle.f_lex.specs.declared.reader.Fault.{Fault}
use Rattle.f_lex.specs.Lexing.{Lexes, Breaks}
use Rattle.f_tree.specs.declared.lexeme.Lexeme.{Lexeme}
use Rattle.f_tree.specs.declared.unit.Unit.{Unit as ProgramUnit}
use Rattle.f_tree.specs.Lexemes.{each}
use Rattle.f_tree.specs.Units.{unit}
use Rattle.f_tree.specs.Text.{text_of}
use Rattle.f_print_laws.specs.Tokens.{AreStatements, is_begun_behind, is_begun_by, IsOnLengths}
use Rattle.f_print_laws.proofs.Printed.{read_again}
use Rattle.f_statement_grammar.specs.Statements.{Statement, spell_statement}
use Rattle.f_unit_parts.specs.Units.{unit_lines, units_of}
use Rattle.f_spelling_laws.specs.Told.{tokens_of, all, unit_told}
use Rattle.f_spelling_laws.specs.Statements.{spell_statements}
use Rattle.f_spelling_laws.specs.Laws.{OfTexts}
use Rattle.f_spelling_laws.proofs.Fronts.{first_of, second_of}
use Rattle.f_spelling_laws.proofs.Units.{unit_follows}
use Rattle.f_spelling_laws.proofs.Whole.{units}

-- statements in front of a rest
spelled_onto : (ss : List Statement) (rest : List Token) → spell_statements ss rest ≡ spell_statements ss [] ++ rest
spelled_onto [] rest = refl
spelled_onto (s ∷ ss) rest = ap (λ (ts : List Token). spell_statement s ++ token.End ∷ ts) (spelled_onto ss rest) ∙ sym (append_assoc (spell_statement s) (token.End ∷ spell_statements ss []) rest)

-- whole statements end with an end
begun_behind : (a ts : List Token) (begun : Bool) → is_begun_behind begun (a ++ token.End ∷ ts) ≡ is_begun_behind false ts
begun_behind [] ts begun = refl
begun_behind (t ∷ a) ts begun = begun_behind a ts (is_begun_by t)

are_statements : (ss : List Statement) → AreStatements (spell_statements ss [])
are_statements [] = refl
are_statements (s ∷ ss) = begun_behind (spell_statement s) (spell_statements ss []) false ∙ are_statements ss

-- units in front of others
all_front : (front back : List ProgramUnit) → all (map unit_told (front ++ back)) ≡ true → all (map unit_told front) ≡ true
all_front [] back sure = refl
all_front (u ∷ front) back sure =
    let a : Bool = all (map unit_told (front ++ back)) in
    ap (λ (b : Bool). b && all (map unit_told front)) (first_of (unit_told u) a sure) ∙ all_front front back (second_of (unit_told u) a sure)

all_back : (front back : List ProgramUnit) → all (map unit_told (front ++ back)) ≡ true → all (map unit_told back) ≡ true
all_back [] back sure = sure
all_back (u ∷ front) back sure = all_back front back (second_of (unit_told u) (all (map unit_told (front ++ back))) sure)

each_onto : (front back : List ProgramUnit) (rest : List Lexeme) → each (map unit (front ++ back)) rest ≡ each (map unit front) (each (map unit back) rest)
each_onto [] back rest = refl
each_onto (u ∷ front) back rest = ap (unit u) (each_onto front back rest)

-- the tokens of units in front of a unit, those of the unit, and those of the units behind it
parts : (front back : List ProgramUnit) (u : ProgramUnit) → all (map unit_told (front ++ u ∷ back)) ≡ true →
    spell_statements (units_of (front ++ u ∷ back) []) [] ≡ spell_statements (units_of front []) [] ++ (tokens_of (unit u []) ++ tokens_of (each (map unit back) []))
parts front back u sure =
    let behind : all (map unit_told (u ∷ back)) ≡ true = all_back front (u ∷ back) sure in
    let told : unit_told u ≡ true = first_of (unit_told u) (all (map unit_told back)) behind in
    let last : List Lexeme = each (map unit back) [] in
    sym (units (front ++ u ∷ back) sure [])
    ∙ ap tokens_of (each_onto front (u ∷ back) [])
    ∙ units front (all_front front (u ∷ back) sure) (unit u last)
    ∙ spelled_onto (units_of front []) (tokens_of (unit u last))
    ∙ ap (λ (ts : List Token). spell_statements (units_of front []) [] ++ ts) (unit_follows u told (tokens_of last) last [] refl
    ∙ spelled_onto (unit_lines u []) (tokens_of last)
    ∙ ap (λ (ts : List Token). ts ++ tokens_of last) (sym (unit_follows u told [] [] [] refl)))

pub texts : OfTexts
texts file before other earlier bytes tokens front back u lexes sure are = pick
    (read_again file before other earlier bytes tokens (spell_statements (units_of front []) []) (tokens_of (each (map unit back) [])) (unit u []) lexes (are ∙ parts front back u sure) (are_statements (units_of front [])) whole)
  where
    told : unit_told u ≡ true
    told = first_of (unit_told u) (all (map unit_told back)) (all_back front (u ∷ back) sure)

    spelled : tokens_of (unit u []) ≡ spell_statements (unit_lines u []) []
    spelled = unit_follows u told [] [] [] refl

    whole : AreStatements (tokens_of (unit u []))
    whole = subst AreStatements (sym spelled) (are_statements (unit_lines u []))

    pick : ((again : List Spanned) × Lexes other earlier (text_of (unit u [])) again × (map (λ t. t.token) again ≡ tokens_of (unit u []))) ⊎ ((fault : Fault) × Breaks earlier (text_of (unit u [])) fault × IsOnLengths fault.rule)
        → ((again : List Spanned) × Lexes other earlier (text_of (unit u [])) again × (map (λ t. t.token) again ≡ spell_statements (unit_lines u []) [])) ⊎ ((fault : Fault) × Breaks earlier (text_of (unit u [])) fault × IsOnLengths fault.rule)
    pick (inl (again, m, e)) = inl (again, m, e ∙ spelled)
    pick (inr x) = inr x
