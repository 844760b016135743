-- The rules of a file's statements, over tokens: which token lists are files, and the first rule that is broken.
use Rattle.std.specs.Prelude.{◌≡◌, ℕ, List, [], ◌∷◌, ◌++◌, Option, Some, None, Result, Ok, Err, Bool, true, false, if◌then◌else◌}
use Rattle.f_lex.specs.declared.token.Token.{Token}
use Rattle.f_lex.specs.declared.token.Token.TheVariants as token
use Rattle.f_statement_grammar.specs.Statements.{Statement, spell_statement, FitsStatement, statement_at}
use Rattle.f_unit_grammar.specs.Units.{deeper, IsFile}
use Rattle.f_unit_grammar.specs.Placing.{Broken, NoPlace, TooDeep, Open, step, Begins}

-- a statement has a form (S01), it has a place (S02), and constructs and parentheses nest at most so deep (S03)
pub data Rule : Type 0 where
  NoForm : Rule
  Misplaced : Rule
  TooNested : Rule

-- the tokens of a statement, and whether its end stands behind them
abbrev pub Cut : Type 0
Cut = List Token × Bool

abbrev pub in_first : Token → List Cut → List Cut
in_first t [] = (t ∷ [], false) ∷ []
in_first t (c ∷ cs) = (t ∷ c.0, c.1) ∷ cs

-- the statements of a list of tokens: each goes up to the next end or the end of the list
unfoldable pub cuts : List Token → List Cut
cuts [] = []
cuts (token.End ∷ ts) = ([], true) ∷ cuts ts
cuts (t ∷ ts) = in_first t (cuts ts)

abbrev pub HasForm : Cut → Statement → Type 0
HasForm c s = (c.1 ≡ true) × FitsStatement 65 s × (c.0 ≡ spell_statement s)

abbrev pub HaveForms : List Cut → List Statement → Type 0
HaveForms [] [] = Unit {0}
HaveForms (c ∷ cs) (s ∷ ss) = HasForm c s × HaveForms cs ss
HaveForms _ _ = ⊥

-- the tokens are those of a file
pub record IsText (tokens : List Token) : Type 0 where
  pub statements : List Statement
  pub forms : HaveForms (cuts tokens) statements
  pub file : IsFile statements

-- ---- reading

abbrev pub depth_of : Open → ℕ
depth_of [] = 0
depth_of (o ∷ rest) = o.1

abbrev pub by_place : Result Open Broken → Result Open Rule
by_place (Ok o) = Ok o
by_place (Err NoPlace) = Err Misplaced
by_place (Err TooDeep) = Err TooNested

abbrev pub formed : Open → Bool → Option Statement → Result Open Rule
formed o true (Some s) = by_place (step o s)
formed o true None = Err NoForm
formed o false found = Err NoForm

-- in one statement the rule on nesting comes first
unfoldable pub read_cut : Open → Cut → Result Open Rule
read_cut o c = if deeper (depth_of o) 0 c.0 then Err TooNested else formed o c.1 (statement_at 65 c.0)

abbrev pub and_read : Result Open Rule → List Cut → (Open → Result Open (Rule × List Cut)) → Result Open (Rule × List Cut)
and_read (Ok o) cs more = more o
and_read (Err r) cs more = Err (r, cs)

-- what is open behind statements, or the first rule that is broken, with the statement that breaks it and all behind
unfoldable pub read_cuts : Open → List Cut → Result Open (Rule × List Cut)
read_cuts o [] = Ok o
read_cuts o (c ∷ cs) = and_read (read_cut o c) (c ∷ cs) (λ p. read_cuts p cs)

-- ---- the first rule that is broken

-- how a statement breaks a rule behind others: no statement is spelled so; or one is, and no file begins so; or no file begins so, whatever it is
abbrev pub Breaks : List Statement → Cut → Rule → Type 0
Breaks before c NoForm = (s : Statement) → HasForm c s → ⊥
Breaks before c Misplaced = ((s : Statement) × HasForm c s) × ((s : Statement) → HasForm c s → (more : List Statement) → IsFile (before ++ s ∷ more) → ⊥)
Breaks before c TooNested = (s : Statement) → HasForm c s → (more : List Statement) → IsFile (before ++ s ∷ more) → ⊥

-- this rule is broken by the first of the statements that are left, and those before begin a file
pub record FirstBroken (all : List Cut) (r : Rule) (left : List Cut) : Type 0 where
  pub before : List Cut
  pub broken : Cut
  pub behind : List Cut
  pub parts : all ≡ before ++ broken ∷ behind
  pub is_left : left ≡ broken ∷ behind
  pub statements : List Statement
  pub forms : HaveForms before statements
  pub begins : Begins statements
  pub breaks : Breaks statements broken r
