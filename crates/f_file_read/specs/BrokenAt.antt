-- Where a file breaks its first rule.
use Rattle.std.specs.Prelude.{◌≡◌, ◌⊎◌, List, [], ◌∷◌, ◌++◌, map, Ok, Err, false}
use Rattle.jf_base.specs.declared.place.Place.{Place}
use Rattle.jf_base.specs.declared.tag.Tag.{Tag}
use Rattle.f_lex.specs.declared.token.Spanned.{Spanned}
use Rattle.f_expr_read.specs.Views.{tokens_of}
use Rattle.f_unit_grammar.specs.Units.{deeper}
use Rattle.f_unit_grammar.specs.Placing.{Open, at_file}
use Rattle.f_unit_grammar.specs.Rules.{Rule, NoForm, Misplaced, TooNested, Cut, cuts, depth_of, read_cut, read_cuts, FirstBroken}
use Rattle.f_statement_cut.specs.Pieces.{Piece, pieces, cut_of, BeginsAt}
use Rattle.f_statement_cut.specs.Nesting.{OpensTooDeep}
use Rattle.f_file_read.specs.Reading.{tag_of}

-- a statement with so many constructs around it breaks the rule on nesting at the parenthesis or bracket that opens a nesting too many, or else at its
-- first token; each other rule at its first token
abbrev pub StandsAt : Rule → Open → Piece → Place → Type 0
StandsAt NoForm o p place = BeginsAt p place
StandsAt Misplaced o p place = BeginsAt p place
StandsAt TooNested o p place = OpensTooDeep (depth_of o) p.0 place ⊎ ((deeper (depth_of o) 0 (tokens_of p.0) ≡ false) × BeginsAt p place)

-- this statement breaks a rule behind those before it, which break none
pub record BreaksAt (tokens : List Spanned) (r : Rule) (place : Place) : Type 0 where
  pub before : List Piece
  pub broken : Piece
  pub behind : List Piece
  pub parts : pieces tokens ≡ before ++ broken ∷ behind
  pub around : Open
  pub placed : read_cuts at_file (map cut_of before) ≡ Ok around
  pub first : FirstBroken (cuts (tokens_of tokens)) r (map cut_of (broken ∷ behind))
  pub stands : StandsAt r around broken place

-- more than the file is open
abbrev pub IsInside : Open → Type 0
IsInside o = o ≡ at_file → ⊥

-- more than the file is open from here on, behind each of these statements
abbrev pub StaysInside : Open → List Cut → Type 0
StaysInside o [] = IsInside o
StaysInside o (c ∷ cs) = IsInside o × ((next : Open) → read_cut o c ≡ Ok next → StaysInside next cs)

-- no statement breaks a rule, and the unit that this one begins isn't ended behind it
pub record EndsInside (tokens : List Spanned) (place : Place) : Type 0 where
  pub before : List Piece
  pub beginning : Piece
  pub behind : List Piece
  pub parts : pieces tokens ≡ before ++ beginning ∷ behind
  pub placed : read_cuts at_file (map cut_of before) ≡ Ok at_file
  pub inside : Open
  pub begun : read_cut at_file (cut_of beginning) ≡ Ok inside
  pub stays : StaysInside inside (map cut_of behind)
  pub last : Open
  pub unbroken : read_cuts at_file (cuts (tokens_of tokens)) ≡ Ok last
  pub stands : BeginsAt beginning place

-- the first rule that is broken, by its tag and its place; the end that a unit lacks is missed behind all statements
pub data BrokenAt (tokens : List Spanned) (place : Place) (tag : Tag) : Type 0 where
  breaks : (r : Rule) → tag ≡ tag_of r → BreaksAt tokens r place → BrokenAt tokens place tag
  unended : tag ≡ tag_of Misplaced → EndsInside tokens place → BrokenAt tokens place tag
