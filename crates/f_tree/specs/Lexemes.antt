-- Tokens in front of a rest, each with its place where a tree keeps it.
use Rattle.std.specs.Prelude.{ℕ, List, [], ◌∷◌, Option, Some, None, Bool, true, false}
use Rattle.jf_base.specs.declared.place.Place.{Place}
use Rattle.f_lex.specs.declared.token.Mark.{Mark}
use Rattle.f_lex.specs.declared.token.Mark.TheVariants.{Comma, Open, Close, Assign}
use Rattle.f_lex.specs.declared.token.Token.{Token}
use Rattle.f_lex.specs.declared.token.Token.TheVariants as token
use Rattle.f_tree.specs.declared.lexeme.Lexeme.{Lexeme}
use Rattle.f_tree.specs.declared.name.Name.{Name}

-- what stands in front of what follows
abbrev pub Front : Type 0
Front = List Lexeme → List Lexeme

abbrev pub lexeme : Token → Option Place → Front
lexeme t p rest = record { token = t; place = p } ∷ rest

-- an operator or a punctuation mark
abbrev pub mark_of : Mark → Front
mark_of m rest = lexeme (token.Mark m) None rest

abbrev pub placed_mark : Mark → Place → Front
placed_mark m p rest = lexeme (token.Mark m) (Some p) rest

-- a keyword
abbrev pub word_of : List ℕ → Front
word_of w rest = lexeme (token.Name w) None rest

abbrev pub placed_word : List ℕ → Place → Front
placed_word w p rest = lexeme (token.Name w) (Some p) rest

abbrev pub name_of : Name → Front
name_of n rest = lexeme (token.Name n.bytes) (Some n.place) rest

-- where it is there
abbrev pub when : Bool → Front → Front
when true f rest = f rest
when false f rest = rest

abbrev pub optional : Option Front → Front
optional None rest = rest
optional (Some f) rest = f rest

-- one behind the other
abbrev pub each : List Front → Front
each [] rest = rest
each (f ∷ fs) rest = f (each fs rest)

-- each behind a comma
abbrev pub behind_commas : List Front → Front
behind_commas [] rest = rest
behind_commas (f ∷ fs) rest = mark_of Comma (f (behind_commas fs rest))

-- with commas between them
abbrev pub listed : List Front → Front
listed [] rest = rest
listed (f ∷ fs) rest = f (behind_commas fs rest)

abbrev pub in_parentheses : Front → Front
in_parentheses f rest = mark_of Open (f (mark_of Close rest))

-- a list in parentheses, where it is there
abbrev pub optional_list : Option (List Front) → Front
optional_list None rest = rest
optional_list (Some fs) rest = in_parentheses (listed fs) rest

-- a keyword and `=`
abbrev pub key_of : List ℕ → Front
key_of w rest = word_of w (mark_of Assign rest)

abbrev pub placed_key : List ℕ → Option Place → Front
placed_key w None rest = rest
placed_key w (Some p) rest = placed_word w p (mark_of Assign rest)

abbrev pub name_key : Option Name → Front
name_key None rest = rest
name_key (Some n) rest = name_of n (mark_of Assign rest)

-- a comma in front of what follows, where something stands before it
abbrev pub comma_behind : {A : Type 0} → List A → Front
comma_behind [] rest = rest
comma_behind (x ∷ xs) rest = mark_of Comma rest

-- the tokens of a part, where it is there
abbrev pub if_there : {A : Type 0} → (A → Front) → Option A → Front
if_there f None rest = rest
if_there f (Some x) rest = f x rest

-- the end of a statement
abbrev pub statement_end : Front
statement_end rest = lexeme token.End None rest
