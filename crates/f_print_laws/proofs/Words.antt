-- The piece of each printed token that isn't a text: how it is spelled, where it fits, and what it means.
use Rattle.std.proofs.Common.{◌≡◌, ℕ, ◌≤◌, ◌<◌, Bool, true, false, nat_lt, List, [], ◌∷◌, ◌++◌, length, Option, Some, None, refl, sym, ap, arith, append_assoc}
use Rattle.std.specs.Prelude.{codes}
use Rattle.std.proofs.lemmas.Bool.Decides.{nat_tests}
use Rattle.f_lex.specs.declared.class.Run.TheVariants as run
use Rattle.f_lex.specs.declared.class.Class.TheVariants.{Letter, Digit}
use Rattle.f_lex.specs.declared.token.Mark.{Mark as MarkOf}
use Rattle.f_lex.specs.declared.token.Mark.TheVariants as mark
use Rattle.f_lex.specs.declared.token.Kind.{Kind}
use Rattle.f_lex.specs.declared.token.Kind.TheVariants as kind
use Rattle.f_lex.specs.declared.token.Token.{Token}
use Rattle.f_lex.specs.declared.token.Token.TheVariants as token
use Rattle.f_lex.specs.Characters.{class_of, class_at, goes_on, is_next, is_quote, quote_is_second, underscore}
use Rattle.f_lex.specs.Lines.{byte_at}
use Rattle.f_lex.specs.Words.{lowered, kind_quote_at, quote_at, mark_at, one_or_two, dot_word, relation_word, logic_word, number_of}
use Rattle.f_lex.specs.Pieces.{whole}
use Rattle.f_lex.specs.Rules.{kind_rule, token_rule}
use Rattle.f_lex.specs.Grammar.{KindPart, Plain, Named, Numbered, kind_given, spell_behind, FitsBehind, spell_before, FitsBefore, Shape, Number, Operator, Truth, DotDot, Sign, spell, Fits, meaning}
use Rattle.f_tree.specs.Text.{mark_text, behind_literal, before_text}
use Rattle.f_print_laws.specs.Tokens.{is_digit, is_of_name, Each, IsName, IsNumber, IsKind, IsToken}
use Rattle.f_print_laws.proofs.Classes.{Stops, nothing, blank, line, letter_class, digit_class, letter_is_of_name, word_run, name_run, digit_run, lowered_name, lowered_digits, name_stops, digits_stop, no_kind_quote, no_kind}

-- ---- names and numbers

pub all_of_name : (cs : List ℕ) → IsName cs → Each is_of_name cs
all_of_name [] n = elim n [ ]
all_of_name (c ∷ cs) n = (letter_is_of_name c n.0, n.1)

pub all_digits : (ds : List ℕ) → IsNumber ds → Each is_digit ds
all_digits [] n = elim n [ ]
all_digits (d ∷ ds) n = (n.0, n.1)

pub first_letter : (cs rest : List ℕ) → IsName cs → class_at (cs ++ rest) ≡ Letter
first_letter [] rest n = elim n [ ]
first_letter (c ∷ cs) rest n = letter_class c (cs ++ rest) n.0

pub first_digit : (ds rest : List ℕ) → IsNumber ds → class_at (ds ++ rest) ≡ Digit
first_digit [] rest n = elim n [ ]
first_digit (d ∷ ds) rest n = digit_class d (ds ++ rest) n.0

-- ---- kinds

abbrev pub part_of : Option Kind → KindPart
part_of None = Plain
part_of (Some (kind.Number digits)) = Numbered digits
part_of (Some (kind.Name name)) = Named name

pub kind_is : (k : Option Kind) → IsKind k → kind_given (part_of k) ≡ k
kind_is None i = refl
kind_is (Some (kind.Number digits)) i = ap (λ (l : List ℕ). Some (kind.Number l)) (lowered_digits digits (all_digits digits i))
kind_is (Some (kind.Name name)) i = ap (λ (l : List ℕ). Some (kind.Name l)) (lowered_name name (all_of_name name i))

pub behind_is : (k : Option Kind) (rest : List ℕ) → spell_behind (part_of k) rest ≡ behind_literal k ++ rest
behind_is None rest = refl
behind_is (Some (kind.Number digits)) rest = refl
behind_is (Some (kind.Name name)) rest = refl

pub before_is : (k : Option Kind) (rest : List ℕ) → spell_before (part_of k) rest ≡ before_text k ++ rest
before_is None rest = refl
before_is (Some (kind.Number digits)) rest = sym (append_assoc digits (95 ∷ []) rest)
before_is (Some (kind.Name name)) rest = sym (append_assoc name (95 ∷ []) rest)

pub behind_fits : (k : Option Kind) (rest : List ℕ) → IsKind k → Stops rest → FitsBehind (part_of k) rest
behind_fits None rest i s = no_kind rest s
behind_fits (Some (kind.Number digits)) rest i s = (first_digit digits rest i, digit_run digits rest (all_digits digits i) (digits_stop rest s))
behind_fits (Some (kind.Name name)) rest i s = (first_letter name rest i, name_run name rest (all_of_name name i) (name_stops rest s))

-- behind digits and before a kind no quote stands
quote_of : (l : List ℕ) → is_quote (class_at l) ≡ false → kind_quote_at (underscore ∷ l) ≡ None
unfolding kind_quote_at byte_at quote_at
quote_of [] e = refl
quote_of (c ∷ cs) e = rw e refl

digit_no_quote : (l : List ℕ) → class_at l ≡ Digit → is_quote (class_at l) ≡ false
digit_no_quote l e = rw e refl

letter_no_quote : (l : List ℕ) → class_at l ≡ Letter → is_quote (class_at l) ≡ false
letter_no_quote l e = rw e refl

pub no_quote_kind : (k : Option Kind) (rest : List ℕ) → IsKind k → Stops rest → kind_quote_at (spell_behind (part_of k) rest) ≡ None
no_quote_kind None rest i s = no_kind_quote rest s
no_quote_kind (Some (kind.Number digits)) rest i s = quote_of (digits ++ rest) (digit_no_quote (digits ++ rest) (first_digit digits rest i))
no_quote_kind (Some (kind.Name name)) rest i s = quote_of (name ++ rest) (letter_no_quote (name ++ rest) (first_letter name rest i))

pub digits_end : (k : Option Kind) (rest : List ℕ) → Stops rest → goes_on run.Digits (spell_behind (part_of k) rest) ≡ false
unfolding goes_on class_at class_of
digits_end None rest s = digits_stop rest s
digits_end (Some (kind.Number digits)) rest s = refl
digits_end (Some (kind.Name name)) rest s = refl

pub before_fits : (k : Option Kind) (rest : List ℕ) → IsKind k → FitsBefore (part_of k) (39 ∷ rest)
unfolding goes_on quote_is_second class_at class_of
before_fits None rest i = tt
before_fits (Some (kind.Number digits)) rest i = (first_digit digits (95 ∷ 39 ∷ rest) i, digit_run digits (95 ∷ 39 ∷ rest) (all_digits digits i) refl)
before_fits (Some (kind.Name name)) rest i = (first_letter name (95 ∷ 39 ∷ rest) i, word_run name (95 ∷ 39 ∷ rest) (all_of_name name i) refl refl)

-- ---- rules

below_limit : (m n : ℕ) → m < n → nat_lt m n ≡ true
below_limit m n lt = grind (arith, nat_tests)

not_above : (m n : ℕ) → m ≤ n → nat_lt n m ≡ false
not_above m n le = grind (arith, nat_tests)

name_keeps : (cs : List ℕ) → IsName cs → nat_lt 63 (length cs) ≡ false
name_keeps [] n = elim n [ ]
name_keeps (c ∷ cs) n = not_above (length (c ∷ cs)) 63 n.2

number_keeps : (ds : List ℕ) → IsNumber ds → nat_lt (number_of ds) 9223372036854775808 ≡ true
number_keeps [] n = elim n [ ]
number_keeps (d ∷ ds) n = below_limit (number_of (d ∷ ds)) 9223372036854775808 n.2

kind_keeps : (k : Option Kind) → IsKind k → kind_rule k ≡ None
unfolding kind_rule
kind_keeps None i = refl
kind_keeps (Some (kind.Number digits)) i = rw (number_keeps digits i) refl
kind_keeps (Some (kind.Name name)) i = rw (name_keeps name i) refl

pub token_keeps : (begun : Bool) (t : Token) → IsToken begun t → token_rule t ≡ None
unfolding token_rule
token_keeps begun (token.Name name) i = rw (name_keeps name i) refl
token_keeps begun (token.Number digits k) i = rw (kind_keeps k i.1, number_keeps digits i.0) refl
token_keeps begun (token.Truth value k) i = kind_keeps k i
token_keeps begun (token.Text bytes k) i = kind_keeps k i.1
token_keeps begun (token.Mark m) i = refl
token_keeps begun token.End i = refl

-- ---- marks

abbrev pub shape_of_mark : MarkOf → Shape
shape_of_mark mark.Open = Sign mark.Open 40 []
shape_of_mark mark.Close = Sign mark.Close 41 []
shape_of_mark mark.OpenBracket = Sign mark.OpenBracket 91 []
shape_of_mark mark.CloseBracket = Sign mark.CloseBracket 93 []
shape_of_mark mark.Comma = Sign mark.Comma 44 []
shape_of_mark mark.Percent = Sign mark.Percent 37 []
shape_of_mark mark.Colon = Sign mark.Colon 58 []
shape_of_mark mark.DoubleColon = Sign mark.DoubleColon 58 (58 ∷ [])
shape_of_mark mark.DotDot = DotDot
shape_of_mark mark.Assign = Sign mark.Assign 61 []
shape_of_mark mark.Arrow = Sign mark.Arrow 61 (62 ∷ [])
shape_of_mark mark.Plus = Sign mark.Plus 43 []
shape_of_mark mark.Minus = Sign mark.Minus 45 []
shape_of_mark mark.Star = Sign mark.Star 42 []
shape_of_mark mark.Power = Sign mark.Power 42 (42 ∷ [])
shape_of_mark mark.Slash = Sign mark.Slash 47 []
shape_of_mark mark.Concat = Sign mark.Concat 47 (47 ∷ [])
shape_of_mark mark.Equal = Sign mark.Equal 61 (61 ∷ [])
shape_of_mark mark.NotEqual = Sign mark.NotEqual 47 (61 ∷ [])
shape_of_mark mark.Less = Sign mark.Less 60 []
shape_of_mark mark.LessEqual = Sign mark.LessEqual 60 (61 ∷ [])
shape_of_mark mark.Greater = Sign mark.Greater 62 []
shape_of_mark mark.GreaterEqual = Sign mark.GreaterEqual 62 (61 ∷ [])
shape_of_mark mark.DotEq = Operator (codes "eq") mark.DotEq
shape_of_mark mark.DotNe = Operator (codes "ne") mark.DotNe
shape_of_mark mark.DotLt = Operator (codes "lt") mark.DotLt
shape_of_mark mark.DotLe = Operator (codes "le") mark.DotLe
shape_of_mark mark.DotGt = Operator (codes "gt") mark.DotGt
shape_of_mark mark.DotGe = Operator (codes "ge") mark.DotGe
shape_of_mark mark.Not = Operator (codes "not") mark.Not
shape_of_mark mark.And = Operator (codes "and") mark.And
shape_of_mark mark.Or = Operator (codes "or") mark.Or
shape_of_mark mark.Eqv = Operator (codes "eqv") mark.Eqv
shape_of_mark mark.Neqv = Operator (codes "neqv") mark.Neqv

pub mark_spelled : (m : MarkOf) (rest : List ℕ) → spell (shape_of_mark m) rest ≡ mark_text m ++ rest
unfolding mark_text
mark_spelled mark.Open rest = refl
mark_spelled mark.Close rest = refl
mark_spelled mark.OpenBracket rest = refl
mark_spelled mark.CloseBracket rest = refl
mark_spelled mark.Comma rest = refl
mark_spelled mark.Percent rest = refl
mark_spelled mark.Colon rest = refl
mark_spelled mark.DoubleColon rest = refl
mark_spelled mark.DotDot rest = refl
mark_spelled mark.Assign rest = refl
mark_spelled mark.Arrow rest = refl
mark_spelled mark.Plus rest = refl
mark_spelled mark.Minus rest = refl
mark_spelled mark.Star rest = refl
mark_spelled mark.Power rest = refl
mark_spelled mark.Slash rest = refl
mark_spelled mark.Concat rest = refl
mark_spelled mark.Equal rest = refl
mark_spelled mark.NotEqual rest = refl
mark_spelled mark.Less rest = refl
mark_spelled mark.LessEqual rest = refl
mark_spelled mark.Greater rest = refl
mark_spelled mark.GreaterEqual rest = refl
mark_spelled mark.DotEq rest = refl
mark_spelled mark.DotNe rest = refl
mark_spelled mark.DotLt rest = refl
mark_spelled mark.DotLe rest = refl
mark_spelled mark.DotGt rest = refl
mark_spelled mark.DotGe rest = refl
mark_spelled mark.Not rest = refl
mark_spelled mark.And rest = refl
mark_spelled mark.Or rest = refl
mark_spelled mark.Eqv rest = refl
mark_spelled mark.Neqv rest = refl

pub mark_means : (m : MarkOf) → meaning (shape_of_mark m) ≡ whole (token.Mark m)
mark_means mark.Open = refl
mark_means mark.Close = refl
mark_means mark.OpenBracket = refl
mark_means mark.CloseBracket = refl
mark_means mark.Comma = refl
mark_means mark.Percent = refl
mark_means mark.Colon = refl
mark_means mark.DoubleColon = refl
mark_means mark.DotDot = refl
mark_means mark.Assign = refl
mark_means mark.Arrow = refl
mark_means mark.Plus = refl
mark_means mark.Minus = refl
mark_means mark.Star = refl
mark_means mark.Power = refl
mark_means mark.Slash = refl
mark_means mark.Concat = refl
mark_means mark.Equal = refl
mark_means mark.NotEqual = refl
mark_means mark.Less = refl
mark_means mark.LessEqual = refl
mark_means mark.Greater = refl
mark_means mark.GreaterEqual = refl
mark_means mark.DotEq = refl
mark_means mark.DotNe = refl
mark_means mark.DotLt = refl
mark_means mark.DotLe = refl
mark_means mark.DotGt = refl
mark_means mark.DotGe = refl
mark_means mark.Not = refl
mark_means mark.And = refl
mark_means mark.Or = refl
mark_means mark.Eqv = refl
mark_means mark.Neqv = refl

-- behind a mark that another would lengthen, nothing does
abbrev Ends : Shape → Type 0
Ends s = (rest : List ℕ) → Stops rest → Fits s rest

ends_colon : Ends (Sign mark.Colon 58 [])
unfolding class_at class_of mark_at one_or_two byte_at
ends_colon _ nothing = (refl, refl)
ends_colon _ (blank cs) = (refl, refl)
ends_colon _ (line cs) = (refl, refl)

ends_star : Ends (Sign mark.Star 42 [])
unfolding class_at class_of mark_at one_or_two byte_at
ends_star _ nothing = (refl, refl)
ends_star _ (blank cs) = (refl, refl)
ends_star _ (line cs) = (refl, refl)

ends_less : Ends (Sign mark.Less 60 [])
unfolding class_at class_of mark_at one_or_two byte_at
ends_less _ nothing = (refl, refl)
ends_less _ (blank cs) = (refl, refl)
ends_less _ (line cs) = (refl, refl)

ends_greater : Ends (Sign mark.Greater 62 [])
unfolding class_at class_of mark_at one_or_two byte_at
ends_greater _ nothing = (refl, refl)
ends_greater _ (blank cs) = (refl, refl)
ends_greater _ (line cs) = (refl, refl)

ends_assign : Ends (Sign mark.Assign 61 [])
unfolding class_at class_of mark_at one_or_two byte_at
ends_assign _ nothing = (refl, refl)
ends_assign _ (blank cs) = (refl, refl)
ends_assign _ (line cs) = (refl, refl)

ends_slash : Ends (Sign mark.Slash 47 [])
unfolding class_at class_of mark_at one_or_two byte_at
ends_slash _ nothing = (refl, refl)
ends_slash _ (blank cs) = (refl, refl)
ends_slash _ (line cs) = (refl, refl)

pub mark_fits : (m : MarkOf) (rest : List ℕ) → Stops rest → Fits (shape_of_mark m) rest
unfolding class_at class_of mark_at one_or_two byte_at is_next goes_on lowered dot_word relation_word logic_word
mark_fits mark.Open rest s = (refl, refl)
mark_fits mark.Close rest s = (refl, refl)
mark_fits mark.OpenBracket rest s = (refl, refl)
mark_fits mark.CloseBracket rest s = (refl, refl)
mark_fits mark.Comma rest s = (refl, refl)
mark_fits mark.Percent rest s = (refl, refl)
mark_fits mark.Colon rest s = ends_colon rest s
mark_fits mark.DoubleColon rest s = (refl, refl)
mark_fits mark.DotDot rest s = tt
mark_fits mark.Assign rest s = ends_assign rest s
mark_fits mark.Arrow rest s = (refl, refl)
mark_fits mark.Plus rest s = (refl, refl)
mark_fits mark.Minus rest s = (refl, refl)
mark_fits mark.Star rest s = ends_star rest s
mark_fits mark.Power rest s = (refl, refl)
mark_fits mark.Slash rest s = ends_slash rest s
mark_fits mark.Concat rest s = (refl, refl)
mark_fits mark.Equal rest s = (refl, refl)
mark_fits mark.NotEqual rest s = (refl, refl)
mark_fits mark.Less rest s = ends_less rest s
mark_fits mark.LessEqual rest s = (refl, refl)
mark_fits mark.Greater rest s = ends_greater rest s
mark_fits mark.GreaterEqual rest s = (refl, refl)
mark_fits mark.DotEq rest s = (refl, (refl, (refl, refl)), refl)
mark_fits mark.DotNe rest s = (refl, (refl, (refl, refl)), refl)
mark_fits mark.DotLt rest s = (refl, (refl, (refl, refl)), refl)
mark_fits mark.DotLe rest s = (refl, (refl, (refl, refl)), refl)
mark_fits mark.DotGt rest s = (refl, (refl, (refl, refl)), refl)
mark_fits mark.DotGe rest s = (refl, (refl, (refl, refl)), refl)
mark_fits mark.Not rest s = (refl, (refl, (refl, (refl, refl))), refl)
mark_fits mark.And rest s = (refl, (refl, (refl, (refl, refl))), refl)
mark_fits mark.Or rest s = (refl, (refl, (refl, refl)), refl)
mark_fits mark.Eqv rest s = (refl, (refl, (refl, (refl, refl))), refl)
mark_fits mark.Neqv rest s = (refl, (refl, (refl, (refl, (refl, refl)))), refl)
