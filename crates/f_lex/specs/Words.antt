-- Names, numbers, marks and operators (ISO/IEC 1539-1:2018, 6.2).
use Rattle.std.specs.Prelude.{ℕ, ◌+◌, ◌*◌, ◌-◌, List, [], ◌∷◌, map, codes, Option, Some, None, Bool, true, false, ◌==◌, if◌then◌else◌}
use Rattle.std.specs.Char.{to_ascii_lowercase}
use Rattle.std.specs.Str.{bytes_eq}
use Rattle.f_lex.specs.declared.class.Run.TheVariants as run
use Rattle.f_lex.specs.declared.token.Mark.{Mark}
use Rattle.f_lex.specs.declared.token.Mark.TheVariants as mark
use Rattle.f_lex.specs.declared.token.Kind.{Kind}
use Rattle.f_lex.specs.declared.token.Kind.TheVariants as kind
use Rattle.f_lex.specs.declared.words.DotWord.{DotWord}
use Rattle.f_lex.specs.declared.words.DotWord.TheVariants.{Operator, Truth}
use Rattle.f_lex.specs.Characters.{Class, Letter, Digit, underscore, class_at, is_quote}
use Rattle.f_lex.specs.Lines.{choose, run_at, byte_at}

-- letters lowered
unfoldable pub lowered : List ℕ → List ℕ
lowered cs = map to_ascii_lowercase cs

abbrev pub kind_of : Class → List ℕ → List ℕ → Option Kind × List ℕ
kind_of Letter cs bytes = (Some (kind.Name (lowered (run_at run.Name cs).0)), (run_at run.Name cs).1)
kind_of Digit cs bytes = (Some (kind.Number (lowered (run_at run.Digits cs).0)), (run_at run.Digits cs).1)
kind_of _ cs bytes = (None, bytes)

-- an underscore and a kind, which is a name or digits (7.4.3.1), if they stand first, and the rest
unfoldable pub kind_at : List ℕ → Option Kind × List ℕ
kind_at cs = choose (byte_at underscore cs) (None, cs) (λ r. kind_of (class_at r) r cs)

-- the delimiter of a text, if it stands first, and what stands behind it
unfoldable pub quote_at : List ℕ → Option (ℕ × List ℕ)
quote_at [] = None
quote_at (c ∷ cs) = if is_quote (class_at (c ∷ cs)) then Some (c, cs) else None

-- the same behind an underscore: then what stands before is the kind of the text (7.4.4)
unfoldable pub kind_quote_at : List ℕ → Option (ℕ × List ℕ)
kind_quote_at cs = choose (byte_at underscore cs) None quote_at

abbrev pub number_from : ℕ → List ℕ → ℕ
number_from n [] = n
number_from n (d ∷ ds) = number_from (n * 10 + (d - 48)) ds

-- the number that digits stand for in the decimal system (7.4.3.1)
unfoldable pub number_of : List ℕ → ℕ
number_of ds = number_from 0 ds

unfoldable pub one_or_two : Mark → ℕ → Mark → List ℕ → Mark × List ℕ
one_or_two one second two cs = choose (byte_at second cs) (one, cs) (λ r. (two, r))

-- ( ) [ ] , % + -
abbrev pub single_mark : ℕ → Option Mark
single_mark c = if c == 40 then Some mark.Open else if c == 41 then Some mark.Close else if c == 91 then Some mark.OpenBracket else if c == 93 then Some mark.CloseBracket
    else if c == 44 then Some mark.Comma else if c == 37 then Some mark.Percent else if c == 43 then Some mark.Plus else if c == 45 then Some mark.Minus else None

-- : and ::, * and **, < and <=, > and >=: the mark of one character, the second character, and the mark of both
abbrev pub double_mark : ℕ → Option (Mark × ℕ × Mark)
double_mark c = if c == 58 then Some (mark.Colon, 58, mark.DoubleColon) else if c == 42 then Some (mark.Star, 42, mark.Power)
    else if c == 60 then Some (mark.Less, 61, mark.LessEqual) else if c == 62 then Some (mark.Greater, 61, mark.GreaterEqual) else None

-- / // /= and = => ==
abbrev pub other_mark : Bool → List ℕ → Mark × List ℕ
other_mark true cs = choose (byte_at 47 cs) (one_or_two mark.Slash 61 mark.NotEqual cs) (λ r. (mark.Concat, r))
other_mark false cs = choose (byte_at 62 cs) (one_or_two mark.Assign 61 mark.Equal cs) (λ r. (mark.Arrow, r))

-- the longest mark that the character begins (6.2.1), and the rest
unfoldable pub mark_at : ℕ → List ℕ → Mark × List ℕ
mark_at c cs = choose (single_mark c) (choose (double_mark c) (other_mark (c == 47) cs) (λ m. one_or_two m.0 m.1 m.2 cs)) (λ m. (m, cs))

-- relational operators in letters (10.1.5.5.1)
unfoldable pub relation_word : List ℕ → Option Mark
relation_word w = if bytes_eq w (codes "eq") then Some mark.DotEq else if bytes_eq w (codes "ne") then Some mark.DotNe else if bytes_eq w (codes "lt") then Some mark.DotLt
    else if bytes_eq w (codes "le") then Some mark.DotLe else if bytes_eq w (codes "gt") then Some mark.DotGt else if bytes_eq w (codes "ge") then Some mark.DotGe else None

-- logical operators and values (10.1.5.4.1, 7.4.5)
unfoldable pub logic_word : List ℕ → Option DotWord
logic_word w = if bytes_eq w (codes "true") then Some (Truth true) else if bytes_eq w (codes "false") then Some (Truth false) else if bytes_eq w (codes "not") then Some (Operator mark.Not)
    else if bytes_eq w (codes "and") then Some (Operator mark.And) else if bytes_eq w (codes "or") then Some (Operator mark.Or)
    else if bytes_eq w (codes "eqv") then Some (Operator mark.Eqv) else if bytes_eq w (codes "neqv") then Some (Operator mark.Neqv) else None

-- what a word between two dots is
unfoldable pub dot_word : List ℕ → Option DotWord
dot_word w = choose (relation_word w) (logic_word w) (λ m. Some (Operator m))
