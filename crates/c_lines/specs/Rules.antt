-- The rules of the preprocessor, and the lexemes that break one wherever they stand.
use Rattle.std.specs.Prelude.{ℕ, List, [], ◌∷◌, Option, Some, None}
use Rattle.c_text.specs.declared.kind.Kind.{Kind}
use Rattle.c_text.specs.declared.kind.Kind.TheVariants as kind
use Rattle.c_text.specs.declared.kind.Lexeme.{Lexeme}
use Rattle.c_text.specs.declared.character.Point.{Point}
use Rattle.c_lines.specs.declared.rule.Rule.{Rule}
use Rattle.c_lines.specs.declared.rule.Rule.TheVariants as rule
use Rattle.c_lines.specs.declared.rule.Fault.{Fault}

-- the numbers of the tags P01 to P10
abbrev pub tag_number : Rule → ℕ
tag_number rule.ForeignByte = 501
tag_number rule.OpenText = 502
tag_number rule.Form = 503
tag_number rule.Balance = 504
tag_number rule.Header = 505
tag_number rule.Hash = 506
tag_number rule.Redefined = 507
tag_number rule.Error = 508
tag_number rule.NoToken = 509
tag_number rule.TooMany = 510

-- bytes outside the basic source character set (5.2.1), and comments and literals without their ends (6.4.4.4, 6.4.5, 6.4.9)
abbrev pub broken_by : Kind → Option Rule
broken_by kind.ForeignByte = Some rule.ForeignByte
broken_by kind.OpenText = Some rule.OpenText
broken_by _ = None

abbrev pub ill_first : Option Rule → Point → Option Fault → Option Fault
ill_first None point rest = rest
ill_first (Some r) point rest = Some (record { point = point; rule = r })

-- the first lexeme that breaks a rule wherever it stands
unfoldable pub first_ill : List Lexeme → Option Fault
first_ill [] = None
first_ill (l ∷ ls) = ill_first (broken_by l.kind) l.point (first_ill ls)
