-- What controls a group: the expression of `#if` and `#elif`, and names of headers that macros give (ISO/IEC 9899:2011, 6.10.1 and 6.10.2p4).
use Rattle.std.specs.declared.alloc.Global.{Global}
use Rattle.std.specs.declared.vec.Vec.{Vec}
use Rattle.c_token.specs.declared.token.CSpanned.{CSpanned}
use Rattle.std.specs.Prelude.{◌≡◌, ◌+◌, ◌<◌, ◌≤◌, ℕ, ℤ, pos, List, [], ◌∷◌, ◌++◌, map, length, codes, Option, Some, None, is_some, Result, Ok, Err, Bool, true, false, not, ◌==◌, nat_le, if◌then◌else◌}
use Rattle.std.specs.Str.{bytes_eq, is_utf8}
use Rattle.jf_base.specs.declared.place.Place.{Place}
use Rattle.c_text.specs.declared.kind.Lexeme.{Lexeme}
use Rattle.c_token.specs.declared.mark.Mark.TheVariants as mark
use Rattle.c_token.specs.declared.token.CToken.{CToken}
use Rattle.c_token.specs.declared.token.CToken.TheVariants.{Id, Number, Text, Byte, Mark}
use Rattle.c_literal.specs.IntegerReading.{constant_at as integer_at}
use Rattle.c_literal.specs.LiteralReading.{Found, element_at}
use Rattle.c_literal.specs.declared.integer.IntegerConstant.{IntegerConstant}
use Rattle.c_condition.specs.declared.number.Number.{Number as Value}
use Rattle.c_condition.specs.declared.number.Number.TheVariants as value
use Rattle.c_condition.specs.declared.token.Token.{Token}
use Rattle.c_condition.specs.declared.token.Token.TheVariants as operand
use Rattle.c_condition.specs.declared.outcome.Outcome.{Outcome}
use Rattle.c_condition.specs.Values.{number_of, is_zero, value_of}
use Rattle.c_condition.specs.Reading.{values, constant_at, and_then}
use Rattle.c_lines.specs.declared.rule.Rule.TheVariants as rule
use Rattle.c_lines.specs.declared.header.Delimiter.{Delimiter}
use Rattle.c_lines.specs.declared.header.Delimiter.TheVariants.{Angle, Quote}
use Rattle.c_lines.specs.Headers.{header_of, spelled}
use Rattle.c_form.specs.Forms.{spelled_token}
use Rattle.c_define.specs.Definitions.{Macros}
use Rattle.c_define.specs.Expansion.{expansion, all_at}
use Rattle.c_directives.specs.declared.condition.Asked.{Asked}
use Rattle.c_directives.specs.declared.condition.Asked.TheVariants.{BuiltIn, File}
use Rattle.c_directives.specs.declared.condition.Expected.{Expected}
use Rattle.c_directives.specs.declared.condition.Expected.TheVariants as expected
use Rattle.c_directives.specs.Reads.{Read, broken, ◌>>=◌}
use Rattle.c_directives.specs.Directives.{tokens_of}

-- ---- defined (6.10.1p1)

abbrev pub truth : Bool → CToken
truth true = Number (codes "1")
truth false = Number (codes "0")

-- behind a token: what is expected then, and the token that is given; none where it isn't what is expected
abbrev pub Step : Type 0
Step = Option (Expected × Option CToken)

abbrev pub free_step : CToken → Step
free_step (Id name) = if bytes_eq name (codes "defined") then Some (expected.Operand, None) else Some (expected.Any, Some (Id name))
free_step t = Some (expected.Any, Some t)

abbrev pub operand_step : Macros → CToken → Step
operand_step ms (Id name) = Some (expected.Any, Some (truth (is_some (ms.of name))))
operand_step ms (Mark mark.Open) = Some (expected.Name, None)
operand_step ms _ = None

abbrev pub name_step : Macros → CToken → Step
name_step ms (Id name) = Some (expected.Close (is_some (ms.of name)), None)
name_step ms _ = None

abbrev pub close_step : Bool → CToken → Step
close_step b (Mark mark.Close) = Some (expected.Any, Some (truth b))
close_step b _ = None

unfoldable pub step : Macros → Expected → CToken → Step
step ms expected.Any t = free_step t
step ms expected.Operand t = operand_step ms t
step ms expected.Name t = name_step ms t
step ms (expected.Close b) t = close_step b t

abbrev pub with_given : Option CToken → Option (List CToken) → Option (List CToken)
with_given given None = None
with_given None (Some ts) = Some ts
with_given (Some t) (Some ts) = Some (t ∷ ts)

abbrev pub given_list : Option CToken → List CToken
given_list None = []
given_list (Some t) = t ∷ []

abbrev pub at_end : Expected → Option (List CToken)
at_end expected.Any = Some []
at_end _ = None

-- the tokens with 1 or 0 in place of each `defined name` and `defined (name)`; none where `defined` stands before something else
unfoldable pub without_defined : Macros → Expected → List CToken → Option (List CToken)
without_defined ms e [] = at_end e
without_defined ms e (t ∷ ts) = and_then (step ms e t) (λ x. with_given x.1 (without_defined ms x.0 ts))

-- ---- replacement

-- what each of the tokens expands to
unfoldable pub all_expanded : Macros → List CToken → List CToken
all_expanded ms [] = []
all_expanded ms (t ∷ ts) = expansion ms (t ∷ []) ++ all_expanded ms ts

-- a directive has as many tokens behind macro replacement as all files may have, at most
abbrev pub most_tokens : ℕ
most_tokens = 262144

abbrev pub if_few : {A : Type 0} → Place → List CToken → (List CToken → Read A) → Read A
if_few place ts f = if nat_le (length ts) most_tokens then f ts else broken rule.TooMany place

-- ---- the value

abbrev pub number_operand : Option IntegerConstant → Token
number_operand None = operand.Other
number_operand (Some c) = operand.Number (number_of c)

abbrev pub byte_operand : Found → Token
byte_operand None = operand.Other
byte_operand (Some x) = if length x.1 == 0 then operand.Number (value.Signed (pos x.0)) else operand.Other

-- a token of a controlling expression: names that are left count as 0 (6.10.1p4)
unfoldable pub operand_of : CToken → Token
operand_of (Id name) = operand.Name
operand_of (Number s) = number_operand (integer_at s)
operand_of (Text content) = operand.Other
operand_of (Byte content) = byte_operand (element_at 39 content)
operand_of (Mark m) = operand.Mark m

-- the value of a controlling expression, if it has one
unfoldable pub condition_value : List Token → Option Value
condition_value ts = and_then (constant_at values ts) value_of

abbrev pub decided : Place → Option Value → Read Bool
decided place None = broken rule.Form place
decided place (Some n) = Ok (not (is_zero n))

abbrev pub controls_with : Macros → Place → Option (List CToken) → Read Bool
controls_with ms place None = broken rule.Form place
controls_with ms place (Some ts) = if_few place (all_expanded ms ts) (λ ts. decided place (condition_value (map operand_of ts)))

abbrev pub resolved : Macros → Place → Option (List CToken) → Read Bool
resolved ms place None = broken rule.Form place
resolved ms place (Some ts) = controls_with ms place (without_defined ms expected.Any ts)

-- whether the group behind an `#if` is taken
unfoldable pub controls_at : Macros → Place → List Lexeme → Read Bool
controls_at ms place tail = resolved ms place (tokens_of tail)

-- ---- headers

abbrev pub Name : Type 0
Name = Delimiter × List ℕ

-- what is asked for
abbrev pub asked : Asked → Name
asked (BuiltIn name) = (Angle, name)
asked (File name) = (Quote, name)

unfoldable pub spelled_tokens : List CToken → List ℕ
spelled_tokens [] = []
spelled_tokens (t ∷ ts) = spelled_token t ++ spelled_tokens ts

-- the name between quotes is a text
abbrev pub form_of : Place → Option Name → Read Name
form_of place None = broken rule.Form place
form_of place (Some (Angle, name)) = Ok (Angle, name)
form_of place (Some (Quote, name)) = if is_utf8 name then Ok (Quote, name) else broken rule.Form place

abbrev pub header_with : Macros → Place → Option (List CToken) → Read Name
header_with ms place None = broken rule.Form place
header_with ms place (Some ts) = if_few place (all_expanded ms ts) (λ ts. form_of place (header_of (spelled_tokens ts)))

abbrev pub or_expanded : Macros → Place → List Lexeme → Option Name → Read Name
or_expanded ms place tail None = header_with ms place (tokens_of tail)
or_expanded ms place tail (Some h) = form_of place (Some h)

-- the header that an `#include` names: as it is written, or behind macro replacement
unfoldable pub header_at : Macros → Place → List Lexeme → Read Name
header_at ms place tail = or_expanded ms place tail (header_of (spelled tail))

-- ---- what the program puts out of a directive's tokens

abbrev pub Put : Bool → Macros → Place → CToken → List CSpanned → List CSpanned → Type 0
Put true ms place t out out' = (out' ≡ out ++ all_at place (expansion ms (t ∷ []))) × (length out' ≤ most_tokens)
Put false ms place t out out' = most_tokens < length out + length (expansion ms (t ∷ []))

abbrev pub AllPut : Option (Vec CSpanned Global) → Macros → Place → List CToken → Type 0
AllPut None ms place ts = most_tokens < length (all_expanded ms ts)
AllPut (Some v) ms place ts = (v.items ≡ all_at place (all_expanded ms ts)) × (length (all_expanded ms ts) ≤ most_tokens)
