-- Character literal constants: what stands between their delimiters (ISO/IEC 1539-1:2018, 7.4.4 and 6.3.2.4).
use Rattle.std.specs.Prelude.{ℕ, zero, suc, ◌+◌, ◌-◌, List, [], ◌∷◌, ◌++◌, length, Some, None, ◌==◌, if◌then◌else◌}
use Rattle.f_lex.specs.declared.fault.Rule.TheVariants as rule
use Rattle.f_lex.specs.declared.lines.Context.TheVariants.{Inside}
use Rattle.f_lex.specs.declared.text.Part.{Part}
use Rattle.f_lex.specs.declared.text.Part.TheVariants.{Byte, Doubled, Joined, Closed, Open, Lost}
use Rattle.f_lex.specs.declared.text.Body.{Body}
use Rattle.f_lex.specs.Characters.{Class, LineEnd, Ampersand, ampersand, class_at}
use Rattle.f_lex.specs.Lines.{choose, byte_at, ends_line, goes_on_at}

-- the part that an `&` begins: it continues the text where it is the last character of its line
abbrev pub part_of_ampersand : List ℕ → Part × List ℕ
part_of_ampersand cs = if ends_line Inside cs then choose (goes_on_at Inside cs) (Lost, cs) (λ next. (Joined, next)) else (Byte ampersand, cs)

-- the part that another byte than the delimiter begins, by its class
abbrev pub part_of : Class → ℕ → List ℕ → Part × List ℕ
part_of LineEnd c cs = (Open, c ∷ cs)
part_of Ampersand c cs = part_of_ampersand cs
part_of _ c cs = (Byte c, cs)

-- the part that stands first, and the rest
unfoldable pub part_at : ℕ → List ℕ → Part × List ℕ
part_at quote [] = (Open, [])
part_at quote (c ∷ cs) = if c == quote then choose (byte_at quote cs) (Closed, cs) (λ next. (Doubled, next)) else part_of (class_at (c ∷ cs)) c cs

-- what a part adds to the characters and to the bytes that continue lines, or the whole body where it is the last
abbrev pub with_part : ℕ → List ℕ → ℕ → List ℕ → Part × List ℕ → (List ℕ → ℕ → List ℕ → Body × List ℕ) → Body × List ℕ
with_part quote content passed bytes (Byte c, next) more = more (content ++ c ∷ []) passed next
with_part quote content passed bytes (Doubled, next) more = more (content ++ quote ∷ []) passed next
with_part quote content passed bytes (Joined, next) more = more content (passed + (length bytes - length next)) next
with_part quote content passed bytes (Closed, next) more = (record { bytes = content; passed = passed; broken = None }, next)
with_part quote content passed bytes (Open, next) more = (record { bytes = content; passed = passed; broken = Some rule.OpenText }, next)
with_part quote content passed bytes (Lost, next) more = (record { bytes = content; passed = passed; broken = Some rule.LostLine }, next)

-- the body of a text behind these characters, of at most so many parts
unfoldable pub body_at : ℕ → ℕ → List ℕ → ℕ → List ℕ → Body × List ℕ
body_at zero quote content passed bytes = (record { bytes = content; passed = passed; broken = Some rule.OpenText }, bytes)
body_at (suc k) quote content passed bytes = with_part quote content passed bytes (part_at quote bytes) (body_at k quote)
