-- The words of a text, with its names and its string literals by their numbers.
use Rattle.std.specs.Prelude.{◌≡◌, ℕ, zero, suc, ◌+◌, List, [], ◌∷◌, ◌++◌, length, map, Option, Some, None, Bool, true, false, if◌then◌else◌}
use Rattle.std.specs.Str.{bytes_eq}
use Rattle.jf_base.specs.declared.place.Place.{Place}
use Rattle.c_token.specs.declared.token.CToken.{CToken}
use Rattle.c_token.specs.declared.token.CToken.TheVariants as token
use Rattle.c_token.specs.declared.token.CSpanned.{CSpanned}
use Rattle.c_literal.specs.IntegerReading.{constant_at}
use Rattle.c_literal.specs.LiteralReading.{element_at}
use Rattle.c_grammar.specs.declared.token.Token.{Token}
use Rattle.c_words.specs.Pieces.{Piece}
use Rattle.c_words.specs.Words.{keyword_of, keyword_or_name, number_word, byte_word, strings_at, string_word, sign_of}

abbrev pub put_some : {A : Type 0} → Option A → List A → List A
put_some None xs = xs
put_some (Some x) xs = x ∷ xs

-- ---- names (ISO/IEC 9899:2011, 6.4.2), numbered in the order in which the text has them first

abbrev pub name_unless : Option Token → List ℕ → Option (List ℕ)
name_unless None s = Some s
name_unless (Some w) s = None

-- the spelling of a token that is a name and no keyword
abbrev pub name_in : CToken → Option (List ℕ)
name_in (token.Id s) = name_unless (keyword_of s) s
name_in _ = None

abbrev pub names_in : List Piece → List (List ℕ)
names_in [] = []
names_in (p ∷ ps) = put_some (name_in p.first.token) (names_in ps)

abbrev pub without : List ℕ → List (List ℕ) → List (List ℕ)
without s [] = []
without s (k ∷ ks) = if bytes_eq k s then without s ks else k ∷ without s ks

-- each of them once, in the order in which they come first
unfoldable pub firsts : List (List ℕ) → List (List ℕ)
firsts [] = []
firsts (s ∷ ss) = s ∷ without s (firsts ss)

unfoldable pub names_of : List Piece → List (List ℕ)
names_of ps = firsts (names_in ps)

-- ---- string literals (6.4.5), numbered in the order of the text

abbrev pub content_of : CToken → List ℕ
content_of (token.Text content) = content
content_of _ = []

abbrev pub contents_of : List CSpanned → List (List ℕ)
contents_of [] = []
contents_of (t ∷ ts) = content_of t.token ∷ contents_of ts

-- the bytes of a piece that is a string literal
abbrev pub literal_with : CToken → List CSpanned → Option (List ℕ)
literal_with (token.Text content) others = strings_at (content ∷ contents_of others)
literal_with _ others = None

abbrev pub literal_of : Piece → Option (List ℕ)
literal_of p = literal_with p.first.token p.others

unfoldable pub literals_of : List Piece → List (List ℕ)
literals_of [] = []
literals_of (p ∷ ps) = put_some (literal_of p) (literals_of ps)

-- ---- words

-- the word of a piece, where so many literals stand before it
abbrev pub word_with : List (List ℕ) → ℕ → CToken → List CSpanned → Token
word_with names k (token.Id s) others = keyword_or_name names s (keyword_of s)
word_with names k (token.Number s) others = number_word (constant_at s)
word_with names k (token.Byte content) others = byte_word (element_at 39 content)
word_with names k (token.Text content) others = string_word k (strings_at (content ∷ contents_of others))
word_with names k (token.Mark m) others = sign_of m

abbrev pub word_of : List (List ℕ) → ℕ → Piece → Token
word_of names k p = word_with names k p.first.token p.others

abbrev pub next_number : ℕ → Option (List ℕ) → ℕ
next_number k None = k
next_number k (Some bytes) = suc k

unfoldable pub words_of : List (List ℕ) → ℕ → List Piece → List Token
words_of names k [] = []
words_of names k (p ∷ ps) = word_of names k p ∷ words_of names (next_number k (literal_of p)) ps

-- the place of a word is that of its first token
abbrev pub place_of : Piece → Place
place_of p = p.first.place

-- how many tokens became the word
abbrev pub count_of : Piece → ℕ
count_of p = length p.others + 1
