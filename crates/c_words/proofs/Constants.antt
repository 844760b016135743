-- What constants and string literals are read as.
use Rattle.std.proofs.Common.{◌≡◌, ℕ, Bool, true, false, cond, eqb, List, [], ◌∷◌, ◌++◌, length, Option, Some, None, refl, sym, ap, ◌∙◌, append_assoc}
use Rattle.std.proofs.lemmas.List.{append-nil}
use Rattle.std.proofs.lemmas.Bool.{eqb-true}
use Rattle.std.specs.Prelude.{MatchOption, IfOk, Result, Ok, Err}
use Rattle.std.specs.declared.alloc.AllocError.{AllocError}
use Rattle.c_grammar.specs.declared.token.Token.{Token}
use Rattle.c_grammar.specs.declared.token.Token.TheVariants as word
use Rattle.c_literal.specs.declared.integer.IntegerConstant.{IntegerConstant}
use Rattle.c_literal.specs.Integers.{IsConstant, IsNoConstant, type_of}
use Rattle.c_literal.specs.IntegerReading.{constant_at}
use Rattle.c_literal.specs.Literals.{IsCharacter, IsNoCharacter, IsString, IsNoString}
use Rattle.c_literal.specs.LiteralReading.{Found, element_at, bytes_at}
use Rattle.c_literal.proofs.IntegerLaws.{constant_read, constant_taken}
use Rattle.c_literal.proofs.Strings.{character_taken, a_character, string_read, one_string}
use Rattle.c_words.specs.Words.{number_word, byte_word, string_at, joined, strings_at, AreStrings, AreNoStrings}

pub number_is : (s : List ℕ) (c : IntegerConstant) → IsConstant s c → number_word (constant_at s) ≡ word.Number c.value (type_of c)
number_is s c h = ap number_word (constant_taken s c h)

pub number_isnt : (s : List ℕ) → IsNoConstant s → number_word (constant_at s) ≡ word.Unused
number_isnt s no_constant = pick (constant_at s) (constant_read s)
  where
    pick : (o : Option IntegerConstant) → MatchOption o (IsNoConstant s) (IsConstant s) → number_word o ≡ word.Unused
    pick None h = refl
    pick (Some c) h = absurd (no_constant c h)

pub byte_is : (s : List ℕ) (b : ℕ) → IsCharacter s b → byte_word (element_at 39 s) ≡ word.Byte b
byte_is s b h = ap byte_word (character_taken s b h)

pub byte_isnt : (s : List ℕ) → IsNoCharacter s → byte_word (element_at 39 s) ≡ word.Unused
byte_isnt s no_byte = pick (element_at 39 s) refl
  where
    pick : (o : Found) → element_at 39 s ≡ o → byte_word o ≡ word.Unused
    pick None e = refl
    pick (Some x) e = ended (eqb (length x.1) 0) refl
      where
        ended : (v : Bool) → eqb (length x.1) 0 ≡ v → cond v (word.Byte x.0) word.Unused ≡ word.Unused
        ended false f = refl
        ended true f = absurd (no_byte x.0 (a_character s x.0 x.1 e (eqb-true (length x.1) 0 f)))

-- what a reader of strings answers is what is read
pub string_is : (s : List ℕ) (o : Option (List ℕ)) → MatchOption o (IsNoString s) (IsString s) → o ≡ string_at s
string_is s o h = pick o (bytes_at (length s) [] s) (string_read s) h
  where
    same : (bytes others : List ℕ) → IsString s bytes → IsString s others → bytes ≡ others
    same bytes others g h = one_string s bytes others g h

    pick : (o q : Option (List ℕ)) → MatchOption q (IsNoString s) (IsString s) → MatchOption o (IsNoString s) (IsString s) → o ≡ q
    pick None None m h = refl
    pick None (Some bytes) m h = absurd (h bytes m)
    pick (Some bytes) None m h = absurd (m bytes h)
    pick (Some bytes) (Some others) m h = ap Some (same bytes others h m)

pub strings_say : (s : List ℕ) (r : Result (Option (List ℕ)) AllocError) → IfOk r (λ o. MatchOption o (IsNoString s) (IsString s)) → IfOk r (λ o. o ≡ string_at s)
strings_say s (Ok o) h = string_is s o h
strings_say s (Err e) h = tt

-- ---- strings that stand side by side

pub joined_more : (bytes more : List ℕ) (o : Option (List ℕ)) → joined (Some bytes) (joined (Some more) o) ≡ joined (Some (bytes ++ more)) o
joined_more bytes more None = refl
joined_more bytes more (Some others) = ap Some (sym (append_assoc bytes more others))

pub joined_none : (bytes : List ℕ) → joined (Some bytes) (Some []) ≡ Some bytes
joined_none bytes = ap Some (append-nil bytes)

pub strings_read : (contents : List (List ℕ)) → MatchOption (strings_at contents) (AreNoStrings contents) (AreStrings contents)
strings_read [] = refl
strings_read (content ∷ contents) = pick (string_at content) (strings_at contents) (string_read content) (strings_read contents)
  where
    pick : (o q : Option (List ℕ)) → MatchOption o (IsNoString content) (IsString content) → MatchOption q (AreNoStrings contents) (AreStrings contents) → MatchOption (joined o q) (AreNoStrings (content ∷ contents)) (AreStrings (content ∷ contents))
    pick None None n m = λ bytes h. n h.0 h.2
    pick None (Some more) n m = λ bytes h. n h.0 h.2
    pick (Some first) None n m = λ bytes h. m h.1 h.3
    pick (Some first) (Some more) n m = (first, more, n, m, refl)
