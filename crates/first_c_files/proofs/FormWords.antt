-- The words of the form's tokens.
use Rattle.std.proofs.Common.{◌≡◌, ℕ, List, [], ◌∷◌, map, Option, Some, None, Bool, true, false, is_some, refl, sym, ap, ◌∙◌, subst, codes}
use Rattle.std.specs.Str.{bytes_eq}
use Rattle.c_literal.specs.declared.integer.IntegerConstant.{IntegerConstant}
use Rattle.c_literal.specs.Integers.{type_of}
use Rattle.c_literal.specs.IntegerReading.{constant_at}
use Rattle.c_token.specs.declared.mark.Mark.TheVariants as mark
use Rattle.c_token.specs.declared.token.CToken.{CToken}
use Rattle.c_token.specs.declared.token.CToken.TheVariants as text
use Rattle.c_token.specs.declared.token.CSpanned.{CSpanned}
use Rattle.c_tree.specs.declared.operator.SpecifierWord.TheVariants as specifier
use Rattle.c_grammar.specs.declared.token.Token.{Token}
use Rattle.c_grammar.specs.declared.token.Token.TheVariants as token
use Rattle.c_grammar.specs.Grammar.{Expr, Name, Number}
use Rattle.c_words.specs.Pieces.{Piece, piece, is_literal, pieces, put_before}
use Rattle.c_words.specs.Words.{specifier_of, statement_of, other_of, unused_small, unused_capital, keyword_of, index_of, sign_of}
use Rattle.c_words.specs.Numbering.{put_some, name_in, names_in, without, firsts, names_of, literal_of, word_with, next_number, words_of}
use Rattle.first_c_files.proofs.FormUnits.{puts_words, header_words, opening_words, form_words, IsPut, parameter, constant, ArePut}

-- ---- the words of tokens without string literals

abbrev pub bare : List CSpanned → List CToken
bare ts = map (λ (t : CSpanned). t.token) ts

abbrev pub NoTexts : List CToken → Type 0
NoTexts [] = Unit {0}
NoTexts (t ∷ ts) = (is_literal t ≡ false) × NoTexts ts

abbrev alone : List CSpanned → List Piece
alone [] = []
alone (t ∷ ts) = piece t [] ∷ alone ts

put_alone : (t : CSpanned) (ps : List Piece) → is_literal t.token ≡ false → put_before t ps ≡ piece t [] ∷ ps
put_alone t [] e = refl
put_alone t (p ∷ ps) e = rw e refl

pieces_alone : (ts : List CSpanned) → NoTexts (bare ts) → pieces ts ≡ alone ts
unfolding pieces
pieces_alone [] n = refl
pieces_alone (t ∷ ts) n = ap (put_before t) (pieces_alone ts n.1) ∙ put_alone t (alone ts) n.0

-- the names among tokens
abbrev pub names_among : List CToken → List (List ℕ)
names_among [] = []
names_among (t ∷ ts) = put_some (name_in t) (names_among ts)

names_alone : (ts : List CSpanned) → names_in (alone ts) ≡ names_among (bare ts)
names_alone [] = refl
names_alone (t ∷ ts) = ap (put_some (name_in t.token)) (names_alone ts)

abbrev pub word : List (List ℕ) → CToken → Token
word names t = word_with names 0 t []

-- no string literal is counted
same_word : (names : List (List ℕ)) (k : ℕ) (t : CToken) → is_literal t ≡ false → word_with names k t [] ≡ word names t
same_word names k (text.Id s) e = refl
same_word names k (text.Number s) e = refl
same_word names k (text.Byte s) e = refl
same_word names k (text.Text s) e = absurd (cc)
same_word names k (text.Mark m) e = refl

no_literal : (t : CSpanned) → is_literal t.token ≡ false → literal_of (piece t []) ≡ None
no_literal t e = by t.token e
  where
    by : (u : CToken) → is_literal u ≡ false → literal_of (piece (record { token = u; place = t.place }) []) ≡ None
    by (text.Id s) h = refl
    by (text.Number s) h = refl
    by (text.Byte s) h = refl
    by (text.Text s) h = absurd (cc)
    by (text.Mark m) h = refl

words_alone : (names : List (List ℕ)) (k : ℕ) (ts : List CSpanned) → NoTexts (bare ts) → words_of names k (alone ts) ≡ map (word names) (bare ts)
unfolding words_of
words_alone names k [] n = refl
words_alone names k (t ∷ ts) n =
    ap (λ (w : Token). w ∷ words_of names (next_number k (literal_of (piece t []))) (alone ts)) (same_word names k t.token n.0)
    ∙ ap (λ (l : List Token). word names t.token ∷ l) (words_alone names (next_number k (literal_of (piece t []))) ts n.1)

pub words_are : (ts : List CSpanned) → NoTexts (bare ts) → words_of (names_of (pieces ts)) 0 (pieces ts) ≡ map (word (firsts (names_among (bare ts)))) (bare ts)
unfolding names_of
words_are ts n =
    ap (λ (ps : List Piece). words_of (firsts (names_in ps)) 0 ps) (pieces_alone ts n)
    ∙ ap (λ (ns : List (List ℕ)). words_of (firsts ns) 0 (alone ts)) (names_alone ts)
    ∙ words_alone (firsts (names_among (bare ts))) 0 ts n

-- ---- the tokens of the form

abbrev pub id : List ℕ → CToken
id s = text.Id s

abbrev pub header_tokens : List CToken → List CToken
header_tokens rest =
    id (codes "typedef") ∷ id (codes "unsigned") ∷ id (codes "long") ∷ id (codes "size_t") ∷ text.Mark mark.Semicolon
    ∷ id (codes "typedef") ∷ id (codes "long") ∷ id (codes "ptrdiff_t") ∷ text.Mark mark.Semicolon
    ∷ id (codes "int") ∷ id (codes "putchar") ∷ text.Mark mark.Open ∷ id (codes "int") ∷ text.Mark mark.Close ∷ text.Mark mark.Semicolon
    ∷ id (codes "int") ∷ id (codes "getchar") ∷ text.Mark mark.Open ∷ id (codes "void") ∷ text.Mark mark.Close ∷ text.Mark mark.Semicolon
    ∷ id (codes "int") ∷ id (codes "puts") ∷ text.Mark mark.Open ∷ id (codes "const") ∷ id (codes "char") ∷ text.Mark mark.Star ∷ text.Mark mark.Close ∷ text.Mark mark.Semicolon ∷ rest

abbrev pub opening_tokens : List ℕ → List CToken → List CToken
opening_tokens label rest =
    id (codes "void") ∷ id label ∷ text.Mark mark.Open ∷ id (codes "int") ∷ id (codes "c") ∷ text.Mark mark.Close ∷ text.Mark mark.OpenBrace ∷ rest

abbrev pub put_tokens : CToken → List CToken → List CToken
put_tokens t rest = id (codes "putchar") ∷ text.Mark mark.Open ∷ t ∷ text.Mark mark.Close ∷ text.Mark mark.Semicolon ∷ rest

abbrev pub puts_tokens : List CToken → List CToken → List CToken
puts_tokens [] rest = rest
puts_tokens (t ∷ ts) rest = put_tokens t (puts_tokens ts rest)

abbrev pub form_tokens : List ℕ → List CToken → List CToken
form_tokens label ts = header_tokens (opening_tokens label (puts_tokens ts (text.Mark mark.CloseBrace ∷ [])))

-- what is put
pub data IsPutToken : CToken → Type 0 where
  the_parameter : IsPutToken (text.Id (codes "c"))
  a_constant : (s : List ℕ) (c : IntegerConstant) → constant_at s ≡ Some c → IsPutToken (text.Number s)

abbrev pub ArePutTokens : List CToken → Type 0
ArePutTokens [] = Unit {0}
ArePutTokens (t ∷ ts) = IsPutToken t × ArePutTokens ts

-- what the label isn't
pub record IsApart (label : List ℕ) : Type 0 where
  pub no_keyword : keyword_of label ≡ None
  pub no_size : bytes_eq label (codes "size_t") ≡ false
  pub no_difference : bytes_eq label (codes "ptrdiff_t") ≡ false
  pub no_putchar : bytes_eq label (codes "putchar") ≡ false
  pub no_getchar : bytes_eq label (codes "getchar") ≡ false
  pub no_puts : bytes_eq label (codes "puts") ≡ false
  pub no_parameter : bytes_eq label (codes "c") ≡ false
  pub no_label : bytes_eq (codes "c") label ≡ false
  pub itself : bytes_eq label label ≡ true

no_texts_put : (t : CToken) → IsPutToken t → is_literal t ≡ false
no_texts_put t the_parameter = refl
no_texts_put t (a_constant s c e) = refl

no_texts_puts : (ts : List CToken) → ArePutTokens ts → NoTexts (puts_tokens ts (text.Mark mark.CloseBrace ∷ []))
no_texts_puts [] a = (refl, tt)
no_texts_puts (t ∷ ts) a = (refl, (refl, (no_texts_put t a.0, (refl, (refl, no_texts_puts ts a.1)))))

pub no_texts : (label : List ℕ) (ts : List CToken) → ArePutTokens ts → NoTexts (form_tokens label ts)
no_texts label ts a = (
  refl,
  (
    refl,
    (
      refl,
      (
        refl,
        (
          refl,
          (
            refl,
            (
              refl,
              (
                refl,
                (
                  refl,
                  (
                    refl,
                    (
                      refl,
                      (
                        refl,
                        (
                          refl,
                          (
                            refl,
                            (
                              refl,
                              (
                                refl,
                                (
                                  refl,
                                  (
                                    refl,
                                    (
                                      refl,
                                      (
                                        refl,
                                        (
                                          refl,
                                          (refl, (refl, (refl, (refl, (refl, (refl, (refl, (refl, (refl, (refl, (refl, (refl, (refl, (refl, (refl, no_texts_puts ts a))))))))))))))),
                                        ),
                                      ),
                                    ),
                                  ),
                                ),
                              ),
                            ),
                          ),
                        ),
                      ),
                    ),
                  ),
                ),
              ),
            ),
          ),
        ),
      ),
    ),
  ),
)

-- ---- its names

names_are : (label : List ℕ) (ts : List CToken) → keyword_of label ≡ None
    → names_among (form_tokens label ts) ≡ codes "size_t" ∷ codes "ptrdiff_t" ∷ codes "putchar" ∷ codes "getchar" ∷ codes "puts" ∷ label ∷ codes "c" ∷ names_among (puts_tokens ts (text.Mark mark.CloseBrace ∷ []))
unfolding keyword_of specifier_of statement_of other_of unused_small unused_capital
names_are label ts e = rw e refl

-- the numbers of the names, and others that stand behind them
abbrev numbered : List ℕ → List (List ℕ) → List (List ℕ)
numbered label more = codes "size_t" ∷ codes "ptrdiff_t" ∷ codes "putchar" ∷ codes "getchar" ∷ codes "puts" ∷ label ∷ codes "c" ∷ more

record Numbered (label : List ℕ) (names : List (List ℕ)) : Type 0 where
  more : List (List ℕ)
  are : names ≡ numbered label more

firsts_are : (label : List ℕ) (rest : List (List ℕ)) → IsApart label → Numbered label (firsts (numbered label rest))
unfolding firsts
firsts_are label rest a = record {
  more = without (codes "size_t") (without (codes "ptrdiff_t") (without (codes "putchar") (without (codes "getchar") (without (codes "puts") (without label (without (codes "c") (firsts rest)))))));
  are = rw (a.no_label, a.no_puts, a.no_getchar, a.no_putchar, a.no_difference, a.no_size) refl;
}

-- ---- its words

abbrev put_of : {t : CToken} → IsPutToken t → Expr
put_of the_parameter = Name 6
put_of (a_constant s c e) = Number c.value (type_of c)

abbrev pub puts_of : (ts : List CToken) → ArePutTokens ts → List Expr
puts_of [] a = []
puts_of (t ∷ ts) a = put_of a.0 ∷ puts_of ts a.1

is_put : (t : CToken) (a : IsPutToken t) → IsPut (put_of a)
is_put t the_parameter = parameter
is_put t (a_constant s c e) = constant c.value (type_of c)

pub are_put : (ts : List CToken) (a : ArePutTokens ts) → ArePut (puts_of ts a)
are_put [] a = tt
are_put (t ∷ ts) a = (is_put t a.0, are_put ts a.1)

module _ (label : List ℕ) (apart : IsApart label) (more : List (List ℕ)) where
  abbrev names : List (List ℕ)
  names = numbered label more

  label_word : word names (id label) ≡ token.Name 5
  label_word = rw (apart.no_keyword, apart.no_size, apart.no_difference, apart.no_putchar, apart.no_getchar, apart.no_puts, apart.itself) refl

  parameter_word : word names (id (codes "c")) ≡ token.Name 6
  unfolding keyword_of specifier_of statement_of other_of unused_small unused_capital
  parameter_word = rw apart.no_label refl

  one_put : (t : CToken) (a : IsPutToken t) (ws : List Token) → word names (id (codes "putchar")) ∷ token.Open ∷ word names t ∷ token.Close ∷ token.Semi ∷ ws ≡ puts_words (put_of a ∷ []) ws
  unfolding keyword_of specifier_of statement_of other_of unused_small unused_capital
  one_put t the_parameter ws = rw apart.no_label refl
  one_put t (a_constant s c e) ws = rw e refl

  puts_are : (ts : List CToken) (a : ArePutTokens ts) → map (word names) (puts_tokens ts (text.Mark mark.CloseBrace ∷ [])) ≡ puts_words (puts_of ts a) (token.BraceClose ∷ [])
  unfolding sign_of
  puts_are [] a = refl
  puts_are (t ∷ ts) a =
      one_put t a.0 (map (word names) (puts_tokens ts (text.Mark mark.CloseBrace ∷ []))) ∙ ap (puts_words (put_of a.0 ∷ [])) (puts_are ts a.1)

  opening_are : (rest : List CToken) → map (word names) (opening_tokens label rest) ≡ opening_words (map (word names) rest)
  unfolding keyword_of specifier_of statement_of other_of unused_small unused_capital sign_of
  opening_are rest =
      ap (λ (w : Token). token.Word specifier.Void ∷ w ∷ token.Open ∷ token.Word specifier.Int ∷ word names (id (codes "c")) ∷ token.Close ∷ token.BraceOpen ∷ map (word names) rest) label_word
      ∙ ap (λ (w : Token). token.Word specifier.Void ∷ token.Name 5 ∷ token.Open ∷ token.Word specifier.Int ∷ w ∷ token.Close ∷ token.BraceOpen ∷ map (word names) rest) parameter_word

  header_are : (rest : List CToken) → map (word names) (header_tokens rest) ≡ header_words (map (word names) rest)
  unfolding keyword_of specifier_of statement_of other_of unused_small unused_capital sign_of
  header_are rest = refl

  all_are : (ts : List CToken) (a : ArePutTokens ts) → map (word names) (form_tokens label ts) ≡ form_words (puts_of ts a)
  all_are ts a =
      header_are (opening_tokens label (puts_tokens ts (text.Mark mark.CloseBrace ∷ [])))
      ∙ ap header_words (opening_are (puts_tokens ts (text.Mark mark.CloseBrace ∷ [])))
      ∙ ap (λ (ws : List Token). header_words (opening_words ws)) (puts_are ts a)

-- the words of such tokens
pub words_of_form : (label : List ℕ) (ts : List CToken) (us : List CSpanned) → IsApart label → (a : ArePutTokens ts) → bare us ≡ form_tokens label ts
    → words_of (names_of (pieces us)) 0 (pieces us) ≡ form_words (puts_of ts a)
words_of_form label ts us apart a e =
    let none : NoTexts (bare us) = subst NoTexts (sym e) (no_texts label ts a) in
    let n = firsts_are label (names_among (puts_tokens ts (text.Mark mark.CloseBrace ∷ []))) apart in
    words_are us none
    ∙ ap (λ (l : List CToken). map (word (firsts (names_among l))) l) e
    ∙ ap (λ (ns : List (List ℕ)). map (word (firsts ns)) (form_tokens label ts)) (names_are label ts apart.no_keyword)
    ∙ ap (λ (ns : List (List ℕ)). map (word ns) (form_tokens label ts)) n.are
    ∙ all_are label apart n.more ts a
