-- The tokens behind the preprocessing of a C text of the form.
use Rattle.std.proofs.Common.{◌≡◌, ◌⊎◌, ℕ, ◌-◌, ◌≤◌, Bool, true, false, cond, eqb, List, [], ◌∷◌, ◌++◌, map, length, Option, Some, None, is_some, Result, Ok, Err, codes, refl, sym, ap, ◌∙◌, subst, inl, inr, arith, append_assoc}
use Rattle.std.specs.Prelude.{nat_lt}
use Rattle.std.specs.List.{All, flat_map, Contains, list_any}
use Rattle.std.specs.Str.{bytes_eq}
use Rattle.std.specs.Char.{IsAsciiLowercase}
use Rattle.std.proofs.lemmas.Bool.{ne_eqb}
use Rattle.std.proofs.lemmas.List.Elements.{All-head, All-tail}
use Rattle.std.proofs.lemmas.Slice.Eq.{bytes_eq-Decides}
use Rattle.std.proofs.lemmas.Map.Views.{Contains-from_any}
use Rattle.jf_base.specs.declared.place.Place.{Place}
use Rattle.c_literal.specs.declared.integer.IntegerConstant.{IntegerConstant}
use Rattle.c_literal.specs.IntegerReading.{constant_at}
use Rattle.c_token.specs.declared.token.CToken.{CToken}
use Rattle.c_token.specs.declared.token.CToken.TheVariants as text
use Rattle.c_token.specs.declared.token.CSpanned.{CSpanned}
use Rattle.c_token.specs.declared.mark.Mark.TheVariants as mark
use Rattle.c_text.specs.Source.{lexemes_in}
use Rattle.c_lines.specs.declared.header.Delimiter.TheVariants.{Angle}
use Rattle.c_lines.specs.Heads.{head_at, is_hash}
use Rattle.c_lines.specs.Rows.{Row, rows}
use Rattle.c_form.specs.Marks.{mark_of, bracket_of, digraph_of, arithmetic_of, logic_of, assignment_of}
use Rattle.c_form.specs.Forms.{is_number}
use Rattle.c_headers.specs.Headers.{text_of}
use Rattle.c_headers.specs.declared.header.Header.TheVariants.{Stdio}
use Rattle.c_words.specs.Words.{specifier_of, statement_of, other_of, unused_small, unused_capital, keyword_of}
use Rattle.c_directives.specs.declared.origin.Origin.{Origin}
use Rattle.c_directives.specs.declared.origin.Origin.TheVariants.{Named, Included}
use Rattle.c_lines.specs.declared.rule.Rule.TheVariants as rule
use Rattle.c_directives.specs.Reads.{Read, broken, ◌>>=◌}
use Rattle.c_directives.specs.Texts.{place_of}
use Rattle.c_directives.specs.Headers.{header_text}
use Rattle.c_directives.specs.Conditions.{most_tokens}
use Rattle.c_directives.specs.Reading.{State, Including, Stand, line_at, lines_at, file_at, most_bytes}
use Rattle.c_pre.specs.Files.{include_at, start, most_deep, expanded_at}
use Rattle.first_form.specs.declared.program.PutcharArgument.{PutcharArgument}
use Rattle.first_form.specs.Lines.{text_lines}
use Rattle.first_form.specs.Words.{IsName, IsLabel, keywords, library_functions, reserved_words}
use Rattle.first_form.specs.Forms.{include_line, opening_text, put_text, closing_text, c_lines, c_one_line, IsArgument, IsCText}
use Rattle.first_c_files.proofs.Bits.{Points, Bit, WordBit, NumberBit, made_of}
use Rattle.first_c_files.proofs.FormLines.{PartOf, part_append, line_of, included_line, include_bits, opening_part, opening_bits, IsPutBit, the_parameter, a_number, ArgumentBit, argument_bit, put_part, put_bits, closing_part, closing_bits}
use Rattle.first_c_files.proofs.FormWords.{IsApart, bare, header_tokens, opening_tokens, put_tokens, puts_tokens, form_tokens, IsPutToken, the_parameter as parameter_token, a_constant, ArePutTokens}
use Rattle.first_c_files.proofs.Joining.{AreRows, one_row, Lined, none, one_more, all_cut, text_rows}
use Rattle.first_c_files.proofs.Room.{header_macros, header_read}
use Rattle.first_c_files.proofs.Running.{ok_is, bound, token_with, tokens_with, AreText, HaveForm, IsTextLine, AreTextLines, tokens_of_lines, LinesHaveForm, RanLines, lines_ran, include_row}

-- ---- what the label isn't

module _ (name label : List ℕ) (is_label : IsLabel name label) where
  no_word : (w : List ℕ) → list_any (bytes_eq w) reserved_words ≡ true → bytes_eq label w ≡ false
  no_word w among = by (bytes_eq label w) refl
    where
      by : (b : Bool) → bytes_eq label w ≡ b → bytes_eq label w ≡ false
      by false e = e
      by true e =
          let same : label ≡ w = (bytes_eq-Decides label w).0 e in
          absurd (is_label.free (subst (Contains reserved_words) (sym same) (Contains-from_any {eq = bytes_eq} (λ x y. (bytes_eq-Decides x y).0) w reserved_words among)))

  -- a name begins with a small letter
  no_first : (c : ℕ) (cs : List ℕ) → (let low : ℕ = 97 in (IsAsciiLowercase c → ⊥)) → bytes_eq label (c ∷ cs) ≡ false
  no_first c cs other = by label is_label.word
    where
      by : (l : List ℕ) → IsName l → bytes_eq l (c ∷ cs) ≡ false
      by [] h = refl
      by (d ∷ ds) h = rw (ne_eqb d c (λ e. other (subst IsAsciiLowercase e (All-head IsAsciiLowercase d ds h.letters)))) refl

  unequal : (w : List ℕ) → (label ≡ w → ⊥) → bytes_eq label w ≡ false
  unequal w other = by (bytes_eq label w) refl
    where
      by : (b : Bool) → bytes_eq label w ≡ b → bytes_eq label w ≡ false
      by false e = e
      by true e = absurd (other ((bytes_eq-Decides label w).0 e))

  unequal_back : (w : List ℕ) → (label ≡ w → ⊥) → bytes_eq w label ≡ false
  unequal_back w other = by (bytes_eq w label) refl
    where
      by : (b : Bool) → bytes_eq w label ≡ b → bytes_eq w label ≡ false
      by false e = e
      by true e = absurd (other (sym ((bytes_eq-Decides w label).0 e)))

  equal : bytes_eq label label ≡ true
  equal = (bytes_eq-Decides label label).1 refl

  no_specifier : specifier_of label ≡ None
  unfolding specifier_of keywords library_functions
  no_specifier =
      rw (
        no_word (codes "int") refl,
        no_word (codes "char") refl,
        no_word (codes "void") refl,
        no_word (codes "const") refl,
        no_word (codes "static") refl,
        no_word (codes "long") refl,
        no_word (codes "unsigned") refl,
        no_word (codes "short") refl,
        no_word (codes "signed") refl,
        no_word (codes "extern") refl,
        no_word (codes "typedef") refl,
        no_word (codes "_Bool") refl,
        no_first 95 (codes "_CFI_descriptor") (λ h. absurd (omega arith)),
      ) refl

  no_statement : statement_of label ≡ None
  unfolding statement_of keywords library_functions
  no_statement =
      rw (
        no_word (codes "if") refl,
        no_word (codes "else") refl,
        no_word (codes "return") refl,
        no_word (codes "for") refl,
        no_word (codes "while") refl,
        no_word (codes "do") refl,
        no_word (codes "break") refl,
        no_word (codes "continue") refl,
        no_word (codes "switch") refl,
        no_word (codes "case") refl,
        no_word (codes "default") refl,
      ) refl

  no_other : other_of label ≡ None
  unfolding other_of keywords library_functions
  no_other =
      rw (no_word (codes "struct") refl, no_word (codes "enum") refl, no_word (codes "sizeof") refl, no_word (codes "restrict") refl, no_first 67 (codes "FI_CDESC_T") (λ h. absurd (omega arith))) refl

  no_small : unused_small label ≡ None
  unfolding unused_small keywords library_functions
  no_small =
      rw (
        no_word (codes "auto") refl,
        no_word (codes "double") refl,
        no_word (codes "float") refl,
        no_word (codes "goto") refl,
        no_word (codes "inline") refl,
        no_word (codes "register") refl,
        no_word (codes "union") refl,
        no_word (codes "volatile") refl,
      ) refl

  no_capital : unused_capital label ≡ None
  unfolding unused_capital keywords library_functions
  no_capital =
      rw (
        no_word (codes "_Alignas") refl,
        no_word (codes "_Alignof") refl,
        no_word (codes "_Atomic") refl,
        no_word (codes "_Complex") refl,
        no_word (codes "_Generic") refl,
        no_word (codes "_Imaginary") refl,
        no_word (codes "_Noreturn") refl,
        no_word (codes "_Static_assert") refl,
        no_word (codes "_Thread_local") refl,
      ) refl

  pub label_apart : IsApart label
  unfolding keyword_of keywords library_functions
  label_apart = record {
    no_keyword = rw (no_specifier, no_statement, no_other, no_small, no_capital) refl;
    no_size = by_size label is_label.word;
    no_difference = by_difference label is_label.word;
    no_putchar = no_word (codes "putchar") refl;
    no_getchar = no_word (codes "getchar") refl;
    no_puts = no_word (codes "puts") refl;
    no_parameter = unequal (codes "c") is_label.no_parameter;
    no_label = unequal_back (codes "c") is_label.no_parameter;
    itself = equal;
  }
    where
      no_underscore : (l xs ys : List ℕ) → l ≡ xs ++ 95 ∷ ys → All IsAsciiLowercase l → ⊥
      no_underscore l [] ys e a = let P : List ℕ → Type 0 = All IsAsciiLowercase in let h : IsAsciiLowercase 95 = All-head IsAsciiLowercase 95 ys (subst P e a) in absurd (omega (arith, h))
      no_underscore l (x ∷ xs) ys e a = let P : List ℕ → Type 0 = All IsAsciiLowercase in no_underscore (xs ++ 95 ∷ ys) xs ys refl (All-tail IsAsciiLowercase x (xs ++ 95 ∷ ys) (subst P e a))

      by_size : (l : List ℕ) → IsName l → bytes_eq l (codes "size_t") ≡ false
      by_size l h = pick (bytes_eq l (codes "size_t")) refl
        where
          pick : (b : Bool) → bytes_eq l (codes "size_t") ≡ b → bytes_eq l (codes "size_t") ≡ false
          pick false e = e
          pick true e = absurd (no_underscore l (codes "size") (codes "t") ((bytes_eq-Decides l (codes "size_t")).0 e) h.letters)

      by_difference : (l : List ℕ) → IsName l → bytes_eq l (codes "ptrdiff_t") ≡ false
      by_difference l h = pick (bytes_eq l (codes "ptrdiff_t")) refl
        where
          pick : (b : Bool) → bytes_eq l (codes "ptrdiff_t") ≡ b → bytes_eq l (codes "ptrdiff_t") ≡ false
          pick false e = e
          pick true e = absurd (no_underscore l (codes "ptrdiff") (codes "t") ((bytes_eq-Decides l (codes "ptrdiff_t")).0 e) h.letters)

-- ---- the lines of the form

abbrev ArePutBits : List Bit → Type 0
ArePutBits [] = Unit {0}
ArePutBits (b ∷ bs) = IsPutBit b × ArePutBits bs

abbrev bits_of : (puts : List PutcharArgument) → All IsArgument puts → List Bit
bits_of [] a = []
bits_of (x ∷ xs) a = (argument_bit x (All-head IsArgument x xs a)).bit ∷ bits_of xs (All-tail IsArgument x xs a)

are_put_bits : (puts : List PutcharArgument) (a : All IsArgument puts) → ArePutBits (bits_of puts a)
are_put_bits [] a = tt
are_put_bits (x ∷ xs) a = ((argument_bit x (All-head IsArgument x xs a)).is_put, are_put_bits xs (All-tail IsArgument x xs a))

abbrev flat_puts : List Bit → List Bit
flat_puts [] = []
flat_puts (b ∷ bs) = put_bits b ++ flat_puts bs

-- the lines behind the first, in the two ways to write them
abbrev on_lines : ℕ → List ℕ → List Bit → List (List Bit)
on_lines c cs bs = opening_bits c cs ∷ (map put_bits bs ++ closing_bits ∷ [])

abbrev on_one_line : ℕ → List ℕ → List Bit → List (List Bit)
on_one_line c cs bs = (opening_bits c cs ++ (flat_puts bs ++ closing_bits)) ∷ []

puts_lined : (puts : List PutcharArgument) (a : All IsArgument puts) → Lined (map put_text puts ++ closing_text ∷ []) (map put_bits (bits_of puts a) ++ closing_bits ∷ [])
puts_lined [] a = one_more (line_of closing_part (λ blank f. refl)) none
puts_lined (x ∷ xs) a = one_more (line_of (put_part x (argument_bit x (All-head IsArgument x xs a))) (λ blank f. refl)) (puts_lined xs (All-tail IsArgument x xs a))

no_part : PartOf [] []
no_part = record { spelled_is = λ rest. refl; clean = refl; fit = λ rest. tt; no_feeds = tt }

puts_part : (puts : List PutcharArgument) (a : All IsArgument puts) → PartOf (flat_map put_text puts) (flat_puts (bits_of puts a))
puts_part [] a = no_part
puts_part (x ∷ xs) a = part_append (put_part x (argument_bit x (All-head IsArgument x xs a))) (puts_part xs (All-tail IsArgument x xs a))

lines_lined : (c : ℕ) (cs : List ℕ) (puts : List PutcharArgument) (a : All IsArgument puts) → IsName (c ∷ cs) → Lined (c_lines (c ∷ cs) puts) (include_bits ∷ on_lines c cs (bits_of puts a))
lines_lined c cs puts a h = one_more included_line (one_more (line_of (opening_part c cs h) (λ blank f. refl)) (puts_lined puts a))

one_line_lined : (c : ℕ) (cs : List ℕ) (puts : List PutcharArgument) (a : All IsArgument puts) → IsName (c ∷ cs) → Lined (c_one_line (c ∷ cs) puts) (include_bits ∷ on_one_line c cs (bits_of puts a))
one_line_lined c cs puts a h = one_more included_line (one_more (line_of (part_append (opening_part c cs h) (part_append (puts_part puts a) closing_part)) (λ blank f. refl)) none)

-- ---- they are lines of text

label_free : (c : ℕ) (cs : List ℕ) → IsName (c ∷ cs) → header_macros.of (c ∷ cs) ≡ None
label_free c cs h =
    let letter : IsAsciiLowercase c = All-head IsAsciiLowercase c cs h.letters in
    rw (ne_eqb c 69 (λ e. absurd (omega arith)), ne_eqb c 78 (λ e. absurd (omega arith)), ne_eqb c 95 (λ e. absurd (omega arith))) refl

text_append : (bs cs : List Bit) → AreText bs → AreText cs → AreText (bs ++ cs)
text_append [] cs a b = b
text_append (x ∷ bs) cs a b = (a.0, text_append bs cs a.1 b)

opening_text_is : (c : ℕ) (cs : List ℕ) → IsName (c ∷ cs) → AreText (opening_bits c cs)
unfolding mark_of bracket_of digraph_of arithmetic_of logic_of assignment_of
opening_text_is c cs h = (refl, (tt, (label_free c cs h, ((refl, refl, refl), (refl, (tt, (refl, ((refl, refl, refl), ((refl, refl, refl), tt)))))))))

bit_text : (b : Bit) → IsPutBit b → AreText (b ∷ [])
bit_text b the_parameter = (refl, tt)
bit_text b (a_number d ds a) = (tt, tt)

put_text_is : (b : Bit) → IsPutBit b → AreText (put_bits b)
unfolding mark_of bracket_of digraph_of arithmetic_of logic_of assignment_of
put_text_is b is = (refl, ((refl, refl, refl), ((bit_text b is).0, ((refl, refl, refl), ((refl, refl, refl), tt)))))

closing_text_is : AreText closing_bits
unfolding mark_of bracket_of digraph_of arithmetic_of logic_of assignment_of
closing_text_is = ((refl, refl, refl), tt)

puts_text : (bs : List Bit) → ArePutBits bs → AreText (flat_puts bs ++ closing_bits)
puts_text [] a = closing_text_is
puts_text (b ∷ bs) a = text_append (put_bits b) (flat_puts bs ++ closing_bits) (put_text_is b a.0) (puts_text bs a.1)

puts_lines : (bs : List Bit) → ArePutBits bs → AreTextLines (map put_bits bs ++ closing_bits ∷ [])
unfolding head_at is_hash
puts_lines [] a = (record { are_text = closing_text_is; no_directive = λ blank f. refl }, tt)
puts_lines (b ∷ bs) a = (record { are_text = put_text_is b a.0; no_directive = λ blank f. refl }, puts_lines bs a.1)

lines_text : (c : ℕ) (cs : List ℕ) (bs : List Bit) → IsName (c ∷ cs) → ArePutBits bs → AreTextLines (on_lines c cs bs)
unfolding head_at is_hash
lines_text c cs bs h a = (record { are_text = opening_text_is c cs h; no_directive = λ blank f. refl }, puts_lines bs a)

one_line_text : (c : ℕ) (cs : List ℕ) (bs : List Bit) → IsName (c ∷ cs) → ArePutBits bs → AreTextLines (on_one_line c cs bs)
unfolding head_at is_hash
one_line_text c cs bs h a = (record { are_text = text_append (opening_bits c cs) (flat_puts bs ++ closing_bits) (opening_text_is c cs h) (puts_text bs a); no_directive = λ blank f. refl }, tt)

-- ---- their tokens

abbrev put_token : {b : Bit} → IsPutBit b → CToken
put_token the_parameter = text.Id (codes "c")
put_token (a_number d ds a) = text.Number (d ∷ ds)

abbrev puts_of : (bs : List Bit) → ArePutBits bs → List CToken
puts_of [] a = []
puts_of (b ∷ bs) a = put_token a.0 ∷ puts_of bs a.1

one_put : (b : Bit) (is : IsPutBit b) (rest : List CToken) → tokens_with (put_bits b) ++ rest ≡ put_tokens (put_token is) rest
one_put b the_parameter rest = refl
one_put b (a_number d ds a) rest = refl

is_number_is : (s : List ℕ) → is_some (constant_at s) ≡ is_number s
unfolding is_number
is_number_is s = refl

put_form : (b : Bit) (is : IsPutBit b) → HaveForm (b ∷ []) → IsPutToken (put_token is)
put_form b the_parameter h = parameter_token
put_form b (a_number d ds a) h = by (constant_at (d ∷ ds)) refl (is_number_is (d ∷ ds) ∙ h.0)
  where
    by : (o : Option IntegerConstant) → constant_at (d ∷ ds) ≡ o → is_some o ≡ true → IsPutToken (text.Number (d ∷ ds))
    by (Some c) e s = a_constant (d ∷ ds) c e
    by None e s = absurd (cc)

-- on lines of their own
lines_tokens : (bs : List Bit) (a : ArePutBits bs) → tokens_of_lines (map put_bits bs ++ closing_bits ∷ []) ≡ puts_tokens (puts_of bs a) (text.Mark mark.CloseBrace ∷ [])
lines_tokens [] a = refl
lines_tokens (b ∷ bs) a = one_put b a.0 (tokens_of_lines (map put_bits bs ++ closing_bits ∷ [])) ∙ ap (put_tokens (put_token a.0)) (lines_tokens bs a.1)

lines_forms : (bs : List Bit) (a : ArePutBits bs) → LinesHaveForm (map put_bits bs ++ closing_bits ∷ []) → ArePutTokens (puts_of bs a)
lines_forms [] a h = tt
lines_forms (b ∷ bs) a h = (put_form b a.0 (h.0.1.1.0, tt), lines_forms bs a.1 h.1)

-- on one line
tokens_append : (bs cs : List Bit) → tokens_with (bs ++ cs) ≡ tokens_with bs ++ tokens_with cs
tokens_append [] cs = refl
tokens_append (b ∷ bs) cs = ap (λ (l : List CToken). token_with b ++ l) (tokens_append bs cs) ∙ sym (append_assoc (token_with b) (tokens_with bs) (tokens_with cs))

flat_tokens : (bs : List Bit) (a : ArePutBits bs) → tokens_with (flat_puts bs ++ closing_bits) ≡ puts_tokens (puts_of bs a) (text.Mark mark.CloseBrace ∷ [])
flat_tokens [] a = refl
flat_tokens (b ∷ bs) a =
    tokens_append (put_bits b) (flat_puts bs ++ closing_bits) ∙ one_put b a.0 (tokens_with (flat_puts bs ++ closing_bits)) ∙ ap (put_tokens (put_token a.0)) (flat_tokens bs a.1)

nil_behind : (ts : List CToken) → ts ++ [] ≡ ts
nil_behind [] = refl
nil_behind (t ∷ ts) = ap (λ (l : List CToken). t ∷ l) (nil_behind ts)

have_behind : (bs cs : List Bit) → HaveForm (bs ++ cs) → HaveForm cs
have_behind [] cs h = h
have_behind (b ∷ bs) cs h = have_behind bs cs h.1

flat_forms : (bs : List Bit) (a : ArePutBits bs) → HaveForm (flat_puts bs ++ closing_bits) → ArePutTokens (puts_of bs a)
flat_forms [] a h = tt
flat_forms (b ∷ bs) a h = (put_form b a.0 (h.1.1.0, tt), flat_forms bs a.1 (have_behind (put_bits b) (flat_puts bs ++ closing_bits) h))

-- ---- the run

file_lines : (including : Including) (limit : ℕ) (origin : Origin) (s s' : State) (bytes : List ℕ) → file_at including limit origin s bytes ≡ Ok s' → lines_at including limit origin ([], s) (rows (lexemes_in bytes)) ≡ Ok s'
unfolding file_at
file_lines including limit origin s s' bytes e = by (nat_lt most_bytes (length bytes)) e
  where
    by : (b : Bool) → cond b (broken rule.TooMany (place_of origin (record { line = 1; column = 1 }))) (lines_at including limit origin ([], s) (rows (lexemes_in bytes))) ≡ Ok s' → lines_at including limit origin ([], s) (rows (lexemes_in bytes)) ≡ Ok s'
    by true e' = absurd (cc)
    by false e' = e'

included : (files : List (List ℕ × List ℕ)) (limit : ℕ) (s : State) (place : Place)
    → include_at files limit most_deep s (Angle, codes "stdio.h") place ≡ file_at (include_at files limit 15) limit (Included place) s (text_of Stdio)
unfolding include_at header_text
included files limit s place = refl

record RanText (s' : State) (lines : List (List Bit)) : Type 0 where
  out : bare s'.work.out ≡ header_tokens (tokens_of_lines lines)
  forms : LinesHaveForm lines

module _ (files : List (List ℕ × List ℕ)) (limit file calls : ℕ) (low : limit ≤ most_tokens) where
  abbrev including : Including
  including = include_at files limit most_deep

  rows_ran : (lines : List (List Bit)) (rs : List Row) → AreRows (include_bits ∷ lines) rs → AreTextLines lines → (s' : State) → lines_at including limit (Named file) ([], start calls) rs ≡ Ok s' → RanText s' lines
  unfolding lines_at
  rows_ran lines rs (one_row {rs = others} bits blank f more) are s' e =
      let place = place_of (Named file) (f 0) in
      let b = bound (line_at including limit (Named file) ([], start calls) (made_of blank f include_bits)) (λ x. lines_at including limit (Named file) x others) s' e in
      let opened = bound (including (start calls) (Angle, codes "stdio.h") place) (λ (t : State). (let x : Stand = ([], t) in let r : Read Stand = Ok x in r)) b.value (sym (include_row including limit (Named file) (start calls) blank f) ∙ b.first) in
      let header = header_read (include_at files limit 15) limit place calls opened.value low (sym (included files limit (start calls) place) ∙ opened.first) in
      let stand : ([], opened.value) ≡ b.value = ok_is opened.behind in
      let rest = lines_ran including limit (Named file) lines others more are opened.value s' header.macros (ap (λ (x : Stand). lines_at including limit (Named file) x others) stand ∙ b.behind) in
      record { out = rest.out ∙ ap (λ (l : List CToken). l ++ tokens_of_lines lines) header.tokens; forms = rest.forms }

  text_ran : (lines : List (List Bit)) (bytes : List ℕ) → AreRows (include_bits ∷ lines) (rows (lexemes_in bytes)) → AreTextLines lines → (s' : State) → file_at including limit (Named file) (start calls) bytes ≡ Ok s' → RanText s' lines
  text_ran lines bytes at are s' e = rows_ran lines (rows (lexemes_in bytes)) at are s' (file_lines including limit (Named file) (start calls) s' bytes e)

-- ---- the tokens of the text

pub record IsGiven (label : List ℕ) (us : List CSpanned) : Type 0 where
  pub puts : List CToken
  pub are_put : ArePutTokens puts
  pub are : bare us ≡ form_tokens label puts

module _ (files : List (List ℕ × List ℕ)) (file before calls : ℕ) (bytes : List ℕ) (us : List CSpanned) (e : expanded_at files file before bytes calls ≡ Ok us) where
  ran_of : (lines : List (List Bit)) → AreRows (include_bits ∷ lines) (rows (lexemes_in bytes)) → AreTextLines lines → (s' : State) × RanText s' lines × (s'.work.out ≡ us)
  unfolding expanded_at
  ran_of lines at are =
      let limit = most_tokens - before in
      let b = bound (file_at (include_at files limit most_deep) limit (Named file) (start calls) bytes) (λ (s : State). (let r : Read (List CSpanned) = Ok s.work.out in r)) us e in
      (b.value, text_ran files limit file calls (omega arith) lines bytes at are b.value b.first, ok_is b.behind)

  module _ (c : ℕ) (cs : List ℕ) (h : IsName (c ∷ cs)) (puts : List PutcharArgument) (a : All IsArgument puts) where
    by_lines : AreRows (include_bits ∷ on_lines c cs (bits_of puts a)) (rows (lexemes_in bytes)) → IsGiven (c ∷ cs) us
    by_lines at =
        let bs = bits_of puts a in
        let is = are_put_bits puts a in
        let r = ran_of (on_lines c cs bs) at (lines_text c cs bs h is) in
        record {
          puts = puts_of bs is;
          are_put = lines_forms bs is r.1.forms.1;
          are = ap bare (sym r.2) ∙ r.1.out ∙ ap (λ (l : List CToken). header_tokens (opening_tokens (c ∷ cs) l)) (lines_tokens bs is);
        }

    by_one_line : AreRows (include_bits ∷ on_one_line c cs (bits_of puts a)) (rows (lexemes_in bytes)) → IsGiven (c ∷ cs) us
    by_one_line at =
        let bs = bits_of puts a in
        let is = are_put_bits puts a in
        let r = ran_of (on_one_line c cs bs) at (one_line_text c cs bs h is) in
        record {
          puts = puts_of bs is;
          are_put = flat_forms bs is (have_behind (opening_bits c cs) (flat_puts bs ++ closing_bits) r.1.forms.0);
          are = ap bare (sym r.2) ∙ r.1.out ∙ ap (λ (l : List CToken). header_tokens (opening_tokens (c ∷ cs) l)) (nil_behind (tokens_with (flat_puts bs ++ closing_bits)) ∙ flat_tokens bs is);
        }

  pub given : (label : List ℕ) (puts : List PutcharArgument) → IsName label → IsCText bytes label puts → IsGiven label us
  given [] puts h t = absurd (omega (arith, h.some))
  given (c ∷ cs) puts h t = by t.lines
    where
      by : (text_lines bytes ≡ c_lines (c ∷ cs) puts) ⊎ (text_lines bytes ≡ c_one_line (c ∷ cs) puts) → IsGiven (c ∷ cs) us
      by (inl lines) =
          let a = t.are_puts.arguments in
          by_lines c cs h puts a (text_rows bytes _ (all_cut (c_lines (c ∷ cs) puts) (include_bits ∷ on_lines c cs (bits_of puts a)) (lines_lined c cs puts a h) bytes lines))
      by (inr lines) =
          let a = t.are_puts.arguments in
          by_one_line c cs h puts a (text_rows bytes _ (all_cut (c_one_line (c ∷ cs) puts) (include_bits ∷ on_one_line c cs (bits_of puts a)) (one_line_lined c cs puts a h) bytes lines))
