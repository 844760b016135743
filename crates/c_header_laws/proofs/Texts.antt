-- The texts of the built-in headers, as they are read.
use Rattle.std.proofs.Common.{◌≡◌, ℕ, Bool, true, false, List, [], ◌∷◌, Ok, Err, map, refl, ap, ◌∙◌, length}
use Rattle.std.specs.Prelude.{⊤, nat_lt, codes}
use Prim.Native.String.{String}
use Rattle.c_text.specs.declared.kind.Kind.{Kind}
use Rattle.c_text.specs.declared.kind.Kind.TheVariants as kind
use Rattle.c_text.specs.declared.kind.Lexeme.{Lexeme}
use Rattle.jf_base.specs.declared.place.Place.{Place}
use Rattle.c_text.specs.Characters.{is_next, third_of, trigraph_at, written_at, characters, joined}
use Rattle.c_text.specs.Classes.{class_of}
use Rattle.c_text.specs.Marks.{longest, mark_length}
use Rattle.c_text.specs.Pieces.{quote_at, prefixed_at, literal_at, word_at, mark_at, slash_at, dot_at, piece_at}
use Rattle.c_text.specs.Rests.{byte_at, digit_is_next, word_rest, number_rest, line_rest, comment_rest, literal_rest}
use Rattle.c_text.specs.Source.{cuts}
use Rattle.c_lines.specs.Rows.{rows}
use Rattle.c_lines.specs.Rules.{first_ill}
use Rattle.c_lines.specs.Heads.{head_at, is_hash, is_paste, directive_of}
use Rattle.c_literal.specs.Digits.{digit_at, digits_at}
use Rattle.c_literal.specs.IntegerReading.{unsigned_at, long_at, suffix_at, radix_at, constant_at}
use Rattle.c_form.specs.Forms.{is_number, is_character, is_string, between, token_of, spelled_token}
use Rattle.c_form.specs.Marks.{spelling_of, mark_of, bracket_of, digraph_of, arithmetic_of, logic_of, assignment_of}
use Rattle.c_define.specs.Definitions.{Macros, no_macros}
use Rattle.c_define.specs.Expansion.{expansion, among, along}
use Rattle.c_directives.specs.Reads.{Read}
use Rattle.c_directives.specs.Texts.{text_at, put_lexeme, put_name}
use Rattle.c_directives.specs.Directives.{define_at, one_name, is_macro_name, list_rule, is_open, has_hash, tokens_of}
use Rattle.c_directives.specs.Reading.{State, Including, file_at, lines_at, line_at, act_at, turn_at, most_bytes}
use Rattle.c_directives.specs.Conditions.{most_tokens}
use Rattle.c_directives.specs.Replacement.{bare}
use Rattle.c_directives.specs.declared.origin.Origin.TheVariants.{Included}
use Rattle.c_headers.specs.declared.header.Header.{Header}
use Rattle.c_headers.specs.Headers.{text_of}
use Rattle.c_header_laws.specs.Declared.{Front, declared, Declaration, written_in, Definition, with_all}
use Rattle.c_header_laws.proofs.Plain.{is_plain, lexemes_at, plain_lexemes, lexemes_plain}
use Rattle.c_header_laws.specs.Headers.{start, DeclaresItsNames}

-- ---- lexemes as they are written down

abbrev pub lexeme : Kind → List ℕ → ℕ → ℕ → Bool → Lexeme
lexeme k s line column blank = record { kind = k; spelling = s; point = record { line = line; column = column }; after_blank = blank }

abbrev pub word : String → ℕ → ℕ → Bool → Lexeme
word s line column blank = lexeme kind.Name (codes s) line column blank

abbrev pub digits : String → ℕ → ℕ → Bool → Lexeme
digits s line column blank = lexeme kind.Number (codes s) line column blank

abbrev pub mark_of_text : String → ℕ → ℕ → Bool → Lexeme
mark_of_text s line column blank = lexeme kind.Mark (codes s) line column blank

abbrev pub line_end : ℕ → ℕ → Lexeme
line_end line column = lexeme kind.LineEnd (10 ∷ []) line column false

-- what is opened to read a text
unfoldable pub closed_texts : ⊤
unfolding is_next third_of trigraph_at written_at characters joined class_of longest mark_length quote_at prefixed_at literal_at word_at mark_at slash_at dot_at piece_at byte_at digit_is_next word_rest number_rest line_rest comment_rest literal_rest cuts rows head_at is_hash is_paste directive_of first_ill token_of is_number is_character is_string between mark_of bracket_of digraph_of arithmetic_of logic_of assignment_of constant_at radix_at suffix_at long_at unsigned_at digits_at digit_at lines_at line_at act_at turn_at text_at put_lexeme put_name define_at one_name is_macro_name list_rule is_open has_hash tokens_of expansion among along declared written_in spelled_token spelling_of lexemes_at
closed_texts = tt

-- ---- a text that is short enough is read line by line

-- whether a text was read, how many calls are left, and what it declares, by names and as it is written
pub data Course : Type 0 where
  Ends : (is_read : Bool) (calls : ℕ) (names texts : List (List ℕ)) → Course

abbrev pub course_of : Read State → Course
course_of (Ok s) = Ends true s.calls (declared Front (bare s.work.out)) (written_in [] (bare s.work.out))
course_of (Err e) = Ends false 0 [] []

abbrev pub ends_with : ℕ → List Declaration → Course
ends_with calls ds = Ends true calls (map (λ d. d.name) ds) (map (λ d. d.written) ds)

calls_are : {a b : ℕ} {xs ys vs ws : List (List ℕ)} → Ends true a xs vs ≡ Ends true b ys ws → a ≡ b
calls_are e = cc

names_are : {a b : ℕ} {xs ys vs ws : List (List ℕ)} → Ends true a xs vs ≡ Ends true b ys ws → xs ≡ ys
names_are e = cc

texts_are : {a b : ℕ} {xs ys vs ws : List (List ℕ)} → Ends true a xs vs ≡ Ends true b ys ws → vs ≡ ws
texts_are e = cc

no_end : {a b : ℕ} {xs ys vs ws : List (List ℕ)} → Ends false a xs vs ≡ Ends true b ys ws → ⊥
no_end e = cc

abbrev pub macros_behind : Read State → Macros
macros_behind (Ok s) = s.work.macros
macros_behind (Err e) = no_macros

module _ (including : Including) (place : Place) (calls : ℕ) where
  abbrev pub read_of : List Lexeme → Read State
  read_of ls = lines_at including most_tokens (Included place) ([], start calls) (rows ls)

  pub declares_by : (header : Header) (declarations : List Declaration) (definitions : List Definition) (ls : List Lexeme) → nat_lt most_bytes (length (text_of header)) ≡ false → is_plain (text_of header) ≡ true
      → plain_lexemes (text_of header) ≡ ls → course_of (read_of ls) ≡ ends_with calls declarations → macros_behind (read_of ls) ≡ with_all no_macros definitions → DeclaresItsNames header declarations definitions including place calls
  unfolding file_at
  declares_by header declarations definitions ls short plainly lexes course macros = by_cases (read_of ls) refl course macros
    where
      by_cases : (r : Read State) → read_of ls ≡ r → course_of r ≡ ends_with calls declarations → macros_behind r ≡ with_all no_macros definitions → DeclaresItsNames header declarations definitions including place calls
      by_cases (Ok s) same c m = record { read = s; breaks_no_rule = rw short (ap read_of (lexemes_plain (text_of header) plainly ∙ lexes) ∙ same); asks_nothing = calls_are c; declares = names_are c; written = texts_are c; defines = m }
      by_cases (Err e) same c m = absurd (no_end c)
