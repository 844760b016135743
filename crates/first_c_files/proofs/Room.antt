-- What is read where there is room for so many tokens is read where there is more; and what is read of `stdio.h`.
use Rattle.std.proofs.Common.{◌≡◌, ℕ, ◌≤◌, Bool, true, false, cond, ◌||◌, List, [], ◌∷◌, length, Option, Some, None, Result, Ok, Err, refl, sym, ap, ◌∙◌, arith}
use Rattle.std.specs.Prelude.{nat_lt, nat_le}
use Rattle.std.proofs.lemmas.Bool.{leb-true, le-leb, ltb-true, lt-ltb}
use Rattle.jf_base.specs.declared.place.Place.{Place}
use Rattle.c_token.specs.declared.token.CToken.{CToken}
use Rattle.c_text.specs.declared.kind.Lexeme.{Lexeme}
use Rattle.c_text.specs.Source.{lexemes_in}
use Rattle.c_lines.specs.declared.rule.Rule.{Rule}
use Rattle.c_lines.specs.declared.rule.Rule.TheVariants as rule
use Rattle.c_lines.specs.declared.head.Head.{Head}
use Rattle.c_lines.specs.declared.head.Head.TheVariants as head
use Rattle.c_lines.specs.Heads.{is_name, is_hash, is_paste, head_at}
use Rattle.c_lines.specs.Rows.{Row, rows}
use Rattle.c_lines.specs.Rules.{broken_by, first_ill}
use Rattle.c_form.specs.Forms.{token_of}
use Rattle.c_define.specs.Definitions.{Macros, no_macros}
use Rattle.c_headers.specs.Headers.{text_of}
use Rattle.c_headers.specs.declared.header.Header.TheVariants.{Stdio}
use Rattle.c_directives.specs.declared.origin.Origin.{Origin}
use Rattle.c_directives.specs.declared.origin.Origin.TheVariants.{Included}
use Rattle.c_directives.specs.Reads.{End, Read, broken, ◌>>=◌}
use Rattle.c_directives.specs.Texts.{Work, place_of, put_out, put_name, put_token, put_kept, put_lexeme, text_at}
use Rattle.c_directives.specs.Conditions.{most_tokens}
use Rattle.c_directives.specs.Reading.{State, Including, Opens, Stand, is_live, unless_ill, sorted_at, line_at, lines_at, file_at, most_bytes}
use Rattle.c_header_laws.specs.Declared.{with_all, nothing, negative, null}
use Rattle.c_header_laws.specs.Headers.{start}
use Rattle.c_header_laws.proofs.Plain.{lexemes_plain}
use Rattle.c_header_laws.proofs.Texts.{closed_texts, read_of, macros_behind}
use Rattle.c_header_laws.proofs.Stdio.{stdio, stdio_lexemes}
use Rattle.first_c_files.proofs.FormWords.{bare, header_tokens}

-- ---- more room

no_answer : {A : Type 0} {e : End} {y : A} → (let r : Read A = Err e in let s : Read A = Ok y in r ≡ s) → ⊥
no_answer e = cc

roomy : {A : Type 0} (b c : Bool) (x y : A) (e : End) → (b ≡ true → c ≡ true) → (let s : Read A = Ok y in cond b (Ok x) (Err e) ≡ s) → (let s : Read A = Ok y in cond c (Ok x) (Err e) ≡ s)
roomy true c x y e h p = rw (h refl) p
roomy false c x y e h p = absurd (no_answer p)

-- the same where each part of a reading is
and_more : {A B : Type 0} (r s : Read A) (f g : A → Read B) (y : B) → ((x : A) → r ≡ Ok x → s ≡ Ok x) → ((x : A) → f x ≡ Ok y → g x ≡ Ok y) → (r >>= f) ≡ Ok y → (s >>= g) ≡ Ok y
and_more (Ok x) s f g y first more p = ap (λ (t : Read _). t >>= g) (first x refl) ∙ more x p
and_more (Err e) s f g y first more p = absurd (no_answer p)

abbrev put_work : State → Work → Read State
put_work s w = Ok (record s { work = w })

abbrev put_stand : Opens → State → Read Stand
put_stand os s = Ok (os, s)

module _ (low high : ℕ) (wider : low ≤ high) where
  more_names : (place : Place) (w w' : Work) (name : List ℕ) → put_name low place w name ≡ Ok w' → put_name high place w name ≡ Ok w'
  unfolding put_name
  more_names place w w' name p =
      roomy (nat_le (length (put_out w place name)) low) (nat_le (length (put_out w place name)) high) _ w' _
      (λ e. le-leb (length (put_out w place name)) high (omega (arith, wider, leb-true (length (put_out w place name)) low e))) p

  more_tokens : (place : Place) (w w' : Work) (t : Option CToken) → put_token low place w t ≡ Ok w' → put_token high place w t ≡ Ok w'
  more_tokens place w w' None p = absurd (no_answer p)
  more_tokens place w w' (Some t) p =
      roomy (nat_lt (length w.out) low) (nat_lt (length w.out) high) _ w' _ (λ e. lt-ltb (length w.out) high (omega (arith, wider, ltb-true (length w.out) low e))) p

  more_kept : (place : Place) (w w' : Work) (l : Lexeme) (r : Option Rule) → put_kept low place w l r ≡ Ok w' → put_kept high place w l r ≡ Ok w'
  more_kept place w w' l (Some r) p = absurd (no_answer p)
  more_kept place w w' l None p = by (is_name l.kind) (is_hash l || is_paste l) p
    where
      by : (a b : Bool) → cond a (put_name low place w l.spelling) (cond b (broken rule.Hash place) (put_token low place w (token_of l.kind l.spelling))) ≡ Ok w'
          → cond a (put_name high place w l.spelling) (cond b (broken rule.Hash place) (put_token high place w (token_of l.kind l.spelling))) ≡ Ok w'
      by true b q = more_names place w w' l.spelling q
      by false true q = absurd (no_answer q)
      by false false q = more_tokens place w w' (token_of l.kind l.spelling) q

  more_lexemes : (origin : Origin) (ls : List Lexeme) (w w' : Work) → text_at low origin w ls ≡ Ok w' → text_at high origin w ls ≡ Ok w'
  unfolding text_at put_lexeme
  more_lexemes origin [] w w' p = p
  more_lexemes origin (l ∷ ls) w w' p =
      and_more (put_lexeme low origin w l) (put_lexeme high origin w l) (λ v. text_at low origin v ls) (λ v. text_at high origin v ls) w'
      (λ v. more_kept (place_of origin l.point) w v l (broken_by l.kind)) (λ v. more_lexemes origin ls v w') p

  module _ (including : Including) (origin : Origin) where
    more_sorted : (os : Opens) (s : State) (row tail : Row) (h : Head) (y : Stand) → sorted_at including low origin (os, s) row (h, tail) ≡ Ok y → sorted_at including high origin (os, s) row (h, tail) ≡ Ok y
    more_sorted os s row tail head.Text y p = by (is_live os) p
      where
        by : (b : Bool) → cond b ((text_at low origin s.work tail >>= put_work s) >>= put_stand os) (unless_ill origin (first_ill row) (Ok (os, s))) ≡ Ok y
            → cond b ((text_at high origin s.work tail >>= put_work s) >>= put_stand os) (unless_ill origin (first_ill row) (Ok (os, s))) ≡ Ok y
        by true q =
            and_more (text_at low origin s.work tail >>= put_work s) (text_at high origin s.work tail >>= put_work s) (put_stand os) (put_stand os) y
            (λ t. and_more (text_at low origin s.work tail) (text_at high origin s.work tail) (put_work s) (put_work s) t (λ w. more_lexemes origin tail s.work w) (λ w e. e)) (λ t e. e) q
        by false q = q
    more_sorted os s row tail head.Null y p = p
    more_sorted os s row tail head.Include y p = p
    more_sorted os s row tail head.Define y p = p
    more_sorted os s row tail head.Undef y p = p
    more_sorted os s row tail head.If y p = p
    more_sorted os s row tail head.Ifdef y p = p
    more_sorted os s row tail head.Ifndef y p = p
    more_sorted os s row tail head.Elif y p = p
    more_sorted os s row tail head.Else y p = p
    more_sorted os s row tail head.Endif y p = p
    more_sorted os s row tail head.Error y p = p
    more_sorted os s row tail head.Pragma y p = p
    more_sorted os s row tail head.Unknown y p = p

    more_line : (x : Stand) (row : Row) (y : Stand) → line_at including low origin x row ≡ Ok y → line_at including high origin x row ≡ Ok y
    unfolding line_at
    more_line (os, s) row y p = more_sorted os s row (head_at row).1 (head_at row).0 y p

    -- what is read with less room is read with more
    pub more_lines : (rs : List Row) (x : Stand) (s : State) → lines_at including low origin x rs ≡ Ok s → lines_at including high origin x rs ≡ Ok s
    unfolding lines_at
    more_lines [] x s p = p
    more_lines (r ∷ rs) x s p =
        and_more (line_at including low origin x r) (line_at including high origin x r) (λ y. lines_at including low origin y rs) (λ y. lines_at including high origin y rs) s
        (λ y. more_line x r y) (λ y. more_lines rs y s) p

-- ---- stdio.h

abbrev pub header_macros : Macros
header_macros = with_all no_macros (nothing "__stdio_h" ∷ null ∷ negative "EOF" "1" ∷ [])

abbrev tokens_behind : Read State → List CToken
tokens_behind (Ok s) = bare s.work.out
tokens_behind (Err e) = []

tokens_of_header : (including : Including) (place : Place) (calls : ℕ) → tokens_behind (read_of including place calls stdio) ≡ header_tokens []
unfolding closed_texts
tokens_of_header including place calls = refl

macros_of_header : (including : Including) (place : Place) (calls : ℕ) → macros_behind (read_of including place calls stdio) ≡ header_macros
unfolding closed_texts
macros_of_header including place calls = refl

pub record IsHeader (s : State) : Type 0 where
  pub tokens : bare s.work.out ≡ header_tokens []
  pub macros : s.work.macros ≡ header_macros

-- where the text is read, it gives these tokens and macros
pub header_read : (including : Including) (limit : ℕ) (place : Place) (calls : ℕ) (s : State) → limit ≤ most_tokens → file_at including limit (Included place) (start calls) (text_of Stdio) ≡ Ok s → IsHeader s
unfolding file_at
header_read including limit place calls s le p =
    let lexed : lexemes_in (text_of Stdio) ≡ stdio = lexemes_plain (text_of Stdio) refl ∙ stdio_lexemes in
    let read : lines_at including limit (Included place) ([], start calls) (rows stdio) ≡ Ok s = ap (λ (ls : List Lexeme). lines_at including limit (Included place) ([], start calls) (rows ls)) (sym lexed) ∙ p in
    let wide : read_of including place calls stdio ≡ Ok s = more_lines limit most_tokens le including (Included place) (rows stdio) ([], start calls) s read in
    record {
      tokens = ap tokens_behind (sym wide) ∙ tokens_of_header including place calls;
      macros = ap macros_behind (sym wide) ∙ macros_of_header including place calls;
    }
