-- What the lines of the form's C text put out behind their preprocessing.
use Rattle.std.proofs.Common.{◌≡◌, ℕ, Bool, true, false, cond, eqb, List, [], ◌∷◌, ◌++◌, map, length, Option, Some, None, Result, Ok, Err, codes, refl, sym, ap, ◌∙◌, subst, append_assoc}
use Rattle.std.specs.Prelude.{nat_lt, nat_le}
use Rattle.std.proofs.lemmas.List.{map-append}
use Rattle.jf_base.specs.declared.place.Place.{Place}
use Rattle.c_token.specs.declared.token.CToken.{CToken}
use Rattle.c_token.specs.declared.token.CToken.TheVariants as text
use Rattle.c_token.specs.declared.token.CSpanned.{CSpanned}
use Rattle.c_token.specs.declared.mark.Mark.TheVariants as mark
use Rattle.c_token.specs.declared.mark.Mark.{Mark as Punctuator}
use Rattle.c_text.specs.declared.character.Point.{Point}
use Rattle.c_text.specs.declared.kind.Kind.TheVariants as kind
use Rattle.c_text.specs.declared.kind.Lexeme.{Lexeme}
use Rattle.c_lines.specs.declared.header.Delimiter.TheVariants.{Angle}
use Rattle.c_lines.specs.declared.head.Head.{Head}
use Rattle.c_lines.specs.declared.head.Head.TheVariants as head
use Rattle.c_lines.specs.Heads.{head_at, is_hash, is_paste, directive_of}
use Rattle.c_lines.specs.Headers.{header_of, spelled as spelled_row, spelled_behind}
use Rattle.c_lines.specs.Rows.{Row}
use Rattle.c_lines.specs.Rules.{first_ill}
use Rattle.c_form.specs.Marks.{mark_of, bracket_of, digraph_of, arithmetic_of, logic_of, assignment_of}
use Rattle.c_form.specs.Forms.{is_number, token_of}
use Rattle.c_define.specs.Definitions.{Macros}
use Rattle.c_define.specs.Expansion.{expansion, among, along, all_at}
use Rattle.c_directives.specs.declared.origin.Origin.{Origin}
use Rattle.c_directives.specs.Reads.{End, Read, ◌>>=◌}
use Rattle.c_directives.specs.Texts.{Work, place_of, put_out, put_name, put_token, put_kept, put_lexeme, text_at}
use Rattle.c_directives.specs.Conditions.{header_at}
use Rattle.c_directives.specs.Reading.{State, Including, Stand, with_opens, with_work, sorted_at, act_at, line_at, lines_at}
use Rattle.first_c_files.proofs.Bits.{Points, next, skip, Bit, WordBit, NumberBit, SignBit, HashBit, SpaceBit, FeedBit, lexeme, made_of}
use Rattle.first_c_files.proofs.FormLines.{include_bits}
use Rattle.first_c_files.proofs.FormWords.{bare}
use Rattle.first_c_files.proofs.Joining.{AreRows, no_row, one_row}
use Rattle.first_c_files.proofs.Room.{header_macros}

-- ---- readings that went well

no_answer : {A : Type 0} {e : End} {y : A} → (let r : Read A = Err e in let s : Read A = Ok y in r ≡ s) → ⊥
no_answer e = cc

pub ok_is : {A : Type 0} {x y : A} → (let r : Read A = Ok x in let s : Read A = Ok y in r ≡ s) → x ≡ y
ok_is e = cc

taken : {A : Type 0} (b : Bool) (x y : A) (e : End) → (let s : Read A = Ok y in cond b (Ok x) (Err e) ≡ s) → x ≡ y
taken true x y e p = ok_is p
taken false x y e p = absurd (no_answer p)

pub record Bound {A B : Type 0} (r : Read A) (f : A → Read B) (y : B) : Type 0 where
  pub value : A
  pub first : r ≡ Ok value
  pub behind : f value ≡ Ok y

pub bound : {A B : Type 0} (r : Read A) (f : A → Read B) (y : B) → (r >>= f) ≡ Ok y → Bound r f y
bound (Ok x) f y p = record { value = x; first = refl; behind = p }
bound (Err e) f y p = absurd (no_answer p)

-- ---- one lexeme

-- the token that a piece gives
abbrev pub token_with : Bit → List CToken
token_with (WordBit c cs) = text.Id (c ∷ cs) ∷ []
token_with (NumberBit c cs) = text.Number (c ∷ cs) ∷ []
token_with (SignBit m c) = text.Mark m ∷ []
token_with HashBit = []
token_with (SpaceBit c) = []
token_with FeedBit = []

abbrev pub tokens_with : List Bit → List CToken
tokens_with [] = []
tokens_with (b ∷ bs) = token_with b ++ tokens_with bs

-- a piece of a line of text: a word is no macro, and a sign is its punctuator
abbrev pub IsText : Bit → Type 0
IsText (WordBit c cs) = header_macros.of (c ∷ cs) ≡ None
IsText (NumberBit c cs) = Unit {0}
IsText (SignBit m c) = (mark_of (c ∷ []) ≡ Some m) × (eqb c 35 ≡ false) × (eqb c 37 ≡ false)
IsText HashBit = ⊥
IsText (SpaceBit c) = Unit {0}
IsText FeedBit = ⊥

abbrev pub AreText : List Bit → Type 0
AreText [] = Unit {0}
AreText (b ∷ bs) = IsText b × AreText bs

-- what was read of a piece had its form
abbrev pub HasForm : Bit → Type 0
HasForm (NumberBit c cs) = is_number (c ∷ cs) ≡ true
HasForm b = Unit {0}

abbrev pub HaveForm : List Bit → Type 0
HaveForm [] = Unit {0}
HaveForm (b ∷ bs) = HasForm b × HaveForm bs

record Put (w w' : Work) (t : CToken) : Type 0 where
  out : bare w'.out ≡ bare w.out ++ t ∷ []
  macros : w'.macros ≡ w.macros

bare_append : (xs ys : List CSpanned) → bare (xs ++ ys) ≡ bare xs ++ bare ys
bare_append xs ys = map-append (λ (t : CSpanned). t.token) xs ys

expands : (s : List ℕ) → header_macros.of s ≡ None → expansion header_macros (text.Id s ∷ []) ≡ text.Id s ∷ []
unfolding expansion among along
expands s free = rw free refl

module _ (limit : ℕ) (origin : Origin) (w w' : Work) (p : Point) (blank : Bool) where
  word_put : (s : List ℕ) → w.macros ≡ header_macros → header_macros.of s ≡ None → put_lexeme limit origin w (lexeme kind.Name s p blank) ≡ Ok w' → Put w w' (text.Id s)
  unfolding put_lexeme put_name
  word_put s known free e =
      let place = place_of origin p in
      let same : record w { out = put_out w place s } ≡ w' = taken (nat_le (length (put_out w place s)) limit) (record w { out = put_out w place s }) w' _ e in
      let one : expansion w.macros (text.Id s ∷ []) ≡ text.Id s ∷ [] = ap (λ (ms : Macros). expansion ms (text.Id s ∷ [])) known ∙ expands s free in
      record {
        out = ap (λ (v : Work). bare v.out) (sym same) ∙ bare_append w.out (all_at place (expansion w.macros (text.Id s ∷ []))) ∙ ap (λ (ts : List CToken). bare w.out ++ bare (all_at place ts)) one;
        macros = ap (λ (v : Work). v.macros) (sym same);
      }

  token_put : (place : Place) (t : CToken) → put_token limit place w (Some t) ≡ Ok w' → Put w w' t
  token_put place t e =
      let more : CSpanned = record { token = t; place = place } in
      let same : record w { out = w.out ++ more ∷ [] } ≡ w' = taken (nat_lt (length w.out) limit) (record w { out = w.out ++ more ∷ [] }) w' _ e in
      record { out = ap (λ (v : Work). bare v.out) (sym same) ∙ bare_append w.out (more ∷ []); macros = ap (λ (v : Work). v.macros) (sym same) }

  sign_put : (m : Punctuator) (c : ℕ) → mark_of (c ∷ []) ≡ Some m → eqb c 35 ≡ false → eqb c 37 ≡ false → put_lexeme limit origin w (lexeme kind.Mark (c ∷ []) p blank) ≡ Ok w' → Put w w' (text.Mark m)
  unfolding put_lexeme is_hash is_paste token_of
  sign_put m c is no_hash no_percent e =
      token_put (place_of origin p) (text.Mark m) (sym (rw (no_hash, no_percent, is) refl) ∙ e)

  record NumberPut (s : List ℕ) : Type 0 where
    put : Put w w' (text.Number s)
    form : is_number s ≡ true

  number_put : (s : List ℕ) → put_lexeme limit origin w (lexeme kind.Number s p blank) ≡ Ok w' → NumberPut s
  unfolding put_lexeme is_hash is_paste token_of
  number_put s e = by (is_number s) refl e
    where
      by : (b : Bool) → is_number s ≡ b → put_token limit (place_of origin p) w (cond b (Some (text.Number s)) None) ≡ Ok w' → NumberPut s
      by true h q = record { put = token_put (place_of origin p) (text.Number s) q; form = h }
      by false h q = absurd (no_answer q)

-- ---- a line of text

record Ran (w w' : Work) (bits : List Bit) : Type 0 where
  pub out : bare w'.out ≡ bare w.out ++ tokens_with bits
  pub macros : w'.macros ≡ header_macros
  pub forms : HaveForm bits

nil_behind : (ts : List CToken) → ts ++ [] ≡ ts
nil_behind [] = refl
nil_behind (t ∷ ts) = ap (λ (l : List CToken). t ∷ l) (nil_behind ts)

-- a token in front
then_ran : (w v w' : Work) (b : Bit) (t : CToken) (bits : List Bit) → token_with b ≡ t ∷ [] → HasForm b → Put w v t → Ran v w' bits → Ran w w' (b ∷ bits)
then_ran w v w' b t bits one form put ran = record {
  out = ran.out ∙ ap (λ (l : List CToken). l ++ tokens_with bits) put.out ∙ append_assoc (bare w.out) (t ∷ []) (tokens_with bits) ∙ ap (λ (l : List CToken). bare w.out ++ (l ++ tokens_with bits)) (sym one);
  macros = ran.macros;
  forms = (form, ran.forms);
}

text_ran : (limit : ℕ) (origin : Origin) (bits : List Bit) (blank : Bool) (f : Points) (w w' : Work) → w.macros ≡ header_macros → AreText bits → text_at limit origin w (made_of blank f bits) ≡ Ok w' → Ran w w' bits
unfolding text_at
text_ran limit origin [] blank f w w' known are e =
    let same : w ≡ w' = ok_is e in
    record { out = ap (λ (v : Work). bare v.out) (sym same) ∙ sym (nil_behind (bare w.out)); macros = ap (λ (v : Work). v.macros) (sym same) ∙ known; forms = tt }
text_ran limit origin (WordBit c cs ∷ bits) blank f w w' known are e =
    let b = bound (put_lexeme limit origin w (lexeme kind.Name (c ∷ cs) (f 0) blank)) (λ v. text_at limit origin v (made_of false (skip cs (next f)) bits)) w' e in
    let put = word_put limit origin w b.value (f 0) blank (c ∷ cs) known are.0 b.first in
    then_ran w b.value w' (WordBit c cs) (text.Id (c ∷ cs)) bits refl tt put (text_ran limit origin bits false (skip cs (next f)) b.value w' (put.macros ∙ known) are.1 b.behind)
text_ran limit origin (NumberBit c cs ∷ bits) blank f w w' known are e =
    let b = bound (put_lexeme limit origin w (lexeme kind.Number (c ∷ cs) (f 0) blank)) (λ v. text_at limit origin v (made_of false (skip cs (next f)) bits)) w' e in
    let n = number_put limit origin w b.value (f 0) blank (c ∷ cs) b.first in
    then_ran w b.value w' (NumberBit c cs) (text.Number (c ∷ cs)) bits refl n.form n.put (text_ran limit origin bits false (skip cs (next f)) b.value w' (n.put.macros ∙ known) are.1 b.behind)
text_ran limit origin (SignBit m c ∷ bits) blank f w w' known are e =
    let b = bound (put_lexeme limit origin w (lexeme kind.Mark (c ∷ []) (f 0) blank)) (λ v. text_at limit origin v (made_of false (next f) bits)) w' e in
    let is = are.0 in
    let put = sign_put limit origin w b.value (f 0) blank m c is.0 is.1 is.2 b.first in
    then_ran w b.value w' (SignBit m c) (text.Mark m) bits refl tt put (text_ran limit origin bits false (next f) b.value w' (put.macros ∙ known) are.1 b.behind)
text_ran limit origin (HashBit ∷ bits) blank f w w' known are e = absurd are.0
text_ran limit origin (SpaceBit c ∷ bits) blank f w w' known are e =
    let r = text_ran limit origin bits true (next f) w w' known are.1 e in record { out = r.out; macros = r.macros; forms = (tt, r.forms) }
text_ran limit origin (FeedBit ∷ bits) blank f w w' known are e = absurd are.0

-- ---- lines of text

-- a line that is no directive
pub record IsTextLine (bits : List Bit) : Type 0 where
  pub are_text : AreText bits
  pub no_directive : (blank : Bool) (f : Points) → head_at (made_of blank f bits) ≡ (head.Text, made_of blank f bits)

abbrev pub AreTextLines : List (List Bit) → Type 0
AreTextLines [] = Unit {0}
AreTextLines (bits ∷ lines) = IsTextLine bits × AreTextLines lines

abbrev pub tokens_of_lines : List (List Bit) → List CToken
tokens_of_lines [] = []
tokens_of_lines (bits ∷ lines) = tokens_with bits ++ tokens_of_lines lines

abbrev pub LinesHaveForm : List (List Bit) → Type 0
LinesHaveForm [] = Unit {0}
LinesHaveForm (bits ∷ lines) = HaveForm bits × LinesHaveForm lines

pub record RanLines (s s' : State) (lines : List (List Bit)) : Type 0 where
  pub out : bare s'.work.out ≡ bare s.work.out ++ tokens_of_lines lines
  pub forms : LinesHaveForm lines

module _ (including : Including) (limit : ℕ) (origin : Origin) where
  text_line : (bits : List Bit) (blank : Bool) (f : Points) (s : State) → IsTextLine bits
      → line_at including limit origin ([], s) (made_of blank f bits) ≡ with_opens [] (with_work s (text_at limit origin s.work (made_of blank f bits)))
  unfolding line_at
  text_line bits blank f s is = ap (sorted_at including limit origin ([], s) (made_of blank f bits)) (is.no_directive blank f)

  pub lines_ran : (lines : List (List Bit)) (rs : List Row) → AreRows lines rs → AreTextLines lines → (s s' : State) → s.work.macros ≡ header_macros → lines_at including limit origin ([], s) rs ≡ Ok s' → RanLines s s' lines
  unfolding lines_at
  lines_ran lines rs no_row are s s' known e =
      let same : s ≡ s' = ok_is e in
      record { out = ap (λ (t : State). bare t.work.out) (sym same) ∙ sym (nil_behind (bare s.work.out)); forms = tt }
  lines_ran lines rs (one_row {lines = more} {rs = others} bits blank f rows) are s s' known e =
      let row = made_of blank f bits in
      let b = bound (line_at including limit origin ([], s) row) (λ x. lines_at including limit origin x others) s' e in
      let opened = bound (with_work s (text_at limit origin s.work row)) (λ (t : State). (let x : Stand = ([], t) in let r : Read Stand = Ok x in r)) b.value (sym (text_line bits blank f s are.0) ∙ b.first) in
      let worked = bound (text_at limit origin s.work row) (λ (w : Work). (let r : Read State = Ok (record s { work = w }) in r)) opened.value opened.first in
      let ran = text_ran limit origin bits blank f s.work worked.value known are.0.are_text worked.first in
      let same : record s { work = worked.value } ≡ opened.value = ok_is worked.behind in
      let stand : ([], opened.value) ≡ b.value = ok_is opened.behind in
      let whole : lines_at including limit origin ([], record s { work = worked.value }) others ≡ Ok s' =
      ap (λ (t : State). lines_at including limit origin ([], t) others) same ∙ ap (λ (x : Stand). lines_at including limit origin x others) stand ∙ b.behind in
      let rest = lines_ran more others rows are.1 (record s { work = worked.value }) s' ran.macros whole in
      record {
        out = rest.out ∙ ap (λ (l : List CToken). l ++ tokens_of_lines more) ran.out ∙ append_assoc (bare s.work.out) (tokens_with bits) (tokens_of_lines more);
        forms = (ran.forms, rest.forms);
      }

  -- the first line
  pub include_row : (s : State) (blank : Bool) (f : Points) → line_at including limit origin ([], s) (made_of blank f include_bits) ≡ with_opens [] (including s (Angle, codes "stdio.h") (place_of origin (f 0)))
  unfolding line_at act_at header_at head_at is_hash is_paste directive_of first_ill spelled_row spelled_behind header_of
  include_row s blank f = refl
