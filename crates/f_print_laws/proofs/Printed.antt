-- The pieces of a whole printed text, and what they give.
use Rattle.std.proofs.Common.{◌≡◌, ℕ, ◌⊎◌, inl, inr, Bool, true, false, List, [], ◌∷◌, ◌++◌, map, None, refl, sym, ap, subst, ◌∙◌, append_assoc}
use Rattle.std.specs.Prelude.{is_some}
use Rattle.f_lex.specs.declared.piece.Piece.{Piece}
use Rattle.f_lex.specs.declared.piece.Piece.TheVariants as piece
use Rattle.f_lex.specs.declared.token.Token.{Token}
use Rattle.f_lex.specs.declared.token.Token.TheVariants as token
use Rattle.f_lex.specs.declared.token.Spanned.{Spanned}
use Rattle.f_lex.specs.declared.class.Class.TheVariants.{LineEnd}
use Rattle.f_lex.specs.declared.reader.Fault.{Fault}
use Rattle.f_lex.specs.declared.reader.Position.{Position}
use Rattle.f_lex.specs.Rules.{moved, long_lines}
use Rattle.f_lex.specs.Source.{Cut, position_behind, breaks_from, tokens_from, start}
use Rattle.f_lex.specs.Grammar.{Shape, EndOfLine, Joined, spell, Fits, spell_text, FitsText}
use Rattle.f_lex.specs.Lexing.{Consists, cuts_of, asked, Lexes, Breaks}
use Rattle.f_lex.proofs.WholeLaws.{read_cuts, list_or_rule}
use Rattle.f_tree.specs.declared.lexeme.Lexeme.{Lexeme}
use Rattle.f_tree.specs.declared.page.Line.{Line}
use Rattle.f_tree.specs.Text.{Written, fresh, opened, written, text_from, text_of}
use Rattle.f_print_laws.specs.Tokens.{IsToken, is_begun_by, AreTokensFrom, AreTokens, is_begun_behind, AreStatements, IsOnLengths}
use Rattle.f_print_laws.proofs.Classes.{feed_class, Stops, nothing, blank, line}
use Rattle.f_print_laws.proofs.Pieces.{AllOnLengths, among, all_append, on_lines, token_of, Gives, gives_blank, gives_joined, gives_token_of, gives_end, gives_last}
use Rattle.f_print_laws.proofs.Words.{token_keeps}
use Rattle.f_print_laws.proofs.Lexed.{lexed}
use Rattle.f_print_laws.proofs.Shapes.{shape_of, passed_by, inner, has_room, written_is, shape_spelled, shape_fits, shape_means, shape_starts, opening, opening_spelled, opening_fits, inner_begins}

-- the pieces of a token and of what stands before it, in front of others
abbrev shapes_of : Bool → Token → Line → List Shape → List Shape
shapes_of false t l ss = EndOfLine 10 ∷ ss
shapes_of true t l ss = opening l.is_begun (has_room t l) (shape_of t (opened (has_room t l) l).1 ∷ ss)

shapes_from : Line → List Lexeme → List Shape
shapes_from l [] = []
shapes_from l (x ∷ xs) = shapes_of (is_begun_by x.token) x.token l (shapes_from (written x.token l).1 xs)

abbrev lexeme_token : Lexeme → Token
lexeme_token x = x.token

-- ---- they are spelled so

no_token : (t : Token) (l : Line) → is_begun_by t ≡ false → written t l ≡ (10 ∷ [], fresh)
unfolding written
no_token token.End l e = refl
no_token (token.Name name) l e = absurd cc
no_token (token.Number digits k) l e = absurd cc
no_token (token.Truth value k) l e = absurd cc
no_token (token.Text bytes k) l e = absurd cc
no_token (token.Mark m) l e = absurd cc

token_spelled : (b : Bool) (t : Token) (l : Line) (ss : List Shape) → is_begun_by t ≡ b → spell_text (shapes_of b t l ss) ≡ (written t l).0 ++ spell_text ss
token_spelled false t l ss e = ap (λ (w : Written). w.0 ++ spell_text ss) (sym (no_token t l e))
token_spelled true t l ss e =
    let m : Written = opened (has_room t l) l in
    opening_spelled (has_room t l) l (shape_of t m.1 ∷ ss)
    ∙ ap (λ (x : List ℕ). m.0 ++ x) (shape_spelled t m.1 (spell_text ss))
    ∙ sym (append_assoc m.0 (inner t m.1).0 (spell_text ss))
    ∙ ap (λ (w : Written). w.0 ++ spell_text ss) (sym (written_is t l e))

text_spelled : (xs : List Lexeme) (l : Line) → text_from l xs ≡ spell_text (shapes_from l xs)
unfolding text_from shapes_from
text_spelled [] l = refl
text_spelled (x ∷ xs) l =
    ap (λ (y : List ℕ). (written x.token l).0 ++ y) (text_spelled xs (written x.token l).1)
    ∙ sym (token_spelled (is_begun_by x.token) x.token l (shapes_from (written x.token l).1 xs) refl)

-- ---- where they fit

line_behind : (b : Bool) (t : Token) (l : Line) → is_begun_by t ≡ b → (written t l).1.is_begun ≡ b
line_behind false t l e = ap (λ (w : Written). w.1.is_begun) (no_token t l e)
line_behind true t l e = ap (λ (w : Written). w.1.is_begun) (written_is t l e) ∙ inner_begins t (opened (has_room t l) l).1 ∙ e

opening_stops : (b room : Bool) (ss : List Shape) → b ≡ true → Stops (spell_text (opening b room ss))
opening_stops true true ss e = blank (spell_text ss)
opening_stops true false ss e = blank (38 ∷ 10 ∷ spell_text ss)
opening_stops false room ss e = absurd cc

token_stops : (b : Bool) (t : Token) (l : Line) (ss : List Shape) → l.is_begun ≡ true → Stops (spell_text (shapes_of b t l ss))
token_stops false t l ss e = line (spell_text ss)
token_stops true t l ss e = opening_stops l.is_begun (has_room t l) (shape_of t (opened (has_room t l) l).1 ∷ ss) e

text_stops : (xs : List Lexeme) (l : Line) → l.is_begun ≡ true → Stops (spell_text (shapes_from l xs))
unfolding shapes_from
text_stops [] l e = nothing
text_stops (x ∷ xs) l e = token_stops (is_begun_by x.token) x.token l (shapes_from (written x.token l).1 xs) e

token_fits : (b : Bool) (t : Token) (l : Line) (ss : List Shape) → is_begun_by t ≡ b → IsToken l.is_begun t → ((b ≡ true) → Stops (spell_text ss)) → FitsText ss → FitsText (shapes_of b t l ss)
token_fits false t l ss e i s f = (feed_class (spell_text ss), f)
token_fits true t l ss e i s f =
    let m : Line = (opened (has_room t l) l).1 in
    let fits : Fits (shape_of t m) (spell_text ss) = shape_fits l.is_begun t m (spell_text ss) i e (s refl) in
    opening_fits l.is_begun (has_room t l) (shape_of t m ∷ ss) (shape_starts l.is_begun t m (spell_text ss) i e fits) (fits, f)

text_fits : (xs : List Lexeme) (l : Line) → AreTokensFrom l.is_begun (map lexeme_token xs) → FitsText (shapes_from l xs)
unfolding shapes_from
text_fits [] l a = tt
text_fits (x ∷ xs) l a =
    let m : Line = (written x.token l).1 in
    let begins : m.is_begun ≡ is_begun_by x.token = line_behind (is_begun_by x.token) x.token l refl in
    token_fits (is_begun_by x.token) x.token l (shapes_from m xs) refl a.0 (λ e. text_stops xs m (begins ∙ e))
    (text_fits xs m (subst (λ (b : Bool). AreTokensFrom b (map lexeme_token xs)) (sym begins) a.1))

-- ---- what they give

-- a position in a statement that has tokens, or between statements
record Follows (b : Bool) (at : Position) : Type 0 where
  statement : is_some at.statement ≡ b
  first : b ≡ true → at.first_on_line ≡ false

module _ (file : ℕ) where
  Reads : Position → List Shape → List Token → Type 0
  Reads at ss ts = Gives file at (cuts_of ss) ts

  behind_blank : (b : Bool) (at : Position) (bytes : List ℕ) → Follows b at → Follows b (position_behind at (piece.Blank, bytes))
  unfolding moved
  behind_blank b at bytes f = record { statement = f.statement; first = f.first }

  behind_join : (b : Bool) (at : Position) (bytes : List ℕ) → Follows b at → Follows b (position_behind at (piece.Joined, bytes))
  unfolding moved
  behind_join b at bytes f = record { statement = f.statement; first = λ e. refl }

  behind_token : (at : Position) (t : Token) (n : ℕ) (bytes : List ℕ) → Follows true (position_behind at (piece.Token t n None, bytes))
  unfolding moved
  behind_token at t n bytes = record { statement = refl; first = λ e. refl }

  behind_end : (at : Position) (bytes : List ℕ) → Follows false (position_behind at (piece.LineEnd, bytes))
  unfolding moved
  behind_end at bytes = record { statement = refl; first = λ e. absurd cc }

  opening_reads : (b room : Bool) (at : Position) (ss : List Shape) (ts : List Token) → Follows b at → ((at : Position) → Follows b at → Reads at ss ts) → Reads at (opening b room ss) ts
  unfolding Reads
  opening_reads false room at ss ts f g = g at f
  opening_reads true true at ss ts f g = gives_blank file at (32 ∷ []) (cuts_of ss) ts (g _ (behind_blank true at (32 ∷ []) f))
  opening_reads true false at ss ts f g =
      let h = behind_blank true at (32 ∷ []) f in
      gives_blank file at (32 ∷ []) _ ts (gives_joined file (position_behind at (piece.Blank, 32 ∷ [])) (38 ∷ 10 ∷ []) (cuts_of ss) ts (h.first refl) (g _ (behind_join true _ (38 ∷ 10 ∷ []) h)))

  token_reads : (b : Bool) (t : Token) (l : Line) (at : Position) (ss : List Shape) (ts : List Token) → is_begun_by t ≡ b → IsToken l.is_begun t → Follows l.is_begun at
      → ((at : Position) → Follows b at → Reads at ss ts) → Reads at (shapes_of b t l ss) (t ∷ ts)
  unfolding Reads
  token_reads false (token.End) l at ss ts e i f g = gives_end file at (10 ∷ []) (cuts_of ss) ts (f.statement ∙ i) (g _ (behind_end at (10 ∷ [])))
  token_reads false (token.Name name) l at ss ts e i f g = absurd cc
  token_reads false (token.Number digits k) l at ss ts e i f g = absurd cc
  token_reads false (token.Truth value k) l at ss ts e i f g = absurd cc
  token_reads false (token.Text bytes k) l at ss ts e i f g = absurd cc
  token_reads false (token.Mark m) l at ss ts e i f g = absurd cc
  token_reads true t l at ss ts e i f g =
      let m : Line = (opened (has_room t l) l).1 in
      let s : Shape = shape_of t m in
      opening_reads l.is_begun (has_room t l) at (s ∷ ss) (t ∷ ts) f (λ at f.
      subst (λ (p : Piece). Gives file at ((p, spell s []) ∷ cuts_of ss) (t ∷ ts)) (sym (shape_means l.is_begun t m i e))
      (gives_token_of file at t (passed_by t m) (spell s []) (cuts_of ss) ts (token_keeps l.is_begun t i) (g _ (behind_token at t (passed_by t m) (spell s [])))))

  text_reads : (xs : List Lexeme) (l : Line) (at : Position) → AreTokensFrom l.is_begun (map lexeme_token xs) → Follows l.is_begun at → Reads at (shapes_from l xs) (map lexeme_token xs)
  unfolding Reads shapes_from
  text_reads [] l at a f = gives_last file at (f.statement ∙ a)
  text_reads (x ∷ xs) l at a f =
      let m : Line = (written x.token l).1 in
      let begins : m.is_begun ≡ is_begun_by x.token = line_behind (is_begun_by x.token) x.token l refl in
      token_reads (is_begun_by x.token) x.token l at (shapes_from m xs) (map lexeme_token xs) refl a.0 f (λ at f.
      text_reads xs m at (subst (λ (b : Bool). AreTokensFrom b (map lexeme_token xs)) (sym begins) a.1) (subst (λ (b : Bool). Follows b at) (sym begins) f))

  -- ---- the whole

  pub printed : (before : ℕ) (ts : List Lexeme) → AreTokens (map (λ t. t.token) ts) → ((tokens : List Spanned) → Lexes file before (text_of ts) tokens → map (λ t. t.token) tokens ≡ map (λ t. t.token) ts)
      × ((fault : Fault) → Breaks before (text_of ts) fault → IsOnLengths fault.rule)
  unfolding Reads
  printed before ts are = (tokens_are, faults_are)
    where
      begins : Follows false (start before)
      begins = record { statement = refl; first = λ e. absurd cc }

      consists : Consists (text_of ts) (shapes_from fresh ts)
      consists = record { fits = text_fits ts fresh are; spelled = text_spelled ts fresh }

      same : (us : List Shape) → Consists (text_of ts) us → cuts_of us ≡ cuts_of (shapes_from fresh ts)
      same us c = sym (read_cuts (text_of ts) us c) ∙ read_cuts (text_of ts) (shapes_from fresh ts) consists

      gives : Gives file (start before) (cuts_of (shapes_from fresh ts)) (map lexeme_token ts)
      gives = text_reads ts fresh (start before) are begins

      tokens_are : (tokens : List Spanned) → Lexes file before (text_of ts) tokens → map (λ t. t.token) tokens ≡ map (λ t. t.token) ts
      tokens_are tokens l = ap (map token_of) (l.tokens_are ∙ ap (tokens_from file (start before)) (same l.shapes l.consists)) ∙ gives.tokens

      all : (us : List Shape) → Consists (text_of ts) us → AllOnLengths (asked before (text_of ts) us)
      all us c = subst (λ (xs : List Cut). AllOnLengths (long_lines 1 0 (text_of ts) ++ breaks_from (start before) xs)) (sym (same us c))
          (all_append (long_lines 1 0 (text_of ts)) (breaks_from (start before) (cuts_of (shapes_from fresh ts))) (on_lines 1 0 (text_of ts)) gives.faults)

      faults_are : (fault : Fault) → Breaks before (text_of ts) fault → IsOnLengths fault.rule
      faults_are fault (inl b) = subst (λ (f : Fault). IsOnLengths f.rule) (sym b.1) tt
      faults_are fault (inr b) = among fault (asked before (text_of ts) b.shapes) (all b.shapes b.consists) b.broken

-- ---- printed and read again

tokens_behind : (b : Bool) (xs ys : List Token) → AreTokensFrom b (xs ++ ys) → AreTokensFrom (is_begun_behind b xs) ys
tokens_behind b [] ys a = a
tokens_behind b (x ∷ xs) ys a = tokens_behind (is_begun_by x) xs ys a.1

tokens_before : (b : Bool) (xs ys : List Token) → AreTokensFrom b (xs ++ ys) → is_begun_behind b xs ≡ false → AreTokensFrom b xs
tokens_before b [] ys a e = e
tokens_before b (x ∷ xs) ys a e = (a.0, tokens_before (is_begun_by x) xs ys a.1 e)

pub read_again : (file before other earlier : ℕ) (bytes : List ℕ) (tokens : List Spanned) (front back : List Token) (ts : List Lexeme) → Lexes file before bytes tokens
    → map (λ t. t.token) tokens ≡ front ++ (map (λ t. t.token) ts ++ back) → AreStatements front → AreStatements (map (λ t. t.token) ts)
    → ((again : List Spanned) × Lexes other earlier (text_of ts) again × (map (λ t. t.token) again ≡ map (λ t. t.token) ts)) ⊎ ((fault : Fault) × Breaks earlier (text_of ts) fault × IsOnLengths fault.rule)
read_again file before other earlier bytes tokens front back ts l is starts_whole ends_whole = pick (list_or_rule other earlier (text_of ts))
  where
    all : AreTokens (front ++ (map (λ t. t.token) ts ++ back))
    all = subst AreTokens is (lexed file before bytes tokens l)

    rest : AreTokens (map (λ t. t.token) ts ++ back)
    rest = subst (λ (b : Bool). AreTokensFrom b (map lexeme_token ts ++ back)) starts_whole (tokens_behind false front (map lexeme_token ts ++ back) all)

    are : AreTokens (map (λ t. t.token) ts)
    are = tokens_before false (map lexeme_token ts) back rest ends_whole

    pick : ((again : List Spanned) × Lexes other earlier (text_of ts) again) ⊎ ((fault : Fault) × Breaks earlier (text_of ts) fault)
        → ((again : List Spanned) × Lexes other earlier (text_of ts) again × (map (λ t. t.token) again ≡ map (λ t. t.token) ts)) ⊎ ((fault : Fault) × Breaks earlier (text_of ts) fault × IsOnLengths fault.rule)
    pick (inl (again, m)) = inl (again, m, (printed other earlier ts are).0 again m)
    pick (inr (fault, b)) = inr (fault, b, (printed other earlier ts are).1 fault b)
