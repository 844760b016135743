-- Lines behind one another, with blanks around them: their pieces, and the rows of their lexemes.
use Rattle.std.proofs.Common.{◌≡◌, ℕ, Bool, true, false, cond, eqb, ◌||◌, List, [], ◌∷◌, ◌++◌, refl, sym, ap, ◌∙◌, subst}
use Rattle.std.proofs.lemmas.Bool.{eqb-true}
use Rattle.c_text.specs.declared.kind.Kind.TheVariants as kind
use Rattle.c_text.specs.declared.kind.Lexeme.{Lexeme}
use Rattle.c_text.specs.declared.class.Class.TheVariants as class
use Rattle.c_text.specs.Characters.{is_next}
use Rattle.c_text.specs.Classes.{class_of}
use Rattle.c_text.specs.Source.{lexemes_in}
use Rattle.c_lines.specs.Rows.{Row, in_front, rows}
use Rattle.first_form.specs.Lines.{is_blank, text_lines}
use Rattle.first_files.proofs.TextParts.{AreBlank, Behind, at_end, feed, return_feed, FirstLine, first_line, none_left}
use Rattle.first_c_files.proofs.Bits.{Points, next, skip, at, Bit, WordBit, NumberBit, SignBit, HashBit, SpaceBit, FeedBit, bytes_of, spelled, FitBit, FitAll, spelled_append, fit_append, lexeme, made_of, lexemes_are}
use Rattle.first_c_files.proofs.Bytes.{is_clean, clean_append, unreturned, unreturned_append, text_placed}
use Rattle.first_c_files.proofs.FormLines.{Gap, gap_end, gap_feed, gap_space, gap_tab, NoFeeds, one_or_none, LineOf}

-- ---- blanks

-- what holds of a space and of a tab
of_blank : (P : ℕ → Type 0) → P 32 → P 9 → (b : ℕ) → is_blank b ≡ true → P b
of_blank P p q b e = pick (eqb b 32) refl
  where
    pick : (t : Bool) → eqb b 32 ≡ t → P b
    pick true h = subst P (sym (eqb-true b 32 h)) p
    pick false h = subst P (sym (eqb-true b 9 (sym (ap (λ (t : Bool). t || eqb b 9) h) ∙ e))) q

abbrev spaces : List ℕ → List Bit
spaces [] = []
spaces (b ∷ bs) = SpaceBit b ∷ spaces bs

blank_clean : (bs : List ℕ) → AreBlank bs → is_clean bs ≡ true
blank_clean [] a = refl
blank_clean (b ∷ bs) a = of_blank (λ n. is_clean (n ∷ bs) ≡ true) (blank_clean bs a.1) (blank_clean bs a.1) b a.0

spaces_spelled : (bs rest : List ℕ) → spelled (spaces bs) rest ≡ bs ++ rest
spaces_spelled [] rest = refl
spaces_spelled (b ∷ bs) rest = ap (λ (l : List ℕ). b ∷ l) (spaces_spelled bs rest)

space_fits : (b : ℕ) (rest : List ℕ) → is_blank b ≡ true → FitBit (SpaceBit b) rest
unfolding class_of
space_fits b rest e = of_blank (λ n. FitBit (SpaceBit n) rest) (λ f g. refl) (λ f g. refl) b e

spaces_fit : (bs rest : List ℕ) → AreBlank bs → FitAll (spaces bs) rest
spaces_fit [] rest a = tt
spaces_fit (b ∷ bs) rest a = (space_fits b (spelled (spaces bs) rest) a.0, spaces_fit bs rest a.1)

-- blanks behind a line
gap_behind : (bs rest : List ℕ) → AreBlank bs → Gap rest → Gap (bs ++ rest)
gap_behind [] rest a g = g
gap_behind (b ∷ bs) rest a g = of_blank (λ n. Gap (n ∷ (bs ++ rest))) (gap_space (bs ++ rest)) (gap_tab (bs ++ rest)) b a.0

-- ---- rows

-- the lexemes of lines, wherever they stand
pub data AreRows : List (List Bit) → List Row → Type 0 where
  no_row : AreRows [] []
  one_row : {lines : List (List Bit)} {rs : List Row} (bits : List Bit) (blank : Bool) (f : Points) → AreRows lines rs → AreRows (bits ∷ lines) (made_of blank f bits ∷ rs)

-- blanks in front change where the rest stands
record Moved (blank : Bool) (f : Points) (bits more : List Bit) : Type 0 where
  first : Bool
  points : Points
  is : made_of blank f (bits ++ more) ≡ made_of first points more

moved : (bs : List ℕ) (blank : Bool) (f : Points) (more : List Bit) → Moved blank f (spaces bs) more
moved [] blank f more = record { first = blank; points = f; is = refl }
moved (b ∷ bs) blank f more = let m = moved bs true (next f) more in record { first = m.first; points = m.points; is = m.is }

front_one : (l : Lexeme) (ls : List Lexeme) → in_front l (one_or_none ls) ≡ (l ∷ ls) ∷ []
front_one l [] = refl
front_one l (m ∷ ms) = refl

-- the last row, with blanks behind it
last_row : (bits : List Bit) (trail : List ℕ) (blank : Bool) (f : Points) → NoFeeds bits → rows (made_of blank f (bits ++ spaces trail)) ≡ one_or_none (made_of blank f bits)
unfolding rows
last_row [] [] blank f n = refl
last_row [] (b ∷ trail) blank f n = last_row [] trail true (next f) n
last_row (WordBit c cs ∷ bits) trail blank f n =
    let l = lexeme kind.Name (c ∷ cs) (f 0) blank in
    ap (in_front l) (last_row bits trail false (skip cs (next f)) n.1) ∙ front_one l (made_of false (skip cs (next f)) bits)
last_row (NumberBit c cs ∷ bits) trail blank f n =
    let l = lexeme kind.Number (c ∷ cs) (f 0) blank in
    ap (in_front l) (last_row bits trail false (skip cs (next f)) n.1) ∙ front_one l (made_of false (skip cs (next f)) bits)
last_row (SignBit m c ∷ bits) trail blank f n =
    let l = lexeme kind.Mark (c ∷ []) (f 0) blank in
    ap (in_front l) (last_row bits trail false (next f) n.1) ∙ front_one l (made_of false (next f) bits)
last_row (HashBit ∷ bits) trail blank f n =
    let l = lexeme kind.Mark (35 ∷ []) (f 0) blank in
    ap (in_front l) (last_row bits trail false (next f) n.1) ∙ front_one l (made_of false (next f) bits)
last_row (SpaceBit c ∷ bits) trail blank f n = last_row bits trail true (next f) n.1
last_row (FeedBit ∷ bits) trail blank f n = absurd n.0

-- a row with its end
record Cut (blank : Bool) (f : Points) (bits : List Bit) (trail : List ℕ) (more : List Bit) : Type 0 where
  points : Points
  is : rows (made_of blank f (bits ++ (spaces trail ++ FeedBit ∷ more))) ≡ made_of blank f bits ∷ rows (made_of false points more)

first_row : (bits : List Bit) (trail : List ℕ) (more : List Bit) (blank : Bool) (f : Points) → NoFeeds bits → Cut blank f bits trail more
unfolding rows
first_row [] [] more blank f n = record { points = next f; is = refl }
first_row [] (b ∷ trail) more blank f n = let c = first_row [] trail more true (next f) n in record { points = c.points; is = c.is }
first_row (WordBit c cs ∷ bits) trail more blank f n =
    let h = first_row bits trail more false (skip cs (next f)) n.1 in record { points = h.points; is = ap (in_front (lexeme kind.Name (c ∷ cs) (f 0) blank)) h.is }
first_row (NumberBit c cs ∷ bits) trail more blank f n =
    let h = first_row bits trail more false (skip cs (next f)) n.1 in record { points = h.points; is = ap (in_front (lexeme kind.Number (c ∷ cs) (f 0) blank)) h.is }
first_row (SignBit m c ∷ bits) trail more blank f n =
    let h = first_row bits trail more false (next f) n.1 in record { points = h.points; is = ap (in_front (lexeme kind.Mark (c ∷ []) (f 0) blank)) h.is }
first_row (HashBit ∷ bits) trail more blank f n =
    let h = first_row bits trail more false (next f) n.1 in record { points = h.points; is = ap (in_front (lexeme kind.Mark (35 ∷ []) (f 0) blank)) h.is }
first_row (SpaceBit c ∷ bits) trail more blank f n = let h = first_row bits trail more true (next f) n.1 in record { points = h.points; is = h.is }
first_row (FeedBit ∷ bits) trail more blank f n = absurd n.0

no_lexeme : rows [] ≡ []
unfolding rows
no_lexeme = refl

-- ---- texts

-- a text is cut into pieces, whose lexemes are those of lines
pub record Cutting (text : List ℕ) (lines : List (List Bit)) : Type 0 where
  pub bits : List Bit
  pub spelled_is : unreturned text ≡ spelled bits []
  pub clean : is_clean (unreturned text) ≡ true
  pub fit : FitAll bits []
  pub are_rows : (blank : Bool) (f : Points) → AreRows lines (rows (made_of blank f bits))

pub data Lined : List (List ℕ) → List (List Bit) → Type 0 where
  none : Lined [] []
  one_more : {line : List ℕ} {bits : List Bit} {lines : List (List ℕ)} {others : List (List Bit)} → LineOf line bits → Lined lines others → Lined (line ∷ lines) (bits ∷ others)

no_cons : (x : List ℕ) (xs : List (List ℕ)) → let e : List (List ℕ) = [] in e ≡ x ∷ xs → ⊥
no_cons x xs e = cc

nothing_lined : (lines : List (List ℕ)) (others : List (List Bit)) → Lined lines others → lines ≡ [] → others ≡ []
nothing_lined lines others none e = refl
nothing_lined lines others (one_more l m) e = absurd (no_cons _ _ (sym e))

text_none : text_lines [] ≡ []
unfolding text_lines
text_none = refl

nil_behind : (xs : List ℕ) → xs ++ [] ≡ xs
nil_behind [] = refl
nil_behind (x ∷ xs) = ap (λ (l : List ℕ). x ∷ l) (nil_behind xs)

feed_fits : (rest : List ℕ) → FitBit FeedBit rest
unfolding class_of
feed_fits rest = λ f g. refl

module _ {line : List ℕ} {bits : List Bit} (l : LineOf line bits) (text lead trail tail : List ℕ) (leads : AreBlank lead) (trails : AreBlank trail)
    (whole : text ≡ lead ++ (line ++ (trail ++ tail))) where
  -- with these pieces behind the line and its blanks
  abbrev all_bits : List Bit → List Bit
  all_bits after = spaces lead ++ (bits ++ (spaces trail ++ after))

  all_spelled : (after : List Bit) → spelled (all_bits after) [] ≡ lead ++ (line ++ (trail ++ spelled after []))
  all_spelled after =
      spelled_append (spaces lead) (bits ++ (spaces trail ++ after)) []
      ∙ spaces_spelled lead (spelled (bits ++ (spaces trail ++ after)) [])
      ∙ ap (λ (t : List ℕ). lead ++ t)
      (spelled_append bits (spaces trail ++ after) []
      ∙ l.spelled_is (spelled (spaces trail ++ after) [])
      ∙ ap (λ (t : List ℕ). line ++ t) (spelled_append (spaces trail) after [] ∙ spaces_spelled trail (spelled after [])))

  all_fit : (after : List Bit) → FitAll after [] → Gap (spelled after []) → FitAll (all_bits after) []
  all_fit after fit gap =
      let behind : spelled (spaces trail ++ after) [] ≡ trail ++ spelled after [] = spelled_append (spaces trail) after [] ∙ spaces_spelled trail (spelled after []) in
      let here : FitAll bits (spelled (spaces trail ++ after) []) = l.fit (spelled (spaces trail ++ after) []) (subst Gap (sym behind) (gap_behind trail (spelled after []) trails gap)) in
      fit_append (spaces lead) (bits ++ (spaces trail ++ after)) [] (spaces_fit lead _ leads)
      (fit_append bits (spaces trail ++ after) [] here (fit_append (spaces trail) after [] (spaces_fit trail _ trails) fit))

  -- the bytes of the text
  whole_is : unreturned text ≡ lead ++ (line ++ (trail ++ unreturned tail))
  whole_is =
      ap unreturned whole ∙ unreturned_append lead (line ++ (trail ++ tail)) (blank_clean lead leads)
      ∙ ap (λ (t : List ℕ). lead ++ t) (unreturned_append line (trail ++ tail) l.clean ∙ ap (λ (t : List ℕ). line ++ t) (unreturned_append trail tail (blank_clean trail trails)))

  whole_clean : is_clean (unreturned tail) ≡ true → is_clean (unreturned text) ≡ true
  whole_clean e =
      ap is_clean whole_is ∙ clean_append lead (line ++ (trail ++ unreturned tail)) (blank_clean lead leads)
      (clean_append line (trail ++ unreturned tail) l.clean (clean_append trail (unreturned tail) (blank_clean trail trails) e))

  at_last : {others : List (List Bit)} → tail ≡ [] → others ≡ [] → Cutting text (bits ∷ others)
  at_last {others} is no_more =
      let bare : unreturned tail ≡ [] = ap unreturned is in
      let L : List (List Bit) → Type 0 = λ ls. Cutting text (bits ∷ ls) in
      subst L (sym no_more) (record {
        bits = all_bits [];
        spelled_is = whole_is ∙ ap (λ (t : List ℕ). lead ++ (line ++ (trail ++ t))) bare ∙ sym (all_spelled []);
        clean = whole_clean (ap is_clean bare);
        fit = all_fit [] tt gap_end;
        are_rows = λ blank f.
            (let m = moved lead blank f (bits ++ (spaces trail ++ [])) in
            let R : List Row → Type 0 = λ rs. AreRows (bits ∷ []) rs in
            subst R (sym (ap rows m.is ∙ ap (λ (bs : List Bit). rows (made_of m.first m.points (bits ++ bs))) (spaces_end trail) ∙ last_row bits trail m.first m.points l.no_feeds ∙ l.some m.first m.points)) (one_row bits m.first m.points no_row));
      })
    where
      spaces_end : (bs : List ℕ) → spaces bs ++ [] ≡ spaces bs
      spaces_end [] = refl
      spaces_end (b ∷ bs) = ap (λ (xs : List Bit). SpaceBit b ∷ xs) (spaces_end bs)

  -- with a line end behind it
  before : {others : List (List Bit)} (rest : List ℕ) → unreturned tail ≡ 10 ∷ unreturned rest → Cutting rest others → Cutting text (bits ∷ others)
  before {others} rest is behind = record {
    bits = all_bits (FeedBit ∷ behind.bits);
    spelled_is = whole_is ∙ ap (λ (t : List ℕ). lead ++ (line ++ (trail ++ t))) (is ∙ ap (λ (t : List ℕ). 10 ∷ t) behind.spelled_is) ∙ sym (all_spelled (FeedBit ∷ behind.bits));
    clean = whole_clean (ap is_clean is ∙ behind.clean);
    fit = all_fit (FeedBit ∷ behind.bits) (feed_fits (spelled behind.bits []), behind.fit) (gap_feed (spelled behind.bits []));
    are_rows = λ blank f.
        (let m = moved lead blank f (bits ++ (spaces trail ++ FeedBit ∷ behind.bits)) in
        let c = first_row bits trail behind.bits m.first m.points l.no_feeds in
        let R : List Row → Type 0 = λ rs. AreRows (bits ∷ others) rs in
        subst R (sym (ap rows m.is ∙ c.is)) (one_row bits m.first m.points (behind.are_rows false c.points)));
  }

return_is : (rest : List ℕ) → unreturned (13 ∷ 10 ∷ rest) ≡ 10 ∷ unreturned rest
unfolding is_next
return_is rest = refl

pub all_cut : (lines : List (List ℕ)) (others : List (List Bit)) → Lined lines others → (text : List ℕ) → text_lines text ≡ lines → Cutting text others
all_cut lines others none text e =
    let is = none_left text e in
    let bare : unreturned text ≡ [] = ap unreturned is in
    let R : List Row → Type 0 = λ rs. AreRows [] rs in
    record { bits = []; spelled_is = bare; clean = ap is_clean bare; fit = tt; are_rows = λ blank f. subst R (sym no_lexeme) no_row }
all_cut lines others (one_more {line} {bits} {lines = more} {others = vs} l m) text e = pick (λ t is. all_cut more vs m t is) (first_line text line more e)
  where
    by : ((t : List ℕ) → text_lines t ≡ more → Cutting t vs) → (f : FirstLine text line more) → Behind f.tail f.rest → Cutting text (bits ∷ vs)
    by on f (at_end is nothing) = at_last l text f.lead f.trail f.tail f.leads f.trails f.is is (nothing_lined more vs m (sym f.others ∙ ap text_lines nothing ∙ text_none))
    by on f (feed is) = before l text f.lead f.trail f.tail f.leads f.trails f.is f.rest (ap unreturned is) (on f.rest f.others)
    by on f (return_feed is) = before l text f.lead f.trail f.tail f.leads f.trails f.is f.rest (ap unreturned is ∙ return_is f.rest) (on f.rest f.others)

    pick : ((t : List ℕ) → text_lines t ≡ more → Cutting t vs) → FirstLine text line more → Cutting text (bits ∷ vs)
    pick on f = by on f f.behind

-- the rows of such a text
pub text_rows : (text : List ℕ) (lines : List (List Bit)) → Cutting text lines → AreRows lines (rows (lexemes_in text))
text_rows text lines c =
    let placed = text_placed text c.clean in
    let R : List Row → Type 0 = λ rs. AreRows lines rs in
    subst R (sym (ap rows (lexemes_are text c.bits placed.points (placed.is ∙ ap (at placed.points) c.spelled_is) c.fit))) (c.are_rows false placed.points)
