-- Lines behind one another, with blanks around them.
use Rattle.std.proofs.Common.{◌≡◌, ℕ, Bool, true, false, eqb, ◌||◌, List, [], ◌∷◌, ◌++◌, None, refl, sym, ap, ◌∙◌, subst, append_assoc}
use Rattle.std.proofs.lemmas.Bool.{eqb-true}
use Rattle.f_lex.specs.declared.class.Run.TheVariants as run
use Rattle.f_lex.specs.declared.token.Token.{Token}
use Rattle.f_lex.specs.declared.token.Token.TheVariants as token
use Rattle.f_lex.specs.declared.class.Class.{Class}
use Rattle.f_lex.specs.declared.class.Class.TheVariants as class
use Rattle.f_lex.specs.Characters.{is_blank as is_blank_class, class_at, class_of, goes_on, is_next}
use Rattle.f_lex.specs.Lines.{byte_at}
use Rattle.f_lex.specs.Words.{kind_quote_at}
use Rattle.f_lex.specs.Grammar.{Shape, Blanks, EndOfLine, AreRun}
use Rattle.first_form.specs.Lines.{is_blank, text_lines}
use Rattle.first_files.proofs.TextParts.{AreBlank, Behind, at_end, feed, return_feed, FirstLine, first_line, none_left}
use Rattle.first_files.proofs.Cutting.{spelled, FitAll, spelled_append, fit_append, plain}

-- ---- blanks

class_blank : (k : Class) → is_blank_class k ≡ true → k ≡ class.Blank
class_blank class.Letter e = absurd (cc)
class_blank class.Digit e = absurd (cc)
class_blank class.Underscore e = absurd (cc)
class_blank class.Blank e = refl
class_blank class.LineEnd e = absurd (cc)
class_blank class.Exclamation e = absurd (cc)
class_blank class.Ampersand e = absurd (cc)
class_blank class.Quote e = absurd (cc)
class_blank class.Semicolon e = absurd (cc)
class_blank class.Dot e = absurd (cc)
class_blank class.Mark e = absurd (cc)
class_blank class.Unused e = absurd (cc)
class_blank class.Foreign e = absurd (cc)
class_blank class.Nothing e = absurd (cc)

blank_class : (cs : List ℕ) → goes_on run.Blanks cs ≡ true → class_at cs ≡ class.Blank
unfolding goes_on
blank_class cs e = class_blank (class_at cs) e

-- what holds of a space and of a tab
of_blank : (P : ℕ → Type 0) → P 32 → P 9 → (b : ℕ) → is_blank b ≡ true → P b
of_blank P p q b e = pick (eqb b 32) refl
  where
    pick : (t : Bool) → eqb b 32 ≡ t → P b
    pick true h = subst P (sym (eqb-true b 32 h)) p
    pick false h = subst P (sym (eqb-true b 9 (sym (ap (λ (t : Bool). t || eqb b 9) h) ∙ e))) q

blank_goes : (b : ℕ) (ys : List ℕ) → is_blank b ≡ true → goes_on run.Blanks (b ∷ ys) ≡ true
unfolding goes_on class_at class_of
blank_goes b ys e = of_blank (λ n. goes_on run.Blanks (n ∷ ys) ≡ true) refl refl b e

blank_run : (bs xs rest : List ℕ) → AreBlank bs → AreRun run.Blanks xs rest → AreRun run.Blanks (bs ++ xs) rest
blank_run [] xs rest p r = r
blank_run (b ∷ bs) xs rest p r = (blank_goes b ((bs ++ xs) ++ rest) p.0, blank_run bs xs rest p.1 r)

record Blanked (bs rest : List ℕ) : Type 0 where
  shapes : List Shape
  spelled_is : spelled shapes rest ≡ bs ++ rest
  fit : FitAll shapes rest
  gives : (has : Bool) (more : List Shape) → plain has (shapes ++ more) ≡ plain has more

blanked : (bs rest : List ℕ) → AreRun run.Blanks bs rest → Blanked bs rest
blanked [] rest r = record { shapes = []; spelled_is = refl; fit = tt; gives = λ has more. refl }
blanked (b ∷ bs) rest r = record { shapes = Blanks b bs ∷ []; spelled_is = refl; fit = ((blank_class (b ∷ (bs ++ rest)) r.0, r.1), tt); gives = λ has more. refl }

-- ---- a line

-- no word goes on with this
pub record Stops (rest : List ℕ) : Type 0 where
  pub no_word : goes_on run.Word rest ≡ false
  pub no_kind : kind_quote_at rest ≡ None

-- a line is cut into pieces that give these tokens
pub record LineOf (line : List ℕ) (ts : List Token) : Type 0 where
  pub begins : (rest : List ℕ) → goes_on run.Blanks (line ++ rest) ≡ false
  pub shapes : List Shape
  pub spelled_is : (rest : List ℕ) → spelled shapes rest ≡ line ++ rest
  pub fit : (rest : List ℕ) → Stops rest → FitAll shapes rest
  pub gives : (more : List Shape) → plain false (shapes ++ more) ≡ ts ++ plain true more

blank_stops : (b : ℕ) (ys : List ℕ) → is_blank b ≡ true → Stops (b ∷ ys)
unfolding goes_on class_at class_of kind_quote_at byte_at
blank_stops b ys e = of_blank (λ n. Stops (n ∷ ys)) (record { no_word = refl; no_kind = refl }) (record { no_word = refl; no_kind = refl }) b e

tail_stops : (tail rest : List ℕ) → Behind tail rest → Stops tail
unfolding goes_on class_at class_of is_next kind_quote_at byte_at
tail_stops tail rest (at_end is none) = subst Stops (sym is) (record { no_word = refl; no_kind = refl })
tail_stops tail rest (feed is) = subst Stops (sym is) (record { no_word = refl; no_kind = refl })
tail_stops tail rest (return_feed is) = subst Stops (sym is) (record { no_word = refl; no_kind = refl })

stops_at : (trail tail rest : List ℕ) → AreBlank trail → Behind tail rest → Stops (trail ++ tail)
stops_at [] tail rest p b = tail_stops tail rest b
stops_at (x ∷ xs) tail rest p b = blank_stops x (xs ++ tail) p.0

-- pieces that are cut from a text
pub record Cutting (bytes : List ℕ) (ts : List Token) : Type 0 where
  pub shapes : List Shape
  pub spelled_is : spelled shapes [] ≡ bytes
  pub fit : FitAll shapes []
  pub gives : plain false shapes ≡ ts

module _ (bs line cs : List ℕ) (ts : List Token) (l : LineOf line ts) (after : List Shape) (fits : FitAll after []) where
  joined : AreRun run.Blanks bs (line ++ (cs ++ spelled after [])) → AreRun run.Blanks cs (spelled after []) → Stops (cs ++ spelled after []) → Cutting (bs ++ (line ++ (cs ++ spelled after []))) (ts ++ plain true after)
  joined r q stops =
      let rest = cs ++ spelled after [] in
      let b = blanked bs (line ++ rest) r in
      let c = blanked cs (spelled after []) q in
      let e1 : spelled (c.shapes ++ after) [] ≡ rest = spelled_append c.shapes after [] ∙ c.spelled_is in
      let e2 : spelled (l.shapes ++ (c.shapes ++ after)) [] ≡ line ++ rest = spelled_append l.shapes (c.shapes ++ after) [] ∙ ap (spelled l.shapes) e1 ∙ l.spelled_is rest in
      let f1 : FitAll (c.shapes ++ after) [] = fit_append c.shapes after [] c.fit fits in
      let f2 : FitAll (l.shapes ++ (c.shapes ++ after)) [] = fit_append l.shapes (c.shapes ++ after) [] (subst (FitAll l.shapes) (sym e1) (l.fit rest stops)) f1 in
      record {
        shapes = b.shapes ++ (l.shapes ++ (c.shapes ++ after));
        spelled_is = spelled_append b.shapes (l.shapes ++ (c.shapes ++ after)) [] ∙ ap (spelled b.shapes) e2 ∙ b.spelled_is;
        fit = fit_append b.shapes (l.shapes ++ (c.shapes ++ after)) [] (subst (FitAll b.shapes) (sym e2) b.fit) f2;
        gives = b.gives false (l.shapes ++ (c.shapes ++ after)) ∙ l.gives (c.shapes ++ after) ∙ ap (λ (us : List Token). ts ++ us) (c.gives true after);
      }

-- ---- lines

pub data Lined : List (List ℕ) → List Token → Type 0 where
  none : Lined [] []
  one_more : {line : List ℕ} {ts : List Token} {lines : List (List ℕ)} {us : List Token} → LineOf line ts → Lined lines us → Lined (line ∷ lines) (ts ++ token.End ∷ us)

no_cons : (x : List ℕ) (xs : List (List ℕ)) → let e : List (List ℕ) = [] in e ≡ x ∷ xs → ⊥
no_cons x xs e = cc

nothing_lined : (lines : List (List ℕ)) (us : List Token) → Lined lines us → lines ≡ [] → us ≡ []
nothing_lined lines us none e = refl
nothing_lined lines us (one_more l m) e = absurd (no_cons _ _ (sym e))

nil_behind : (xs : List ℕ) → xs ++ [] ≡ xs
nil_behind [] = refl
nil_behind (x ∷ xs) = ap (λ (l : List ℕ). x ∷ l) (nil_behind xs)

run_to : (bs rest : List ℕ) → AreBlank bs → goes_on run.Blanks rest ≡ false → AreRun run.Blanks bs rest
run_to [] rest p e = e
run_to (b ∷ bs) rest p e = (blank_goes b (bs ++ rest) p.0, run_to bs rest p.1 e)

no_blank_end : goes_on run.Blanks [] ≡ false
unfolding goes_on class_at
no_blank_end = refl

no_blank_feed : (rest : List ℕ) → goes_on run.Blanks (10 ∷ rest) ≡ false
unfolding goes_on class_at class_of
no_blank_feed rest = refl

return_goes : (rest : List ℕ) → goes_on run.Blanks (13 ∷ 10 ∷ rest) ≡ true
unfolding goes_on class_at class_of is_next
return_goes rest = refl

feed_is : (rest : List ℕ) → class_at (10 ∷ rest) ≡ class.LineEnd
unfolding class_at class_of
feed_is rest = refl

text_none : text_lines [] ≡ []
unfolding text_lines
text_none = refl

-- a text of such lines is cut into pieces that give their tokens
module _ {line : List ℕ} {ts : List Token} {us : List Token} {lines : List (List ℕ)} (l : LineOf line ts) (more : Lined lines us) (text : List ℕ) (lead trail : List ℕ) (leads : AreBlank lead) (trails : AreBlank trail) where
  abbrev Cuts : List ℕ → Type 0
  Cuts t = Cutting t (ts ++ token.End ∷ us)

  at_last : (tail rest : List ℕ) → tail ≡ [] → rest ≡ [] → text ≡ lead ++ (line ++ (trail ++ tail)) → text_lines rest ≡ lines → Cuts text
  at_last tail rest is nothing whole others =
      let none : us ≡ [] = nothing_lined lines us more (sym others ∙ ap text_lines nothing ∙ text_none) in
      let before = run_to lead (line ++ (trail ++ [])) leads (l.begins (trail ++ [])) in
      let made = joined lead line trail ts l [] tt before (run_to trail [] trails no_blank_end) (stops_at trail [] [] trails (at_end refl refl)) in
      let same : lead ++ (line ++ (trail ++ [])) ≡ text = sym (whole ∙ ap (λ (t : List ℕ). lead ++ (line ++ (trail ++ t))) is) in
      subst Cuts same (subst (λ (vs : List Token). Cutting (lead ++ (line ++ (trail ++ []))) (ts ++ token.End ∷ vs)) (sym none) made)

  module _ (tail rest : List ℕ) (whole : text ≡ lead ++ (line ++ (trail ++ tail))) (behind : Cutting rest us) where
    abbrev after : List Shape
    after = EndOfLine 10 ∷ behind.shapes

    abbrev R : List ℕ
    R = spelled after []

    fits : FitAll after []
    fits = (feed_is (spelled behind.shapes []), behind.fit)

    at_feed : tail ≡ 10 ∷ rest → Cuts text
    at_feed is =
        let before = run_to lead (line ++ (trail ++ R)) leads (l.begins (trail ++ R)) in
        let made = joined lead line trail ts l after fits before (run_to trail R trails (no_blank_feed (spelled behind.shapes []))) (stops_at trail R (spelled behind.shapes []) trails (feed refl)) in
        let same : lead ++ (line ++ (trail ++ R)) ≡ text = ap (λ (t : List ℕ). lead ++ (line ++ (trail ++ (10 ∷ t)))) behind.spelled_is ∙ sym (whole ∙ ap (λ (t : List ℕ). lead ++ (line ++ (trail ++ t))) is) in
        subst Cuts same (subst (λ (vs : List Token). Cutting (lead ++ (line ++ (trail ++ R))) (ts ++ token.End ∷ vs)) behind.gives made)

    at_return : tail ≡ 13 ∷ 10 ∷ rest → Cuts text
    at_return is =
        let cs = trail ++ 13 ∷ [] in
        let before = run_to lead (line ++ (cs ++ R)) leads (l.begins (cs ++ R)) in
        let stops = subst Stops (sym (append_assoc trail (13 ∷ []) R)) (stops_at trail (13 ∷ R) (spelled behind.shapes []) trails (return_feed refl)) in
        let blanks = blank_run trail (13 ∷ []) R trails (return_goes (spelled behind.shapes []), no_blank_feed (spelled behind.shapes [])) in
        let made = joined lead line cs ts l after fits before blanks stops in
        let same : lead ++ (line ++ (cs ++ R)) ≡ text =
        ap (λ (t : List ℕ). lead ++ (line ++ t)) (append_assoc trail (13 ∷ []) R)
        ∙ ap (λ (t : List ℕ). lead ++ (line ++ (trail ++ (13 ∷ 10 ∷ t)))) behind.spelled_is ∙ sym (whole ∙ ap (λ (t : List ℕ). lead ++ (line ++ (trail ++ t))) is) in
        subst Cuts same (subst (λ (vs : List Token). Cutting (lead ++ (line ++ (cs ++ R))) (ts ++ token.End ∷ vs)) behind.gives made)

pub all_cut : (lines : List (List ℕ)) (us : List Token) → Lined lines us → (text : List ℕ) → text_lines text ≡ lines → Cutting text us
all_cut lines us none text e = let is = none_left text e in record { shapes = []; spelled_is = sym is; fit = tt; gives = refl }
all_cut lines us (one_more {line} {ts} {lines = others} {us = vs} l more) text e = pick (λ t is. all_cut others vs more t is) (first_line text line others e)
  where
    by : ((t : List ℕ) → text_lines t ≡ others → Cutting t vs) → (f : FirstLine text line others) → Behind f.tail f.rest → Cutting text (ts ++ token.End ∷ vs)
    by on f (at_end is nothing) = at_last l more text f.lead f.trail f.leads f.trails f.tail f.rest is nothing f.is f.others
    by on f (feed is) = at_feed l more text f.lead f.trail f.leads f.trails f.tail f.rest f.is (on f.rest f.others) is
    by on f (return_feed is) = at_return l more text f.lead f.trail f.leads f.trails f.tail f.rest f.is (on f.rest f.others) is

    pick : ((t : List ℕ) → text_lines t ≡ others → Cutting t vs) → FirstLine text line others → Cutting text (ts ++ token.End ∷ vs)
    pick on f = by on f f.behind
