-- A statement that is read is spelled so, and fits.
use Rattle.std.proofs.Common.{◌≡◌, ℕ, zero, suc, Bool, true, false, List, [], ◌∷◌, length, Option, Some, None, refl, ap, ◌∙◌}
use Rattle.std.specs.Prelude.{codes}
use Rattle.std.specs.Str.{bytes_eq}
use Rattle.std.proofs.lemmas.Slice.Eq.{bytes_eq-Decides}
use Rattle.f_lex.specs.declared.token.Mark.TheVariants as mark
use Rattle.f_lex.specs.declared.token.Token.{Token}
use Rattle.f_lex.specs.declared.token.Token.TheVariants as token
use Rattle.f_grammar.specs.Grammar.{Expr, Maybe, Absent, Present, put, spell, FitsMaybe, Within}
use Rattle.f_grammar.specs.Reading.{IfSome, open_at, closed_at, comma_at, colon_at, star_at, name_at, key_at, expr_at, upper_at}
use Rattle.f_grammar.specs.Actions.{Act, spell_act, FitsAct}
use Rattle.f_grammar.specs.ActionReading.{arrow_at, target_at, value_at, by_word, act_at}
use Rattle.f_grammar.proofs.Sound.{then, chosen, tested, open_sound, closed_sound, comma_sound, colon_sound, star_sound, IsName, name_sound, IsKeyed, key_sound, IsInside, AsMaybe, upper_sound, present_fits, expr_sound}
use Rattle.f_grammar.proofs.ActionSound.{arrow_sound, IsTarget, target_sound, value_sound, word_sound_of, act_sound}
use Rattle.f_line_grammar.specs.Lines.{Span, Spans, Count, While, Construct, If, Do, Select, Line, IfThen, ElseIf, Loop, SelectCase, Cases, CaseDefault, SelectRank, Rank, RankStar, RankDefault, End, spell_test, spell_span, spell_spans, spell_comma, spell_step, spell_selector, spell_line, FitsSpan, FitsSpans, FitsLine}
use Rattle.f_line_grammar.specs.LineReading.{ends_line, ends_with, test_at, then_at, tested_line, behind_test, if_at, else_at, step_at, count_at, while_at, control_at, do_at, selector_ends, select_rank_at, select_at, behind_lower, span_at, spans_at, cases_at, case_at, rank_value_at, rank_at, end_at, construct_at, simple, word_line, line_at}

ends_then : (l : Line) (ts : List Token) (Q : Line → Type 0) → (ts ≡ [] → Q l) → IfSome (ends_line l ts) Q
unfolding ends_line
ends_then l [] Q q = q refl
ends_then l (t ∷ ts) Q q = tt

abbrev front : List ℕ → List Token → List Token
front w ts = token.Name w ∷ ts

with_then : (word : List ℕ) (l : Line) (ts : List Token) (Q : Line → Type 0) → (ts ≡ front word [] → Q l) → IfSome (ends_with word l ts) Q
unfolding ends_with
with_then word l ts Q q = then (name_at ts) _ (IsName ts) Q (name_sound ts) (λ m i.
    tested (bytes_eq m.0 word) _ _ Q (λ e. ends_then l m.1 Q (λ z. q (i ∙ ap (λ (w : List ℕ). front w m.1) ((bytes_eq-Decides m.0 word).0 e) ∙ ap (front word) z))) (λ _. tt))

module _ (n : ℕ) where
  -- what a word begins
  abbrev Begins : List ℕ → List Token → Line → Type 0
  Begins word ts l = (front word ts ≡ spell_line l) × FitsLine n l

  test_sound : (ts : List Token) → IfSome (test_at n ts) (λ x. (ts ≡ spell_test x.0 x.1) × Within n x.0)
  unfolding test_at
  test_sound ts = then (open_at ts) _ (λ r. ts ≡ put mark.Open r) _ (open_sound ts) (λ r i.
      then (expr_at n r) _ (IsInside n r) _ (expr_sound n r) (λ x p.
      then (closed_at x.1) _ (λ q. x.1 ≡ put mark.Close q) _ (closed_sound x.1) (λ q c. (i ∙ ap (put mark.Open) (p.0 ∙ ap (spell x.0) c), p.1))))

  then_sound : (make : Expr → Line) (ts : List Token) (Q : Line → Type 0) → ((e : Expr) → ts ≡ spell_test e (front (codes "then") []) → Within n e → Q (make e)) → IfSome (then_at n make ts) Q
  unfolding then_at
  then_sound make ts Q q = then (test_at n ts) _ (λ x. (ts ≡ spell_test x.0 x.1) × Within n x.0) Q (test_sound ts) (λ x p.
      with_then (codes "then") (make x.0) x.1 Q (λ e. q x.0 (p.0 ∙ ap (spell_test x.0) e) p.1))

  tested_sound : (make : Expr → Line) (ts : List Token) (Q : Line → Type 0) → ((e : Expr) → ts ≡ spell_test e [] → Within n e → Q (make e)) → IfSome (tested_line n make ts) Q
  unfolding tested_line
  tested_sound make ts Q q = then (test_at n ts) _ (λ x. (ts ≡ spell_test x.0 x.1) × Within n x.0) Q (test_sound ts) (λ x p.
      ends_then (make x.0) x.1 Q (λ e. q x.0 (p.0 ∙ ap (spell_test x.0) e) p.1))

  if_sound : (ts : List Token) → IfSome (if_at n ts) (Begins (codes "if") ts)
  unfolding if_at behind_test
  if_sound ts = then (test_at n ts) _ (λ x. (ts ≡ spell_test x.0 x.1) × Within n x.0) _ (test_sound ts) (λ x p.
      chosen (act_at n x.1) _ _ (λ a. (x.1 ≡ spell_act a) × FitsAct n a) (Begins (codes "if") ts) (act_sound n x.1)
      (with_then (codes "then") (IfThen x.0) x.1 _ (λ e. (ap (front (codes "if")) (p.0 ∙ ap (spell_test x.0) e), p.1)))
      (λ a q. (ap (front (codes "if")) (p.0 ∙ ap (spell_test x.0) q.0), (p.1, q.1))))

  else_sound : (ts : List Token) → IfSome (else_at n ts) (Begins (codes "else") ts)
  unfolding else_at
  else_sound [] = (refl, tt)
  else_sound (t ∷ ts) = then (name_at (t ∷ ts)) _ (IsName (t ∷ ts)) _ (name_sound (t ∷ ts)) (λ m i.
      tested (bytes_eq m.0 (codes "if")) _ _ (Begins (codes "else") (t ∷ ts))
      (λ e. then_sound (ElseIf false) m.1 _ (λ x p w. (ap (front (codes "else")) (i ∙ ap (λ (v : List ℕ). front v m.1) ((bytes_eq-Decides m.0 (codes "if")).0 e) ∙ ap (front (codes "if")) p), w))) (λ _. tt))

  step_sound : (make : Maybe → Line) (ts : List Token) (Q : Line → Type 0) → ((m : Maybe) → ts ≡ spell_step m → FitsMaybe n m → Q (make m)) → IfSome (step_at n make ts) Q
  unfolding step_at
  step_sound make [] Q q = q Absent refl tt
  step_sound make (t ∷ ts) Q q = then (comma_at (t ∷ ts)) _ (λ r. t ∷ ts ≡ put mark.Comma r) Q (comma_sound (t ∷ ts)) (λ r i.
      then (expr_at n r) _ (IsInside n r) Q (expr_sound n r) (λ z p. ends_then (make (Present z.0)) z.1 Q (λ e. q (Present z.0) (i ∙ ap (put mark.Comma) (p.0 ∙ ap (spell z.0) e)) (present_fits n z.0 p.1))))

  count_sound : (comma : Bool) (v : List ℕ) (ts : List Token) (Q : Line → Type 0) → ((x y : Expr) (s : Maybe) → ts ≡ spell x (put mark.Comma (spell y (spell_step s))) → Within n x → Within n y → FitsMaybe n s → Q (Loop (Count comma v x y s))) → IfSome (count_at n comma v ts) Q
  unfolding count_at
  count_sound comma v ts Q q = then (expr_at n ts) _ (IsInside n ts) Q (expr_sound n ts) (λ x p.
      then (comma_at x.1) _ (λ r. x.1 ≡ put mark.Comma r) Q (comma_sound x.1) (λ r i.
      then (expr_at n r) _ (IsInside n r) Q (expr_sound n r) (λ y o.
      step_sound (λ s. Loop (Count comma v x.0 y.0 s)) y.1 Q (λ s e f. q x.0 y.0 s (p.0 ∙ ap (spell x.0) (i ∙ ap (put mark.Comma) (o.0 ∙ ap (spell y.0) e))) p.1 o.1 f))))

  while_sound : (comma : Bool) (ts : List Token) (Q : Line → Type 0) → ((e : Expr) → ts ≡ front (codes "while") (spell_test e []) → Within n e → Q (Loop (While comma e))) → IfSome (while_at n comma ts) Q
  unfolding while_at
  while_sound comma ts Q q = then (name_at ts) _ (IsName ts) Q (name_sound ts) (λ m i.
      tested (bytes_eq m.0 (codes "while")) _ _ Q
      (λ e. tested_sound (λ x. Loop (While comma x)) m.1 Q (λ x p w. q x (i ∙ ap (λ (v : List ℕ). front v m.1) ((bytes_eq-Decides m.0 (codes "while")).0 e) ∙ ap (front (codes "while")) p) w)) (λ _. tt))

  control_sound : (comma : Bool) (ts all : List Token) → all ≡ spell_comma comma ts → IfSome (control_at n comma ts) (Begins (codes "do") all)
  unfolding control_at
  control_sound comma ts all c = chosen (key_at ts) _ _ (IsKeyed ts) (Begins (codes "do") all) (key_sound ts)
      (while_sound comma ts _ (λ e p w. (ap (front (codes "do")) (c ∙ ap (spell_comma comma) p), w)))
      (λ k i. count_sound comma k.0 k.1 _ (λ x y s p a b d. (ap (front (codes "do")) (c ∙ ap (spell_comma comma) (i ∙ ap (λ (r : List Token). token.Name k.0 ∷ put mark.Assign r) p)), (a, b, d))))

  do_sound : (ts : List Token) → IfSome (do_at n ts) (Begins (codes "do") ts)
  unfolding do_at
  do_sound [] = (refl, tt)
  do_sound (t ∷ ts) = chosen (comma_at (t ∷ ts)) _ _ (λ r. t ∷ ts ≡ put mark.Comma r) (Begins (codes "do") (t ∷ ts)) (comma_sound (t ∷ ts))
      (control_sound false (t ∷ ts) (t ∷ ts) refl) (λ r i. control_sound true r (t ∷ ts) i)

  closing_sound : (renamed : Option (List ℕ)) (name : List ℕ) (ts : List Token) (Q : Line → Type 0) → (ts ≡ put mark.Close [] → Q (SelectRank renamed name)) → IfSome (selector_ends renamed name ts) Q
  unfolding selector_ends
  closing_sound renamed name ts Q q = then (closed_at ts) _ (λ r. ts ≡ put mark.Close r) Q (closed_sound ts) (λ r c. ends_then (SelectRank renamed name) r Q (λ e. q (c ∙ ap (put mark.Close) e)))

  select_rank_sound : (ts : List Token) (Q : Line → Type 0) → ((renamed : Option (List ℕ)) (name : List ℕ) → ts ≡ put mark.Open (spell_selector renamed name) → Q (SelectRank renamed name)) → IfSome (select_rank_at ts) Q
  unfolding select_rank_at
  select_rank_sound ts Q q = then (open_at ts) _ (λ r. ts ≡ put mark.Open r) Q (open_sound ts) (λ r o.
      then (name_at r) _ (IsName r) Q (name_sound r) (λ a i.
      chosen (arrow_at a.1) _ _ (λ s. a.1 ≡ put mark.Arrow s) Q (arrow_sound a.1)
      (closing_sound None a.0 a.1 Q (λ e. q None a.0 (o ∙ ap (put mark.Open) (i ∙ ap (front a.0) e))))
      (λ s j. then (name_at s) _ (IsName s) Q (name_sound s) (λ b k. closing_sound (Some a.0) b.0 b.1 Q (λ e. q (Some a.0) b.0
      (o ∙ ap (put mark.Open) (i ∙ ap (front a.0) (j ∙ ap (put mark.Arrow) (k ∙ ap (front b.0) e)))))))))

  select_sound : (ts : List Token) → IfSome (select_at n ts) (Begins (codes "select") ts)
  unfolding select_at
  select_sound ts = then (name_at ts) _ (IsName ts) _ (name_sound ts) (λ m i.
      tested (bytes_eq m.0 (codes "case")) _ _ (Begins (codes "select") ts)
      (λ e. tested_sound (SelectCase false) m.1 _ (λ x p w. (ap (front (codes "select")) (i ∙ ap (λ (v : List ℕ). front v m.1) ((bytes_eq-Decides m.0 (codes "case")).0 e) ∙ ap (front (codes "case")) p), w)))
      (λ _. tested (bytes_eq m.0 (codes "rank")) _ _ (Begins (codes "select") ts)
      (λ e. select_rank_sound m.1 _ (λ r x p. (ap (front (codes "select")) (i ∙ ap (λ (v : List ℕ). front v m.1) ((bytes_eq-Decides m.0 (codes "rank")).0 e) ∙ ap (front (codes "rank")) p), tt))) (λ _. tt)))

  abbrev AsSpan : List Token → Span × List Token → Type 0
  AsSpan ts y = (ts ≡ spell_span y.0 y.1) × FitsSpan n y.0

  span_sound : (ts : List Token) → IfSome (span_at n ts) (AsSpan ts)
  unfolding span_at behind_lower
  span_sound ts = chosen (colon_at ts) _ _ (λ r. ts ≡ put mark.Colon r) (AsSpan ts) (colon_sound ts)
      (then (expr_at n ts) _ (IsInside n ts) _ (expr_sound n ts) (λ x p.
      chosen (colon_at x.1) _ _ (λ r. x.1 ≡ put mark.Colon r) (AsSpan ts) (colon_sound x.1) (p.0, p.1) (λ r i.
      then (upper_at (expr_at n) r) _ (AsMaybe n r) _ (upper_sound (expr_at n) n (expr_sound n) r) (λ u q. (p.0 ∙ ap (spell x.0) (i ∙ ap (put mark.Colon) q.0), (p.1, q.1))))))
      (λ r i. then (expr_at n r) _ (IsInside n r) _ (expr_sound n r) (λ x p. (i ∙ ap (put mark.Colon) p.0, p.1)))

  abbrev AsSpans : List Token → Spans × List Token → Type 0
  AsSpans ts y = (ts ≡ spell_spans y.0 y.1) × FitsSpans n y.0

  spans_sound : (k : ℕ) (ts : List Token) → IfSome (spans_at n k ts) (AsSpans ts)
  unfolding spans_at
  spans_sound zero ts = (refl, tt)
  spans_sound (suc k) ts = chosen (comma_at ts) _ _ (λ r. ts ≡ put mark.Comma r) (AsSpans ts) (comma_sound ts) (refl, tt) (λ r i.
      then (span_at n r) _ (AsSpan r) _ (span_sound r) (λ x p.
      then (spans_at n k x.1) _ (AsSpans x.1) _ (spans_sound k x.1) (λ y q. (i ∙ ap (put mark.Comma) (p.0 ∙ ap (spell_span x.0) q.0), (p.1, q.1)))))

  cases_sound : (ts : List Token) (Q : Line → Type 0) → ((s : Span) (ss : Spans) → ts ≡ spell_span s (spell_spans ss (put mark.Close [])) → FitsSpan n s → FitsSpans n ss → Q (Cases s ss)) → IfSome (cases_at n ts) Q
  unfolding cases_at
  cases_sound ts Q q = then (span_at n ts) _ (AsSpan ts) Q (span_sound ts) (λ x p.
      then (spans_at n (length x.1) x.1) _ (AsSpans x.1) Q (spans_sound (length x.1) x.1) (λ y o.
      then (closed_at y.1) _ (λ r. y.1 ≡ put mark.Close r) Q (closed_sound y.1) (λ r c.
      ends_then (Cases x.0 y.0) r Q (λ e. q x.0 y.0 (p.0 ∙ ap (spell_span x.0) (o.0 ∙ ap (spell_spans y.0) (c ∙ ap (put mark.Close) e))) p.1 o.1))))

  case_sound : (ts : List Token) → IfSome (case_at n ts) (Begins (codes "case") ts)
  unfolding case_at
  case_sound ts = chosen (open_at ts) _ _ (λ r. ts ≡ put mark.Open r) (Begins (codes "case") ts) (open_sound ts)
      (with_then (codes "default") CaseDefault ts _ (λ e. (ap (front (codes "case")) e, tt)))
      (λ r o. cases_sound r _ (λ s ss p f g. (ap (front (codes "case")) (o ∙ ap (put mark.Open) p), (f, g))))

  rank_sound : (ts : List Token) → IfSome (rank_at n ts) (Begins (codes "rank") ts)
  unfolding rank_at rank_value_at
  rank_sound ts = chosen (open_at ts) _ _ (λ r. ts ≡ put mark.Open r) (Begins (codes "rank") ts) (open_sound ts)
      (with_then (codes "default") RankDefault ts _ (λ e. (ap (front (codes "rank")) e, tt)))
      (λ r o. chosen (star_at r) _ _ (λ s. r ≡ put mark.Star s) (Begins (codes "rank") ts) (star_sound r)
      (then (expr_at n r) _ (IsInside n r) _ (expr_sound n r) (λ x p.
      then (closed_at x.1) _ (λ q. x.1 ≡ put mark.Close q) _ (closed_sound x.1) (λ q c.
      ends_then (Rank x.0) q _ (λ e. (ap (front (codes "rank")) (o ∙ ap (put mark.Open) (p.0 ∙ ap (spell x.0) (c ∙ ap (put mark.Close) e))), p.1)))))
      (λ s i. then (closed_at s) _ (λ q. s ≡ put mark.Close q) _ (closed_sound s) (λ q c.
      ends_then RankStar q _ (λ e. (ap (front (codes "rank")) (o ∙ ap (put mark.Open) (i ∙ ap (put mark.Star) (c ∙ ap (put mark.Close) e))), tt)))))

  end_sound : (ts : List Token) → IfSome (end_at ts) (Begins (codes "end") ts)
  unfolding end_at
  end_sound ts = then (name_at ts) _ (IsName ts) _ (name_sound ts) (λ m i.
      let of : (c : Construct) (w : List ℕ) → bytes_eq m.0 w ≡ true → front (codes "end") (front w []) ≡ spell_line (End c false) → IfSome (ends_line (End c false) m.1) (Begins (codes "end") ts)
      = λ c w e s. ends_then (End c false) m.1 _ (λ z. (ap (front (codes "end")) (i ∙ ap (λ (v : List ℕ). front v m.1) ((bytes_eq-Decides m.0 w).0 e) ∙ ap (front w) z) ∙ s, tt)) in
      tested (bytes_eq m.0 (codes "if")) _ _ (Begins (codes "end") ts) (λ e. of If (codes "if") e refl) (λ _.
      tested (bytes_eq m.0 (codes "do")) _ _ (Begins (codes "end") ts) (λ e. of Do (codes "do") e refl) (λ _.
      tested (bytes_eq m.0 (codes "select")) _ _ (Begins (codes "end") ts) (λ e. of Select (codes "select") e refl) (λ _. tt))))

  by : (word w : List ℕ) (ts : List Token) (o : Option Line) → bytes_eq word w ≡ true → IfSome o (Begins w ts) → IfSome o (Begins word ts)
  by word w ts None e p = tt
  by word w ts (Some l) e p = (ap (λ (v : List ℕ). front v ts) ((bytes_eq-Decides word w).0 e) ∙ p.0, p.1)

  bare_sound : (word : List ℕ) (l : Line) (ts : List Token) → front word [] ≡ spell_line l → FitsLine n l → IfSome (ends_line l ts) (Begins word ts)
  bare_sound word l ts s f = ends_then l ts _ (λ e. (ap (front word) e ∙ s, f))

  construct_sound : (word : List ℕ) (ts : List Token) (other : Option Line) → IfSome other (Begins word ts) → IfSome (construct_at n word ts other) (Begins word ts)
  unfolding construct_at
  construct_sound word ts other o =
      tested (bytes_eq word (codes "if")) _ _ (Begins word ts) (λ e. by word (codes "if") ts (if_at n ts) e (if_sound ts)) (λ _.
      tested (bytes_eq word (codes "elseif")) _ _ (Begins word ts) (λ e. by word (codes "elseif") ts (then_at n (ElseIf true) ts) e (then_sound (ElseIf true) ts _ (λ x p w. (ap (front (codes "elseif")) p, w)))) (λ _.
      tested (bytes_eq word (codes "else")) _ _ (Begins word ts) (λ e. by word (codes "else") ts (else_at n ts) e (else_sound ts)) (λ _.
      tested (bytes_eq word (codes "do")) _ _ (Begins word ts) (λ e. by word (codes "do") ts (do_at n ts) e (do_sound ts)) (λ _.
      tested (bytes_eq word (codes "selectcase")) _ _ (Begins word ts) (λ e. by word (codes "selectcase") ts (tested_line n (SelectCase true) ts) e (tested_sound (SelectCase true) ts _ (λ x p w. (ap (front (codes "selectcase")) p, w)))) (λ _.
      tested (bytes_eq word (codes "select")) _ _ (Begins word ts) (λ e. by word (codes "select") ts (select_at n ts) e (select_sound ts)) (λ _.
      tested (bytes_eq word (codes "case")) _ _ (Begins word ts) (λ e. by word (codes "case") ts (case_at n ts) e (case_sound ts)) (λ _.
      tested (bytes_eq word (codes "rank")) _ _ (Begins word ts) (λ e. by word (codes "rank") ts (rank_at n ts) e (rank_sound ts)) (λ _.
      tested (bytes_eq word (codes "end")) _ _ (Begins word ts) (λ e. by word (codes "end") ts (end_at ts) e (end_sound ts)) (λ _.
      tested (bytes_eq word (codes "endif")) _ _ (Begins word ts) (λ e. by word (codes "endif") ts (ends_line (End If true) ts) e (bare_sound (codes "endif") (End If true) ts refl tt)) (λ _.
      tested (bytes_eq word (codes "enddo")) _ _ (Begins word ts) (λ e. by word (codes "enddo") ts (ends_line (End Do true) ts) e (bare_sound (codes "enddo") (End Do true) ts refl tt)) (λ _.
      tested (bytes_eq word (codes "endselect")) _ _ (Begins word ts) (λ e. by word (codes "endselect") ts (ends_line (End Select true) ts) e (bare_sound (codes "endselect") (End Select true) ts refl tt)) (λ _. o))))))))))))

  simple_is : (ts : List Token) (o : Option Act) → IfSome o (λ a. (ts ≡ spell_act a) × FitsAct n a) → IfSome (simple o) (λ l. (ts ≡ spell_line l) × FitsLine n l)
  simple_is ts None p = tt
  simple_is ts (Some a) p = p

  word_line_sound : (ts : List Token) → IfSome (word_line n ts) (λ l. (ts ≡ spell_line l) × FitsLine n l)
  unfolding word_line
  word_line_sound ts = then (name_at ts) _ (IsName ts) _ (name_sound ts) (λ m i. pick m i (construct_at n m.0 m.1 (simple (by_word n m.0 m.1))) (construct_sound m.0 m.1 _ (simple_is (front m.0 m.1) (by_word n m.0 m.1) (word_sound_of n m.0 m.1))))
    where
      pick : (m : List ℕ × List Token) → IsName ts m → (o : Option Line) → IfSome o (Begins m.0 m.1) → IfSome o (λ l. (ts ≡ spell_line l) × FitsLine n l)
      pick m i None p = tt
      pick m i (Some l) p = (i ∙ p.0, p.1)

  pub line_sound : (ts : List Token) → IfSome (line_at n ts) (λ l. (ts ≡ spell_line l) × FitsLine n l)
  unfolding line_at
  line_sound ts = chosen (target_at n ts) _ _ (IsTarget n ts) _ (target_sound n ts) (word_line_sound ts) (λ t i. simple_is ts (value_at n t) (value_sound n ts t i))
