-- An action statement that is read is spelled so, and fits.
use Rattle.std.proofs.Common.{◌≡◌, ℕ, zero, suc, Bool, true, false, List, [], ◌∷◌, length, Option, Some, None, refl, ap, ◌∙◌}
use Rattle.std.specs.Prelude.{codes}
use Rattle.std.specs.Str.{bytes_eq}
use Rattle.std.proofs.lemmas.Slice.Eq.{bytes_eq-Decides}
use Rattle.f_lex.specs.declared.token.Mark.{Mark}
use Rattle.f_lex.specs.declared.token.Mark.TheVariants as mark
use Rattle.f_lex.specs.declared.token.Token.{Token}
use Rattle.f_lex.specs.declared.token.Token.TheVariants as token
use Rattle.f_grammar.specs.Grammar.{Expr, Refer, NoGroup, group, Maybe, Absent, Present, put, spell, spell_refer, spell_args, spell_maybe, FitsRefer, FitsArgs, FitsMaybe, Within}
use Rattle.f_grammar.specs.Reading.{open_at, closed_at, comma_at, star_at, name_at, word_at, args_at, refer_at, expr_at}
use Rattle.f_grammar.specs.Reading.{IfSome}
use Rattle.f_grammar.specs.Actions as act
use Rattle.f_grammar.specs.Actions.{Act, Refs, no_refs, ref, Exprs, no_exprs, expr, Status, NoStatus, status, spell_refs, spell_exprs, spell_status, spell_act, FitsRefs, FitsExprs, FitsStatus, FitsAct}
use Rattle.f_grammar.specs.ActionReading.{Target, ends_at, assign_at, arrow_at, set_behind, target_at, set_by, value_at, refs_at, exprs_at, status_at, call_at, code_at, error_at, objects_at, nullify_at, print_at, targets_at, read_unit_at, read_at, by_word, keyword_at, act_at}
use Rattle.f_grammar.proofs.Sound.{then, chosen, tested, open_sound, closed_sound, comma_sound, star_sound, IsName, name_sound, IsWord, word_sound, IsInside, AsRefer, refer_sound, args_sound, expr_sound}

ends_then : (a : Act) (ts : List Token) (Q : Act → Type 0) → (ts ≡ [] → Q a) → IfSome (ends_at a ts) Q
unfolding ends_at
ends_then a [] Q q = q refl
ends_then a (t ∷ ts) Q q = tt

assign_sound : (ts : List Token) → IfSome (assign_at ts) (λ r. ts ≡ put mark.Assign r)
unfolding assign_at
assign_sound (token.Mark mark.Assign ∷ ts) = refl
assign_sound (_ ∷ ts) = tt
assign_sound [] = tt

pub arrow_sound : (ts : List Token) → IfSome (arrow_at ts) (λ r. ts ≡ put mark.Arrow r)
unfolding arrow_at
arrow_sound (token.Mark mark.Arrow ∷ ts) = refl
arrow_sound (_ ∷ ts) = tt
arrow_sound [] = tt

abbrev pub set_mark : Bool → Mark
set_mark true = mark.Arrow
set_mark false = mark.Assign

module _ (n : ℕ) where
  refer_is : (ts : List Token) → IfSome (refer_at (expr_at n) ts) (AsRefer n ts)
  refer_is ts = refer_sound (expr_at n) n (expr_sound n) ts

  abbrev pub IsTarget : List Token → Target → Type 0
  IsTarget ts t = (ts ≡ spell_refer t.0 (put (set_mark t.1) t.2)) × FitsRefer n t.0

  abbrev pub IsAct : List Token → Act → Type 0
  IsAct ts a = (ts ≡ spell_act a) × FitsAct n a

  pub target_sound : (ts : List Token) → IfSome (target_at n ts) (IsTarget ts)
  unfolding target_at set_behind
  target_sound ts = then (refer_at (expr_at n) ts) _ (AsRefer n ts) _ (refer_is ts) (λ x p.
      chosen (assign_at x.1) _ _ (λ r. x.1 ≡ put mark.Assign r) (IsTarget ts) (assign_sound x.1)
      (chosen (arrow_at x.1) None (λ r. Some (x.0, true, r)) (λ r. x.1 ≡ put mark.Arrow r) (IsTarget ts) (arrow_sound x.1) tt (λ r i. (p.0 ∙ ap (spell_refer x.0) i, p.1)))
      (λ r i. (p.0 ∙ ap (spell_refer x.0) i, p.1)))

  pub value_sound : (ts : List Token) (t : Target) → IsTarget ts t → IfSome (value_at n t) (IsAct ts)
  unfolding value_at
  value_sound ts t i = then (expr_at n t.2) _ (IsInside n t.2) _ (expr_sound n t.2) (λ x p. ends_then (set_by t.1 t.0 x.0) x.1 (IsAct ts) (λ e. set t.1 i.0 x.0 (p.0 ∙ ap (spell x.0) e) p.1))
    where
      set : (b : Bool) → ts ≡ spell_refer t.0 (put (set_mark b) t.2) → (e : Expr) → t.2 ≡ spell e [] → Within n e → IsAct ts (set_by b t.0 e)
      set true j e k w = (j ∙ ap (λ (r : List Token). spell_refer t.0 (put mark.Arrow r)) k, (i.1, w))
      set false j e k w = (j ∙ ap (λ (r : List Token). spell_refer t.0 (put mark.Assign r)) k, (i.1, w))

  abbrev AreRefs : List Token → Refs × List Token → Type 0
  AreRefs ts y = (ts ≡ spell_refs y.0 y.1) × FitsRefs n y.0

  refs_sound : (word : List ℕ) (k : ℕ) (ts : List Token) → IfSome (refs_at n word k ts) (AreRefs ts)
  unfolding refs_at
  refs_sound word zero ts = (refl, tt)
  refs_sound word (suc k) ts = chosen (comma_at ts) _ _ (λ r. ts ≡ put mark.Comma r) (AreRefs ts) (comma_sound ts) (refl, tt) (λ r i.
      chosen (word_at word r) _ _ (IsWord word r) (AreRefs ts) (word_sound word r)
      (then (refer_at (expr_at n) r) _ (AsRefer n r) _ (refer_is r) (λ x p.
      then (refs_at n word k x.1) _ (AreRefs x.1) _ (refs_sound word k x.1) (λ y q.
      (i ∙ ap (put mark.Comma) (p.0 ∙ ap (spell_refer x.0) q.0), (p.1, q.1)))))
      (λ _ _. (refl, tt)))

  abbrev AreExprs : List Token → Exprs × List Token → Type 0
  AreExprs ts y = (ts ≡ spell_exprs y.0 y.1) × FitsExprs n y.0

  exprs_sound : (k : ℕ) (ts : List Token) → IfSome (exprs_at n k ts) (AreExprs ts)
  unfolding exprs_at
  exprs_sound zero ts = (refl, tt)
  exprs_sound (suc k) ts = chosen (comma_at ts) _ _ (λ r. ts ≡ put mark.Comma r) (AreExprs ts) (comma_sound ts) (refl, tt) (λ r i.
      then (expr_at n r) _ (IsInside n r) _ (expr_sound n r) (λ x p.
      then (exprs_at n k x.1) _ (AreExprs x.1) _ (exprs_sound k x.1) (λ y q.
      (i ∙ ap (put mark.Comma) (p.0 ∙ ap (spell x.0) q.0), (p.1, q.1)))))

  abbrev IsStatus : List ℕ → List Token → Status × List Token → Type 0
  IsStatus word ts y = (ts ≡ spell_status word y.0 y.1) × FitsStatus n y.0

  status_sound : (word : List ℕ) (ts : List Token) → IfSome (status_at n word ts) (IsStatus word ts)
  unfolding status_at
  status_sound word ts = chosen (comma_at ts) _ _ (λ r. ts ≡ put mark.Comma r) (IsStatus word ts) (comma_sound ts) (refl, tt) (λ r i.
      then (word_at word r) _ (IsWord word r) _ (word_sound word r) (λ s j.
      then (refer_at (expr_at n) s) _ (AsRefer n s) _ (refer_is s) (λ x p.
      (i ∙ ap (put mark.Comma) (j ∙ ap (λ (q : List Token). token.Name word ∷ put mark.Assign q) p.0), p.1))))

  -- what a word begins
  abbrev pub Begins : List ℕ → List Token → Act → Type 0
  Begins word ts a = (token.Name word ∷ ts ≡ spell_act a) × FitsAct n a

  abbrev word_in_front : List ℕ → List Token → List Token
  word_in_front word ts = token.Name word ∷ ts

  call_sound : (ts : List Token) → IfSome (call_at n ts) (Begins (codes "call") ts)
  unfolding call_at
  call_sound ts = then (name_at ts) _ (IsName ts) _ (name_sound ts) (λ m i.
      chosen (open_at m.1) _ _ (λ r. m.1 ≡ put mark.Open r) (Begins (codes "call") ts) (open_sound m.1)
      (ends_then (act.Call m.0 NoGroup) m.1 _ (λ e. (ap (word_in_front (codes "call")) (i ∙ ap (word_in_front m.0) e), tt)))
      (λ r o. then (args_at (expr_at n) true r) _ (λ y. (r ≡ spell_args y.0 (put mark.Close y.1)) × FitsArgs n true y.0) _ (args_sound (expr_at n) n (expr_sound n) true r) (λ x p.
      ends_then (act.Call m.0 (group x.0)) x.1 _ (λ e. (ap (word_in_front (codes "call")) (i ∙ ap (word_in_front m.0) (o ∙ ap (put mark.Open) (p.0 ∙ ap (λ (q : List Token). spell_args x.0 (put mark.Close q)) e))), p.1)))))

  simple_sound : (word : List ℕ) (a : Act) (ts : List Token) → token.Name word ∷ [] ≡ spell_act a → FitsAct n a → IfSome (ends_at a ts) (Begins word ts)
  simple_sound word a ts s f = ends_then a ts _ (λ e. (ap (word_in_front word) e ∙ s, f))

  code_sound : (make : Maybe → Act) (Q : Act → Type 0) (ts : List Token) → ((m : Maybe) → ts ≡ spell_maybe m [] → FitsMaybe n m → Q (make m)) → IfSome (code_at n make ts) Q
  unfolding code_at
  code_sound make Q [] q = q Absent refl tt
  code_sound make Q (t ∷ ts) q = then (expr_at n (t ∷ ts)) _ (IsInside n (t ∷ ts)) _ (expr_sound n (t ∷ ts)) (λ x p. ends_then (make (Present x.0)) x.1 Q (λ e. q (Present x.0) (p.0 ∙ ap (spell x.0) e) (fits n x.0 p.1)))
    where
      fits : (n : ℕ) (e : Expr) → Within n e → FitsMaybe n (Present e)
      fits zero e w = w
      fits (suc n) e w = w

  error_sound : (ts : List Token) → IfSome (error_at n ts) (Begins (codes "error") ts)
  unfolding error_at
  error_sound ts = then (name_at ts) _ (IsName ts) _ (name_sound ts) (λ m i.
      tested (bytes_eq m.0 (codes "stop")) _ _ (Begins (codes "error") ts)
      (λ e. code_sound act.ErrorStop _ m.1 (λ c s f. (ap (word_in_front (codes "error")) (i ∙ ap (λ (w : List ℕ). token.Name w ∷ m.1) ((bytes_eq-Decides m.0 (codes "stop")).0 e) ∙ ap (word_in_front (codes "stop")) s), f)))
      (λ e. tt))

  objects_sound : (make : Refer → Refs → Status → Act) (Q : Act → Type 0) (ts : List Token) → ((r : Refer) (rs : Refs) (s : Status) → ts ≡ act.spell_objects r rs s → FitsRefer n r → FitsRefs n rs → FitsStatus n s → Q (make r rs s)) → IfSome (objects_at n make ts) Q
  unfolding objects_at
  objects_sound make Q ts q =
      then (open_at ts) _ (λ r. ts ≡ put mark.Open r) _ (open_sound ts) (λ r o.
      then (refer_at (expr_at n) r) _ (AsRefer n r) _ (refer_is r) (λ x p.
      then (refs_at n (codes "stat") (length x.1) x.1) _ (AreRefs x.1) _ (refs_sound (codes "stat") (length x.1) x.1) (λ y u.
      then (status_at n (codes "stat") y.1) _ (IsStatus (codes "stat") y.1) _ (status_sound (codes "stat") y.1) (λ s v.
      then (closed_at s.1) _ (λ r. s.1 ≡ put mark.Close r) _ (closed_sound s.1) (λ rest c.
      ends_then (make x.0 y.0 s.0) rest Q (λ e. q x.0 y.0 s.0
      (o ∙ ap (put mark.Open) (p.0 ∙ ap (spell_refer x.0) (u.0 ∙ ap (spell_refs y.0) (v.0 ∙ ap (spell_status (codes "stat") s.0) (c ∙ ap (put mark.Close) e))))) p.1 u.1 v.1))))))

  nullify_sound : (ts : List Token) → IfSome (nullify_at n ts) (Begins (codes "nullify") ts)
  unfolding nullify_at
  nullify_sound ts =
      then (open_at ts) _ (λ r. ts ≡ put mark.Open r) _ (open_sound ts) (λ r o.
      then (refer_at (expr_at n) r) _ (AsRefer n r) _ (refer_is r) (λ x p.
      then (refs_at n (codes "stat") (length x.1) x.1) _ (AreRefs x.1) _ (refs_sound (codes "stat") (length x.1) x.1) (λ y u.
      then (closed_at y.1) _ (λ r. y.1 ≡ put mark.Close r) _ (closed_sound y.1) (λ rest c.
      ends_then (act.Nullify x.0 y.0) rest _ (λ e.
      (ap (word_in_front (codes "nullify")) (o ∙ ap (put mark.Open) (p.0 ∙ ap (spell_refer x.0) (u.0 ∙ ap (spell_refs y.0) (c ∙ ap (put mark.Close) e)))), (p.1, u.1)))))))

  print_sound : (ts : List Token) → IfSome (print_at n ts) (Begins (codes "print") ts)
  unfolding print_at
  print_sound ts =
      then (star_at ts) _ (λ r. ts ≡ put mark.Star r) _ (star_sound ts) (λ r o.
      then (exprs_at n (length r) r) _ (AreExprs r) _ (exprs_sound (length r) r) (λ y u.
      ends_then (act.Print y.0) y.1 _ (λ e. (ap (word_in_front (codes "print")) (o ∙ ap (put mark.Star) (u.0 ∙ ap (spell_exprs y.0) e)), u.1))))

  targets_sound : (make : Refer → Refs → Act) (Q : Act → Type 0) (ts : List Token) → ((r : Refer) (rs : Refs) → ts ≡ spell_refer r (spell_refs rs []) → FitsRefer n r → FitsRefs n rs → Q (make r rs)) → IfSome (targets_at n make ts) Q
  unfolding targets_at
  targets_sound make Q ts q =
      then (refer_at (expr_at n) ts) _ (AsRefer n ts) _ (refer_is ts) (λ x p.
      then (refs_at n (codes "stat") (length x.1) x.1) _ (AreRefs x.1) _ (refs_sound (codes "stat") (length x.1) x.1) (λ y u.
      ends_then (make x.0 y.0) y.1 Q (λ e. q x.0 y.0 (p.0 ∙ ap (spell_refer x.0) (u.0 ∙ ap (spell_refs y.0) e)) p.1 u.1)))

  unit_sound : (ts : List Token) → IfSome (read_unit_at n ts) (λ a. (token.Name (codes "read") ∷ put mark.Open ts ≡ spell_act a) × FitsAct n a)
  unfolding read_unit_at
  unit_sound ts =
      then (star_at ts) _ (λ r. ts ≡ put mark.Star r) _ (star_sound ts) (λ a i.
      then (comma_at a) _ (λ r. a ≡ put mark.Comma r) _ (comma_sound a) (λ b j.
      then (star_at b) _ (λ r. b ≡ put mark.Star r) _ (star_sound b) (λ c k.
      then (status_at n (codes "iostat") c) _ (IsStatus (codes "iostat") c) _ (status_sound (codes "iostat") c) (λ s v.
      then (closed_at s.1) _ (λ r. s.1 ≡ put mark.Close r) _ (closed_sound s.1) (λ r d.
      targets_sound (act.ReadUnit s.0) _ r (λ x y e f g.
      (ap (λ (q : List Token). token.Name (codes "read") ∷ put mark.Open q) (i ∙ ap (put mark.Star) (j ∙ ap (put mark.Comma) (k ∙ ap (put mark.Star) (v.0 ∙ ap (spell_status (codes "iostat") s.0) (d ∙ ap (put mark.Close) e))))), (v.1, f, g))))))))

  read_sound : (ts : List Token) → IfSome (read_at n ts) (Begins (codes "read") ts)
  unfolding read_at
  read_sound ts = chosen (open_at ts) _ _ (λ r. ts ≡ put mark.Open r) (Begins (codes "read") ts) (open_sound ts)
      (then (star_at ts) _ (λ r. ts ≡ put mark.Star r) _ (star_sound ts) (λ r i.
      then (comma_at r) _ (λ c. r ≡ put mark.Comma c) _ (comma_sound r) (λ c j.
      targets_sound act.Read _ c (λ x y e f g. (ap (word_in_front (codes "read")) (i ∙ ap (put mark.Star) (j ∙ ap (put mark.Comma) e)), (f, g))))))
      (λ r o. pick r o (read_unit_at n r) (unit_sound r))
    where
      pick : (r : List Token) → ts ≡ put mark.Open r → (x : Option Act) → IfSome x (λ a. (token.Name (codes "read") ∷ put mark.Open r ≡ spell_act a) × FitsAct n a) → IfSome x (Begins (codes "read") ts)
      pick r o None p = tt
      pick r o (Some a) p = (ap (word_in_front (codes "read")) o ∙ p.0, p.1)

  pub word_sound_of : (word : List ℕ) (ts : List Token) → IfSome (by_word n word ts) (Begins word ts)
  unfolding by_word
  word_sound_of word ts =
      tested (bytes_eq word (codes "call")) _ _ (Begins word ts) (λ e. by (codes "call") (call_at n ts) e (call_sound ts)) (λ _.
      tested (bytes_eq word (codes "exit")) _ _ (Begins word ts) (λ e. by (codes "exit") (ends_at act.Exit ts) e (simple_sound (codes "exit") act.Exit ts refl tt)) (λ _.
      tested (bytes_eq word (codes "cycle")) _ _ (Begins word ts) (λ e. by (codes "cycle") (ends_at act.Cycle ts) e (simple_sound (codes "cycle") act.Cycle ts refl tt)) (λ _.
      tested (bytes_eq word (codes "return")) _ _ (Begins word ts) (λ e. by (codes "return") (ends_at act.Return ts) e (simple_sound (codes "return") act.Return ts refl tt)) (λ _.
      tested (bytes_eq word (codes "stop")) _ _ (Begins word ts) (λ e. by (codes "stop") (code_at n act.Stop ts) e (code_sound act.Stop _ ts (λ m s f. (ap (word_in_front (codes "stop")) s, f)))) (λ _.
      tested (bytes_eq word (codes "error")) _ _ (Begins word ts) (λ e. by (codes "error") (error_at n ts) e (error_sound ts)) (λ _.
      tested (bytes_eq word (codes "allocate")) _ _ (Begins word ts) (λ e. by (codes "allocate") (objects_at n act.Allocate ts) e (objects_sound act.Allocate _ ts (λ r rs s o f g h. (ap (word_in_front (codes "allocate")) o, (f, g, h))))) (λ _.
      tested (bytes_eq word (codes "deallocate")) _ _ (Begins word ts) (λ e. by (codes "deallocate") (objects_at n act.Deallocate ts) e (objects_sound act.Deallocate _ ts (λ r rs s o f g h. (ap (word_in_front (codes "deallocate")) o, (f, g, h))))) (λ _.
      tested (bytes_eq word (codes "nullify")) _ _ (Begins word ts) (λ e. by (codes "nullify") (nullify_at n ts) e (nullify_sound ts)) (λ _.
      tested (bytes_eq word (codes "print")) _ _ (Begins word ts) (λ e. by (codes "print") (print_at n ts) e (print_sound ts)) (λ _.
      tested (bytes_eq word (codes "read")) _ _ (Begins word ts) (λ e. by (codes "read") (read_at n ts) e (read_sound ts)) (λ _. tt)))))))))))
    where
      by : (w : List ℕ) (o : Option Act) → bytes_eq word w ≡ true → IfSome o (Begins w ts) → IfSome o (Begins word ts)
      by w None e p = tt
      by w (Some a) e p = (ap (λ (v : List ℕ). token.Name v ∷ ts) ((bytes_eq-Decides word w).0 e) ∙ p.0, p.1)

  keyword_sound : (ts : List Token) → IfSome (keyword_at n ts) (IsAct ts)
  unfolding keyword_at
  keyword_sound ts = then (name_at ts) _ (IsName ts) _ (name_sound ts) (λ m i. pick m i (by_word n m.0 m.1) (word_sound_of m.0 m.1))
    where
      pick : (m : List ℕ × List Token) → IsName ts m → (o : Option Act) → IfSome o (Begins m.0 m.1) → IfSome o (IsAct ts)
      pick m i None p = tt
      pick m i (Some a) p = (i ∙ p.0, p.1)

  pub act_sound : (ts : List Token) → IfSome (act_at n ts) (λ a. (ts ≡ spell_act a) × FitsAct n a)
  unfolding act_at
  act_sound ts = chosen (target_at n ts) _ _ (IsTarget ts) (IsAct ts) (target_sound ts) (keyword_sound ts) (value_sound ts)
