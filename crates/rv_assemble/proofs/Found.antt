-- The lines of labels, found one after the other, and the targets of branches.
use Rattle.std.proofs.Common.{◌≡◌, ℕ, zero, suc, ◌+◌, ◌<◌, ◌≤◌, ◌⊎◌, inl, inr, List, [], ◌∷◌, ◌++◌, length, refl, sym, ap, ◌∙◌, subst, arith}
use Rattle.std.specs.Prelude.{slice_index, slice_get, Option, Some, None, unwrap_or, ◌==◌, if◌then◌else◌, Bool, true, false}
use Rattle.std.proofs.lemmas.Grind.{common_steps}
use Rattle.std.proofs.lemmas.Bool.{eqb-true, eq-eqb}
use Rattle.std.proofs.lemmas.Option.{slice_get_within, slice_get-get_or}
use Rattle.std.proofs.Math.ListN.{get_or}
use Rattle.rv_isa.specs.declared.insn.Insn.{Insn}
use Rattle.rv_assemble.specs.declared.unit.AsmLine.{AsmLine}
use Rattle.rv_assemble.specs.declared.unit.AsmLine.TheVariants.{Label, Branch}
use Rattle.rv_assemble.specs.Lines.{HasLabel, AreProperLines}
use Rattle.rv_assemble.specs.Places.{AreLabelLines, AreTargets, target_by, with_label}
use Rattle.rv_assemble.proofs.Pushed.{index-old, index-new, last_or_before, same_line}

same_label : (a b : ℕ) → Some (Label a) ≡ Some (Label b) → a ≡ b
same_label a b e = cc

same_number : (a b : ℕ) → Some a ≡ Some b → a ≡ b
same_number a b e = cc

module _ (lines : List AsmLine) (n : ℕ) (find : ℕ → Option ℕ) (h : AreLabelLines lines n find) where
  sound_at : (label l k : ℕ) (b : Bool) → slice_get lines n ≡ Some (Label label) → (b ≡ true → label ≡ l) → (if b then Some n else find l) ≡ Some k → slice_get lines k ≡ Some (Label l)
  sound_at label l k true g t e = subst (λ (m : ℕ). slice_get lines m ≡ Some (Label l)) (same_number n k e) (g ∙ ap (λ (q : ℕ). Some (Label q)) (t refl))
  sound_at label l k false g t e = h.sound l k e

  more_sound : (here : AsmLine) → slice_get lines n ≡ Some here → (l k : ℕ) → with_label find n here l ≡ Some k → slice_get lines k ≡ Some (Label l)
  more_sound (Label label) g l k e = sound_at label l k (label == l) g (λ t. eqb-true label l t) e
  more_sound here g l k e = h.sound l k e

  -- a label that was found stays found
  stays : (here : AsmLine) (l : ℕ) → (j : ℕ) × (find l ≡ Some j) → (j : ℕ) × (with_label find n here l ≡ Some j)
  stays (Label label) l f = chosen (label == l)
    where
      chosen : (b : Bool) → (j : ℕ) × ((if b then Some n else find l) ≡ Some j)
      chosen true = (n, refl)
      chosen false = f
  stays here l f = f

  found_here : (here : AsmLine) (l : ℕ) → here ≡ Label l → (j : ℕ) × (with_label find n here l ≡ Some j)
  found_here (Label label) l e = (n, ap (λ (b : Bool). if b then Some n else find l) (eq-eqb label l (same_label label l (ap (λ (i : AsmLine). Some i) e))))
  found_here here l e = cc

  more_full : (here : AsmLine) → slice_get lines n ≡ Some here → (l k : ℕ) → k < n + 1 → slice_get lines k ≡ Some (Label l) → (j : ℕ) × (with_label find n here l ≡ Some j)
  more_full here g l k lt gk = elim (last_or_before k n lt) [
    | inl b ↦ stays here l (h.full l k b gk)
    | inr s ↦ found_here here l (same_line here (Label l) (sym g ∙ subst (λ (m : ℕ). slice_get lines m ≡ Some (Label l)) s gk))
  ]

  pub labels-more : (here : AsmLine) (find' : ℕ → Option ℕ) → slice_get lines n ≡ Some here → ((l : ℕ) → find' l ≡ with_label find n here l) → AreLabelLines lines (n + 1) find'
  labels-more here find' g e = record {
    sound = λ l k q. more_sound here g l k (sym (e l) ∙ q);
    full = λ l k lt q. let f = more_full here g l k lt q in (f.0, e l ∙ f.1);
  }

pub each-more : (lines : List AsmLine) (xs : List ℕ) (value : AsmLine → ℕ) (n y : ℕ) (here : AsmLine) → length xs ≡ n
    → ((k : ℕ) (line : AsmLine) → k < n → slice_get lines k ≡ Some line → slice_index xs k ≡ value line) → slice_get lines n ≡ Some here → y ≡ value here
    → (k : ℕ) (line : AsmLine) → k < n + 1 → slice_get lines k ≡ Some line → slice_index (xs ++ y ∷ []) k ≡ value line
each-more lines xs value n y here c h g e k line l gk = elim (last_or_before k n l) [
  | inl b ↦ index-old xs y k (omega arith) ∙ h k line b gk
  | inr s ↦ index-new xs y k (omega arith) ∙ e ∙ ap value (same_line here line (sym g ∙ subst (λ (m : ℕ). slice_get lines m ≡ Some line) s gk))
]

past : (xs : List ℕ) (k : ℕ) → length xs ≤ k → slice_index xs k ≡ 0
past [] k l = grind (arith, common_steps)
past (x ∷ xs) zero l = absurd (omega arith)
past (x ∷ xs) (suc k) l = past xs k (omega arith)

module _ (lines : List AsmLine) (find : ℕ → Option ℕ) (h : AreLabelLines lines (length lines) find) where
  option_le : (l : ℕ) (o : Option ℕ) → find l ≡ o → unwrap_or o 0 ≤ length lines
  option_le l None e = omega arith
  option_le l (Some j) e = let w = slice_get_within lines j (Label l) (h.sound l j e) in omega arith

  target-le : (line : AsmLine) → target_by find line ≤ length lines
  target-le (Branch insn to) = option_le to (find to) refl
  target-le line = omega arith

  branch_target : (xs : List ℕ) (k : ℕ) (insn : Insn) (to : ℕ) → slice_index xs k ≡ target_by find (Branch insn to) → HasLabel lines to
      → slice_get lines (slice_index xs k) ≡ Some (Label to)
  branch_target xs k insn to e has =
      let within = slice_get_within lines has.0 (Label to) has.1 in
      let f = h.full to has.0 within has.1 in
      let at : slice_index xs k ≡ f.0 = e ∙ ap (λ (o : Option ℕ). unwrap_or o 0) f.1 in
      subst (λ (m : ℕ). slice_get lines m ≡ Some (Label to)) (sym at) (h.sound to f.0 f.1)

  pub targets-all : (xs : List ℕ) → AreProperLines lines → length xs ≡ length lines
      → ((k : ℕ) (line : AsmLine) → k < length lines → slice_get lines k ≡ Some line → slice_index xs k ≡ target_by find line) → AreTargets lines xs
  targets-all xs proper count each = record {
    count = count;
    bound = bound;
    labels = λ k insn to g.
        let within = slice_get_within lines k (Branch insn to) g in
        branch_target xs k insn to (each k (Branch insn to) within g) ((proper k (Branch insn to) g).1);
  }
    where
      small : (k : ℕ) → k < length lines → slice_index xs k ≤ length lines
      small k l =
          let line = get_or lines k (Label 0) in
          let e : slice_index xs k ≡ target_by find line = each k line l (slice_get-get_or lines k (Label 0) l) in
          let t = target-le line in
          omega (arith, e, t)

      bound : (k : ℕ) → slice_index xs k ≤ length lines
      bound k = elim (cases k (length lines)) [ inl l ↦ small k l | inr l ↦ (let z = past xs k (omega arith) in omega (arith, z)) ]
        where
          cases : (k n : ℕ) → (k < n) ⊎ (n ≤ k)
          cases k n = grind arith
