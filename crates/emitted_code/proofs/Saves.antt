-- Registers that are saved and restored.
use Rattle.std.proofs.Common.{◌≡◌, ℕ, ◌+◌, ◌*◌, ◌%◌, ◌^◌, ◌<◌, ◌≤◌, ◌⊎◌, inl, inr, List, [], ◌∷◌, ◌++◌, length, refl, sym, ap, ◌∙◌, subst, arith, length-append}
use Rattle.flat_ir.specs.Bytes.{Bytes, number, put}
use Rattle.flat_ir.specs.Ranges.{AreBytes}
use Rattle.flat_ir.proofs.Framing.{number_put_same, number_put_apart, put_apart, put_bytes, number_small}
use Rattle.emitted_code.specs.Straight.{Straight, load_word, store_word}
use Rattle.emitted_code.specs.Frames.{Layout, save_at}
use Rattle.emitted_code.specs.Code.{save, restore}
use Rattle.emitted_code.proofs.Data.{Data, acts, acts_append, IsTarget, Reach, AreSafe, safe_append, Gets, Small, Compared, same, other, compared}
use Rattle.emitted_code.proofs.FrameWords.{Puts, puts_word, gets_word, word_few, store_few}
use Rattle.emitted_code.proofs.Relate.{IsKept, In, save_low, save_differs, kept_range}

abbrev pub IsSaved : ℕ → Type 0
IsSaved h = (h ≡ 1) ⊎ IsKept h

pub saved_range : (h : ℕ) → IsSaved h → IsTarget h × ¬ (h ≡ 7) × ¬ (h ≡ 6) × ¬ (h ≡ 2)
saved_range h (inl e) = ((omega arith, omega arith), (λ z. omega arith), (λ z. omega arith), (λ z. omega arith))
saved_range h (inr k) = (let g = kept_range h k in let g0 = g.0 in let g1 = g.1 in ((omega arith, g1), (λ z. omega arith), (λ z. omega arith), (λ z. omega arith)))

module _ (low high : ℕ) (bounded : high ≤ 2 ^ 63) (l : Layout) (sp : ℕ) (bottom : low ≤ sp) (even : sp % 8 ≡ 0) (fits : sp + 8 * l.words + 104 ≤ high) where
  reach : (h : ℕ) → IsSaved h → Reach low high 8 (sp + save_at l h)
  reach h k = let s = save_low h k in (omega arith, omega arith, omega arith)

  abbrev at : ℕ → ℕ
  at h = sp + save_at l h

  -- registers are saved: they keep theirs, and memory elsewhere is the same
  pub record Saved (hs : List ℕ) (d : Data) : Type 0 where
    pub regs : (r : ℕ) → ¬ (r ≡ 7) → (acts (save l hs) d).regs r ≡ d.regs r
    pub small : Small (acts (save l hs) d).regs
    pub safe : AreSafe low high (save l hs) d
    pub apart : (a : ℕ) → (a < sp + 8 * l.words) ⊎ (sp + 8 * l.words + 104 ≤ a) → (acts (save l hs) d).mem a ≡ d.mem a
    pub bytes : AreBytes (acts (save l hs) d).mem
    pub there : (h : ℕ) → IsSaved h → In h hs ⊎ (number 8 d.mem (at h) ≡ d.regs h) → number 8 (acts (save l hs) d).mem (at h) ≡ d.regs h

  saves_step : (k : ℕ) (ks : List ℕ) → ((e : Data) → e.regs 2 ≡ sp → ((h : ℕ) → In h ks → IsSaved h) → e.regs 0 ≡ 0 → Small e.regs → AreBytes e.mem → Saved ks e) → (d : Data) → d.regs 2 ≡ sp → ((h : ℕ) → In h (k ∷ ks) → IsSaved h) → d.regs 0 ≡ 0 → Small d.regs → AreBytes d.mem → Saved (k ∷ ks) d
  saves_step k ks again d e2 all z s b = record {
    regs = λ r n. ap (λ (w : Data). w.regs r) (sym join) ∙ (rest.regs r n ∙ p.others r n);
    small = subst (λ (w : Data). Small w.regs) join rest.small;
    safe = safe_append low high xs ys d p.safe rest.safe;
    apart = λ a o. ap (λ (w : Data). w.mem a) (sym join) ∙ (rest.apart a o ∙ (ap (λ (m : Bytes). m a) mem1 ∙ put_apart 8 d.mem (at k) (d.regs k) a (outside a o)));
    bytes = subst (λ (w : Data). AreBytes w.mem) join rest.bytes;
    there = λ h kh o. ap (λ (w : Data). number 8 w.mem (at h)) (sym join) ∙ (rest.there h kh (next h kh o (compared h k)) ∙ p.others h (saved_range h kh).1);
  }
    where
      xs : List Straight
      xs = store_word k (save_at l k)

      ys : List Straight
      ys = save l ks

      kk : IsSaved k
      kk = all k (inl refl)

      d1 : Data
      d1 = acts xs d

      p : Puts low high (d.regs 2 + save_at l k) (d.regs k) d xs
      p = puts_word low high bounded k (save_at l k) d (saved_range k kk).0.1 (saved_range k kk).1 (subst (λ a. Reach low high 8 (a + save_at l k)) (sym e2) (reach k kk)) z

      mem1 : d1.mem ≡ put 8 d.mem (at k) (d.regs k)
      mem1 = p.mem ∙ ap (λ a. put 8 d.mem (a + save_at l k) (d.regs k)) e2

      b1 : AreBytes d1.mem
      b1 = subst (λ (m : Bytes). AreBytes m) (sym mem1) (put_bytes 8 d.mem (at k) (d.regs k) b)

      rest : Saved ks d1
      rest = again d1 (p.others 2 (λ e. omega arith) ∙ e2) (λ h i. all h (inr i)) (p.others 0 (λ e. omega arith) ∙ z) (p.small s) b1

      join : acts ys d1 ≡ acts (xs ++ ys) d
      join = sym (acts_append xs ys d)

      outside : (a : ℕ) → (a < sp + 8 * l.words) ⊎ (sp + 8 * l.words + 104 ≤ a) → (at k + 8 ≤ a) ⊎ (a + 1 ≤ at k)
      outside a (inl o) = inr (omega arith)
      outside a (inr o) = (let t = save_low k kk in inl (omega arith))

      away : (h : ℕ) → IsSaved h → ¬ (h ≡ k) → (at k + 8 ≤ at h) ⊎ (at h + 8 ≤ at k)
      away h kh n = let t = save_differs h k kh kk n in grind arith

      next : (h : ℕ) → IsSaved h → In h (k ∷ ks) ⊎ (number 8 d.mem (at h) ≡ d.regs h) → Compared h k → In h ks ⊎ (number 8 d1.mem (at h) ≡ d1.regs h)
      next h kh o (same e) = inr (ap (λ (m : Bytes). number 8 m (at h)) mem1 ∙ (ap (λ j. number 8 (put 8 d.mem (at k) (d.regs k)) (at j)) e ∙ (number_put_same 8 d.mem (at k) (d.regs k) (s k (saved_range k kk).2) ∙ (ap (λ j. d.regs j) (sym e) ∙ sym (p.others h (saved_range h kh).1)))))
      next h kh (inl (inl e)) (other n) = absurd (n e)
      next h kh (inl (inr i)) (other n) = inl i
      next h kh (inr e) (other n) = inr (ap (λ (m : Bytes). number 8 m (at h)) mem1 ∙ (number_put_apart 8 8 d.mem (at k) (d.regs k) (at h) (away h kh n) ∙ (e ∙ sym (p.others h (saved_range h kh).1))))

  pub saves : (hs : List ℕ) (d : Data) → d.regs 2 ≡ sp → ((h : ℕ) → In h hs → IsSaved h) → d.regs 0 ≡ 0 → Small d.regs → AreBytes d.mem → Saved hs d
  saves [] d e2 all z s b = record { regs = λ r n. refl; small = s; safe = tt; apart = λ a o. refl; bytes = b; there = λ h k o. none h o }
    where
      none : (h : ℕ) → In h [] ⊎ (number 8 d.mem (at h) ≡ d.regs h) → number 8 d.mem (at h) ≡ d.regs h
      none h (inl i) = absurd i
      none h (inr e) = e
  saves (k ∷ ks) d e2 all z s b = saves_step k ks (λ e. saves ks e) d e2 all z s b

  -- and they are restored to what is saved
  pub record Restored (hs : List ℕ) (ρ : ℕ → ℕ) (d : Data) : Type 0 where
    pub mem : (acts (restore l hs) d).mem ≡ d.mem
    pub small : Small (acts (restore l hs) d).regs
    pub safe : AreSafe low high (restore l hs) d
    pub others : (r : ℕ) → ¬ (In r hs) → ¬ (r ≡ 7) → (acts (restore l hs) d).regs r ≡ d.regs r
    pub there : (h : ℕ) → IsSaved h → In h hs ⊎ (d.regs h ≡ ρ h) → (acts (restore l hs) d).regs h ≡ ρ h

  restores_step : (k : ℕ) (ks : List ℕ) (ρ : ℕ → ℕ) → ((e : Data) → e.regs 2 ≡ sp → ((h : ℕ) → In h ks → IsSaved h) → ((h : ℕ) → In h ks → number 8 e.mem (at h) ≡ ρ h) → e.regs 0 ≡ 0 → Small e.regs → AreBytes e.mem → Restored ks ρ e) → (d : Data) → d.regs 2 ≡ sp → ((h : ℕ) → In h (k ∷ ks) → IsSaved h) → ((h : ℕ) → In h (k ∷ ks) → number 8 d.mem (at h) ≡ ρ h) → d.regs 0 ≡ 0 → Small d.regs → AreBytes d.mem → Restored (k ∷ ks) ρ d
  restores_step k ks ρ again d e2 all has z s b = record {
    mem = ap (λ (w : Data). w.mem) (sym join) ∙ (rest.mem ∙ p.mem);
    small = subst (λ (w : Data). Small w.regs) join rest.small;
    safe = safe_append low high xs ys d p.safe rest.safe;
    others = λ r n m. ap (λ (w : Data). w.regs r) (sym join) ∙ (rest.others r (λ i. n (inr i)) m ∙ p.others r (λ e. n (inl e)) m);
    there = λ h kh o. ap (λ (w : Data). w.regs h) (sym join) ∙ rest.there h kh (next h kh o (compared h k));
  }
    where
      xs : List Straight
      xs = load_word k (save_at l k)

      ys : List Straight
      ys = restore l ks

      kk : IsSaved k
      kk = all k (inl refl)

      d1 : Data
      d1 = acts xs d

      is : number 8 d.mem (d.regs 2 + save_at l k) ≡ ρ k
      is = ap (λ a. number 8 d.mem (a + save_at l k)) e2 ∙ has k (inl refl)

      lt : ρ k < 2 ^ 64
      lt = subst (λ v. v < 2 ^ 64) is (number_small 8 d.mem (d.regs 2 + save_at l k) b)

      p : Gets low high k (ρ k) d xs
      p = gets_word low high bounded k (save_at l k) (ρ k) d (saved_range k kk).0 (subst (λ a. Reach low high 8 (a + save_at l k)) (sym e2) (reach k kk)) z is lt

      not_k : (r : ℕ) → (r ≡ 0) ⊎ (r ≡ 2) → ¬ (r ≡ k)
      not_k r (inl e) f = (let t = (saved_range k kk).0 in let t0 = t.0 in omega arith)
      not_k r (inr e) f = (saved_range k kk).3 (sym f ∙ e)

      rest : Restored ks ρ d1
      rest = again d1 (p.others 2 (not_k 2 (inr refl)) (λ e. omega arith) ∙ e2) (λ h i. all h (inr i)) (λ h i. ap (λ (m : Bytes). number 8 m (at h)) p.mem ∙ has h (inr i)) (p.others 0 (not_k 0 (inl refl)) (λ e. omega arith) ∙ z) (p.small s) (subst (λ (m : Bytes). AreBytes m) (sym p.mem) b)

      join : acts ys d1 ≡ acts (xs ++ ys) d
      join = sym (acts_append xs ys d)

      next : (h : ℕ) → IsSaved h → In h (k ∷ ks) ⊎ (d.regs h ≡ ρ h) → Compared h k → In h ks ⊎ (d1.regs h ≡ ρ h)
      next h kh o (same e) = inr (ap (λ j. d1.regs j) e ∙ (p.value ∙ ap ρ (sym e)))
      next h kh (inl (inl e)) (other n) = absurd (n e)
      next h kh (inl (inr i)) (other n) = inl i
      next h kh (inr e) (other n) = inr (p.others h n (saved_range h kh).1 ∙ e)

  pub restores : (hs : List ℕ) (ρ : ℕ → ℕ) (d : Data) → d.regs 2 ≡ sp → ((h : ℕ) → In h hs → IsSaved h) → ((h : ℕ) → In h hs → number 8 d.mem (at h) ≡ ρ h) → d.regs 0 ≡ 0 → Small d.regs → AreBytes d.mem → Restored hs ρ d
  restores [] ρ d e2 all has z s b = record { mem = refl; small = s; safe = tt; others = λ r n m. refl; there = λ h k o. none h o }
    where
      none : (h : ℕ) → In h [] ⊎ (d.regs h ≡ ρ h) → d.regs h ≡ ρ h
      none h (inl i) = absurd i
      none h (inr e) = e
  restores (k ∷ ks) ρ d e2 all has z s b = restores_step k ks ρ (λ e. restores ks ρ e) d e2 all has z s b

pub save_few : (l : Layout) (hs : List ℕ) → length (save l hs) ≤ 10 * length hs
save_few l [] = omega arith
save_few l (h ∷ hs) =
    let a = store_few h (save_at l h) in
    let b = save_few l hs in
    omega (arith, a.1, b, length-append (store_word h (save_at l h)) (save l hs))

pub restore_few : (l : Layout) (hs : List ℕ) → length (restore l hs) ≤ 10 * length hs
restore_few l [] = omega arith
restore_few l (h ∷ hs) =
    let a = word_few h (save_at l h) in
    let b = restore_few l hs in
    omega (arith, a.1, b, length-append (load_word h (save_at l h)) (restore l hs))
