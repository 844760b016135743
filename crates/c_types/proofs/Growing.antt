-- A table that grows.
use Rattle.std.proofs.Common.{◌≡◌, ◌≢◌, ℕ, suc, zero, ◌+◌, ◌*◌, ◌<◌, ◌==◌, ◌⊎◌, inl, inr, Option, Some, None, is_some, IfSome, IsSome, arith, unwrap_or, List, [], ◌∷◌, ◌++◌, set, slice_get, Bool, true, false, if◌then◌else◌, refl, ap, sym, subst, ◌∙◌}
use Rattle.std.specs.Option.{option_map}
use Rattle.c_types.specs.declared.ctype.CType.{CType}
use Rattle.c_types.specs.declared.ctype.CType.TheOpen as c
use Rattle.c_types.specs.declared.ctype.CType.TheOpen.{CType-F, Proto-F}
use Rattle.c_types.specs.declared.ctype.Layout.{Layout}
use Rattle.c_types.specs.declared.ctype.Member.{Member}
use Rattle.c_types.specs.declared.ctype.Proto.{Proto}
use Rattle.c_types.specs.declared.ctype.StructBody.TheVariants.{Incomplete, Complete}
use Rattle.c_types.specs.Layouts.{align_or_one, size_or_none}
use Rattle.c_types.specs.Sizes.{Bodies, alignment, align_step, layout_at, whole_size, size_step}
use Rattle.c_types.specs.Tables.{AreSound, InOrder, CompletedInTurn, IsSound, IsTable, Keeps, completed}
use Rattle.c_types.proofs.Induction.{by_layers, Shown, answered, fold-bare}
use Rattle.c_types.proofs.Held.{members-complete}
use Rattle.c_types.proofs.SizeLemmas.{has_both}

abbrev Stays : Bodies → Bodies → Type 0
Stays old new = (s : ℕ) (l : Layout) → layout_at old s ≡ Some l → layout_at new s ≡ Some l

abbrev Any : Proto → Type 0
Any p = Unit {0}

map_stays : {A B : Type 0} (f : A → B) (o p : Option A) → ((x : A) → o ≡ Some x → p ≡ Some x) → (y : B) → option_map f o ≡ Some y → option_map f p ≡ Some y
map_stays f None p h y e = absurd (cc)
map_stays f (Some x) p h y e = ap (option_map f) (h x refl) ∙ e

abbrev SizeStays : Bodies → Bodies → CType → Type 0
SizeStays old new kind = (n : ℕ) → whole_size old kind ≡ Some n → whole_size new kind ≡ Some n

size_stays_step : (old new : Bodies) → Stays old new → (y : Shown (SizeStays old new) Any) (n : ℕ) →
    size_step old (answered (SizeStays old new) Any (Option ℕ) (Unit {0}) (whole_size old) (λ p. tt) y) ≡ Some n →
    size_step new (answered (SizeStays old new) Any (Option ℕ) (Unit {0}) (whole_size new) (λ p. tt) y) ≡ Some n
size_stays_step old new h c.Void n e = e
size_stays_step old new h c.Bool n e = e
size_stays_step old new h (c.Int w s r) n e = e
size_stays_step old new h c.Char n e = e
size_stays_step old new h (c.Enum m) n e = e
size_stays_step old new h (c.Struct s) n e = map_stays (λ l. l.size) (layout_at old s) (layout_at new s) (h s) n e
size_stays_step old new h (c.Pointer x) n e = e
size_stays_step old new h (c.Array x m) n e = map_stays (λ size. size * m) (whole_size old x.0) (whole_size new x.0) x.1 n e
size_stays_step old new h (c.Function p) n e = e
size_stays_step old new h c.Descriptor n e = e
size_stays_step old new h (c.Cdesc r) n e = e
size_stays_step old new h (c.Const x) n e = x.1 n e

size_stays : (old new : Bodies) → Stays old new → (kind : CType) → SizeStays old new kind
size_stays old new h = by_layers (SizeStays old new) Any
    (λ y n e. fold-bare (SizeStays old new) Any (Option ℕ) (Unit {0}) (size_step new) (λ p. tt) y ∙ size_stays_step old new h y n (sym (fold-bare (SizeStays old new) Any (Option ℕ) (Unit {0}) (size_step old) (λ p. tt) y) ∙ e))
    (λ y. tt)

abbrev AlignStays : Bodies → Bodies → CType → Type 0
AlignStays old new kind = (n : ℕ) → alignment old kind ≡ Some n → alignment new kind ≡ Some n

align_stays_step : (old new : Bodies) → Stays old new → (y : Shown (AlignStays old new) Any) (n : ℕ) →
    align_step old (answered (AlignStays old new) Any (Option ℕ) (Unit {0}) (alignment old) (λ p. tt) y) ≡ Some n →
    align_step new (answered (AlignStays old new) Any (Option ℕ) (Unit {0}) (alignment new) (λ p. tt) y) ≡ Some n
align_stays_step old new h c.Void n e = e
align_stays_step old new h c.Bool n e = e
align_stays_step old new h (c.Int w s r) n e = e
align_stays_step old new h c.Char n e = e
align_stays_step old new h (c.Enum m) n e = e
align_stays_step old new h (c.Struct s) n e = map_stays (λ l. l.align) (layout_at old s) (layout_at new s) (h s) n e
align_stays_step old new h (c.Pointer x) n e = e
align_stays_step old new h (c.Array x m) n e = x.1 n e
align_stays_step old new h (c.Function p) n e = e
align_stays_step old new h c.Descriptor n e = e
align_stays_step old new h (c.Cdesc r) n e = e
align_stays_step old new h (c.Const x) n e = x.1 n e

align_stays : (old new : Bodies) → Stays old new → (kind : CType) → AlignStays old new kind
align_stays old new h = by_layers (AlignStays old new) Any
    (λ y n e. fold-bare (AlignStays old new) Any (Option ℕ) (Unit {0}) (align_step new) (λ p. tt) y ∙ align_stays_step old new h y n (sym (fold-bare (AlignStays old new) Any (Option ℕ) (Unit {0}) (align_step old) (λ p. tt) y) ∙ e))
    (λ y. tt)

keeps : (old new : Bodies) → Stays old new → Keeps old new
keeps old new h = record { layouts = h; sizes = size_stays old new h; alignments = align_stays old new h }

-- an equal default or an equal value
same_or : (a b : Option ℕ) (d : ℕ) → IsSome a → ((n : ℕ) → a ≡ Some n → b ≡ Some n) → unwrap_or b d ≡ unwrap_or a d
same_or None b d h k = absurd (cc)
same_or (Some n) b d h k = rw (k n refl) refl

in_order_stays : (old new : Bodies) → Keeps old new → (end : ℕ) (ms : List Member) (size : ℕ) → InOrder old end ms size → InOrder new end ms size
in_order_stays old new k end [] size h = h
in_order_stays old new k end (m ∷ ms) size h =
    let a : align_or_one new m.kind ≡ align_or_one old m.kind = same_or (alignment old m.kind) (alignment new m.kind) 1 (has_both old m.kind ∙ h.2) (k.alignments m.kind) in
    let s : size_or_none new m.kind ≡ size_or_none old m.kind = same_or (whole_size old m.kind) (whole_size new m.kind) 0 h.2 (k.sizes m.kind) in (
      h.0,
      rw a h.1,
      still (whole_size old m.kind) (whole_size new m.kind) h.2 (k.sizes m.kind),
      in_order_stays old new k (m.offset + size_or_none new m.kind) ms size (rw s h.3),
    )
  where
    still : (a b : Option ℕ) → IsSome a → ((n : ℕ) → a ≡ Some n → b ≡ Some n) → IsSome b
    still None b h k = absurd (cc)
    still (Some n) b h k = ap is_some (k n refl)

sound_stays : (old new : Bodies) → Keeps old new → (l : Layout) → IsSound old l → IsSound new l
sound_stays old new k l s = record { some_align = s.some_align; most_align = s.most_align; most_size = s.most_size; padded = s.padded; in_order = in_order_stays old new k 0 l.members l.size s.in_order }

push-stays : (bodies : Bodies) → Stays bodies (bodies ++ Incomplete ∷ [])
push-stays [] s l e = absurd (cc)
push-stays (b ∷ bs) zero l e = e
push-stays (b ∷ bs) (suc s) l e = push-stays bs s l e

push-back : (bodies : Bodies) → Stays (bodies ++ Incomplete ∷ []) bodies
push-back [] zero l e = absurd (cc)
push-back [] (suc s) l e = absurd (cc)
push-back (b ∷ bs) zero l e = e
push-back (b ∷ bs) (suc s) l e = push-back bs s l e

pub keeps-push : (bodies : Bodies) → Keeps bodies (bodies ++ Incomplete ∷ [])
keeps-push bodies = keeps bodies (bodies ++ Incomplete ∷ []) (push-stays bodies)

completed-push : (bodies : Bodies) → completed (bodies ++ Incomplete ∷ []) ≡ completed bodies
completed-push [] = refl
completed-push (Incomplete ∷ bs) = completed-push bs
completed-push (Complete l ∷ bs) = ap suc (completed-push bs)

pub table-push : (bodies : Bodies) → IsTable bodies → IsTable (bodies ++ Incomplete ∷ [])
table-push bodies t = record {
  sound = λ s l e. sound_stays bodies (bodies ++ Incomplete ∷ []) (keeps-push bodies) l (t.sound s l (push-back bodies s l e));
  times = (
    t.times.0,
    record {
      counted = λ s l e. rw (completed-push bodies) (t.times.1.counted s l (push-back bodies s l e));
      earlier = λ s l e. t.times.1.earlier s l (push-back bodies s l e);
    },
  );
}

set-stays : (bodies : Bodies) (s : ℕ) (k : Layout) → slice_get bodies s ≡ Some Incomplete → Stays bodies (set bodies s (Complete k))
set-stays [] s k h v l e = absurd (cc)
set-stays (Incomplete ∷ bs) zero k h zero l e = absurd (cc)
set-stays (Complete j ∷ bs) zero k h zero l e = absurd (cc)
set-stays (b ∷ bs) zero k h (suc v) l e = e
set-stays (b ∷ bs) (suc s) k h zero l e = e
set-stays (b ∷ bs) (suc s) k h (suc v) l e = set-stays bs s k h v l e

set-back : (bodies : Bodies) (s : ℕ) (k : Layout) (v : ℕ) (l : Layout) → layout_at (set bodies s (Complete k)) v ≡ Some l → (layout_at bodies v ≡ Some l) ⊎ ((v ≡ s) × (k ≡ l))
set-back [] s k v l e = inl e
set-back (b ∷ bs) zero k zero l e = inr (refl, cc)
set-back (b ∷ bs) zero k (suc v) l e = inl e
set-back (b ∷ bs) (suc s) k zero l e = inl e
set-back (b ∷ bs) (suc s) k (suc v) l e = elim (set-back bs s k v l e) [ inl was ↦ inl was | inr is ↦ inr (ap suc is.0, is.1) ]

pub keeps-set : (bodies : Bodies) (s : ℕ) (k : Layout) → slice_get bodies s ≡ Some Incomplete → Keeps bodies (set bodies s (Complete k))
keeps-set bodies s k h = keeps bodies (set bodies s (Complete k)) (set-stays bodies s k h)

completed-set : (bodies : Bodies) (s : ℕ) (k : Layout) → slice_get bodies s ≡ Some Incomplete → completed (set bodies s (Complete k)) ≡ suc (completed bodies)
completed-set [] s k h = absurd (cc)
completed-set (Incomplete ∷ bs) zero k h = refl
completed-set (Complete j ∷ bs) zero k h = absurd (cc)
completed-set (Incomplete ∷ bs) (suc s) k h = completed-set bs s k h
completed-set (Complete j ∷ bs) (suc s) k h = ap suc (completed-set bs s k h)

incomplete-at : (bodies : Bodies) (s : ℕ) → slice_get bodies s ≡ Some Incomplete → layout_at bodies s ≡ None
incomplete-at bodies s h = rw h refl

-- the times, with struct s completed now
abbrev marked : (ℕ → ℕ) → ℕ → ℕ → ℕ → ℕ
marked time s now v = if v == s then now else time v

marked-same : (time : ℕ → ℕ) (s now : ℕ) → marked time s now s ≡ now
marked-same time s now = grind arith

marked-other : (time : ℕ → ℕ) (s now v : ℕ) → v ≢ s → marked time s now v ≡ time v
marked-other time s now v h = grind arith

other : (bodies : Bodies) (s v : ℕ) → layout_at bodies s ≡ None → IsSome (layout_at bodies v) → v ≢ s
other bodies s v n h e = let none : layout_at bodies v ≡ None = rw e n in absurd (cc (ap is_some none))

-- what is complete was completed at a time before now
done_before : (bodies : Bodies) (time : ℕ → ℕ) → CompletedInTurn bodies time → (v : ℕ) → IsSome (layout_at bodies v) → time v < completed bodies
done_before bodies time t v h = by (layout_at bodies v) refl h
  where
    by : (o : Option Layout) → layout_at bodies v ≡ o → IsSome o → time v < completed bodies
    by None e h = absurd (cc)
    by (Some l) e h = t.counted v l e

held_before : (bodies : Bodies) (time : ℕ → ℕ) (s end : ℕ) → layout_at bodies s ≡ None → (o : Option ℕ) → IfSome o (λ u. IsSome (layout_at bodies u)) → IfSome o (λ u. time u < end) →
    IfSome o (λ u. marked time s (completed bodies) u < end)
held_before bodies time s end n None c h = h
held_before bodies time s end n (Some u) c h = rw (marked-other time s (completed bodies) u (other bodies s u n c)) h

held_done : (bodies : Bodies) (time : ℕ → ℕ) → CompletedInTurn bodies time → (o : Option ℕ) → IfSome o (λ u. IsSome (layout_at bodies u)) → IfSome o (λ u. time u < completed bodies)
held_done bodies time t None c = c
held_done bodies time t (Some u) c = done_before bodies time t u c

in_turn-set : (bodies : Bodies) (s : ℕ) (k : Layout) (time : ℕ → ℕ) → slice_get bodies s ≡ Some Incomplete → AreSound bodies → IsSound bodies k → CompletedInTurn bodies time → CompletedInTurn (set bodies s (Complete k)) (marked time s (completed bodies))
in_turn-set bodies s k time h are_sound sound t = record {
  counted = λ v l e. rw (completed-set bodies s k h) (elim (set-back bodies s k v l e) [
    | inl was ↦ let before = t.counted v l was in rw (marked-other time s (completed bodies) v (away v l was)) (omega arith)
    | inr is ↦ rw (is.0, marked-same time s (completed bodies)) (omega arith)
  ]);
  earlier = λ v l e. elim (set-back bodies s k v l e) [
    | inl was ↦ rw (marked-other time s (completed bodies) v (away v l was))
        (λ i d b. held_before bodies time s (time v) none _ (members-complete bodies l.members 0 l.size (are_sound v l was).in_order i d b) (t.earlier v l was i d b))
    | inr is ↦ rw (is.0, marked-same time s (completed bodies), ← is.1)
        (λ i d b. let complete = members-complete bodies k.members 0 k.size sound.in_order i d b in held_before bodies time s (completed bodies) none _ complete (held_done bodies time t _ complete))
  ];
}
  where
    none : layout_at bodies s ≡ None
    none = incomplete-at bodies s h

    away : (v : ℕ) (l : Layout) → layout_at bodies v ≡ Some l → v ≢ s
    away v l e = other bodies s v none (ap is_some e)

pub table-set : (bodies : Bodies) (s : ℕ) (k : Layout) → slice_get bodies s ≡ Some Incomplete → IsTable bodies → IsSound bodies k → IsTable (set bodies s (Complete k))
table-set bodies s k h t sound = record {
  sound = λ v l e. elim (set-back bodies s k v l e) [
    | inl was ↦ sound_stays bodies (set bodies s (Complete k)) (keeps-set bodies s k h) l (t.sound v l was)
    | inr is ↦ sound_stays bodies (set bodies s (Complete k)) (keeps-set bodies s k h) l (subst (IsSound bodies) is.1 sound)
  ];
  times = (marked t.times.0 s (completed bodies), in_turn-set bodies s k t.times.0 h t.sound sound t.times.1);
}

pub table-empty : IsTable []
table-empty = record {
  sound = λ s l e. absurd (cc);
  times = (λ s. 0, record { counted = λ s l e. absurd (cc); earlier = λ s l e. absurd (cc) });
}

pub table-push_if : (b : Bool) (bodies : Bodies) → IsTable bodies → IsTable (if b then bodies ++ Incomplete ∷ [] else bodies)
table-push_if true bodies t = table-push bodies t
table-push_if false bodies t = t
