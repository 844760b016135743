-- Where ranges begin, in order.
use Rattle.std.proofs.Common.{◌≡◌, ◌≢◌, ℕ, zero, suc, ◌+◌, ◌<◌, ◌≤◌, inl, inr, List, [], ◌∷◌, ◌++◌, length, get_or, refl, sym, ap, ◌∙◌, subst, arith, length-append}
use Rattle.std.specs.Prelude.{All, Contains, slice_index, slice_index_or}
use Rattle.std.proofs.lemmas.List.{get_or_append_left, get_or_default}
use Rattle.std.proofs.lemmas.List.Elements.{All-push, All-same}
use Rattle.std.proofs.lemmas.List.Sorted.{All-permutation, Contains-permutation}
use Rattle.std.specs.List.Sorted.{IsPermutation, IsNonDecreasingBy}
use Rattle.std.proofs.Math.Seq.{get_or-append_seam}
use Rattle.reg_alloc.specs.declared.ranges.Range.{Range}
use Rattle.reg_alloc.specs.declared.scan.Start.{Start}
use Rattle.reg_alloc.specs.Scan.{first_of, no_range, Starts}
use Rattle.reg_alloc.proofs.Lists.{same_or}

abbrev pub start_of : List Range → ℕ → Start
start_of ranges v = record { first = first_of ranges v; value = v }

abbrev pub IsStart : List Range → Start → Type 0
IsStart ranges s = (s.value < length ranges) × (s.first ≡ first_of ranges s.value)

pub first_at : (ranges : List Range) (v : ℕ) (d : Range) → v < length ranges → (get_or ranges v d).first ≡ first_of ranges v
first_at ranges v d lt = ap (λ (r : Range). r.first) (get_or_default ranges v d no_range lt)

-- one more
pub record Pushed (ranges : List Range) (v : ℕ) (new : List Start) : Type 0 where
  pub so_far : length new ≡ v + 1
  pub each : All (λ s. (s.value < length ranges) × (s.first ≡ first_of ranges s.value)) new
  pub every : (u : ℕ) → u < v + 1 → Contains new (record { first = first_of ranges u; value = u })

pub pushed : (ranges : List Range) (starts new : List Start) (v : ℕ) (s : Start) → new ≡ starts ++ s ∷ [] → length starts ≡ v → v < length ranges → s.value ≡ v → s.first ≡ first_of ranges v → All (λ s. (s.value < length ranges) × (s.first ≡ first_of ranges s.value)) starts → ((u : ℕ) → u < v → Contains starts (record { first = first_of ranges u; value = u })) → Pushed ranges v new
pushed ranges starts new v s e n lt ev ef each every = record { so_far = len; each = All-same (IsStart ranges) new (starts ++ s ∷ []) e (All-push (IsStart ranges) starts s each (omega (arith, ev, lt), ef ∙ ap (λ u. first_of ranges u) (sym ev))); every = more }
  where
    len : length new ≡ v + 1
    len = let a = ap length e in let b = length-append starts (s ∷ []) in omega (arith, a, b, n)

    is : s ≡ start_of ranges v
    is = λ i. record { first = ef i; value = ev i }

    last : Contains new s
    last = (length starts, omega (arith, len, n), ap (λ (l : List Start). get_or l (length starts) s) e ∙ get_or-append_seam starts s [] s)

    old : (u : ℕ) → u < v → Contains new (start_of ranges u)
    old u lu = let c = every u lu in (c.0, omega (arith, c.1, len, n), ap (λ (l : List Start). get_or l c.0 (start_of ranges u)) e ∙ get_or_append_left starts (s ∷ []) (start_of ranges u) c.0 c.1 ∙ c.2)

    more : (u : ℕ) → u < v + 1 → Contains new (start_of ranges u)
    more u lu = elim (same_or u v) [ inl q ↦ subst (λ w. Contains new (start_of ranges w)) (sym q) (subst (λ (x : Start). Contains new x) is last) | inr ne ↦ old u (omega (arith, lu, ne)) ]

pub in_order : (ranges : List Range) (xs ys : List Start) → IsPermutation xs ys → Starts ranges xs → Starts ranges ys
in_order ranges xs ys perm s = record { each = All-permutation (IsStart ranges) xs ys perm s.each; every = λ v lt. Contains-permutation xs ys (start_of ranges v) perm (s.every v lt) }

-- each start that was seen has a choice
abbrev pub Done : List Start → List ℕ → ℕ → Type 0
Done starts choices n = (j : ℕ) (d : Start) → j < n → (slice_index_or starts j d).first < 4294967295 → slice_index choices (slice_index_or starts j d).value ≢ 13

pub done_more : (starts : List Start) (choices choices' : List ℕ) (i : ℕ) (s : Start) → s ≡ get_or starts i s → i < length starts → ((u : ℕ) → slice_index choices u ≢ 13 → slice_index choices' u ≢ 13) → (s.first < 4294967295 → slice_index choices' s.value ≢ 13) → Done starts choices i → Done starts choices' (i + 1)
done_more starts choices choices' i s is li kept here old j d lj h = elim (same_or j i) [ inl q ↦ this q | inr ne ↦ kept (slice_index_or starts j d).value (old j d (omega (arith, lj, ne)) h) ]
  where
    this : j ≡ i → slice_index choices' (slice_index_or starts j d).value ≢ 13
    this q =
        let e : get_or starts j d ≡ s = ap (λ n. get_or starts n d) q ∙ sym (is ∙ get_or_default starts i s d li) in
        subst (λ (x : Start). slice_index choices' x.value ≢ 13) (sym e) (here (subst (λ (x : Start). x.first < 4294967295) e h))

pub order_more : (starts : List Start) (i : ℕ) (s : Start) → s ≡ get_or starts i s → i < length starts → IsNonDecreasingBy (λ (s : Start). s.first) starts → (j : ℕ) (d : Start) → i + 1 ≤ j → j < length starts → s.first ≤ (slice_index_or starts j d).first
order_more starts i s is li order j d lo lj =
    let o = order i j d (omega (arith, lo)) lj in
    let e : s.first ≡ (get_or starts i d).first = ap (λ (x : Start). x.first) (is ∙ get_or_default starts i s d li) in
    omega (arith, o, e)

pub all_done : (ranges : List Range) (starts : List Start) (choices : List ℕ) (n : ℕ) → Starts ranges starts → length starts ≤ n → Done starts choices n → (v : ℕ) → v < length ranges → first_of ranges v < 4294967295 → slice_index choices v ≢ 13
all_done ranges starts choices n s le done v lv h z =
    let c = s.every v lv in
    let f = ap (λ (x : Start). x.first) c.2 in
    done c.0 (start_of ranges v) (omega (arith, c.1, le)) (omega (arith, f, h)) (ap (λ (x : Start). slice_index choices x.value) c.2 ∙ z)
