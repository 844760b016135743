-- One assignment more, and all of them.
use Rattle.std.proofs.Common.{◌≡◌, ℕ, zero, suc, ◌+◌, ◌<◌, List, [], ◌∷◌, ◌++◌, length, get_or, refl, sym, ap, ◌∙◌, subst, arith, inl, inr, Some}
use Rattle.std.specs.Prelude.{All, slice_get}
use Rattle.std.proofs.lemmas.List.{get_or_append_left, get_or_push, get_or_default}
use Rattle.std.proofs.lemmas.Option.{slice_get_within, get_or_from_slice_get}
use Rattle.flatten.specs.declared.blocks.BlockProc.{BlockProc}
use Rattle.block_homes.specs.declared.homes.Assignment.{Assignment}
use Rattle.block_homes.specs.Held.{places_of, homes_in}
use Rattle.block_homes.specs.Valid.{IsNamed, Kept, AllValid}
use Rattle.reg_alloc.specs.All.{IsAssigned, AreAssigned}
use Rattle.reg_alloc.proofs.Lists.{same_or}

abbrev pub So_far : List BlockProc → List Assignment → ℕ → Type 0
So_far procs assignments n = (f : ℕ) (q : BlockProc) (a : Assignment) → f < n → IsAssigned (get_or procs f q) (get_or assignments f a)

pub assigned_more : (procs : List BlockProc) (old new : List Assignment) (n : ℕ) (q : BlockProc) (a : Assignment) → new ≡ old ++ a ∷ [] → length old ≡ n → n < length procs → q ≡ get_or procs n q → IsAssigned q a → So_far procs old n → So_far procs new (n + 1)
assigned_more procs old new n q a e count lt is one each f r d lf = elim (same_or f n) [ inl z ↦ this z | inr ne ↦ (let l : f < n = omega (arith, lf, ne) in subst (λ (x : Assignment). IsAssigned (get_or procs f r) x) (sym (ap (λ (x : List Assignment). get_or x f d) e ∙ get_or_append_left old (a ∷ []) d f (omega (arith, l, count)))) (each f r d l)) ]
  where
    this : f ≡ n → IsAssigned (get_or procs f r) (get_or new f d)
    this z = subst (λ (k : ℕ). IsAssigned (get_or procs k r) (get_or new k d)) (sym z) (subst (λ (x : BlockProc). IsAssigned x (get_or new n d)) (is ∙ get_or_default procs n q r lt) (subst (λ (x : Assignment). IsAssigned q x) (sym (ap (λ (x : List Assignment). get_or x n d) e ∙ get_or_push old a d n count)) one))

module _ (procs : List BlockProc) (assignments : List Assignment) (n : ℕ) (count : length assignments ≡ n) (all : n ≡ length procs) (each : So_far procs assignments n) where
  pub are_assigned : AreAssigned procs assignments
  are_assigned = record { count = count ∙ all; each = λ f q a g h. subst (λ (x : BlockProc). IsAssigned x a) (get_or_from_slice_get procs f q q g) (subst (λ (x : Assignment). IsAssigned (get_or procs f q) x) (get_or_from_slice_get assignments f a a h) (each f q a (let l = slice_get_within procs f q g in omega (arith, l, all)))) }

  pub all_valid : All IsNamed procs → AllValid procs assignments
  all_valid named f q g =
      let l = slice_get_within procs f q g in
      (subst (λ (x : BlockProc). IsNamed x) (get_or_from_slice_get procs f q q g) (named f q l), by_assignment (is_some assignments f (omega (arith, l, count, all))))
    where
      is_some : (xs : List Assignment) (i : ℕ) → i < length xs → (a : Assignment) × (slice_get xs i ≡ Some a)
      is_some [] i lt = absurd (omega (arith, lt))
      is_some (x ∷ xs) zero lt = (x, refl)
      is_some (x ∷ xs) (suc i) lt = is_some xs i (omega (arith, lt))

      by_assignment : (a : Assignment) × (slice_get assignments f ≡ Some a) → (b i : ℕ) → Kept (places_of (homes_in (slice_get assignments f))) q b i
      by_assignment s = subst (λ o. (b i : ℕ) → Kept (places_of (homes_in o)) q b i) (sym s.1) (are_assigned.each f q s.0 g s.1).valid
