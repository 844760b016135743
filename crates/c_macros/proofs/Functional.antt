-- The function gives what the relation holds of, and nothing else.
use Rattle.std.proofs.Common.{◌≡◌, ℕ, zero, suc, Bool, true, false, cond, List, [], ◌∷◌, ◌++◌, get_or, Option, Some, None, refl, sym, ap, ◌∙◌, arith, subst, append_assoc}
use Rattle.std.proofs.Math.ListN.{set}
use Rattle.c_macros.specs.declared.token.Token.{Token}
use Rattle.c_macros.specs.declared.token.Token.TheVariants.{Name, Other}
use Rattle.c_macros.specs.Expansion.{Bodies, Macros, body_of, without, Swaps, Done, Stay, Swap, before, behind, Obeys, Expands, count, along, among, swaps_of, expansion}
use Rattle.c_macros.proofs.Flags.{fewer}

-- a macro that is swapped isn't one behind it
pub fewer_macros : (bodies : Bodies) (on : Macros) (t : Token) (body : List Token) → body_of bodies on t ≡ Some body → count on ≡ suc (count (without on t))
unfolding body_of
fewer_macros bodies on (Name n) body e = pick (get_or on n false) refl e
  where
    pick : (v : Bool) → get_or on n false ≡ v → cond v (Some (get_or bodies n [])) None ≡ Some body → count on ≡ suc (count (without on (Name n)))
    pick true is e = fewer on n is
    pick false is e = cc
fewer_macros bodies on (Other c) body e = cc

-- ---- one token

pub swaps_nil : (bodies : Bodies) (on : Macros) → swaps_of bodies on [] ≡ Done
unfolding swaps_of among along
swaps_nil bodies on = pick (count on)
  where
    pick : (k : ℕ) → among bodies k on [] ≡ Done
    pick zero = refl
    pick (suc k) = refl

pub swaps_stay : (bodies : Bodies) (on : Macros) (t : Token) (ts : List Token) → body_of bodies on t ≡ None → swaps_of bodies on (t ∷ ts) ≡ Stay t (swaps_of bodies on ts)
unfolding swaps_of among along
swaps_stay bodies on t ts e = pick (count on)
  where
    pick : (k : ℕ) → among bodies k on (t ∷ ts) ≡ Stay t (among bodies k on ts)
    pick zero = rw e refl
    pick (suc k) = rw e refl

pub swaps_swap : (bodies : Bodies) (on : Macros) (t : Token) (ts body : List Token) → body_of bodies on t ≡ Some body → swaps_of bodies on (t ∷ ts) ≡ Swap t (swaps_of bodies (without on t) body) (swaps_of bodies on ts)
unfolding swaps_of among along
swaps_swap bodies on t ts body e = pick (count on) (fewer_macros bodies on t body e)
  where
    pick : (k : ℕ) → k ≡ suc (count (without on t)) → among bodies k on (t ∷ ts) ≡ Swap t (among bodies (count (without on t)) (without on t) body) (among bodies k on ts)
    pick zero is = absurd (omega arith)
    pick (suc k) is = let less : k ≡ count (without on t) = omega arith in rw (e, ← less) refl

-- ---- the function's result is in the relation

abbrev Good : Bodies → Macros → List Token → Type 0
Good bodies on ts = Obeys bodies on (swaps_of bodies on ts) × (ts ≡ before (swaps_of bodies on ts))

good_list : (bodies : Bodies) (on : Macros) → ((on' : Macros) (ts : List Token) → count on ≡ suc (count on') → Good bodies on' ts) → (ts : List Token) → Good bodies on ts
good_list bodies on less [] = rw (swaps_nil bodies on) (tt, refl)
good_list bodies on less (t ∷ ts) = pick (good_list bodies on less ts) (body_of bodies on t) refl
  where
    pick : Good bodies on ts → (o : Option (List Token)) → body_of bodies on t ≡ o → Good bodies on (t ∷ ts)
    pick ih None e = rw (swaps_stay bodies on t ts e) ((e, ih.0), ap (λ l. t ∷ l) ih.1)
    pick ih (Some body) e =
        let inner = less (without on t) body (fewer_macros bodies on t body e) in
        rw (swaps_swap bodies on t ts body e) ((e ∙ ap Some inner.1, inner.0, ih.0), ap (λ l. t ∷ l) ih.1)

good_count : (bodies : Bodies) (k : ℕ) (on : Macros) → count on ≡ k → (ts : List Token) → Good bodies on ts
good_count bodies zero on c ts = good_list bodies on (λ on' ts e. absurd (omega arith)) ts
good_count bodies (suc k) on c ts = good_list bodies on (λ on' ts e. good_count bodies k on' (omega arith) ts) ts

pub expands : (bodies : Bodies) (on : Macros) (ts : List Token) → Expands bodies on ts (expansion bodies on ts)
unfolding expansion
expands bodies on ts = let g = good_count bodies (count on) on refl ts in record { swaps = swaps_of bodies on ts; obeys = g.0; from = g.1; to = refl }

-- ---- and there is no other

only_swaps : (bodies : Bodies) (a b : Swaps) (on : Macros) → Obeys bodies on a → Obeys bodies on b → before a ≡ before b → a ≡ b
only_swaps bodies Done Done on oa ob e = refl
only_swaps bodies Done (Stay u rb) on oa ob e = cc
only_swaps bodies Done (Swap u ib rb) on oa ob e = cc
only_swaps bodies (Stay t ra) Done on oa ob e = cc
only_swaps bodies (Stay t ra) (Stay u rb) on oa ob e =
    let same : t ≡ u = cc in
    let rest : before ra ≡ before rb = cc in
    let more = only_swaps bodies ra rb on oa.1 ob.1 rest in cc
only_swaps bodies (Stay t ra) (Swap u ib rb) on oa ob e = let same : t ≡ u = cc in let no = oa.0 in let some = ob.0 in cc
only_swaps bodies (Swap t ia ra) Done on oa ob e = cc
only_swaps bodies (Swap t ia ra) (Stay u rb) on oa ob e = let same : t ≡ u = cc in let some = oa.0 in let no = ob.0 in cc
only_swaps bodies (Swap t ia ra) (Swap u ib rb) on oa ob e =
    let same : t ≡ u = cc in
    let rest : before ra ≡ before rb = cc in
    let more = only_swaps bodies ra rb on oa.2 ob.2 rest in
    let one = oa.0 in let two = ob.0 in
    let bodies_are : before ia ≡ before ib = cc in
    let inner = only_swaps bodies ia ib (without on t) oa.1 (subst (λ v. Obeys bodies (without on v) ib) (sym same) ob.1) bodies_are in cc

-- what tokens expand to is one list
pub only_expansion : (bodies : Bodies) (on : Macros) (ts out : List Token) → Expands bodies on ts out → out ≡ expansion bodies on ts
unfolding expansion
only_expansion bodies on ts out x =
    let g = good_count bodies (count on) on refl ts in
    let same = only_swaps bodies x.swaps (swaps_of bodies on ts) on x.obeys g.0 (sym x.from ∙ g.1) in
    x.to ∙ ap behind same

-- ---- laws

pub expansion_nil : (bodies : Bodies) (on : Macros) → expansion bodies on [] ≡ []
unfolding expansion
expansion_nil bodies on = rw (swaps_nil bodies on) refl

pub expansion_stay : (bodies : Bodies) (on : Macros) (t : Token) (ts : List Token) → body_of bodies on t ≡ None → expansion bodies on (t ∷ ts) ≡ t ∷ expansion bodies on ts
unfolding expansion
expansion_stay bodies on t ts e = rw (swaps_stay bodies on t ts e) refl

pub expansion_swap : (bodies : Bodies) (on : Macros) (t : Token) (ts body : List Token) → body_of bodies on t ≡ Some body → expansion bodies on (t ∷ ts) ≡ expansion bodies (without on t) body ++ expansion bodies on ts
unfolding expansion
expansion_swap bodies on t ts body e = rw (swaps_swap bodies on t ts body e) refl

pub expansion_append : (bodies : Bodies) (on : Macros) (xs ys : List Token) → expansion bodies on (xs ++ ys) ≡ expansion bodies on xs ++ expansion bodies on ys
expansion_append bodies on [] ys = rw (expansion_nil bodies on) refl
expansion_append bodies on (t ∷ xs) ys = pick (body_of bodies on t) refl (expansion_append bodies on xs ys)
  where
    pick : (o : Option (List Token)) → body_of bodies on t ≡ o → expansion bodies on (xs ++ ys) ≡ expansion bodies on xs ++ expansion bodies on ys
        → expansion bodies on (t ∷ (xs ++ ys)) ≡ expansion bodies on (t ∷ xs) ++ expansion bodies on ys
    pick None e ih = rw (expansion_stay bodies on t (xs ++ ys) e, expansion_stay bodies on t xs e, ih) refl
    pick (Some body) e ih = rw (expansion_swap bodies on t (xs ++ ys) body e, expansion_swap bodies on t xs body e, ih, append_assoc) refl

-- a macro is no macro in its own expansion
pub own_name : (bodies : Bodies) (on : Macros) (t : Token) → body_of bodies (without on t) t ≡ None
unfolding body_of
own_name bodies on (Name n) = rw (down on n) refl
  where
    down : (on : Macros) (n : ℕ) → get_or (set on n false) n false ≡ false
    down [] n = refl
    down (b ∷ bs) zero = refl
    down (b ∷ bs) (suc n) = down bs n
own_name bodies on (Other c) = refl
