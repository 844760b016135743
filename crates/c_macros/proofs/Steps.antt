-- What a step of a replacement does.
use Rattle.std.proofs.Common.{◌≡◌, ℕ, ◌+◌, ◌<◌, ◌≤◌, Bool, true, false, List, [], ◌∷◌, ◌++◌, length, drop, reverse, get_or, Option, Some, None, refl, sym, ap, ◌∙◌, arith, subst, append_assoc, length-append}
use Rattle.std.proofs.Math.ListN.{set}
use Rattle.std.proofs.lemmas.List.{map-append, append-nil, length-map, reverse-append}
use Rattle.c_macros.specs.declared.token.Token.{Token}
use Rattle.c_macros.specs.declared.token.Token.TheVariants.{Name}
use Rattle.jf_base.specs.declared.place.Place.{Place}
use Rattle.c_macros.specs.declared.token.Spanned.{Spanned}
use Rattle.c_macros.specs.declared.expander.Frame.{Frame}
use Rattle.c_macros.specs.Expansion.{Bodies, Macros, body_of, without, expansion, swaps_of, cost, all_at}
use Rattle.c_macros.specs.Stack.{left_of, remaining, load, at_end, Moves, IsFull, Steps, IsPut, Running}
use Rattle.c_macros.proofs.Flags.{again_up}
use Rattle.c_macros.proofs.Functional.{swaps_nil, swaps_stay, swaps_swap, expansion_nil, expansion_stay, expansion_swap, expansion_append}

pub is_macro : (bodies : Bodies) (on : Macros) (n : ℕ) → get_or on n false ≡ true → body_of bodies on (Name n) ≡ Some (get_or bodies n [])
unfolding body_of
is_macro bodies on n e = rw e refl

cost_nil : (bodies : Bodies) (on : Macros) → cost (swaps_of bodies on []) ≡ 0
unfolding cost
cost_nil bodies on = rw (swaps_nil bodies on) refl

pub cost_stay : (bodies : Bodies) (on : Macros) (t : Token) (ts : List Token) → body_of bodies on t ≡ None → cost (swaps_of bodies on (t ∷ ts)) ≡ 1 + cost (swaps_of bodies on ts)
unfolding cost
cost_stay bodies on t ts e = rw (swaps_stay bodies on t ts e) refl

pub cost_swap : (bodies : Bodies) (on : Macros) (t : Token) (ts body : List Token) → body_of bodies on t ≡ Some body → cost (swaps_of bodies on (t ∷ ts)) ≡ 2 + cost (swaps_of bodies (without on t) body) + cost (swaps_of bodies on ts)
unfolding cost
cost_swap bodies on t ts body e = rw (swaps_swap bodies on t ts body e) refl

cost_first : (bodies : Bodies) (on : Macros) (t : Token) (ts : List Token) → cost (swaps_of bodies on (t ∷ ts)) ≡ cost (swaps_of bodies on (t ∷ [])) + cost (swaps_of bodies on ts)
cost_first bodies on t ts = pick (body_of bodies on t) refl
  where
    pick : (o : Option (List Token)) → body_of bodies on t ≡ o → cost (swaps_of bodies on (t ∷ ts)) ≡ cost (swaps_of bodies on (t ∷ [])) + cost (swaps_of bodies on ts)
    pick None e = omega (arith, cost_stay bodies on t ts e, cost_stay bodies on t [] e, cost_nil bodies on)
    pick (Some body) e = omega (arith, cost_swap bodies on t ts body e, cost_swap bodies on t [] body e, cost_nil bodies on)

pub opens : (bodies : Bodies) (limit n : ℕ) (place : Place) (on : Macros) (stack : List Frame) (out : List Spanned) → get_or on n false ≡ true
    → Moves bodies limit (Name n) place on stack out (set on n false) (record { name = n; at = 0 } ∷ stack) out
opens bodies limit n place on stack out e =
    let body = get_or bodies n [] in
    let m = is_macro bodies on n e in
    let up = again_up on n e in
    let ex : expansion bodies on (Name n ∷ []) ≡ expansion bodies (set on n false) body = expansion_swap bodies on (Name n) [] body m ∙ ap (λ l. expansion bodies (set on n false) body ++ l) (expansion_nil bodies on) ∙ append-nil (expansion bodies (set on n false) body) in
    let whole_is : all_at place (expansion bodies (set on n false) body ++ remaining bodies (set (set on n false) n true) stack) ≡ all_at place (expansion bodies on (Name n ∷ [])) ++ all_at place (remaining bodies on stack)
    = rw (up, ex) (map-append _ (expansion bodies (set on n false) body) (remaining bodies on stack)) in
    let load_is : load bodies (set (set on n false) n true) stack ≡ load bodies on stack = ap (λ o. load bodies o stack) up in
    record {
      same_end = ap (λ o. at_end o stack) up;
      same_whole = ap (λ l. out ++ l) whole_is;
      less = omega (arith, cost_swap bodies on (Name n) [] body m, cost_nil bodies on);
      fits = λ h. h;
    }

pub put_out : (bodies : Bodies) (limit : ℕ) (t : Token) (place : Place) (on : Macros) (stack : List Frame) (out : List Spanned) → body_of bodies on t ≡ None → length out < limit
    → Moves bodies limit t place on stack out on stack (out ++ record { token = t; place = place } ∷ [])
put_out bodies limit t place on stack out e lt =
    let s : Spanned = record { token = t; place = place } in
    let ex : expansion bodies on (t ∷ []) ≡ t ∷ [] = expansion_stay bodies on t [] e ∙ ap (λ l. t ∷ l) (expansion_nil bodies on) in
    record {
      same_end = refl;
      same_whole = rw ex (append_assoc out (s ∷ []) (all_at place (remaining bodies on stack)));
      less = omega (arith, cost_stay bodies on t [] e);
      fits = λ h. omega (arith, length-append out (s ∷ []));
    }

pub too_much : (bodies : Bodies) (limit : ℕ) (t : Token) (on : Macros) (out : List Spanned) → body_of bodies on t ≡ None → limit ≤ length out → IsFull bodies limit t on out
too_much bodies limit t on out e le = record { no_room = le; stays = expansion_stay bodies on t [] e ∙ ap (λ l. t ∷ l) (expansion_nil bodies on) }

-- the same for the list with the innermost last
pub opened : (bodies : Bodies) (limit n : ℕ) (t : Token) (place : Place) (on on' : Macros) (items items' : List Frame) (out : List Spanned)
    → t ≡ Name n → get_or on n false ≡ true → on' ≡ set on n false → items' ≡ items ++ record { name = n; at = 0 } ∷ [] → Moves bodies limit t place on (reverse items) out on' (reverse items') out
opened bodies limit n t place on on' items items' out te up oe ie =
    let f : Frame = record { name = n; at = 0 } in
    let se : reverse items' ≡ f ∷ reverse items = ap reverse ie ∙ reverse-append items (f ∷ []) in
    rw (te, oe, se) (opens bodies limit n place on (reverse items) out up)

module _ (bodies : Bodies) (limit : ℕ) (token : Token) (place : Place) (on0 : Macros) (out0 : List Spanned) where
  State : Macros → List Frame → List Spanned → Type 0
  State on stack out = Running bodies limit token place on0 out0 on stack out

  pub begun : (on : Macros) (stack : List Frame) (out : List Spanned) → Moves bodies limit token place on0 [] out0 on stack out → length out0 ≤ limit → Running bodies limit token place on0 out0 on stack out
  begun on stack out m le = record { same_end = m.same_end; same_whole = m.same_whole ∙ ap (λ l. out0 ++ l) (append-nil (all_at place (expansion bodies on0 (token ∷ [])))); fits = m.fits le }

  pub taken : (f : Frame) (stack : List Frame) (on : Macros) (t : Token) → left_of bodies f ≡ t ∷ drop (f.at + 1) (get_or bodies f.name [])
      → let g : Frame = record { name = f.name; at = f.at + 1 } in remaining bodies on (f ∷ stack) ≡ expansion bodies on (t ∷ []) ++ remaining bodies on (g ∷ stack)
  taken f stack on t e =
      let after = drop (f.at + 1) (get_or bodies f.name []) in
      let behind = remaining bodies (set on f.name true) stack in
      ap (λ l. expansion bodies on l ++ behind) e ∙ ap (λ l. l ++ behind) (expansion_append bodies on (t ∷ []) after) ∙ append_assoc (expansion bodies on (t ∷ [])) (expansion bodies on after) behind

  pub goes_on : (f : Frame) (stack : List Frame) (on : Macros) (out : List Spanned) (t : Token) (on' : Macros) (stack' : List Frame) (out' : List Spanned)
      → left_of bodies f ≡ t ∷ drop (f.at + 1) (get_or bodies f.name [])
      → Running bodies limit token place on0 out0 on (f ∷ stack) out
      → Moves bodies limit t place on (record { name = f.name; at = f.at + 1 } ∷ stack) out on' stack' out'
      → Running bodies limit token place on0 out0 on' stack' out' × (load bodies on' stack' < load bodies on (f ∷ stack))
  goes_on f stack on out t on' stack' out' e r m =
      let g : Frame = record { name = f.name; at = f.at + 1 } in
      let after = drop (f.at + 1) (get_or bodies f.name []) in
      let all_is : all_at place (remaining bodies on (f ∷ stack)) ≡ all_at place (expansion bodies on (t ∷ [])) ++ all_at place (remaining bodies on (g ∷ stack))
      = ap (all_at place) (taken f stack on t e) ∙ map-append _ (expansion bodies on (t ∷ [])) (remaining bodies on (g ∷ stack)) in
      let load_is : cost (swaps_of bodies on (left_of bodies f)) ≡ cost (swaps_of bodies on (t ∷ [])) + cost (swaps_of bodies on after) = ap (λ l. cost (swaps_of bodies on l)) e ∙ cost_first bodies on t after in (
        record { same_end = m.same_end ∙ r.same_end; same_whole = m.same_whole ∙ ap (λ l. out ++ l) (sym all_is) ∙ r.same_whole; fits = m.fits r.fits },
        let l = m.less in omega arith,
      )

  pub leaves : (f : Frame) (stack : List Frame) (on : Macros) (out : List Spanned) → left_of bodies f ≡ [] → Running bodies limit token place on0 out0 on (f ∷ stack) out
      → Running bodies limit token place on0 out0 (set on f.name true) stack out × (load bodies (set on f.name true) stack < load bodies on (f ∷ stack))
  leaves f stack on out e r =
      let behind = remaining bodies (set on f.name true) stack in
      let all_is : remaining bodies on (f ∷ stack) ≡ behind = ap (λ l. expansion bodies on l ++ behind) e ∙ ap (λ l. l ++ behind) (expansion_nil bodies on) in
      (record { same_end = r.same_end; same_whole = ap (λ l. out ++ all_at place l) (sym all_is) ∙ r.same_whole; fits = r.fits }, omega arith)

  pub finished : (on : Macros) (out : List Spanned) → Running bodies limit token place on0 out0 on [] out → IsPut bodies limit token place on0 out0 on out
  finished on out r = record { macros = r.same_end; put = sym (append-nil out) ∙ r.same_whole; fits = r.fits }

  pub is_over : (f : Frame) (stack : List Frame) (on : Macros) (out : List Spanned) (t : Token) → left_of bodies f ≡ t ∷ drop (f.at + 1) (get_or bodies f.name [])
      → Running bodies limit token place on0 out0 on (f ∷ stack) out → IsFull bodies limit t on out → limit < length out0 + length (expansion bodies on0 (token ∷ []))
  is_over f stack on out t e r full =
      let g : Frame = record { name = f.name; at = f.at + 1 } in
      let rest = remaining bodies on (g ∷ stack) in
      let is : remaining bodies on (f ∷ stack) ≡ t ∷ rest = taken f stack on t e ∙ ap (λ l. l ++ rest) full.stays in
      let one : length (out ++ all_at place (remaining bodies on (f ∷ stack))) ≡ length out + (1 + length rest)
      = length-append out (all_at place (remaining bodies on (f ∷ stack))) ∙ ap (λ n. length out + n) (length-map (remaining bodies on (f ∷ stack)) _ ∙ ap length is ∙ omega arith) in
      let two : length (out0 ++ all_at place (expansion bodies on0 (token ∷ []))) ≡ length out0 + length (expansion bodies on0 (token ∷ []))
      = length-append out0 (all_at place (expansion bodies on0 (token ∷ []))) ∙ ap (λ n. length out0 + n) (length-map (expansion bodies on0 (token ∷ [])) _) in
      let same = ap length r.same_whole in
      let room = full.no_room in omega arith

pub full_of : (bodies : Bodies) (limit : ℕ) (t : Token) (place : Place) (v : Bool) (on : Macros) (stack : List Frame) (out : List Spanned) (on' : Macros) (stack' : List Frame) (out' : List Spanned)
    → v ≡ false → Steps bodies limit t place v on stack out on' stack' out' → IsFull bodies limit t on out
full_of bodies limit t place true on stack out on' stack' out' e s = cc
full_of bodies limit t place false on stack out on' stack' out' e s = s

pub moves_of : (bodies : Bodies) (limit : ℕ) (t : Token) (place : Place) (v : Bool) (on : Macros) (stack : List Frame) (out : List Spanned) (on' : Macros) (stack' : List Frame) (out' : List Spanned)
    → v ≡ true → Steps bodies limit t place v on stack out on' stack' out' → Moves bodies limit t place on stack out on' stack' out'
moves_of bodies limit t place true on stack out on' stack' out' e s = s
moves_of bodies limit t place false on stack out on' stack' out' e s = cc

pub popped : (old new : List Frame) (f : Frame) → old ≡ new ++ (f ∷ []) → reverse old ≡ f ∷ reverse new
popped old new f e = ap reverse e ∙ reverse-append new (f ∷ [])

pub pushed : (old new : List Frame) (f : Frame) → new ≡ old ++ (f ∷ []) → reverse new ≡ f ∷ reverse old
pushed old new f e = ap reverse e ∙ reverse-append old (f ∷ [])

-- the first token has no room
pub full_first : (bodies : Bodies) (limit : ℕ) (t : Token) (on : Macros) (out : List Spanned) → IsFull bodies limit t on out → limit < length out + length (expansion bodies on (t ∷ []))
full_first bodies limit t on out full = let r = full.no_room in omega (arith, ap length full.stays)

-- ---- the same with the innermost last

module _ (bodies : Bodies) (limit : ℕ) (token : Token) (place : Place) (on0 : Macros) (out0 : List Spanned) (on : Macros) (out : List Spanned) (items popped_items : List Frame) (f : Frame)
    (was : items ≡ popped_items ++ f ∷ []) (r : Running bodies limit token place on0 out0 on (reverse items) out) where
  pub at_top : Running bodies limit token place on0 out0 on (f ∷ reverse popped_items) out
  at_top = subst (λ s. Running bodies limit token place on0 out0 on s out) (popped items popped_items f was) r

  pub left_top : (on' : Macros) → left_of bodies f ≡ [] → on' ≡ set on f.name true
      → Running bodies limit token place on0 out0 on' (reverse popped_items) out × (load bodies on' (reverse popped_items) < load bodies on (reverse items))
  left_top on' e oe = rw (oe, popped items popped_items f was) (leaves bodies limit token place on0 out0 f (reverse popped_items) on out e at_top)

  module _ (t : Token) (pushed_items items' : List Frame) (v : Bool) (on' : Macros) (out' : List Spanned) (e : left_of bodies f ≡ t ∷ drop (f.at + 1) (get_or bodies f.name []))
      (back : pushed_items ≡ popped_items ++ record { name = f.name; at = f.at + 1 } ∷ []) (s : Steps bodies limit t place v on (reverse pushed_items) out on' (reverse items') out') where
    pub on_top : v ≡ true → Running bodies limit token place on0 out0 on' (reverse items') out' × (load bodies on' (reverse items') < load bodies on (reverse items))
    on_top ve =
        let g : Frame = record { name = f.name; at = f.at + 1 } in
        let m = subst (λ l. Moves bodies limit t place on l out on' (reverse items') out') (pushed popped_items pushed_items g back) (moves_of bodies limit t place v on (reverse pushed_items) out on' (reverse items') out' ve s) in
        rw (popped items popped_items f was) (goes_on bodies limit token place on0 out0 f (reverse popped_items) on out t on' (reverse items') out' e at_top m)

    pub over_top : v ≡ false → limit < length out0 + length (expansion bodies on0 (token ∷ []))
    over_top ve = is_over bodies limit token place on0 out0 f (reverse popped_items) on out t e at_top (full_of bodies limit t place v on (reverse pushed_items) out on' (reverse items') out' ve s)
