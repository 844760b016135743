-- Replacing where macros that give nothing are remembered.
use Rattle.std.proofs.Common.{◌≡◌, ℕ, zero, suc, ◌+◌, ◌<◌, ◌≤◌, Bool, true, false, cond, eqb, List, [], ◌∷◌, ◌++◌, length, take, drop, get_or, Option, Some, None, refl, sym, ap, ◌∙◌, subst, arith, reverse, get_or-set_other, get_or-set_same, length-append}
use Rattle.std.proofs.lemmas.List.{append-nil, reverse-append}
use Rattle.std.proofs.Math.ListN.{set, length-set}
use Rattle.std.proofs.lemmas.Bool.{eqb-true, eq-eqb}
use Rattle.c_macros.specs.declared.token.Token.{Token}
use Rattle.c_macros.specs.declared.token.Token.TheVariants.{Name, Other}
use Rattle.jf_base.specs.declared.place.Place.{Place}
use Rattle.c_macros.specs.declared.token.Spanned.{Spanned}
use Rattle.c_macros.specs.declared.expander.Frame.{Frame}
use Rattle.c_macros.specs.declared.quick.Level.{Level}
use Rattle.c_macros.specs.declared.quick.Kind.TheVariants.{Void, Open, Plain}
use Rattle.c_macros.specs.Expansion.{Bodies, Macros, body_of, expansion, swaps_of, cost, all_at}
use Rattle.c_macros.specs.Stack.{left_of, load, Moves, Running, IsPut}
use Rattle.c_macros.specs.Void.{member, AllIn, AreOn}
use Rattle.c_macros.specs.Remembering.{kind_at, wet, next, opened, Takes, Dry, InRange, Holds, Live, frame_of, frames}
use Rattle.c_macros.proofs.Flags.{within_flags}
use Rattle.c_macros.proofs.Void.{on_without, void_gone}
use Rattle.c_macros.proofs.Steps.{opens, put_out, too_much, goes_on, leaves, is_over, cost_stay, cost_swap, full_first, begun}
use Rattle.c_macros.proofs.Functional.{expansion_stay, expansion_nil}

-- ---- lists

take_next : (body : List Token) (i : ℕ) (t : Token) (ts : List Token) → drop i body ≡ t ∷ ts → take (suc i) body ≡ take i body ++ t ∷ []
take_next [] zero t ts e = cc
take_next [] (suc i) t ts e = cc
take_next (x ∷ xs) zero t ts e = let same : x ≡ t = cc in ap (λ v. v ∷ []) same
take_next (x ∷ xs) (suc i) t ts e = ap (λ l. x ∷ l) (take_next xs i t ts e)

take_whole : (body : List Token) (i : ℕ) → drop i body ≡ [] → take i body ≡ body
take_whole [] zero e = refl
take_whole [] (suc i) e = refl
take_whole (x ∷ xs) zero e = cc
take_whole (x ∷ xs) (suc i) e = ap (λ l. x ∷ l) (take_whole xs i e)

abbrev Within : List ℕ → List ℕ → Type 0
Within vs ws = (m : ℕ) → member m vs ≡ true → member m ws ≡ true

all_more : (ts : List Token) (vs ws : List ℕ) → Within vs ws → AllIn ts vs → AllIn ts ws
all_more [] vs ws w a = tt
all_more (Name m ∷ ts) vs ws w a = (w m a.0, all_more ts vs ws w a.1)
all_more (Other c ∷ ts) vs ws w a = absurd a

all_snoc : (ts : List Token) (t : Token) (vs : List ℕ) → AllIn ts vs → AllIn (t ∷ []) vs → AllIn (ts ++ t ∷ []) vs
all_snoc [] t vs a b = b
all_snoc (Name m ∷ ts) t vs a b = (a.0, all_snoc ts t vs a.1 b)
all_snoc (Other c ∷ ts) t vs a b = absurd a

within_cons : (n : ℕ) (vs ws : List ℕ) → Within vs ws → Within (n ∷ vs) (n ∷ ws)
within_cons n vs ws w m = pick (eqb m n)
  where
    pick : (v : Bool) → cond v true (member m vs) ≡ true → cond v true (member m ws) ≡ true
    pick true e = refl
    pick false e = w m e

within_more : (n : ℕ) (vs : List ℕ) → Within vs (n ∷ vs)
within_more n vs m e = pick (eqb m n)
  where
    pick : (v : Bool) → cond v true (member m vs) ≡ true
    pick true = refl
    pick false = e

member_head : (n : ℕ) (vs : List ℕ) → member n (n ∷ vs) ≡ true
member_head n vs = rw (eq-eqb n n refl) refl

dry_more : (bodies : Bodies) (ls : List Level) (vs ws : List ℕ) → Within vs ws → Dry bodies vs ls → Dry bodies ws ls
dry_more bodies [] vs ws w d = tt
dry_more bodies (l ∷ ls) vs ws w d = λ e. (all_more (take l.at (get_or bodies l.name [])) vs ws w (d e).0, dry_more bodies ls (l.name ∷ vs) (l.name ∷ ws) (within_cons l.name vs ws w) (d e).1)

up_stays : (on : Macros) (n k : ℕ) → get_or on k false ≡ true → get_or (set on n true) k false ≡ true
up_stays [] n k e = e
up_stays (b ∷ bs) zero zero e = refl
up_stays (b ∷ bs) zero (suc k) e = e
up_stays (b ∷ bs) (suc n) zero e = e
up_stays (b ∷ bs) (suc n) (suc k) e = up_stays bs n k e

on_with : (on : Macros) (n : ℕ) (ns : List ℕ) → AreOn on ns → AreOn (set on n true) ns
on_with on n [] a = tt
on_with on n (m ∷ ns) a = (up_stays on n m a.0, on_with on n ns a.1)

flag_with : (void : List Bool) (n m : ℕ) (names : List ℕ) → n < length void → get_or void m false ≡ member m names → get_or (set void n true) m false ≡ member m (n ∷ names)
flag_with void n m names lt e = pick (eqb m n) refl
  where
    pick : (v : Bool) → eqb m n ≡ v → get_or (set void n true) m false ≡ cond v true (member m names)
    pick true is = ap (λ k. get_or (set void n true) k false) (eqb-true m n is) ∙ get_or-set_same void n true false lt
    pick false is = get_or-set_other void n m true false (λ same. let t : eqb m n ≡ true = eq-eqb m n same in cc) ∙ e

range_size : (a b : ℕ) (ls : List Level) → a ≡ b → InRange a ls → InRange b ls
range_size a b ls e r = subst (λ n. InRange n ls) e r

-- ---- what is known of the macros

module _ (bodies : Bodies) (on : Macros) (void : List Bool) (l : Level) (ls : List Level) (h : Holds bodies on void (l ∷ ls)) where
  took : (t : Token) → left_of bodies (frame_of l) ≡ t ∷ drop (l.at + 1) (get_or bodies l.name []) → take (l.at + 1) (get_or bodies l.name []) ≡ take l.at (get_or bodies l.name []) ++ t ∷ []
  took t e = let n : l.at + 1 ≡ suc l.at = omega arith in ap (λ k. take k (get_or bodies l.name [])) n ∙ take_next (get_or bodies l.name []) l.at t _ e

  pub holds_void : (m : ℕ) → left_of bodies (frame_of l) ≡ Name m ∷ drop (l.at + 1) (get_or bodies l.name []) → get_or void m false ≡ true → Holds bodies on void (next l l.dry ∷ ls)
  holds_void m e v = record {
    names = h.names;
    are_void = h.are_void;
    are_on = h.are_on;
    flags = h.flags;
    size = h.size;
    range = h.range;
    dry = λ d. let x = h.dry d in (subst (λ ts. AllIn ts h.names) (sym (took (Name m) e)) (all_snoc (take l.at (get_or bodies l.name [])) (Name m) h.names x.0 (sym (h.flags m) ∙ v, tt)), x.1);
  }

  pub holds_plain : Holds bodies on void (next l false ∷ ls)
  holds_plain = record { names = h.names; are_void = h.are_void; are_on = h.are_on; flags = h.flags; size = h.size; range = h.range; dry = λ d. cc }

  pub holds_open : (n : ℕ) → left_of bodies (frame_of l) ≡ Name n ∷ drop (l.at + 1) (get_or bodies l.name []) → get_or on n false ≡ true → get_or void n false ≡ false → Holds bodies (set on n false) void (opened n ∷ next l l.dry ∷ ls)
  holds_open n e up v =
      let size = length-set on n false in
      let lt = within_flags on n up in
      record {
        names = h.names;
        are_void = h.are_void;
        are_on = on_without on n h.names (sym (h.flags n) ∙ v) h.are_on;
        flags = h.flags;
        size = (let s = h.size in omega arith);
        range = range_size (length on) (length (set on n false)) (opened n ∷ next l l.dry ∷ ls) (sym size) (lt, h.range);
        dry = λ d. (
          tt,
          λ d. let x = h.dry d in (
            subst (λ ts. AllIn ts (n ∷ h.names)) (sym (took (Name n) e)) (all_snoc (take l.at (get_or bodies l.name [])) (Name n) (n ∷ h.names) (all_more (take l.at (get_or bodies l.name [])) h.names (n ∷ h.names) (within_more n h.names) x.0) (member_head n h.names, tt)),
            dry_more bodies ls (l.name ∷ h.names) (l.name ∷ n ∷ h.names) (within_cons l.name h.names (n ∷ h.names) (within_more n h.names)) x.1,
          ),
        );
      }

  pub holds_dry : l.dry ≡ true → left_of bodies (frame_of l) ≡ [] → Holds bodies (set on l.name true) (set void l.name true) ls
  holds_dry d e =
      let x = h.dry d in
      let s = h.size in
      let lt = h.range.0 in
      let size = length-set on l.name true in
      let wide = length-set void l.name true in
      record {
        names = l.name ∷ h.names;
        are_void = (subst (λ ts. AllIn ts h.names) (take_whole (get_or bodies l.name []) l.at e) x.0, h.are_void);
        are_on = (get_or-set_same on l.name true false lt, on_with on l.name h.names h.are_on);
        flags = λ m. flag_with void l.name m h.names (omega arith) (h.flags m);
        size = omega arith;
        range = range_size (length on) (length (set on l.name true)) ls (sym size) h.range.1;
        dry = x.1;
      }

  dry_wet : (names : List ℕ) (ls : List Level) → Dry bodies names (wet ls)
  dry_wet names [] = tt
  dry_wet names (g ∷ gs) = λ d. cc

  range_wet : (size : ℕ) (ls : List Level) → InRange size ls → InRange size (wet ls)
  range_wet size [] r = tt
  range_wet size (g ∷ gs) r = r

  pub holds_wet : Holds bodies (set on l.name true) void (wet ls)
  holds_wet =
      let s = h.size in
      let size = length-set on l.name true in
      record {
        names = h.names;
        are_void = h.are_void;
        are_on = on_with on l.name h.names h.are_on;
        flags = h.flags;
        size = omega arith;
        range = range_wet (length (set on l.name true)) ls (range_size (length on) (length (set on l.name true)) ls (sym size) h.range.1);
        dry = dry_wet h.names ls;
      }

-- ---- what is known while a token is replaced

cost_some : (bodies : Bodies) (on : Macros) (t : Token) → 0 < cost (swaps_of bodies on (t ∷ []))
cost_some bodies on t = pick (body_of bodies on t) refl
  where
    pick : (o : Option (List Token)) → body_of bodies on t ≡ o → 0 < cost (swaps_of bodies on (t ∷ []))
    pick None e = omega (arith, cost_stay bodies on t [] e)
    pick (Some body) e = omega (arith, cost_swap bodies on t [] body e)

skips : (bodies : Bodies) (limit : ℕ) (t : Token) (place : Place) (on : Macros) (stack : List Frame) (out : List Spanned) → expansion bodies on (t ∷ []) ≡ [] → Moves bodies limit t place on stack out on stack out
skips bodies limit t place on stack out e = record {
  same_end = refl;
  same_whole = rw e refl;
  less = omega (arith, cost_some bodies on t);
  fits = λ h. h;
}

plain_name : (bodies : Bodies) (on : Macros) (n : ℕ) → get_or on n false ≡ false → body_of bodies on (Name n) ≡ None
unfolding body_of
plain_name bodies on n e = rw e refl

plain_other : (bodies : Bodies) (on : Macros) (c : ℕ) → body_of bodies on (Other c) ≡ None
unfolding body_of
plain_other bodies on c = refl

gone : (bodies : Bodies) (on : Macros) (void : List Bool) (ls : List Level) → Holds bodies on void ls → (n : ℕ) → get_or void n false ≡ true → expansion bodies on (Name n ∷ []) ≡ []
gone bodies on void ls h n e = void_gone bodies h.names h.are_void on h.are_on (Name n ∷ []) (sym (h.flags n) ∙ e, tt)

module _ (bodies : Bodies) (limit : ℕ) (token : Token) (place : Place) (on0 : Macros) (out0 : List Spanned) where
  abbrev Step : Macros → List Bool → List Level → List Spanned → Macros → List Bool → List Level → Type 0
  Step on void ls out on1 void1 ls1 = Live bodies limit token place on0 out0 on void ls out × (load bodies on (frames ls) < load bodies on1 (frames ls1))

  module _ (l : Level) (ls : List Level) (on : Macros) (void : List Bool) (out : List Spanned) (x : Live bodies limit token place on0 out0 on void (l ∷ ls) out) where
    take_plain : (t : Token) (on' : Macros) (ls' : List Level) (out' : List Spanned) → left_of bodies (frame_of l) ≡ t ∷ drop (l.at + 1) (get_or bodies l.name []) → body_of bodies on t ≡ None
        → Takes Plain true limit t place l on ls out on' ls' out' → Step on' void ls' out' on void (l ∷ ls)
    take_plain t on' ls' out' e none k =
        let r = goes_on bodies limit token place on0 out0 (frame_of l) (frames ls) on out t on (frames (next l false ∷ ls)) (out ++ record { token = t; place = place } ∷ []) e x.running
        (put_out bodies limit t place on (frames (next l false ∷ ls)) out none k.3) in
        rw (k.0, k.1, k.2) (record { running = r.0; holds = holds_plain bodies on void l ls x.holds }, r.1)

    take_void : (n : ℕ) (on' : Macros) (ls' : List Level) (out' : List Spanned) → left_of bodies (frame_of l) ≡ Name n ∷ drop (l.at + 1) (get_or bodies l.name []) → get_or void n false ≡ true
        → Takes Void true limit (Name n) place l on ls out on' ls' out' → Step on' void ls' out' on void (l ∷ ls)
    take_void n on' ls' out' e v k =
        let r = goes_on bodies limit token place on0 out0 (frame_of l) (frames ls) on out (Name n) on (frames (next l l.dry ∷ ls)) out e x.running
        (skips bodies limit (Name n) place on (frames (next l l.dry ∷ ls)) out (gone bodies on void (l ∷ ls) x.holds n v)) in
        rw (k.0, k.1, k.2) (record { running = r.0; holds = holds_void bodies on void l ls x.holds n e v }, r.1)

    take_open : (n : ℕ) (on' : Macros) (ls' : List Level) (out' : List Spanned) → left_of bodies (frame_of l) ≡ Name n ∷ drop (l.at + 1) (get_or bodies l.name []) → get_or void n false ≡ false → get_or on n false ≡ true
        → Takes (Open n) true limit (Name n) place l on ls out on' ls' out' → Step on' void ls' out' on void (l ∷ ls)
    take_open n on' ls' out' e v up k =
        let r = goes_on bodies limit token place on0 out0 (frame_of l) (frames ls) on out (Name n) (set on n false) (frames (opened n ∷ next l l.dry ∷ ls)) out e x.running
        (opens bodies limit n place on (frames (next l l.dry ∷ ls)) out up) in
        rw (k.0, k.1, k.2) (record { running = r.0; holds = holds_open bodies on void l ls x.holds n e up v }, r.1)

    pub takes : (t : Token) (b : Bool) (on' : Macros) (ls' : List Level) (out' : List Spanned) → left_of bodies (frame_of l) ≡ t ∷ drop (l.at + 1) (get_or bodies l.name [])
        → Takes (kind_at on void t) b limit t place l on ls out on' ls' out' → b ≡ true → Step on' void ls' out' on void (l ∷ ls)
    takes (Other c) true on' ls' out' e k be = take_plain (Other c) on' ls' out' e (plain_other bodies on c) k
    takes (Other c) false on' ls' out' e k be = cc
    takes (Name n) false on' ls' out' e k be = cc
    takes (Name n) true on' ls' out' e k be = pick (get_or void n false) refl (get_or on n false) refl k
      where
        pick : (v : Bool) → get_or void n false ≡ v → (w : Bool) → get_or on n false ≡ w → Takes (cond v Void (cond w (Open n) Plain)) true limit (Name n) place l on ls out on' ls' out' → Step on' void ls' out' on void (l ∷ ls)
        pick true ve w we k = take_void n on' ls' out' e ve k
        pick false ve true we k = take_open n on' ls' out' e ve we k
        pick false ve false we k = take_plain (Name n) on' ls' out' e (plain_name bodies on n we) k

    pub over : (t : Token) (b : Bool) (on' : Macros) (ls' : List Level) (out' : List Spanned) → left_of bodies (frame_of l) ≡ t ∷ drop (l.at + 1) (get_or bodies l.name [])
        → Takes (kind_at on void t) b limit t place l on ls out on' ls' out' → b ≡ false → limit < length out0 + length (expansion bodies on0 (token ∷ []))
    over (Other c) true on' ls' out' e k be = cc
    over (Other c) false on' ls' out' e k be = is_over bodies limit token place on0 out0 (frame_of l) (frames ls) on out (Other c) e x.running (too_much bodies limit (Other c) on out (plain_other bodies on c) k)
    over (Name n) true on' ls' out' e k be = cc
    over (Name n) false on' ls' out' e k be = pick (get_or void n false) (get_or on n false) refl k
      where
        pick : (v w : Bool) → get_or on n false ≡ w → Takes (cond v Void (cond w (Open n) Plain)) false limit (Name n) place l on ls out on' ls' out' → limit < length out0 + length (expansion bodies on0 (token ∷ []))
        pick true w we k = absurd k
        pick false true we k = absurd k
        pick false false we k = is_over bodies limit token place on0 out0 (frame_of l) (frames ls) on out (Name n) e x.running (too_much bodies limit (Name n) on out (plain_name bodies on n we) k)

    same_frames : (ls : List Level) → frames (wet ls) ≡ frames ls
    same_frames [] = refl
    same_frames (g ∷ gs) = refl

    pub closes : (on' : Macros) (void' : List Bool) (ls' : List Level) → left_of bodies (frame_of l) ≡ [] → on' ≡ set on l.name true → void' ≡ cond l.dry (set void l.name true) void → ls' ≡ cond l.dry ls (wet ls)
        → Step on' void' ls' out on void (l ∷ ls)
    closes on' void' ls' e oe ve le = pick l.dry refl ve le
      where
        r : Running bodies limit token place on0 out0 (set on l.name true) (frames ls) out × (load bodies (set on l.name true) (frames ls) < load bodies on (frames (l ∷ ls)))
        r = leaves bodies limit token place on0 out0 (frame_of l) (frames ls) on out e x.running

        pick : (d : Bool) → l.dry ≡ d → void' ≡ cond d (set void l.name true) void → ls' ≡ cond d ls (wet ls) → Step on' void' ls' out on void (l ∷ ls)
        pick true de ve le = rw (oe, ve, le) (record { running = r.0; holds = holds_dry bodies on void l ls x.holds de e }, r.1)
        pick false de ve le = rw (oe, ve, le) (record { running = rw (same_frames ls) r.0; holds = holds_wet bodies on void l ls x.holds }, rw (same_frames ls) r.1)

-- ---- the first token

pub is_void : (on void : List Bool) (t : Token) → Void ≡ kind_at on void t → (n : ℕ) × (t ≡ Name n) × (get_or void n false ≡ true)
is_void on void (Other c) e = cc
is_void on void (Name n) e = pick (get_or void n false) refl (get_or on n false) e
  where
    pick : (v : Bool) → get_or void n false ≡ v → (w : Bool) → Void ≡ cond v Void (cond w (Open n) Plain) → (m : ℕ) × (Name n ≡ Name m) × (get_or void m false ≡ true)
    pick true ve w e = (n, refl, ve)
    pick false ve true e = cc
    pick false ve false e = cc

pub is_open : (on void : List Bool) (t : Token) (n : ℕ) → Open n ≡ kind_at on void t → (t ≡ Name n) × (get_or on n false ≡ true) × (get_or void n false ≡ false)
is_open on void (Other c) n e = cc
is_open on void (Name m) n e = pick (get_or void m false) refl (get_or on m false) refl e
  where
    pick : (v : Bool) → get_or void m false ≡ v → (w : Bool) → get_or on m false ≡ w → Open n ≡ cond v Void (cond w (Open m) Plain) → (Name m ≡ Name n) × (get_or on n false ≡ true) × (get_or void n false ≡ false)
    pick true ve w we e = cc
    pick false ve true we e = let same : m ≡ n = cc in (ap Name same, ap (λ k. get_or on k false) (sym same) ∙ we, ap (λ k. get_or void k false) (sym same) ∙ ve)
    pick false ve false we e = cc

pub is_plain : (bodies : Bodies) (on void : List Bool) (t : Token) → Plain ≡ kind_at on void t → body_of bodies on t ≡ None
is_plain bodies on void (Other c) e = plain_other bodies on c
is_plain bodies on void (Name n) e = pick (get_or void n false) (get_or on n false) refl e
  where
    pick : (v w : Bool) → get_or on n false ≡ w → Plain ≡ cond v Void (cond w (Open n) Plain) → body_of bodies on (Name n) ≡ None
    pick true w we e = cc
    pick false true we e = cc
    pick false false we e = plain_name bodies on n we

module _ (bodies : Bodies) (limit : ℕ) (t : Token) (place : Place) (on : Macros) (void : List Bool) (out : List Spanned) (le : length out ≤ limit) (h : Holds bodies on void []) where
  pub first_void : Void ≡ kind_at on void t → IsPut bodies limit t place on out on out
  first_void e =
      let k = is_void on void t e in
      let none : expansion bodies on (t ∷ []) ≡ [] = rw k.1 (gone bodies on void [] h k.0 k.2) in
      record { macros = refl; put = sym (ap (λ l. out ++ all_at place l) none ∙ append-nil out); fits = le }

  pub first_plain : Plain ≡ kind_at on void t → (out' : List Spanned) → out' ≡ out ++ record { token = t; place = place } ∷ [] → length out < limit → IsPut bodies limit t place on out on out'
  first_plain e out' oe lt =
      let none = is_plain bodies on void t e in
      let one : expansion bodies on (t ∷ []) ≡ t ∷ [] = expansion_stay bodies on t [] none ∙ ap (λ l. t ∷ l) (expansion_nil bodies on) in
      let len = ap length oe in
      record { macros = refl; put = oe ∙ sym (ap (λ l. out ++ all_at place l) one); fits = omega (arith, length-append out (record { token = t; place = place } ∷ [])) }

  pub first_full : Plain ≡ kind_at on void t → limit ≤ length out → limit < length out + length (expansion bodies on (t ∷ []))
  first_full e full = full_first bodies limit t on out (too_much bodies limit t on out (is_plain bodies on void t e) full)

  pub first_open : (n : ℕ) (on' : Macros) (ls : List Level) → Open n ≡ kind_at on void t → on' ≡ set on n false → ls ≡ opened n ∷ [] → Live bodies limit t place on out on' void ls out
  first_open n on' ls e oe se =
      let k = is_open on void t n e in
      let size = length-set on n false in
      let s = h.size in
      let m : Moves bodies limit t place on [] out (set on n false) (frames (opened n ∷ [])) out = rw k.0 (opens bodies limit n place on [] out k.1) in
      rw (oe, se) (record {
        running = begun bodies limit t place on out (set on n false) (frames (opened n ∷ [])) out m le;
        holds = record {
          names = h.names;
          are_void = h.are_void;
          are_on = on_without on n h.names (sym (h.flags n) ∙ k.2) h.are_on;
          flags = h.flags;
          size = omega arith;
          range = range_size (length on) (length (set on n false)) (opened n ∷ []) (sym size) (within_flags on n k.1, tt);
          dry = λ d. (tt, tt);
        };
      })

pub level_popped : (old new : List Level) (l : Level) → old ≡ new ++ (l ∷ []) → reverse old ≡ l ∷ reverse new
level_popped old new l e = ap reverse e ∙ reverse-append new (l ∷ [])

module _ (bodies : Bodies) (limit : ℕ) (token : Token) (place : Place) (on0 : Macros) (out0 : List Spanned) (on : Macros) (void : List Bool) (out : List Spanned) (items new : List Level) (l : Level)
    (was : items ≡ new ++ l ∷ []) (x : Live bodies limit token place on0 out0 on void (reverse items) out) where
  top : Live bodies limit token place on0 out0 on void (l ∷ reverse new) out
  top = subst (λ s. Live bodies limit token place on0 out0 on void s out) (level_popped items new l was) x

  pub takes_top : (t : Token) (b : Bool) (on' : Macros) (ls' : List Level) (out' : List Spanned) → left_of bodies (frame_of l) ≡ t ∷ drop (l.at + 1) (get_or bodies l.name [])
      → Takes (kind_at on void t) b limit t place l on (reverse new) out on' ls' out' → b ≡ true
      → Live bodies limit token place on0 out0 on' void ls' out' × (load bodies on' (frames ls') < load bodies on (frames (reverse items)))
  takes_top t b on' ls' out' e k be = let r = takes bodies limit token place on0 out0 l (reverse new) on void out top t b on' ls' out' e k be in (r.0, rw (level_popped items new l was) r.1)

  pub over_top : (t : Token) (b : Bool) (on' : Macros) (ls' : List Level) (out' : List Spanned) → left_of bodies (frame_of l) ≡ t ∷ drop (l.at + 1) (get_or bodies l.name [])
      → Takes (kind_at on void t) b limit t place l on (reverse new) out on' ls' out' → b ≡ false → limit < length out0 + length (expansion bodies on0 (token ∷ []))
  over_top t b on' ls' out' e k be = over bodies limit token place on0 out0 l (reverse new) on void out top t b on' ls' out' e k be

  pub closes_top : (on' : Macros) (void' : List Bool) (ls' : List Level) → left_of bodies (frame_of l) ≡ [] → on' ≡ set on l.name true → void' ≡ cond l.dry (set void l.name true) void → ls' ≡ cond l.dry (reverse new) (wet (reverse new))
      → Live bodies limit token place on0 out0 on' void' ls' out × (load bodies on' (frames ls') < load bodies on (frames (reverse items)))
  closes_top on' void' ls' e oe ve le = let r = closes bodies limit token place on0 out0 l (reverse new) on void out top on' void' ls' e oe ve le in (r.0, rw (level_popped items new l was) r.1)
