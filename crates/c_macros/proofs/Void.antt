-- Names that are void expand to nothing wherever they are macros.
use Rattle.std.proofs.Common.{◌≡◌, ◌≢◌, ℕ, Bool, true, false, cond, eqb, List, [], ◌∷◌, ◌++◌, get_or, Some, refl, sym, ap, ◌∙◌, get_or-set_other}
use Rattle.std.proofs.Math.ListN.{set}
use Rattle.std.proofs.lemmas.Bool.{eqb-true, eq-eqb}
use Rattle.c_macros.specs.declared.token.Token.{Token}
use Rattle.c_macros.specs.declared.token.Token.TheVariants.{Name, Other}
use Rattle.c_macros.specs.Expansion.{Bodies, Macros, body_of, expansion}
use Rattle.c_macros.specs.Void.{member, AllIn, AreVoid, AreOn}
use Rattle.c_macros.proofs.Functional.{expansion_nil, expansion_swap, expansion_append}

pub not_head : (m n : ℕ) (ns : List ℕ) → member m (n ∷ ns) ≡ false → (n ≢ m) × (member m ns ≡ false)
not_head m n ns e = pick (eqb m n) refl e
  where
    pick : (v : Bool) → eqb m n ≡ v → cond v true (member m ns) ≡ false → (n ≢ m) × (member m ns ≡ false)
    pick true is e = cc
    pick false is e = (λ same. let t : eqb m n ≡ true = eq-eqb m n (sym same) in cc, e)

pub on_without : (on : Macros) (m : ℕ) (ns : List ℕ) → member m ns ≡ false → AreOn on ns → AreOn (set on m false) ns
on_without on m [] e a = tt
on_without on m (n ∷ ns) e a = let h = not_head m n ns e in (get_or-set_other on m n false false h.0 ∙ a.0, on_without on m ns h.1 a.1)

pub is_on : (on : Macros) (m : ℕ) (ns : List ℕ) → member m ns ≡ true → AreOn on ns → get_or on m false ≡ true
is_on on m [] e a = cc
is_on on m (n ∷ ns) e a = pick (λ e. is_on on m ns e a.1) (eqb m n) refl e
  where
    pick : (member m ns ≡ true → get_or on m false ≡ true) → (v : Bool) → eqb m n ≡ v → cond v true (member m ns) ≡ true → get_or on m false ≡ true
    pick ih true is e = ap (λ k. get_or on k false) (eqb-true m n is) ∙ a.0
    pick ih false is e = ih e

macro_is : (bodies : Bodies) (on : Macros) (n : ℕ) → get_or on n false ≡ true → body_of bodies on (Name n) ≡ Some (get_or bodies n [])
unfolding body_of
macro_is bodies on n e = rw e refl

abbrev Gone : Bodies → List ℕ → Type 0
Gone bodies names = (on : Macros) → AreOn on names → (ts : List Token) → AllIn ts names → expansion bodies on ts ≡ []

each_gone : (bodies : Bodies) (names : List ℕ) → ((on : Macros) → AreOn on names → (m : ℕ) → member m names ≡ true → expansion bodies on (Name m ∷ []) ≡ []) → Gone bodies names
each_gone bodies names one on a [] all = expansion_nil bodies on
each_gone bodies names one on a (Name m ∷ ts) all =
    expansion_append bodies on (Name m ∷ []) ts ∙ ap (λ l. l ++ expansion bodies on ts) (one on a m all.0) ∙ each_gone bodies names one on a ts all.1
each_gone bodies names one on a (Other c ∷ ts) all = absurd all

pub void_gone : (bodies : Bodies) (names : List ℕ) → AreVoid bodies names → Gone bodies names
void_gone bodies [] v = each_gone bodies [] (λ on a m e. cc)
void_gone bodies (n ∷ names) v = each_gone bodies (n ∷ names) (one (void_gone bodies names v.1))
  where
    one : Gone bodies names → (on : Macros) → AreOn on (n ∷ names) → (m : ℕ) → member m (n ∷ names) ≡ true → expansion bodies on (Name m ∷ []) ≡ []
    one ih on a m e = pick (member m names) refl
      where
        whole : (same : m ≡ n) → member m names ≡ false → expansion bodies on (Name m ∷ []) ≡ []
        whole same out =
            let up = is_on on m (n ∷ names) e a in
            let inner = ih (set on m false) (on_without on m names out a.1) (get_or bodies m []) (rw same v.0) in
            expansion_swap bodies on (Name m) [] (get_or bodies m []) (macro_is bodies on m up) ∙ ap (λ l. l ++ expansion bodies on []) inner ∙ expansion_nil bodies on

        head : (v : Bool) → eqb m n ≡ v → member m names ≡ false → cond v true (member m names) ≡ true → m ≡ n
        head true is out e = eqb-true m n is
        head false is out e = cc

        pick : (w : Bool) → member m names ≡ w → expansion bodies on (Name m ∷ []) ≡ []
        pick true is = ih on a.1 (Name m ∷ []) (is, tt)
        pick false is = whole (head (eqb m n) refl is e) is
