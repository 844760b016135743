-- Files behind one another.
use Rattle.std.proofs.Common.{◌≡◌, ℕ, ◌+◌, List, [], ◌∷◌, ◌++◌, length, Err, refl, sym, ap, ◌∙◌, subst, inl, inr, arith}
use Rattle.jf_base.specs.declared.place.Place.{Place}
use Rattle.jf_base.specs.declared.tag.Tag.{Tag}
use Rattle.source_tokens.specs.declared.source.SourceFault.{SourceFault}
use Rattle.source_tokens.specs.declared.source.SourceFault.TheVariants as fault
use Rattle.source_tokens.specs.Outside.{LibraryAt, IsUntroubled}
use Rattle.source_tokens.specs.Sources.{Files, Source, count, IsSource, AreSources, IsBroken, IsDue, Reaches}
use Rattle.source_tokens.specs.Reading.{Told, IsRead, AreRead}
use Rattle.source_tokens.proofs.One.{untroubled_then, failed_then}

-- what is true of the rest, behind the sources that were read, is true of the whole
pub record GoesOn (files : Files) (names rest : List (List ℕ)) (file before : ℕ) (sources : List Source) : Type 0 where
  pub read : (ss : List Source) → AreSources files file before rest ss → AreSources files 0 0 names (sources ++ ss)
  pub broken : (place : Place) (tag : Tag) → Reaches files (IsBroken files place tag) file before rest → Reaches files (IsBroken files place tag) 0 0 names
  pub due : (asked : List ℕ) → Reaches files (IsDue files asked) file before rest → Reaches files (IsDue files asked) 0 0 names

pub goes : (files : Files) (names : List (List ℕ)) → GoesOn files names names 0 0 []
goes files names = record { read = λ ss h. h; broken = λ place tag h. h; due = λ asked h. h }

++-cons : (xs : List Source) (x : Source) (ys : List Source) → (xs ++ x ∷ []) ++ ys ≡ xs ++ x ∷ ys
++-cons [] x ys = refl
++-cons (y ∷ xs) x ys = ap (λ l. y ∷ l) (++-cons xs x ys)

pub goes_on : (files : Files) (names rest others : List (List ℕ)) (name : List ℕ) (file file' before before' : ℕ) (sources sources' : List Source) (s : Source)
    → GoesOn files names rest file before sources → rest ≡ name ∷ others → IsSource files name file before s → file' ≡ file + 1 → before' ≡ before + count s.tokens → sources' ≡ sources ++ s ∷ []
    → GoesOn files names others file' before' sources'
goes_on files names rest others name file file' before before' sources sources' s g is source next total more =
    let G : ℕ → ℕ → List Source → Type 0 = λ f b l. GoesOn files names others f b l in
    let R : List (List ℕ) → Type 0 = λ l. GoesOn files names l file before sources in
    let h : GoesOn files names (name ∷ others) file before sources = subst R is g in
    let L : List Source → Type 0 = λ l. AreSources files 0 0 names l in
    subst (λ f. G f before' sources') (sym next) (subst (λ b. G (file + 1) b sources') (sym total) (subst (λ l. G (file + 1) (before + count s.tokens) l) (sym more) (record {
      read = λ ss here. subst L (sym (++-cons sources s ss)) (h.read (s ∷ ss) (source, here));
      broken = λ place tag here. h.broken place tag (inr (s, source, here));
      due = λ asked here. h.due asked (inr (s, source, here));
    })))

module _ (names : List (List ℕ)) (rest others : List (List ℕ)) (name : List ℕ) (file before : ℕ) (sources : List Source) (a b c : LibraryAt)
    (same : b.listing ≡ a.listing) (calm : IsUntroubled a b) (g : Told a (λ files. GoesOn files names rest file before sources)) (is : rest ≡ name ∷ others) where
  -- a fault at the next file
  pub stops : (f : SourceFault) → IsRead name file before (Err f) b c → AreRead names (Err f) a c
  stops fault.Memory h = tt
  stops (fault.Library asked) (failed, due) = (
    failed_then asked a b c same calm failed,
    λ files told. (let P : List (List ℕ) → Type 0 = λ l. Reaches files (IsDue files asked) file before l in (g files told).due asked (subst P (sym is) (inl (due files (same ∙ told))))),
  )
  stops (fault.Source place tag) (calm', rule, broken) = (
    untroubled_then a b c same calm calm',
    rule,
    λ files told. (let P : List (List ℕ) → Type 0 = λ l. Reaches files (IsBroken files place tag) file before l in (g files told).broken place tag (subst P (sym is) (inl (broken files (same ∙ told))))),
  )

++-nil : (xs : List Source) → xs ++ [] ≡ xs
++-nil [] = refl
++-nil (x ∷ xs) = ap (λ l. x ∷ l) (++-nil xs)

-- no file is left
pub ends : (files : Files) (names rest : List (List ℕ)) (file before : ℕ) (sources : List Source) → GoesOn files names rest file before sources → length rest ≡ 0 → AreSources files 0 0 names sources
ends files names [] file before sources g is =
    let L : List Source → Type 0 = λ l. AreSources files 0 0 names l in
    subst L (++-nil sources) (g.read [] tt)
ends files names (name ∷ rest) file before sources g is = absurd (omega (arith, is))
