-- From files to the answer of the front half.
use Rattle.std.proofs.Common.{◌≡◌, ◌≤◌, ◌<◌, ℕ, List, [], ◌∷◌, length, get_or, arith, Some, None, Result, Ok, Err, refl, sym, ap, ◌∙◌, subst, inl, inr, lit≤}
use Rattle.jf_base.specs.Tags.{IsTag}
use Rattle.jf_base.specs.declared.place.Place.{Place}
use Rattle.jf_base.specs.declared.tag.Tag.{Tag}
use Rattle.source_tokens.specs.declared.source.SourceFile.{SourceFile}
use Rattle.source_tokens.specs.declared.source.SourceFault.{SourceFault}
use Rattle.source_tokens.specs.declared.source.SourceFault.TheVariants as source
use Rattle.source_tokens.specs.Outside.{LibraryAt, IsUntroubled}
use Rattle.source_tokens.specs.Sources.{Source, AreSources}
use Rattle.source_tokens.specs.Reading.{Told, AreRead}
use Rattle.first_form.specs.declared.program.FirstProgram.{FirstProgram}
use Rattle.fcc_core.specs.Sources.{misplaced, Misplaced, InFortran, InC, IsNotBuilt}
use Rattle.fcc_core.specs.Front.{IsFronted, IsReadAs, IsRefused, IsFirstLine, front_fault}
use Rattle.fcc_core.specs.declared.front.FrontFault.{FrontFault}
use Rattle.fcc_core.specs.declared.front.FrontFault.TheVariants as fault

-- the tag of what isn't built
built_tag : {n : ℕ} → n ≡ 1001 → IsTag n
built_tag is = subst IsTag (sym is) (record { first_group = lit≤ tt; last_group = lit≤ tt; first_rule = lit≤ tt; last_rule = lit≤ tt })

module _ (names : List (List ℕ)) (before after : LibraryAt) where
  -- a fault of reading the files
  pub not_read : (f : SourceFault) → AreRead names (Err f) before after → IsFronted names (Err (front_fault f)) before after
  not_read source.Memory read = tt
  not_read (source.Library name) read = record { failed = read.0; due = read.1 }
  not_read (source.Source place tag) read = record { untroubled = read.0; is_tag = read.1; why = λ files told. inl (read.2 files told) }

  module _ (calm : IsUntroubled before after) where
    refused : (place : Place) (tag : Tag) (number : ℕ) → IsFirstLine place.file place.line tag.0 number → Told before (λ files. IsNotBuilt files names number) → IsRefused names place tag before after
    refused place tag number at built = record {
      untroubled = calm;
      is_tag = built_tag at.tag_is;
      why = λ files told. inr (record {
        line_is = at.line_is;
        tag_is = at.tag_is;
        not_built = (let P : ℕ → Type 0 = λ n. IsNotBuilt files names n in subst P (sym at.file_is) (built files told));
      });
    }

    pub misplaced_refused : (file : ℕ) (sources : List Source) → misplaced names ≡ Some file → Told before (λ files. AreSources files 0 0 names sources)
        → IsRefused names (record { file = file; line = 1; column = 1 }) (record { 0 = 1001 }) before after
    misplaced_refused file sources at given =
        refused _ _ file (record { file_is = refl; line_is = refl; tag_is = refl }) (λ files told. Misplaced file sources at (given files told))

    module _ (fortran c : Source) (placed : misplaced names ≡ None) (given : Told before (λ files. AreSources files 0 0 names (fortran ∷ c ∷ []))) where
      pub fronted : (r : Result FirstProgram FrontFault) → IsReadAs fortran.text c.text r → IsFronted names r before after
      fronted (Ok program) read = (calm, read.1, λ files told. record { fortran = fortran; c = c; placed = placed; sources = given files told; are_texts = read.0 })
      fronted (Err fault.Memory) read = tt
      fronted (Err (fault.Library name)) read = absurd read
      fronted (Err (fault.Source place tag)) (inl read) = refused place tag 0 read.0 (λ files told. InFortran fortran c placed (given files told) read.1)
      fronted (Err (fault.Source place tag)) (inr read) = refused place tag 1 read.0 (λ files told. InC fortran c placed (given files told) read.1)

-- a list of two is made of its items
pub two_items : (l : List SourceFile) (x y : SourceFile) → 2 ≤ length l → length l < 3 → x ≡ get_or l 0 x → y ≡ get_or l 1 y → l ≡ x ∷ y ∷ []
two_items [] x y low high a b = absurd (omega arith)
two_items (p ∷ []) x y low high a b = absurd (omega arith)
two_items (p ∷ q ∷ []) x y low high a b = ap (λ u. u ∷ q ∷ []) (sym a) ∙ ap (λ v. x ∷ v ∷ []) (sym b)
two_items (p ∷ q ∷ r ∷ l) x y low high a b = absurd (omega arith)
