-- What linking tells.
use Rattle.std.proofs.Common.{◌≡◌, ℕ, inl, inr, List, [], length, subst}
use Rattle.std.specs.Prelude.{slice_get, Some, None}
use Rattle.std.proofs.lemmas.Option.{slice_get_within}
use Rattle.rv_assemble.specs.declared.object.ObjUnit.{ObjUnit}
use Rattle.linker.specs.declared.fault.LinkFault.{LinkFault}
use Rattle.linker.specs.declared.fault.LinkFault.TheVariants.{Memory, Missing, Twice}
use Rattle.linker.specs.Layout.{code_size}
use Rattle.linker.specs.Names.{Entry, entries_from, all_asked, entry_name, Holds}
use Rattle.linker.specs.Table.{IsTable, AreMissed}
use Rattle.linker.specs.Told.{Tells, IsFault}
use Rattle.linker.specs.Linked.{IsFaulty, IsLinked, NameLies}
use Rattle.linker.specs.Resolving.{IsDone}
use Rattle.linker.proofs.Found.{missing-sound, missing-full}

holds_nothing : (names : List (List ℕ)) (name : List ℕ) → names ≡ [] → Holds names name → ⊥
holds_nothing names name none h = let g : slice_get [] h.0 ≡ Some name = subst (λ (ns : List (List ℕ)). slice_get ns h.0 ≡ Some name) none h.1 in cc

module _ (units : List ObjUnit) (table : List Entry) (twice missing : List (List ℕ)) (t : IsTable (entries_from 0 units) table twice) (m : AreMissed (all_asked units) table missing) where
  pub told : (fault : LinkFault) → Tells missing twice (Some fault) → IsFault units fault
  told Memory h = absurd h
  told (Missing name) h =
      let is = missing-sound units table twice missing t m name h.0.0 in (
        is,
        (
          inl is,
          λ other f. elim f [
            | inl a ↦ h.0.1 other (missing-full units table twice missing t m other a)
            | inr a ↦ h.1 other (t.full other a)
          ],
        ),
      )
  told (Twice name) h =
      let is = t.sound name h.0.0 in (
        is,
        (
          inr is,
          λ other f. elim f [
            | inl a ↦ h.1 other (missing-full units table twice missing t m other a)
            | inr a ↦ h.0.1 other (t.full other a)
          ],
        ),
      )

  pub none-told : Tells missing twice None → (name : List ℕ) → IsFaulty units name → ⊥
  none-told h name (inl a) = holds_nothing missing name h.0 (missing-full units table twice missing t m name a)
  none-told h name (inr a) = holds_nothing twice name h.1 (t.full name a)

pub linked : (units : List ObjUnit) (bytes : List ℕ) (code_len entry : ℕ) → IsDone units bytes (length units) 0 → code_len ≡ code_size units → NameLies units entry_name 0 entry
    → IsLinked units (record { bytes = bytes; code_len = code_len; entry = entry })
linked units bytes code_len entry d code lies = record {
  count = d.len;
  code_len = code;
  entry = lies;
  resolved = λ k j u r g h. d.resolved k j u r g h (inl (slice_get_within units k u g));
  others = λ i lt far. d.others i (λ k j u r g h b. far k j u r g h);
}
