-- The lines of a procedure: each is proper, and each label that they name is there.
use Rattle.std.proofs.Common.{◌≡◌, ℕ, zero, suc, ◌+◌, ◌<◌, ◌≤◌, Bool, true, false, List, [], ◌∷◌, length, Some, refl, ap, sym, subst, arith}
use Rattle.std.specs.Prelude.{slice_get, nat_eq}
use Rattle.std.proofs.lemmas.Bool.Decides.{nat_tests}
use Rattle.rv_assemble.specs.declared.unit.AsmLine.{AsmLine}
use Rattle.rv_assemble.specs.declared.unit.AsmLine.TheVariants.{Label, Plain, Branch, Call, Address}
use Rattle.rv_assemble.specs.Lines.{HasLabel, IsProperLine, AreProperLines}
use Rattle.flatten.specs.declared.blocks.Block.{Block}
use Rattle.flatten.specs.declared.blocks.BlockProc.{BlockProc}
use Rattle.flatten.specs.Named.{Counts, BlocksNamed, ProcNamed}
use Rattle.emitted_code.specs.Frames.{Layout, is_charged}
use Rattle.emitted_code.specs.Names.{proc_name, image_name, image_place}
use Rattle.emitted_code.specs.Code.{blocks_code, rest_code, past_code, proc_lines}
use Rattle.emitted_units.specs.Sizes.{BlocksHeld, ProcHeld}
use Rattle.emitted_units.proofs.Encodable.{Holds}
use Rattle.emitted_units.proofs.Walk.{Allowed, IsAllowed, walk_limit, walk_rest, walk_blocks, walk_begin}

abbrev pub AllAllowed : Allowed → List AsmLine → Type 0
AllAllowed a [] = Unit {0}
AllAllowed a (x ∷ xs) = IsAllowed a x × AllAllowed a xs

pub allowed_at : (a : Allowed) (xs : List AsmLine) (k : ℕ) (x : AsmLine) → AllAllowed a xs → slice_get xs k ≡ Some x → IsAllowed a x
allowed_at a [] k x h e = absurd (cc)
allowed_at a (y ∷ xs) zero x h e = let same : y ≡ x = cc in subst (λ z. IsAllowed a z) same h.0
allowed_at a (y ∷ xs) (suc k) x h e = allowed_at a xs k x h.1 e

-- lines that may name the labels that are on them are proper
pub allowed_proper : (xs : List AsmLine) (called : List ℕ → Type 0) (address : List ℕ → ℕ → Type 0)
    → AllAllowed (record { label = HasLabel xs; called = called; address = address }) xs → AreProperLines xs
allowed_proper xs called address h = λ k line is. go line (allowed_at (record { label = HasLabel xs; called = called; address = address }) xs k line h is)
  where
    go : (line : AsmLine) → IsAllowed (record { label = HasLabel xs; called = called; address = address }) line → IsProperLine xs line
    go (Label n) h = tt
    go (Plain i) h = h
    go (Branch i to) h = h
    go (Call name) h = tt
    go (Address rd name offset) h = h.0

has_behind : (to : ℕ) (x : AsmLine) (k : List AsmLine) → HasLabel k to → HasLabel (x ∷ k) to
has_behind to x k h = (suc h.0, h.1)

abbrev anything : Allowed
anything = record { label = λ b. Unit {0}; called = λ n. Unit {0}; address = λ n o. Unit {0} }

module _ (f : BlockProc) (l : Layout) (procs bytes : ℕ) (named : ProcNamed procs bytes f) (held : ProcHeld f) (holds : Holds l f.params) where
  abbrev counts : Counts
  counts = record { values = f.values; blocks = length f.blocks; procs = procs; bytes = bytes }

  label_behind : (to b : ℕ) (xs : List Block) (k : List AsmLine) → BlocksNamed counts xs → BlocksHeld xs → b ≤ to → to < b + length xs → HasLabel (blocks_code l b xs k) to
  label_behind to b [] k n h le lt = absurd (omega arith)
  label_behind to b (x ∷ xs) k n h le lt = go (nat_eq b to) refl (λ ne. label_behind to (b + 1) xs k n.1 h.2 ne (omega arith))
    where
      go : (t : Bool) → nat_eq b to ≡ t → (b + 1 ≤ to → HasLabel (blocks_code l (b + 1) xs k) to) → HasLabel (Label b ∷ rest_code l x.insns x.end (blocks_code l (b + 1) xs k)) to
      go true e next = let same : b ≡ to = grind (arith, nat_tests) in (0, ap (λ n. Some (Label n)) same)
      go false e next =
          let less : b + 1 ≤ to = grind (arith, nat_tests) in
          has_behind to (Label b) _
          (walk_rest anything (λ k. HasLabel k to) (λ x k ok q. has_behind to x k q) l f.params holds counts (λ b lt. tt) (λ p lt. tt) (λ p lt. tt) (λ n le. tt) x.insns x.end (blocks_code l (b + 1) xs k) n.0.0 n.0.1 h.0 h.1 (next less))

  abbrev past : List AsmLine
  past = past_code (is_charged f) (length f.blocks)

  -- a label that is among the blocks is on a line
  label_in : (to : ℕ) → HasLabel (blocks_code l 0 f.blocks past) to → HasLabel (proc_lines l f) to
  label_in to h =
      walk_begin anything (λ k. HasLabel k to) (λ x k ok q. has_behind to x k q) l f.params holds counts (λ b lt. tt) (λ p lt. tt) (λ p lt. tt) (λ n le. tt) f
      (blocks_code l 0 f.blocks past) (omega arith) (λ c. tt) h

  block_label : (to : ℕ) → to < length f.blocks → HasLabel (proc_lines l f) to
  block_label to lt = label_in to (label_behind to 0 f.blocks past named.blocks held.blocks (omega arith) (omega arith))

  limit_label : is_charged f ≡ true → HasLabel (proc_lines l f) (length f.blocks)
  limit_label e =
      let to = length f.blocks in
      let there : HasLabel past to = subst (λ t. HasLabel (past_code t to) to) (sym e) (0, refl) in
      label_in to
      (walk_blocks anything (λ k. HasLabel k to) (λ x k ok q. has_behind to x k q) l f.params holds counts (λ b lt. tt) (λ p lt. tt) (λ p lt. tt) (λ n le. tt) 0 f.blocks past named.blocks held.blocks there)

  module _ (called : List ℕ → Type 0) (address : List ℕ → ℕ → Type 0)
      (calls : (p : ℕ) → p < procs → called (proc_name p))
      (addresses : (p : ℕ) → p < procs → address (proc_name p) 0)
      (places : (n : ℕ) → n ≤ bytes → address image_name (image_place n)) where
    abbrev allowed : Allowed
    allowed = record { label = HasLabel (proc_lines l f); called = called; address = address }

    behind : (t : Bool) → AllAllowed allowed (past_code t (length f.blocks))
    behind true = (tt, walk_limit allowed (AllAllowed allowed) (λ x k ok q. (ok, q)) 0 [] (omega arith) tt)
    behind false = tt

    pub proc_allowed : AllAllowed (record { label = HasLabel (proc_lines l f); called = called; address = address }) (proc_lines l f)
    proc_allowed =
        walk_begin allowed (AllAllowed allowed) (λ x k ok q. (ok, q)) l f.params holds counts block_label calls addresses places f (blocks_code l 0 f.blocks past) (omega arith) limit_label
        (walk_blocks allowed (AllAllowed allowed) (λ x k ok q. (ok, q)) l f.params holds counts block_label calls addresses places 0 f.blocks past named.blocks held.blocks (behind (is_charged f)))
