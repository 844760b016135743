-- Collecting occurrences, block by block.
use Rattle.std.proofs.Common.{◌≡◌, ℕ, zero, suc, ◌+◌, ◌<◌, ◌≤◌, false, true, List, [], ◌∷◌, ◌++◌, length, take, drop, get_or, refl, sym, ap, ◌∙◌, subst, arith, append_assoc, append-nil}
use Rattle.std.specs.Prelude.{All}
use Rattle.std.proofs.lemmas.List.{drop_more, drop_all}
use Rattle.flatten.specs.declared.blocks.BlockInsn.{BlockInsn}
use Rattle.flatten.specs.declared.blocks.BlockEnd.{BlockEnd}
use Rattle.flatten.specs.declared.blocks.Block.{Block}
use Rattle.flatten.specs.Named.{AllBelow}
use Rattle.flatten.specs.Paths.{uses_of, end_uses, sets, goes_to}
use Rattle.block_homes.specs.Held.{total}
use Rattle.block_homes.specs.Valid.{InsnBelow}
use Rattle.reg_alloc.specs.declared.occurrences.Occurrence.{Occurrence}
use Rattle.reg_alloc.specs.Occurs.{occurrence, row, all_by, insn_by, insns_by, named_by, in_insns_by, in_blocks_by, named, ends_to}
use Rattle.reg_alloc.specs.Rows.{Places}
use Rattle.reg_alloc.proofs.Exact.{total_under, total_more}
use Rattle.reg_alloc.proofs.Occurring.{all_length, row_all_by}

insn_length : (keys : List ℕ) (b k : ℕ) (x : BlockInsn) (rows : List (List Occurrence)) → length (insn_by keys b k x rows) ≡ length rows
insn_length keys b k x rows = all_length keys b k true (sets x) (all_by keys b k false (uses_of x) rows) ∙ all_length keys b k false (uses_of x) rows

module _ (keys : List ℕ) (b h : ℕ) where
  row_insn : (k : ℕ) (x : BlockInsn) (rows : List (List Occurrence)) → InsnBelow (length keys) x → Places (length keys) (length rows) keys → row (insn_by keys b k x rows) h ≡ row rows h ++ named_by keys b k false h (uses_of x) ++ named_by keys b k true h (sets x)
  row_insn k x rows w pl =
      let used = all_by keys b k false (uses_of x) rows in
      row_all_by keys b k true (sets x) h used w.1 (subst (λ n. Places (length keys) n keys) (sym (all_length keys b k false (uses_of x) rows)) pl)
      ∙ ap (λ l. l ++ named_by keys b k true h (sets x)) (row_all_by keys b k false (uses_of x) h rows w.0 pl)

  pub row_insns : (k : ℕ) (xs : List BlockInsn) (e : BlockEnd) (rows : List (List Occurrence)) → All (InsnBelow (length keys)) xs → AllBelow (length keys) (end_uses e) → Places (length keys) (length rows) keys → row (insns_by keys b k xs e rows) h ≡ row rows h ++ in_insns_by keys h b k xs e
  row_insns k [] e rows w l pl = row_all_by keys b k false (end_uses e) h rows l pl
  row_insns k (x ∷ xs) e rows w l pl =
      let n1 = named_by keys b k false h (uses_of x) in
      let n2 = named_by keys b k true h (sets x) in
      let rest = in_insns_by keys h b (k + 1) xs e in
      row_insns (k + 1) xs e (insn_by keys b k x rows) (λ i d lt. w (suc i) d (omega (arith, lt))) l (subst (λ n. Places (length keys) n keys) (sym (insn_length keys b k x rows)) pl)
      ∙ ap (λ r. r ++ rest) (row_insn k x rows (w 0 x (omega arith)) pl)
      ∙ append_assoc (row rows h ++ n1) n2 rest
      ∙ append_assoc (row rows h) n1 (n2 ++ rest)

-- one more block
block_first : (bs : List Block) (b : ℕ) (block : Block) → block ≡ get_or bs b block → b < length bs → drop b bs ≡ block ∷ drop (b + 1) bs
block_first bs b block is lt = drop_more bs b block lt ∙ ap (λ x. x ∷ drop (b + 1) bs) (sym is)

pub collected_more : (keys : List ℕ) (v b k : ℕ) (bs : List Block) (block : Block) (old new all : List Occurrence) → block ≡ get_or bs b block → b < length bs → new ≡ old ++ in_insns_by keys v b k block.insns block.end → old ++ in_blocks_by keys v b k (drop b bs) ≡ all → new ++ in_blocks_by keys v (b + 1) (k + (length block.insns + 1)) (drop (b + 1) bs) ≡ all
collected_more keys v b k bs block old new all is lt e h =
    let one = in_insns_by keys v b k block.insns block.end in
    let rest = in_blocks_by keys v (b + 1) (k + (length block.insns + 1)) (drop (b + 1) bs) in
    ap (λ l. l ++ rest) e ∙ append_assoc old one rest ∙ ap (λ l. old ++ in_blocks_by keys v b k l) (sym (block_first bs b block is lt)) ∙ h

pub ends_more : (t b k : ℕ) (bs : List Block) (block : Block) (old new all : List Occurrence) → block ≡ get_or bs b block → b < length bs → new ≡ old ++ named (occurrence b (k + length block.insns) false t) t (goes_to block.end) → old ++ ends_to t b k (drop b bs) ≡ all → new ++ ends_to t (b + 1) (k + (length block.insns + 1)) (drop (b + 1) bs) ≡ all
ends_more t b k bs block old new all is lt e h =
    let one = named (occurrence b (k + length block.insns) false t) t (goes_to block.end) in
    let rest = ends_to t (b + 1) (k + (length block.insns + 1)) (drop (b + 1) bs) in
    ap (λ l. l ++ rest) e ∙ append_assoc old one rest ∙ ap (λ l. old ++ ends_to t b k l) (sym (block_first bs b block is lt)) ∙ h

pub collected_all : (keys : List ℕ) (v b k : ℕ) (bs : List Block) (old all : List Occurrence) → length bs ≤ b → old ++ in_blocks_by keys v b k (drop b bs) ≡ all → old ≡ all
collected_all keys v b k bs old all le h = sym (append-nil old) ∙ ap (λ l. old ++ in_blocks_by keys v b k l) (sym (drop_all b bs le)) ∙ h

pub ends_all : (t b k : ℕ) (bs : List Block) (old all : List Occurrence) → length bs ≤ b → old ++ ends_to t b k (drop b bs) ≡ all → old ≡ all
ends_all t b k bs old all le h = sym (append-nil old) ∙ ap (λ l. old ++ ends_to t b k l) (sym (drop_all b bs le)) ∙ h

pub pushed_none : (rows : List (List Occurrence)) → ((v : ℕ) → row rows v ≡ []) → (v : ℕ) → row (rows ++ [] ∷ []) v ≡ []
pushed_none [] h zero = refl
pushed_none [] h (suc v) = refl
pushed_none (x ∷ xs) h zero = h 0
pushed_none (x ∷ xs) h (suc v) = pushed_none xs (λ u. h (suc u)) v

-- the block at hand, and where the next one starts
pub next_start : (bs items : List Block) (b start : ℕ) (block : Block) → items ≡ bs → block ≡ get_or items b block → b < length items → start ≡ total (take b bs) → (start + (length block.insns + 1) ≡ total (take (b + 1) bs)) × (start + (length block.insns + 1) ≤ total bs) × (b < length bs) × (block ≡ get_or bs b block)
next_start bs items b start block same is lt so_far =
    let n = ap length same in
    let lb : b < length bs = omega (arith, lt, n) in
    let e : block ≡ get_or bs b block = is ∙ ap (λ (l : List Block). get_or l b block) same in
    let len = ap (λ (x : Block). length x.insns) e in
    let m = total_more bs b block lb in
    let u = total_under bs b block lb in
    (omega (arith, m, len, so_far), omega (arith, u, len, so_far), lb, e)

-- as many blocks as fit a number of an instruction
pub blocks_le_total : (bs : List Block) → length bs ≤ total bs
blocks_le_total [] = omega arith
blocks_le_total (x ∷ xs) = let r = blocks_le_total xs in omega (arith, r)
