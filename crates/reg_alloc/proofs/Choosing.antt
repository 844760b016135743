-- Choices and their numbers.
use Rattle.std.proofs.Common.{◌≡◌, ◌≢◌, ℕ, ◌<◌, List, length, get_or, refl, sym, ap, ◌∙◌, subst, arith, inl, inr, get_or-set_same, get_or-set_other}
use Rattle.std.specs.Prelude.{slice_index, slice_index_or, slice_set}
use Rattle.std.proofs.lemmas.List.{length-set, length-map, map-set, get_or-map, get_or_default}
use Rattle.flatten.specs.declared.blocks.BlockProc.{BlockProc}
use Rattle.reg_alloc.specs.declared.ranges.Range.{Range}
use Rattle.reg_alloc.specs.declared.scan.Choice.{Choice}
use Rattle.reg_alloc.specs.declared.scan.Choice.TheVariants as C
use Rattle.reg_alloc.specs.Scan.{Scan, code, codes, IsProper, AllProper}
use Rattle.reg_alloc.proofs.Lists.{same_or}
use Rattle.reg_alloc.proofs.Scanning.{set_more}

pub code_at : (cs : List Choice) (v : ℕ) (c : Choice) → v < length cs → c ≡ get_or cs v c → slice_index (codes cs) v ≡ code c
code_at cs v c lt e = get_or-map code cs v c 0 lt ∙ ap code (sym e)

pub codes_set : (cs : List Choice) (v : ℕ) (c : Choice) → codes (slice_set cs v c) ≡ slice_set (codes cs) v (code c)
codes_set cs v c = map-set code cs v c

pub codes_length : (cs : List Choice) → length (codes cs) ≡ length cs
codes_length cs = length-map cs code

pub proper_at : (cs : List Choice) (v : ℕ) (c : Choice) → v < length cs → c ≡ get_or cs v c → AllProper cs → IsProper c
proper_at cs v c lt e all = subst IsProper (get_or_default cs v C.Open c lt ∙ sym e) (all v lt)

pub proper_set : (cs : List Choice) (v : ℕ) (c : Choice) → AllProper cs → IsProper c → AllProper (slice_set cs v c)
proper_set cs v c all p u lt = elim (same_or u v) [ inl e ↦ (let l : v < length cs = (let n = length-set cs v c in omega (arith, n, lt, e)) in subst IsProper (sym (ap (λ n. get_or (slice_set cs v c) n C.Open) e ∙ get_or-set_same cs v c C.Open l)) p) | inr ne ↦ subst IsProper (sym (get_or-set_other cs v u c C.Open ne)) (all u (let n = length-set cs v c in omega (arith, n, lt))) ]

module _ (cs : List Choice) (v n : ℕ) (c : Choice) (lt : v < length cs) (is : code c ≡ n) (few : n < 13) where
  new : codes (slice_set cs v c) ≡ slice_set (codes cs) v n
  new = codes_set cs v c ∙ ap (λ k. slice_set (codes cs) v k) is

  pub chosen_scan : (p : BlockProc) (ranges : List Range) (users : List ℕ) (k : ℕ) → Scan p ranges (slice_set (codes cs) v n) users k → Scan p ranges (codes (slice_set cs v c)) users k
  chosen_scan p ranges users k s = subst (λ l. Scan p ranges l users k) (sym new) s

  ne : n ≢ 13
  ne q = omega (arith, q, few)

  pub chosen_kept : (u : ℕ) → slice_index (codes cs) u ≢ 13 → slice_index (codes (slice_set cs v c)) u ≢ 13
  chosen_kept u h = subst (λ l. slice_index l u ≢ 13) (sym new) ((set_more (codes cs) v n ne (let m = codes_length cs in omega (arith, m, lt))).0 u h)

  pub chosen_done : slice_index (codes (slice_set cs v c)) v ≢ 13
  chosen_done = subst (λ l. slice_index l v ≢ 13) (sym new) ((set_more (codes cs) v n ne (let m = codes_length cs in omega (arith, m, lt))).1)

-- nothing is chosen
pub open_code : (cs : List Choice) → ((u : ℕ) → u < length cs → slice_index_or cs u C.Open ≡ C.Open) → (u : ℕ) → u < length (codes cs) → slice_index (codes cs) u ≡ 13
open_code cs all u lt = let l : u < length cs = (let n = codes_length cs in omega (arith, n, lt)) in get_or-map code cs u C.Open 0 l ∙ ap code (all u l)

pub open_proper : (cs : List Choice) → ((u : ℕ) → u < length cs → slice_index_or cs u C.Open ≡ C.Open) → AllProper cs
open_proper cs all u lt = subst IsProper (sym (all u lt)) tt
