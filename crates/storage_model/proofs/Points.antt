-- The first points of an access rest on its pointer's own view alone.
use Rattle.std.proofs.Common.{ℕ, zero, suc, ◌+◌, ◌≡◌, ◌≤◌, ◌<◌, refl, ◌∙◌, ap, arith, ⊎_elim, [], ◌∷◌}
use Rattle.std.specs.Prelude.{Bool, true, false, ◌&&◌, Option, Some, None, ℤ, pos, negsuc}
use Rattle.std.specs.List.{list_all}
use Rattle.std.proofs.lemmas.Bool.{cases_Bool, and_from, and_left, and_right, cond_both, cond-true, cond-false, lt-ltb, le-ltb, ltb-true}
use Rattle.jf_base.specs.declared.tag.Tag.{Tag}
use Rattle.storage_model.specs.declared.cell.View.{View}
use Rattle.storage_model.specs.declared.cell.Place.{Place}
use Rattle.storage_model.specs.declared.cell.Pointer.TheVariants.{At}
use Rattle.storage_model.specs.Tags.{V01, V02, V05, V06, V07, V21}
use Rattle.storage_model.specs.Storage.{Storage, at, places, is_live, is_memory, size_of, Good}
use Rattle.storage_model.specs.Laws.{IsSound}
use Rattle.storage_model.specs.Chain.{chain, chain_of, in_range, each_below, each_byte, aligned_to, may_write, not_read, none_beside, written_marks, any_mark, cell_under}
use Rattle.storage_model.specs.Access.{first, check_access, offset_of, read_points, write_points, peek_at}
use Rattle.storage_model.specs.Reach.{GoodBytes}
use Rattle.storage_model.proofs.Meanings.{each_from, each_fails}
use Rattle.storage_model.proofs.Grounds.{good_chain, memory_chain, chain_all_from, chain_outside}

pub first_true : (b : Bool) (t : Tag) (rest : Option Tag) → b ≡ true → first b t rest ≡ rest
first_true b t rest e = ap (λ x. first x t rest) e

pub first_false : (b : Bool) (t : Tag) (rest : Option Tag) → b ≡ false → first b t rest ≡ Some t
first_false b t rest e = ap (λ x. first x t rest) e

pub offset_some : (z : ℤ) (k : ℕ) → offset_of z ≡ Some k → z ≡ pos k
offset_some (pos j) k e = let f : j ≡ k = cc in ap pos f
offset_some (negsuc j) k e = cc

plus_zero : (k : ℕ) → k + 0 ≡ k
plus_zero k = omega arith

module _ (s : Storage) (laws : IsSound s) where
  -- a test that fails of a byte fails of its chain
  pub head_fails : (test : Place → Bool) (p : Place) → test p ≡ false → list_all test (chain_of s p) ≡ false
  head_fails test p e = cond_both (in_range s p) (chain (places s) s.opened p) (p ∷ []) (λ c. list_all test c ≡ false)
      (λ t. whole s.opened) (λ f. and_left (test p) true e)
    where
      whole : (n : ℕ) → list_all test (chain (places s) n p) ≡ false
      whole zero = and_left (test p) true e
      whole (suc n) = and_left (test p) _ e

  live_chain : (p : Place) → is_live s p.view ≡ true → list_all (λ q. is_live s q.view) (chain_of s p) ≡ true
  live_chain p live = ⊎_elim
      (λ t. let g : Good s p = record { live = live; within = ltb-true p.offset (size_of s p.view) t } in
      chain_all_from s laws (λ q. is_live s q.view) p g (λ q on. (good_chain s laws g on).live))
      (λ f. ap (list_all (λ q. is_live s q.view)) (chain_outside s laws p f) ∙ and_from (is_live s p.view) true live refl)
      (cases_Bool (in_range s p))

  within_chain : (p : Place) → Good s p → list_all (in_range s) (chain_of s p) ≡ true
  within_chain p g = chain_all_from s laws (in_range s) p g (λ q on. let h = good_chain s laws g on in lt-ltb q.offset (size_of s q.view) h.within)

  pub live_bytes : (v : View) (k n : ℕ) → is_live s v ≡ true → each_byte s v k n (λ q. is_live s q.view) ≡ true
  live_bytes v k n live = each_from (λ x. list_all (λ q. is_live s q.view) (chain_of s (at v (k + x)))) n (λ x h. live_chain (at v (k + x)) live)

  pub dead_bytes : (v : View) (k m : ℕ) → is_live s v ≡ false → each_byte s v k (suc m) (λ q. is_live s q.view) ≡ false
  dead_bytes v k m dead = each_fails (λ x. list_all (λ q. is_live s q.view) (chain_of s (at v (k + x)))) (suc m) 0 (omega arith)
      (head_fails (λ q. is_live s q.view) (at v (k + 0)) dead)

  pub within_bytes : (v : View) (k n : ℕ) → is_live s v ≡ true → k + n ≤ size_of s v → each_byte s v k n (in_range s) ≡ true
  within_bytes v k n live h = each_from (λ x. list_all (in_range s) (chain_of s (at v (k + x)))) n
      (λ x lt. within_chain (at v (k + x)) (record { live = live; within = omega arith }))

  pub outside_bytes : (v : View) (k m : ℕ) → size_of s v < k + suc m → each_byte s v k (suc m) (in_range s) ≡ false
  outside_bytes v k m h = each_fails (λ x. list_all (in_range s) (chain_of s (at v (k + x)))) (suc m) m (omega arith)
      (head_fails (in_range s) (at v (k + m)) (le-ltb (k + m) (size_of s v) (omega arith)))

  module _ (points : View → ℕ → ℕ → Option Tag) (v : View) where
    pub access_dead : (z : ℤ) (n : ℕ) → is_live s v ≡ false → check_access s points (At v z) n ≡ Some V02
    access_dead (pos k) zero e = first_false (is_live s v) V02 None e
    access_dead (negsuc k) zero e = first_false (is_live s v) V02 None e
    access_dead (pos k) (suc m) e = first_false (each_byte s v k (suc m) (λ q. is_live s q.view)) V02
        (first (each_byte s v k (suc m) (in_range s)) V01 (points v k (suc m))) (dead_bytes v k m e)
    access_dead (negsuc k) (suc m) e = first_false (is_live s v) V02 (Some V01) e

    pub access_none : (z : ℤ) (n : ℕ) → is_live s v ≡ true → n ≡ 0 → check_access s points (At v z) n ≡ None
    access_none (pos k) zero e h = first_true (is_live s v) V02 None e
    access_none (negsuc k) zero e h = first_true (is_live s v) V02 None e
    access_none z (suc m) e h = absurd (omega (arith, h))

    pub access_negative : (z : ℤ) (n : ℕ) → is_live s v ≡ true → 0 < n → offset_of z ≡ None → check_access s points (At v z) n ≡ Some V01
    access_negative (pos k) n e h o = cc
    access_negative (negsuc k) zero e h o = absurd (omega (arith, h))
    access_negative (negsuc k) (suc m) e h o = first_true (is_live s v) V02 (Some V01) e

    pub access_outside : (z : ℤ) (k n : ℕ) → is_live s v ≡ true → 0 < n → offset_of z ≡ Some k → size_of s v < k + n → check_access s points (At v z) n ≡ Some V01
    access_outside (negsuc j) k n e h o w = cc
    access_outside (pos j) k zero e h o w = absurd (omega (arith, h))
    access_outside (pos j) k (suc m) e h o w =
        let same : j ≡ k = cc in
        first_true (each_byte s v j (suc m) (λ q. is_live s q.view)) V02 (first (each_byte s v j (suc m) (in_range s)) V01 (points v j (suc m))) (live_bytes v j (suc m) e)
        ∙ first_false (each_byte s v j (suc m) (in_range s)) V01 (points v j (suc m)) (outside_bytes v j m (omega (arith, same, w)))

    pub access_inside : (z : ℤ) (k n : ℕ) → is_live s v ≡ true → 0 < n → offset_of z ≡ Some k → k + n ≤ size_of s v → check_access s points (At v z) n ≡ points v k n
    access_inside (negsuc j) k n e h o w = cc
    access_inside (pos j) k zero e h o w = absurd (omega (arith, h))
    access_inside (pos j) k (suc m) e h o w =
        let same : j ≡ k = cc in
        first_true (each_byte s v j (suc m) (λ q. is_live s q.view)) V02 (first (each_byte s v j (suc m) (in_range s)) V01 (points v j (suc m))) (live_bytes v j (suc m) e)
        ∙ first_true (each_byte s v j (suc m) (in_range s)) V01 (points v j (suc m)) (within_bytes v j (suc m) e (omega (arith, same, w)))
        ∙ ap (λ x. points v x (suc m)) same

  -- no byte is a descriptor's, or the first is
  pub memory_bytes : (v : View) (k n : ℕ) → GoodBytes s v k n → is_memory s (at v 0) ≡ true → each_byte s v k n (is_memory s) ≡ true
  memory_bytes v k n good e = each_from (λ x. list_all (is_memory s) (chain_of s (at v (k + x)))) n (λ x h.
      chain_all_from s laws (is_memory s) (at v (k + x)) (good.byte x h) (λ q on. memory_chain s laws (good.byte x h) e on))

  pub descriptor_bytes : (v : View) (k n : ℕ) → 0 < n → is_memory s (at v 0) ≡ false → each_byte s v k n (is_memory s) ≡ false
  descriptor_bytes v k n h e = each_fails (λ x. list_all (is_memory s) (chain_of s (at v (k + x)))) n 0 h (head_fails (is_memory s) (at v (k + 0)) e)

  -- the further points, once what is asked first holds
  pub read_rest : (a : ℕ) (v : View) (k n : ℕ) (r : Bool) → GoodBytes s v k n → list_all (aligned_to a) (chain_of s (at v k)) ≡ true → is_memory s (at v 0) ≡ true
      → each_below (λ x. none_beside s (written_marks s) (at v (k + x))) n ≡ r → read_points s a v k n ≡ first r V07 None
  read_rest a v k n r good al mem e =
      first_true (list_all (aligned_to a) (chain_of s (at v k))) V05 _ al
      ∙ first_true (each_byte s v k n (is_memory s)) V21 _ (memory_bytes v k n good mem)
      ∙ ap (λ b. first b V07 None) e

  pub read_described : (a : ℕ) (v : View) (k n : ℕ) → 0 < n → list_all (aligned_to a) (chain_of s (at v k)) ≡ true → is_memory s (at v 0) ≡ false
      → read_points s a v k n ≡ Some V21
  read_described a v k n h al mem =
      first_true (list_all (aligned_to a) (chain_of s (at v k))) V05 _ al
      ∙ first_false (each_byte s v k n (is_memory s)) V21 _ (descriptor_bytes v k n h mem)

  pub write_rest : (a : ℕ) (v : View) (k n : ℕ) (x y : Bool) → GoodBytes s v k n → list_all (aligned_to a) (chain_of s (at v k)) ≡ true
      → each_byte s v k n (may_write s) ≡ true → is_memory s (at v 0) ≡ true
      → each_below (λ x. none_beside s any_mark (at v (k + x))) n ≡ x → each_byte s v k n (not_read s) ≡ y → write_points s a v k n ≡ first (x && y) V07 None
  write_rest a v k n x y good al wr mem e f =
      first_true (list_all (aligned_to a) (chain_of s (at v k))) V05 _ al
      ∙ first_true (each_byte s v k n (may_write s)) V06 _ wr
      ∙ first_true (each_byte s v k n (is_memory s)) V21 _ (memory_bytes v k n good mem)
      ∙ ap (λ b. first (b && each_byte s v k n (not_read s)) V07 None) e
      ∙ ap (λ b. first (x && b) V07 None) f

  pub write_described : (a : ℕ) (v : View) (k n : ℕ) → 0 < n → list_all (aligned_to a) (chain_of s (at v k)) ≡ true → each_byte s v k n (may_write s) ≡ true
      → is_memory s (at v 0) ≡ false → write_points s a v k n ≡ Some V21
  write_described a v k n h al wr mem =
      first_true (list_all (aligned_to a) (chain_of s (at v k))) V05 _ al
      ∙ first_true (each_byte s v k n (may_write s)) V06 _ wr
      ∙ first_false (each_byte s v k n (is_memory s)) V21 _ (descriptor_bytes v k n h mem)

  -- a look at a byte
  pub peek_good : (v : View) (k : ℕ) → Good s (at v k) → peek_at s v k ≡ Some (cell_under s (at v k))
  peek_good v k g = cond-true (list_all (λ q. is_live s q.view) (chain_of s (at v k)) && list_all (in_range s) (chain_of s (at v k))) (Some (cell_under s (at v k))) None
      (and_from _ _ (live_chain (at v k) g.live) (within_chain (at v k) g))

  pub peek_dead : (v : View) (k : ℕ) → is_live s v ≡ false → peek_at s v k ≡ None
  peek_dead v k e = cond-false (list_all (λ q. is_live s q.view) (chain_of s (at v k)) && list_all (in_range s) (chain_of s (at v k))) (Some (cell_under s (at v k))) None
      (and_left _ _ (head_fails (λ q. is_live s q.view) (at v k) e))

  pub peek_outside : (v : View) (k : ℕ) → size_of s v ≤ k → peek_at s v k ≡ None
  peek_outside v k h = cond-false (list_all (λ q. is_live s q.view) (chain_of s (at v k)) && list_all (in_range s) (chain_of s (at v k))) (Some (cell_under s (at v k))) None
      (and_right _ _ (head_fails (in_range s) (at v k) (le-ltb k (size_of s v) h)))
