-- Look-ups among names with their entries.
use Rattle.std.proofs.Common.{◌≡◌, ℕ, Bool, true, false, cond, List, [], ◌∷◌, map, Some, refl, sym, ap, ◌∙◌, subst}
use Rattle.std.specs.Prelude.{Vec}
use Rattle.std.specs.declared.alloc.Global.{Global}
use Rattle.std.specs.Str.{bytes_eq}
use Rattle.std.specs.Map.{lookup}
use Rattle.std.proofs.lemmas.Slice.Eq.{bytes_eq-Decides}
use Rattle.indexmap.specs.IndexMap.{insert_entry}
use Rattle.f_scope.specs.declared.table.Entry.{Entry}
use Rattle.f_scope.specs.Tables.{Row, entry_at, put}

pub same_bytes : (a b : List ℕ) → bytes_eq a b ≡ true → a ≡ b
same_bytes a b e = (bytes_eq-Decides a b).0 e

pub bytes_same : (a : List ℕ) → bytes_eq a a ≡ true
bytes_same a = (bytes_eq-Decides a a).1 refl

-- a key and its value, seen as a row
abbrev pub row_of : (Vec ℕ Global × Entry) → Row
row_of e = (e.0.items, e.1)

pub lookup-is : (name : List ℕ) (es : List (Vec ℕ Global × Entry)) → lookup (λ k. bytes_eq name k.items) es ≡ entry_at name (map row_of es)
unfolding entry_at
lookup-is name [] = refl
lookup-is name (e ∷ es) = ap (λ r. cond (bytes_eq name e.0.items) (Some e.1) r) (lookup-is name es)

pub insert-is : (k : Vec ℕ Global) (v : Entry) (es : List (Vec ℕ Global × Entry)) → map row_of (insert_entry (λ a b. bytes_eq a.items b.items) es k v) ≡ put (map row_of es) k.items v
unfolding put
insert-is k v [] = refl
insert-is k v (e ∷ es) = pick (bytes_eq k.items e.0.items) (insert-is k v es) where
  pick : (b : Bool) → map row_of (insert_entry (λ a b. bytes_eq a.items b.items) es k v) ≡ put (map row_of es) k.items v → map row_of (cond b ((e.0, v) ∷ es) (e ∷ insert_entry (λ a b. bytes_eq a.items b.items) es k v)) ≡ cond b ((e.0.items, v) ∷ map row_of es) (row_of e ∷ put (map row_of es) k.items v)
  pick true ih = refl
  pick false ih = ap (λ rs. row_of e ∷ rs) ih

-- the entry that was put is that of its name, and the others stay
pub entry-put : (other name : List ℕ) (e : Entry) (rs : List Row) → entry_at other (put rs name e) ≡ cond (bytes_eq other name) (Some e) (entry_at other rs)
unfolding entry_at put
entry-put other name e [] = refl
entry-put other name e (r ∷ rs) = pick (bytes_eq name r.0) refl (entry-put other name e rs) where
  same : name ≡ r.0 → cond (bytes_eq other r.0) (Some e) (entry_at other rs) ≡ cond (bytes_eq other name) (Some e) (cond (bytes_eq other r.0) (Some r.1) (entry_at other rs))
  same is = let P : List ℕ → Type 0 = λ n. cond (bytes_eq other r.0) (Some e) (entry_at other rs) ≡ cond (bytes_eq other n) (Some e) (cond (bytes_eq other r.0) (Some r.1) (entry_at other rs)) in
      subst P (sym is) (both (bytes_eq other r.0)) where
        both : (b : Bool) → cond b (Some e) (entry_at other rs) ≡ cond b (Some e) (cond b (Some r.1) (entry_at other rs))
        both true = refl
        both false = refl

  apart : (b c : Bool) → bytes_eq other r.0 ≡ b → bytes_eq other name ≡ c → bytes_eq name r.0 ≡ false → cond b (Some r.1) (cond c (Some e) (entry_at other rs)) ≡ cond c (Some e) (cond b (Some r.1) (entry_at other rs))
  apart true true eb ec n = let is : name ≡ r.0 = sym (same_bytes other name ec) ∙ same_bytes other r.0 eb in let yes : bytes_eq name r.0 ≡ true = ap (bytes_eq name) (sym is) ∙ bytes_same name in cc
  apart true false eb ec n = refl
  apart false true eb ec n = refl
  apart false false eb ec n = refl

  pick : (b : Bool) → bytes_eq name r.0 ≡ b → entry_at other (put rs name e) ≡ cond (bytes_eq other name) (Some e) (entry_at other rs)
      → entry_at other (cond b ((r.0, e) ∷ rs) (r ∷ put rs name e)) ≡ cond (bytes_eq other name) (Some e) (cond (bytes_eq other r.0) (Some r.1) (entry_at other rs))
  pick true eb ih = same (same_bytes name r.0 eb)
  pick false eb ih = ap (λ o. cond (bytes_eq other r.0) (Some r.1) o) ih ∙ apart (bytes_eq other r.0) (bytes_eq other name) refl refl eb
