-- How tables of origins grow.
use Rattle.std.proofs.Common.{◌≡◌, ℕ, ◌⊎◌, inl, inr, Bool, true, false, not, cond, eqb, List, [], ◌∷◌, Option, Some, None, refl, sym, ap, ◌∙◌, subst}
use Rattle.std.specs.Str.{bytes_eq}
use Rattle.std.proofs.lemmas.Bool.{eqb-true, eq-eqb}
use Rattle.f_scope.specs.declared.table.Entry.{Entry}
use Rattle.f_scope.specs.Tables.{Row, entry_at, entry_with, noted, or_else, told_by}
use Rattle.f_scope.proofs.Lookups.{same_bytes, bytes_same, entry-put}
use Rattle.f_use.specs.Origins.{Member, is_covered, Covers, Apart, differs, added_some, added_entry, Only, OwnOf, Reaches, Names, Grew}

-- ---- one entry

-- an entry with one more entity
with_one : Option Entry → ℕ → Entry
with_one o k = entry_with o k (differs o k)

-- how an entry grows
record GrewEntry (o n : Option Entry) (k : ℕ) : Type 0 where
  keeps : (j : ℕ) → Covers o j → Covers n j
  gets : Covers n k
  only : (j : ℕ) → Member n j → Member o j ⊎ (j ≡ k)
  apart : Apart o → Apart n

grown_none : (k : ℕ) → GrewEntry None (Some (record { first = k; told = None })) k
grown_none k = record { keeps = λ j c. absurd c; gets = refl; only = only; apart = λ a j e. absurd (cc) } where
  only : (j : ℕ) → Member (Some (record { first = k; told = None })) j → ⊥ ⊎ (j ≡ k)
  only j (inl e) = inr e
  only j (inr e) = absurd (cc)

grown_same : (e : Entry) (k : ℕ) → e.first ≡ k → GrewEntry (Some e) (Some e) k
grown_same e k is = record { keeps = λ j c. c; gets = covered e.told; only = λ j m. inl m; apart = λ a. a } where
  covered : (o : Option ℕ) → is_covered e.first o k
  covered None = sym is
  covered (Some other) = tt

grown_two : (first k : ℕ) → (first ≡ k → ⊥) → GrewEntry (Some (record { first = first; told = None })) (Some (record { first = first; told = Some k })) k
grown_two first k two = record { keeps = λ j c. tt; gets = tt; only = only; apart = apart } where
  only : (j : ℕ) → Member (Some (record { first = first; told = Some k })) j → Member (Some (record { first = first; told = None })) j ⊎ (j ≡ k)
  only j (inl e) = inl (inl e)
  only j (inr e) = let is : k ≡ j = cc in inr (sym is)

  apart : Apart (Some (record { first = first; told = None })) → Apart (Some (record { first = first; told = Some k }))
  apart a j e same = let is : k ≡ j = cc in two (sym same ∙ sym is)

grown_full : (first other k : ℕ) → GrewEntry (Some (record { first = first; told = Some other })) (Some (record { first = first; told = Some other })) k
grown_full first other k = record { keeps = λ j c. c; gets = tt; only = λ j m. inl m; apart = λ a. a }

-- by the equation of the test
grown_by : (first : ℕ) (told : Option ℕ) (k : ℕ) (b : Bool) → eqb first k ≡ b → GrewEntry (Some (record { first = first; told = told })) (Some (record { first = first; told = or_else told (told_by (not b) k) })) k
grown_by first None k true e = grown_same (record { first = first; told = None }) k (eqb-true first k e)
grown_by first None k false e = grown_two first k (λ is. let holds : eqb first k ≡ true = eq-eqb first k is in cc)
grown_by first (Some other) k b e = grown_full first other k

grown : (o : Option Entry) (k : ℕ) → GrewEntry o (Some (with_one o k)) k
unfolding with_one
grown None k = grown_none k
grown (Some e) k = grown_by e.first e.told k (eqb e.first k) refl

-- ---- one name of a table

module _ (rows : List Row) (name : List ℕ) (place : ℕ) where
  new : List Row
  new = noted rows name place (differs (entry_at name rows) place)

  entry-new : (n : List ℕ) → entry_at n new ≡ cond (bytes_eq n name) (Some (with_one (entry_at name rows) place)) (entry_at n rows)
  unfolding new with_one
  entry-new n = entry-put n name (entry_with (entry_at name rows) place (differs (entry_at name rows) place)) rows

  of_name : (n : List ℕ) → n ≡ name → entry_at n new ≡ Some (with_one (entry_at n rows) place)
  of_name n is =
      let holds : bytes_eq n name ≡ true = ap (bytes_eq n) (sym is) ∙ bytes_same n in
      entry-new n
      ∙ ap (λ b. cond b (Some (with_one (entry_at name rows) place)) (entry_at n rows)) holds
      ∙ ap (λ x. Some (with_one (entry_at x rows) place)) (sym is)

  of_other : (n : List ℕ) → bytes_eq n name ≡ false → entry_at n new ≡ entry_at n rows
  of_other n deny = entry-new n ∙ ap (λ b. cond b (Some (with_one (entry_at name rows) place)) (entry_at n rows)) deny

  cases : (P : Option Entry → Type 0) (n : List ℕ) → (n ≡ name → P (Some (with_one (entry_at n rows) place))) → P (entry_at n rows) → P (entry_at n new)
  cases P n here there = pick (bytes_eq n name) refl where
    pick : (b : Bool) → bytes_eq n name ≡ b → P (entry_at n new)
    pick true e = let is = same_bytes n name e in subst P (sym (of_name n is)) (here is)
    pick false e = subst P (sym (of_other n e)) there

  added : Grew rows new (Only name place) (Only name place)
  added = record {
    keeps = λ n k c. cases (λ o. Covers o k) n (λ is. (grown (entry_at n rows) place).keeps k c) c;
    gets = λ n k g. gets n k g;
    only = λ n k m. only n k m (bytes_eq n name) refl;
    apart = λ a n. cases Apart n (λ is. (grown (entry_at n rows) place).apart (a n)) (a n);
  } where
    gets : (n : List ℕ) (k : ℕ) → Only name place n k → Covers (entry_at n new) k
    gets n k g =
        let P : ℕ → Type 0 = λ j. Covers (entry_at n new) j in
        let Q : Option Entry → Type 0 = λ o. Covers o place in
        subst P (sym g.1) (subst Q (sym (of_name n g.0)) (grown (entry_at n rows) place).gets)

    only : (n : List ℕ) (k : ℕ) → Member (entry_at n new) k → (b : Bool) → bytes_eq n name ≡ b → Member (entry_at n rows) k ⊎ Only name place n k
    only n k m true e =
        let is = same_bytes n name e in
        let Q : Option Entry → Type 0 = λ o. Member o k in
        pick ((grown (entry_at n rows) place).only k (subst Q (of_name n is) m)) where
          pick : Member (entry_at n rows) k ⊎ (k ≡ place) → Member (entry_at n rows) k ⊎ Only name place n k
          pick (inl x) = inl x
          pick (inr x) = inr (same_bytes n name e, x)
    only n k m false e = let Q : Option Entry → Type 0 = λ o. Member o k in inl (subst Q (of_other n e) m)

pub grew_one : (rows : List Row) (name : List ℕ) (place : ℕ) → Grew rows (noted rows name place (differs (entry_at name rows) place)) (Only name place) (Only name place)
unfolding new
grew_one rows name place = added rows name place

-- ---- one after the other

pub grew_none : (rows : List Row) (G S : List ℕ → ℕ → Type 0) → ((n : List ℕ) (k : ℕ) → G n k → ⊥) → Grew rows rows G S
grew_none rows G S none = record { keeps = λ n k c. c; gets = λ n k g. absurd (none n k g); only = λ n k m. inl m; apart = λ a. a }

-- two steps, each of which does a part
pub grew_both : (a b c : List Row) (G S G' S' G'' S'' : List ℕ → ℕ → Type 0) → Grew a b G S → Grew b c G' S' → ((n : List ℕ) (k : ℕ) → G'' n k → G n k ⊎ G' n k)
    → ((n : List ℕ) (k : ℕ) → S n k → S'' n k) → ((n : List ℕ) (k : ℕ) → S' n k → S'' n k) → Grew a c G'' S''
grew_both a b c G S G' S' G'' S'' x y parts left right = record {
  keeps = λ n k h. y.keeps n k (x.keeps n k h);
  gets = λ n k g. gets n k (parts n k g);
  only = λ n k m. only n k (y.only n k m);
  apart = λ h. y.apart (x.apart h);
} where
  gets : (n : List ℕ) (k : ℕ) → G n k ⊎ G' n k → Covers (entry_at n c) k
  gets n k (inl g) = y.keeps n k (x.gets n k g)
  gets n k (inr g) = y.gets n k g

  before : (n : List ℕ) (k : ℕ) → Member (entry_at n a) k ⊎ S n k → Member (entry_at n a) k ⊎ S'' n k
  before n k (inl m) = inl m
  before n k (inr s) = inr (left n k s)

  only : (n : List ℕ) (k : ℕ) → Member (entry_at n b) k ⊎ S' n k → Member (entry_at n a) k ⊎ S'' n k
  only n k (inl m) = before n k (x.only n k m)
  only n k (inr s) = inr (right n k s)

-- the same, said otherwise
pub grew_as : (a b : List Row) (G S G' S' : List ℕ → ℕ → Type 0) → Grew a b G S → ((n : List ℕ) (k : ℕ) → G' n k → G n k) → ((n : List ℕ) (k : ℕ) → S n k → S' n k) → Grew a b G' S'
grew_as a b G S G' S' x gets only = record {
  keeps = x.keeps;
  gets = λ n k g. x.gets n k (gets n k g);
  only = λ n k m. pick n k (x.only n k m);
  apart = x.apart;
} where
  pick : (n : List ℕ) (k : ℕ) → Member (entry_at n a) k ⊎ S n k → Member (entry_at n a) k ⊎ S' n k
  pick n k (inl m) = inl m
  pick n k (inr s) = inr (only n k s)

-- ---- the entities of an entry

-- both of two that differ cover all
two_cover : (rows : List Row) (n : List ℕ) (i j k : ℕ) → Covers (entry_at n rows) i → Covers (entry_at n rows) j → (i ≡ j → ⊥) → Covers (entry_at n rows) k
two_cover rows n i j k a b two = pick (entry_at n rows) a b where
  told : (first : ℕ) (t : Option ℕ) → is_covered first t i → is_covered first t j → is_covered first t k
  told first None a b = absurd (two (a ∙ sym b))
  told first (Some other) a b = tt

  pick : (o : Option Entry) → Covers o i → Covers o j → Covers o k
  pick None a b = absurd a
  pick (Some e) a b = told e.first e.told a b

both_grow : (a b c : List Row) (name : List ℕ) (e : Entry) (other : ℕ) → e.told ≡ Some other → Apart (Some e) → Grew a b (Only name e.first) (Only name e.first) → Grew b c (Only name other) (Only name other)
    → Grew a c (Reaches name (Some e)) (Names name (Some e))
both_grow a b c name e other some apart x y = record {
  keeps = λ n k h. y.keeps n k (x.keeps n k h);
  gets = λ n k g. two_cover c n e.first other k (y.keeps n e.first (x.gets n e.first (g.0, refl))) (y.gets n other (g.0, refl)) (λ is. apart other some (sym is));
  only = λ n k m. only n k (y.only n k m);
  apart = λ h. y.apart (x.apart h);
} where
  before : (n : List ℕ) (k : ℕ) → Member (entry_at n a) k ⊎ Only name e.first n k → Member (entry_at n a) k ⊎ Names name (Some e) n k
  before n k (inl m) = inl m
  before n k (inr s) = inr (s.0, inl s.1)

  only : (n : List ℕ) (k : ℕ) → Member (entry_at n b) k ⊎ Only name other n k → Member (entry_at n a) k ⊎ Names name (Some e) n k
  only n k (inl m) = before n k (x.only n k m)
  only n k (inr s) = inr (s.0, inr (some ∙ ap Some (sym s.1)))

alone : (a b : List Row) (name : List ℕ) (e : Entry) → e.told ≡ None → Grew a b (Only name e.first) (Only name e.first) → Grew a b (Reaches name (Some e)) (Names name (Some e))
alone a b name e none x = grew_as a b (Only name e.first) (Only name e.first) (Reaches name (Some e)) (Names name (Some e)) x
    (λ n k g. let P : Option ℕ → Type 0 = λ t. is_covered e.first t k in (g.0, subst P none g.1))
    (λ n k s. (s.0, inl s.1))

pub grew_some : (rows : List Row) (name : List ℕ) (o : Option ℕ) → Grew rows (added_some rows name o) (OwnOf name o) (OwnOf name o)
grew_some rows name None = grew_none rows (OwnOf name None) (OwnOf name None) (λ n k f. let e = f.1 in absurd (cc))
grew_some rows name (Some p) = grew_as rows (added_some rows name (Some p)) (Only name p) (Only name p) (OwnOf name (Some p)) (OwnOf name (Some p)) (grew_one rows name p)
    (λ n k f. let e = f.1 in let is : p ≡ k = cc in (f.0, sym is))
    (λ n k s. (s.0, ap Some (sym s.1)))

pub grew_entry : (rows : List Row) (name : List ℕ) (o : Option Entry) → Apart o → Grew rows (added_entry rows name o) (Reaches name o) (Names name o)
grew_entry rows name None apart = grew_none rows (Reaches name None) (Names name None) (λ n k f. f.1)
grew_entry rows name (Some e) apart = pick e.told refl where
  pick : (t : Option ℕ) → e.told ≡ t → Grew rows (added_some (noted rows name e.first (differs (entry_at name rows) e.first)) name t) (Reaches name (Some e)) (Names name (Some e))
  pick None is = alone rows (noted rows name e.first (differs (entry_at name rows) e.first)) name e is (grew_one rows name e.first)
  pick (Some other) is = both_grow rows (noted rows name e.first (differs (entry_at name rows) e.first)) (added_some (noted rows name e.first (differs (entry_at name rows) e.first)) name (Some other)) name e other is apart
      (grew_one rows name e.first) (grew_one (noted rows name e.first (differs (entry_at name rows) e.first)) name other)
