-- A text has one longest run of items.
use Rattle.std.proofs.Common.{◌≡◌, ◌≢◌, ℕ, List, [], ◌∷◌, ◌++◌, map, refl, sym, ap, ◌∙◌, append_assoc}
use Rattle.std.specs.List.{All, flat_map}
use Rattle.std.proofs.lemmas.List.Elements.{All-head, All-tail, All-push, All-same}
use Rattle.first_form.specs.Runs.{spelled, IsLongestRun}

-- one more item at the end
pub spelled-push : {A X : Type 0} (spell : A → X → X) (items : List A) (item : A) (rest : X) → spelled spell (items ++ item ∷ []) rest ≡ spelled spell items (spell item rest)
spelled-push spell [] item rest = refl
spelled-push spell (first ∷ items) item rest = ap (spell first) (spelled-push spell items item rest)

-- each item on a line of its own
pub spelled_lines : {A : Type 0} (line : A → List ℕ) (items : List A) (rest : List (List ℕ)) → spelled (λ (a : A) (r : List (List ℕ)). line a ∷ r) items rest ≡ map line items ++ rest
spelled_lines line [] rest = refl
spelled_lines line (item ∷ items) rest = ap (λ (r : List (List ℕ)). line item ∷ r) (spelled_lines line items rest)

-- items one behind the other on a line
pub spelled_text : {A : Type 0} (text : A → List ℕ) (items : List A) (rest : List ℕ) → spelled (λ (a : A) (r : List ℕ). text a ++ r) items rest ≡ flat_map text items ++ rest
spelled_text text [] rest = refl
spelled_text text (item ∷ items) rest = ap (λ (r : List ℕ). text item ++ r) (spelled_text text items rest) ∙ sym (append_assoc (text item) (flat_map text items) rest)

module _ {A X : Type 0} (spell : A → X → X) (Is : A → Type 0) (one : (a b : A) (r s : X) → Is a → Is b → spell a r ≡ spell b s → (a ≡ b) × (r ≡ s)) where
  pub run_is_one : (items others : List A) (r s : X) → All Is items → All Is others → ((a : A) (x : X) → Is a → r ≢ spell a x) → ((a : A) (x : X) → Is a → s ≢ spell a x)
      → spelled spell items r ≡ spelled spell others s → (items ≡ others) × (r ≡ s)
  run_is_one [] [] r s ha hb nr ns e = (refl, e)
  run_is_one [] (b ∷ others) r s ha hb nr ns e = absurd (nr b (spelled spell others s) (All-head Is b others hb) e)
  run_is_one (a ∷ items) [] r s ha hb nr ns e = absurd (ns a (spelled spell items r) (All-head Is a items ha) (sym e))
  run_is_one (a ∷ items) (b ∷ others) r s ha hb nr ns e =
      let first : (a ≡ b) × (spelled spell items r ≡ spelled spell others s) = one a b (spelled spell items r) (spelled spell others s) (All-head Is a items ha) (All-head Is b others hb) e in
      let more : (items ≡ others) × (r ≡ s) = run_is_one items others r s (All-tail Is a items ha) (All-tail Is b others hb) nr ns first.1 in
      (cc (first.0, more.0), more.1)

  -- whoever reads the longest run reads what was written, if no item stands behind that
  pub longest_run : (text : X) (items others : List A) (r s : X) → IsLongestRun spell Is text items r → All Is others → ((a : A) (x : X) → Is a → s ≢ spell a x) → text ≡ spelled spell others s
      → (items ≡ others) × (r ≡ s)
  longest_run text items others r s run hb ns e = run_is_one items others r s run.are hb run.longest ns (sym run.spelling ∙ e)

-- a run goes on with the item that stands behind it
pub one_more : {A X : Type 0} (spell : A → X → X) (Is : A → Type 0) (text : X) (items : List A) (item : A) (rest behind : X) (longer : List A) → All Is items → text ≡ spelled spell items rest → Is item
    → rest ≡ spell item behind → longer ≡ items ++ item ∷ [] → All Is longer × (text ≡ spelled spell longer behind)
one_more {A} {X} spell Is text items item rest behind longer are e is h l = (
  All-same Is longer (items ++ item ∷ []) l (All-push Is items item are is),
  e ∙ (ap (spelled spell items) h ∙ (sym (spelled-push spell items item behind) ∙ ap (λ (x : List A). spelled spell x behind) (sym l))),
)
