-- Modules that can be looked at, and how many uses of others each unit waits for.
use Rattle.std.specs.Prelude.{◌≡◌, ◌<◌, ◌-◌, ℕ, List, [], ◌∷◌, length, map, Bool, not, ◌&&◌, ◌==◌, Option, Some, None, nat_lt, if◌then◌else◌, slice_set, slice_index_or}
use Rattle.std.specs.List.{All, list_any, count_by}
use Rattle.std.specs.Ordering.{nat_cmp}
use Rattle.std.specs.BTreeSet.{insert_key}
use Rattle.f_use.specs.Places.{list_at, put_at}
use Rattle.f_order.specs.Marks.{marked}

-- how many of these units weren't looked at, each as often as it stands there
abbrev pub open_count : List Bool → List ℕ → ℕ
open_count done ms = count_by (λ m. not (marked done m)) ms

-- how often a number stands in a list
abbrev pub times : ℕ → List ℕ → ℕ
times n ns = count_by (λ m. m == n) ns

-- a number is in a list
abbrev pub has : List ℕ → ℕ → Bool
has ns n = list_any (λ m. n == m) ns

abbrev pub count_at : List ℕ → ℕ → ℕ
count_at counts u = slice_index_or counts u 0

-- a module that wasn't looked at and waits for no other
abbrev pub is_ready : List Bool → List Bool → List ℕ → ℕ → Bool
is_ready modules done counts u = marked modules u && (not (marked done u) && count_at counts u == 0)

-- the modules that are ready with one more, if it is
abbrev pub with_ready : List Bool → List Bool → List ℕ → List ℕ → ℕ → List ℕ
with_ready modules done counts ready u = if is_ready modules done counts u then insert_key nat_cmp ready u else ready

-- a unit waits for one use fewer
abbrev pub lowered : List ℕ → ℕ → List ℕ
lowered counts u = if nat_lt u (length counts) then slice_set counts u (count_at counts u - 1) else counts

-- the counts of the units, and the modules that are ready
abbrev pub State : Type 0
State = List ℕ × List ℕ

abbrev pub released_one : List Bool → List Bool → ℕ → State → State
released_one modules done u s = (lowered s.0 u, with_ready modules done (lowered s.0 u) s.1 u)

-- each of these units waits for one use fewer, as often as it stands there
unfoldable pub released : List Bool → List Bool → List ℕ → State → State
released modules done [] s = s
released modules done (u ∷ us) s = released modules done us (released_one modules done u s)

-- the lists with a unit in those of the units that it uses
unfoldable pub with_user : List (List ℕ) → ℕ → List ℕ → List (List ℕ)
with_user users u [] = users
with_user users u (m ∷ ms) = with_user (put_at users m u) u ms

-- the lists have the units that use each of so many, as often as they do
abbrev pub AreUsers : ℕ → List (List ℕ) → List (List ℕ) → Type 0
AreUsers count edges users = (u m : ℕ) → m < count → times u (list_at users m) ≡ times m (list_at edges u)

-- these modules are ready, and no others
abbrev pub AreReady : List Bool → List Bool → List ℕ → List ℕ → Type 0
AreReady modules done counts ready = (u : ℕ) → has ready u ≡ is_ready modules done counts u

-- the first of the numbers is taken away
abbrev pub TakesFirst : List ℕ → Option ℕ → List ℕ → Type 0
TakesFirst old None new = old ≡ []
TakesFirst old (Some u) new = (old ≡ u ∷ new) × All (λ v. u < v) new
