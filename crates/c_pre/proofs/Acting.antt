-- What directives and files give.
use Rattle.std.proofs.Common.{◌≡◌, ℕ, zero, suc, ◌+◌, ◌-◌, ◌<◌, ◌≤◌, Bool, true, false, cond, ltb, List, [], ◌∷◌, length, Option, Some, None, Result, Ok, Err, refl, sym, ap, ◌∙◌, subst, arith, add_assoc, zero-add}
use Rattle.std.specs.Prelude.{IfSome, Vec, String, string_bytes}
use Rattle.std.specs.declared.alloc.Global.{Global}
use Rattle.jf_outside.specs.Listing.{listed, ReadGives}
use Rattle.jf_base.specs.declared.place.Place.{Place}
use Rattle.c_text.specs.declared.kind.Lexeme.{Lexeme}
use Rattle.c_lines.specs.declared.head.Head.{Head}
use Rattle.c_lines.specs.declared.head.Head.TheVariants as head
use Rattle.c_lines.specs.declared.rule.Rule.{Rule}
use Rattle.c_lines.specs.declared.rule.Rule.TheVariants as rule
use Rattle.c_lines.specs.declared.header.Delimiter.TheVariants.{Angle, Quote}
use Rattle.c_text.specs.Source.{lexemes_in}
use Rattle.c_token.specs.declared.token.CSpanned.{CSpanned}
use Rattle.c_directives.specs.declared.origin.Origin.TheVariants.{Named, Included}
use Rattle.std.proofs.lemmas.Bool.{lt-ltb, le-ltb}
use Rattle.c_lines.specs.Rows.{Row, rows}
use Rattle.c_define.specs.Definitions.{Macros, no_macros}
use Rattle.c_directives.specs.declared.stop.Stop.{Stop}
use Rattle.c_directives.specs.declared.stop.Stop.TheVariants as stop
use Rattle.c_directives.specs.declared.line.Action.{Action}
use Rattle.c_directives.specs.declared.origin.Origin.{Origin}
use Rattle.c_directives.specs.declared.work.Pre.{Pre}
use Rattle.c_directives.specs.Reads.{Read, At, Asks, broken, Says, ◌>>=◌}
use Rattle.c_directives.specs.Texts.{Work, place_of}
use Rattle.c_directives.specs.Headers.{header_text}
use Rattle.c_directives.specs.Directives.{define_at, undefine_at}
use Rattle.c_directives.specs.Conditions.{Name, header_at, most_tokens}
use Rattle.c_directives.specs.Reading.{State, Stand, Opens, Including, with_macros, act_at, line_at, lines_at, file_at, most_bytes, end_of, end_at, first_place, with_opens}
use Rattle.c_directives.specs.Sorting.{state_of, work_of, Sorted}
use Rattle.c_pre.specs.Files.{Answers, Gives, StopCounts, StopStrays, include_at, built_in, fault_of, FaultCounts, FaultStrays, IsOfRule, Told, expanded_at, out_of, start, most_deep}

pub gives_same : {A B : Type 0} (r : Result A Stop) (view : ℕ → B) (run other : ℕ → Read B) → ((k : ℕ) → run k ≡ other k) → Gives r view other → Gives r view run
gives_same r view run other e (used, h) = (used, λ k. subst (λ x. Answers r k (λ _. view k) x) (sym (e (used + k))) (h k))

pub gives_plain : {A B : Type 0} (r : Result A Stop) (view : ℕ → B) (run : ℕ → Read B) → ((k : ℕ) → Answers r k (λ _. view k) (run k)) → Gives r view run
gives_plain r view run h = (0, λ k. subst (λ n. Answers r k (λ _. view k) (run n)) (sym (zero-add k)) (h k))

-- ---- directives that read no file

pub says_counts : {A B : Type 0} (r : Result A Stop) (view : A → B) (x : Read B) (n : ℕ) → Says r view x → StopCounts r n n
says_counts (Ok x) view y n h = refl
says_counts (Err stop.Memory) view y n h = refl
says_counts (Err (stop.Library name)) view y n h = absurd h
says_counts (Err (stop.At f)) view y n h = refl

pub macros_answer : {A : Type 0} (r : Result A Stop) (ms : Macros) (rd : Read Macros) (s : State) (k : ℕ) → Says r (λ _. ms) rd → Answers r k (λ _. record s { work = record { macros = ms; out = s.work.out } }) (with_macros s rd)
macros_answer (Ok x) ms rd s k h = ap (with_macros s) h
macros_answer (Err stop.Memory) ms rd s k h = tt
macros_answer (Err (stop.Library name)) ms rd s k h = absurd h
macros_answer (Err (stop.At f)) ms rd s k h = ap (with_macros s) h

module _ (including : Including) (h : Head) (s : State) (p : Place) (tail : List Lexeme) where
  pub acts_include : h ≡ head.Include → act_at including h s p tail ≡ (header_at s.work.macros p tail >>= λ n. including s n p)
  unfolding act_at
  acts_include e = rw e refl

  pub acts_define : h ≡ head.Define → act_at including h s p tail ≡ with_macros s (define_at s.work.macros p tail)
  unfolding act_at
  acts_define e = rw e refl

  pub acts_undef : h ≡ head.Undef → act_at including h s p tail ≡ with_macros s (undefine_at s.work.macros p tail)
  unfolding act_at
  acts_undef e = rw e refl

  pub acts_error : h ≡ head.Error → act_at including h s p tail ≡ broken rule.Error p
  unfolding act_at
  acts_error e = rw e refl

  pub acts_unknown : h ≡ head.Unknown → act_at including h s p tail ≡ broken rule.Form p
  unfolding act_at
  acts_unknown e = rw e refl

pub says_strays : {A B : Type 0} (r : Result A Stop) (view : A → B) (x : Read B) (files : List (List ℕ × List ℕ)) (n : ℕ) → Says r view x → StopStrays r files n n
says_strays (Ok x) view y files n h = refl
says_strays (Err stop.Memory) view y files n h = tt
says_strays (Err (stop.Library name)) view y files n h = absurd h
says_strays (Err (stop.At f)) view y files n h = refl

pub broken_answer : {A B : Type 0} (x : Stop) (r : Rule) (p : Place) (k : ℕ) (view : A → B) → x ≡ stop.At (record { place = p; rule = r }) → Answers {A = A} (Err x) k view (broken r p)
broken_answer {A} x r p k view e = let P : Stop → Type 0 = λ y. Answers {A = A} (Err y) k view (broken r p) in subst P (sym e) refl

pub bind_fails : {A B C D : Type 0} (x : Stop) (see : A → B) (r : Read B) (f : B → Read D) (k : ℕ) (view : C → D) → Says {A = A} (Err x) see r → Answers {A = C} (Err x) k view (r >>= f)
bind_fails stop.Memory see r f k view h = tt
bind_fails (stop.Library name) see r f k view h = absurd h
bind_fails (stop.At x) see r f k view h = ap (λ r. r >>= f) h

pub bind_counts : {A B : Type 0} (C : Type 0) (x : Stop) (see : A → B) (r : Read B) (n : ℕ) → Says {A = A} (Err x) see r → StopCounts {A = C} (Err x) n n
bind_counts C stop.Memory see r n h = refl
bind_counts C (stop.Library name) see r n h = absurd h
bind_counts C (stop.At x) see r n h = refl

pub bind_strays : {A B : Type 0} (C : Type 0) (x : Stop) (see : A → B) (r : Read B) (files : List (List ℕ × List ℕ)) (n : ℕ) → Says {A = A} (Err x) see r → StopStrays {A = C} (Err x) files n n
bind_strays C stop.Memory see r files n h = tt
bind_strays C (stop.Library name) see r files n h = absurd h
bind_strays C (stop.At x) see r files n h = refl

pub acts_other : (including : Including) (h : Head) (s : State) (p : Place) (tail : List Lexeme) → (h ≡ head.Include → ⊥) → (h ≡ head.Define → ⊥) → (h ≡ head.Undef → ⊥) → (h ≡ head.Error → ⊥) → (h ≡ head.Unknown → ⊥)
    → act_at including h s p tail ≡ Ok s
unfolding act_at
acts_other including head.Include s p tail a b c d e = absurd (a refl)
acts_other including head.Define s p tail a b c d e = absurd (b refl)
acts_other including head.Undef s p tail a b c d e = absurd (c refl)
acts_other including head.Error s p tail a b c d e = absurd (d refl)
acts_other including head.Unknown s p tail a b c d e = absurd (e refl)
acts_other including head.Text s p tail a b c d e = refl
acts_other including head.Null s p tail a b c d e = refl
acts_other including head.If s p tail a b c d e = refl
acts_other including head.Ifdef s p tail a b c d e = refl
acts_other including head.Ifndef s p tail a b c d e = refl
acts_other including head.Elif s p tail a b c d e = refl
acts_other including head.Else s p tail a b c d e = refl
acts_other including head.Endif s p tail a b c d e = refl
acts_other including head.Pragma s p tail a b c d e = refl

-- ---- files

abbrev pub stand : Work → ℕ → State
stand w k = record { work = w; calls = k }

module _ (files : List (List ℕ × List ℕ)) (limit : ℕ) (w : Work) (p : Place) where
  pub too_deep : (h : Name) (depth k : ℕ) → depth ≡ 0 → include_at files limit depth (stand w k) h p ≡ broken rule.Header p
  unfolding include_at
  too_deep h depth k e = rw e refl

  pub no_header : (name : List ℕ) (depth k : ℕ) → (depth ≡ 0 → ⊥) → header_text name ≡ None → include_at files limit depth (stand w k) (Angle, name) p ≡ broken rule.Header p
  unfolding include_at
  no_header name zero k ne e = absurd (ne refl)
  no_header name (suc d) k ne e = ap (λ (o : Option (List ℕ)). built_in o p (λ bytes. file_at (include_at files limit d) limit (Included p) (stand w k) bytes)) e

  pub read_header : (name : List ℕ) (depth d : ℕ) → depth ≡ suc d → (bytes : List ℕ) → header_text name ≡ Some bytes → {A : Type 0} (r : Result A Stop) (view : ℕ → State)
      → Gives r view (λ k. file_at (include_at files limit d) limit (Included p) (stand w k) bytes) → Gives r view (λ k. include_at files limit depth (stand w k) (Angle, name) p)
  unfolding include_at
  read_header name depth d de bytes found r view g =
      let step : (k : ℕ) → include_at files limit depth (stand w k) (Angle, name) p ≡ file_at (include_at files limit d) limit (Included p) (stand w k) bytes
      = λ k. rw (de, found) refl in
      gives_same r view (λ k. include_at files limit depth (stand w k) (Angle, name) p) (λ k. file_at (include_at files limit d) limit (Included p) (stand w k) bytes) step g

  pub no_call : (name : List ℕ) (depth k : ℕ) → (depth ≡ 0 → ⊥) → k ≡ 0 → include_at files limit depth (stand w k) (Quote, name) p ≡ Err (Asks name)
  unfolding include_at
  no_call name zero k ne e = absurd (ne refl)
  no_call name (suc d) k ne e = rw e refl

  pub read_file : (name : List ℕ) (depth d : ℕ) → depth ≡ suc d → (bytes : List ℕ) → listed files name ≡ Some bytes → {A : Type 0} (r : Result A Stop) (view : ℕ → State)
      → Gives r view (λ k. file_at (include_at files limit d) limit (Included p) (stand w k) bytes) → Gives r view (λ k. include_at files limit depth (stand w k) (Quote, name) p)
  unfolding include_at
  read_file name depth d de bytes found r view (used, h) =
      let step : (k : ℕ) → include_at files limit depth (stand w ((used + 1) + k)) (Quote, name) p ≡ file_at (include_at files limit d) limit (Included p) (stand w (used + k)) bytes
      = λ k. let n : (used + 1) + k ≡ suc (used + k) = omega arith in rw (de, n, found) refl in
      (used + 1, λ k. subst (λ x. Answers r k (λ _. view k) x) (sym (step k)) (h k))

pub found_bytes : (o : Option (List ℕ)) (v : Vec ℕ Global) (a b : ℕ) → ReadGives o (Ok v) a b → o ≡ Some v.items
found_bytes None v a b g = absurd g
found_bytes (Some bytes) v a b g = ap Some (sym g.0)

pub told : {B : Type 0} (o : Option B) (fs : B) (P : B → Type 0) → o ≡ Some fs → IfSome o P → P fs
told None fs P e h = cc
told (Some x) fs P e h = let same : x ≡ fs = cc in subst P same h

-- ---- lines that are acted on

pub sorts_counts : (A : Type 0) (x : Stop) (k : ℕ) (pre pre' : Pre) (os os' : Opens) (including : Including) (r : Read Stand) (n : ℕ) → Sorted (Err x) k pre pre' os os' including r → StopCounts {A = A} (Err x) n n
sorts_counts A stop.Memory k pre pre' os os' including r n h = refl
sorts_counts A (stop.Library name) k pre pre' os os' including r n h = absurd h
sorts_counts A (stop.At f) k pre pre' os os' including r n h = refl

pub sorts_strays : (A : Type 0) (x : Stop) (k : ℕ) (pre pre' : Pre) (os os' : Opens) (including : Including) (r : Read Stand) (files : List (List ℕ × List ℕ)) (n : ℕ) → Sorted (Err x) k pre pre' os os' including r → StopStrays {A = A} (Err x) files n n
sorts_strays A stop.Memory k pre pre' os os' including r files n h = tt
sorts_strays A (stop.Library name) k pre pre' os os' including r files n h = absurd h
sorts_strays A (stop.At f) k pre pre' os os' including r files n h = refl

pub sort_fails : {A : Type 0} (x : Stop) (k : ℕ) (pre pre' : Pre) (os os' : Opens) (including : Including) (r : Read Stand) (view : A → Stand) → Sorted (Err x) k pre pre' os os' including r → Answers {A = A} (Err x) k view r
sort_fails stop.Memory k pre pre' os os' including r view h = tt
sort_fails (stop.Library name) k pre pre' os os' including r view h = absurd h
sort_fails (stop.At f) k pre pre' os os' including r view h = h

pub sorted_none : (o : Option Action) (k : ℕ) (pre pre' : Pre) (os os' : Opens) (including : Including) (r : Read Stand) → o ≡ None → Sorted (Ok o) k pre pre' os os' including r → r ≡ Ok (os', state_of k pre')
sorted_none None k pre pre' os os' including r e h = h
sorted_none (Some a) k pre pre' os os' including r e h = cc

pub sorted_some : (o : Option Action) (a : Action) (k : ℕ) (pre pre' : Pre) (os os' : Opens) (including : Including) (r : Read Stand) → o ≡ Some a → Sorted (Ok o) k pre pre' os os' including r → Sorted (Ok (Some a)) k pre pre' os os' including r
sorted_some o a k pre pre' os os' including r e h = let P : Option Action → Type 0 = λ o. Sorted (Ok o) k pre pre' os os' including r in subst P e h

-- what the line gives is what the directive gives
pub act_gives : {A : Type 0} (x : Result A Stop) (k : ℕ) (os os' : Opens) (act : Read State) (r : Read Stand) (s : State) → os' ≡ os → r ≡ with_opens os act → Answers x k (λ _. s) act → Answers x k (λ _. (os', s)) r
act_gives (Ok y) k os os' act r s oe re a = re ∙ ap (with_opens os) a ∙ ap (λ (o : Opens). Ok (o, s)) (sym oe)
act_gives (Err stop.Memory) k os os' act r s oe re a = tt
act_gives (Err (stop.Library name)) k os os' act r s oe re a = λ z. re ∙ ap (with_opens os) (a z)
act_gives (Err (stop.At f)) k os os' act r s oe re a = re ∙ ap (with_opens os) a

-- ---- lines

pub line_first : (including : Including) (limit : ℕ) (origin : Origin) (x : Stand) (r : Row) (rs : List Row) → lines_at including limit origin x (r ∷ rs) ≡ (line_at including limit origin x r >>= λ x. lines_at including limit origin x rs)
unfolding lines_at
line_first including limit origin x r rs = refl

pub lines_end : (including : Including) (limit : ℕ) (origin : Origin) (x : Stand) → lines_at including limit origin x [] ≡ end_at x
unfolding lines_at
lines_end including limit origin x = refl

-- what was read so far, and what is behind
abbrev pub SoFar : (ℕ → Read State) → (ℕ → Read State) → Type 0
SoFar rest all = (used : ℕ) × ((k : ℕ) → rest k ≡ all (used + k))

pub so_far_more : (rest rest' all : ℕ → Read State) (more : ℕ) → ((k : ℕ) → rest (more + k) ≡ rest' k) → SoFar rest all → SoFar rest' all
so_far_more rest rest' all more e (used, h) = (used + more, λ k. sym (e k) ∙ h (more + k) ∙ ap all (sym (add_assoc used more k)))

pub so_far_gives : {A : Type 0} (r : Result A Stop) (view : ℕ → State) (rest all : ℕ → Read State) → SoFar rest all → Gives r view rest → Gives r view all
so_far_gives r view rest all (used, h) (more, g) =
    (used + more, λ k. subst (λ x. Answers r k (λ _. view k) x) (h (more + k) ∙ ap all (sym (add_assoc used more k))) (g k))

module _ (including : Including) (limit : ℕ) (origin : Origin) (x : Stand) (ls : List Row) (row : Row) (behind : List Row) (e : ls ≡ row ∷ behind) where
  all_is : lines_at including limit origin x ls ≡ (line_at including limit origin x row >>= λ y. lines_at including limit origin y behind)
  all_is = ap (lines_at including limit origin x) e ∙ line_first including limit origin x row behind

  pub row_read : (y : Stand) → line_at including limit origin x row ≡ Ok y → lines_at including limit origin x ls ≡ lines_at including limit origin y behind
  row_read y h = all_is ∙ ap (λ r. r >>= λ y. lines_at including limit origin y behind) h

  pub row_fails : (A : Type 0) (y : Stand) (view : State) (k : ℕ) (f : Stop) → Answers {A = A} (Err f) k (λ _. y) (line_at including limit origin x row) → Answers {A = A} (Err f) k (λ _. view) (lines_at including limit origin x ls)
  row_fails A y view k stop.Memory a = tt
  row_fails A y view k (stop.Library name) a = λ z. all_is ∙ ap (λ r. r >>= λ y. lines_at including limit origin y behind) (a z)
  row_fails A y view k (stop.At f) a = all_is ∙ ap (λ r. r >>= λ y. lines_at including limit origin y behind) a

no_rows : (ls : List Lexeme) → length ls ≡ 0 → rows ls ≡ []
unfolding rows
no_rows [] e = refl
no_rows (l ∷ ls) e = cc

pub lines_over : (including : Including) (limit : ℕ) (origin : Origin) (os : Opens) (s : State) (ls : List Lexeme) (o : Option Place) → length ls ≡ 0 → o ≡ first_place os → lines_at including limit origin (os, s) (rows ls) ≡ end_of s o
lines_over including limit origin os s ls o e h = ap (lines_at including limit origin (os, s)) (no_rows ls e) ∙ lines_end including limit origin (os, s) ∙ ap (end_of s) (sym h)

-- ---- whole files

pick_true : {A : Type 0} (b : Bool) (x y : A) → b ≡ true → cond b x y ≡ x
pick_true b x y e = rw e refl

pick_false : {A : Type 0} (b : Bool) (x y : A) → b ≡ false → cond b x y ≡ y
pick_false b x y e = rw e refl

module _ (including : Including) (limit : ℕ) (origin : Origin) (s : State) (bytes : List ℕ) where
  pub file_large : most_bytes < length bytes → file_at including limit origin s bytes ≡ broken rule.TooMany (place_of origin (record { line = 1; column = 1 }))
  unfolding file_at
  file_large h = pick_true (ltb most_bytes (length bytes)) (broken rule.TooMany (place_of origin (record { line = 1; column = 1 }))) (lines_at including limit origin ([], s) (rows (lexemes_in bytes))) (lt-ltb most_bytes (length bytes) h)

  pub file_small : length bytes ≤ most_bytes → (ls : List Lexeme) → ls ≡ lexemes_in bytes → file_at including limit origin s bytes ≡ lines_at including limit origin ([], s) (rows ls)
  unfolding file_at
  file_small h ls e =
      pick_false (ltb most_bytes (length bytes)) (broken rule.TooMany (place_of origin (record { line = 1; column = 1 }))) (lines_at including limit origin ([], s) (rows (lexemes_in bytes))) (le-ltb most_bytes (length bytes) h)
      ∙ ap (λ (l : List Lexeme). lines_at including limit origin ([], s) (rows l)) (sym e)

-- ---- what is told of a file

pub told_counts : (x : Stop) (a b : ℕ) → StopCounts {A = Unit {0}} (Err x) a b → FaultCounts (Err (fault_of x)) a b
told_counts stop.Memory a b h = h
told_counts (stop.Library name) a b h = h
told_counts (stop.At f) a b h = h

pub told_strays : (x : Stop) (files : List (List ℕ × List ℕ)) (a b : ℕ) → StopStrays {A = Unit {0}} (Err x) files a b → FaultStrays (Err (fault_of x)) files a b
told_strays stop.Memory files a b h = tt
told_strays (stop.Library name) files a b h = h
told_strays (stop.At f) files a b h = h

module _ (files : List (List ℕ × List ℕ)) (file before : ℕ) (bytes : List ℕ) (w : Work) (limit : ℕ) (we : w ≡ record { macros = no_macros; out = [] }) (le : limit ≡ most_tokens - before) where
  begins : (k : ℕ) → expanded_at files file before bytes k ≡ out_of (file_at (include_at files limit most_deep) limit (Named file) (stand w k) bytes)
  unfolding expanded_at
  begins k = ap (λ (n : ℕ). out_of (file_at (include_at files n most_deep) n (Named file) (start k) bytes)) (sym le) ∙ ap (λ (v : Work). out_of (file_at (include_at files limit most_deep) limit (Named file) (stand v k) bytes)) (sym we)

  pub all_given : (k j : ℕ) (s : State) (tokens : Vec CSpanned Global) → s.work.out ≡ tokens.items → file_at (include_at files limit most_deep) limit (Named file) (stand w j) bytes ≡ Ok s → Told (Ok tokens) k (expanded_at files file before bytes j)
  all_given k j s tokens e h = begins j ∙ ap out_of h ∙ ap Ok e

  pub all_fails : (k j : ℕ) (f : Stop) (view : State) → Answers {A = Unit {0}} (Err f) k (λ _. view) (file_at (include_at files limit most_deep) limit (Named file) (stand w j) bytes) → Told (Err (fault_of f)) k (expanded_at files file before bytes j)
  all_fails k j stop.Memory view a = tt
  all_fails k j (stop.Library name) view a = λ z. begins j ∙ ap out_of (a z)
  all_fails k j (stop.At f) view a = (f, begins j ∙ ap out_of a, refl, refl)

pub told_rule : (x : Stop) → IsOfRule (Err (fault_of x))
told_rule stop.Memory = tt
told_rule (stop.Library name) = tt
told_rule (stop.At f) = (f.rule, refl)
