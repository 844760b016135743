-- The program's units, one by one.
use Rattle.std.proofs.Common.{ℕ, List, [], ◌∷◌, ◌++◌, ◌+◌, ◌-◌, ◌≡◌, ◌≤◌, refl, sym, ◌∙◌, ap, append_assoc, subst, arith}
use Rattle.std.specs.Prelude.{Option, Some, None, nat_le, if◌then◌else◌, Bool, true, false, pos}
use Rattle.std.specs.List.{flat_map}
use Rattle.std.proofs.lemmas.Bool.{le-leb, leb-true}
use Rattle.behaviour.specs.Behaviour as B
use Rattle.behaviour.specs.Behaviour.{Frames, Objects}
use Rattle.jf_base.specs.declared.place.Limits.{Limits}
use Rattle.first_form.specs.declared.program.FirstProgram.{FirstProgram}
use Rattle.first_form.specs.declared.program.PutcharArgument.{PutcharArgument}
use Rattle.work.specs.Units.{unit}
use Rattle.work.specs.Work.{Returned, Work, Over, Do, Call, Running, Stopped, Limited, Counted, EndsRun}
use Rattle.work.specs.Run.{World, told, Run, over, does, Back, with_memory, result_of, whole, seen}
use Rattle.work.specs.Whole.{free, through, from}
use Rattle.work.proofs.Whole.{free_do, free_call, whole_is, unit_same}
use Rattle.first_meaning.specs.Charges.{main_tokens, function_tokens, frame, charge}
use Rattle.first_meaning.specs.Joint.{Act, Make, Finish, Putchar, Give, Charged, leave, rules_of, byte_of, put_all, body, function, call_all, main, joint}
use Rattle.first_meaning.specs.Units.{put_units, call_units, units_of, seen_until, seen_of_units, FitsIn, Course, course_of_calls, course_of}
use Rattle.first_meaning.proofs.Shows.{Shows, shows_by, shows_unit, shows_end}

abbrev pub Nothing : Type 0
Nothing = Unit {0}

module _ (p : FirstProgram) (l : Limits) (input : List ℕ) where
  abbrev doing : Work Act ℕ Nothing → Back ℕ Charged Nothing → World Charged → Run Nothing
  doing c back w = free (rules_of l) (λ _. function p) c back w

  -- where the run stands, with this output and these charges
  abbrev at : (frames objects : ℕ) → List ℕ → World Charged
  at frames objects output = record { memory = record { frames = frames; objects = objects }; unread = input; taken = 0; output = output }

  -- each putchar is a unit, and so is its byte
  puts_show : (e : B.Ending) (c : ℕ) (puts : List PutcharArgument) (k : ℕ → Work Act ℕ Nothing) (back : Back ℕ Charged Nothing) (f o : ℕ) (us : List (Option ℕ))
      → ((output : List ℕ) → Shows (doing (k 0) back (at f o output)) e output us)
      → (output : List ℕ) → Shows (doing (put_all c puts k) back (at f o output)) e output (flat_map (put_units c) puts ++ us)
  puts_show e c [] k back f o us h output = h output
  puts_show e c (a ∷ rest) k back f o us h output =
      let w = at f o output in
      let w' = at f o (output ++ byte_of c a ∷ []) in
      let give_it : Work Act ℕ Nothing = Do tt (Give (byte_of c a)) (λ _. put_all c rest k) in
      shows_by (doing (put_all c (a ∷ rest) k) back w) (unit (told w Running) (doing give_it back w)) e output (flat_map (put_units c) (a ∷ rest) ++ us)
      (free_do (rules_of l) (λ _. function p) tt Putchar (λ _. give_it) back w)
      (shows_unit (told w Running) (doing give_it back w) e output None (Some (byte_of c a) ∷ (flat_map (put_units c) rest ++ us)) refl
      (shows_by (doing give_it back w) (unit (told w Running) (doing (put_all c rest k) back w')) e output (Some (byte_of c a) ∷ (flat_map (put_units c) rest ++ us))
      (free_do (rules_of l) (λ _. function p) tt (Give (byte_of c a)) (λ _. put_all c rest k) back w)
      (shows_unit (told w Running) (doing (put_all c rest k) back w') e output (Some (byte_of c a)) (flat_map (put_units c) rest ++ us) refl
      (puts_show e c rest k back f o us h (output ++ byte_of c a ∷ [])))))

  -- the function called with c, where its parameter's charge passes no limit
  body_shows : (e : B.Ending) (c : ℕ) (k : ℕ → Work Act ℕ Nothing) (back : Back ℕ Charged Nothing) (f : ℕ) (us : List (Option ℕ)) → charge 4 ≤ l.objects
      → ((output : List ℕ) → Shows (doing (k 0) back (at f 0 output)) e output us)
      → (output : List ℕ) → Shows (doing (body p.puts c k) back (at f 0 output)) e output (None ∷ (flat_map (put_units c) p.puts ++ None ∷ us))
  body_shows e c k back f us fits h output =
      let w = at f 0 output in
      let w' = at f (charge 4) output in
      let end_it : Work Act ℕ Nothing = Do tt (Finish 4) k in
      let rest : Work Act ℕ Nothing = put_all c p.puts (λ _. end_it) in
      shows_by (doing (body p.puts c k) back w) (unit (told w Running) (doing rest back w')) e output (None ∷ (flat_map (put_units c) p.puts ++ None ∷ us))
      (λ n. free_do (rules_of l) (λ _. function p) tt (Make 4) (λ _. rest) back w n ∙ made (nat_le (charge 4) l.objects) (le-leb (charge 4) l.objects fits) n)
      (shows_unit (told w Running) (doing rest back w') e output None (flat_map (put_units c) p.puts ++ None ∷ us) refl
      (puts_show e c p.puts (λ _. end_it) back f (charge 4) (None ∷ us)
      (λ output'. shows_by (doing end_it back (at f (charge 4) output')) (unit (told (at f (charge 4) output') Running) (doing (k 0) back (at f 0 output'))) e output' (None ∷ us)
      (free_do (rules_of l) (λ _. function p) tt (Finish 4) k back (at f (charge 4) output'))
      (shows_unit (told (at f (charge 4) output') Running) (doing (k 0) back (at f 0 output')) e output' None us refl (h output'))) output))
    where
      made : (b : Bool) → b ≡ true → (n : ℕ) → does {V = ℕ} (if b then Counted 0 (record { frames = f; objects = charge 4 }) else EndsRun (Limited Objects)) (at f 0 output) (λ _. doing (put_all c p.puts (λ _. Do tt (Finish 4) k)) back) n
          ≡ unit (told (at f 0 output) Running) (doing (put_all c p.puts (λ _. Do tt (Finish 4) k)) back (at f (charge 4) output)) n
      made true _ n = refl
      made false q n = absurd (cc)

  -- a call, where neither its frame nor its parameter passes a limit
  call_shows : (e : B.Ending) (c : ℕ) (k : List ℕ → Work Act ℕ Nothing) (back : Back ℕ Charged Nothing) (f : ℕ) (us : List (Option ℕ)) → f + frame (function_tokens p) ≤ l.frames → charge 4 ≤ l.objects
      → ((results output : List ℕ) → Shows (doing (k results) back (at f 0 output)) e output us)
      → (output : List ℕ) → Shows (doing (Call 0 (c ∷ []) k) back (at f 0 output)) e output (call_units p.puts c ++ us)
  call_shows e c k back f us within fits h output =
      let g = frame (function_tokens p) in
      let w = at f 0 output in
      let inner : Run Nothing = doing (body p.puts c (λ _. Over (Returned []))) returns (at (f + g) 0 output) in
      shows_by (doing (Call 0 (c ∷ []) k) back w) (unit (told w Running) inner) e output (call_units p.puts c ++ us)
      (λ n. free_call (rules_of l) (λ _. function p) 0 (c ∷ []) k back w n ∙ entered (nat_le (f + g) l.frames) (le-leb (f + g) l.frames within) n)
      (shows_unit (told w Running) inner e output None (None ∷ ((flat_map (put_units c) p.puts ++ None ∷ []) ++ us)) refl
      (subst (λ rest. Shows inner e output (None ∷ rest)) (sym (append_assoc (flat_map (put_units c) p.puts) (None ∷ []) us))
      (body_shows e c (λ _. Over (Returned [])) returns (f + g) us fits returned output)))
    where
      returns : Back ℕ Charged Nothing
      returns = λ o w'. doing (k (result_of o)) back (with_memory w' (leave (frame (function_tokens p)) w'.memory))

      entered : (b : Bool) → b ≡ true → (n : ℕ)
          → through (rules_of l) (λ _. function p) (function p) (c ∷ []) (at f 0 output) (λ v. doing (k v) back) (if b then Some (record { frames = f + frame (function_tokens p); objects = 0 }) else None) n
          ≡ unit (told (at f 0 output) Running) (doing (body p.puts c (λ _. Over (Returned []))) returns (at (f + frame (function_tokens p)) 0 output)) n
      entered true _ n = refl
      entered false q n = absurd (cc)

      returned : (output' : List ℕ) → Shows (doing (Over (Returned [])) returns (at (f + frame (function_tokens p)) 0 output')) e output' us
      returned output' =
          let back_at : f + frame (function_tokens p) - frame (function_tokens p) ≡ f = omega arith in
          subst (λ x. Shows (doing (k []) back (at x 0 output')) e output' us) (sym back_at) (h [] output')

  -- the end of the program
  abbrev ends : Back ℕ Charged Nothing
  ends o w = over w (Stopped (pos 0))

  calls_show : (cs : List ℕ) (f : ℕ) → f + frame (function_tokens p) ≤ l.frames → charge 4 ≤ l.objects
      → (output : List ℕ) → Shows (doing (call_all cs (λ _. Over (Returned []))) ends (at f 0 output)) (B.Stopped (pos 0)) output (flat_map (call_units p.puts) cs)
  calls_show [] f within fits output = shows_end (at f 0 output) (Stopped (pos 0)) refl
  calls_show (c ∷ cs) f within fits output =
      call_shows (B.Stopped (pos 0)) c (λ _. call_all cs (λ _. Over (Returned []))) ends f (flat_map (call_units p.puts) cs) within fits (λ results output'. calls_show cs f within fits output') output

  -- a call whose frame passes the limit
  frame_limit : (c : ℕ) (k : List ℕ → Work Act ℕ Nothing) (f : ℕ) (output : List ℕ) → nat_le (f + frame (function_tokens p)) l.frames ≡ false
      → Shows (doing (Call 0 (c ∷ []) k) ends (at f 0 output)) (B.Limited Frames) output []
  frame_limit c k f output passes =
      shows_by (doing (Call 0 (c ∷ []) k) ends (at f 0 output)) (over (at f 0 output) (Limited Frames)) (B.Limited Frames) output []
      (λ n. free_call (rules_of l) (λ _. function p) 0 (c ∷ []) k ends (at f 0 output) n ∙ refused (nat_le (f + frame (function_tokens p)) l.frames) passes n)
      (shows_end (at f 0 output) (Limited Frames) refl)
    where
      refused : (b : Bool) → b ≡ false → (n : ℕ)
          → through (rules_of l) (λ _. function p) (function p) (c ∷ []) (at f 0 output) (λ v. doing (k v) ends) (if b then Some (record { frames = f + frame (function_tokens p); objects = 0 }) else None) n
          ≡ over (at f 0 output) (Limited Frames) n
      refused true q n = absurd (cc)
      refused false _ n = refl

  -- a call whose parameter passes the limit
  object_limit : (c : ℕ) (k : List ℕ → Work Act ℕ Nothing) (f : ℕ) (output : List ℕ) → f + frame (function_tokens p) ≤ l.frames → nat_le (charge 4) l.objects ≡ false
      → Shows (doing (Call 0 (c ∷ []) k) ends (at f 0 output)) (B.Limited Objects) output (None ∷ [])
  object_limit c k f output within passes =
      shows_by (doing (Call 0 (c ∷ []) k) ends (at f 0 output)) (unit (told (at f 0 output) Running) (over inside (Limited Objects))) (B.Limited Objects) output (None ∷ [])
      (λ n. free_call (rules_of l) (λ _. function p) 0 (c ∷ []) k ends (at f 0 output) n ∙ entered (nat_le (f + frame (function_tokens p)) l.frames) (le-leb (f + frame (function_tokens p)) l.frames within) n)
      (shows_unit (told (at f 0 output) Running) (over inside (Limited Objects)) (B.Limited Objects) output None [] refl (shows_end inside (Limited Objects) refl))
    where
      inside : World Charged
      inside = at (f + frame (function_tokens p)) 0 output

      returns : Back ℕ Charged Nothing
      returns = λ o w'. doing (k (result_of o)) ends (with_memory w' (leave (frame (function_tokens p)) w'.memory))

      rest : Work Act ℕ Nothing
      rest = put_all c p.puts (λ _. Do tt (Finish 4) (λ _. Over (Returned [])))

      refused : (b : Bool) → b ≡ false → (n : ℕ) → does {V = ℕ} (if b then Counted 0 (record { frames = f + frame (function_tokens p); objects = charge 4 }) else EndsRun (Limited Objects)) inside (λ _. doing rest returns) n ≡ over inside (Limited Objects) n
      refused true q n = absurd (cc)
      refused false _ n = refl

      entered : (b : Bool) → b ≡ true → (n : ℕ)
          → through (rules_of l) (λ _. function p) (function p) (c ∷ []) (at f 0 output) (λ v. doing (k v) ends) (if b then Some (record { frames = f + frame (function_tokens p); objects = 0 }) else None) n
          ≡ unit (told (at f 0 output) Running) (over inside (Limited Objects)) n
      entered true _ n =
          unit_same (told (at f 0 output) Running) (doing (body p.puts c (λ _. Over (Returned []))) returns inside) (over inside (Limited Objects))
          (λ m. free_do (rules_of l) (λ _. function p) tt (Make 4) (λ _. rest) returns inside m ∙ refused (nat_le (charge 4) l.objects) passes m) n
      entered false q n = absurd (cc)

  abbrev main_frame : ℕ
  main_frame = frame (main_tokens p)

  abbrev calls_done : List ℕ → Run Nothing
  calls_done cs = doing (call_all cs (λ _. Over (Returned []))) ends (at main_frame 0 [])

  abbrev Does : Run Nothing → Course → Type 0
  Does r c = Shows r c.end [] c.units

  calls_course : (cs : List ℕ) → Does (calls_done cs) (course_of_calls p l cs)
  calls_course [] = shows_end (at main_frame 0 []) (Stopped (pos 0)) refl
  calls_course (c ∷ cs) = go (nat_le (main_frame + frame (function_tokens p)) l.frames) refl (nat_le (charge 4) l.objects) refl
    where
      go : (b : Bool) → nat_le (main_frame + frame (function_tokens p)) l.frames ≡ b → (b' : Bool) → nat_le (charge 4) l.objects ≡ b'
          → Does (calls_done (c ∷ cs)) (if b then (if b' then record { units = flat_map (call_units p.puts) (c ∷ cs); end = B.Stopped (pos 0) } else record { units = None ∷ []; end = B.Limited Objects }) else record { units = []; end = B.Limited Frames })
      go true e true e' = calls_show (c ∷ cs) main_frame (leb-true _ _ e) (leb-true _ _ e') []
      go true e false e' = object_limit c (λ _. call_all cs (λ _. Over (Returned []))) main_frame [] (leb-true _ _ e) e'
      go false e b' e' = frame_limit c (λ _. call_all cs (λ _. Over (Returned []))) main_frame [] e

  begins : (b : Bool) → nat_le main_frame l.frames ≡ b
      → (n : ℕ) → whole (rules_of l) (λ _. function p) (main p) (record { frames = 0; objects = 0 }) input n ≡ (if b then calls_done p.calls else over (at 0 0 []) (Limited Frames)) n
  begins b e n =
      let zero_on : main_frame ≡ 0 + main_frame = omega arith in
      whole_is (rules_of l) (λ _. function p) (main p) (record { frames = 0; objects = 0 }) input n
      ∙ subst (λ f. from (rules_of l) (λ _. function p) (main p) (at 0 0 []) (if nat_le f l.frames then Some (record { frames = f; objects = 0 }) else None) n ≡ (if b then calls_done p.calls else over (at 0 0 []) (Limited Frames)) n) zero_on
      (subst (λ t. from (rules_of l) (λ _. function p) (main p) (at 0 0 []) (if t then Some (record { frames = main_frame; objects = 0 }) else None) n ≡ (if b then calls_done p.calls else over (at 0 0 []) (Limited Frames)) n) (sym e) (chosen b))
    where
      chosen : (b : Bool) → from (rules_of l) (λ _. function p) (main p) (at 0 0 []) (if b then Some (record { frames = main_frame; objects = 0 }) else None) n ≡ (if b then calls_done p.calls else over (at 0 0 []) (Limited Frames)) n
      chosen true = refl
      chosen false = refl

  -- what is seen under any limits
  pub course_seen : (n : ℕ) → joint p l input n ≡ seen_until (course_of p l).end [] (course_of p l).units n
  course_seen = go (nat_le main_frame l.frames) refl
    where
      go : (b : Bool) → nat_le main_frame l.frames ≡ b → Does (λ n. whole (rules_of l) (λ _. function p) (main p) (record { frames = 0; objects = 0 }) input n) (if b then course_of_calls p l p.calls else record { units = []; end = B.Limited Frames })
      go true e = shows_by (λ n. whole (rules_of l) (λ _. function p) (main p) (record { frames = 0; objects = 0 }) input n) (calls_done p.calls) _ [] _ (begins true e) (calls_course p.calls)
      go false e = shows_by (λ n. whole (rules_of l) (λ _. function p) (main p) (record { frames = 0; objects = 0 }) input n) (over (at 0 0 []) (Limited Frames)) _ [] _ (begins false e) (shows_end (at 0 0 []) (Limited Frames) refl)

  -- where no limit is met, the units come one by one
  pub units_seen : FitsIn p l → (n : ℕ) → joint p l input n ≡ seen_of_units (units_of p) n
  units_seen fits n =
      let fits_frames = fits.frames in
      let alone : main_frame ≤ l.frames = omega (arith, fits_frames) in
      ap seen (begins true (le-leb main_frame l.frames alone) n) ∙ calls_show p.calls main_frame fits.frames fits.objects [] n
