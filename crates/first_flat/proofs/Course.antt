-- The units of a program's structured code, one by one.
use Rattle.std.proofs.Common.{ℕ, zero, suc, pos, List, [], ◌∷◌, ◌++◌, ◌+◌, ◌-◌, ◌%◌, ◌≡◌, ◌≤◌, refl, sym, ◌∙◌, subst, arith}
use Rattle.std.specs.Prelude.{Option, Some, None, Bool, true, false, cond, map, nat_le, if◌then◌else◌}
use Rattle.std.specs.List.{flat_map}
use Rattle.std.proofs.lemmas.Bool.{le-leb, leb-true}
use Rattle.behaviour.specs.Behaviour.{Ending, Stopped, Limited, Frames, Behaviour}
use Rattle.first_form.specs.declared.program.FirstProgram.{FirstProgram}
use Rattle.first_form.specs.declared.program.PutcharArgument.{PutcharArgument}
use Rattle.first_form.specs.declared.program.PutcharArgument.TheVariants.{Parameter, Number}
use Rattle.work.specs.Units.{with_value}
use Rattle.first_meaning.specs.Charges.{main_tokens, function_tokens, frame}
use Rattle.first_meaning.specs.Units.{after_unit, seen_until, Course}
use Rattle.flat_ir.specs.Bytes.{Bytes}
use Rattle.flat_ir.specs.Placement.{Placement, Places, places, first_bytes}
use Rattle.flat_ir.specs.Tree.{Procedure}
use Rattle.flat_ir.specs.View.{stmts_of, procs_of}
use Rattle.flat_ir.specs.Flat.{World, Next, Back, Calls, over, on, wrong, meaning, returning, nowhere, calls_of, receiving, flat}
use Rattle.flat_ir.proofs.Depth.{deeper}
use Rattle.flat_ir.specs.declared.program.FlatStmt.TheVariants as S
use Rattle.flat_ir.specs.declared.program.FlatExpr.TheVariants as E
use Rattle.first_flat.specs.Lowered.{put_stmt, call_stmt, lowered}
use Rattle.first_flat.specs.Course.{given, calling, course_behind, begun, flat_course}

-- after this output the run shows these units, and then the end
abbrev pub Shows : Behaviour → Ending → List ℕ → List (Option ℕ) → Type 0
Shows r end output us = (n : ℕ) → r n ≡ seen_until end output us n

module _ (p : FirstProgram) (g : Placement) (input : List ℕ) where
  abbrev memory : Bytes
  memory = first_bytes g [] []

  abbrev known : Places
  known = places 2 0 g

  abbrev procs : List Procedure
  procs = procs_of (lowered p).procs

  -- where the run stands, with these charges and this output
  abbrev at : (frames : ℕ) → List ℕ → World
  at frames output = record { memory = memory; frames = frames; unread = input; taken = 0; output = output }

  unit_shows : (f : ℕ) (r : Behaviour) (end : Ending) (output : List ℕ) (u : Option ℕ) (us : List (Option ℕ)) → Shows r end (after_unit u output) us → Shows (on (at f output) r) end output (u ∷ us)
  unit_shows f r end output u us h zero = refl
  unit_shows f r end output u us h (suc n) = h n

  end_shows : (f : ℕ) (end : Ending) (output : List ℕ) → Shows (over (at f output) end) end output []
  end_shows f end output zero = refl
  end_shows f end output (suc n) = refl

  -- each putchar is the unit of its byte
  puts_show : (e : Ending) (c f : ℕ) (calls : Calls) (d : ℕ) (back : Back) (next : Next) (us : List (Option ℕ)) → ((output : List ℕ) → Shows (next (c ∷ []) (at f output)) e output us)
      → (puts : List PutcharArgument) (output : List ℕ) → Shows (meaning (stmts_of (map put_stmt puts)) known calls d back nowhere next (c ∷ []) (at f output)) e output (map (given c) puts ++ us)
  puts_show e c f calls d back next us h [] output = h output
  puts_show e c f calls d back next us h (Parameter ∷ puts) output =
      unit_shows f _ e output (Some (c % 256)) (map (given c) puts ++ us) (puts_show e c f calls d back next us h puts (output ++ (c % 256) ∷ []))
  puts_show e c f calls d back next us h (Number v ∷ puts) output =
      unit_shows f _ e output (Some (v % 256)) (map (given c) puts ++ us) (puts_show e c f calls d back next us h puts (output ++ (v % 256) ∷ []))

  abbrev function_frame : ℕ
  function_frame = frame (function_tokens p)

  -- a call of the function, where its frame passes no limit
  call_shows : (e : Ending) (c f d : ℕ) (next : Next) (us : List (Option ℕ)) → f + function_frame ≤ g.limits.frames → ((output : List ℕ) → Shows (next [] (at f output)) e output us)
      → (output : List ℕ) → Shows (calls_of procs known (suc d) 0 (c ∷ []) (at f output) (receiving [] [] next)) e output (calling p.puts c ++ us)
  call_shows e c f d next us within h output =
      entered (nat_le (f + function_frame) g.limits.frames) (le-leb (f + function_frame) g.limits.frames within)
    where
      back : Back
      back = returning function_frame (receiving [] [] next)

      inside : Behaviour
      inside = meaning (stmts_of (map put_stmt p.puts)) known (calls_of procs known d) d back nowhere (λ env w. back [] w) (c ∷ []) (at (f + function_frame) output)

      returned : (output : List ℕ) → Shows (back [] (at (f + function_frame) output)) e output us
      returned output =
          let back_at : f + function_frame - function_frame ≡ f = omega arith in
          subst (λ x. Shows (next [] (at x output)) e output us) (sym back_at) (h output)

      entered : (b : Bool) → b ≡ true → Shows (with_value (cond b (Some (at (f + function_frame) output)) None) (over (at f output) (Limited Frames))
          (λ w'. on (at f output) (meaning (stmts_of (map put_stmt p.puts)) known (calls_of procs known d) d back nowhere (λ env w. back [] w) (c ∷ []) w'))) e output (calling p.puts c ++ us)
      entered true _ = unit_shows f inside e output None (map (given c) p.puts ++ us) (puts_show e c (f + function_frame) (calls_of procs known d) d back (λ env w. back [] w) us returned p.puts output)
      entered false q = absurd (cc)

  -- a call whose frame passes the limit
  call_limited : (c f d : ℕ) (back : Back) (output : List ℕ) → nat_le (f + function_frame) g.limits.frames ≡ false → Shows (calls_of procs known (suc d) 0 (c ∷ []) (at f output) back) (Limited Frames) output []
  call_limited c f d back output passes = refused (nat_le (f + function_frame) g.limits.frames) passes
    where
      refused : (b : Bool) → b ≡ false → Shows (with_value (cond b (Some (at (f + function_frame) output)) None) (over (at f output) (Limited Frames))
          (λ w'. on (at f output) (meaning (stmts_of (map put_stmt p.puts)) known (calls_of procs known d) d (returning function_frame back) nowhere (λ env w. returning function_frame back [] w) (c ∷ []) w'))) (Limited Frames) output []
      refused true q = absurd (cc)
      refused false _ = end_shows f (Limited Frames) output

  -- the statements of the main program from these calls on
  abbrev main_from : ℕ → List ℕ → Back → Next → ℕ → List ℕ → Behaviour
  main_from d cs back next f output = meaning (stmts_of (map call_stmt cs ++ S.Stop (E.Number 0) ∷ [])) known (calls_of procs known (suc d)) (suc d) back nowhere next [] (at f output)

  calls_show : (d f : ℕ) (back : Back) (next : Next) → f + function_frame ≤ g.limits.frames → (cs : List ℕ) (output : List ℕ) → Shows (main_from d cs back next f output) (Stopped (pos 0)) output (flat_map (calling p.puts) cs)
  calls_show d f back next within [] output = end_shows f (Stopped (pos 0)) output
  calls_show d f back next within (c ∷ cs) output =
      call_shows (Stopped (pos 0)) c f d (λ env w. meaning (stmts_of (map call_stmt cs ++ S.Stop (E.Number 0) ∷ [])) known (calls_of procs known (suc d)) (suc d) back nowhere next env w) (flat_map (calling p.puts) cs) within
      (λ output. calls_show d f back next within cs output) output

  abbrev main_frame : ℕ
  main_frame = frame (main_tokens p)

  abbrev Does : Behaviour → Course → Type 0
  Does r c = Shows r c.end [] c.units

  calls_course : (d : ℕ) (back : Back) (next : Next) (cs : List ℕ) → Does (main_from d cs back next main_frame []) (course_behind p g.limits cs)
  calls_course d back next [] = end_shows main_frame (Stopped (pos 0)) []
  calls_course d back next (c ∷ cs) = go (nat_le (main_frame + function_frame) g.limits.frames) refl
    where
      main_with : Next
      main_with env w = meaning (stmts_of (map call_stmt cs ++ S.Stop (E.Number 0) ∷ [])) known (calls_of procs known (suc d)) (suc d) back nowhere next env w

      go : (b : Bool) → nat_le (main_frame + function_frame) g.limits.frames ≡ b
          → Does (main_from d (c ∷ cs) back next main_frame []) (if b then record { units = flat_map (calling p.puts) (c ∷ cs); end = Stopped (pos 0) } else record { units = []; end = Limited Frames })
      go true e = calls_show d main_frame back next (leb-true _ _ e) (c ∷ cs) []
      go false e = call_limited c main_frame d (receiving [] [] main_with) [] e

  -- the main program is entered
  entry_course : (d : ℕ) (back : Back) → Does (calls_of procs known (suc (suc d)) 1 [] (at 0 []) back) (flat_course p g.limits)
  entry_course d back =
      let P : ℕ → Type 0 = λ f. Does (with_value (cond (nat_le f g.limits.frames) (Some (at f [])) None) (over (at 0 []) (Limited Frames)) (λ w'. on (at 0 []) (inside w'))) (flat_course p g.limits) in
      let zero_on : main_frame ≡ 0 + main_frame = omega arith in
      subst P zero_on (go (nat_le main_frame g.limits.frames))
    where
      inside : World → Behaviour
      inside w = meaning (stmts_of (map call_stmt p.calls ++ S.Stop (E.Number 0) ∷ [])) known (calls_of procs known (suc d)) (suc d) (returning main_frame back) nowhere (λ env w. returning main_frame back [] w) [] w

      go : (b : Bool) → Does (with_value (cond b (Some (at main_frame [])) None) (over (at 0 []) (Limited Frames)) (λ w'. on (at 0 []) (inside w'))) (if b then begun (course_behind p g.limits p.calls) else record { units = []; end = Limited Frames })
      go true = unit_shows 0 (inside (at main_frame [])) _ [] None _ (calls_course d (returning main_frame back) (λ env w. returning main_frame back [] w) p.calls)
      go false = end_shows 0 (Limited Frames) []

-- what is seen wherever the code is placed
pub course_seen : (p : FirstProgram) (g : Placement) (input : List ℕ) (n : ℕ) → flat (lowered p) g input n ≡ seen_until (flat_course p g.limits).end [] (flat_course p g.limits).units n
course_seen p g input n = deeper (lowered p) g n n (suc (suc n)) input (omega arith) (omega arith) ∙ entry_course p g input n (λ rs w. wrong w) n
