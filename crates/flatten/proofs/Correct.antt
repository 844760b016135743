-- The blocks of a program follow the program.
use Rattle.std.proofs.Common.{◌≡◌, ℕ, zero, suc, ◌+◌, ◌-◌, ◌<◌, ◌≤◌, List, [], ◌∷◌, ◌++◌, length, map, Option, Some, None, Bool, true, false, refl, sym, ap, ◌∙◌, subst, arith, append_assoc, length-append, inl, inr, zero-add}
use Rattle.std.specs.Prelude.{◌⊎◌, ◌&&◌, ◌==◌, slice_get, slice_index, nat_le, replicate}
use Rattle.std.specs.List.{list_all}
use Rattle.std.specs.Option.{option_map}
use Rattle.std.proofs.lemmas.Bool.Decides.{nat_tests}
use Rattle.std.proofs.Math.Seq.{get_or-append_seam}
use Rattle.std.proofs.lemmas.Option.{slice_get-get_or, slice_get-map}
use Rattle.behaviour.specs.Behaviour as B
use Rattle.behaviour.specs.Behaviour.{Running, Limited, Wrong, Seen, Behaviour}
use Rattle.behaviour.specs.Follows.{Follows}
use Rattle.work.specs.Units.{with_value}
use Rattle.work.specs.Same.{Same}
use Rattle.work.proofs.Same.{less, alike, tick, ends, wrong, nothing_yet, same_follows}
use Rattle.flat_ir.specs.declared.program.FlatProc.{FlatProc}
use Rattle.flat_ir.specs.declared.program.FlatProgram.{FlatProgram}
use Rattle.flat_ir.specs.Placement.{Placement, Places, places, first_bytes, entry_arguments}
use Rattle.flat_ir.specs.Tree.{Procedure}
use Rattle.flat_ir.specs.View.{proc_of, procs_of}
use Rattle.flat_ir.specs.Checked.{stmt_fits, each_below, is_set_first, proc_fits, is_ok, entry_fits, fix_fits, all_apart}
use Rattle.flat_ir.specs.Flat as F
use Rattle.flat_ir.specs.Flat.{World, seen, with_frames, Next, Back, Calls, Leaves, over, on, meaning, frame_of, charged, returning, nowhere, called, calls_of, starting, flat_within, flat}
use Rattle.flat_ir.proofs.Depth.{calls_start, deeper}
use Rattle.flatten.specs.declared.blocks.BlockEnd.TheVariants as E
use Rattle.flatten.specs.declared.blocks.Block.{Block}
use Rattle.flatten.specs.declared.blocks.BlockProc.{BlockProc}
use Rattle.flatten.specs.Blocks.{Waiting, if_value, at_block, enter, exec, blocks, params_of}
use Rattle.flatten.specs.Code.{only, spare_of, body_code, proc_code, program_code}
use Rattle.flatten.specs.Sizes.{size_of, sizes_of}
use Rattle.flatten.proofs.Values.{and_left, and_right, Agrees}
use Rattle.flatten.proofs.Sim.{HasAt, running, leaving, giving, calling, NextSame, BackSame, GivesSame, CallsSame}
use Rattle.flatten.proofs.Statements.{return_same, stmt_same}

has_all : (ks pre : List Block) → HasAt (pre ++ ks) (length pre) ks
has_all [] pre = tt
has_all (k ∷ ks) pre =
    let within : length pre < length (pre ++ k ∷ ks) = omega (arith, length-append pre (k ∷ ks)) in
    let here = slice_get-get_or (pre ++ k ∷ ks) (length pre) k within ∙ ap Some (get_or-append_seam pre k ks k) in
    let n : length (pre ++ k ∷ []) ≡ length pre + 1 = omega (arith, length-append pre (k ∷ [])) in
    let rest = has_all ks (pre ++ k ∷ []) in
    let rest' = subst (λ l. HasAt l (length (pre ++ k ∷ [])) ks) (append_assoc pre (k ∷ []) ks) rest in
    (here, subst (λ m. HasAt (pre ++ k ∷ ks) m ks) n rest')

-- a procedure is no larger than the program
at_least : (gs : List Procedure) → 4 ≤ sizes_of gs
at_least [] = omega arith
at_least (h ∷ gs) = omega (arith, at_least gs)

fits : (fs : List Procedure) (i : ℕ) (f : Procedure) → slice_get fs i ≡ Some f → size_of f.body + 4 ≤ sizes_of fs
fits [] i f e = absurd (cc)
fits (g ∷ fs) zero f e =
    let same : g ≡ f = cc in
    subst (λ x. size_of x.body + 4 ≤ size_of g.body + sizes_of fs) same (omega (arith, at_least fs))
fits (g ∷ fs) (suc i) f e = omega (arith, fits fs i f e)

-- each procedure of a program that holds together does so
each_fits : (procs bytes : ℕ) (fs : List FlatProc) (i : ℕ) (f : Procedure) → list_all (λ f. proc_fits procs bytes (proc_of f)) fs ≡ true → slice_get (procs_of fs) i ≡ Some f → proc_fits procs bytes f ≡ true
each_fits procs bytes [] i f h e = absurd (cc)
each_fits procs bytes (x ∷ fs) zero f h e =
    let same : proc_of x ≡ f = cc in
    subst (λ f. proc_fits procs bytes f ≡ true) same (and_left (proc_fits procs bytes (proc_of x)) (list_all (λ f. proc_fits procs bytes (proc_of f)) fs) h)
each_fits procs bytes (x ∷ fs) (suc i) f h e = each_fits procs bytes fs i f (and_right (proc_fits procs bytes (proc_of x)) (list_all (λ f. proc_fits procs bytes (proc_of f)) fs) h) e

-- values behind the arguments are 0, as are all behind the end of a list
zeros : (k x : ℕ) → slice_index (replicate k 0) x ≡ 0
zeros zero x = refl
zeros (suc k) zero = refl
zeros (suc k) (suc x) = zeros k x

padded : (l : List ℕ) (k x : ℕ) → slice_index (l ++ replicate k 0) x ≡ slice_index l x
padded [] k x = zeros k x
padded (a ∷ l) k zero = refl
padded (a ∷ l) k (suc x) = padded l k x

length-zeros : (k : ℕ) → length {A = ℕ} (replicate k 0) ≡ k
length-zeros zero = refl
length-zeros (suc k) = ap suc (length-zeros k)

frames_same : (params v n : ℕ) (args : List ℕ) → params ≤ v → v ≤ n
    → ((frame_of params v args ≡ None) × (frame_of params n args ≡ None)) ⊎ ((env : List ℕ) × (env' : List ℕ) × (frame_of params v args ≡ Some env) × (frame_of params n args ≡ Some env') × Agrees v n env env')
frames_same params v n args le lv = go (length args == params) refl
  where
    go : (b : Bool) → (length args == params) ≡ b → ((frame_of params v args ≡ None) × (frame_of params n args ≡ None)) ⊎ ((env : List ℕ) × (env' : List ℕ) × (frame_of params v args ≡ Some env) × (frame_of params n args ≡ Some env') × Agrees v n env env')
    go false e = inl (rw e refl, rw e refl)
    go true e =
        let l : length args ≡ params = grind (arith, nat_tests) in
        inr (
          args ++ replicate (v - params) 0,
          args ++ replicate (n - params) 0,
          rw e refl,
          rw e refl,
          record {
            long = omega (arith, length-append args (replicate (v - params) 0), length-zeros (v - params));
            wide = omega (arith, length-append args (replicate (n - params) 0), length-zeros (n - params));
            fits = lv;
            same = λ x lt. padded args (n - params) x ∙ sym (padded args (v - params) x);
          },
        )

module _ (K : ℕ) (some : 1 ≤ K) (g : Places) (ps : List BlockProc) (procs bytes : ℕ) where
  returns : (f : Procedure) (stack : List Waiting) (p n : ℕ) (back : Back) → GivesSame K some g ps procs bytes p n stack back → BackSame K some g ps procs bytes p n (proc_code f) stack (returning f.charge back)
  returns f stack p n back hb rs w = alike K some p n _ _ (giving K some g ps procs bytes stack rs (with_frames w (w.frames - f.charge))) same (hb rs (with_frames w (w.frames - f.charge)))
    where
      same : (j : ℕ) → leaving K some g ps procs bytes (proc_code f) stack rs w j ≡ giving K some g ps procs bytes stack rs (with_frames w (w.frames - f.charge)) j
      same zero = refl
      same (suc j) = refl

  body_same : (f : Procedure) (stack : List Waiting) (p n d : ℕ) (calls : Calls) (back : Back) → proc_fits procs bytes f ≡ true → size_of f.body + 4 ≤ K → n ≤ d → CallsSame K some g ps procs bytes n calls → GivesSame K some g ps procs bytes p n stack back
      → NextSame K some g ps procs bytes (p + size_of f.body) n (proc_code f) stack f.values (body_code f).first (meaning f.body g calls d (returning f.charge back) nowhere (λ env w. returning f.charge back [] w))
  body_same f stack p n d calls back ok le ld hc hb =
      let c = body_code f in
      let last = only (E.Return []) in
      let oks = and_right (nat_le f.params f.values) (stmt_fits f.values procs bytes 0 f.body && each_below f.values (is_set_first f)) ok in
      let okb = and_left (stmt_fits f.values procs bytes 0 f.body) (each_below f.values (is_set_first f)) oks in
      stmt_same K some g ps procs bytes f.body (proc_code f) stack f.values 1 0 [] last (has_all c.others (c.first ∷ [])) okb (omega arith) (omega arith) p n d calls (returning f.charge back) nowhere (λ env w. returning f.charge back [] w) ld hc
      (returns f stack p n back hb) (λ j lj. absurd (omega arith)) (λ env env' w a. return_same K some g ps procs bytes p n (proc_code f) stack [] [] env' w (returning f.charge back) refl (returns f stack p n back hb))

  called_same : (o : Option Procedure) (n d p c : ℕ) (args : List ℕ) (w : World) (stack : List Waiting) (calls : Calls) (back : Back) → slice_get ps c ≡ option_map proc_code o → ((f : Procedure) → o ≡ Some f → (size_of f.body + 4 ≤ K) × (proc_fits procs bytes f ≡ true)) → n ≤ suc d
      → ((m : ℕ) → suc m ≤ n → CallsSame K some g ps procs bytes m calls) → GivesSame K some g ps procs bytes p n stack back → Same K p n (called o g calls d args w back) (calling K some g ps procs bytes c args w stack)
  called_same None n d p c args w stack calls back e fit ld hc hb = wrong K some p n (seen w Running) (seen w Wrong) _ refl refl
  called_same (Some f) n d p c args w stack calls back e fit ld hc hb =
      entered (frames_same f.params f.values (f.values + spare_of f.body) args (params_fit (nat_le f.params f.values) refl) (omega arith))
    where
      params_fit : (b : Bool) → nat_le f.params f.values ≡ b → f.params ≤ f.values
      params_fit true t = grind (arith, nat_tests)
      params_fit false t = absurd (let z = and_left (nat_le f.params f.values) (stmt_fits f.values procs bytes 0 f.body && each_below f.values (is_set_first f)) (fit f refl).1 in cc)

      begins : (env env' : List ℕ) → frame_of f.params (f.values + spare_of f.body) args ≡ Some env' → Agrees f.values (f.values + spare_of f.body) env env' → (o : Option World) → charged g.frames f.charge w ≡ o
          → Same K p n (with_value o (over w (Limited B.Frames)) (λ w'. on w (meaning f.body g calls d (returning f.charge back) nowhere (λ env w. returning f.charge back [] w) env w'))) (calling K some g ps procs bytes c args w stack)
      begins env env' ef a None ec =
          ends K some p n (seen w Running) (seen w (Limited B.Frames)) _ refl
          (λ j. ap (λ o. enter o g (exec ps g j) args w stack) e ∙ ap (λ o. if_value o (seen w Wrong) (λ env. if_value (charged g.frames f.charge w) (seen w (Limited B.Frames)) (λ w'. at_block (slice_get (proc_code f).blocks 0) (exec ps g j) (proc_code f) env w' stack))) ef
          ∙ ap (λ o. if_value o (seen w (Limited B.Frames)) (λ w'. at_block (slice_get (proc_code f).blocks 0) (exec ps g j) (proc_code f) env' w' stack)) ec)
      begins env env' ef a (Some w') ec =
          tick K some p (p + size_of f.body) n (seen w Running) (meaning f.body g calls d (returning f.charge back) nowhere (λ env w. returning f.charge back [] w) env w') _ (running K some g ps procs bytes (proc_code f) stack (body_code f).first env' w') refl
          (λ j. ap (λ o. enter o g (exec ps g j) args w stack) e ∙ ap (λ o. if_value o (seen w Wrong) (λ env. if_value (charged g.frames f.charge w) (seen w (Limited B.Frames)) (λ w'. at_block (slice_get (proc_code f).blocks 0) (exec ps g j) (proc_code f) env w' stack))) ef
          ∙ ap (λ o. if_value o (seen w (Limited B.Frames)) (λ w'. at_block (slice_get (proc_code f).blocks 0) (exec ps g j) (proc_code f) env' w' stack)) ec)
          (omega (arith, (fit f refl).0))
          (λ m lm. body_same f stack p m d calls back (fit f refl).1 (fit f refl).0 (omega arith) (hc m lm) (λ rs w. less K some p n m _ _ (omega arith) (hb rs w)) env env' w' a)

      entered : ((frame_of f.params f.values args ≡ None) × (frame_of f.params (f.values + spare_of f.body) args ≡ None)) ⊎ ((env : List ℕ) × (env' : List ℕ) × (frame_of f.params f.values args ≡ Some env) × (frame_of f.params (f.values + spare_of f.body) args ≡ Some env') × Agrees f.values (f.values + spare_of f.body) env env')
          → Same K p n (called (Some f) g calls d args w back) (calling K some g ps procs bytes c args w stack)
      entered (inl z) = subst (λ o. Same K p n (with_value o (over w Wrong) (λ env. with_value (charged g.frames f.charge w) (over w (Limited B.Frames)) (λ w'. on w (meaning f.body g calls d (returning f.charge back) nowhere (λ env w. returning f.charge back [] w) env w')))) (calling K some g ps procs bytes c args w stack)) (sym z.0)
          (wrong K some p n (seen w Running) (seen w Wrong) _ refl refl)
      entered (inr r) = subst (λ o. Same K p n (with_value o (over w Wrong) (λ env. with_value (charged g.frames f.charge w) (over w (Limited B.Frames)) (λ w'. on w (meaning f.body g calls d (returning f.charge back) nowhere (λ env w. returning f.charge back [] w) env w')))) (calling K some g ps procs bytes c args w stack)) (sym r.2)
          (begins r.0 r.1 r.3 r.4 (charged g.frames f.charge w) refl)

module _ (K : ℕ) (some : 1 ≤ K) (g : Places) (fs : List Procedure) (procs bytes : ℕ) (fit : (c : ℕ) (f : Procedure) → slice_get fs c ≡ Some f → (size_of f.body + 4 ≤ K) × (proc_fits procs bytes f ≡ true)) where
  calls_same : (n d : ℕ) → n ≤ d → CallsSame K some g (map proc_code fs) procs bytes n (calls_of fs g d)
  calls_same zero d ld zero p c args w stack back lm hb = nothing_yet K some p (calls_of fs g d c args w back) (calling K some g (map proc_code fs) procs bytes c args w stack) (sym (calls_start fs g d c args w back))
  calls_same zero d ld (suc m) p c args w stack back lm hb = absurd (omega arith)
  calls_same (suc n) zero ld m p c args w stack back lm hb = absurd (omega arith)
  calls_same (suc n) (suc d) ld m p c args w stack back lm hb =
      called_same K some g (map proc_code fs) procs bytes (slice_get fs c) m d p c args w stack (calls_of fs g d) back (slice_get-map proc_code fs c) (fit c) (omega arith)
      (λ k lk i q h vs u s r li hr. calls_same n d (omega arith) i q h vs u s r (omega arith) hr) hb

length-mapped : {A C : Type 0} (f : A → C) (l : List A) → length (map f l) ≡ length l
length-mapped f [] = refl
length-mapped f (a ∷ l) = ap suc (length-mapped f l)

params_same : (o : Option Procedure) → params_of (option_map proc_code o) ≡ F.params_of o
params_same None = refl
params_same (Some f) = refl

module _ (p : FlatProgram) (ok : is_ok p ≡ true) (g : Placement) (input : List ℕ) where
  abbrev fs : List Procedure
  fs = procs_of p.procs

  abbrev bytes : ℕ
  bytes = length p.image

  abbrev here : Places
  here = places (length p.procs) bytes g

  abbrev first : World
  first = starting (first_bytes g p.image p.fixes) input

  abbrev passed : List ℕ
  passed = entry_arguments (F.params_of (slice_get fs p.entry)) bytes g

  some : 1 ≤ sizes_of (procs_of p.procs)
  some = omega (arith, at_least (procs_of p.procs))

  fit : (c : ℕ) (f : Procedure) → slice_get (procs_of p.procs) c ≡ Some f → (size_of f.body + 4 ≤ sizes_of (procs_of p.procs)) × (proc_fits (length p.procs) (length p.image) f ≡ true)
  fit c f e =
      let rest = and_right (entry_fits (slice_get (procs_of p.procs) p.entry)) (list_all (λ f. proc_fits (length p.procs) (length p.image) (proc_of f)) p.procs && (list_all (λ f. fix_fits (length p.procs) (length p.image) f) p.fixes && all_apart p.fixes)) ok in
      let all = and_left (list_all (λ f. proc_fits (length p.procs) (length p.image) (proc_of f)) p.procs) (list_all (λ f. fix_fits (length p.procs) (length p.image) f) p.fixes && all_apart p.fixes) rest in
      (fits (procs_of p.procs) c f e, each_fits (length p.procs) (length p.image) p.procs c f all e)

  begins_same : (j : ℕ) → blocks (program_code p) g input j ≡ calling (sizes_of fs) some here (map proc_code fs) (length p.procs) bytes p.entry passed first [] j
  begins_same zero = refl
  begins_same (suc j) =
      let ps = map proc_code fs in
      let n : length ps ≡ length p.procs = length-mapped proc_code fs ∙ length-mapped proc_of p.procs in
      let m : params_of (slice_get ps p.entry) ≡ F.params_of (slice_get fs p.entry) = ap params_of (slice_get-map proc_code fs p.entry) ∙ params_same (slice_get fs p.entry) in
      ap (λ n. enter (slice_get ps p.entry) (places n bytes g) (exec ps (places n bytes g) j) (entry_arguments (params_of (slice_get ps p.entry)) bytes g) first []) n
      ∙ ap (λ m. enter (slice_get ps p.entry) here (exec ps here j) (entry_arguments m bytes g) first []) m

  program_same : (n d : ℕ) → n ≤ d → Same (sizes_of fs) 0 n (flat_within p g d input) (blocks (program_code p) g input)
  program_same n d ld =
      let K = sizes_of fs in
      let ps = map proc_code fs in
      let ending : GivesSame K some here ps (length p.procs) bytes 0 n [] (λ rs w. over w Wrong) = λ rs w. wrong K some 0 n (seen w Running) (seen w Wrong) _ refl refl in
      alike K some 0 n (flat_within p g d input) (blocks (program_code p) g input) (calling K some here ps (length p.procs) bytes p.entry passed first []) begins_same
      (calls_same K some here fs (length p.procs) bytes fit n d ld n 0 p.entry passed first [] (λ rs w. over w Wrong) (omega arith) ending)

  pub blocks_follow : Follows (sizes_of fs) (blocks (program_code p) g input) (flat p g input)
  blocks_follow =
      subst (λ k. Follows k (blocks (program_code p) g input) (flat p g input)) (zero-add (sizes_of fs))
      (same_follows (sizes_of fs) 0 (λ d. flat_within p g d input) (blocks (program_code p) g input) (λ n d le. deeper p g n d n input le (omega arith)) (λ n. program_same n n (omega arith)))
