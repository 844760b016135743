-- A program keeps the laws of a run.
use Rattle.std.proofs.Common.{◌≡◌, ℕ, zero, suc, ◌+◌, ◌-◌, ◌%◌, List, [], ◌∷◌, Option, Some, None, refl, sym, subst, arith, inl, inr, add-one, length}
use Rattle.std.specs.Prelude.{◌≢◌, ◌⊎◌, Bool, true, false, cond, nat_le, slice_get, slice_set, slice_index}
use Rattle.behaviour.specs.Behaviour as B
use Rattle.behaviour.specs.Behaviour.{Ending, Running, Stopped, Limited, Wrong, Seen, Behaviour}
use Rattle.behaviour.specs.Run.{Event, Gives, Takes, Ends, IsRun}
use Rattle.work.specs.Units.{unit, with_value}
use Rattle.jf_base.specs.Numbers.{size_of_width}
use Rattle.flat_ir.specs.declared.program.FlatProgram.{FlatProgram}
use Rattle.flat_ir.specs.Bytes.{loaded, stored}
use Rattle.flat_ir.specs.Operations.{result_of, extended}
use Rattle.flat_ir.specs.Placement.{Placement, Places, places, proc_at, first_bytes}
use Rattle.flat_ir.specs.Tree.{Expr, Num, Val, Bin, Load, ProcAt, ImageAt, Stmt, Skip, Seq, Set, Store, Call, CallAt, If, Loop, Break, Return, Take, Give, Stop, Limit, Procedure}
use Rattle.flat_ir.specs.View.{procs_of}
use Rattle.flat_ir.specs.Flat.{World, seen, with_memory, with_frames, gave, took, first_byte, Next, Back, Calls, Leaves, over, wrong, halted, on, at_zero, eval, evals, received, receiving, turns, inside, stop_code, limit_of, meaning, frame_of, charged, returning, nowhere, called, calls_of, starting, flat_within, flat}
use Rattle.flat_ir.proofs.Depth.{deeper}

-- nothing changes, or one event is seen
abbrev Step : Seen → Seen → Type 0
Step s t = (t ≡ s) ⊎ Event s t

record Lawful (s : Seen) (a : Behaviour) : Type 0 where
  starts : a 0 ≡ s
  steps : (n : ℕ) → Step (a n) (a (suc n))

on_lawful : (now s : Seen) (a : Behaviour) → Step now s → Lawful s a → Lawful now (unit now a)
on_lawful now s a h l = record { starts = refl; steps = steps }
  where
    steps : (n : ℕ) → Step (unit now a n) (unit now a (suc n))
    steps zero = subst (λ t. Step now t) (sym l.starts) h
    steps (suc n) = l.steps n

over_lawful : (w : World) (e : Ending) → e ≢ Running → Lawful (seen w Running) (over w e)
over_lawful w e h = on_lawful (seen w Running) (seen w e) (λ n. seen w e) (inr (Ends w.output w.taken e h)) (record { starts = refl; steps = λ n. inl refl })

wrong_lawful : (w : World) → Lawful (seen w Running) (wrong w)
wrong_lawful w = over_lawful w Wrong (λ h. (cc))

halted_lawful : (w : World) → Lawful (seen w Running) (halted w)
halted_lawful w = record { starts = refl; steps = λ n. inl refl }

value_lawful : {A : Type 0} (s : Seen) (o : Option A) (other : Behaviour) (f : A → Behaviour) → Lawful s other → ((v : A) → Lawful s (f v)) → Lawful s (with_value o other f)
value_lawful s None other f h k = h
value_lawful s (Some v) other f h k = k v

zero_lawful : (s : Seen) (v : ℕ) (a b : Behaviour) → Lawful s a → Lawful s b → Lawful s (at_zero v a b)
zero_lawful s zero a b ha hb = ha
zero_lawful s (suc v) a b ha hb = hb

abbrev NextLawful : Next → Type 0
NextLawful f = (env : List ℕ) (w : World) → Lawful (seen w Running) (f env w)

abbrev BackLawful : Back → Type 0
BackLawful f = (vs : List ℕ) (w : World) → Lawful (seen w Running) (f vs w)

abbrev CallsLawful : Calls → Type 0
CallsLawful c = (f : ℕ) (args : List ℕ) (w : World) (back : Back) → BackLawful back → Lawful (seen w Running) (c f args w back)

eval_lawful : (e : Expr) (g : Places) (env : List ℕ) (w : World) (k : ℕ → Behaviour) → ((v : ℕ) → Lawful (seen w Running) (k v)) → Lawful (seen w Running) (eval e g env w k)
eval_lawful (Num v) g env w k h = h v
eval_lawful (Val x) g env w k h = h (slice_index env x)
eval_lawful (Bin o a b) g env w k h = eval_lawful a g env w _ (λ x. eval_lawful b g env w _ (λ y. h (result_of o x y)))
eval_lawful (Load s i a) g env w k h = eval_lawful a g env w _ (λ at. value_lawful (seen w Running) (loaded (size_of_width s) g.areas w.memory at) (wrong w) _ (wrong_lawful w) (λ v. h (extended s i v)))
eval_lawful (ProcAt p) g env w k h = h (g.procs p)
eval_lawful (ImageAt n) g env w k h = h (g.image + n)

evals_lawful : (es : List Expr) (g : Places) (env : List ℕ) (w : World) (k : List ℕ → Behaviour) → ((vs : List ℕ) → Lawful (seen w Running) (k vs)) → Lawful (seen w Running) (evals es g env w k)
evals_lawful [] g env w k h = h []
evals_lawful (e ∷ es) g env w k h = eval_lawful e g env w _ (λ v. evals_lawful es g env w _ (λ vs. h (v ∷ vs)))

receiving_lawful : (xs env : List ℕ) (next : Next) → NextLawful next → BackLawful (receiving xs env next)
receiving_lawful xs env next h rs w = value_lawful (seen w Running) (received xs rs env) (wrong w) _ (wrong_lawful w) (λ env. h env w)

turns_lawful : (d : ℕ) (body : Next → Next) → ((f : Next) → NextLawful f → NextLawful (body f)) → NextLawful (turns d body)
turns_lawful zero body h env w = halted_lawful w
turns_lawful (suc d) body h env w = on_lawful (seen w Running) (seen w Running) _ (inl refl) (h (turns d body) (turns_lawful d body h) env w)

inside_lawful : (next : Next) (leaves : Leaves) → NextLawful next → ((k : ℕ) → NextLawful (leaves k)) → (k : ℕ) → NextLawful (inside next leaves k)
inside_lawful next leaves h hl zero = h
inside_lawful next leaves h hl (suc k) = hl k

took_step : (bs : List ℕ) (w : World) → Step (seen w Running) (seen (took bs w) Running)
took_step [] w = inl refl
took_step (b ∷ bs) w = inr (Takes w.output w.taken)

meaning_lawful : (s : Stmt) (g : Places) (c : Calls) (d : ℕ) (back : Back) (leaves : Leaves) (next : Next) → CallsLawful c → BackLawful back → ((k : ℕ) → NextLawful (leaves k)) → NextLawful next → NextLawful (meaning s g c d back leaves next)
meaning_lawful Skip g c d back leaves next hc hb hl hn env w = hn env w
meaning_lawful (Seq a b) g c d back leaves next hc hb hl hn env w = meaning_lawful a g c d back leaves (meaning b g c d back leaves next) hc hb hl (meaning_lawful b g c d back leaves next hc hb hl hn) env w
meaning_lawful (Set x e) g c d back leaves next hc hb hl hn env w = eval_lawful e g env w _ (λ v. hn (slice_set env x v) w)
meaning_lawful (Store s a e) g c d back leaves next hc hb hl hn env w =
    eval_lawful a g env w _ (λ i. eval_lawful e g env w _ (λ v. value_lawful (seen w Running) (stored (size_of_width s) g.areas w.memory i v) (wrong w) _ (wrong_lawful w) (λ m. hn env (with_memory w m))))
meaning_lawful (Call xs f es) g c d back leaves next hc hb hl hn env w = evals_lawful es g env w _ (λ vs. hc f vs w (receiving xs env next) (receiving_lawful xs env next hn))
meaning_lawful (CallAt xs a es) g c d back leaves next hc hb hl hn env w =
    eval_lawful a g env w _ (λ i. evals_lawful es g env w _ (λ vs. value_lawful (seen w Running) (proc_at g.procs g.count i) (wrong w) _ (wrong_lawful w) (λ f. hc f vs w (receiving xs env next) (receiving_lawful xs env next hn))))
meaning_lawful (If e a b) g c d back leaves next hc hb hl hn env w =
    eval_lawful e g env w _ (λ v. zero_lawful (seen w Running) v _ _ (meaning_lawful b g c d back leaves next hc hb hl hn env w) (meaning_lawful a g c d back leaves next hc hb hl hn env w))
meaning_lawful (Loop s) g c d back leaves next hc hb hl hn env w =
    let turn : (f : Next) → NextLawful f → NextLawful (meaning s g c d back (inside next leaves) f) = λ f hf. meaning_lawful s g c d back (inside next leaves) f hc hb (inside_lawful next leaves hn hl) hf in
    turn _ (turns_lawful d _ turn) env w
meaning_lawful (Break k) g c d back leaves next hc hb hl hn env w = hl k env w
meaning_lawful (Return es) g c d back leaves next hc hb hl hn env w = evals_lawful es g env w _ (λ vs. hb vs w)
meaning_lawful (Take x) g c d back leaves next hc hb hl hn env w =
    on_lawful (seen w Running) (seen (took w.unread w) Running) _ (took_step w.unread w) (hn (slice_set env x (first_byte w.unread)) (took w.unread w))
meaning_lawful (Give e) g c d back leaves next hc hb hl hn env w =
    eval_lawful e g env w _ (λ v. on_lawful (seen w Running) (seen (gave w (v % 256)) Running) _ (inr (Gives w.output w.taken (v % 256))) (hn env (gave w (v % 256))))
meaning_lawful (Stop e) g c d back leaves next hc hb hl hn env w = eval_lawful e g env w _ (λ v. over_lawful w (stop_code v) (λ h. (cc)))
meaning_lawful (Limit l) g c d back leaves next hc hb hl hn env w = over_lawful w (Limited (limit_of l)) (λ h. (cc))

-- what is charged shows nothing
charge_lawful : (limit charge : ℕ) (w : World) (f : World → Behaviour) → ((w' : World) → Lawful (seen w' Running) (f w')) → Lawful (seen w Running) (with_value (charged limit charge w) (over w (Limited B.Frames)) (λ w'. on w (f w')))
charge_lawful limit charge w f h = go (nat_le (w.frames + charge) limit)
  where
    go : (b : Bool) → Lawful (seen w Running) (with_value (cond b (Some (with_frames w (w.frames + charge))) None) (over w (Limited B.Frames)) (λ w'. on w (f w')))
    go true = on_lawful (seen w Running) (seen w Running) _ (inl refl) (h (with_frames w (w.frames + charge)))
    go false = over_lawful w (Limited B.Frames) (λ h. (cc))

called_lawful : (o : Option Procedure) (g : Places) (c : Calls) (d : ℕ) (args : List ℕ) (w : World) (back : Back) → CallsLawful c → BackLawful back → Lawful (seen w Running) (called o g c d args w back)
called_lawful None g c d args w back hc hb = wrong_lawful w
called_lawful (Some f) g c d args w back hc hb =
    value_lawful (seen w Running) (frame_of f.params f.values args) (wrong w) _ (wrong_lawful w) (λ env.
    charge_lawful g.frames f.charge w _ (λ w'. meaning_lawful f.body g c d (returning f.charge back) nowhere _ hc (λ rs w. hb rs (with_frames w (w.frames - f.charge))) (λ k env w. wrong_lawful w) (λ env w. hb [] (with_frames w (w.frames - f.charge))) env w'))

calls_lawful : (ps : List Procedure) (g : Places) (d : ℕ) → CallsLawful (calls_of ps g d)
calls_lawful ps g zero f args w back hb = halted_lawful w
calls_lawful ps g (suc d) f args w back hb = called_lawful (slice_get ps f) g (calls_of ps g d) d args w back (calls_lawful ps g d) hb

pub flat_lawful : (p : FlatProgram) (g : Placement) (input : List ℕ) → IsRun (flat p g input)
flat_lawful p g input = record { starts = refl; steps = steps }
  where
    at_depth : (d : ℕ) → Lawful (seen (starting (first_bytes g p.image p.fixes) input) Running) (flat_within p g d input)
    at_depth d = calls_lawful (procs_of p.procs) (places (length p.procs) (length p.image) g) d p.entry _ (starting (first_bytes g p.image p.fixes) input) (λ rs w. wrong w) (λ rs w. wrong_lawful w)

    step : (n : ℕ) → Step (flat p g input n) (flat p g input (suc n))
    step n = subst (λ s. Step s (flat p g input (suc n))) (sym (deeper p g n n (suc n) input (omega arith) (omega arith))) ((at_depth (suc n)).steps n)

    steps : (n : ℕ) → (flat p g input (n + 1) ≡ flat p g input n) ⊎ Event (flat p g input n) (flat p g input (n + 1))
    steps n = subst (λ m. Step (flat p g input n) (flat p g input m)) (sym (add-one n)) (step n)
