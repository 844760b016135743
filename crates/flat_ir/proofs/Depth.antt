-- How deep calls may be, and how often loops may go back, changes nothing of a run of fewer units.
use Rattle.std.proofs.Common.{◌≡◌, ℕ, zero, suc, ◌+◌, ◌-◌, ◌%◌, ◌≤◌, List, [], ◌∷◌, Option, Some, None, refl, sym, ◌∙◌, arith}
use Rattle.std.specs.Prelude.{slice_get, slice_set, slice_index, length}
use Rattle.behaviour.specs.Behaviour as B
use Rattle.behaviour.specs.Behaviour.{Running, Limited, Wrong, Behaviour}
use Rattle.work.specs.Units.{with_value}
use Rattle.jf_base.specs.Numbers.{size_of_width}
use Rattle.flat_ir.specs.declared.program.FlatProgram.{FlatProgram}
use Rattle.flat_ir.specs.Bytes.{loaded, stored}
use Rattle.flat_ir.specs.Operations.{result_of, extended}
use Rattle.flat_ir.specs.Placement.{Placement, Places, places, proc_at, first_bytes}
use Rattle.flat_ir.specs.Tree.{Expr, Num, Val, Bin, Load, ProcAt, ImageAt, Stmt, Skip, Seq, Set, Store, Call, CallAt, If, Loop, Break, Return, Take, Give, Stop, Limit, Procedure}
use Rattle.flat_ir.specs.View.{procs_of}
use Rattle.flat_ir.specs.Flat.{World, seen, with_memory, with_frames, gave, took, first_byte, Next, Back, Calls, Leaves, over, wrong, on, at_zero, eval, evals, received, receiving, turns, inside, meaning, frame_of, charged, returning, nowhere, called, calls_of, starting, flat_within}

-- the same up to n units
abbrev pub Agree : ℕ → Behaviour → Behaviour → Type 0
Agree n a b = (i : ℕ) → i ≤ n → a i ≡ b i

abbrev pub NextAgree : ℕ → Next → Next → Type 0
NextAgree n f g = (env : List ℕ) (w : World) → Agree n (f env w) (g env w)

abbrev pub LeavesAgree : ℕ → Leaves → Leaves → Type 0
LeavesAgree n f g = (k : ℕ) → NextAgree n (f k) (g k)

abbrev pub BackAgree : ℕ → Back → Back → Type 0
BackAgree n f g = (vs : List ℕ) (w : World) → Agree n (f vs w) (g vs w)

abbrev pub CallsAgree : ℕ → Calls → Calls → Type 0
CallsAgree n c c' = (m f : ℕ) (args : List ℕ) (w : World) (back back' : Back) → m ≤ n → BackAgree m back back' → Agree m (c f args w back) (c' f args w back')

on_agree : (n : ℕ) (w : World) (a b : Behaviour) → ((m : ℕ) → suc m ≤ n → Agree m a b) → Agree n (on w a) (on w b)
on_agree n w a b s zero le = refl
on_agree n w a b s (suc i) le = s i le i (omega arith)

value_agree : {A : Type 0} (n : ℕ) (o : Option A) (other : Behaviour) (f g : A → Behaviour) → ((v : A) → Agree n (f v) (g v)) → Agree n (with_value o other f) (with_value o other g)
value_agree n None other f g s i le = refl
value_agree n (Some v) other f g s i le = s v i le

zero_agree : (n v : ℕ) (a b a' b' : Behaviour) → Agree n a a' → Agree n b b' → Agree n (at_zero v a b) (at_zero v a' b')
zero_agree n zero a b a' b' ha hb = ha
zero_agree n (suc v) a b a' b' ha hb = hb

turns_start : (d : ℕ) (body : Next → Next) (env : List ℕ) (w : World) → turns d body env w 0 ≡ seen w Running
turns_start zero body env w = refl
turns_start (suc d) body env w = refl

turns_agree : (n : ℕ) (body body' : Next → Next) → ((m : ℕ) (f g : Next) → m ≤ n → NextAgree m f g → NextAgree m (body f) (body' g)) → (m d e : ℕ) → m ≤ n → m ≤ d → m ≤ e → NextAgree m (turns d body) (turns e body')
turns_agree n body body' s zero d e ln ld le env w zero li = turns_start d body env w ∙ sym (turns_start e body' env w)
turns_agree n body body' s zero d e ln ld le env w (suc i) li = absurd (omega arith)
turns_agree n body body' s (suc m) zero e ln ld le env w i li = absurd (omega arith)
turns_agree n body body' s (suc m) (suc d) zero ln ld le env w i li = absurd (omega arith)
turns_agree n body body' s (suc m) (suc d) (suc e) ln ld le env w i li =
    on_agree (suc m) w _ _ (λ k lk j lj. s m (turns d body) (turns e body') (omega arith) (turns_agree n body body' s m d e (omega arith) (omega arith) (omega arith)) env w j (omega arith)) i li

eval_agree : (e : Expr) (g : Places) (n : ℕ) (env : List ℕ) (w : World) (f f' : ℕ → Behaviour) → ((v : ℕ) → Agree n (f v) (f' v)) → Agree n (eval e g env w f) (eval e g env w f')
eval_agree (Num v) g n env w f f' s = s v
eval_agree (Val x) g n env w f f' s = s (slice_index env x)
eval_agree (Bin o a b) g n env w f f' s = eval_agree a g n env w _ _ (λ x. eval_agree b g n env w _ _ (λ y. s (result_of o x y)))
eval_agree (Load k is_signed a) g n env w f f' s =
    eval_agree a g n env w _ _ (λ i. value_agree n (loaded (size_of_width k) g.areas w.memory i) (wrong w) _ _ (λ v. s (extended k is_signed v)))
eval_agree (ProcAt p) g n env w f f' s = s (g.procs p)
eval_agree (ImageAt k) g n env w f f' s = s (g.image + k)

evals_agree : (es : List Expr) (g : Places) (n : ℕ) (env : List ℕ) (w : World) (f f' : List ℕ → Behaviour) → ((vs : List ℕ) → Agree n (f vs) (f' vs)) → Agree n (evals es g env w f) (evals es g env w f')
evals_agree [] g n env w f f' s = s []
evals_agree (e ∷ es) g n env w f f' s = eval_agree e g n env w _ _ (λ v. evals_agree es g n env w _ _ (λ vs. s (v ∷ vs)))

receiving_agree : (xs : List ℕ) (n : ℕ) (env : List ℕ) (f f' : Next) → NextAgree n f f' → BackAgree n (receiving xs env f) (receiving xs env f')
receiving_agree xs n env f f' h rs w = value_agree n (received xs rs env) (wrong w) _ _ (λ env. h env w)

inside_agree : (n : ℕ) (f f' : Next) (l l' : Leaves) → NextAgree n f f' → LeavesAgree n l l' → LeavesAgree n (inside f l) (inside f' l')
inside_agree n f f' l l' h hl zero = h
inside_agree n f f' l l' h hl (suc k) = hl k

meaning_agree : (s : Stmt) (g : Places) (n d e : ℕ) (c c' : Calls) (back back' : Back) (leave leave' : Leaves) (next next' : Next) → n ≤ d → n ≤ e → CallsAgree n c c' → BackAgree n back back' → LeavesAgree n leave leave' → NextAgree n next next'
    → NextAgree n (meaning s g c d back leave next) (meaning s g c' e back' leave' next')
meaning_agree Skip g n d e c c' back back' leave leave' next next' ld le hc hb hl hn env w = hn env w
meaning_agree (Seq a b) g n d e c c' back back' leave leave' next next' ld le hc hb hl hn env w =
    meaning_agree a g n d e c c' back back' leave leave' (meaning b g c d back leave next) (meaning b g c' e back' leave' next') ld le hc hb hl (meaning_agree b g n d e c c' back back' leave leave' next next' ld le hc hb hl hn) env w
meaning_agree (Set x a) g n d e c c' back back' leave leave' next next' ld le hc hb hl hn env w =
    eval_agree a g n env w _ _ (λ v. hn (slice_set env x v) w)
meaning_agree (Store k a x) g n d e c c' back back' leave leave' next next' ld le hc hb hl hn env w =
    eval_agree a g n env w _ _ (λ i. eval_agree x g n env w _ _ (λ v. value_agree n (stored (size_of_width k) g.areas w.memory i v) (wrong w) _ _ (λ m. hn env (with_memory w m))))
meaning_agree (Call xs f es) g n d e c c' back back' leave leave' next next' ld le hc hb hl hn env w =
    evals_agree es g n env w _ _ (λ vs. hc n f vs w (receiving xs env next) (receiving xs env next') (omega arith) (receiving_agree xs n env next next' hn))
meaning_agree (CallAt xs a es) g n d e c c' back back' leave leave' next next' ld le hc hb hl hn env w =
    eval_agree a g n env w _ _ (λ i. evals_agree es g n env w _ _ (λ vs. value_agree n (proc_at g.procs g.count i) (wrong w) _ _ (λ f. hc n f vs w (receiving xs env next) (receiving xs env next') (omega arith) (receiving_agree xs n env next next' hn))))
meaning_agree (If t a b) g n d e c c' back back' leave leave' next next' ld le hc hb hl hn env w =
    eval_agree t g n env w _ _ (λ v. zero_agree n v _ _ _ _ (meaning_agree b g n d e c c' back back' leave leave' next next' ld le hc hb hl hn env w) (meaning_agree a g n d e c c' back back' leave leave' next next' ld le hc hb hl hn env w))
meaning_agree (Loop s) g n d e c c' back back' leave leave' next next' ld le hc hb hl hn env w =
    let turn : (m : ℕ) (f f' : Next) → m ≤ n → NextAgree m f f' → NextAgree m (meaning s g c d back (inside next leave) f) (meaning s g c' e back' (inside next' leave') f') =
    λ m f f' lm h. meaning_agree s g m d e c c' back back' (inside next leave) (inside next' leave') f f' (omega arith) (omega arith) (λ i p args w r r' li. hc i p args w r r' (omega arith)) (λ v w i li. hb v w i (omega arith))
    (inside_agree m next next' leave leave' (λ env w i li. hn env w i (omega arith)) (λ k env w i li. hl k env w i (omega arith))) h in
    turn n _ _ (omega arith) (turns_agree n _ _ turn n d e (omega arith) ld le) env w
meaning_agree (Break k) g n d e c c' back back' leave leave' next next' ld le hc hb hl hn env w = hl k env w
meaning_agree (Return es) g n d e c c' back back' leave leave' next next' ld le hc hb hl hn env w =
    evals_agree es g n env w _ _ (λ vs. hb vs w)
meaning_agree (Take x) g n d e c c' back back' leave leave' next next' ld le hc hb hl hn env w =
    on_agree n w _ _ (λ m lm i li. hn (slice_set env x (first_byte w.unread)) (took w.unread w) i (omega arith))
meaning_agree (Give a) g n d e c c' back back' leave leave' next next' ld le hc hb hl hn env w =
    eval_agree a g n env w _ _ (λ v. on_agree n w _ _ (λ m lm i li. hn env (gave w (v % 256)) i (omega arith)))
meaning_agree (Stop a) g n d e c c' back back' leave leave' next next' ld le hc hb hl hn env w =
    eval_agree a g n env w _ _ (λ v i li. refl)
meaning_agree (Limit l) g n d e c c' back back' leave leave' next next' ld le hc hb hl hn env w = λ i li. refl

called_agree : (o : Option Procedure) (g : Places) (n d e : ℕ) (c c' : Calls) (args : List ℕ) (w : World) (back back' : Back) → n ≤ suc d → n ≤ suc e → ((m : ℕ) → suc m ≤ n → CallsAgree m c c') → BackAgree n back back'
    → Agree n (called o g c d args w back) (called o g c' e args w back')
called_agree None g n d e c c' args w back back' ld le hc hb = λ i li. refl
called_agree (Some f) g n d e c c' args w back back' ld le hc hb =
    value_agree n (frame_of f.params f.values args) (wrong w) _ _ (λ env. value_agree n (charged g.frames f.charge w) (over w (Limited B.Frames)) _ _ (λ w'.
    on_agree n w _ _ (λ m lm. meaning_agree f.body g m d e c c' (returning f.charge back) (returning f.charge back') nowhere nowhere _ _ (omega arith) (omega arith) (hc m lm) (λ v w i li. hb v (with_frames w (w.frames - f.charge)) i (omega arith)) (λ k env w i li. refl) (λ env w i li. hb [] (with_frames w (w.frames - f.charge)) i (omega arith)) env w')))

pub calls_start : (ps : List Procedure) (g : Places) (d f : ℕ) (args : List ℕ) (w : World) (back : Back) → calls_of ps g d f args w back 0 ≡ seen w Running
calls_start ps g zero f args w back = refl
calls_start ps g (suc d) f args w back = start (slice_get ps f)
  where
    charge_start : (o : Option World) (k : World → Behaviour) → with_value o (over w (Limited B.Frames)) (λ w'. on w (k w')) 0 ≡ seen w Running
    charge_start None k = refl
    charge_start (Some w') k = refl

    frame_start : (o : Option (List ℕ)) (c : Option World) (k : List ℕ → World → Behaviour) → with_value o (wrong w) (λ env. with_value c (over w (Limited B.Frames)) (λ w'. on w (k env w'))) 0 ≡ seen w Running
    frame_start None c k = refl
    frame_start (Some env) c k = charge_start c (k env)

    start : (o : Option Procedure) → called o g (calls_of ps g d) d args w back 0 ≡ seen w Running
    start None = refl
    start (Some f) = frame_start (frame_of f.params f.values args) (charged g.frames f.charge w) _

calls_agree : (ps : List Procedure) (g : Places) (n d e : ℕ) → n ≤ d → n ≤ e → CallsAgree n (calls_of ps g d) (calls_of ps g e)
calls_agree ps g zero d e ld le m f args w back back' lm hb zero li = calls_start ps g d f args w back ∙ sym (calls_start ps g e f args w back')
calls_agree ps g zero d e ld le m f args w back back' lm hb (suc i) li = absurd (omega arith)
calls_agree ps g (suc n) zero e ld le m f args w back back' lm hb i li = absurd (omega arith)
calls_agree ps g (suc n) (suc d) zero ld le m f args w back back' lm hb i li = absurd (omega arith)
calls_agree ps g (suc n) (suc d) (suc e) ld le m f args w back back' lm hb i li =
    called_agree (slice_get ps f) g m d e (calls_of ps g d) (calls_of ps g e) args w back back' (omega arith) (omega arith) (λ k lk j h vs u r r' lj. calls_agree ps g n d e (omega arith) (omega arith) j h vs u r r' (omega arith)) hb i li

pub deeper : (p : FlatProgram) (g : Placement) (n d e : ℕ) (input : List ℕ) → n ≤ d → n ≤ e → flat_within p g d input n ≡ flat_within p g e input n
deeper p g n d e input ld le =
    calls_agree (procs_of p.procs) (places (length p.procs) (length p.image) g) n d e ld le n p.entry _ (starting (first_bytes g p.image p.fixes) input) (λ rs w. wrong w) (λ rs w. wrong w) (omega arith) (λ v w i li. refl) n (omega arith)
