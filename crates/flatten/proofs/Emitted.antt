-- What is measured and written is the code.
use Rattle.std.proofs.Common.{◌≡◌, ℕ, zero, suc, ◌+◌, ◌-◌, max, List, [], ◌∷◌, ◌++◌, refl, sym, ap, ◌∙◌, append_assoc, append-nil, arith}
use Rattle.std.specs.Prelude.{slice_index}
use Rattle.flat_ir.specs.Tree.{Stmt, Skip, Seq, Set, Store, Call, CallAt, If, Loop, Break, Return, Take, Give, Stop, Limit, Procedure}
use Rattle.flatten.specs.declared.blocks.BlockEnd.TheVariants as E
use Rattle.flatten.specs.declared.blocks.Block.{Block}
use Rattle.flatten.specs.declared.measure.Measure.{Measure}
use Rattle.flatten.specs.Code.{Code, only, place, operand, count, behind, code, spare, spare_of, body_code}
use Rattle.flatten.specs.Emission.{Emission, finished, turning, looping, choosing, emitted, needing, choice_measured, loop_measured, measured}

-- of each loop how many blocks its body has beside its first one, the last loop first
abbrev pub turns_of : Stmt → List ℕ
turns_of Skip = []
turns_of (Seq a b) = turns_of b ++ turns_of a
turns_of (Set x e) = []
turns_of (Store w a e) = []
turns_of (Call xs p es) = []
turns_of (CallAt xs a es) = []
turns_of (If e a b) = turns_of b ++ turns_of a
turns_of (Loop s) = count s ∷ turns_of s
turns_of (Break k) = []
turns_of (Return es) = []
turns_of (Take x) = []
turns_of (Give e) = []
turns_of (Stop e) = []
turns_of (Limit l) = []

abbrev pub measure : ℕ → ℕ → List ℕ → Measure
measure n m ts = record { blocks = n; spare = m; turns = ts }

measures : (n n' m m' : ℕ) (ts ts' : List ℕ) → n ≡ n' → m ≡ m' → ts ≡ ts' → measure n m ts ≡ measure n' m' ts'
measures n n' m m' ts ts' p q r = λ i. record { blocks = p i; spare = q i; turns = r i }

pub measured_is : (s : Stmt) (n m : ℕ) (ts : List ℕ) → measured s (measure n m ts) ≡ measure (n + count s) (max m (spare_of s)) (turns_of s ++ ts)
unfolding measured
measured_is Skip n m ts = measures _ _ _ _ _ _ (omega arith) (omega arith) refl
measured_is (Seq a b) n m ts =
    ap (measured b) (measured_is a n m ts)
    ∙ measured_is b (n + count a) (max m (spare_of a)) (turns_of a ++ ts)
    ∙ measures _ _ _ _ _ _ (omega arith) (omega arith) (sym (append_assoc (turns_of b) (turns_of a) ts))
measured_is (Set x e) n m ts = measures _ _ _ _ _ _ (omega arith) refl refl
measured_is (Store w a e) n m ts = measures _ _ _ _ _ _ (omega arith) refl refl
measured_is (Call xs p es) n m ts = measures _ _ _ _ _ _ (omega arith) refl refl
measured_is (CallAt xs a es) n m ts = measures _ _ _ _ _ _ (omega arith) refl refl
measured_is (If e a b) n m ts =
    ap (λ r. needing (1 + spare e) (choice_measured (measured b r))) (measured_is a n m ts)
    ∙ ap (λ r. needing (1 + spare e) (choice_measured r)) (measured_is b (n + count a) (max m (spare_of a)) (turns_of a ++ ts))
    ∙ measures _ _ _ _ _ _ (omega arith) (omega arith) (sym (append_assoc (turns_of b) (turns_of a) ts))
measured_is (Loop s) n m ts = ap (loop_measured n) (measured_is s n m ts) ∙ measures _ _ _ _ _ _ (omega arith) refl (ap (λ k. k ∷ (turns_of s ++ ts)) (let e : n + count s - n ≡ count s = omega arith in e))
measured_is (Break k) n m ts = measures _ _ _ _ _ _ (omega arith) (omega arith) refl
measured_is (Return es) n m ts = measures _ _ _ _ _ _ (omega arith) refl refl
measured_is (Take x) n m ts = measures _ _ _ _ _ _ (omega arith) (omega arith) refl
measured_is (Give e) n m ts = measures _ _ _ _ _ _ (omega arith) refl refl
measured_is (Stop e) n m ts = measures _ _ _ _ _ _ (omega arith) refl refl
measured_is (Limit l) n m ts = measures _ _ _ _ _ _ (omega arith) (omega arith) refl

abbrev pub emission : ℕ → List ℕ → List Block → Block → ℕ → List ℕ → Emission
emission t outs ks k at ts = record { spare = t; current = k; others = ks; at = at; turns = ts; exits = outs }

behind_indexed : (outs : List ℕ) (j : ℕ) → slice_index outs j ≡ behind outs j
behind_indexed [] j = refl
behind_indexed (b ∷ bs) zero = refl
behind_indexed (b ∷ bs) (suc j) = behind_indexed bs j

-- code in front of what is written, whose first block behind the current one has this number
abbrev pub written : ℕ → List ℕ → List Block → Code → ℕ → List ℕ → Emission
written t outs ks c at ts = emission t outs (c.others ++ ks) c.first at ts

same_at : (t : ℕ) (outs : List ℕ) (ks : List Block) (k : Block) (n at : ℕ) (ts rest : List ℕ) → n ≡ at + 0 → ts ≡ rest → emission t outs ks k n ts ≡ emission t outs ks k at rest
same_at t outs ks k n at ts rest en et = let e : n ≡ at = omega arith in λ i. emission t outs ks k (e i) (et i)

pub emitted_is : (s : Stmt) (t : ℕ) (outs : List ℕ) (ks : List Block) (k : Block) (n at : ℕ) (ts rest : List ℕ) → n ≡ at + count s → ts ≡ turns_of s ++ rest → emitted s (emission t outs ks k n ts) ≡ written t outs ks (code s t at outs k) at rest
unfolding emitted code
emitted_is Skip t outs ks k n at ts rest en et = same_at t outs ks k n at ts rest en et
emitted_is (Seq a b) t outs ks k n at ts rest en et =
    let cb = code b t (at + count a) outs k in
    let ca = code a t at outs cb.first in
    ap (emitted a) (emitted_is b t outs ks k n (at + count a) ts (turns_of a ++ rest) (omega arith) (et ∙ append_assoc (turns_of b) (turns_of a) rest))
    ∙ emitted_is a t outs (cb.others ++ ks) cb.first (at + count a) at (turns_of a ++ rest) rest refl refl
    ∙ ap (λ l. emission t outs l ca.first at rest) (sym (append_assoc ca.others cb.others ks))
emitted_is (Set x e) t outs ks k n at ts rest en et = same_at t outs ks _ n at ts rest en et
emitted_is (Store w a e) t outs ks k n at ts rest en et = same_at t outs ks _ n at ts rest en et
emitted_is (Call xs p es) t outs ks k n at ts rest en et = same_at t outs ks _ n at ts rest en et
emitted_is (CallAt xs a es) t outs ks k n at ts rest en et = same_at t outs ks _ n at ts rest en et
emitted_is (If e a b) t outs ks k n at ts rest en et =
    let join = at + 1 + count a + 1 + count b in
    let to_join = only (E.Jump join) in
    let cb = code b t (at + 1 + count a + 1) outs to_join in
    let ca = code a t (at + 1) outs to_join in
    let ej : n - 1 ≡ join = omega arith in
    let en' : at + 1 + count a + 1 - 1 ≡ at + 1 + count a = omega arith in
    let back = cb.first ∷ (cb.others ++ k ∷ ks) in
    let hb : emitted b (finished (E.Jump (n - 1)) (emission t outs ks k n ts)) ≡ written t outs (k ∷ ks) cb (at + 1 + count a + 1) (turns_of a ++ rest) =
    ap (λ j. emitted b (emission t outs (k ∷ ks) (only (E.Jump j)) (n - 1) ts)) ej
    ∙ emitted_is b t outs (k ∷ ks) to_join (n - 1) (at + 1 + count a + 1) ts (turns_of a ++ rest) ej (et ∙ append_assoc (turns_of b) (turns_of a) rest) in
    let ha : emitted a (finished (E.Jump (n - 1)) (written t outs (k ∷ ks) cb (at + 1 + count a + 1) (turns_of a ++ rest))) ≡ written t outs back ca (at + 1) rest =
    ap (λ j. emitted a (emission t outs back (only (E.Jump j)) (at + 1 + count a + 1 - 1) (turns_of a ++ rest))) ej
    ∙ emitted_is a t outs back to_join (at + 1 + count a + 1 - 1) (at + 1) (turns_of a ++ rest) rest en' refl in
    let ef : at + 1 - 1 ≡ at = omega arith in
    let el : ca.first ∷ (ca.others ++ back) ≡ ((ca.first ∷ ca.others) ++ ((cb.first ∷ cb.others) ++ k ∷ [])) ++ ks =
    ap (λ l. ca.first ∷ (ca.others ++ cb.first ∷ l)) (sym (append_assoc cb.others (k ∷ []) ks)) ∙ ap (λ l. ca.first ∷ l) (sym (append_assoc ca.others (cb.first ∷ (cb.others ++ k ∷ [])) ks)) in
    ap (λ s. choosing e (s.at - 1) (emitted a (finished (E.Jump (n - 1)) s))) hb
    ∙ ap (λ s. choosing e (at + 1 + count a + 1 - 1) s) ha
    ∙ λ i. emission t outs (el i) (operand e t (only (E.Branch (place e t) (ef i) (en' i)))) (ef i) rest
emitted_is (Loop s) t outs ks k n at ts rest en et =
    let join = at + 1 + count s in
    let to_head = only (E.Jump at) in
    let cs = code s t (at + 1) (join ∷ outs) to_head in
    let ej : n - 1 ≡ join = omega arith in
    let eh : n - 1 - count s - 1 ≡ at = omega arith in
    let ef : at + 1 - 1 ≡ at = omega arith in
    let hs : emitted s (turning (emission t outs ks k n ts)) ≡ written t (join ∷ outs) (k ∷ ks) cs (at + 1) rest =
    ap (λ ts. emitted s (turning (emission t outs ks k n ts))) et
    ∙ (λ i. emitted s (emission t (ej i ∷ outs) (k ∷ ks) (only (E.Jump (eh i))) (n - 1) (turns_of s ++ rest)))
    ∙ emitted_is s t (join ∷ outs) (k ∷ ks) to_head (n - 1) (at + 1) (turns_of s ++ rest) rest ej refl in
    let el : cs.first ∷ (cs.others ++ k ∷ ks) ≡ ((cs.first ∷ cs.others) ++ k ∷ []) ++ ks = ap (λ l. cs.first ∷ l) (sym (append_assoc cs.others (k ∷ []) ks)) in
    ap looping hs ∙ λ i. emission t outs (el i) (only (E.Jump (ef i))) (ef i) rest
emitted_is (Break j) t outs ks k n at ts rest en et =
    ap (λ b. emission t outs ks (only (E.Jump b)) n ts) (behind_indexed outs j) ∙ same_at t outs ks (only (E.Jump (behind outs j))) n at ts rest en et
emitted_is (Return es) t outs ks k n at ts rest en et = same_at t outs ks _ n at ts rest en et
emitted_is (Take x) t outs ks k n at ts rest en et = same_at t outs ks _ n at ts rest en et
emitted_is (Give e) t outs ks k n at ts rest en et = same_at t outs ks _ n at ts rest en et
emitted_is (Stop e) t outs ks k n at ts rest en et = same_at t outs ks _ n at ts rest en et
emitted_is (Limit l) t outs ks k n at ts rest en et = same_at t outs ks _ n at ts rest en et

-- a whole body
pub body_emitted : (f : Procedure) (m : Measure) (at : ℕ) → m ≡ measured f.body (measure 0 0 []) → at ≡ 1 + m.blocks → emitted f.body (emission f.values [] [] (only (E.Return [])) at m.turns) ≡ written f.values [] [] (body_code f) 1 []
body_emitted f m at em ea =
    let is = em ∙ measured_is f.body 0 0 [] in
    let eb = ap (λ m. m.blocks) is in
    emitted_is f.body f.values [] [] (only (E.Return [])) at 1 m.turns [] (omega (arith, eb, ea)) (ap (λ m. m.turns) is)

pub body_spare : (f : Procedure) (m : Measure) → m ≡ measured f.body (measure 0 0 []) → m.spare ≡ spare_of f.body
body_spare f m em = let is = ap (λ m. m.spare) (em ∙ measured_is f.body 0 0 []) in omega (arith, is)

pub body_blocks : (f : Procedure) (m : Measure) (at : ℕ) (out : Emission) (bs : List Block) → m ≡ measured f.body (measure 0 0 []) → at ≡ 1 + m.blocks → out ≡ emitted f.body (emission f.values [] [] (only (E.Return [])) at m.turns)
    → bs ≡ out.current ∷ out.others → bs ≡ (body_code f).first ∷ (body_code f).others
body_blocks f m at out bs em ea eo eb =
    eb ∙ ap (λ s. s.current ∷ s.others) (eo ∙ body_emitted f m at em ea) ∙ ap (λ l. (body_code f).first ∷ l) (append-nil (body_code f).others)
