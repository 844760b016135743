-- Paths by the numbers of blocks are the paths of the procedure.
use Rattle.std.proofs.Common.{◌≡◌, ◌≢◌, ℕ, zero, suc, ◌<◌, ◌⊎◌, inl, inr, List, [], ◌∷◌, length, take, refl, sym, ap, ◌∙◌, subst, arith, Option, Some, None}
use Rattle.std.specs.Prelude.{slice_get, slice_index, Contains}
use Rattle.flatten.specs.declared.blocks.BlockInsn.{BlockInsn}
use Rattle.flatten.specs.declared.blocks.Block.{Block}
use Rattle.flatten.specs.declared.blocks.BlockProc.{BlockProc}
use Rattle.flatten.specs.Paths.{goes_to, Path, Start, On}
use Rattle.block_homes.specs.declared.homes.Home.{Home}
use Rattle.block_homes.specs.declared.homes.Verdict.{Verdict}
use Rattle.block_homes.specs.declared.homes.Verdict.TheVariants.{Yes, No}
use Rattle.block_homes.specs.Held as H
use Rattle.block_homes.specs.Held.{places_of, after, uses_from, number}
use Rattle.block_homes.specs.Valid.{Kept, Lost, FirstLost, IsVerdict}
use Rattle.reg_alloc.specs.Steps.{Among, Leads, uses_in, uses_at, insns_in, insns_of, goes_in, next_of, init_of, step_of, held, held_at, Keeps, Loses, FirstLoses}
use Rattle.reg_alloc.specs.Rows.{Judged}

pub among_of : (x : ℕ) (xs : List ℕ) → Contains xs x → Among x xs
among_of x [] (k, lt, e) = absurd (omega (arith, lt))
among_of x (y ∷ xs) (zero, lt, e) = inl (sym e)
among_of x (y ∷ xs) (suc k, lt, e) = inr (among_of x xs (k, omega (arith, lt), e))

pub contains_of : (x : ℕ) (xs : List ℕ) → Among x xs → Contains xs x
contains_of x [] a = absurd a
contains_of x (y ∷ xs) (inl e) = (0, omega arith, sym e)
contains_of x (y ∷ xs) (inr a) = let r = contains_of x xs a in (suc r.0, omega (arith, r.1), r.2)

abbrev pub front : Option Block → List Block → List Block
front None run = run
front (Some k) run = k ∷ run

-- the blocks of these numbers
abbrev pub run_of : List Block → List ℕ → List Block
run_of bs [] = []
run_of bs (c ∷ done) = front (slice_get bs c) (run_of bs done)

held_front : (places : List ℕ) (q : BlockProc) (h o : ℕ) (run : List Block) (k : Option Block) → o ≡ H.held places q run h → after places h (insns_in k) o ≡ H.held places q (front k run) h
held_front places q h o run None e = e
held_front places q h o run (Some k) e = ap (λ x. after places h k.insns x) e

held_run : (places : List ℕ) (q : BlockProc) (h : ℕ) (done : List ℕ) → held (init_of places q) (step_of places q) h done ≡ H.held places q (run_of q.blocks done) h
held_run places q h [] = refl
held_run places q h (c ∷ done) = held_front places q h (held (init_of places q) (step_of places q) h done) (run_of q.blocks done) (slice_get q.blocks c) (held_run places q h done)

path_of : (q : BlockProc) (done : List ℕ) (b : ℕ) → Leads (next_of q.blocks) b done → Path q (run_of q.blocks done) b
path_of q [] b e = subst (λ x. Path q [] x) (sym e) Start
path_of q (c ∷ done) b l = go (path_of q done c l.1) (slice_get q.blocks c) refl
  where
    go : Path q (run_of q.blocks done) c → (o : Option Block) → slice_get q.blocks c ≡ o → Path q (front o (run_of q.blocks done)) b
    go p None e = let a : Among b [] = subst (λ ts. Among b ts) (ap goes_in e) l.0 in absurd a
    go p (Some k) e = On (run_of q.blocks done) c k b p e (contains_of b (goes_to k.end) (subst (λ ts. Among b ts) (ap goes_in e) l.0))

leads_of : (q : BlockProc) (run : List Block) (b : ℕ) → Path q run b → (done : List ℕ) × Leads (next_of q.blocks) b done × (run_of q.blocks done ≡ run)
leads_of q _ _ Start = ([], refl, refl)
leads_of q _ _ (On run b k next p e m) =
    let r = leads_of q run b p in
    (b ∷ r.0, (subst (λ ts. Among next ts) (sym (ap goes_in e)) (among_of next (goes_to k.end) m), r.1), ap (λ o. front o (run_of q.blocks r.0)) e ∙ ap (λ l. k ∷ l) r.2)

-- what a place holds at an instruction
held_both : (places : List ℕ) (q : BlockProc) (done : List ℕ) (b i h : ℕ) (k : Block) → slice_get q.blocks b ≡ Some k → held_at places q done b i h ≡ H.held_at places q (run_of q.blocks done) k i h
held_both places q done b i h k e = ap (λ o. after places h (take i (insns_in o)) (held (init_of places q) (step_of places q) h done)) e ∙ ap (λ x. after places h (take i k.insns) x) (held_run places q h done)

pub kept_of : (places : List ℕ) (q : BlockProc) (b i : ℕ) → Keeps places q b i → Kept places q b i
kept_of places q b i keeps run k v path e m =
    let l = leads_of q run b path in
    let a : Among v (uses_at q.blocks b i) = subst (λ us. Among v us) (sym (ap (λ o. uses_in o i) e)) (among_of v (uses_from k.insns k.end i) m) in
    ap (λ r. H.held_at places q r k i (slice_index places v)) (sym l.2) ∙ sym (held_both places q l.0 b i (slice_index places v) k e) ∙ keeps l.0 l.1 v a

lost_of : (places : List ℕ) (q : BlockProc) (b i : ℕ) → Loses places q b i → Lost places q b i
lost_of places q b i l = go (slice_get q.blocks b) refl
  where
    go : (o : Option Block) → slice_get q.blocks b ≡ o → Lost places q b i
    go None e = let a : Among l.value [] = subst (λ us. Among l.value us) (ap (λ o. uses_in o i) e) l.used in absurd a
    go (Some k) e = record { block = k; is_block = e; value = l.value; used = contains_of l.value (uses_from k.insns k.end i) (subst (λ us. Among l.value us) (ap (λ o. uses_in o i) e) l.used); run = run_of q.blocks l.done; path = path_of q l.done b l.leads; other = λ z. l.other (held_both places q l.done b i (slice_index places l.value) k e ∙ z) }

pub first_of : (places : List ℕ) (q : BlockProc) (k : ℕ) → FirstLoses places q k → FirstLost places q k
first_of places q k f = record { block = f.block; insn = f.insn; numbered = f.numbered; lost = lost_of places q f.block f.insn f.lost; earlier = λ b i lt. kept_of places q b i (f.earlier b i lt) }

pub verdict_by : (places : List ℕ) (homes : List Home) (p : BlockProc) (v : Verdict) → places ≡ places_of homes → Judged places p v → IsVerdict homes p v
verdict_by places homes p Yes e j = subst (λ l. (b i : ℕ) → Kept l p b i) e (λ b i. kept_of places p b i (j b i))
verdict_by places homes p (No k) e j = subst (λ l. FirstLost l p k) e (first_of places p k j)

-- without blocks there is no use
pub none_kept : (places : List ℕ) (p : BlockProc) → length p.blocks ≡ 0 → (b i : ℕ) → Kept places p b i
none_kept places p e b i run k v path h m = go p.blocks e h
  where
    go : (bs : List Block) → length bs ≡ 0 → slice_get bs b ≡ Some k → H.held_at places p run k i (slice_index places v) ≡ v
    go [] z q = absurd (cc)
    go (x ∷ bs) z q = absurd (omega (arith, z))
