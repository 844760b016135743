-- Steps of a machine that show nothing, one behind the other.
use Rattle.std.proofs.Common.{◌≡◌, ℕ, suc, ◌+◌, ◌≤◌, arith, subst}
use Rattle.behaviour.specs.Behaviour.{Behaviour}
use Rattle.work.specs.Same.{Same, Ready}
use Rattle.work.proofs.Same.{dearer, later, later_ready}

module _ (K : ℕ) (some : 1 ≤ K) where
  -- b comes to b' in k steps that show nothing
  pub record Leads (k : ℕ) (b b' : Behaviour) : Type 0 where
    pub same : (p n : ℕ) (a : Behaviour) → Same K p n a b' → Same K (p + k) n a b
    pub ready : (p n : ℕ) (a : Behaviour) → Ready K p n a b' → Ready K (p + k) n a b

  pub one : (b b' : Behaviour) → b 0 ≡ b' 0 → ((j : ℕ) → b (suc j) ≡ b' j) → Leads 1 b b'
  one b b' e0 e = record {
    same = λ p n a s. later K some p (p + 1) n a b b' e0 e (omega arith) s;
    ready = λ p n a s. later_ready K some p n a b b' e0 e s;
  }

  pub still : (b : Behaviour) → Leads 0 b b
  still b = record {
    same = λ p n a s. dearer K some p (p + 0) n a b (omega arith) s;
    ready = λ p n a s. (let e : p ≡ p + 0 = omega arith in subst (λ k. Ready K k n a b) e s);
  }

  pub join : (j k l : ℕ) (b b' b'' : Behaviour) → j + k ≡ l → Leads j b b' → Leads k b' b'' → Leads l b b''
  join j k l b b' b'' e f g = record {
    same = λ p n a s. (let e' : p + k + j ≡ p + l = omega arith in subst (λ q. Same K q n a b) e' (f.same (p + k) n a (g.same p n a s)));
    ready = λ p n a s. (let e' : p + k + j ≡ p + l = omega arith in subst (λ q. Ready K q n a b) e' (f.ready (p + k) n a (g.ready p n a s)));
  }
