-- Names between delimiters.
use Rattle.std.proofs.Common.{◌≡◌, ℕ, Bool, true, false, cond, eqb, ◌||◌, List, [], ◌∷◌, ◌++◌, Option, Some, None, length, refl, sym, ap, ◌∙◌, append_assoc, arith}
use Rattle.std.proofs.lemmas.List.{append-nil}
use Rattle.c_text.specs.declared.kind.Lexeme.{Lexeme}
use Rattle.std.specs.List.{list_any}
use Rattle.c_lines.specs.Headers.{seen, end_only, before_end, blank_before, spelled_behind}

no_end : (name : List ℕ) (last : ℕ) → end_only (name ++ last ∷ []) ≡ None
no_end [] last = refl
no_end (c ∷ cs) last = refl

pub name_ends : (close last : ℕ) (name : List ℕ) → before_end close (name ++ last ∷ []) ≡ cond (list_any (λ c. eqb c close) name) None (cond (eqb last close) (Some name) None)
name_ends close last [] = pick (eqb last close)
  where
    pick : (b : Bool) → cond b (Some []) (seen (λ (name : List ℕ). last ∷ name) None) ≡ cond b (Some []) None
    pick true = refl
    pick false = refl
name_ends close last (c ∷ cs) = pick (eqb c close) (name_ends close last cs)
  where
    inner : (a b : Bool) → seen (λ (name : List ℕ). c ∷ name) (cond a None (cond b (Some cs) None)) ≡ cond a None (cond b (Some (c ∷ cs)) None)
    inner true b = refl
    inner false true = refl
    inner false false = refl

    pick : (b : Bool) → before_end close (cs ++ last ∷ []) ≡ cond (list_any (λ c. eqb c close) cs) None (cond (eqb last close) (Some cs) None)
        → cond b (end_only (cs ++ last ∷ [])) (seen (λ (name : List ℕ). c ∷ name) (before_end close (cs ++ last ∷ [])))
        ≡ cond (b || list_any (λ c. eqb c close) cs) None (cond (eqb last close) (Some (c ∷ cs)) None)
    pick true ih = no_end cs last
    pick false ih = ap (seen (λ (name : List ℕ). c ∷ name)) ih ∙ inner (list_any (λ c. eqb c close) cs) (eqb last close)

pub end_at : (close last : ℕ) (name text : List ℕ) (b d : Bool) → text ≡ name ++ last ∷ [] → b ≡ list_any (λ c. eqb c close) name → eqb last close ≡ d → before_end close text ≡ cond b None (cond d (Some name) None)
end_at close last name text b d te be de = ap (before_end close) te ∙ name_ends close last name ∙ rw (be, de) refl

pub behind_one : (out out' : List ℕ) (l : Lexeme) (ls rest : List Lexeme) → out' ≡ out ++ (blank_before l ++ l.spelling) → rest ≡ l ∷ ls → out' ++ spelled_behind ls ≡ out ++ spelled_behind rest
unfolding spelled_behind
behind_one out out' l ls rest oe re = rw (oe, re) (append_assoc out (blank_before l ++ l.spelling) (spelled_behind ls))

pub behind_none : (out : List ℕ) (rest : List Lexeme) → length rest ≡ 0 → out ≡ out ++ spelled_behind rest
unfolding spelled_behind
behind_none out [] e = sym (append-nil out)
behind_none out (l ∷ ls) e = absurd (omega (arith, e))
