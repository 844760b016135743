-- Going over bytes one after the other, as a loop does.
use Rattle.std.proofs.Common.{◌≡◌, ℕ, suc, ◌+◌, ◌<◌, ◌≤◌, true, false, List, [], ◌∷◌, ◌++◌, length, take, drop, get_or, refl, sym, ap, ◌∙◌, arith, append_assoc}
use Rattle.std.proofs.Math.Seq.{drop-cons, take-suc}
use Rattle.std.proofs.lemmas.List.{drop_all, append-nil}
use Rattle.f_lex.specs.declared.class.Run.{Run}
use Rattle.f_lex.specs.Characters.{goes_on}
use Rattle.f_lex.specs.Lines.{run_at}

-- what was passed, and what still is
abbrev pub run_from : Run → List ℕ → ℕ → List ℕ × List ℕ
run_from run bytes i = (take i bytes ++ (run_at run (drop i bytes)).0, (run_at run (drop i bytes)).1)

module _ (run : Run) (bytes : List ℕ) (i : ℕ) (total : List ℕ × List ℕ) (so_far : run_from run bytes i ≡ total) where
  pub run_on : i < length bytes → goes_on run (drop i bytes) ≡ true → run_from run bytes (i + 1) ≡ total
  unfolding run_at
  run_on lt e =
      let n : i + 1 ≡ suc i = omega arith in
      let test : goes_on run (get_or bytes i 0 ∷ drop (suc i) bytes) ≡ true = ap (goes_on run) (sym (drop-cons bytes i 0 lt)) ∙ e in
      let rest = run_at run (drop (suc i) bytes) in
      let one : run_from run bytes i ≡ (take i bytes ++ (get_or bytes i 0 ∷ rest.0), rest.1) = rw (drop-cons bytes i 0 lt, test) refl in
      let two : run_from run bytes (i + 1) ≡ (take i bytes ++ (get_or bytes i 0 ∷ rest.0), rest.1) = rw (n, take-suc bytes i 0 lt) (ap (λ (l : List ℕ). (l, rest.1)) (append_assoc (take i bytes) (get_or bytes i 0 ∷ []) rest.0)) in
      two ∙ sym one ∙ so_far

  pub run_off : i < length bytes → goes_on run (drop i bytes) ≡ false → (take i bytes, drop i bytes) ≡ total
  unfolding run_at
  run_off lt e =
      let test : goes_on run (get_or bytes i 0 ∷ drop (suc i) bytes) ≡ false = ap (goes_on run) (sym (drop-cons bytes i 0 lt)) ∙ e in
      let one : run_from run bytes i ≡ (take i bytes ++ [], drop i bytes) = rw (drop-cons bytes i 0 lt, test) refl in
      ap (λ (l : List ℕ). (l, drop i bytes)) (sym (append-nil (take i bytes))) ∙ sym one ∙ so_far

  pub run_end : length bytes ≤ i → (take i bytes, drop i bytes) ≡ total
  unfolding run_at
  run_end le =
      let one : run_from run bytes i ≡ (take i bytes ++ [], drop i bytes) = rw (drop_all i bytes le) refl in
      ap (λ (l : List ℕ). (l, drop i bytes)) (sym (append-nil (take i bytes))) ∙ sym one ∙ so_far

pub pair_is : {a b c d : List ℕ} → a ≡ c → b ≡ d → let p : List ℕ × List ℕ = (a, b) in let q : List ℕ × List ℕ = (c, d) in p ≡ q
pair_is {a} {b} {c} {d} e f = ap (λ (x : List ℕ). (x, b)) e ∙ ap (λ (x : List ℕ). (c, x)) f
