-- One turn of the loop that reads the external declarations of a file.
use Rattle.std.proofs.Common.{◌≡◌, ℕ, zero, suc, ◌+◌, ◌≤◌, ◌<◌, List, [], ◌∷◌, ◌++◌, map, length, Result, Ok, Err, refl, sym, ap, subst, ◌∙◌, append_assoc, arith}
use Rattle.std.specs.Prelude.{IfOk}
use Rattle.std.proofs.lemmas.List.{append-nil}
use Rattle.c_expression_read.proofs.Loops.{map-last}
use Rattle.c_grammar.specs.declared.token.Token.{Token}
use Rattle.c_grammar.specs.Grammar.{Scope}
use Rattle.c_grammar.specs.Reading.{Read}
use Rattle.c_unit_grammar.specs.Statements.{Ext, spell_ext, after_ext}
use Rattle.c_unit_grammar.specs.Reading.{ext_at}
use Rattle.c_unit_grammar.proofs.Lengths.{grows_ext}
use Rattle.c_unit_grammar.proofs.Sound.{IsExt, ext_sound}
use Rattle.c_external_read.specs.declared.file.BrokenExternal.{BrokenExternal}
use Rattle.c_external_read.specs.declared.file.ExternalsError.{ExternalsError}
use Rattle.c_external_read.specs.declared.file.ExternalsError.TheVariants.{Memory, Broken}
use Rattle.c_external_read.specs.Files.{Stops, began, external_at, and_then, and_behind, externals_at}

-- what is read behind others that were read
abbrev pub behind_all : List Ext → Result (List Ext) BrokenExternal → Result (List Ext) BrokenExternal
behind_all xs (Ok ys) = Ok (xs ++ ys)
behind_all xs (Err b) = Err b

pub behind_last : (xs : List Ext) (x : Ext) (read : Result (List Ext) BrokenExternal) → behind_all (xs ++ x ∷ []) read ≡ behind_all xs (and_behind x read)
behind_last xs x (Ok ys) = ap (λ (zs : List Ext). Ok zs) (append_assoc xs (x ∷ []) ys)
behind_last xs x (Err b) = refl

-- what is read is shorter
pub shortens : (n : ℕ) (s : Scope) (ts : List Token) (r : Read Ext) → IfOk r (IsExt n s ts) → IfOk r (λ x. length x.1 < length ts)
shortens n s ts (Ok x) p = let len : length ts ≡ length (spell_ext x.0 x.1) = ap length p.0 in omega (arith, len, grows_ext x.0 x.1)
shortens n s ts (Err f) p = tt

-- more turns than there are tokens change nothing
pub enough : (n k j : ℕ) (s : Scope) (ts : List Token) → length ts ≤ k → length ts ≤ j → externals_at n k s ts ≡ externals_at n j s ts
unfolding externals_at
enough n k j s [] a b = refl
enough n zero j s (t ∷ ts) a b = absurd (omega arith)
enough n (suc k) zero s (t ∷ ts) a b = absurd (omega arith)
enough n (suc k) (suc j) s (t ∷ ts) a b = by (ext_at n s (t ∷ ts)) (shortens n s (t ∷ ts) (ext_at n s (t ∷ ts)) (ext_sound n s (t ∷ ts))) (enough n k j)
  where
    by : (r : Read Ext) → IfOk r (λ x. length x.1 < length (t ∷ ts)) → ((s : Scope) (us : List Token) → length us ≤ k → length us ≤ j → externals_at n k s us ≡ externals_at n j s us) → and_then (began (t ∷ ts) r) (λ x. and_behind x.0 (externals_at n k (after_ext x.0 s) x.1)) ≡ and_then (began (t ∷ ts) r) (λ x. and_behind x.0 (externals_at n j (after_ext x.0 s) x.1))
    by (Ok x) p ih = ap (and_behind x.0) (ih (after_ext x.0 s) x.1 (omega (arith, a, p)) (omega (arith, b, p)))
    by (Err f) p ih = refl

-- what begins is what was read
pub began_ok : (ts : List Token) (r : Read Ext) (x : Ext × List Token) → began ts r ≡ Ok x → r ≡ Ok x
began_ok ts (Ok y) x e = cc
began_ok ts (Err f) x e = absurd cc

-- one external declaration, and then the others
pub turn : (n : ℕ) (s : Scope) (ts rest : List Token) (x : Ext) → 0 < length ts → external_at n s ts ≡ Ok (x, rest) → externals_at n (length ts) s ts ≡ and_behind x (externals_at n (length rest) (after_ext x s) rest)
unfolding externals_at
turn n s [] rest x some e = absurd (omega arith)
turn n s (t ∷ ts) rest x some e =
    let short = subst (λ (r : Read Ext). IfOk r (λ y. length y.1 < length (t ∷ ts))) (began_ok (t ∷ ts) (ext_at n s (t ∷ ts)) (x, rest) e) (shortens n s (t ∷ ts) (ext_at n s (t ∷ ts)) (ext_sound n s (t ∷ ts))) in
    rw e (ap (and_behind x) (enough n (length ts) (length rest) (after_ext x s) rest (omega (arith, short)) (omega arith)))

-- one that breaks a rule
pub fails : (n : ℕ) (s : Scope) (ts : List Token) (b : BrokenExternal) → 0 < length ts → external_at n s ts ≡ Err b → externals_at n (length ts) s ts ≡ Err b
unfolding externals_at
fails n s [] b some e = absurd (omega arith)
fails n s (t ∷ ts) b some e = rw e refl

-- before the first turn nothing was read
pub begun : (read : Result (List Ext) BrokenExternal) → behind_all [] read ≡ read
begun (Ok ys) = refl
begun (Err b) = refl

pub is_empty : (us : List Token) → length us ≡ 0 → us ≡ []
is_empty [] e = refl
is_empty (u ∷ us) e = absurd (omega arith)

-- where no tokens are left
at_end : (n : ℕ) (s : Scope) (us : List Token) → length us ≤ 0 → externals_at n (length us) s us ≡ Ok []
unfolding externals_at
at_end n s [] le = refl
at_end n s (u ∷ us) le = absurd (omega arith)

module _ (n : ℕ) (xs : List Ext) (s : Scope) (ts : List Token) (total : Result (List Ext) BrokenExternal) (so_far : behind_all xs (externals_at n (length ts) s ts) ≡ total) where
  pub goes_on : (x : Ext) (t : Scope) (rest : List Token) → 0 < length ts → external_at n s ts ≡ Ok (x, rest) → t ≡ after_ext x s → behind_all (xs ++ x ∷ []) (externals_at n (length rest) t rest) ≡ total
  goes_on x t rest some e d =
      ap (λ (u : Scope). behind_all (xs ++ x ∷ []) (externals_at n (length rest) u rest)) d
      ∙ behind_last xs x (externals_at n (length rest) (after_ext x s) rest)
      ∙ ap (behind_all xs) (sym (turn n s ts rest x some e))
      ∙ so_far

  -- and where trees are seen as the grammar has them
  pub goes_on_by : {X : Type 0} (see : X → Ext) (trees : List X) (tree : X) (t : Scope) (rest : List Token) → xs ≡ map see trees → 0 < length ts → external_at n s ts ≡ Ok (see tree, rest) → t ≡ after_ext (see tree) s → behind_all (map see (trees ++ tree ∷ [])) (externals_at n (length rest) t rest) ≡ total
  goes_on_by see trees tree t rest all some e d =
      ap (λ (ys : List Ext). behind_all ys (externals_at n (length rest) t rest)) (map-last see trees tree ∙ ap (λ (ys : List Ext). ys ++ see tree ∷ []) (sym all))
      ∙ goes_on (see tree) t rest some e d

  pub stops : (e : ExternalsError) → 0 < length ts → Stops e (external_at n s ts) → Stops e total
  stops Memory some f = tt
  stops (Broken b) some f = sym so_far ∙ ap (behind_all xs) (fails n s ts b some f)

  pub ends : length ts ≤ 0 → total ≡ Ok xs
  ends none = sym so_far ∙ ap (behind_all xs) (at_end n s ts none) ∙ ap (λ (ys : List Ext). Ok ys) (append-nil xs)
