-- The external declarations of a file, and the first that breaks a rule.
use Rattle.std.proofs.Common.{◌≡◌, ℕ, zero, suc, ◌≤◌, ◌<◌, List, [], ◌∷◌, length, Result, Ok, Err, refl, sym, ap, subst, ◌∙◌, arith}
use Rattle.std.specs.Prelude.{IfOk}
use Rattle.c_grammar.specs.declared.token.Token.{Token}
use Rattle.c_grammar.specs.declared.fault.Kind.TheVariants.{Form}
use Rattle.c_grammar.specs.declared.fault.Fault.{Fault}
use Rattle.c_grammar.specs.Grammar.{Scope}
use Rattle.c_grammar.specs.Reading.{Read}
use Rattle.c_unit_grammar.specs.Statements.{Ext, spell_ext, after_ext, FitsExt, spell_exts, FitsExts}
use Rattle.c_unit_grammar.specs.Reading.{ext_at, and_on, and_also, file_at, Tells}
use Rattle.c_unit_grammar.proofs.Lengths.{grows_ext}
use Rattle.c_unit_grammar.proofs.Sound.{IsExt, ext_sound}
use Rattle.c_unit_grammar.proofs.Again.{ext_again}
use Rattle.c_unit_grammar.proofs.File.{tells}
use Rattle.c_nesting.proofs.Forms.{none}
use Rattle.c_external_read.specs.declared.file.BrokenExternal.{BrokenExternal}
use Rattle.c_external_read.specs.Files.{began, and_then, and_behind, externals_at, lefts, lengths, BreaksAt}
use Rattle.c_external_read.proofs.Turns.{shortens, turn}

-- ---- what the grammar of files tells

also : (x : Ext) (r : Result (List Ext) BrokenExternal) (q : Result (List Ext) (List Token)) → lefts r ≡ lengths q → lefts (and_behind x r) ≡ lengths (and_also x q)
also x (Ok xs) (Ok ys) e = cc
also x (Ok xs) (Err us) e = absurd cc
also x (Err b) (Ok ys) e = absurd cc
also x (Err b) (Err us) e = e

pub agree : (n k : ℕ) (s : Scope) (ts : List Token) → lefts (externals_at n k s ts) ≡ lengths (file_at n k s ts)
unfolding externals_at file_at
agree n k s [] = refl
agree n zero s (t ∷ ts) = refl
agree n (suc k) s (t ∷ ts) = by (ext_at n s (t ∷ ts)) (agree n k)
  where
    by : (r : Read Ext) → ((s : Scope) (us : List Token) → lefts (externals_at n k s us) ≡ lengths (file_at n k s us)) → lefts (and_then (began (t ∷ ts) r) (λ x. and_behind x.0 (externals_at n k (after_ext x.0 s) x.1))) ≡ lengths (and_on r (t ∷ ts) (λ x. and_also x.0 (file_at n k (after_ext x.0 s) x.1)))
    by (Ok x) ih = also x.0 (externals_at n k (after_ext x.0 s) x.1) (file_at n k (after_ext x.0 s) x.1) (ih (after_ext x.0 s) x.1)
    by (Err f) ih = refl

is_read : (xs : List Ext) (r : Result (List Ext) BrokenExternal) (q : Result (List Ext) (List Token)) → r ≡ Ok xs → lefts r ≡ lengths q → q ≡ Ok xs
is_read xs (Ok ys) (Ok zs) e a = cc
is_read xs (Ok ys) (Err us) e a = absurd cc
is_read xs (Err b) q e a = absurd cc

pub is_file : (n : ℕ) (s : Scope) (ts : List Token) (xs : List Ext) → externals_at n (length ts) s ts ≡ Ok xs → (ts ≡ spell_exts xs []) × FitsExts n s xs
is_file n s ts xs e =
    let q = is_read xs (externals_at n (length ts) s ts) (file_at n (length ts) s ts) e (agree n (length ts) s ts) in
    subst (Tells n s ts) q (tells n (length ts) s ts (omega arith))

-- ---- files are read

no_tokens : (n : ℕ) (s : Scope) → externals_at n 0 s [] ≡ Ok []
unfolding externals_at
no_tokens n s = refl

pub again : (n : ℕ) (xs : List Ext) (s : Scope) → FitsExts n s xs → externals_at n (length (spell_exts xs [])) s (spell_exts xs []) ≡ Ok xs
again n [] s f = no_tokens n s
again n (x ∷ xs) s f =
    turn n s (spell_ext x (spell_exts xs [])) (spell_exts xs []) x (omega (arith, grows_ext x (spell_exts xs []))) (ap (began (spell_ext x (spell_exts xs []))) (ext_again x n s (spell_exts xs []) f.0))
    ∙ ap (and_behind x) (again n xs (after_ext x s) f.1)

pub is_externals : (n : ℕ) (s : Scope) (ts : List Token) (xs : List Ext) → FitsExts n s xs → ts ≡ spell_exts xs [] → externals_at n (length ts) s ts ≡ Ok xs
is_externals n s ts xs f e = subst (λ (us : List Token). externals_at n (length us) s us ≡ Ok xs) (sym e) (again n xs s f)

-- ---- the first that breaks a rule

no_external : (n : ℕ) (s : Scope) (ts : List Token) (e : Fault) → ext_at n s ts ≡ Err e → (x : Ext) (others : List Token) → FitsExt n s x → ts ≡ spell_ext x others → ⊥
no_external n s ts e q x others f is = let both = sym q ∙ ap (ext_at n s) is ∙ ext_again x n s others f in absurd cc

formed : (f : Fault) → f.kind ≡ Form → f ≡ record { kind = Form; left = f.left }
formed f e = ap (λ k. record f { kind = k }) e

here : (n : ℕ) (s : Scope) (ts : List Token) (f : Fault) → ext_at n s ts ≡ Err f → BreaksAt n s ts (record { left = length ts; fault = f })
here n s ts f q = record {
  rest = ts;
  first = record { before = []; fits = tt; spelled = refl; none = no_external n s ts f q };
  left = refl;
  fault = q;
  formless = λ kind m x others fits is. none n m f.left s ts (q ∙ ap (λ (g : Fault). Err g) (formed f kind)) x others fits is;
}

behind : (n : ℕ) (s : Scope) (ts rest : List Token) (x : Ext) (b : BrokenExternal) → ts ≡ spell_ext x rest → FitsExt n s x → BreaksAt n (after_ext x s) rest b → BreaksAt n s ts b
behind n s ts rest x b e f t = record {
  rest = t.rest;
  first = record { before = x ∷ t.first.before; fits = (f, t.first.fits); spelled = e ∙ ap (spell_ext x) t.first.spelled; none = t.first.none };
  left = t.left;
  fault = t.fault;
  formless = t.formless;
}

is_behind : (x : Ext) (r : Result (List Ext) BrokenExternal) (b : BrokenExternal) → and_behind x r ≡ Err b → r ≡ Err b
is_behind x (Ok xs) b e = absurd cc
is_behind x (Err c) b e = e

same_break : (c b : BrokenExternal) → let r : Result (List Ext) BrokenExternal = Err c in r ≡ Err b → c ≡ b
same_break c b e = cc

pub breaks : (n k : ℕ) (s : Scope) (ts : List Token) (b : BrokenExternal) → length ts ≤ k → externals_at n k s ts ≡ Err b → BreaksAt n s ts b
unfolding externals_at
breaks n k s [] b le e = absurd cc
breaks n zero s (t ∷ ts) b le e = absurd (omega arith)
breaks n (suc k) s (t ∷ ts) b le e = by (ext_at n s (t ∷ ts)) refl (ext_sound n s (t ∷ ts)) (shortens n s (t ∷ ts) (ext_at n s (t ∷ ts)) (ext_sound n s (t ∷ ts))) (breaks n k) e
  where
    by : (r : Read Ext) → ext_at n s (t ∷ ts) ≡ r → IfOk r (IsExt n s (t ∷ ts)) → IfOk r (λ x. length x.1 < length (t ∷ ts)) → ((s : Scope) (us : List Token) (b : BrokenExternal) → length us ≤ k → externals_at n k s us ≡ Err b → BreaksAt n s us b) → and_then (began (t ∷ ts) r) (λ x. and_behind x.0 (externals_at n k (after_ext x.0 s) x.1)) ≡ Err b → BreaksAt n s (t ∷ ts) b
    by (Ok x) q p short ih e = behind n s (t ∷ ts) x.1 x.0 b p.0 p.1 (ih (after_ext x.0 s) x.1 b (omega (arith, le, short)) (is_behind x.0 (externals_at n k (after_ext x.0 s) x.1) b e))
    by (Err f) q p short ih e = subst (BreaksAt n s (t ∷ ts)) (same_break (record { left = length (t ∷ ts); fault = f }) b e) (here n s (t ∷ ts) f q)
