-- A fault of the form is none of a limit on nesting.
use Rattle.std.proofs.Common.{◌≡◌, ℕ, zero, suc, ◌+◌, ◌-◌, ◌≤◌, Bool, true, false, List, Err, Ok, sym, ap, subst, ◌∙◌, ◌⊎◌, inl, inr, arith}
use Rattle.c_grammar.specs.declared.fault.Kind.{Kind}
use Rattle.c_grammar.specs.declared.fault.Kind.TheVariants.{Form, Deep}
use Rattle.c_grammar.specs.declared.token.Token.{Token}
use Rattle.c_grammar.specs.Grammar.{Scope}
use Rattle.c_grammar.specs.Reading.{Read}
use Rattle.c_unit_grammar.specs.Statements.{Ext, spell_ext, FitsExt}
use Rattle.c_unit_grammar.specs.Reading.{ext_at}
use Rattle.c_unit_grammar.proofs.Again.{ext_again}
use Rattle.c_nesting.specs.Agreeing.{Agrees}
use Rattle.c_nesting.proofs.UnitsAgree.{external}

then_agrees : {A : Type 0} (m n k : Read A) → Agrees m n → Agrees n k → Agrees m k
then_agrees m n k (inr d) b = inr d
then_agrees m n k (inl e) (inl f) = inl (f ∙ e)
then_agrees m n k (inl e) (inr (left, f)) = inr (left, sym e ∙ f)

pub with_more : (k n : ℕ) (s : Scope) (ts : List Token) → Agrees (ext_at n s ts) (ext_at (k + n) s ts)
with_more zero n s ts = let e : 0 + n ≡ n = omega arith in inl (ap (λ (j : ℕ). ext_at j s ts) e)
with_more (suc k) n s ts =
    let e : suc (k + n) ≡ suc k + n = omega arith in
    subst (λ (j : ℕ). Agrees (ext_at n s ts) (ext_at j s ts)) e (then_agrees (ext_at n s ts) (ext_at (k + n) s ts) (ext_at (suc (k + n)) s ts) (with_more k n s ts) (external (k + n) s ts))

abbrev form : ℕ → Read Ext
form left = Err (record { kind = Form; left = left })

abbrev is_form : Kind → Bool
is_form Form = true
is_form Deep = false

abbrev is_of_form : Read Ext → Bool
is_of_form (Ok x) = true
is_of_form (Err f) = is_form f.kind

apart : (left l : ℕ) → form left ≡ Err (record { kind = Deep; left = l }) → ⊥
apart left l e = let no : true ≡ false = ap is_of_form e in absurd cc

-- what fails by its form with fewer nestings is not read with more
stays : (m n : Read Ext) (left : ℕ) (x : Ext × List Token) → Agrees m n → m ≡ form left → n ≡ Ok x → ⊥
stays m n left x (inl e) f g = let both = sym g ∙ e ∙ f in absurd cc
stays m n left x (inr (l, e)) f g = apart left l (sym f ∙ e)

-- and what is read with fewer doesn't fail with more
still : (m n : Read Ext) (left : ℕ) (x : Ext × List Token) → Agrees m n → m ≡ Ok x → n ≡ form left → ⊥
still m n left x (inl e) f g = let both = sym g ∙ e ∙ f in absurd cc
still m n left x (inr (l, e)) f g = let both = sym f ∙ e in absurd cc

order : (n m : ℕ) → (n ≤ m) ⊎ (m ≤ n)
order zero m = inl (omega arith)
order (suc n) zero = inr (omega arith)
order (suc n) (suc m) = pick (order n m)
  where
    pick : (n ≤ m) ⊎ (m ≤ n) → (suc n ≤ suc m) ⊎ (suc m ≤ suc n)
    pick (inl le) = inl (omega (arith, le))
    pick (inr le) = inr (omega (arith, le))

pub none : (n m left : ℕ) (s : Scope) (ts : List Token) → ext_at n s ts ≡ Err (record { kind = Form; left = left }) → (x : Ext) (others : List Token) → FitsExt m s x → ts ≡ spell_ext x others → ⊥
none n m left s ts fails x others fits is = by (order n m)
  where
    read : ext_at m s ts ≡ Ok (x, others)
    read = ap (ext_at m s) is ∙ ext_again x m s others fits

    by : (n ≤ m) ⊎ (m ≤ n) → ⊥
    by (inl le) =
        let k : (m - n) + n ≡ m = omega arith in
        stays (ext_at n s ts) (ext_at m s ts) left (x, others) (subst (λ (j : ℕ). Agrees (ext_at n s ts) (ext_at j s ts)) k (with_more (m - n) n s ts)) fails read
    by (inr le) =
        let k : (n - m) + m ≡ n = omega arith in
        still (ext_at m s ts) (ext_at n s ts) left (x, others) (subst (λ (j : ℕ). Agrees (ext_at m s ts) (ext_at j s ts)) k (with_more (n - m) m s ts)) read fails
