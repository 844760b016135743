-- External declarations have one tree, and a file tells the first place where none begins.
use Rattle.std.proofs.Common.{◌≡◌, ℕ, zero, suc, ◌≤◌, List, [], ◌∷◌, length, Result, Ok, Err, refl, sym, ap, ◌∙◌, arith}
use Rattle.std.specs.Prelude.{IfOk}
use Rattle.c_grammar.specs.declared.token.Token.{Token}
use Rattle.c_grammar.specs.declared.fault.Fault.{Fault}
use Rattle.c_grammar.specs.Grammar.{Scope}
use Rattle.c_grammar.specs.Reading.{Read}
use Rattle.c_unit_grammar.specs.Statements.{Stmt, spell_stmt, WithinStmt, takes_else, StopsElse, Ext, spell_ext, after_ext, FitsExt}
use Rattle.c_unit_grammar.specs.Reading.{stmt_in, ext_at, and_on, and_also, file_at, Tells}
use Rattle.c_unit_grammar.proofs.Lengths.{grows_ext}
use Rattle.c_unit_grammar.proofs.Sound.{IsExt, ext_sound}
use Rattle.c_unit_grammar.proofs.Again.{stmt_again, ext_again}

pub statement_again : (n : ℕ) (s : Scope) (x : Stmt) (rest : List Token) → WithinStmt n s x → StopsElse (takes_else x) rest → stmt_in n s (spell_stmt x rest) ≡ Ok (x, rest)
unfolding stmt_in
statement_again zero s x rest w stop = absurd w
statement_again (suc n) s x rest w stop = stmt_again x n s rest w stop

stmt_is : (x y : Stmt × List Token) → let d : Read Stmt = Ok x in let e : Read Stmt = Ok y in d ≡ e → x ≡ y
stmt_is x y e = cc

pub one_statement : (n : ℕ) (s : Scope) (t u : Stmt) (rest others : List Token) → WithinStmt n s t → WithinStmt n s u → StopsElse (takes_else t) rest → StopsElse (takes_else u) others → spell_stmt t rest ≡ spell_stmt u others → (t ≡ u) × (rest ≡ others)
one_statement n s t u rest others ft fu st su e =
    let same = stmt_is (t, rest) (u, others) (sym (statement_again n s t rest ft st) ∙ ap (stmt_in n s) e ∙ statement_again n s u others fu su) in
    (ap (λ (x : Stmt × List Token). x.0) same, ap (λ (x : Stmt × List Token). x.1) same)

ext_is : (x y : Ext × List Token) → let d : Read Ext = Ok x in let e : Read Ext = Ok y in d ≡ e → x ≡ y
ext_is x y e = cc

-- no two external declarations are spelled alike, whatever follows
pub one_external : (n : ℕ) (s : Scope) (t u : Ext) (rest others : List Token) → FitsExt n s t → FitsExt n s u → spell_ext t rest ≡ spell_ext u others → (t ≡ u) × (rest ≡ others)
one_external n s t u rest others ft fu e =
    let same = ext_is (t, rest) (u, others) (sym (ext_again t n s rest ft) ∙ ap (ext_at n s) e ∙ ext_again u n s others fu) in
    (ap (λ (x : Ext × List Token). x.0) same, ap (λ (x : Ext × List Token). x.1) same)

-- ---- files

no_ext : (n : ℕ) (s : Scope) (ts : List Token) (e : Fault) → ext_at n s ts ≡ Err e → (x : Ext) (others : List Token) → FitsExt n s x → ts ≡ spell_ext x others → ⊥
no_ext n s ts e q x others f is = let both = sym q ∙ ap (ext_at n s) is ∙ ext_again x n s others f in absurd cc

also : (n : ℕ) (s : Scope) (ts rest : List Token) (x : Ext) (r : Result (List Ext) (List Token)) → ts ≡ spell_ext x rest → FitsExt n s x → Tells n (after_ext x s) rest r → Tells n s ts (and_also x r)
also n s ts rest x (Ok xs) e f t = (e ∙ ap (spell_ext x) t.0, (f, t.1))
also n s ts rest x (Err more) e f t = record { before = x ∷ t.before; fits = (f, t.fits); spelled = e ∙ ap (spell_ext x) t.spelled; none = t.none }

pub tells : (n k : ℕ) (s : Scope) (ts : List Token) → length ts ≤ k → Tells n s ts (file_at n k s ts)
unfolding file_at
tells n k s [] le = (refl, tt)
tells n zero s (t ∷ ts) le = absurd (omega arith)
tells n (suc k) s (t ∷ ts) le = pick (ext_at n s (t ∷ ts)) refl (ext_sound n s (t ∷ ts)) (tells n k)
  where
    pick : (r : Read Ext) → ext_at n s (t ∷ ts) ≡ r → IfOk r (IsExt n s (t ∷ ts)) → ((s : Scope) (ts : List Token) → length ts ≤ k → Tells n s ts (file_at n k s ts)) → Tells n s (t ∷ ts) (and_on r (t ∷ ts) (λ x. and_also x.0 (file_at n k (after_ext x.0 s) x.1)))
    pick (Ok x) q p ih =
        let len : length (t ∷ ts) ≡ length (spell_ext x.0 x.1) = ap length p.0 in
        also n s (t ∷ ts) x.1 x.0 (file_at n k (after_ext x.0 s) x.1) p.0 p.1 (ih (after_ext x.0 s) x.1 (omega (arith, le, len, grows_ext x.0 x.1)))
    pick (Err e) q p ih = record { before = []; fits = tt; spelled = refl; none = no_ext n s (t ∷ ts) e q }
