-- The external declarations of a file, or the first that breaks a rule: where it begins and what is wrong in it.
use Rattle.std.specs.Prelude.{◌≡◌, ℕ, zero, suc, List, [], ◌∷◌, length, Result, Ok, Err}
use Rattle.c_grammar.specs.declared.token.Token.{Token}
use Rattle.c_grammar.specs.declared.fault.Kind.TheVariants.{Form}
use Rattle.c_grammar.specs.declared.fault.Fault.{Fault}
use Rattle.c_grammar.specs.Grammar.{Scope}
use Rattle.c_grammar.specs.Reading.{broken}
use Rattle.c_unit_grammar.specs.Statements.{Ext, spell_ext, after_ext, after_exts, FitsExt, IsFirstBroken}
use Rattle.c_unit_grammar.specs.Reading.{ext_at}
use Rattle.c_external_read.specs.declared.file.BrokenExternal.{BrokenExternal}
use Rattle.c_external_read.specs.declared.file.ExternalsError.{ExternalsError}
use Rattle.c_external_read.specs.declared.file.ExternalsError.TheVariants.{Memory, Broken}

-- how deep an external declaration nests at most
abbrev pub deepest : ℕ
deepest = 64

-- What a function returned, seen by view, is what is read, unless memory was wanting.
abbrev pub Stops : {Y : Type 0} → ExternalsError → Result Y BrokenExternal → Type 0
Stops Memory read = Unit {0}
Stops (Broken b) read = read ≡ Err b

abbrev pub Answers : {X Y : Type 0} → (X → Y) → Result X ExternalsError → Result Y BrokenExternal → Type 0
Answers view (Ok x) read = read ≡ Ok (view x)
Answers view (Err e) read = Stops e read

-- an external declaration that begins with these tokens
abbrev pub began : {A : Type 0} → List Token → Result A Fault → Result A BrokenExternal
began ts (Ok x) = Ok x
began ts (Err f) = Err (record { left = length ts; fault = f })

abbrev pub external_at : ℕ → Scope → List Token → Result (Ext × List Token) BrokenExternal
external_at n s ts = began ts (ext_at n s ts)

abbrev pub and_then : {A B : Type 0} → Result A BrokenExternal → (A → Result B BrokenExternal) → Result B BrokenExternal
and_then (Ok x) more = more x
and_then (Err b) more = Err b

abbrev pub and_behind : Ext → Result (List Ext) BrokenExternal → Result (List Ext) BrokenExternal
and_behind x (Ok xs) = Ok (x ∷ xs)
and_behind x (Err b) = Err b

-- at most so many
unfoldable pub externals_at : ℕ → ℕ → Scope → List Token → Result (List Ext) BrokenExternal
externals_at n k s [] = Ok []
externals_at n zero s (t ∷ ts) = began (t ∷ ts) (broken (t ∷ ts))
externals_at n (suc k) s (t ∷ ts) = and_then (external_at n s (t ∷ ts)) (λ x. and_behind x.0 (externals_at n k (after_ext x.0 s) x.1))

-- ---- laws

-- how many tokens are left where reading stops
abbrev pub lefts : Result (List Ext) BrokenExternal → Result (List Ext) ℕ
lefts (Ok xs) = Ok xs
lefts (Err b) = Err b.left

abbrev pub lengths : Result (List Ext) (List Token) → Result (List Ext) ℕ
lengths (Ok xs) = Ok xs
lengths (Err rest) = Err (length rest)

-- the first external declaration that breaks a rule begins where so many tokens are left, and this is wrong in it; where that is its form, no external
-- declaration begins there at any nesting
pub record BreaksAt (n : ℕ) (s : Scope) (ts : List Token) (b : BrokenExternal) : Type 0 where
  pub rest : List Token
  pub first : IsFirstBroken n s ts rest
  pub left : length rest ≡ b.left
  pub fault : ext_at n (after_exts first.before s) rest ≡ Err b.fault
  pub formless : b.fault.kind ≡ Form → (m : ℕ) (x : Ext) (others : List Token) → FitsExt m (after_exts first.before s) x → rest ≡ spell_ext x others → ⊥
