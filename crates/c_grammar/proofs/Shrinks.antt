-- What is read leaves fewer tokens.
use Rattle.std.proofs.Common.{◌≡◌, ℕ, ◌<◌, ◌≤◌, Bool, true, List, length, Ok, Err, Result, ap, subst, arith}
use Rattle.std.specs.Prelude.{IfOk}
use Rattle.c_grammar.specs.declared.token.Allowed.{Allowed}
use Rattle.c_grammar.specs.declared.token.Token.{Token}
use Rattle.c_grammar.specs.declared.fault.Fault.{Fault}
use Rattle.c_grammar.specs.Grammar.{Scope, Expr, Post, Typed, Spec, Item, Decl, Decls, Suffix}
use Rattle.c_grammar.specs.Reading.{inner, level_at, post_at, spec_at, item_at, array_at, function_at, begins_spec, colon_at, semi_at, decls_at}
use Rattle.c_grammar.proofs.Sound.{inner_sound, level_sound, post_sound, spec_sound, item_sound, array_sound, function_sound, colon_sound, semi_sound, decls_sound}
use Rattle.c_grammar.proofs.Lengths.{grows, grows_post, grows_typed, grows_spec, grows_item, grows_decl, grows_decls, grows_suffix}

pub holds : {A : Type 0} (m : Result A Fault) (P : A → Type 0) (x : A) → IfOk m P → m ≡ Ok x → P x
holds (Ok y) P x p e = let same : y ≡ x = cc in subst P same p
holds (Err f) P x p e = absurd cc

pub expr_shrinks : (n h : ℕ) (s : Scope) (ts rest : List Token) (e : Expr) → level_at (inner n) h s ts ≡ Ok (e, rest) → length rest ≤ length ts
expr_shrinks n h s ts rest e is =
    let p = holds (level_at (inner n) h s ts) _ (e, rest) (level_sound (inner n) n (inner_sound n) h s ts) is in
    omega (arith, ap length p.0, grows e rest)

pub post_shrinks : (n : ℕ) (s : Scope) (ts rest : List Token) (x : Post) → post_at (inner n) s ts ≡ Ok (x, rest) → length rest < length ts
post_shrinks n s ts rest x is =
    let p = holds (post_at (inner n) s ts) _ (x, rest) (post_sound (inner n) n (inner_sound n) s ts) is in
    omega (arith, ap length p.0, grows_post x rest)

pub spec_shrinks : (n : ℕ) (based : Bool) (s : Scope) (ts rest : List Token) (x : Spec) → begins_spec based s ts ≡ true → spec_at (inner n) s ts ≡ Ok (x, rest) → length rest < length ts
spec_shrinks n based s ts rest x b is =
    let p = holds (spec_at (inner n) s ts) _ (x, rest) (spec_sound (inner n) n (inner_sound n) based s ts b) is in
    omega (arith, ap length p.0, grows_spec x rest)

pub item_shrinks : (n : ℕ) (s : Scope) (ts rest : List Token) (x : Item) → item_at (inner n) s ts ≡ Ok (x, rest) → length rest ≤ length ts
item_shrinks n s ts rest x is =
    let p = holds (item_at (inner n) s ts) _ (x, rest) (item_sound (inner n) n (inner_sound n) s ts) is in
    omega (arith, ap length p.0, grows_item x rest)

pub decl_in_shrinks : (n : ℕ) (a : Allowed) (s : Scope) (ts rest : List Token) (x : Decl) → (inner n).decl a s ts ≡ Ok (x, rest) → length rest ≤ length ts
decl_in_shrinks n a s ts rest x is =
    let p = holds ((inner n).decl a s ts) _ (x, rest) ((inner_sound n).decl a s ts) is in
    omega (arith, ap length p.0, grows_decl x rest)

pub typed_in_shrinks : (n : ℕ) (a : Allowed) (s : Scope) (ts rest : List Token) (x : Typed) → (inner n).typed a s ts ≡ Ok (x, rest) → length rest ≤ length ts
typed_in_shrinks n a s ts rest x is =
    let p = holds ((inner n).typed a s ts) _ (x, rest) ((inner_sound n).typed a s ts) is in
    omega (arith, ap length p.0, grows_typed x rest)

pub array_shrinks : (n : ℕ) (s : Scope) (ts rest : List Token) (x : Suffix) → array_at (inner n) s ts ≡ Ok (x, rest) → length rest ≤ length ts
array_shrinks n s ts rest x is =
    let p = holds (array_at (inner n) s ts) _ (x, rest) (array_sound (inner n) n (inner_sound n) s ts) is in
    omega (arith, ap length p.0, grows_suffix x rest)

pub function_shrinks : (n : ℕ) (s : Scope) (ts rest : List Token) (x : Suffix) → function_at (inner n) s ts ≡ Ok (x, rest) → length rest ≤ length ts
function_shrinks n s ts rest x is =
    let p = holds (function_at (inner n) s ts) _ (x, rest) (function_sound (inner n) n (inner_sound n) s ts) is in
    omega (arith, ap length p.0, grows_suffix x rest)

pub expr_in_shrinks : (n h : ℕ) (s : Scope) (ts rest : List Token) (e : Expr) → (inner n).expr h s ts ≡ Ok (e, rest) → length rest ≤ length ts
expr_in_shrinks n h s ts rest e is =
    let p = holds ((inner n).expr h s ts) _ (e, rest) ((inner_sound n).expr h s ts) is in
    omega (arith, ap length p.0, grows e rest)

pub colon_shrinks : (ts rest : List Token) → colon_at ts ≡ Ok rest → length rest ≤ length ts
colon_shrinks ts rest is =
    let p = holds (colon_at ts) _ rest (colon_sound ts) is in
    omega (arith, ap length p)

pub semi_shrinks : (ts rest : List Token) → semi_at ts ≡ Ok rest → length rest < length ts
semi_shrinks ts rest is =
    let p = holds (semi_at ts) _ rest (semi_sound ts) is in
    omega (arith, ap length p)

pub decls_shrink : (n k : ℕ) (s : Scope) (ts rest : List Token) (x : Decls) → decls_at (inner n) k s ts ≡ Ok (x, rest) → length rest ≤ length ts
decls_shrink n k s ts rest x is =
    let p = holds (decls_at (inner n) k s ts) _ (x, rest) (decls_sound (inner n) n (inner_sound n) k s ts) is in
    omega (arith, ap length p.0, grows_decls x rest)
