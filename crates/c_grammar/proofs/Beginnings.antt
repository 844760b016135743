-- What a tree begins with, and so which reader takes it.
use Rattle.std.proofs.Common.{◌≡◌, ℕ, zero, suc, Bool, true, false, eqb, List, [], ◌∷◌, None, refl, sym, ap, ◌∙◌}
use Rattle.std.proofs.lemmas.Bool.{eqb-true}
use Rattle.c_tree.specs.declared.operator.SpecifierWord.TheVariants as word
use Rattle.c_tree.specs.declared.operator.PointerMark.{PointerMark}
use Rattle.c_tree.specs.declared.operator.PointerMark.TheVariants as mark
use Rattle.c_tree.specs.declared.operator.PrefixOperator.TheVariants as pre
use Rattle.c_grammar.specs.declared.token.Allowed.{Allowed}
use Rattle.c_grammar.specs.declared.token.Allowed.TheVariants.{Named, Abstract, Either}
use Rattle.c_grammar.specs.declared.token.Token.{Token}
use Rattle.c_grammar.specs.declared.token.Token.TheVariants as token
use Rattle.c_grammar.specs.Grammar.{Ranked, Scope, starts_type, Expr, Name, Number, Byte, Texts, Paren, Postfix, Prefix, SizeOfExpr, SizeOf, Cast, Chain, is_unary, is_primary, spell_posts, Typed, typed, Specs, no_specs, spec, Spec, Keyword, TypeName, Struct, Decl, decl, Core, Absent, Id, Group, Suffixes, no_suffixes, suffix, OpenArray, Array, Function, Params, NoParams, OnlyVoid, Some_params, More, no_more, param, spell, spell_links, spell_typed, spell_specs, spell_spec, spell_decl, spell_core, spell_suffixes, spell_params, spell_more, spell_marks, ArePointers, Grouped, IsAParam, Fits, after_specs, is_based, NoBase, FitsTyped, FitsSpecifiers, FitsSpecs, FitsSpec, FitsDecl, FitsParams, Ends, StructTag, EnumTag, Enum, NoBraces}
use Rattle.c_grammar.specs.Reading.{Inner, ends_braces, ends_list, void_at, run_at, marks_at, prefix_of, arguments_at, call_at, postfix_at, size_of_at, size_at, cast_at, begins_spec, opens_list, takes_name, needs_name, bound_at, array_at}

-- ---- what a tree begins with

pub no_test : (a b : ℕ) → (a ≡ b → ⊥) → eqb a b ≡ false
no_test a b ne = pick (eqb a b) refl
  where
    pick : (v : Bool) → eqb a b ≡ v → v ≡ false
    pick true e = absurd (ne (eqb-true a b e))
    pick false e = refl

pub no_type : (n h : ℕ) (s : Scope) (e : Expr) (rest : List Token) → Fits n h s e → starts_type s (spell e rest) ≡ false
no_type n h s (Name k) rest f = f
no_type n h s (Number k t) rest f = refl
no_type n h s (Byte k) rest f = refl
no_type n h s (Texts k ks) rest f = refl
no_type n h s (Paren e) rest f = refl
no_type n h s (Postfix e posts) rest f = no_type n 0 s e (spell_posts posts rest) f.0
no_type n h s (Prefix pre.Increment e) rest f = refl
no_type n h s (Prefix pre.Decrement e) rest f = refl
no_type n h s (Prefix pre.Address e) rest f = refl
no_type n h s (Prefix pre.Dereference e) rest f = refl
no_type n h s (Prefix pre.Plus e) rest f = refl
no_type n h s (Prefix pre.Minus e) rest f = refl
no_type n h s (Prefix pre.Complement e) rest f = refl
no_type n h s (Prefix pre.Not e) rest f = refl
no_type n h s (SizeOfExpr e) rest f = refl
no_type n h s (SizeOf t) rest f = refl
no_type n h s (Cast t e) rest f = refl
no_type n h s (Chain k first links) rest f = no_type n k s first (spell_links links rest) f.1

pub no_square : (r : Inner) (s : Scope) (e : Expr) (rest : List Token) → array_at r s (spell e rest) ≡ bound_at r s (spell e rest)
unfolding array_at
no_square r s (Name k) rest = refl
no_square r s (Number k t) rest = refl
no_square r s (Byte k) rest = refl
no_square r s (Texts k ks) rest = refl
no_square r s (Paren e) rest = refl
no_square r s (Postfix e posts) rest = no_square r s e (spell_posts posts rest)
no_square r s (Prefix pre.Increment e) rest = refl
no_square r s (Prefix pre.Decrement e) rest = refl
no_square r s (Prefix pre.Address e) rest = refl
no_square r s (Prefix pre.Dereference e) rest = refl
no_square r s (Prefix pre.Plus e) rest = refl
no_square r s (Prefix pre.Minus e) rest = refl
no_square r s (Prefix pre.Complement e) rest = refl
no_square r s (Prefix pre.Not e) rest = refl
no_square r s (SizeOfExpr e) rest = refl
no_square r s (SizeOf t) rest = refl
no_square r s (Cast t e) rest = refl
no_square r s (Chain k first links) rest = no_square r s first (spell_links links rest)

-- arguments don't begin with what closes them
pub some_arguments : (r : Inner) (s : Scope) (e : Expr) (rest : List Token) → call_at r s (spell e rest) ≡ arguments_at r s (spell e rest)
unfolding call_at
some_arguments r s (Name k) rest = refl
some_arguments r s (Number k t) rest = refl
some_arguments r s (Byte k) rest = refl
some_arguments r s (Texts k ks) rest = refl
some_arguments r s (Paren e) rest = refl
some_arguments r s (Postfix e posts) rest = some_arguments r s e (spell_posts posts rest)
some_arguments r s (Prefix pre.Increment e) rest = refl
some_arguments r s (Prefix pre.Decrement e) rest = refl
some_arguments r s (Prefix pre.Address e) rest = refl
some_arguments r s (Prefix pre.Dereference e) rest = refl
some_arguments r s (Prefix pre.Plus e) rest = refl
some_arguments r s (Prefix pre.Minus e) rest = refl
some_arguments r s (Prefix pre.Complement e) rest = refl
some_arguments r s (Prefix pre.Not e) rest = refl
some_arguments r s (SizeOfExpr e) rest = refl
some_arguments r s (SizeOf t) rest = refl
some_arguments r s (Cast t e) rest = refl
some_arguments r s (Chain k first links) rest = some_arguments r s first (spell_links links rest)

-- a primary expression is no conversion and has no operator before it
pub primary_first : (r : Inner) (n h : ℕ) (s : Scope) (e : Expr) (rest : List Token) → Fits n h s e → is_primary e ≡ true → cast_at r s (spell e rest) ≡ postfix_at r s (spell e rest)
unfolding cast_at prefix_of
primary_first r n h s (Name k) rest f p = refl
primary_first r n h s (Number k t) rest f p = refl
primary_first r n h s (Byte k) rest f p = refl
primary_first r n h s (Texts k ks) rest f p = refl
primary_first r zero h s (Paren e) rest f p = absurd f
primary_first r (suc n) h s (Paren e) rest f p = rw (no_type n 13 s e (token.Close ∷ rest) f) refl
primary_first r n h s (Postfix e posts) rest f p = absurd cc
primary_first r n h s (Prefix o e) rest f p = absurd cc
primary_first r n h s (SizeOfExpr e) rest f p = absurd cc
primary_first r n h s (SizeOf t) rest f p = absurd cc
primary_first r n h s (Cast t e) rest f p = absurd cc
primary_first r n h s (Chain k first links) rest f p = absurd cc

-- behind sizeof, a unary expression doesn't begin with the name of a type in parentheses
pub unary_first : (r : Inner) (n h : ℕ) (s : Scope) (e : Expr) (rest : List Token) → Fits n h s e → is_unary e ≡ true → size_at r s (spell e rest) ≡ size_of_at r s (spell e rest)
unfolding size_at
unary_first r n h s (Name k) rest f p = refl
unary_first r n h s (Number k t) rest f p = refl
unary_first r n h s (Byte k) rest f p = refl
unary_first r n h s (Texts k ks) rest f p = refl
unary_first r zero h s (Paren e) rest f p = absurd f
unary_first r (suc n) h s (Paren e) rest f p = rw (no_type n 13 s e (token.Close ∷ rest) f) refl
unary_first r n h s (Postfix e posts) rest f p = unary_first r n 0 s e (spell_posts posts rest) f.0 (primary_is_unary e f.1)
  where
    primary_is_unary : (e : Expr) → is_primary e ≡ true → is_unary e ≡ true
    primary_is_unary (Cast t e) p = absurd cc
    primary_is_unary (Chain h first links) p = absurd cc
    primary_is_unary _ p = refl
unary_first r n h s (Prefix pre.Increment e) rest f p = refl
unary_first r n h s (Prefix pre.Decrement e) rest f p = refl
unary_first r n h s (Prefix pre.Address e) rest f p = refl
unary_first r n h s (Prefix pre.Dereference e) rest f p = refl
unary_first r n h s (Prefix pre.Plus e) rest f p = refl
unary_first r n h s (Prefix pre.Minus e) rest f p = refl
unary_first r n h s (Prefix pre.Complement e) rest f p = refl
unary_first r n h s (Prefix pre.Not e) rest f p = refl
unary_first r n h s (SizeOfExpr e) rest f p = refl
unary_first r n h s (SizeOf t) rest f p = refl
unary_first r n h s (Cast t e) rest f p = absurd cc
unary_first r n h s (Chain k first links) rest f p = absurd cc

pub begins : (n : ℕ) (based : Bool) (s : Scope) (one : Spec) (rest : List Token) → FitsSpec n based s one → begins_spec based s (spell_spec one rest) ≡ true
unfolding begins_spec
begins n true s (Keyword w) rest f = refl
begins n false s (Keyword w) rest f = refl
begins n true s (TypeName k) rest f = absurd cc
begins n false s (TypeName k) rest f = f.1
begins n true s (StructTag k) rest f = refl
begins n false s (StructTag k) rest f = refl
begins n true s (Struct tag ms) rest f = refl
begins n false s (Struct tag ms) rest f = refl
begins n true s (EnumTag k) rest f = refl
begins n false s (EnumTag k) rest f = refl
begins n true s (Enum tag i is c) rest f = refl
begins n false s (Enum tag i is c) rest f = refl
begins n true s (Ranked k t) rest f = refl
begins n false s (Ranked k t) rest f = refl

pub starts_typed : (n : ℕ) (a : Allowed) (s : Scope) (t : Typed) (rest : List Token) → FitsTyped n a s t → starts_type s (spell_typed t rest) ≡ true
starts_typed n a s (typed no_specs d) rest f = absurd f.0
starts_typed n a s (typed (spec (Keyword w) more) d) rest f = refl
starts_typed n a s (typed (spec (TypeName k) more) d) rest f = f.0.0.1
starts_typed n a s (typed (spec (StructTag k) more) d) rest f = refl
starts_typed n a s (typed (spec (Struct tag ms) more) d) rest f = refl
starts_typed n a s (typed (spec (EnumTag k) more) d) rest f = refl
starts_typed n a s (typed (spec (Enum tag i is c) more) d) rest f = refl
starts_typed n a s (typed (spec (Ranked k t) more) d) rest f = refl

pub no_close : (s : Scope) (ts : List Token) → starts_type s ts ≡ true → ends_list ts ≡ None
unfolding ends_list
no_close s (token.Close ∷ ts) e = absurd cc
no_close s [] e = refl
no_close s (_ ∷ ts) e = refl

pub no_brace : (s : Scope) (ts : List Token) → starts_type s ts ≡ true → ends_braces ts ≡ false
unfolding ends_braces
no_brace s (token.BraceClose ∷ ts) e = absurd cc
no_brace s [] e = absurd cc
no_brace s (_ ∷ ts) e = refl

-- ---- what a declarator begins with

-- no specifier begins here, behind a base or not
abbrev pub NoSpec : List Token → Type 0
NoSpec ts = (based : Bool) (s : Scope) → begins_spec based s ts ≡ false

abbrev pub NoMark : List Token → Type 0
NoMark (token.Star ∷ ts) = ⊥
NoMark (token.Word word.Const ∷ ts) = ⊥
NoMark (token.Restrict ∷ ts) = ⊥
NoMark _ = Unit {0}

pub end_no_spec : (rest : List Token) → Ends rest → NoSpec rest
unfolding begins_spec
end_no_spec [] e true s = refl
end_no_spec [] e false s = refl
end_no_spec (token.Close ∷ ts) e true s = refl
end_no_spec (token.Close ∷ ts) e false s = refl
end_no_spec (token.Comma ∷ ts) e true s = refl
end_no_spec (token.Comma ∷ ts) e false s = refl
end_no_spec (token.Semi ∷ ts) e true s = refl
end_no_spec (token.Semi ∷ ts) e false s = refl
end_no_spec (token.Equals ∷ ts) e true s = refl
end_no_spec (token.Equals ∷ ts) e false s = refl
end_no_spec (token.BraceOpen ∷ ts) e true s = refl
end_no_spec (token.BraceOpen ∷ ts) e false s = refl
end_no_spec _ e based s = absurd e

pub end_no_mark : (rest : List Token) → Ends rest → NoMark rest
end_no_mark [] e = tt
end_no_mark (token.Close ∷ ts) e = tt
end_no_mark (token.Comma ∷ ts) e = tt
end_no_mark (token.Semi ∷ ts) e = tt
end_no_mark (token.Equals ∷ ts) e = tt
end_no_mark (token.BraceOpen ∷ ts) e = tt
end_no_mark _ e = absurd e

pub decl_no_spec : (d : Decl) (rest : List Token) (n : ℕ) (a : Allowed) (based : Bool) (s : Scope) → FitsDecl n a s d → NoBase based s d → Ends rest → begins_spec based s (spell_decl d rest) ≡ false
unfolding begins_spec
decl_no_spec (decl (mark.Star ∷ ms) core ends) rest n a true s f b e = refl
decl_no_spec (decl (mark.Star ∷ ms) core ends) rest n a false s f b e = refl
decl_no_spec (decl (mark.Const ∷ ms) core ends) rest n a based s f b e = absurd f.0
decl_no_spec (decl (mark.Restrict ∷ ms) core ends) rest n a based s f b e = absurd f.0
decl_no_spec (decl [] (Id k) ends) rest n a true s f b e = refl
decl_no_spec (decl [] (Id k) ends) rest n a false s f b e = b
decl_no_spec (decl [] (Group d) ends) rest n a true s f b e = refl
decl_no_spec (decl [] (Group d) ends) rest n a false s f b e = refl
decl_no_spec (decl [] Absent no_suffixes) rest n a based s f b e = end_no_spec rest e based s
decl_no_spec (decl [] Absent (suffix OpenArray more)) rest n a true s f b e = refl
decl_no_spec (decl [] Absent (suffix OpenArray more)) rest n a false s f b e = refl
decl_no_spec (decl [] Absent (suffix (Array x) more)) rest n a true s f b e = refl
decl_no_spec (decl [] Absent (suffix (Array x) more)) rest n a false s f b e = refl
decl_no_spec (decl [] Absent (suffix (Function ps) more)) rest n a true s f b e = refl
decl_no_spec (decl [] Absent (suffix (Function ps) more)) rest n a false s f b e = refl

-- a declarator where no specifier begins doesn't begin with a base
pub no_base : (based : Bool) (s : Scope) (d : Decl) (rest : List Token) → begins_spec based s (spell_decl d rest) ≡ false → NoBase based s d
unfolding begins_spec
no_base true s d rest e = tt
no_base false s (decl (m ∷ ms) core ends) rest e = tt
no_base false s (decl [] (Id k) ends) rest e = e
no_base false s (decl [] (Group d) ends) rest e = tt
no_base false s (decl [] Absent ends) rest e = tt

-- specifiers where one begins are not empty
pub some_fit : (n : ℕ) (s : Scope) (specs : Specs) (ts rest : List Token) → starts_type s ts ≡ true → ts ≡ spell_specs specs rest → FitsSpecs n false s specs → begins_spec (is_based false specs) (after_specs specs s) rest ≡ false → FitsSpecifiers n s specs
unfolding begins_spec
some_fit n s no_specs ts rest b e f none = let no : true ≡ false = sym b ∙ ap (starts_type s) e ∙ none in absurd cc
some_fit n s (spec one more) ts rest b e f none = f

pub all_fit : (n : ℕ) (s : Scope) (specs : Specs) → FitsSpecifiers n s specs → FitsSpecs n false s specs
all_fit n s no_specs f = absurd f
all_fit n s (spec one more) f = f

pub starts_specifiers : (n : ℕ) (s : Scope) (specs : Specs) (rest : List Token) → FitsSpecifiers n s specs → starts_type s (spell_specs specs rest) ≡ true
starts_specifiers n s no_specs rest f = absurd f
starts_specifiers n s (spec (Keyword w) more) rest f = refl
starts_specifiers n s (spec (TypeName k) more) rest f = f.0.1
starts_specifiers n s (spec (StructTag k) more) rest f = refl
starts_specifiers n s (spec (Struct tag ms) more) rest f = refl
starts_specifiers n s (spec (EnumTag k) more) rest f = refl
starts_specifiers n s (spec (Enum tag i is c) more) rest f = refl
starts_specifiers n s (spec (Ranked k t) more) rest f = refl

pub core_no_mark : (core : Core) (ends : Suffixes) (rest : List Token) → Ends rest → NoMark (spell_core core (spell_suffixes ends rest))
core_no_mark (Id k) ends rest e = tt
core_no_mark (Group d) ends rest e = tt
core_no_mark Absent no_suffixes rest e = end_no_mark rest e
core_no_mark Absent (suffix OpenArray more) rest e = tt
core_no_mark Absent (suffix (Array x) more) rest e = tt
core_no_mark Absent (suffix (Function ps) more) rest e = tt

pub run_none : (rest : List Token) → NoMark rest → run_at rest ≡ ([], rest)
unfolding run_at
run_none (token.Star ∷ ts) n = absurd n
run_none (token.Word word.Const ∷ ts) n = absurd n
run_none (token.Restrict ∷ ts) n = absurd n
run_none _ n = refl

pub run_again : (ms : List PointerMark) (rest : List Token) → NoMark rest → run_at (spell_marks ms rest) ≡ (ms, rest)
unfolding run_at
run_again [] rest n = run_none rest n
run_again (mark.Star ∷ ms) rest n = rw (run_again ms rest n) refl
run_again (mark.Const ∷ ms) rest n = rw (run_again ms rest n) refl
run_again (mark.Restrict ∷ ms) rest n = rw (run_again ms rest n) refl

pub marks_none : (rest : List Token) → NoMark rest → marks_at rest ≡ ([], rest)
unfolding marks_at
marks_none (token.Star ∷ ts) n = absurd n
marks_none [] n = refl
marks_none (_ ∷ ts) n = refl

pub marks_again : (ms : List PointerMark) (rest : List Token) → ArePointers ms → NoMark rest → marks_at (spell_marks ms rest) ≡ (ms, rest)
unfolding marks_at
marks_again [] rest p n = marks_none rest n
marks_again (mark.Star ∷ ms) rest p n = run_again (mark.Star ∷ ms) rest n
marks_again (mark.Const ∷ ms) rest p n = absurd p
marks_again (mark.Restrict ∷ ms) rest p n = absurd p

pub decl_no_braces : (d : Decl) (rest : List Token) → NoBraces rest → NoBraces (spell_decl d rest)
decl_no_braces (decl (mark.Star ∷ ms) core ends) rest b = tt
decl_no_braces (decl (mark.Const ∷ ms) core ends) rest b = tt
decl_no_braces (decl (mark.Restrict ∷ ms) core ends) rest b = tt
decl_no_braces (decl [] (Id k) ends) rest b = tt
decl_no_braces (decl [] (Group d) ends) rest b = tt
decl_no_braces (decl [] Absent no_suffixes) rest b = b
decl_no_braces (decl [] Absent (suffix OpenArray more)) rest b = tt
decl_no_braces (decl [] Absent (suffix (Array x) more)) rest b = tt
decl_no_braces (decl [] Absent (suffix (Function ps) more)) rest b = tt

pub specs_no_braces : (specs : Specs) (rest : List Token) → NoBraces rest → NoBraces (spell_specs specs rest)
specs_no_braces no_specs rest b = b
specs_no_braces (spec (Keyword w) more) rest b = tt
specs_no_braces (spec (TypeName k) more) rest b = tt
specs_no_braces (spec (StructTag k) more) rest b = tt
specs_no_braces (spec (Struct tag ms) more) rest b = tt
specs_no_braces (spec (EnumTag k) more) rest b = tt
specs_no_braces (spec (Enum tag i is c) more) rest b = tt
specs_no_braces (spec (Ranked k t) more) rest b = tt

-- ---- groups and parameters

pub opens_type : (a : Allowed) (s : Scope) (ts : List Token) → (a ≡ Named → ⊥) → starts_type s ts ≡ true → opens_list a s ts ≡ true
unfolding opens_list
opens_type Named s ts ne e = absurd (ne refl)
opens_type Abstract s (token.Close ∷ ts) ne e = refl
opens_type Abstract s _ ne e = e
opens_type Either s (token.Close ∷ ts) ne e = refl
opens_type Either s _ ne e = e

pub opens_params : (n : ℕ) (a : Allowed) (s : Scope) (ps : Params) (rest : List Token) → (a ≡ Named → ⊥) → FitsParams n s ps → opens_list a s (spell_params ps (token.Close ∷ rest)) ≡ true
unfolding opens_list
opens_params n Named s ps rest ne f = absurd (ne refl)
opens_params n Abstract s NoParams rest ne f = refl
opens_params n Either s NoParams rest ne f = refl
opens_params n Abstract s OnlyVoid rest ne f = refl
opens_params n Either s OnlyVoid rest ne f = refl
opens_params zero a s (Some_params t more) rest ne f = absurd f
opens_params (suc n) a s (Some_params t more) rest ne f = opens_type a s _ ne (starts_typed n Either s t (spell_more more (token.Close ∷ rest)) f.0)

pub no_list : (n : ℕ) (a : Allowed) (s : Scope) (d : Decl) (rest : List Token) → FitsDecl n a s d → Grouped a s d → opens_list a s (spell_decl d (token.Close ∷ rest)) ≡ false
unfolding opens_list
no_list n Named s d rest f g = refl
no_list n Abstract s (decl (mark.Star ∷ ms) core ends) rest f g = refl
no_list n Either s (decl (mark.Star ∷ ms) core ends) rest f g = refl
no_list n a s (decl (mark.Const ∷ ms) core ends) rest f g = absurd f.0
no_list n a s (decl (mark.Restrict ∷ ms) core ends) rest f g = absurd f.0
no_list n Abstract s (decl [] (Id k) ends) rest f g = g
no_list n Either s (decl [] (Id k) ends) rest f g = g
no_list n Abstract s (decl [] (Group d) ends) rest f g = refl
no_list n Either s (decl [] (Group d) ends) rest f g = refl
no_list n Abstract s (decl [] Absent no_suffixes) rest f g = absurd g
no_list n Either s (decl [] Absent no_suffixes) rest f g = absurd g
no_list n Abstract s (decl [] Absent (suffix OpenArray more)) rest f g = refl
no_list n Either s (decl [] Absent (suffix OpenArray more)) rest f g = refl
no_list n Abstract s (decl [] Absent (suffix (Array x) more)) rest f g = refl
no_list n Either s (decl [] Absent (suffix (Array x) more)) rest f g = refl
no_list n Abstract s (decl [] Absent (suffix (Function ps) more)) rest f g = refl
no_list n Either s (decl [] Absent (suffix (Function ps) more)) rest f g = refl

abbrev pub NoClose : List Token → Type 0
NoClose (token.Close ∷ ts) = ⊥
NoClose _ = Unit {0}

pub void_next : (ts : List Token) → NoClose ts → void_at (token.Word word.Void ∷ ts) ≡ None
unfolding void_at
void_next (token.Close ∷ ts) n = absurd n
void_next [] n = refl
void_next (_ ∷ ts) n = refl

pub void_then : (more : Specs) (d : Decl) (m : More) (rest : List Token) → IsAParam (typed (spec (Keyword word.Void) more) d) m → NoClose (spell_specs more (spell_decl d (spell_more m (token.Close ∷ rest))))
void_then (spec (Keyword w) more) d m rest p = tt
void_then (spec (TypeName k) more) d m rest p = tt
void_then (spec (StructTag k) more) d m rest p = tt
void_then (spec (Struct tag ms) more) d m rest p = tt
void_then (spec (EnumTag k) more) d m rest p = tt
void_then (spec (Enum tag i is c) more) d m rest p = tt
void_then (spec (Ranked k t) more) d m rest p = tt
void_then no_specs (decl (mark.Star ∷ ms) core ends) m rest p = tt
void_then no_specs (decl (mark.Const ∷ ms) core ends) m rest p = tt
void_then no_specs (decl (mark.Restrict ∷ ms) core ends) m rest p = tt
void_then no_specs (decl [] (Id k) ends) m rest p = tt
void_then no_specs (decl [] (Group d) ends) m rest p = tt
void_then no_specs (decl [] Absent (suffix OpenArray more)) m rest p = tt
void_then no_specs (decl [] Absent (suffix (Array x) more)) m rest p = tt
void_then no_specs (decl [] Absent (suffix (Function ps) more)) m rest p = tt
void_then no_specs (decl [] Absent no_suffixes) (param t more) rest p = tt
void_then no_specs (decl [] Absent no_suffixes) no_more rest p = absurd p

pub no_void : (n : ℕ) (a : Allowed) (s : Scope) (t : Typed) (m : More) (rest : List Token) → FitsTyped n a s t → IsAParam t m → void_at (spell_typed t (spell_more m (token.Close ∷ rest))) ≡ None
unfolding void_at
no_void n a s (typed no_specs d) m rest f p = absurd f.0
no_void n a s (typed (spec (Keyword word.Void) more) d) m rest f p = void_next _ (void_then more d m rest p)
no_void n a s (typed (spec (Keyword _) more) d) m rest f p = refl
no_void n a s (typed (spec (TypeName k) more) d) m rest f p = refl
no_void n a s (typed (spec (StructTag k) more) d) m rest f p = refl
no_void n a s (typed (spec (Struct tag ms) more) d) m rest f p = refl
no_void n a s (typed (spec (EnumTag k) more) d) m rest f p = refl
no_void n a s (typed (spec (Enum tag i is c) more) d) m rest f p = refl
no_void n a s (typed (spec (Ranked k t) more) d) m rest f p = refl

pub takes : (a : Allowed) → (a ≡ Abstract → ⊥) → takes_name a ≡ true
takes Named ne = refl
takes Abstract ne = absurd (ne refl)
takes Either ne = refl

pub needs : (a : Allowed) → (a ≡ Named → ⊥) → needs_name a ≡ false
needs Named ne = absurd (ne refl)
needs Abstract ne = refl
needs Either ne = refl
