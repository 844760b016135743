-- How many tokens trees have, and that their parentheses are closed in them.
use Rattle.std.proofs.Common.{◌≡◌, ℕ, zero, suc, ◌+◌, ◌≤◌, Bool, true, false, List, [], ◌∷◌, length, Option, Some, None, refl, ◌∙◌, arith}
use Rattle.std.specs.Prelude.{codes}
use Rattle.f_lex.specs.declared.token.Mark.TheVariants as mark
use Rattle.f_lex.specs.declared.token.Token.{Token}
use Rattle.f_lex.specs.declared.token.Token.TheVariants as token
use Rattle.f_grammar.specs.Grammar.{Expr, Maybe, Absent, Present, TypeOf, Integer, Logical, Character, Derived, Assumed, Selector, NoKind, kind, Params, NoParams, params, More, no_more, more, Param, Length, AnyLength, KindParam, put, spell_word, spell, spell_maybe, spell_type, spell_kind, spell_params, spell_mores, spell_param, FitsMaybe, FitsType, FitsMores, FitsParam, Within}
use Rattle.f_grammar.specs.Reading.{closing, behind_group}
use Rattle.f_grammar.proofs.Begins.{grows, grows_mores}
use Rattle.f_grammar.proofs.Closed.{closed_expr}
use Rattle.f_declaration_grammar.specs.Listing.{spell_behind, spell_listed, spell_each, AreAll, AreSome}
use Rattle.f_declaration_grammar.specs.Declarations.{Dim, Upper, Bounds, Deferred, AssumedSize, AssumedRank, Intent, In, Out, InOut, InOutTwoWords, Label, Attr, Parameter, Dimension, Allocatable, Pointer, Target, Optional, Value, Contiguous, Save, Accessible, Bind, For, Initial, NoInitial, Starts, Null, Entity, entity, Rename, renamed, Only, Plain, Renamed, TypeAttr, TypeBind, TypeAccess, PointerAttr, PointerSave, PointerAccess, ProcPointer, pointer, Prefix, Recursive, Returns, Suffix, BindSuffix, Result, spell_name, spell_lower, spell_dim, spell_dims, spell_maybe_dims, spell_intent, spell_bind, spell_attr, spell_initial, spell_entity, spell_rename, spell_only, spell_type_attr, spell_pointer_attr, spell_pointer, spell_prefix, spell_suffix, FitsDim}

-- ---- lengths

grows_maybe : (m : Maybe) (rest : List Token) → length rest ≤ length (spell_maybe m rest)
grows_maybe Absent rest = omega arith
grows_maybe (Present e) rest = grows e rest

grows_lower : (m : Maybe) (rest : List Token) → length rest ≤ length (spell_lower m rest)
grows_lower Absent rest = omega arith
grows_lower (Present e) rest = omega (arith, grows e (put mark.Colon rest))

pub grows_dim : (d : Dim) (rest : List Token) → length rest ≤ length (spell_dim d rest)
grows_dim (Upper upper) rest = grows upper rest
grows_dim (Bounds lower upper) rest = omega (arith, grows lower (put mark.Colon (spell upper rest)), grows upper rest)
grows_dim (Deferred lower) rest = omega (arith, grows_maybe lower (put mark.Colon rest))
grows_dim (AssumedSize lower) rest = omega (arith, grows_lower lower (put mark.Star rest))
grows_dim AssumedRank rest = omega arith

grows_more_dims : (ds : List Dim) (rest : List Token) → length rest ≤ length (spell_behind spell_dim ds rest)
grows_more_dims [] rest = omega arith
grows_more_dims (d ∷ ds) rest = omega (arith, grows_dim d (spell_behind spell_dim ds rest), grows_more_dims ds rest)

grows_dim_list : (ds : List Dim) (rest : List Token) → length rest ≤ length (spell_listed spell_dim ds rest)
grows_dim_list [] rest = omega arith
grows_dim_list (d ∷ ds) rest = omega (arith, grows_dim d (spell_behind spell_dim ds rest), grows_more_dims ds rest)

grows_dims : (ds : List Dim) (rest : List Token) → length rest ≤ length (spell_dims ds rest)
grows_dims ds rest = omega (arith, grows_dim_list ds (put mark.Close rest))

grows_maybe_dims : (ds : Option (List Dim)) (rest : List Token) → length rest ≤ length (spell_maybe_dims ds rest)
grows_maybe_dims None rest = omega arith
grows_maybe_dims (Some ds) rest = grows_dims ds rest

grows_bind : (l : Label) (rest : List Token) → length rest ≤ length (spell_bind l rest)
grows_bind None rest = omega arith
grows_bind (Some label) rest = omega arith

grows_intent : (i : Intent) (rest : List Token) → length rest ≤ length (spell_intent i rest)
grows_intent In rest = omega arith
grows_intent Out rest = omega arith
grows_intent InOut rest = omega arith
grows_intent InOutTwoWords rest = omega arith

pub grows_attr : (a : Attr) (rest : List Token) → length rest ≤ length (spell_attr a rest)
grows_attr Parameter rest = omega arith
grows_attr (Dimension dims) rest = omega (arith, grows_dims dims rest)
grows_attr Allocatable rest = omega arith
grows_attr Pointer rest = omega arith
grows_attr Target rest = omega arith
grows_attr Optional rest = omega arith
grows_attr Value rest = omega arith
grows_attr Contiguous rest = omega arith
grows_attr Save rest = omega arith
grows_attr (Accessible a) rest = omega arith
grows_attr (Bind label) rest = omega (arith, grows_bind label rest)
grows_attr (For i) rest = omega (arith, grows_intent i (put mark.Close rest))

grows_initial : (i : Initial) (rest : List Token) → length rest ≤ length (spell_initial i rest)
grows_initial NoInitial rest = omega arith
grows_initial (Starts value) rest = omega (arith, grows value rest)
grows_initial Null rest = omega arith

pub grows_entity : (e : Entity) (rest : List Token) → length rest ≤ length (spell_entity e rest)
grows_entity (entity name dims initial) rest = omega (arith, grows_maybe_dims dims (spell_initial initial rest), grows_initial initial rest)

pub grows_rename : (r : Rename) (rest : List Token) → length rest ≤ length (spell_rename r rest)
grows_rename (renamed local used) rest = omega arith

pub grows_only : (o : Only) (rest : List Token) → length rest ≤ length (spell_only o rest)
grows_only (Plain name) rest = omega arith
grows_only (Renamed r) rest = grows_rename r rest

pub grows_name : (name : List ℕ) (rest : List Token) → length rest ≤ length (spell_name name rest)
grows_name name rest = omega arith

pub grows_type_attr : (a : TypeAttr) (rest : List Token) → length rest ≤ length (spell_type_attr a rest)
grows_type_attr (TypeBind label) rest = omega (arith, grows_bind label rest)
grows_type_attr (TypeAccess a) rest = omega arith

pub grows_pointer_attr : (a : PointerAttr) (rest : List Token) → length rest ≤ length (spell_pointer_attr a rest)
grows_pointer_attr PointerSave rest = omega arith
grows_pointer_attr (PointerAccess a) rest = omega arith

pub grows_pointer : (p : ProcPointer) (rest : List Token) → length rest ≤ length (spell_pointer p rest)
grows_pointer (pointer name true) rest = omega arith
grows_pointer (pointer name false) rest = omega arith

grows_word : (w : List ℕ) (b : Bool) (rest : List Token) → length rest ≤ length (spell_word w b rest)
grows_word w true rest = omega arith
grows_word w false rest = omega arith

grows_kind : (k : Selector) (rest : List Token) → length rest ≤ length (spell_kind k rest)
grows_kind NoKind rest = omega arith
grows_kind (kind w e) rest = omega (arith, grows_word (codes "kind") w (spell e (put mark.Close rest)), grows e (put mark.Close rest))

grows_param : (p : Param) (rest : List Token) → length rest ≤ length (spell_param p rest)
grows_param (Length w e) rest = omega (arith, grows_word (codes "len") w (spell e rest), grows e rest)
grows_param (AnyLength w) rest = omega (arith, grows_word (codes "len") w (put mark.Star rest))
grows_param (KindParam w e) rest = omega (arith, grows_word (codes "kind") w (spell e rest), grows e rest)

grows_params : (ps : Params) (rest : List Token) → length rest ≤ length (spell_params ps rest)
grows_params NoParams rest = omega arith
grows_params (params p ps) rest = omega (arith, grows_param p (spell_mores ps (put mark.Close rest)), grows_mores ps (put mark.Close rest))

grows_type : (t : TypeOf) (rest : List Token) → length rest + 1 ≤ length (spell_type t rest)
grows_type (Integer k) rest = omega (arith, grows_kind k rest)
grows_type (Logical k) rest = omega (arith, grows_kind k rest)
grows_type (Character ps) rest = omega (arith, grows_params ps rest)
grows_type (Derived name) rest = omega arith
grows_type Assumed rest = omega arith

grows_prefix : (p : Prefix) (rest : List Token) → length rest + 1 ≤ length (spell_prefix p rest)
grows_prefix Recursive rest = omega arith
grows_prefix (Returns t) rest = grows_type t rest

pub grows_prefixes : (ps : List Prefix) (rest : List Token) → length ps + length rest ≤ length (spell_each spell_prefix ps rest)
grows_prefixes [] rest = omega arith
grows_prefixes (p ∷ ps) rest = omega (arith, grows_prefix p (spell_each spell_prefix ps rest), grows_prefixes ps rest)

grows_suffix : (s : Suffix) (rest : List Token) → length rest + 1 ≤ length (spell_suffix s rest)
grows_suffix (BindSuffix label) rest = omega (arith, grows_bind label rest)
grows_suffix (Result name) rest = omega arith

pub grows_suffixes : (ss : List Suffix) (rest : List Token) → length ss + length rest ≤ length (spell_each spell_suffix ss rest)
grows_suffixes [] rest = omega arith
grows_suffixes (s ∷ ss) rest = omega (arith, grows_suffix s (spell_each spell_suffix ss rest), grows_suffixes ss rest)

-- ---- parentheses

closed_within : (e : Expr) (n d : ℕ) (rest : List Token) → Within n e → closing d (spell e rest) ≡ closing d rest
closed_within e zero d rest w = absurd w
closed_within e (suc n) d rest w = closed_expr e n 9 d rest w (omega arith)

closed_maybe : (m : Maybe) (n d : ℕ) (rest : List Token) → FitsMaybe n m → closing d (spell_maybe m rest) ≡ closing d rest
closed_maybe Absent n d rest f = refl
closed_maybe (Present e) zero d rest f = absurd f
closed_maybe (Present e) (suc n) d rest f = closed_within e (suc n) d rest f

closed_lower : (m : Maybe) (n d : ℕ) (rest : List Token) → FitsMaybe n m → closing d (spell_lower m rest) ≡ closing d rest
unfolding closing
closed_lower Absent n d rest f = refl
closed_lower (Present e) zero d rest f = absurd f
closed_lower (Present e) (suc n) d rest f = closed_within e (suc n) d (put mark.Colon rest) f

closed_dim : (x : Dim) (n d : ℕ) (rest : List Token) → FitsDim n x → closing d (spell_dim x rest) ≡ closing d rest
unfolding closing
closed_dim (Upper upper) n d rest f = closed_within upper n d rest f
closed_dim (Bounds lower upper) n d rest f = closed_within lower n d (put mark.Colon (spell upper rest)) f.0 ∙ closed_within upper n d rest f.1
closed_dim (Deferred lower) n d rest f = closed_maybe lower n d (put mark.Colon rest) f
closed_dim (AssumedSize lower) n d rest f = closed_lower lower n d (put mark.Star rest) f
closed_dim AssumedRank n d rest f = refl

closed_more_dims : (xs : List Dim) (n d : ℕ) (rest : List Token) → AreAll (FitsDim n) xs → closing d (spell_behind spell_dim xs rest) ≡ closing d rest
unfolding closing
closed_more_dims [] n d rest f = refl
closed_more_dims (x ∷ xs) n d rest f = closed_dim x n d (spell_behind spell_dim xs rest) f.0 ∙ closed_more_dims xs n d rest f.1

pub behind_dims : (xs : List Dim) (n : ℕ) (rest : List Token) → AreSome (FitsDim n) xs → behind_group (spell_dims xs rest) ≡ rest
unfolding behind_group closing
behind_dims [] n rest f = absurd f
behind_dims (x ∷ xs) n rest f = closed_dim x n zero (spell_behind spell_dim xs (put mark.Close rest)) f.0 ∙ closed_more_dims xs n zero (put mark.Close rest) f.1

closing_word : (w : List ℕ) (b : Bool) (d : ℕ) (ts : List Token) → closing d (spell_word w b ts) ≡ closing d ts
unfolding closing
closing_word w true d ts = refl
closing_word w false d ts = refl

closed_param : (p : Param) (n : ℕ) (is_first : Bool) (d : ℕ) (rest : List Token) → FitsParam n is_first p → closing d (spell_param p rest) ≡ closing d rest
unfolding closing
closed_param (Length has_word e) zero is_first d rest f = absurd f
closed_param (Length has_word e) (suc n) is_first d rest f = closing_word (codes "len") has_word d (spell e rest) ∙ closed_expr e n 9 d rest f.1 (omega arith)
closed_param (AnyLength has_word) n is_first d rest f = closing_word (codes "len") has_word d (put mark.Star rest)
closed_param (KindParam has_word e) zero is_first d rest f = absurd f
closed_param (KindParam has_word e) (suc n) is_first d rest f = closing_word (codes "kind") has_word d (spell e rest) ∙ closed_expr e n 9 d rest f.1 (omega arith)

closed_mores : (ps : More) (n d : ℕ) (rest : List Token) → FitsMores n ps → closing d (spell_mores ps rest) ≡ closing d rest
unfolding closing
closed_mores no_more n d rest f = refl
closed_mores (more p ps) n d rest f = closed_param p n false d (spell_mores ps rest) f.0 ∙ closed_mores ps n d rest f.1

-- what stands behind the parentheses of a type
abbrev pub HasGroup : TypeOf → Type 0
HasGroup (Integer NoKind) = ⊥
HasGroup (Logical NoKind) = ⊥
HasGroup (Character NoParams) = ⊥
HasGroup _ = Unit {0}

abbrev pub type_group : TypeOf → List Token → List Token
type_group (Integer k) rest = spell_kind k rest
type_group (Logical k) rest = spell_kind k rest
type_group (Character ps) rest = spell_params ps rest
type_group (Derived name) rest = put mark.Open (token.Name name ∷ put mark.Close rest)
type_group Assumed rest = put mark.Open (put mark.Star (put mark.Close rest))

pub behind_type_group : (t : TypeOf) (n : ℕ) (rest : List Token) → FitsType n t → HasGroup t → behind_group (type_group t rest) ≡ rest
unfolding behind_group closing
behind_type_group (Integer NoKind) n rest f h = absurd h
behind_type_group (Integer (kind w e)) zero rest f h = absurd f
behind_type_group (Integer (kind w e)) (suc n) rest f h = closing_word (codes "kind") w zero _ ∙ closed_expr e n 9 zero (put mark.Close rest) f (omega arith)
behind_type_group (Logical NoKind) n rest f h = absurd h
behind_type_group (Logical (kind w e)) zero rest f h = absurd f
behind_type_group (Logical (kind w e)) (suc n) rest f h = closing_word (codes "kind") w zero _ ∙ closed_expr e n 9 zero (put mark.Close rest) f (omega arith)
behind_type_group (Character NoParams) n rest f h = absurd h
behind_type_group (Character (params p ps)) n rest f h = closed_param p n true zero (spell_mores ps (put mark.Close rest)) f.0 ∙ closed_mores ps n zero (put mark.Close rest) f.1
behind_type_group (Derived name) n rest f h = refl
behind_type_group Assumed n rest f h = refl
