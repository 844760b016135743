-- When two types are compatible: C11's relation for types of one file, and the rule for types of two files.
use Rattle.std.specs.Prelude.{◌≡◌, ℕ, ◌==◌, ◌&&◌, Bool, true, false, Option, Some, None, List, [], ◌∷◌, map, min, length, zero, suc}
use Rattle.jf_base.specs.declared.numbers.Width.{Width}
use Rattle.jf_base.specs.Numbers.{size_of_width}
use Rattle.c_types.specs.declared.ctype.CType.{CType, CType-F, fold-CType, out-CType}
use Rattle.c_types.specs.declared.ctype.CType.TheFolds.{fold-Proto}
use Rattle.c_types.specs.declared.ctype.CType.TheVariants.{Void, Bool as TheBool, Int, Char, Enum, Struct, Pointer, Array, Function, Descriptor, Cdesc, Const}
use Rattle.c_types.specs.declared.ctype.CType.TheOpen as c
use Rattle.c_types.specs.declared.ctype.CType.TheOpen.{Proto-F}
use Rattle.c_types.specs.declared.ctype.Layout.{Layout}
use Rattle.c_types.specs.declared.ctype.Member.{Member}
use Rattle.c_types.specs.declared.ctype.Proto.{Proto}
use Rattle.c_types.specs.Sizes.{Bodies, layout_at}

-- a type with const before it or without
abbrev pub qualified : Bool → CType → CType
qualified true kind = Const kind
qualified false kind = kind

-- 6.7.6.3p7, p8 and p15: a parameter of array or function type is one of pointer type, and its qualifiers don't count
abbrev pub adjusted_layer : CType-F CType Proto → CType → CType
adjusted_layer (c.Array x n) kind = Pointer x
adjusted_layer (c.Function p) kind = Pointer kind
adjusted_layer (c.Const x) kind = x
adjusted_layer _ kind = kind

abbrev pub adjusted : CType → CType
adjusted kind = adjusted_layer (out-CType kind) kind

-- 6.7.3p5 and p9: const twice is const once, a const array is an array of const elements, and before a function type const says nothing
abbrev pub settled_step : CType-F (Bool → CType) Proto → Bool → CType
settled_step c.Void is_const = qualified is_const Void
settled_step c.Bool is_const = qualified is_const TheBool
settled_step (c.Int w s r) is_const = qualified is_const (Int w s r)
settled_step c.Char is_const = qualified is_const Char
settled_step (c.Enum n) is_const = qualified is_const (Enum n)
settled_step (c.Struct s) is_const = qualified is_const (Struct s)
settled_step (c.Pointer x) is_const = qualified is_const (Pointer (x false))
settled_step (c.Array x n) is_const = Array (x is_const) n
settled_step (c.Function p) is_const = Function p
settled_step c.Descriptor is_const = qualified is_const Descriptor
settled_step (c.Cdesc r) is_const = qualified is_const (Cdesc r)
settled_step (c.Const x) is_const = x true

abbrev pub settled_proto : Proto-F (Bool → CType) Proto → Proto
settled_proto p = record { result = p.result false; params = map (λ x. adjusted (x false)) p.params }

-- the type with its qualifiers and parameters so settled, at every depth; true where const stands before it
abbrev pub settled : CType → Bool → CType
settled = fold-CType (Bool → CType) Proto settled_step settled_proto

-- the same of a function's result and parameters
abbrev pub settled_of_proto : Proto → Proto
settled_of_proto = fold-Proto (Bool → CType) Proto settled_step settled_proto

-- 6.7.2.2p4 as this compiler defines it: an enum is compatible with int
abbrev pub is_int : Width → Bool → ℕ → Bool
is_int w signed rank = (size_of_width w == 4) && signed && (rank == 3)

-- as many elements, that are the same pair by pair
abbrev pub pairs_alike : {X Y : Type 0} → (X → Y → Bool) → List X → List Y → Bool
pairs_alike same [] [] = true
pairs_alike same [] (y ∷ ys) = false
pairs_alike same (x ∷ xs) [] = false
pairs_alike same (x ∷ xs) (y ∷ ys) = same x y && pairs_alike same xs ys

abbrev pub bool_eq : Bool → Bool → Bool
bool_eq true b = b
bool_eq false true = false
bool_eq false false = true

-- when two enums are alike, and when two structs are: behind a pointer (true) and elsewhere
pub record Rule : Type 0 where
  pub enums : ℕ → ℕ → Bool
  pub structs : Bool → ℕ → ℕ → Bool

-- 6.2.7p1, 6.7.3p10, 6.7.6.1p2, 6.7.6.2p6 and 6.7.6.3p15, over a layer of each of two settled types
abbrev pub alike_layers : Rule → Bool → CType-F (Bool → CType → Bool) (Bool → Proto → Bool) → CType-F CType Proto → Bool
alike_layers rule behind c.Void c.Void = true
alike_layers rule behind c.Bool c.Bool = true
alike_layers rule behind (c.Int w s r) (c.Int v t q) = (size_of_width w == size_of_width v) && bool_eq s t && (r == q)
alike_layers rule behind (c.Int w s r) (c.Enum n) = is_int w s r
alike_layers rule behind c.Char c.Char = true
alike_layers rule behind (c.Enum m) (c.Enum n) = rule.enums m n
alike_layers rule behind (c.Enum m) (c.Int w s r) = is_int w s r
alike_layers rule behind (c.Struct s) (c.Struct t) = rule.structs behind s t
alike_layers rule behind (c.Pointer x) (c.Pointer y) = x true y
alike_layers rule behind (c.Array x m) (c.Array y n) = (m == n) && x behind y
alike_layers rule behind (c.Function f) (c.Function g) = f behind g
alike_layers rule behind c.Descriptor c.Descriptor = true
alike_layers rule behind (c.Cdesc m) (c.Cdesc n) = m == n
alike_layers rule behind (c.Const x) (c.Const y) = x behind y
alike_layers _ _ _ _ = false

abbrev pub alike_step : Rule → CType-F (Bool → CType → Bool) (Bool → Proto → Bool) → Bool → CType → Bool
alike_step rule x behind b = alike_layers rule behind x (out-CType b)

abbrev pub alike_proto : Proto-F (Bool → CType → Bool) (Bool → Proto → Bool) → Bool → Proto → Bool
alike_proto p behind q = p.result behind q.result && pairs_alike (λ x y. x behind y) p.params q.params

-- whether two settled types are alike, behind a pointer or not
abbrev pub alike : Rule → CType → Bool → CType → Bool
alike rule = fold-CType (Bool → CType → Bool) (Bool → Proto → Bool) (alike_step rule) alike_proto

abbrev pub alike_of_proto : Rule → Proto → Bool → Proto → Bool
alike_of_proto rule = fold-Proto (Bool → CType → Bool) (Bool → Proto → Bool) (alike_step rule) alike_proto

-- in one file an enum and a struct are compatible with themselves alone
abbrev pub in_one_file : Rule
in_one_file = record { enums = λ m n. m == n; structs = λ behind s t. s == t }

-- whether two types are alike once they are settled
abbrev pub compatible_by : Rule → CType → CType → Bool
compatible_by rule a b = alike rule (settled a false) false (settled b false)

abbrev pub members_alike : (CType → CType → Bool) → List Member → List Member → Bool
members_alike same ms ns = pairs_alike (λ m n. same m.kind n.kind) ms ns

-- one is incomplete, or both have as many members that are the same in order
abbrev pub layouts_alike : (CType → CType → Bool) → Option Layout → Option Layout → Bool
layouts_alike same None _ = true
layouts_alike same (Some l) None = true
layouts_alike same (Some l) (Some k) = members_alike same l.members k.members

-- Two structs of two files: behind a pointer any two are alike, and elsewhere those whose members are. The number says how deep structs may still hold structs; below that nothing is compared, but by the law `structs_compare_by_members` no two structs of two tables hold structs so deep.
abbrev pub structs_across : ℕ → Bodies → Bodies → Bool → ℕ → ℕ → Bool
structs_across depth first second true s t = true
structs_across zero first second false s t = true
structs_across (suc depth) first second false s t =
    let rule : Rule = record { enums = λ m n. true; structs = structs_across depth first second } in
    layouts_alike (compatible_by rule) (layout_at first s) (layout_at second t)

-- between two files every enum counts as int
abbrev pub across_files : ℕ → Bodies → Bodies → Rule
across_files depth first second = record { enums = λ m n. true; structs = structs_across depth first second }

abbrev pub rule_within : ℕ → Bodies → Option Bodies → Rule
rule_within depth first None = in_one_file
rule_within depth first (Some second) = across_files depth first second

-- A struct is completed after those that it holds, so it holds structs no deeper than its file has structs. By the laws `structs_compare_by_members` and `one_relation_compares_by_members` this is the one relation that compares two structs by their members and itself, so the depth is never reached.
abbrev pub rule_for : Bodies → Option Bodies → Rule
rule_for first None = in_one_file
rule_for first (Some second) = across_files (min (length first) (length second)) first second

-- whether a type of the first file and one of the same or of another file are compatible
abbrev pub are_compatible : Bodies → CType → Option Bodies → CType → Bool
are_compatible first a other b = compatible_by (rule_for first other) a b

-- behind a pointer any two structs are alike, and elsewhere those that a relation between the structs of two files says
abbrev pub structs_by : (ℕ → ℕ → Bool) → Bool → ℕ → ℕ → Bool
structs_by same true s t = true
structs_by same false s t = same s t

abbrev pub across_by : (ℕ → ℕ → Bool) → Rule
across_by same = record { enums = λ m n. true; structs = structs_by same }

-- 6.2.7p1: it relates two structs where one is incomplete or both have as many members that are compatible by it in order
abbrev pub ComparesByMembers : Bodies → Bodies → (ℕ → ℕ → Bool) → Type 0
ComparesByMembers first second same = (s t : ℕ) → same s t ≡ layouts_alike (compatible_by (across_by same)) (layout_at first s) (layout_at second t)
