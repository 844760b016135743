-- Reading expressions, references and types from left to right: what stands first in a list of tokens, and the rest, or nothing.
use Rattle.std.specs.Prelude.{ℕ, zero, suc, List, [], ◌∷◌, length, Option, Some, None, Bool, true, false, ◌==◌, if◌then◌else◌, codes}
use Rattle.std.specs.Str.{bytes_eq}
use Rattle.f_lex.specs.declared.token.Mark.{Mark}
use Rattle.f_lex.specs.declared.token.Mark.TheVariants as mark
use Rattle.f_lex.specs.declared.token.Token.{Token}
use Rattle.f_lex.specs.declared.token.Token.TheVariants as token
use Rattle.f_grammar.specs.Grammar.{Expr, Number, Truth, Text, Ref, Paren, Array, Typed, Chain, Links, no_links, link, Refer, refer, Parts, no_parts, part, Part, named, NoGroup, group, Range, NoRange, range, Args, no_args, arg, Arg, Value, Section, Strided, Maybe, Absent, Present, TypeOf, Integer, Logical, Character, Derived, Assumed, Selector, NoKind, kind, Params, NoParams, params, More, no_more, more, Param, Length, AnyLength, KindParam, height_of, sign_height}

infixl 10 ◌>>=◌
abbrev pub ◌>>=◌ : {A B : Type 0} → Option A → (A → Option B) → Option B
(Some x) >>= f = f x
None >>= f = None

-- where there is something, and where there is not
abbrev pub choose : {A B : Type 0} → Option A → B → (A → B) → B
choose None none some = none
choose (Some x) none some = some x

-- what holds of what is there
abbrev pub IfSome : {A : Type 0} → Option A → (A → Type 0) → Type 0
IfSome None P = Unit {0}
IfSome (Some x) P = P x

abbrev pub Read : Type 0 → Type 0
Read A = Option (A × List Token)

abbrev pub Reader : Type 0
Reader = List Token → Read Expr

-- ---- single tokens

unfoldable pub open_at : List Token → Option (List Token)
open_at (token.Mark mark.Open ∷ ts) = Some ts
open_at ts = None

unfoldable pub closed_at : List Token → Option (List Token)
closed_at (token.Mark mark.Close ∷ ts) = Some ts
closed_at ts = None

unfoldable pub comma_at : List Token → Option (List Token)
comma_at (token.Mark mark.Comma ∷ ts) = Some ts
comma_at ts = None

unfoldable pub percent_at : List Token → Option (List Token)
percent_at (token.Mark mark.Percent ∷ ts) = Some ts
percent_at ts = None

unfoldable pub colon_at : List Token → Option (List Token)
colon_at (token.Mark mark.Colon ∷ ts) = Some ts
colon_at ts = None

unfoldable pub colons_at : List Token → Option (List Token)
colons_at (token.Mark mark.DoubleColon ∷ ts) = Some ts
colons_at ts = None

unfoldable pub star_at : List Token → Option (List Token)
star_at (token.Mark mark.Star ∷ ts) = Some ts
star_at ts = None

unfoldable pub name_at : List Token → Option (List ℕ × List Token)
name_at (token.Name name ∷ ts) = Some (name, ts)
name_at ts = None

-- the end of arguments in parentheses, or of items in brackets
unfoldable pub end_at : Bool → List Token → Option (List Token)
end_at true (token.Mark mark.Close ∷ ts) = Some ts
end_at false (token.Mark mark.CloseBracket ∷ ts) = Some ts
end_at in_call ts = None

-- a name and `=`
unfoldable pub key_at : List Token → Option (List ℕ × List Token)
key_at (token.Name name ∷ token.Mark mark.Assign ∷ ts) = Some (name, ts)
key_at ts = None

abbrev pub key_is : List ℕ → Option (List ℕ × List Token) → Option (List Token)
key_is word None = None
key_is word (Some k) = if bytes_eq k.0 word then Some k.1 else None

-- this word and `=`
unfoldable pub word_at : List ℕ → List Token → Option (List Token)
word_at word ts = key_is word (key_at ts)

-- a sign of a chain of level h, where there is one
unfoldable pub sign_at : ℕ → List Token → Option Mark × List Token
sign_at h (token.Mark m ∷ ts) = if sign_height m == suc h then (Some m, ts) else (None, token.Mark m ∷ ts)
sign_at h ts = (None, ts)

-- an operator of a chain of level h
unfoldable pub link_at : ℕ → List Token → Option (Mark × List Token)
link_at h (token.Mark m ∷ ts) = if height_of m == suc h then Some (m, ts) else None
link_at h ts = None

-- a colon stands first, single or double
unfoldable pub begins_colon : List Token → Bool
begins_colon (token.Mark mark.Colon ∷ ts) = true
begins_colon (token.Mark mark.DoubleColon ∷ ts) = true
begins_colon ts = false

-- nothing of a bound stands first
unfoldable pub ends_bound : List Token → Bool
ends_bound (token.Mark mark.Colon ∷ ts) = true
ends_bound (token.Mark mark.Comma ∷ ts) = true
ends_bound (token.Mark mark.Close ∷ ts) = true
ends_bound ts = false

-- what stands behind the parenthesis that closes, where so many more are open
unfoldable pub closing : ℕ → List Token → List Token
closing d [] = []
closing d (token.Mark mark.Open ∷ ts) = closing (suc d) ts
closing zero (token.Mark mark.Close ∷ ts) = ts
closing (suc d) (token.Mark mark.Close ∷ ts) = closing d ts
closing d (t ∷ ts) = closing d ts

-- behind the parentheses that stand first, if they do
unfoldable pub behind_group : List Token → List Token
behind_group (token.Mark mark.Open ∷ ts) = closing zero ts
behind_group ts = ts

unfoldable pub is_colons : List Token → Bool
is_colons (token.Mark mark.DoubleColon ∷ ts) = true
is_colons ts = false

-- a name, maybe parentheses, and `::`: so items with a type begin, and none else
unfoldable pub begins_typed : List Token → Bool
begins_typed (token.Name name ∷ ts) = is_colons (behind_group ts)
begins_typed ts = false

-- ---- expressions; inner reads what stands in parentheses or brackets

-- at most so many links
unfoldable pub links_at : Reader → ℕ → ℕ → List Token → Read Links
links_at lower h zero ts = Some (no_links, ts)
links_at lower h (suc k) ts = choose (link_at h ts) (Some (no_links, ts))
    (λ o. lower o.1 >>= λ x. links_at lower h k x.1 >>= λ y. Some (link o.0 x.0 y.0, y.1))

abbrev pub most_links : ℕ → List Token → ℕ
most_links h ts = if h == 4 then 1 else length ts

abbrev pub chain : ℕ → Option Mark → Expr → Links → Expr
chain h None first no_links = first
chain h sign first links = Chain h sign first links

unfoldable pub level_at : Reader → ℕ → Reader
level_at lowest zero ts = lowest ts
level_at lowest (suc h) ts =
    level_at lowest h (sign_at h ts).1 >>= λ x. links_at (level_at lowest h) h (most_links h x.1) x.1 >>= λ y. Some (chain h (sign_at h ts).0 x.0 y.0, y.1)

-- a bound, unless what ends it stands first
unfoldable pub upper_at : Reader → List Token → Read Maybe
upper_at inner ts = if ends_bound ts then Some (Absent, ts) else inner ts >>= λ x. Some (Present x.0, x.1)

unfoldable pub stride_at : Reader → List Token → Read Maybe
stride_at inner ts = choose (colon_at ts) (Some (Absent, ts)) (λ r. inner r >>= λ x. Some (Present x.0, x.1))

-- what stands behind a lower bound
unfoldable pub section_at : Reader → Maybe → List Token → Read Arg
section_at inner lower ts = choose (colons_at ts)
    (colon_at ts >>= λ r. upper_at inner r >>= λ u. stride_at inner u.1 >>= λ s. Some (Section lower u.0 s.0, s.1))
    (λ r. inner r >>= λ x. Some (Strided lower x.0, x.1))

-- an expression or a triplet that begins with one
unfoldable pub behind_first : Reader → Expr × List Token → Read Arg
behind_first inner x = if begins_colon x.1 then section_at inner (Present x.0) x.1 else Some (Value None x.0, x.1)

unfoldable pub subscript_at : Reader → List Token → Read Arg
subscript_at inner ts = if begins_colon ts then section_at inner Absent ts else inner ts >>= λ x. behind_first inner x

unfoldable pub arg_at : Reader → Bool → List Token → Read Arg
arg_at inner true ts = choose (key_at ts) (subscript_at inner ts) (λ k. inner k.1 >>= λ x. Some (Value (Some k.0) x.0, x.1))
arg_at inner false ts = inner ts >>= λ x. Some (Value None x.0, x.1)

-- at most so many more arguments, each behind a comma
unfoldable pub others_at : Reader → Bool → ℕ → List Token → Read Args
others_at inner in_call zero ts = Some (no_args, ts)
others_at inner in_call (suc k) ts = choose (comma_at ts) (Some (no_args, ts))
    (λ r. arg_at inner in_call r >>= λ x. others_at inner in_call k x.1 >>= λ y. Some (arg x.0 y.0, y.1))

-- arguments and what ends them
unfoldable pub args_at : Reader → Bool → List Token → Read Args
args_at inner in_call ts = choose (end_at in_call ts)
    (arg_at inner in_call ts >>= λ x. others_at inner in_call (length x.1) x.1 >>= λ y. end_at in_call y.1 >>= λ r. Some (arg x.0 y.0, r))
    (λ r. Some (no_args, r))

unfoldable pub lower_at : Reader → List Token → Read Maybe
lower_at inner ts = if begins_colon ts then Some (Absent, ts) else inner ts >>= λ x. Some (Present x.0, x.1)

-- a substring range behind its `(`
unfoldable pub range_at : Reader → List Token → Read Range
range_at inner ts = lower_at inner ts >>= λ l. colon_at l.1 >>= λ r. upper_at inner r >>= λ u. closed_at u.1 >>= λ rest. Some (range l.0 u.0, rest)

unfoldable pub substring_at : Reader → List Token → Read Range
substring_at inner ts = choose (open_at ts) (Some (NoRange, ts)) (range_at inner)

-- what stands behind the name of a part
unfoldable pub behind_name : Reader → List ℕ → List Token → Read Part
behind_name inner name ts = choose (open_at ts) (Some (named name NoGroup NoRange, ts))
    (λ r. args_at inner true r >>= λ x. substring_at inner x.1 >>= λ y. Some (named name (group x.0) y.0, y.1))

unfoldable pub part_at : Reader → List Token → Read Part
part_at inner ts = name_at ts >>= λ n. behind_name inner n.0 n.1

-- at most so many more parts, each behind `%`
unfoldable pub parts_at : Reader → ℕ → List Token → Read Parts
parts_at inner zero ts = Some (no_parts, ts)
parts_at inner (suc k) ts = choose (percent_at ts) (Some (no_parts, ts))
    (λ r. part_at inner r >>= λ x. parts_at inner k x.1 >>= λ y. Some (part x.0 y.0, y.1))

unfoldable pub refer_at : Reader → List Token → Read Refer
refer_at inner ts = part_at inner ts >>= λ x. parts_at inner (length x.1) x.1 >>= λ y. Some (refer x.0 y.0, y.1)

-- ---- types

abbrev pub worded : List ℕ → List Token → Bool × List Token
worded word ts = choose (word_at word ts) (false, ts) (λ r. (true, r))

-- a kind behind its `(`
unfoldable pub kind_at : Reader → List Token → Read Selector
kind_at inner ts = inner (worded (codes "kind") ts).1 >>= λ x. closed_at x.1 >>= λ r. Some (kind (worded (codes "kind") ts).0 x.0, r)

unfoldable pub selector_at : Reader → List Token → Read Selector
selector_at inner ts = choose (open_at ts) (Some (NoKind, ts)) (kind_at inner)

unfoldable pub length_at : Reader → Bool → List Token → Read Param
length_at inner has_word ts = choose (star_at ts) (inner ts >>= λ x. Some (Length has_word x.0, x.1)) (λ r. Some (AnyLength has_word, r))

abbrev pub kind_param : Bool → Expr × List Token → Read Param
kind_param has_word x = Some (KindParam has_word x.0, x.1)

-- a parameter without a word
unfoldable pub bare_param_at : Reader → Bool → List Token → Read Param
bare_param_at inner true ts = length_at inner false ts
bare_param_at inner false ts = inner ts >>= kind_param false

unfoldable pub param_at : Reader → Bool → List Token → Read Param
param_at inner is_first ts = choose (word_at (codes "len") ts)
    (choose (word_at (codes "kind") ts) (bare_param_at inner is_first ts) (λ r. inner r >>= kind_param true))
    (length_at inner true)

unfoldable pub mores_at : Reader → ℕ → List Token → Read More
mores_at inner zero ts = Some (no_more, ts)
mores_at inner (suc k) ts = choose (comma_at ts) (Some (no_more, ts))
    (λ r. param_at inner false r >>= λ x. mores_at inner k x.1 >>= λ y. Some (more x.0 y.0, y.1))

-- the parameters of CHARACTER behind their `(`
unfoldable pub params_at : Reader → List Token → Read Params
params_at inner ts = param_at inner true ts >>= λ x. mores_at inner (length x.1) x.1 >>= λ y. closed_at y.1 >>= λ r. Some (params x.0 y.0, r)

unfoldable pub character_at : Reader → List Token → Read TypeOf
character_at inner ts = choose (open_at ts) (Some (Character NoParams, ts)) (λ r. params_at inner r >>= λ x. Some (Character x.0, x.1))

-- what stands between the parentheses behind TYPE
unfoldable pub derived_at : List Token → Read TypeOf
derived_at ts = choose (name_at ts) (star_at ts >>= λ r. Some (Assumed, r)) (λ n. Some (Derived n.0, n.1))

unfoldable pub type_name_at : List Token → Read TypeOf
type_name_at ts = open_at ts >>= λ r. derived_at r >>= λ x. closed_at x.1 >>= λ rest. Some (x.0, rest)

unfoldable pub integer_at : Reader → List Token → Read TypeOf
integer_at inner ts = selector_at inner ts >>= λ x. Some (Integer x.0, x.1)

unfoldable pub logical_at : Reader → List Token → Read TypeOf
logical_at inner ts = selector_at inner ts >>= λ x. Some (Logical x.0, x.1)

-- the type that a word begins
unfoldable pub typed_by : Reader → List ℕ → List Token → Read TypeOf
typed_by inner word ts = if bytes_eq word (codes "integer") then integer_at inner ts else if bytes_eq word (codes "logical") then logical_at inner ts
    else if bytes_eq word (codes "character") then character_at inner ts
    else if bytes_eq word (codes "type") then type_name_at ts else None

unfoldable pub type_at : Reader → List Token → Read TypeOf
type_at inner ts = name_at ts >>= λ n. typed_by inner n.0 n.1

-- ---- primaries

unfoldable pub typed_items_at : Reader → List Token → Read Expr
typed_items_at inner ts = type_at inner ts >>= λ t. colons_at t.1 >>= λ r. args_at inner false r >>= λ x. Some (Typed t.0 x.0, x.1)

abbrev pub not_empty : Args × List Token → Read Expr
not_empty (no_args, ts) = None
not_empty (arg a args, ts) = Some (Array (arg a args), ts)

-- what stands behind `[`
unfoldable pub items_at : Reader → List Token → Read Expr
items_at inner ts = if begins_typed ts then typed_items_at inner ts else args_at inner false ts >>= not_empty

unfoldable pub primary_at : Reader → Reader
primary_at inner (token.Number digits k ∷ ts) = Some (Number digits k, ts)
primary_at inner (token.Truth value k ∷ ts) = Some (Truth value k, ts)
primary_at inner (token.Text bytes k ∷ ts) = Some (Text bytes k, ts)
primary_at inner (token.Mark mark.Open ∷ ts) = inner ts >>= λ x. closed_at x.1 >>= λ r. Some (Paren x.0, r)
primary_at inner (token.Mark mark.OpenBracket ∷ ts) = items_at inner ts
primary_at inner (token.Name name ∷ ts) = refer_at inner (token.Name name ∷ ts) >>= λ x. Some (Ref x.0, x.1)
primary_at inner ts = None

-- an expression within so many nestings, its own counted
unfoldable pub expr_at : ℕ → Reader
expr_at zero ts = None
expr_at (suc n) ts = level_at (primary_at (expr_at n)) 9 ts
