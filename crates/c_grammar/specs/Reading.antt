-- Reading from left to right, with the names in scope.
use Rattle.std.specs.Prelude.{◌≡◌, ℕ, zero, suc, List, [], ◌∷◌, length, Option, Some, None, Result, Ok, Err, Bool, true, false, ltb, ◌==◌, if◌then◌else◌}
use Rattle.c_tree.specs.declared.operator.SpecifierWord.TheVariants as word
use Rattle.c_tree.specs.declared.operator.PointerMark.{PointerMark}
use Rattle.c_tree.specs.declared.operator.PointerMark.TheVariants as mark
use Rattle.c_tree.specs.declared.operator.PrefixOperator.{PrefixOperator}
use Rattle.c_tree.specs.declared.operator.PrefixOperator.TheVariants as pre
use Rattle.c_grammar.specs.declared.token.Allowed.{Allowed}
use Rattle.c_grammar.specs.declared.token.Allowed.TheVariants.{Named, Abstract, Either}
use Rattle.c_grammar.specs.declared.token.Token.{Token}
use Rattle.c_grammar.specs.declared.token.Token.TheVariants as token
use Rattle.c_grammar.specs.declared.fault.Kind.TheVariants.{Form, Deep}
use Rattle.c_grammar.specs.declared.fault.Fault.{Fault}
use Rattle.c_grammar.specs.declared.fault.ReadError.{ReadError}
use Rattle.c_grammar.specs.declared.fault.ReadError.TheVariants as errors
use Rattle.c_grammar.specs.Grammar.{Scope, is_type, starts_type, Expr, Name, Number, Byte, Texts, Paren, Postfix, Prefix, SizeOfExpr, SizeOf, Cast, Chain, Posts, no_posts, post, Post, Index, Call, CallNothing, Member, Arrow, Increment, Decrement, Joint, Infix, Choose, Assign, Comma, Links, no_links, link, Sort, OfInfix, OfChoice, OfAssign, OfComma, sort_height, sort_of, begins_post, is_unary, takes_operand, after_joint, after_post, Typed, typed, Specs, no_specs, spec, Spec, Keyword, TypeName, StructTag, Struct, EnumTag, Enum, Ranked, Members, no_members, member, Decls, no_decls, another, Item, Plain, Valued, Items, no_items, item, after_decls, after_decl, after_item, Decl, decl, Core, Absent, Id, Group, Suffixes, no_suffixes, suffix, Suffix, OpenArray, Array, Function, Params, NoParams, OnlyVoid, Some_params, More, no_more, param, after, after_typed, after_specs, after_spec, after_core, after_suffix, after_param, is_base, or}

infixl 10 ◌>>=◌
abbrev pub ◌>>=◌ : {A B : Type 0} → Result A Fault → (A → Result B Fault) → Result B Fault
(Ok x) >>= f = f x
(Err e) >>= f = Err e

-- What a function returned, seen by view, is what reading gives, unless memory ran out.
abbrev pub Fails : {Y : Type 0} → ReadError → Result Y Fault → Type 0
Fails errors.Memory read = Unit {0}
Fails (errors.Fault f) read = read ≡ Err f

abbrev pub Gives : {X Y : Type 0} → (X → Y) → Result X ReadError → Result Y Fault → Type 0
Gives view (Ok x) read = read ≡ Ok (view x)
Gives view (Err e) read = Fails e read

-- what a function found, seen by view
abbrev pub seen : {X Y : Type 0} → (X → Y) → Option X → Option Y
seen view None = None
seen view (Some x) = Some (view x)

-- where there is something, and where there is not
abbrev pub choose : {A B : Type 0} → Option A → B → (A → B) → B
choose None none some = none
choose (Some x) none some = some x

abbrev pub Read : Type 0 → Type 0
Read A = Result (A × List Token) Fault

abbrev pub Reader : Type 0 → Type 0
Reader A = Scope → List Token → Read A

abbrev pub broken : {A : Type 0} → List Token → Result A Fault
broken ts = Err (record { kind = Form; left = length ts })

abbrev pub deep : {A : Type 0} → List Token → Result A Fault
deep ts = Err (record { kind = Deep; left = length ts })

-- the fault that these tokens are not what should stand there
abbrev pub IsBroken : List Token → ReadError → Type 0
IsBroken ts e = e ≡ errors.Fault (record { kind = Form; left = length ts })

-- the fault that they nest too deep
abbrev pub IsDeep : List Token → ReadError → Type 0
IsDeep ts e = e ≡ errors.Fault (record { kind = Deep; left = length ts })

-- what reads the nested parts
pub record Inner : Type 0 where
  pub expr : ℕ → Reader Expr
  pub decl : Allowed → Reader Decl
  pub typed : Allowed → Reader Typed

-- ---- single tokens

unfoldable pub closed_at : List Token → Result (List Token) Fault
closed_at (token.Close ∷ ts) = Ok ts
closed_at ts = broken ts

unfoldable pub squared_at : List Token → Result (List Token) Fault
squared_at (token.SquareClose ∷ ts) = Ok ts
squared_at ts = broken ts

unfoldable pub braced_at : List Token → Result (List Token) Fault
braced_at (token.BraceClose ∷ ts) = Ok ts
braced_at ts = broken ts

unfoldable pub semi_at : List Token → Result (List Token) Fault
semi_at (token.Semi ∷ ts) = Ok ts
semi_at ts = broken ts

unfoldable pub comma_at : List Token → Option (List Token)
comma_at (token.Comma ∷ ts) = Some ts
comma_at ts = None

-- what stands between braces ends here: at the closing one, or where the tokens end
unfoldable pub ends_braces : List Token → Bool
ends_braces [] = true
ends_braces (token.BraceClose ∷ ts) = true
ends_braces ts = false

unfoldable pub ends_list : List Token → Option (List Token)
ends_list (token.Close ∷ ts) = Some ts
ends_list ts = None

-- void alone in parentheses
unfoldable pub void_at : List Token → Option (List Token)
void_at (token.Word word.Void ∷ token.Close ∷ ts) = Some ts
void_at ts = None

unfoldable pub colon_at : List Token → Result (List Token) Fault
colon_at (token.Colon ∷ ts) = Ok ts
colon_at ts = broken ts

-- an operand that is not unary is not assigned
abbrev pub may_join : Expr → Sort → Bool
may_join left (OfAssign o) = is_unary left
may_join left _ = true

unfoldable pub picked : ℕ → Expr → List Token → Option Sort → Option (Sort × List Token)
picked h left ts None = None
picked h left ts (Some o) = if sort_height o == suc h then (if may_join left o then Some (o, ts) else None) else None

-- a joint of a chain of height h + 1 behind an operand
unfoldable pub link_at : ℕ → Expr → List Token → Option (Sort × List Token)
link_at h left [] = None
link_at h left (t ∷ ts) = picked h left ts (sort_of t)

-- an operator before its operand
unfoldable pub prefix_of : List Token → Option (PrefixOperator × List Token)
prefix_of (token.Increment ∷ ts) = Some (pre.Increment, ts)
prefix_of (token.Decrement ∷ ts) = Some (pre.Decrement, ts)
prefix_of (token.Ampersand ∷ ts) = Some (pre.Address, ts)
prefix_of (token.Star ∷ ts) = Some (pre.Dereference, ts)
prefix_of (token.Plus ∷ ts) = Some (pre.Plus, ts)
prefix_of (token.Minus ∷ ts) = Some (pre.Minus, ts)
prefix_of (token.Tilde ∷ ts) = Some (pre.Complement, ts)
prefix_of (token.Exclamation ∷ ts) = Some (pre.Not, ts)
prefix_of ts = None

-- more string literals
unfoldable pub texts_at : List Token → List ℕ × List Token
texts_at (token.Text k ∷ ts) = (k ∷ (texts_at ts).0, (texts_at ts).1)
texts_at ts = ([], ts)

-- stars and qualifiers
unfoldable pub run_at : List Token → List PointerMark × List Token
run_at (token.Star ∷ ts) = (mark.Star ∷ (run_at ts).0, (run_at ts).1)
run_at (token.Word word.Const ∷ ts) = (mark.Const ∷ (run_at ts).0, (run_at ts).1)
run_at (token.Restrict ∷ ts) = (mark.Restrict ∷ (run_at ts).0, (run_at ts).1)
run_at ts = ([], ts)

unfoldable pub marks_at : List Token → List PointerMark × List Token
marks_at (token.Star ∷ ts) = run_at (token.Star ∷ ts)
marks_at ts = ([], ts)

-- ---- expressions

unfoldable pub paren_at : Inner → Reader Expr
paren_at r s ts = r.expr 13 s ts >>= λ x. closed_at x.1 >>= λ rest. Ok (Paren x.0, rest)

unfoldable pub primary_at : Inner → Reader Expr
primary_at r s (token.Name k ∷ ts) = if is_type s k then broken (token.Name k ∷ ts) else Ok (Name k, ts)
primary_at r s (token.Number k t ∷ ts) = Ok (Number k t, ts)
primary_at r s (token.Byte k ∷ ts) = Ok (Byte k, ts)
primary_at r s (token.Text k ∷ ts) = Ok (Texts k (texts_at ts).0, (texts_at ts).1)
primary_at r s (token.Open ∷ ts) = paren_at r s ts
primary_at r s ts = broken ts

unfoldable pub index_at : Inner → Reader Post
index_at r s ts = r.expr 13 s ts >>= λ x. squared_at x.1 >>= λ rest. Ok (Index x.0, rest)

unfoldable pub arguments_at : Inner → Reader Post
arguments_at r s ts = r.expr 13 s ts >>= λ x. closed_at x.1 >>= λ rest. Ok (Call x.0, rest)

unfoldable pub call_at : Inner → Reader Post
call_at r s (token.Close ∷ ts) = Ok (CallNothing, ts)
call_at r s ts = arguments_at r s ts

unfoldable pub post_at : Inner → Reader Post
post_at r s (token.SquareOpen ∷ ts) = index_at r s ts
post_at r s (token.Open ∷ ts) = call_at r s ts
post_at r s (token.Dot ∷ token.Name k ∷ ts) = Ok (Member k, ts)
post_at r s (token.Arrow ∷ token.Name k ∷ ts) = Ok (Arrow k, ts)
post_at r s (token.Increment ∷ ts) = Ok (Increment, ts)
post_at r s (token.Decrement ∷ ts) = Ok (Decrement, ts)
post_at r s ts = broken ts

-- at most so many with_posts operators
unfoldable pub posts_at : Inner → ℕ → Reader Posts
posts_at r zero s ts = Ok (no_posts, ts)
posts_at r (suc k) s ts = if begins_post ts
    then (post_at r s ts >>= λ x. posts_at r k (after_post x.0 s) x.1 >>= λ y. Ok (post x.0 y.0, y.1)) else Ok (no_posts, ts)

abbrev pub with_posts : Expr → Posts → Expr
with_posts e no_posts = e
with_posts e posts = Postfix e posts

unfoldable pub postfix_at : Inner → Reader Expr
postfix_at r s ts = primary_at r s ts >>= λ x. posts_at r (length x.1) (after x.0 s) x.1 >>= λ y. Ok (with_posts x.0 y.0, y.1)

unfoldable pub prefix_at : Inner → PrefixOperator → Reader Expr
prefix_at r o s ts = r.expr 0 s ts >>= λ x. if takes_operand o x.0 then Ok (Prefix o x.0, x.1) else broken ts

unfoldable pub conversion_at : Inner → Reader Expr
conversion_at r s ts = r.typed Abstract s ts >>= λ x. closed_at x.1 >>= λ rest. r.expr 0 (after_typed x.0 s) rest >>= λ y. Ok (Cast x.0 y.0, y.1)

unfoldable pub size_of_at : Inner → Reader Expr
size_of_at r s ts = r.expr 0 s ts >>= λ x. if is_unary x.0 then Ok (SizeOfExpr x.0, x.1) else broken ts

unfoldable pub type_size_at : Inner → Reader Expr
type_size_at r s ts = r.typed Abstract s ts >>= λ x. closed_at x.1 >>= λ rest. Ok (SizeOf x.0, rest)

unfoldable pub size_at : Inner → Reader Expr
size_at r s (token.Open ∷ ts) = if starts_type s ts then type_size_at r s ts else size_of_at r s (token.Open ∷ ts)
size_at r s ts = size_of_at r s ts

-- an operand of the operators between two operands (6.5.4)
unfoldable pub cast_at : Inner → Reader Expr
cast_at r s (token.Open ∷ ts) = if starts_type s ts then conversion_at r s ts else postfix_at r s (token.Open ∷ ts)
cast_at r s (token.Sizeof ∷ ts) = size_at r s ts
cast_at r s ts = choose (prefix_of ts) (postfix_at r s ts) (λ o. prefix_at r o.0 s o.1)

unfoldable pub choice_at : Inner → Reader Joint
choice_at r s ts = r.expr 13 s ts >>= λ x. colon_at x.1 >>= λ rest. Ok (Choose x.0, rest)

-- what stands between two operands, behind its first token
unfoldable pub joint_at : Inner → Sort → Reader Joint
joint_at r (OfInfix o) s ts = Ok (Infix o, ts)
joint_at r OfChoice s ts = choice_at r s ts
joint_at r (OfAssign o) s ts = Ok (Assign o, ts)
joint_at r OfComma s ts = Ok (Comma, ts)

-- at most so many links
unfoldable pub links_at : Inner → Reader Expr → ℕ → ℕ → Expr → Reader Links
links_at r lower h zero left s ts = Ok (no_links, ts)
links_at r lower h (suc k) left s ts = choose (link_at h left ts) (Ok (no_links, ts))
    (λ o. joint_at r o.0 s o.1 >>= λ j. lower (after_joint j.0 s) j.1 >>= λ x. links_at r lower h k x.0 (after x.0 (after_joint j.0 s)) x.1 >>= λ y. Ok (link j.0 x.0 y.0, y.1))

abbrev pub chain : ℕ → Expr → Links → Expr
chain h first no_links = first
chain h first links = Chain h first links

-- an expression of at most this height
unfoldable pub level_at : Inner → ℕ → Reader Expr
level_at r zero s ts = cast_at r s ts
level_at r (suc h) s ts = level_at r h s ts >>= λ x. links_at r (level_at r h) h (length x.1) x.0 (after x.0 s) x.1 >>= λ y. Ok (chain h x.0 y.0, y.1)

-- ---- specifiers

-- whether one more specifier begins here; behind a base a name is none
unfoldable pub begins_spec : Bool → Scope → List Token → Bool
begins_spec true s (token.Name k ∷ ts) = false
begins_spec based s ts = starts_type s ts

-- at most so many more declarators
unfoldable pub decls_at : Inner → ℕ → Reader Decls
decls_at r zero s ts = Ok (no_decls, ts)
decls_at r (suc k) s ts = choose (comma_at ts) (Ok (no_decls, ts))
    (λ rest. r.decl Named s rest >>= λ x. decls_at r k (after_decl x.0 s) x.1 >>= λ y. Ok (another x.0 y.0, y.1))

-- at most so many members
unfoldable pub members_at : Inner → ℕ → Reader Members
members_at r zero s ts = Ok (no_members, ts)
members_at r (suc k) s ts = if ends_braces ts then Ok (no_members, ts) else
    r.typed Named s ts >>= λ x. decls_at r (length x.1) (after_typed x.0 s) x.1 >>= λ d. semi_at d.1 >>= λ rest. members_at r k (after_decls d.0 (after_typed x.0 s)) rest >>= λ y. Ok (member x.0 d.0 y.0, y.1)

unfoldable pub struct_body_at : Inner → Option ℕ → Reader Spec
struct_body_at r tag s ts = members_at r (length ts) s ts >>= λ x. braced_at x.1 >>= λ rest. Ok (Struct tag x.0, rest)

unfoldable pub struct_at : Inner → Reader Spec
struct_at r s (token.BraceOpen ∷ ts) = struct_body_at r None s ts
struct_at r s (token.Name k ∷ token.BraceOpen ∷ ts) = struct_body_at r (Some k) s ts
struct_at r s (token.Name k ∷ ts) = Ok (StructTag k, ts)
struct_at r s ts = broken ts

unfoldable pub valued_at : Inner → ℕ → Reader Item
valued_at r k s ts = r.expr 11 s ts >>= λ x. Ok (Valued k x.0, x.1)

unfoldable pub item_at : Inner → Reader Item
item_at r s (token.Name k ∷ token.Equals ∷ ts) = valued_at r k s ts
item_at r s (token.Name k ∷ ts) = Ok (Plain k, ts)
item_at r s ts = broken ts

-- a comma with an enumerator behind it
unfoldable pub next_item : List Token → Option (List Token)
next_item (token.Comma ∷ token.Name k ∷ ts) = Some (token.Name k ∷ ts)
next_item ts = None

-- at most so many more enumerators
unfoldable pub items_at : Inner → ℕ → Reader Items
items_at r zero s ts = Ok (no_items, ts)
items_at r (suc k) s ts = choose (next_item ts) (Ok (no_items, ts))
    (λ rest. item_at r s rest >>= λ x. items_at r k (after_item x.0 s) x.1 >>= λ y. Ok (item x.0 y.0, y.1))

-- a comma, or none
unfoldable pub last_comma : List Token → Bool × List Token
last_comma (token.Comma ∷ ts) = (true, ts)
last_comma ts = (false, ts)

unfoldable pub enum_body_at : Inner → Option ℕ → Reader Spec
enum_body_at r tag s ts = item_at r s ts >>= λ x. items_at r (length x.1) (after_item x.0 s) x.1 >>= λ y. braced_at (last_comma y.1).1 >>= λ rest. Ok (Enum tag x.0 y.0 (last_comma y.1).0, rest)

unfoldable pub enum_at : Inner → Reader Spec
enum_at r s (token.BraceOpen ∷ ts) = enum_body_at r None s ts
enum_at r s (token.Name k ∷ token.BraceOpen ∷ ts) = enum_body_at r (Some k) s ts
enum_at r s (token.Name k ∷ ts) = Ok (EnumTag k, ts)
enum_at r s ts = broken ts

-- the rank of a descriptor, from 0 to 15
unfoldable pub ranked_at : Reader Spec
ranked_at s (token.Open ∷ token.Number k t ∷ token.Close ∷ ts) = if ltb k 16 then Ok (Ranked k t, ts) else broken (token.Open ∷ token.Number k t ∷ token.Close ∷ ts)
ranked_at s ts = broken ts

unfoldable pub spec_at : Inner → Reader Spec
spec_at r s (token.Name k ∷ ts) = Ok (TypeName k, ts)
spec_at r s (token.Word w ∷ ts) = Ok (Keyword w, ts)
spec_at r s (token.Struct ∷ ts) = struct_at r s ts
spec_at r s (token.Enum ∷ ts) = enum_at r s ts
spec_at r s (token.DescriptorOfRank ∷ ts) = ranked_at s ts
spec_at r s ts = broken ts

-- at most so many specifiers
unfoldable pub specs_at : Inner → ℕ → Bool → Reader Specs
specs_at r zero based s ts = Ok (no_specs, ts)
specs_at r (suc k) based s ts = if begins_spec based s ts then
    (spec_at r s ts >>= λ x. specs_at r k (or based (is_base x.0)) (after_spec x.0 s) x.1 >>= λ y. Ok (spec x.0 y.0, y.1)) else Ok (no_specs, ts)

-- specifiers; there is one
unfoldable pub specifiers_at : Inner → Reader Specs
specifiers_at r s ts = if starts_type s ts then specs_at r (length ts) false s ts else broken ts

-- ---- declarators

-- whether a parenthesis opens a list of parameters where a declarator begins
unfoldable pub opens_list : Allowed → Scope → List Token → Bool
opens_list Named s ts = false
opens_list a s (token.Close ∷ ts) = true
opens_list a s ts = starts_type s ts

abbrev pub takes_name : Allowed → Bool
takes_name Abstract = false
takes_name _ = true

abbrev pub needs_name : Allowed → Bool
needs_name Named = true
needs_name _ = false

unfoldable pub group_at : Inner → Allowed → Reader Core
group_at r a s ts = r.decl a s ts >>= λ x. closed_at x.1 >>= λ rest. Ok (Group x.0, rest)

unfoldable pub core_at : Inner → Allowed → Reader Core
core_at r a s (token.Name k ∷ ts) = if takes_name a then Ok (Id k, ts) else Ok (Absent, token.Name k ∷ ts)
core_at r a s (token.Open ∷ ts) = if opens_list a s ts then Ok (Absent, token.Open ∷ ts) else group_at r a s ts
core_at r a s ts = if needs_name a then broken ts else Ok (Absent, ts)

-- at most so many more parameters
unfoldable pub more_at : Inner → ℕ → Reader More
more_at r zero s ts = Ok (no_more, ts)
more_at r (suc k) s ts = choose (comma_at ts) (Ok (no_more, ts))
    (λ rest. r.typed Either s rest >>= λ x. more_at r k (after_param x.0 s) x.1 >>= λ y. Ok (param x.0 y.0, y.1))

unfoldable pub list_at : Inner → Reader Params
list_at r s ts = r.typed Either s ts >>= λ x. more_at r (length x.1) (after_param x.0 s) x.1 >>= λ y. closed_at y.1 >>= λ rest. Ok (Some_params x.0 y.0, rest)

-- parameters and what closes them
unfoldable pub params_at : Inner → Reader Params
params_at r s ts = choose (ends_list ts) (choose (void_at ts) (list_at r s ts) (λ rest. Ok (OnlyVoid, rest))) (λ rest. Ok (NoParams, rest))

unfoldable pub bound_at : Inner → Reader Suffix
bound_at r s ts = r.expr 11 s ts >>= λ x. squared_at x.1 >>= λ rest. Ok (Array x.0, rest)

unfoldable pub array_at : Inner → Reader Suffix
array_at r s (token.SquareClose ∷ ts) = Ok (OpenArray, ts)
array_at r s ts = bound_at r s ts

unfoldable pub function_at : Inner → Reader Suffix
function_at r s ts = params_at r s ts >>= λ x. Ok (Function x.0, x.1)

unfoldable pub suffixes_at : Inner → ℕ → Reader Suffixes
suffixes_at r zero s ts = Ok (no_suffixes, ts)
suffixes_at r (suc k) s (token.SquareOpen ∷ ts) = array_at r s ts >>= λ x. suffixes_at r k (after_suffix x.0 s) x.1 >>= λ y. Ok (suffix x.0 y.0, y.1)
suffixes_at r (suc k) s (token.Open ∷ ts) = function_at r s ts >>= λ x. suffixes_at r k (after_suffix x.0 s) x.1 >>= λ y. Ok (suffix x.0 y.0, y.1)
suffixes_at r (suc k) s ts = Ok (no_suffixes, ts)

unfoldable pub decl_at : Inner → Allowed → Reader Decl
decl_at r a s ts = core_at r a s (marks_at ts).1 >>= λ x. suffixes_at r (length x.1) (after_core x.0 s) x.1 >>= λ y. Ok (decl (marks_at ts).0 x.0 y.0, y.1)

unfoldable pub typed_at : Inner → Allowed → Reader Typed
typed_at r a s ts = specifiers_at r s ts >>= λ x. decl_at r a (after_specs x.0 s) x.1 >>= λ y. Ok (typed x.0 y.0, y.1)

-- ---- within so many nestings

unfoldable pub inner : ℕ → Inner
inner zero = record { expr = λ h s ts. deep ts; decl = λ a s ts. deep ts; typed = λ a s ts. deep ts }
inner (suc n) = record { expr = λ h s ts. level_at (inner n) h s ts; decl = λ a s ts. decl_at (inner n) a s ts; typed = λ a s ts. typed_at (inner n) a s ts }
