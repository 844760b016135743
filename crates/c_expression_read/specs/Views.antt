-- The trees of expressions, specifiers and declarators as the grammar has them, without the numbers of their tokens.
use Rattle.std.specs.Prelude.{ℕ, List, [], ◌∷◌, Bool, Option, Some, None}
use Rattle.c_tree.specs.Heights.{rank}
use Rattle.c_tree.specs.declared.expression.Core.{Core as TreeCore, fold-Core}
use Rattle.c_tree.specs.declared.expression.Core.TheOpen as open_
use Rattle.c_tree.specs.declared.expression.Core.TheOpen.{Core-F, Expr-F, Parameters-F, Postfix-F, Specifier-F, Suffix-F, Choice-F, Declarator-F, Enumerator-F, Link-F, MemberDeclaration-F, Target-F, Typed-F}
use Rattle.c_tree.specs.declared.expression.Core.TheFolds.{fold-Expr, fold-Parameters, fold-Postfix, fold-Specifier, fold-Suffix, fold-Choice, fold-Declarator, fold-Enumerator, fold-Link, fold-MemberDeclaration, fold-Target, fold-Typed}
use Rattle.c_tree.specs.declared.expression.Expr.{Expr as TreeExpr}
use Rattle.c_tree.specs.declared.expression.Parameters.{Parameters as TreeParameters}
use Rattle.c_tree.specs.declared.expression.Postfix.{Postfix as TreePostfix}
use Rattle.c_tree.specs.declared.expression.Specifier.{Specifier as TreeSpecifier}
use Rattle.c_tree.specs.declared.expression.Suffix.{Suffix as TreeSuffix}
use Rattle.c_tree.specs.declared.expression.Choice.{Choice as TreeChoice}
use Rattle.c_tree.specs.declared.expression.Declarator.{Declarator as TreeDeclarator}
use Rattle.c_tree.specs.declared.expression.Enumerator.{Enumerator as TreeEnumerator}
use Rattle.c_tree.specs.declared.expression.Link.{Link as TreeLink}
use Rattle.c_tree.specs.declared.expression.MemberDeclaration.{MemberDeclaration as TreeMembers}
use Rattle.c_tree.specs.declared.expression.Target.{Target as TreeTarget}
use Rattle.c_tree.specs.declared.expression.Typed.{Typed as TreeTyped}
use Rattle.c_grammar.specs.Grammar.{Expr, Name, Number, Byte, Texts, Paren, Postfix, Prefix, SizeOfExpr, SizeOf, Cast, Chain, Posts, no_posts, post, Post, Index, Call, CallNothing, Member, Arrow, Increment, Decrement, Joint, Infix, Choose, Assign, Comma, Links, no_links, link, Typed, typed, Specs, no_specs, spec, Spec, Keyword, TypeName, StructTag, Struct, EnumTag, Enum, Ranked, Members, no_members, member, Decls, no_decls, another, Item, Plain, Valued, Items, no_items, item, Decl, decl, Core, Absent, Id, Group, Suffixes, no_suffixes, suffix, Suffix, OpenArray, Array, Function, Params, NoParams, OnlyVoid, Some_params, More, no_more, param}
use Rattle.c_grammar.specs.Reading.{chain}
use Rattle.c_expression_read.specs.Gives.{onto}

-- ---- lists of parts that are seen already

abbrev pub linked : Joint × Expr → Links → Links
linked l links = link l.0 l.1 links

abbrev pub links_of : List (Joint × Expr) → Links
links_of ls = onto linked ls no_links

abbrev pub comma : Expr → Links → Links
comma e links = link Comma e links

-- the first operand of a chain that groups to the right, whose operands but the last have the joints behind them
abbrev pub first_of : List (Expr × Joint) → Expr → Expr
first_of [] last = last
first_of (x ∷ xs) last = x.0

-- its other operands behind their joints
abbrev pub shifted : List (Expr × Joint) → Expr → List (Joint × Expr)
shifted [] last = []
shifted (x ∷ xs) last = (x.1, first_of xs last) ∷ shifted xs last

abbrev pub to_the_right : ℕ → List (Expr × Joint) → Expr → Expr
to_the_right h xs last = Chain h (first_of xs last) (links_of (shifted xs last))

abbrev pub commas_of : List Expr → Links
commas_of es = onto comma es no_links

abbrev pub posts_of : List Post → Posts
posts_of ps = onto post ps no_posts

abbrev pub call_of : List Expr → Post
call_of [] = CallNothing
call_of (e ∷ es) = Call (chain 12 e (commas_of es))

abbrev pub specs_of : List Spec → Specs
specs_of ss = onto spec ss no_specs

abbrev pub decls_of : List Decl → Decls
decls_of ds = onto another ds no_decls

-- members that are declared together; there is one at least
abbrev pub members : Specs × List Decl → Members → Members
members (specs, []) rest = rest
members (specs, d ∷ ds) rest = member (typed specs d) (decls_of ds) rest

abbrev pub members_of : List (Specs × List Decl) → Members
members_of ms = onto members ms no_members

abbrev pub items_of : List Item → Items
items_of is = onto item is no_items

abbrev pub item_of : ℕ → Option Expr → Item
item_of k None = Plain k
item_of k (Some e) = Valued k e

-- of the enumerators there is one at least
abbrev pub first_item : List Item → Item
first_item [] = Plain 0
first_item (i ∷ is) = i

abbrev pub other_items : List Item → Items
other_items [] = no_items
other_items (i ∷ is) = items_of is

abbrev pub enum_of : Option ℕ → List Item → Bool → Spec
enum_of tag is c = Enum tag (first_item is) (other_items is) c

abbrev pub suffixes_of : List Suffix → Suffixes
suffixes_of ss = onto suffix ss no_suffixes

abbrev pub array_of : Option Expr → Suffix
array_of None = OpenArray
array_of (Some e) = Array e

abbrev pub more_of : List Typed → More
more_of ts = onto param ts no_more

-- where parameters are listed, there is one at least
abbrev pub params_of : List Typed → Params
params_of [] = NoParams
params_of (t ∷ ts) = Some_params t (more_of ts)

-- ---- a tree whose parts are seen already

abbrev pub core_seen : Core-F Core Expr Params Post Spec Suffix (Expr × Joint) Decl Item (Joint × Expr) (Specs × List Decl) (Expr × Joint) Typed → Core
core_seen open_.Absent = Absent
core_seen (open_.Identifier name at) = Id name
core_seen (open_.Group inner at) = Group inner

abbrev pub expr_seen : Expr-F Core Expr Params Post Spec Suffix (Expr × Joint) Decl Item (Joint × Expr) (Specs × List Decl) (Expr × Joint) Typed → Expr
expr_seen (open_.Name name at) = Name name
expr_seen (open_.Constant value kind at) = Number value kind
expr_seen (open_.Character value at) = Byte value
expr_seen (open_.Text first others at) = Texts first others
expr_seen (open_.Parenthesized inner at) = Paren inner
expr_seen (open_.Postfix operand suffixes at) = Postfix operand (posts_of suffixes)
expr_seen (open_.Prefix operator operand at) = Prefix operator operand
expr_seen (open_.SizeofExpr operand at) = SizeOfExpr operand
expr_seen (open_.SizeofType kind at) = SizeOf kind
expr_seen (open_.Cast kind operand at) = Cast kind operand
expr_seen (open_.Chain height first links at) = Chain (rank height) first (links_of links)
expr_seen (open_.Conditional choices otherwise at) = to_the_right 10 choices otherwise
expr_seen (open_.Assignment targets value at) = to_the_right 11 targets value
expr_seen (open_.Comma first others at) = Chain 12 first (commas_of others)

abbrev pub parameters_seen : Parameters-F Core Expr Params Post Spec Suffix (Expr × Joint) Decl Item (Joint × Expr) (Specs × List Decl) (Expr × Joint) Typed → Params
parameters_seen open_.Nothing = NoParams
parameters_seen open_.Void = OnlyVoid
parameters_seen (open_.Listed ts) = params_of ts

abbrev pub postfix_seen : Postfix-F Core Expr Params Post Spec Suffix (Expr × Joint) Decl Item (Joint × Expr) (Specs × List Decl) (Expr × Joint) Typed → Post
postfix_seen (open_.Index index at) = Index index
postfix_seen (open_.Call arguments at) = call_of arguments
postfix_seen (open_.Member name at) = Member name
postfix_seen (open_.Arrow name at) = Arrow name
postfix_seen (open_.Increment at) = Increment
postfix_seen (open_.Decrement at) = Decrement

abbrev pub specifier_seen : Specifier-F Core Expr Params Post Spec Suffix (Expr × Joint) Decl Item (Joint × Expr) (Specs × List Decl) (Expr × Joint) Typed → Spec
specifier_seen (open_.Word word at) = Keyword word
specifier_seen (open_.StructTag tag at) = StructTag tag
specifier_seen (open_.Struct tag ms at) = Struct tag (members_of ms)
specifier_seen (open_.EnumTag tag at) = EnumTag tag
specifier_seen (open_.Enum tag enumerators has_comma at) = enum_of tag enumerators has_comma
specifier_seen (open_.TypedefName name at) = TypeName name
specifier_seen (open_.DescriptorOfRank number kind at) = Ranked number kind

abbrev pub suffix_seen : Suffix-F Core Expr Params Post Spec Suffix (Expr × Joint) Decl Item (Joint × Expr) (Specs × List Decl) (Expr × Joint) Typed → Suffix
suffix_seen (open_.Array length at) = array_of length
suffix_seen (open_.Function parameters at) = Function parameters

abbrev pub choice_seen : Choice-F Core Expr Params Post Spec Suffix (Expr × Joint) Decl Item (Joint × Expr) (Specs × List Decl) (Expr × Joint) Typed → Expr × Joint
choice_seen c = (c.test, Choose c.value)

abbrev pub declarator_seen : Declarator-F Core Expr Params Post Spec Suffix (Expr × Joint) Decl Item (Joint × Expr) (Specs × List Decl) (Expr × Joint) Typed → Decl
declarator_seen d = decl d.marks d.core (suffixes_of d.suffixes)

abbrev pub enumerator_seen : Enumerator-F Core Expr Params Post Spec Suffix (Expr × Joint) Decl Item (Joint × Expr) (Specs × List Decl) (Expr × Joint) Typed → Item
enumerator_seen i = item_of i.name i.value

abbrev pub link_seen : Link-F Core Expr Params Post Spec Suffix (Expr × Joint) Decl Item (Joint × Expr) (Specs × List Decl) (Expr × Joint) Typed → Joint × Expr
link_seen l = (Infix l.operator, l.right)

abbrev pub members_seen : MemberDeclaration-F Core Expr Params Post Spec Suffix (Expr × Joint) Decl Item (Joint × Expr) (Specs × List Decl) (Expr × Joint) Typed → Specs × List Decl
members_seen m = (specs_of m.specifiers, m.declarators)

abbrev pub target_seen : Target-F Core Expr Params Post Spec Suffix (Expr × Joint) Decl Item (Joint × Expr) (Specs × List Decl) (Expr × Joint) Typed → Expr × Joint
target_seen t = (t.place, Assign t.operator)

abbrev pub typed_seen : Typed-F Core Expr Params Post Spec Suffix (Expr × Joint) Decl Item (Joint × Expr) (Specs × List Decl) (Expr × Joint) Typed → Typed
typed_seen t = typed (specs_of t.specifiers) t.declarator

-- ---- each tree as the grammar has it

abbrev pub view : TreeExpr → Expr
view = fold-Expr Core Expr Params Post Spec Suffix (Expr × Joint) Decl Item (Joint × Expr) (Specs × List Decl) (Expr × Joint) Typed core_seen expr_seen parameters_seen postfix_seen specifier_seen suffix_seen choice_seen declarator_seen enumerator_seen link_seen members_seen target_seen typed_seen

abbrev pub view_core : TreeCore → Core
view_core = fold-Core Core Expr Params Post Spec Suffix (Expr × Joint) Decl Item (Joint × Expr) (Specs × List Decl) (Expr × Joint) Typed core_seen expr_seen parameters_seen postfix_seen specifier_seen suffix_seen choice_seen declarator_seen enumerator_seen link_seen members_seen target_seen typed_seen

abbrev pub view_parameters : TreeParameters → Params
view_parameters = fold-Parameters Core Expr Params Post Spec Suffix (Expr × Joint) Decl Item (Joint × Expr) (Specs × List Decl) (Expr × Joint) Typed core_seen expr_seen parameters_seen postfix_seen specifier_seen suffix_seen choice_seen declarator_seen enumerator_seen link_seen members_seen target_seen typed_seen

abbrev pub view_postfix : TreePostfix → Post
view_postfix = fold-Postfix Core Expr Params Post Spec Suffix (Expr × Joint) Decl Item (Joint × Expr) (Specs × List Decl) (Expr × Joint) Typed core_seen expr_seen parameters_seen postfix_seen specifier_seen suffix_seen choice_seen declarator_seen enumerator_seen link_seen members_seen target_seen typed_seen

abbrev pub view_specifier : TreeSpecifier → Spec
view_specifier = fold-Specifier Core Expr Params Post Spec Suffix (Expr × Joint) Decl Item (Joint × Expr) (Specs × List Decl) (Expr × Joint) Typed core_seen expr_seen parameters_seen postfix_seen specifier_seen suffix_seen choice_seen declarator_seen enumerator_seen link_seen members_seen target_seen typed_seen

abbrev pub view_suffix : TreeSuffix → Suffix
view_suffix = fold-Suffix Core Expr Params Post Spec Suffix (Expr × Joint) Decl Item (Joint × Expr) (Specs × List Decl) (Expr × Joint) Typed core_seen expr_seen parameters_seen postfix_seen specifier_seen suffix_seen choice_seen declarator_seen enumerator_seen link_seen members_seen target_seen typed_seen

abbrev pub view_choice : TreeChoice → Expr × Joint
view_choice = fold-Choice Core Expr Params Post Spec Suffix (Expr × Joint) Decl Item (Joint × Expr) (Specs × List Decl) (Expr × Joint) Typed core_seen expr_seen parameters_seen postfix_seen specifier_seen suffix_seen choice_seen declarator_seen enumerator_seen link_seen members_seen target_seen typed_seen

abbrev pub view_declarator : TreeDeclarator → Decl
view_declarator = fold-Declarator Core Expr Params Post Spec Suffix (Expr × Joint) Decl Item (Joint × Expr) (Specs × List Decl) (Expr × Joint) Typed core_seen expr_seen parameters_seen postfix_seen specifier_seen suffix_seen choice_seen declarator_seen enumerator_seen link_seen members_seen target_seen typed_seen

abbrev pub view_enumerator : TreeEnumerator → Item
view_enumerator = fold-Enumerator Core Expr Params Post Spec Suffix (Expr × Joint) Decl Item (Joint × Expr) (Specs × List Decl) (Expr × Joint) Typed core_seen expr_seen parameters_seen postfix_seen specifier_seen suffix_seen choice_seen declarator_seen enumerator_seen link_seen members_seen target_seen typed_seen

abbrev pub view_link : TreeLink → Joint × Expr
view_link = fold-Link Core Expr Params Post Spec Suffix (Expr × Joint) Decl Item (Joint × Expr) (Specs × List Decl) (Expr × Joint) Typed core_seen expr_seen parameters_seen postfix_seen specifier_seen suffix_seen choice_seen declarator_seen enumerator_seen link_seen members_seen target_seen typed_seen

abbrev pub view_members : TreeMembers → Specs × List Decl
view_members = fold-MemberDeclaration Core Expr Params Post Spec Suffix (Expr × Joint) Decl Item (Joint × Expr) (Specs × List Decl) (Expr × Joint) Typed core_seen expr_seen parameters_seen postfix_seen specifier_seen suffix_seen choice_seen declarator_seen enumerator_seen link_seen members_seen target_seen typed_seen

abbrev pub view_target : TreeTarget → Expr × Joint
view_target = fold-Target Core Expr Params Post Spec Suffix (Expr × Joint) Decl Item (Joint × Expr) (Specs × List Decl) (Expr × Joint) Typed core_seen expr_seen parameters_seen postfix_seen specifier_seen suffix_seen choice_seen declarator_seen enumerator_seen link_seen members_seen target_seen typed_seen

abbrev pub view_typed : TreeTyped → Typed
view_typed = fold-Typed Core Expr Params Post Spec Suffix (Expr × Joint) Decl Item (Joint × Expr) (Specs × List Decl) (Expr × Joint) Typed core_seen expr_seen parameters_seen postfix_seen specifier_seen suffix_seen choice_seen declarator_seen enumerator_seen link_seen members_seen target_seen typed_seen
