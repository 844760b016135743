-- Expressions, specifiers and declarators have no word without use.
use Rattle.std.proofs.Common.{◌≡◌, ℕ, Bool, true, false, List, [], ◌∷◌, Option, Some, None, refl, ◌∙◌}
use Rattle.c_tree.specs.declared.operator.BinaryOperator.{BinaryOperator}
use Rattle.c_tree.specs.declared.operator.BinaryOperator.TheVariants as op
use Rattle.c_tree.specs.declared.operator.AssignOperator.{AssignOperator}
use Rattle.c_tree.specs.declared.operator.AssignOperator.TheVariants as set
use Rattle.c_tree.specs.declared.operator.PrefixOperator.{PrefixOperator}
use Rattle.c_tree.specs.declared.operator.PrefixOperator.TheVariants as pre
use Rattle.c_tree.specs.declared.operator.PointerMark.{PointerMark}
use Rattle.c_tree.specs.declared.operator.PointerMark.TheVariants as mark
use Rattle.c_grammar.specs.declared.token.Token.{Token}
use Rattle.c_grammar.specs.declared.token.Token.TheVariants as token
use Rattle.c_grammar.specs.Grammar.{sign_of, sign_of_set, sign_of_prefix, sign_of_mark, Ranked, Expr, Name, Number, Byte, Texts, Paren, Postfix, Prefix, SizeOfExpr, SizeOf, Cast, Chain, Posts, no_posts, post, Post, Index, Call, CallNothing, Member, Arrow, Increment, Decrement, Joint, Infix, Choose, Assign, Comma, Links, no_links, link, spell_joint, spell_posts, spell_post, spell_texts, Typed, typed, Specs, no_specs, spec, Spec, Keyword, TypeName, Struct, Members, no_members, member, Decl, decl, Core, Absent, Id, Group, Suffixes, no_suffixes, suffix, Suffix, OpenArray, Array, Function, Params, NoParams, OnlyVoid, Some_params, More, no_more, param, spell, spell_links, spell_typed, spell_specs, spell_spec, spell_members, spell_decl, spell_core, spell_suffixes, spell_suffix, spell_params, spell_more, spell_marks, StructTag, EnumTag, Enum, Decls, no_decls, another, Item, Plain, Valued, Items, no_items, item, spell_decls, spell_item, spell_items, spell_tag, spell_comma}
use Rattle.c_word_laws.specs.Unused.{is_unused, has_unused}

infix_used : (o : BinaryOperator) → is_unused (sign_of o) ≡ false
infix_used op.Times = refl
infix_used op.Over = refl
infix_used op.Remainder = refl
infix_used op.Plus = refl
infix_used op.Minus = refl
infix_used op.ShiftLeft = refl
infix_used op.ShiftRight = refl
infix_used op.Less = refl
infix_used op.Greater = refl
infix_used op.LessEqual = refl
infix_used op.GreaterEqual = refl
infix_used op.Equal = refl
infix_used op.NotEqual = refl
infix_used op.BitAnd = refl
infix_used op.BitXor = refl
infix_used op.BitOr = refl
infix_used op.And = refl
infix_used op.Or = refl

assign_used : (o : AssignOperator) → is_unused (sign_of_set o) ≡ false
assign_used set.Set = refl
assign_used set.Times = refl
assign_used set.Over = refl
assign_used set.Remainder = refl
assign_used set.Plus = refl
assign_used set.Minus = refl
assign_used set.ShiftLeft = refl
assign_used set.ShiftRight = refl
assign_used set.BitAnd = refl
assign_used set.BitXor = refl
assign_used set.BitOr = refl

prefix_used : (o : PrefixOperator) → is_unused (sign_of_prefix o) ≡ false
prefix_used pre.Increment = refl
prefix_used pre.Decrement = refl
prefix_used pre.Address = refl
prefix_used pre.Dereference = refl
prefix_used pre.Plus = refl
prefix_used pre.Minus = refl
prefix_used pre.Complement = refl
prefix_used pre.Not = refl

mark_used : (o : PointerMark) → is_unused (sign_of_mark o) ≡ false
mark_used mark.Star = refl
mark_used mark.Const = refl
mark_used mark.Restrict = refl

pub used_marks : (ms : List PointerMark) (rest : List Token) → has_unused (spell_marks ms rest) ≡ has_unused rest
used_marks [] rest = refl
used_marks (m ∷ ms) rest = rw (mark_used m) (used_marks ms rest)

pub used_texts : (ks : List ℕ) (rest : List Token) → has_unused (spell_texts ks rest) ≡ has_unused rest
used_texts [] rest = refl
used_texts (k ∷ ks) rest = used_texts ks rest

pub used_tag : (tag : Option ℕ) (rest : List Token) → has_unused (spell_tag tag rest) ≡ has_unused rest
used_tag None rest = refl
used_tag (Some k) rest = refl

pub used_comma : (c : Bool) (rest : List Token) → has_unused (spell_comma c rest) ≡ has_unused rest
used_comma true rest = refl
used_comma false rest = refl

mutual
  pub used : (e : Expr) (rest : List Token) → has_unused (spell e rest) ≡ has_unused rest
  used (Name k) rest = refl
  used (Number k t) rest = refl
  used (Byte k) rest = refl
  used (Texts k ks) rest = used_texts ks rest
  used (Paren e) rest = used e (token.Close ∷ rest)
  used (Postfix e posts) rest = used e (spell_posts posts rest) ∙ used_posts posts rest
  used (Prefix o e) rest = rw (prefix_used o) (used e rest)
  used (SizeOfExpr e) rest = used e rest
  used (SizeOf t) rest = used_typed t (token.Close ∷ rest)
  used (Cast t e) rest = used_typed t (token.Close ∷ spell e rest) ∙ used e rest
  used (Chain h first links) rest = used first (spell_links links rest) ∙ used_links links rest

  pub used_links : (links : Links) (rest : List Token) → has_unused (spell_links links rest) ≡ has_unused rest
  used_links no_links rest = refl
  used_links (link j e more) rest = used_joint j (spell e (spell_links more rest)) ∙ used e (spell_links more rest) ∙ used_links more rest

  pub used_joint : (j : Joint) (rest : List Token) → has_unused (spell_joint j rest) ≡ has_unused rest
  used_joint (Infix o) rest = rw (infix_used o) refl
  used_joint (Choose v) rest = used v (token.Colon ∷ rest)
  used_joint (Assign o) rest = rw (assign_used o) refl
  used_joint Comma rest = refl

  pub used_posts : (posts : Posts) (rest : List Token) → has_unused (spell_posts posts rest) ≡ has_unused rest
  used_posts no_posts rest = refl
  used_posts (post one more) rest = used_post one (spell_posts more rest) ∙ used_posts more rest

  pub used_post : (one : Post) (rest : List Token) → has_unused (spell_post one rest) ≡ has_unused rest
  used_post (Index e) rest = used e (token.SquareClose ∷ rest)
  used_post (Call e) rest = used e (token.Close ∷ rest)
  used_post CallNothing rest = refl
  used_post (Member k) rest = refl
  used_post (Arrow k) rest = refl
  used_post Increment rest = refl
  used_post Decrement rest = refl

  pub used_typed : (t : Typed) (rest : List Token) → has_unused (spell_typed t rest) ≡ has_unused rest
  used_typed (typed specs d) rest = used_specs specs (spell_decl d rest) ∙ used_decl d rest

  pub used_specs : (specs : Specs) (rest : List Token) → has_unused (spell_specs specs rest) ≡ has_unused rest
  used_specs no_specs rest = refl
  used_specs (spec one more) rest = used_spec one (spell_specs more rest) ∙ used_specs more rest

  pub used_spec : (one : Spec) (rest : List Token) → has_unused (spell_spec one rest) ≡ has_unused rest
  used_spec (Keyword w) rest = refl
  used_spec (TypeName k) rest = refl
  used_spec (StructTag k) rest = refl
  used_spec (Struct tag members) rest = used_tag tag (token.BraceOpen ∷ spell_members members (token.BraceClose ∷ rest)) ∙ used_members members (token.BraceClose ∷ rest)
  used_spec (EnumTag k) rest = refl
  used_spec (Enum tag i is c) rest = used_tag tag (token.BraceOpen ∷ spell_item i (spell_items is (spell_comma c (token.BraceClose ∷ rest)))) ∙ used_item i (spell_items is (spell_comma c (token.BraceClose ∷ rest))) ∙ used_items is (spell_comma c (token.BraceClose ∷ rest)) ∙ used_comma c (token.BraceClose ∷ rest)
  used_spec (Ranked k t) rest = refl

  pub used_members : (members : Members) (rest : List Token) → has_unused (spell_members members rest) ≡ has_unused rest
  used_members no_members rest = refl
  used_members (member t ds more) rest = used_typed t (spell_decls ds (token.Semi ∷ spell_members more rest)) ∙ used_decls ds (token.Semi ∷ spell_members more rest) ∙ used_members more rest

  pub used_decls : (ds : Decls) (rest : List Token) → has_unused (spell_decls ds rest) ≡ has_unused rest
  used_decls no_decls rest = refl
  used_decls (another d more) rest = used_decl d (spell_decls more rest) ∙ used_decls more rest

  pub used_item : (i : Item) (rest : List Token) → has_unused (spell_item i rest) ≡ has_unused rest
  used_item (Plain k) rest = refl
  used_item (Valued k e) rest = used e rest

  pub used_items : (is : Items) (rest : List Token) → has_unused (spell_items is rest) ≡ has_unused rest
  used_items no_items rest = refl
  used_items (item i more) rest = used_item i (spell_items more rest) ∙ used_items more rest

  pub used_decl : (d : Decl) (rest : List Token) → has_unused (spell_decl d rest) ≡ has_unused rest
  used_decl (decl marks core ends) rest = used_marks marks (spell_core core (spell_suffixes ends rest)) ∙ used_core core (spell_suffixes ends rest) ∙ used_suffixes ends rest

  pub used_core : (core : Core) (rest : List Token) → has_unused (spell_core core rest) ≡ has_unused rest
  used_core Absent rest = refl
  used_core (Id k) rest = refl
  used_core (Group d) rest = used_decl d (token.Close ∷ rest)

  pub used_suffixes : (ends : Suffixes) (rest : List Token) → has_unused (spell_suffixes ends rest) ≡ has_unused rest
  used_suffixes no_suffixes rest = refl
  used_suffixes (suffix one more) rest = used_suffix one (spell_suffixes more rest) ∙ used_suffixes more rest

  pub used_suffix : (one : Suffix) (rest : List Token) → has_unused (spell_suffix one rest) ≡ has_unused rest
  used_suffix OpenArray rest = refl
  used_suffix (Array e) rest = used e (token.SquareClose ∷ rest)
  used_suffix (Function ps) rest = used_params ps (token.Close ∷ rest)

  pub used_params : (ps : Params) (rest : List Token) → has_unused (spell_params ps rest) ≡ has_unused rest
  used_params NoParams rest = refl
  used_params OnlyVoid rest = refl
  used_params (Some_params t more) rest = used_typed t (spell_more more rest) ∙ used_more more rest

  pub used_more : (ps : More) (rest : List Token) → has_unused (spell_more ps rest) ≡ has_unused rest
  used_more no_more rest = refl
  used_more (param t more) rest = used_typed t (spell_more more rest) ∙ used_more more rest
