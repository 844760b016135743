-- The rest of the tokens is no longer than the whole.
use Rattle.std.proofs.Common.{ℕ, ◌+◌, ◌≤◌, Bool, true, false, List, [], ◌∷◌, length, Option, Some, None, arith}
use Rattle.c_tree.specs.declared.operator.PointerMark.{PointerMark}
use Rattle.c_grammar.specs.declared.token.Token.{Token}
use Rattle.c_grammar.specs.declared.token.Token.TheVariants as token
use Rattle.c_grammar.specs.Grammar.{Ranked, Expr, Name, Number, Byte, Texts, Paren, Postfix, Prefix, SizeOfExpr, SizeOf, Cast, Chain, Posts, no_posts, post, Post, Index, Call, CallNothing, Member, Arrow, Increment, Decrement, Joint, Infix, Choose, Assign, Comma, Links, no_links, link, spell_joint, spell_posts, spell_post, spell_texts, Typed, typed, Specs, no_specs, spec, Spec, Keyword, TypeName, Struct, Members, no_members, member, Decl, decl, Core, Absent, Id, Group, Suffixes, no_suffixes, suffix, Suffix, OpenArray, Array, Function, Params, NoParams, OnlyVoid, Some_params, More, no_more, param, spell, spell_links, spell_typed, spell_specs, spell_spec, spell_members, spell_decl, spell_core, spell_suffixes, spell_suffix, spell_params, spell_more, spell_marks, StructTag, EnumTag, Enum, Decls, no_decls, another, Item, Plain, Valued, Items, no_items, item, spell_decls, spell_item, spell_items, spell_tag, spell_comma}

abbrev pub count_links : Links → ℕ
count_links no_links = 0
count_links (link j e more) = count_links more + 1

abbrev pub count_posts : Posts → ℕ
count_posts no_posts = 0
count_posts (post one more) = count_posts more + 1

abbrev pub count_specs : Specs → ℕ
count_specs no_specs = 0
count_specs (spec one more) = count_specs more + 1

abbrev pub count_members : Members → ℕ
count_members no_members = 0
count_members (member t ds more) = count_members more + 1

abbrev pub count_decls : Decls → ℕ
count_decls no_decls = 0
count_decls (another d more) = count_decls more + 1

abbrev pub count_items : Items → ℕ
count_items no_items = 0
count_items (item i more) = count_items more + 1

abbrev pub count_suffixes : Suffixes → ℕ
count_suffixes no_suffixes = 0
count_suffixes (suffix one more) = count_suffixes more + 1

abbrev pub count_more : More → ℕ
count_more no_more = 0
count_more (param t more) = count_more more + 1

pub grows_marks : (ms : List PointerMark) (rest : List Token) → length rest ≤ length (spell_marks ms rest)
grows_marks [] rest = omega arith
grows_marks (m ∷ ms) rest = omega (arith, grows_marks ms rest)

pub grows_texts : (ks : List ℕ) (rest : List Token) → length rest ≤ length (spell_texts ks rest)
grows_texts [] rest = omega arith
grows_texts (k ∷ ks) rest = omega (arith, grows_texts ks rest)

pub grows_tag : (tag : Option ℕ) (rest : List Token) → length rest ≤ length (spell_tag tag rest)
grows_tag None rest = omega arith
grows_tag (Some k) rest = omega arith

pub grows_comma : (c : Bool) (rest : List Token) → length rest ≤ length (spell_comma c rest)
grows_comma true rest = omega arith
grows_comma false rest = omega arith

mutual
  pub grows : (e : Expr) (rest : List Token) → length rest ≤ length (spell e rest)
  grows (Name k) rest = omega arith
  grows (Number k t) rest = omega arith
  grows (Byte k) rest = omega arith
  grows (Texts k ks) rest = omega (arith, grows_texts ks rest)
  grows (Paren e) rest = omega (arith, grows e (token.Close ∷ rest))
  grows (Postfix e posts) rest = omega (arith, grows e (spell_posts posts rest), grows_posts posts rest)
  grows (Prefix o e) rest = omega (arith, grows e rest)
  grows (SizeOfExpr e) rest = omega (arith, grows e rest)
  grows (SizeOf t) rest = omega (arith, grows_typed t (token.Close ∷ rest))
  grows (Cast t e) rest = omega (arith, grows_typed t (token.Close ∷ spell e rest), grows e rest)
  grows (Chain h first links) rest = omega (arith, grows first (spell_links links rest), grows_links links rest)

  pub grows_links : (links : Links) (rest : List Token) → count_links links + length rest ≤ length (spell_links links rest)
  grows_links no_links rest = omega arith
  grows_links (link j e more) rest = omega (arith, grows_joint j (spell e (spell_links more rest)), grows e (spell_links more rest), grows_links more rest)

  pub grows_joint : (j : Joint) (rest : List Token) → length rest + 1 ≤ length (spell_joint j rest)
  grows_joint (Infix o) rest = omega arith
  grows_joint (Choose v) rest = omega (arith, grows v (token.Colon ∷ rest))
  grows_joint (Assign o) rest = omega arith
  grows_joint Comma rest = omega arith

  pub grows_posts : (posts : Posts) (rest : List Token) → count_posts posts + length rest ≤ length (spell_posts posts rest)
  grows_posts no_posts rest = omega arith
  grows_posts (post one more) rest = omega (arith, grows_post one (spell_posts more rest), grows_posts more rest)

  pub grows_post : (one : Post) (rest : List Token) → length rest + 1 ≤ length (spell_post one rest)
  grows_post (Index e) rest = omega (arith, grows e (token.SquareClose ∷ rest))
  grows_post (Call e) rest = omega (arith, grows e (token.Close ∷ rest))
  grows_post CallNothing rest = omega arith
  grows_post (Member k) rest = omega arith
  grows_post (Arrow k) rest = omega arith
  grows_post Increment rest = omega arith
  grows_post Decrement rest = omega arith

  pub grows_typed : (t : Typed) (rest : List Token) → length rest ≤ length (spell_typed t rest)
  grows_typed (typed specs d) rest = omega (arith, grows_specs specs (spell_decl d rest), grows_decl d rest)

  pub grows_specs : (specs : Specs) (rest : List Token) → count_specs specs + length rest ≤ length (spell_specs specs rest)
  grows_specs no_specs rest = omega arith
  grows_specs (spec one more) rest = omega (arith, grows_spec one (spell_specs more rest), grows_specs more rest)

  pub grows_spec : (one : Spec) (rest : List Token) → length rest + 1 ≤ length (spell_spec one rest)
  grows_spec (Keyword w) rest = omega arith
  grows_spec (TypeName k) rest = omega arith
  grows_spec (StructTag k) rest = omega arith
  grows_spec (Struct tag members) rest = omega (arith, grows_tag tag (token.BraceOpen ∷ spell_members members (token.BraceClose ∷ rest)), grows_members members (token.BraceClose ∷ rest))
  grows_spec (EnumTag k) rest = omega arith
  grows_spec (Enum tag i is c) rest =
      omega (arith, grows_tag tag (token.BraceOpen ∷ spell_item i (spell_items is (spell_comma c (token.BraceClose ∷ rest)))), grows_item i (spell_items is (spell_comma c (token.BraceClose ∷ rest))), grows_items is (spell_comma c (token.BraceClose ∷ rest)), grows_comma c (token.BraceClose ∷ rest))
  grows_spec (Ranked k t) rest = omega arith

  pub grows_members : (members : Members) (rest : List Token) → count_members members + length rest ≤ length (spell_members members rest)
  grows_members no_members rest = omega arith
  grows_members (member t ds more) rest = omega (arith, grows_typed t (spell_decls ds (token.Semi ∷ spell_members more rest)), grows_decls ds (token.Semi ∷ spell_members more rest), grows_members more rest)

  pub grows_decls : (ds : Decls) (rest : List Token) → count_decls ds + length rest ≤ length (spell_decls ds rest)
  grows_decls no_decls rest = omega arith
  grows_decls (another d more) rest = omega (arith, grows_decl d (spell_decls more rest), grows_decls more rest)

  pub grows_item : (i : Item) (rest : List Token) → length rest ≤ length (spell_item i rest)
  grows_item (Plain k) rest = omega arith
  grows_item (Valued k e) rest = omega (arith, grows e rest)

  pub grows_items : (is : Items) (rest : List Token) → count_items is + length rest ≤ length (spell_items is rest)
  grows_items no_items rest = omega arith
  grows_items (item i more) rest = omega (arith, grows_item i (spell_items more rest), grows_items more rest)

  pub grows_decl : (d : Decl) (rest : List Token) → length rest ≤ length (spell_decl d rest)
  grows_decl (decl marks core ends) rest =
      omega (arith, grows_marks marks (spell_core core (spell_suffixes ends rest)), grows_core core (spell_suffixes ends rest), grows_suffixes ends rest)

  pub grows_core : (core : Core) (rest : List Token) → length rest ≤ length (spell_core core rest)
  grows_core Absent rest = omega arith
  grows_core (Id k) rest = omega arith
  grows_core (Group d) rest = omega (arith, grows_decl d (token.Close ∷ rest))

  pub grows_suffixes : (ends : Suffixes) (rest : List Token) → count_suffixes ends + length rest ≤ length (spell_suffixes ends rest)
  grows_suffixes no_suffixes rest = omega arith
  grows_suffixes (suffix one more) rest = omega (arith, grows_suffix one (spell_suffixes more rest), grows_suffixes more rest)

  pub grows_suffix : (one : Suffix) (rest : List Token) → length rest + 1 ≤ length (spell_suffix one rest)
  grows_suffix OpenArray rest = omega arith
  grows_suffix (Array e) rest = omega (arith, grows e (token.SquareClose ∷ rest))
  grows_suffix (Function ps) rest = omega (arith, grows_params ps (token.Close ∷ rest))

  pub grows_params : (ps : Params) (rest : List Token) → length rest ≤ length (spell_params ps rest)
  grows_params NoParams rest = omega arith
  grows_params OnlyVoid rest = omega arith
  grows_params (Some_params t more) rest = omega (arith, grows_typed t (spell_more more rest), grows_more more rest)

  pub grows_more : (ps : More) (rest : List Token) → count_more ps + length rest ≤ length (spell_more ps rest)
  grows_more no_more rest = omega arith
  grows_more (param t more) rest = omega (arith, grows_typed t (spell_more more rest), grows_more more rest)
