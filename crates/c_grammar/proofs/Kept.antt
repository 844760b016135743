-- Names are declared behind the others, so a scope is ended by cutting it off.
use Rattle.std.proofs.Common.{◌≡◌, ℕ, Bool, [], ◌∷◌, ◌++◌, length, take, Option, Some, None, refl, sym, ap, ◌∙◌, append_assoc}
use Rattle.std.proofs.lemmas.List.{append-nil}
use Rattle.c_grammar.specs.Grammar.{Scope, bind, Expr, Name, Number, Byte, Texts, Paren, Postfix, Prefix, SizeOfExpr, SizeOf, Cast, Chain, Posts, no_posts, post, Post, Index, Call, CallNothing, Member, Arrow, Increment, Decrement, Joint, Infix, Choose, Assign, Comma, Links, no_links, link, Typed, typed, Specs, no_specs, spec, Spec, Keyword, TypeName, StructTag, Struct, EnumTag, Enum, Ranked, Members, no_members, member, Decls, no_decls, another, Item, Plain, Valued, Items, no_items, item, Decl, decl, Core, Absent, Id, Group, Suffixes, no_suffixes, suffix, Suffix, OpenArray, Array, Function, Params, NoParams, OnlyVoid, Some_params, More, no_more, param, after, after_links, after_joint, after_posts, after_post, after_typed, after_specs, after_spec, after_members, after_decls, after_item, after_items, after_decl, after_core, after_suffixes, after_suffix, after_param, after_more, inside, name_of, is_typedef}

abbrev pub Longer : Scope → Scope → Type 0
Longer s t = (more : Scope) × (t ≡ s ++ more)

pub same : (s : Scope) → Longer s s
same s = ([], sym (append-nil s))

pub then : (s t u : Scope) → Longer s t → Longer t u → Longer s u
then s t u (a, p) (b, q) = (a ++ b, q ∙ ap (λ x. x ++ b) p ∙ append_assoc s a b)

pub bound : (k : Option ℕ) (td : Bool) (s : Scope) → Longer s (bind k td s)
bound None td s = same s
bound (Some k) td s = (record { name = k; is_type = td } ∷ [], refl)

mutual
  pub longer : (e : Expr) (s : Scope) → Longer s (after e s)
  longer (Name k) s = same s
  longer (Number k t) s = same s
  longer (Byte k) s = same s
  longer (Texts k ks) s = same s
  longer (Paren e) s = longer e s
  longer (Postfix e posts) s = then s _ _ (longer e s) (longer_posts posts (after e s))
  longer (Prefix o e) s = longer e s
  longer (SizeOfExpr e) s = longer e s
  longer (SizeOf t) s = longer_typed t s
  longer (Cast t e) s = then s _ _ (longer_typed t s) (longer e (after_typed t s))
  longer (Chain h first links) s = then s _ _ (longer first s) (longer_links links (after first s))

  longer_links : (links : Links) (s : Scope) → Longer s (after_links links s)
  longer_links no_links s = same s
  longer_links (link j e more) s = then s _ _ (longer_joint j s) (then _ _ _ (longer e (after_joint j s)) (longer_links more (after e (after_joint j s))))

  longer_joint : (j : Joint) (s : Scope) → Longer s (after_joint j s)
  longer_joint (Infix o) s = same s
  longer_joint (Choose v) s = longer v s
  longer_joint (Assign o) s = same s
  longer_joint Comma s = same s

  longer_posts : (posts : Posts) (s : Scope) → Longer s (after_posts posts s)
  longer_posts no_posts s = same s
  longer_posts (post one more) s = then s _ _ (longer_post one s) (longer_posts more (after_post one s))

  longer_post : (one : Post) (s : Scope) → Longer s (after_post one s)
  longer_post (Index e) s = longer e s
  longer_post (Call e) s = longer e s
  longer_post CallNothing s = same s
  longer_post (Member k) s = same s
  longer_post (Arrow k) s = same s
  longer_post Increment s = same s
  longer_post Decrement s = same s

  pub longer_typed : (t : Typed) (s : Scope) → Longer s (after_typed t s)
  longer_typed (typed specs d) s = then s _ _ (longer_specs specs s) (longer_decl d (after_specs specs s))

  pub longer_specs : (specs : Specs) (s : Scope) → Longer s (after_specs specs s)
  longer_specs no_specs s = same s
  longer_specs (spec one more) s = then s _ _ (longer_spec one s) (longer_specs more (after_spec one s))

  longer_spec : (one : Spec) (s : Scope) → Longer s (after_spec one s)
  longer_spec (Keyword w) s = same s
  longer_spec (TypeName k) s = same s
  longer_spec (StructTag k) s = same s
  longer_spec (Struct tag ms) s = longer_members ms s
  longer_spec (EnumTag k) s = same s
  longer_spec (Enum tag i is c) s = then s _ _ (longer_item i s) (longer_items is (after_item i s))
  longer_spec (Ranked k t) s = same s

  longer_members : (ms : Members) (s : Scope) → Longer s (after_members ms s)
  longer_members no_members s = same s
  longer_members (member t ds more) s = then s _ _ (longer_typed t s) (then _ _ _ (longer_decls ds (after_typed t s)) (longer_members more (after_decls ds (after_typed t s))))

  longer_decls : (ds : Decls) (s : Scope) → Longer s (after_decls ds s)
  longer_decls no_decls s = same s
  longer_decls (another d more) s = then s _ _ (longer_decl d s) (longer_decls more (after_decl d s))

  longer_item : (i : Item) (s : Scope) → Longer s (after_item i s)
  longer_item (Plain k) s = bound (Some k) _ s
  longer_item (Valued k e) s = then s _ _ (longer e s) (bound (Some k) _ (after e s))

  longer_items : (is : Items) (s : Scope) → Longer s (after_items is s)
  longer_items no_items s = same s
  longer_items (item i more) s = then s _ _ (longer_item i s) (longer_items more (after_item i s))

  pub longer_decl : (d : Decl) (s : Scope) → Longer s (after_decl d s)
  longer_decl (decl marks core ends) s = then s _ _ (longer_core core s) (longer_suffixes ends (after_core core s))

  longer_core : (core : Core) (s : Scope) → Longer s (after_core core s)
  longer_core Absent s = same s
  longer_core (Id k) s = same s
  longer_core (Group d) s = longer_decl d s

  longer_suffixes : (ends : Suffixes) (s : Scope) → Longer s (after_suffixes ends s)
  longer_suffixes no_suffixes s = same s
  longer_suffixes (suffix one more) s = then s _ _ (longer_suffix one s) (longer_suffixes more (after_suffix one s))

  longer_suffix : (one : Suffix) (s : Scope) → Longer s (after_suffix one s)
  longer_suffix OpenArray s = same s
  longer_suffix (Array e) s = longer e s
  longer_suffix (Function ps) s = same s

pub longer_param : (t : Typed) (s : Scope) → Longer s (after_param t s)
longer_param (typed specs d) s = then s _ _ (longer_typed (typed specs d) s) (bound (name_of d) (is_typedef specs) _)

pub longer_more : (m : More) (s : Scope) → Longer s (after_more m s)
longer_more no_more s = same s
longer_more (param t more) s = then s _ _ (longer_param t s) (longer_more more (after_param t s))

take_front : (s more : Scope) → take (length s) (s ++ more) ≡ s
take_front [] more = refl
take_front (b ∷ s) more = ap (λ r. b ∷ r) (take_front s more)

pub cut : (s t : Scope) → Longer s t → take (length s) t ≡ s
cut s t (more, e) = ap (take (length s)) e ∙ take_front s more

pub kept : (ps : Params) (s : Scope) → take (length s) (inside ps s) ≡ s
kept NoParams s = cut s s (same s)
kept OnlyVoid s = cut s s (same s)
kept (Some_params t more) s = cut s _ (then s _ _ (longer_param t s) (longer_more more (after_param t s)))
