-- What fits and is spelled so is read.
use Rattle.std.proofs.Common.{◌≡◌, ℕ, zero, suc, ◌≤◌, Bool, true, false, List, ◌∷◌, length, Ok, refl, ap, ◌∙◌, arith}
use Rattle.c_grammar.specs.declared.token.Allowed.{Allowed}
use Rattle.c_grammar.specs.declared.token.Allowed.TheVariants.{Named, Abstract, Either}
use Rattle.c_grammar.specs.declared.token.Token.{Token}
use Rattle.c_grammar.specs.declared.token.Token.TheVariants as token
use Rattle.c_grammar.specs.Grammar.{Ranked, Scope, Expr, Name, Number, Byte, Texts, Paren, Postfix, Prefix, SizeOfExpr, SizeOf, Cast, Chain, Posts, no_posts, post, Post, Index, Call, CallNothing, Member, Arrow, Increment, Decrement, Joint, Infix, Choose, Assign, Comma, Links, no_links, link, begins_post, is_primary, after_joint, after_post, spell_posts, spell_post, FitsJoint, FitsPosts, FitsPost, NoText, Typed, typed, Specs, no_specs, spec, Spec, Keyword, TypeName, Struct, Members, no_members, member, Decl, decl, Core, Absent, Id, Group, Suffixes, no_suffixes, suffix, OpenArray, Array, Function, Params, NoParams, OnlyVoid, Some_params, More, no_more, param, after, after_typed, after_specs, after_spec, after_core, after_param, is_base, is_based, or, spell, spell_links, spell_typed, spell_specs, spell_spec, spell_members, spell_decl, spell_core, spell_suffixes, spell_params, spell_more, Fits, FitsLinks, FitsTyped, FitsSpecifiers, FitsSpecs, FitsSpec, FitsMembers, FitsDecl, FitsCore, FitsSuffixes, FitsParams, FitsMore, Stops, Ends, StructTag, EnumTag, Enum, Decls, no_decls, another, Item, Plain, Valued, Items, no_items, item, after_decls, after_decl, after_item, spell_decls, spell_item, spell_items, spell_comma, FitsDecls, FitsItem, FitsItems, NoBraces}
use Rattle.c_grammar.specs.Reading.{primary_at, post_at, posts_at, joint_at, links_at, level_at, members_at, spec_at, specs_at, specifiers_at, begins_spec, core_at, more_at, params_at, suffixes_at, decl_at, typed_at, inner, decls_at, item_at, items_at}
use Rattle.c_grammar.proofs.Lengths.{count_links, count_posts, count_specs, count_members, count_decls, count_items, count_suffixes, count_more, grows_links, grows_posts, grows_specs, grows_members, grows_decls, grows_items, grows_suffixes, grows_more}
use Rattle.c_grammar.proofs.Beginnings.{no_square, some_arguments, primary_first, unary_first, begins, starts_typed, starts_specifiers, all_fit, no_close, no_brace, decl_no_spec, core_no_mark, marks_again, decl_no_braces, specs_no_braces, no_list, no_void}
use Rattle.c_grammar.proofs.Stopping.{stops_lower, no_link, stops_links, post_begins, posts_no_text, braces_more, ends_decls, braces_decls, NoEquals, stops_items, equals_items, ends_more}
use Rattle.c_grammar.proofs.Steps.{sort_of_joint, joint_rest, link_again, joint_infix, joint_assign, joint_comma, joint_choice, link_stop, link_step, chain_step, lift, low, chain_is, name_step, number_step, byte_step, texts_step, paren_step, posts_stop, posts_step, index_step, arguments_step, call_step, simple_post, member_post, postfix_step, posts_is, alone, prefix_step, prefix_first, size_of_step, size_first, size_step, cast_step, specs_stop, specs_step, word_step, type_step, struct_body_step, struct_step, struct_tag_step, enum_step, enum_tag_step, ranked_step, last_again, enum_body_step, plain_step, valued_step, items_stop, next_again, items_step, decls_stop, decls_step, members_stop, members_step, specifiers_step, typed_step, decl_step, id_step, group_step, absent_step, suffix_stop, array_step, function_step, open_step, bound_step, params_none, params_void, params_step, more_stop, more_step}

mutual
  unfolding inner

  pub level_again : (e : Expr) (n h : ℕ) (s : Scope) (rest : List Token) → Fits n h s e → Stops h rest → level_at (inner n) h s (spell e rest) ≡ Ok (e, rest)
  level_again (Name k) n h s rest f stop = low (inner n) h s (Name k) _ rest stop (alone (inner n) n h s (Name k) rest f refl stop (name_step (inner n) s k rest f))
  level_again (Number k t) n h s rest f stop = low (inner n) h s (Number k t) _ rest stop (alone (inner n) n h s (Number k t) rest f refl stop (number_step (inner n) s k t rest))
  level_again (Byte k) n h s rest f stop = low (inner n) h s (Byte k) _ rest stop (alone (inner n) n h s (Byte k) rest f refl stop (byte_step (inner n) s k rest))
  level_again (Texts k ks) n h s rest f stop = low (inner n) h s (Texts k ks) _ rest stop (alone (inner n) n h s (Texts k ks) rest f refl stop (texts_step (inner n) s k ks rest stop.1))
  level_again (Paren e) zero h s rest f stop = absurd f
  level_again (Paren e) (suc n) h s rest f stop =
      low (inner (suc n)) h s (Paren e) _ rest stop (alone (inner (suc n)) (suc n) h s (Paren e) rest f refl stop (paren_step (inner (suc n)) s _ rest e (level_again e n 13 s (token.Close ∷ rest) f (refl, tt, tt))))
  level_again (Postfix e posts) n h s rest f stop =
      let tail = spell_posts posts rest in
      low (inner n) h s (Postfix e posts) _ rest stop
      (primary_first (inner n) n 0 s e tail f.0 f.1
      ∙ postfix_step (inner n) s (spell e tail) tail rest e posts (primary_again e n 0 s tail f.0 f.1 (posts_no_text posts rest stop.1)) (posts_again posts n (length tail) (after e s) rest f.2 stop.0 (omega (arith, grows_posts posts rest)))
      ∙ ap (λ (e : Expr). Ok (e, rest)) (posts_is e posts f.3))
  level_again (Prefix o e) zero h s rest f stop = absurd f
  level_again (Prefix o e) (suc n) h s rest f stop =
      low (inner (suc n)) h s (Prefix o e) _ rest stop (prefix_first (inner (suc n)) o s (spell e rest) ∙ prefix_step (inner (suc n)) o s (spell e rest) rest e (level_again e n 0 s rest f.0 (stops_lower h 0 rest (omega arith) stop)) f.1)
  level_again (SizeOfExpr e) zero h s rest f stop = absurd f
  level_again (SizeOfExpr e) (suc n) h s rest f stop =
      low (inner (suc n)) h s (SizeOfExpr e) _ rest stop
      (size_first (inner (suc n)) s (spell e rest) ∙ unary_first (inner (suc n)) n 0 s e rest f.0 f.1 ∙ size_of_step (inner (suc n)) s (spell e rest) rest e (level_again e n 0 s rest f.0 (stops_lower h 0 rest (omega arith) stop)) f.1)
  level_again (SizeOf t) zero h s rest f stop = absurd f
  level_again (SizeOf t) (suc n) h s rest f stop = low (inner (suc n)) h s (SizeOf t) _ rest stop (size_step (inner (suc n)) s _ rest t (starts_typed n Abstract s t _ f) (typed_again t n Abstract s (token.Close ∷ rest) f tt tt))
  level_again (Cast t e) zero h s rest f stop = absurd f
  level_again (Cast t e) (suc n) h s rest f stop =
      low (inner (suc n)) h s (Cast t e) _ rest stop (cast_step (inner (suc n)) s _ (spell e rest) rest t e (starts_typed n Abstract s t _ f.0) (typed_again t n Abstract s (token.Close ∷ spell e rest) f.0 tt tt) (level_again e n 0 (after_typed t s) rest f.1 (stops_lower h 0 rest (omega arith) stop)))
  level_again (Chain k first links) n h s rest f stop =
      let stop' : Stops (suc k) rest = stops_lower h (suc k) rest (omega (arith, f.0)) stop in
      let tail = spell_links links rest in
      lift (inner n) (suc k) h s (Chain k first links) (spell first tail) rest
      (chain_step (inner n) k s (spell first tail) tail rest first links
      (level_again first n k s tail f.1 (stops_links n k (after first s) first links rest f.2 stop'))
      (links_again links n k (length tail) first (after first s) rest f.2 stop' (omega (arith, grows_links links rest)))
      ∙ ap (λ (e : Expr). Ok (e, rest)) (chain_is k first links f.3))
      (omega (arith, f.0)) stop

  pub primary_again : (e : Expr) (n h : ℕ) (s : Scope) (rest : List Token) → Fits n h s e → is_primary e ≡ true → NoText rest → primary_at (inner n) s (spell e rest) ≡ Ok (e, rest)
  primary_again (Name k) n h s rest f p t = name_step (inner n) s k rest f
  primary_again (Number k ct) n h s rest f p t = number_step (inner n) s k ct rest
  primary_again (Byte k) n h s rest f p t = byte_step (inner n) s k rest
  primary_again (Texts k ks) n h s rest f p t = texts_step (inner n) s k ks rest t
  primary_again (Paren e) zero h s rest f p t = absurd f
  primary_again (Paren e) (suc n) h s rest f p t = paren_step (inner (suc n)) s _ rest e (level_again e n 13 s (token.Close ∷ rest) f (refl, tt, tt))
  primary_again (Postfix e posts) n h s rest f p t = absurd cc
  primary_again (Prefix o e) n h s rest f p t = absurd cc
  primary_again (SizeOfExpr e) n h s rest f p t = absurd cc
  primary_again (SizeOf x) n h s rest f p t = absurd cc
  primary_again (Cast x e) n h s rest f p t = absurd cc
  primary_again (Chain k first links) n h s rest f p t = absurd cc

  pub posts_again : (posts : Posts) (n m : ℕ) (s : Scope) (rest : List Token) → FitsPosts n s posts → begins_post rest ≡ false → count_posts posts ≤ m → posts_at (inner n) m s (spell_posts posts rest) ≡ Ok (posts, rest)
  posts_again no_posts n m s rest f stop le = posts_stop (inner n) m s rest stop
  posts_again (post one more) n zero s rest f stop le = absurd (omega arith)
  posts_again (post one more) n (suc m) s rest f stop le =
      let tail = spell_posts more rest in
      posts_step (inner n) m s _ tail rest one more (post_begins one tail) (post_again one n s tail f.0) (posts_again more n m (after_post one s) rest f.1 stop (omega (arith, le)))

  pub post_again : (one : Post) (n : ℕ) (s : Scope) (rest : List Token) → FitsPost n s one → post_at (inner n) s (spell_post one rest) ≡ Ok (one, rest)
  post_again (Index e) zero s rest f = absurd f
  post_again (Index e) (suc n) s rest f = index_step (inner (suc n)) s _ rest e (level_again e n 13 s (token.SquareClose ∷ rest) f (refl, tt, tt))
  post_again (Call e) zero s rest f = absurd f
  post_again (Call e) (suc n) s rest f =
      call_step (inner (suc n)) s _ rest (Call e) (some_arguments (inner (suc n)) s e (token.Close ∷ rest) ∙ arguments_step (inner (suc n)) s _ rest e (level_again e n 13 s (token.Close ∷ rest) f (refl, tt, tt)))
  post_again CallNothing n s rest f = (simple_post (inner n) s rest).0
  post_again (Member k) n s rest f = (member_post (inner n) s k rest).0
  post_again (Arrow k) n s rest f = (member_post (inner n) s k rest).1
  post_again Increment n s rest f = (simple_post (inner n) s rest).1
  post_again Decrement n s rest f = (simple_post (inner n) s rest).2

  pub joint_again : (j : Joint) (n : ℕ) (s : Scope) (rest : List Token) → FitsJoint n s j → joint_at (inner n) (sort_of_joint j) s (joint_rest j rest) ≡ Ok (j, rest)
  joint_again (Infix o) n s rest f = joint_infix (inner n) o s rest
  joint_again (Choose v) zero s rest f = absurd f
  joint_again (Choose v) (suc n) s rest f = joint_choice (inner (suc n)) s v _ rest (level_again v n 13 s (token.Colon ∷ rest) f (refl, tt, tt))
  joint_again (Assign o) n s rest f = joint_assign (inner n) o s rest
  joint_again Comma n s rest f = joint_comma (inner n) s rest

  pub links_again : (links : Links) (n h m : ℕ) (left : Expr) (s : Scope) (rest : List Token) → FitsLinks n h s left links → Stops (suc h) rest → count_links links ≤ m → links_at (inner n) (level_at (inner n) h) h m left s (spell_links links rest) ≡ Ok (links, rest)
  links_again no_links n h m left s rest f stop le = link_stop (inner n) (level_at (inner n) h) h m left s rest (no_link h left rest stop)
  links_again (link j e more) n h zero left s rest f stop le = absurd (omega arith)
  links_again (link j e more) n h (suc m) left s rest f stop le =
      let tail = spell e (spell_links more rest) in
      link_step (inner n) (level_at (inner n) h) h m left s _ _ tail _ rest (sort_of_joint j) j e more (link_again h left j tail f.0 f.1) (joint_again j n s tail f.2)
      (level_again e n h (after_joint j s) (spell_links more rest) f.3 (stops_links n h (after e (after_joint j s)) e more rest f.4 stop))
      (links_again more n h m e (after e (after_joint j s)) rest f.4 stop (omega (arith, le)))

  pub typed_again : (t : Typed) (n : ℕ) (a : Allowed) (s : Scope) (rest : List Token) → FitsTyped n a s t → Ends rest → NoBraces rest → typed_at (inner n) a s (spell_typed t rest) ≡ Ok (t, rest)
  typed_again (typed specs d) n a s rest f e b =
      typed_step (inner n) a s _ (spell_decl d rest) rest specs d
      (starts_specifiers n s specs (spell_decl d rest) f.0)
      (specs_again specs n (length (spell_specs specs (spell_decl d rest))) false s (spell_decl d rest) (all_fit n s specs f.0) (decl_no_spec d rest n a (is_based false specs) (after_specs specs s) f.1 f.2 e) (decl_no_braces d rest b) (omega (arith, grows_specs specs (spell_decl d rest))))
      (decl_again d n a (after_specs specs s) rest f.1 e)

  pub specs_again : (specs : Specs) (n m : ℕ) (based : Bool) (s : Scope) (rest : List Token) → FitsSpecs n based s specs → begins_spec (is_based based specs) (after_specs specs s) rest ≡ false → NoBraces rest → count_specs specs ≤ m → specs_at (inner n) m based s (spell_specs specs rest) ≡ Ok (specs, rest)
  specs_again no_specs n m based s rest f none b le = specs_stop (inner n) m based s rest none
  specs_again (spec one more) n zero based s rest f none b le = absurd (omega arith)
  specs_again (spec one more) n (suc m) based s rest f none b le =
      specs_step (inner n) m based s _ (spell_specs more rest) rest one more (begins n based s one (spell_specs more rest) f.0) (spec_again one n based s (spell_specs more rest) f.0 (specs_no_braces more rest b)) (specs_again more n m (or based (is_base one)) (after_spec one s) rest f.1 none b (omega (arith, le)))

  pub spec_again : (one : Spec) (n : ℕ) (based : Bool) (s : Scope) (rest : List Token) → FitsSpec n based s one → NoBraces rest → spec_at (inner n) s (spell_spec one rest) ≡ Ok (one, rest)
  spec_again (Keyword w) n based s rest f b = word_step (inner n) s w rest
  spec_again (TypeName k) n based s rest f b = type_step (inner n) s k rest
  spec_again (StructTag k) n based s rest f b = struct_tag_step (inner n) k s rest b
  spec_again (Struct tag ms) n based s rest f b =
      let tail = spell_members ms (token.BraceClose ∷ rest) in
      struct_step (inner n) tag s tail ∙ struct_body_step (inner n) tag s tail rest ms (members_again ms n (length tail) s rest f (omega (arith, grows_members ms (token.BraceClose ∷ rest))))
  spec_again (EnumTag k) n based s rest f b = enum_tag_step (inner n) k s rest b
  spec_again (Enum tag i is c) n based s rest f b =
      let behind = spell_comma c (token.BraceClose ∷ rest) in
      let tail = spell_items is behind in
      enum_step (inner n) tag s (spell_item i tail)
      ∙ enum_body_step (inner n) tag s (spell_item i tail) tail behind rest i is c
      (item_again i n s tail f.0 (stops_items is c rest) (equals_items is c rest))
      (items_again is n (length tail) (after_item i s) c rest f.1 (omega (arith, grows_items is behind)))
      (last_again c rest)
  spec_again (Ranked k t) n based s rest f b = ranked_step (inner n) k t s rest f

  pub item_again : (i : Item) (n : ℕ) (s : Scope) (rest : List Token) → FitsItem n s i → Stops 11 rest → NoEquals rest → item_at (inner n) s (spell_item i rest) ≡ Ok (i, rest)
  item_again (Plain k) n s rest f stop q = plain_step (inner n) s k rest q
  item_again (Valued k e) zero s rest f stop q = absurd f
  item_again (Valued k e) (suc n) s rest f stop q = valued_step (inner (suc n)) s k _ rest e (level_again e n 11 s rest f stop)

  pub items_again : (is : Items) (n m : ℕ) (s : Scope) (c : Bool) (rest : List Token) → FitsItems n s is → count_items is ≤ m → items_at (inner n) m s (spell_items is (spell_comma c (token.BraceClose ∷ rest))) ≡ Ok (is, spell_comma c (token.BraceClose ∷ rest))
  items_again no_items n m s c rest f le = items_stop (inner n) m s c rest
  items_again (item i more) n zero s c rest f le = absurd (omega arith)
  items_again (item i more) n (suc m) s c rest f le =
      let behind = spell_comma c (token.BraceClose ∷ rest) in
      let tail = spell_items more behind in
      items_step (inner n) m s _ _ tail behind i more (next_again i tail) (item_again i n s tail f.0 (stops_items more c rest) (equals_items more c rest)) (items_again more n m (after_item i s) c rest f.1 (omega (arith, le)))

  pub decls_again : (ds : Decls) (n m : ℕ) (s : Scope) (rest : List Token) → FitsDecls n s ds → count_decls ds ≤ m → decls_at (inner n) m s (spell_decls ds (token.Semi ∷ rest)) ≡ Ok (ds, token.Semi ∷ rest)
  decls_again no_decls n m s rest f le = decls_stop (inner n) m s rest
  decls_again (another d more) zero m s rest f le = absurd f
  decls_again (another d more) (suc n) zero s rest f le = absurd (omega arith)
  decls_again (another d more) (suc n) (suc m) s rest f le =
      let tail = spell_decls more (token.Semi ∷ rest) in
      decls_step (inner (suc n)) m s _ tail (token.Semi ∷ rest) d more (decl_again d n Named s tail f.0 (ends_decls more rest)) (decls_again more (suc n) m (after_decl d s) rest f.1 (omega (arith, le)))

  pub members_again : (ms : Members) (n m : ℕ) (s : Scope) (rest : List Token) → FitsMembers n s ms → count_members ms ≤ m → members_at (inner n) m s (spell_members ms (token.BraceClose ∷ rest)) ≡ Ok (ms, token.BraceClose ∷ rest)
  members_again no_members n m s rest f le = members_stop (inner n) m s rest
  members_again (member t ds more) zero m s rest f le = absurd f
  members_again (member t ds more) (suc n) zero s rest f le = absurd (omega arith)
  members_again (member t ds more) (suc n) (suc m) s rest f le =
      let tail = spell_members more (token.BraceClose ∷ rest) in
      let t1 = spell_decls ds (token.Semi ∷ tail) in
      members_step (inner (suc n)) m s _ t1 tail (token.BraceClose ∷ rest) t ds more (no_brace s _ (starts_typed n Named s t t1 f.0)) (typed_again t n Named s t1 f.0 (ends_decls ds tail) (braces_decls ds tail))
      (decls_again ds (suc n) (length t1) (after_typed t s) tail f.1 (omega (arith, grows_decls ds (token.Semi ∷ tail))))
      (members_again more (suc n) m (after_decls ds (after_typed t s)) rest f.2 (omega (arith, le)))

  pub decl_again : (d : Decl) (n : ℕ) (a : Allowed) (s : Scope) (rest : List Token) → FitsDecl n a s d → Ends rest → decl_at (inner n) a s (spell_decl d rest) ≡ Ok (d, rest)
  decl_again (decl marks core ends) n a s rest f e =
      let tail = spell_suffixes ends rest in
      decl_step (inner n) a s _ (spell_core core tail) tail rest marks core ends
      (marks_again marks (spell_core core tail) f.0 (core_no_mark core ends rest e))
      (core_again core n a s ends rest f.1 f.2 e)
      (suffixes_again ends n (length tail) (after_core core s) rest f.2 e (omega (arith, grows_suffixes ends rest)))

  pub core_again : (core : Core) (n : ℕ) (a : Allowed) (s : Scope) (ends : Suffixes) (rest : List Token) → FitsCore n a s core → FitsSuffixes n (after_core core s) ends → Ends rest → core_at (inner n) a s (spell_core core (spell_suffixes ends rest)) ≡ Ok (core, spell_suffixes ends rest)
  core_again Absent n a s ends rest f g e = absent_step n (inner n) a s ends rest f g e
  core_again (Id k) n a s ends rest f g e = id_step (inner n) a s k (spell_suffixes ends rest) f
  core_again (Group d) zero a s ends rest f g e = absurd f
  core_again (Group d) (suc n) a s ends rest f g e =
      let tail = spell_suffixes ends rest in
      group_step (inner (suc n)) a s _ tail d (no_list n a s d tail f.0 f.1) (decl_again d n a s (token.Close ∷ tail) f.0 tt)

  pub suffixes_again : (ends : Suffixes) (n m : ℕ) (s : Scope) (rest : List Token) → FitsSuffixes n s ends → Ends rest → count_suffixes ends ≤ m → suffixes_at (inner n) m s (spell_suffixes ends rest) ≡ Ok (ends, rest)
  suffixes_again no_suffixes n m s rest f e le = suffix_stop (inner n) m s rest e
  suffixes_again (suffix one more) n zero s rest f e le = absurd (omega arith)
  suffixes_again (suffix OpenArray more) n (suc m) s rest f e le =
      array_step (inner n) m s _ (spell_suffixes more rest) rest OpenArray more (open_step (inner n) s (spell_suffixes more rest)) (suffixes_again more n m s rest f.1 e (omega (arith, le)))
  suffixes_again (suffix (Array x) more) zero (suc m) s rest f e le = absurd f.0
  suffixes_again (suffix (Array x) more) (suc n) (suc m) s rest f e le =
      let tail = spell_suffixes more rest in
      array_step (inner (suc n)) m s _ tail rest (Array x) more
      (no_square (inner (suc n)) s x (token.SquareClose ∷ tail) ∙ bound_step (inner (suc n)) s _ tail x (level_again x n 11 s (token.SquareClose ∷ tail) f.0 (refl, tt, tt)))
      (suffixes_again more (suc n) m (after x s) rest f.1 e (omega (arith, le)))
  suffixes_again (suffix (Function ps) more) n (suc m) s rest f e le =
      let tail = spell_suffixes more rest in
      function_step (inner n) m s _ tail rest ps more (params_again ps n s tail f.0) (suffixes_again more n m s rest f.1 e (omega (arith, le)))

  pub params_again : (ps : Params) (n : ℕ) (s : Scope) (rest : List Token) → FitsParams n s ps → params_at (inner n) s (spell_params ps (token.Close ∷ rest)) ≡ Ok (ps, rest)
  params_again NoParams n s rest f = params_none (inner n) s rest
  params_again OnlyVoid n s rest f = params_void (inner n) s rest
  params_again (Some_params t more) zero s rest f = absurd f
  params_again (Some_params t more) (suc n) s rest f =
      let tail = spell_more more (token.Close ∷ rest) in
      params_step (inner (suc n)) s _ tail rest t more (no_close s _ (starts_typed n Either s t tail f.0)) (no_void n Either s t more rest f.0 f.2)
      (typed_again t n Either s tail f.0 (ends_more more rest) (braces_more more rest))
      (more_again more (suc n) (length tail) (after_param t s) rest f.1 (omega (arith, grows_more more (token.Close ∷ rest))))

  pub more_again : (ps : More) (n m : ℕ) (s : Scope) (rest : List Token) → FitsMore n s ps → count_more ps ≤ m → more_at (inner n) m s (spell_more ps (token.Close ∷ rest)) ≡ Ok (ps, token.Close ∷ rest)
  more_again no_more n m s rest f le = more_stop (inner n) m s rest
  more_again (param t more) zero m s rest f le = absurd f
  more_again (param t more) (suc n) zero s rest f le = absurd (omega arith)
  more_again (param t more) (suc n) (suc m) s rest f le =
      let tail = spell_more more (token.Close ∷ rest) in
      more_step (inner (suc n)) m s _ tail (token.Close ∷ rest) t more (typed_again t n Either s tail f.0 (ends_more more rest) (braces_more more rest)) (more_again more (suc n) m (after_param t s) rest f.1 (omega (arith, le)))

pub specifiers_again : (specs : Specs) (n : ℕ) (s : Scope) (rest : List Token) → FitsSpecifiers n s specs → begins_spec (is_based false specs) (after_specs specs s) rest ≡ false → NoBraces rest → specifiers_at (inner n) s (spell_specs specs rest) ≡ Ok (specs, rest)
specifiers_again specs n s rest f none b = specifiers_step (inner n) s _ rest specs (starts_specifiers n s specs rest f) (specs_again specs n (length (spell_specs specs rest)) false s rest (all_fit n s specs f) none b (omega (arith, grows_specs specs rest)))
