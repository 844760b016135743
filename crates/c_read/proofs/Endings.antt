-- What stands behind a tree is the end of the tokens.
use Rattle.std.proofs.Common.{◌≡◌, ℕ, ◌+◌, ◌-◌, Bool, true, false, List, [], ◌∷◌, ◌++◌, length, drop, Option, Some, None, refl, sym, ap, ◌∙◌, append_assoc, arith}
use Rattle.std.proofs.Math.Seq.{drop-append_seam}
use Rattle.std.proofs.lemmas.List.{length-append}
use Rattle.c_tree.specs.declared.operator.PointerMark.{PointerMark}
use Rattle.c_grammar.specs.declared.token.Token.{Token}
use Rattle.c_grammar.specs.declared.token.Token.TheVariants as token
use Rattle.c_grammar.specs.Grammar.{Expr, Name, Number, Byte, Texts, Paren, Postfix, Prefix, SizeOfExpr, SizeOf, Cast, Chain, Posts, no_posts, post, Post, Index, Call, CallNothing, Member, Arrow, Increment, Decrement, Joint, Infix, Choose, Assign, Comma, Links, no_links, link, Typed, typed, Specs, no_specs, spec, Spec, Keyword, TypeName, StructTag, Struct, EnumTag, Enum, Ranked, Members, no_members, member, Decls, no_decls, another, Item, Plain, Valued, Items, no_items, item, Decl, decl, Core, Absent, Id, Group, Suffixes, no_suffixes, suffix, Suffix, OpenArray, Array, Function, Params, NoParams, OnlyVoid, Some_params, More, no_more, param, spell, spell_links, spell_joint, spell_posts, spell_post, spell_texts, spell_marks, spell_tag, spell_comma, spell_typed, spell_specs, spell_spec, spell_members, spell_decls, spell_item, spell_items, spell_decl, spell_core, spell_suffixes, spell_suffix, spell_params, spell_more}
use Rattle.c_unit_grammar.specs.Statements as unit
use Rattle.c_unit_grammar.specs.Statements.{Initial, Value, Braced, Initials, no_initials, initial, spell_initial, spell_initials, Init, init, Declaration, Bare, Declares, spell_value, spell_init, spell_inits, spell_declaration, Start, ForDeclares, ForExpr, Stmt, Block, Empty, Do, OnlyIf, IfElse, Switch, Case, Default, While, DoWhile, For, Break, Continue, Return, nothing, declares, does, spell_optional, spell_start, spell_stmt, Ext, Outer, Defines, spell_ext, spell_exts}

-- the rest stands at the end of the tokens
pub record Behind (rest ts : List Token) : Type 0 where
  pub front : List Token
  pub is : ts ≡ front ++ rest

here : (rest : List Token) → Behind rest rest
here rest = record { front = []; is = refl }

one : {t : Token} {rest ts : List Token} → Behind rest ts → Behind rest (t ∷ ts)
one {t} b = record { front = t ∷ b.front; is = ap (λ (r : List Token). t ∷ r) b.is }

to : {rest mid ts : List Token} → Behind mid ts → Behind rest mid → Behind rest ts
to {rest} a b = record { front = a.front ++ b.front; is = a.is ∙ ap (λ (r : List Token). a.front ++ r) b.is ∙ sym (append_assoc a.front b.front rest) }

ends_marks : (ms : List PointerMark) (rest : List Token) → Behind rest (spell_marks ms rest)
ends_marks [] rest = here rest
ends_marks (m ∷ ms) rest = one (ends_marks ms rest)

ends_texts : (ks : List ℕ) (rest : List Token) → Behind rest (spell_texts ks rest)
ends_texts [] rest = here rest
ends_texts (k ∷ ks) rest = one (ends_texts ks rest)

ends_tag : (tag : Option ℕ) (rest : List Token) → Behind rest (spell_tag tag rest)
ends_tag None rest = here rest
ends_tag (Some k) rest = one (here rest)

ends_comma : (c : Bool) (rest : List Token) → Behind rest (spell_comma c rest)
ends_comma true rest = one (here rest)
ends_comma false rest = here rest

mutual
  ends : (e : Expr) (rest : List Token) → Behind rest (spell e rest)
  ends (Name k) rest = one (here rest)
  ends (Number k t) rest = one (here rest)
  ends (Byte k) rest = one (here rest)
  ends (Texts k ks) rest = one (ends_texts ks rest)
  ends (Paren e) rest = one (to (ends e (token.Close ∷ rest)) (one (here rest)))
  ends (Postfix e posts) rest = to (ends e (spell_posts posts rest)) (ends_posts posts rest)
  ends (Prefix o e) rest = one (ends e rest)
  ends (SizeOfExpr e) rest = one (ends e rest)
  ends (SizeOf t) rest = one (one (to (ends_typed t (token.Close ∷ rest)) (one (here rest))))
  ends (Cast t e) rest = one (to (ends_typed t (token.Close ∷ spell e rest)) (one (ends e rest)))
  ends (Chain h first links) rest = to (ends first (spell_links links rest)) (ends_links links rest)

  ends_links : (links : Links) (rest : List Token) → Behind rest (spell_links links rest)
  ends_links no_links rest = here rest
  ends_links (link j e more) rest = to (ends_joint j (spell e (spell_links more rest))) (to (ends e (spell_links more rest)) (ends_links more rest))

  ends_joint : (j : Joint) (rest : List Token) → Behind rest (spell_joint j rest)
  ends_joint (Infix o) rest = one (here rest)
  ends_joint (Choose v) rest = one (to (ends v (token.Colon ∷ rest)) (one (here rest)))
  ends_joint (Assign o) rest = one (here rest)
  ends_joint Comma rest = one (here rest)

  ends_posts : (posts : Posts) (rest : List Token) → Behind rest (spell_posts posts rest)
  ends_posts no_posts rest = here rest
  ends_posts (post p more) rest = to (ends_post p (spell_posts more rest)) (ends_posts more rest)

  ends_post : (p : Post) (rest : List Token) → Behind rest (spell_post p rest)
  ends_post (Index e) rest = one (to (ends e (token.SquareClose ∷ rest)) (one (here rest)))
  ends_post (Call e) rest = one (to (ends e (token.Close ∷ rest)) (one (here rest)))
  ends_post CallNothing rest = one (one (here rest))
  ends_post (Member k) rest = one (one (here rest))
  ends_post (Arrow k) rest = one (one (here rest))
  ends_post Increment rest = one (here rest)
  ends_post Decrement rest = one (here rest)

  ends_typed : (t : Typed) (rest : List Token) → Behind rest (spell_typed t rest)
  ends_typed (typed specs d) rest = to (ends_specs specs (spell_decl d rest)) (ends_decl d rest)

  ends_specs : (specs : Specs) (rest : List Token) → Behind rest (spell_specs specs rest)
  ends_specs no_specs rest = here rest
  ends_specs (spec p more) rest = to (ends_spec p (spell_specs more rest)) (ends_specs more rest)

  ends_spec : (p : Spec) (rest : List Token) → Behind rest (spell_spec p rest)
  ends_spec (Keyword w) rest = one (here rest)
  ends_spec (TypeName k) rest = one (here rest)
  ends_spec (StructTag k) rest = one (one (here rest))
  ends_spec (Struct tag ms) rest = one (to (ends_tag tag (token.BraceOpen ∷ spell_members ms (token.BraceClose ∷ rest))) (one (to (ends_members ms (token.BraceClose ∷ rest)) (one (here rest)))))
  ends_spec (EnumTag k) rest = one (one (here rest))
  ends_spec (Enum tag i is c) rest =
      let behind = spell_comma c (token.BraceClose ∷ rest) in
      let tail = spell_items is behind in
      one (to (ends_tag tag (token.BraceOpen ∷ spell_item i tail)) (one (to (ends_item i tail) (to (ends_items is behind) (to (ends_comma c (token.BraceClose ∷ rest)) (one (here rest)))))))
  ends_spec (Ranked k t) rest = one (one (one (one (here rest))))

  ends_members : (ms : Members) (rest : List Token) → Behind rest (spell_members ms rest)
  ends_members no_members rest = here rest
  ends_members (member t ds more) rest =
      let tail = token.Semi ∷ spell_members more rest in
      to (ends_typed t (spell_decls ds tail)) (to (ends_decls ds tail) (one (ends_members more rest)))

  ends_decls : (ds : Decls) (rest : List Token) → Behind rest (spell_decls ds rest)
  ends_decls no_decls rest = here rest
  ends_decls (another d more) rest = one (to (ends_decl d (spell_decls more rest)) (ends_decls more rest))

  ends_item : (i : Item) (rest : List Token) → Behind rest (spell_item i rest)
  ends_item (Plain k) rest = one (here rest)
  ends_item (Valued k e) rest = one (one (ends e rest))

  ends_items : (is : Items) (rest : List Token) → Behind rest (spell_items is rest)
  ends_items no_items rest = here rest
  ends_items (item i more) rest = one (to (ends_item i (spell_items more rest)) (ends_items more rest))

  ends_decl : (d : Decl) (rest : List Token) → Behind rest (spell_decl d rest)
  ends_decl (decl marks core ss) rest =
      let tail = spell_suffixes ss rest in
      to (ends_marks marks (spell_core core tail)) (to (ends_core core tail) (ends_suffixes ss rest))

  ends_core : (core : Core) (rest : List Token) → Behind rest (spell_core core rest)
  ends_core Absent rest = here rest
  ends_core (Id k) rest = one (here rest)
  ends_core (Group d) rest = one (to (ends_decl d (token.Close ∷ rest)) (one (here rest)))

  ends_suffixes : (ss : Suffixes) (rest : List Token) → Behind rest (spell_suffixes ss rest)
  ends_suffixes no_suffixes rest = here rest
  ends_suffixes (suffix p more) rest = to (ends_suffix p (spell_suffixes more rest)) (ends_suffixes more rest)

  ends_suffix : (p : Suffix) (rest : List Token) → Behind rest (spell_suffix p rest)
  ends_suffix OpenArray rest = one (one (here rest))
  ends_suffix (Array e) rest = one (to (ends e (token.SquareClose ∷ rest)) (one (here rest)))
  ends_suffix (Function ps) rest = one (to (ends_params ps (token.Close ∷ rest)) (one (here rest)))

  ends_params : (ps : Params) (rest : List Token) → Behind rest (spell_params ps rest)
  ends_params NoParams rest = here rest
  ends_params OnlyVoid rest = one (here rest)
  ends_params (Some_params t more) rest = to (ends_typed t (spell_more more rest)) (ends_more more rest)

  ends_more : (ps : More) (rest : List Token) → Behind rest (spell_more ps rest)
  ends_more no_more rest = here rest
  ends_more (param t more) rest = one (to (ends_typed t (spell_more more rest)) (ends_more more rest))

mutual
  ends_initial : (i : Initial) (rest : List Token) → Behind rest (spell_initial i rest)
  ends_initial (Value e) rest = ends e rest
  ends_initial (Braced i is c) rest =
      let behind = spell_comma c (token.BraceClose ∷ rest) in
      one (to (ends_initial i (spell_initials is behind)) (to (ends_initials is behind) (to (ends_comma c (token.BraceClose ∷ rest)) (one (here rest)))))

  ends_initials : (is : Initials) (rest : List Token) → Behind rest (spell_initials is rest)
  ends_initials no_initials rest = here rest
  ends_initials (initial i more) rest = one (to (ends_initial i (spell_initials more rest)) (ends_initials more rest))

ends_value : (v : Option Initial) (rest : List Token) → Behind rest (spell_value v rest)
ends_value None rest = here rest
ends_value (Some i) rest = one (ends_initial i rest)

ends_init : (i : Init) (rest : List Token) → Behind rest (spell_init i rest)
ends_init (init d v) rest = to (ends_decl d (spell_value v rest)) (ends_value v rest)

ends_inits : (is : List Init) (rest : List Token) → Behind rest (spell_inits is rest)
ends_inits [] rest = here rest
ends_inits (i ∷ is) rest = one (to (ends_init i (spell_inits is rest)) (ends_inits is rest))

ends_declaration : (d : Declaration) (rest : List Token) → Behind rest (spell_declaration d rest)
ends_declaration (Bare specs) rest = to (ends_specs specs (token.Semi ∷ rest)) (one (here rest))
ends_declaration (Declares specs i is) rest =
    let tail = spell_inits is (token.Semi ∷ rest) in
    to (ends_specs specs (spell_init i tail)) (to (ends_init i tail) (to (ends_inits is (token.Semi ∷ rest)) (one (here rest))))

ends_optional : (e : Option Expr) (rest : List Token) → Behind rest (spell_optional e rest)
ends_optional None rest = here rest
ends_optional (Some e) rest = ends e rest

ends_start : (i : Start) (rest : List Token) → Behind rest (spell_start i rest)
ends_start (ForDeclares d) rest = ends_declaration d rest
ends_start (ForExpr e) rest = to (ends_optional e (token.Semi ∷ rest)) (one (here rest))

mutual
  ends_stmt : (x : Stmt) (rest : List Token) → Behind rest (spell_stmt x rest)
  ends_stmt (Block items) rest = one (to (ends_block items (token.BraceClose ∷ rest)) (one (here rest)))
  ends_stmt Empty rest = one (here rest)
  ends_stmt (Do e) rest = to (ends e (token.Semi ∷ rest)) (one (here rest))
  ends_stmt (OnlyIf e a) rest = one (one (to (ends e (token.Close ∷ spell_stmt a rest)) (one (ends_stmt a rest))))
  ends_stmt (IfElse e a b) rest =
      let other = token.Else ∷ spell_stmt b rest in
      one (one (to (ends e (token.Close ∷ spell_stmt a other)) (one (to (ends_stmt a other) (one (ends_stmt b rest))))))
  ends_stmt (Switch e a) rest = one (one (to (ends e (token.Close ∷ spell_stmt a rest)) (one (ends_stmt a rest))))
  ends_stmt (Case e a) rest = one (to (ends e (token.Colon ∷ spell_stmt a rest)) (one (ends_stmt a rest)))
  ends_stmt (Default a) rest = one (one (ends_stmt a rest))
  ends_stmt (While e a) rest = one (one (to (ends e (token.Close ∷ spell_stmt a rest)) (one (ends_stmt a rest))))
  ends_stmt (DoWhile a e) rest =
      let tail = token.Close ∷ token.Semi ∷ rest in
      one (to (ends_stmt a (token.While ∷ token.Open ∷ spell e tail)) (one (one (to (ends e tail) (one (one (here rest)))))))
  ends_stmt (For i e f a) rest =
      let last = token.Close ∷ spell_stmt a rest in
      let mid = token.Semi ∷ spell_optional f last in
      one (one (to (ends_start i (spell_optional e mid)) (to (ends_optional e mid) (one (to (ends_optional f last) (one (ends_stmt a rest)))))))
  ends_stmt Break rest = one (one (here rest))
  ends_stmt Continue rest = one (one (here rest))
  ends_stmt (Return e) rest = one (to (ends_optional e (token.Semi ∷ rest)) (one (here rest)))

  ends_block : (items : unit.Items) (rest : List Token) → Behind rest (unit.spell_items items rest)
  ends_block nothing rest = here rest
  ends_block (declares d more) rest = to (ends_declaration d (unit.spell_items more rest)) (ends_block more rest)
  ends_block (does x more) rest = to (ends_stmt x (unit.spell_items more rest)) (ends_block more rest)

ends_ext : (x : Ext) (rest : List Token) → Behind rest (spell_ext x rest)
ends_ext (Outer d) rest = ends_declaration d rest
ends_ext (Defines specs d body) rest =
    let tail = token.BraceOpen ∷ unit.spell_items body (token.BraceClose ∷ rest) in
    to (ends_specs specs (spell_decl d tail)) (to (ends_decl d tail) (one (to (ends_block body (token.BraceClose ∷ rest)) (one (here rest)))))

ends_exts : (xs : List Ext) (rest : List Token) → Behind rest (spell_exts xs rest)
ends_exts [] rest = here rest
ends_exts (x ∷ xs) rest = to (ends_ext x (spell_exts xs rest)) (ends_exts xs rest)

-- what external declarations leave is what stands at its number
pub left_is : (xs : List Ext) (ts rest : List Token) → ts ≡ spell_exts xs rest → drop (length ts - length rest) ts ≡ rest
left_is xs ts rest e =
    let b = ends_exts xs rest in
    let whole : ts ≡ b.front ++ rest = e ∙ b.is in
    let many : length ts - length rest ≡ length b.front = omega (arith, ap length whole, length-append b.front rest) in
    ap (λ (k : ℕ). drop k ts) many ∙ ap (λ (us : List Token). drop (length b.front) us) whole ∙ drop-append_seam b.front rest
