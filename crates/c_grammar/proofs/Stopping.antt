-- What doesn't go on with a tree.
use Rattle.std.proofs.Common.{◌≡◌, ℕ, suc, ◌≤◌, Bool, true, false, List, [], ◌∷◌, Option, Some, None, refl, sym, subst, arith}
use Rattle.c_tree.specs.declared.operator.BinaryOperator.{BinaryOperator}
use Rattle.c_tree.specs.declared.operator.BinaryOperator.TheVariants as op
use Rattle.c_tree.specs.declared.operator.AssignOperator.{AssignOperator}
use Rattle.c_tree.specs.declared.operator.AssignOperator.TheVariants as set
use Rattle.c_grammar.specs.declared.token.Token.{Token}
use Rattle.c_grammar.specs.declared.token.Token.TheVariants as token
use Rattle.c_grammar.specs.Grammar.{Scope, Expr, Posts, no_posts, post, Post, Index, Call, CallNothing, Member, Arrow, Increment, Decrement, Joint, Infix, Choose, Assign, Comma, Links, no_links, link, Sort, OfInfix, OfAssign, sort_height, sort_of, begins_post, sign_of_set, spell_joint, spell_posts, spell_post, NoText, Quiet, NoJoint, More, no_more, param, height_of, sign_of, spell, spell_links, spell_more, FitsLinks, Stops, Ends, Decls, no_decls, another, Items, no_items, item, spell_decls, spell_items, spell_comma, NoBraces}
use Rattle.c_grammar.specs.Reading.{picked, link_at}
use Rattle.c_grammar.proofs.Beginnings.{no_test}

pub quiet_lower : (h k : ℕ) (o : Option Sort) → k ≤ h → Quiet h o → Quiet k o
quiet_lower h k None le q = tt
quiet_lower h k (Some o) le q = omega (arith, q)

pub joints_lower : (h k : ℕ) (rest : List Token) → k ≤ h → NoJoint h rest → NoJoint k rest
joints_lower h k [] le q = tt
joints_lower h k (t ∷ ts) le q = quiet_lower h k (sort_of t) le q

pub stops_lower : (h k : ℕ) (rest : List Token) → k ≤ h → Stops h rest → Stops k rest
stops_lower h k rest le s = (s.0, s.1, joints_lower h k rest le s.2)

pub none_picked : (h : ℕ) (left : Expr) (ts : List Token) (o : Option Sort) → Quiet (suc h) o → picked h left ts o ≡ None
unfolding picked
none_picked h left ts None q = refl
none_picked h left ts (Some o) q = rw (no_test (sort_height o) (suc h) (λ e. omega (arith, q, e))) refl

pub no_link : (h : ℕ) (left : Expr) (rest : List Token) → Stops (suc h) rest → link_at h left rest ≡ None
unfolding link_at
no_link h left [] s = refl
no_link h left (t ∷ ts) s = none_picked h left ts (sort_of t) s.2

pub sort_of_sign : (o : BinaryOperator) → sort_of (sign_of o) ≡ Some (OfInfix o)
sort_of_sign op.Times = refl
sort_of_sign op.Over = refl
sort_of_sign op.Remainder = refl
sort_of_sign op.Plus = refl
sort_of_sign op.Minus = refl
sort_of_sign op.ShiftLeft = refl
sort_of_sign op.ShiftRight = refl
sort_of_sign op.Less = refl
sort_of_sign op.Greater = refl
sort_of_sign op.LessEqual = refl
sort_of_sign op.GreaterEqual = refl
sort_of_sign op.Equal = refl
sort_of_sign op.NotEqual = refl
sort_of_sign op.BitAnd = refl
sort_of_sign op.BitXor = refl
sort_of_sign op.BitOr = refl
sort_of_sign op.And = refl
sort_of_sign op.Or = refl

pub sort_of_set : (o : AssignOperator) → sort_of (sign_of_set o) ≡ Some (OfAssign o)
sort_of_set set.Set = refl
sort_of_set set.Times = refl
sort_of_set set.Over = refl
sort_of_set set.Remainder = refl
sort_of_set set.Plus = refl
sort_of_set set.Minus = refl
sort_of_set set.ShiftLeft = refl
sort_of_set set.ShiftRight = refl
sort_of_set set.BitAnd = refl
sort_of_set set.BitXor = refl
sort_of_set set.BitOr = refl

pub quiet_sign : (o : BinaryOperator) (ts : List Token) → (begins_post (sign_of o ∷ ts) ≡ false) × NoText (sign_of o ∷ ts)
quiet_sign op.Times ts = (refl, tt)
quiet_sign op.Over ts = (refl, tt)
quiet_sign op.Remainder ts = (refl, tt)
quiet_sign op.Plus ts = (refl, tt)
quiet_sign op.Minus ts = (refl, tt)
quiet_sign op.ShiftLeft ts = (refl, tt)
quiet_sign op.ShiftRight ts = (refl, tt)
quiet_sign op.Less ts = (refl, tt)
quiet_sign op.Greater ts = (refl, tt)
quiet_sign op.LessEqual ts = (refl, tt)
quiet_sign op.GreaterEqual ts = (refl, tt)
quiet_sign op.Equal ts = (refl, tt)
quiet_sign op.NotEqual ts = (refl, tt)
quiet_sign op.BitAnd ts = (refl, tt)
quiet_sign op.BitXor ts = (refl, tt)
quiet_sign op.BitOr ts = (refl, tt)
quiet_sign op.And ts = (refl, tt)
quiet_sign op.Or ts = (refl, tt)

pub quiet_set : (o : AssignOperator) (ts : List Token) → (begins_post (sign_of_set o ∷ ts) ≡ false) × NoText (sign_of_set o ∷ ts)
quiet_set set.Set ts = (refl, tt)
quiet_set set.Times ts = (refl, tt)
quiet_set set.Over ts = (refl, tt)
quiet_set set.Remainder ts = (refl, tt)
quiet_set set.Plus ts = (refl, tt)
quiet_set set.Minus ts = (refl, tt)
quiet_set set.ShiftLeft ts = (refl, tt)
quiet_set set.ShiftRight ts = (refl, tt)
quiet_set set.BitAnd ts = (refl, tt)
quiet_set set.BitXor ts = (refl, tt)
quiet_set set.BitOr ts = (refl, tt)

pub stops_joint : (h : ℕ) (j : Joint) (rest : List Token) → height_of j ≡ suc h → Stops h (spell_joint j rest)
stops_joint h (Infix o) rest e = let q = quiet_sign o rest in (q.0, q.1, subst (Quiet h) (sym (sort_of_sign o)) (omega (arith, e)))
stops_joint h (Choose v) rest e = (refl, tt, omega (arith, e))
stops_joint h (Assign o) rest e = let q = quiet_set o rest in (q.0, q.1, subst (Quiet h) (sym (sort_of_set o)) (omega (arith, e)))
stops_joint h Comma rest e = (refl, tt, omega (arith, e))

pub stops_links : (n h : ℕ) (s : Scope) (left : Expr) (links : Links) (rest : List Token) → FitsLinks n h s left links → Stops (suc h) rest → Stops h (spell_links links rest)
stops_links n h s left no_links rest f stop = stops_lower (suc h) h rest (omega arith) stop
stops_links n h s left (link j e more) rest f stop = stops_joint h j (spell e (spell_links more rest)) f.0

pub post_begins : (one : Post) (rest : List Token) → begins_post (spell_post one rest) ≡ true
post_begins (Index e) rest = refl
post_begins (Call e) rest = refl
post_begins CallNothing rest = refl
post_begins (Member k) rest = refl
post_begins (Arrow k) rest = refl
post_begins Increment rest = refl
post_begins Decrement rest = refl

pub post_no_text : (one : Post) (rest : List Token) → NoText (spell_post one rest)
post_no_text (Index e) rest = tt
post_no_text (Call e) rest = tt
post_no_text CallNothing rest = tt
post_no_text (Member k) rest = tt
post_no_text (Arrow k) rest = tt
post_no_text Increment rest = tt
post_no_text Decrement rest = tt

pub posts_no_text : (posts : Posts) (rest : List Token) → NoText rest → NoText (spell_posts posts rest)
posts_no_text no_posts rest t = t
posts_no_text (post one more) rest t = post_no_text one (spell_posts more rest)

pub braces_more : (m : More) (rest : List Token) → NoBraces (spell_more m (token.Close ∷ rest))
braces_more no_more rest = tt
braces_more (param t more) rest = tt

pub ends_decls : (ds : Decls) (rest : List Token) → Ends (spell_decls ds (token.Semi ∷ rest))
ends_decls no_decls rest = tt
ends_decls (another d more) rest = tt

pub braces_decls : (ds : Decls) (rest : List Token) → NoBraces (spell_decls ds (token.Semi ∷ rest))
braces_decls no_decls rest = tt
braces_decls (another d more) rest = tt

-- what follows an enumerator
abbrev pub NoEquals : List Token → Type 0
NoEquals (token.Equals ∷ ts) = ⊥
NoEquals _ = Unit {0}

pub stops_items : (is : Items) (c : Bool) (rest : List Token) → Stops 11 (spell_items is (spell_comma c (token.BraceClose ∷ rest)))
stops_items no_items true rest = (refl, tt, omega arith)
stops_items no_items false rest = (refl, tt, tt)
stops_items (item i more) c rest = (refl, tt, omega arith)

pub equals_items : (is : Items) (c : Bool) (rest : List Token) → NoEquals (spell_items is (spell_comma c (token.BraceClose ∷ rest)))
equals_items no_items true rest = tt
equals_items no_items false rest = tt
equals_items (item i more) c rest = tt

pub ends_more : (m : More) (rest : List Token) → Ends (spell_more m (token.Close ∷ rest))
ends_more no_more rest = tt
ends_more (param t more) rest = tt
