-- An action statement that fits is read from its tokens.
use Rattle.std.proofs.Common.{◌≡◌, ℕ, zero, suc, ◌+◌, ◌≤◌, Bool, true, false, List, [], ◌∷◌, length, Option, Some, None, refl, sym, ap, ◌∙◌, arith}
use Rattle.std.specs.Prelude.{codes}
use Rattle.f_lex.specs.declared.token.Mark.TheVariants as mark
use Rattle.f_lex.specs.declared.token.Token.{Token}
use Rattle.f_lex.specs.declared.token.Token.TheVariants as token
use Rattle.f_grammar.specs.Grammar.{Expr, Ref, Refer, NoGroup, group, Args, Maybe, Absent, Present, put, spell, spell_refer, spell_group, spell_maybe, FitsRefer, FitsArgs, FitsMaybe, Within}
use Rattle.f_grammar.specs.Reading.{◌>>=◌, open_at, closed_at, comma_at, star_at, name_at, word_at, refer_at, expr_at}
use Rattle.f_grammar.specs.Grammar.{Stops, IsApart}
use Rattle.f_grammar.specs.Actions as act
use Rattle.f_grammar.specs.Actions.{Act, Refs, no_refs, ref, Exprs, no_exprs, expr, Status, NoStatus, status, spell_refs, spell_exprs, spell_status, spell_objects, spell_act, FitsRefs, FitsExprs, FitsStatus, FitsAct}
use Rattle.f_grammar.specs.ActionReading.{ends_at, assign_at, arrow_at, set_behind, target_at, set_by, value_at, refs_at, exprs_at, status_at, call_at, code_at, error_at, objects_at, nullify_at, print_at, targets_at, read_unit_at, read_at, by_word, keyword_at, act_at}
use Rattle.f_grammar.specs.Reading.{IfSome}
use Rattle.f_grammar.proofs.Sound.{AsRefer, refer_sound, expr_sound}
use Rattle.f_grammar.proofs.Begins.{grows_refer, grows, Starts, starts_within, no_key, no_word}
use Rattle.f_grammar.proofs.Steps.{word_again}
use Rattle.f_grammar.proofs.Again.{expr_again, refer_again, args_again}
use Rattle.f_grammar.proofs.Outside.{sets_at, sets_expr, sets_refer, sets_group, sets_maybe}

-- ---- what is no assignment isn't read as one

none_set : (r : Refer) (rest : List Token) → sets_at 0 rest ≡ false → set_behind (r, rest) ≡ None
unfolding set_behind assign_at arrow_at sets_at
none_set r (token.Mark mark.Assign ∷ ts) e = absurd (cc e)
none_set r (token.Mark mark.Arrow ∷ ts) e = absurd (cc e)
none_set r [] e = refl
none_set r (_ ∷ ts) e = refl

pub no_target : (n : ℕ) (ts : List Token) → sets_at 0 ts ≡ false → target_at n ts ≡ None
unfolding target_at
no_target n ts e = pick (refer_at (expr_at n) ts) (refer_sound (expr_at n) n (expr_sound n) ts)
  where
    pick : (o : Option (Refer × List Token)) → IfSome o (AsRefer n ts) → (o >>= set_behind) ≡ None
    pick None p = refl
    pick (Some x) p = none_set x.0 x.1 (sym (ap (sets_at 0) p.0 ∙ sets_refer x.0 n 0 x.1 p.1) ∙ e)

pub sets_within : (e : Expr) (n d : ℕ) (rest : List Token) → Within n e → sets_at d (spell e rest) ≡ sets_at d rest
sets_within e zero d rest w = absurd w
sets_within e (suc n) d rest w = sets_expr e n 9 d rest w (omega arith)

pub sets_refs : (rs : Refs) (n d : ℕ) (rest : List Token) → FitsRefs n rs → sets_at d (spell_refs rs rest) ≡ sets_at d rest
unfolding sets_at
sets_refs no_refs n d rest f = refl
sets_refs (ref r rs) n d rest f = sets_refer r n d (spell_refs rs rest) f.0 ∙ sets_refs rs n d rest f.1

pub sets_exprs : (es : Exprs) (n d : ℕ) (rest : List Token) → FitsExprs n es → sets_at d (spell_exprs es rest) ≡ sets_at d rest
unfolding sets_at
sets_exprs no_exprs n d rest f = refl
sets_exprs (expr e es) n d rest f = sets_within e n d (spell_exprs es rest) f.0 ∙ sets_exprs es n d rest f.1

pub sets_status : (word : List ℕ) (s : Status) (n d : ℕ) (rest : List Token) → FitsStatus n s → sets_at (suc d) (spell_status word s rest) ≡ sets_at (suc d) rest
unfolding sets_at
sets_status word NoStatus n d rest f = refl
sets_status word (status r) n d rest f = sets_refer r n (suc d) rest f

pub sets_objects : (r : Refer) (rs : Refs) (s : Status) (n : ℕ) → FitsRefer n r → FitsRefs n rs → FitsStatus n s → sets_at 0 (spell_objects r rs s) ≡ false
unfolding sets_at
sets_objects r rs s n f g h = sets_refer r n 1 _ f ∙ sets_refs rs n 1 _ g ∙ sets_status (codes "stat") s n 0 (put mark.Close []) h

-- ---- lists

abbrev count_refs : Refs → ℕ
count_refs no_refs = 0
count_refs (ref r rs) = count_refs rs + 1

abbrev count_exprs : Exprs → ℕ
count_exprs no_exprs = 0
count_exprs (expr e es) = count_exprs es + 1

grows_refs : (rs : Refs) (rest : List Token) → count_refs rs + length rest ≤ length (spell_refs rs rest)
grows_refs no_refs rest = omega arith
grows_refs (ref r rs) rest = omega (arith, grows_refer r (spell_refs rs rest), grows_refs rs rest)

grows_exprs : (es : Exprs) (rest : List Token) → count_exprs es + length rest ≤ length (spell_exprs es rest)
grows_exprs no_exprs rest = omega arith
grows_exprs (expr e es) rest = omega (arith, grows e (spell_exprs es rest), grows_exprs es rest)

-- behind references stands what goes on with none
record EndsRefs (n : ℕ) (word : List ℕ) (rest : List Token) : Type 0 where
  pub stops : Stops 0 rest
  pub apart : IsApart rest
  pub ends : (m : ℕ) → refs_at n word m rest ≡ Some (no_refs, rest)

refs_stop : (rs : Refs) (rest : List Token) → Stops 0 rest → Stops 0 (spell_refs rs rest)
refs_stop no_refs rest s = s
refs_stop (ref r rs) rest s = omega arith

refs_apart : (rs : Refs) (rest : List Token) → IsApart rest → IsApart (spell_refs rs rest)
refs_apart no_refs rest a = a
refs_apart (ref r rs) rest a = tt

no_word_refer : (n : ℕ) (word : List ℕ) (r : Refer) (rest : List Token) → FitsRefer n r → IsApart rest → word_at word (spell_refer r rest) ≡ None
no_word_refer n word r rest f a = no_word word (spell_refer r rest) (no_key n 9 (Ref r) rest f (omega arith) a)

refs_step : (n : ℕ) (word : List ℕ) (m : ℕ) (ts r rest : List Token) (x : Refer) (rs : Refs) → word_at word ts ≡ None → refer_at (expr_at n) ts ≡ Some (x, r) → refs_at n word m r ≡ Some (rs, rest) → refs_at n word (suc m) (put mark.Comma ts) ≡ Some (ref x rs, rest)
unfolding refs_at comma_at
refs_step n word m ts r rest x rs e1 e2 e3 = rw (e1, e2, e3) refl

refs_again : (rs : Refs) (n : ℕ) (word : List ℕ) (m : ℕ) (rest : List Token) → FitsRefs n rs → EndsRefs n word rest → count_refs rs ≤ m → refs_at n word m (spell_refs rs rest) ≡ Some (rs, rest)
refs_again no_refs n word m rest f s c = s.ends m
refs_again (ref r rs) n word zero rest f s c = absurd (omega (arith, c))
refs_again (ref r rs) n word (suc m) rest f s c =
    let tail = spell_refs rs rest in
    refs_step n word m (spell_refer r tail) tail rest r rs (no_word_refer n word r tail f.0 (refs_apart rs rest s.apart)) (refer_again r n tail f.0 (refs_stop rs rest s.stops)) (refs_again rs n word m rest f.1 s (omega (arith, c)))

-- what is the first of some references, and the others
refs_all : (r : Refer) (rs : Refs) (n : ℕ) (word : List ℕ) (rest : List Token) → FitsRefs n rs → EndsRefs n word rest → refs_at n word (length (spell_refs rs rest)) (spell_refs rs rest) ≡ Some (rs, rest)
refs_all r rs n word rest f s = refs_again rs n word (length (spell_refs rs rest)) rest f s (omega (arith, grows_refs rs rest))

close_ends : (n : ℕ) (word : List ℕ) (rest : List Token) → EndsRefs n word (put mark.Close rest)
unfolding refs_at comma_at
close_ends n word rest = record { stops = omega arith; apart = tt; ends = ends }
  where
    ends : (m : ℕ) → refs_at n word m (put mark.Close rest) ≡ Some (no_refs, put mark.Close rest)
    ends zero = refl
    ends (suc m) = refl

nothing_ends : (n : ℕ) (word : List ℕ) → EndsRefs n word []
unfolding refs_at comma_at
nothing_ends n word = record { stops = tt; apart = tt; ends = ends }
  where
    ends : (m : ℕ) → refs_at n word m [] ≡ Some (no_refs, [])
    ends zero = refl
    ends (suc m) = refl

status_ends : (n : ℕ) (word : List ℕ) (s : Status) (rest : List Token) → EndsRefs n word (spell_status word s (put mark.Close rest))
unfolding refs_at comma_at
status_ends n word NoStatus rest = close_ends n word rest
status_ends n word (status r) rest = record { stops = omega arith; apart = tt; ends = ends }
  where
    ends : (m : ℕ) → refs_at n word m (spell_status word (status r) (put mark.Close rest)) ≡ Some (no_refs, spell_status word (status r) (put mark.Close rest))
    ends zero = refl
    ends (suc m) = rw (word_again word (spell_refer r (put mark.Close rest))) refl

status_again : (n : ℕ) (word : List ℕ) (s : Status) (rest : List Token) → FitsStatus n s → status_at n word (spell_status word s (put mark.Close rest)) ≡ Some (s, put mark.Close rest)
unfolding status_at comma_at
status_again n word NoStatus rest f = refl
status_again n word (status r) rest f = rw (word_again word (spell_refer r (put mark.Close rest)), refer_again r n (put mark.Close rest) f (omega arith)) refl

exprs_step : (n m : ℕ) (ts r rest : List Token) (x : Expr) (es : Exprs) → expr_at n ts ≡ Some (x, r) → exprs_at n m r ≡ Some (es, rest) → exprs_at n (suc m) (put mark.Comma ts) ≡ Some (expr x es, rest)
unfolding exprs_at comma_at
exprs_step n m ts r rest x es e1 e2 = rw (e1, e2) refl

exprs_stop : (es : Exprs) → Stops 9 (spell_exprs es [])
exprs_stop no_exprs = tt
exprs_stop (expr e es) = omega arith

exprs_none : (n m : ℕ) → exprs_at n m [] ≡ Some (no_exprs, [])
unfolding exprs_at comma_at
exprs_none n zero = refl
exprs_none n (suc m) = refl

exprs_again : (es : Exprs) (n m : ℕ) → FitsExprs n es → count_exprs es ≤ m → exprs_at n m (spell_exprs es []) ≡ Some (es, [])
exprs_again no_exprs n m f c = exprs_none n m
exprs_again (expr e es) n zero f c = absurd (omega (arith, c))
exprs_again (expr e es) n (suc m) f c = exprs_step n m (spell e (spell_exprs es [])) (spell_exprs es []) [] e es (expr_again n e (spell_exprs es []) f.0 (exprs_stop es)) (exprs_again es n m f.1 (omega (arith, c)))

-- ---- statements

keyword_step : (n : ℕ) (w : List ℕ) (ts : List Token) (a : Act) → sets_at 0 ts ≡ false → by_word n w ts ≡ Some a → act_at n (token.Name w ∷ ts) ≡ Some a
unfolding act_at keyword_at name_at sets_at
keyword_step n w ts a e1 e2 = rw (no_target n (token.Name w ∷ ts) e1) e2

assign_step : (n : ℕ) (ts r : List Token) (target : Refer) (b : Bool) (value : Expr) → target_at n ts ≡ Some (target, b, r) → expr_at n r ≡ Some (value, []) → act_at n ts ≡ Some (set_by b target value)
unfolding act_at value_at ends_at
assign_step n ts r target b value e1 e2 = rw (e1, e2) refl

pub target_assign : (n : ℕ) (r : Refer) (rest : List Token) → FitsRefer n r → target_at n (spell_refer r (put mark.Assign rest)) ≡ Some (r, false, rest)
unfolding target_at set_behind assign_at
target_assign n r rest f = rw (refer_again r n (put mark.Assign rest) f (omega arith)) refl

pub target_arrow : (n : ℕ) (r : Refer) (rest : List Token) → FitsRefer n r → target_at n (spell_refer r (put mark.Arrow rest)) ≡ Some (r, true, rest)
unfolding target_at set_behind assign_at arrow_at
target_arrow n r rest f = rw (refer_again r n (put mark.Arrow rest) f (omega arith)) refl

call_group : (n : ℕ) (name : List ℕ) (args : Args) → FitsArgs n true args → call_at n (token.Name name ∷ spell_group (group args) []) ≡ Some (act.Call name (group args))
unfolding call_at name_at open_at ends_at
call_group n name args f = rw (args_again args n true [] f) refl

call_plain : (n : ℕ) (name : List ℕ) → call_at n (token.Name name ∷ []) ≡ Some (act.Call name NoGroup)
unfolding call_at name_at open_at ends_at
call_plain n name = refl

code_step : (n : ℕ) (make : Maybe → Act) (ts : List Token) (e : Expr) → Starts ts → expr_at n ts ≡ Some (e, []) → code_at n make ts ≡ Some (make (Present e))
unfolding code_at ends_at
code_step n make [] e s r = absurd s
code_step n make (t ∷ ts) e s r = rw r refl

code_again : (n : ℕ) (make : Maybe → Act) (m : Maybe) → FitsMaybe n m → code_at n make (spell_maybe m []) ≡ Some (make m)
unfolding code_at
code_again n make Absent f = refl
code_again zero make (Present e) f = absurd f
code_again (suc n) make (Present e) f = code_step (suc n) make (spell e []) e (starts_within (suc n) e [] f) (expr_again (suc n) e [] f tt)

error_step : (n : ℕ) (ts : List Token) → error_at n (token.Name (codes "stop") ∷ ts) ≡ code_at n act.ErrorStop ts
unfolding error_at name_at
error_step n ts = refl

objects_step : (n : ℕ) (make : Refer → Refs → Status → Act) (ts a b : List Token) (r : Refer) (rs : Refs) (s : Status) → refer_at (expr_at n) ts ≡ Some (r, a) → refs_at n (codes "stat") (length a) a ≡ Some (rs, b) → status_at n (codes "stat") b ≡ Some (s, put mark.Close []) → objects_at n make (put mark.Open ts) ≡ Some (make r rs s)
unfolding objects_at open_at closed_at ends_at
objects_step n make ts a b r rs s e1 e2 e3 = rw (e1, e2, e3) refl

objects_again : (n : ℕ) (make : Refer → Refs → Status → Act) (r : Refer) (rs : Refs) (s : Status) → FitsRefer n r → FitsRefs n rs → FitsStatus n s → objects_at n make (spell_objects r rs s) ≡ Some (make r rs s)
objects_again n make r rs s f g h =
    let tail = spell_status (codes "stat") s (put mark.Close []) in
    let ends = status_ends n (codes "stat") s [] in
    objects_step n make _ _ tail r rs s (refer_again r n (spell_refs rs tail) f (refs_stop rs tail ends.stops)) (refs_all r rs n (codes "stat") tail g ends) (status_again n (codes "stat") s [] h)

nullify_step : (n : ℕ) (ts a : List Token) (r : Refer) (rs : Refs) → refer_at (expr_at n) ts ≡ Some (r, a) → refs_at n (codes "stat") (length a) a ≡ Some (rs, put mark.Close []) → nullify_at n (put mark.Open ts) ≡ Some (act.Nullify r rs)
unfolding nullify_at open_at closed_at ends_at
nullify_step n ts a r rs e1 e2 = rw (e1, e2) refl

nullify_again : (n : ℕ) (r : Refer) (rs : Refs) → FitsRefer n r → FitsRefs n rs → nullify_at n (spell_objects r rs NoStatus) ≡ Some (act.Nullify r rs)
nullify_again n r rs f g =
    let tail = put mark.Close [] in
    let ends = close_ends n (codes "stat") [] in
    nullify_step n _ _ r rs (refer_again r n (spell_refs rs tail) f (refs_stop rs tail ends.stops)) (refs_all r rs n (codes "stat") tail g ends)

print_step : (n : ℕ) (ts : List Token) (es : Exprs) → exprs_at n (length ts) ts ≡ Some (es, []) → print_at n (put mark.Star ts) ≡ Some (act.Print es)
unfolding print_at star_at ends_at
print_step n ts es e = rw e refl

targets_step : (n : ℕ) (make : Refer → Refs → Act) (ts a : List Token) (r : Refer) (rs : Refs) → refer_at (expr_at n) ts ≡ Some (r, a) → refs_at n (codes "stat") (length a) a ≡ Some (rs, []) → targets_at n make ts ≡ Some (make r rs)
unfolding targets_at ends_at
targets_step n make ts a r rs e1 e2 = rw (e1, e2) refl

targets_again : (n : ℕ) (make : Refer → Refs → Act) (r : Refer) (rs : Refs) → FitsRefer n r → FitsRefs n rs → targets_at n make (spell_refer r (spell_refs rs [])) ≡ Some (make r rs)
targets_again n make r rs f g = targets_step n make _ _ r rs (refer_again r n (spell_refs rs []) f (refs_stop rs [] tt)) (refs_all r rs n (codes "stat") [] g (nothing_ends n (codes "stat")))

read_step : (n : ℕ) (ts : List Token) → read_at n (put mark.Star (put mark.Comma ts)) ≡ targets_at n act.Read ts
unfolding read_at open_at star_at comma_at
read_step n ts = refl

unit_step : (n : ℕ) (s : Status) (ts r : List Token) → status_at n (codes "iostat") ts ≡ Some (s, put mark.Close r) → read_at n (put mark.Open (put mark.Star (put mark.Comma (put mark.Star ts)))) ≡ targets_at n (act.ReadUnit s) r
unfolding read_at open_at star_at comma_at read_unit_at closed_at
unit_step n s ts r e = rw e refl

ends_none : (a : Act) → ends_at a [] ≡ Some a
unfolding ends_at
ends_none a = refl

pub act_again : (n : ℕ) (a : Act) → FitsAct n a → act_at n (spell_act a) ≡ Some a
unfolding by_word sets_at
act_again n (act.Assign target value) f = assign_step n _ _ target false value (target_assign n target (spell value []) f.0) (expr_again n value [] f.1 tt)
act_again n (act.Associate target value) f = assign_step n _ _ target true value (target_arrow n target (spell value []) f.0) (expr_again n value [] f.1 tt)
act_again n (act.Call name NoGroup) f = keyword_step n (codes "call") _ (act.Call name NoGroup) refl (call_plain n name)
act_again n (act.Call name (group args)) f = keyword_step n (codes "call") _ (act.Call name (group args)) (sets_group (group args) n 0 [] f) (call_group n name args f)
act_again n act.Exit f = keyword_step n (codes "exit") [] act.Exit refl (ends_none act.Exit)
act_again n act.Cycle f = keyword_step n (codes "cycle") [] act.Cycle refl (ends_none act.Cycle)
act_again n act.Return f = keyword_step n (codes "return") [] act.Return refl (ends_none act.Return)
act_again n (act.Stop code) f = keyword_step n (codes "stop") (spell_maybe code []) (act.Stop code) (sets_maybe code n 0 [] f) (code_again n act.Stop code f)
act_again n (act.ErrorStop code) f = keyword_step n (codes "error") (token.Name (codes "stop") ∷ spell_maybe code []) (act.ErrorStop code) (sets_maybe code n 0 [] f) (error_step n (spell_maybe code []) ∙ code_again n act.ErrorStop code f)
act_again n (act.Allocate r rs s) f = keyword_step n (codes "allocate") (spell_objects r rs s) (act.Allocate r rs s) (sets_objects r rs s n f.0 f.1 f.2) (objects_again n act.Allocate r rs s f.0 f.1 f.2)
act_again n (act.Deallocate r rs s) f = keyword_step n (codes "deallocate") (spell_objects r rs s) (act.Deallocate r rs s) (sets_objects r rs s n f.0 f.1 f.2) (objects_again n act.Deallocate r rs s f.0 f.1 f.2)
act_again n (act.Nullify r rs) f = keyword_step n (codes "nullify") (spell_objects r rs NoStatus) (act.Nullify r rs) (sets_objects r rs NoStatus n f.0 f.1 tt) (nullify_again n r rs f.0 f.1)
act_again n (act.Print es) f = keyword_step n (codes "print") (put mark.Star (spell_exprs es [])) (act.Print es) (sets_exprs es n 0 [] f)
    (print_step n (spell_exprs es []) es (exprs_again es n (length (spell_exprs es [])) f (omega (arith, grows_exprs es []))))
act_again n (act.Read r rs) f = keyword_step n (codes "read") (put mark.Star (put mark.Comma (spell_refer r (spell_refs rs [])))) (act.Read r rs) (sets_refer r n 0 (spell_refs rs []) f.0 ∙ sets_refs rs n 0 [] f.1)
    (read_step n _ ∙ targets_again n act.Read r rs f.0 f.1)
act_again n (act.ReadUnit s r rs) f = keyword_step n (codes "read") _ (act.ReadUnit s r rs)
    (sets_status (codes "iostat") s n 0 (put mark.Close (spell_refer r (spell_refs rs []))) f.0 ∙ sets_refer r n 0 (spell_refs rs []) f.1 ∙ sets_refs rs n 0 [] f.2)
    (unit_step n s _ (spell_refer r (spell_refs rs [])) (status_again n (codes "iostat") s (spell_refer r (spell_refs rs [])) f.0) ∙ targets_again n (act.ReadUnit s) r rs f.1 f.2)

act_is : (a b : Act) → let d : Option Act = Some a in let e : Option Act = Some b in d ≡ e → a ≡ b
act_is a b e = cc

pub one_spelled : (n : ℕ) (a b : Act) → FitsAct n a → FitsAct n b → spell_act a ≡ spell_act b → a ≡ b
one_spelled n a b f g e = act_is a b (sym (act_again n a f) ∙ ap (act_at n) e ∙ act_again n b g)
