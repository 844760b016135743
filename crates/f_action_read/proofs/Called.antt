-- What CALL names is read as a reference.
use Rattle.std.proofs.Common.{◌≡◌, ℕ, zero, suc, List, [], ◌∷◌, length, Option, Some, None, true, refl, sym, ◌∙◌}
use Rattle.f_lex.specs.declared.token.Token.{Token}
use Rattle.f_grammar.specs.Grammar.{Refer, refer, Part, named, Parts, no_parts, part, Group, NoGroup, group, Range, NoRange, range, Maybe, Args}
use Rattle.f_grammar.specs.Reading.{◌>>=◌, choose, Read, Reader, open_at, closed_at, colon_at, percent_at, name_at, args_at, lower_at, upper_at, substring_at, range_at, behind_name, part_at, parts_at, refer_at, expr_at}
use Rattle.f_grammar.specs.Actions as act
use Rattle.f_grammar.specs.Actions.{Act}
use Rattle.f_grammar.specs.ActionReading.{ends_at, call_at}
use Rattle.f_action_read.specs.Actions.{called}

abbrev as_call : Refer × List Token → Option Act
as_call x = called x.0 x.1

abbrev with_parts : Part → Read Parts → Option Act
with_parts p r = (r >>= λ y. Some (refer p y.0, y.1)) >>= as_call

-- the call of a part and what stands behind it
abbrev whole : Reader → Part × List Token → Option Act
whole inner x = with_parts x.0 (parts_at inner (length x.1) x.1)

module _ (inner : Reader) (name : List ℕ) where
  more_parts : (g : Group) (x : Part) (o : Read Parts) → with_parts (named name g NoRange) (o >>= λ y. Some (part x y.0, y.1)) ≡ None
  more_parts g x None = refl
  more_parts g x (Some y) = refl

  one_more : (g : Group) (k : ℕ) (o : Read Part) → with_parts (named name g NoRange) (o >>= λ x. parts_at inner k x.1 >>= λ y. Some (part x.0 y.0, y.1)) ≡ None
  one_more g k None = refl
  one_more g k (Some x) = more_parts g x.0 (parts_at inner k x.1)

  left : (g : Group) (k : ℕ) (t : Token) (ts : List Token) (o : Option (List Token)) → with_parts (named name g NoRange) (choose o (Some (no_parts, t ∷ ts)) (λ r. part_at inner r >>= λ x. parts_at inner k x.1 >>= λ y. Some (part x.0 y.0, y.1))) ≡ None
  unfolding ends_at
  left g k t ts None = refl
  left g k t ts (Some r) = one_more g k (part_at inner r)

  behind_plain : (g : Group) (ts : List Token) → whole inner (named name g NoRange, ts) ≡ ends_at (act.Call name g) ts
  unfolding parts_at ends_at
  behind_plain g [] = refl
  behind_plain g (t ∷ ts) = left g (length ts) t ts (percent_at (t ∷ ts))

  in_range : (g : Group) (lower upper : Maybe) (o : Read Parts) → with_parts (named name g (range lower upper)) o ≡ None
  in_range g lower upper None = refl
  in_range g lower upper (Some (no_parts, ts)) = refl
  in_range g lower upper (Some (part p ps, ts)) = refl

then_none : {A B C : Type 0} (o : Option A) (g : A → Option B) (f : B → Option C) → ((x : A) → (g x >>= f) ≡ None) → ((o >>= g) >>= f) ≡ None
then_none None g f h = refl
then_none (Some x) g f h = h x

-- a range is read where nothing else is
range_none : (inner : Reader) (r : List Token) (f : Range × List Token → Option Act) → ((lower upper : Maybe) (q : List Token) → f (range lower upper, q) ≡ None) → (range_at inner r >>= f) ≡ None
unfolding range_at
range_none inner r f h = then_none (lower_at inner r) _ f (λ l. then_none (colon_at l.1) _ f (λ q. then_none (upper_at inner q) _ f (λ u. then_none (closed_at u.1) _ f (λ rest. h l.0 u.0 rest))))

module _ (inner : Reader) (name : List ℕ) where
  abbrev ranged : Group → Range × List Token → Option Act
  ranged g y = whole inner (named name g y.0, y.1)

  by_open : (g : Group) (ts : List Token) (o : Option (List Token)) → ((r : List Token) → o ≡ Some r → ends_at (act.Call name g) ts ≡ None) → (choose o (Some (NoRange, ts)) (range_at inner) >>= ranged g) ≡ ends_at (act.Call name g) ts
  by_open g ts None h = behind_plain inner name g ts
  by_open g ts (Some r) h = range_none inner r (ranged g) (λ lower upper q. in_range inner name g lower upper (parts_at inner (length q) q)) ∙ sym (h r refl)

  something : (g : Group) (ts r : List Token) → open_at ts ≡ Some r → ends_at (act.Call name g) ts ≡ None
  unfolding open_at ends_at
  something g [] r e = absurd (cc (e))
  something g (t ∷ ts) r e = refl

  behind_args : (g : Group) (ts : List Token) → (substring_at inner ts >>= ranged g) ≡ ends_at (act.Call name g) ts
  unfolding substring_at
  behind_args g ts = by_open g ts (open_at ts) (λ r e. something g ts r e)

  as_named : (g : Group) (o : Read Range) → ((o >>= λ y. Some (named name g y.0, y.1)) >>= whole inner) ≡ (o >>= ranged g)
  as_named g None = refl
  as_named g (Some y) = refl

  by_args : (o : Read Args) → ((o >>= λ x. substring_at inner x.1 >>= λ y. Some (named name (group x.0) y.0, y.1)) >>= whole inner) ≡ (o >>= λ x. ends_at (act.Call name (group x.0)) x.1)
  by_args None = refl
  by_args (Some x) = as_named (group x.0) (substring_at inner x.1) ∙ behind_args (group x.0) x.1

  by_group : (ts : List Token) (o : Option (List Token)) → (choose o (Some (named name NoGroup NoRange, ts)) (λ r. args_at inner true r >>= λ x. substring_at inner x.1 >>= λ y. Some (named name (group x.0) y.0, y.1)) >>= whole inner)
      ≡ choose o (ends_at (act.Call name NoGroup) ts) (λ r. args_at inner true r >>= λ x. ends_at (act.Call name (group x.0)) x.1)
  by_group ts None = behind_plain inner name NoGroup ts
  by_group ts (Some r) = by_args (args_at inner true r)

as_refer : (inner : Reader) (o : Read Part) → ((o >>= λ x. parts_at inner (length x.1) x.1 >>= λ y. Some (refer x.0 y.0, y.1)) >>= as_call) ≡ (o >>= whole inner)
as_refer inner None = refl
as_refer inner (Some x) = refl

by_name : (inner : Reader) (o : Read (List ℕ)) → ((o >>= λ m. behind_name inner m.0 m.1) >>= whole inner) ≡ (o >>= λ m. choose (open_at m.1) (ends_at (act.Call m.0 NoGroup) m.1) (λ r. args_at inner true r >>= λ x. ends_at (act.Call m.0 (group x.0)) x.1))
unfolding behind_name
by_name inner None = refl
by_name inner (Some m) = by_group inner m.0 m.1 (open_at m.1)

pub call_is : (n : ℕ) (ts : List Token) → call_at n ts ≡ (refer_at (expr_at n) ts >>= λ x. called x.0 x.1)
unfolding call_at refer_at part_at
call_is n ts = sym (as_refer (expr_at n) (part_at (expr_at n) ts) ∙ by_name (expr_at n) (name_at ts))
