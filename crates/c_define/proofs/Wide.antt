-- Tables that have more behind them.
use Rattle.std.proofs.Common.{◌≡◌, ℕ, false, List, [], ◌∷◌, ◌++◌, map, length, length-append, get_or, Some, None, refl, sym, ap, ◌∙◌, arith, append_assoc, subst}
use Rattle.std.proofs.lemmas.List.{append-nil, map-append}
use Rattle.c_token.specs.declared.mark.Mark.TheVariants as mark
use Rattle.c_token.specs.declared.token.CToken.{CToken}
use Rattle.c_token.specs.declared.token.CToken.TheVariants.{Id, Mark}
use Rattle.c_macros.specs.declared.token.Token.{Token}
use Rattle.c_macros.specs.declared.token.Token.TheVariants.{Name, Other}
use Rattle.c_define.specs.Numbers.{number_of, token_at, is_id, IsIn, AreIn, AreDistinct, Wider, AreNumbers}
use Rattle.c_define.proofs.Named.{number_new, number_within, get_old, get_last, distinct_more}

pub same_tables : (names : List (List ℕ)) (others : List CToken) → Wider names others names others
same_tables names others = record { more_names = []; more_others = []; names_are = sym (append-nil names); others_are = sym (append-nil others); distinct = λ d. d }

pub one_name : (names names' : List (List ℕ)) (others : List CToken) (x : List ℕ) → number_of names x ≡ None → names' ≡ names ++ x ∷ [] → Wider names others names' others
one_name names names' others x none e = record { more_names = x ∷ []; more_others = []; names_are = e; others_are = sym (append-nil others); distinct = λ d. subst AreDistinct (sym e) (distinct_more names x none d) }

pub one_other : (names : List (List ℕ)) (others others' : List CToken) (x : CToken) → others' ≡ others ++ x ∷ [] → Wider names others names others'
one_other names others others' x e = record { more_names = []; more_others = x ∷ []; names_are = sym (append-nil names); others_are = e; distinct = λ d. d }

pub wider_both : (a : List (List ℕ)) (p : List CToken) (b : List (List ℕ)) (q : List CToken) (c : List (List ℕ)) (r : List CToken) → Wider a p b q → Wider b q c r → Wider a p c r
wider_both a p b q c r x y = record {
  more_names = x.more_names ++ y.more_names;
  more_others = x.more_others ++ y.more_others;
  names_are = y.names_are ∙ ap (λ l. l ++ y.more_names) x.names_are ∙ append_assoc a x.more_names y.more_names;
  others_are = y.others_are ∙ ap (λ l. l ++ y.more_others) x.others_are ∙ append_assoc p x.more_others y.more_others;
  distinct = λ d. y.distinct (x.distinct d);
}

pub names_alone : (names names' : List (List ℕ)) (others : List CToken) → Wider names [] names' [] → Wider names others names' others
names_alone names names' others w = record { more_names = w.more_names; more_others = []; names_are = w.names_are; others_are = sym (append-nil others); distinct = w.distinct }

module _ (names : List (List ℕ)) (others : List CToken) (names' : List (List ℕ)) (others' : List CToken) (w : Wider names others names' others') where
  pub token_same : (t : Token) → IsIn names others t → token_at names' others' t ≡ token_at names others t
  token_same (Name n) lt = ap (λ l. Id (get_or l n [])) w.names_are ∙ ap Id (get_old names w.more_names n [] lt)
  token_same (Other k) h = ap (λ l. get_or l k (Mark mark.Comma)) w.others_are ∙ get_old others w.more_others k (Mark mark.Comma) h.0

  pub still_in : (t : Token) → IsIn names others t → IsIn names' others' t
  still_in (Name n) lt = let e = ap length w.names_are in omega (arith, e, length-append names w.more_names, lt)
  still_in (Other k) h = let e = ap length w.others_are in let lt = h.0 in (omega (arith, e, length-append others w.more_others, lt), ap is_id (token_same (Other k) h) ∙ h.1)

  pub all_still_in : (ts : List Token) → AreIn names others ts → AreIn names' others' ts
  all_still_in [] a = tt
  all_still_in (t ∷ ts) a = (still_in t a.0, all_still_in ts a.1)

  pub tokens_same : (ts : List Token) → AreIn names others ts → map (token_at names' others') ts ≡ map (token_at names others) ts
  tokens_same [] a = refl
  tokens_same (t ∷ ts) a = ap (λ x. x ∷ map (token_at names' others') ts) (token_same t a.0) ∙ ap (λ l. token_at names others t ∷ l) (tokens_same ts a.1)

  pub one_number : (tokens : List CToken) (token : CToken) (numbers : List Token) (t : Token) → AreNumbers names others tokens numbers → IsIn names' others' t → token_at names' others' t ≡ token → AreNumbers names' others' (tokens ++ token ∷ []) (numbers ++ t ∷ [])
  one_number tokens token numbers t h i e = record {
    are_in = in_append numbers h.are_in;
    tokens_are = map-append (token_at names' others') numbers (t ∷ []) ∙ ap (λ l. l ++ token_at names' others' t ∷ []) (tokens_same numbers h.are_in ∙ h.tokens_are) ∙ ap (λ x. tokens ++ x ∷ []) e;
  }
    where
      in_append : (ns : List Token) → AreIn names others ns → AreIn names' others' (ns ++ t ∷ [])
      in_append [] a = (i, tt)
      in_append (n ∷ ns) a = (still_in n a.0, in_append ns a.1)

pub name_number : (names : List (List ℕ)) (others : List CToken) (x : List ℕ) (n : ℕ) → number_of names x ≡ Some n → IsIn names others (Name n) × (token_at names others (Name n) ≡ Id x)
name_number names others x n e = let h = number_within names x n e in (h.0, ap Id h.1)

pub other_number : (names : List (List ℕ)) (others others' : List CToken) (x : CToken) (k : ℕ) → others' ≡ others ++ x ∷ [] → k ≡ length others → is_id x ≡ false → IsIn names others' (Other k) × (token_at names others' (Other k) ≡ x)
other_number names others others' x k e ke plain =
    let at : token_at names others' (Other k) ≡ x = ap (λ l. get_or l k (Mark mark.Comma)) e ∙ get_last others x (Mark mark.Comma) k ke in
    let n = ap length e in
    ((omega (arith, n, ke, length-append others (x ∷ [])), ap is_id at ∙ plain), at)

pub new_name : (names names' : List (List ℕ)) (x : List ℕ) (n : ℕ) → number_of names x ≡ None → names' ≡ names ++ x ∷ [] → n ≡ length names → number_of names' x ≡ Some n
new_name names names' x n none e ne = ap (λ l. number_of l x) e ∙ number_new names x none ∙ ap Some (sym ne)

pub no_id : (t : CToken) → ((s : List ℕ) → t ≡ Id s → ⊥) → is_id t ≡ false
no_id t h = pick t refl
  where
    pick : (u : CToken) → t ≡ u → is_id u ≡ false
    pick (Id s) e = absurd (h s e)
    pick _ e = refl

pub same_names : (names names' : List (List ℕ)) (others : List CToken) → names' ≡ names → Wider names others names' others
same_names names names' others e = record { more_names = []; more_others = []; names_are = e ∙ sym (append-nil names); others_are = sym (append-nil others); distinct = λ d. subst AreDistinct (sym e) d }

pub same_others : (names : List (List ℕ)) (others others' : List CToken) → others' ≡ others → Wider names others names others'
same_others names others others' e = record { more_names = []; more_others = []; names_are = sym (append-nil names); others_are = e ∙ sym (append-nil others); distinct = λ d. d }
