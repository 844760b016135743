-- A statement that is read is spelled so, and fits.
use Rattle.std.proofs.Common.{◌≡◌, ℕ, zero, suc, Bool, true, false, List, [], ◌∷◌, length, Option, Some, None, refl, ap, ◌∙◌}
use Rattle.std.specs.Prelude.{codes}
use Rattle.std.specs.Str.{bytes_eq}
use Rattle.std.proofs.lemmas.Slice.Eq.{bytes_eq-Decides}
use Rattle.f_lex.specs.declared.token.Mark.TheVariants as mark
use Rattle.f_lex.specs.declared.token.Token.{Token}
use Rattle.f_lex.specs.declared.token.Token.TheVariants as token
use Rattle.f_grammar.specs.Grammar.{TypeOf, put, spell, spell_type, FitsType}
use Rattle.f_grammar.specs.Reading.{IfSome, Read, open_at, closed_at, comma_at, colon_at, colons_at, star_at, name_at, word_at, ends_bound, expr_at, type_at}
use Rattle.f_grammar.specs.ActionReading.{assign_at, arrow_at}
use Rattle.f_grammar.proofs.Sound.{then, chosen, tested, open_sound, closed_sound, comma_sound, colon_sound, colons_sound, star_sound, IsName, name_sound, IsWord, word_sound, IsInside, present_fits, expr_sound, type_sound}
use Rattle.f_grammar.proofs.ActionSound.{arrow_sound}
use Rattle.f_declaration_grammar.specs.Listing.{spell_behind, spell_listed, spell_each, AreAll, AreSome, behind_at, listed_at}
use Rattle.f_declaration_grammar.specs.Declarations.{Public, Private, Label, Attr, Parameter, Allocatable, Pointer, Target, Optional, Value, Contiguous, Save, Accessible, UseList, Renames, Onlys, TypeAttr, PointerAttr, Prefix, Returns, Suffix, Ended, OfProgram, OfModule, OfSubroutine, OfFunction, OfType, OfInterface, Declared, Program, Module, Contains, Use, Import, ImplicitNone, Variables, TypeStart, InterfaceStart, Accesses, SaveAll, Procedures, EndOf, front, spell_name, spell_dim, spell_maybe_dims, spell_intent, spell_bind, spell_attr, spell_null, spell_initial, spell_entity, spell_rename, spell_only, spell_uses, spell_colons, spell_type_attr, spell_pointer_attr, spell_pointer, spell_prefix, spell_suffix, spell_dummies, unit_word, spell_end, spell_declared, IsAny, FitsDim, FitsDims, FitsAttr, FitsInitial, FitsEntity, FitsUses, FitsPrefix, FitsDummies, FitsNames, FitsDeclared}
use Rattle.f_declaration_grammar.specs.DeclarationReading.{ends, this_at, dots_at, text_at, maybe_colons_at, begins_head, dim_behind, dim_at, dims_at, maybe_dims_at, label_at, bind_at, in_at, intent_by, intent_at, dimension_at, bind_attr_at, intent_attr_at, attr_by, attr_at, null_at, initial_at, entity_at, rename_at, only_at, type_attr_by, type_attr_at, pointer_attr_by, pointer_attr_at, pointer_at, prefix_at, unit_word_at, suffix_by, suffix_at, suffixes_at, dummy_names_at, dummies_at, head_of, prefixes_at, head_behind, named_at, names_at, only_colon_at, onlys_at, renames_at, uses_at, module_at, use_at, implicit_at, abstract_at, variables_at, behind_type, typed_at, type_start_at, pointers_at, procedure_at, end_name_at, end_by, end_at, joined_by, type_word_at, declared_by, declared_at}
use Rattle.f_declaration_grammar.proofs.ListingLaws.{Spelled, behind_sound, listed_sound}

-- ---- single tokens

ends_then : {A : Type 0} (x : A) (ts : List Token) (Q : A → Type 0) → (ts ≡ [] → Q x) → IfSome (ends x ts) Q
unfolding ends
ends_then x [] Q q = q refl
ends_then x (t ∷ ts) Q q = tt

-- a word that is told
told : (word w : List ℕ) (ts r : List Token) → ts ≡ front w r → bytes_eq w word ≡ true → ts ≡ front word r
told word w ts r i e = i ∙ ap (λ (v : List ℕ). front v r) ((bytes_eq-Decides w word).0 e)

this_sound : (word : List ℕ) (ts : List Token) → IfSome (this_at word ts) (λ r. ts ≡ front word r)
unfolding this_at
this_sound word ts = then (name_at ts) _ (IsName ts) _ (name_sound ts) (λ m i. tested (bytes_eq m.0 word) _ _ (λ r. ts ≡ front word r) (λ e. told word m.0 ts m.1 i e) (λ _. tt))

named_sound : (ts : List Token) → IfSome (name_at ts) (Spelled spell_name IsAny ts)
named_sound ts = pick (name_at ts) (name_sound ts)
  where
    pick : (o : Read (List ℕ)) → IfSome o (IsName ts) → IfSome o (Spelled spell_name IsAny ts)
    pick None p = tt
    pick (Some x) p = (p, tt)

dots_sound : (ts : List Token) → IfSome (dots_at ts) (λ r. ts ≡ put mark.DotDot r)
unfolding dots_at
dots_sound (token.Mark mark.DotDot ∷ ts) = refl
dots_sound (_ ∷ ts) = tt
dots_sound [] = tt

assigned_sound : (ts : List Token) → IfSome (assign_at ts) (λ r. ts ≡ put mark.Assign r)
unfolding assign_at
assigned_sound (token.Mark mark.Assign ∷ ts) = refl
assigned_sound (_ ∷ ts) = tt
assigned_sound [] = tt

text_sound : (ts : List Token) → IfSome (text_at ts) (λ x. ts ≡ token.Text x.0.0 x.0.1 ∷ x.1)
unfolding text_at
text_sound (token.Text bytes k ∷ ts) = refl
text_sound (_ ∷ ts) = tt
text_sound [] = tt

colons_are : (ts : List Token) → ts ≡ spell_colons (maybe_colons_at ts).0 (maybe_colons_at ts).1
unfolding maybe_colons_at colons_at
colons_are (token.Mark mark.DoubleColon ∷ ts) = refl
colons_are (_ ∷ ts) = refl
colons_are [] = refl

-- ---- parts

module _ (n : ℕ) where
  dim_sound : (ts : List Token) → IfSome (dim_at n ts) (Spelled spell_dim (FitsDim n) ts)
  unfolding dim_at dim_behind
  dim_sound ts =
      chosen (dots_at ts) _ _ (λ r. ts ≡ put mark.DotDot r) _ (dots_sound ts)
      (chosen (star_at ts) _ _ (λ r. ts ≡ put mark.Star r) _ (star_sound ts)
      (chosen (colon_at ts) _ _ (λ r. ts ≡ put mark.Colon r) _ (colon_sound ts)
      (then (expr_at n ts) _ (IsInside n ts) _ (expr_sound n ts) (λ x p.
      chosen (colon_at x.1) _ _ (λ r. x.1 ≡ put mark.Colon r) (Spelled spell_dim (FitsDim n) ts) (colon_sound x.1) (p.0, p.1) (λ r i.
      chosen (star_at r) _ _ (λ q. r ≡ put mark.Star q) (Spelled spell_dim (FitsDim n) ts) (star_sound r)
      (tested (ends_bound r) _ _ (Spelled spell_dim (FitsDim n) ts) (λ _. (p.0 ∙ ap (spell x.0) i, present_fits n x.0 p.1))
      (λ _. then (expr_at n r) _ (IsInside n r) _ (expr_sound n r) (λ y o. (p.0 ∙ ap (spell x.0) (i ∙ ap (put mark.Colon) o.0), (p.1, o.1)))))
      (λ q j. (p.0 ∙ ap (spell x.0) (i ∙ ap (put mark.Colon) j), present_fits n x.0 p.1)))))
      (λ r i. (i, tt)))
      (λ r i. (i, tt)))
      (λ r i. (i, tt))

  dims_sound : (ts : List Token) → IfSome (dims_at n ts) (λ x. (ts ≡ spell_listed spell_dim x.0 (put mark.Close x.1)) × AreSome (FitsDim n) x.0)
  unfolding dims_at
  dims_sound ts =
      then (listed_at (dim_at n) ts) _ (Spelled (spell_listed spell_dim) (AreSome (FitsDim n)) ts) _ (listed_sound (dim_at n) spell_dim (FitsDim n) dim_sound ts) (λ x p.
      then (closed_at x.1) _ (λ r. x.1 ≡ put mark.Close r) _ (closed_sound x.1) (λ r c. (p.0 ∙ ap (spell_listed spell_dim x.0) c, p.1)))

  maybe_dims_sound : (ts : List Token) → IfSome (maybe_dims_at n ts) (Spelled spell_maybe_dims (FitsDims n) ts)
  unfolding maybe_dims_at
  maybe_dims_sound ts = chosen (open_at ts) _ _ (λ r. ts ≡ put mark.Open r) (Spelled spell_maybe_dims (FitsDims n) ts) (open_sound ts) (refl, tt) (λ r i.
      then (dims_at n r) _ (λ x. (r ≡ spell_listed spell_dim x.0 (put mark.Close x.1)) × AreSome (FitsDim n) x.0) _ (dims_sound r) (λ x p. (i ∙ ap (put mark.Open) p.0, p.1)))

abbrev c_comma : List Token → List Token
c_comma ts = put mark.Comma (front (codes "name") (put mark.Assign ts))

abbrev spell_label : Label → List Token → List Token
spell_label None rest = rest
spell_label (Some label) rest = c_comma (token.Text label.0 label.1 ∷ rest)

label_sound : (ts : List Token) → IfSome (label_at ts) (λ x. ts ≡ spell_label x.0 x.1)
unfolding label_at
label_sound ts = chosen (comma_at ts) _ _ (λ r. ts ≡ put mark.Comma r) (λ x. ts ≡ spell_label x.0 x.1) (comma_sound ts) refl (λ r i.
    then (word_at (codes "name") r) _ (IsWord (codes "name") r) _ (word_sound (codes "name") r) (λ s j.
    then (text_at s) _ (λ x. s ≡ token.Text x.0.0 x.0.1 ∷ x.1) _ (text_sound s) (λ x k. i ∙ ap (put mark.Comma) (j ∙ ap (λ (q : List Token). front (codes "name") (put mark.Assign q)) k))))

bind_sound : (ts : List Token) → IfSome (bind_at ts) (λ x. ts ≡ spell_bind x.0 x.1)
unfolding bind_at
bind_sound ts =
    then (open_at ts) _ (λ r. ts ≡ put mark.Open r) _ (open_sound ts) (λ r i.
    then (this_at (codes "c") r) _ (λ s. r ≡ front (codes "c") s) _ (this_sound (codes "c") r) (λ s j.
    then (label_at s) _ (λ x. s ≡ spell_label x.0 x.1) _ (label_sound s) (λ x k.
    then (closed_at x.1) _ (λ q. x.1 ≡ put mark.Close q) _ (closed_sound x.1) (λ q c.
    by ts x.0 q (i ∙ ap (put mark.Open) (j ∙ ap (front (codes "c")) (k ∙ ap (spell_label x.0) c)))))))
  where
    by : (ts : List Token) (l : Label) (q : List Token) → ts ≡ put mark.Open (front (codes "c") (spell_label l (put mark.Close q))) → ts ≡ spell_bind l q
    by ts None q e = e
    by ts (Some label) q e = e

intent_by_sound : (w : List ℕ) (ts : List Token) → IfSome (intent_by w ts) (λ x. front w ts ≡ spell_intent x.0 x.1)
unfolding intent_by in_at
intent_by_sound w ts =
    tested (bytes_eq w (codes "in")) _ _ (λ x. front w ts ≡ spell_intent x.0 x.1)
    (λ e. chosen (this_at (codes "out") ts) _ _ (λ r. ts ≡ front (codes "out") r) (λ x. front w ts ≡ spell_intent x.0 x.1) (this_sound (codes "out") ts) (told (codes "in") w (front w ts) ts refl e)
    (λ r i. told (codes "in") w (front w ts) ts refl e ∙ ap (front (codes "in")) i)) (λ _.
    tested (bytes_eq w (codes "out")) _ _ (λ x. front w ts ≡ spell_intent x.0 x.1) (λ e. told (codes "out") w (front w ts) ts refl e) (λ _.
    tested (bytes_eq w (codes "inout")) _ _ (λ x. front w ts ≡ spell_intent x.0 x.1) (λ e. told (codes "inout") w (front w ts) ts refl e) (λ _. tt)))

intent_sound : (ts : List Token) → IfSome (intent_at ts) (λ x. ts ≡ put mark.Open (spell_intent x.0 (put mark.Close x.1)))
unfolding intent_at
intent_sound ts =
    then (open_at ts) _ (λ r. ts ≡ put mark.Open r) _ (open_sound ts) (λ r i.
    then (name_at r) _ (IsName r) _ (name_sound r) (λ m j.
    then (intent_by m.0 m.1) _ (λ x. front m.0 m.1 ≡ spell_intent x.0 x.1) _ (intent_by_sound m.0 m.1) (λ x k.
    then (closed_at x.1) _ (λ q. x.1 ≡ put mark.Close q) _ (closed_sound x.1) (λ q c. i ∙ ap (put mark.Open) (j ∙ k ∙ ap (spell_intent x.0) c)))))

-- what a word begins
abbrev Begins : {A : Type 0} → (A → List Token → List Token) → (A → Type 0) → List ℕ → List Token → A × List Token → Type 0
Begins spell P w ts x = (front w ts ≡ spell x.0 x.1) × P x.0

-- a reader whose word is told
by_told : {A : Type 0} (spell : A → List Token → List Token) (P : A → Type 0) (w word : List ℕ) (ts : List Token) (o : Read A) → bytes_eq w word ≡ true → IfSome o (Begins spell P word ts) → IfSome o (Begins spell P w ts)
by_told spell P w word ts None e p = tt
by_told spell P w word ts (Some x) e p = (told word w (front w ts) ts refl e ∙ p.0, p.1)

module _ (n : ℕ) where
  dimension_sound : (ts : List Token) → IfSome (dimension_at n ts) (Begins spell_attr (FitsAttr n) (codes "dimension") ts)
  unfolding dimension_at
  dimension_sound ts =
      then (open_at ts) _ (λ r. ts ≡ put mark.Open r) _ (open_sound ts) (λ r i.
      then (dims_at n r) _ (λ x. (r ≡ spell_listed spell_dim x.0 (put mark.Close x.1)) × AreSome (FitsDim n) x.0) _ (dims_sound n r) (λ x p. (ap (front (codes "dimension")) (i ∙ ap (put mark.Open) p.0), p.1)))

  bind_attr_sound : (ts : List Token) → IfSome (bind_attr_at ts) (Begins spell_attr (FitsAttr n) (codes "bind") ts)
  unfolding bind_attr_at
  bind_attr_sound ts = then (bind_at ts) _ (λ x. ts ≡ spell_bind x.0 x.1) _ (bind_sound ts) (λ x p. (ap (front (codes "bind")) p, tt))

  intent_attr_sound : (ts : List Token) → IfSome (intent_attr_at ts) (Begins spell_attr (FitsAttr n) (codes "intent") ts)
  unfolding intent_attr_at
  intent_attr_sound ts = then (intent_at ts) _ (λ x. ts ≡ put mark.Open (spell_intent x.0 (put mark.Close x.1))) _ (intent_sound ts) (λ x p. (ap (front (codes "intent")) p, tt))

  attr_by_sound : (w : List ℕ) (ts : List Token) → IfSome (attr_by n w ts) (Begins spell_attr (FitsAttr n) w ts)
  unfolding attr_by
  attr_by_sound w ts =
      let Q : Attr × List Token → Type 0 = Begins spell_attr (FitsAttr n) w ts in
      let plain : (word : List ℕ) (a : Attr) → front word ts ≡ spell_attr a ts → FitsAttr n a → bytes_eq w word ≡ true → Begins spell_attr (FitsAttr n) w ts (a, ts) = λ word a s f e. (told word w (front w ts) ts refl e ∙ s, f) in
      tested (bytes_eq w (codes "parameter")) _ _ Q (plain (codes "parameter") Parameter refl tt) (λ _.
      tested (bytes_eq w (codes "dimension")) _ _ Q (λ e. by_told spell_attr (FitsAttr n) w (codes "dimension") ts (dimension_at n ts) e (dimension_sound ts)) (λ _.
      tested (bytes_eq w (codes "allocatable")) _ _ Q (plain (codes "allocatable") Allocatable refl tt) (λ _.
      tested (bytes_eq w (codes "pointer")) _ _ Q (plain (codes "pointer") Pointer refl tt) (λ _.
      tested (bytes_eq w (codes "target")) _ _ Q (plain (codes "target") Target refl tt) (λ _.
      tested (bytes_eq w (codes "optional")) _ _ Q (plain (codes "optional") Optional refl tt) (λ _.
      tested (bytes_eq w (codes "value")) _ _ Q (plain (codes "value") Value refl tt) (λ _.
      tested (bytes_eq w (codes "contiguous")) _ _ Q (plain (codes "contiguous") Contiguous refl tt) (λ _.
      tested (bytes_eq w (codes "save")) _ _ Q (plain (codes "save") Save refl tt) (λ _.
      tested (bytes_eq w (codes "public")) _ _ Q (plain (codes "public") (Accessible Public) refl tt) (λ _.
      tested (bytes_eq w (codes "private")) _ _ Q (plain (codes "private") (Accessible Private) refl tt) (λ _.
      tested (bytes_eq w (codes "bind")) _ _ Q (λ e. by_told spell_attr (FitsAttr n) w (codes "bind") ts (bind_attr_at ts) e (bind_attr_sound ts)) (λ _.
      tested (bytes_eq w (codes "intent")) _ _ Q (λ e. by_told spell_attr (FitsAttr n) w (codes "intent") ts (intent_attr_at ts) e (intent_attr_sound ts)) (λ _. tt)))))))))))))

-- what a name begins, behind that name
behind_name : {A : Type 0} (spell : A → List Token → List Token) (P : A → Type 0) (ts : List Token) (m : List ℕ × List Token) (o : Read A) → IsName ts m → IfSome o (Begins spell P m.0 m.1) → IfSome o (Spelled spell P ts)
behind_name spell P ts m None i p = tt
behind_name spell P ts m (Some x) i p = (i ∙ p.0, p.1)

attr_sound : (n : ℕ) (ts : List Token) → IfSome (attr_at n ts) (Spelled spell_attr (FitsAttr n) ts)
unfolding attr_at
attr_sound n ts = then (name_at ts) _ (IsName ts) _ (name_sound ts) (λ m i. behind_name spell_attr (FitsAttr n) ts m (attr_by n m.0 m.1) i (attr_by_sound n m.0 m.1))

null_sound : (ts : List Token) → IfSome (null_at ts) (λ r. put mark.Arrow ts ≡ spell_null r)
unfolding null_at
null_sound ts =
    then (this_at (codes "null") ts) _ (λ r. ts ≡ front (codes "null") r) _ (this_sound (codes "null") ts) (λ r i.
    then (open_at r) _ (λ s. r ≡ put mark.Open s) _ (open_sound r) (λ s j. pick r s i j (closed_at s) (closed_sound s)))
  where
    pick : (r s : List Token) → ts ≡ front (codes "null") r → r ≡ put mark.Open s → (o : Option (List Token)) → IfSome o (λ q. s ≡ put mark.Close q) → IfSome o (λ q. put mark.Arrow ts ≡ spell_null q)
    pick r s i j None p = tt
    pick r s i j (Some q) p = ap (put mark.Arrow) (i ∙ ap (front (codes "null")) (j ∙ ap (put mark.Open) p))

initial_sound : (n : ℕ) (ts : List Token) → IfSome (initial_at n ts) (Spelled spell_initial (FitsInitial n) ts)
unfolding initial_at
initial_sound n ts = chosen (assign_at ts) _ _ (λ r. ts ≡ put mark.Assign r) (Spelled spell_initial (FitsInitial n) ts) (assigned_sound ts)
    (chosen (arrow_at ts) _ _ (λ r. ts ≡ put mark.Arrow r) (Spelled spell_initial (FitsInitial n) ts) (arrow_sound ts) (refl, tt)
    (λ r i. then (null_at r) _ (λ q. put mark.Arrow r ≡ spell_null q) _ (null_sound r) (λ q j. (i ∙ j, tt))))
    (λ r i. then (expr_at n r) _ (IsInside n r) _ (expr_sound n r) (λ x p. (i ∙ ap (put mark.Assign) p.0, p.1)))

entity_sound : (n : ℕ) (ts : List Token) → IfSome (entity_at n ts) (Spelled spell_entity (FitsEntity n) ts)
unfolding entity_at
entity_sound n ts =
    then (name_at ts) _ (IsName ts) _ (name_sound ts) (λ m i.
    then (maybe_dims_at n m.1) _ (Spelled spell_maybe_dims (FitsDims n) m.1) _ (maybe_dims_sound n m.1) (λ d p.
    then (initial_at n d.1) _ (Spelled spell_initial (FitsInitial n) d.1) _ (initial_sound n d.1) (λ v q.
    (i ∙ ap (front m.0) (p.0 ∙ ap (spell_maybe_dims d.0) q.0), (p.1, q.1)))))

rename_sound : (ts : List Token) → IfSome (rename_at ts) (Spelled spell_rename IsAny ts)
unfolding rename_at
rename_sound ts =
    then (name_at ts) _ (IsName ts) _ (name_sound ts) (λ a i.
    then (arrow_at a.1) _ (λ r. a.1 ≡ put mark.Arrow r) _ (arrow_sound a.1) (λ r j.
    then (name_at r) _ (IsName r) _ (name_sound r) (λ b k. (i ∙ ap (front a.0) (j ∙ ap (put mark.Arrow) k), tt))))

only_sound : (ts : List Token) → IfSome (only_at ts) (Spelled spell_only IsAny ts)
unfolding only_at
only_sound ts =
    then (name_at ts) _ (IsName ts) _ (name_sound ts) (λ a i.
    chosen (arrow_at a.1) _ _ (λ r. a.1 ≡ put mark.Arrow r) (Spelled spell_only IsAny ts) (arrow_sound a.1) (i, tt)
    (λ r j. then (name_at r) _ (IsName r) _ (name_sound r) (λ b k. (i ∙ ap (front a.0) (j ∙ ap (put mark.Arrow) k), tt))))

type_attr_by_sound : (w : List ℕ) (ts : List Token) → IfSome (type_attr_by w ts) (Begins spell_type_attr IsAny w ts)
unfolding type_attr_by
type_attr_by_sound w ts =
    let Q : TypeAttr × List Token → Type 0 = Begins spell_type_attr IsAny w ts in
    tested (bytes_eq w (codes "bind")) _ _ Q (λ e. then (bind_at ts) _ (λ x. ts ≡ spell_bind x.0 x.1) Q (bind_sound ts) (λ x p. (told (codes "bind") w (front w ts) ts refl e ∙ ap (front (codes "bind")) p, tt))) (λ _.
    tested (bytes_eq w (codes "public")) _ _ Q (λ e. (told (codes "public") w (front w ts) ts refl e, tt)) (λ _.
    tested (bytes_eq w (codes "private")) _ _ Q (λ e. (told (codes "private") w (front w ts) ts refl e, tt)) (λ _. tt)))

type_attr_sound : (ts : List Token) → IfSome (type_attr_at ts) (Spelled spell_type_attr IsAny ts)
unfolding type_attr_at
type_attr_sound ts = then (name_at ts) _ (IsName ts) _ (name_sound ts) (λ m i. behind_name spell_type_attr IsAny ts m (type_attr_by m.0 m.1) i (type_attr_by_sound m.0 m.1))

pointer_attr_by_sound : (w : List ℕ) (ts : List Token) → IfSome (pointer_attr_by w ts) (Begins spell_pointer_attr IsAny w ts)
unfolding pointer_attr_by
pointer_attr_by_sound w ts =
    let Q : PointerAttr × List Token → Type 0 = Begins spell_pointer_attr IsAny w ts in
    tested (bytes_eq w (codes "save")) _ _ Q (λ e. (told (codes "save") w (front w ts) ts refl e, tt)) (λ _.
    tested (bytes_eq w (codes "public")) _ _ Q (λ e. (told (codes "public") w (front w ts) ts refl e, tt)) (λ _.
    tested (bytes_eq w (codes "private")) _ _ Q (λ e. (told (codes "private") w (front w ts) ts refl e, tt)) (λ _. tt)))

pointer_attr_sound : (ts : List Token) → IfSome (pointer_attr_at ts) (Spelled spell_pointer_attr IsAny ts)
unfolding pointer_attr_at
pointer_attr_sound ts = then (name_at ts) _ (IsName ts) _ (name_sound ts) (λ m i. behind_name spell_pointer_attr IsAny ts m (pointer_attr_by m.0 m.1) i (pointer_attr_by_sound m.0 m.1))

pointer_sound : (ts : List Token) → IfSome (pointer_at ts) (Spelled spell_pointer IsAny ts)
unfolding pointer_at
pointer_sound ts =
    then (name_at ts) _ (IsName ts) _ (name_sound ts) (λ m i.
    chosen (arrow_at m.1) _ _ (λ r. m.1 ≡ put mark.Arrow r) (Spelled spell_pointer IsAny ts) (arrow_sound m.1) (i, tt)
    (λ r j. then (null_at r) _ (λ q. put mark.Arrow r ≡ spell_null q) _ (null_sound r) (λ q k. (i ∙ ap (front m.0) (j ∙ k), tt))))

-- ---- units

prefix_sound : (n : ℕ) (ts : List Token) → IfSome (prefix_at n ts) (Spelled spell_prefix (FitsPrefix n) ts)
unfolding prefix_at
prefix_sound n ts = chosen (this_at (codes "recursive") ts) _ _ (λ r. ts ≡ front (codes "recursive") r) (Spelled spell_prefix (FitsPrefix n) ts) (this_sound (codes "recursive") ts)
    (then (type_at (expr_at n) ts) _ (λ x. (ts ≡ spell_type x.0 x.1) × FitsType n x.0) _ (type_sound (expr_at n) n (expr_sound n) ts) (λ x p. p))
    (λ r i. (i, tt))

unit_word_sound : (ts : List Token) → IfSome (unit_word_at ts) (λ x. ts ≡ front (unit_word x.0) x.1)
unfolding unit_word_at
unit_word_sound ts = chosen (this_at (codes "subroutine") ts) _ _ (λ r. ts ≡ front (codes "subroutine") r) (λ x. ts ≡ front (unit_word x.0) x.1) (this_sound (codes "subroutine") ts)
    (then (this_at (codes "function") ts) _ (λ r. ts ≡ front (codes "function") r) _ (this_sound (codes "function") ts) (λ r i. i))
    (λ r i. i)

suffix_by_sound : (w : List ℕ) (ts : List Token) → IfSome (suffix_by w ts) (Begins spell_suffix IsAny w ts)
unfolding suffix_by
suffix_by_sound w ts =
    let Q : Suffix × List Token → Type 0 = Begins spell_suffix IsAny w ts in
    tested (bytes_eq w (codes "bind")) _ _ Q (λ e. then (bind_at ts) _ (λ x. ts ≡ spell_bind x.0 x.1) Q (bind_sound ts) (λ x p. (told (codes "bind") w (front w ts) ts refl e ∙ ap (front (codes "bind")) p, tt))) (λ _.
    tested (bytes_eq w (codes "result")) _ _ Q (λ e.
    then (open_at ts) _ (λ r. ts ≡ put mark.Open r) Q (open_sound ts) (λ r i.
    then (name_at r) _ (IsName r) Q (name_sound r) (λ m j.
    then (closed_at m.1) _ (λ q. m.1 ≡ put mark.Close q) Q (closed_sound m.1) (λ q c. (told (codes "result") w (front w ts) ts refl e ∙ ap (front (codes "result")) (i ∙ ap (put mark.Open) (j ∙ ap (front m.0) c)), tt))))) (λ _. tt))

suffix_sound : (ts : List Token) → IfSome (suffix_at ts) (Spelled spell_suffix IsAny ts)
unfolding suffix_at
suffix_sound ts = then (name_at ts) _ (IsName ts) _ (name_sound ts) (λ m i. behind_name spell_suffix IsAny ts m (suffix_by m.0 m.1) i (suffix_by_sound m.0 m.1))

suffixes_sound : (k : ℕ) (ts : List Token) → IfSome (suffixes_at k ts) (λ s. ts ≡ spell_each spell_suffix s [])
unfolding suffixes_at
suffixes_sound k [] = refl
suffixes_sound zero (t ∷ ts) = tt
suffixes_sound (suc k) (t ∷ ts) =
    then (suffix_at (t ∷ ts)) _ (Spelled spell_suffix IsAny (t ∷ ts)) _ (suffix_sound (t ∷ ts)) (λ x p.
    then (suffixes_at k x.1) _ (λ s. x.1 ≡ spell_each spell_suffix s []) _ (suffixes_sound k x.1) (λ y q. p.0 ∙ ap (spell_suffix x.0) q))

dummy_names_sound : (ts : List Token) → IfSome (dummy_names_at ts) (λ x. ts ≡ spell_listed spell_name x.0 (put mark.Close x.1))
unfolding dummy_names_at
dummy_names_sound ts = chosen (closed_at ts) _ _ (λ r. ts ≡ put mark.Close r) (λ x. ts ≡ spell_listed spell_name x.0 (put mark.Close x.1)) (closed_sound ts)
    (then (listed_at name_at ts) _ (Spelled (spell_listed spell_name) (AreSome IsAny) ts) _ (listed_sound name_at spell_name IsAny named_sound ts) (λ x p.
    then (closed_at x.1) _ (λ r. x.1 ≡ put mark.Close r) _ (closed_sound x.1) (λ r c. p.0 ∙ ap (spell_listed spell_name x.0) c)))
    (λ r i. i)

dummies_sound : (is_function : Bool) (ts : List Token) → IfSome (dummies_at is_function ts) (Spelled spell_dummies (FitsDummies is_function) ts)
unfolding dummies_at
dummies_sound is_function ts = chosen (open_at ts) _ _ (λ r. ts ≡ put mark.Open r) (Spelled spell_dummies (FitsDummies is_function) ts) (open_sound ts)
    (tested is_function _ _ (Spelled spell_dummies (FitsDummies is_function) ts) (λ _. tt) (λ e. (refl, e)))
    (λ r i. then (dummy_names_at r) _ (λ x. r ≡ spell_listed spell_name x.0 (put mark.Close x.1)) _ (dummy_names_sound r) (λ x p. (i ∙ ap (put mark.Open) p, tt)))

module _ (n : ℕ) where
  abbrev pub IsDeclared : List Token → Declared → Type 0
  IsDeclared ts d = (ts ≡ spell_declared d) × FitsDeclared n d

  head_of_sound : (all : List Token) (prefixes : List Prefix) (is_function : Bool) (ts : List Token) → all ≡ spell_each spell_prefix prefixes (front (unit_word is_function) ts) → AreAll (FitsPrefix n) prefixes → IfSome (head_of prefixes is_function ts) (IsDeclared all)
  unfolding head_of
  head_of_sound all prefixes is_function ts a f =
      then (name_at ts) _ (IsName ts) _ (name_sound ts) (λ m i.
      then (dummies_at is_function m.1) _ (Spelled spell_dummies (FitsDummies is_function) m.1) _ (dummies_sound is_function m.1) (λ d p.
      then (suffixes_at (length d.1) d.1) _ (λ s. d.1 ≡ spell_each spell_suffix s []) _ (suffixes_sound (length d.1) d.1) (λ s q.
      (a ∙ ap (λ (r : List Token). spell_each spell_prefix prefixes (front (unit_word is_function) r)) (i ∙ ap (front m.0) (p.0 ∙ ap (spell_dummies d.0) q)), (f, p.1)))))

  prefixes_sound : (k : ℕ) (ts : List Token) → IfSome (prefixes_at n k ts) (λ x. (ts ≡ spell_each spell_prefix x.0.0 (front (unit_word x.0.1) x.1)) × AreAll (FitsPrefix n) x.0.0)
  unfolding prefixes_at
  prefixes_sound zero ts = tt
  prefixes_sound (suc k) ts = chosen (unit_word_at ts) _ _ (λ x. ts ≡ front (unit_word x.0) x.1) (λ x. (ts ≡ spell_each spell_prefix x.0.0 (front (unit_word x.0.1) x.1)) × AreAll (FitsPrefix n) x.0.0) (unit_word_sound ts)
      (then (prefix_at n ts) _ (Spelled spell_prefix (FitsPrefix n) ts) _ (prefix_sound n ts) (λ x p.
      then (prefixes_at n k x.1) _ (λ y. (x.1 ≡ spell_each spell_prefix y.0.0 (front (unit_word y.0.1) y.1)) × AreAll (FitsPrefix n) y.0.0) _ (prefixes_sound k x.1) (λ y q. (p.0 ∙ ap (spell_prefix x.0) q.0, (p.1, q.1)))))
      (λ u i. (i, tt))

  head_behind_sound : (all : List Token) (first : Prefix) (ts : List Token) → all ≡ spell_prefix first ts → FitsPrefix n first → IfSome (head_behind n first ts) (IsDeclared all)
  unfolding head_behind
  head_behind_sound all first ts a f =
      then (prefixes_at n (length ts) ts) _ (λ x. (ts ≡ spell_each spell_prefix x.0.0 (front (unit_word x.0.1) x.1)) × AreAll (FitsPrefix n) x.0.0) _ (prefixes_sound (length ts) ts) (λ x p.
      head_of_sound all (first ∷ x.0.0) x.0.1 x.1 (a ∙ ap (spell_prefix first) p.0) (f, p.1))

  -- ---- statements

  named_then : (make : List ℕ → Declared) (ts : List Token) (Q : Declared → Type 0) → ((name : List ℕ) → ts ≡ front name [] → Q (make name)) → IfSome (named_at make ts) Q
  unfolding named_at
  named_then make ts Q q = then (name_at ts) _ (IsName ts) Q (name_sound ts) (λ m i. ends_then (make m.0) m.1 Q (λ e. q m.0 (i ∙ ap (front m.0) e)))

  some_names : (c : Bool) (names : List (List ℕ)) → AreSome IsAny names → FitsNames c names
  some_names c [] s = absurd s
  some_names c (x ∷ xs) s = tt

  names_then : (make : Bool → List (List ℕ) → Declared) (ts : List Token) (Q : Declared → Type 0) → ((c : Bool) (names : List (List ℕ)) → ts ≡ spell_colons c (spell_listed spell_name names []) → FitsNames c names → Q (make c names)) → IfSome (names_at make ts) Q
  unfolding names_at
  names_then make [] Q q = q false [] refl refl
  names_then make (t ∷ ts) Q q =
      let c = maybe_colons_at (t ∷ ts) in
      then (listed_at name_at c.1) _ (Spelled (spell_listed spell_name) (AreSome IsAny) c.1) Q (listed_sound name_at spell_name IsAny named_sound c.1) (λ x p.
      ends_then (make c.0 x.0) x.1 Q (λ e. q c.0 x.0 (colons_are (t ∷ ts) ∙ ap (spell_colons c.0) (p.0 ∙ ap (spell_listed spell_name x.0) e)) (some_names c.0 x.0 p.1)))

  only_colon_sound : (ts : List Token) → IfSome (only_colon_at ts) (λ r. ts ≡ front (codes "only") (put mark.Colon r))
  unfolding only_colon_at
  only_colon_sound ts = then (this_at (codes "only") ts) _ (λ r. ts ≡ front (codes "only") r) _ (this_sound (codes "only") ts) (λ r i. pick r i (colon_at r) (colon_sound r))
    where
      pick : (r : List Token) → ts ≡ front (codes "only") r → (o : Option (List Token)) → IfSome o (λ s. r ≡ put mark.Colon s) → IfSome o (λ s. ts ≡ front (codes "only") (put mark.Colon s))
      pick r i None p = tt
      pick r i (Some s) p = i ∙ ap (front (codes "only")) p

  AreUses : List Token → UseList → Type 0
  AreUses ts u = (ts ≡ spell_uses u) × FitsUses u

  onlys_sound : (ts all : List Token) → all ≡ put mark.Comma (front (codes "only") (put mark.Colon ts)) → IfSome (onlys_at ts) (AreUses all)
  unfolding onlys_at AreUses
  onlys_sound [] all a = (a, tt)
  onlys_sound (t ∷ ts) all a = then (listed_at only_at (t ∷ ts)) _ (Spelled (spell_listed spell_only) (AreSome IsAny) (t ∷ ts)) _ (listed_sound only_at spell_only IsAny only_sound (t ∷ ts)) (λ x p.
      ends_then (Onlys x.0) x.1 _ (λ e. (a ∙ ap (λ (r : List Token). put mark.Comma (front (codes "only") (put mark.Colon r))) (p.0 ∙ ap (spell_listed spell_only x.0) e), tt)))

  renames_sound : (ts all : List Token) → all ≡ put mark.Comma ts → IfSome (renames_at ts) (AreUses all)
  unfolding renames_at AreUses
  renames_sound ts all a = then (listed_at rename_at ts) _ (Spelled (spell_listed spell_rename) (AreSome IsAny) ts) _ (listed_sound rename_at spell_rename IsAny rename_sound ts) (λ x p.
      ends_then (Renames x.0) x.1 _ (λ e. (a ∙ ap (put mark.Comma) (p.0 ∙ ap (spell_listed spell_rename x.0) e), p.1)))

  uses_sound : (ts : List Token) → IfSome (uses_at ts) (AreUses ts)
  unfolding uses_at AreUses
  uses_sound [] = (refl, tt)
  uses_sound (t ∷ ts) = then (comma_at (t ∷ ts)) _ (λ r. t ∷ ts ≡ put mark.Comma r) _ (comma_sound (t ∷ ts)) (λ r i.
      chosen (only_colon_at r) _ _ (λ s. r ≡ front (codes "only") (put mark.Colon s)) (AreUses (t ∷ ts)) (only_colon_sound r) (renames_sound r (t ∷ ts) i) (λ s j. onlys_sound s (t ∷ ts) (i ∙ ap (put mark.Comma) j)))

  module_then : (is_intrinsic : Bool) (ts : List Token) (Q : Declared → Type 0) → ((c : Bool) (name : List ℕ) (u : UseList) → ts ≡ spell_colons c (front name (spell_uses u)) → FitsUses u → Q (Use is_intrinsic c name u)) → IfSome (module_at is_intrinsic ts) Q
  unfolding module_at AreUses
  module_then is_intrinsic ts Q q =
      let c = maybe_colons_at ts in
      then (name_at c.1) _ (IsName c.1) Q (name_sound c.1) (λ m i.
      then (uses_at m.1) _ (AreUses m.1) Q (uses_sound m.1) (λ u p. q c.0 m.0 u (colons_are ts ∙ ap (spell_colons c.0) (i ∙ ap (front m.0) p.0)) p.1))

  -- what a word begins
  abbrev pub Opens : List ℕ → List Token → Declared → Type 0
  Opens w ts d = (front w ts ≡ spell_declared d) × FitsDeclared n d

  use_sound : (ts : List Token) → IfSome (use_at ts) (Opens (codes "use") ts)
  unfolding use_at
  use_sound ts = chosen (comma_at ts) _ _ (λ r. ts ≡ put mark.Comma r) (Opens (codes "use") ts) (comma_sound ts)
      (module_then false ts _ (λ c name u e f. (ap (front (codes "use")) e, f)))
      (λ r i. then (this_at (codes "intrinsic") r) _ (λ s. r ≡ front (codes "intrinsic") s) (Opens (codes "use") ts) (this_sound (codes "intrinsic") r) (λ s j.
      module_then true s _ (λ c name u e f. (ap (front (codes "use")) (i ∙ ap (put mark.Comma) (j ∙ ap (front (codes "intrinsic")) e)), f))))

  implicit_sound : (ts : List Token) → IfSome (implicit_at ts) (Opens (codes "implicit") ts)
  unfolding implicit_at
  implicit_sound ts = then (this_at (codes "none") ts) _ (λ r. ts ≡ front (codes "none") r) _ (this_sound (codes "none") ts) (λ r i. ends_then ImplicitNone r _ (λ e. (ap (front (codes "implicit")) (i ∙ ap (front (codes "none")) e), tt)))

  abstract_sound : (ts : List Token) → IfSome (abstract_at ts) (Opens (codes "abstract") ts)
  unfolding abstract_at
  abstract_sound ts = then (this_at (codes "interface") ts) _ (λ r. ts ≡ front (codes "interface") r) _ (this_sound (codes "interface") ts) (λ r i. ends_then (InterfaceStart true) r _ (λ e. (ap (front (codes "abstract")) (i ∙ ap (front (codes "interface")) e), tt)))

  variables_sound : (all : List Token) (t : TypeOf) (ts : List Token) → all ≡ spell_type t ts → FitsType n t → IfSome (variables_at n t ts) (IsDeclared all)
  unfolding variables_at
  variables_sound all t ts a f =
      then (behind_at (attr_at n) (length ts) ts) _ (Spelled (spell_behind spell_attr) (AreAll (FitsAttr n)) ts) _ (behind_sound (attr_at n) spell_attr (FitsAttr n) (attr_sound n) (length ts) ts) (λ b p.
      then (listed_at (entity_at n) (maybe_colons_at b.1).1) _ (Spelled (spell_listed spell_entity) (AreSome (FitsEntity n)) (maybe_colons_at b.1).1) _ (listed_sound (entity_at n) spell_entity (FitsEntity n) (entity_sound n) (maybe_colons_at b.1).1) (λ x q.
      ends_then (Variables t b.0 (maybe_colons_at b.1).0 x.0) x.1 _ (λ e.
      (a ∙ ap (spell_type t) (p.0 ∙ ap (spell_behind spell_attr b.0) (colons_are b.1 ∙ ap (spell_colons (maybe_colons_at b.1).0) (q.0 ∙ ap (spell_listed spell_entity x.0) e))), (f, p.1, q.1)))))

  typed_sound : (ts : List Token) → IfSome (typed_at n ts) (IsDeclared ts)
  unfolding typed_at behind_type
  typed_sound ts = then (type_at (expr_at n) ts) _ (λ x. (ts ≡ spell_type x.0 x.1) × FitsType n x.0) _ (type_sound (expr_at n) n (expr_sound n) ts) (λ x p.
      tested (begins_head x.1) _ _ (IsDeclared ts) (λ _. head_behind_sound ts (Returns x.0) x.1 p.0 p.1) (λ _. variables_sound ts x.0 x.1 p.0 p.1))

  type_start_sound : (ts : List Token) → IfSome (type_start_at ts) (Opens (codes "type") ts)
  unfolding type_start_at
  type_start_sound ts =
      then (behind_at type_attr_at (length ts) ts) _ (Spelled (spell_behind spell_type_attr) (AreAll IsAny) ts) _ (behind_sound type_attr_at spell_type_attr IsAny type_attr_sound (length ts) ts) (λ b p.
      then (name_at (maybe_colons_at b.1).1) _ (IsName (maybe_colons_at b.1).1) _ (name_sound (maybe_colons_at b.1).1) (λ m i.
      ends_then (TypeStart b.0 (maybe_colons_at b.1).0 m.0) m.1 _ (λ e.
      (ap (front (codes "type")) (p.0 ∙ ap (spell_behind spell_type_attr b.0) (colons_are b.1 ∙ ap (spell_colons (maybe_colons_at b.1).0) (i ∙ ap (front m.0) e))), tt))))

  pointers_sound : (all : List Token) (name : List ℕ) (ts : List Token) → all ≡ front (codes "procedure") (put mark.Open (front name (put mark.Close ts))) → IfSome (pointers_at name ts) (IsDeclared all)
  unfolding pointers_at
  pointers_sound all name ts a =
      then (comma_at ts) _ (λ r. ts ≡ put mark.Comma r) _ (comma_sound ts) (λ r i.
      then (this_at (codes "pointer") r) _ (λ s. r ≡ front (codes "pointer") s) _ (this_sound (codes "pointer") r) (λ s j.
      then (behind_at pointer_attr_at (length s) s) _ (Spelled (spell_behind spell_pointer_attr) (AreAll IsAny) s) _ (behind_sound pointer_attr_at spell_pointer_attr IsAny pointer_attr_sound (length s) s) (λ b p.
      then (colons_at b.1) _ (λ q. b.1 ≡ put mark.DoubleColon q) _ (colons_sound b.1) (λ q k.
      then (listed_at pointer_at q) _ (Spelled (spell_listed spell_pointer) (AreSome IsAny) q) _ (listed_sound pointer_at spell_pointer IsAny pointer_sound q) (λ x o.
      ends_then (Procedures name b.0 x.0) x.1 _ (λ e.
      (a ∙ ap (λ (w : List Token). front (codes "procedure") (put mark.Open (front name (put mark.Close w)))) (i ∙ ap (put mark.Comma) (j ∙ ap (front (codes "pointer")) (p.0 ∙ ap (spell_behind spell_pointer_attr b.0) (k ∙ ap (put mark.DoubleColon) (o.0 ∙ ap (spell_listed spell_pointer x.0) e))))), o.1)))))))

  procedure_sound : (ts : List Token) → IfSome (procedure_at ts) (Opens (codes "procedure") ts)
  unfolding procedure_at
  procedure_sound ts =
      then (open_at ts) _ (λ r. ts ≡ put mark.Open r) _ (open_sound ts) (λ r i.
      then (name_at r) _ (IsName r) _ (name_sound r) (λ m j.
      then (closed_at m.1) _ (λ q. m.1 ≡ put mark.Close q) _ (closed_sound m.1) (λ q c.
      pointers_sound (front (codes "procedure") ts) m.0 q (ap (front (codes "procedure")) (i ∙ ap (put mark.Open) (j ∙ ap (front m.0) c))))))

  end_name_sound : (what : Ended) (is_one_word : Bool) (all ts : List Token) → all ≡ spell_end what is_one_word ts → IfSome (end_name_at what is_one_word ts) (IsDeclared all)
  unfolding end_name_at
  end_name_sound OfProgram w all [] a = (a, tt)
  end_name_sound OfModule w all [] a = (a, tt)
  end_name_sound OfSubroutine w all [] a = (a, tt)
  end_name_sound OfFunction w all [] a = (a, tt)
  end_name_sound OfType w all [] a = (a, tt)
  end_name_sound OfInterface w all [] a = (a, tt)
  end_name_sound OfProgram w all (t ∷ ts) a = then (name_at (t ∷ ts)) _ (IsName (t ∷ ts)) _ (name_sound (t ∷ ts)) (λ m i. ends_then (EndOf OfProgram w (Some m.0)) m.1 _ (λ e. (a ∙ ap (spell_end OfProgram w) (i ∙ ap (front m.0) e), tt)))
  end_name_sound OfModule w all (t ∷ ts) a = then (name_at (t ∷ ts)) _ (IsName (t ∷ ts)) _ (name_sound (t ∷ ts)) (λ m i. ends_then (EndOf OfModule w (Some m.0)) m.1 _ (λ e. (a ∙ ap (spell_end OfModule w) (i ∙ ap (front m.0) e), tt)))
  end_name_sound OfSubroutine w all (t ∷ ts) a = then (name_at (t ∷ ts)) _ (IsName (t ∷ ts)) _ (name_sound (t ∷ ts)) (λ m i. ends_then (EndOf OfSubroutine w (Some m.0)) m.1 _ (λ e. (a ∙ ap (spell_end OfSubroutine w) (i ∙ ap (front m.0) e), tt)))
  end_name_sound OfFunction w all (t ∷ ts) a = then (name_at (t ∷ ts)) _ (IsName (t ∷ ts)) _ (name_sound (t ∷ ts)) (λ m i. ends_then (EndOf OfFunction w (Some m.0)) m.1 _ (λ e. (a ∙ ap (spell_end OfFunction w) (i ∙ ap (front m.0) e), tt)))
  end_name_sound OfType w all (t ∷ ts) a = then (name_at (t ∷ ts)) _ (IsName (t ∷ ts)) _ (name_sound (t ∷ ts)) (λ m i. ends_then (EndOf OfType w (Some m.0)) m.1 _ (λ e. (a ∙ ap (spell_end OfType w) (i ∙ ap (front m.0) e), tt)))
  end_name_sound OfInterface w all (t ∷ ts) a = tt

  end_by_sound : (w : List ℕ) (all ts : List Token) → all ≡ front (codes "end") (front w ts) → IfSome (end_by w ts) (IsDeclared all)
  unfolding end_by
  end_by_sound w all ts a =
      let as_word : (word : List ℕ) → bytes_eq w word ≡ true → all ≡ front (codes "end") (front word ts) = λ word e. a ∙ ap (front (codes "end")) (told word w (front w ts) ts refl e) in
      tested (bytes_eq w (codes "program")) _ _ (IsDeclared all) (λ e. end_name_sound OfProgram false all ts (as_word (codes "program") e)) (λ _.
      tested (bytes_eq w (codes "module")) _ _ (IsDeclared all) (λ e. end_name_sound OfModule false all ts (as_word (codes "module") e)) (λ _.
      tested (bytes_eq w (codes "subroutine")) _ _ (IsDeclared all) (λ e. end_name_sound OfSubroutine false all ts (as_word (codes "subroutine") e)) (λ _.
      tested (bytes_eq w (codes "function")) _ _ (IsDeclared all) (λ e. end_name_sound OfFunction false all ts (as_word (codes "function") e)) (λ _.
      tested (bytes_eq w (codes "type")) _ _ (IsDeclared all) (λ e. end_name_sound OfType false all ts (as_word (codes "type") e)) (λ _.
      tested (bytes_eq w (codes "interface")) _ _ (IsDeclared all) (λ e. end_name_sound OfInterface false all ts (as_word (codes "interface") e)) (λ _. tt))))))

  end_sound : (ts : List Token) → IfSome (end_at ts) (Opens (codes "end") ts)
  unfolding end_at
  end_sound [] = (refl, tt)
  end_sound (t ∷ ts) = then (name_at (t ∷ ts)) _ (IsName (t ∷ ts)) _ (name_sound (t ∷ ts)) (λ m i. end_by_sound m.0 (front (codes "end") (t ∷ ts)) m.1 (ap (front (codes "end")) i))

  joined_sound : (w : List ℕ) (ts : List Token) → IfSome (joined_by w ts) (Opens w ts)
  unfolding joined_by
  joined_sound w ts =
      let as_word : (word : List ℕ) → bytes_eq w word ≡ true → front w ts ≡ front word ts = λ word e. told word w (front w ts) ts refl e in
      tested (bytes_eq w (codes "endprogram")) _ _ (Opens w ts) (λ e. end_name_sound OfProgram true (front w ts) ts (as_word (codes "endprogram") e)) (λ _.
      tested (bytes_eq w (codes "endmodule")) _ _ (Opens w ts) (λ e. end_name_sound OfModule true (front w ts) ts (as_word (codes "endmodule") e)) (λ _.
      tested (bytes_eq w (codes "endsubroutine")) _ _ (Opens w ts) (λ e. end_name_sound OfSubroutine true (front w ts) ts (as_word (codes "endsubroutine") e)) (λ _.
      tested (bytes_eq w (codes "endfunction")) _ _ (Opens w ts) (λ e. end_name_sound OfFunction true (front w ts) ts (as_word (codes "endfunction") e)) (λ _.
      tested (bytes_eq w (codes "endtype")) _ _ (Opens w ts) (λ e. end_name_sound OfType true (front w ts) ts (as_word (codes "endtype") e)) (λ _.
      tested (bytes_eq w (codes "endinterface")) _ _ (Opens w ts) (λ e. end_name_sound OfInterface true (front w ts) ts (as_word (codes "endinterface") e)) (λ _. tt))))))

  type_word_sound : (ts : List Token) → IfSome (type_word_at n ts) (Opens (codes "type") ts)
  unfolding type_word_at
  type_word_sound ts = chosen (open_at ts) _ _ (λ r. ts ≡ put mark.Open r) (Opens (codes "type") ts) (open_sound ts) (type_start_sound ts) (λ _ _. typed_sound (front (codes "type") ts))

  bare_sound : (w : List ℕ) (d : Declared) (ts : List Token) → front w [] ≡ spell_declared d → FitsDeclared n d → IfSome (ends d ts) (Opens w ts)
  bare_sound w d ts s f = ends_then d ts _ (λ e. (ap (front w) e ∙ s, f))

  opened : (w word : List ℕ) (ts : List Token) (o : Option Declared) → bytes_eq w word ≡ true → IfSome o (Opens word ts) → IfSome o (Opens w ts)
  opened w word ts None e p = tt
  opened w word ts (Some d) e p = (told word w (front w ts) ts refl e ∙ p.0, p.1)

  first_words_sound : (w : List ℕ) (ts : List Token) → IfSome (declared_by n w ts) (Opens w ts)
  unfolding declared_by
  first_words_sound w ts =
      let Q : Declared → Type 0 = Opens w ts in
      tested (bytes_eq w (codes "program")) _ _ Q (λ e. opened w (codes "program") ts _ e (named_then Program ts _ (λ m i. (ap (front (codes "program")) i, tt)))) (λ _.
      tested (bytes_eq w (codes "module")) _ _ Q (λ e. opened w (codes "module") ts _ e (named_then Module ts _ (λ m i. (ap (front (codes "module")) i, tt)))) (λ _.
      tested (bytes_eq w (codes "subroutine")) _ _ Q (λ e. opened w (codes "subroutine") ts _ e (head_of_sound (front (codes "subroutine") ts) [] false ts refl tt)) (λ _.
      tested (bytes_eq w (codes "function")) _ _ Q (λ e. opened w (codes "function") ts _ e (head_of_sound (front (codes "function") ts) [] true ts refl tt)) (λ _.
      tested (bytes_eq w (codes "recursive")) _ _ Q (λ e. opened w (codes "recursive") ts _ e (head_behind_sound (front (codes "recursive") ts) _ ts refl tt)) (λ _.
      tested (bytes_eq w (codes "contains")) _ _ Q (λ e. opened w (codes "contains") ts _ e (bare_sound (codes "contains") Contains ts refl tt)) (λ _.
      tested (bytes_eq w (codes "use")) _ _ Q (λ e. opened w (codes "use") ts _ e (use_sound ts)) (λ _.
      tested (bytes_eq w (codes "import")) _ _ Q (λ e. opened w (codes "import") ts _ e (names_then Import ts _ (λ c m i f. (ap (front (codes "import")) i, f)))) (λ _.
      tested (bytes_eq w (codes "implicit")) _ _ Q (λ e. opened w (codes "implicit") ts _ e (implicit_sound ts)) (λ _.
      tested (bytes_eq w (codes "interface")) _ _ Q (λ e. opened w (codes "interface") ts _ e (bare_sound (codes "interface") (InterfaceStart false) ts refl tt)) (λ _.
      tested (bytes_eq w (codes "abstract")) _ _ Q (λ e. opened w (codes "abstract") ts _ e (abstract_sound ts)) (λ _.
      tested (bytes_eq w (codes "public")) _ _ Q (λ e. opened w (codes "public") ts _ e (names_then (Accesses Public) ts _ (λ c m i f. (ap (front (codes "public")) i, f)))) (λ _.
      tested (bytes_eq w (codes "private")) _ _ Q (λ e. opened w (codes "private") ts _ e (names_then (Accesses Private) ts _ (λ c m i f. (ap (front (codes "private")) i, f)))) (λ _.
      tested (bytes_eq w (codes "save")) _ _ Q (λ e. opened w (codes "save") ts _ e (bare_sound (codes "save") SaveAll ts refl tt)) (λ _.
      tested (bytes_eq w (codes "procedure")) _ _ Q (λ e. opened w (codes "procedure") ts _ e (procedure_sound ts)) (λ _.
      tested (bytes_eq w (codes "end")) _ _ Q (λ e. opened w (codes "end") ts _ e (end_sound ts)) (λ _.
      tested (bytes_eq w (codes "type")) _ _ Q (λ e. opened w (codes "type") ts _ e (type_word_sound ts)) (λ _.
      tested (bytes_eq w (codes "integer")) _ _ Q (λ _. typed_sound (front w ts)) (λ _.
      tested (bytes_eq w (codes "logical")) _ _ Q (λ _. typed_sound (front w ts)) (λ _.
      tested (bytes_eq w (codes "character")) _ _ Q (λ _. typed_sound (front w ts)) (λ _. joined_sound w ts))))))))))))))))))))

  pub declared_sound : (ts : List Token) → IfSome (declared_at n ts) (IsDeclared ts)
  unfolding declared_at
  declared_sound ts = then (name_at ts) _ (IsName ts) _ (name_sound ts) (λ m i. pick m i (declared_by n m.0 m.1) (first_words_sound m.0 m.1))
    where
      pick : (m : List ℕ × List Token) → IsName ts m → (o : Option Declared) → IfSome o (Opens m.0 m.1) → IfSome o (IsDeclared ts)
      pick m i None p = tt
      pick m i (Some d) p = (i ∙ p.0, p.1)
