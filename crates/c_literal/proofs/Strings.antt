-- Strings: the bytes of all elements.
use Rattle.std.proofs.Common.{◌≡◌, ℕ, zero, suc, ◌<◌, ◌≤◌, List, [], ◌∷◌, ◌++◌, length, Option, Some, None, refl, sym, ap, subst, ◌∙◌, arith, append_assoc, Bool, true, false, eqb}
use Rattle.std.proofs.lemmas.List.{append-nil}
use Rattle.std.proofs.lemmas.Bool.{eqb-true}
use Rattle.std.specs.Prelude.{IfSome, MatchOption}
use Rattle.c_literal.specs.Digits.{choose}
use Rattle.c_literal.specs.Literals.{Element, spell, spell_all, Gives, GiveAll, IsString, IsNoString, IsCharacter, IsNoCharacter}
use Rattle.c_literal.specs.LiteralReading.{Found, element_at, bytes_at}
use Rattle.c_literal.proofs.Elements.{Read, element_sound, element_taken, spelled_longer}

-- an element that is read leaves less
pub shorter : (quote : ℕ) (text : List ℕ) → IfSome (element_at quote text) (λ x. length x.1 < length text)
shorter quote text = go (element_at quote text) (element_sound quote text)
  where
    go : (o : Found) → IfSome o (Read quote text) → IfSome o (λ x. length x.1 < length text)
    go None r = tt
    go (Some x) r = let P : List ℕ → Type 0 = λ t. length x.1 < length t in subst P (sym r.1) (spelled_longer quote r.0 x.1 x.0 r.2)

-- the elements of what is read
pub record Elements (bytes text read : List ℕ) : Type 0 where
  pub elements : List Element
  pub more : List ℕ
  pub spelled : text ≡ spell_all elements
  pub give : GiveAll elements more
  pub are : read ≡ bytes ++ more

pub bytes_sound : (k : ℕ) (bytes text : List ℕ) → IfSome (bytes_at k bytes text) (Elements bytes text)
unfolding bytes_at
bytes_sound k bytes [] = record { elements = []; more = []; spelled = refl; give = tt; are = sym (append-nil bytes) }
bytes_sound zero bytes (c ∷ cs) = tt
bytes_sound (suc k) bytes (c ∷ cs) = go (λ x. bytes_sound k (bytes ++ x.0 ∷ []) x.1) (element_at 34 (c ∷ cs)) (element_sound 34 (c ∷ cs))
  where
    behind : (x : ℕ × List ℕ) → Read 34 (c ∷ cs) x → (o : Option (List ℕ)) → IfSome o (Elements (bytes ++ x.0 ∷ []) x.1) → IfSome o (Elements bytes (c ∷ cs))
    behind x r None i = tt
    behind x r (Some all) i = record {
      elements = r.0 ∷ i.elements;
      more = x.0 ∷ i.more;
      spelled = r.1 ∙ ap (spell r.0) i.spelled;
      give = ((let P : List ℕ → Type 0 = λ t. Gives 34 r.0 t x.0 in subst P i.spelled r.2), i.give);
      are = i.are ∙ append_assoc bytes (x.0 ∷ []) i.more;
    }

    go : ((x : ℕ × List ℕ) → IfSome (bytes_at k (bytes ++ x.0 ∷ []) x.1) (Elements (bytes ++ x.0 ∷ []) x.1)) → (o : Found) → IfSome o (Read 34 (c ∷ cs)) → IfSome (choose o None (λ x. bytes_at k (bytes ++ x.0 ∷ []) x.1)) (Elements bytes (c ∷ cs))
    go again None r = tt
    go again (Some x) r = behind x r (bytes_at k (bytes ++ x.0 ∷ []) x.1) (again x)

pub bytes_taken : (k : ℕ) (bytes : List ℕ) (es : List Element) (bs : List ℕ) → GiveAll es bs → length (spell_all es) ≤ k → bytes_at k bytes (spell_all es) ≡ Some (bytes ++ bs)
unfolding bytes_at
bytes_taken k bytes [] [] g l = ap Some (sym (append-nil bytes))
bytes_taken k bytes [] (b ∷ bs) g l = absurd g
bytes_taken k bytes (e ∷ es) [] g l = absurd g
bytes_taken k bytes (e ∷ es) (b ∷ bs) g l = enough (λ j more. bytes_taken j (bytes ++ b ∷ []) es bs g.1 more) k l (spell e (spell_all es)) refl
  where
    longer : length (spell_all es) < length (spell e (spell_all es))
    longer = spelled_longer 34 e (spell_all es) b g.0

    enough : ((j : ℕ) → length (spell_all es) ≤ j → bytes_at j (bytes ++ b ∷ []) (spell_all es) ≡ Some ((bytes ++ b ∷ []) ++ bs)) → (k : ℕ) → length (spell e (spell_all es)) ≤ k → (text : List ℕ) → spell e (spell_all es) ≡ text → bytes_at k bytes text ≡ Some (bytes ++ b ∷ bs)
    enough again k l [] same = absurd (let s : length (spell e (spell_all es)) ≡ 0 = ap length same in let m : length (spell_all es) < length (spell e (spell_all es)) = longer in omega arith)
    enough again zero l (c ∷ cs) same = absurd (let m : length (spell_all es) < length (spell e (spell_all es)) = longer in omega arith)
    enough again (suc k) l (c ∷ cs) same =
        ap (λ t. choose (element_at 34 t) None (λ x. bytes_at k (bytes ++ x.0 ∷ []) x.1)) (sym same)
        ∙ ap (λ o. choose o None (λ x. bytes_at k (bytes ++ x.0 ∷ []) x.1)) (element_taken 34 e (spell_all es) b g.0)
        ∙ again k (let m : length (spell_all es) < length (spell e (spell_all es)) = longer in omega arith)
        ∙ ap Some (append_assoc bytes (b ∷ []) bs)

-- a string is read
pub string_taken : (text bytes : List ℕ) → IsString text bytes → bytes_at (length text) [] text ≡ Some bytes
string_taken text bytes s = let P : List ℕ → Type 0 = λ t. bytes_at (length t) [] t ≡ Some bytes in
    subst P (sym s.spelled) (bytes_taken (length (spell_all s.elements)) [] s.elements bytes s.give (omega arith))

-- what is read is a string, and what is a string is read
pub string_read : (text : List ℕ) → MatchOption (bytes_at (length text) [] text) (IsNoString text) (IsString text)
string_read text = go (bytes_at (length text) [] text) refl (bytes_sound (length text) [] text)
  where
    go : (o : Option (List ℕ)) → bytes_at (length text) [] text ≡ o → IfSome o (Elements [] text) → MatchOption o (IsNoString text) (IsString text)
    go None e i = λ bytes s. absurd (let f : bytes_at (length text) [] text ≡ Some bytes = string_taken text bytes s in let g : None ≡ Some bytes = sym e ∙ f in absurd (cc))
    go (Some all) e i = let P : List ℕ → Type 0 = λ bs. IsString text bs in
        subst P (sym i.are) (record { elements = i.elements; spelled = i.spelled; give = i.give })

abbrev is_none_of : Found → Bool
is_none_of None = true
is_none_of (Some x) = false

-- ---- a character constant is one element

pub character_taken : (text : List ℕ) (byte : ℕ) → IsCharacter text byte → element_at 39 text ≡ Some (byte, [])
character_taken text byte s = ap (element_at 39) s.spelled ∙ element_taken 39 s.element [] byte s.gives

pub no_character : (text : List ℕ) → element_at 39 text ≡ None → IsNoCharacter text
no_character text e byte s = let f : true ≡ false = ap is_none_of (sym e ∙ character_taken text byte s) in absurd (cc)

pub a_character : (text : List ℕ) (byte : ℕ) (rest : List ℕ) → element_at 39 text ≡ Some (byte, rest) → length rest ≡ 0 → IsCharacter text byte
a_character text byte [] e l = let P : Found → Type 0 = λ o. IfSome o (Read 39 text) in
    let r : Read 39 text (byte, []) = subst P e (element_sound 39 text) in record { element = r.0; spelled = r.1; gives = r.2 }
a_character text byte (c ∷ cs) e l = absurd (omega arith)

pub too_long : (text : List ℕ) (byte : ℕ) (rest : List ℕ) → element_at 39 text ≡ Some (byte, rest) → (length rest ≡ 0 → ⊥) → IsNoCharacter text
too_long text byte rest e n other s = n (ap length (ap left (sym e ∙ character_taken text other s)))
  where
    left : Found → List ℕ
    left None = []
    left (Some x) = x.1

-- ---- one step of a loop

pub step : (k : ℕ) (bytes rest : List ℕ) (x : ℕ × List ℕ) → element_at 34 rest ≡ Some x → length rest ≤ k → (j : ℕ) × (length x.1 ≤ j) × (bytes_at k bytes rest ≡ bytes_at j (bytes ++ x.0 ∷ []) x.1)
unfolding bytes_at element_at
step k bytes [] x e l = absurd (let f : true ≡ false = ap is_none_of e in absurd (cc))
step zero bytes (c ∷ cs) x e l = absurd (omega arith)
step (suc k) bytes (c ∷ cs) x e l = (k, at_most, ap (λ o. choose o None (λ y. bytes_at k (bytes ++ y.0 ∷ []) y.1)) e)
  where
    at_most : length x.1 ≤ k
    at_most = let P : Found → Type 0 = λ o. IfSome o (λ y. length y.1 < length (c ∷ cs)) in
        let s : length x.1 < length (c ∷ cs) = subst P e (shorter 34 (c ∷ cs)) in omega arith

pub stuck : (k : ℕ) (bytes rest : List ℕ) → element_at 34 rest ≡ None → (rest ≡ [] → ⊥) → bytes_at k bytes rest ≡ None
unfolding bytes_at
stuck k bytes [] e n = absurd (n refl)
stuck zero bytes (c ∷ cs) e n = refl
stuck (suc k) bytes (c ∷ cs) e n = ap (λ o. choose o None (λ y. bytes_at k (bytes ++ y.0 ∷ []) y.1)) e

pub done : (k : ℕ) (bytes : List ℕ) → bytes_at k bytes [] ≡ Some bytes
unfolding bytes_at
done zero bytes = refl
done (suc k) bytes = refl

-- ---- the ends of a loop

-- a text that has no element where it isn't empty is no string
pub no_string : (text : List ℕ) → bytes_at (length text) [] text ≡ None → IsNoString text
no_string text e = let P : Option (List ℕ) → Type 0 = λ o. MatchOption o (IsNoString text) (IsString text) in
    subst P e (string_read text)

pub a_string : (text bytes : List ℕ) → bytes_at (length text) [] text ≡ Some bytes → IsString text bytes
a_string text bytes e = let P : Option (List ℕ) → Type 0 = λ o. MatchOption o (IsNoString text) (IsString text) in
    subst P e (string_read text)

pub isnt_empty : (rest : List ℕ) → eqb (length rest) 0 ≡ false → rest ≡ [] → ⊥
isnt_empty [] e f = absurd (cc)
isnt_empty (c ∷ cs) e f = absurd (cc)

pub is_empty : (rest : List ℕ) → eqb (length rest) 0 ≡ true → rest ≡ []
is_empty [] e = refl
is_empty (c ∷ cs) e = absurd (let n : suc (length cs) ≡ 0 = eqb-true (suc (length cs)) 0 e in omega arith)

-- the loop has come to its end
pub ended_at : (k : ℕ) (bytes rest text : List ℕ) → bytes_at k bytes rest ≡ bytes_at (length text) [] text → rest ≡ [] → bytes_at (length text) [] text ≡ Some bytes
ended_at k bytes rest text i e = sym i ∙ ap (bytes_at k bytes) e ∙ done k bytes

-- ---- one reading

left_of : Option (List ℕ) → List ℕ
left_of None = []
left_of (Some bs) = bs

pub one_string : (text bs cs : List ℕ) → IsString text bs → IsString text cs → bs ≡ cs
unfolding left_of
one_string text bs cs s t = ap left_of (sym (string_taken text bs s) ∙ string_taken text cs t)

byte_of : Found → ℕ
byte_of None = 0
byte_of (Some x) = x.0

pub one_character : (text : List ℕ) (b c : ℕ) → IsCharacter text b → IsCharacter text c → b ≡ c
unfolding byte_of
one_character text b c s t = ap byte_of (sym (character_taken text b s) ∙ character_taken text c t)
