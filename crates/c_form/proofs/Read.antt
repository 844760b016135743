-- What the readers of literals answer, as tests.
use Rattle.std.proofs.Common.{◌≡◌, ℕ, Bool, true, false, cond, eqb, List, [], ◌∷◌, ◌++◌, length, Option, Some, None, refl, sym, ap, ◌∙◌, arith}
use Rattle.std.proofs.lemmas.Bool.{eqb-true, eq-eqb}
use Rattle.std.specs.Prelude.{MatchOption, IfSome, is_some, IsTrue, ◌↔◌}
use Rattle.c_literal.specs.declared.integer.IntegerConstant.{IntegerConstant}
use Rattle.c_literal.specs.Integers.{IsConstant, IsNoConstant}
use Rattle.c_literal.specs.IntegerReading.{constant_at}
use Rattle.c_literal.specs.Literals.{IsCharacter, IsNoCharacter, IsString, IsNoString, IsBetween, IsUnquoted}
use Rattle.c_literal.specs.LiteralReading.{Found, element_at, bytes_at}
use Rattle.c_literal.specs.Digits.{seen}
use Rattle.c_literal.proofs.IntegerLaws.{constant_read, constant_taken}
use Rattle.c_literal.proofs.Strings.{no_character, a_character, too_long, string_read}
use Rattle.c_form.specs.Forms.{is_number, is_whole, is_character, is_string, before_last, between}

pub number_is : (s : List ℕ) (c : IntegerConstant) → IsConstant s c → is_number s ≡ true
unfolding is_number
number_is s c h = ap is_some (constant_taken s c h)

pub number_isnt : (s : List ℕ) → IsNoConstant s → is_number s ≡ false
unfolding is_number
number_isnt s no_constant = pick (constant_at s) (constant_read s)
  where
    pick : (o : Option IntegerConstant) → MatchOption o (IsNoConstant s) (IsConstant s) → is_some o ≡ false
    pick None h = refl
    pick (Some c) h = absurd (no_constant c h)

pub character_is : (s : List ℕ) (b : ℕ) → IsCharacter s b → is_character s ≡ true
unfolding is_character
character_is s b h = pick (element_at 39 s) refl
  where
    pick : (o : Found) → element_at 39 s ≡ o → is_whole o ≡ true
    pick None e = absurd (no_character s e b h)
    pick (Some x) e = ended (eqb (length x.1) 0) refl
      where
        ended : (v : Bool) → eqb (length x.1) 0 ≡ v → eqb (length x.1) 0 ≡ true
        ended true f = f
        ended false f = absurd (too_long s x.0 x.1 e (λ z. let t = eq-eqb (length x.1) 0 z in cc) b h)

pub character_isnt : (s : List ℕ) → IsNoCharacter s → is_character s ≡ false
unfolding is_character
character_isnt s no_byte = pick (element_at 39 s) refl
  where
    pick : (o : Found) → element_at 39 s ≡ o → is_whole o ≡ false
    pick None e = refl
    pick (Some x) e = ended (eqb (length x.1) 0) refl
      where
        ended : (v : Bool) → eqb (length x.1) 0 ≡ v → eqb (length x.1) 0 ≡ false
        ended false f = f
        ended true f = absurd (no_byte x.0 (a_character s x.0 x.1 e (eqb-true (length x.1) 0 f)))

pub string_same : (s : List ℕ) (r : Bool) → IsTrue r ↔ ((bytes : List ℕ) × IsString s bytes) → r ≡ is_string s
unfolding is_string
string_same s r h = pick r (bytes_at (length s) [] s) (string_read s) h
  where
    pick : (r : Bool) (o : Option (List ℕ)) → MatchOption o (IsNoString s) (IsString s) → IsTrue r ↔ ((bytes : List ℕ) × IsString s bytes) → r ≡ is_some o
    pick true None m h = let x = h.0 refl in absurd (m x.0 x.1)
    pick true (Some bytes) m h = refl
    pick false None m h = refl
    pick false (Some bytes) m h = absurd (let t = h.1 (bytes, m) in cc)

-- ---- quotes

last_is : (quote : ℕ) (content : List ℕ) → before_last quote (content ++ quote ∷ []) ≡ Some content
last_is quote [] = rw (eq-eqb quote quote refl) refl
last_is quote (c ∷ []) = ap (seen (λ (l : List ℕ). c ∷ l)) (last_is quote [])
last_is quote (c ∷ d ∷ ds) = ap (seen (λ (l : List ℕ). c ∷ l)) (last_is quote (d ∷ ds))

pub between_is : (quote : ℕ) (s content : List ℕ) → IsBetween quote s content → between quote s ≡ Some content
unfolding between
between_is quote s content e = rw e (rw (eq-eqb quote quote refl) (last_is quote content))

last_spelled : (quote : ℕ) (s content : List ℕ) → before_last quote s ≡ Some content → s ≡ content ++ quote ∷ []
last_spelled quote [] content e = cc
last_spelled quote (c ∷ []) content e = pick (eqb c quote) refl e
  where
    pick : (b : Bool) → eqb c quote ≡ b → cond b (Some []) None ≡ Some content → c ∷ [] ≡ content ++ quote ∷ []
    pick true f e = let none : [] ≡ content = cc in rw (← none) (ap (λ k. k ∷ []) (eqb-true c quote f))
    pick false f e = cc
last_spelled quote (c ∷ d ∷ ds) content e = pick (before_last quote (d ∷ ds)) refl e (last_spelled quote (d ∷ ds))
  where
    pick : (o : Option (List ℕ)) → before_last quote (d ∷ ds) ≡ o → seen (λ (l : List ℕ). c ∷ l) o ≡ Some content → ((l : List ℕ) → before_last quote (d ∷ ds) ≡ Some l → d ∷ ds ≡ l ++ quote ∷ []) → c ∷ d ∷ ds ≡ content ++ quote ∷ []
    pick None f e ih = cc
    pick (Some l) f e ih = let same : c ∷ l ≡ content = cc in rw (← same) (ap (λ k. c ∷ k) (ih l f))

pub between_isnt : (quote : ℕ) (s : List ℕ) → IsUnquoted quote s → between quote s ≡ None
unfolding between
between_isnt quote [] none = refl
between_isnt quote (c ∷ cs) none = pick (eqb c quote) refl (before_last quote cs) refl
  where
    pick : (b : Bool) → eqb c quote ≡ b → (o : Option (List ℕ)) → before_last quote cs ≡ o → cond b (before_last quote cs) None ≡ None
    pick false f o e = refl
    pick true f None e = e
    pick true f (Some content) e = absurd (none content (rw (eqb-true c quote f) (ap (λ l. quote ∷ l) (last_spelled quote cs content e))))
