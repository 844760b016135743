-- Elements between quotes: what is read is one, and what is one is read.
use Rattle.std.proofs.Common.{◌≡◌, ◌≢◌, ℕ, suc, ◌+◌, ◌-◌, ◌*◌, ◌^◌, ◌<◌, ◌≤◌, Bool, true, false, cond, ◌||◌, nat_lt, eqb, List, [], ◌∷◌, ◌++◌, length, Option, Some, None, refl, sym, ap, subst, ◌∙◌, arith, ◌⊎◌, inl, inr, length-append}
use Rattle.std.proofs.Common.{lit≤}
use Rattle.std.proofs.lemmas.Bool.{eqb-true}
use Rattle.std.specs.Prelude.{IfSome}
use Rattle.std.specs.Char.{digit_value}
use Rattle.std.specs.Str.Parse.{IsNumeral, AllDigits, digits_value, digits_value_after}
use Rattle.c_literal.specs.Digits.{choose, digit_at, digits_at, in_range}
use Rattle.c_literal.specs.Literals.{NoDigit, Element, Plain, Simple, Octal, Hexadecimal, spell, simple_value, Gives}
use Rattle.c_literal.specs.LiteralReading.{narrow, narrowed, third_at, second_at, octal_at, hexadecimal_from, hexadecimal_at, escape_at, element_at}
use Rattle.c_literal.proofs.Runs.{below, above, is_below, is_above, counted_is, run_taken, Run, run_of}

-- ---- octal digits

pub digit_taken : (radix c : ℕ) (cs : List ℕ) → digit_value c < radix → digit_at radix (c ∷ cs) ≡ Some (digit_value c, cs)
unfolding digit_at
digit_taken radix c cs l = ap (λ b. cond b (Some (digit_value c, cs)) None) (is_below (digit_value c) radix l)

pub digit_absent : (radix : ℕ) (text : List ℕ) → NoDigit radix text → digit_at radix text ≡ None
unfolding digit_at
digit_absent radix [] n = refl
digit_absent radix (c ∷ cs) n = ap (λ b. cond b (Some (digit_value c, cs)) None) (is_above (digit_value c) radix n)

-- at most m octal digits behind a number, as many as there are
pub record Upto (m n : ℕ) (text : List ℕ) (x : ℕ × List ℕ) : Type 0 where
  pub digits : List ℕ
  pub parts : text ≡ digits ++ x.1
  pub are : AllDigits 8 digits
  pub few : length digits ≤ m
  pub longest : (length digits ≡ m) ⊎ NoDigit 8 x.1
  pub value : x.0 ≡ digits_value_after 8 n digits

none_left : (m n : ℕ) (text : List ℕ) → NoDigit 8 text → Upto m n text (n, text)
none_left m n text e = record { digits = []; parts = refl; are = tt; few = omega arith; longest = inr e; value = refl }

more : (m : ℕ) (c n k : ℕ) (cs : List ℕ) (x : ℕ × List ℕ) → digit_value c < 8 → k ≡ n * 8 + digit_value c → Upto m k cs x → Upto (suc m) n (c ∷ cs) x
more m c n k cs x l e u = record { digits = c ∷ u.digits; parts = ap (λ t. c ∷ t) u.parts; are = (l, u.are); few = few; longest = longest u.longest; value = u.value ∙ ap (λ i. digits_value_after 8 i u.digits) e }
  where
    few : length (c ∷ u.digits) ≤ suc m
    few = let f = u.few in omega arith

    longest : (length u.digits ≡ m) ⊎ NoDigit 8 x.1 → (length (c ∷ u.digits) ≡ suc m) ⊎ NoDigit 8 x.1
    longest (inl e) = inl (ap suc e)
    longest (inr e) = inr e

third_sound : (n : ℕ) (text : List ℕ) → Upto 1 n text (third_at n text)
unfolding third_at digit_at
third_sound n [] = none_left 1 n [] tt
third_sound n (c ∷ cs) = go (nat_lt (digit_value c) 8) refl
  where
    full : digit_value c < 8 → Upto 0 (n * 8 + digit_value c) cs (n * 8 + digit_value c, cs)
    full l = record { digits = []; parts = refl; are = tt; few = omega arith; longest = inl refl; value = refl }

    go : (b : Bool) → nat_lt (digit_value c) 8 ≡ b → Upto 1 n (c ∷ cs) (choose {A = ℕ × List ℕ} (cond b (Some (digit_value c, cs)) None) (n, c ∷ cs) (λ x. (n * 8 + x.0, x.1)))
    go true e = let l = below (digit_value c) 8 e in more 0 c n (n * 8 + digit_value c) cs (n * 8 + digit_value c, cs) l refl (full l)
    go false e = none_left 1 n (c ∷ cs) (above (digit_value c) 8 e)

second_sound : (n : ℕ) (text : List ℕ) → Upto 2 n text (second_at n text)
unfolding second_at digit_at
second_sound n [] = none_left 2 n [] tt
second_sound n (c ∷ cs) = go (nat_lt (digit_value c) 8) refl
  where
    go : (b : Bool) → nat_lt (digit_value c) 8 ≡ b → Upto 2 n (c ∷ cs) (choose {A = ℕ × List ℕ} (cond b (Some (digit_value c, cs)) None) (n, c ∷ cs) (λ x. third_at (n * 8 + x.0) x.1))
    go true e = more 1 c n (n * 8 + digit_value c) cs (third_at (n * 8 + digit_value c) cs) (below (digit_value c) 8 e) refl (third_sound (n * 8 + digit_value c) cs)
    go false e = none_left 2 n (c ∷ cs) (above (digit_value c) 8 e)

-- an element stands before the rest and gives the byte
abbrev pub Read : ℕ → List ℕ → ℕ × List ℕ → Type 0
Read quote text x = (e : Element) × (text ≡ spell e x.1) × Gives quote e x.1 x.0

narrow_sound : (P : ℕ × List ℕ → Type 0) (n : ℕ) (rest : List ℕ) → (n < 256 → P (n, rest)) → IfSome (narrow n rest) P
narrow_sound P n rest f = go (nat_lt n 256) refl
  where
    go : (b : Bool) → nat_lt n 256 ≡ b → IfSome (cond b (Some (n, rest)) None) P
    go true e = f (below n 256 e)
    go false e = tt

octal_sound : (quote : ℕ) (text : List ℕ) → IfSome (octal_at text) (Read quote (92 ∷ text))
unfolding octal_at digit_at
octal_sound quote [] = tt
octal_sound quote (c ∷ cs) = go (nat_lt (digit_value c) 8) refl
  where
    with_digits : (x : ℕ × List ℕ) → Upto 3 0 (c ∷ cs) x → 1 ≤ length (c ∷ cs) → x.0 < 256 → (x.1 ≡ c ∷ cs → ⊥) → Read quote (92 ∷ c ∷ cs) x
    with_digits x u l b not_all = (Octal u.digits, ap (λ t. 92 ∷ t) u.parts, record { fits = ((nonempty u.digits u.parts, u.are), u.few, u.longest); stands_for = (u.value, b) })
      where
        nonempty : (ds : List ℕ) → c ∷ cs ≡ ds ++ x.1 → 0 < length ds
        nonempty [] e = absurd (not_all (sym e))
        nonempty (d ∷ ds) e = omega arith

    shorter : (x : ℕ × List ℕ) → Upto 2 (digit_value c) cs x → x.1 ≡ c ∷ cs → ⊥
    shorter x u e = let a : length cs ≡ length (u.digits ++ x.1) = ap length u.parts in
        let b : length x.1 ≡ length (c ∷ cs) = ap length e in
        let s : length (u.digits ++ x.1) ≡ length u.digits + length x.1 = length-append u.digits x.1 in omega arith

    go : (b : Bool) → nat_lt (digit_value c) 8 ≡ b → IfSome (choose {A = ℕ × List ℕ} (cond b (Some (digit_value c, cs)) None) None (λ x. narrow (second_at x.0 x.1).0 (second_at x.0 x.1).1)) (Read quote (92 ∷ c ∷ cs))
    go true e = let u = second_sound (digit_value c) cs in
        narrow_sound (Read quote (92 ∷ c ∷ cs)) (second_at (digit_value c) cs).0 (second_at (digit_value c) cs).1
        (λ b. with_digits (second_at (digit_value c) cs) (more 2 c 0 (digit_value c) cs (second_at (digit_value c) cs) (below (digit_value c) 8 e) (omega arith) u) (omega arith) b (shorter (second_at (digit_value c) cs) u))
    go false e = tt

-- ---- hexadecimal digits

hexadecimal_sound : (quote : ℕ) (text : List ℕ) → IfSome (hexadecimal_at text) (Read quote (92 ∷ 120 ∷ text))
unfolding hexadecimal_at
hexadecimal_sound quote text = go (run_of 16 (Some 0) text)
  where
    P : ℕ × List ℕ → Type 0
    P = Read quote (92 ∷ 120 ∷ text)

    with_digits : (r : Run 16 (Some 0) text) → (length r.rest ≡ length text → ⊥) → digits_value 16 r.digits < 256 → P (digits_value 16 r.digits, r.rest)
    with_digits r not_all b = (Hexadecimal r.digits, ap (λ t. 92 ∷ 120 ∷ t) r.parts, record { fits = ((nonempty r.digits r.parts, r.are), r.ends); stands_for = (refl, b) })
      where
        nonempty : (ds : List ℕ) → text ≡ ds ++ r.rest → 0 < length ds
        nonempty [] e = absurd (not_all (sym (ap length e)))
        nonempty (d ∷ ds) e = omega arith

    valued : (r : Run 16 (Some 0) text) → (length r.rest ≡ length text → ⊥) → IfSome (narrowed (in_range (digits_value 16 r.digits)) r.rest) P
    valued r not_all = fitting (nat_lt (digits_value 16 r.digits) (2 ^ 64))
      where
        fitting : (b : Bool) → IfSome (narrowed (cond b (Some (digits_value 16 r.digits)) None) r.rest) P
        fitting true = narrow_sound P (digits_value 16 r.digits) r.rest (with_digits r not_all)
        fitting false = tt

    taken : (r : Run 16 (Some 0) text) (b : Bool) → eqb (length r.rest) (length text) ≡ b → IfSome (cond b None (narrowed (in_range (digits_value 16 r.digits)) r.rest)) P
    taken r true e = tt
    taken r false e = valued r (λ same. absurd (unequal same e))
      where
        unequal : length r.rest ≡ length text → eqb (length r.rest) (length text) ≡ false → ⊥
        unequal s f = grind (arith)

    go : Run 16 (Some 0) text → IfSome (hexadecimal_from text (digits_at 16 (Some 0) text)) P
    go r = let same : digits_at 16 (Some 0) text ≡ (in_range (digits_value 16 r.digits), r.rest) = r.read ∙ ap (λ v. (v, r.rest)) (counted_is 16 0 r.digits (lit≤ tt)) in
        let Q : Option ℕ × List ℕ → Type 0 = λ x. IfSome (hexadecimal_from text x) P in
        subst Q (sym same) (taken r (eqb (length r.rest) (length text)) refl)

-- ---- escape sequences and elements

escape_sound : (quote : ℕ) (text : List ℕ) → IfSome (escape_at text) (Read quote (92 ∷ text))
unfolding escape_at
escape_sound quote [] = tt
escape_sound quote (c ∷ cs) = go (eqb c 120) refl
  where
    P : ℕ × List ℕ → Type 0
    P = Read quote (92 ∷ c ∷ cs)

    simple : (v : Option ℕ) → simple_value c ≡ v → IfSome (choose v (octal_at (c ∷ cs)) (λ byte. Some (byte, cs))) P
    simple None e = octal_sound quote (c ∷ cs)
    simple (Some byte) e = (Simple c, refl, record { fits = tt; stands_for = e })

    go : (b : Bool) → eqb c 120 ≡ b → IfSome (cond b (hexadecimal_at cs) (choose (simple_value c) (octal_at (c ∷ cs)) (λ byte. Some (byte, cs)))) P
    go true e = let Q : ℕ → Type 0 = λ d. IfSome (hexadecimal_at cs) (Read quote (92 ∷ d ∷ cs)) in subst Q (sym (eqb-true c 120 e)) (hexadecimal_sound quote cs)
    go false e = simple (simple_value c) refl

apart : (a b : ℕ) → eqb a b ≡ false → a ≢ b
apart a b e s = grind (arith)

is_apart : (a b : ℕ) → a ≢ b → eqb a b ≡ false
is_apart a b n = grind (arith)

pub element_sound : (quote : ℕ) (text : List ℕ) → IfSome (element_at quote text) (Read quote text)
unfolding element_at
element_sound quote [] = tt
element_sound quote (c ∷ cs) = go (eqb c 92) refl
  where
    P : ℕ × List ℕ → Type 0
    P = Read quote (c ∷ cs)

    plain : (b d : Bool) → eqb c quote ≡ b → eqb c 10 ≡ d → eqb c 92 ≡ false → IfSome (cond (b || d) None (Some (c, cs))) P
    plain true d e f g = tt
    plain false true e f g = tt
    plain false false e f g = (Plain c, refl, record { fits = (apart c quote e, apart c 92 g, apart c 10 f); stands_for = refl })

    go : (b : Bool) → eqb c 92 ≡ b → IfSome (cond b (escape_at cs) (cond (eqb c quote || eqb c 10) None (Some (c, cs)))) P
    go true e = let Q : ℕ → Type 0 = λ d. IfSome (escape_at cs) (Read quote (d ∷ cs)) in subst Q (sym (eqb-true c 92 e)) (escape_sound quote cs)
    go false e = plain (eqb c quote) (eqb c 10) refl refl e

-- an element has a character or more
pub spelled_longer : (quote : ℕ) (e : Element) (rest : List ℕ) (byte : ℕ) → Gives quote e rest byte → length rest < length (spell e rest)
spelled_longer quote (Plain c) rest byte g = omega arith
spelled_longer quote (Simple c) rest byte g = omega arith
spelled_longer quote (Octal ds) rest byte g = let s : length (ds ++ rest) ≡ length ds + length rest = length-append ds rest in omega arith
spelled_longer quote (Hexadecimal ds) rest byte g = let s : length (ds ++ rest) ≡ length ds + length rest = length-append ds rest in omega arith

-- ---- what is an element is read

third_taken : (n : ℕ) (ds rest : List ℕ) → AllDigits 8 ds → length ds ≤ 1 → (length ds ≡ 1) ⊎ NoDigit 8 rest → third_at n (ds ++ rest) ≡ (digits_value_after 8 n ds, rest)
unfolding third_at
third_taken n [] rest a f (inl e) = absurd (cc)
third_taken n [] rest a f (inr e) = ap (λ o. choose o (n, rest) (λ x. (n * 8 + x.0, x.1))) (digit_absent 8 rest e)
third_taken n (c ∷ []) rest a f l = ap (λ o. choose o (n, c ∷ rest) (λ x. (n * 8 + x.0, x.1))) (digit_taken 8 c rest a.0)
third_taken n (c ∷ d ∷ ds) rest a f l = absurd (omega arith)

shifted : (k : ℕ) (ds rest : List ℕ) → (suc (length ds) ≡ suc k) ⊎ NoDigit 8 rest → (length ds ≡ k) ⊎ NoDigit 8 rest
shifted k ds rest (inl e) = inl (omega arith)
shifted k ds rest (inr e) = inr e

second_taken : (n : ℕ) (ds rest : List ℕ) → AllDigits 8 ds → length ds ≤ 2 → (length ds ≡ 2) ⊎ NoDigit 8 rest → second_at n (ds ++ rest) ≡ (digits_value_after 8 n ds, rest)
unfolding second_at
second_taken n [] rest a f (inl e) = absurd (cc)
second_taken n [] rest a f (inr e) = ap (λ o. choose o (n, rest) (λ x. third_at (n * 8 + x.0) x.1)) (digit_absent 8 rest e)
second_taken n (c ∷ ds) rest a f l = ap (λ o. choose o (n, c ∷ (ds ++ rest)) (λ x. third_at (n * 8 + x.0) x.1)) (digit_taken 8 c (ds ++ rest) a.0)
    ∙ third_taken (n * 8 + digit_value c) ds rest a.1 (omega arith) (shifted 1 ds rest l)

narrow_taken : (n : ℕ) (rest : List ℕ) → n < 256 → narrow n rest ≡ Some (n, rest)
narrow_taken n rest l = ap (λ b. cond b (Some (n, rest)) None) (is_below n 256 l)

octal_taken : (ds rest : List ℕ) → IsNumeral 8 ds → length ds ≤ 3 → (length ds ≡ 3) ⊎ NoDigit 8 rest → digits_value 8 ds < 256 → octal_at (ds ++ rest) ≡ Some (digits_value 8 ds, rest)
unfolding octal_at
octal_taken [] rest i f l b = absurd (omega (arith, i.0))
octal_taken (c ∷ ds) rest i f l b = ap (λ o. choose o None (λ x. narrow (second_at x.0 x.1).0 (second_at x.0 x.1).1)) (digit_taken 8 c (ds ++ rest) i.1.0)
    ∙ ap (λ x. narrow x.0 x.1) (second_taken (digit_value c) ds rest i.1.1 (omega arith) (shifted 2 ds rest l))
    ∙ ap (λ n. narrow (digits_value_after 8 n ds) rest) (omega arith)
    ∙ narrow_taken (digits_value 8 (c ∷ ds)) rest b

hexadecimal_taken : (ds rest : List ℕ) → IsNumeral 16 ds → NoDigit 16 rest → digits_value 16 ds < 256 → hexadecimal_at (ds ++ rest) ≡ Some (digits_value 16 ds, rest)
unfolding hexadecimal_at
hexadecimal_taken ds rest i n b =
    ap (λ x. hexadecimal_from (ds ++ rest) x) (run_taken 16 (Some 0) ds rest i.1 n ∙ ap (λ v. (v, rest)) (counted_is 16 0 ds (lit≤ tt) ∙ small))
    ∙ ap (λ t. cond t None (narrow (digits_value 16 ds) rest)) (unequal (length-append ds rest))
    ∙ narrow_taken (digits_value 16 ds) rest b
  where
    small : in_range (digits_value 16 ds) ≡ Some (digits_value 16 ds)
    small = ap (λ t. cond t (Some (digits_value 16 ds)) None) (is_below (digits_value 16 ds) (2 ^ 64) (omega (arith, b)))

    unequal : length (ds ++ rest) ≡ length ds + length rest → eqb (length rest) (length (ds ++ rest)) ≡ false
    unequal e = let some : 0 < length ds = i.0 in grind (arith)

-- the digits 0 to 7
pub octal_range : (c : ℕ) → digit_value c < 8 → (48 ≤ c) × (c ≤ 55)
octal_range c l = at (nat_lt c 48) refl l
  where
    at58 : (b : Bool) → nat_lt c 58 ≡ b → 48 ≤ c → cond b (c - 48) (cond (nat_lt c 65) 36 (cond (nat_lt c 91) (c - 55) (cond (nat_lt c 97) 36 (cond (nat_lt c 123) (c - 87) 36)))) < 8 → (48 ≤ c) × (c ≤ 55)
    at58 true e f m = (f, omega arith)
    at58 false e f m = absurd (at65 (nat_lt c 65) refl m)
      where
        at123 : (b : Bool) → nat_lt c 97 ≡ false → cond b (c - 87) 36 < 8 → ⊥
        at123 true f n = let g : 97 ≤ c = above c 97 f in omega arith
        at123 false f n = omega arith

        at97 : (b : Bool) → nat_lt c 97 ≡ b → cond b 36 (cond (nat_lt c 123) (c - 87) 36) < 8 → ⊥
        at97 true f n = omega arith
        at97 false f n = at123 (nat_lt c 123) f n

        at91 : (b : Bool) → nat_lt c 65 ≡ false → cond b (c - 55) (cond (nat_lt c 97) 36 (cond (nat_lt c 123) (c - 87) 36)) < 8 → ⊥
        at91 true f n = let g : 65 ≤ c = above c 65 f in omega arith
        at91 false f n = at97 (nat_lt c 97) refl n

        at65 : (b : Bool) → nat_lt c 65 ≡ b → cond b 36 (cond (nat_lt c 91) (c - 55) (cond (nat_lt c 97) 36 (cond (nat_lt c 123) (c - 87) 36))) < 8 → ⊥
        at65 true f n = omega arith
        at65 false f n = at91 (nat_lt c 91) f n

    at : (b : Bool) → nat_lt c 48 ≡ b → cond b 36 (cond (nat_lt c 58) (c - 48) (cond (nat_lt c 65) 36 (cond (nat_lt c 91) (c - 55) (cond (nat_lt c 97) 36 (cond (nat_lt c 123) (c - 87) 36))))) < 8 → (48 ≤ c) × (c ≤ 55)
    at true e m = absurd (omega arith)
    at false e m = at58 (nat_lt c 58) refl (above c 48 e) m

-- no digit is the letter of a simple escape sequence or x
digit_is_no_letter : (c : ℕ) → (48 ≤ c) × (c ≤ 55) → (eqb c 120 ≡ false) × (simple_value c ≡ None)
digit_is_no_letter c r = let low : 48 ≤ c = r.0 in let high : c ≤ 55 = r.1 in (
  is_apart c 120 (λ e. omega arith),
  past 39 39 (is_apart c 39 (λ e. omega arith)) (past 34 34 (is_apart c 34 (λ e. omega arith)) (past 63 63 (is_apart c 63 (λ e. omega arith))
      (past 92 92 (is_apart c 92 (λ e. omega arith)) (past 97 7 (is_apart c 97 (λ e. omega arith)) (past 98 8 (is_apart c 98 (λ e. omega arith))
      (past 102 12 (is_apart c 102 (λ e. omega arith)) (past 110 10 (is_apart c 110 (λ e. omega arith)) (past 114 13 (is_apart c 114 (λ e. omega arith))
      (past 116 9 (is_apart c 116 (λ e. omega arith)) (past 118 11 (is_apart c 118 (λ e. omega arith)) refl)))))))))),
)
  where
    past : (d v : ℕ) {rest : Option ℕ} → eqb c d ≡ false → rest ≡ None → cond (eqb c d) (Some v) rest ≡ None
    past d v {rest} e n = ap (λ b. cond b (Some v) rest) e ∙ n

octal_escape : (ds rest : List ℕ) → IsNumeral 8 ds → escape_at (ds ++ rest) ≡ octal_at (ds ++ rest)
unfolding escape_at
octal_escape [] rest i = absurd (omega (arith, i.0))
octal_escape (c ∷ ds) rest i = let no = digit_is_no_letter c (octal_range c i.1.0) in
    ap (λ b. cond b (hexadecimal_at (ds ++ rest)) (choose (simple_value c) (octal_at (c ∷ (ds ++ rest))) (λ byte. Some (byte, ds ++ rest)))) no.0
    ∙ ap (λ o. choose o (octal_at (c ∷ (ds ++ rest))) (λ byte. Some (byte, ds ++ rest))) no.1

-- x is no letter of a simple escape sequence
simple_is_not_x : (c n : ℕ) → simple_value c ≡ Some n → eqb c 120 ≡ false
simple_is_not_x c n e = go (eqb c 120) refl
  where
    go : (b : Bool) → eqb c 120 ≡ b → b ≡ false
    go false f = refl
    go true f = absurd (let P : ℕ → Type 0 = λ d. simple_value d ≡ Some n in let g : None ≡ Some n = subst P (eqb-true c 120 f) e in absurd (cc))

pub element_taken : (quote : ℕ) (e : Element) (rest : List ℕ) (byte : ℕ) → Gives quote e rest byte → element_at quote (spell e rest) ≡ Some (byte, rest)
unfolding element_at escape_at
element_taken quote (Plain c) rest byte g = let f = g.fits in
    ap (λ b. cond b (escape_at rest) (cond (eqb c quote || eqb c 10) None (Some (c, rest)))) (is_apart c 92 f.1)
    ∙ ap (λ b. cond (b || eqb c 10) None (Some (c, rest))) (is_apart c quote f.0)
    ∙ ap (λ b. cond b None (Some (c, rest))) (is_apart c 10 f.2)
    ∙ ap (λ n. Some (n, rest)) (sym g.stands_for)
element_taken quote (Simple c) rest byte g =
    ap (λ b. cond b (hexadecimal_at rest) (choose (simple_value c) (octal_at (c ∷ rest)) (λ n. Some (n, rest)))) (simple_is_not_x c byte g.stands_for)
    ∙ ap (λ o. choose o (octal_at (c ∷ rest)) (λ n. Some (n, rest))) g.stands_for
element_taken quote (Octal ds) rest byte g = let f = g.fits in let v = g.stands_for in
    octal_escape ds rest f.0 ∙ octal_taken ds rest f.0 f.1 f.2 (let P : ℕ → Type 0 = λ n. n < 256 in subst P v.0 v.1) ∙ ap (λ n. Some (n, rest)) (sym v.0)
element_taken quote (Hexadecimal ds) rest byte g = let f = g.fits in let v = g.stands_for in
    hexadecimal_taken ds rest f.0 f.1 (let P : ℕ → Type 0 = λ n. n < 256 in subst P v.0 v.1) ∙ ap (λ n. Some (n, rest)) (sym v.0)
