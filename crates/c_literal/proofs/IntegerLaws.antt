-- Integer constants: what is read is one, and what is one is read.
use Rattle.std.proofs.Common.{◌≡◌, ◌≢◌, ℕ, ◌+◌, ◌^◌, ◌<◌, ◌≤◌, Bool, true, false, cond, ◌||◌, eqb, nat_lt, List, [], ◌∷◌, ◌++◌, length, Option, Some, None, refl, sym, ap, subst, ◌∙◌, arith, lit≤, length-append}
use Rattle.std.proofs.lemmas.Bool.{eqb-true, eq-eqb}
use Rattle.std.proofs.lemmas.List.{append-nil}
use Rattle.std.specs.Prelude.{IfSome, MatchOption, slice_index}
use Rattle.std.specs.Char.{digit_value}
use Rattle.std.specs.Str.Parse.{IsNumeral, AllDigits, digits_value}
use Rattle.c_literal.specs.declared.integer.Radix.{Radix}
use Rattle.c_literal.specs.declared.integer.Radix.TheVariants as radix
use Rattle.c_literal.specs.declared.integer.LongSuffix.{LongSuffix}
use Rattle.c_literal.specs.declared.integer.LongSuffix.TheVariants.{Absent, Long, LongLong}
use Rattle.c_literal.specs.declared.integer.IntegerConstant.{IntegerConstant}
use Rattle.c_literal.specs.declared.suffix.Suffixes.{Suffixes}
use Rattle.c_literal.specs.Digits.{digits_at, in_range}
use Rattle.c_literal.specs.Literals.{NoDigit}
use Rattle.c_literal.specs.Integers.{Form, DecimalForm, OctalForm, SmallX, CapitalX, radix_of, spell_prefix, base_of, AreDigits, UnsignedForm, NoUnsigned, SmallU, CapitalU, spell_unsigned, asks_unsigned, LongForm, NoLong, SmallL, CapitalL, SmallLL, CapitalLL, spell_long, long_of, spell_suffix, IsConstant, IsNoConstant}
use Rattle.c_literal.specs.IntegerReading.{unsigned_at, second_at, long_at, ended, turned, suffix_from, suffix_at, behind_zero, radix_at, constant_with, valued, constant_from, constant_at}
use Rattle.c_literal.proofs.Elements.{octal_range}
use Rattle.c_literal.proofs.Runs.{below, is_below, counted_is, run_taken, Run, run_of}

-- ---- suffixes

-- the suffixes that a text consists of
pub record Suffixed (text : List ℕ) (s : Suffixes) : Type 0 where
  pub first : Bool
  pub unsigned_form : UnsignedForm
  pub long_form : LongForm
  pub spelled : text ≡ spell_suffix first unsigned_form long_form
  pub is : s ≡ record { is_unsigned = asks_unsigned unsigned_form; long = long_of long_form }

pub suffix_taken : (first : Bool) (u : UnsignedForm) (l : LongForm) → suffix_at (spell_suffix first u l) ≡ Some (record { is_unsigned = asks_unsigned u; long = long_of l })
unfolding suffix_at unsigned_at long_at
suffix_taken true NoUnsigned NoLong = refl
suffix_taken true NoUnsigned SmallL = refl
suffix_taken true NoUnsigned CapitalL = refl
suffix_taken true NoUnsigned SmallLL = refl
suffix_taken true NoUnsigned CapitalLL = refl
suffix_taken true SmallU NoLong = refl
suffix_taken true SmallU SmallL = refl
suffix_taken true SmallU CapitalL = refl
suffix_taken true SmallU SmallLL = refl
suffix_taken true SmallU CapitalLL = refl
suffix_taken true CapitalU NoLong = refl
suffix_taken true CapitalU SmallL = refl
suffix_taken true CapitalU CapitalL = refl
suffix_taken true CapitalU SmallLL = refl
suffix_taken true CapitalU CapitalLL = refl
suffix_taken false NoUnsigned NoLong = refl
suffix_taken false NoUnsigned SmallL = refl
suffix_taken false NoUnsigned CapitalL = refl
suffix_taken false NoUnsigned SmallLL = refl
suffix_taken false NoUnsigned CapitalLL = refl
suffix_taken false SmallU NoLong = refl
suffix_taken false SmallU SmallL = refl
suffix_taken false SmallU CapitalL = refl
suffix_taken false SmallU SmallLL = refl
suffix_taken false SmallU CapitalLL = refl
suffix_taken false CapitalU NoLong = refl
suffix_taken false CapitalU SmallL = refl
suffix_taken false CapitalU CapitalL = refl
suffix_taken false CapitalU SmallLL = refl
suffix_taken false CapitalU CapitalLL = refl

-- a suffix begins with no digit
suffix_ends : (base : ℕ) (first : Bool) (u : UnsignedForm) (l : LongForm) → base ≤ 16 → NoDigit base (spell_suffix first u l)
suffix_ends base true NoUnsigned NoLong b = tt
suffix_ends base true NoUnsigned SmallL b = omega arith
suffix_ends base true NoUnsigned CapitalL b = omega arith
suffix_ends base true NoUnsigned SmallLL b = omega arith
suffix_ends base true NoUnsigned CapitalLL b = omega arith
suffix_ends base true SmallU l b = omega arith
suffix_ends base true CapitalU l b = omega arith
suffix_ends base false NoUnsigned NoLong b = tt
suffix_ends base false SmallU NoLong b = omega arith
suffix_ends base false CapitalU NoLong b = omega arith
suffix_ends base false u SmallL b = omega arith
suffix_ends base false u CapitalL b = omega arith
suffix_ends base false u SmallLL b = omega arith
suffix_ends base false u CapitalLL b = omega arith

-- which unsigned suffix stands first
unsigned_sound : (text : List ℕ) → (u : UnsignedForm) × (text ≡ spell_unsigned u ++ (unsigned_at text).1) × ((unsigned_at text).0 ≡ asks_unsigned u)
unfolding unsigned_at
unsigned_sound [] = (NoUnsigned, refl, refl)
unsigned_sound (c ∷ cs) = go (eqb c 117) (eqb c 85) refl refl
  where
    P : Bool × List ℕ → Type 0
    P x = (u : UnsignedForm) × (c ∷ cs ≡ spell_unsigned u ++ x.1) × (x.0 ≡ asks_unsigned u)

    go : (b d : Bool) → eqb c 117 ≡ b → eqb c 85 ≡ d → P (cond (b || d) (true, cs) (false, c ∷ cs))
    go true d e f = (SmallU, ap (λ x. x ∷ cs) (eqb-true c 117 e), refl)
    go false true e f = (CapitalU, ap (λ x. x ∷ cs) (eqb-true c 85 f), refl)
    go false false e f = (NoUnsigned, refl, refl)

-- which long suffix stands first
long_sound : (text : List ℕ) → (l : LongForm) × (text ≡ spell_long l ++ (long_at text).1) × ((long_at text).0 ≡ long_of l)
unfolding long_at
long_sound [] = (NoLong, refl, refl)
long_sound (c ∷ cs) = go (eqb c 108) (eqb c 76) refl refl
  where
    P : LongSuffix × List ℕ → Type 0
    P x = (l : LongForm) × (c ∷ cs ≡ spell_long l ++ x.1) × (x.0 ≡ long_of l)

    small : (cs : List ℕ) → c ≡ 108 → (l : LongForm) × (c ∷ cs ≡ spell_long l ++ (second_at c cs).1) × ((second_at c cs).0 ≡ long_of l)
    small [] e = (SmallL, ap (λ x. x ∷ []) e, refl)
    small (d ∷ ds) e = again (eqb d c) refl
      where
        again : (b : Bool) → eqb d c ≡ b → (let x : LongSuffix × List ℕ = cond b (LongLong, ds) (Long, d ∷ ds) in (l : LongForm) × (c ∷ d ∷ ds ≡ spell_long l ++ x.1) × (x.0 ≡ long_of l))
        again true f = (SmallLL, ap (λ x. x ∷ d ∷ ds) e ∙ ap (λ x. 108 ∷ x ∷ ds) (eqb-true d c f ∙ e), refl)
        again false f = (SmallL, ap (λ x. x ∷ d ∷ ds) e, refl)

    capital : (cs : List ℕ) → c ≡ 76 → (l : LongForm) × (c ∷ cs ≡ spell_long l ++ (second_at c cs).1) × ((second_at c cs).0 ≡ long_of l)
    capital [] e = (CapitalL, ap (λ x. x ∷ []) e, refl)
    capital (d ∷ ds) e = again (eqb d c) refl
      where
        again : (b : Bool) → eqb d c ≡ b → (let x : LongSuffix × List ℕ = cond b (LongLong, ds) (Long, d ∷ ds) in (l : LongForm) × (c ∷ d ∷ ds ≡ spell_long l ++ x.1) × (x.0 ≡ long_of l))
        again true f = (CapitalLL, ap (λ x. x ∷ d ∷ ds) e ∙ ap (λ x. 76 ∷ x ∷ ds) (eqb-true d c f ∙ e), refl)
        again false f = (CapitalL, ap (λ x. x ∷ d ∷ ds) e, refl)

    go : (b d : Bool) → eqb c 108 ≡ b → eqb c 76 ≡ d → P (cond (b || d) (second_at c cs) (Absent, c ∷ cs))
    go true d e f = small cs (eqb-true c 108 e)
    go false true e f = capital cs (eqb-true c 76 f)
    go false false e f = (NoLong, refl, refl)

ended_sound : (b : Bool) (l : LongSuffix) (rest : List ℕ) → IfSome (ended b l rest) (λ s. (rest ≡ []) × (s ≡ record { is_unsigned = b; long = l }))
ended_sound b l [] = (refl, refl)
ended_sound b l (c ∷ cs) = tt

pub suffix_sound : (text : List ℕ) → IfSome (suffix_at text) (Suffixed text)
unfolding suffix_at
suffix_sound text = go (unsigned_at text) (unsigned_sound text)
  where
    then : (A : Type 0) (o : Option A) (P Q : A → Type 0) → IfSome o P → ((x : A) → P x → Q x) → IfSome o Q
    then A None P Q i f = tt
    then A (Some x) P Q i f = f x i

    go : (x : Bool × List ℕ) → (u : UnsignedForm) × (text ≡ spell_unsigned u ++ x.1) × (x.0 ≡ asks_unsigned u) → IfSome (suffix_from x.0 (long_at x.1)) (Suffixed text)
    go x r = by (x.0) refl (long_at x.1) (long_sound x.1)
      where
        by : (b : Bool) → x.0 ≡ b → (y : LongSuffix × List ℕ) → (l : LongForm) × (x.1 ≡ spell_long l ++ y.1) × (y.0 ≡ long_of l) → IfSome (suffix_from b y) (Suffixed text)
        by true e y q = then Suffixes (ended true y.0 y.1) _ (Suffixed text) (ended_sound true y.0 y.1) (λ s i. record {
          first = true;
          unsigned_form = r.0;
          long_form = q.0;
          spelled = r.1 ∙ ap (λ t. spell_unsigned r.0 ++ t) (q.1 ∙ ap (λ t. spell_long q.0 ++ t) i.0 ∙ append-nil (spell_long q.0));
          is = i.1 ∙ ap (λ b. record { is_unsigned = b; long = y.0 }) (sym e ∙ r.2) ∙ ap (λ l. record { is_unsigned = asks_unsigned r.0; long = l }) q.2;
        })
        by false e y q = last (unsigned_at y.1) (unsigned_sound y.1)
          where
            nothing : (u : UnsignedForm) → false ≡ asks_unsigned u → spell_unsigned u ≡ []
            nothing NoUnsigned f = refl
            nothing SmallU f = absurd (cc)
            nothing CapitalU f = absurd (cc)

            last : (z : Bool × List ℕ) → (u : UnsignedForm) × (y.1 ≡ spell_unsigned u ++ z.1) × (z.0 ≡ asks_unsigned u) → IfSome (turned y.0 z) (Suffixed text)
            last z w = then Suffixes (ended z.0 y.0 z.1) _ (Suffixed text) (ended_sound z.0 y.0 z.1) (λ s i. record {
              first = false;
              unsigned_form = w.0;
              long_form = q.0;
              spelled = r.1 ∙ ap (λ t. t ++ x.1) (nothing r.0 (sym e ∙ r.2)) ∙ q.1 ∙ ap (λ t. spell_long q.0 ++ t) (w.1 ∙ ap (λ t. spell_unsigned w.0 ++ t) i.0 ∙ append-nil (spell_unsigned w.0));
              is = i.1 ∙ ap (λ b. record { is_unsigned = b; long = y.0 }) w.2 ∙ ap (λ l. record { is_unsigned = asks_unsigned w.0; long = l }) q.2;
            })

-- ---- prefixes

-- what the first digit is
abbrev pub Begins : Radix → List ℕ → Type 0
Begins radix.Decimal ds = slice_index ds 0 ≢ 48
Begins radix.Octal ds = slice_index ds 0 ≡ 48
Begins radix.Hexadecimal ds = Unit {0}

abbrev Prefixed : List ℕ → Radix × List ℕ → Type 0
Prefixed text x = (f : Form) × (radix_of f ≡ x.0) × (text ≡ spell_prefix f ++ x.1) × Begins x.0 x.1

prefix_sound : (text : List ℕ) → Prefixed text (radix_at text)
unfolding radix_at
prefix_sound [] = (DecimalForm, refl, refl, λ e. absurd (cc))
prefix_sound (c ∷ cs) = go (eqb c 48) refl
  where
    zero_first : (cs : List ℕ) → c ≡ 48 → Prefixed (c ∷ cs) (behind_zero (c ∷ cs) cs)
    zero_first [] e = (OctalForm, refl, refl, e)
    zero_first (d ∷ ds) e = by (eqb d 120) (eqb d 88) refl refl
      where
        by : (a b : Bool) → eqb d 120 ≡ a → eqb d 88 ≡ b → Prefixed (c ∷ d ∷ ds) (cond (a || b) (radix.Hexadecimal, ds) (radix.Octal, c ∷ d ∷ ds))
        by true b f g = (SmallX, refl, ap (λ x. x ∷ d ∷ ds) e ∙ ap (λ x. 48 ∷ x ∷ ds) (eqb-true d 120 f), tt)
        by false true f g = (CapitalX, refl, ap (λ x. x ∷ d ∷ ds) e ∙ ap (λ x. 48 ∷ x ∷ ds) (eqb-true d 88 g), tt)
        by false false f g = (OctalForm, refl, refl, e)

    go : (b : Bool) → eqb c 48 ≡ b → Prefixed (c ∷ cs) (cond b (behind_zero (c ∷ cs) cs) (radix.Decimal, c ∷ cs))
    go true e = zero_first cs (eqb-true c 48 e)
    go false e = (DecimalForm, refl, refl, λ s. grind (arith))

-- ---- constants

are_digits : (r : Radix) (ds rest : List ℕ) → Begins r (ds ++ rest) → 0 < length ds → AllDigits (base_of r) ds → AreDigits r ds
are_digits r [] rest b n a = absurd (omega arith)
are_digits radix.Decimal (d ∷ ds) rest b n a = ((n, a), b)
are_digits radix.Octal (d ∷ ds) rest b n a = ((n, a), b)
are_digits radix.Hexadecimal (d ∷ ds) rest b n a = (n, a)

based : (r : Radix) → (1 ≤ base_of r) × (base_of r ≤ 16)
based radix.Decimal = (lit≤ tt, lit≤ tt)
based radix.Octal = (lit≤ tt, lit≤ tt)
based radix.Hexadecimal = (lit≤ tt, lit≤ tt)

pub constant_sound : (text : List ℕ) → IfSome (constant_at text) (IsConstant text)
unfolding constant_at
constant_sound text = go (radix_at text) (prefix_sound text)
  where
    go : (x : Radix × List ℕ) → Prefixed text x → IfSome (constant_from x.0 x.1 (digits_at (base_of x.0) (Some 0) x.1)) (IsConstant text)
    go x p = whole (run_of (base_of x.0) (Some 0) x.1)
      where
        result : (r : Run (base_of x.0) (Some 0) x.1) → 0 < length r.digits → digits_value (base_of x.0) r.digits < 2 ^ 64 → (o : Option Suffixes) → IfSome o (Suffixed r.rest)
            → IfSome (constant_with x.0 (digits_value (base_of x.0) r.digits) o) (IsConstant text)
        result r n l None s = tt
        result r n l (Some s) i = let P : Radix → Type 0 = λ q. AreDigits q r.digits × (digits_value (base_of q) r.digits < 2 ^ 64) in
            let B : List ℕ → Type 0 = λ t. Begins x.0 t in
            let m : P (radix_of p.0) = subst P (sym p.1) (are_digits x.0 r.digits r.rest (subst B r.parts p.3) n r.are, l) in
            record {
              form = p.0;
              digits = r.digits;
              unsigned_is_first = i.first;
              unsigned_form = i.unsigned_form;
              long_form = i.long_form;
              spelled = p.2 ∙ ap (λ t. spell_prefix p.0 ++ t) (r.parts ∙ ap (λ t. r.digits ++ t) i.spelled);
              are_digits = m.0;
              in_range = m.1;
              read = ap (λ t. record { value = digits_value (base_of x.0) r.digits; radix = x.0; is_unsigned = t.is_unsigned; long = t.long }) i.is
                  ∙ ap (λ q. record { value = digits_value (base_of q) r.digits; radix = q; is_unsigned = asks_unsigned i.unsigned_form; long = long_of i.long_form }) (sym p.1);
            }

        with_value : (r : Run (base_of x.0) (Some 0) x.1) → 0 < length r.digits → IfSome (valued x.0 (in_range (digits_value (base_of x.0) r.digits)) r.rest) (IsConstant text)
        with_value r n = fitting (nat_lt (digits_value (base_of x.0) r.digits) (2 ^ 64)) refl
          where
            fitting : (b : Bool) → nat_lt (digits_value (base_of x.0) r.digits) (2 ^ 64) ≡ b → IfSome (valued x.0 (cond b (Some (digits_value (base_of x.0) r.digits)) None) r.rest) (IsConstant text)
            fitting true e = result r n (below (digits_value (base_of x.0) r.digits) (2 ^ 64) e) (suffix_at r.rest) (suffix_sound r.rest)
            fitting false e = tt

        taken : (r : Run (base_of x.0) (Some 0) x.1) (b : Bool) → eqb (length r.rest) (length x.1) ≡ b → IfSome (cond b None (valued x.0 (in_range (digits_value (base_of x.0) r.digits)) r.rest)) (IsConstant text)
        taken r true e = tt
        taken r false e = with_value r (nonempty r.digits r.parts)
          where
            unequal : length r.rest ≡ length x.1 → eqb (length r.rest) (length x.1) ≡ false → ⊥
            unequal s f = grind (arith)

            nonempty : (ds : List ℕ) → x.1 ≡ ds ++ r.rest → 0 < length ds
            nonempty [] f = absurd (unequal (sym (ap length f)) e)
            nonempty (d ∷ ds) f = omega arith

        whole : Run (base_of x.0) (Some 0) x.1 → IfSome (constant_from x.0 x.1 (digits_at (base_of x.0) (Some 0) x.1)) (IsConstant text)
        whole r = let same : digits_at (base_of x.0) (Some 0) x.1 ≡ (in_range (digits_value (base_of x.0) r.digits), r.rest) =
            r.read ∙ ap (λ v. (v, r.rest)) (counted_is (base_of x.0) 0 r.digits (based x.0).0) in
            let Q : Option ℕ × List ℕ → Type 0 = λ y. IfSome (constant_from x.0 x.1 y) (IsConstant text) in
            subst Q (sym same) (taken r (eqb (length r.rest) (length x.1)) refl)

-- the text behind a prefix that is read
behind : (r : Radix) (ds rest : List ℕ) (s : Suffixes) → IsNumeral (base_of r) ds → NoDigit (base_of r) rest → digits_value (base_of r) ds < 2 ^ 64 → suffix_at rest ≡ Some s
    → constant_from r (ds ++ rest) (digits_at (base_of r) (Some 0) (ds ++ rest)) ≡ Some (record { value = digits_value (base_of r) ds; radix = r; is_unsigned = s.is_unsigned; long = s.long })
behind r ds rest s i n l e =
    ap (λ x. constant_from r (ds ++ rest) x) (run_taken (base_of r) (Some 0) ds rest i.1 n ∙ ap (λ v. (v, rest)) (counted_is (base_of r) 0 ds (based r).0 ∙ small))
    ∙ ap (λ t. cond t None (constant_with r (digits_value (base_of r) ds) (suffix_at rest))) (unequal (length-append ds rest))
    ∙ ap (λ o. constant_with r (digits_value (base_of r) ds) o) e
  where
    small : in_range (digits_value (base_of r) ds) ≡ Some (digits_value (base_of r) ds)
    small = ap (λ t. cond t (Some (digits_value (base_of r) ds)) None) (is_below (digits_value (base_of r) ds) (2 ^ 64) l)

    unequal : length (ds ++ rest) ≡ length ds + length rest → eqb (length rest) (length (ds ++ rest)) ≡ false
    unequal f = let some : 0 < length ds = i.0 in grind (arith)

-- an octal digit is no x
not_x : (c x : ℕ) → 56 ≤ x → digit_value c < 8 → eqb c x ≡ false
not_x c x l d = let high : c ≤ 55 = (octal_range c d).1 in apart (λ e. omega arith)
  where
    apart : (c ≡ x → ⊥) → eqb c x ≡ false
    apart n = grind (arith)

-- the prefix is read
prefix_taken : (f : Form) (ds : List ℕ) (first : Bool) (u : UnsignedForm) (l : LongForm) → AreDigits (radix_of f) ds
    → radix_at (spell_prefix f ++ (ds ++ spell_suffix first u l)) ≡ (radix_of f, ds ++ spell_suffix first u l)
unfolding radix_at
prefix_taken DecimalForm [] first u l a = absurd (omega (arith, a.0.0))
prefix_taken DecimalForm (d ∷ ds) first u l a = ap (λ b. cond b (behind_zero (d ∷ (ds ++ spell_suffix first u l)) (ds ++ spell_suffix first u l)) (radix.Decimal, d ∷ (ds ++ spell_suffix first u l))) (is_apart a.1)
  where
    is_apart : d ≢ 48 → eqb d 48 ≡ false
    is_apart n = grind (arith)
prefix_taken OctalForm [] first u l a = absurd (omega (arith, a.0.0))
prefix_taken OctalForm (d ∷ ds) first u l a = ap (λ b. cond b (behind_zero (d ∷ (ds ++ spell_suffix first u l)) (ds ++ spell_suffix first u l)) (radix.Decimal, d ∷ (ds ++ spell_suffix first u l))) (eq-eqb d 48 a.1)
    ∙ no_x ds a.0.1.1
  where
    suffixed : (first : Bool) (u : UnsignedForm) (l : LongForm) → behind_zero (d ∷ spell_suffix first u l) (spell_suffix first u l) ≡ (radix.Octal, d ∷ spell_suffix first u l)
    suffixed true NoUnsigned NoLong = refl
    suffixed true NoUnsigned SmallL = refl
    suffixed true NoUnsigned CapitalL = refl
    suffixed true NoUnsigned SmallLL = refl
    suffixed true NoUnsigned CapitalLL = refl
    suffixed true SmallU l = refl
    suffixed true CapitalU l = refl
    suffixed false NoUnsigned NoLong = refl
    suffixed false SmallU NoLong = refl
    suffixed false CapitalU NoLong = refl
    suffixed false u SmallL = refl
    suffixed false u CapitalL = refl
    suffixed false u SmallLL = refl
    suffixed false u CapitalLL = refl

    no_x : (ds : List ℕ) → AllDigits 8 ds → behind_zero (d ∷ (ds ++ spell_suffix first u l)) (ds ++ spell_suffix first u l) ≡ (radix.Octal, d ∷ (ds ++ spell_suffix first u l))
    no_x [] b = suffixed first u l
    no_x (c ∷ cs) b = ap (λ t. cond (t || eqb c 88) (radix.Hexadecimal, cs ++ spell_suffix first u l) (radix.Octal, d ∷ c ∷ (cs ++ spell_suffix first u l))) (not_x c 120 (lit≤ tt) b.0)
        ∙ ap (λ t. cond t (radix.Hexadecimal, cs ++ spell_suffix first u l) (radix.Octal, d ∷ c ∷ (cs ++ spell_suffix first u l))) (not_x c 88 (lit≤ tt) b.0)
prefix_taken SmallX ds first u l a = refl
prefix_taken CapitalX ds first u l a = refl

pub constant_taken : (text : List ℕ) (c : IntegerConstant) → IsConstant text c → constant_at text ≡ Some c
unfolding constant_at
constant_taken text c k =
    ap constant_at k.spelled
    ∙ ap (λ x. constant_from x.0 x.1 (digits_at (base_of x.0) (Some 0) x.1)) (prefix_taken k.form k.digits k.unsigned_is_first k.unsigned_form k.long_form k.are_digits)
    ∙ behind (radix_of k.form) k.digits (spell_suffix k.unsigned_is_first k.unsigned_form k.long_form) (record { is_unsigned = asks_unsigned k.unsigned_form; long = long_of k.long_form })
    (numeral (radix_of k.form) k.are_digits) (suffix_ends (base_of (radix_of k.form)) k.unsigned_is_first k.unsigned_form k.long_form (based (radix_of k.form)).1)
    k.in_range (suffix_taken k.unsigned_is_first k.unsigned_form k.long_form)
    ∙ ap Some (sym k.read)
  where
    numeral : (r : Radix) → AreDigits r k.digits → IsNumeral (base_of r) k.digits
    numeral radix.Decimal a = a.0
    numeral radix.Octal a = a.0
    numeral radix.Hexadecimal a = a

pub constant_read : (text : List ℕ) → MatchOption (constant_at text) (IsNoConstant text) (IsConstant text)
constant_read text = go (constant_at text) refl (constant_sound text)
  where
    is_none_of : Option IntegerConstant → Bool
    is_none_of None = true
    is_none_of (Some x) = false

    go : (o : Option IntegerConstant) → constant_at text ≡ o → IfSome o (IsConstant text) → MatchOption o (IsNoConstant text) (IsConstant text)
    go None e i = λ c k. let f : true ≡ false = ap is_none_of (sym e ∙ constant_taken text c k) in absurd (cc)
    go (Some c) e i = i

pub one_constant : (text : List ℕ) (c d : IntegerConstant) → IsConstant text c → IsConstant text d → c ≡ d
one_constant text c d k l = ap one (sym (constant_taken text c k) ∙ constant_taken text d l)
  where
    one : Option IntegerConstant → IntegerConstant
    one None = c
    one (Some e) = e
