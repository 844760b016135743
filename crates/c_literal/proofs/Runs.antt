-- A run of digits, and its number.
use Rattle.std.proofs.Common.{◌≡◌, ℕ, ◌+◌, ◌*◌, ◌^◌, ◌<◌, ◌≤◌, Bool, true, false, cond, nat_lt, List, [], ◌∷◌, ◌++◌, Option, Some, None, refl, sym, ap, ◌∙◌, arith}
use Rattle.std.proofs.Math.Nat.{le-mul_of_pos_right}
use Rattle.std.specs.Char.{digit_value}
use Rattle.std.specs.Str.Parse.{AllDigits, digits_value_after}
use Rattle.c_literal.specs.Digits.{in_range, counted, digits_at}
use Rattle.c_literal.specs.Literals.{NoDigit}

-- a comparison, as facts
pub below : (m n : ℕ) → nat_lt m n ≡ true → m < n
below m n e = grind (arith)

pub above : (m n : ℕ) → nat_lt m n ≡ false → n ≤ m
above m n e = grind (arith)

pub is_below : (m n : ℕ) → m < n → nat_lt m n ≡ true
is_below m n e = grind (arith)

pub is_above : (m n : ℕ) → n ≤ m → nat_lt m n ≡ false
is_above m n e = grind (arith)

-- the number that digits make behind those of a number
abbrev pub counted_all : ℕ → Option ℕ → List ℕ → Option ℕ
counted_all radix v [] = v
counted_all radix v (c ∷ cs) = counted_all radix (counted radix v (digit_value c)) cs

-- one step behind a number, whether it has 64 bits or not
pub step : (radix n d : ℕ) → 1 ≤ radix → counted radix (in_range n) d ≡ in_range (n * radix + d)
step radix n d r = go (nat_lt n (2 ^ 64)) refl
  where
    go : (b : Bool) → nat_lt n (2 ^ 64) ≡ b → counted radix (cond b (Some n) None) d ≡ in_range (n * radix + d)
    go true e = refl
    go false e = let big : 2 ^ 64 ≤ n = above n (2 ^ 64) e in
        let more : n ≤ n * radix = le-mul_of_pos_right n r in
        sym (ap (λ b. cond b (Some (n * radix + d)) None) (is_above (n * radix + d) (2 ^ 64) (omega arith)))

pub counted_is : (radix n : ℕ) (ds : List ℕ) → 1 ≤ radix → counted_all radix (in_range n) ds ≡ in_range (digits_value_after radix n ds)
counted_is radix n [] r = refl
counted_is radix n (c ∷ cs) r = ap (λ v. counted_all radix v cs) (step radix n (digit_value c) r) ∙ counted_is radix (n * radix + digit_value c) cs r

-- digits are taken up to what is no digit
pub run_taken : (radix : ℕ) (v : Option ℕ) (ds rest : List ℕ) → AllDigits radix ds → NoDigit radix rest → digits_at radix v (ds ++ rest) ≡ (counted_all radix v ds, rest)
unfolding digits_at
run_taken radix v [] [] a n = refl
run_taken radix v [] (c ∷ cs) a n = ap (λ b. cond b (digits_at radix (counted radix v (digit_value c)) cs) (v, c ∷ cs)) (is_above (digit_value c) radix n)
run_taken radix v (c ∷ ds) rest a n =
    ap (λ b. cond b (digits_at radix (counted radix v (digit_value c)) (ds ++ rest)) (v, c ∷ (ds ++ rest))) (is_below (digit_value c) radix a.0)
    ∙ run_taken radix (counted radix v (digit_value c)) ds rest a.1 n

-- what is taken is digits, up to what is no digit
pub record Run (radix : ℕ) (v : Option ℕ) (text : List ℕ) : Type 0 where
  pub digits : List ℕ
  pub rest : List ℕ
  pub parts : text ≡ digits ++ rest
  pub are : AllDigits radix digits
  pub ends : NoDigit radix rest
  pub read : digits_at radix v text ≡ (counted_all radix v digits, rest)

pub run_of : (radix : ℕ) (v : Option ℕ) (text : List ℕ) → Run radix v text
unfolding digits_at
run_of radix v [] = record { digits = []; rest = []; parts = refl; are = tt; ends = tt; read = refl }
run_of radix v (c ∷ cs) = go (nat_lt (digit_value c) radix) refl (run_of radix (counted radix v (digit_value c)) cs)
  where
    go : (b : Bool) → nat_lt (digit_value c) radix ≡ b → Run radix (counted radix v (digit_value c)) cs → Run radix v (c ∷ cs)
    go true e r = record {
      digits = c ∷ r.digits;
      rest = r.rest;
      parts = ap (λ t. c ∷ t) r.parts;
      are = (below (digit_value c) radix e, r.are);
      ends = r.ends;
      read = ap (λ b. cond b (digits_at radix (counted radix v (digit_value c)) cs) (v, c ∷ cs)) e ∙ r.read;
    }
    go false e r = record {
      digits = [];
      rest = c ∷ cs;
      parts = refl;
      are = tt;
      ends = above (digit_value c) radix e;
      read = ap (λ b. cond b (digits_at radix (counted radix v (digit_value c)) cs) (v, c ∷ cs)) e;
    }
