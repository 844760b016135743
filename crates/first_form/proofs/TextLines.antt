-- The lines of a text, one after another.
use Rattle.std.proofs.Common.{◌≡◌, ◌≢◌, ℕ, suc, ◌<◌, false, eqb, List, [], ◌∷◌, ◌++◌, length, map, refl, sym, ap, arith, ◌∙◌}
use Rattle.std.specs.List.{All, slice_split}
use Rattle.std.specs.Str.Lines.{lines, lines_of_parts, strip_carriage_return}
use Rattle.std.proofs.lemmas.Bool.{ne_eqb}
use Rattle.std.proofs.lemmas.List.Elements.{All-weaker}
use Rattle.std.proofs.lemmas.List.Splits.{slice_split_none, slice_split_at, length-slice_split}
use Rattle.first_form.specs.Lines.{trimmed, text_lines}

not_feed : (bytes : List ℕ) → All (λ b. b ≢ 10) bytes → All (λ b. eqb b 10 ≡ false) bytes
not_feed bytes none = All-weaker (λ b. b ≢ 10) (λ b. eqb b 10 ≡ false) (λ b h. ne_eqb b 10 h) bytes none

pub text_lines-empty : (text : List ℕ) → length text ≡ 0 → text_lines text ≡ []
unfolding text_lines
text_lines-empty [] e = refl
text_lines-empty (byte ∷ bytes) e = absurd (omega arith)

one_part : (byte : ℕ) (bytes : List ℕ) → lines_of_parts ((byte ∷ bytes) ∷ []) ≡ (byte ∷ bytes) ∷ []
one_part byte bytes = rw (ne_eqb (suc (length bytes)) 0 (λ e. absurd (omega arith))) refl

-- a text with no line feed is its own only line
pub text_lines-last : (text line : List ℕ) → (length text ≡ 0 → ⊥) → All (λ b. b ≢ 10) text → line ≡ trimmed text → text_lines text ≡ line ∷ text_lines []
unfolding text_lines
text_lines-last [] line some none e = absurd (some refl)
text_lines-last (byte ∷ bytes) line some none e =
    ap (λ (parts : List (List ℕ)). map trimmed (lines_of_parts parts)) (slice_split_none (λ b. eqb b 10) (byte ∷ bytes) (not_feed (byte ∷ bytes) none))
    ∙ (ap (map trimmed) (one_part byte bytes) ∙ ap (λ (x : List ℕ). x ∷ []) (sym e))

-- a part with another behind it is a line
parts-cons : (line : List ℕ) (parts : List (List ℕ)) → 0 < length parts → lines_of_parts (line ∷ parts) ≡ strip_carriage_return line ∷ lines_of_parts parts
parts-cons line [] more = absurd (omega arith)
parts-cons line (part ∷ parts) more = refl

-- what stands before the first line feed is the first line
pub text_lines-first : (text before rest line : List ℕ) → text ≡ before ++ (10 ∷ rest) → All (λ b. b ≢ 10) before → line ≡ trimmed (strip_carriage_return before) → text_lines text ≡ line ∷ text_lines rest
unfolding text_lines
text_lines-first text before rest line cut none e =
    let parts : slice_split (λ b. eqb b 10) (before ++ (10 ∷ rest)) ≡ before ∷ slice_split (λ b. eqb b 10) rest = slice_split_at (λ b. eqb b 10) before 10 rest (not_feed before none) refl in
    let some : 0 < length (slice_split (λ b. eqb b 10) rest) = omega (arith, length-slice_split (λ b. eqb b 10) rest) in
    ap (λ (x : List ℕ). map trimmed (lines x)) cut
    ∙ (ap (map trimmed) (ap lines_of_parts parts ∙ parts-cons before (slice_split (λ b. eqb b 10) rest) some)
    ∙ ap (λ (x : List ℕ). x ∷ map trimmed (lines rest)) (sym e))
