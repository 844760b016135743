-- Each piece has a byte at least.
use Rattle.std.proofs.Common.{◌≡◌, ℕ, zero, suc, ◌+◌, ◌-◌, ◌≤◌, Bool, true, false, cond, eqb, List, [], ◌∷◌, ◌++◌, length, Option, Some, None, refl, arith}
use Rattle.f_lex.specs.declared.class.Run.{Run}
use Rattle.f_lex.specs.declared.class.Run.TheVariants as run
use Rattle.f_lex.specs.declared.fault.Rule.TheVariants as rule
use Rattle.f_lex.specs.declared.lines.Context.TheVariants.{Outside}
use Rattle.f_lex.specs.declared.text.Part.{Part}
use Rattle.f_lex.specs.declared.text.Part.TheVariants.{Byte, Doubled, Joined, Closed, Open, Lost}
use Rattle.f_lex.specs.declared.token.Mark.TheVariants as mark
use Rattle.f_lex.specs.declared.token.Mark.{Mark as MarkOf}
use Rattle.f_lex.specs.declared.token.Kind.{Kind}
use Rattle.f_lex.specs.declared.token.Kind.TheVariants as kind
use Rattle.f_lex.specs.declared.token.Token.TheVariants as token
use Rattle.f_lex.specs.declared.words.DotWord.{DotWord}
use Rattle.f_lex.specs.declared.words.DotWord.TheVariants as dotted
use Rattle.f_lex.specs.declared.piece.Piece.TheVariants as piece
use Rattle.f_lex.specs.Characters.{Class, Letter, Digit, Underscore, Blank, LineEnd, Exclamation, Ampersand, Quote, Semicolon, Dot, Mark, Unused, Foreign, Nothing, underscore, class_at, goes_on, is_quote}
use Rattle.f_lex.specs.Lines.{choose, run_at, byte_at, ends_line, goes_on_at}
use Rattle.f_lex.specs.Texts.{part_at, with_part, body_at}
use Rattle.f_lex.specs.Words.{lowered, kind_of, kind_at, quote_at, kind_quote_at, one_or_two, single_mark, double_mark, other_mark, mark_at, dot_word}
use Rattle.f_lex.specs.Pieces.{dot, whole, text_at, word_of, word_at, number_with, number_of_run, number_at, dotted_piece, dotted_of, dot_at, joined_or_lost, ampersand_at, piece_of, piece_at}
use Rattle.f_lex.proofs.Lengths.{AtMost, Less, run-length, byte-length, goes_on_at-length, Shorter, part-length}

-- what is behind a value is at most so long
pub record Within {A : Type 0} (n : ℕ) (x : A × List ℕ) : Type 0 where
  pub at_most : length x.1 ≤ n

abbrev made : {A : Type 0} {n : ℕ} {x : A × List ℕ} → length x.1 ≤ n → Within n x
made le = record { at_most = le }

-- ---- texts

body-length : (k quote : ℕ) (content : List ℕ) (passed : ℕ) (bytes : List ℕ) → length (body_at k quote content passed bytes).1 ≤ length bytes
unfolding body_at
body-length zero quote content passed bytes = omega arith
body-length (suc k) quote content passed bytes = pick (part_at quote bytes) (part-length quote bytes) (body-length k quote)
  where
    pick : (p : Part × List ℕ) → Shorter bytes p → ((content : List ℕ) (passed : ℕ) (bytes : List ℕ) → length (body_at k quote content passed bytes).1 ≤ length bytes)
        → length (with_part quote content passed bytes p (body_at k quote)).1 ≤ length bytes
    pick (Byte c, next) short ih = omega (arith, short, ih (content ++ c ∷ []) passed next)
    pick (Doubled, next) short ih = omega (arith, short, ih (content ++ quote ∷ []) passed next)
    pick (Joined, next) short ih = omega (arith, short, ih content (passed + (length bytes - length next)) next)
    pick (Closed, next) short ih = omega (arith, short)
    pick (Open, next) short ih = short
    pick (Lost, next) short ih = omega (arith, short)

text-length : (k : Option Kind) (quote : ℕ) (cs : List ℕ) → length (text_at k quote cs).1 ≤ length cs
unfolding text_at
text-length k quote cs = body-length (length cs + 1) quote [] 0 cs

-- ---- words

run-less : (r : Run) (c : ℕ) (cs : List ℕ) → goes_on r (c ∷ cs) ≡ true → length (run_at r (c ∷ cs)).1 + 1 ≤ length (c ∷ cs)
unfolding run_at
run-less r c cs e = rw e (omega (arith, run-length r cs))

kind-length : (cs : List ℕ) → length (kind_at cs).1 ≤ length cs
unfolding kind_at
kind-length cs = pick (byte_at underscore cs) (byte-length underscore cs)
  where
    inner : (r : List ℕ) → length r + 1 ≤ length cs → (v : Class) → length (kind_of v r cs).1 ≤ length cs
    inner r h Letter = omega (arith, h, run-length run.Name r)
    inner r h Digit = omega (arith, h, run-length run.Digits r)
    inner r h Underscore = omega arith
    inner r h Blank = omega arith
    inner r h LineEnd = omega arith
    inner r h Exclamation = omega arith
    inner r h Ampersand = omega arith
    inner r h Quote = omega arith
    inner r h Semicolon = omega arith
    inner r h Dot = omega arith
    inner r h Mark = omega arith
    inner r h Unused = omega arith
    inner r h Foreign = omega arith
    inner r h Nothing = omega arith

    pick : (o : Option (List ℕ)) → Less cs o → length (choose o (None, cs) (λ r. kind_of (class_at r) r cs)).1 ≤ length cs
    pick None h = omega arith
    pick (Some r) h = inner r h (class_at r)

abbrev pub LessBehind : List ℕ → Option (ℕ × List ℕ) → Type 0
LessBehind cs None = Unit {0}
LessBehind cs (Some q) = length q.1 + 1 ≤ length cs

quote-length : (cs : List ℕ) → LessBehind cs (quote_at cs)
unfolding quote_at
quote-length [] = tt
quote-length (c ∷ cs) = pick (is_quote (class_at (c ∷ cs)))
  where
    pick : (v : Bool) → LessBehind (c ∷ cs) (cond v (Some (c, cs)) None)
    pick true = omega arith
    pick false = tt

kind_quote-length : (cs : List ℕ) → LessBehind cs (kind_quote_at cs)
unfolding kind_quote_at
kind_quote-length cs = pick (byte_at underscore cs) (byte-length underscore cs)
  where
    inner : (r : List ℕ) → length r + 1 ≤ length cs → (o : Option (ℕ × List ℕ)) → LessBehind r o → LessBehind cs o
    inner r h None i = tt
    inner r h (Some q) i = omega (arith, h, i)

    pick : (o : Option (List ℕ)) → Less cs o → LessBehind cs (choose o None quote_at)
    pick None h = tt
    pick (Some r) h = inner r h (quote_at r) (quote-length r)

word-length : (c : ℕ) (cs : List ℕ) → class_at (c ∷ cs) ≡ Letter → length (word_at (c ∷ cs)).1 ≤ length cs
unfolding word_at goes_on
word-length c cs e = pick (run_at run.Word (c ∷ cs)) (run-less run.Word c cs (rw e refl))
  where
    behind : (s : List ℕ × List ℕ) → length s.1 + 1 ≤ length (c ∷ cs) → (o : Option (ℕ × List ℕ)) → LessBehind s.1 o
        → length (choose o (whole (token.Name (lowered s.0)), s.1) (λ q. text_at (Some (kind.Name (lowered s.0))) q.0 q.1)).1 ≤ length cs
    behind s h None i = omega (arith, h)
    behind s h (Some q) i = omega (arith, h, i, text-length (Some (kind.Name (lowered s.0))) q.0 q.1)

    pick : (s : List ℕ × List ℕ) → length s.1 + 1 ≤ length (c ∷ cs) → length (word_of s).1 ≤ length cs
    pick s h = behind s h (kind_quote_at s.1) (kind_quote-length s.1)

number-length : (c : ℕ) (cs : List ℕ) → class_at (c ∷ cs) ≡ Digit → length (number_at (c ∷ cs)).1 ≤ length cs
unfolding number_at goes_on
number-length c cs e = pick (run_at run.Digits (c ∷ cs)) (run-less run.Digits c cs (rw e refl))
  where
    behind : (s : List ℕ × List ℕ) → length s.1 + 1 ≤ length (c ∷ cs) → (o : Option (ℕ × List ℕ)) → LessBehind s.1 o
        → length (choose o (number_with s.0 (kind_at s.1)) (λ q. text_at (Some (kind.Number (lowered s.0))) q.0 q.1)).1 ≤ length cs
    behind s h None i = omega (arith, h, kind-length s.1)
    behind s h (Some q) i = omega (arith, h, i, text-length (Some (kind.Number (lowered s.0))) q.0 q.1)

    pick : (s : List ℕ × List ℕ) → length s.1 + 1 ≤ length (c ∷ cs) → length (number_of_run s).1 ≤ length cs
    pick s h = behind s h (kind_quote_at s.1) (kind_quote-length s.1)

-- ---- marks

two-length : (one : MarkOf) (second : ℕ) (two : MarkOf) (cs : List ℕ) → Within (length cs) (one_or_two one second two cs)
unfolding one_or_two
two-length one second two cs = pick (byte_at second cs) (byte-length second cs)
  where
    pick : (o : Option (List ℕ)) → Less cs o → Within (length cs) (choose o (one, cs) (λ r. (two, r)))
    pick None h = made (omega arith)
    pick (Some r) h = made (omega (arith, h))

or_two-length : (b : ℕ) (cs : List ℕ) (x : MarkOf × List ℕ) (m : MarkOf) → Within (length cs) x → Within (length cs) (choose (byte_at b cs) x (λ r. (m, r)))
or_two-length b cs x m w = pick (byte_at b cs) (byte-length b cs)
  where
    pick : (o : Option (List ℕ)) → Less cs o → Within (length cs) (choose o x (λ r. (m, r)))
    pick None h = w
    pick (Some r) h = made (omega (arith, h))

mark-length : (c : ℕ) (cs : List ℕ) → Within (length cs) (mark_at c cs)
unfolding mark_at
mark-length c cs = pick (single_mark c) (double_mark c) (eqb c 47)
  where
    pick : (o : Option MarkOf) (p : Option (MarkOf × ℕ × MarkOf)) (b : Bool) → Within (length cs) (choose o (choose p (other_mark b cs) (λ m. one_or_two m.0 m.1 m.2 cs)) (λ m. (m, cs)))
    pick (Some m) p b = record { at_most = omega arith }
    pick None (Some m) b = two-length m.0 m.1 m.2 cs
    pick None None true = or_two-length 47 cs (one_or_two mark.Slash 61 mark.NotEqual cs) mark.Concat (two-length mark.Slash 61 mark.NotEqual cs)
    pick None None false = or_two-length 62 cs (one_or_two mark.Assign 61 mark.Equal cs) mark.Arrow (two-length mark.Assign 61 mark.Equal cs)

-- ---- dots and ampersands

dot-length : (cs : List ℕ) → length (dot_at cs).1 ≤ length cs
unfolding dot_at
dot-length cs = pick (byte_at dot cs) (byte-length dot cs)
  where
    word : (r : List ℕ) → length r ≤ length cs → (o : Option DotWord) → length (choose o (piece.Ill rule.NoToken, cs) (λ w. dotted_piece w r)).1 ≤ length cs
    word r h None = omega arith
    word r h (Some (dotted.Operator m)) = h
    word r h (Some (dotted.Truth value)) = omega (arith, h, kind-length r)

    closing : (s : List ℕ × List ℕ) → length s.1 ≤ length cs → (o : Option (List ℕ)) → Less s.1 o
        → length (choose o (piece.Ill rule.NoToken, cs) (λ r. choose (dot_word (lowered s.0)) (piece.Ill rule.NoToken, cs) (λ w. dotted_piece w r))).1 ≤ length cs
    closing s h None i = omega arith
    closing s h (Some r) i = word r (omega (arith, h, i)) (dot_word (lowered s.0))

    pick : (o : Option (List ℕ)) → Less cs o → length (choose o (dotted_of cs (run_at run.Letters cs)) (λ r. (whole (token.Mark mark.DotDot), r))).1 ≤ length cs
    pick None h = closing (run_at run.Letters cs) (run-length run.Letters cs) (byte_at dot (run_at run.Letters cs).1) (byte-length dot (run_at run.Letters cs).1)
    pick (Some r) h = omega (arith, h)

ampersand-length : (cs : List ℕ) → length (ampersand_at cs).1 ≤ length cs
unfolding ampersand_at
ampersand-length cs = pick (ends_line Outside cs)
  where
    joined : (o : Option (List ℕ)) → AtMost cs o → length (joined_or_lost cs o).1 ≤ length cs
    joined None h = omega arith
    joined (Some r) h = h

    pick : (v : Bool) → length (cond v (joined_or_lost cs (goes_on_at Outside cs)) (piece.Ill rule.NoToken, cs)).1 ≤ length cs
    pick true = joined (goes_on_at Outside cs) (goes_on_at-length Outside cs)
    pick false = omega arith

-- ---- pieces

pub piece-length : (c : ℕ) (cs : List ℕ) → length (piece_at (c ∷ cs)).1 ≤ length cs
unfolding piece_at
piece-length c cs = pick (class_at (c ∷ cs)) refl
  where
    pick : (v : Class) → class_at (c ∷ cs) ≡ v → length (piece_of v c cs).1 ≤ length cs
    pick Letter e = word-length c cs e
    pick Digit e = number-length c cs e
    pick Quote e = text-length None c cs
    pick Dot e = dot-length cs
    pick Mark e = (mark-length c cs).at_most
    pick Blank e = run-length run.Blanks cs
    pick Exclamation e = run-length run.Comment cs
    pick Ampersand e = ampersand-length cs
    pick LineEnd e = omega arith
    pick Semicolon e = omega arith
    pick Underscore e = omega arith
    pick Unused e = omega arith
    pick Foreign e = omega arith
    pick Nothing e = omega arith
