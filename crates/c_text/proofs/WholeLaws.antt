-- Whole texts: each consists of pieces, and they are those that are read.
use Rattle.std.proofs.Common.{◌≡◌, ℕ, zero, suc, ◌-◌, ◌≤◌, false, List, [], ◌∷◌, ◌++◌, length, take, refl, sym, ap, subst, ◌∙◌, arith, append_assoc, length-append}
use Rattle.std.proofs.Math.Seq.{take-append_seam}
use Rattle.std.proofs.lemmas.List.{append-nil}
use Rattle.c_text.specs.declared.kind.Lexeme.{Lexeme}
use Rattle.c_text.specs.Pieces.{Found, piece_at}
use Rattle.c_text.specs.Source.{Cut, spelled_by, cuts, lexemes_from, text_of, lexemes_in}
use Rattle.c_text.specs.Grammar.{Text, CommentEnd, Ended, Unended, spell_end, Ending, Closed, Open, spell_ending, Prefix, Plain, Wide, Eight, spell_prefix, Shape, Word, Number, Literal, Sign, Space, LineComment, Comment, EndOfLine, Stray, Alien, spell, Fits, meaning, spell_text, FitsText}
use Rattle.c_text.specs.Lexing.{Consists, cuts_of, Lexes}
use Rattle.c_text.proofs.Cuts.{next-shorter}
use Rattle.c_text.proofs.PieceLaws.{piece_again, piece_found}

nil-append : (cs rest : Text) → cs ++ rest ≡ (cs ++ []) ++ rest
nil-append cs rest = ap (λ (l : Text). l ++ rest) (sym (append-nil cs))

ending-append : (cs : Text) (e : Ending) (rest : Text) → cs ++ spell_ending e rest ≡ (cs ++ spell_ending e []) ++ rest
ending-append cs (Closed z) rest = sym (append_assoc cs (z ∷ []) rest)
ending-append cs Open rest = nil-append cs rest

end-append : (cs : Text) (e : CommentEnd) (rest : Text) → cs ++ spell_end e rest ≡ (cs ++ spell_end e []) ++ rest
end-append cs (Ended s t) rest = sym (append_assoc cs (s ∷ t ∷ []) rest)
end-append cs Unended rest = nil-append cs rest

prefix-append : (p : Prefix) (a b : Text) → spell_prefix p (a ++ b) ≡ spell_prefix p a ++ b
prefix-append Plain a b = refl
prefix-append (Wide c) a b = refl
prefix-append (Eight c d) a b = refl

spell-append : (s : Shape) (rest : Text) → spell s rest ≡ spell s [] ++ rest
spell-append (Word c cs) rest = ap (λ (l : Text). c ∷ l) (nil-append cs rest)
spell-append (Number c cs) rest = ap (λ (l : Text). c ∷ l) (nil-append cs rest)
spell-append (Literal p q cs e) rest = ap (λ (l : Text). spell_prefix p (q ∷ l)) (ending-append cs e rest) ∙ prefix-append p (q ∷ (cs ++ spell_ending e [])) rest
spell-append (Sign c cs) rest = ap (λ (l : Text). c ∷ l) (nil-append cs rest)
spell-append (Space c) rest = refl
spell-append (LineComment c d cs) rest = ap (λ (l : Text). c ∷ d ∷ l) (nil-append cs rest)
spell-append (Comment c d cs e) rest = ap (λ (l : Text). c ∷ d ∷ l) (end-append cs e rest)
spell-append (EndOfLine c) rest = refl
spell-append (Stray c) rest = refl
spell-append (Alien c) rest = refl

front : (a b : Text) → spelled_by (a ++ b) b ≡ a
front a b = let n : length (a ++ b) - length b ≡ length a = omega (arith, length-append a b) in ap (λ (k : ℕ). take k (a ++ b)) n ∙ take-append_seam a b

spelled_piece : (s : Shape) (rest : Text) → spelled_by (spell s rest) rest ≡ spell s []
spelled_piece s rest = ap (λ (l : Text). spelled_by l rest) (spell-append s rest) ∙ front (spell s []) rest

prefix_some : (p : Prefix) (a : Text) → length a ≤ length (spell_prefix p a)
prefix_some Plain a = omega arith
prefix_some (Wide c) a = omega arith
prefix_some (Eight c d) a = omega arith

some_character : (s : Shape) (rest : Text) → 1 ≤ length (spell s rest)
some_character (Word c cs) rest = omega arith
some_character (Number c cs) rest = omega arith
some_character (Literal p q cs e) rest = omega (arith, prefix_some p (q ∷ (cs ++ spell_ending e rest)))
some_character (Sign c cs) rest = omega arith
some_character (Space c) rest = omega arith
some_character (LineComment c d cs) rest = omega arith
some_character (Comment c d cs e) rest = omega arith
some_character (EndOfLine c) rest = omega arith
some_character (Stray c) rest = omega arith
some_character (Alien c) rest = omega arith

one_cut : (k : ℕ) (text : Text) (x : Found) → 1 ≤ length text → piece_at text ≡ x → cuts (suc k) text ≡ (x.0, spelled_by text x.1) ∷ cuts k x.1
unfolding cuts
one_cut k [] x some e = absurd (omega (arith, some))
one_cut k (c ∷ cs) x some e = rw e refl

no_cut : (k : ℕ) → cuts k [] ≡ []
unfolding cuts
no_cut zero = refl
no_cut (suc k) = refl

pub cuts_again : (k : ℕ) (shapes : List Shape) → FitsText shapes → length (spell_text shapes) ≤ k → cuts k (spell_text shapes) ≡ cuts_of shapes
cuts_again k [] f le = no_cut k
cuts_again zero (s ∷ ss) f le = absurd (omega (arith, le, some_character s (spell_text ss)))
cuts_again (suc k) (s ∷ ss) f le =
    let rest = spell_text ss in
    let x : Found = (meaning s, rest) in
    let e : piece_at (spell s rest) ≡ x = piece_again s rest f.0 in
    let less = next-shorter (spell s rest) x (some_character s rest) (sym e) in
    one_cut k (spell s rest) x (some_character s rest) e
    ∙ ap (λ (t : Text). let c : Cut = (meaning s, t) in c ∷ cuts k rest) (spelled_piece s rest)
    ∙ ap (λ (cs : List Cut). let c : Cut = (meaning s, spell s []) in c ∷ cs) (cuts_again k ss f.1 (omega (arith, less, le)))

pub record Pieces (text : Text) : Type 0 where
  pub shapes : List Shape
  pub consists : Consists text shapes

pub all_pieces : (k : ℕ) (text : Text) → length text ≤ k → Pieces text
all_pieces k [] le = record { shapes = []; consists = record { fits = tt; spelled = refl } }
all_pieces zero (c ∷ cs) le = absurd (omega (arith, le))
all_pieces (suc k) (c ∷ cs) le =
    let p = piece_found c cs in
    let x : Found = (meaning p.shape, p.rest) in
    let e : piece_at (c ∷ cs) ≡ x = ap piece_at p.is ∙ piece_again p.shape p.rest p.fits in
    let less = next-shorter (c ∷ cs) x (omega arith) (sym e) in
    let more = all_pieces k p.rest (omega (arith, less, le)) in
    record {
      shapes = p.shape ∷ more.shapes;
      consists = record {
        fits = (subst (Fits p.shape) more.consists.spelled p.fits, more.consists.fits);
        spelled = p.is ∙ ap (spell p.shape) more.consists.spelled;
      };
    }

pub cuts_are : (text : Text) (shapes : List Shape) → Consists text shapes → cuts (length text) text ≡ cuts_of shapes
cuts_are text shapes c =
    ap (λ (t : Text). cuts (length t) t) c.spelled ∙ cuts_again (length (spell_text shapes)) shapes c.fits (omega arith)

pub lexes : (bytes : List ℕ) (lexemes : List Lexeme) → lexemes ≡ lexemes_in bytes → Lexes bytes lexemes
lexes bytes lexemes e =
    let p = all_pieces (length (text_of bytes)) (text_of bytes) (omega arith) in
    record { shapes = p.shapes; consists = p.consists; given = e ∙ ap (lexemes_from false) (cuts_are (text_of bytes) p.shapes p.consists) }

pub lexes_one : (bytes : List ℕ) (lexemes : List Lexeme) → Lexes bytes lexemes → lexemes ≡ lexemes_in bytes
lexes_one bytes lexemes l = l.given ∙ ap (lexemes_from false) (sym (cuts_are (text_of bytes) l.shapes l.consists))
