-- Tokens are counted within their limit.
use Rattle.std.proofs.Common.{◌≡◌, ℕ, ◌+◌, ◌≤◌, List, [], ◌∷◌, ◌++◌, length, length-append, Option, Some, None, option_to_list, Bool, true, false, ◌&&◌, if◌then◌else◌, is_some, refl, sym, subst, arith}
use Rattle.std.specs.Prelude.{nat_le}
use Rattle.std.proofs.lemmas.Bool.{leb-false}
use Rattle.f_lex.specs.declared.piece.Piece.{Piece}
use Rattle.f_lex.specs.declared.piece.Piece.TheVariants as piece
use Rattle.f_lex.specs.declared.reader.Position.{Position}
use Rattle.f_lex.specs.declared.reader.Fault.{Fault}
use Rattle.f_lex.specs.declared.token.Spanned.{Spanned}
use Rattle.f_lex.specs.Rules.{given, gives_token, count_break, moved, long_lines}
use Rattle.f_lex.specs.Source.{Cut, breaks_from, tokens_from, position_behind, start}
use Rattle.f_lex.specs.Lexing.{AreKept, Lexes, cuts_of}

-- what is kept of two lists is kept of the second
kept_behind : (os ps : List (Option Fault)) → AreKept (os ++ ps) → AreKept ps
kept_behind [] ps kept = kept
kept_behind (o ∷ os) ps kept = kept_behind os ps kept.1

-- one where a piece gives a token
abbrev pub one_if : Bool → ℕ
one_if b = if b then 1 else 0

one_given : (b : Bool) (x : Spanned) → length (option_to_list (if b then Some x else None)) ≡ one_if b
one_given true x = refl
one_given false x = refl

given_is : (file : ℕ) (at : Position) (p : Piece) (len : ℕ) → length (option_to_list (given file at p len)) ≡ one_if (gives_token at p)
unfolding given
given_is file at (piece.Token t passed broken) len = refl
given_is file at piece.LineEnd len = one_given (is_some at.statement) _
given_is file at piece.Semicolon len = one_given (is_some at.statement) _
given_is file at piece.Blank len = refl
given_is file at piece.Joined len = refl
given_is file at piece.Lost len = refl
given_is file at (piece.Ill r) len = refl

one_more : (b : Bool) (n : ℕ) → (if b then n + 1 else n) ≡ n + one_if b
one_more true n = refl
one_more false n = omega arith

tokens_behind : (at : Position) (x : Cut) → (position_behind at x).tokens ≡ at.tokens + one_if (gives_token at x.0)
unfolding moved
tokens_behind at (p, bytes) = one_more (gives_token at p) at.tokens

within : (b t : Bool) (n : ℕ) (f : Fault) → t ≡ nat_le 262144 n → (if b && t then Some f else None) ≡ None → n ≤ 262144 → n + one_if b ≤ 262144
within false t n f e kept le = omega (arith, le)
within true true n f e kept le = absurd (cc)
within true false n f e kept le = let lt = leb-false 262144 n (sym e) in omega (arith, lt)

counted : (at : Position) (p : Piece) → count_break at p ≡ None → at.tokens ≤ 262144 → at.tokens + one_if (gives_token at p) ≤ 262144
unfolding count_break
counted at p kept le = within (gives_token at p) (nat_le 262144 at.tokens) at.tokens _ refl kept le

tokens_fit : (file : ℕ) (at : Position) (xs : List Cut) → AreKept (breaks_from at xs) → at.tokens ≤ 262144 → at.tokens + length (tokens_from file at xs) ≤ 262144
tokens_fit file at [] kept le = omega (arith, le)
tokens_fit file at (x ∷ xs) (_, (_, (count, (_, kept)))) le =
    let behind = tokens_behind at x in
    let first = counted at x.0 count le in
    let rest = tokens_fit file (position_behind at x) xs kept (omega (arith, behind, first)) in
    let long = length-append (option_to_list (given file at x.0 (length x.1))) (tokens_from file (position_behind at x) xs) in
    let one = given_is file at x.0 (length x.1) in
    omega (arith, behind, rest, long, one)

-- the tokens of a text and those of the files before are within the limit
pub lexed_within : (file before : ℕ) (text : List ℕ) (ts : List Spanned) → Lexes file before text ts → before ≤ 262144 → before + length ts ≤ 262144
lexed_within file before text ts lexed le =
    let kept = kept_behind (long_lines 1 0 text) (breaks_from (start before) (cuts_of lexed.shapes)) lexed.kept in
    let fits = tokens_fit file (start before) (cuts_of lexed.shapes) kept le in
    let P : List Spanned → Type 0 = λ l. before + length l ≤ 262144 in
    subst P (sym lexed.tokens_are) fits
