-- A whole text, as a loop reads it piece after piece.
use Rattle.std.proofs.Common.{◌≡◌, ℕ, zero, suc, ◌+◌, ◌≤◌, Bool, true, false, cond, eqb, List, [], ◌∷◌, ◌++◌, length, Option, Some, None, refl, sym, ap, subst, ◌∙◌, arith, append_assoc}
use Rattle.std.specs.Prelude.{option_to_list}
use Rattle.std.proofs.lemmas.List.{append-nil}
use Rattle.f_lex.specs.declared.piece.Piece.{Piece}
use Rattle.f_lex.specs.declared.piece.Piece.TheVariants as piece
use Rattle.f_lex.specs.declared.token.Spanned.{Spanned}
use Rattle.f_lex.specs.declared.reader.Point.{Point}
use Rattle.f_lex.specs.declared.reader.Fault.{Fault}
use Rattle.f_lex.specs.declared.reader.Position.{Position}
use Rattle.f_lex.specs.Characters.{line_feed}
use Rattle.f_lex.specs.Pieces.{piece_at}
use Rattle.f_lex.specs.Rules.{is_before, reported, least, advanced, first_break, gives_token, characters_with, moved, given, long_lines}
use Rattle.f_lex.specs.Source.{Cut, spelled_by, cuts, point_behind, position_behind, breaks_from, tokens_from, start, breaks_of, tokens_of, IsRoom}
use Rattle.f_lex.proofs.Shorter.{piece-length}

-- ---- faults

reported-none : (a b : Option Fault) → reported a b ≡ None → a ≡ None
unfolding reported
reported-none None b e = refl
reported-none (Some a) None e = cc
reported-none (Some a) (Some b) e = pick (is_before b a) e
  where
    pick : (v : Bool) → cond v (Some b) (Some a) ≡ None → Some a ≡ None
    pick true e = cc
    pick false e = e

first_break-none : (f : Option Fault) (at : Position) (p : Piece) (len : ℕ) (behind : Point) → first_break f at p len behind ≡ None → f ≡ None
unfolding first_break
first_break-none f at p len behind e = reported-none f _ (reported-none _ _ (reported-none _ _ (reported-none _ _ e)))

pub least-append : (f : Option Fault) (xs ys : List (Option Fault)) → least f (xs ++ ys) ≡ least (least f xs) ys
least-append f [] ys = refl
least-append f (x ∷ xs) ys = least-append (reported f x) xs ys

-- ---- places

pub line-advanced : (p : Point) (cs : List ℕ) → (advanced p cs).line ≤ p.line + length cs
line-advanced p [] = omega arith
line-advanced p (c ∷ cs) = pick (eqb c line_feed) (λ q. line-advanced q cs)
  where
    pick : (v : Bool) → ((q : Point) → (advanced q cs).line ≤ q.line + length cs) → (advanced (cond v (record { line = p.line + 1; column = 1 }) (record { line = p.line; column = p.column + 1 })) cs).line ≤ p.line + length (c ∷ cs)
    pick true ih = omega (arith, ih (record { line = p.line + 1; column = 1 }))
    pick false ih = omega (arith, ih (record { line = p.line; column = p.column + 1 }))

pub column-advanced : (p : Point) (cs : List ℕ) → 1 ≤ p.column → ((advanced p cs).column ≤ p.column + length cs) × (1 ≤ (advanced p cs).column)
column-advanced p [] le = (omega arith, le)
column-advanced p (c ∷ cs) le = pick (eqb c line_feed) (λ q le. column-advanced q cs le)
  where
    pick : (v : Bool) → ((q : Point) → 1 ≤ q.column → ((advanced q cs).column ≤ q.column + length cs) × (1 ≤ (advanced q cs).column))
        → let q : Point = cond v (record { line = p.line + 1; column = 1 }) (record { line = p.line; column = p.column + 1 }) in ((advanced q cs).column ≤ p.column + length (c ∷ cs)) × (1 ≤ (advanced q cs).column)
    pick true ih = let h = ih (record { line = p.line + 1; column = 1 }) (omega arith) in (omega (arith, h.0, le), h.1)
    pick false ih = let h = ih (record { line = p.line; column = p.column + 1 }) (omega arith) in (omega (arith, h.0), h.1)

characters-most : (at : Position) (p : Piece) (len : ℕ) → characters_with at p len ≤ at.characters + len
characters-most at (piece.Token t passed broken) len = omega arith
characters-most at piece.LineEnd len = omega arith
characters-most at piece.Semicolon len = omega arith
characters-most at piece.Blank len = omega arith
characters-most at piece.Joined len = omega arith
characters-most at piece.Lost len = omega arith
characters-most at (piece.Ill r) len = omega arith

tokens-most : (b : Bool) (n : ℕ) → cond b (n + 1) n ≤ n + 1
tokens-most true n = omega arith
tokens-most false n = omega arith

pub room-smaller : (at : Position) (n m : ℕ) → IsRoom at n → m ≤ n → IsRoom at m
room-smaller at n m r le = record { offset = omega (arith, r.offset, le); line = r.line; column = r.column; first = r.first; characters = r.characters; tokens = r.tokens }

pub room-behind : (at : Position) (p : Piece) (bytes : List ℕ) (n : ℕ) → IsRoom at (length bytes + n) → 1 ≤ length bytes → IsRoom (position_behind at (p, bytes)) n
unfolding moved
room-behind at p bytes n r some = record {
  offset = omega (arith, r.offset);
  line = omega (arith, r.line, line-advanced at.point bytes);
  column = omega (arith, r.column, (column-advanced at.point bytes r.first).0);
  first = (column-advanced at.point bytes r.first).1;
  characters = omega (arith, r.characters, characters-most at p (length bytes));
  tokens = omega (arith, r.tokens, tokens-most (gives_token at p) at.tokens, some);
}

-- ---- the loop

-- with enough pieces allowed, the rest gives the whole
pub record Goes (file : ℕ) (at : Position) (tokens : List Spanned) (fault : Option Fault) (rest : List ℕ) (broken : Option Fault) (all : List Spanned) : Type 0 where
  pub pieces : ℕ
  pub enough : length rest ≤ pieces
  pub first : least fault (breaks_from at (cuts pieces rest)) ≡ broken
  pub so_far : fault ≡ None → tokens ++ tokens_from file at (cuts pieces rest) ≡ all

-- what taking a piece leaves
pub record Took (file : ℕ) (at : Position) (tokens : List Spanned) (fault : Option Fault) (x : Cut) (new_at : Position) (new_tokens : List Spanned) (new_fault : Option Fault) : Type 0 where
  pub position : new_at ≡ position_behind at x
  pub broken : new_fault ≡ first_break fault at x.0 (length x.1) (point_behind at x)
  pub given_tokens : new_fault ≡ None → new_tokens ≡ tokens ++ option_to_list (given file at x.0 (length x.1))

module _ (file : ℕ) (at : Position) (tokens : List Spanned) (fault : Option Fault) (new_at : Position) (new_tokens : List Spanned) (new_fault : Option Fault) (broken : Option Fault) (all : List Spanned) where
  behind_one : (x : Cut) (xs : List Cut) → Took file at tokens fault x new_at new_tokens new_fault → least fault (breaks_from at (x ∷ xs)) ≡ broken → (fault ≡ None → tokens ++ tokens_from file at (x ∷ xs) ≡ all)
      → (least new_fault (breaks_from new_at xs) ≡ broken) × (new_fault ≡ None → new_tokens ++ tokens_from file new_at xs ≡ all)
  unfolding first_break
  behind_one x xs took first so_far = (
    ap (λ f. least f (breaks_from new_at xs)) took.broken ∙ ap (λ a. least (first_break fault at x.0 (length x.1) (point_behind at x)) (breaks_from a xs)) took.position ∙ first,
    λ none.
        ap (λ l. l ++ tokens_from file new_at xs) (took.given_tokens none) ∙ ap (λ a. (tokens ++ option_to_list (given file at x.0 (length x.1))) ++ tokens_from file a xs) took.position
        ∙ append_assoc tokens (option_to_list (given file at x.0 (length x.1))) (tokens_from file (position_behind at x) xs)
        ∙ so_far (first_break-none fault at x.0 (length x.1) (point_behind at x) (sym took.broken ∙ none)),
  )

  pub goes_on : (p : Piece) (rest next : List ℕ) → 1 ≤ length rest → let y : Piece × List ℕ = (p, next) in y ≡ piece_at rest
      → Took file at tokens fault (p, spelled_by rest next) new_at new_tokens new_fault → Goes file at tokens fault rest broken all → Goes file new_at new_tokens new_fault next broken all
  unfolding cuts
  goes_on p [] next some e took g = absurd (omega (arith, some))
  goes_on p (c ∷ cs) next some e took g = by g.pieces g.enough g.first g.so_far
    where
      is : piece_at (c ∷ cs) ≡ (p, next)
      is = sym e

      shorter : length next ≤ length cs
      shorter = subst (λ (y : Piece × List ℕ). length y.1 ≤ length cs) is (piece-length c cs)

      by : (k : ℕ) → length (c ∷ cs) ≤ k → least fault (breaks_from at (cuts k (c ∷ cs))) ≡ broken → (fault ≡ None → tokens ++ tokens_from file at (cuts k (c ∷ cs)) ≡ all) → Goes file new_at new_tokens new_fault next broken all
      by zero le first so_far = absurd (omega (arith, le))
      by (suc k) le first so_far =
          let cut : cuts (suc k) (c ∷ cs) ≡ (p, spelled_by (c ∷ cs) next) ∷ cuts k next = rw is refl in
          let b = behind_one (p, spelled_by (c ∷ cs) next) (cuts k next) took (ap (λ l. least fault (breaks_from at l)) (sym cut) ∙ first) (λ none. ap (λ l. tokens ++ tokens_from file at l) (sym cut) ∙ so_far none) in
          record { pieces = k; enough = omega (arith, le, shorter); first = b.0; so_far = b.1 }

  pub ends : Took file at tokens fault (piece.LineEnd, []) new_at new_tokens new_fault → Goes file at tokens fault [] broken all → (new_fault ≡ broken) × (new_fault ≡ None → new_tokens ≡ all)
  unfolding cuts
  ends took g =
      let b = behind_one (piece.LineEnd, []) [] took g.first g.so_far in
      (b.0, λ none. sym (append-nil new_tokens) ∙ b.1 none)

-- where reading begins
pub begins : (file before : ℕ) (bytes : List ℕ) (fault : Option Fault) → fault ≡ least None (long_lines 1 0 bytes) → Goes file (start before) [] fault bytes (least None (breaks_of before bytes)) (tokens_of file before bytes)
begins file before bytes fault e = record {
  pieces = length bytes;
  enough = omega arith;
  first = ap (λ f. least f (breaks_from (start before) (cuts (length bytes) bytes))) e ∙ sym (least-append None (long_lines 1 0 bytes) (breaks_from (start before) (cuts (length bytes) bytes)));
  so_far = λ none. refl;
}

pub next-shorter : (p : Piece) (rest next : List ℕ) → 1 ≤ length rest → let y : Piece × List ℕ = (p, next) in y ≡ piece_at rest → length next + 1 ≤ length rest
next-shorter p [] next some e = absurd (omega (arith, some))
next-shorter p (c ∷ cs) next some e = let h : length next ≤ length cs = subst (λ (y : Piece × List ℕ). length y.1 ≤ length cs) (sym e) (piece-length c cs) in omega (arith, h)

pub none-left : (cs : List ℕ) → length cs ≡ 0 → cs ≡ []
none-left [] e = refl
none-left (c ∷ cs) e = absurd (omega (arith, e))
