-- What pieces give: tokens, and no broken rules but those on lengths.
use Rattle.std.proofs.Common.{◌≡◌, ℕ, ◌+◌, ◌-◌, inl, inr, Bool, true, false, cond, eqb, List, [], ◌∷◌, ◌++◌, map, length, Option, Some, None, refl, sym, ap, subst, ◌∙◌}
use Rattle.std.specs.Prelude.{is_some, option_to_list, ◌&&◌, nat_lt, nat_le}
use Rattle.std.proofs.lemmas.List.{map-append}
use Rattle.f_lex.specs.declared.fault.Rule.TheVariants as rule
use Rattle.f_lex.specs.declared.piece.Piece.{Piece}
use Rattle.f_lex.specs.declared.piece.Piece.TheVariants as piece
use Rattle.f_lex.specs.declared.token.Token.{Token}
use Rattle.f_lex.specs.declared.token.Token.TheVariants as token
use Rattle.f_lex.specs.declared.token.Spanned.{Spanned}
use Rattle.f_lex.specs.declared.reader.Point.{Point}
use Rattle.f_lex.specs.declared.reader.Fault.{Fault}
use Rattle.f_lex.specs.declared.reader.Position.{Position}
use Rattle.f_lex.specs.Characters.{carriage_return, line_feed, is_next}
use Rattle.f_lex.specs.Rules.{token_rule, token_break, piece_break, gives_token, count_break, length_of, length_break, characters_with, given, long_line, long_lines}
use Rattle.f_lex.specs.Source.{Cut, point_behind, position_behind, breaks_from, tokens_from}
use Rattle.f_lex.specs.Lexing.{IsAmong}
use Rattle.f_print_laws.specs.Tokens.{IsOnLengths}

-- a rule that is broken is one on lengths
abbrev pub OnLengths : Option Fault → Type 0
OnLengths None = Unit {0}
OnLengths (Some f) = IsOnLengths f.rule

abbrev pub AllOnLengths : List (Option Fault) → Type 0
AllOnLengths [] = Unit {0}
AllOnLengths (o ∷ os) = OnLengths o × AllOnLengths os

pub among : (f : Fault) (os : List (Option Fault)) → AllOnLengths os → IsAmong f os → IsOnLengths f.rule
among f [] a n = elim n [ ]
among f (o ∷ os) a (inl e) = subst OnLengths e a.0
among f (o ∷ os) a (inr i) = among f os a.1 i

pub all_append : (os ps : List (Option Fault)) → AllOnLengths os → AllOnLengths ps → AllOnLengths (os ++ ps)
all_append [] ps a b = b
all_append (o ∷ os) ps a b = (a.0, all_append os ps a.1 b)

on_line : (line n : ℕ) → OnLengths (long_line line n)
on_line line n = pick (nat_lt 10000 n)
  where
    pick : (b : Bool) → OnLengths (cond b (Some (record { point = record { line = line; column = 1 }; rule = rule.LongLine })) None)
    pick true = tt
    pick false = tt

pub on_lines : (line n : ℕ) (bytes : List ℕ) → AllOnLengths (long_lines line n bytes)
unfolding long_lines
on_lines line n [] = (on_line line n, tt)
on_lines line n (c ∷ cs) = pick (eqb c line_feed) (eqb c carriage_return && is_next line_feed cs) (λ line n. on_lines line n cs)
  where
    pick : (a b : Bool) → ((line n : ℕ) → AllOnLengths (long_lines line n cs)) → AllOnLengths (cond a (long_line line n ∷ long_lines (line + 1) 0 cs) (cond b (long_lines line n cs) (long_lines line (n + 1) cs)))
    pick true b ih = (on_line line n, ih (line + 1) 0)
    pick false true ih = ih line n
    pick false false ih = ih line (n + 1)

-- ---- what pieces give

abbrev pub token_of : Spanned → Token
token_of s = s.token

-- these pieces, from this position, give these tokens
pub record Gives (file : ℕ) (at : Position) (xs : List Cut) (ts : List Token) : Type 0 where
  pub tokens : map token_of (tokens_from file at xs) ≡ ts
  pub faults : AllOnLengths (breaks_from at xs)

on_count : (at : Position) (p : Piece) → OnLengths (count_break at p)
unfolding count_break
on_count at p = pick (gives_token at p && nat_le 262144 at.tokens)
  where
    pick : (b : Bool) → OnLengths (cond b (Some (record { point = at.point; rule = rule.TooMany })) None)
    pick true = tt
    pick false = tt

on_statement : (o : Option Point) (n : ℕ) → OnLengths (length_of o n)
on_statement None n = tt
on_statement (Some p) n = pick (nat_lt 1000000 n)
  where
    pick : (b : Bool) → OnLengths (cond b (Some (record { point = p; rule = rule.LongStatement })) None)
    pick true = tt
    pick false = tt

on_length : (at : Position) (p : Piece) (n : ℕ) → OnLengths (length_break at p n)
unfolding length_break
on_length at p n = on_statement _ (characters_with at p n)

module _ (file : ℕ) (at : Position) where
  step : (x : Cut) (xs : List Cut) (ts us : List Token) → token_break at x.0 ≡ None → piece_break at x.0 (point_behind at x) ≡ None → map token_of (option_to_list (given file at x.0 (length x.1))) ++ ts ≡ us
      → Gives file (position_behind at x) xs ts → Gives file at (x ∷ xs) us
  step x xs ts us a b t g = record {
    tokens = map-append token_of (option_to_list (given file at x.0 (length x.1))) (tokens_from file (position_behind at x) xs) ∙ ap (λ l. map token_of (option_to_list (given file at x.0 (length x.1))) ++ l) g.tokens ∙ t;
    faults = (subst OnLengths (sym a) tt, (subst OnLengths (sym b) tt, (on_count at x.0, (on_length at x.0 (length x.1), g.faults))));
  }

  pub gives_blank : (b : List ℕ) (xs : List Cut) (ts : List Token) → Gives file (position_behind at (piece.Blank, b)) xs ts → Gives file at ((piece.Blank, b) ∷ xs) ts
  unfolding token_break piece_break given
  gives_blank b xs ts g = step (piece.Blank, b) xs ts ts refl refl refl g

  pub gives_joined : (b : List ℕ) (xs : List Cut) (ts : List Token) → at.first_on_line ≡ false → Gives file (position_behind at (piece.Joined, b)) xs ts → Gives file at ((piece.Joined, b) ∷ xs) ts
  unfolding token_break piece_break given
  gives_joined b xs ts e g = step (piece.Joined, b) xs ts ts refl (rw e refl) refl g

  pub gives_token_of : (t : Token) (passed : ℕ) (b : List ℕ) (xs : List Cut) (ts : List Token) → token_rule t ≡ None → Gives file (position_behind at (piece.Token t passed None, b)) xs ts → Gives file at ((piece.Token t passed None, b) ∷ xs) (t ∷ ts)
  unfolding token_break piece_break given
  gives_token_of t passed b xs ts e g = step (piece.Token t passed None, b) xs ts (t ∷ ts) (rw e refl) refl refl g

  pub gives_end : (b : List ℕ) (xs : List Cut) (ts : List Token) → is_some at.statement ≡ true → Gives file (position_behind at (piece.LineEnd, b)) xs ts → Gives file at ((piece.LineEnd, b) ∷ xs) (token.End ∷ ts)
  unfolding token_break piece_break given
  gives_end b xs ts e g = step (piece.LineEnd, b) xs ts (token.End ∷ ts) refl refl (rw e refl) g

  pub gives_last : is_some at.statement ≡ false → Gives file at ((piece.LineEnd, []) ∷ []) []
  unfolding token_break piece_break given
  gives_last e = step (piece.LineEnd, []) [] [] [] refl refl (rw e refl) (record { tokens = refl; faults = tt })
