-- Statements without their places are the cuts of the tokens without theirs.
use Rattle.std.proofs.Common.{◌≡◌, Bool, true, false, Some, List, [], ◌∷◌, map, refl, sym, ap, ◌∙◌}
use Rattle.f_lex.specs.declared.token.Token.{Token}
use Rattle.f_lex.specs.declared.token.Token.TheVariants as token
use Rattle.f_lex.specs.declared.token.Spanned.{Spanned}
use Rattle.f_expr_read.specs.Views.{tokens_of}
use Rattle.f_unit_grammar.specs.Rules.{Cut, cuts, in_first}
use Rattle.f_statement_cut.specs.Pieces.{Piece, is_end, in_front, pieces, cut_of}

no_bool : false ≡ true → ⊥
no_bool e = cc

front_cut : (t : Spanned) (ps : List Piece) → map cut_of (in_front t ps) ≡ in_first t.token (map cut_of ps)
front_cut t [] = refl
front_cut t (p ∷ ps) = refl

cut_on : (k : Token) (ts : List Token) → is_end k ≡ false → cuts (k ∷ ts) ≡ in_first k (cuts ts)
unfolding cuts
cut_on (token.Name n) ts e = refl
cut_on (token.Number d k) ts e = refl
cut_on (token.Truth v k) ts e = refl
cut_on (token.Text b k) ts e = refl
cut_on (token.Mark m) ts e = refl
cut_on token.End ts e = absurd (no_bool (sym e))

cut_end : (k : Token) (ts : List Token) → is_end k ≡ true → cuts (k ∷ ts) ≡ ([], true) ∷ cuts ts
unfolding cuts
cut_end (token.Name n) ts e = absurd (no_bool e)
cut_end (token.Number d k) ts e = absurd (no_bool e)
cut_end (token.Truth v k) ts e = absurd (no_bool e)
cut_end (token.Text b k) ts e = absurd (no_bool e)
cut_end (token.Mark m) ts e = absurd (no_bool e)
cut_end token.End ts e = refl

piece_on : (t : Spanned) (ts : List Spanned) → is_end t.token ≡ false → pieces (t ∷ ts) ≡ in_front t (pieces ts)
unfolding pieces
piece_on t ts e = rw e refl

piece_end : (t : Spanned) (ts : List Spanned) → is_end t.token ≡ true → pieces (t ∷ ts) ≡ ([], Some t.place) ∷ pieces ts
unfolding pieces
piece_end t ts e = rw e refl

none_cut : cuts (tokens_of []) ≡ map cut_of (pieces [])
unfolding cuts pieces
none_cut = refl

pub cut_pieces : (ts : List Spanned) → cuts (tokens_of ts) ≡ map cut_of (pieces ts)
cut_pieces [] = none_cut
cut_pieces (t ∷ ts) = pick (is_end t.token) refl (cut_pieces ts)
  where
    pick : (b : Bool) → is_end t.token ≡ b → cuts (tokens_of ts) ≡ map cut_of (pieces ts) → cuts (t.token ∷ tokens_of ts) ≡ map cut_of (pieces (t ∷ ts))
    pick true e ih = cut_end t.token (tokens_of ts) e ∙ ap (λ (cs : List Cut). ([], true) ∷ cs) ih ∙ ap (map cut_of) (sym (piece_end t ts e))
    pick false e ih = cut_on t.token (tokens_of ts) e ∙ ap (in_first t.token) ih ∙ sym (front_cut t (pieces ts)) ∙ ap (map cut_of) (sym (piece_on t ts e))
