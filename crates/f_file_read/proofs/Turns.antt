-- One turn of the loop over statements.
use Rattle.std.proofs.Common.{◌≡◌, List, [], ◌∷◌, ◌++◌, length, Ok, Err, Result, arith, refl, sym, ap, ◌∙◌}
use Rattle.jf_base.specs.declared.place.Place.{Place}
use Rattle.jf_base.specs.declared.place.Refusal.{Refusal}
use Rattle.jf_base.specs.declared.place.Refusal.TheVariants.{Memory, At}
use Rattle.f_lex.specs.declared.token.Spanned.{Spanned}
use Rattle.f_statement_grammar.specs.Statements.{Statement}
use Rattle.f_statement_cut.specs.Pieces.{Piece, pieces, place_or}
use Rattle.f_statement_cut.proofs.FirstPiece.{first_place}
use Rattle.f_file_read.specs.Views.{Answers}
use Rattle.f_file_read.specs.Reading.{Opened, Stop, Reading, nowhere, and_then, read_piece, read_behind, read_pieces, at_end, read_file, file_alone}

step_on : (os next : List Opened) (ss : List Statement) (s : Statement) (at : Place) (p : Piece) (ps : List Piece) → at ≡ place_or nowhere p → read_piece os at p ≡ Ok (next, s) → read_pieces (os, ss) (p ∷ ps) ≡ read_pieces (next, ss ++ s ∷ []) ps
unfolding read_pieces
step_on os next ss s at p ps a e = rw (sym a, e) refl

step_stops : (os : List Opened) (ss : List Statement) (e : Stop) (at : Place) (p : Piece) (ps : List Piece) → at ≡ place_or nowhere p → read_piece os at p ≡ Err e → read_pieces (os, ss) (p ∷ ps) ≡ Err e
unfolding read_pieces
step_stops os ss e at p ps a i = rw (sym a, i) refl

at_nothing : (x : Reading) → read_pieces x (pieces []) ≡ Ok x
unfolding read_pieces pieces
at_nothing x = refl

file_is : (tokens : List Spanned) (r : Result Reading Stop) → read_pieces (file_alone, []) (pieces tokens) ≡ r → read_file tokens ≡ and_then r at_end
unfolding read_file
file_is tokens r e = rw e refl

-- the statement that begins with the first token
begins : (t : Spanned) (ts rest : List Spanned) (p : Piece) (ps : List Piece) → rest ≡ t ∷ ts → pieces rest ≡ p ∷ ps → t.place ≡ place_or nowhere p
begins t ts rest p ps r e = sym (first_place nowhere t ts p ps (ap pieces (sym r) ∙ e))

module _ (tokens rest : List Spanned) (os : List Opened) (ss : List Statement) (so_far : read_pieces (os, ss) (pieces rest) ≡ read_pieces (file_alone, []) (pieces tokens)) where
  pub goes_on : (t : Spanned) (ts : List Spanned) (p : Piece) (behind : List Spanned) (next : List Opened) (s : Statement) → rest ≡ t ∷ ts → pieces rest ≡ p ∷ pieces behind → read_piece os t.place p ≡ Ok (next, s)
      → read_pieces (next, ss ++ s ∷ []) (pieces behind) ≡ read_pieces (file_alone, []) (pieces tokens)
  goes_on t ts p behind next s r e i =
      sym (step_on os next ss s t.place p (pieces behind) (begins t ts rest p (pieces behind) r e) i) ∙ ap (read_pieces (os, ss)) (sym e) ∙ so_far

  pub stops : (t : Spanned) (ts : List Spanned) (p : Piece) (behind : List Spanned) (e : Stop) → rest ≡ t ∷ ts → pieces rest ≡ p ∷ pieces behind → read_piece os t.place p ≡ Err e → read_file tokens ≡ Err e
  stops t ts p behind e r k i =
      file_is tokens (Err e) (sym so_far ∙ ap (read_pieces (os, ss)) k ∙ step_stops os ss e t.place p (pieces behind) (begins t ts rest p (pieces behind) r k) i)

  pub stops_by : {X Z : Type 0} (view : X → List Opened × Statement) (seen : Z → List Statement) (t : Spanned) (ts : List Spanned) (p : Piece) (behind : List Spanned) (e : Refusal) → rest ≡ t ∷ ts → pieces rest ≡ p ∷ pieces behind
      → Answers view (Err e) (read_piece os t.place p) → Answers seen (Err e) (read_file tokens)
  stops_by view seen t ts p behind Memory r k a = tt
  stops_by view seen t ts p behind (At place tag) r k a = stops t ts p behind (place, tag) r k a

  pub ends : rest ≡ [] → read_file tokens ≡ at_end (os, ss)
  ends r = file_is tokens (Ok (os, ss)) (sym so_far ∙ ap (λ (x : List Spanned). read_pieces (os, ss) (pieces x)) r ∙ at_nothing (os, ss))

pub is_empty : (ts : List Spanned) → length ts ≡ 0 → ts ≡ []
is_empty [] e = refl
is_empty (t ∷ ts) e = absurd (omega (arith, e))
