-- A statement is read as the rules over tokens read it.
use Rattle.std.proofs.Common.{◌≡◌, ◌⊎◌, inl, inr, ℕ, ◌+◌, nat_lt, List, [], ◌∷◌, ◌++◌, map, Option, Some, None, is_some, Result, Ok, Err, Bool, true, false, cond, refl, sym, ap, subst, ◌∙◌}
use Rattle.std.specs.Prelude.{MatchOption}
use Rattle.jf_base.specs.declared.place.Place.{Place}
use Rattle.f_lex.specs.declared.token.Token.{Token}
use Rattle.f_lex.specs.declared.token.Spanned.{Spanned}
use Rattle.f_grammar.specs.Reading.{IfSome}
use Rattle.f_expr_read.specs.Views.{tokens_of}
use Rattle.f_statement_grammar.specs.Statements.{Statement, spell_statement, FitsStatement, statement_at}
use Rattle.f_statement_grammar.proofs.StatementLaws.{statement_sound}
use Rattle.f_unit_grammar.specs.Units.{Role, stays, enters, leaves, none, role, counts, deepest, deeper}
use Rattle.f_unit_grammar.specs.Placing.{Broken, NoPlace, TooDeep, Open, step}
use Rattle.f_unit_grammar.specs.Rules.{Rule, NoForm, Misplaced, TooNested, Cut, HasForm, depth_of, by_place, formed as formed_cut, read_cut}
use Rattle.f_unit_grammar.proofs.Placed.{step_by}
use Rattle.f_statement_cut.specs.Pieces.{Piece, cut_of}
use Rattle.f_statement_cut.specs.Nesting.{OpensTooDeep, too_deep_at}
use Rattle.f_statement_cut.proofs.Deepening.{found}
use Rattle.f_file_read.specs.Reading.{Opened, open_of, tag_of, Stop, stop, and_then, unless_deeper, entered, moved, placed, formed, unless_nested, read_piece}

-- ---- placing

abbrev pub rule_of : Broken → Rule
rule_of NoPlace = Misplaced
rule_of TooDeep = TooNested

abbrev PlacedAgrees : List Opened → Place → Statement → Result (List Opened) Stop → Type 0
PlacedAgrees os at s (Ok next) = step (open_of os) s ≡ Ok (open_of next)
PlacedAgrees os at s (Err e) = (b : Broken) × (e ≡ stop at (rule_of b)) × (step (open_of os) s ≡ Err b)

step_none : (s : Statement) → step [] s ≡ Err NoPlace
unfolding step
step_none s = refl

placed_agrees : (os : List Opened) (at : Place) (s : Statement) → deeper (depth_of (open_of os)) 0 (spell_statement s) ≡ false → PlacedAgrees os at s (placed os at s)
unfolding placed
placed_agrees [] at s e = (NoPlace, refl, step_none s)
placed_agrees (o ∷ rest) at s e = pick (role o.0 s) refl
  where
    deep : (after inner : _) → role o.0 s ≡ enters after inner → (b : Bool) → nat_lt deepest (o.1 + counts inner) ≡ b → PlacedAgrees (o ∷ rest) at s (entered after inner (unless_deeper b (o.1 + counts inner)) o.1 o.2 at rest)
    deep after inner i true h = (TooDeep, refl, step_by o.0 o.1 (open_of rest) s (enters after inner) e i ∙ ap (λ (x : Bool). cond x (Err TooDeep) (Ok ((inner, o.1 + counts inner) ∷ (after, o.1) ∷ open_of rest))) h)
    deep after inner i false h = step_by o.0 o.1 (open_of rest) s (enters after inner) e i ∙ ap (λ (x : Bool). cond x (Err TooDeep) (Ok ((inner, o.1 + counts inner) ∷ (after, o.1) ∷ open_of rest))) h

    pick : (r : Role) → role o.0 s ≡ r → PlacedAgrees (o ∷ rest) at s (moved r o at rest)
    pick (stays after) i = step_by o.0 o.1 (open_of rest) s (stays after) e i
    pick (enters after inner) i = deep after inner i (nat_lt deepest (o.1 + counts inner)) refl
    pick leaves i = step_by o.0 o.1 (open_of rest) s leaves e i
    pick none i = (NoPlace, refl, step_by o.0 o.1 (open_of rest) s none e i)

-- ---- one statement

-- where a rule is broken by a statement that begins here
abbrev pub StandsHere : Rule → Open → Piece → Place → Place → Type 0
StandsHere NoForm o p at place = place ≡ at
StandsHere Misplaced o p at place = place ≡ at
StandsHere TooNested o p at place = OpensTooDeep (depth_of o) p.0 place ⊎ ((deeper (depth_of o) 0 (tokens_of p.0) ≡ false) × (place ≡ at))

abbrev pub Agrees : List Opened → Place → Piece → Result (List Opened × Statement) Stop → Type 0
Agrees os at p (Ok x) = HasForm (cut_of p) x.1 × (step (open_of os) x.1 ≡ Ok (open_of x.0)) × (read_cut (open_of os) (cut_of p) ≡ Ok (open_of x.0)) × (placed os at x.1 ≡ Ok x.0)
Agrees os at p (Err e) = (r : Rule) × (e.1 ≡ tag_of r) × (read_cut (open_of os) (cut_of p) ≡ Err r) × StandsHere r (open_of os) p at e.0

cut_deep : (o : Open) (c : Cut) → deeper (depth_of o) 0 c.0 ≡ true → read_cut o c ≡ Err TooNested
unfolding read_cut
cut_deep o c e = rw e refl

cut_shallow : (o : Open) (c : Cut) (b : Bool) (f : Option Statement) → deeper (depth_of o) 0 c.0 ≡ false → c.1 ≡ b → statement_at 65 c.0 ≡ f → read_cut o c ≡ formed_cut o b f
unfolding read_cut
cut_shallow o c b f e1 e2 e3 = rw (e1, e2, e3) refl

module _ (os : List Opened) (at : Place) (p : Piece) (shallow : deeper (depth_of (open_of os)) 0 (tokens_of p.0) ≡ false) where
  stepped : (s : Statement) → HasForm (cut_of p) s → read_cut (open_of os) (cut_of p) ≡ by_place (step (open_of os) s) → (r : Result (List Opened) Stop) → placed os at s ≡ r → PlacedAgrees os at s r → Agrees os at p (and_then r (λ next. Ok (next, s)))
  stepped s f e (Ok next) k i = (f, i, e ∙ ap by_place i, k)
  stepped s f e (Err x) k (NoPlace, i, j) = (Misplaced, ap (λ (y : Stop). y.1) i, e ∙ ap by_place j, ap (λ (y : Stop). y.0) i)
  stepped s f e (Err x) k (TooDeep, i, j) = (TooNested, ap (λ (y : Stop). y.1) i, e ∙ ap by_place j, inr (shallow, ap (λ (y : Stop). y.0) i))

  formed_agrees : (b : Bool) (f : Option Statement) → is_some p.1 ≡ b → statement_at 65 (tokens_of p.0) ≡ f → IfSome f (λ s. (tokens_of p.0 ≡ spell_statement s) × FitsStatement 65 s) → Agrees os at p (formed os at b f)
  formed_agrees true (Some s) e1 e2 g =
      stepped s (e1, g.1, g.0) (cut_shallow (open_of os) (cut_of p) true (Some s) shallow e1 e2) (placed os at s) refl (placed_agrees os at s (sym (ap (deeper (depth_of (open_of os)) 0) g.0) ∙ shallow))
  formed_agrees true None e1 e2 g = (NoForm, refl, cut_shallow (open_of os) (cut_of p) true None shallow e1 e2, refl)
  formed_agrees false f e1 e2 g = (NoForm, refl, cut_shallow (open_of os) (cut_of p) false f shallow e1 e2, refl)

pub agrees : (os : List Opened) (at : Place) (p : Piece) → Agrees os at p (read_piece os at p)
unfolding read_piece
agrees os at p = pick (too_deep_at (depth_of (open_of os)) 0 p.0) (found (depth_of (open_of os)) p.0)
  where
    pick : (o : Option Place) → MatchOption o (deeper (depth_of (open_of os)) 0 (tokens_of p.0) ≡ false) (OpensTooDeep (depth_of (open_of os)) p.0) → Agrees os at p (unless_nested o (formed os at (is_some p.1) (statement_at 65 (tokens_of p.0))))
    pick None shallow = formed_agrees os at p shallow (is_some p.1) (statement_at 65 (tokens_of p.0)) refl refl (statement_sound 65 (tokens_of p.0))
    pick (Some place) opens = (TooNested, refl, cut_deep (open_of os) (cut_of p) opens.whole, inl opens)
