-- All statements of a file, or where it is broken first.
use Rattle.std.proofs.Common.{◌≡◌, inl, inr, ℕ, List, [], ◌∷◌, ◌++◌, map, reverse, Option, Some, None, Result, Ok, Err, true, refl, sym, ap, subst, ◌∙◌}
use Rattle.std.proofs.lemmas.List.{map-append, append_assoc, append-nil, reverse-append}
use Rattle.jf_base.specs.declared.place.Place.{Place}
use Rattle.jf_base.specs.declared.tag.Tag.{Tag}
use Rattle.f_lex.specs.declared.token.Spanned.{Spanned}
use Rattle.f_expr_read.specs.Views.{tokens_of}
use Rattle.f_statement_grammar.specs.Statements.{Statement, statement_at}
use Rattle.f_statement_grammar.proofs.StatementLaws.{statement_again}
use Rattle.f_unit_grammar.specs.Units.{File, IsFile}
use Rattle.f_unit_grammar.specs.Placing.{Broken, Open, step, run, at_file}
use Rattle.f_unit_grammar.specs.Rules.{Rule, NoForm, Misplaced, TooNested, Cut, cuts, HasForm, HaveForms, IsText, read_cut, read_cuts}
use Rattle.f_unit_grammar.proofs.Begun.{placed_is_file}
use Rattle.f_unit_grammar.proofs.Placed.{run_append}
use Rattle.f_unit_grammar.proofs.Texts.{run_step, text_is_read}
use Rattle.f_unit_grammar.proofs.FirstRule.{rule_is_first}
use Rattle.f_statement_cut.specs.Pieces.{Piece, pieces, cut_of, BeginsAt, place_or}
use Rattle.f_statement_cut.proofs.CutPieces.{cut_pieces}
use Rattle.f_statement_cut.proofs.FirstPiece.{each_begun}
use Rattle.f_file_read.specs.Reading.{Opened, open_of, tag_of, Stop, stop, and_then, nowhere, Reading, read_piece, read_behind, read_pieces, second, open_unit, unless_open, at_end, file_alone, read_file}
use Rattle.f_file_read.specs.BrokenAt.{StandsAt, BreaksAt, EndsInside, BrokenAt, breaks, unended}
use Rattle.f_file_read.proofs.Agreeing.{StandsHere, Agrees, agrees}
use Rattle.f_file_read.proofs.Inside.{cuts_stop, cuts_end, cuts_append, cuts_last, read_is, inside_two, Rooted, alone, within, Unended, alone_is, rooted_on}

-- ---- reading on

forms_last : (cs : List Cut) (ss : List Statement) (c : Cut) (s : Statement) → HaveForms cs ss → HasForm c s → HaveForms (cs ++ c ∷ []) (ss ++ s ∷ [])
forms_last [] [] c s f g = (g, tt)
forms_last [] (x ∷ ss) c s f g = absurd f
forms_last (x ∷ cs) [] c s f g = absurd f
forms_last (x ∷ cs) (y ∷ ss) c s f g = (f.0, forms_last cs ss c s f.1 g)

run_is : (o : Open) → run o [] ≡ Ok o
unfolding run
run_is o = refl

-- what was read so far
record SoFar (before : List Piece) (x : Reading) : Type 0 where
  forms : HaveForms (map cut_of before) x.1
  placed : run at_file x.1 ≡ Ok (open_of x.0)
  read : read_cuts at_file (map cut_of before) ≡ Ok (open_of x.0)
  rooted : Rooted before x.0

-- where reading stopped
record Stopped (all : List Piece) (e : Stop) : Type 0 where
  before : List Piece
  broken : Piece
  behind : List Piece
  parts : all ≡ before ++ broken ∷ behind
  around : Open
  read : read_cuts at_file (map cut_of before) ≡ Ok around
  rule : Rule
  tag : e.1 ≡ tag_of rule
  breaks : read_cut around (cut_of broken) ≡ Err rule
  stands : StandsHere rule around broken (place_or nowhere broken) e.0

abbrev Outcome : List Piece → Result Reading Stop → Type 0
Outcome all (Ok y) = SoFar all y
Outcome all (Err e) = Stopped all e

more : (before : List Piece) (p : Piece) (x : Reading) (y : List Opened × Statement) → SoFar before x → Agrees x.0 (place_or nowhere p) p (Ok y) → SoFar (before ++ p ∷ []) (read_behind x.1 y)
more before p x y f a = record {
  forms = subst (λ (cs : List Cut). HaveForms cs (x.1 ++ y.1 ∷ [])) (sym (map-append cut_of before (p ∷ []))) (forms_last (map cut_of before) x.1 (cut_of p) y.1 f.forms a.0);
  placed = run_append x.1 (y.1 ∷ []) at_file (open_of x.0) f.placed ∙ run_step (open_of x.0) (open_of y.0) (open_of y.0) y.1 [] a.1 (run_is (open_of y.0));
  read = ap (read_cuts at_file) (map-append cut_of before (p ∷ [])) ∙ cuts_last (map cut_of before) (cut_of p) at_file (open_of x.0) (open_of y.0) f.read a.2;
  rooted = rooted_on before p y.0 y.1 x.0 f.rooted f.read a.2 a.3;
}

outcome : (before ps : List Piece) (x : Reading) → SoFar before x → Outcome (before ++ ps) (read_pieces x ps)
unfolding read_pieces
outcome before [] x f = subst (λ (l : List Piece). SoFar l x) (sym (append-nil before)) f
outcome before (p ∷ ps) x f = pick (read_piece x.0 (place_or nowhere p) p) (agrees x.0 (place_or nowhere p) p) (λ y g. outcome (before ++ p ∷ []) ps (read_behind x.1 y) g)
  where
    pick : (r : Result (List Opened × Statement) Stop) → Agrees x.0 (place_or nowhere p) p r → ((y : List Opened × Statement) → SoFar (before ++ p ∷ []) (read_behind x.1 y) → Outcome ((before ++ p ∷ []) ++ ps) (read_pieces (read_behind x.1 y) ps))
        → Outcome (before ++ p ∷ ps) (and_then r (λ y. read_pieces (read_behind x.1 y) ps))
    pick (Ok y) a on = subst (λ (l : List Piece). Outcome l (read_pieces (read_behind x.1 y) ps)) (append_assoc before (p ∷ []) ps) (on y (more before p x y f a))
    pick (Err e) a on = record { before = before; broken = p; behind = ps; parts = refl; around = open_of x.0; read = f.read; rule = a.0; tag = a.1; breaks = a.2; stands = a.3 }

start : SoFar [] (file_alone, [])
start = record { forms = tt; placed = run_is at_file; read = cuts_end at_file; rooted = alone (File, 0, nowhere) refl refl refl }

whole : (tokens : List Spanned) → Outcome (pieces tokens) (read_pieces (file_alone, []) (pieces tokens))
whole tokens = outcome [] (pieces tokens) (file_alone, []) start

-- ---- the end

file_is : (tokens : List Spanned) (r : Result Reading Stop) → read_pieces (file_alone, []) (pieces tokens) ≡ r → read_file tokens ≡ and_then r at_end
unfolding read_file
file_is tokens r e = rw e refl

-- at the end nothing is open but the file, or the unit is that begins here
data Ended (before : List Piece) (y : Reading) : Type 0 where
  closed : open_of y.0 ≡ at_file → at_end y ≡ Ok y.1 → Ended before y
  open_at : (place : Place) → Unended before (open_of y.0) place → (open_of y.0 ≡ at_file → ⊥) → at_end y ≡ Err (stop place Misplaced) → Ended before y

unit_is : (xs : List Opened) (u f : Opened) → open_unit (xs ++ u ∷ f ∷ []) ≡ Some u.2
unit_is xs u f = ap second (reverse-append xs (u ∷ f ∷ []))

ended : (before : List Piece) (y : Reading) → Rooted before y.0 → Ended before y
ended before y (alone f i k d) = closed (ap open_of i ∙ alone_is f k d) (ap (λ (os : List Opened). unless_open (open_unit os) y.1) i)
ended before y (within xs u f i k d w) =
    open_at u.2 w (λ e. inside_two xs u f (sym (ap open_of i) ∙ e)) (ap (λ (os : List Opened). unless_open (open_unit os) y.1) i ∙ ap (λ (o : Option Place). unless_open o y.1) (unit_is xs u f))

-- ---- the laws

ok_is : (a b : List Statement) → let x : Result (List Statement) Stop = Ok a in let y : Result (List Statement) Stop = Ok b in x ≡ y → a ≡ b
ok_is a b e = cc

no_stop : (a : List Statement) (e : Stop) → let x : Result (List Statement) Stop = Ok a in let y : Result (List Statement) Stop = Err e in x ≡ y → ⊥
no_stop a e i = cc

stop_is : (d e : Stop) → let x : Result (List Statement) Stop = Err d in let y : Result (List Statement) Stop = Err e in x ≡ y → d ≡ e
stop_is d e i = cc

rule_or_read : (r : Rule) (cs : List Cut) (o : Open) → let a : Result Open (Rule × List Cut) = Err (r, cs) in let b : Result Open (Rule × List Cut) = Ok o in a ≡ b → ⊥
rule_or_read r cs o e = cc

abbrev IsReadFile : List Spanned → List Statement → Type 0
IsReadFile tokens ss = HaveForms (cuts (tokens_of tokens)) ss × IsFile ss

stopped_cuts : (tokens : List Spanned) (e : Stop) (s : Stopped (pieces tokens) e) → read_cuts at_file (cuts (tokens_of tokens)) ≡ Err (s.rule, map cut_of (s.broken ∷ s.behind))
stopped_cuts tokens e s =
    ap (read_cuts at_file) (cut_pieces tokens ∙ ap (map cut_of) s.parts ∙ map-append cut_of s.before (s.broken ∷ s.behind))
    ∙ cuts_append (map cut_of s.before) (map cut_of (s.broken ∷ s.behind)) at_file s.around s.read
    ∙ cuts_stop s.around s.rule (cut_of s.broken) (map cut_of s.behind) s.breaks

read_whole : (tokens : List Spanned) (y : Reading) → SoFar (pieces tokens) y → read_cuts at_file (cuts (tokens_of tokens)) ≡ Ok (open_of y.0)
read_whole tokens y f = ap (read_cuts at_file) (cut_pieces tokens) ∙ f.read

forms_whole : (tokens : List Spanned) (y : Reading) → SoFar (pieces tokens) y → HaveForms (cuts (tokens_of tokens)) y.1
forms_whole tokens y f = subst (λ (cs : List Cut). HaveForms cs y.1) (sym (cut_pieces tokens)) f.forms

-- what is read is a file
pub file_read : (tokens : List Spanned) (ss : List Statement) → read_file tokens ≡ Ok ss → HaveForms (cuts (tokens_of tokens)) ss × IsFile ss
file_read tokens ss e = pick (read_pieces (file_alone, []) (pieces tokens)) refl (whole tokens)
  where
    at_last : (y : Reading) → SoFar (pieces tokens) y → Ended (pieces tokens) y → at_end y ≡ Ok ss → IsReadFile tokens ss
    at_last y f (closed o i) g =
        subst (IsReadFile tokens) (ok_is y.1 ss (sym i ∙ g)) (forms_whole tokens y f, placed_is_file y.1 (f.placed ∙ ap (λ (q : Open). Ok q) o))
    at_last y f (open_at place u o i) g = absurd (no_stop ss (stop place Misplaced) (sym g ∙ i))

    pick : (r : Result Reading Stop) → read_pieces (file_alone, []) (pieces tokens) ≡ r → Outcome (pieces tokens) r → IsReadFile tokens ss
    pick (Ok y) i f = at_last y f (ended (pieces tokens) y f.rooted) (sym (file_is tokens (Ok y) i) ∙ e)
    pick (Err x) i f = absurd (no_stop ss x (sym e ∙ file_is tokens (Err x) i))

-- the statement of a cut is one alone
form_is : (c : Cut) (s : Statement) → HasForm c s → statement_at 65 c.0 ≡ Some s
form_is c s f = ap (statement_at 65) f.2 ∙ statement_again 65 s f.1

some_is : (s q : Statement) → let a : Option Statement = Some s in let b : Option Statement = Some q in a ≡ b → s ≡ q
some_is s q e = cc

one_list : (cs : List Cut) (ss qs : List Statement) → HaveForms cs ss → HaveForms cs qs → ss ≡ qs
one_list [] [] [] f g = refl
one_list [] [] (q ∷ qs) f g = absurd g
one_list [] (s ∷ ss) qs f g = absurd f
one_list (c ∷ cs) [] qs f g = absurd f
one_list (c ∷ cs) (s ∷ ss) [] f g = absurd g
one_list (c ∷ cs) (s ∷ ss) (q ∷ qs) f g =
    ap (λ (x : Statement). x ∷ ss) (some_is s q (sym (form_is c s f.0) ∙ form_is c q g.0)) ∙ ap (λ (xs : List Statement). q ∷ xs) (one_list cs ss qs f.1 g.1)

-- a file is read
pub file_is_read : (tokens : List Spanned) (t : IsText (tokens_of tokens)) → read_file tokens ≡ Ok t.statements
file_is_read tokens t = pick (read_pieces (file_alone, []) (pieces tokens)) refl (whole tokens)
  where
    at_last : (y : Reading) → SoFar (pieces tokens) y → Ended (pieces tokens) y → at_end y ≡ Ok t.statements
    at_last y f (closed o i) = i ∙ ap (λ (ss : List Statement). Ok ss) (one_list (cuts (tokens_of tokens)) y.1 t.statements (forms_whole tokens y f) t.forms)
    at_last y f (open_at place u o i) = absurd (o (read_is (open_of y.0) at_file (sym (read_whole tokens y f) ∙ text_is_read (tokens_of tokens) t)))

    pick : (r : Result Reading Stop) → read_pieces (file_alone, []) (pieces tokens) ≡ r → Outcome (pieces tokens) r → read_file tokens ≡ Ok t.statements
    pick (Ok y) i f = file_is tokens (Ok y) i ∙ at_last y f (ended (pieces tokens) y f.rooted)
    pick (Err x) i f = absurd (rule_or_read f.rule (map cut_of (f.broken ∷ f.behind)) at_file (sym (stopped_cuts tokens x f) ∙ text_is_read (tokens_of tokens) t))

-- ---- where a file is broken

stands_there : (r : Rule) (o : Open) (p : Piece) (at place : Place) → BeginsAt p at → StandsHere r o p at place → StandsAt r o p place
stands_there NoForm o p at place b s = subst (BeginsAt p) (sym s) b
stands_there Misplaced o p at place b s = subst (BeginsAt p) (sym s) b
stands_there TooNested o p at place b (inl s) = inl s
stands_there TooNested o p at place b (inr s) = inr (s.0, subst (BeginsAt p) (sym s.1) b)

module _ (tokens : List Spanned) where
  broken_there : (e : Stop) → Stopped (pieces tokens) e → BrokenAt tokens e.0 e.1
  broken_there e s = breaks s.rule s.tag (record {
    before = s.before;
    broken = s.broken;
    behind = s.behind;
    parts = s.parts;
    around = s.around;
    placed = s.read;
    first = rule_is_first (tokens_of tokens) s.rule (map cut_of (s.broken ∷ s.behind)) (stopped_cuts tokens e s);
    stands = stands_there s.rule s.around s.broken (place_or nowhere s.broken) e.0 (each_begun tokens s.before s.broken s.behind s.parts nowhere) s.stands;
  })

  open_there : (y : Reading) (place : Place) → SoFar (pieces tokens) y → Unended (pieces tokens) (open_of y.0) place → BrokenAt tokens place (tag_of Misplaced)
  open_there y place f u = unended refl (record {
    before = u.outside;
    beginning = u.beginning;
    behind = u.behind;
    parts = u.parts;
    placed = u.placed;
    inside = u.inside;
    begun = u.begun;
    stays = u.stays;
    last = open_of y.0;
    unbroken = read_whole tokens y f;
    stands = subst (BeginsAt u.beginning) (sym u.there) (each_begun tokens u.outside u.beginning u.behind u.parts nowhere);
  })

  pub file_broken : (place : Place) (tag : Tag) → read_file tokens ≡ Err (place, tag) → BrokenAt tokens place tag
  file_broken place tag e = pick (read_pieces (file_alone, []) (pieces tokens)) refl (whole tokens)
    where
      at_stop : (d : Stop) → BrokenAt tokens d.0 d.1 → let x : Result (List Statement) Stop = Err d in x ≡ Err (place, tag) → BrokenAt tokens place tag
      at_stop d b i = subst (λ (x : Stop). BrokenAt tokens x.0 x.1) (stop_is d (place, tag) i) b

      at_last : (y : Reading) → SoFar (pieces tokens) y → Ended (pieces tokens) y → at_end y ≡ Err (place, tag) → BrokenAt tokens place tag
      at_last y f (closed o i) g = absurd (no_stop y.1 (place, tag) (sym i ∙ g))
      at_last y f (open_at there u o i) g = at_stop (stop there Misplaced) (open_there y there f u) (sym i ∙ g)

      pick : (r : Result Reading Stop) → read_pieces (file_alone, []) (pieces tokens) ≡ r → Outcome (pieces tokens) r → BrokenAt tokens place tag
      pick (Ok y) i f = at_last y f (ended (pieces tokens) y f.rooted) (sym (file_is tokens (Ok y) i) ∙ e)
      pick (Err x) i f = at_stop x (broken_there x f) (sym (file_is tokens (Err x) i) ∙ e)
