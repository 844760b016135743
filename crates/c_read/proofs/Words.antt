-- What is read of a text from its words.
use Rattle.std.proofs.Common.{◌≡◌, ℕ, ◌<◌, ◌^◌, ◌≤◌, List, [], ◌∷◌, length, map, Result, Ok, Err, refl, sym, ap, subst, ◌∙◌, arith}
use Rattle.std.specs.Prelude.{sum}
use Rattle.std.proofs.lemmas.List.{length-append}
use Rattle.std.proofs.lemmas.List.Sums.{sum_by-cons}
use Rattle.c_tree.specs.declared.unit.External.{External}
use Rattle.c_token.specs.declared.token.CSpanned.{CSpanned}
use Rattle.c_grammar.specs.declared.token.Token.{Token}
use Rattle.c_words.specs.declared.words.Words.{Words}
use Rattle.c_words.specs.Pieces.{Piece, pieces, tokens_of}
use Rattle.c_words.specs.Numbering.{count_of, place_of, words_of, next_number, literal_of, names_of}
use Rattle.c_words.specs.Making.{AreWords}
use Rattle.c_words.proofs.Joining.{are_pieces}
use Rattle.c_unit_grammar.specs.Statements.{Ext}
use Rattle.c_external_read.specs.declared.file.BrokenExternal.{BrokenExternal}
use Rattle.c_external_read.specs.Counts.{AreCounted}
use Rattle.c_external_read.specs.declared.file.ExternalsError.{ExternalsError}
use Rattle.c_external_read.specs.declared.file.ExternalsError.TheVariants.{Memory, Broken}
use Rattle.c_external_read.specs.Files as externals
use Rattle.c_external_read.specs.Files.{deepest, externals_at}
use Rattle.c_read.specs.Reading.{words_in, places_in, counts_in, stop_of, file_or, read_file}
use Rattle.c_read.specs.Nesting.{told_of}
use Rattle.c_read.specs.Views.{Answers, view_unit, refused}

-- ---- there are no more words than tokens

all_counts : (ps : List Piece) → sum (map count_of ps) ≡ length (tokens_of ps)
all_counts [] = refl
all_counts (p ∷ ps) = let long = length-append p.others (tokens_of ps) in let first = sum_by-cons (λ (n : ℕ). n) (count_of p) (map count_of ps) in omega (arith, long, first, all_counts ps)

at_most : (ps : List Piece) → length ps ≤ length (tokens_of ps)
at_most [] = omega arith
at_most (p ∷ ps) = let long = length-append p.others (tokens_of ps) in omega (arith, long, at_most ps)

as_many_words : (names : List (List ℕ)) (k : ℕ) (ps : List Piece) → length (words_of names k ps) ≡ length ps
unfolding words_of
as_many_words names k [] = refl
as_many_words names k (p ∷ ps) = let more = as_many_words names (next_number k (literal_of p)) ps in omega (arith, more)

as_many_places : (ps : List Piece) → length (map place_of ps) ≡ length ps
as_many_places [] = refl
as_many_places (p ∷ ps) = omega (arith, as_many_places ps)

pub places_and_words : (ts : List CSpanned) → length (words_in ts) ≡ length (places_in ts)
places_and_words ts = as_many_words (names_of (pieces ts)) 0 (pieces ts) ∙ sym (as_many_places (pieces ts))

module _ (ts : List CSpanned) (w : Words) (are : AreWords ts w) where
  pub few_tokens : length ts < 2 ^ 32 → sum w.counts < 2 ^ 32
  few_tokens few =
      let same : sum w.counts ≡ length ts = ap sum are.counts ∙ all_counts (pieces ts) ∙ sym (ap length (are_pieces ts).tokens) in
      omega (arith, same, few)

  pub few_words : length ts < 2 ^ 32 → length w.words < 2 ^ 32
  few_words few =
      let same : length w.words ≡ length (pieces ts) = ap length are.words ∙ as_many_words (names_of (pieces ts)) 0 (pieces ts) in
      let long : length ts ≡ length (tokens_of (pieces ts)) = ap length (are_pieces ts).tokens in
      omega (arith, same, long, few, at_most (pieces ts))

  read_by : (r : Result (List Ext) BrokenExternal) → externals_at deepest (length w.words) [] w.words ≡ r → read_file ts ≡ file_or ts r
  unfolding read_file
  read_by r e = ap (file_or ts) (sym (ap (λ (us : List Token). externals_at deepest (length us) [] us) are.words) ∙ e)

  pub is_read : (xs : List Ext) → externals_at deepest (length w.words) [] w.words ≡ Ok xs → read_file ts ≡ Ok (record { names = w.names; literals = w.literals; places = w.places; externals = xs })
  is_read xs e = read_by (Ok xs) e ∙ sym (λ i. Ok (record { names = are.names i; literals = are.literals i; places = are.places i; externals = xs }))

  pub is_refused : {X : Type 0} (view : X → List Ext) (e : ExternalsError) → externals.Answers view (Err e) (externals_at deepest (length w.words) [] w.words) → Answers view_unit (Err (refused w.words w.places e)) (read_file ts)
  is_refused view Memory a = tt
  is_refused view (Broken b) a = read_by (Err b) a ∙ sym (λ i. Err (stop_of (are.places i) (told_of (are.words i) b)))

  pub is_counted : (xs : List External) → AreCounted w.counts w.words xs → AreCounted (counts_in ts) (words_in ts) xs
  is_counted xs c = subst (λ (us : List Token). AreCounted (counts_in ts) us xs) are.words (subst (λ (ns : List ℕ). AreCounted ns w.words xs) are.counts c)
