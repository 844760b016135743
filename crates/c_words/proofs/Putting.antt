-- What pieces that are put one behind the other make.
use Rattle.std.proofs.Common.{◌≡◌, ℕ, zero, suc, ◌+◌, ◌≤◌, Bool, true, false, cond, List, [], ◌∷◌, ◌++◌, map, length, length-append, Option, Some, None, refl, sym, ap, ◌∙◌, arith, append_assoc}
use Rattle.std.proofs.lemmas.List.{append-nil}
use Rattle.std.specs.Str.{bytes_eq}
use Rattle.c_token.specs.declared.token.CToken.{CToken}
use Rattle.c_token.specs.declared.token.CToken.TheVariants as token
use Rattle.c_token.specs.declared.token.CSpanned.{CSpanned}
use Rattle.c_grammar.specs.declared.token.Token.{Token}
use Rattle.c_grammar.specs.declared.token.Token.TheVariants.{Name}
use Rattle.c_words.specs.declared.made.Made.{Made}
use Rattle.c_words.specs.declared.words.Words.{Words}
use Rattle.c_words.specs.Pieces.{Piece, piece, pieces}
use Rattle.c_words.specs.Words.{keyword_of, keyword_or_name, index_of}
use Rattle.c_words.specs.Numbering.{put_some, name_unless, name_in, names_in, without, firsts, names_of, literal_with, literal_of, literals_of, word_with, next_number, words_of, place_of, count_of}
use Rattle.c_words.specs.Making.{is_among, met, met_some, with_literal, others_of, behind_piece, put, nothing, all_put, AreWords}
use Rattle.c_words.proofs.Joining.{first_piece}
use Rattle.c_words.proofs.Named.{same_bytes, index_old, among_met, among_more}

-- ---- names

-- those that weren't met
abbrev fresh : List (List ℕ) → List (List ℕ) → List (List ℕ)
fresh names [] = []
fresh names (x ∷ xs) = cond (is_among names x) (fresh names xs) (x ∷ fresh names xs)

fresh_all : (xs : List (List ℕ)) → fresh [] xs ≡ xs
fresh_all [] = refl
fresh_all (x ∷ xs) = ap (λ l. x ∷ l) (fresh_all xs)

-- a name that was met may be left out
fresh_old : (names : List (List ℕ)) (s : List ℕ) (xs : List (List ℕ)) → is_among names s ≡ true → fresh names (without s xs) ≡ fresh names xs
fresh_old names s [] e = refl
fresh_old names s (x ∷ xs) e = pick (bytes_eq x s) refl (fresh_old names s xs e)
  where
    pick : (b : Bool) → bytes_eq x s ≡ b → fresh names (without s xs) ≡ fresh names xs → fresh names (cond b (without s xs) (x ∷ without s xs)) ≡ cond (is_among names x) (fresh names xs) (x ∷ fresh names xs)
    pick true be ih = let t : is_among names x ≡ true = ap (is_among names) (same_bytes x s be) ∙ e in ih ∙ sym (rw t refl)
    pick false be ih = ap (λ l. cond (is_among names x) l (x ∷ l)) ih

-- behind a name that wasn't met it is left out
fresh_new : (names : List (List ℕ)) (s : List ℕ) (xs : List (List ℕ)) → fresh (names ++ s ∷ []) xs ≡ fresh names (without s xs)
fresh_new names s [] = refl
fresh_new names s (x ∷ xs) = ap (λ b. cond b (fresh (names ++ s ∷ []) xs) (x ∷ fresh (names ++ s ∷ []) xs)) (among_more names s x) ∙ pick (is_among names x) (bytes_eq x s) refl (fresh_new names s xs)
  where
    pick : (a b : Bool) → is_among names x ≡ a → fresh (names ++ s ∷ []) xs ≡ fresh names (without s xs)
        → cond (cond a true b) (fresh (names ++ s ∷ []) xs) (x ∷ fresh (names ++ s ∷ []) xs) ≡ fresh names (cond b (without s xs) (x ∷ without s xs))
    pick true true ae ih = ih
    pick true false ae ih = ih ∙ sym (rw ae refl)
    pick false true ae ih = ih
    pick false false ae ih = ap (λ l. x ∷ l) ih ∙ sym (rw ae refl)

-- one name more, and those behind it
met_firsts : (names : List (List ℕ)) (s : List ℕ) (xs : List (List ℕ)) → met names s ++ fresh (met names s) xs ≡ names ++ fresh names (s ∷ without s xs)
met_firsts names s xs = pick (is_among names s) refl
  where
    pick : (b : Bool) → is_among names s ≡ b → cond b names (names ++ s ∷ []) ++ fresh (cond b names (names ++ s ∷ [])) xs ≡ names ++ cond b (fresh names (without s xs)) (s ∷ fresh names (without s xs))
    pick true e = ap (λ l. names ++ l) (sym (fresh_old names s xs e))
    pick false e = append_assoc names (s ∷ []) (fresh (names ++ s ∷ []) xs) ∙ ap (λ l. names ++ s ∷ l) (fresh_new names s xs)

some_firsts : (names : List (List ℕ)) (o : Option (List ℕ)) (xs : List (List ℕ)) → met_some names o ++ fresh (met_some names o) (firsts xs) ≡ names ++ fresh names (firsts (put_some o xs))
unfolding firsts
some_firsts names None xs = refl
some_firsts names (Some s) xs = met_firsts names s (firsts xs)

pub names_put : (made : Made) (ps : List Piece) → (all_put made ps).names ≡ made.names ++ fresh made.names (firsts (names_in ps))
unfolding all_put firsts
names_put made [] = sym (append-nil made.names)
names_put made (p ∷ ps) = names_put (put made p.first p.others) ps ∙ some_firsts made.names (name_in p.first.token) (names_in ps)

-- ---- literals

literals_more : (literals : List (List ℕ)) (o : Option (List ℕ)) (more : List (List ℕ)) → with_literal literals o ++ more ≡ literals ++ put_some o more
literals_more literals None more = refl
literals_more literals (Some bytes) more = append_assoc literals (bytes ∷ []) more

literals_put : (made : Made) (ps : List Piece) → (all_put made ps).literals ≡ made.literals ++ literals_of ps
unfolding all_put literals_of
literals_put made [] = sym (append-nil made.literals)
literals_put made (p ∷ ps) = literals_put (put made p.first p.others) ps ∙ literals_more made.literals (literal_of p) (literals_of ps)

next_literal : (literals : List (List ℕ)) (o : Option (List ℕ)) → length (with_literal literals o) ≡ next_number (length literals) o
next_literal literals None = refl
next_literal literals (Some bytes) = let e = length-append literals (bytes ∷ []) in omega (arith, e)

-- ---- words

-- a word stays the same where more names are met
name_same : (names all more : List (List ℕ)) (s : List ℕ) (o : Option Token) → all ≡ met_some names (name_unless o s) ++ more → keyword_or_name (met_some names (name_unless o s)) s o ≡ keyword_or_name all s o
name_same names all more s (Some w) e = refl
name_same names all more s None e = ap Name (index_old (met names s) more s (among_met names s) ∙ ap (λ l. index_of l s) (sym e))

word_same : (names all more : List (List ℕ)) (k : ℕ) (t : CToken) (others : List CSpanned) → all ≡ met_some names (name_in t) ++ more → word_with (met_some names (name_in t)) k t others ≡ word_with all k t others
word_same names all more k (token.Id s) others e = name_same names all more s (keyword_of s) e
word_same names all more k (token.Number s) others e = refl
word_same names all more k (token.Text s) others e = refl
word_same names all more k (token.Byte s) others e = refl
word_same names all more k (token.Mark m) others e = refl

words_put : (made : Made) (ps : List Piece) → (all_put made ps).words ≡ made.words ++ words_of (all_put made ps).names (length made.literals) ps
unfolding all_put words_of
words_put made [] = sym (append-nil made.words)
words_put made (p ∷ ps) =
    let next : Made = put made p.first p.others in
    let all : Made = all_put next ps in
    let w : Token = word_with next.names (length made.literals) p.first.token p.others in
    words_put next ps ∙ append_assoc made.words (w ∷ []) (words_of all.names (length next.literals) ps)
    ∙ ap (λ k. made.words ++ w ∷ words_of all.names k ps) (next_literal made.literals (literal_of p))
    ∙ ap (λ v. made.words ++ v ∷ words_of all.names (next_number (length made.literals) (literal_of p)) ps)
    (word_same made.names all.names (fresh next.names (firsts (names_in ps))) (length made.literals) p.first.token p.others (names_put next ps))

-- ---- places and counts

places_put : (made : Made) (ps : List Piece) → (all_put made ps).places ≡ made.places ++ map place_of ps
unfolding all_put
places_put made [] = sym (append-nil made.places)
places_put made (p ∷ ps) = places_put (put made p.first p.others) ps ∙ append_assoc made.places (place_of p ∷ []) (map place_of ps)

counts_put : (made : Made) (ps : List Piece) → (all_put made ps).counts ≡ made.counts ++ map count_of ps
unfolding all_put
counts_put made [] = sym (append-nil made.counts)
counts_put made (p ∷ ps) = counts_put (put made p.first p.others) ps ∙ append_assoc made.counts (count_of p ∷ []) (map count_of ps)

-- ---- the whole

names_all : (ps : List Piece) → (all_put nothing ps).names ≡ names_of ps
unfolding names_of
names_all ps = names_put nothing ps ∙ fresh_all (firsts (names_in ps))

pub are_words : (ts : List CSpanned) (made : Made) (w : Words) → made ≡ all_put nothing (pieces ts)
    → w.names ≡ made.names → w.literals ≡ made.literals → w.words ≡ made.words → w.places ≡ made.places → w.counts ≡ made.counts → AreWords ts w
are_words ts made w e n l v p c = record {
  names = n ∙ ap (λ (m : Made). m.names) e ∙ names_all (pieces ts);
  literals = l ∙ ap (λ (m : Made). m.literals) e ∙ literals_put nothing (pieces ts);
  words = v ∙ ap (λ (m : Made). m.words) e ∙ words_put nothing (pieces ts) ∙ ap (λ names. words_of names 0 (pieces ts)) (names_all (pieces ts));
  places = p ∙ ap (λ (m : Made). m.places) e ∙ places_put nothing (pieces ts);
  counts = c ∙ ap (λ (m : Made). m.counts) e ∙ counts_put nothing (pieces ts);
}

-- ---- room

pub names_room : (made : Made) (t : CSpanned) (others : List CSpanned) → length (put made t others).names ≤ length made.names + 1
names_room made t others = pick (name_in t.token)
  where
    at_most : (s : List ℕ) (b : Bool) → length (cond b made.names (made.names ++ s ∷ [])) ≤ length made.names + 1
    at_most s true = omega arith
    at_most s false = let e = length-append made.names (s ∷ []) in omega (arith, e)

    pick : (o : Option (List ℕ)) → length (met_some made.names o) ≤ length made.names + 1
    pick None = omega arith
    pick (Some s) = at_most s (is_among made.names s)

pub literals_room : (made : Made) (t : CSpanned) (others : List CSpanned) → length (put made t others).literals ≤ length made.literals + 1
literals_room made t others = pick (literal_with t.token others)
  where
    pick : (o : Option (List ℕ)) → length (with_literal made.literals o) ≤ length made.literals + 1
    pick None = omega arith
    pick (Some bytes) = let e = length-append made.literals (bytes ∷ []) in omega (arith, e)

-- ---- one turn, and the end

pub turn : (made new : Made) (t : CSpanned) (behind whole others rest : List CSpanned) → whole ≡ t ∷ behind → others ≡ others_of t behind → rest ≡ behind_piece t behind → new ≡ put made t others
    → all_put new (pieces rest) ≡ all_put made (pieces whole)
unfolding all_put
turn made new t behind whole others rest we oe re ne =
    ap (λ m. all_put m (pieces rest)) (ne ∙ ap (put made t) oe) ∙ ap (λ l. all_put (put made t (others_of t behind)) (pieces l)) re
    ∙ ap (all_put made) (sym (first_piece t behind)) ∙ ap (λ l. all_put made (pieces l)) (sym we)

pub ended : (made all : Made) (rest : List CSpanned) → length rest ≡ 0 → all_put made (pieces rest) ≡ all → made ≡ all
unfolding all_put pieces
ended made all [] n e = e
ended made all (t ∷ ts) n e = absurd (omega (arith, n))
