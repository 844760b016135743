-- The first piece of a text, and what stands behind it.
use Rattle.std.proofs.Common.{◌≡◌, ℕ, ◌+◌, ◌-◌, ◌≤◌, Bool, true, false, cond, List, [], ◌∷◌, ◌++◌, length, take, refl, sym, ap, subst, ◌∙◌, arith}
use Rattle.c_token.specs.declared.token.CSpanned.{CSpanned}
use Rattle.c_words.specs.Pieces.{Piece, piece, is_literal, join, both, put_before, pieces, tokens_of, AreLiterals, AreJoined, IsApart, AreWhole, ArePieces}
use Rattle.c_words.specs.Making.{literals_before, behind_literals, others_of, behind_piece}

-- a text is its first piece and those of what stands behind it
pub first_piece : (t : CSpanned) (ts : List CSpanned) → pieces (t ∷ ts) ≡ piece t (others_of t ts) ∷ pieces (behind_piece t ts)
unfolding pieces literals_before behind_literals
first_piece t [] = pick (is_literal t.token)
  where
    pick : (b : Bool) → piece t [] ∷ [] ≡ piece t (cond b [] []) ∷ pieces (cond b [] [])
    pick true = refl
    pick false = refl
first_piece t (u ∷ us) = ap (put_before t) (first_piece u us) ∙ pick (is_literal t.token) (is_literal u.token) (first_piece u us)
  where
    pick : (b c : Bool) → pieces (u ∷ us) ≡ piece u (cond c (literals_before us) []) ∷ pieces (cond c (behind_literals us) us)
        → join (both b c) t (piece u (cond c (literals_before us) [])) (pieces (cond c (behind_literals us) us)) ≡ piece t (cond b (cond c (u ∷ literals_before us) []) []) ∷ pieces (cond b (cond c (behind_literals us) (u ∷ us)) (u ∷ us))
    pick true true e = refl
    pick true false e = ap (λ ps. piece t [] ∷ ps) (sym e)
    pick false c e = ap (λ ps. piece t [] ∷ ps) (sym e)

-- ---- how many tokens they are

pub before_and_behind : (ts : List CSpanned) → length (literals_before ts) + length (behind_literals ts) ≡ length ts
unfolding literals_before behind_literals
before_and_behind [] = refl
before_and_behind (t ∷ ts) = pick (is_literal t.token) (before_and_behind ts)
  where
    pick : (b : Bool) → length (literals_before ts) + length (behind_literals ts) ≡ length ts → length (cond b (t ∷ literals_before ts) []) + length (cond b (behind_literals ts) (t ∷ ts)) ≡ length (t ∷ ts)
    pick true ih = omega (arith, ih)
    pick false ih = omega arith

pub others_and_behind : (t : CSpanned) (ts : List CSpanned) → length (others_of t ts) + length (behind_piece t ts) ≡ length ts
others_and_behind t ts = pick (is_literal t.token)
  where
    pick : (b : Bool) → length (cond b (literals_before ts) []) + length (cond b (behind_literals ts) ts) ≡ length ts
    pick true = before_and_behind ts
    pick false = omega arith

take_before : (ts : List CSpanned) → take (length (literals_before ts)) ts ≡ literals_before ts
unfolding literals_before
take_before [] = refl
take_before (t ∷ ts) = pick (is_literal t.token) (take_before ts)
  where
    pick : (b : Bool) → take (length (literals_before ts)) ts ≡ literals_before ts → take (length (cond b (t ∷ literals_before ts) [])) (t ∷ ts) ≡ cond b (t ∷ literals_before ts) []
    pick true ih = ap (λ r. t ∷ r) ih
    pick false ih = refl

pub taken_before : (n : ℕ) (ts rest : List CSpanned) → rest ≡ behind_literals ts → n ≡ length ts - length rest → take n ts ≡ literals_before ts
taken_before n ts rest re e =
    let same : n ≡ length (literals_before ts) = let l = ap length re in omega (arith, e, l, before_and_behind ts) in ap (λ k. take k ts) same ∙ take_before ts

-- ---- the pieces have the tokens, and are as long as can be

tokens_put : (t : CSpanned) (ps : List Piece) → t ∷ tokens_of ps ≡ tokens_of (put_before t ps)
tokens_put t [] = refl
tokens_put t (p ∷ ps) = pick (both (is_literal t.token) (is_literal p.first.token))
  where
    pick : (b : Bool) → t ∷ p.first ∷ (p.others ++ tokens_of ps) ≡ tokens_of (join b t p ps)
    pick true = refl
    pick false = refl

whole_put : (t : CSpanned) (ps : List Piece) → AreWhole ps → AreWhole (put_before t ps)
whole_put t [] w = pick (is_literal t.token)
  where
    pick : (b : Bool) → AreJoined b [] × IsApart b [] × Unit {0}
    pick true = (tt, tt, tt)
    pick false = (refl, tt, tt)
whole_put t (p ∷ ps) w = pick (is_literal t.token) refl (is_literal p.first.token) refl w
  where
    pick : (b : Bool) → is_literal t.token ≡ b → (c : Bool) → is_literal p.first.token ≡ c → AreJoined c p.others × IsApart c ps × AreWhole ps → AreWhole (join (both b c) t p ps)
    pick true bt true ce v = let G : Bool → Type 0 = λ b. AreJoined b (p.first ∷ p.others) × IsApart b ps × AreWhole ps in subst G (sym bt) ((ce, v.0), v.1, v.2)
    pick true bt false ce v = let G : Bool → Type 0 = λ b. AreJoined b [] × IsApart b (p ∷ ps) × AreWhole (p ∷ ps) in subst G (sym bt) (tt, ce, w)
    pick false bf c ce v = let G : Bool → Type 0 = λ b. AreJoined b [] × IsApart b (p ∷ ps) × AreWhole (p ∷ ps) in subst G (sym bf) (refl, tt, w)

all_tokens : (ts : List CSpanned) → ts ≡ tokens_of (pieces ts)
unfolding pieces
all_tokens [] = refl
all_tokens (t ∷ ts) = ap (λ l. t ∷ l) (all_tokens ts) ∙ tokens_put t (pieces ts)

all_whole : (ts : List CSpanned) → AreWhole (pieces ts)
unfolding pieces
all_whole [] = tt
all_whole (t ∷ ts) = whole_put t (pieces ts) (all_whole ts)

pub are_pieces : (ts : List CSpanned) → ArePieces ts (pieces ts)
are_pieces ts = record { tokens = all_tokens ts; whole = all_whole ts }

-- ---- and no others are

no_literal : (ps : List Piece) → IsApart true ps → (literals_before (tokens_of ps) ≡ []) × (behind_literals (tokens_of ps) ≡ tokens_of ps)
unfolding literals_before behind_literals
no_literal [] a = (refl, refl)
no_literal (p ∷ ps) a = (rw a refl, rw a refl)

only_literals : (os ts : List CSpanned) → AreLiterals os → literals_before ts ≡ [] → behind_literals ts ≡ ts → (literals_before (os ++ ts) ≡ os) × (behind_literals (os ++ ts) ≡ ts)
unfolding literals_before behind_literals
only_literals [] ts a n b = (n, b)
only_literals (o ∷ os) ts a n b = let ih = only_literals os ts a.1 n b in (rw a.0 (ap (λ l. o ∷ l) ih.0), rw a.0 ih.1)

pub one_whole : (ps : List Piece) → AreWhole ps → pieces (tokens_of ps) ≡ ps
unfolding pieces
one_whole [] w = refl
one_whole (p ∷ ps) w = first_piece p.first (p.others ++ tokens_of ps) ∙ pick (is_literal p.first.token) p.others w.0 w.1 ∙ ap (λ l. p ∷ l) (one_whole ps w.2)
  where
    pick : (b : Bool) (os : List CSpanned) → AreJoined b os → IsApart b ps → piece p.first (cond b (literals_before (os ++ tokens_of ps)) []) ∷ pieces (cond b (behind_literals (os ++ tokens_of ps)) (os ++ tokens_of ps)) ≡ piece p.first os ∷ pieces (tokens_of ps)
    pick true os j a =
        let n = no_literal ps a in let o = only_literals os (tokens_of ps) j n.0 n.1 in
        ap (λ l. piece p.first l ∷ pieces (behind_literals (os ++ tokens_of ps))) o.0 ∙ ap (λ l. piece p.first os ∷ pieces l) o.1
    pick false os j a = ap (λ l. piece p.first [] ∷ pieces (l ++ tokens_of ps)) j ∙ ap (λ l. piece p.first l ∷ pieces (tokens_of ps)) (sym j)

pub one_list : (ts : List CSpanned) (ps : List Piece) → ArePieces ts ps → ps ≡ pieces ts
one_list ts ps a = sym (ap pieces a.tokens ∙ one_whole ps a.whole)

pub others_taken : (t : CSpanned) (ts rest others : List CSpanned) (n : ℕ) → is_literal t.token ≡ true → rest ≡ behind_literals ts → n ≡ length ts - length rest → others ≡ take n ts → others ≡ others_of t ts
others_taken t ts rest others n is re ne e = e ∙ taken_before n ts rest re ne ∙ sym (rw is refl)
