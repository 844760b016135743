-- The first line of a text, and what stands behind it.
use Rattle.std.proofs.Common.{◌≡◌, ℕ, ◌-◌, ◌<◌, ◌≤◌, ◌+◌, Bool, true, false, cond, List, [], ◌∷◌, ◌++◌, length, take, refl, sym, ap, ◌∙◌, arith}
use Rattle.c_text.specs.declared.kind.Lexeme.{Lexeme}
use Rattle.c_lines.specs.Rows.{Row, is_end, in_front, rows, row_of, row_rest, behind_first}

pub row_and_rest : (ls : List Lexeme) → length (row_of ls) + length (row_rest ls) ≡ length ls
unfolding row_of row_rest
row_and_rest [] = refl
row_and_rest (l ∷ ls) = pick (is_end l.kind) (row_and_rest ls)
  where
    pick : (b : Bool) → length (row_of ls) + length (row_rest ls) ≡ length ls → length (cond b [] (l ∷ row_of ls)) + length (cond b (l ∷ ls) (row_rest ls)) ≡ length (l ∷ ls)
    pick true ih = omega arith
    pick false ih = omega (arith, ih)

take_row : (ls : List Lexeme) → take (length (row_of ls)) ls ≡ row_of ls
unfolding row_of
take_row [] = refl
take_row (l ∷ ls) = pick (is_end l.kind) (take_row ls)
  where
    pick : (b : Bool) → take (length (row_of ls)) ls ≡ row_of ls → take (length (cond b [] (l ∷ row_of ls))) (l ∷ ls) ≡ cond b [] (l ∷ row_of ls)
    pick true ih = refl
    pick false ih = ap (λ r. l ∷ r) ih

pub row_taken : (n : ℕ) (ls : List Lexeme) → n ≡ length ls - length (row_rest ls) → take n ls ≡ row_of ls
row_taken n ls e = let same : n ≡ length (row_of ls) = omega (arith, e, row_and_rest ls) in ap (λ k. take k ls) same ∙ take_row ls

abbrev FirstLine : List Lexeme → Type 0
FirstLine ls = rows ls ≡ row_of ls ∷ rows (behind_first (row_rest ls))

one_more : (l : Lexeme) (ls : List Lexeme) → is_end l.kind ≡ false → in_front l (rows ls) ≡ (l ∷ row_of ls) ∷ rows (behind_first (row_rest ls)) → FirstLine (l ∷ ls)
unfolding rows row_of row_rest
one_more l ls e f = rw e f

line_end : (l : Lexeme) (ls : List Lexeme) → is_end l.kind ≡ true → FirstLine (l ∷ ls)
unfolding rows row_of row_rest
line_end l ls e = rw e refl

last_line : (l : Lexeme) → in_front l (rows []) ≡ (l ∷ row_of []) ∷ rows (behind_first (row_rest []))
unfolding rows row_of row_rest
last_line l = refl

-- a text that isn't empty is its first line and then the others
pub first_line : (l : Lexeme) (ls : List Lexeme) → FirstLine (l ∷ ls)
first_line l [] = pick (is_end l.kind) refl
  where
    pick : (b : Bool) → is_end l.kind ≡ b → FirstLine (l ∷ [])
    pick true e = line_end l [] e
    pick false e = one_more l [] e (last_line l)
first_line l (k ∷ ks) = pick (is_end l.kind) refl (first_line k ks)
  where
    pick : (b : Bool) → is_end l.kind ≡ b → FirstLine (k ∷ ks) → FirstLine (l ∷ k ∷ ks)
    pick true e ih = line_end l (k ∷ ks) e
    pick false e ih = one_more l (k ∷ ks) e (ap (in_front l) ih)

pub rows_at : (ls row behind rest : List Lexeme) (n : ℕ) → 0 < length ls → rest ≡ row_rest ls → n ≡ length ls - length rest → row ≡ take n ls → behind ≡ behind_first rest → rows ls ≡ row ∷ rows behind
rows_at [] row behind rest n lt re ne we be = absurd (omega arith)
rows_at (l ∷ ls) row behind rest n lt re ne we be =
    let taken : row ≡ row_of (l ∷ ls) = we ∙ row_taken n (l ∷ ls) (ne ∙ ap (λ r. length (l ∷ ls) - length r) re) in
    first_line l ls ∙ ap (λ r. r ∷ rows (behind_first (row_rest (l ∷ ls)))) (sym taken) ∙ ap (λ b. row ∷ rows b) (ap behind_first (sym re) ∙ sym be)

pub behind_less : (ls rest behind : List Lexeme) → 0 < length ls → rest ≡ row_rest ls → behind ≡ behind_first rest → length behind < length ls
behind_less ls rest behind lt re be = pick rest behind (ap length re) be
  where
    pick : (rest behind : List Lexeme) → length rest ≡ length (row_rest ls) → behind ≡ behind_first rest → length behind < length ls
    pick [] behind n e = let k = ap length e in omega (arith, k, lt)
    pick (r ∷ rs) behind n e = let k = ap length e in omega (arith, k, n, row_and_rest ls)

pub no_behind : (rest : List Lexeme) → length rest ≡ 0 → rest ≡ behind_first rest
no_behind [] e = refl
no_behind (l ∷ ls) e = absurd (omega (arith, e))

pub some_behind : (l : Lexeme) (behind rest : List Lexeme) → rest ≡ l ∷ behind → behind ≡ behind_first rest
some_behind l behind rest e = sym (ap behind_first e)
