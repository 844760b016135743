-- The lexemes of a long text, part by part: each part ends with a line.
use Rattle.std.proofs.Common.{◌≡◌, ℕ, zero, suc, ◌+◌, Bool, true, false, cond, eqb, List, [], ◌∷◌, ◌++◌, take, drop, refl, sym, ap, ◌∙◌}
use Rattle.std.proofs.lemmas.Bool.{eqb-true}
use Rattle.c_text.specs.Characters.{character}
use Rattle.c_text.specs.Lines.{all_closed, pieces_of, lexemes_of}
use Rattle.c_text.specs.declared.kind.Lexeme.{Lexeme}
use Rattle.c_text.proofs.Apart.{lines_apart}
use Rattle.c_header_laws.proofs.Plain.{made, lexemes_at}

-- the line and the column behind bytes
abbrev pub line_behind : ℕ → List ℕ → ℕ
line_behind line [] = line
line_behind line (b ∷ bs) = cond (eqb b 10) (line_behind (line + 1) bs) (line_behind line bs)

abbrev pub column_behind : ℕ → List ℕ → ℕ
column_behind column [] = column
column_behind column (b ∷ bs) = cond (eqb b 10) (column_behind 1 bs) (column_behind (column + 1) bs)

made_behind : (front rest : List ℕ) (line column : ℕ) → made character line column (front ++ 10 ∷ rest)
    ≡ made character line column front ++ character 10 (line_behind line front) (column_behind column front) ∷ made character (line_behind line front + 1) 1 rest
made_behind [] rest line column = refl
made_behind (b ∷ bs) rest line column = by_line (eqb b 10) (made_behind bs rest (line + 1) 1) (made_behind bs rest line (column + 1))
  where
    by_line : (v : Bool)
        → made character (line + 1) 1 (bs ++ 10 ∷ rest) ≡ made character (line + 1) 1 bs ++ character 10 (line_behind (line + 1) bs) (column_behind 1 bs) ∷ made character (line_behind (line + 1) bs + 1) 1 rest
        → made character line (column + 1) (bs ++ 10 ∷ rest) ≡ made character line (column + 1) bs ++ character 10 (line_behind line bs) (column_behind (column + 1) bs) ∷ made character (line_behind line bs + 1) 1 rest
        → cond v (character 10 line column ∷ made character (line + 1) 1 (bs ++ 10 ∷ rest)) (character b line column ∷ made character line (column + 1) (bs ++ 10 ∷ rest))
        ≡ cond v (character 10 line column ∷ made character (line + 1) 1 bs) (character b line column ∷ made character line (column + 1) bs)
        ++ character 10 (cond v (line_behind (line + 1) bs) (line_behind line bs)) (cond v (column_behind 1 bs) (column_behind (column + 1) bs)) ∷ made character (cond v (line_behind (line + 1) bs) (line_behind line bs) + 1) 1 rest
    by_line true p q = ap (λ cs. character 10 line column ∷ cs) p
    by_line false p q = ap (λ cs. character b line column ∷ cs) q

-- a line ends behind so many bytes
abbrev pub ends_behind : ℕ → List ℕ → Bool
ends_behind k [] = false
ends_behind zero (b ∷ bs) = eqb b 10
ends_behind (suc k) (b ∷ bs) = ends_behind k bs

is_split : (k : ℕ) (text : List ℕ) → ends_behind k text ≡ true → text ≡ take k text ++ 10 ∷ drop (suc k) text
is_split k [] e = cc
is_split zero (b ∷ bs) e = ap (λ c. c ∷ bs) (eqb-true b 10 e)
is_split (suc k) (b ∷ bs) e = ap (λ l. b ∷ l) (is_split k bs e)

-- a text begins with these lexemes, which fill its lines up to the next one, and ends with the rest
pub record Part (line next bytes : ℕ) (text rest : List ℕ) (lexemes : List Lexeme) : Type 0 where
  pub ends : ends_behind bytes text ≡ true
  pub closed : all_closed (pieces_of (made character line 1 (take bytes text))) ≡ true
  pub lines : line_behind line (take bytes text) + 1 ≡ next
  pub here : lexemes_at line (take bytes text ++ 10 ∷ []) ≡ lexemes
  pub left : drop (suc bytes) text ≡ rest

pub in_front : {line next bytes : ℕ} {text rest : List ℕ} {lexemes more : List Lexeme} → Part line next bytes text rest lexemes → lexemes_at next rest ≡ more → lexemes_at line text ≡ lexemes ++ more
unfolding lexemes_at
in_front {line} {next} {bytes} {text} {rest} {lexemes} {more} p later =
    let front : List ℕ = take bytes text in
    let behind : List ℕ = drop (suc bytes) text in
    let cut : (bs : List ℕ) → lexemes_at line (front ++ 10 ∷ bs) ≡ lexemes_of (made character line 1 front ++ character 10 (line_behind line front) (column_behind 1 front) ∷ made character (line_behind line front + 1) 1 bs)
    = λ bs. ap lexemes_of (made_behind front bs line 1) in
    ap (lexemes_at line) (is_split bytes text p.ends) ∙ cut behind
    ∙ lines_apart (made character line 1 front) (made character (line_behind line front + 1) 1 behind) (character 10 (line_behind line front) (column_behind 1 front)) refl p.closed
    ∙ ap (λ ls. ls ++ lexemes_at (line_behind line front + 1) behind) (sym (cut []) ∙ p.here)
    ∙ ap (λ n. lexemes ++ lexemes_at n behind) p.lines ∙ ap (λ bs. lexemes ++ lexemes_at next bs) p.left ∙ ap (λ ls. lexemes ++ ls) later
