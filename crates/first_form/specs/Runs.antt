-- Items that stand one after another in front of a rest.
use Rattle.std.specs.Prelude.{◌≡◌, ◌≢◌, ℕ, List, [], ◌∷◌, ◌++◌, ◌⊎◌, All, map}
use Rattle.std.specs.List.{flat_map}
use Rattle.first_form.specs.Forms.{call_line, put_text, closing_text}
use Rattle.first_form.specs.declared.program.PutcharArgument.{PutcharArgument}

-- `spell` writes one item in front of a rest
abbrev pub spelled : {A X : Type 0} → (A → X → X) → List A → X → X
spelled spell [] rest = rest
spelled spell (item ∷ items) rest = spell item (spelled spell items rest)

-- the text is these items and the rest, which begins with no further item
pub record IsLongestRun {A X : Type 0} (spell : A → X → X) (Is : A → Type 0) (text : X) (items : List A) (rest : X) : Type 0 where
  pub are : All Is items
  pub spelling : text ≡ spelled spell items rest
  pub longest : (item : A) (behind : X) → Is item → rest ≢ spell item behind

abbrev pub call_before : List ℕ → ℕ → List (List ℕ) → List (List ℕ)
call_before label number lines = call_line label number ∷ lines

abbrev pub put_line_before : PutcharArgument → List (List ℕ) → List (List ℕ)
put_line_before argument lines = put_text argument ∷ lines

abbrev pub put_before : PutcharArgument → List ℕ → List ℕ
put_before argument text = put_text argument ++ text

-- The statements on the lines that follow, where nothing stands behind the brace that opens the function, or on that brace's line, where no line follows.
abbrev pub ArePutsBehind : List ℕ → List (List ℕ) → List PutcharArgument → Type 0
ArePutsBehind body rest puts = ((body ≡ []) × (rest ≡ map put_text puts ++ (closing_text ∷ []))) ⊎ ((rest ≡ []) × (body ≡ flat_map put_text puts ++ closing_text))
