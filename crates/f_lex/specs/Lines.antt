-- Runs of characters, and lines and their continuation (ISO/IEC 1539-1:2018, 6.3.2).
use Rattle.std.specs.Prelude.{ℕ, List, [], ◌∷◌, Option, Some, None, Bool, true, false, ◌==◌, ◌&&◌, not, if◌then◌else◌}
use Rattle.f_lex.specs.declared.class.Run.{Run}
use Rattle.f_lex.specs.declared.class.Run.TheVariants as run
use Rattle.f_lex.specs.declared.lines.Context.{Context}
use Rattle.f_lex.specs.declared.lines.Context.TheVariants.{Outside, Inside}
use Rattle.f_lex.specs.Characters.{Class, LineEnd, Blank, Exclamation, Nothing, ampersand, class_at, goes_on, is_next}

abbrev pub choose : {A B : Type 0} → Option A → B → (A → B) → B
choose None none some = none
choose (Some x) none some = some x

abbrev pub seen : {X Y : Type 0} → (X → Y) → Option X → Option Y
seen view None = None
seen view (Some x) = Some (view x)

-- the characters at the front that belong to the run, and the rest
unfoldable pub run_at : Run → List ℕ → List ℕ × List ℕ
run_at r [] = ([], [])
run_at r (c ∷ cs) = if goes_on r (c ∷ cs) then (c ∷ (run_at r cs).0, (run_at r cs).1) else ([], c ∷ cs)

-- what stands behind the byte, if it stands first
unfoldable pub byte_at : ℕ → List ℕ → Option (List ℕ)
byte_at b [] = None
byte_at b (c ∷ cs) = if c == b then Some cs else None

-- in blank lines and comment lines (6.3.2.3): whether a comment goes on behind this character, or none where a line begins that has more
abbrev pub passes_over : Bool → Class → Option Bool
passes_over true LineEnd = Some false
passes_over true _ = Some true
passes_over false Blank = Some false
passes_over false LineEnd = Some false
passes_over false Exclamation = Some true
passes_over false _ = None

-- the first character that belongs to no blank and no comment, on this line or a later one; in a comment if the test says so
unfoldable pub next_line : Bool → List ℕ → Option (List ℕ)
next_line in_comment [] = None
next_line in_comment (c ∷ cs) = choose (passes_over in_comment (class_at (c ∷ cs))) (Some (c ∷ cs)) (λ comment. next_line comment cs)

abbrev pub is_outside : Context → Bool
is_outside Outside = true
is_outside Inside = false

abbrev pub ends_with : Context → Class → Bool
ends_with context LineEnd = true
ends_with context Nothing = true
ends_with context Exclamation = is_outside context
ends_with context _ = false

-- nothing but blanks, and outside a text a comment, is left of the line (6.3.2.4)
unfoldable pub ends_line : Context → List ℕ → Bool
ends_line context cs = ends_with context (class_at (run_at run.Blanks cs).1)

-- what the line continues with: an `&` that stands first is dropped, unless it is the line's last character too
unfoldable pub first_of_line : Context → List ℕ → List ℕ
first_of_line context cs = choose (byte_at ampersand cs) cs (λ tail. if ends_line context tail then cs else tail)

-- behind an `&` that is the last character of its line: where the statement goes on, if it has a next line, which begins with `&` inside a text (6.3.2.4)
unfoldable pub goes_on_at : Context → List ℕ → Option (List ℕ)
goes_on_at context cs = choose (next_line false cs) None (λ r. if not (is_outside context) && not (is_next ampersand r) then None else Some (first_of_line context r))
