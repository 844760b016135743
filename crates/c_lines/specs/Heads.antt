-- Which lines are directives, and which directive each is (ISO/IEC 9899:2011, 6.10).
use Rattle.std.specs.Prelude.{ℕ, List, [], ◌∷◌, codes, Bool, true, false, ◌&&◌, ◌||◌, if◌then◌else◌}
use Rattle.std.specs.Str.{bytes_eq}
use Rattle.c_text.specs.declared.kind.Kind.{Kind}
use Rattle.c_text.specs.declared.kind.Kind.TheVariants as kind
use Rattle.c_text.specs.declared.kind.Lexeme.{Lexeme}
use Rattle.c_lines.specs.declared.head.Head.{Head}
use Rattle.c_lines.specs.declared.head.Head.TheVariants as head

abbrev pub is_name : Kind → Bool
is_name kind.Name = true
is_name _ = false

abbrev pub is_mark : Kind → Bool
is_mark kind.Mark = true
is_mark _ = false

-- `#`, also as a digraph (6.4.6p3)
unfoldable pub is_hash : Lexeme → Bool
is_hash l = is_mark l.kind && (bytes_eq l.spelling (codes "#") || bytes_eq l.spelling (codes "%:"))

-- `##`, also as a digraph
unfoldable pub is_paste : Lexeme → Bool
is_paste l = is_mark l.kind && (bytes_eq l.spelling (codes "##") || bytes_eq l.spelling (codes "%:%:"))

abbrev pub other_word : List ℕ → Head
other_word w = if bytes_eq w (codes "else") then head.Else else if bytes_eq w (codes "endif") then head.Endif else if bytes_eq w (codes "error") then head.Error
    else if bytes_eq w (codes "pragma") then head.Pragma else head.Unknown

-- the directive that a word names; `line` is none of the profile
unfoldable pub directive_of : List ℕ → Head
directive_of w = if bytes_eq w (codes "include") then head.Include else if bytes_eq w (codes "define") then head.Define else if bytes_eq w (codes "undef") then head.Undef
    else if bytes_eq w (codes "if") then head.If else if bytes_eq w (codes "ifdef") then head.Ifdef else if bytes_eq w (codes "ifndef") then head.Ifndef
    else if bytes_eq w (codes "elif") then head.Elif else other_word w

-- what stands behind the `#` of a directive
abbrev pub behind_hash : List Lexeme → Head × List Lexeme
behind_hash [] = (head.Null, [])
behind_hash (w ∷ ls) = ((if is_name w.kind then directive_of w.spelling else head.Unknown), ls)

-- which directive a line is, and what stands behind its name; a line that doesn't begin with `#` is text
unfoldable pub head_at : List Lexeme → Head × List Lexeme
head_at [] = (head.Text, [])
head_at (h ∷ ls) = if is_hash h then behind_hash ls else (head.Text, h ∷ ls)
