-- `#define`, `#undef`, and names that directives have (ISO/IEC 9899:2011, 6.10.3 and 6.10.3.5).
use Rattle.std.specs.Prelude.{ℕ, List, [], ◌∷◌, map, codes, Option, Some, None, Result, Ok, Err, Bool, true, false, ◌&&◌, ◌||◌, not, if◌then◌else◌}
use Rattle.std.specs.Str.{bytes_eq}
use Rattle.jf_base.specs.declared.place.Place.{Place}
use Rattle.c_text.specs.declared.kind.Lexeme.{Lexeme}
use Rattle.c_token.specs.declared.token.CToken.{CToken}
use Rattle.c_lines.specs.declared.rule.Rule.{Rule}
use Rattle.c_lines.specs.declared.rule.Rule.TheVariants as rule
use Rattle.c_lines.specs.Heads.{is_name, is_mark, is_hash, is_paste}
use Rattle.c_form.specs.Forms.{token_of}
use Rattle.c_define.specs.declared.definitions.Written.{Written}
use Rattle.c_define.specs.Definitions.{Macro, Macros, defined, undefined, same_written}
use Rattle.c_directives.specs.Reads.{Read, broken, ◌>>=◌}

-- the tokens that preprocessing tokens are converted to, if each has a form
abbrev pub with_token : Option CToken → Option (List CToken) → Option (List CToken)
with_token None ts = None
with_token (Some t) None = None
with_token (Some t) (Some ts) = Some (t ∷ ts)

unfoldable pub tokens_of : List Lexeme → Option (List CToken)
tokens_of [] = Some []
tokens_of (l ∷ ls) = with_token (token_of l.kind l.spelling) (tokens_of ls)

abbrev pub written_token : Lexeme → Written
written_token l = record { spelling = l.spelling; after_blank = l.after_blank }

-- how a replacement list is written
abbrev pub written_of : List Lexeme → List Written
written_of ls = map written_token ls

unfoldable pub has_hash : List Lexeme → Bool
has_hash [] = false
has_hash (l ∷ ls) = if is_hash l || is_paste l then true else has_hash ls

-- `(`
unfoldable pub is_open : Lexeme → Bool
is_open l = is_mark l.kind && bytes_eq l.spelling (codes "(")

-- white space stands before a replacement list (6.10.3p3), and `(` with none begins parameters
unfoldable pub list_rule : List Lexeme → Option Rule
list_rule [] = None
list_rule (l ∷ ls) = if l.after_blank then None else (if is_open l then Some rule.Hash else Some rule.Form)

-- `defined` is the name of no macro (6.10.8p4)
unfoldable pub is_macro_name : Lexeme → Bool
is_macro_name l = is_name l.kind && not (bytes_eq l.spelling (codes "defined"))

abbrev pub define_new : Macros → Place → List ℕ → List Lexeme → Option (List CToken) → Read Macros
define_new ms place name list None = broken rule.NoToken place
define_new ms place name list (Some ts) = Ok (defined ms name (record { body = ts; written = written_of list }))

abbrev pub define_again : Macros → Place → Bool → Read Macros
define_again ms place true = Ok ms
define_again ms place false = broken rule.Redefined place

-- a name that is a macro, or is none
abbrev pub define_over : Macros → Place → List ℕ → List Lexeme → Option Macro → Read Macros
define_over ms place name list None = define_new ms place name list (tokens_of list)
define_over ms place name list (Some m) = define_again ms place (same_written m.written (written_of list))

abbrev pub define_list : Macros → Place → List ℕ → List Lexeme → Option Rule → Read Macros
define_list ms place name list (Some r) = broken r place
define_list ms place name list None = if has_hash list then broken rule.Hash place else define_over ms place name list (ms.of name)

unfoldable pub define_at : Macros → Place → List Lexeme → Read Macros
define_at ms place [] = broken rule.Form place
define_at ms place (n ∷ list) = if is_macro_name n then define_list ms place n.spelling list (list_rule list) else broken rule.Form place

-- the one name that stands behind a directive
unfoldable pub one_name : List Lexeme → Option (List ℕ)
one_name [] = None
one_name (n ∷ []) = if is_name n.kind then Some n.spelling else None
one_name (n ∷ m ∷ ls) = None

abbrev pub undefine : Macros → Place → Option (List ℕ) → Read Macros
undefine ms place None = broken rule.Form place
undefine ms place (Some name) = if bytes_eq name (codes "defined") then broken rule.Form place else Ok (undefined ms name)

unfoldable pub undefine_at : Macros → Place → List Lexeme → Read Macros
undefine_at ms place tail = undefine ms place (one_name tail)
