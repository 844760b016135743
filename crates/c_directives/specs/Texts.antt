-- Lines of text: what their preprocessing tokens put out (ISO/IEC 9899:2011, 6.10.3 and 5.1.1.2p1).
use Rattle.std.specs.Prelude.{ℕ, List, [], ◌∷◌, ◌++◌, length, Option, Some, None, Result, Ok, Err, Bool, true, false, ◌||◌, nat_le, nat_lt, if◌then◌else◌}
use Rattle.jf_base.specs.declared.place.Place.{Place}
use Rattle.c_text.specs.declared.character.Point.{Point}
use Rattle.c_text.specs.declared.kind.Lexeme.{Lexeme}
use Rattle.c_token.specs.declared.token.CToken.{CToken}
use Rattle.c_token.specs.declared.token.CToken.TheVariants.{Id}
use Rattle.c_token.specs.declared.token.CSpanned.{CSpanned}
use Rattle.c_lines.specs.declared.rule.Rule.{Rule}
use Rattle.c_lines.specs.declared.rule.Rule.TheVariants as rule
use Rattle.c_lines.specs.declared.rule.Fault.{Fault}
use Rattle.c_lines.specs.Rules.{broken_by}
use Rattle.c_lines.specs.Heads.{is_name, is_hash, is_paste}
use Rattle.c_form.specs.Forms.{token_of}
use Rattle.c_define.specs.Definitions.{Macros}
use Rattle.c_define.specs.Expansion.{expansion, all_at}
use Rattle.c_directives.specs.declared.origin.Origin.{Origin}
use Rattle.c_directives.specs.declared.origin.Origin.TheVariants.{Named, Included}
use Rattle.c_directives.specs.Reads.{Read, broken, ◌>>=◌}

-- the macros and the tokens so far
pub record Work : Type 0 where
  pub macros : Macros
  pub out : List CSpanned

-- the place of what stands at a point: in a file of the words its own, and in an included text that of the `#include` in the file of the words
abbrev pub place_of : Origin → Point → Place
place_of (Named file) point = record { file = file; line = point.line; column = point.column }
place_of (Included place) point = place

abbrev pub fault_of : {A : Type 0} → Origin → Fault → Read A
fault_of origin f = broken f.rule (place_of origin f.point)

-- the tokens with those that a name expands to
abbrev pub put_out : Work → Place → List ℕ → List CSpanned
put_out w place name = w.out ++ all_at place (expansion w.macros (Id name ∷ []))

-- there is room for so many tokens
unfoldable pub put_name : ℕ → Place → Work → List ℕ → Read Work
put_name limit place w name = if nat_le (length (put_out w place name)) limit then Ok (record w { out = put_out w place name }) else broken rule.TooMany place

abbrev pub put_token : ℕ → Place → Work → Option CToken → Read Work
put_token limit place w None = broken rule.NoToken place
put_token limit place w (Some t) = if nat_lt (length w.out) limit then Ok (record w { out = w.out ++ record { token = t; place = place } ∷ [] }) else broken rule.TooMany place

abbrev pub put_kept : ℕ → Place → Work → Lexeme → Option Rule → Read Work
put_kept limit place w l (Some r) = broken r place
put_kept limit place w l None = if is_name l.kind then put_name limit place w l.spelling else (if is_hash l || is_paste l then broken rule.Hash place else put_token limit place w (token_of l.kind l.spelling))

-- a preprocessing token of a line of text: a name is expanded, and any other is converted to a token
unfoldable pub put_lexeme : ℕ → Origin → Work → Lexeme → Read Work
put_lexeme limit origin w l = put_kept limit (place_of origin l.point) w l (broken_by l.kind)

unfoldable pub text_at : ℕ → Origin → Work → List Lexeme → Read Work
text_at limit origin w [] = Ok w
text_at limit origin w (l ∷ ls) = put_lexeme limit origin w l >>= λ w. text_at limit origin w ls
