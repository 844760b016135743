-- Lines of text are rescanned.
use Rattle.std.proofs.Common.{◌≡◌, ℕ, zero, suc, Bool, true, false, cond, ◌||◌, List, [], ◌∷◌, ◌++◌, map, length, Option, Some, None, Ok, Err, refl, sym, ap, ◌∙◌, append_assoc}
use Rattle.std.specs.Prelude.{nat_le, nat_lt}
use Rattle.std.proofs.lemmas.List.{append-nil, map-append}
use Rattle.jf_base.specs.declared.place.Place.{Place}
use Rattle.c_text.specs.declared.kind.Kind.{Kind}
use Rattle.c_text.specs.declared.kind.Kind.TheVariants as kind
use Rattle.c_text.specs.declared.kind.Lexeme.{Lexeme}
use Rattle.c_token.specs.declared.mark.Mark.{Mark as Punctuator}
use Rattle.c_token.specs.declared.token.CToken.{CToken}
use Rattle.c_token.specs.declared.token.CToken.TheVariants.{Id, Number, Text, Byte, Mark}
use Rattle.c_token.specs.declared.token.CSpanned.{CSpanned}
use Rattle.c_lines.specs.declared.rule.Rule.{Rule}
use Rattle.c_lines.specs.declared.rule.Rule.TheVariants as rule
use Rattle.c_lines.specs.Rules.{broken_by}
use Rattle.c_lines.specs.Heads.{is_name, is_hash, is_paste}
use Rattle.c_form.specs.Forms.{is_number, is_character, is_string, between, text_with, byte_with, mark_with, token_of}
use Rattle.c_form.specs.Marks.{mark_of}
use Rattle.c_define.specs.Definitions.{Names, Macros, Made}
use Rattle.c_define.specs.Expansion.{body_of, without, choose, Expanding, along, among, expansion, all_at}
use Rattle.c_define.specs.Rescanning.{Expands}
use Rattle.c_define.proofs.Rescanned.{expands}
use Rattle.c_directives.specs.declared.origin.Origin.{Origin}
use Rattle.c_directives.specs.Reads.{Read, broken, ◌>>=◌}
use Rattle.c_directives.specs.Directives.{tokens_of}
use Rattle.c_directives.specs.Conditions.{all_expanded}
use Rattle.c_directives.specs.Texts.{Work, place_of, put_out, put_name, put_token, put_kept, put_lexeme, text_at}
use Rattle.c_directives.specs.Replacement.{bare, IsRescanned, TextsAreRescanned, DirectivesAreRescanned}
use Rattle.c_directives.proofs.Steps.{plain_stays, tokens_there}

-- ---- tokens are replaced one after the other

along_one : (inside : Expanding) (names : Names) (t : CToken) (ts : List CToken) → along inside names (t ∷ ts) ≡ along inside names (t ∷ []) ++ along inside names ts
unfolding along
along_one inside names t ts = pick (body_of names t)
  where
    pick : (o : Option (List CToken)) → choose o (t ∷ along inside names ts) (λ body. inside (without names t) body ++ along inside names ts) ≡ choose o (t ∷ []) (λ body. inside (without names t) body ++ []) ++ along inside names ts
    pick None = refl
    pick (Some body) = sym (append_assoc (inside (without names t) body) [] (along inside names ts))

expansion_one : (ms : Macros) (t : CToken) (ts : List CToken) → expansion ms (t ∷ ts) ≡ expansion ms (t ∷ []) ++ expansion ms ts
unfolding expansion among
expansion_one ms t ts = pick ms.size
  where
    pick : (k : ℕ) → among k ms.of (t ∷ ts) ≡ among k ms.of (t ∷ []) ++ among k ms.of ts
    pick zero = along_one (λ n l. []) ms.of t ts
    pick (suc k) = along_one (among k) ms.of t ts

expansion_none : (ms : Macros) → expansion ms [] ≡ []
unfolding expansion among along
expansion_none ms = pick ms.size
  where
    pick : (k : ℕ) → among k ms.of [] ≡ []
    pick zero = refl
    pick (suc k) = refl

all_is : (ms : Macros) (ts : List CToken) → expansion ms ts ≡ all_expanded ms ts
unfolding all_expanded
all_is ms [] = expansion_none ms
all_is ms (t ∷ ts) = expansion_one ms t ts ∙ ap (λ l. expansion ms (t ∷ []) ++ l) (all_is ms ts)

pub directives_rescanned : DirectivesAreRescanned
directives_rescanned = λ ms tokens made. rw (← all_is ms tokens) (expands ms made tokens)

-- ---- what preprocessing tokens are converted to

name_token : (k : Kind) (s : List ℕ) → is_name k ≡ true → token_of k s ≡ Some (Id s)
unfolding token_of
name_token kind.Name s e = refl
name_token _ s e = cc

number_is : (b : Bool) (s x : List ℕ) (t : CToken) → t ≡ Id x → cond b (Some (Number s)) None ≡ Some t → ⊥
number_is true s x t is e = let same : Number s ≡ t = cc in cc
number_is false s x t is e = cc

byte_is : (b : Bool) (s x : List ℕ) (t : CToken) → t ≡ Id x → cond b (Some (Byte s)) None ≡ Some t → ⊥
byte_is true s x t is e = let same : Byte s ≡ t = cc in cc
byte_is false s x t is e = cc

text_is : (b : Bool) (s x : List ℕ) (t : CToken) → t ≡ Id x → cond b (Some (Text s)) None ≡ Some t → ⊥
text_is true s x t is e = let same : Text s ≡ t = cc in cc
text_is false s x t is e = cc

byte_with_is : (o : Option (List ℕ)) (x : List ℕ) (t : CToken) → t ≡ Id x → byte_with o ≡ Some t → ⊥
byte_with_is None x t is e = cc
byte_with_is (Some s) x t is e = byte_is (is_character s) s x t is e

text_with_is : (o : Option (List ℕ)) (x : List ℕ) (t : CToken) → t ≡ Id x → text_with o ≡ Some t → ⊥
text_with_is None x t is e = cc
text_with_is (Some s) x t is e = text_is (is_string s) s x t is e

mark_with_is : (o : Option Punctuator) (x : List ℕ) (t : CToken) → t ≡ Id x → mark_with o ≡ Some t → ⊥
mark_with_is None x t is e = cc
mark_with_is (Some m) x t is e = let same : Mark m ≡ t = cc in cc

-- what isn't a name is converted to none
plain_token : (k : Kind) (s : List ℕ) (t : CToken) → is_name k ≡ false → token_of k s ≡ Some t → (x : List ℕ) → t ≡ Id x → ⊥
unfolding token_of
plain_token kind.Name s t n e x is = cc
plain_token kind.Number s t n e x is = number_is (is_number s) s x t is e
plain_token kind.Character s t n e x is = byte_with_is (between 39 s) x t is e
plain_token kind.Text s t n e x is = text_with_is (between 34 s) x t is e
plain_token kind.Mark s t n e x is = mark_with_is (mark_of s) x t is e
plain_token _ s t n e x is = cc

-- ---- a token of a line

record Puts (w w' : Work) (l : Lexeme) : Type 0 where
  token : CToken
  is : token_of l.kind l.spelling ≡ Some token
  put : bare w'.out ≡ bare w.out ++ expansion w.macros (token ∷ [])
  macros : w'.macros ≡ w.macros

placed : (out : List CSpanned) (place : Place) (ts : List CToken) → bare (out ++ all_at place ts) ≡ bare out ++ ts
placed out place ts = map-append (λ (s : CSpanned). s.token) out (all_at place ts) ∙ ap (λ l. bare out ++ l) (tokens_there place ts)

module _ (limit : ℕ) (origin : Origin) (l : Lexeme) (w w' : Work) where
  abbrev place : Place
  place = place_of origin l.point

  room_name : is_name l.kind ≡ true → (b : Bool) → cond {A = Read Work} b (Ok (record w { out = put_out w place l.spelling })) (broken rule.TooMany place) ≡ Ok w' → Puts w w' l
  room_name n true e =
      let now : Work = record w { out = put_out w place l.spelling } in
      let same : now ≡ w' = cc in
      record {
        token = Id l.spelling;
        is = name_token l.kind l.spelling n;
        put = ap (λ (v : Work). bare v.out) (sym same) ∙ placed w.out place (expansion w.macros (Id l.spelling ∷ []));
        macros = ap (λ (v : Work). v.macros) (sym same);
      }
  room_name n false e = cc

  room_token : is_name l.kind ≡ false → (t : CToken) → token_of l.kind l.spelling ≡ Some t → (b : Bool)
      → cond {A = Read Work} b (Ok (record w { out = w.out ++ record { token = t; place = place } ∷ [] })) (broken rule.TooMany place) ≡ Ok w' → Puts w w' l
  room_token n t te true e =
      let now : Work = record w { out = w.out ++ record { token = t; place = place } ∷ [] } in
      let same : now ≡ w' = cc in
      record {
        token = t;
        is = te;
        put = ap (λ (v : Work). bare v.out) (sym same) ∙ placed w.out place (t ∷ []) ∙ ap (λ l. bare w.out ++ l) (sym (plain_stays w.macros t (plain_token l.kind l.spelling t n te)));
        macros = ap (λ (v : Work). v.macros) (sym same);
      }
  room_token n t te false e = cc

  token_put : is_name l.kind ≡ false → (o : Option CToken) → token_of l.kind l.spelling ≡ o → put_token limit place w o ≡ Ok w' → Puts w w' l
  token_put n None te e = cc
  token_put n (Some t) te e = room_token n t te (nat_lt (length w.out) limit) e

  no_hash : is_name l.kind ≡ false → (b : Bool) → cond {A = Read Work} b (broken rule.Hash place) (put_token limit place w (token_of l.kind l.spelling)) ≡ Ok w' → Puts w w' l
  no_hash n true e = cc
  no_hash n false e = token_put n (token_of l.kind l.spelling) refl e

  by_name : (b : Bool) → is_name l.kind ≡ b
      → cond {A = Read Work} b (put_name limit place w l.spelling) (cond {A = Read Work} (is_hash l || is_paste l) (broken rule.Hash place) (put_token limit place w (token_of l.kind l.spelling))) ≡ Ok w' → Puts w w' l
  unfolding put_name
  by_name true n e = room_name n (nat_le (length (put_out w place l.spelling)) limit) e
  by_name false n e = no_hash n (is_hash l || is_paste l) e

  kept : (o : Option Rule) → put_kept limit place w l o ≡ Ok w' → Puts w w' l
  kept (Some r) e = cc
  kept None e = by_name (is_name l.kind) refl e

  one_put : put_lexeme limit origin w l ≡ Ok w' → Puts w w' l
  unfolding put_lexeme
  one_put e = kept (broken_by l.kind) e

-- ---- a line

pub record Whole (line : List Lexeme) (w w' : Work) : Type 0 where
  pub tokens : List CToken
  pub are_tokens : tokens_of line ≡ Some tokens
  pub put : bare w'.out ≡ bare w.out ++ expansion w.macros tokens
  pub macros : w'.macros ≡ w.macros

join : (l : Lexeme) (ls : List Lexeme) (w v w' : Work) → Puts w v l → Whole ls v w' → Whole (l ∷ ls) w w'
unfolding tokens_of
join l ls w v w' p h = record {
  tokens = p.token ∷ h.tokens;
  are_tokens = rw (p.is, h.are_tokens) refl;
  put = h.put ∙ ap (λ (m : Macros). bare v.out ++ expansion m h.tokens) p.macros ∙ ap (λ l. l ++ expansion w.macros h.tokens) p.put
      ∙ append_assoc (bare w.out) (expansion w.macros (p.token ∷ [])) (expansion w.macros h.tokens) ∙ ap (λ l. bare w.out ++ l) (sym (expansion_one w.macros p.token h.tokens));
  macros = h.macros ∙ p.macros;
}

pub whole : (limit : ℕ) (origin : Origin) (line : List Lexeme) (w w' : Work) → text_at limit origin w line ≡ Ok w' → Whole line w w'
unfolding text_at tokens_of
whole limit origin [] w w' e =
    let same : w ≡ w' = cc in
    record {
      tokens = [];
      are_tokens = refl;
      put = ap (λ (v : Work). bare v.out) (sym same) ∙ sym (ap (λ l. bare w.out ++ l) (expansion_none w.macros) ∙ append-nil (bare w.out));
      macros = ap (λ (v : Work). v.macros) (sym same);
    }
whole limit origin (l ∷ ls) w w' e = pick (λ v h. whole limit origin ls v w' h) (put_lexeme limit origin w l) refl e
  where
    pick : ((v : Work) → text_at limit origin v ls ≡ Ok w' → Whole ls v w') → (r : Read Work) → put_lexeme limit origin w l ≡ r → (r >>= λ v. text_at limit origin v ls) ≡ Ok w' → Whole (l ∷ ls) w w'
    pick ih (Err x) re e = cc
    pick ih (Ok v) re e = join l ls w v w' (one_put limit origin l w v re) (ih v e)

pub texts_rescanned : TextsAreRescanned
texts_rescanned = λ limit origin line w w' made e.
    let h = whole limit origin line w w' e in
    record { tokens = h.tokens; out = expansion w.macros h.tokens; are_tokens = h.are_tokens; expands = expands w.macros made h.tokens; put = h.put; macros = h.macros }
