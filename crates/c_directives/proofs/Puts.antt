-- What lines of text put out.
use Rattle.std.proofs.Common.{◌≡◌, ℕ, ◌+◌, ◌<◌, ◌≤◌, Bool, true, false, cond, List, [], ◌∷◌, ◌++◌, map, length, length-append, Option, Some, None, Result, Ok, Err, refl, sym, ap, ◌∙◌, arith, subst}
use Rattle.std.specs.Prelude.{nat_le, nat_lt, ◌||◌}
use Rattle.std.proofs.lemmas.List.{length-map}
use Rattle.std.proofs.lemmas.Bool.{le-leb, lt-leb, lt-ltb, le-ltb}
use Rattle.jf_base.specs.declared.place.Place.{Place}
use Rattle.c_text.specs.declared.kind.Kind.{Kind}
use Rattle.c_text.specs.declared.kind.Kind.TheVariants as kind
use Rattle.c_text.specs.declared.kind.Lexeme.{Lexeme}
use Rattle.c_token.specs.declared.token.CToken.{CToken}
use Rattle.c_token.specs.declared.token.CToken.TheVariants.{Id}
use Rattle.c_token.specs.declared.token.CSpanned.{CSpanned}
use Rattle.c_lines.specs.declared.rule.Rule.{Rule}
use Rattle.c_lines.specs.declared.rule.Rule.TheVariants as rule
use Rattle.c_lines.specs.Heads.{is_name, is_hash, is_paste}
use Rattle.c_lines.specs.Rules.{broken_by}
use Rattle.c_form.specs.Forms.{token_of}
use Rattle.c_define.specs.Definitions.{Macros}
use Rattle.c_define.specs.Expansion.{expansion, all_at, IsPut, Expanded}
use Rattle.c_directives.specs.declared.stop.Stop.{Stop}
use Rattle.c_directives.specs.declared.stop.Stop.TheVariants as stop
use Rattle.c_directives.specs.declared.origin.Origin.{Origin}
use Rattle.c_directives.specs.Reads.{Read, At, broken, Says, ◌>>=◌}
use Rattle.c_directives.specs.Texts.{Work, place_of, put_out, put_name, put_token, put_kept, put_lexeme, text_at}

pub name_put : (limit : ℕ) (place : Place) (w : Work) (name : List ℕ) (out : List CSpanned) → IsPut w.macros name place limit w.out out → put_name limit place w name ≡ Ok (record w { out = out })
unfolding put_name
name_put limit place w name out p =
    let le : length (put_out w place name) ≤ limit = subst (λ (l : List CSpanned). length l ≤ limit) p.put p.fits in
    let test : nat_le (length (put_out w place name)) limit ≡ true = le-leb (length (put_out w place name)) limit le in
    rw (test, p.put) refl

pub name_over : (limit : ℕ) (place : Place) (w : Work) (name : List ℕ) → limit < length w.out + length (expansion w.macros (Id name ∷ [])) → put_name limit place w name ≡ broken rule.TooMany place
unfolding put_name
name_over limit place w name lt =
    let ex = expansion w.macros (Id name ∷ []) in
    let one : CToken → CSpanned = λ t. record { token = t; place = place } in
    let len : length (put_out w place name) ≡ length w.out + length ex = length-append w.out (all_at place ex) ∙ ap (λ n. length w.out + n) (length-map ex one) in
    let test : nat_le (length (put_out w place name)) limit ≡ false = lt-leb (length (put_out w place name)) limit (omega (arith, len, lt)) in
    rw test refl

-- ---- a preprocessing token by its kind

module _ (limit : ℕ) (origin : Origin) (w : Work) (l : Lexeme) where
  pub lexeme_foreign : l.kind ≡ kind.ForeignByte → put_lexeme limit origin w l ≡ broken rule.ForeignByte (place_of origin l.point)
  unfolding put_lexeme
  lexeme_foreign e = rw e refl

  pub lexeme_open : l.kind ≡ kind.OpenText → put_lexeme limit origin w l ≡ broken rule.OpenText (place_of origin l.point)
  unfolding put_lexeme
  lexeme_open e = rw e refl

  pub lexeme_name : l.kind ≡ kind.Name → put_lexeme limit origin w l ≡ put_name limit (place_of origin l.point) w l.spelling
  unfolding put_lexeme
  lexeme_name e = rw e refl

  pub lexeme_other : (l.kind ≡ kind.ForeignByte → ⊥) → (l.kind ≡ kind.OpenText → ⊥) → (l.kind ≡ kind.Name → ⊥)
      → put_lexeme limit origin w l ≡ cond (is_hash l || is_paste l) (broken rule.Hash (place_of origin l.point)) (put_token limit (place_of origin l.point) w (token_of l.kind l.spelling))
  unfolding put_lexeme
  lexeme_other a b c = pick l.kind refl
    where
      rest : Read Work
      rest = cond (is_hash l || is_paste l) (broken rule.Hash (place_of origin l.point)) (put_token limit (place_of origin l.point) w (token_of l.kind l.spelling))

      pick : (k : Kind) → l.kind ≡ k → put_kept limit (place_of origin l.point) w l (broken_by l.kind) ≡ rest
      pick kind.ForeignByte e = absurd (a e)
      pick kind.OpenText e = absurd (b e)
      pick kind.Name e = absurd (c e)
      pick kind.Number e = rw e refl
      pick kind.Character e = rw e refl
      pick kind.Text e = rw e refl
      pick kind.Mark e = rw e refl
      pick kind.Other e = rw e refl
      pick kind.LineEnd e = rw e refl

-- ---- a line

pub text_step : (limit : ℕ) (origin : Origin) (w : Work) (l : Lexeme) (ls : List Lexeme) → text_at limit origin w (l ∷ ls) ≡ (put_lexeme limit origin w l >>= λ w. text_at limit origin w ls)
unfolding text_at
text_step limit origin w l ls = refl

pub text_end : (limit : ℕ) (origin : Origin) (w : Work) (ls : List Lexeme) → length ls ≡ 0 → text_at limit origin w ls ≡ Ok w
unfolding text_at
text_end limit origin w [] e = refl
text_end limit origin w (l ∷ ls) e = absurd (omega (arith, e))

-- what reads nothing more says what its first part says, where that fails
pub says_first : {A B C D : Type 0} (stop : Stop) (view : A → B) (view' : C → D) (r : Read B) (f : B → Read D) → Says {A = A} (Err stop) view r → Says {A = C} (Err stop) view' (r >>= f)
says_first stop.Memory view view' r f h = tt
says_first (stop.Library name) view view' r f h = absurd h
says_first (stop.At b) view view' r f h = ap (λ x. x >>= f) h

pub says_same : {A B : Type 0} (x : Result A Stop) (view : A → B) (r r' : Read B) → r ≡ r' → Says x view r' → Says x view r
says_same {A} {B} x view r r' e h = let P : Read B → Type 0 = λ r. Says x view r in subst P (sym e) h

pub put_told : (ms : Macros) (name : List ℕ) (place : Place) (limit : ℕ) (fits : Bool) (out out' : List CSpanned) → fits ≡ true → Expanded ms name place limit fits out out' → IsPut ms name place limit out out'
put_told ms name place limit true out out' e h = h
put_told ms name place limit false out out' e h = cc

pub over_told : (limit : ℕ) (place : Place) (w : Work) (name : List ℕ) (fits : Bool) (out' : List CSpanned) → fits ≡ false → Expanded w.macros name place limit fits w.out out' → (s : Stop) → s ≡ stop.At (record { place = place; rule = rule.TooMany })
    → (view : Unit {0} → Work) → Says {A = Unit {0}} (Err s) view (put_name limit place w name)
over_told limit place w name true out' e h s se view = cc
over_told limit place w name false out' e h s se view = rw se (name_over limit place w name h)

pub token_full : (limit : ℕ) (place : Place) (w : Work) (t : CToken) → limit ≤ length w.out → put_token limit place w (Some t) ≡ broken rule.TooMany place
token_full limit place w t le = let test : nat_lt (length w.out) limit ≡ false = le-ltb (length w.out) limit le in rw test refl

pub token_put : (limit : ℕ) (place : Place) (w : Work) (t : CToken) → length w.out < limit → put_token limit place w (Some t) ≡ Ok (record w { out = w.out ++ record { token = t; place = place } ∷ [] })
token_put limit place w t lt = let test : nat_lt (length w.out) limit ≡ true = lt-ltb (length w.out) limit lt in rw test refl

pub says_broken : {A B : Type 0} (view : A → B) (s : Stop) (r : Rule) (place : Place) → s ≡ stop.At (record { place = place; rule = r }) → (x : Read B) → x ≡ broken r place → Says {A = A} (Err s) view x
says_broken view s r place se x e = rw (se, e) refl

pub text_goes : (limit : ℕ) (origin : Origin) (w w' : Work) (l : Lexeme) (ls rest : List Lexeme) → rest ≡ l ∷ ls → put_lexeme limit origin w l ≡ Ok w' → text_at limit origin w' ls ≡ text_at limit origin w rest
text_goes limit origin w w' l ls rest re e = sym (ap (text_at limit origin w) re ∙ text_step limit origin w l ls ∙ ap (λ r. r >>= λ w. text_at limit origin w ls) e)

pub text_fails : {A C : Type 0} (s : Stop) (view : A → Work) (view' : C → Work) (limit : ℕ) (origin : Origin) (w : Work) (l : Lexeme) (ls rest : List Lexeme) (whole : Read Work) → rest ≡ l ∷ ls → whole ≡ text_at limit origin w rest
    → Says {A = A} (Err s) view (put_lexeme limit origin w l) → Says {A = C} (Err s) view' whole
text_fails {A} {C} s view view' limit origin w l ls rest whole re we h =
    let x : Result C Stop = Err s in
    says_same x view' whole (put_lexeme limit origin w l >>= λ w. text_at limit origin w ls) (we ∙ ap (text_at limit origin w) re ∙ text_step limit origin w l ls)
    (says_first {A = A} {C = C} s view view' (put_lexeme limit origin w l) (λ w. text_at limit origin w ls) h)
