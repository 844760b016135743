-- What reading a C text's external declarations gives, and that a file of the grammar is broken nowhere.
use Rattle.std.proofs.Common.{◌≡◌, ℕ, zero, suc, ◌≤◌, List, [], ◌∷◌, length, slice_get, Some, Result, Ok, Err, refl, sym, ap, ◌∙◌, subst, arith, lit≤}
use Rattle.jf_base.specs.Tags.{IsTag}
use Rattle.jf_base.specs.declared.place.Place.{Place}
use Rattle.jf_base.specs.declared.tag.Tag.{Tag}
use Rattle.c_token.specs.declared.token.CSpanned.{CSpanned}
use Rattle.c_grammar.specs.declared.token.Token.{Token}
use Rattle.c_grammar.specs.declared.fault.Kind.{Kind}
use Rattle.c_grammar.specs.declared.fault.Kind.TheVariants.{Form, Deep}
use Rattle.c_grammar.specs.Grammar.{Scope}
use Rattle.c_grammar.specs.Reading.{Read, specifiers_at}
use Rattle.c_unit_grammar.specs.Statements.{Ext, spell_ext, after_ext, FitsExt, spell_exts, after_exts, FitsExts}
use Rattle.c_unit_grammar.specs.Reading.{ext_at}
use Rattle.c_unit_grammar.proofs.Lengths.{grows_ext}
use Rattle.c_unit_grammar.proofs.File.{one_external}
use Rattle.c_external_read.specs.Files.{deepest}
use Rattle.c_read.specs.Reading.{File, Stop, places_in, tag_of, file_of, read_file}
use Rattle.c_read.specs.BrokenAt.{no_form, deep_brackets, too_nested, Breaks, BrokenAt}
use Rattle.c_read.proofs.Deepening.{inside}
use Rattle.c_read.proofs.Words.{places_and_words}
use Rattle.c_read.proofs.Whole.{file_read, file_is_read}
use Rattle.source_tokens.specs.Sources.{AreExternals}

-- ---- tokens have one list of external declarations

is_read : (ts : List CSpanned) (u : File) → AreExternals ts u → read_file ts ≡ Ok u
is_read ts u a = file_is_read ts u.externals a.is_file.fits a.is_file.spelled ∙ ap (λ (f : File). Ok f) (sym a.tables)

ok_is : (a b : File) → let x : Result File Stop = Ok a in let y : Result File Stop = Ok b in x ≡ y → a ≡ b
ok_is a b e = cc

pub one_unit : (ts : List CSpanned) (u v : File) → AreExternals ts u → AreExternals ts v → u ≡ v
one_unit ts u v p q = ok_is u v (sym (is_read ts u p) ∙ is_read ts v q)

pub of_unit : (ts : List CSpanned) (u : File) → read_file ts ≡ Ok u → AreExternals ts u
of_unit ts u e =
    let is = file_read ts u e in
    record { is_file = is; tables = ok_is u (file_of ts u.externals) (sym e ∙ file_is_read ts u.externals is.fits is.spelled) }

-- ---- a file is broken nowhere

-- what is left of external declarations behind others begins with one
data Left (n : ℕ) (s : Scope) (before : List Ext) (rest : List Token) : Type 0 where
  nothing : rest ≡ [] → Left n s before rest
  another : (x : Ext) (others : List Token) → FitsExt n (after_exts before s) x → rest ≡ spell_ext x others → Left n s before rest

left : (n : ℕ) (xs before : List Ext) (s : Scope) (rest : List Token) → FitsExts n s xs → FitsExts n s before → spell_exts xs [] ≡ spell_exts before rest → Left n s before rest
left n [] [] s rest f g e = nothing (sym e)
left n (x ∷ xs) [] s rest f g e = another x (spell_exts xs []) f.0 (sym e)
left n [] (y ∷ ys) s rest f g e = let long = ap length e in absurd (omega (arith, long, grows_ext y (spell_exts ys rest)))
left n (x ∷ xs) (y ∷ ys) s rest f g e = on (left n xs ys (after_ext y s) rest (subst (λ (z : Ext). FitsExts n (after_ext z s) xs) same.0 f.1) g.1 same.1)
  where
    same : (x ≡ y) × (spell_exts xs [] ≡ spell_exts ys rest)
    same = one_external n s x y (spell_exts xs []) (spell_exts ys rest) f.0 g.0 e

    on : Left n (after_ext y s) ys rest → Left n s (y ∷ ys) rest
    on (nothing is) = nothing is
    on (another z others fits is) = another z others fits is

no_place : (ps : List Place) (k : ℕ) (p : Place) → length ps ≤ k → slice_get ps k ≡ Some p → ⊥
no_place [] k p le e = cc
no_place (q ∷ ps) zero p le e = absurd (omega (arith, le))
no_place (q ∷ ps) (suc k) p le e = no_place ps k p (omega (arith, le)) e

-- where no word is left nothing nests too deep
ends : (s : Scope) → ext_at deepest s [] ≡ Err (record { kind = Form; left = 0 })
unfolding ext_at specifiers_at
ends s = refl

abbrev kind_of : Read Ext → Kind
kind_of (Ok x) = Form
kind_of (Err f) = f.kind

no_depth : (k : ℕ) → let a : Read Ext = Err (record { kind = Form; left = 0 }) in let b : Read Ext = Err (record { kind = Deep; left = k }) in a ≡ b → ⊥
no_depth k e = let kinds : Form ≡ Deep = ap kind_of e in cc

module _ (ts : List CSpanned) (u : File) (are : AreExternals ts u) (place : Place) (tag : Tag) where
  never : (s : Scope) (rest : List Token) → rest ≡ [] → Breaks ts s rest place tag → ⊥
  never s rest is (no_form t h) =
      let none = ap length is in
      no_place (places_in ts) h.number place (omega (arith, h.counted, none, places_and_words ts)) h.stands
  never s rest is (deep_brackets t h) =
      let none = ap length is in
      let some = inside 0 rest h.left h.opening in
      omega (arith, none, some)
  never s rest is (too_nested t h) = no_depth h.left (sym (ends s) ∙ ap (ext_at deepest s) (sym is) ∙ h.stops)

  begins_none : (s : Scope) (rest : List Token) → Breaks ts s rest place tag → (x : Ext) (others : List Token) → FitsExt deepest s x → rest ≡ spell_ext x others → ⊥
  begins_none s rest (no_form t h) = h.none deepest
  begins_none s rest (deep_brackets t h) = h.none deepest
  begins_none s rest (too_nested t h) = h.none

  -- tokens that are external declarations are broken nowhere
  pub unit_nowhere_broken : BrokenAt ts place tag → ⊥
  unit_nowhere_broken b = by (left deepest u.externals b.before [] b.rest are.is_file.fits b.fits (sym are.is_file.spelled ∙ b.spelled))
    where
      by : Left deepest [] b.before b.rest → ⊥
      by (nothing is) = never (after_exts b.before []) b.rest is b.breaks
      by (another x others fits is) = begins_none (after_exts b.before []) b.rest b.breaks x others fits is

-- ---- what reading answers

unit_tag : (k : Kind) → IsTag (tag_of k).0
unit_tag Form = record { first_group = lit≤ tt; last_group = lit≤ tt; first_rule = lit≤ tt; last_rule = lit≤ tt }
unit_tag Deep = record { first_group = lit≤ tt; last_group = lit≤ tt; first_rule = lit≤ tt; last_rule = lit≤ tt }

-- the tag is that of a rule of the grammar
pub unit_broken_tag : (ts : List CSpanned) (place : Place) (tag : Tag) → BrokenAt ts place tag → IsTag tag.0
unit_broken_tag ts place tag b = by b.breaks
  where
    by : Breaks ts (after_exts b.before []) b.rest place tag → IsTag tag.0
    by (no_form is h) = subst (λ (t : Tag). IsTag t.0) (sym is) (unit_tag Form)
    by (deep_brackets is h) = subst (λ (t : Tag). IsTag t.0) (sym is) (unit_tag Deep)
    by (too_nested is h) = subst (λ (t : Tag). IsTag t.0) (sym is) (unit_tag Deep)
