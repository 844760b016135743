-- What is read of a file, and where it breaks its first rule.
use Rattle.std.proofs.Common.{◌≡◌, ℕ, zero, suc, ◌+◌, ◌-◌, ◌<◌, ◌≤◌, true, List, [], ◌∷◌, length, drop, Option, Some, None, Result, Ok, Err, refl, sym, ap, subst, ◌∙◌, arith}
use Rattle.std.specs.Prelude.{slice_get, IsErr}
use Rattle.jf_base.specs.declared.place.Place.{Place}
use Rattle.jf_base.specs.declared.tag.Tag.{Tag}
use Rattle.c_token.specs.declared.token.CSpanned.{CSpanned}
use Rattle.c_grammar.specs.declared.token.Token.{Token}
use Rattle.c_grammar.specs.declared.fault.Kind.{Kind}
use Rattle.c_grammar.specs.declared.fault.Kind.TheVariants.{Form, Deep}
use Rattle.c_grammar.specs.Grammar.{Scope}
use Rattle.c_unit_grammar.specs.Statements.{Ext, spell_exts, after_exts, FitsExts}
use Rattle.c_unit_grammar.specs.Reading.{ext_at}
use Rattle.c_unit_grammar.proofs.Lengths.{grows_ext}
use Rattle.c_word_laws.specs.Unused.{has_unused}
use Rattle.c_word_laws.proofs.Units.{no_file}
use Rattle.c_external_read.specs.declared.file.BrokenExternal.{BrokenExternal}
use Rattle.c_external_read.specs.Files.{deepest, externals_at, BreaksAt}
use Rattle.c_external_read.proofs.Files.{is_file, is_externals, breaks}
use Rattle.c_read.specs.Reading.{File, file_of, words_in, places_in, tag_of, place_or, refused_at, Stop, stop_of, file_or, read_file}
use Rattle.c_read.specs.Nesting.{too_deep_at, nested_by, told_of}
use Rattle.c_read.specs.BrokenAt.{StandsAt, StandsIn, BeginsNone, Breaks, no_form, deep_brackets, too_nested, BrokenAt, IsFileOf}
use Rattle.c_read.proofs.Deepening.{Found, found}
use Rattle.c_read.proofs.Endings.{left_is}
use Rattle.c_read.proofs.Words.{places_and_words}

-- what the external declarations of a text are read as
abbrev reading : List CSpanned → Result (List Ext) BrokenExternal
reading tokens = externals_at deepest (length (words_in tokens)) [] (words_in tokens)

-- ---- places

there : (ps : List Place) (k : ℕ) → k < length ps → slice_get ps k ≡ Some (place_or (slice_get ps k))
there [] k l = absurd (omega (arith, l))
there (p ∷ ps) zero l = refl
there (p ∷ ps) (suc k) l = there ps k (omega (arith, l))

stands : (tokens : List CSpanned) (place : Place) (k m : ℕ) → k ≡ m → m < length (places_in tokens) → place ≡ place_or (slice_get (places_in tokens) m) → StandsAt tokens k place
stands tokens place k m same l p = ap (slice_get (places_in tokens)) same ∙ there (places_in tokens) m l ∙ ap (λ (q : Place). Some q) (sym p)

grows_exts : (xs : List Ext) (rest : List Token) → length rest ≤ length (spell_exts xs rest)
grows_exts [] rest = omega arith
grows_exts (x ∷ xs) rest = omega (arith, grows_ext x (spell_exts xs rest), grows_exts xs rest)

-- ---- which rule is broken

-- where reading stops, a word is left
some_left : (ts rest : List Token) (before : List Ext) (b : BrokenExternal) → externals_at deepest (length ts) [] ts ≡ Err b → FitsExts deepest [] before → ts ≡ spell_exts before rest → 0 < length rest
some_left ts [] before b e f is = let both = sym e ∙ is_externals deepest [] ts before f is in absurd cc
some_left ts (t ∷ rest) before b e f is = omega arith

module _ (tokens : List CSpanned) (s : Scope) (ts : List Token) (place : Place) (tag : Tag) (some : 0 < length ts) (le : length ts ≤ length (words_in tokens)) where
  -- a place counted from the first of the words
  stands_in : (left : ℕ) → place ≡ place_or (slice_get (places_in tokens) (length (places_in tokens) - length ts + (length ts - left - 1))) → StandsIn tokens ts left place
  stands_in left at =
      let many = places_and_words tokens in
      stands tokens place (length (words_in tokens) - length ts + (length ts - left - 1)) (length (places_in tokens) - length ts + (length ts - left - 1)) (omega (arith, many)) (omega (arith, many, some, le)) at

  -- no form, and perhaps a nesting too many
  by_nesting : (left : ℕ) → ((n : ℕ) → BeginsNone n s ts) → (o : Option ℕ) → Found 0 ts o → place ≡ (stop_of (places_in tokens) (nested_by (record { left = length ts; fault = record { kind = Form; left = left } }) o)).0 → tag ≡ (stop_of (places_in tokens) (nested_by (record { left = length ts; fault = record { kind = Form; left = left } }) o)).1 → Breaks tokens s ts place tag
  by_nesting left none None shallow at t =
      let many = places_and_words tokens in
      no_form t (record {
        none = none;
        shallow = shallow;
        number = length (words_in tokens) - length ts;
        counted = omega (arith, le);
        stands = stands tokens place (length (words_in tokens) - length ts) (length (places_in tokens) - length ts) (omega (arith, many)) (omega (arith, many, some, le)) at;
      })
  by_nesting left none (Some opening) o at t = deep_brackets t (record { none = none; left = opening; opening = o; stands = stands_in opening at })

  by_kind : (kind : Kind) (left : ℕ) → ext_at deepest s ts ≡ Err (record { kind = kind; left = left }) → BeginsNone deepest s ts → (kind ≡ Form → (n : ℕ) → BeginsNone n s ts) → drop (length (words_in tokens) - length ts) (words_in tokens) ≡ ts → let b : BrokenExternal = told_of (words_in tokens) (record { left = length ts; fault = record { kind = kind; left = left } }) in place ≡ refused_at (places_in tokens) b → tag ≡ tag_of b.fault.kind → Breaks tokens s ts place tag
  by_kind Form left fails none formless last at t =
      let same = ap (too_deep_at 0) last in
      by_nesting left (formless refl) (too_deep_at 0 ts) (found 0 ts (omega arith))
      (at ∙ ap (λ (o : Option ℕ). (stop_of (places_in tokens) (nested_by (record { left = length ts; fault = record { kind = Form; left = left } }) o)).0) same)
      (t ∙ ap (λ (o : Option ℕ). (stop_of (places_in tokens) (nested_by (record { left = length ts; fault = record { kind = Form; left = left } }) o)).1) same)
  by_kind Deep left fails none formless last at t = too_nested t (record { none = none; left = left; stops = fails; stands = stands_in left at })

broken : (tokens : List CSpanned) (place : Place) (tag : Tag) (b : BrokenExternal) → reading tokens ≡ Err b → BreaksAt deepest [] (words_in tokens) b → let c : BrokenExternal = told_of (words_in tokens) b in place ≡ refused_at (places_in tokens) c → tag ≡ tag_of c.fault.kind → BrokenAt tokens place tag
broken tokens place tag b e stop at t =
    let long : length (words_in tokens) ≡ length (spell_exts stop.first.before stop.rest) = ap length stop.first.spelled in
    let some = some_left (words_in tokens) stop.rest stop.first.before b e stop.first.fits stop.first.spelled in
    let told = λ (k : ℕ). told_of (words_in tokens) (record { left = k; fault = b.fault }) in
    record {
      before = stop.first.before;
      fits = stop.first.fits;
      rest = stop.rest;
      spelled = stop.first.spelled;
      breaks = by_kind tokens (after_exts stop.first.before []) stop.rest place tag some (omega (arith, long, grows_exts stop.first.before stop.rest)) b.fault.kind b.fault.left stop.fault stop.first.none (λ form n. stop.formless form n)
          (left_is stop.first.before (words_in tokens) stop.rest stop.first.spelled)
          (at ∙ ap (λ (k : ℕ). refused_at (places_in tokens) (told k)) (sym stop.left)) (t ∙ ap (λ (k : ℕ). tag_of (told k).fault.kind) (sym stop.left));
    }

-- ---- files

file_is : (x y : File) → let d : Result File Stop = Ok x in let e : Result File Stop = Ok y in d ≡ e → x ≡ y
file_is x y e = cc

stop_is : (x y : Stop) → let d : Result File Stop = Err x in let e : Result File Stop = Err y in d ≡ e → x ≡ y
stop_is x y e = cc

read_by : (tokens : List CSpanned) (file : File) (r : Result (List Ext) BrokenExternal) → reading tokens ≡ r → file_or tokens r ≡ Ok file → IsFileOf tokens file
read_by tokens file (Ok xs) q e =
    let same = ap (λ (f : File). f.externals) (file_is (file_of tokens xs) file e) in
    let is = is_file deepest [] (words_in tokens) xs q in
    record { fits = subst (FitsExts deepest []) same is.1; spelled = is.0 ∙ ap (λ (ys : List Ext). spell_exts ys []) same }
read_by tokens file (Err b) q e = absurd cc

pub file_read : (tokens : List CSpanned) (file : File) → read_file tokens ≡ Ok file → IsFileOf tokens file
unfolding read_file
file_read tokens file e = read_by tokens file (reading tokens) refl e

pub file_is_read : (tokens : List CSpanned) (xs : List Ext) → FitsExts deepest [] xs → words_in tokens ≡ spell_exts xs [] → read_file tokens ≡ Ok (file_of tokens xs)
unfolding read_file
file_is_read tokens xs f is = ap (file_or tokens) (is_externals deepest [] (words_in tokens) xs f is)

broken_by : (tokens : List CSpanned) (place : Place) (tag : Tag) (r : Result (List Ext) BrokenExternal) → reading tokens ≡ r → file_or tokens r ≡ Err (place, tag) → BrokenAt tokens place tag
broken_by tokens place tag (Ok xs) q e = absurd cc
broken_by tokens place tag (Err b) q e =
    let c = told_of (words_in tokens) b in
    let same = sym (stop_is (refused_at (places_in tokens) c, tag_of c.fault.kind) (place, tag) e) in
    let stop = breaks deepest (length (words_in tokens)) [] (words_in tokens) b (omega arith) q in
    broken tokens place tag b q stop (ap (λ (x : Stop). x.0) same) (ap (λ (x : Stop). x.1) same)

pub file_broken : (tokens : List CSpanned) (place : Place) (tag : Tag) → read_file tokens ≡ Err (place, tag) → BrokenAt tokens place tag
unfolding read_file
file_broken tokens place tag e = broken_by tokens place tag (reading tokens) refl e

refused_by : (tokens : List CSpanned) (r : Result (List Ext) BrokenExternal) → reading tokens ≡ r → has_unused (words_in tokens) ≡ true → IsErr (file_or tokens r)
refused_by tokens (Ok xs) q has = absurd (no_file (words_in tokens) xs has (is_file deepest [] (words_in tokens) xs q).0)
refused_by tokens (Err b) q has = refl

pub unused_refused : (tokens : List CSpanned) → has_unused (words_in tokens) ≡ true → IsErr (read_file tokens)
unfolding read_file
unused_refused tokens has = refused_by tokens (reading tokens) refl has
