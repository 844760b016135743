-- Texts that include one another leave macros that definitions made.
use Rattle.std.proofs.Common.{◌≡◌, ℕ, zero, suc, List, Option, Some, None, Ok, Err}
use Rattle.jf_base.specs.declared.place.Place.{Place}
use Rattle.jf_outside.specs.Listing.{listed}
use Rattle.c_lines.specs.declared.header.Delimiter.TheVariants.{Angle, Quote}
use Rattle.c_define.specs.Definitions.{Made}
use Rattle.c_directives.specs.declared.origin.Origin.TheVariants.{Included}
use Rattle.c_directives.specs.Headers.{header_text}
use Rattle.c_directives.specs.Conditions.{Name}
use Rattle.c_directives.specs.Reading.{State, Including, file_at}
use Rattle.c_directives.specs.Replacement.{KeepsMade}
use Rattle.c_directives.proofs.Making.{keep_file}
use Rattle.c_pre.specs.Files.{called, given, built_in, header_in, include_at}

keep_header : (files : List (List ℕ × List ℕ)) (limit : ℕ) (inner : Including) → KeepsMade inner → (s s' : State) (name : Name) (place : Place) → Made s.work.macros
    → header_in files (λ s bytes. file_at inner limit (Included place) s bytes) s name place ≡ Ok s' → Made s'.work.macros
keep_header files limit inner k s s' (Angle, n) place made e = built (header_text n) e
  where
    built : (o : Option (List ℕ)) → built_in o place (λ bytes. file_at inner limit (Included place) s bytes) ≡ Ok s' → Made s'.work.macros
    built None e = cc
    built (Some bytes) e = keep_file inner k limit (Included place) s s' bytes made e
keep_header files limit inner k s s' (Quote, n) place made e = calls s.calls e
  where
    found : (v : State) → Made v.work.macros → (o : Option (List ℕ)) → given o n (λ bytes. file_at inner limit (Included place) v bytes) ≡ Ok s' → Made s'.work.macros
    found v m None e = cc
    found v m (Some bytes) e = keep_file inner k limit (Included place) v s' bytes m e

    calls : (c : ℕ) → called c s n (λ s. given (listed files n) n (λ bytes. file_at inner limit (Included place) s bytes)) ≡ Ok s' → Made s'.work.macros
    calls zero e = cc
    calls (suc c) e = found (record s { calls = c }) made (listed files n) e

pub keep_include : (files : List (List ℕ × List ℕ)) (limit k : ℕ) → KeepsMade (include_at files limit k)
unfolding include_at
keep_include files limit zero = λ s s' name place made e. cc
keep_include files limit (suc k) = λ s s' name place made e. keep_header files limit (include_at files limit k) (keep_include files limit k) s s' name place made e
