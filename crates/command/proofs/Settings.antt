-- What a first setting of an option says.
use Rattle.std.proofs.Common.{arith, ◌≡◌, ◌≢◌, ◌∙◌, ℕ, ◌<◌, ◌-◌, ◌+◌, Bool, true, false, cond, List, [], ◌∷◌, length, drop, take, get_or, Option, refl, ap, sym, subst, length-drop}
use Rattle.std.specs.Prelude.{filter, string_bytes}
use Rattle.std.specs.List.{list_any}
use Rattle.std.specs.declared.alloc.Global.{Global}
use Rattle.std.specs.declared.string.String.{String}
use Rattle.std.proofs.Math.Seq.{take-length}
use Rattle.std.proofs.lemmas.List.{drop_more}
use Rattle.command.specs.Options.{SaysNumber}
use Rattle.command.specs.Words.{texts}

-- what passes the test is kept
pub filter_some : (p : List ℕ → Bool) (words : List (List ℕ)) → list_any p words ≡ true → filter p words ≢ []
filter_some p [] any = λ _. absurd (cc)
filter_some p (word ∷ words) any = grind (arith, filter_some p words)

pub filter_none : (p : List ℕ → Bool) (words : List (List ℕ)) → list_any p words ≡ false → filter p words ≡ []
filter_none p [] any = refl
filter_none p (word ∷ words) any = grind (arith, filter_none p words)

-- two settings say nothing that is allowed
two_settings : (from : ℕ) (word : List ℕ) (set : List (List ℕ)) (said : Option ℕ) → set ≢ [] → SaysNumber from (word ∷ set) said → ⊥
two_settings from word [] said some says = some refl
two_settings from word (next ∷ set) said some says = says

pub set_twice : (from : ℕ) (p : List ℕ → Bool) (word : List ℕ) (words : List (List ℕ)) (said : Option ℕ) → p word ≡ true → list_any p words ≡ true → SaysNumber from (filter p (word ∷ words)) said → ⊥
set_twice from p word words said set more says =
    let P : Bool → Type 0 = λ b. SaysNumber from (cond b (word ∷ filter p words) (filter p words)) said in
    two_settings from word (filter p words) said (filter_some p words more) (subst P set says)

pub set_once : (p : List ℕ → Bool) (word : List ℕ) (words : List (List ℕ)) → p word ≡ true → list_any p words ≡ false → filter p (word ∷ words) ≡ word ∷ []
set_once p word words set more =
    ap (λ b. cond b (word ∷ filter p words) (filter p words)) set ∙ ap (λ ws. word ∷ ws) (filter_none p words more)

-- the rest of a list as a slice of it
pub rest_of : {X : Type 0} (xs : List X) (from : ℕ) → take (length xs - from) (drop from xs) ≡ drop from xs
rest_of xs from = ap (λ n. take n (drop from xs)) (sym (length-drop from xs)) ∙ take-length (drop from xs)

-- the words from a place on, as texts
pub texts_from : (words : List (String Global)) (i : ℕ) (word : String Global) → i < length words → word ≡ get_or words i word → texts (drop i words) ≡ string_bytes word ∷ texts (drop (i + 1) words)
texts_from words i word l is =
    ap texts (drop_more words i word l) ∙ ap (λ w. string_bytes w ∷ texts (drop (i + 1) words)) (sym is)
