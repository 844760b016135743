use Rattle.std.proofs.Common.{◌≡◌, ◌∙◌, ℕ, ◌+◌, ◌-◌, Bool, true, false, List, [], ◌∷◌, Some, ap, sym, subst, take, drop, length, string_bytes}
use Rattle.std.specs.Prelude.{nat_eq}
use Rattle.std.specs.List.{starts_with, list_any}
use Rattle.command.specs.Number.{IsNumber, value_of}
use Rattle.command.specs.Options.{settings, SaysNumber}
use Rattle.command.specs.Words.{texts}
use Rattle.command.proofs.Settings.{set_twice, set_once, rest_of, texts_from}
use Rattle.command.proofs.options.setting.Goals as goal

pub returns-then-is_set-clause-none : goal.returns-then-is_set-clause-none
returns-then-is_set-clause-none c said says =
    let words = c.args.words.now in
    let name = c.args.name.now in
    let bytes = string_bytes c.index-words-i.result in
    let rest = texts (drop (c.loop-i.i + 1) words) in
    let p : List ℕ → Bool = λ word. starts_with nat_eq word name in
    let seen : settings name (texts words) ≡ settings name (bytes ∷ rest) = c.loop-i.invariant ∙ ap (settings name) (texts_from words c.loop-i.i c.index-words-i.result c.loop-i-test.true c.index-words-i.is) in
    let set : p bytes ≡ true = ap p (sym c.as_bytes-word.ensures.value) ∙ sym c.starts_with.ensures.value ∙ c.if-starts_with.true in
    let more : list_any p rest ≡ true = ap (λ ws. list_any p (texts ws)) (sym (rest_of words (c.loop-i.i + 1))) ∙ sym c.is_set.ensures ∙ c.if-is_set.true in
    let SaysIt : List (List ℕ) → Type 0 = λ set. SaysNumber (length name) set said in
    set_twice (length name) p bytes rest said set more (subst SaysIt seen says)

pub returns-in-Some-clause-says : goal.returns-in-Some-clause-says
returns-in-Some-clause-says c =
    let words = c.args.words.now in
    let name = c.args.name.now in
    let bytes = string_bytes c.index-words-i.result in
    let rest = texts (drop (c.loop-i.i + 1) words) in
    let p : List ℕ → Bool = λ word. starts_with nat_eq word name in
    let seen : settings name (texts words) ≡ settings name (bytes ∷ rest) = c.loop-i.invariant ∙ ap (settings name) (texts_from words c.loop-i.i c.index-words-i.result c.loop-i-test.true c.index-words-i.is) in
    let set : p bytes ≡ true = ap p (sym c.as_bytes-word.ensures.value) ∙ sym c.starts_with.ensures.value ∙ c.if-starts_with.true in
    let more : list_any p rest ≡ false = ap (λ ws. list_any p (texts ws)) (sym (rest_of words (c.loop-i.i + 1))) ∙ sym c.is_set.ensures ∙ c.if-is_set.false in
    let once : settings name (texts words) ≡ bytes ∷ [] = seen ∙ set_once p bytes rest set more in
    let digits : take (length c.as_bytes-word.result.now - length name) (drop (length name) c.as_bytes-word.result.now) ≡ drop (length name) bytes = rest_of c.as_bytes-word.result.now (length name) ∙ ap (drop (length name)) c.as_bytes-word.ensures.value in
    let SaysIt : List (List ℕ) → Type 0 = λ set. SaysNumber (length name) set (Some c.in-Some.value) in
    subst SaysIt (sym once) (subst IsNumber digits c.in-Some.ensures.number, c.in-Some.ensures.value ∙ ap value_of digits)
