use Rattle.std.proofs.Common.{◌≡◌, ◌<◌, ◌^◌, ℕ, List, [], length, map, Ok, Err, sym, subst, ◌∙◌}
use Rattle.std.specs.Prelude.{sum}
use Rattle.std.specs.declared.alloc.Global.{Global}
use Rattle.std.specs.declared.vec.Vec.{Vec}
use Rattle.jf_base.specs.declared.place.Refusal.{Refusal}
use Rattle.c_tree.specs.declared.unit.External.{External}
use Rattle.c_grammar.specs.declared.token.Token.{Token}
use Rattle.c_external_read.specs.Files as externals
use Rattle.c_external_read.specs.Files.{deepest, externals_at}
use Rattle.c_external_read.specs.Views.{view_external}
use Rattle.c_read.specs.Reading.{read_file}
use Rattle.c_read.specs.Views.{Answers, view_unit, refused}
use Rattle.c_read.proofs.Words.{few_words, few_tokens, is_read, is_refused}
use Rattle.c_read.proofs.reading.read_words.Goals as goal

pub read_externals-requires-clause-short : goal.read_externals-requires-clause-short
read_externals-requires-clause-short c = subst (λ (ts : List Token). length ts < 2 ^ 32) (sym c.as_slice.ensures) (few_words c.args.tokens.now c.args.words c.requires.words c.requires.few)

pub read_externals-requires-clause-few : goal.read_externals-requires-clause-few
read_externals-requires-clause-few c = subst (λ (ns : List ℕ). sum ns < 2 ^ 32) (sym c.as_slice-2.ensures) (few_tokens c.args.tokens.now c.args.words c.requires.words c.requires.few)

pub returns-in-Ok-clause-read : goal.returns-in-Ok-clause-read
returns-in-Ok-clause-read c =
    let e = subst (λ (ts : List Token). externals_at deepest (length ts) [] ts ≡ Ok (map view_external c.in-Ok.externals.items)) c.as_slice.ensures c.in-Ok.ensures.read in
    subst (λ (xs : List External). read_file c.args.tokens.now ≡ Ok (record { names = c.args.words.names; literals = c.args.words.literals; places = c.args.words.places; externals = map view_external xs })) (sym c.from_vec.ensures)
    (is_read c.args.tokens.now c.args.words c.requires.words (map view_external c.in-Ok.externals.items) e)

pub returns-in-Err-clause-read : goal.returns-in-Err-clause-read
returns-in-Err-clause-read c =
    let view = λ (v : Vec External Global). map view_external v.items in
    let e = subst (λ (ts : List Token). externals.Answers view (Err c.in-Err.error) (externals_at deepest (length ts) [] ts)) c.as_slice.ensures c.in-Err.ensures.read in
    let same = c.refused.ensures ∙ (λ i. refused (c.as_slice-in-Err.ensures i) (c.as_slice-in-Err-2.ensures i) c.in-Err.error) in
    subst (λ (r : Refusal). Answers view_unit (Err r) (read_file c.args.tokens.now)) (sym same) (is_refused c.args.tokens.now c.args.words c.requires.words view c.in-Err.error e)
