-- A C text of the form is a file of the grammar.
use Rattle.std.proofs.Common.{◌≡◌, ℕ, List, Ok, ◌∙◌}
use Rattle.c_token.specs.declared.token.CSpanned.{CSpanned}
use Rattle.c_pre.specs.Files.{expanded_at}
use Rattle.first_form.specs.declared.program.PutcharArgument.{PutcharArgument}
use Rattle.first_form.specs.Words.{IsLabel}
use Rattle.first_form.specs.Forms.{IsCText}
use Rattle.first_c_files.specs.Units.{IsUnit}
use Rattle.first_c_files.proofs.FormUnits.{form_units, units_fit, units_spelled}
use Rattle.first_c_files.proofs.FormWords.{puts_of, are_put, words_of_form}
use Rattle.first_c_files.proofs.FormTexts.{label_apart, given}

pub c_form_files : (files : List (List ℕ × List ℕ)) (file before calls : ℕ) (text name label : List ℕ) (puts : List PutcharArgument) (tokens : List CSpanned)
    → IsLabel name label → IsCText text label puts → expanded_at files file before text calls ≡ Ok tokens → IsUnit tokens
c_form_files files file before calls text name label puts tokens is_label t e =
    let g = given files file before calls text tokens e label puts is_label.word t in
    let es = puts_of g.puts g.are_put in
    record {
      externals = form_units es;
      fits = units_fit es (are_put g.puts g.are_put);
      spelled = words_of_form label g.puts tokens (label_apart name label is_label) g.are_put g.are ∙ units_spelled es;
    }
