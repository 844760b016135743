-- A Fortran text of the form is a file of the grammar.
use Rattle.std.proofs.Common.{◌≡◌, ℕ, List, sym, ◌∙◌, subst}
use Rattle.f_lex.specs.declared.token.Spanned.{Spanned}
use Rattle.f_lex.specs.declared.token.Token.{Token}
use Rattle.f_lex.specs.Lexing.{Lexes}
use Rattle.f_lex.specs.Words.{lowered}
use Rattle.f_expr_read.specs.Views.{tokens_of}
use Rattle.f_unit_grammar.specs.Rules.{IsText}
use Rattle.first_form.specs.Forms.{fortran_lines, IsFortranText}
use Rattle.first_files.proofs.FormStatements.{form_tokens, form_is_text}
use Rattle.first_files.proofs.Cutting.{consists_of, plain_tokens}
use Rattle.first_files.proofs.Joining.{all_cut}
use Rattle.first_files.proofs.FormLines.{numerals, form_lined}

pub form_texts : (file before : ℕ) (text label calls : List ℕ) (ts : List Spanned) → IsFortranText text label calls → Lexes file before text ts → IsText (tokens_of ts)
form_texts file before text label calls ts t lexed =
    let us : List Token = form_tokens (lowered t.name) (lowered label) (numerals calls) in
    let cut = all_cut (fortran_lines t.name label calls) us (form_lined t.name label t.is_name t.is_label.word calls t.are_calls.numbers) text t.lines in
    let same : tokens_of ts ≡ us = plain_tokens file before text ts cut.shapes lexed (consists_of text cut.shapes cut.fit cut.spelled_is) ∙ cut.gives in
    subst IsText (sym same) (form_is_text (lowered t.name) (lowered label) (numerals calls))
