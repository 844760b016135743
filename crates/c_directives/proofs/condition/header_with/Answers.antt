use Rattle.std.proofs.Common.{◌≡◌, sym, ◌∙◌, ap, map, List, ℕ}
use Rattle.c_token.specs.declared.token.CSpanned.{CSpanned}
use Rattle.c_lines.specs.Headers.{seen, header_of}
use Rattle.c_define.specs.Numbers.{macros_of}
use Rattle.c_directives.specs.Conditions.{all_expanded, asked, form_of, spelled_tokens}
use Rattle.c_directives.proofs.Puts.{says_same}
use Rattle.c_directives.proofs.Steps.{all_put_some, tokens_there, few}
use Rattle.c_directives.proofs.condition.header_with.Goals as goal

pub returns-in_ok-text-in-Some-clause-says : goal.returns-in_ok-text-in-Some-clause-says
returns-in_ok-text-in-Some-clause-says c =
    let ms = macros_of c.args.macros.now in
    let ts = all_expanded ms c.args.tokens.now in
    let put = all_put_some c.in_ok-expand_all.field-0 c.in-Some.expanded ms c.args.place c.args.tokens.now c.in-Some.is c.in_ok-expand_all.ensures.tokens in
    let read : c.in_ok-text-in-Some.text.items ≡ spelled_tokens ts
    = c.in_ok-text-in-Some.ensures ∙ ap (λ (l : List CSpanned). spelled_tokens (map (λ (s : CSpanned). s.token) l)) (c.deref.ensures.value ∙ put.0) ∙ ap spelled_tokens (tokens_there c.args.place ts) in
    says_same c.form_of.result asked _ (form_of c.args.place (seen (λ x. (x.0, x.1.now)) c.header_of.result))
    (few c.args.place ts (λ ts. form_of c.args.place (header_of (spelled_tokens ts))) put.1 ∙ ap (λ (l : List ℕ). form_of c.args.place (header_of l)) (sym (c.deref-in-Some.ensures.value ∙ read)) ∙ ap (form_of c.args.place) c.header_of.ensures)
    c.form_of.ensures
