use Rattle.std.proofs.Common.{◌≤◌, length, inl, inr, refl, sym, ◌∙◌, arith}
use Rattle.f_lex.specs.Source.{IsFound}
use Rattle.f_lex.proofs.WholeLaws.{refused, found_tokens, found_fault}
use Rattle.f_lex.proofs.lexer.lex.Goals as goal

pub returns-then-bytes-gt-FILE_LIMIT : goal.returns-then-bytes-gt-FILE_LIMIT
returns-then-bytes-gt-FILE_LIMIT c = refused c.args.file c.args.before c.args.bytes.now _ _ c.refusal.ensures (inl (c.if-bytes-gt-FILE_LIMIT.true, refl))

pub returns-in-Some : goal.returns-in-Some
returns-in-Some c =
    let found : IsFound c.args.file c.args.before c.args.bytes.now c.in-Ok.field-0.fault c.in-Ok.field-0.tokens = c.in-Ok.ensures in
    let le : length c.args.bytes.now ≤ 1048576 = omega arith in
    refused c.args.file c.args.before c.args.bytes.now c.in-Some.fault _ c.refusal-in-Some.ensures (inr (found_fault c.args.before c.args.bytes.now c.in-Some.fault le (sym found.first ∙ c.in-Some.is)))

pub returns-in-None : goal.returns-in-None
returns-in-None c =
    let found : IsFound c.args.file c.args.before c.args.bytes.now c.in-Ok.field-0.fault c.in-Ok.field-0.tokens = c.in-Ok.ensures in
    let le : length c.args.bytes.now ≤ 1048576 = omega arith in
    found_tokens c.args.file c.args.before c.args.bytes.now _ le (sym found.first ∙ c.in-None.is) (c.into_vec.ensures ∙ found.all c.in-None.is)
