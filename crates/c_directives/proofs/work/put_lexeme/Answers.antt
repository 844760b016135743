use Rattle.std.proofs.Common.{◌≡◌, sym, ◌∙◌, ap, cond, List, ℕ}
use Rattle.jf_base.specs.declared.place.Place.{Place}
use Rattle.c_lines.specs.declared.rule.Rule.TheVariants as rule
use Rattle.c_form.specs.Forms.{token_of}
use Rattle.c_directives.specs.Reads.{Read, broken}
use Rattle.c_directives.specs.Texts.{Work, place_of, put_name, put_token}
use Rattle.c_directives.specs.Sorting.{work_of}
use Rattle.c_directives.proofs.Puts.{says_broken, says_same, lexeme_foreign, lexeme_open, lexeme_name, lexeme_other}
use Rattle.c_directives.proofs.work.put_lexeme.Goals as goal

pub returns-in-ForeignByte-clause-says : goal.returns-in-ForeignByte-clause-says
returns-in-ForeignByte-clause-says c =
    says_broken _ c.breaks.result rule.ForeignByte c.place_of-place.result c.breaks.ensures _ (lexeme_foreign c.args.limit c.args.origin (work_of c.args.pre.now) c.args.lexeme.now c.in-ForeignByte.is ∙ ap (broken rule.ForeignByte) (sym c.place_of-place.ensures))

pub returns-in-OpenText-clause-says : goal.returns-in-OpenText-clause-says
returns-in-OpenText-clause-says c =
    says_broken _ c.breaks-in-OpenText.result rule.OpenText c.place_of-place.result c.breaks-in-OpenText.ensures _ (lexeme_open c.args.limit c.args.origin (work_of c.args.pre.now) c.args.lexeme.now c.in-OpenText.is ∙ ap (broken rule.OpenText) (sym c.place_of-place.ensures))

pub returns-in-Name-clause-says : goal.returns-in-Name-clause-says
returns-in-Name-clause-says c =
    let w : Work = work_of c.args.pre.now in
    says_same c.put_name.result _ _ (put_name c.args.limit c.place_of-place.result w c.as_slice.result.now)
    (lexeme_name c.args.limit c.args.origin w c.args.lexeme.now c.in-Name.is ∙ ap (λ (p : Place). put_name c.args.limit p w c.args.lexeme.now.spelling) (sym c.place_of-place.ensures) ∙ ap (λ (n : List ℕ). put_name c.args.limit c.place_of-place.result w n) (sym c.as_slice.ensures))
    c.put_name.ensures.says

pub returns-then-is_hash_mark-clause-says : goal.returns-then-is_hash_mark-clause-says
returns-then-is_hash_mark-clause-says c =
    let w : Work = work_of c.args.pre.now in
    says_broken _ c.breaks-then-is_hash_mark.result rule.Hash c.place_of-place.result c.breaks-then-is_hash_mark.ensures _
    (lexeme_other c.args.limit c.args.origin w c.args.lexeme.now c.in_default.not-ForeignByte c.in_default.not-OpenText c.in_default.not-Name
    ∙ ap (λ b. cond {A = Read Work} b (broken rule.Hash (place_of c.args.origin c.args.lexeme.now.point)) (put_token c.args.limit (place_of c.args.origin c.args.lexeme.now.point) w (token_of c.args.lexeme.now.kind c.args.lexeme.now.spelling))) (sym c.is_hash_mark.ensures ∙ c.if-is_hash_mark.true) ∙ ap (broken rule.Hash) (sym c.place_of-place.ensures))

pub returns-else-is_hash_mark-clause-says : goal.returns-else-is_hash_mark-clause-says
returns-else-is_hash_mark-clause-says c =
    let w : Work = work_of c.args.pre.now in
    says_same c.put_token.result _ _ (put_token c.args.limit c.place_of-place.result w (token_of c.args.lexeme.now.kind c.args.lexeme.now.spelling))
    (lexeme_other c.args.limit c.args.origin w c.args.lexeme.now c.in_default.not-ForeignByte c.in_default.not-OpenText c.in_default.not-Name
    ∙ ap (λ b. cond {A = Read Work} b (broken rule.Hash (place_of c.args.origin c.args.lexeme.now.point)) (put_token c.args.limit (place_of c.args.origin c.args.lexeme.now.point) w (token_of c.args.lexeme.now.kind c.args.lexeme.now.spelling))) (sym c.is_hash_mark.ensures ∙ c.if-is_hash_mark.false)
    ∙ ap (λ (p : Place). put_token c.args.limit p w (token_of c.args.lexeme.now.kind c.args.lexeme.now.spelling)) (sym c.place_of-place.ensures))
    c.put_token.ensures.says
