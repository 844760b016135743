use Rattle.std.proofs.Common.{◌≡◌, sym, ap, ◌∙◌, subst, map, [], replicate, length, List, arith, vec_len}
use Rattle.f_scope.specs.Rows.{seen}
use Rattle.f_scope.specs.Tables.{Row}
use Rattle.f_stated.specs.Said.{AreSaid, noted_keys}
use Rattle.f_stated.proofs.Firsts.{are_said}
use Rattle.f_stated.proofs.tables.said_tables.Goals as goal

pub returns : goal.returns
returns c =
    let scopes = c.args.scopes.now in
    let items = c.args.items.now in
    let saying = c.args.saying in
    let within = c.scopes.invariant.within in
    let ended = c.scopes-test.false in
    let len = c.len.ensures in
    let count : vec_len c.scopes.tables ≡ length scopes = omega (arith, within, ended, len) in
    let empty : c.scopes.tables.items ≡ replicate (length scopes) [] = c.scopes.invariant.empty ∙ ap (λ n. replicate n []) count in
    let is : c.note_all.new.tables.items ≡ noted_keys saying scopes (replicate (length scopes) []) 0 items = c.in_ok-note_all.ensures ∙ ap (λ t. noted_keys saying scopes t 0 items) empty in
    let P : List (List Row) → Type 0 = λ t. AreSaid saying (map (seen scopes) items) t (length scopes) in
    subst P (sym is) (are_said saying scopes c.requires items)
