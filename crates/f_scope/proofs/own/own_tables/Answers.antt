use Rattle.std.proofs.Common.{◌≡◌, sym, ap, ◌∙◌, subst, map, [], replicate, length, List, arith, vec_len}
use Rattle.f_scope.specs.Rows.{seen}
use Rattle.f_scope.specs.Tables.{Row, noted_all}
use Rattle.f_scope.specs.Own.{AreOwn}
use Rattle.f_scope.proofs.Scans.{are_own}
use Rattle.f_scope.proofs.own.own_tables.Goals as goal

pub returns : goal.returns
returns c =
    let scopes = c.args.scopes.now in
    let items = c.args.items.now in
    let within = c.scopes.invariant.within in
    let ended = c.scopes-test.false in
    let len = c.len.ensures in
    let count : vec_len c.scopes.tables ≡ length scopes = omega (arith, within, ended, len) in
    let empty : c.scopes.tables.items ≡ replicate (length scopes) [] = c.scopes.invariant.empty ∙ ap (λ n. replicate n []) count in
    let is : c.note_all.new.tables.items ≡ noted_all scopes (replicate (length scopes) []) 0 items = c.in_ok-note_all.ensures ∙ ap (λ t. noted_all scopes t 0 items) empty in
    let P : List (List Row) → Type 0 = λ t. AreOwn (map (seen scopes) items) t (length scopes) in
    subst P (sym is) (are_own scopes c.requires items)
