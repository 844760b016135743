use Rattle.std.proofs.Common.{sym, ◌∙◌, ap, subst, get_or}
use Rattle.storage_model.specs.Storage.{is_live, Good}
use Rattle.storage_model.specs.Held.{no_byte}
use Rattle.storage_model.specs.Model.{model}
use Rattle.storage_model.proofs.Grounds.{good_chain, home_on}
use Rattle.storage_model.proofs.storage.Storage.list_loan.Goals as goal

pub list_cover-requires-clause-live : goal.list_cover-requires-clause-live
list_cover-requires-clause-live c =
    let m = model c.loop-k.self in
    let laws = c.loop-k.self.held.sound in
    let p = (get_or c.args.bytes.now c.loop-k.k no_byte).place in
    let g : Good m p = subst (λ x. Good x p) (sym c.loop-k.invariant.same) (c.requires.good c.loop-k.k c.loop-k-test.true) in
    ap (λ h. is_live m h.view) c.walk.ensures.home ∙ (good_chain m laws g (home_on m laws p g).1).live
