use Rattle.std.proofs.Common.{◌<◌, sym, ◌∙◌, ap, subst, arith, length}
use Rattle.storage_model.specs.Storage.{Good, places}
use Rattle.storage_model.specs.Model.{model}
use Rattle.storage_model.proofs.Nth.{nth_loan_at}
use Rattle.storage_model.proofs.Closing.{place_held}
use Rattle.storage_model.proofs.storage.Storage.unlist_loan.Goals as goal

pub index-requires-in-loop-k-2 : goal.index-requires-in-loop-k-2
index-requires-in-loop-k-2 c =
    let o = ap (λ m. m.opened) c.loop-k.invariant in
    let a = ap (λ y. y.bytes) (nth_loan_at c.loop-k.self.loans.items c.args.loan c.index-in-loop-k.result.now (omega (arith, o, c.requires.made)) c.index-in-loop-k.ensures) in
    let b = ap (λ y. y.bytes) (nth_loan_at c.args.self.now.loans.items c.args.loan c.index.result.now c.requires.made c.index.ensures) in
    let e = ap (λ m. (m.loan c.args.loan).bytes) c.loop-k.invariant in
    omega (arith, a, b, e, c.index-in-loop-k.result.now.bytes.ok.0, c.index.result.now.bytes.ok.0, c.len-count.ensures)

pub walk-requires : goal.walk-requires
walk-requires c =
    let o = ap (λ m. m.opened) c.loop-k.invariant in
    let x = c.index-in-loop-k.result.now in
    let there : c.args.loan < length c.loop-k.self.loans.items = omega (arith, o, c.requires.made) in
    let a = ap (λ y. y.bytes) (nth_loan_at c.loop-k.self.loans.items c.args.loan x there c.index-in-loop-k.ensures) in
    let b = ap (λ y. y.bytes) (nth_loan_at c.args.self.now.loans.items c.args.loan c.index.result.now c.requires.made c.index.ensures) in
    let e = ap (λ m. (m.loan c.args.loan).bytes) c.loop-k.invariant in
    let within : c.loop-k.k < length x.bytes.items = omega (arith, a, b, e, c.index.result.now.bytes.ok.0, c.len-count.ensures) in
    subst (Good (model c.loop-k.self))
    (place_held c.loop-k.self.loans.items c.args.loan c.loop-k.k x c.index-in-loop-k-2.result.now there c.index-in-loop-k.ensures within c.index-in-loop-k-2.ensures)
    (subst (λ m. Good m (places m c.args.loan c.loop-k.k)) (sym c.loop-k.invariant) (c.requires.places.good c.loop-k.k (omega (arith, a, e, within))))

pub unlist-requires : goal.unlist-requires
unlist-requires c = ap (λ m. (m.loan c.args.loan).is_open) c.loop-k.invariant ∙ c.requires.closed
