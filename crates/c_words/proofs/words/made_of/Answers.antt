use Rattle.std.proofs.Common.{◌≡◌, ◌+◌, ◌<◌, ◌≤◌, ◌∷◌, length, ap, ◌∙◌, arith}
use Rattle.c_words.specs.declared.made.Made.{Made}
use Rattle.c_words.proofs.Joining.{others_and_behind}
use Rattle.c_words.proofs.Putting.{turn, ended, names_room, literals_room}
use Rattle.c_words.proofs.words.made_of.Goals as goal

pub put-requires-clause-few_others : goal.put-requires-clause-few_others
put-requires-clause-few_others c =
    let whole : length c.pieces.rest.now ≡ length (c.in-Some.first.now ∷ c.in-Some.behind.now) = ap length c.in-Some.ensures.cases.0 in
    let others = ap length c.piece_at.ensures.others in
    let within = c.pieces.invariant.names in
    omega (arith, whole, others, within, c.requires, others_and_behind c.in-Some.first.now c.in-Some.behind.now)

pub pieces-smaller : goal.pieces-smaller
pieces-smaller c =
    let whole : length c.pieces.rest.now ≡ length (c.in-Some.first.now ∷ c.in-Some.behind.now) = ap length c.in-Some.ensures.cases.0 in
    let rest = ap length c.piece_at.ensures.rest in
    let less : length c.piece_at.result.1.now < length c.pieces.rest.now = omega (arith, whole, rest, others_and_behind c.in-Some.first.now c.in-Some.behind.now) in less

pub pieces-preserved : goal.pieces-preserved
pieces-preserved c =
    let whole : length c.pieces.rest.now ≡ length (c.in-Some.first.now ∷ c.in-Some.behind.now) = ap length c.in-Some.ensures.cases.0 in
    let rest = ap length c.piece_at.ensures.rest in
    let parts = others_and_behind c.in-Some.first.now c.in-Some.behind.now in
    let names = ap (λ (m : Made). length m.names) c.in_ok-put.ensures in
    let literals = ap (λ (m : Made). length m.literals) c.in_ok-put.ensures in
    let some_names = c.pieces.invariant.names in
    let some_literals = c.pieces.invariant.literals in
    record {
      all = turn c.pieces.made c.put.new.made c.in-Some.first.now c.in-Some.behind.now c.pieces.rest.now c.piece_at.result.0.now c.piece_at.result.1.now c.in-Some.ensures.cases.0 c.piece_at.ensures.others c.piece_at.ensures.rest c.in_ok-put.ensures ∙ c.pieces.invariant.all;
      names = omega (arith, whole, rest, parts, names, some_names, names_room c.pieces.made c.in-Some.first.now c.piece_at.result.0.now);
      literals = omega (arith, whole, rest, parts, literals, some_literals, literals_room c.pieces.made c.in-Some.first.now c.piece_at.result.0.now);
    }

pub returns : goal.returns
returns c = ended c.pieces.made _ c.pieces.rest.now c.in_default.ensures.cases c.pieces.invariant.all
