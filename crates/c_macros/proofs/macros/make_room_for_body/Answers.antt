use Rattle.std.proofs.Common.{◌≡◌, ◌≤◌, ◌<◌, length, arith, ap, sym, ◌∙◌, [], ◌∷◌, ◌++◌, get_or}
use Rattle.std.proofs.lemmas.List.{map-append, length-map}
use Rattle.c_macros.specs.Stack.{texts}
use Rattle.c_macros.specs.Keeping.{put}
use Rattle.c_macros.proofs.Puts.{put_longer, put_set, one_empty}
use Rattle.c_macros.proofs.macros.make_room_for_body.Goals as goal

pub loop-alloc-preserved : goal.loop-alloc-preserved
loop-alloc-preserved c =
    let k = c.loop-alloc.bodies.ok.0 in let e = c.len.ensures in
    let ls = texts c.loop-alloc.bodies.items in
    let le : length ls ≤ c.args.name = omega (arith, length-map c.loop-alloc.bodies.items (λ v. v.items)) in
    let more : texts c.push.new.self.items ≡ ls ++ [] ∷ [] = ap texts c.in_ok-push.ensures.items ∙ map-append (λ v. v.items) c.loop-alloc.bodies.items (c.new.result ∷ []) ∙ ap (λ v. ls ++ (v ∷ [])) c.new.ensures.items in
    record {
      same = λ n. ap (λ l. get_or l n []) more ∙ one_empty ls n ∙ c.loop-alloc.invariant.same n;
      value = λ body. ap (λ l. put l c.args.name body []) more ∙ put_longer ls c.args.name body [] le ∙ c.loop-alloc.invariant.value body;
    }

pub returns-clause-value : goal.returns-clause-value
returns-clause-value c = λ body.
    let k = c.loop-alloc.bodies.ok.0 in let e = c.len.ensures in
    let ls = texts c.loop-alloc.bodies.items in
    let lt : c.args.name < length ls = omega (arith, length-map c.loop-alloc.bodies.items (λ v. v.items)) in
    sym (put_set ls c.args.name body [] lt) ∙ c.loop-alloc.invariant.value body
