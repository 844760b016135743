use Rattle.std.proofs.Common.{map, ap, ◌∙◌, ◌≡◌, ◌+◌, ◌-◌, List, length, refl, sym, ℕ, take, Ok, ◌∷◌, false}
use Rattle.std.proofs.lemmas.Result.{err_from_is_err_and}
use Rattle.c_grammar.specs.Grammar.{Expr, Name, Joint, Choose, no_links, after, after_joint, after_links, Assign, Scope, Suffix, after_suffix, no_more, param, after_more, after_param, no_suffixes, suffix, after_suffixes, Post, after_posts, no_posts, post, after_post, no_members, after_members, no_decls, another, after_decls, after_decl, no_items, item, after_items, after_item, no_specs, spec, after_spec, after_specs}
use Rattle.c_grammar.specs.Reading.{inner, chain, more_at, suffixes_at, level_at, posts_at, members_at, decls_at, items_at, specs_at, specifiers_at}
use Rattle.c_expression_read.specs.Views.{view, view_target, links_of, shifted, view_link, view_choice, linked, commas_of, comma, view_parameters, view_typed, view_suffix, call_of, view_postfix, posts_of, view_declarator, view_members, decls_of, members, view_enumerator, view_specifier}
use Rattle.c_expression_read.proofs.Levels.{level_fails_first, level_fails, level_goes, level_declares, level_fails_any, level_goes_any, arguments_fail, arguments_open, arguments_go, called_fails, after-posts}
use Rattle.c_tree.specs.Heights.{rank}
use Rattle.c_expression_read.proofs.Heights.{rank-low, not-eleven-10, not-eleven-12, rank-tighter}
use Rattle.c_expression_read.specs.Gives.{behind, called}
use Rattle.c_expression_read.proofs.Loops.{begun, on, fails, no_more_of, done, goes_on, declares}
use Rattle.c_expression_read.proofs.Shifts.{shift_on, first_on, shift_declares, link_declares, step_members, after-members, members_declare}
use Rattle.c_expression_read.proofs.Turns.{any_links, choice_next, choice_fails, chosen_fails, links_stops, links_zero, links_next, links_fails, commas_next, commas_fails, left_links, target_next, target_fails, target_stops, target_zero, more_next, more_fails, more_stops, more_zero, suffixes_next, suffixes_fails, suffixes_stops, suffixes_zero, posts_next, posts_fails, posts_stops, posts_zero, members_next, members_fails, members_stops, members_zero, decls_next, decls_fails, decls_stops, decls_zero, items_next, items_fails, items_stops, items_zero, based_specs, specs_begun, specs_next, specs_fails, specs_stops, specs_zero}
use Rattle.c_grammar.proofs.Kept.{kept}
use Rattle.c_expression_read.proofs.+reader.Goals as goal

pub chain::assignment-returns-in_err-first-clause-read : goal.chain::assignment-returns-in_err-first-clause-read
chain::assignment-returns-in_err-first-clause-read t c =
    let p = err_from_is_err_and c.from_residual.result c.from_residual.ensures.1 in
    rw (p.1, p.2) (level_fails_first (inner c.args.depth) 11 c.args.scope.now c.args.tokens.now c.in_err-first.field-0.0 c.in_err-first.ensures.read)

pub chain::assignment-returns-in_err-targets-clause-read : goal.chain::assignment-returns-in_err-targets-clause-read
chain::assignment-returns-in_err-targets-clause-read t c =
    let p = err_from_is_err_and c.from_residual-in_err-targets.result c.from_residual-in_err-targets.ensures.1 in
    rw (p.1, p.2) (level_fails (inner c.args.depth) 11 c.args.scope.now _ c.args.tokens.now c.in_ok-first.rest.now (view c.in_ok-first.first) c.in_ok-first.ensures.read c.in_ok-first.ensures.scope c.in_err-targets.field-0.0 c.in_err-targets.ensures.read)

pub chain::assignment-returns-clause-read : goal.chain::assignment-returns-clause-read
chain::assignment-returns-clause-read t c = level_goes (inner c.args.depth) 11 c.args.scope.now _ c.args.tokens.now c.in_ok-first.rest.now (view c.in_ok-first.first) c.in_ok-first.ensures.read c.in_ok-first.ensures.scope (links_of (shifted (map view_target c.in_ok-targets.targets.items) (view c.in_ok-targets.last))) (view c.in_ok-assignment.field-0) c.in_ok-targets.rest.now c.in_ok-targets.ensures.read (c.in_ok-assignment.ensures ∙ ap (λ (x : Expr). chain 11 x (links_of (shifted (map view_target c.in_ok-targets.targets.items) (view c.in_ok-targets.last)))) c.in_ok-targets.ensures.first)

pub chain::assignment-returns-clause-scope : goal.chain::assignment-returns-clause-scope
chain::assignment-returns-clause-scope t c = level_declares (inner c.args.depth) 11 c.args.scope.now _ c.args.tokens.now c.in_ok-first.rest.now (view c.in_ok-first.first) c.in_ok-first.ensures.read c.in_ok-first.ensures.scope (links_of (shifted (map view_target c.in_ok-targets.targets.items) (view c.in_ok-targets.last))) (view c.in_ok-assignment.field-0) _ c.in_ok-targets.ensures.scope (c.in_ok-assignment.ensures ∙ ap (λ (x : Expr). chain 11 x (links_of (shifted (map view_target c.in_ok-targets.targets.items) (view c.in_ok-targets.last)))) c.in_ok-targets.ensures.first)

pub chain::binary-returns-in_err-first-clause-read : goal.chain::binary-returns-in_err-first-clause-read
chain::binary-returns-in_err-first-clause-read t c =
    let p = err_from_is_err_and c.from_residual.result c.from_residual.ensures.1 in
    rw (p.1, p.2) (level_fails_first (inner c.args.depth) (rank c.args.height) c.args.scope.now c.args.tokens.now c.in_err-first.field-0.0 c.in_err-first.ensures.read)

pub chain::binary-returns-in_err-links-clause-read : goal.chain::binary-returns-in_err-links-clause-read
chain::binary-returns-in_err-links-clause-read t c =
    let p = err_from_is_err_and c.from_residual-in_err-links.result c.from_residual-in_err-links.ensures.1 in
    rw (p.1, p.2) (level_fails_any (inner c.args.depth) (rank c.args.height) c.args.scope.now _ c.args.tokens.now c.in_ok-first.rest.now (view c.in_ok-first.first) c.in_ok-first.ensures.read c.in_ok-first.ensures.scope (Name 0) c.in_err-links.field-0.0 (rank-low c.args.height) c.in_err-links.ensures.read)

pub chain::binary-returns-clause-read : goal.chain::binary-returns-clause-read
chain::binary-returns-clause-read t c = level_goes_any (inner c.args.depth) (rank c.args.height) c.args.scope.now _ c.args.tokens.now c.in_ok-first.rest.now (view c.in_ok-first.first) c.in_ok-first.ensures.read c.in_ok-first.ensures.scope (Name 0) (links_of (map view_link c.in_ok-links.links.items)) (view c.in_ok-chain.field-0) c.in_ok-links.rest.now (rank-low c.args.height) c.in_ok-links.ensures.read c.in_ok-chain.ensures

pub chain::binary-returns-clause-scope : goal.chain::binary-returns-clause-scope
chain::binary-returns-clause-scope t c = level_declares (inner c.args.depth) (rank c.args.height) c.args.scope.now _ c.args.tokens.now c.in_ok-first.rest.now (view c.in_ok-first.first) c.in_ok-first.ensures.read c.in_ok-first.ensures.scope (links_of (map view_link c.in_ok-links.links.items)) (view c.in_ok-chain.field-0) _ c.in_ok-links.ensures.scope c.in_ok-chain.ensures

pub chain::choices-choices-init : goal.chain::choices-choices-init
chain::choices-choices-init t c = rw c.new-choices.ensures.items (record { reads = begun linked (any_links (inner c.args.depth) 10) (length c.args.tokens.now) c.args.scope.now c.args.tokens.now; front_is = refl; scoped = refl })

pub chain::choices-choices-preserved : goal.chain::choices-choices-preserved
chain::choices-choices-preserved t c =
    rw c.in_ok-push-in-Some.ensures.items (record {
      reads = ap (λ (es : List (Joint × Expr)). behind linked es (any_links (inner c.args.depth) 10 (length c.args.tokens.now - (c.choices.counter + 1)) c.binary.new.scope c.in_ok-next-in-Some.after.now)) (shift_on view_choice c.choices.choices.items c.choice-one.result (view c.choices.last) (view c.in_ok-next-in-Some.next) (Choose (view c.in_ok-value-in-Some.value)) c.choice-one.ensures) ∙ on no_links linked (any_links (inner c.args.depth) 10) (shifted (map view_choice c.choices.choices.items) (view c.choices.last)) (length c.args.tokens.now) c.choices.counter c.choices.scope c.choices.rest.now _ c.choices.invariant.reads ((Choose (view c.in_ok-value-in-Some.value)), (view c.in_ok-next-in-Some.next)) c.binary.new.scope c.in_ok-next-in-Some.after.now c.choices-test.true (choice_next (inner c.args.depth) c.choices.scope _ _ c.choices.rest.now c.in-Some.behind.now c.in_ok-value-in-Some.after.now c.in_ok-next-in-Some.after.now (view c.in_ok-value-in-Some.value) (view c.in_ok-next-in-Some.next) (c.in-Some.ensures (Name 0)) c.in_ok-value-in-Some.ensures.read c.in_ok-value-in-Some.ensures.scope c.in_ok-next-in-Some.ensures.read c.in_ok-next-in-Some.ensures.scope);
      front_is = first_on view_choice c.choices.choices.items c.choice-one.result (view c.choices.last) (view c.in_ok-next-in-Some.next) (Choose (view c.in_ok-value-in-Some.value)) c.choice-one.ensures ∙ c.choices.invariant.front_is;
      scoped = shift_declares view_choice c.choices.choices.items c.choice-one.result (view c.choices.last) (view c.in_ok-next-in-Some.next) (Choose (view c.in_ok-value-in-Some.value)) c.choice-one.ensures c.args.scope.now c.choices.scope _ c.choices.invariant.scoped (c.in_ok-next-in-Some.ensures.scope ∙ ap (after (view c.in_ok-next-in-Some.next)) c.in_ok-value-in-Some.ensures.scope);
    })

pub chain::choices-returns-in_err-value-in-Some-clause-read : goal.chain::choices-returns-in_err-value-in-Some-clause-read
chain::choices-returns-in_err-value-in-Some-clause-read t c =
    let p = err_from_is_err_and c.from_residual.result c.from_residual.ensures.1 in
    rw (p.1, p.2) (fails no_links linked (any_links (inner c.args.depth) 10) (shifted (map view_choice c.choices.choices.items) (view c.choices.last)) (length c.args.tokens.now) c.choices.counter c.choices.scope c.choices.rest.now _ c.choices.invariant.reads c.in_err-value-in-Some.field-0.0 c.choices-test.true (choice_fails (inner c.args.depth) c.choices.scope c.choices.rest.now c.in-Some.behind.now c.in_err-value-in-Some.field-0.0 (c.in-Some.ensures (Name 0)) c.in_err-value-in-Some.ensures.read))

pub chain::choices-returns-in_err-next-in-Some-clause-read : goal.chain::choices-returns-in_err-next-in-Some-clause-read
chain::choices-returns-in_err-next-in-Some-clause-read t c =
    let p = err_from_is_err_and c.from_residual-in_err-next-in-Some.result c.from_residual-in_err-next-in-Some.ensures.1 in
    rw (p.1, p.2) (fails no_links linked (any_links (inner c.args.depth) 10) (shifted (map view_choice c.choices.choices.items) (view c.choices.last)) (length c.args.tokens.now) c.choices.counter c.choices.scope c.choices.rest.now _ c.choices.invariant.reads c.in_err-next-in-Some.field-0.0 c.choices-test.true (chosen_fails (inner c.args.depth) c.choices.scope _ c.choices.rest.now c.in-Some.behind.now c.in_ok-value-in-Some.after.now (view c.in_ok-value-in-Some.value) c.in_err-next-in-Some.field-0.0 (c.in-Some.ensures (Name 0)) c.in_ok-value-in-Some.ensures.read c.in_ok-value-in-Some.ensures.scope c.in_err-next-in-Some.ensures.read))

pub chain::choices-returns-in-None-clause-read : goal.chain::choices-returns-in-None-clause-read
chain::choices-returns-in-None-clause-read t c = no_more_of no_links linked (any_links (inner c.args.depth) 10) (shifted (map view_choice c.choices.choices.items) (view c.choices.last)) (length c.args.tokens.now) c.choices.counter c.choices.scope c.choices.rest.now _ c.choices.invariant.reads c.choices-test.true (links_stops (inner c.args.depth) 10 c.choices.scope c.choices.rest.now (c.in-None.ensures (Name 0)))

pub chain::choices-returns-in-None-clause-first : goal.chain::choices-returns-in-None-clause-first
chain::choices-returns-in-None-clause-first t c = c.choices.invariant.front_is

pub chain::choices-returns-in-None-clause-scope : goal.chain::choices-returns-in-None-clause-scope
chain::choices-returns-in-None-clause-scope t c = c.choices.invariant.scoped

pub chain::choices-returns-clause-read : goal.chain::choices-returns-clause-read
chain::choices-returns-clause-read t c = done no_links linked (any_links (inner c.args.depth) 10) (shifted (map view_choice c.choices.choices.items) (view c.choices.last)) (length c.args.tokens.now) c.choices.counter c.choices.scope c.choices.rest.now _ c.choices.invariant.reads c.choices-test.false (links_zero (inner c.args.depth) 10 c.choices.scope c.choices.rest.now)

pub chain::choices-returns-clause-first : goal.chain::choices-returns-clause-first
chain::choices-returns-clause-first t c = c.choices.invariant.front_is

pub chain::choices-returns-clause-scope : goal.chain::choices-returns-clause-scope
chain::choices-returns-clause-scope t c = c.choices.invariant.scoped

pub chain::conditional-returns-in_err-first-clause-read : goal.chain::conditional-returns-in_err-first-clause-read
chain::conditional-returns-in_err-first-clause-read t c =
    let p = err_from_is_err_and c.from_residual.result c.from_residual.ensures.1 in
    rw (p.1, p.2) (level_fails_first (inner c.args.depth) 10 c.args.scope.now c.args.tokens.now c.in_err-first.field-0.0 c.in_err-first.ensures.read)

pub chain::conditional-returns-in_err-choices-clause-read : goal.chain::conditional-returns-in_err-choices-clause-read
chain::conditional-returns-in_err-choices-clause-read t c =
    let p = err_from_is_err_and c.from_residual-in_err-choices.result c.from_residual-in_err-choices.ensures.1 in
    rw (p.1, p.2) (level_fails_any (inner c.args.depth) 10 c.args.scope.now _ c.args.tokens.now c.in_ok-first.rest.now (view c.in_ok-first.first) c.in_ok-first.ensures.read c.in_ok-first.ensures.scope (Name 0) c.in_err-choices.field-0.0 not-eleven-10 c.in_err-choices.ensures.read)

pub chain::conditional-returns-clause-read : goal.chain::conditional-returns-clause-read
chain::conditional-returns-clause-read t c = level_goes_any (inner c.args.depth) 10 c.args.scope.now _ c.args.tokens.now c.in_ok-first.rest.now (view c.in_ok-first.first) c.in_ok-first.ensures.read c.in_ok-first.ensures.scope (Name 0) (links_of (shifted (map view_choice c.in_ok-choices.choices.items) (view c.in_ok-choices.last))) (view c.in_ok-conditional.field-0) c.in_ok-choices.rest.now not-eleven-10 c.in_ok-choices.ensures.read (c.in_ok-conditional.ensures ∙ ap (λ (x : Expr). chain 10 x (links_of (shifted (map view_choice c.in_ok-choices.choices.items) (view c.in_ok-choices.last)))) c.in_ok-choices.ensures.first)

pub chain::conditional-returns-clause-scope : goal.chain::conditional-returns-clause-scope
chain::conditional-returns-clause-scope t c = level_declares (inner c.args.depth) 10 c.args.scope.now _ c.args.tokens.now c.in_ok-first.rest.now (view c.in_ok-first.first) c.in_ok-first.ensures.read c.in_ok-first.ensures.scope (links_of (shifted (map view_choice c.in_ok-choices.choices.items) (view c.in_ok-choices.last))) (view c.in_ok-conditional.field-0) _ c.in_ok-choices.ensures.scope (c.in_ok-conditional.ensures ∙ ap (λ (x : Expr). chain 10 x (links_of (shifted (map view_choice c.in_ok-choices.choices.items) (view c.in_ok-choices.last)))) c.in_ok-choices.ensures.first)

pub chain::expression-returns-in_err-first-clause-read : goal.chain::expression-returns-in_err-first-clause-read
chain::expression-returns-in_err-first-clause-read t c =
    let p = err_from_is_err_and c.from_residual.result c.from_residual.ensures.1 in
    rw (p.1, p.2) (level_fails_first (inner c.args.depth) 12 c.args.scope.now c.args.tokens.now c.in_err-first.field-0.0 c.in_err-first.ensures.read)

pub chain::expression-returns-in_err-others-clause-read : goal.chain::expression-returns-in_err-others-clause-read
chain::expression-returns-in_err-others-clause-read t c =
    let p = err_from_is_err_and c.from_residual-in_err-others.result c.from_residual-in_err-others.ensures.1 in
    rw (p.1, p.2) (level_fails_any (inner c.args.depth) 12 c.args.scope.now _ c.args.tokens.now c.in_ok-first.rest.now (view c.in_ok-first.first) c.in_ok-first.ensures.read c.in_ok-first.ensures.scope (Name 0) c.in_err-others.field-0.0 not-eleven-12 c.in_err-others.ensures.read)

pub chain::expression-returns-clause-read : goal.chain::expression-returns-clause-read
chain::expression-returns-clause-read t c = level_goes_any (inner c.args.depth) 12 c.args.scope.now _ c.args.tokens.now c.in_ok-first.rest.now (view c.in_ok-first.first) c.in_ok-first.ensures.read c.in_ok-first.ensures.scope (Name 0) (commas_of (map view c.in_ok-others.others.items)) (view c.in_ok-commas.field-0) c.in_ok-others.rest.now not-eleven-12 c.in_ok-others.ensures.read c.in_ok-commas.ensures

pub chain::expression-returns-clause-scope : goal.chain::expression-returns-clause-scope
chain::expression-returns-clause-scope t c = level_declares (inner c.args.depth) 12 c.args.scope.now _ c.args.tokens.now c.in_ok-first.rest.now (view c.in_ok-first.first) c.in_ok-first.ensures.read c.in_ok-first.ensures.scope (commas_of (map view c.in_ok-others.others.items)) (view c.in_ok-commas.field-0) _ c.in_ok-others.ensures.scope c.in_ok-commas.ensures

pub chain::links-links-init : goal.chain::links-links-init
chain::links-links-init t c = rw c.new-links.ensures.items (record { reads = begun linked (any_links (inner c.args.depth) (rank c.args.height)) (length c.args.tokens.now) c.args.scope.now c.args.tokens.now; scoped = refl })

pub chain::links-links-preserved : goal.chain::links-links-preserved
chain::links-links-preserved t c =
    rw c.in_ok-push-in-Some.ensures.items (record {
      reads = goes_on no_links linked (any_links (inner c.args.depth) (rank c.args.height)) view_link c.links.links.items (length c.args.tokens.now) c.links.counter c.links.scope c.links.rest.now _ c.links.invariant.reads c.link-one.result _ c.in_ok-right-in-Some.after.now c.links-test.true (links_next (inner c.args.depth) (rank c.args.height) c.links.scope _ c.links.rest.now c.in-Some.behind.now c.in_ok-right-in-Some.after.now c.in-Some.operator (view c.in_ok-right-in-Some.right) (view_link c.link-one.result) (rank-low c.args.height) c.link-one.ensures (c.in-Some.ensures (Name 0)) c.in_ok-right-in-Some.ensures.read c.in_ok-right-in-Some.ensures.scope);
      scoped = declares no_links linked after_links (λ x s. after x.1 (after_joint x.0 s)) (λ s. refl) (λ e l s. refl) view_link c.links.links.items c.link-one.result c.args.scope.now c.links.scope _ c.links.invariant.scoped (link_declares (view_link c.link-one.result) c.in-Some.operator (view c.in_ok-right-in-Some.right) c.links.scope _ c.link-one.ensures c.in_ok-right-in-Some.ensures.scope);
    })

pub chain::links-returns-in_err-right-in-Some-clause-read : goal.chain::links-returns-in_err-right-in-Some-clause-read
chain::links-returns-in_err-right-in-Some-clause-read t c =
    let p = err_from_is_err_and c.from_residual.result c.from_residual.ensures.1 in
    rw (p.1, p.2) (fails no_links linked (any_links (inner c.args.depth) (rank c.args.height)) (map view_link c.links.links.items) (length c.args.tokens.now) c.links.counter c.links.scope c.links.rest.now _ c.links.invariant.reads c.in_err-right-in-Some.field-0.0 c.links-test.true (links_fails (inner c.args.depth) (rank c.args.height) c.links.scope c.links.rest.now c.in-Some.behind.now c.in-Some.operator c.in_err-right-in-Some.field-0.0 (c.in-Some.ensures (Name 0)) c.in_err-right-in-Some.ensures.read))

pub chain::links-returns-in-None-clause-read : goal.chain::links-returns-in-None-clause-read
chain::links-returns-in-None-clause-read t c = no_more_of no_links linked (any_links (inner c.args.depth) (rank c.args.height)) (map view_link c.links.links.items) (length c.args.tokens.now) c.links.counter c.links.scope c.links.rest.now _ c.links.invariant.reads c.links-test.true (links_stops (inner c.args.depth) (rank c.args.height) c.links.scope c.links.rest.now (c.in-None.ensures (Name 0)))

pub chain::links-returns-in-None-clause-scope : goal.chain::links-returns-in-None-clause-scope
chain::links-returns-in-None-clause-scope t c = c.links.invariant.scoped

pub chain::links-returns-clause-read : goal.chain::links-returns-clause-read
chain::links-returns-clause-read t c = done no_links linked (any_links (inner c.args.depth) (rank c.args.height)) (map view_link c.links.links.items) (length c.args.tokens.now) c.links.counter c.links.scope c.links.rest.now _ c.links.invariant.reads c.links-test.false (links_zero (inner c.args.depth) (rank c.args.height) c.links.scope c.links.rest.now)

pub chain::links-returns-clause-scope : goal.chain::links-returns-clause-scope
chain::links-returns-clause-scope t c = c.links.invariant.scoped

pub chain::operand-returns-in-Some-clause-read : goal.chain::operand-returns-in-Some-clause-read
chain::operand-returns-in-Some-clause-read t c = rw (rank-tighter c.args.height c.in-Some.tighter (sym c.tighter.ensures ∙ c.in-Some.is)) c.binary.ensures.read

pub chain::other_expressions-commas-init : goal.chain::other_expressions-commas-init
chain::other_expressions-commas-init t c = rw c.new-others.ensures.items (record { reads = begun comma (any_links (inner c.args.depth) 12) (length c.args.tokens.now) c.args.scope.now c.args.tokens.now; scoped = refl })

pub chain::other_expressions-commas-preserved : goal.chain::other_expressions-commas-preserved
chain::other_expressions-commas-preserved t c =
    rw c.in_ok-push-in-Some.ensures.items (record {
      reads = goes_on no_links comma (any_links (inner c.args.depth) 12) view c.commas.others.items (length c.args.tokens.now) c.commas.counter c.commas.scope c.commas.rest.now _ c.commas.invariant.reads c.in_ok-one-in-Some.one _ c.in_ok-one-in-Some.after.now c.commas-test.true (commas_next (inner c.args.depth) c.commas.scope _ c.commas.rest.now c.in-Some.behind.now c.in_ok-one-in-Some.after.now (view c.in_ok-one-in-Some.one) (c.in-Some.ensures (Name 0)) c.in_ok-one-in-Some.ensures.read c.in_ok-one-in-Some.ensures.scope);
      scoped = declares no_links comma after_links after (λ s. refl) (λ e l s. refl) view c.commas.others.items c.in_ok-one-in-Some.one c.args.scope.now c.commas.scope _ c.commas.invariant.scoped c.in_ok-one-in-Some.ensures.scope;
    })

pub chain::other_expressions-returns-in_err-one-in-Some-clause-read : goal.chain::other_expressions-returns-in_err-one-in-Some-clause-read
chain::other_expressions-returns-in_err-one-in-Some-clause-read t c =
    let p = err_from_is_err_and c.from_residual.result c.from_residual.ensures.1 in
    rw (p.1, p.2) (fails no_links comma (any_links (inner c.args.depth) 12) (map view c.commas.others.items) (length c.args.tokens.now) c.commas.counter c.commas.scope c.commas.rest.now _ c.commas.invariant.reads c.in_err-one-in-Some.field-0.0 c.commas-test.true (commas_fails (inner c.args.depth) c.commas.scope c.commas.rest.now c.in-Some.behind.now c.in_err-one-in-Some.field-0.0 (c.in-Some.ensures (Name 0)) c.in_err-one-in-Some.ensures.read))

pub chain::other_expressions-returns-in-None-clause-read : goal.chain::other_expressions-returns-in-None-clause-read
chain::other_expressions-returns-in-None-clause-read t c = no_more_of no_links comma (any_links (inner c.args.depth) 12) (map view c.commas.others.items) (length c.args.tokens.now) c.commas.counter c.commas.scope c.commas.rest.now _ c.commas.invariant.reads c.commas-test.true (links_stops (inner c.args.depth) 12 c.commas.scope c.commas.rest.now (c.in-None.ensures (Name 0)))

pub chain::other_expressions-returns-in-None-clause-scope : goal.chain::other_expressions-returns-in-None-clause-scope
chain::other_expressions-returns-in-None-clause-scope t c = c.commas.invariant.scoped

pub chain::other_expressions-returns-clause-read : goal.chain::other_expressions-returns-clause-read
chain::other_expressions-returns-clause-read t c = done no_links comma (any_links (inner c.args.depth) 12) (map view c.commas.others.items) (length c.args.tokens.now) c.commas.counter c.commas.scope c.commas.rest.now _ c.commas.invariant.reads c.commas-test.false (links_zero (inner c.args.depth) 12 c.commas.scope c.commas.rest.now)

pub chain::other_expressions-returns-clause-scope : goal.chain::other_expressions-returns-clause-scope
chain::other_expressions-returns-clause-scope t c = c.commas.invariant.scoped

pub chain::targets-targets-init : goal.chain::targets-targets-init
chain::targets-targets-init t c = rw c.new-targets.ensures.items (record { reads = begun linked (left_links (inner c.args.depth) 11) (length c.args.tokens.now) (view c.args.first, c.args.scope.now) c.args.tokens.now; front_is = refl; scoped = refl })

pub chain::targets-targets-preserved : goal.chain::targets-targets-preserved
chain::targets-targets-preserved t c =
    rw c.in_ok-push-in-Some.ensures.items (record {
      reads = ap (λ (es : List (Joint × Expr)). behind linked es (left_links (inner c.args.depth) 11 (length c.args.tokens.now - (c.targets.counter + 1)) (view c.in_ok-next-in-Some.next, c.conditional.new.scope) c.in_ok-next-in-Some.after.now)) (shift_on view_target c.targets.targets.items c.target-one.result (view c.targets.last) (view c.in_ok-next-in-Some.next) (Assign c.in-Some.operator) c.target-one.ensures) ∙ on no_links linked (left_links (inner c.args.depth) 11) (shifted (map view_target c.targets.targets.items) (view c.targets.last)) (length c.args.tokens.now) c.targets.counter ((view c.targets.last), c.targets.scope) c.targets.rest.now _ c.targets.invariant.reads ((Assign c.in-Some.operator), (view c.in_ok-next-in-Some.next)) (view c.in_ok-next-in-Some.next, c.conditional.new.scope) c.in_ok-next-in-Some.after.now c.targets-test.true (target_next (inner c.args.depth) c.targets.scope _ c.targets.rest.now c.in-Some.behind.now c.in_ok-next-in-Some.after.now (view c.targets.last) c.in-Some.operator (view c.in_ok-next-in-Some.next) c.in-Some.ensures c.in_ok-next-in-Some.ensures.read c.in_ok-next-in-Some.ensures.scope);
      front_is = first_on view_target c.targets.targets.items c.target-one.result (view c.targets.last) (view c.in_ok-next-in-Some.next) (Assign c.in-Some.operator) c.target-one.ensures ∙ c.targets.invariant.front_is;
      scoped = shift_declares view_target c.targets.targets.items c.target-one.result (view c.targets.last) (view c.in_ok-next-in-Some.next) (Assign c.in-Some.operator) c.target-one.ensures c.args.scope.now c.targets.scope _ c.targets.invariant.scoped c.in_ok-next-in-Some.ensures.scope;
    })

pub chain::targets-returns-in_err-next-in-Some-clause-read : goal.chain::targets-returns-in_err-next-in-Some-clause-read
chain::targets-returns-in_err-next-in-Some-clause-read t c =
    let p = err_from_is_err_and c.from_residual.result c.from_residual.ensures.1 in
    rw (p.1, p.2) (fails no_links linked (left_links (inner c.args.depth) 11) (shifted (map view_target c.targets.targets.items) (view c.targets.last)) (length c.args.tokens.now) c.targets.counter ((view c.targets.last), c.targets.scope) c.targets.rest.now _ c.targets.invariant.reads c.in_err-next-in-Some.field-0.0 c.targets-test.true (target_fails (inner c.args.depth) c.targets.scope c.targets.rest.now c.in-Some.behind.now (view c.targets.last) c.in-Some.operator c.in_err-next-in-Some.field-0.0 c.in-Some.ensures c.in_err-next-in-Some.ensures.read))

pub chain::targets-returns-in-None-clause-read : goal.chain::targets-returns-in-None-clause-read
chain::targets-returns-in-None-clause-read t c = no_more_of no_links linked (left_links (inner c.args.depth) 11) (shifted (map view_target c.targets.targets.items) (view c.targets.last)) (length c.args.tokens.now) c.targets.counter ((view c.targets.last), c.targets.scope) c.targets.rest.now _ c.targets.invariant.reads c.targets-test.true (target_stops (inner c.args.depth) c.targets.scope c.targets.rest.now (view c.targets.last) c.in-None.ensures)

pub chain::targets-returns-in-None-clause-first : goal.chain::targets-returns-in-None-clause-first
chain::targets-returns-in-None-clause-first t c = c.targets.invariant.front_is

pub chain::targets-returns-in-None-clause-scope : goal.chain::targets-returns-in-None-clause-scope
chain::targets-returns-in-None-clause-scope t c = c.targets.invariant.scoped

pub chain::targets-returns-clause-read : goal.chain::targets-returns-clause-read
chain::targets-returns-clause-read t c = done no_links linked (left_links (inner c.args.depth) 11) (shifted (map view_target c.targets.targets.items) (view c.targets.last)) (length c.args.tokens.now) c.targets.counter ((view c.targets.last), c.targets.scope) c.targets.rest.now _ c.targets.invariant.reads c.targets-test.false (target_zero (inner c.args.depth) c.targets.scope c.targets.rest.now (view c.targets.last))

pub chain::targets-returns-clause-first : goal.chain::targets-returns-clause-first
chain::targets-returns-clause-first t c = c.targets.invariant.front_is

pub chain::targets-returns-clause-scope : goal.chain::targets-returns-clause-scope
chain::targets-returns-clause-scope t c = c.targets.invariant.scoped

pub declarator::function-returns-clause-scope : goal.declarator::function-returns-clause-scope
declarator::function-returns-clause-scope t c =
    c.end.ensures
    ∙ ap (λ (n : ℕ). take n c.parameters.new.scope) c.mark-mark.ensures
    ∙ ap (λ (s : Scope). take (length c.args.scope.now) s) c.in_ok-parameters.ensures.scope
    ∙ kept (view_parameters c.in_ok-parameters.parameters) c.args.scope.now
    ∙ ap (λ (x : Suffix). after_suffix x c.args.scope.now) (sym c.function-suffix.ensures)

pub declarator::other_parameters-parameters-init : goal.declarator::other_parameters-parameters-init
declarator::other_parameters-parameters-init t c = rw c.new-others.ensures.items (record { reads = begun param (more_at (inner c.args.depth)) (length c.args.tokens.now) c.args.scope.now c.args.tokens.now; scoped = refl })

pub declarator::other_parameters-parameters-preserved : goal.declarator::other_parameters-parameters-preserved
declarator::other_parameters-parameters-preserved t c =
    rw c.in_ok-push-in-Some.ensures.items (record {
      reads = goes_on no_more param (more_at (inner c.args.depth)) view_typed c.parameters.others.items (length c.args.tokens.now) c.parameters.counter c.parameters.scope c.parameters.rest.now _ c.parameters.invariant.reads c.in_ok-one-in-Some.one _ c.in_ok-one-in-Some.after.now c.parameters-test.true (more_next (inner c.args.depth) c.parameters.scope _ c.parameters.rest.now c.in-Some.behind.now c.in_ok-one-in-Some.after.now (view_typed c.in_ok-one-in-Some.one) c.in-Some.ensures c.in_ok-one-in-Some.ensures.read c.in_ok-one-in-Some.ensures.scope);
      scoped = declares no_more param after_more after_param (λ s. refl) (λ e l s. refl) view_typed c.parameters.others.items c.in_ok-one-in-Some.one c.args.scope.now c.parameters.scope _ c.parameters.invariant.scoped c.in_ok-one-in-Some.ensures.scope;
    })

pub declarator::other_parameters-returns-in_err-one-in-Some-clause-read : goal.declarator::other_parameters-returns-in_err-one-in-Some-clause-read
declarator::other_parameters-returns-in_err-one-in-Some-clause-read t c =
    let p = err_from_is_err_and c.from_residual.result c.from_residual.ensures.1 in
    rw (p.1, p.2) (fails no_more param (more_at (inner c.args.depth)) (map view_typed c.parameters.others.items) (length c.args.tokens.now) c.parameters.counter c.parameters.scope c.parameters.rest.now _ c.parameters.invariant.reads c.in_err-one-in-Some.field-0.0 c.parameters-test.true (more_fails (inner c.args.depth) c.parameters.scope c.parameters.rest.now c.in-Some.behind.now c.in_err-one-in-Some.field-0.0 c.in-Some.ensures c.in_err-one-in-Some.ensures.read))

pub declarator::other_parameters-returns-in-None-clause-read : goal.declarator::other_parameters-returns-in-None-clause-read
declarator::other_parameters-returns-in-None-clause-read t c = no_more_of no_more param (more_at (inner c.args.depth)) (map view_typed c.parameters.others.items) (length c.args.tokens.now) c.parameters.counter c.parameters.scope c.parameters.rest.now _ c.parameters.invariant.reads c.parameters-test.true (more_stops (inner c.args.depth) c.parameters.scope c.parameters.rest.now c.in-None.ensures)

pub declarator::other_parameters-returns-in-None-clause-scope : goal.declarator::other_parameters-returns-in-None-clause-scope
declarator::other_parameters-returns-in-None-clause-scope t c = c.parameters.invariant.scoped

pub declarator::other_parameters-returns-clause-read : goal.declarator::other_parameters-returns-clause-read
declarator::other_parameters-returns-clause-read t c = done no_more param (more_at (inner c.args.depth)) (map view_typed c.parameters.others.items) (length c.args.tokens.now) c.parameters.counter c.parameters.scope c.parameters.rest.now _ c.parameters.invariant.reads c.parameters-test.false (more_zero (inner c.args.depth) c.parameters.scope c.parameters.rest.now)

pub declarator::other_parameters-returns-clause-scope : goal.declarator::other_parameters-returns-clause-scope
declarator::other_parameters-returns-clause-scope t c = c.parameters.invariant.scoped

pub declarator::suffixes-suffixes-init : goal.declarator::suffixes-suffixes-init
declarator::suffixes-suffixes-init t c = rw c.new-suffixes.ensures.items (record { reads = begun suffix (suffixes_at (inner c.args.depth)) (length c.args.tokens.now) c.args.scope.now c.args.tokens.now; scoped = refl })

pub declarator::suffixes-suffixes-preserved : goal.declarator::suffixes-suffixes-preserved
declarator::suffixes-suffixes-preserved t c =
    rw c.in_ok-push.ensures.items (record {
      reads = goes_on no_suffixes suffix (suffixes_at (inner c.args.depth)) view_suffix c.suffixes.suffixes.items (length c.args.tokens.now) c.suffixes.counter c.suffixes.scope c.suffixes.rest.now _ c.suffixes.invariant.reads c.in_ok-one.one _ c.in_ok-one.after.now c.suffixes-test.true (suffixes_next (inner c.args.depth) c.suffixes.scope _ c.suffixes.rest.now c.in_ok-one.after.now (view_suffix c.in_ok-one.one) (sym c.begins_suffix.ensures ∙ c.if-not-begins_suffix.false) c.in_ok-one.ensures.read c.in_ok-one.ensures.scope);
      scoped = declares no_suffixes suffix after_suffixes after_suffix (λ s. refl) (λ e l s. refl) view_suffix c.suffixes.suffixes.items c.in_ok-one.one c.args.scope.now c.suffixes.scope _ c.suffixes.invariant.scoped c.in_ok-one.ensures.scope;
    })

pub declarator::suffixes-returns-in_err-one-clause-read : goal.declarator::suffixes-returns-in_err-one-clause-read
declarator::suffixes-returns-in_err-one-clause-read t c =
    let p = err_from_is_err_and c.from_residual.result c.from_residual.ensures.1 in
    rw (p.1, p.2) (fails no_suffixes suffix (suffixes_at (inner c.args.depth)) (map view_suffix c.suffixes.suffixes.items) (length c.args.tokens.now) c.suffixes.counter c.suffixes.scope c.suffixes.rest.now _ c.suffixes.invariant.reads c.in_err-one.field-0.0 c.suffixes-test.true (suffixes_fails (inner c.args.depth) c.suffixes.scope c.suffixes.rest.now c.in_err-one.field-0.0 (sym c.begins_suffix.ensures ∙ c.if-not-begins_suffix.false) c.in_err-one.ensures.read))

pub declarator::suffixes-returns-then-not-begins_suffix-clause-read : goal.declarator::suffixes-returns-then-not-begins_suffix-clause-read
declarator::suffixes-returns-then-not-begins_suffix-clause-read t c = no_more_of no_suffixes suffix (suffixes_at (inner c.args.depth)) (map view_suffix c.suffixes.suffixes.items) (length c.args.tokens.now) c.suffixes.counter c.suffixes.scope c.suffixes.rest.now _ c.suffixes.invariant.reads c.suffixes-test.true (suffixes_stops (inner c.args.depth) c.suffixes.scope c.suffixes.rest.now (sym c.begins_suffix.ensures ∙ c.if-not-begins_suffix.true))

pub declarator::suffixes-returns-then-not-begins_suffix-clause-scope : goal.declarator::suffixes-returns-then-not-begins_suffix-clause-scope
declarator::suffixes-returns-then-not-begins_suffix-clause-scope t c = c.suffixes.invariant.scoped

pub declarator::suffixes-returns-clause-read : goal.declarator::suffixes-returns-clause-read
declarator::suffixes-returns-clause-read t c = done no_suffixes suffix (suffixes_at (inner c.args.depth)) (map view_suffix c.suffixes.suffixes.items) (length c.args.tokens.now) c.suffixes.counter c.suffixes.scope c.suffixes.rest.now _ c.suffixes.invariant.reads c.suffixes-test.false (suffixes_zero (inner c.args.depth) c.suffixes.scope c.suffixes.rest.now)

pub declarator::suffixes-returns-clause-scope : goal.declarator::suffixes-returns-clause-scope
declarator::suffixes-returns-clause-scope t c = c.suffixes.invariant.scoped

pub operand::arguments-returns-in_err-arguments-clause-read : goal.operand::arguments-returns-in_err-arguments-clause-read
operand::arguments-returns-in_err-arguments-clause-read t c =
    let p = err_from_is_err_and c.from_residual.result c.from_residual.ensures.1 in
    rw (p.1, p.2) (arguments_fail (inner c.args.depth) c.args.scope.now c.args.tokens.now c.in_err-arguments.field-0.0 c.in_err-arguments.ensures.read)

pub operand::arguments-returns-in_err-rest-clause-read : goal.operand::arguments-returns-in_err-rest-clause-read
operand::arguments-returns-in_err-rest-clause-read t c =
    let p = err_from_is_err_and c.from_residual-in_err-rest.result c.from_residual-in_err-rest.ensures.1 in
    rw (p.1, p.2) (arguments_open (inner c.args.depth) c.args.scope.now c.args.tokens.now (call_of (map view c.in_ok-arguments.arguments.items)) c.in_ok-arguments.rest.now c.in_err-rest.field-0.0 c.in_ok-arguments.ensures.read c.in_err-rest.ensures)

pub operand::arguments-returns-clause-read : goal.operand::arguments-returns-clause-read
operand::arguments-returns-clause-read t c = arguments_go (inner c.args.depth) c.args.scope.now c.args.tokens.now (call_of (map view c.in_ok-arguments.arguments.items)) c.in_ok-arguments.rest.now c.in_ok-rest.rest.now c.in_ok-arguments.ensures.read c.in_ok-rest.ensures ∙ ap (λ (p : Post). Ok (p, c.in_ok-rest.rest.now)) (sym c.call-one.ensures)

pub operand::expressions-returns-in_err-first-clause-read : goal.operand::expressions-returns-in_err-first-clause-read
operand::expressions-returns-in_err-first-clause-read t c =
    let p = err_from_is_err_and c.from_residual.result c.from_residual.ensures.1 in
    rw (p.1, p.2) (called_fails (level_at (inner c.args.depth) 13 c.args.scope.now c.args.tokens.now) c.in_err-first.field-0.0 (level_fails_first (inner c.args.depth) 12 c.args.scope.now c.args.tokens.now c.in_err-first.field-0.0 c.in_err-first.ensures.read))

pub operand::expressions-returns-in_err-others-clause-read : goal.operand::expressions-returns-in_err-others-clause-read
operand::expressions-returns-in_err-others-clause-read t c =
    let p = err_from_is_err_and c.from_residual-in_err-others.result c.from_residual-in_err-others.ensures.1 in
    rw (p.1, p.2) (called_fails (level_at (inner c.args.depth) 13 c.args.scope.now c.args.tokens.now) c.in_err-others.field-0.0 (level_fails_any (inner c.args.depth) 12 c.args.scope.now _ c.args.tokens.now c.in_ok-first.rest.now (view c.in_ok-first.first) c.in_ok-first.ensures.read c.in_ok-first.ensures.scope (Name 0) c.in_err-others.field-0.0 not-eleven-12 c.in_err-others.ensures.read))

pub operand::expressions-returns-clause-read : goal.operand::expressions-returns-clause-read
operand::expressions-returns-clause-read t c = ap called (level_goes_any (inner c.args.depth) 12 c.args.scope.now _ c.args.tokens.now c.in_ok-first.rest.now (view c.in_ok-first.first) c.in_ok-first.ensures.read c.in_ok-first.ensures.scope (Name 0) (commas_of (map view c.in_ok-others.others.items)) (chain 12 (view c.in_ok-first.first) (commas_of (map view c.in_ok-others.others.items))) c.in_ok-others.rest.now not-eleven-12 c.in_ok-others.ensures.read refl) ∙ ap (λ (xs : List _). Ok (call_of (map view xs), c.in_ok-others.rest.now)) (sym c.in_ok-in_front.ensures)

pub operand::postfix-returns-clause-scope : goal.operand::postfix-returns-clause-scope
operand::postfix-returns-clause-scope t c = c.in_ok-operators.ensures.scope ∙ ap (after_posts (posts_of (map view_postfix c.in_ok-operators.operators.items))) c.in_ok-operand.ensures.scope ∙ sym (after-posts (view c.in_ok-operand.operand) (posts_of (map view_postfix c.in_ok-operators.operators.items)) c.args.scope.now) ∙ ap (λ (e : Expr). after e c.args.scope.now) (sym c.in_ok-postfix.ensures)

pub operand::postfix_operators-posts-init : goal.operand::postfix_operators-posts-init
operand::postfix_operators-posts-init t c = rw c.new-operators.ensures.items (record { reads = begun post (posts_at (inner c.args.depth)) (length c.args.tokens.now) c.args.scope.now c.args.tokens.now; scoped = refl })

pub operand::postfix_operators-posts-preserved : goal.operand::postfix_operators-posts-preserved
operand::postfix_operators-posts-preserved t c =
    rw c.in_ok-push.ensures.items (record {
      reads = goes_on no_posts post (posts_at (inner c.args.depth)) view_postfix c.posts.operators.items (length c.args.tokens.now) c.posts.counter c.posts.scope c.posts.rest.now _ c.posts.invariant.reads c.in_ok-operator.operator _ c.in_ok-operator.after.now c.posts-test.true (posts_next (inner c.args.depth) c.posts.scope _ c.posts.rest.now c.in_ok-operator.after.now (view_postfix c.in_ok-operator.operator) (sym c.begins_postfix.ensures ∙ c.if-not-begins_postfix.false) c.in_ok-operator.ensures.read c.in_ok-operator.ensures.scope);
      scoped = declares no_posts post after_posts after_post (λ s. refl) (λ e l s. refl) view_postfix c.posts.operators.items c.in_ok-operator.operator c.args.scope.now c.posts.scope _ c.posts.invariant.scoped c.in_ok-operator.ensures.scope;
    })

pub operand::postfix_operators-returns-in_err-operator-clause-read : goal.operand::postfix_operators-returns-in_err-operator-clause-read
operand::postfix_operators-returns-in_err-operator-clause-read t c =
    let p = err_from_is_err_and c.from_residual.result c.from_residual.ensures.1 in
    rw (p.1, p.2) (fails no_posts post (posts_at (inner c.args.depth)) (map view_postfix c.posts.operators.items) (length c.args.tokens.now) c.posts.counter c.posts.scope c.posts.rest.now _ c.posts.invariant.reads c.in_err-operator.field-0.0 c.posts-test.true (posts_fails (inner c.args.depth) c.posts.scope c.posts.rest.now c.in_err-operator.field-0.0 (sym c.begins_postfix.ensures ∙ c.if-not-begins_postfix.false) c.in_err-operator.ensures.read))

pub operand::postfix_operators-returns-then-not-begins_postfix-clause-read : goal.operand::postfix_operators-returns-then-not-begins_postfix-clause-read
operand::postfix_operators-returns-then-not-begins_postfix-clause-read t c = no_more_of no_posts post (posts_at (inner c.args.depth)) (map view_postfix c.posts.operators.items) (length c.args.tokens.now) c.posts.counter c.posts.scope c.posts.rest.now _ c.posts.invariant.reads c.posts-test.true (posts_stops (inner c.args.depth) c.posts.scope c.posts.rest.now (sym c.begins_postfix.ensures ∙ c.if-not-begins_postfix.true))

pub operand::postfix_operators-returns-then-not-begins_postfix-clause-scope : goal.operand::postfix_operators-returns-then-not-begins_postfix-clause-scope
operand::postfix_operators-returns-then-not-begins_postfix-clause-scope t c = c.posts.invariant.scoped

pub operand::postfix_operators-returns-clause-read : goal.operand::postfix_operators-returns-clause-read
operand::postfix_operators-returns-clause-read t c = done no_posts post (posts_at (inner c.args.depth)) (map view_postfix c.posts.operators.items) (length c.args.tokens.now) c.posts.counter c.posts.scope c.posts.rest.now _ c.posts.invariant.reads c.posts-test.false (posts_zero (inner c.args.depth) c.posts.scope c.posts.rest.now)

pub operand::postfix_operators-returns-clause-scope : goal.operand::postfix_operators-returns-clause-scope
operand::postfix_operators-returns-clause-scope t c = c.posts.invariant.scoped

pub specifier::members-members-init : goal.specifier::members-members-init
specifier::members-members-init t c = rw c.new-members.ensures.items (record { reads = begun members (members_at (inner c.args.depth)) (length c.args.tokens.now) c.args.scope.now c.args.tokens.now; scoped = refl })

pub specifier::members-members-preserved : goal.specifier::members-members-preserved
specifier::members-members-preserved t c =
    rw c.in_ok-push.ensures.items (record {
      reads = goes_on no_members members (members_at (inner c.args.depth)) view_members c.members.members.items (length c.args.tokens.now) c.members.counter c.members.scope c.members.rest.now _ c.members.invariant.reads c.in_ok-one.one _ c.in_ok-first.after.now c.members-test.true (members_next (inner c.args.depth) c.members.scope _ c.members.rest.now c.in_ok-first.after.now (view_typed c.in_ok-first.first) (decls_of (map view_declarator c.in_ok-first.others.items)) (view_members c.in_ok-one.one) (sym c.ends_braces.ensures ∙ c.if-ends_braces.false) c.in_ok-first.ensures.read c.in_ok-first.ensures.scope c.in_ok-one.ensures);
      scoped = declares no_members members after_members step_members (λ s. refl) after-members view_members c.members.members.items c.in_ok-one.one c.args.scope.now c.members.scope _ c.members.invariant.scoped (members_declare (view_members c.in_ok-one.one) (view_typed c.in_ok-first.first) (decls_of (map view_declarator c.in_ok-first.others.items)) c.members.scope _ c.in_ok-one.ensures c.in_ok-first.ensures.scope);
    })

pub specifier::members-returns-in_err-first-clause-read : goal.specifier::members-returns-in_err-first-clause-read
specifier::members-returns-in_err-first-clause-read t c =
    let p = err_from_is_err_and c.from_residual.result c.from_residual.ensures.1 in
    rw (p.1, p.2) (fails no_members members (members_at (inner c.args.depth)) (map view_members c.members.members.items) (length c.args.tokens.now) c.members.counter c.members.scope c.members.rest.now _ c.members.invariant.reads c.in_err-first.field-0.0 c.members-test.true (members_fails (inner c.args.depth) c.members.scope c.members.rest.now c.in_err-first.field-0.0 (sym c.ends_braces.ensures ∙ c.if-ends_braces.false) c.in_err-first.ensures.read))

pub specifier::members-returns-then-ends_braces-clause-read : goal.specifier::members-returns-then-ends_braces-clause-read
specifier::members-returns-then-ends_braces-clause-read t c = no_more_of no_members members (members_at (inner c.args.depth)) (map view_members c.members.members.items) (length c.args.tokens.now) c.members.counter c.members.scope c.members.rest.now _ c.members.invariant.reads c.members-test.true (members_stops (inner c.args.depth) c.members.scope c.members.rest.now (sym c.ends_braces.ensures ∙ c.if-ends_braces.true))

pub specifier::members-returns-then-ends_braces-clause-scope : goal.specifier::members-returns-then-ends_braces-clause-scope
specifier::members-returns-then-ends_braces-clause-scope t c = c.members.invariant.scoped

pub specifier::members-returns-clause-read : goal.specifier::members-returns-clause-read
specifier::members-returns-clause-read t c = done no_members members (members_at (inner c.args.depth)) (map view_members c.members.members.items) (length c.args.tokens.now) c.members.counter c.members.scope c.members.rest.now _ c.members.invariant.reads c.members-test.false (members_zero (inner c.args.depth) c.members.scope c.members.rest.now)

pub specifier::members-returns-clause-scope : goal.specifier::members-returns-clause-scope
specifier::members-returns-clause-scope t c = c.members.invariant.scoped

pub specifier::other_declarators-declarators-init : goal.specifier::other_declarators-declarators-init
specifier::other_declarators-declarators-init t c = rw c.new-others.ensures.items (record { reads = begun another (decls_at (inner c.args.depth)) (length c.args.tokens.now) c.args.scope.now c.args.tokens.now; scoped = refl })

pub specifier::other_declarators-declarators-preserved : goal.specifier::other_declarators-declarators-preserved
specifier::other_declarators-declarators-preserved t c =
    rw c.in_ok-push-in-Some.ensures.items (record {
      reads = goes_on no_decls another (decls_at (inner c.args.depth)) view_declarator c.declarators.others.items (length c.args.tokens.now) c.declarators.counter c.declarators.scope c.declarators.rest.now _ c.declarators.invariant.reads c.in_ok-one-in-Some.one _ c.in_ok-one-in-Some.after.now c.declarators-test.true (decls_next (inner c.args.depth) c.declarators.scope _ c.declarators.rest.now c.in-Some.behind.now c.in_ok-one-in-Some.after.now (view_declarator c.in_ok-one-in-Some.one) c.in-Some.ensures c.in_ok-one-in-Some.ensures.read c.in_ok-one-in-Some.ensures.scope);
      scoped = declares no_decls another after_decls after_decl (λ s. refl) (λ e l s. refl) view_declarator c.declarators.others.items c.in_ok-one-in-Some.one c.args.scope.now c.declarators.scope _ c.declarators.invariant.scoped c.in_ok-one-in-Some.ensures.scope;
    })

pub specifier::other_declarators-returns-in_err-one-in-Some-clause-read : goal.specifier::other_declarators-returns-in_err-one-in-Some-clause-read
specifier::other_declarators-returns-in_err-one-in-Some-clause-read t c =
    let p = err_from_is_err_and c.from_residual.result c.from_residual.ensures.1 in
    rw (p.1, p.2) (fails no_decls another (decls_at (inner c.args.depth)) (map view_declarator c.declarators.others.items) (length c.args.tokens.now) c.declarators.counter c.declarators.scope c.declarators.rest.now _ c.declarators.invariant.reads c.in_err-one-in-Some.field-0.0 c.declarators-test.true (decls_fails (inner c.args.depth) c.declarators.scope c.declarators.rest.now c.in-Some.behind.now c.in_err-one-in-Some.field-0.0 c.in-Some.ensures c.in_err-one-in-Some.ensures.read))

pub specifier::other_declarators-returns-in-None-clause-read : goal.specifier::other_declarators-returns-in-None-clause-read
specifier::other_declarators-returns-in-None-clause-read t c = no_more_of no_decls another (decls_at (inner c.args.depth)) (map view_declarator c.declarators.others.items) (length c.args.tokens.now) c.declarators.counter c.declarators.scope c.declarators.rest.now _ c.declarators.invariant.reads c.declarators-test.true (decls_stops (inner c.args.depth) c.declarators.scope c.declarators.rest.now c.in-None.ensures)

pub specifier::other_declarators-returns-in-None-clause-scope : goal.specifier::other_declarators-returns-in-None-clause-scope
specifier::other_declarators-returns-in-None-clause-scope t c = c.declarators.invariant.scoped

pub specifier::other_declarators-returns-clause-read : goal.specifier::other_declarators-returns-clause-read
specifier::other_declarators-returns-clause-read t c = done no_decls another (decls_at (inner c.args.depth)) (map view_declarator c.declarators.others.items) (length c.args.tokens.now) c.declarators.counter c.declarators.scope c.declarators.rest.now _ c.declarators.invariant.reads c.declarators-test.false (decls_zero (inner c.args.depth) c.declarators.scope c.declarators.rest.now)

pub specifier::other_declarators-returns-clause-scope : goal.specifier::other_declarators-returns-clause-scope
specifier::other_declarators-returns-clause-scope t c = c.declarators.invariant.scoped

pub specifier::other_enumerators-enumerators-init : goal.specifier::other_enumerators-enumerators-init
specifier::other_enumerators-enumerators-init t c = rw c.new-others.ensures.items (record { reads = begun item (items_at (inner c.args.depth)) (length c.args.tokens.now) c.args.scope.now c.args.tokens.now; scoped = refl })

pub specifier::other_enumerators-enumerators-preserved : goal.specifier::other_enumerators-enumerators-preserved
specifier::other_enumerators-enumerators-preserved t c =
    rw c.in_ok-push-in-Some.ensures.items (record {
      reads = goes_on no_items item (items_at (inner c.args.depth)) view_enumerator c.enumerators.others.items (length c.args.tokens.now) c.enumerators.counter c.enumerators.scope c.enumerators.rest.now _ c.enumerators.invariant.reads c.in_ok-one-in-Some.one _ c.in_ok-one-in-Some.after.now c.enumerators-test.true (items_next (inner c.args.depth) c.enumerators.scope _ c.enumerators.rest.now c.in-Some.behind.now c.in_ok-one-in-Some.after.now (view_enumerator c.in_ok-one-in-Some.one) c.in-Some.ensures c.in_ok-one-in-Some.ensures.read c.in_ok-one-in-Some.ensures.scope);
      scoped = declares no_items item after_items after_item (λ s. refl) (λ e l s. refl) view_enumerator c.enumerators.others.items c.in_ok-one-in-Some.one c.args.scope.now c.enumerators.scope _ c.enumerators.invariant.scoped c.in_ok-one-in-Some.ensures.scope;
    })

pub specifier::other_enumerators-returns-in_err-one-in-Some-clause-read : goal.specifier::other_enumerators-returns-in_err-one-in-Some-clause-read
specifier::other_enumerators-returns-in_err-one-in-Some-clause-read t c =
    let p = err_from_is_err_and c.from_residual.result c.from_residual.ensures.1 in
    rw (p.1, p.2) (fails no_items item (items_at (inner c.args.depth)) (map view_enumerator c.enumerators.others.items) (length c.args.tokens.now) c.enumerators.counter c.enumerators.scope c.enumerators.rest.now _ c.enumerators.invariant.reads c.in_err-one-in-Some.field-0.0 c.enumerators-test.true (items_fails (inner c.args.depth) c.enumerators.scope c.enumerators.rest.now c.in-Some.behind.now c.in_err-one-in-Some.field-0.0 c.in-Some.ensures c.in_err-one-in-Some.ensures.read))

pub specifier::other_enumerators-returns-in-None-clause-read : goal.specifier::other_enumerators-returns-in-None-clause-read
specifier::other_enumerators-returns-in-None-clause-read t c = no_more_of no_items item (items_at (inner c.args.depth)) (map view_enumerator c.enumerators.others.items) (length c.args.tokens.now) c.enumerators.counter c.enumerators.scope c.enumerators.rest.now _ c.enumerators.invariant.reads c.enumerators-test.true (items_stops (inner c.args.depth) c.enumerators.scope c.enumerators.rest.now c.in-None.ensures)

pub specifier::other_enumerators-returns-in-None-clause-scope : goal.specifier::other_enumerators-returns-in-None-clause-scope
specifier::other_enumerators-returns-in-None-clause-scope t c = c.enumerators.invariant.scoped

pub specifier::other_enumerators-returns-clause-read : goal.specifier::other_enumerators-returns-clause-read
specifier::other_enumerators-returns-clause-read t c = done no_items item (items_at (inner c.args.depth)) (map view_enumerator c.enumerators.others.items) (length c.args.tokens.now) c.enumerators.counter c.enumerators.scope c.enumerators.rest.now _ c.enumerators.invariant.reads c.enumerators-test.false (items_zero (inner c.args.depth) c.enumerators.scope c.enumerators.rest.now)

pub specifier::other_enumerators-returns-clause-scope : goal.specifier::other_enumerators-returns-clause-scope
specifier::other_enumerators-returns-clause-scope t c = c.enumerators.invariant.scoped

pub specifier::specifiers-specifiers-init : goal.specifier::specifiers-specifiers-init
specifier::specifiers-specifiers-init t c = rw c.new-specifiers.ensures.items (record { reads = begun spec (based_specs (inner c.args.depth)) (length c.args.tokens.now) (false, c.args.scope.now) c.args.tokens.now ∙ specs_begun (inner c.args.depth) c.args.scope.now c.args.tokens.now (sym c.starts_type.ensures ∙ c.if-not-starts_type.false); scoped = refl })

pub specifier::specifiers-specifiers-preserved : goal.specifier::specifiers-specifiers-preserved
specifier::specifiers-specifiers-preserved t c =
    rw c.in_ok-push.ensures.items (record {
      reads = goes_on no_specs spec (based_specs (inner c.args.depth)) view_specifier c.specifiers.specifiers.items (length c.args.tokens.now) c.specifiers.counter (c.specifiers.based, c.specifiers.scope) c.specifiers.rest.now _ c.specifiers.invariant.reads c.in_ok-one.one (c.is_based-based.result, c.specifier.new.scope) c.in_ok-one.after.now c.specifiers-test.true (specs_next (inner c.args.depth) c.specifiers.based c.is_based-based.result c.specifiers.scope _ c.specifiers.rest.now c.in_ok-one.after.now (view_specifier c.in_ok-one.one) (sym c.begins_specifier.ensures ∙ c.if-not-begins_specifier.false) c.in_ok-one.ensures.read c.is_based-based.ensures c.in_ok-one.ensures.scope);
      scoped = declares no_specs spec after_specs after_spec (λ s. refl) (λ e l s. refl) view_specifier c.specifiers.specifiers.items c.in_ok-one.one c.args.scope.now c.specifiers.scope _ c.specifiers.invariant.scoped c.in_ok-one.ensures.scope;
    })

pub specifier::specifiers-returns-in_err-one-clause-read : goal.specifier::specifiers-returns-in_err-one-clause-read
specifier::specifiers-returns-in_err-one-clause-read t c =
    let p = err_from_is_err_and c.from_residual.result c.from_residual.ensures.1 in
    rw (p.1, p.2) (fails no_specs spec (based_specs (inner c.args.depth)) (map view_specifier c.specifiers.specifiers.items) (length c.args.tokens.now) c.specifiers.counter (c.specifiers.based, c.specifiers.scope) c.specifiers.rest.now _ c.specifiers.invariant.reads c.in_err-one.field-0.0 c.specifiers-test.true (specs_fails (inner c.args.depth) c.specifiers.based c.specifiers.scope c.specifiers.rest.now c.in_err-one.field-0.0 (sym c.begins_specifier.ensures ∙ c.if-not-begins_specifier.false) c.in_err-one.ensures.read))

pub specifier::specifiers-returns-then-not-begins_specifier-clause-read : goal.specifier::specifiers-returns-then-not-begins_specifier-clause-read
specifier::specifiers-returns-then-not-begins_specifier-clause-read t c = no_more_of no_specs spec (based_specs (inner c.args.depth)) (map view_specifier c.specifiers.specifiers.items) (length c.args.tokens.now) c.specifiers.counter (c.specifiers.based, c.specifiers.scope) c.specifiers.rest.now _ c.specifiers.invariant.reads c.specifiers-test.true (specs_stops (inner c.args.depth) c.specifiers.based c.specifiers.scope c.specifiers.rest.now (sym c.begins_specifier.ensures ∙ c.if-not-begins_specifier.true))

pub specifier::specifiers-returns-then-not-begins_specifier-clause-scope : goal.specifier::specifiers-returns-then-not-begins_specifier-clause-scope
specifier::specifiers-returns-then-not-begins_specifier-clause-scope t c = c.specifiers.invariant.scoped

pub specifier::specifiers-returns-clause-read : goal.specifier::specifiers-returns-clause-read
specifier::specifiers-returns-clause-read t c = done no_specs spec (based_specs (inner c.args.depth)) (map view_specifier c.specifiers.specifiers.items) (length c.args.tokens.now) c.specifiers.counter (c.specifiers.based, c.specifiers.scope) c.specifiers.rest.now _ c.specifiers.invariant.reads c.specifiers-test.false (specs_zero (inner c.args.depth) c.specifiers.based c.specifiers.scope c.specifiers.rest.now)

pub specifier::specifiers-returns-clause-scope : goal.specifier::specifiers-returns-clause-scope
specifier::specifiers-returns-clause-scope t c = c.specifiers.invariant.scoped
