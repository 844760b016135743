use Rattle.std.proofs.Common.{◌≡◌, drop, map}
use Rattle.c_grammar.specs.Grammar.{after_links, after_posts, after_items, after_members, after_specs, after_suffixes, after_decls}
use Rattle.c_expression_read.specs.Views.{view, view_link, view_choice, view_target, view_postfix, view_enumerator, view_members, view_specifier, view_suffix, view_declarator, links_of, posts_of, items_of, members_of, specs_of, suffixes_of, decls_of}
use Rattle.c_redeclare.specs.Again.{after_each, after_fronts}
use Rattle.c_redeclare.proofs.+again.Given as goal

abbrev pub invariant-expression::links-links : goal.invariant-expression::links-links
invariant-expression::links-links l = after_links (links_of (map view_link (drop l.one-index l.links))) l.scope ≡ after_links (links_of (map view_link l.links)) l.fn.scope

abbrev pub invariant-expression::choices-choices : goal.invariant-expression::choices-choices
invariant-expression::choices-choices l = after_fronts (map view_choice (drop l.one-index l.choices)) l.scope ≡ after_fronts (map view_choice l.choices) l.fn.scope

abbrev pub invariant-expression::targets-targets : goal.invariant-expression::targets-targets
invariant-expression::targets-targets l = after_fronts (map view_target (drop l.one-index l.targets)) l.scope ≡ after_fronts (map view_target l.targets) l.fn.scope

abbrev pub invariant-expression::expressions-expressions : goal.invariant-expression::expressions-expressions
invariant-expression::expressions-expressions l = after_each (map view (drop l.one-index l.all)) l.scope ≡ after_each (map view l.all) l.fn.scope

abbrev pub invariant-expression::postfixes-postfixes : goal.invariant-expression::postfixes-postfixes
invariant-expression::postfixes-postfixes l = after_posts (posts_of (map view_postfix (drop l.one-index l.all))) l.scope ≡ after_posts (posts_of (map view_postfix l.all)) l.fn.scope

abbrev pub invariant-specifier::enumerators-enumerators : goal.invariant-specifier::enumerators-enumerators
invariant-specifier::enumerators-enumerators l = after_items (items_of (map view_enumerator (drop l.one-index l.all))) l.scope ≡ after_items (items_of (map view_enumerator l.all)) l.fn.scope

abbrev pub invariant-specifier::members-members : goal.invariant-specifier::members-members
invariant-specifier::members-members l = after_members (members_of (map view_members (drop l.one-index l.all))) l.scope ≡ after_members (members_of (map view_members l.all)) l.fn.scope

abbrev pub invariant-specifier::specifiers-specifiers : goal.invariant-specifier::specifiers-specifiers
invariant-specifier::specifiers-specifiers l = after_specs (specs_of (map view_specifier (drop l.one-index l.all))) l.scope ≡ after_specs (specs_of (map view_specifier l.all)) l.fn.scope

abbrev pub invariant-declarator::suffixes-suffixes : goal.invariant-declarator::suffixes-suffixes
invariant-declarator::suffixes-suffixes l = after_suffixes (suffixes_of (map view_suffix (drop l.one-index l.all))) l.scope ≡ after_suffixes (suffixes_of (map view_suffix l.all)) l.fn.scope

abbrev pub invariant-declarator::declarators-declarators : goal.invariant-declarator::declarators-declarators
invariant-declarator::declarators-declarators l = after_decls (decls_of (map view_declarator (drop l.one-index l.all))) l.scope ≡ after_decls (decls_of (map view_declarator l.all)) l.fn.scope
