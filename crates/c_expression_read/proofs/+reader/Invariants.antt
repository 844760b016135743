use Rattle.std.proofs.Common.{◌+◌, ◌*◌, ◌≡◌, ◌-◌, length, map, false}
use Rattle.c_tree.specs.Heights.{rank}
use Rattle.c_grammar.specs.Grammar.{after_links, param, after_more, suffix, after_suffixes, post, after_posts, after_members, another, after_decls, item, after_items, spec, after_specs}
use Rattle.c_grammar.specs.Reading.{inner, more_at, suffixes_at, posts_at, members_at, decls_at, items_at, specs_at, specifiers_at}
use Rattle.c_expression_read.specs.Gives.{behind}
use Rattle.c_expression_read.specs.Views.{view, view_choice, linked, links_of, first_of, shifted, view_link, commas_of, comma, view_target, view_typed, more_of, view_suffix, suffixes_of, view_postfix, posts_of, view_members, members_of, members, view_declarator, decls_of, view_enumerator, items_of, view_specifier, specs_of}
use Rattle.c_expression_read.proofs.Loops.{ReadsFrom, Reads}
use Rattle.c_expression_read.proofs.Turns.{any_links, left_links, based_specs}
use Rattle.c_expression_read.proofs.+reader.Given as goal

abbrev pub decreases-chain::chosen_value : goal.decreases-chain::chosen_value
decreases-chain::chosen_value l = 128 * l.depth + 1

abbrev pub decreases-operand::nested_expression : goal.decreases-operand::nested_expression
decreases-operand::nested_expression l = 128 * l.depth

abbrev pub decreases-operand::nested_constant : goal.decreases-operand::nested_constant
decreases-operand::nested_constant l = 128 * l.depth

abbrev pub decreases-operand::nested_operand : goal.decreases-operand::nested_operand
decreases-operand::nested_operand l = 128 * l.depth

abbrev pub decreases-operand::parenthesized : goal.decreases-operand::parenthesized
decreases-operand::parenthesized l = 128 * l.depth + 1

abbrev pub decreases-operand::primary : goal.decreases-operand::primary
decreases-operand::primary l = 128 * l.depth + 2

abbrev pub decreases-operand::index : goal.decreases-operand::index
decreases-operand::index l = 128 * l.depth + 1

abbrev pub decreases-operand::nested_expressions : goal.decreases-operand::nested_expressions
decreases-operand::nested_expressions l = 128 * l.depth

abbrev pub decreases-operand::arguments : goal.decreases-operand::arguments
decreases-operand::arguments l = 128 * l.depth + 1

abbrev pub decreases-operand::call : goal.decreases-operand::call
decreases-operand::call l = 128 * l.depth + 2

abbrev pub decreases-operand::postfix_operator : goal.decreases-operand::postfix_operator
decreases-operand::postfix_operator l = 128 * l.depth + 3

abbrev pub decreases-operand::postfix_operators : goal.decreases-operand::postfix_operators
decreases-operand::postfix_operators l = 128 * l.depth + 4

abbrev pub decreases-operand::postfix : goal.decreases-operand::postfix
decreases-operand::postfix l = 128 * l.depth + 5

abbrev pub decreases-operand::prefix : goal.decreases-operand::prefix
decreases-operand::prefix l = 128 * l.depth + 1

abbrev pub decreases-operand::conversion : goal.decreases-operand::conversion
decreases-operand::conversion l = 128 * l.depth + 1

abbrev pub decreases-operand::size_of_expression : goal.decreases-operand::size_of_expression
decreases-operand::size_of_expression l = 128 * l.depth + 1

abbrev pub decreases-operand::size_of_type : goal.decreases-operand::size_of_type
decreases-operand::size_of_type l = 128 * l.depth + 1

abbrev pub decreases-operand::size : goal.decreases-operand::size
decreases-operand::size l = 128 * l.depth + 2

abbrev pub decreases-operand::cast : goal.decreases-operand::cast
decreases-operand::cast l = 128 * l.depth + 6

abbrev pub decreases-declarator::nested_declarator : goal.decreases-declarator::nested_declarator
decreases-declarator::nested_declarator l = 128 * l.depth

abbrev pub decreases-declarator::nested_typed : goal.decreases-declarator::nested_typed
decreases-declarator::nested_typed l = 128 * l.depth

abbrev pub decreases-chain::operand : goal.decreases-chain::operand
decreases-chain::operand l = 128 * l.depth + 7 + 3 * rank l.height

abbrev pub decreases-chain::links : goal.decreases-chain::links
decreases-chain::links l = 128 * l.depth + 8 + 3 * rank l.height

abbrev pub decreases-chain::binary : goal.decreases-chain::binary
decreases-chain::binary l = 128 * l.depth + 9 + 3 * rank l.height

abbrev pub decreases-chain::choices : goal.decreases-chain::choices
decreases-chain::choices l = 128 * l.depth + 37

abbrev pub decreases-chain::conditional : goal.decreases-chain::conditional
decreases-chain::conditional l = 128 * l.depth + 38

abbrev pub decreases-chain::targets : goal.decreases-chain::targets
decreases-chain::targets l = 128 * l.depth + 39

abbrev pub decreases-chain::assignment : goal.decreases-chain::assignment
decreases-chain::assignment l = 128 * l.depth + 40

abbrev pub decreases-chain::other_expressions : goal.decreases-chain::other_expressions
decreases-chain::other_expressions l = 128 * l.depth + 41

abbrev pub decreases-chain::expression : goal.decreases-chain::expression
decreases-chain::expression l = 128 * l.depth + 42

abbrev pub decreases-operand::expressions : goal.decreases-operand::expressions
decreases-operand::expressions l = 128 * l.depth + 42

abbrev pub decreases-specifier::other_declarators : goal.decreases-specifier::other_declarators
decreases-specifier::other_declarators l = 128 * l.depth + 1

abbrev pub decreases-specifier::member_declaration : goal.decreases-specifier::member_declaration
decreases-specifier::member_declaration l = 128 * l.depth + 2

abbrev pub decreases-specifier::members : goal.decreases-specifier::members
decreases-specifier::members l = 128 * l.depth + 3

abbrev pub decreases-specifier::struct_body : goal.decreases-specifier::struct_body
decreases-specifier::struct_body l = 128 * l.depth + 4

abbrev pub decreases-specifier::structure : goal.decreases-specifier::structure
decreases-specifier::structure l = 128 * l.depth + 5

abbrev pub decreases-specifier::enumerator_value : goal.decreases-specifier::enumerator_value
decreases-specifier::enumerator_value l = 128 * l.depth + 1

abbrev pub decreases-specifier::enumerator : goal.decreases-specifier::enumerator
decreases-specifier::enumerator l = 128 * l.depth + 2

abbrev pub decreases-specifier::other_enumerators : goal.decreases-specifier::other_enumerators
decreases-specifier::other_enumerators l = 128 * l.depth + 3

abbrev pub decreases-specifier::enum_body : goal.decreases-specifier::enum_body
decreases-specifier::enum_body l = 128 * l.depth + 4

abbrev pub decreases-specifier::enumeration : goal.decreases-specifier::enumeration
decreases-specifier::enumeration l = 128 * l.depth + 5

abbrev pub decreases-specifier::specifier : goal.decreases-specifier::specifier
decreases-specifier::specifier l = 128 * l.depth + 6

abbrev pub decreases-specifier::specifiers : goal.decreases-specifier::specifiers
decreases-specifier::specifiers l = 128 * l.depth + 7

abbrev pub decreases-declarator::group : goal.decreases-declarator::group
decreases-declarator::group l = 128 * l.depth + 1

abbrev pub decreases-declarator::core : goal.decreases-declarator::core
decreases-declarator::core l = 128 * l.depth + 2

abbrev pub decreases-declarator::parameter : goal.decreases-declarator::parameter
decreases-declarator::parameter l = 128 * l.depth + 1

abbrev pub decreases-declarator::other_parameters : goal.decreases-declarator::other_parameters
decreases-declarator::other_parameters l = 128 * l.depth + 2

abbrev pub decreases-declarator::parameter_list : goal.decreases-declarator::parameter_list
decreases-declarator::parameter_list l = 128 * l.depth + 3

abbrev pub decreases-declarator::parameters : goal.decreases-declarator::parameters
decreases-declarator::parameters l = 128 * l.depth + 4

abbrev pub decreases-declarator::function : goal.decreases-declarator::function
decreases-declarator::function l = 128 * l.depth + 5

abbrev pub decreases-declarator::bound : goal.decreases-declarator::bound
decreases-declarator::bound l = 128 * l.depth + 1

abbrev pub decreases-declarator::array : goal.decreases-declarator::array
decreases-declarator::array l = 128 * l.depth + 2

abbrev pub decreases-declarator::suffix : goal.decreases-declarator::suffix
decreases-declarator::suffix l = 128 * l.depth + 6

abbrev pub decreases-declarator::suffixes : goal.decreases-declarator::suffixes
decreases-declarator::suffixes l = 128 * l.depth + 7

abbrev pub decreases-declarator::declarator : goal.decreases-declarator::declarator
decreases-declarator::declarator l = 128 * l.depth + 8

abbrev pub decreases-declarator::typed : goal.decreases-declarator::typed
decreases-declarator::typed l = 128 * l.depth + 9

abbrev pub invariant-chain::choices-choices : goal.invariant-chain::choices-choices
invariant-chain::choices-choices l = ReadsFrom (behind linked (shifted (map view_choice l.choices.items) (view l.last)) (any_links (inner l.depth) 10 (length l.tokens - l.counter) l.scope l.rest)) (any_links (inner l.depth) 10 (length l.tokens) l.fn.scope l.tokens) (first_of (map view_choice l.choices.items) (view l.last)) (view l.fn.first) l.scope (after_links (links_of (shifted (map view_choice l.choices.items) (view l.last))) l.fn.scope)

abbrev pub invariant-chain::links-links : goal.invariant-chain::links-links
invariant-chain::links-links l = Reads (behind linked (map view_link l.links.items) (any_links (inner l.depth) (rank l.height) (length l.tokens - l.counter) l.scope l.rest)) (any_links (inner l.depth) (rank l.height) (length l.tokens) l.fn.scope l.tokens) l.scope (after_links (links_of (map view_link l.links.items)) l.fn.scope)

abbrev pub invariant-chain::other_expressions-commas : goal.invariant-chain::other_expressions-commas
invariant-chain::other_expressions-commas l = Reads (behind comma (map view l.others.items) (any_links (inner l.depth) 12 (length l.tokens - l.counter) l.scope l.rest)) (any_links (inner l.depth) 12 (length l.tokens) l.fn.scope l.tokens) l.scope (after_links (commas_of (map view l.others.items)) l.fn.scope)

abbrev pub invariant-chain::targets-targets : goal.invariant-chain::targets-targets
invariant-chain::targets-targets l = ReadsFrom (behind linked (shifted (map view_target l.targets.items) (view l.last)) (left_links (inner l.depth) 11 (length l.tokens - l.counter) (view l.last, l.scope) l.rest)) (left_links (inner l.depth) 11 (length l.tokens) (view l.fn.first, l.fn.scope) l.tokens) (first_of (map view_target l.targets.items) (view l.last)) (view l.fn.first) l.scope (after_links (links_of (shifted (map view_target l.targets.items) (view l.last))) l.fn.scope)

abbrev pub invariant-declarator::other_parameters-parameters : goal.invariant-declarator::other_parameters-parameters
invariant-declarator::other_parameters-parameters l = Reads (behind param (map view_typed l.others.items) (more_at (inner l.depth) (length l.tokens - l.counter) l.scope l.rest)) (more_at (inner l.depth) (length l.tokens) l.fn.scope l.tokens) l.scope (after_more (more_of (map view_typed l.others.items)) l.fn.scope)

abbrev pub invariant-declarator::suffixes-suffixes : goal.invariant-declarator::suffixes-suffixes
invariant-declarator::suffixes-suffixes l = Reads (behind suffix (map view_suffix l.suffixes.items) (suffixes_at (inner l.depth) (length l.tokens - l.counter) l.scope l.rest)) (suffixes_at (inner l.depth) (length l.tokens) l.fn.scope l.tokens) l.scope (after_suffixes (suffixes_of (map view_suffix l.suffixes.items)) l.fn.scope)

abbrev pub invariant-operand::postfix_operators-posts : goal.invariant-operand::postfix_operators-posts
invariant-operand::postfix_operators-posts l = Reads (behind post (map view_postfix l.operators.items) (posts_at (inner l.depth) (length l.tokens - l.counter) l.scope l.rest)) (posts_at (inner l.depth) (length l.tokens) l.fn.scope l.tokens) l.scope (after_posts (posts_of (map view_postfix l.operators.items)) l.fn.scope)

abbrev pub invariant-specifier::members-members : goal.invariant-specifier::members-members
invariant-specifier::members-members l = Reads (behind members (map view_members l.members.items) (members_at (inner l.depth) (length l.tokens - l.counter) l.scope l.rest)) (members_at (inner l.depth) (length l.tokens) l.fn.scope l.tokens) l.scope (after_members (members_of (map view_members l.members.items)) l.fn.scope)

abbrev pub invariant-specifier::other_declarators-declarators : goal.invariant-specifier::other_declarators-declarators
invariant-specifier::other_declarators-declarators l = Reads (behind another (map view_declarator l.others.items) (decls_at (inner l.depth) (length l.tokens - l.counter) l.scope l.rest)) (decls_at (inner l.depth) (length l.tokens) l.fn.scope l.tokens) l.scope (after_decls (decls_of (map view_declarator l.others.items)) l.fn.scope)

abbrev pub invariant-specifier::other_enumerators-enumerators : goal.invariant-specifier::other_enumerators-enumerators
invariant-specifier::other_enumerators-enumerators l = Reads (behind item (map view_enumerator l.others.items) (items_at (inner l.depth) (length l.tokens - l.counter) l.scope l.rest)) (items_at (inner l.depth) (length l.tokens) l.fn.scope l.tokens) l.scope (after_items (items_of (map view_enumerator l.others.items)) l.fn.scope)

abbrev pub invariant-specifier::specifiers-specifiers : goal.invariant-specifier::specifiers-specifiers
invariant-specifier::specifiers-specifiers l = Reads (behind spec (map view_specifier l.specifiers.items) (based_specs (inner l.depth) (length l.tokens - l.counter) (l.based, l.scope) l.rest)) (specifiers_at (inner l.depth) l.fn.scope l.tokens) l.scope (after_specs (specs_of (map view_specifier l.specifiers.items)) l.fn.scope)
