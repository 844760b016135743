use Rattle.std.proofs.Common.{◌≡◌, [], ◌∷◌, length, map, ◌+◌, ◌-◌, ◌*◌, true, false}
use Rattle.f_grammar.specs.Grammar.{arg, part, more}
use Rattle.f_grammar.specs.Reading.{expr_at, primary_at, level_at, links_at, most_links, others_at, parts_at, mores_at}
use Rattle.f_expr_read.specs.Gives.{behind}
use Rattle.f_expr_read.specs.Views.{tokens_of, view, view_link, view_argument, view_part, view_parameter, linked, item}
use Rattle.f_expr_read.proofs.+reader.Given as goal

abbrev pub decreases-reader::expression : goal.decreases-reader::expression
decreases-reader::expression l = 64 * l.depth

abbrev pub decreases-reader::upper : goal.decreases-reader::upper
decreases-reader::upper l = 64 * l.depth + 1

abbrev pub decreases-reader::lower : goal.decreases-reader::lower
decreases-reader::lower l = 64 * l.depth + 1

abbrev pub decreases-reader::stride : goal.decreases-reader::stride
decreases-reader::stride l = 64 * l.depth + 1

abbrev pub decreases-reader::parentheses : goal.decreases-reader::parentheses
decreases-reader::parentheses l = 64 * l.depth + 1

abbrev pub decreases-types::kind_behind : goal.decreases-types::kind_behind
decreases-types::kind_behind l = 64 * l.depth + 1

abbrev pub decreases-types::length : goal.decreases-types::length
decreases-types::length l = 64 * l.depth + 1

abbrev pub decreases-types::kind_parameter : goal.decreases-types::kind_parameter
decreases-types::kind_parameter l = 64 * l.depth + 1

abbrev pub decreases-reader::substring_range : goal.decreases-reader::substring_range
decreases-reader::substring_range l = 64 * l.depth + 2

abbrev pub decreases-reader::substring : goal.decreases-reader::substring
decreases-reader::substring l = 64 * l.depth + 3

abbrev pub decreases-reader::triplet : goal.decreases-reader::triplet
decreases-reader::triplet l = 64 * l.depth + 2

abbrev pub decreases-reader::behind_lower : goal.decreases-reader::behind_lower
decreases-reader::behind_lower l = 64 * l.depth + 3

abbrev pub decreases-reader::subscript : goal.decreases-reader::subscript
decreases-reader::subscript l = 64 * l.depth + 4

abbrev pub decreases-reader::argument : goal.decreases-reader::argument
decreases-reader::argument l = 64 * l.depth + 5

abbrev pub decreases-reader::more_arguments : goal.decreases-reader::more_arguments
decreases-reader::more_arguments l = 64 * l.depth + 6

abbrev pub decreases-reader::arguments : goal.decreases-reader::arguments
decreases-reader::arguments l = 64 * l.depth + 7

abbrev pub decreases-reader::more_items : goal.decreases-reader::more_items
decreases-reader::more_items l = 64 * l.depth + 1

abbrev pub decreases-reader::item_list : goal.decreases-reader::item_list
decreases-reader::item_list l = 64 * l.depth + 2

abbrev pub decreases-types::kind_value : goal.decreases-types::kind_value
decreases-types::kind_value l = 64 * l.depth + 2

abbrev pub decreases-types::selector : goal.decreases-types::selector
decreases-types::selector l = 64 * l.depth + 3

abbrev pub decreases-types::integer : goal.decreases-types::integer
decreases-types::integer l = 64 * l.depth + 4

abbrev pub decreases-types::logical : goal.decreases-types::logical
decreases-types::logical l = 64 * l.depth + 4

abbrev pub decreases-types::bare_parameter : goal.decreases-types::bare_parameter
decreases-types::bare_parameter l = 64 * l.depth + 2

abbrev pub decreases-types::parameter : goal.decreases-types::parameter
decreases-types::parameter l = 64 * l.depth + 3

abbrev pub decreases-types::more_parameters : goal.decreases-types::more_parameters
decreases-types::more_parameters l = 64 * l.depth + 4

abbrev pub decreases-types::parameters : goal.decreases-types::parameters
decreases-types::parameters l = 64 * l.depth + 5

abbrev pub decreases-types::character : goal.decreases-types::character
decreases-types::character l = 64 * l.depth + 6

abbrev pub decreases-types::type_behind : goal.decreases-types::type_behind
decreases-types::type_behind l = 64 * l.depth + 7

abbrev pub decreases-types::type_spec : goal.decreases-types::type_spec
decreases-types::type_spec l = 64 * l.depth + 8

abbrev pub decreases-reader::plain_items : goal.decreases-reader::plain_items
decreases-reader::plain_items l = 64 * l.depth + 9

abbrev pub decreases-reader::typed_items : goal.decreases-reader::typed_items
decreases-reader::typed_items l = 64 * l.depth + 9

abbrev pub decreases-reader::items : goal.decreases-reader::items
decreases-reader::items l = 64 * l.depth + 10

abbrev pub decreases-reader::behind_part : goal.decreases-reader::behind_part
decreases-reader::behind_part l = 64 * l.depth + 8

abbrev pub decreases-reader::part : goal.decreases-reader::part
decreases-reader::part l = 64 * l.depth + 9

abbrev pub decreases-reader::more_parts : goal.decreases-reader::more_parts
decreases-reader::more_parts l = 64 * l.depth + 10

abbrev pub decreases-reader::reference : goal.decreases-reader::reference
decreases-reader::reference l = 64 * l.depth + 11

abbrev pub decreases-reader::primary : goal.decreases-reader::primary
decreases-reader::primary l = 64 * l.depth + 12

abbrev pub decreases-reader::level : goal.decreases-reader::level
decreases-reader::level l = 64 * l.depth + 13 + 2 * l.height

abbrev pub decreases-reader::links : goal.decreases-reader::links
decreases-reader::links l = 64 * l.depth + 14 + 2 * l.height

abbrev pub invariant-reader::links-loop : goal.invariant-reader::links-loop
invariant-reader::links-loop l =
    behind linked (map view_link l.links.items) (links_at (level_at (primary_at (expr_at l.depth)) l.height) l.height (l.most - l.counter) (tokens_of l.rest))
    ≡ links_at (level_at (primary_at (expr_at l.depth)) l.height) l.height (most_links l.height (tokens_of l.tokens)) (tokens_of l.tokens)

abbrev pub invariant-reader::more_items-loop : goal.invariant-reader::more_items-loop
invariant-reader::more_items-loop l = behind item (map view l.items.items) (others_at (expr_at l.depth) false (l.end - l.counter) (tokens_of l.rest)) ≡ behind item (view l.fn.first ∷ []) (others_at (expr_at l.depth) false (length l.tokens) (tokens_of l.tokens))

abbrev pub invariant-reader::more_arguments-loop : goal.invariant-reader::more_arguments-loop
invariant-reader::more_arguments-loop l = behind arg (map view_argument l.items.items) (others_at (expr_at l.depth) true (l.end - l.counter) (tokens_of l.rest)) ≡ behind arg (view_argument l.fn.first ∷ []) (others_at (expr_at l.depth) true (length l.tokens) (tokens_of l.tokens))

abbrev pub invariant-reader::more_parts-loop : goal.invariant-reader::more_parts-loop
invariant-reader::more_parts-loop l = behind part (map view_part l.items.items) (parts_at (expr_at l.depth) (l.end - l.counter) (tokens_of l.rest)) ≡ parts_at (expr_at l.depth) (length l.tokens) (tokens_of l.tokens)

abbrev pub invariant-types::more_parameters-loop : goal.invariant-types::more_parameters-loop
invariant-types::more_parameters-loop l = behind more (map view_parameter l.items.items) (mores_at (expr_at l.depth) (l.end - l.counter) (tokens_of l.rest)) ≡ behind more (view_parameter l.fn.first ∷ []) (mores_at (expr_at l.depth) (length l.tokens) (tokens_of l.tokens))
