-- What stands in front of the next statement of an execution part, and where statements have a place in one (ISO/IEC 1539-1:2018, 5.1 and 11.1).
use Rattle.std.specs.Prelude.{List, [], ◌∷◌, Option, Some, None}
use Rattle.f_line_grammar.specs.Lines.{Line}
use Rattle.f_statement_grammar.specs.Statements.{Executable}
use Rattle.f_unit_grammar.specs.Units.{State, File, InSelectCase, InSelectRank, Role, stays, enters, leaves, none, role, begun}
use Rattle.f_construct_parts.specs.Walking.{moved}
use Rattle.f_construct_parts.specs.Lines.{Front, select_case_line, select_rank_line}
use Rattle.f_constructs.specs.declared.execution.Selecting.{Selecting}
use Rattle.f_constructs.specs.declared.execution.Selecting.TheVariants as selecting
use Rattle.f_constructs.specs.declared.execution.Execution.{Execution}
use Rattle.f_constructs.specs.Frames.{nest_front, nest_states}

abbrev pub selecting_front : Selecting → Front
selecting_front selecting.Nothing rest = rest
selecting_front (selecting.Case h) rest = select_case_line h.is_one_word h.selector ∷ rest
selecting_front (selecting.Rank h) rest = select_rank_line h.renamed h.selector ∷ rest

abbrev pub selecting_states : Selecting → List State → List State
selecting_states selecting.Nothing ks = ks
selecting_states (selecting.Case h) ks = InSelectCase ∷ ks
selecting_states (selecting.Rank h) ks = InSelectRank ∷ ks

-- what stands in front of the place in an execution part that is read next
unfoldable pub front : Execution → Front
front e rest = nest_front e.nest (selecting_front e.selecting rest)

-- the constructs that are open, the innermost first
unfoldable pub states : Execution → List State
states e = selecting_states e.selecting (nest_states e.nest)

-- where no construct is open, an execution part is what stands around
abbrev pub behind : Role → Option (List State)
behind (stays k) = Some []
behind (enters k inner) = Some (inner ∷ [])
behind leaves = None
behind none = None

-- what is open behind one statement more, where it has a place
unfoldable pub after : List State → Line → Option (List State)
after [] l = behind (begun File l)
after (k ∷ ks) l = moved (role k (Executable l)) ks
