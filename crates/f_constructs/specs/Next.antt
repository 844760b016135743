-- Where statements have a place in an execution part, by what they do to a construct (ISO/IEC 1539-1:2018, 11.1).
use Rattle.std.specs.Prelude.{List, [], ◌∷◌, Option}
use Rattle.f_unit_grammar.specs.Units.{Scope, InProgram, InProcedure, Executing, State, File, InUnit, InIf, InElse, InDo, InSelectCase, InCase, InSelectRank, InRank, Role, stays, enters, leaves, none}
use Rattle.f_construct_parts.specs.declared.statements.Next.{Next}
use Rattle.f_construct_parts.specs.declared.statements.Next.TheVariants as next
use Rattle.f_construct_parts.specs.Walking.{moved}
use Rattle.f_constructs.specs.Execution.{behind}

abbrev pub begun_next : State → Next → Role
begun_next k next.Action = stays k
begun_next k next.IfAction = stays k
begun_next k next.IfThen = enters k InIf
begun_next k next.Do = enters k InDo
begun_next k next.SelectCase = enters k InSelectCase
begun_next k next.SelectRank = enters k InSelectRank
begun_next k _ = none

abbrev pub if_next : Next → Role
if_next next.ElseIf = stays InIf
if_next next.Else = stays InElse
if_next next.EndIf = leaves
if_next n = begun_next InIf n

abbrev pub else_next : Next → Role
else_next next.EndIf = leaves
else_next n = begun_next InElse n

abbrev pub do_next : Next → Role
do_next next.EndDo = leaves
do_next n = begun_next InDo n

abbrev pub cases_next : Next → Role
cases_next next.Case = stays InCase
cases_next next.EndSelect = leaves
cases_next _ = none

abbrev pub case_next : Next → Role
case_next next.Case = stays InCase
case_next next.EndSelect = leaves
case_next n = begun_next InCase n

abbrev pub ranks_next : Next → Role
ranks_next next.Rank = stays InRank
ranks_next next.EndSelect = leaves
ranks_next _ = none

abbrev pub rank_next : Next → Role
rank_next next.Rank = stays InRank
rank_next next.EndSelect = leaves
rank_next n = begun_next InRank n

abbrev pub executed_next : Scope → Next → Role
executed_next (InProgram name) n = begun_next (InUnit (InProgram name) Executing) n
executed_next (InProcedure f name) n = begun_next (InUnit (InProcedure f name) Executing) n
executed_next _ n = none

abbrev pub role_next : State → Next → Role
role_next (InUnit u p) n = executed_next u n
role_next InIf n = if_next n
role_next InElse n = else_next n
role_next InDo n = do_next n
role_next InSelectCase n = cases_next n
role_next InCase n = case_next n
role_next InSelectRank n = ranks_next n
role_next InRank n = rank_next n
role_next _ n = none

-- what is open behind one statement more, where it has a place
abbrev pub after_next : List State → Next → Option (List State)
after_next [] n = behind (begun_next File n)
after_next (k ∷ ks) n = moved (role_next k n) ks

-- what is open behind a statement that has a place in every block
abbrev pub started : Next → List State → List State
started next.IfThen ks = InIf ∷ ks
started next.Do ks = InDo ∷ ks
started next.SelectCase ks = InSelectCase ∷ ks
started next.SelectRank ks = InSelectRank ∷ ks
started _ ks = ks
