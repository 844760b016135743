-- What is open behind the parts of a construct, put together, and where a part has no place.
use Rattle.std.proofs.Common.{◌≡◌, List, ◌∷◌, Bool, Option, sym, ap, ◌∙◌}
use Rattle.f_tree.specs.declared.name.Name.{Name}
use Rattle.f_tree.specs.declared.expression.Expression.{Expression}
use Rattle.f_tree.specs.declared.statement.Action.{Action}
use Rattle.f_tree.specs.declared.statement.LoopControl.{LoopControl}
use Rattle.f_statement_grammar.specs.Statements.{Statement}
use Rattle.f_unit_grammar.specs.Units.{State, InIf, InDo, InSelectCase, InSelectRank}
use Rattle.f_construct_parts.specs.declared.statements.BlockError.{BlockError}
use Rattle.f_construct_parts.specs.declared.statements.BlockError.TheVariants.{Memory, Misplaced}
use Rattle.f_construct_parts.specs.Walking.{walk, IsBlock, FailsIn}
use Rattle.f_construct_parts.specs.Lines.{Front, action_line, guarded_line, if_line, loop_line, select_case_line, select_rank_line}
use Rattle.f_construct_parts.specs.Views.{Where, Passes, Fails}
use Rattle.f_construct_parts.proofs.Walks.{action_on, guarded_on, if_on, loop_on, select_case_on, select_rank_on}

-- what is left behind j is what was left behind k
abbrev pub Leads : State → State → List Statement → List Statement → Type 0
Leads k j ss rest = (outer : List State) → walk (k ∷ outer) ss ≡ walk (j ∷ outer) rest

-- the one closes, and what is around it goes on
abbrev pub Closes : State → List Statement → List Statement → Type 0
Closes k ss rest = (outer : List State) → walk (k ∷ outer) ss ≡ walk outer rest

pub where_leads : {P Q : Type 0} (e : BlockError) → (P → Q) → Where e P → Where e Q
where_leads Memory f w = tt
where_leads Misplaced f w = f w

-- Misplaced can't be
pub where_never : {P : Type 0} (e : BlockError) (Q : Type 0) → (P → ⊥) → Where e P → Where e Q
where_never Memory Q f w = tt
where_never Misplaced Q f w = absurd (f w)

pub before : (k j : State) (ss rest : List Statement) → Leads k j ss rest → FailsIn j rest → FailsIn k ss
before k j ss rest l f o os w = f o os (sym (l (o ∷ os)) ∙ w)

pub and_closes : (k j : State) (ss mid rest : List Statement) → Leads k j ss mid → Closes j mid rest → Closes k ss rest
and_closes k j ss mid rest l c outer = l outer ∙ c outer

pub and_leads : (k j i : State) (ss mid rest : List Statement) → Leads k j ss mid → Leads j i mid rest → Leads k i ss rest
and_leads k j i ss mid rest l c outer = l outer ∙ c outer

-- ---- a construct in a block

-- behind the first statement this is open inside
abbrev pub Opens : State → Statement → Type 0
Opens j head = (k : State) → IsBlock k → (outer : List State) (ss : List Statement) → walk (k ∷ outer) (head ∷ ss) ≡ walk (j ∷ k ∷ outer) ss

pub if_opens : (e : Expression) → Opens InIf (if_line e)
if_opens e k b outer ss = if_on k b outer ss e

pub loop_opens : (c : LoopControl) → Opens InDo (loop_line c)
loop_opens c k b outer ss = loop_on k b outer ss c

pub select_case_opens : (w : Bool) (e : Expression) → Opens InSelectCase (select_case_line w e)
select_case_opens w e k b outer ss = select_case_on k b outer ss w e

pub select_rank_opens : (renamed : Option Name) (n : Name) → Opens InSelectRank (select_rank_line renamed n)
select_rank_opens renamed n k b outer ss = select_rank_on k b outer ss renamed n

pub passes : (j : State) (head : Statement) (ss mid rest : List Statement) → Opens j head → ss ≡ head ∷ mid → Closes j mid rest → Passes ss rest
passes j head ss mid rest opens e c k b outer = ap (walk (k ∷ outer)) e ∙ opens k b outer mid ∙ c (k ∷ outer)

pub fails : (j : State) (head : Statement) (ss mid : List Statement) → Opens j head → ss ≡ head ∷ mid → FailsIn j mid → Fails ss
fails j head ss mid opens e f k b o os w = f k (o ∷ os) (sym (ap (walk (k ∷ o ∷ os)) e ∙ opens k b (o ∷ os) mid) ∙ w)

pub action_passes : (a : Action) (ss rest : List Statement) → ss ≡ action_line a ∷ rest → Passes ss rest
action_passes a ss rest e k b outer = ap (walk (k ∷ outer)) e ∙ action_on k b outer rest a

pub guarded_passes : (c : Expression) (a : Action) (ss rest : List Statement) → ss ≡ guarded_line c a ∷ rest → Passes ss rest
guarded_passes c a ss rest e k b outer = ap (walk (k ∷ outer)) e ∙ guarded_on k b outer rest c a

-- statements, and what passes behind them
pub passes_on : (ss mid rest : List Statement) → Passes ss mid → Passes mid rest → Passes ss rest
passes_on ss mid rest p q k b outer = p k b outer ∙ q k b outer

pub fails_behind : (ss mid : List Statement) → Passes ss mid → Fails mid → Fails ss
fails_behind ss mid p f k b o os w = f k b o os (sym (p k b (o ∷ os)) ∙ w)

-- ---- the statements of a tree that was put behind others

pub put : (before behind : Front) (head : Statement) (parts : Front) (ss mid rest : List Statement) → ((r : List Statement) → behind r ≡ before (head ∷ parts r)) → ss ≡ head ∷ mid → mid ≡ parts rest → behind rest ≡ before ss
put before behind head parts ss mid rest p e i = p rest ∙ ap (λ (r : List Statement). before (head ∷ r)) (sym i) ∙ ap before (sym e)
