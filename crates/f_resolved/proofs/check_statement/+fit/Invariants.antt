use Rattle.std.proofs.Common.{◌≡◌, map, drop}
use Rattle.f_resolved.specs.Lists.{all_of}
use Rattle.f_resolved.specs.Statements.{arm_fits, case_fits, rank_case_fits, statement_fits}
use Rattle.f_resolved.proofs.check_statement.+fit.Given as goal

abbrev pub invariant-are_statements-statements : goal.invariant-are_statements-statements
invariant-are_statements-statements l = all_of (map (statement_fits l.p l.here) (drop l.one-index l.all)) ≡ all_of (map (statement_fits l.p l.here) l.all)

abbrev pub invariant-are_arms-arms : goal.invariant-are_arms-arms
invariant-are_arms-arms l = all_of (map (arm_fits l.p l.here) (drop l.one-index l.all)) ≡ all_of (map (arm_fits l.p l.here) l.all)

abbrev pub invariant-are_cases-cases : goal.invariant-are_cases-cases
invariant-are_cases-cases l = all_of (map (case_fits l.p l.here) (drop l.one-index l.all)) ≡ all_of (map (case_fits l.p l.here) l.all)

abbrev pub invariant-are_rank_cases-ranks : goal.invariant-are_rank_cases-ranks
invariant-are_rank_cases-ranks l = all_of (map (rank_case_fits l.p l.here) (drop l.one-index l.all)) ≡ all_of (map (rank_case_fits l.p l.here) l.all)
