-- What stands in front of a block, where a block of the innermost construct is closed before.
use Rattle.std.proofs.Common.{◌≡◌, List, ◌∷◌, Result, IfOk, ap, ◌∙◌}
use Rattle.std.proofs.lemmas.Result.{IfOk-weaker}
use Rattle.f_statement_grammar.specs.Statements.{Statement}
use Rattle.f_construct_parts.specs.Lines.{Front}
use Rattle.f_constructs.specs.declared.frame.Frame.{Frame}
use Rattle.f_constructs.specs.declared.nest.Nest.{Nest}
use Rattle.f_constructs.specs.Frames.{frames_front, nest_front}

pub behind_block : {E : Type 0} (r : Result Nest E) (frames : List Frame) (closed before : Front) (s : Statement) → ((rest : List Statement) → closed rest ≡ before rest) → IfOk r (λ n. (rest : List Statement) → nest_front n rest ≡ frames_front frames (closed (s ∷ rest))) → IfOk r (λ n. (rest : List Statement) → nest_front n rest ≡ frames_front frames (before (s ∷ rest)))
behind_block r frames closed before s same ok = IfOk-weaker r (λ n. (rest : List Statement) → nest_front n rest ≡ frames_front frames (closed (s ∷ rest))) (λ n. (rest : List Statement) → nest_front n rest ≡ frames_front frames (before (s ∷ rest))) (λ n f rest. f rest ∙ ap (frames_front frames) (same (s ∷ rest))) ok
