-- Words say one command at most.
use Rattle.std.proofs.Common.{◌≡◌, ◌∙◌, ℕ, List, [], ◌∷◌, Option, Some, None, ap, sym}
use Rattle.std.specs.Prelude.{unwrap_or}
use Rattle.jf_base.specs.declared.place.Limits.{Limits}
use Rattle.command.specs.declared.words.Command.{Command}
use Rattle.command.specs.declared.words.Command.TheVariants.{Run}
use Rattle.command.specs.declared.words.RunWords.{RunWords}
use Rattle.command.specs.Options.{SaysNumber, SaysLimit}
use Rattle.command.specs.Words.{SaysRun, Says}

-- settings say one number at most
said_same : (from : ℕ) (set : List (List ℕ)) (one other : Option ℕ) → SaysNumber from set one → SaysNumber from set other → one ≡ other
said_same from [] one other says says' = says ∙ sym says'
said_same from (word ∷ []) (Some n) (Some m) says says' = ap Some (says.1 ∙ sym says'.1)
said_same from (word ∷ []) (Some n) None says says' = absurd says'
said_same from (word ∷ []) None other says says' = absurd says
said_same from (word ∷ next ∷ words) one other says says' = absurd says

limit_same : (name : List ℕ) (standard : ℕ) (InRange : ℕ → Type 0) (words : List (List ℕ)) (one other : ℕ) → SaysLimit name standard InRange words one → SaysLimit name standard InRange words other → one ≡ other
limit_same name standard InRange words one other says says' =
    says.is ∙ ap (λ said. unwrap_or said standard) (said_same _ _ says.said says'.said says.says says'.says) ∙ sym says'.is

limits_same : (one other : Limits) → one.steps ≡ other.steps → one.heap ≡ other.heap → one.objects ≡ other.objects → one.frames ≡ other.frames → one ≡ other
limits_same one other steps heap objects frames = λ i. record { steps = steps i; heap = heap i; objects = objects i; frames = frames i }

run_same : (words : List (List ℕ)) (one other : RunWords) → SaysRun words one → SaysRun words other → one ≡ other
run_same words one other says says' =
    let limits = limits_same one.limits other.limits (limit_same _ _ _ words _ _ says.steps says'.steps) (says.heap ∙ sym says'.heap) (says.objects ∙ sym says'.objects) (says.frames ∙ sym says'.frames) in
    let files = says.named ∙ sym says'.named in
    λ i. record { limits = limits i; files = files i }

-- the words determine the command
pub command_same : (words : List (List ℕ)) (one other : Command) → Says words one → Says words other → one ≡ other
command_same [] one other says says' = absurd says
command_same (first ∷ words) (Run run) (Run run') says says' = ap Run (run_same words run run' says.1 says'.1)
