-- What the words of the command line say.
use Rattle.std.specs.Prelude.{◌≡◌, ℕ, IsTrue, List, [], ◌∷◌, codes, map, string_bytes}
use Rattle.std.specs.declared.alloc.Global.{Global}
use Rattle.std.specs.declared.string.String.{String}
use Rattle.command.specs.declared.words.Command.{Command}
use Rattle.command.specs.declared.words.Command.TheVariants.{Run}
use Rattle.command.specs.declared.words.RunWords.{RunWords}
use Rattle.command.specs.Options.{have_names, run_options, SaysSteps}
use Rattle.command.specs.Files.{file_words, AreFiles}

-- the bytes of each word
abbrev pub texts : List (String Global) → List (List ℕ)
texts words = map (λ word. string_bytes word) words

-- the words behind `run` name these limits and files: each option is one of `run`, and every other word names a file
pub record SaysRun (words : List (List ℕ)) (run : RunWords) : Type 0 where
  pub options : IsTrue (have_names run_options words)
  pub steps : SaysSteps words run.limits.steps
  pub heap : run.limits.heap ≡ 16777216
  pub objects : run.limits.objects ≡ 4194304
  pub frames : run.limits.frames ≡ 1048576
  pub named : run.files ≡ file_words words
  pub files : AreFiles run.files

-- the words are those of this command, which the first of them names
abbrev pub Says : List (List ℕ) → Command → Type 0
Says [] command = ⊥
Says (first ∷ words) (Run run) = (first ≡ codes "run") × SaysRun words run

-- the words are those of no command
abbrev pub SaysNothing : List (List ℕ) → Type 0
SaysNothing words = (command : Command) → Says words command → ⊥
