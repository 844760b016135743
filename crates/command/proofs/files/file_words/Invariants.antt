use Rattle.std.proofs.Common.{◌≡◌, ◌++◌, drop}
use Rattle.command.specs.Files.{file_words}
use Rattle.command.specs.Words.{texts}
use Rattle.command.proofs.files.file_words.Given as goal

abbrev pub invariant-loop-word : goal.invariant-loop-word
invariant-loop-word l = l.files ++ file_words (texts (drop l.word-index l.words)) ≡ file_words (texts l.words)
