-- What the top call answers.
use Rattle.std.proofs.Common.{◌≡◌, ℕ, List, [], ◌∷◌, Option, None, refl, sym, subst, lit≤}
use Rattle.jf_base.specs.Limits.{IsRegionSize}
use Rattle.std.specs.Prelude.{codes}
use Rattle.program_image.specs.declared.Image.{Image}
use Rattle.command.specs.declared.words.Command.{Command}
use Rattle.command.specs.declared.words.Command.TheVariants as command
use Rattle.command.specs.Words.{Says, SaysNothing}
use Rattle.fcc_core.specs.Outside.{SinkAt, Outside}
use Rattle.fcc_core.specs.Lines.{memory_line}
use Rattle.fcc_core.specs.Said.{Said}
use Rattle.fcc_core.specs.Answer.{NoWords, NoRoom, OfRun, IsObeyed, HasFewFiles, HasStandardLimits, IsAnswered}

region : {a b : ℕ} → a ≡ b → IsRegionSize a → IsRegionSize b
region e h = subst IsRegionSize e h

module _ (words : List (List ℕ)) (before after : Outside) (kept : Option Image) (result : ℕ) (err err' : SinkAt) where
  pub no_words : SaysNothing words → after ≡ before → kept ≡ None → Said 200 (codes "words\n") result err.faults err'.faults err.contents err'.contents → IsAnswered words before after kept result err err'
  no_words nothing same none said = record { status = 200; line = codes "words\n"; answer = NoWords nothing same none; said = said }

  pub no_room : after ≡ before → kept ≡ None → Said 209 memory_line result err.faults err'.faults err.contents err'.contents → IsAnswered words before after kept result err err'
  no_room same none said = record { status = 209; line = memory_line; answer = NoRoom same none; said = said }

  pub of_command : (c : Command) → Says words c → IsObeyed c before after kept result err err' → IsAnswered words before after kept result err err'
  of_command (command.Run run) says caused = record { status = caused.status; line = caused.line; answer = OfRun run caused.status caused.line says caused.cause; said = caused.said }

-- the limits of the words of a command
pub standard_limits : (words : List (List ℕ)) (c : Command) → Says words c → HasStandardLimits c
standard_limits [] c says = absurd says
standard_limits (first ∷ words) (command.Run run) says =
    let s = says.1 in
    record {
      in_range = record {
        some_step = s.steps.in_range.0;
        most_steps = s.steps.in_range.1;
        heap = region (sym s.heap) (record { least = lit≤ tt; most = lit≤ tt; whole = refl });
        objects = region (sym s.objects) (record { least = lit≤ tt; most = lit≤ tt; whole = refl });
        frames = region (sym s.frames) (record { least = lit≤ tt; most = lit≤ tt; whole = refl });
      };
      heap = s.heap;
      objects = s.objects;
      frames = s.frames;
    }

-- the files of the words of a command
pub few_files : (words : List (List ℕ)) (c : Command) → Says words c → HasFewFiles c
few_files [] c says = absurd says
few_files (first ∷ words) (command.Run run) says = says.1.files.most_files
