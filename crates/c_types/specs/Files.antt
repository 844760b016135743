-- The rule by which types of two files, or of one, are compared.
use Rattle.std.specs.Option.{option_copied}
use Rattle.c_types.specs.declared.compatibility.Files.{Files}
use Rattle.c_types.specs.Compatible.{Rule, rule_within}

abbrev pub rule_of : Files → Rule
rule_of files = rule_within files.depth files.first.now (option_copied files.other)
