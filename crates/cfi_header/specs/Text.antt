-- The text of ISO_Fortran_binding.h.
use Rattle.std.specs.Prelude.{ℕ, List}
use Rattle.cfi_header.specs.declared.text.TheConstants.{DECLARATIONS}

abbrev pub declarations : List ℕ
declarations = DECLARATIONS.now
