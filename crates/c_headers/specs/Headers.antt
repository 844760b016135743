-- The built-in headers: their names and their texts.
use Rattle.std.specs.Prelude.{◌≡◌, ℕ, List, codes}
use Rattle.cfi_header.specs.Text.{declarations}
use Rattle.c_headers.specs.declared.texts.TheConstants.{STDDEF, STDINT, STDBOOL, LIMITS, STDLIB, STRING, STDIO}
use Rattle.c_headers.specs.declared.header.Header.{Header}
use Rattle.c_headers.specs.declared.header.Header.TheVariants.{Stddef, Stdint, Stdbool, Limits, Stdlib, Str, Stdio, FortranBinding}

-- what stands between < and >
abbrev pub name_of : Header → List ℕ
name_of Stddef = codes "stddef.h"
name_of Stdint = codes "stdint.h"
name_of Stdbool = codes "stdbool.h"
name_of Limits = codes "limits.h"
name_of Stdlib = codes "stdlib.h"
name_of Str = codes "string.h"
name_of Stdio = codes "stdio.h"
name_of FortranBinding = codes "ISO_Fortran_binding.h"

abbrev pub text_of : Header → List ℕ
text_of Stddef = STDDEF.now
text_of Stdint = STDINT.now
text_of Stdbool = STDBOOL.now
text_of Limits = LIMITS.now
text_of Stdlib = STDLIB.now
text_of Str = STRING.now
text_of Stdio = STDIO.now
text_of FortranBinding = declarations

abbrev pub IsNamed : List ℕ → Header → Type 0
IsNamed name header = name ≡ name_of header

-- no built-in header has the name
abbrev pub IsNoHeader : List ℕ → Type 0
IsNoHeader name = (header : Header) → IsNamed name header → ⊥
