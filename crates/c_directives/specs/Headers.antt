-- Built-in headers by their names (ISO/IEC 9899:2011, 6.10.2p2).
use Rattle.std.specs.Prelude.{ℕ, List, Option, Some, None, if◌then◌else◌}
use Rattle.std.specs.Str.{bytes_eq}
use Rattle.c_headers.specs.declared.header.Header.{Header}
use Rattle.c_headers.specs.declared.header.Header.TheVariants.{Stddef, Stdint, Stdbool, Limits, Stdlib, Str, Stdio, FortranBinding}
use Rattle.c_headers.specs.Headers.{name_of, text_of}

abbrev pub or_header : List ℕ → Header → Option (List ℕ) → Option (List ℕ)
or_header name h other = if bytes_eq name (name_of h) then Some (text_of h) else other

-- the text of the built-in header with this name
unfoldable pub header_text : List ℕ → Option (List ℕ)
header_text name = or_header name Stddef (or_header name Stdint (or_header name Stdbool (or_header name Limits (or_header name Stdlib (or_header name Str (or_header name Stdio (or_header name FortranBinding None)))))))
