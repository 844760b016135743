-- A look-up among entries with their names as bytes.
use Rattle.std.proofs.Common.{◌≡◌, ℕ, List, [], ◌∷◌, map, refl, ap, string_bytes, cond, Some}
use Rattle.std.specs.Prelude.{String, bytes_eq}
use Rattle.std.specs.declared.alloc.Global.{Global}
use Rattle.std.specs.Map.{lookup}
use Rattle.linker.specs.declared.names.Definition.{Definition}
use Rattle.linker.specs.Names.{definition_at, entry_of}

pub lookup-is : (name : List ℕ) (es : List (String Global × Definition)) → lookup (λ k. bytes_eq name (string_bytes k)) es ≡ definition_at name (map entry_of es)
lookup-is name [] = refl
lookup-is name (e ∷ es) = ap (λ r. cond (bytes_eq name (string_bytes e.0)) (Some e.1) r) (lookup-is name es)
