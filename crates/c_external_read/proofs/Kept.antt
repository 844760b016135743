-- Parameters are declared behind the other names, so the scope of a body is ended by cutting it off.
use Rattle.std.proofs.Common.{◌≡◌, length, take, Option, Some, None}
use Rattle.c_grammar.specs.Grammar.{Scope, Params, NoParams, OnlyVoid, Some_params, after_param}
use Rattle.c_grammar.proofs.Kept.{same, then, cut, longer_param, longer_more}
use Rattle.c_unit_grammar.specs.Statements.{with_params}

pub kept_params : (ps : Option Params) (s : Scope) → take (length s) (with_params ps s) ≡ s
kept_params None s = cut s s (same s)
kept_params (Some NoParams) s = cut s s (same s)
kept_params (Some OnlyVoid) s = cut s s (same s)
kept_params (Some (Some_params t more)) s = cut s _ (then s _ _ (longer_param t s) (longer_more more (after_param t s)))
