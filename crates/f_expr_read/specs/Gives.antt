-- What a reader that takes memory answers, beside what is read.
use Rattle.std.specs.Prelude.{◌≡◌, Bool, false, List, [], ◌∷◌, Option, Some, None, Result, Ok, Err}
use Rattle.f_lex.specs.declared.token.Token.{Token}
use Rattle.f_grammar.specs.Grammar.{Expr, Paren, Selector, kind, Param}
use Rattle.f_grammar.specs.Reading.{◌>>=◌, Read, Reader, closed_at, kind_param, args_at, not_empty}
use Rattle.f_expr_read.specs.declared.error.ReadError.{ReadError}
use Rattle.f_expr_read.specs.declared.error.ReadError.TheVariants.{Memory, Form}

abbrev pub Fails : {Y : Type 0} → ReadError → Option Y → Type 0
Fails Memory read = Unit {0}
Fails Form read = read ≡ None

-- What a function returned, seen by view, is what is read, unless memory was wanting.
abbrev pub Gives : {X Y : Type 0} → (X → Y) → Result X ReadError → Option Y → Type 0
Gives view (Ok x) read = read ≡ Some (view x)
Gives view (Err e) read = Fails e read

-- this, and then the rest
abbrev pub taken : {A : Type 0} → A → List Token → Read A
taken x rest = Some (x, rest)

-- what a function found, seen by view
abbrev pub seen : {X Y : Type 0} → (X → Y) → Option X → Option Y
seen view None = None
seen view (Some x) = Some (view x)

-- elements in front of others
abbrev pub onto : {E L : Type 0} → (E → L → L) → List E → L → L
onto cons [] rest = rest
onto cons (x ∷ xs) rest = cons x (onto cons xs rest)

-- what was read before, and what is still read
abbrev pub behind : {E L : Type 0} → (E → L → L) → List E → Read L → Read L
behind cons xs read = read >>= λ y. Some (onto cons xs y.0, y.1)

-- ---- parts of the readers, by what they are called for

-- an expression and its `)`
abbrev pub parenthesized_at : Reader → List Token → Read Expr
parenthesized_at inner ts = inner ts >>= λ x. closed_at x.1 >>= λ r. Some (Paren x.0, r)

-- a kind and its `)`
abbrev pub kind_behind : Reader → Bool → List Token → Read Selector
kind_behind inner has_word ts = inner ts >>= λ x. closed_at x.1 >>= λ r. Some (kind has_word x.0, r)

abbrev pub kind_parameter : Reader → Bool → List Token → Read Param
kind_parameter inner has_word ts = inner ts >>= kind_param has_word

-- items without a type, which are some
abbrev pub plain_items : Reader → List Token → Read Expr
plain_items inner ts = args_at inner false ts >>= not_empty
