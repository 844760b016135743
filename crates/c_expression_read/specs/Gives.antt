-- What a reader that takes memory answers, beside what is read.
use Rattle.std.specs.Prelude.{ℕ, List, [], ◌∷◌, length, Option, Some, None, Result, Ok, Bool, true, false}
use Rattle.c_tree.specs.declared.operator.AssignOperator.{AssignOperator}
use Rattle.c_tree.specs.declared.operator.BinaryOperator.{BinaryOperator}
use Rattle.c_tree.specs.declared.operator.PointerMark.{PointerMark}
use Rattle.c_tree.specs.declared.operator.PointerMark.TheVariants as mark
use Rattle.c_tree.specs.declared.operator.SpecifierWord.TheVariants as word
use Rattle.c_grammar.specs.declared.fault.ReadError.{ReadError}
use Rattle.c_grammar.specs.declared.token.Token.{Token}
use Rattle.c_grammar.specs.declared.token.Token.TheVariants as token
use Rattle.c_grammar.specs.declared.token.Allowed.TheVariants.{Named}
use Rattle.c_grammar.specs.Grammar.{Sort, OfInfix, OfAssign, Expr, Texts, Post, Call, Typed, Decls, Suffix, after_typed}
use Rattle.c_grammar.specs.Reading.{◌>>=◌, Gives, Read, Reader, Inner, broken, texts_at, decls_at, semi_at, array_at, function_at}

-- What a function returned, seen by view, is this tree before this rest, unless memory ran out.
abbrev pub IsReadAs : {X Y : Type 0} → Y → List Token → (X → Y × List Token) → Result X ReadError → Type 0
IsReadAs tree rest view result = Gives view result (Ok (tree, rest))

-- elements in front of others
abbrev pub onto : {E L : Type 0} → (E → L → L) → List E → L → L
onto cons [] rest = rest
onto cons (x ∷ xs) rest = cons x (onto cons xs rest)

-- what was read before, and what is still read
abbrev pub behind : {E L : Type 0} → (E → L → L) → List E → Read L → Read L
behind cons xs read = read >>= λ y. Ok (onto cons xs y.0, y.1)

-- which operator between two operands a token is
abbrev pub infix_of : Option Sort → Option BinaryOperator
infix_of (Some (OfInfix o)) = Some o
infix_of _ = None

-- which operator of an assignment
abbrev pub assign_of : Option Sort → Option AssignOperator
assign_of (Some (OfAssign o)) = Some o
assign_of _ = None

-- a star or a qualifier that stands first
abbrev pub mark_at : List Token → Option (PointerMark × List Token)
mark_at (token.Star ∷ ts) = Some (mark.Star, ts)
mark_at (token.Word word.Const ∷ ts) = Some (mark.Const, ts)
mark_at (token.Restrict ∷ ts) = Some (mark.Restrict, ts)
mark_at ts = None

-- a string literal that stands first
abbrev pub text_at : List Token → Option (ℕ × List Token)
text_at (token.Text k ∷ ts) = Some (k, ts)
text_at ts = None

-- ---- parts of the readers

-- string literals behind a first one
abbrev pub text_behind : ℕ → List Token → Read Expr
text_behind first ts = Ok (Texts first (texts_at ts).0, (texts_at ts).1)

-- the arguments of a call
abbrev pub called : Read Expr → Read Post
called read = read >>= λ x. Ok (Call x.0, x.1)

-- members that are declared together
abbrev pub together_at : Inner → Reader (Typed × Decls)
together_at r s ts = r.typed Named s ts >>= λ x. decls_at r (length x.1) (after_typed x.0 s) x.1 >>= λ d. semi_at d.1 >>= λ rest. Ok ((x.0, d.0), rest)

abbrev pub begins_suffix : List Token → Bool
begins_suffix (token.SquareOpen ∷ ts) = true
begins_suffix (token.Open ∷ ts) = true
begins_suffix ts = false

-- an array or a function
abbrev pub suffix_at : Inner → Reader Suffix
suffix_at r s (token.SquareOpen ∷ ts) = array_at r s ts
suffix_at r s (token.Open ∷ ts) = function_at r s ts
suffix_at r s ts = broken ts
