-- Spellings have a token or more.
use Rattle.std.proofs.Common.{◌<◌, List, ◌∷◌, length, arith}
use Rattle.c_token.specs.declared.mark.Mark.TheVariants as mark
use Rattle.c_condition.specs.declared.token.Token.{Token}
use Rattle.c_condition.specs.declared.token.Token.TheVariants as token
use Rattle.c_condition.specs.Grammar.{Expr, Constant, Name, Paren, Unary, Binary, Conditional, Comma, spell, binary_mark}

pub longer : (e : Expr) (rest : List Token) → length rest < length (spell e rest)
longer (Constant n) rest = omega arith
longer Name rest = omega arith
longer (Paren e) rest = let l : length (token.Mark mark.Close ∷ rest) < length (spell e (token.Mark mark.Close ∷ rest)) = longer e (token.Mark mark.Close ∷ rest) in omega arith
longer (Unary o e) rest = let l : length rest < length (spell e rest) = longer e rest in omega arith
longer (Binary o left right) rest = let r : length rest < length (spell right rest) = longer right rest in
    let l : length (token.Mark (binary_mark o) ∷ spell right rest) < length (spell left (token.Mark (binary_mark o) ∷ spell right rest)) = longer left (token.Mark (binary_mark o) ∷ spell right rest) in omega arith
longer (Conditional first second third) rest =
    let t : length rest < length (spell third rest) = longer third rest in
    let s : length (token.Mark mark.Colon ∷ spell third rest) < length (spell second (token.Mark mark.Colon ∷ spell third rest)) = longer second (token.Mark mark.Colon ∷ spell third rest) in
    let f : length (token.Mark mark.Question ∷ spell second (token.Mark mark.Colon ∷ spell third rest)) < length (spell first (token.Mark mark.Question ∷ spell second (token.Mark mark.Colon ∷ spell third rest))) =
    longer first (token.Mark mark.Question ∷ spell second (token.Mark mark.Colon ∷ spell third rest)) in omega arith
longer (Comma left right) rest = let r : length rest < length (spell right rest) = longer right rest in
    let l : length (token.Mark mark.Comma ∷ spell right rest) < length (spell left (token.Mark mark.Comma ∷ spell right rest)) = longer left (token.Mark mark.Comma ∷ spell right rest) in omega arith
