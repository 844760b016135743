-- Reading action statements: the statement that all the tokens are, or nothing. Where a reference and `=` or `=>` stand first, the statement is an
-- assignment; so keywords aren't reserved (ISO/IEC 1539-1:2018, 6.2.2).
use Rattle.std.specs.Prelude.{ℕ, zero, suc, List, [], ◌∷◌, length, Option, Some, None, Bool, true, false, if◌then◌else◌, codes}
use Rattle.std.specs.Str.{bytes_eq}
use Rattle.f_lex.specs.declared.token.Mark.TheVariants as mark
use Rattle.f_lex.specs.declared.token.Token.{Token}
use Rattle.f_lex.specs.declared.token.Token.TheVariants as token
use Rattle.f_grammar.specs.Grammar.{Expr, Refer, NoGroup, group, Maybe, Absent, Present}
use Rattle.f_grammar.specs.Reading.{◌>>=◌, choose, Read, open_at, closed_at, comma_at, star_at, name_at, word_at, expr_at, refer_at, args_at}
use Rattle.f_grammar.specs.Actions as act
use Rattle.f_grammar.specs.Actions.{Act, Refs, no_refs, ref, Exprs, no_exprs, expr, Status, NoStatus, status}

-- nothing is left
unfoldable pub ends_at : Act → List Token → Option Act
ends_at a [] = Some a
ends_at a (t ∷ ts) = None

unfoldable pub assign_at : List Token → Option (List Token)
assign_at (token.Mark mark.Assign ∷ ts) = Some ts
assign_at ts = None

unfoldable pub arrow_at : List Token → Option (List Token)
arrow_at (token.Mark mark.Arrow ∷ ts) = Some ts
arrow_at ts = None

-- a target, whether `=>` stands behind it and not `=`, and what stands behind that
abbrev pub Target : Type 0
Target = Refer × Bool × List Token

unfoldable pub set_behind : Refer × List Token → Option Target
set_behind x = choose (assign_at x.1) (choose (arrow_at x.1) None (λ r. Some (x.0, true, r))) (λ r. Some (x.0, false, r))

unfoldable pub target_at : ℕ → List Token → Option Target
target_at n ts = refer_at (expr_at n) ts >>= set_behind

abbrev pub set_by : Bool → Refer → Expr → Act
set_by true target value = act.Associate target value
set_by false target value = act.Assign target value

unfoldable pub value_at : ℕ → Target → Option Act
value_at n t = expr_at n t.2 >>= λ x. ends_at (set_by t.1 t.0 x.0) x.1

-- at most so many more references, each behind a comma, up to one behind which this word and `=` stand
unfoldable pub refs_at : ℕ → List ℕ → ℕ → List Token → Read Refs
refs_at n word zero ts = Some (no_refs, ts)
refs_at n word (suc k) ts = choose (comma_at ts) (Some (no_refs, ts))
    (λ r. choose (word_at word r) (refer_at (expr_at n) r >>= λ x. refs_at n word k x.1 >>= λ y. Some (ref x.0 y.0, y.1)) (λ _. Some (no_refs, ts)))

unfoldable pub exprs_at : ℕ → ℕ → List Token → Read Exprs
exprs_at n zero ts = Some (no_exprs, ts)
exprs_at n (suc k) ts = choose (comma_at ts) (Some (no_exprs, ts))
    (λ r. expr_at n r >>= λ x. exprs_at n k x.1 >>= λ y. Some (expr x.0 y.0, y.1))

unfoldable pub status_at : ℕ → List ℕ → List Token → Read Status
status_at n word ts = choose (comma_at ts) (Some (NoStatus, ts)) (λ r. word_at word r >>= λ s. refer_at (expr_at n) s >>= λ x. Some (status x.0, x.1))

unfoldable pub call_at : ℕ → List Token → Option Act
call_at n ts = name_at ts >>= λ m. choose (open_at m.1) (ends_at (act.Call m.0 NoGroup) m.1) (λ r. args_at (expr_at n) true r >>= λ x. ends_at (act.Call m.0 (group x.0)) x.1)

-- a stop code, where something is left
unfoldable pub code_at : ℕ → (Maybe → Act) → List Token → Option Act
code_at n make [] = Some (make Absent)
code_at n make (t ∷ ts) = expr_at n (t ∷ ts) >>= λ x. ends_at (make (Present x.0)) x.1

unfoldable pub error_at : ℕ → List Token → Option Act
error_at n ts = name_at ts >>= λ m. if bytes_eq m.0 (codes "stop") then code_at n act.ErrorStop m.1 else None

unfoldable pub objects_at : ℕ → (Refer → Refs → Status → Act) → List Token → Option Act
objects_at n make ts = open_at ts >>= λ r. refer_at (expr_at n) r >>= λ x. refs_at n (codes "stat") (length x.1) x.1 >>= λ y. status_at n (codes "stat") y.1 >>= λ s.
    closed_at s.1 >>= λ rest. ends_at (make x.0 y.0 s.0) rest

unfoldable pub nullify_at : ℕ → List Token → Option Act
nullify_at n ts = open_at ts >>= λ r. refer_at (expr_at n) r >>= λ x. refs_at n (codes "stat") (length x.1) x.1 >>= λ y. closed_at y.1 >>= λ rest. ends_at (act.Nullify x.0 y.0) rest

unfoldable pub print_at : ℕ → List Token → Option Act
print_at n ts = star_at ts >>= λ r. exprs_at n (length r) r >>= λ y. ends_at (act.Print y.0) y.1

-- references up to the end
unfoldable pub targets_at : ℕ → (Refer → Refs → Act) → List Token → Option Act
targets_at n make ts = refer_at (expr_at n) ts >>= λ x. refs_at n (codes "stat") (length x.1) x.1 >>= λ y. ends_at (make x.0 y.0) y.1

-- READ behind its `(`
unfoldable pub read_unit_at : ℕ → List Token → Option Act
read_unit_at n ts = star_at ts >>= λ a. comma_at a >>= λ b. star_at b >>= λ c. status_at n (codes "iostat") c >>= λ s. closed_at s.1 >>= λ r. targets_at n (act.ReadUnit s.0) r

unfoldable pub read_at : ℕ → List Token → Option Act
read_at n ts = choose (open_at ts) (star_at ts >>= λ r. comma_at r >>= λ c. targets_at n act.Read c) (read_unit_at n)

-- the statement that a keyword begins
unfoldable pub by_word : ℕ → List ℕ → List Token → Option Act
by_word n w ts = if bytes_eq w (codes "call") then call_at n ts else if bytes_eq w (codes "exit") then ends_at act.Exit ts else if bytes_eq w (codes "cycle") then ends_at act.Cycle ts
    else if bytes_eq w (codes "return") then ends_at act.Return ts else if bytes_eq w (codes "stop") then code_at n act.Stop ts else if bytes_eq w (codes "error") then error_at n ts
    else if bytes_eq w (codes "allocate") then objects_at n act.Allocate ts else if bytes_eq w (codes "deallocate") then objects_at n act.Deallocate ts
    else if bytes_eq w (codes "nullify") then nullify_at n ts else if bytes_eq w (codes "print") then print_at n ts else if bytes_eq w (codes "read") then read_at n ts else None

unfoldable pub keyword_at : ℕ → List Token → Option Act
keyword_at n ts = name_at ts >>= λ m. by_word n m.0 m.1

unfoldable pub act_at : ℕ → List Token → Option Act
act_at n ts = choose (target_at n ts) (keyword_at n ts) (value_at n)
