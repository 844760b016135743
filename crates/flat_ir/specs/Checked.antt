-- Programs that hold together.
use Rattle.std.specs.Prelude.{ℕ, zero, suc, ◌+◌, Bool, true, false, not, ◌&&◌, ◌||◌, nat_eq, nat_le, nat_lt, List, [], ◌∷◌, length, slice_get, Option, Some, None}
use Rattle.std.specs.List.{list_all}
use Rattle.flat_ir.specs.declared.program.Fix.{Fix}
use Rattle.flat_ir.specs.declared.program.Target.{Target}
use Rattle.flat_ir.specs.declared.program.Target.TheVariants as T
use Rattle.flat_ir.specs.declared.program.FlatProgram.{FlatProgram}
use Rattle.flat_ir.specs.Tree.{Expr, Num, Val, Bin, Load, ProcAt, ImageAt, Stmt, Skip, Seq, Set, Store, Call, CallAt, If, Loop, Break, Return, Take, Give, Stop, Limit, Procedure}
use Rattle.flat_ir.specs.View.{proc_of, procs_of}

-- what numbers may name: so many values, procedures, and bytes of the image with the place behind the last
abbrev pub expr_fits : (values procs bytes : ℕ) → Expr → Bool
expr_fits values procs bytes (Num n) = true
expr_fits values procs bytes (Val x) = nat_lt x values
expr_fits values procs bytes (Bin o a b) = expr_fits values procs bytes a && expr_fits values procs bytes b
expr_fits values procs bytes (Load w s a) = expr_fits values procs bytes a
expr_fits values procs bytes (ProcAt p) = nat_lt p procs
expr_fits values procs bytes (ImageAt n) = nat_le n bytes

abbrev pub exprs_fit : (values procs bytes : ℕ) → List Expr → Bool
exprs_fit values procs bytes es = list_all (λ e. expr_fits values procs bytes e) es

-- at most two results, and each value is there
abbrev pub results_fit : ℕ → List ℕ → Bool
results_fit values xs = nat_le (length xs) 2 && list_all (λ x. nat_lt x values) xs

-- each number names what is there, within so many loops
abbrev pub stmt_fits : (values procs bytes loops : ℕ) → Stmt → Bool
stmt_fits values procs bytes loops Skip = true
stmt_fits values procs bytes loops (Seq a b) = stmt_fits values procs bytes loops a && stmt_fits values procs bytes loops b
stmt_fits values procs bytes loops (Set x e) = nat_lt x values && expr_fits values procs bytes e
stmt_fits values procs bytes loops (Store w a e) = expr_fits values procs bytes a && expr_fits values procs bytes e
stmt_fits values procs bytes loops (Call xs p es) = results_fit values xs && (nat_lt p procs && exprs_fit values procs bytes es)
stmt_fits values procs bytes loops (CallAt xs a es) = results_fit values xs && (expr_fits values procs bytes a && exprs_fit values procs bytes es)
stmt_fits values procs bytes loops (If e a b) = expr_fits values procs bytes e && (stmt_fits values procs bytes loops a && stmt_fits values procs bytes loops b)
stmt_fits values procs bytes loops (Loop s) = stmt_fits values procs bytes (loops + 1) s
stmt_fits values procs bytes loops (Break k) = nat_lt k loops
stmt_fits values procs bytes loops (Return es) = nat_le (length es) 2 && exprs_fit values procs bytes es
stmt_fits values procs bytes loops (Take x) = nat_lt x values
stmt_fits values procs bytes loops (Give e) = expr_fits values procs bytes e
stmt_fits values procs bytes loops (Stop e) = expr_fits values procs bytes e
stmt_fits values procs bytes loops (Limit l) = true

-- a value is used
abbrev pub uses : ℕ → Expr → Bool
uses x (Num n) = false
uses x (Val y) = nat_eq y x
uses x (Bin o a b) = uses x a || uses x b
uses x (Load w s a) = uses x a
uses x (ProcAt p) = false
uses x (ImageAt n) = false

abbrev pub any_uses : ℕ → List Expr → Bool
any_uses x [] = false
any_uses x (e ∷ es) = uses x e || any_uses x es

-- a value gets a number
abbrev pub any_is : ℕ → List ℕ → Bool
any_is x [] = false
any_is x (y ∷ ys) = nat_eq y x || any_is x ys

-- what is asked behind the loop of a number
abbrev pub asked_behind : List Bool → ℕ → Bool
asked_behind [] k = false
asked_behind (b ∷ bs) zero = b
asked_behind (b ∷ bs) (suc k) = asked_behind bs k

-- whether some path from here uses a value before it sets it: `after` says so of the paths from the statement's end, and `exits` of those behind each loop around it, the innermost first.
-- A path that goes back to the start of a loop asks there what the loop asks anyway
abbrev pub asks : ℕ → Stmt → Bool → List Bool → Bool
asks x Skip after exits = after
asks x (Seq a b) after exits = asks x a (asks x b after exits) exits
asks x (Set y e) after exits = uses x e || (not (nat_eq y x) && after)
asks x (Store w a e) after exits = uses x a || (uses x e || after)
asks x (Call ys p es) after exits = any_uses x es || (not (any_is x ys) && after)
asks x (CallAt ys a es) after exits = uses x a || (any_uses x es || (not (any_is x ys) && after))
asks x (If e a b) after exits = uses x e || (asks x a after exits || asks x b after exits)
asks x (Loop s) after exits = asks x s false (after ∷ exits)
asks x (Break k) after exits = asked_behind exits k
asks x (Return es) after exits = any_uses x es
asks x (Take y) after exits = not (nat_eq y x) && after
asks x (Give e) after exits = uses x e || after
asks x (Stop e) after exits = uses x e
asks x (Limit l) after exits = false

-- a test holds of each number below n
abbrev pub each_below : ℕ → (ℕ → Bool) → Bool
each_below zero test = true
each_below (suc n) test = each_below n test && test n

-- each value but a parameter is set on every path before it is used
abbrev pub is_set_first : Procedure → ℕ → Bool
is_set_first f x = nat_lt x f.params || not (asks x f.body false [])

abbrev pub proc_fits : (procs bytes : ℕ) → Procedure → Bool
proc_fits procs bytes f = nat_le f.params f.values && (stmt_fits f.values procs bytes 0 f.body && each_below f.values (is_set_first f))

abbrev pub target_fits : (procs bytes : ℕ) → Target → Bool
target_fits procs bytes (T.Proc p) = nat_lt p procs
target_fits procs bytes (T.Image n) = nat_le n bytes

-- a fix has its 8 bytes in the image, and names what is there
abbrev pub fix_fits : (procs bytes : ℕ) → Fix → Bool
fix_fits procs bytes f = nat_le (f.at + 8) bytes && target_fits procs bytes f.target

-- two fixes have no byte in common
abbrev pub are_apart : Fix → Fix → Bool
are_apart f g = nat_le (f.at + 8) g.at || nat_le (g.at + 8) f.at

abbrev pub all_apart : List Fix → Bool
all_apart [] = true
all_apart (f ∷ fs) = list_all (λ g. are_apart f g) fs && all_apart fs

-- there is an entry, with at most five parameters
abbrev pub entry_fits : Option Procedure → Bool
entry_fits None = false
entry_fits (Some f) = nat_le f.params 5

abbrev pub is_ok : FlatProgram → Bool
is_ok p =
    entry_fits (slice_get (procs_of p.procs) p.entry)
    && (list_all (λ f. proc_fits (length p.procs) (length p.image) (proc_of f)) p.procs
    && (list_all (λ f. fix_fits (length p.procs) (length p.image) f) p.fixes && all_apart p.fixes))
