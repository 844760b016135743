-- What is left is shorter.
use Rattle.std.proofs.Common.{◌≡◌, ℕ, zero, suc, ◌+◌, ◌-◌, ◌≤◌, Bool, true, false, cond, eqb, List, [], ◌∷◌, ◌++◌, length, Option, Some, None, sym, subst, arith}
use Rattle.std.specs.Prelude.{not, ◌&&◌}
use Rattle.f_lex.specs.declared.class.Run.{Run}
use Rattle.f_lex.specs.declared.lines.Context.{Context}
use Rattle.f_lex.specs.declared.lines.Context.TheVariants.{Inside}
use Rattle.f_lex.specs.declared.text.Part.{Part}
use Rattle.f_lex.specs.declared.text.Part.TheVariants.{Byte, Doubled, Joined, Closed, Open, Lost}
use Rattle.f_lex.specs.declared.text.Body.{Body}
use Rattle.f_lex.specs.Characters.{Class, Letter, Digit, Underscore, Blank, LineEnd, Exclamation, Ampersand, Quote, Semicolon, Dot, Mark, Unused, Foreign, Nothing, ampersand, class_at, goes_on, is_next}
use Rattle.f_lex.specs.Lines.{choose, run_at, byte_at, passes_over, next_line, ends_line, is_outside, first_of_line, goes_on_at}
use Rattle.f_lex.specs.Texts.{part_of, part_at, with_part, body_at}

abbrev pub AtMost : List ℕ → Option (List ℕ) → Type 0
AtMost cs None = Unit {0}
AtMost cs (Some r) = length r ≤ length cs

abbrev pub Less : List ℕ → Option (List ℕ) → Type 0
Less cs None = Unit {0}
Less cs (Some r) = length r + 1 ≤ length cs

pub run-length : (r : Run) (cs : List ℕ) → length (run_at r cs).1 ≤ length cs
unfolding run_at
run-length r [] = omega arith
run-length r (c ∷ cs) = pick (run-length r cs) (goes_on r (c ∷ cs))
  where
    snd : List ℕ × List ℕ → List ℕ
    snd s = s.1

    pick : length (run_at r cs).1 ≤ length cs → (b : Bool) → length (snd (cond b (c ∷ (run_at r cs).0, (run_at r cs).1) ([], c ∷ cs))) ≤ length (c ∷ cs)
    pick ih true = omega (arith, ih)
    pick ih false = omega arith

pub byte-length : (b : ℕ) (cs : List ℕ) → Less cs (byte_at b cs)
unfolding byte_at
byte-length b [] = tt
byte-length b (c ∷ cs) = pick (eqb c b)
  where
    pick : (v : Bool) → Less (c ∷ cs) (cond v (Some cs) None)
    pick true = omega arith
    pick false = tt

longer : (c : ℕ) (cs : List ℕ) (o : Option (List ℕ)) → AtMost cs o → AtMost (c ∷ cs) o
longer c cs None h = tt
longer c cs (Some r) h = omega (arith, h)

pub next_line-length : (b : Bool) (cs : List ℕ) → AtMost cs (next_line b cs)
unfolding next_line
next_line-length b [] = tt
next_line-length b (c ∷ cs) = pick (next_line-length true cs) (next_line-length false cs) (passes_over b (class_at (c ∷ cs)))
  where
    pick : AtMost cs (next_line true cs) → AtMost cs (next_line false cs) → (o : Option Bool) → AtMost (c ∷ cs) (choose o (Some (c ∷ cs)) (λ comment. next_line comment cs))
    pick t f None = omega arith
    pick t f (Some true) = longer c cs (next_line true cs) t
    pick t f (Some false) = longer c cs (next_line false cs) f

first-length : (x : Context) (cs : List ℕ) → length (first_of_line x cs) ≤ length cs
unfolding first_of_line
first-length x cs = pick (byte_at ampersand cs) (byte-length ampersand cs)
  where
    inner : (tail : List ℕ) → length tail + 1 ≤ length cs → (v : Bool) → length (cond v cs tail) ≤ length cs
    inner tail h true = omega arith
    inner tail h false = omega (arith, h)

    pick : (o : Option (List ℕ)) → Less cs o → length (choose o cs (λ tail. cond (ends_line x tail) cs tail)) ≤ length cs
    pick None h = omega arith
    pick (Some tail) h = inner tail h (ends_line x tail)

pub goes_on_at-length : (x : Context) (cs : List ℕ) → AtMost cs (goes_on_at x cs)
unfolding goes_on_at
goes_on_at-length x cs = pick (next_line false cs) (next_line-length false cs)
  where
    inner : (r : List ℕ) → length r ≤ length cs → (v : Bool) → AtMost cs (cond v None (Some (first_of_line x r)))
    inner r h true = tt
    inner r h false = omega (arith, h, first-length x r)

    pick : (o : Option (List ℕ)) → AtMost cs o → AtMost cs (choose o None (λ r. cond (not (is_outside x) && not (is_next ampersand r)) None (Some (first_of_line x r))))
    pick None h = tt
    pick (Some r) h = inner r h (not (is_outside x) && not (is_next ampersand r))

-- ---- parts of a text

abbrev pub Shorter : List ℕ → Part × List ℕ → Type 0
Shorter bytes (Open, next) = length next ≤ length bytes
Shorter bytes (_, next) = length next + 1 ≤ length bytes

pub part-length : (quote : ℕ) (bytes : List ℕ) → Shorter bytes (part_at quote bytes)
unfolding part_at
part-length quote [] = omega arith
part-length quote (c ∷ cs) = pick (eqb c quote)
  where
    doubled : (o : Option (List ℕ)) → Less cs o → Shorter (c ∷ cs) (choose o (Closed, cs) (λ next. (Doubled, next)))
    doubled None h = omega arith
    doubled (Some r) h = omega (arith, h)

    joined : (o : Option (List ℕ)) → AtMost cs o → Shorter (c ∷ cs) (choose o (Lost, cs) (λ next. (Joined, next)))
    joined None h = omega arith
    joined (Some r) h = omega (arith, h)

    ending : (v : Bool) → Shorter (c ∷ cs) (cond v (choose (goes_on_at Inside cs) (Lost, cs) (λ next. (Joined, next))) (Byte ampersand, cs))
    ending true = joined (goes_on_at Inside cs) (goes_on_at-length Inside cs)
    ending false = omega arith

    other : (v : Class) → Shorter (c ∷ cs) (part_of v c cs)
    other LineEnd = omega arith
    other Ampersand = ending (ends_line Inside cs)
    other Letter = omega arith
    other Digit = omega arith
    other Underscore = omega arith
    other Blank = omega arith
    other Exclamation = omega arith
    other Quote = omega arith
    other Semicolon = omega arith
    other Dot = omega arith
    other Mark = omega arith
    other Unused = omega arith
    other Foreign = omega arith
    other Nothing = omega arith

    pick : (v : Bool) → Shorter (c ∷ cs) (cond v (choose (byte_at quote cs) (Closed, cs) (λ next. (Doubled, next))) (part_of (class_at (c ∷ cs)) c cs))
    pick true = doubled (byte_at quote cs) (byte-length quote cs)
    pick false = other (class_at (c ∷ cs))

-- ---- the body of a text, as a loop reads it

-- with enough parts allowed, the rest gives the whole
pub record Comes (quote : ℕ) (content : List ℕ) (passed : ℕ) (bytes : List ℕ) (total : Body × List ℕ) : Type 0 where
  pub parts : ℕ
  pub enough : length bytes + 1 ≤ parts
  pub same : body_at parts quote content passed bytes ≡ total

-- what is so far when a part has been read
abbrev pub ComesBehind : ℕ → List ℕ → ℕ → List ℕ → Body × List ℕ → Part × List ℕ → Type 0
ComesBehind quote content passed bytes total (Byte c, next) = Comes quote (content ++ c ∷ []) passed next total
ComesBehind quote content passed bytes total (Doubled, next) = Comes quote (content ++ quote ∷ []) passed next total
ComesBehind quote content passed bytes total (Joined, next) = Comes quote content (passed + (length bytes - length next)) next total
ComesBehind quote content passed bytes total last = with_part quote content passed bytes last (body_at zero quote) ≡ total

pub comes_on : (quote : ℕ) (content : List ℕ) (passed : ℕ) (bytes : List ℕ) (total : Body × List ℕ) → Comes quote content passed bytes total → ComesBehind quote content passed bytes total (part_at quote bytes)
unfolding body_at
comes_on quote content passed bytes total comes = by comes.parts comes.enough comes.same
  where
    pick : (k : ℕ) → length bytes + 1 ≤ suc k → (p : Part × List ℕ) → Shorter bytes p → with_part quote content passed bytes p (body_at k quote) ≡ total → ComesBehind quote content passed bytes total p
    pick k le (Byte c, next) short e = record { parts = k; enough = omega (arith, le, short); same = e }
    pick k le (Doubled, next) short e = record { parts = k; enough = omega (arith, le, short); same = e }
    pick k le (Joined, next) short e = record { parts = k; enough = omega (arith, le, short); same = e }
    pick k le (Closed, next) short e = e
    pick k le (Open, next) short e = e
    pick k le (Lost, next) short e = e

    by : (parts : ℕ) → length bytes + 1 ≤ parts → body_at parts quote content passed bytes ≡ total → ComesBehind quote content passed bytes total (part_at quote bytes)
    by zero le e = absurd (omega (arith, le))
    by (suc k) le e = pick k le (part_at quote bytes) (part-length quote bytes) e

pub behind : (quote : ℕ) (content : List ℕ) (passed : ℕ) (bytes : List ℕ) (total : Body × List ℕ) (part is : Part) (next : List ℕ)
    → let p : Part × List ℕ = (part, next) in p ≡ part_at quote bytes → part ≡ is → Comes quote content passed bytes total → ComesBehind quote content passed bytes total (is, next)
behind quote content passed bytes total part is next e same comes =
    subst (λ (t : Part). ComesBehind quote content passed bytes total (t, next)) same (subst (ComesBehind quote content passed bytes total) (sym e) (comes_on quote content passed bytes total comes))

pub shorter : (quote : ℕ) (bytes : List ℕ) (part is : Part) (next : List ℕ) → let p : Part × List ℕ = (part, next) in p ≡ part_at quote bytes → part ≡ is → Shorter bytes (is, next)
shorter quote bytes part is next e same = subst (λ (t : Part). Shorter bytes (t, next)) same (subst (Shorter bytes) (sym e) (part-length quote bytes))
