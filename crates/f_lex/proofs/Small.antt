-- Classes, runs, single bytes and continuation: what is read is spelled so, and what is spelled so is read.
use Rattle.std.proofs.Common.{◌≡◌, ℕ, Bool, true, false, cond, eqb, List, [], ◌∷◌, ◌++◌, Option, Some, None, refl, sym, ap, subst, ◌∙◌}
use Rattle.std.specs.Prelude.{◌||◌, ◌&&◌, not}
use Rattle.std.proofs.lemmas.Bool.{eqb-true, eq-eqb}
use Rattle.f_lex.specs.declared.class.Run.{Run}
use Rattle.f_lex.specs.declared.class.Run.TheVariants as run
use Rattle.f_lex.specs.declared.lines.Context.{Context}
use Rattle.f_lex.specs.declared.lines.Context.TheVariants.{Outside, Inside}
use Rattle.f_lex.specs.Characters.{Class, Letter, Digit, Underscore, Blank, LineEnd, Exclamation, Ampersand, Quote, Semicolon, Dot, Mark, Unused, Foreign, Nothing, line_feed, carriage_return, ampersand, underscore, within, from_blank, from_dot, class_of, class_at, goes_on, is_next}
use Rattle.f_lex.specs.Lines.{choose, run_at, byte_at, passes_over, next_line, is_outside, ends_line, first_of_line, goes_on_at}
use Rattle.f_lex.specs.Grammar.{AreRun, AreBetween, with_lead, HasLead, Continues}

-- ---- classes

abbrev pub Means : Class → ℕ → Type 0
Means Ampersand c = c ≡ 38
Means Dot c = c ≡ 46
Means Nothing c = ⊥
Means _ c = Unit {0}

either : (c : ℕ) (b : Bool) (x y : Class) → (b ≡ true → Means x c) → (b ≡ false → Means y c) → Means (cond b x y) c
either c true x y f g = f refl
either c false x y f g = g refl

of_means : (c : ℕ) → Means (class_of c) c
unfolding class_of
of_means c =
    either c (within 65 90 c || within 97 122 c) Letter _ (λ e. tt) (λ e. either c (within 48 57 c) Digit _ (λ e. tt) (λ e. either c (eqb c 95) Underscore (from_blank c) (λ e. tt)
    (λ e. either c (eqb c 32 || eqb c 9) Blank _ (λ e. tt) (λ e. either c (eqb c 10) LineEnd _ (λ e. tt) (λ e. either c (eqb c 33) Exclamation _ (λ e. tt)
    (λ e. either c (eqb c 38) Ampersand _ (λ e. eqb-true c 38 e) (λ e. either c (eqb c 34 || eqb c 39) Quote _ (λ e. tt) (λ e. either c (eqb c 59) Semicolon (from_dot c) (λ e. tt)
    (λ e. either c (eqb c 46) Dot _ (λ e. eqb-true c 46 e)
    (λ e. either c (eqb c 37 || within 40 47 c || eqb c 58 || within 60 62 c || eqb c 91 || eqb c 93) Mark _ (λ e. tt)
    (λ e. either c (within 35 36 c || within 63 64 c || eqb c 92 || eqb c 94 || eqb c 96 || within 123 126 c) Unused Foreign (λ e. tt) (λ e. tt))))))))))))

pub class_means : (c : ℕ) (cs : List ℕ) → Means (class_at (c ∷ cs)) c
unfolding class_at
class_means c cs = either c (eqb c carriage_return && is_next line_feed cs) Blank (class_of c) (λ e. tt) (λ e. of_means c)

pub is_class : (v : Class) (c : ℕ) (cs : List ℕ) → class_at (c ∷ cs) ≡ v → Means v c
is_class v c cs e = subst (λ (w : Class). Means w c) e (class_means c cs)

pub class_ampersand : (cs : List ℕ) → class_at (ampersand ∷ cs) ≡ Ampersand
unfolding class_at class_of
class_ampersand cs = refl

pub class_dot : (cs : List ℕ) → class_at (46 ∷ cs) ≡ Dot
unfolding class_at class_of
class_dot cs = refl

pub class_underscore : (cs : List ℕ) → class_at (underscore ∷ cs) ≡ Underscore
unfolding class_at class_of
class_underscore cs = refl

-- a quote is one whatever stands behind it
pub quote_stays : (q : ℕ) (xs ys : List ℕ) → class_at (q ∷ xs) ≡ Quote → class_at (q ∷ ys) ≡ Quote
unfolding class_at class_of
quote_stays q xs ys e = pick (eqb q carriage_return) refl e
  where
    thirteen : (b : Bool) → cond b Blank (class_of 13) ≡ Quote → ⊥
    thirteen true e = cc
    thirteen false e = cc

    pick : (v : Bool) → eqb q carriage_return ≡ v → cond (v && is_next line_feed xs) Blank (class_of q) ≡ Quote → cond (v && is_next line_feed ys) Blank (class_of q) ≡ Quote
    pick false is e = e
    pick true is e = absurd (thirteen (is_next line_feed xs) (subst (λ (n : ℕ). cond (is_next line_feed xs) Blank (class_of n) ≡ Quote) (eqb-true q 13 is) e))

-- a character of another class is no quote
pub no_quote : (c q : ℕ) (cs qs : List ℕ) → class_at (q ∷ qs) ≡ Quote → (class_at (c ∷ cs) ≡ Quote → ⊥) → eqb c q ≡ false
no_quote c q cs qs e other = pick (eqb c q) refl
  where
    pick : (v : Bool) → eqb c q ≡ v → v ≡ false
    pick false is = refl
    pick true is = absurd (other (subst (λ (n : ℕ). class_at (n ∷ cs) ≡ Quote) (sym (eqb-true c q is)) (quote_stays q qs cs e)))

-- ---- runs

abbrev pub IsRun : Run → List ℕ → List ℕ × List ℕ → Type 0
IsRun r cs s = (cs ≡ s.0 ++ s.1) × AreRun r s.0 s.1

no_run : (r : Run) → goes_on r [] ≡ false
unfolding goes_on class_at
no_run run.Letters = refl
no_run run.Digits = refl
no_run run.Name = refl
no_run run.Word = refl
no_run run.Blanks = refl
no_run run.Comment = refl

pub run_sound : (r : Run) (cs : List ℕ) → IsRun r cs (run_at r cs)
unfolding run_at
run_sound r [] = (refl, no_run r)
run_sound r (c ∷ cs) = pick (run_sound r cs) (goes_on r (c ∷ cs)) refl
  where
    pick : IsRun r cs (run_at r cs) → (b : Bool) → goes_on r (c ∷ cs) ≡ b → IsRun r (c ∷ cs) (cond b (c ∷ (run_at r cs).0, (run_at r cs).1) ([], c ∷ cs))
    pick ih true e = (ap (λ l. c ∷ l) ih.0, (ap (λ (l : List ℕ). goes_on r (c ∷ l)) (sym ih.0) ∙ e, ih.1))
    pick ih false e = (refl, e)

pub run_again : (r : Run) (xs rest : List ℕ) → AreRun r xs rest → run_at r (xs ++ rest) ≡ (xs, rest)
unfolding run_at
run_again r [] [] a = refl
run_again r [] (c ∷ rest) a = rw a refl
run_again r (x ∷ xs) rest a = rw (a.0, run_again r xs rest a.1) refl

-- ---- bytes

abbrev pub IsByte : ℕ → List ℕ → Option (List ℕ) → Type 0
IsByte b cs None = is_next b cs ≡ false
IsByte b cs (Some r) = cs ≡ b ∷ r

pub byte_sound : (b : ℕ) (cs : List ℕ) → IsByte b cs (byte_at b cs)
unfolding byte_at is_next
byte_sound b [] = refl
byte_sound b (c ∷ cs) = pick (eqb c b) refl
  where
    pick : (v : Bool) → eqb c b ≡ v → IsByte b (c ∷ cs) (cond v (Some cs) None)
    pick true e = ap (λ c. c ∷ cs) (eqb-true c b e)
    pick false e = e

pub byte_again : (b : ℕ) (cs : List ℕ) → byte_at b (b ∷ cs) ≡ Some cs
unfolding byte_at
byte_again b cs = rw (eq-eqb b b refl) refl

pub no_byte : (b : ℕ) (cs : List ℕ) → is_next b cs ≡ false → byte_at b cs ≡ None
unfolding byte_at is_next
no_byte b [] n = refl
no_byte b (c ∷ cs) n = rw n refl

-- ---- continued lines

abbrev pub IsBetween : Bool → List ℕ → Option (List ℕ) → Type 0
IsBetween b cs None = Unit {0}
IsBetween b cs (Some r) = (xs : List ℕ) × (cs ≡ xs ++ r) × AreBetween b xs r

one_more : (b comment : Bool) (c : ℕ) (cs : List ℕ) (o : Option (List ℕ)) → passes_over b (class_at (c ∷ cs)) ≡ Some comment → IsBetween comment cs o → IsBetween b (c ∷ cs) o
one_more b comment c cs None e i = tt
one_more b comment c cs (Some r) e (xs, is, are) = (c ∷ xs, ap (λ l. c ∷ l) is, (comment, subst (λ (l : List ℕ). passes_over b (class_at (c ∷ l)) ≡ Some comment) is e, are))

pub between_sound : (b : Bool) (cs : List ℕ) → IsBetween b cs (next_line b cs)
unfolding next_line
between_sound b [] = tt
between_sound b (c ∷ cs) = pick (between_sound true cs) (between_sound false cs) (passes_over b (class_at (c ∷ cs))) refl
  where
    pick : IsBetween true cs (next_line true cs) → IsBetween false cs (next_line false cs) → (o : Option Bool) → passes_over b (class_at (c ∷ cs)) ≡ o → IsBetween b (c ∷ cs) (choose o (Some (c ∷ cs)) (λ comment. next_line comment cs))
    pick t f None e = ([], refl, e)
    pick t f (Some true) e = one_more b true c cs (next_line true cs) e t
    pick t f (Some false) e = one_more b false c cs (next_line false cs) e f

pub between_again : (b : Bool) (xs rest : List ℕ) → AreBetween b xs rest → next_line b (xs ++ rest) ≡ Some rest
unfolding next_line
between_again b [] [] a = absurd a
between_again b [] (c ∷ rest) a = rw a refl
between_again b (x ∷ xs) rest (comment, e, a) = rw e (between_again comment xs rest a)

pub lead_sound : (x : Context) (cs : List ℕ) → (lead : Bool) × (cs ≡ with_lead lead (first_of_line x cs))
unfolding first_of_line
lead_sound x cs = pick (byte_at ampersand cs) (byte_sound ampersand cs)
  where
    inner : (tail : List ℕ) → cs ≡ ampersand ∷ tail → (v : Bool) → (lead : Bool) × (cs ≡ with_lead lead (cond v cs tail))
    inner tail e true = (false, refl)
    inner tail e false = (true, e)

    pick : (o : Option (List ℕ)) → IsByte ampersand cs o → (lead : Bool) × (cs ≡ with_lead lead (choose o cs (λ tail. cond (ends_line x tail) cs tail)))
    pick None i = (false, refl)
    pick (Some tail) i = inner tail i (ends_line x tail)

abbrev pub IsContinued : Context → List ℕ → Option (List ℕ) → Type 0
IsContinued x cs None = Unit {0}
IsContinued x cs (Some rest) = (between : List ℕ) × (lead : Bool) × (cs ≡ between ++ with_lead lead rest) × Continues x between lead rest

continued : (x : Context) (cs xs line : List ℕ) → ends_line x cs ≡ true → cs ≡ xs ++ line → AreBetween false xs line → HasLead x line → (lead : Bool) × (line ≡ with_lead lead (first_of_line x line)) → IsContinued x cs (Some (first_of_line x line))
continued x cs xs line e is are has (lead, l) = (
  xs,
  lead,
  is ∙ ap (λ r. xs ++ r) l,
  record {
    last = subst (λ (r : List ℕ). ends_line x r ≡ true) (is ∙ ap (λ r. xs ++ r) l) e;
    stands_between = subst (AreBetween false xs) l are;
    has_lead = subst (HasLead x) l has;
    goes_on = ap (first_of_line x) (sym l);
  },
)

pub continues_sound : (x : Context) (cs : List ℕ) → ends_line x cs ≡ true → IsContinued x cs (goes_on_at x cs)
unfolding goes_on_at
continues_sound x cs e = pick (next_line false cs) (between_sound false cs)
  where
    lead_of : (x : Context) (r : List ℕ) (v : Bool) → is_next ampersand r ≡ v → (not (is_outside x) && not v) ≡ false → HasLead x r
    lead_of Outside r v is t = tt
    lead_of Inside r true is t = is
    lead_of Inside r false is t = cc

    inner : (xs r : List ℕ) → cs ≡ xs ++ r → AreBetween false xs r → (v : Bool) → (not (is_outside x) && not (is_next ampersand r)) ≡ v → IsContinued x cs (cond v None (Some (first_of_line x r)))
    inner xs r is are true t = tt
    inner xs r is are false t = continued x cs xs r e is are (lead_of x r (is_next ampersand r) refl t) (lead_sound x r)

    pick : (o : Option (List ℕ)) → IsBetween false cs o → IsContinued x cs (choose o None (λ r. cond (not (is_outside x) && not (is_next ampersand r)) None (Some (first_of_line x r))))
    pick None i = tt
    pick (Some r) (xs, is, are) = inner xs r is are (not (is_outside x) && not (is_next ampersand r)) refl

pub continues_again : (x : Context) (between : List ℕ) (lead : Bool) (rest : List ℕ) → Continues x between lead rest → goes_on_at x (between ++ with_lead lead rest) ≡ Some rest
unfolding goes_on_at
continues_again x between lead rest h = rw (between_again false between (with_lead lead rest) h.stands_between, passes x h.has_lead, h.goes_on) refl
  where
    passes : (x : Context) → HasLead x (with_lead lead rest) → (not (is_outside x) && not (is_next ampersand (with_lead lead rest))) ≡ false
    passes Outside has = refl
    passes Inside has = rw has refl
