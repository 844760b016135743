-- What a line does to the conditionals, and what is left to be acted on.
use Rattle.std.proofs.Common.{◌≡◌, ℕ, Bool, true, false, cond, List, [], ◌∷◌, reverse, Option, Some, None, Result, Ok, Err, refl, sym, ap, ◌∙◌}
use Rattle.jf_base.specs.declared.place.Place.{Place}
use Rattle.c_text.specs.declared.kind.Lexeme.{Lexeme}
use Rattle.c_lines.specs.declared.rule.Rule.{Rule}
use Rattle.c_lines.specs.declared.rule.Fault.{Fault}
use Rattle.c_lines.specs.declared.head.Head.{Head}
use Rattle.c_lines.specs.declared.head.Head.TheVariants as head
use Rattle.c_lines.specs.Rows.{Row}
use Rattle.c_lines.specs.Rules.{first_ill}
use Rattle.c_lines.specs.Heads.{head_at}
use Rattle.c_directives.specs.declared.origin.Origin.{Origin}
use Rattle.c_directives.specs.declared.stop.Stop.{Stop}
use Rattle.c_directives.specs.declared.stop.Stop.TheVariants as stop
use Rattle.c_directives.specs.declared.work.Pre.{Pre}
use Rattle.c_directives.specs.declared.line.Action.{Action}
use Rattle.c_directives.specs.Reads.{Read, At, broken, Says, ◌>>=◌}
use Rattle.c_directives.specs.Texts.{Work, place_of, fault_of, text_at}
use Rattle.c_directives.specs.Reading.{State, Including, Opens, Stand, with_opens, with_work, and_state, is_live, is_conditional, turn_at, act_at, hash_place, unless_ill, directive_at, sorted_at, line_at}
use Rattle.c_directives.specs.Sorting.{state_of, Sorted, work_of, text_line}

module _ (including : Including) (h : Head) (s : State) (os : Opens) (place : Place) (tail : List Lexeme) where
  pub turned : is_conditional h ≡ true → directive_at including h (os, s) place tail ≡ and_state s (turn_at h s.work.macros os place tail)
  turned e = rw e refl

  pub acted : is_conditional h ≡ false → is_live os ≡ true → directive_at including h (os, s) place tail ≡ with_opens os (act_at including h s place tail)
  acted e f = rw (e, f) refl

  pub passed : is_conditional h ≡ false → is_live os ≡ false → directive_at including h (os, s) place tail ≡ Ok (os, s)
  passed e f = rw (e, f) refl

pub turn_fails : {A : Type 0} (x : Stop) (view : A → Opens) (k : ℕ) (pre pre' : Pre) (os os' : Opens) (including : Including) (s : State) (r : Read Opens) (d : Read Stand) → Says {A = A} (Err x) view r → d ≡ and_state s r → Sorted (Err x) k pre pre' os os' including d
turn_fails stop.Memory view k pre pre' os os' including s r d h e = tt
turn_fails (stop.Library name) view k pre pre' os os' including s r d h e = absurd h
turn_fails (stop.At f) view k pre pre' os os' including s r d h e = e ∙ ap (and_state s) h

-- ---- lines

text_rest : (including : Including) (limit : ℕ) (origin : Origin) (os : Opens) (s : State) (row ls : Row) → sorted_at including limit origin (os, s) row (head.Text, ls)
    ≡ cond {A = Read Stand} (is_live os) (with_opens os (with_work s (text_at limit origin s.work ls))) (unless_ill origin (first_ill row) (Ok (os, s)))
text_rest including limit origin os s row ls = refl

module _ (including : Including) (limit : ℕ) (origin : Origin) (os : Opens) (s : State) (row : Row) (h : Head) (tail : Row) (at : (h, tail) ≡ head_at row) where
  line_is : line_at including limit origin (os, s) row ≡ sorted_at including limit origin (os, s) row (h, tail)
  unfolding line_at
  line_is = ap (sorted_at including limit origin (os, s) row) (sym at)

  pub text_line_live : h ≡ head.Text → is_live os ≡ true → line_at including limit origin (os, s) row ≡ with_opens os (with_work s (text_at limit origin s.work tail))
  text_line_live e f = line_is ∙ ap (λ x. sorted_at including limit origin (os, s) row (x, tail)) e ∙ rw f refl

  pub quiet_line : h ≡ head.Text → is_live os ≡ false → line_at including limit origin (os, s) row ≡ unless_ill origin (first_ill row) (Ok (os, s))
  quiet_line e f = line_is ∙ ap (λ x. sorted_at including limit origin (os, s) row (x, tail)) e ∙ rw f refl

  pub directive_line : (h ≡ head.Text → ⊥) → line_at including limit origin (os, s) row ≡ unless_ill origin (first_ill row) (directive_at including h (os, s) (hash_place origin row) tail)
  directive_line n = line_is ∙ pick h refl
    where
      pick : (x : Head) → h ≡ x → sorted_at including limit origin (os, s) row (h, tail) ≡ unless_ill origin (first_ill row) (directive_at including h (os, s) (hash_place origin row) tail)
      pick head.Text e = absurd (n e)
      pick head.Null e = rw e refl
      pick head.Include e = rw e refl
      pick head.Define e = rw e refl
      pick head.Undef e = rw e refl
      pick head.If e = rw e refl
      pick head.Ifdef e = rw e refl
      pick head.Ifndef e = rw e refl
      pick head.Elif e = rw e refl
      pick head.Else e = rw e refl
      pick head.Endif e = rw e refl
      pick head.Error e = rw e refl
      pick head.Pragma e = rw e refl
      pick head.Unknown e = rw e refl

  pub text_is : h ≡ head.Text → line_at including limit origin (os, s) row ≡ with_opens os (with_work s (text_line limit origin (is_live os) s.work row tail))
  text_is e = pick (is_live os) refl
    where
      ill : (o : Option Fault) → unless_ill {A = Stand} origin o (Ok (os, s)) ≡ with_opens os (with_work s (unless_ill {A = Work} origin o (Ok s.work)))
      ill None = refl
      ill (Some f) = refl

      pick : (b : Bool) → is_live os ≡ b → line_at including limit origin (os, s) row ≡ with_opens os (with_work s (cond {A = Read Work} b (text_at limit origin s.work tail) (unless_ill origin (first_ill row) (Ok s.work))))
      pick true f = text_line_live e f
      pick false f = quiet_line e f ∙ ill (first_ill row)

pub work_fails : {A : Type 0} (x : Stop) (view : A → Work) (k : ℕ) (pre pre' : Pre) (os os' os'' : Opens) (including : Including) (s : State) (r : Read Work) (d : Read Stand) → Says {A = A} (Err x) view r → d ≡ with_opens os'' (with_work s r)
    → Sorted (Err x) k pre pre' os os' including d
work_fails stop.Memory view k pre pre' os os' os'' including s r d h e = tt
work_fails (stop.Library name) view k pre pre' os os' os'' including s r d h e = absurd h
work_fails (stop.At f) view k pre pre' os os' os'' including s r d h e = e ∙ ap (λ r. with_opens os'' (with_work s r)) h

pub sorted_broken : (x : Stop) (k : ℕ) (pre pre' : Pre) (os os' : Opens) (including : Including) (r : Rule) (place : Place) (d : Read Stand) → x ≡ stop.At (record { place = place; rule = r }) → d ≡ broken r place → Sorted (Err x) k pre pre' os os' including d
sorted_broken x k pre pre' os os' including r place d xe e = rw xe e
