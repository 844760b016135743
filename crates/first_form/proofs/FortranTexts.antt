-- The parts of a Fortran text are determined by it.
use Rattle.std.proofs.Common.{◌≡◌, ◌≢◌, ℕ, List, [], ◌∷◌, ◌++◌, map, refl, sym, ap, subst, ◌∙◌, codes}
use Rattle.first_form.specs.Lines.{text_lines}
use Rattle.first_form.specs.Words.{IsName, IsLabel}
use Rattle.first_form.specs.Forms.{program_lines, interface_lines, call_line, end_line, AreCalls, IsFortranText}
use Rattle.first_form.specs.Readings.{IsNoFortranText}
use Rattle.first_form.proofs.Fronts.{rest_of, start_of, head_of, tail_of}

-- the lines up to the interface
pub program_parts : (lines : List (List ℕ)) (name other : List ℕ) (rest more : List (List ℕ)) → lines ≡ program_lines name ++ rest → lines ≡ program_lines other ++ more
    → (name ≡ other) × (rest ≡ more)
unfolding program_lines
program_parts lines name other rest more e h = (
  rest_of (codes "program ") (codes "program " ++ name) name other refl (head_of e h),
  tail_of refl (tail_of refl (tail_of refl (tail_of e h))),
)

-- the lines of the interface body
pub interface_parts : (lines : List (List ℕ)) (label other : List ℕ) (rest more : List (List ℕ)) → lines ≡ interface_lines label ++ rest → lines ≡ interface_lines other ++ more
    → (label ≡ other) × (rest ≡ more)
unfolding interface_lines
interface_parts lines label other rest more e h = (
  start_of (codes "(c) bind(c)") (label ++ codes "(c) bind(c)") label other refl
      (rest_of (codes "subroutine ") (codes "subroutine " ++ (label ++ codes "(c) bind(c)")) (label ++ codes "(c) bind(c)") (other ++ codes "(c) bind(c)") refl (head_of e h)),
  tail_of refl (tail_of refl (tail_of refl (tail_of refl (tail_of e h)))),
)

pub no_interface : (bytes name : List ℕ) (rest : List (List ℕ)) → text_lines bytes ≡ program_lines name ++ rest → ((label : List ℕ) (more : List (List ℕ)) → rest ≢ interface_lines label ++ more)
    → IsNoFortranText bytes
no_interface bytes name rest e none label calls h = none label _ (program_parts (text_lines bytes) name h.name rest _ e h.lines).1

module _ (bytes name label : List ℕ) (rest more : List (List ℕ)) (opened : text_lines bytes ≡ program_lines name ++ rest) (declared : rest ≡ interface_lines label ++ more) where
  pub name_is : (other calls : List ℕ) (h : IsFortranText bytes other calls) → name ≡ h.name
  name_is other calls h = (program_parts (text_lines bytes) name h.name rest _ opened h.lines).0

  body_parts : (other calls : List ℕ) (h : IsFortranText bytes other calls) → (label ≡ other) × (more ≡ map (call_line other) calls ++ (end_line ∷ []))
  body_parts other calls h = interface_parts rest label other more _ declared (program_parts (text_lines bytes) name h.name rest _ opened h.lines).1

  pub no_words : (IsName name → IsLabel name label → ⊥) → IsNoFortranText bytes
  no_words none other calls h =
      none (subst IsName (sym (name_is other calls h)) h.is_name)
      (subst (λ (x : List ℕ). IsLabel x label) (sym (name_is other calls h)) (subst (IsLabel h.name) (sym (body_parts other calls h).0) h.is_label))

  pub no_calls : ((calls : List ℕ) → AreCalls calls → more ≢ map (call_line label) calls ++ (end_line ∷ [])) → IsNoFortranText bytes
  no_calls none other calls h =
      none calls h.are_calls ((body_parts other calls h).1 ∙ ap (λ (x : List ℕ). map (call_line x) calls ++ (end_line ∷ [])) (sym (body_parts other calls h).0))
