-- The image of a program's structured code follows its joint meaning.
use Rattle.std.proofs.Common.{◌≡◌, ℕ, zero, suc, ◌+◌, ◌*◌, inl, inr, List, [], ◌∷◌, Option, Ok, Err, Result, IfOk, sym, ap, ◌∙◌, subst, arith}
use Rattle.std.specs.Prelude.{◌≢◌}
use Rattle.behaviour.specs.Behaviour.{Wrong, Seen}
use Rattle.behaviour.specs.Follows.{Follows}
use Rattle.behaviour.proofs.Composes.{compose, wider}
use Rattle.jf_base.specs.declared.place.Limits.{Limits}
use Rattle.jf_base.specs.declared.place.Memory.{Memory}
use Rattle.jf_base.specs.Limits.{AreLimits}
use Rattle.program_image.specs.declared.Image.{Image}
use Rattle.rv_machine.specs.Loaded.{loaded}
use Rattle.image_run.specs.Behaviour.{image_behaviour}
use Rattle.first_form.specs.declared.program.FirstProgram.{FirstProgram}
use Rattle.first_form.specs.Readings.{IsFirstProgram}
use Rattle.first_meaning.specs.Joint.{joint}
use Rattle.first_meaning.specs.Units.{after_unit, units_of, seen_from, seen_of_units, FitsIn}
use Rattle.first_meaning.proofs.Course.{units_seen}
use Rattle.first_meaning.proofs.Facts.{fits, takes_none}
use Rattle.flat_ir.specs.Placement.{Placement}
use Rattle.flat_ir.specs.declared.program.FlatProgram.{FlatProgram}
use Rattle.flat_ir.specs.Flat.{flat}
use Rattle.flatten.specs.Code.{program_code}
use Rattle.emitted_code.specs.Placed.{placed}
use Rattle.emitted_size.specs.Bounds.{CodeIsLinear}
use Rattle.back_end.specs.Followed.{IsFollowed, instructions}
use Rattle.first_flat.specs.Lowered.{lowered}
use Rattle.first_image.specs.Compiled.{IsCompiled, AreStandard, pace}
use Rattle.first_image.proofs.Counts.{few_instructions, few_bytes}
use Rattle.first_image.proofs.Untaken.{untaken}

-- units that end by themselves are never wrong
right : (us : List (Option ℕ)) (output : List ℕ) (n : ℕ) → (seen_from output us n).ending ≢ Wrong
right us output zero e = absurd (cc)
right [] output (suc n) e = absurd (cc)
right (u ∷ us) output (suc n) e = right us (after_unit u output) n e

-- what the structured code does, as its law says
abbrev pub CodeFollows : Type 0
CodeFollows = (p : FirstProgram) (g : Placement) → AreLimits g.limits → (input : List ℕ) → Follows 1 (flat (lowered p) g input) (joint p g.limits input)

module _ (law : CodeFollows) (p : FirstProgram) (is : IsFirstProgram p) (image : Image) (h : IsFollowed (lowered p) image) (limits : Limits) (standard : AreStandard limits) (input : List ℕ) where
  -- an input of one byte
  abbrev one_byte : List ℕ
  one_byte = 0 ∷ []

  fit : FitsIn p limits
  fit =
      let f = standard.frames in
      fits p limits standard.in_range (omega (arith, f)) is.are_calls.most is.are_puts.most

  joint_is : (i : List ℕ) (n : ℕ) → joint p limits i n ≡ seen_of_units (units_of p) n
  joint_is i n = units_seen p limits i fit n

  never_wrong : (i : List ℕ) (n : ℕ) → (joint p limits i n).ending ≢ Wrong
  never_wrong i n e = right (units_of p) [] n (ap (λ (s : Seen). s.ending) (sym (joint_is i n)) ∙ e)

  none_of_joint : (i : List ℕ) (n : ℕ) → (joint p limits i n).taken ≡ 0
  none_of_joint i n = takes_none p limits i n

  over_one : Follows (pace p) (image_behaviour image limits one_byte) (joint p limits one_byte)
  over_one =
      wider (instructions (lowered p) * (1 + 1)) (pace p) (image_behaviour image limits one_byte) (joint p limits one_byte) (few_instructions p)
      (compose (instructions (lowered p)) 1 (image_behaviour image limits one_byte) (flat (lowered p) (placed (program_code (lowered p)) h.objects limits) one_byte) (joint p limits one_byte)
      (h.follows limits standard.in_range one_byte (omega arith, tt)) (law p (placed (program_code (lowered p)) h.objects limits) standard.in_range one_byte))

  none_of_image : (m : ℕ) → (image_behaviour image limits one_byte m).taken ≡ 0
  none_of_image m = (let b = over_one.back m in elim b.1 [
    | inl e ↦ ap (λ (s : Seen). s.taken) e ∙ none_of_joint one_byte b.0
    | inr e ↦ absurd (never_wrong one_byte b.0 e)
  ])

  image_same : (m : ℕ) → image_behaviour image limits input m ≡ image_behaviour image limits one_byte m
  image_same m = untaken 0 input (loaded image limits) none_of_image m

  joint_same : (n : ℕ) → joint p limits one_byte n ≡ joint p limits input n
  joint_same n = joint_is one_byte n ∙ sym (joint_is input n)

  pub follows : Follows (pace p) (image_behaviour image limits input) (joint p limits input)
  follows = record {
    forth = λ n wrong.
        (let f = over_one.forth n (never_wrong one_byte n) in
        (f.0, f.1, image_same f.0 ∙ (f.2 ∙ joint_same n)));
    back = λ m. (let b = over_one.back m in elim b.1 [
      | inl e ↦ (b.0, inl (image_same m ∙ (e ∙ joint_same b.0)))
      | inr e ↦ absurd (never_wrong one_byte b.0 e)
    ]);
  }

pub compiled : CodeFollows → CodeIsLinear → (p : FirstProgram) → IsFirstProgram p → (image : Image) → IsFollowed (lowered p) image → IsCompiled p image
compiled law linear p is image h = record {
  follows = λ limits standard input. follows law p is image h limits standard input;
  small = (let b = linear (program_code (lowered p)) h.homes h.objects image h.linked in let f = few_bytes p in omega (arith, b, f));
}

pub compiled_at : CodeFollows → CodeIsLinear → (p : FirstProgram) (q : FlatProgram) → q ≡ lowered p → IsFirstProgram p → (r : Result Image Memory) → IfOk r (λ image. IsFollowed q image) → IfOk r (λ image. IsCompiled p image)
compiled_at law linear p q e is (Ok image) h = (let P : FlatProgram → Type 0 = λ q. IsFollowed q image in compiled law linear p is image (subst P e h))
compiled_at law linear p q e is (Err x) h = tt
