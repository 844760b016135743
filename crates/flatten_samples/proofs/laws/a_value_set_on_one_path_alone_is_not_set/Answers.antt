use Rattle.std.proofs.Common.{[], ◌∷◌, refl, sym, subst, arith, inl, inr, suc, zero}
use Rattle.flatten.specs.declared.blocks.BlockInsn.TheVariants as I
use Rattle.flatten.specs.declared.blocks.BlockEnd.TheVariants as B
use Rattle.flatten.specs.declared.blocks.Block.{Block}
use Rattle.flatten.specs.Paths.{Start, On, IsSet, SetIn}
use Rattle.flatten.proofs.Clear.{head_in, tail_in}
use Rattle.flatten_samples.specs.Samples.{sets_on_one_path}
use Rattle.flatten_samples.proofs.laws.a_value_set_on_one_path_alone_is_not_set.Goals as goal

abbrev chooses : Block
chooses = record { insns = []; end = B.Branch 0 1 2 }

abbrev gives : Block
gives = record { insns = I.Give 1 ∷ []; end = B.Return [] }

none : SetIn 1 [] → ⊥
none (j, i, lt, e, h) = absurd (omega (arith, lt))

-- nothing sets the value on the path that goes straight to the last block
never : IsSet sets_on_one_path (chooses ∷ []) [] 1 → ⊥
never (inl lt) = absurd (omega (arith, lt))
never (inr (inl (zero, b, lt, e, h))) = none (subst (λ b. SetIn 1 b.insns) (sym e) h)
never (inr (inl (suc n, b, lt, e, h))) = absurd (omega (arith, lt))
never (inr (inr h)) = none h

pub returns : goal.returns
returns c h = never (h.insns (chooses ∷ []) 2 gives (On [] 0 chooses 2 Start refl (tail_in 1 (2 ∷ []) 2 (head_in 2 []))) refl [] (I.Give 1) [] refl 1 (head_in 1 []))
