-- The units of the tests can be assembled and linked.
use Rattle.std.proofs.Common.{◌≡◌, ℕ, zero, suc, List, [], ◌∷◌, ◌++◌, length, replicate, refl, sym, ap, ◌∙◌, subst, arith, lit<, inl, inr, ◌⊎◌}
use Rattle.std.specs.Prelude.{slice_get, Some, codes}
use Rattle.rv_isa.specs.declared.insn.Insn.TheVariants.{Addi}
use Rattle.rv_assemble.specs.declared.unit.AsmLine.{AsmLine}
use Rattle.rv_assemble.specs.declared.unit.AsmLine.TheVariants.{Label, Plain, Branch, Call, Address}
use Rattle.rv_assemble.specs.declared.unit.AsmUnit.{AsmUnit}
use Rattle.rv_assemble.specs.declared.object.ObjUnit.{ObjUnit}
use Rattle.rv_assemble.specs.Lines.{IsProperLine, IsProperUnit, HasLabel}
use Rattle.linker.specs.Names.{entry_name}
use Rattle.assembled_run.specs.Program.{AreProper, AreAssembled, AreClosed, StayWithin, AsksFor, Names}
use Rattle.assembled_run.specs.Trial.{end_lines, branch_lines, sums, over_lines, leaf_lines, calling_lines, bare_unit, over_units, calling_units}

-- lines that stand in a unit, whose calls are of `f`, and which ask for no address
abbrev IsTame : List AsmLine → AsmLine → Type 0
IsTame all (Label label) = Unit {0}
IsTame all (Plain i) = IsProperLine all (Plain i)
IsTame all (Branch insn to) = IsProperLine all (Branch insn to)
IsTame all (Call name) = name ≡ codes "f"
IsTame all (Address rd name offset) = ⊥

abbrev AreTame : List AsmLine → List AsmLine → Type 0
AreTame all [] = Unit {0}
AreTame all (line ∷ lines) = IsTame all line × AreTame all lines

tame_append : (all a b : List AsmLine) → AreTame all a → AreTame all b → AreTame all (a ++ b)
tame_append all [] b p q = q
tame_append all (line ∷ a) b p q = (p.0, tame_append all a b p.1 q)

tame_many : (all : List AsmLine) (line : AsmLine) (n : ℕ) → IsTame all line → AreTame all (replicate n line)
tame_many all line zero h = tt
tame_many all line (suc n) h = (h, tame_many all line n h)

tame_at : (all lines : List AsmLine) (k : ℕ) (line : AsmLine) → AreTame all lines → slice_get lines k ≡ Some line → IsTame all line
tame_at all [] k line h g = cc
tame_at all (x ∷ lines) zero line h g = let e : x ≡ line = cc in subst (IsTame all) e h.0
tame_at all (x ∷ lines) (suc k) line h g = tame_at all lines k line h.1 g

tame_proper : (all : List AsmLine) (line : AsmLine) → IsTame all line → IsProperLine all line
tame_proper all (Label label) h = tt
tame_proper all (Plain i) h = h
tame_proper all (Branch insn to) h = h
tame_proper all (Call name) h = tt
tame_proper all (Address rd name offset) h = absurd h

proper : (name : List ℕ) (lines : List AsmLine) → AreTame lines lines → IsProperUnit (bare_unit name lines)
proper name lines h = record {
  lines = λ k line g. tame_proper lines line (tame_at lines lines k line h g);
  fixes = λ k fix g. cc;
  apart = λ i j fix other g l n. cc;
}

no_address : (name : List ℕ) (lines : List AsmLine) → AreTame lines lines → (asked : List ℕ) (offset : ℕ) → AsksFor (bare_unit name lines) asked offset → ⊥
no_address name lines h asked offset (inl a) = tame_at lines lines a.0 _ h a.1.1
no_address name lines h asked offset (inr a) = let g : slice_get [] a.0 ≡ Some a.1.0 = a.1.1 in cc

calls_f : (name : List ℕ) (lines : List AsmLine) → AreTame lines lines → (asked : List ℕ) → Names (bare_unit name lines) asked → asked ≡ codes "f"
calls_f name lines h asked (inl c) = tame_at lines lines c.0 (Call asked) h c.1
calls_f name lines h asked (inr a) = absurd (no_address name lines h asked a.0 a.1)

-- the label behind the branch
in_back : (a b : List AsmLine) (k : ℕ) (line : AsmLine) → slice_get b k ≡ Some line → (m : ℕ) × (slice_get (a ++ b) m ≡ Some line)
in_back [] b k line g = (k, g)
in_back (x ∷ a) b k line g = let f = in_back a b k line g in (suc f.0, f.1)

over_tame : (n : ℕ) → AreTame (over_lines n) (over_lines n)
over_tame n =
    let label : HasLabel (over_lines n) 1 = in_back (branch_lines ++ sums n) (Label 1 ∷ end_lines) 0 (Label 1) refl in
    tame_append (over_lines n) (branch_lines ++ sums n) (Label 1 ∷ end_lines)
    (tame_append (over_lines n) branch_lines (sums n)
    ((lit< tt, lit< tt, (lit< tt, lit< tt)), (((lit< tt, lit< tt), label), tt))
    (tame_many (over_lines n) (Plain (Addi 10 10 1)) n (lit< tt, lit< tt, (lit< tt, lit< tt))))
    (tt, ((lit< tt, lit< tt, (lit< tt, lit< tt)), (tt, tt)))

leaf_tame : AreTame leaf_lines leaf_lines
leaf_tame = ((lit< tt, lit< tt, (lit< tt, lit< tt)), ((lit< tt, lit< tt, (lit< tt, lit< tt)), tt))

calling_tame : AreTame calling_lines calling_lines
calling_tame = (refl, ((lit< tt, lit< tt, (lit< tt, lit< tt)), (tt, tt)))

same_unit : (a b : AsmUnit) → Some a ≡ Some b → a ≡ b
same_unit a b e = cc

-- one unit without calls
pub over_proper : (n : ℕ) → AreProper (over_units n)
over_proper n zero u g = subst IsProperUnit (same_unit (bare_unit entry_name (over_lines n)) u g) (proper entry_name (over_lines n) (over_tame n))
over_proper n (suc i) u g = cc

pub over_within : (n : ℕ) (os : List ObjUnit) → AreAssembled (over_units n) os → StayWithin (over_units n) os
over_within n os made zero j u v o offset g h k asked =
    absurd (no_address entry_name (over_lines n) (over_tame n) v.name offset (subst (λ (w : AsmUnit). AsksFor w v.name offset) (sym (same_unit (bare_unit entry_name (over_lines n)) u g)) asked))
over_within n os made (suc i) j u v o offset g h k asked = cc

-- two units
pub calling_proper : AreProper calling_units
calling_proper zero u g = subst IsProperUnit (same_unit (bare_unit entry_name calling_lines) u g) (proper entry_name calling_lines calling_tame)
calling_proper (suc zero) u g = subst IsProperUnit (same_unit (bare_unit (codes "f") leaf_lines) u g) (proper (codes "f") leaf_lines leaf_tame)
calling_proper (suc (suc i)) u g = cc

pub calling_within : (os : List ObjUnit) → AreAssembled calling_units os → StayWithin calling_units os
calling_within os made zero j u v o offset g h k asked =
    absurd (no_address entry_name calling_lines calling_tame v.name offset (subst (λ (w : AsmUnit). AsksFor w v.name offset) (sym (same_unit (bare_unit entry_name calling_lines) u g)) asked))
calling_within os made (suc zero) j u v o offset g h k asked =
    absurd (no_address (codes "f") leaf_lines leaf_tame v.name offset (subst (λ (w : AsmUnit). AsksFor w v.name offset) (sym (same_unit (bare_unit (codes "f") leaf_lines) u g)) asked))
calling_within os made (suc (suc i)) j u v o offset g h k asked = cc

over_number : (n i : ℕ) (u : AsmUnit) → slice_get (over_units n) i ≡ Some u → i ≡ 0
over_number n zero u g = refl
over_number n (suc i) u g = cc

over_calls : (n k : ℕ) (name : List ℕ) → slice_get (over_lines n) k ≡ Some (Call name) → ⊥
over_calls n zero name g = cc
over_calls n (suc zero) name g = cc
over_calls n (suc (suc k)) name g = behind n k g
  where
    last : (m : ℕ) → slice_get (Label 1 ∷ end_lines) m ≡ Some (Call name) → ⊥
    last zero h = cc
    last (suc zero) h = cc
    last (suc (suc zero)) h = cc
    last (suc (suc (suc m))) h = cc

    behind : (a m : ℕ) → slice_get (sums a ++ Label 1 ∷ end_lines) m ≡ Some (Call name) → ⊥
    behind zero m h = last m h
    behind (suc a) zero h = cc
    behind (suc a) (suc m) h = behind a m h

pub over_closed : (n : ℕ) → AreClosed (over_units n)
over_closed n = record {
  own = λ i j u v g h e. over_number n i u g ∙ sym (over_number n j v h);
  named = λ i u name g asked. absurd (none i u name g asked);
  main = (zero, (bare_unit entry_name (over_lines n), refl, refl));
}
  where
    here : (name : List ℕ) → Names (bare_unit entry_name (over_lines n)) name → ⊥
    here name (inl c) = over_calls n c.0 name c.1
    here name (inr a) = no_address entry_name (over_lines n) (over_tame n) name a.0 a.1

    none : (i : ℕ) (u : AsmUnit) (name : List ℕ) → slice_get (over_units n) i ≡ Some u → Names u name → ⊥
    none zero u name g asked = here name (subst (λ (w : AsmUnit). Names w name) (sym (same_unit (bare_unit entry_name (over_lines n)) u g)) asked)
    none (suc i) u name g asked = cc

abbrev IsNumbered : ℕ → AsmUnit → Type 0
IsNumbered i u = ((i ≡ 0) × (entry_name ≡ u.name)) ⊎ ((i ≡ 1) × (codes "f" ≡ u.name))

calling_number : (i : ℕ) (u : AsmUnit) → slice_get calling_units i ≡ Some u → IsNumbered i u
calling_number zero u g = inl (refl, ap (λ (w : AsmUnit). w.name) (same_unit (bare_unit entry_name calling_lines) u g))
calling_number (suc zero) u g = inr (refl, ap (λ (w : AsmUnit). w.name) (same_unit (bare_unit (codes "f") leaf_lines) u g))
calling_number (suc (suc i)) u g = cc

pub calling_closed : AreClosed calling_units
calling_closed = record {
  own = λ i j u v g h e. by i j u v (calling_number i u g) (calling_number j v h) e;
  named = λ i u name g asked. (suc zero, (bare_unit (codes "f") leaf_lines, refl, sym (called i u name g asked)));
  main = (zero, (bare_unit entry_name calling_lines, refl, refl));
}
  where
    other : entry_name ≡ codes "f" → ⊥
    other e = let n : 4 ≡ 1 = ap (λ (b : List ℕ). length b) e in omega (arith, n)

    by : (i j : ℕ) (u v : AsmUnit) → IsNumbered i u → IsNumbered j v → u.name ≡ v.name → i ≡ j
    by i j u v (inl a) (inl b) e = a.0 ∙ sym b.0
    by i j u v (inr a) (inr b) e = a.0 ∙ sym b.0
    by i j u v (inl a) (inr b) e = absurd (other (a.1 ∙ e ∙ sym b.1))
    by i j u v (inr a) (inl b) e = absurd (other (b.1 ∙ sym e ∙ sym a.1))

    called : (i : ℕ) (u : AsmUnit) (name : List ℕ) → slice_get calling_units i ≡ Some u → Names u name → name ≡ codes "f"
    called zero u name g asked = calls_f entry_name calling_lines calling_tame name (subst (λ (w : AsmUnit). Names w name) (sym (same_unit (bare_unit entry_name calling_lines) u g)) asked)
    called (suc zero) u name g asked = calls_f (codes "f") leaf_lines leaf_tame name (subst (λ (w : AsmUnit). Names w name) (sym (same_unit (bare_unit (codes "f") leaf_lines) u g)) asked)
    called (suc (suc i)) u name g asked = cc
