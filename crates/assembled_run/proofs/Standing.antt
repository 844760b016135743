-- The lines of a unit in the linked image, at their addresses.
use Rattle.std.proofs.Common.{◌≡◌, ℕ, zero, suc, ◌+◌, ◌%◌, ◌<◌, ◌≤◌, ◌⊎◌, inl, inr, List, [], ◌∷◌, length, take, refl, sym, ap, ◌∙◌, subst, arith, length-append}
use Rattle.std.specs.Prelude.{slice_get, slice_index, Some}
use Rattle.std.proofs.lemmas.Option.{slice_get_within}
use Rattle.jf_base.specs.Numbers.{number_low_first}
use Rattle.program_image.specs.declared.Image.{Image}
use Rattle.rv_isa.specs.declared.insn.Insn.{Insn}
use Rattle.rv_isa.specs.declared.insn.Insn.TheVariants.{Jal, Jalr, Addi}
use Rattle.rv_assemble.specs.declared.unit.AsmLine.{AsmLine}
use Rattle.rv_assemble.specs.declared.unit.AsmLine.TheVariants.{Label, Plain, Branch, Call, Address}
use Rattle.rv_assemble.specs.declared.unit.AsmUnit.{AsmUnit}
use Rattle.rv_assemble.specs.declared.object.ObjUnit.{ObjUnit}
use Rattle.rv_assemble.specs.declared.object.Relocation.{Relocation}
use Rattle.rv_assemble.specs.declared.object.RelocationKind.TheVariants.{Pair}
use Rattle.rv_assemble.specs.Lines.{Stands, MakesDistance, Jumps, Branches, LineAt, asked_by, distance}
use Rattle.rv_assemble.specs.Places.{IsConditional}
use Rattle.linker.specs.Layout.{codes, laid, offset_of}
use Rattle.linker.specs.Patched.{HasDistance}
use Rattle.linker.specs.Linked.{NameLies, Defines}
use Rattle.linker.proofs.Sites.{code_before, code_within, codes-fit, length-laid, part, lies_below}
use Rattle.assembled_run.specs.Program.{AreLinked, UnitAt}
use Rattle.assembled_run.proofs.Follows.{further, within, whole, whole_code}
use Rattle.assembled_run.proofs.Asked.{Request, origin, asked, fix_behind}
use Rattle.assembled_run.proofs.Linkable.{unit_at, named}
use Rattle.assembled_run.proofs.Bytes.{number_kept, laid_number, IsClear}
use Rattle.assembled_run.proofs.Jumps.{IsPlace}
use Rattle.assembled_run.proofs.Moved.{jumps_kept, branches_kept, conditional_reaches, call_filled, address_filled}
use Rattle.assembled_run.proofs.Once.{one_definition}

same_line : (a b : AsmLine) → Some a ≡ Some b → a ≡ b
same_line a b e = cc

same_object : (a b : ObjUnit) → Some a ≡ Some b → a ≡ b
same_object a b e = cc

-- the code of units whose codes are multiples of 4 bytes ends at such a multiple
before_whole : (os : List ObjUnit) (i : ℕ) → ((k : ℕ) (o : ObjUnit) → slice_get os k ≡ Some o → length o.code % 4 ≡ 0) → code_before os i % 4 ≡ 0
before_whole [] zero h = refl
before_whole [] (suc i) h = refl
before_whole (o ∷ os) zero h = refl
before_whole (o ∷ os) (suc i) h =
    let r = before_whole os i (λ k v g. h (suc k) v g) in
    let f = h 0 o refl in
    let a = length-append o.code (codes (take i os)) in
    omega (arith, r, f, a)

module _ (us : List AsmUnit) (os : List ObjUnit) (image : Image) (made : AreLinked us os image) where
  object_whole : (k : ℕ) (o : ObjUnit) → slice_get os k ≡ Some o → length o.code % 4 ≡ 0
  object_whole k o g =
      let c = made.assembled.count in
      let lt = slice_get_within os k o g in
      let w = unit_at us os made.assembled k (omega (arith, c, lt)) in
      let e : w.object ≡ o = same_object w.object o (sym w.is_object ∙ g) in
      ap (λ (v : ObjUnit). length v.code % 4) (sym e) ∙ whole_code w.unit w.object w.assembled

  pub start_whole : (i : ℕ) → code_before os i % 4 ≡ 0
  start_whole i = before_whole os i object_whole

  pub code_len_small : image.code_len < 2000000000
  code_len_small =
      let c = made.linked.code_len in
      let l = made.linked.count in
      let a = length-laid os in
      let s = made.small in
      omega (arith, c, l, a, s)

  -- a pair of the image has the distance
  abbrev HasDistanceTo : ℕ → ℕ → Type 0
  HasDistanceTo at target = HasDistance (laid os) image.bytes at (distance at target)

  module _ (i : ℕ) (w : UnitAt us os i) where
    -- a place of the unit, and where it stands in the image
    abbrev pub place : ℕ → ℕ
    place k = slice_index w.assembled.places k

    abbrev pub start : ℕ
    start = code_before os i

    pub code_fits : start + length w.object.code ≤ image.code_len
    code_fits =
        let a = code_within os i w.object w.is_object in
        let b = codes-fit os in
        let c = made.linked.code_len in
        omega (arith, a, b, c)

    bytes_fit : start + length w.object.code ≤ length image.bytes
    bytes_fit =
        let a = code_fits in
        let b = length-laid os in
        let c = made.linked.code_len in
        let d = made.linked.count in
        omega (arith, a, b, c, d)

    pub place_at : (k : ℕ) → k < length w.unit.lines → IsPlace image (start + place k) (start + place (k + 1))
    place_at k lt =
        let a = start_whole i in
        let b = whole w.unit w.object w.assembled k (omega (arith, lt)) in
        let c = within w.unit w.object w.assembled (k + 1) (omega (arith, lt)) in
        let d = code_fits in
        record { whole = omega (arith, a, b); inside = omega (arith, c, d); small = code_len_small }

    pub place_whole : (k : ℕ) → k ≤ length w.unit.lines → (start + place k) % 4 ≡ 0
    place_whole k le = let a = start_whole i in let b = whole w.unit w.object w.assembled k le in omega (arith, a, b)

    pub place_small : (k : ℕ) → k ≤ length w.unit.lines → start + place k < 2000000000
    place_small k le =
        let c = within w.unit w.object w.assembled k le in
        let d = code_fits in
        let s = code_len_small in
        omega (arith, c, d, s)

    -- no request lies over a line that asks for nothing
    clear : (k : ℕ) (line : AsmLine) → slice_get w.unit.lines k ≡ Some line → ((p : ℕ) → asked_by p line ≡ []) → (q : ℕ) → place k ≤ q → q < place (k + 1) → IsClear w.object q
    clear k line g none q low high j r h = elim (origin w.unit w.object w.assembled j r h) [
      | inl f ↦ of_line f
      | inr f ↦ (
          let b = fix_behind w.unit w.object w.assembled r f in
          let c = within w.unit w.object w.assembled (k + 1) (let lt = slice_get_within w.unit.lines k line g in omega (arith, lt)) in
          inl (omega (arith, b, c, high)))
    ]
      where
        order : (x y : ℕ) → (x < y) ⊎ ((x ≡ y) ⊎ (y < x))
        order x y = grind arith

        of_line : Request w.unit w.object w.assembled.places r → (q < r.at) ⊎ (r.at + 8 ≤ q)
        of_line f = by (order f.of.index k)
          where
            by : (f.of.index < k) ⊎ ((f.of.index ≡ k) ⊎ (k < f.of.index)) → (q < r.at) ⊎ (r.at + 8 ≤ q)
            by (inl lt) =
                let n = f.next in
                let m = further w.unit w.object w.assembled (f.of.index + 1) k (omega (arith, lt)) (let l = slice_get_within w.unit.lines k line g in omega (arith, l)) in
                inr (omega (arith, n, m, low))
            by (inr (inr gt)) =
                let a = f.at in
                let m = further w.unit w.object w.assembled (k + 1) f.of.index (omega (arith, gt)) (let l = f.below in omega (arith, l)) in
                inl (omega (arith, a, m, high))
            by (inr (inl e)) =
                let s : f.of.line ≡ line = same_line f.of.line line (sym f.of.stands ∙ ap (λ (n : ℕ). slice_get w.unit.lines n) e ∙ g) in
                let a : asked_by (place f.of.index) line ≡ r ∷ [] = subst (λ (l : AsmLine). asked_by (place f.of.index) l ≡ r ∷ []) s f.of.asks in
                let b = none (place f.of.index) in
                cc

    -- a word of such a line
    kept : (k : ℕ) (line : AsmLine) → slice_get w.unit.lines k ≡ Some line → ((p : ℕ) → asked_by p line ≡ []) → (at : ℕ) (insn : Insn) → place k ≤ at → at + 4 ≤ place (k + 1) → Stands w.object.code at insn
        → Stands image.bytes (start + at) insn
    kept k line g none at insn low high st =
        let inside = st.inside in
        let fits = bytes_fit in
        record {
          inside = omega (arith, inside, fits);
          word = record {
            encodable = st.word.encodable;
            word = st.word.word ∙ sym (number_kept os image made.linkable made.linked i w.object w.is_object 4 at inside (λ q l m. clear k line g none q (omega (arith, low, l)) (omega (arith, m, high))));
          };
        }

    line_fits : (k : ℕ) (line : AsmLine) → slice_get w.unit.lines k ≡ Some line → LineAt w.unit.lines w.assembled.places w.object.code (place k) (place (k + 1)) line
    line_fits k line g = w.assembled.lines k line g

    -- an instruction
    pub plain_stands : (k : ℕ) (insn : Insn) → slice_get w.unit.lines k ≡ Some (Plain insn) → (place (k + 1) ≡ place k + 4) × Stands image.bytes (start + place k) insn
    plain_stands k insn g =
        let h = line_fits k (Plain insn) g in
        let n = h.0 in
        (n, kept k (Plain insn) g (λ p. refl) (place k) insn (omega arith) (omega (arith, n)) h.1)

    -- a label
    pub label_place : (k label : ℕ) → slice_get w.unit.lines k ≡ Some (Label label) → place (k + 1) ≡ place k
    label_place k label g = line_fits k (Label label) g

    -- a line of the unit is at a small place
    small : (k : ℕ) (line : AsmLine) → slice_get w.unit.lines k ≡ Some line → place k < 2000000000
    small k line g = let lt = slice_get_within w.unit.lines k line g in let s = place_small k (omega (arith, lt)) in omega (arith, s)

    start_small : start < 2000000000
    start_small = let s = place_small 0 (omega arith) in omega (arith, s)

    next_small : (k : ℕ) (line : AsmLine) → slice_get w.unit.lines k ≡ Some line → place (k + 1) < 2000000000
    next_small k line g = let lt = slice_get_within w.unit.lines k line g in let s = place_small (k + 1) (omega (arith, lt)) in omega (arith, s)

    -- a jump, and a conditional branch
    pub jump_stands : (k rd imm to : ℕ) → slice_get w.unit.lines k ≡ Some (Branch (Jal rd imm) to)
        → (m : ℕ) × (slice_get w.unit.lines m ≡ Some (Label to)) × Jumps image.bytes rd (start + place k) (start + place (k + 1)) (start + place m)
    jump_stands k rd imm to g =
        let h = line_fits k (Branch (Jal rd imm) to) g in (
          h.0,
          h.1,
          jumps_kept w.object.code image.bytes start (place k) (place (k + 1)) (kept k (Branch (Jal rd imm) to) g (λ p. refl)) start_small (next_small k _ g) rd (place k) (place (k + 1)) (place h.0)
              (omega arith) (omega arith) (small h.0 (Label to) h.1) h.2,
        )

    pub branch_stands : (k : ℕ) (insn : Insn) (to : ℕ) → IsConditional insn → slice_get w.unit.lines k ≡ Some (Branch insn to)
        → (m : ℕ) × (slice_get w.unit.lines m ≡ Some (Label to)) × Branches image.bytes insn (start + place k) (start + place (k + 1)) (start + place m)
    branch_stands k insn to can g =
        let h = line_fits k (Branch insn to) g in
        let b = conditional_reaches w.object.code insn (place k) (place (k + 1)) (place h.0) can h.2 in (
          h.0,
          h.1,
          branches_kept w.object.code image.bytes start (place k) (place (k + 1)) (kept k (Branch insn to) g (λ p. refl)) start_small (next_small k _ g) insn (place k) (place (k + 1)) (place h.0)
              (omega arith) (wide (place h.0) b) (omega arith) (small h.0 (Label to) h.1) b,
        )
      where
        after : (p n t : ℕ) → Jumps w.object.code 0 p n t → p ≤ n
        after p n t (inl j) = let e = j.0 in omega (arith, e)
        after p n t (inr j) = let e = j.0 in omega (arith, e)

        wide : (t : ℕ) → Branches w.object.code insn (place k) (place (k + 1)) t → place k + 4 ≤ place (k + 1)
        wide t (inl j) = let e = j.0 in omega (arith, e)
        wide t (inr j) = let e = after (place k + 4) (place (k + 1)) t j.1 in omega (arith, e)

    -- where a place of the code lies
    pub offset_code : (at : ℕ) → at < length w.object.code → offset_of os i w.object at ≡ start + at
    offset_code at lt = elim (part os i w.object at).is [
      | inl h ↦ h.1
      | inr h ↦ (let le = h.0 in absurd (omega (arith, le, lt)))
    ]

    -- the name of a unit lies at its start
    pub name_lies : (j : ℕ) (d : UnitAt us os j) (name : List ℕ) (more target : ℕ) → d.unit.name ≡ name → NameLies os name more target → target ≡ offset_of os j d.object more
    name_lies j d name more target is n =
        let defined : Defines os name j d.object 0 = (
          d.is_object,
          (
            0,
            (let e : slice_get d.object.names 0 ≡ Some (d.unit.name, 0) = ap (λ (ns : List (List ℕ × ℕ)). slice_get ns 0) d.assembled.names in
                subst (λ (m : List ℕ). slice_get d.object.names 0 ≡ Some (m, 0)) is e),
          ),
        ) in
        let number = one_definition os name n.index j n.place 0 n.unit d.object (made.sound name) n.defines defined in
        let object : n.unit ≡ d.object = same_object n.unit d.object (sym n.defines.0 ∙ ap (λ (m : ℕ). slice_get os m) number ∙ d.is_object) in
        let names : slice_get d.object.names n.defines.1.0 ≡ Some (name, n.place) = subst (λ (o : ObjUnit). slice_get o.names n.defines.1.0 ≡ Some (name, n.place)) object n.defines.1.1 in
        let zero_place : n.place ≡ 0 = (named d.unit d.object d.assembled n.defines.1.0 n.place name names).1 in
        let sum : n.place + more ≡ more = omega (arith, zero_place) in
        n.offset_is ∙ ap (λ (m : ℕ). offset_of os m n.unit (n.place + more)) number ∙ ap (λ (o : ObjUnit). offset_of os j o (n.place + more)) object ∙ ap (λ (m : ℕ). offset_of os j d.object m) sum

    -- a place of a name is one of the image, or its end
    target_small : (k : ℕ) (line : AsmLine) (r : Relocation) (target : ℕ) → slice_get w.unit.lines k ≡ Some line → asked_by (place k) line ≡ r ∷ [] → NameLies os r.name r.offset target → target < 2000000000
    target_small k line r target g s n =
        let j = asked w.unit w.object w.assembled k line r g s in
        let le = lies_below os r.name r.offset target n (λ a p v d. (made.linkable i w.object w.is_object).targets j.0 a p r v j.1 d) in
        let l = made.linked.count in
        let m = made.small in
        omega (arith, le, l, m)

    -- a call
    pub call_stands : (k : ℕ) (name : List ℕ) (j : ℕ) (d : UnitAt us os j) → slice_get w.unit.lines k ≡ Some (Call name) → d.unit.name ≡ name
        → (place (k + 1) ≡ place k + 8) × (offset_of os j d.object 0 < 2000000000) × MakesDistance image.bytes (start + place k) 1 (distance (start + place k) (offset_of os j d.object 0)) (λ low. Jalr 1 1 low)
    call_stands k name j d g is =
        let h = line_fits k (Call name) g in
        let n = h.0 in
        let r : Relocation = record { at = place k; name = name; offset = 0; kind = Pair } in
        let f = asked w.unit w.object w.assembled k (Call name) r g refl in
        let done = made.linked.resolved i f.0 w.object r w.is_object f.1 in
        let lt = slice_get_within w.unit.lines k (Call name) g in
        let fits = within w.unit w.object w.assembled (k + 1) (omega (arith, lt)) in
        let bytes = bytes_fit in
        let here = offset_code (place k) (omega (arith, n, fits)) in
        let there = name_lies j d name 0 done.target is done.lies in
        let low = target_small k (Call name) r done.target g refl done.lies in
        let has = subst (λ (m : ℕ). HasDistanceTo (start + place k) m) there (subst (λ (m : ℕ). HasDistanceTo m done.target) here done.has) in
        let e : start + place k + 4 ≡ start + (place k + 4) = omega arith in (
          n,
          omega (arith, low, there),
          call_filled w.object.code (laid os) image.bytes (place k) (start + place k) (distance (start + place k) (offset_of os j d.object 0))
              (laid_number os i w.object 4 (place k) w.is_object (omega (arith, n, fits)))
              (ap (λ (m : ℕ). number_low_first m 4 (laid os)) e ∙ laid_number os i w.object 4 (place k + 4) w.is_object (omega (arith, n, fits)))
              (omega (arith, n, fits, bytes)) has h.1 h.2,
        )

    -- an address
    pub address_stands : (k rd : ℕ) (name : List ℕ) (offset j : ℕ) (d : UnitAt us os j) → rd < 32 → slice_get w.unit.lines k ≡ Some (Address rd name offset) → d.unit.name ≡ name
        → (place (k + 1) ≡ place k + 8) × (offset_of os j d.object offset < 2000000000)
        × MakesDistance image.bytes (start + place k) rd (distance (start + place k) (offset_of os j d.object offset)) (λ low. Addi rd rd low)
    address_stands k rd name offset j d few g is =
        let h = line_fits k (Address rd name offset) g in
        let n = h.0 in
        let r : Relocation = record { at = place k; name = name; offset = offset; kind = Pair } in
        let f = asked w.unit w.object w.assembled k (Address rd name offset) r g refl in
        let done = made.linked.resolved i f.0 w.object r w.is_object f.1 in
        let lt = slice_get_within w.unit.lines k (Address rd name offset) g in
        let fits = within w.unit w.object w.assembled (k + 1) (omega (arith, lt)) in
        let bytes = bytes_fit in
        let here = offset_code (place k) (omega (arith, n, fits)) in
        let there = name_lies j d name offset done.target is done.lies in
        let low = target_small k (Address rd name offset) r done.target g refl done.lies in
        let has = subst (λ (m : ℕ). HasDistanceTo (start + place k) m) there (subst (λ (m : ℕ). HasDistanceTo m done.target) here done.has) in
        let e : start + place k + 4 ≡ start + (place k + 4) = omega arith in (
          n,
          omega (arith, low, there),
          address_filled w.object.code (laid os) image.bytes (place k) (start + place k) (distance (start + place k) (offset_of os j d.object offset))
              (laid_number os i w.object 4 (place k) w.is_object (omega (arith, n, fits)))
              (ap (λ (m : ℕ). number_low_first m 4 (laid os)) e ∙ laid_number os i w.object 4 (place k + 4) w.is_object (omega (arith, n, fits)))
              (omega (arith, n, fits, bytes)) has rd few h.1 h.2,
        )
