-- An assembled and linked program keeps the laws of lines.
use Rattle.std.proofs.Common.{◌≡◌, ℕ, zero, suc, ◌+◌, ◌-◌, ◌*◌, ◌/◌, ◌%◌, ◌^◌, ◌<◌, ◌≤◌, Bool, true, false, List, [], ◌∷◌, ◌++◌, length, take, drop, Some, refl, sym, ap, ◌∙◌, subst, arith}
use Rattle.std.specs.Prelude.{slice_get, slice_set, slice_index, if◌then◌else◌, nat_lt, ◌==◌, not}
use Rattle.std.specs.Int.{w32, byte_len, cast_signed}
use Rattle.std.proofs.lemmas.List.{length-set, take-take, length-take-le, take-append-le}
use Rattle.byteorder.specs.Endian.{little_bytes}
use Rattle.std.proofs.lemmas.Bool.Decides.{nat_tests}
use Rattle.program_image.specs.declared.Image.{Image}
use Rattle.rv_isa.specs.declared.insn.Insn.{Insn}
use Rattle.rv_isa.specs.declared.insn.Insn.TheVariants as M
use Rattle.rv_assemble.specs.declared.unit.AsmLine.{AsmLine}
use Rattle.rv_assemble.specs.declared.unit.AsmLine.TheVariants.{Label, Plain, Branch, Call, Address}
use Rattle.rv_assemble.specs.declared.unit.AsmUnit.{AsmUnit}
use Rattle.rv_assemble.specs.declared.object.ObjUnit.{ObjUnit}
use Rattle.rv_machine.specs.declared.event.Event.TheVariants as event
use Rattle.rv_machine.specs.declared.event.Mode.TheVariants as mode
use Rattle.rv_machine.specs.State.{State, register, set_register, next_pc}
use Rattle.rv_machine.specs.Memory.{stored}
use Rattle.rv_machine.specs.Exec.{Run, turn, exec}
use Rattle.rv_machine.proofs.Rows.{set_turn, load_turn, store_turn, jalr_turn, give_turn, exit_turn, byte_turn, end_turn, limit_turn}
use Rattle.rv_machine.proofs.Laws.{IsAtWord}
use Rattle.rv_machine.proofs.Kept.{length-stored}
use Rattle.rv_isa.specs.Encode.{IsEncodable, encode_of}
use Rattle.assembled_run.specs.Program.{AreLinked, UnitAt, line_address, name_address}
use Rattle.assembled_run.specs.Machine.{HasCodeOf, IsAt, moved_to, IsQuiet, Leads, Within}
use Rattle.assembled_run.proofs.Leads.{still, leads_one, at_moved}
use Rattle.assembled_run.proofs.Standing.{offset_code}
use Rattle.assembled_run.proofs.Laws.{plain_at, plain_steps, label_stays, are_in_code, jump_leads, branch_leads, call_leads, address_leads}
use Rattle.flat_ir.specs.Bytes.{Bytes, put}
use Rattle.flat_ir.specs.Ranges.{AreBytes}
use Rattle.flat_ir.specs.Placement.{Placement, heap_end}
use Rattle.flat_ir.proofs.Framing.{put_bytes}
use Rattle.flatten.specs.declared.blocks.BlockProc.{BlockProc}
use Rattle.flatten.specs.declared.blocks.BlockProgram.{BlockProgram}
use Rattle.block_homes.specs.declared.homes.Assignment.{Assignment}
use Rattle.block_homes.specs.Held.{homes_in}
use Rattle.jf_base.specs.Numbers.{size_of_width}
use Rattle.emitted_code.specs.Straight.{Straight, Upper, AddImmediate, ShiftLeft, Operate, LoadFrom, StoreTo, insn_of}
use Rattle.emitted_code.specs.Names.{proc_name, image_name, image_place}
use Rattle.emitted_code.specs.Frames.{layout_of}
use Rattle.emitted_code.specs.Code.{proc_lines}
use Rattle.emitted_code.specs.Room.{IsProc}
use Rattle.emitted_code.proofs.Data.{Data, set, act, Safe, IsTarget}
use Rattle.emitted_code.proofs.MachineMemory.{IsMemory, stored_is}
use Rattle.emitted_code.proofs.Bridge.{From, here, later, from_get, from_next, Like, regs_set, Does, sets, loads, stores, does}
use Rattle.emitted_code.proofs.LineLaws.{Went, Jumped, Called, Turned, Laws}

from_le : (xs : List AsmLine) (k : ℕ) (ls : List AsmLine) → From xs k ls → k ≤ length xs
from_le xs k ls (here w) = omega arith
from_le xs k ls (later x xs' k' w f) = (let h = from_le xs' k' ls f in omega arith)

-- one instruction, with nothing seen
leads_quietly : (r r' : Run) → r.state.mode ≡ mode.Ready → turn r ≡ r' → r'.state.mode ≡ mode.Ready → r'.left ≡ r.left → r'.taken ≡ r.taken → r'.output ≡ r.output → Leads 1 r r'
leads_quietly r r' ready goes m el et eo = record { ends = goes; quiet = by }
  where
    last : IsQuiet r (exec r 1)
    last = subst (λ (w : Run). IsQuiet r w) (sym goes) (record { ready = m; left = el; taken = et; output = eo })

    by : (j : ℕ) → j ≤ 1 → IsQuiet r (exec r j)
    by zero le = still r ready
    by (suc j) le = let e : 0 ≡ j = omega arith in subst (λ (n : ℕ). IsQuiet r (exec r (suc n))) e last

module _ (us : List AsmUnit) (os : List ObjUnit) (image : Image) (made : AreLinked us os image) (low high : ℕ) (bottom : 65536 ≤ low) (code_end : 65536 + image.code_len ≤ low) (bounded : high ≤ 2 ^ 63) where
  pub record On (i : ℕ) (ls : List AsmLine) (d : Data) (r : Run) : Type 0 where
    pub unit : UnitAt us os i
    pub line : ℕ
    pub rest : From unit.unit.lines line ls
    pub at : IsAt image r.state (line_address unit line)
    pub like : Like high r.state d
    pub bytes : AreBytes d.mem

  pub record Addr (i : ℕ) (ls : List AsmLine) (a : ℕ) : Type 0 where
    pub unit : UnitAt us os i
    pub line : ℕ
    pub rest : From unit.unit.lines line ls
    pub is : line_address unit line ≡ a

  pub record Labelled (i b : ℕ) (to : List AsmLine) : Type 0 where
    pub stands : (u : AsmUnit) → slice_get us i ≡ Some u → (m : ℕ) → slice_get u.lines m ≡ Some (Label b) → From u.lines (m + 1) to

  -- where a line is
  place : (i : ℕ) (w : UnitAt us os i) (k : ℕ) (r : Run) (d : Data) → Like high r.state d → IsAt image r.state (line_address w k) → k ≤ length w.unit.lines → (line_address w k % 4 ≡ 0) × (line_address w k < 2 ^ 63 + 1)
  place i w k r d l h le =
      let a = are_in_code us os image made i w k le in
      let a2 = a.2 in
      (a.0, omega arith)

  place_next : (i : ℕ) (w : UnitAt us os i) (k : ℕ) (r : Run) (d : Data) → Like high r.state d → HasCodeOf image r.state → k ≤ length w.unit.lines → line_address w k < 2 ^ 63 + 1
  place_next i w k r d l h le =
      let a = are_in_code us os image made i w k le in
      let a2 = a.2 in
      let e = h.len in
      let o = h.long in
      let m = l.long in
      omega arith

  -- a state that was moved
  like_moved : (r : Run) (d d' : Data) (registers : List ℕ) (p : ℕ) → Like high r.state d → d'.mem ≡ d.mem → length registers ≡ 32 → ((j : ℕ) → j < 32 → slice_index registers j ≡ d'.regs j) → Like high (moved_to r registers p).state d'
  like_moved r d d' registers p l e n h = record { regs = h; mem = λ k lt. l.mem k lt ∙ ap (λ (m : Bytes). m (65536 + k)) (sym e); long = l.long; count = n }

  set_length : (rs : List ℕ) (rd v : ℕ) → length (set_register rs rd v) ≡ length rs
  set_length rs rd v = go (rd == 0)
    where
      go : (b : Bool) → length (if b then rs else slice_set rs rd v) ≡ length rs
      go true = refl
      go false = length-set rs rd v

  bytes_kept : (x : Straight) (d : Data) → AreBytes d.mem → AreBytes (act x d).mem
  bytes_kept (Upper rd imm) d b = b
  bytes_kept (AddImmediate rd rs imm) d b = b
  bytes_kept (ShiftLeft rd rs n) d b = b
  bytes_kept (Operate o rd a k) d b = b
  bytes_kept (LoadFrom w s rd a imm) d b = b
  bytes_kept (StoreTo w k a imm) d b = put_bytes (size_of_width w) d.mem ((d.regs a + imm) % 2 ^ 64) (d.regs k) b

  module _ (q : BlockProgram) (hs : List Assignment) (g : Placement) where
    abbrev Goes : ℕ → ℕ → List AsmLine → Data → Run → Type 0
    Goes n i ls d r = Went q hs g On Addr Labelled n i ls d r

    -- a run that was moved is at the next line
    moved_on : (i : ℕ) (ls : List AsmLine) (d d' : Data) (r : Run) (h : On i ls d r) (n k : ℕ) (registers : List ℕ) (to : List AsmLine) → Leads n r (moved_to r registers (line_address h.unit k)) → From h.unit.unit.lines k to → d'.mem ≡ d.mem → length registers ≡ 32 → ((j : ℕ) → j < 32 → slice_index registers j ≡ d'.regs j) → Goes n i to d' r
    moved_on i ls d d' r h n k registers to l f e len same = record {
      run = moved_to r registers (line_address h.unit k);
      leads = l;
      on = record {
        unit = h.unit;
        line = k;
        rest = f;
        at = at_moved image r (line_address h.unit h.line) registers (line_address h.unit k) h.at (len ∙ sym h.at.count);
        like = like_moved r d d' registers (line_address h.unit k) h.like e len same;
        bytes = λ a. subst (λ (m : Bytes). m a < 256) (sym e) (h.bytes a);
      };
    }

    -- the place of the next line
    next_line : (i : ℕ) (insn : Insn) (ls : List AsmLine) (d : Data) (r : Run) (h : On i (Plain insn ∷ ls) d r) → next_pc r.state ≡ line_address h.unit (h.line + 1)
    next_line i insn ls d r h =
        let g = from_get h.unit.unit.lines h.line (Plain insn) ls h.rest in
        let s = (plain_steps us os image made i h.unit h.line insn g).0 in
        let p = h.at.place in
        let b = (place i h.unit h.line r d h.like h.at (from_le h.unit.unit.lines h.line (Plain insn ∷ ls) h.rest)).1 in
        omega arith

    word : (i : ℕ) (insn : Insn) (ls : List AsmLine) (d : Data) (r : Run) (h : On i (Plain insn ∷ ls) d r) → IsAtWord r.state (encode_of insn) × IsEncodable insn
    word i insn ls d r h = plain_at us os image made i h.unit h.line insn (from_get h.unit.unit.lines h.line (Plain insn) ls h.rest) r.state h.at

    sets_one : (i : ℕ) (insn : Insn) (ls : List AsmLine) (d : Data) (r : Run) (h : On i (Plain insn ∷ ls) d r) (rd v : ℕ) → IsTarget rd → turn r ≡ moved_to r (set_register r.state.registers rd v) (line_address h.unit (h.line + 1)) → Goes 1 i ls (set d rd v) r
    sets_one i insn ls d r h rd v t goes =
        moved_on i (Plain insn ∷ ls) d (set d rd v) r h 1 (h.line + 1) (set_register r.state.registers rd v) ls (leads_one r (set_register r.state.registers rd v) (line_address h.unit (h.line + 1)) h.at.ready goes) (from_next h.unit.unit.lines h.line (Plain insn) ls h.rest) refl
        (set_length r.state.registers rd v ∙ h.like.count) (regs_set r.state.registers d.regs rd v t h.like.count h.like.regs)

    plain : (i : ℕ) (x : Straight) (ls : List AsmLine) (d : Data) (r : Run) → On i (Plain (insn_of x) ∷ ls) d r → Safe low high x d → Goes 1 i ls (act x d) r
    plain i x ls d r h sf = go (does low high bottom x r.state d h.like (let e = h.at.has.len in omega arith) h.bytes sf)
      where
        a : IsAtWord r.state (encode_of (insn_of x)) × IsEncodable (insn_of x)
        a = word i (insn_of x) ls d r h

        p : ℕ
        p = line_address h.unit (h.line + 1)

        place' : next_pc r.state ≡ p
        place' = next_line i (insn_of x) ls d r h

        go : Does r.state d x → Goes 1 i ls (act x d) r
        go (sets rd v e t eq) = subst (λ z. Goes 1 i ls z r) (sym eq) (sets_one i (insn_of x) ls d r h rd v t (set_turn r (insn_of x) rd v p a.0 a.1 e place'))
        go (loads w s rd address at v e there value t eq) = subst (λ z. Goes 1 i ls z r) (sym eq) (sets_one i (insn_of x) ls d r h rd v t (load_turn r (insn_of x) w s rd address at v p a.0 a.1 e there value place'))
        go (stores w address value at e there behind fits eq) =
            let goes = store_turn r (insn_of x) w address value at p a.0 a.1 e there place' in
            let s' : State = record r.state { memory = stored r.state.memory at (byte_len w) value; pc = p; mode = mode.Ready } in
            let r' : Run = record r { state = s' } in
            let len : length (stored r.state.memory at (byte_len w) value) ≡ length r.state.memory = length-stored r.state.memory (byte_len w) at value fits in
            let kept = h.at.has in
            let d' : Data = record { regs = d.regs; mem = put (byte_len w) d.mem (65536 + at) value } in
            let m : IsMemory (stored r.state.memory at (byte_len w) value) d'.mem = stored_is (byte_len w) at value r.state.memory d.mem fits h.like.mem in
            record {
              run = r';
              leads = leads_quietly r r' h.at.ready goes refl refl refl refl;
              on = record {
                unit = h.unit;
                line = h.line + 1;
                rest = from_next h.unit.unit.lines h.line (Plain (insn_of x)) ls h.rest;
                at = record { ready = refl; has = record { len = kept.len; long = omega (arith, kept.long, len); bytes = stored_code r.state.memory r.state.code at (byte_len w) value behind (omega arith) ∙ kept.bytes }; count = h.at.count; place = refl };
                like = subst (λ z. Like high s' z) (sym eq) (record { regs = h.like.regs; mem = m; long = (let l = h.like.long in omega (arith, len)); count = h.like.count });
                bytes = bytes_kept x d h.bytes;
              };
            }
          where
            stored_code : (memory : List ℕ) (code at n v : ℕ) → code ≤ at → at ≤ length memory → take code (stored memory at n v) ≡ take code memory
            stored_code memory code at n v le lt =
                let e : length (take at memory) ≡ at = length-take-le at memory lt in
                take-append-le code (take at memory) (little_bytes n v ++ drop (at + n) memory) (omega arith) ∙ take-take code at memory le

    label : (i b : ℕ) (ls : List AsmLine) (d : Data) (r : Run) → On i (Label b ∷ ls) d r → On i ls d r
    label i b ls d r h =
        let g = from_get h.unit.unit.lines h.line (Label b) ls h.rest in
        record {
          unit = h.unit;
          line = h.line + 1;
          rest = from_next h.unit.unit.lines h.line (Label b) ls h.rest;
          at = subst (λ a. IsAt image r.state a) (sym (label_stays us os image made i h.unit h.line b g)) h.at;
          like = h.like;
          bytes = h.bytes;
        }

    -- behind a jump
    jumped : (i b : ℕ) (ls to : List AsmLine) (d : Data) (r : Run) (h : On i ls d r) (m x : ℕ) → slice_get h.unit.unit.lines m ≡ Some (Label b) → Labelled i b to → (n : ℕ) → n ≤ 3 → Within n r (moved_to r (set_register r.state.registers 6 x) (line_address h.unit m)) → Jumped q hs g On Addr Labelled i to d r
    jumped i b ls to d r h m x gl lb n few w =
        let e = label_stays us os image made i h.unit m b gl in
        let l = subst (λ a. Leads w.count r (moved_to r (set_register r.state.registers 6 x) a)) (sym e) w.leads in
        let six : IsTarget 6 = (omega arith, omega arith) in
        record {
          junk = x;
          count = w.count;
          some = w.some;
          few = (let f = w.few in omega arith);
          went = moved_on i ls d (set d 6 x) r h w.count (m + 1) (set_register r.state.registers 6 x) to l (lb.stands h.unit.unit h.unit.is_unit m gl) refl (set_length r.state.registers 6 x ∙ h.like.count) (regs_set r.state.registers d.regs 6 x six h.like.count h.like.regs);
        }

    jump : (i b : ℕ) (ls to : List AsmLine) (d : Data) (r : Run) → On i (Branch (M.Jal 0 0) b ∷ ls) d r → Labelled i b to → Jumped q hs g On Addr Labelled i to d r
    jump i b ls to d r h lb =
        let j = jump_leads us os image made i h.unit h.line 0 0 b (from_get h.unit.unit.lines h.line (Branch (M.Jal 0 0) b) ls h.rest) in
        let w = j.2 r h.at in
        jumped i b (Branch (M.Jal 0 0) b ∷ ls) to d r h j.0 w.0 j.1 lb 2 (omega arith) w.1

    passed_on : (i : ℕ) (insn : Insn) (b : ℕ) (ls : List AsmLine) (d : Data) (r : Run) (h : On i (Branch insn b ∷ ls) d r) → Leads 1 r (moved_to r r.state.registers (line_address h.unit (h.line + 1))) → Goes 1 i ls d r
    passed_on i insn b ls d r h l = moved_on i (Branch insn b ∷ ls) d d r h 1 (h.line + 1) r.state.registers ls l (from_next h.unit.unit.lines h.line (Branch insn b) ls h.rest) refl h.like.count h.like.regs

    not_zero : (a : ℕ) (d : Data) (r : Run) → Like high r.state d → a < 32 → d.regs 0 ≡ 0 → ¬ (d.regs a ≡ 0) → not (register r.state a == register r.state 0) ≡ true
    not_zero a d r l la z n =
        let ea = l.regs a la in
        let e0 = l.regs 0 (omega arith) ∙ z in
        let k : ¬ (register r.state a ≡ 0) = λ e. n (sym ea ∙ e) in
        let t : (register r.state a == register r.state 0) ≡ false = ap (λ v. register r.state a == v) e0 ∙ (let u : (register r.state a == 0) ≡ false = grind (arith, nat_tests) in u) in
        ap not t

    is_zero : (a : ℕ) (d : Data) (r : Run) → Like high r.state d → a < 32 → d.regs 0 ≡ 0 → d.regs a ≡ 0 → not (register r.state a == register r.state 0) ≡ false
    is_zero a d r l la z e =
        let ea = l.regs a la ∙ e in
        let e0 = l.regs 0 (omega arith) ∙ z in
        ap not (ap (λ v. v == register r.state 0) ea ∙ ap (λ v. 0 == v) e0)

    taken : (i a b : ℕ) (ls to : List AsmLine) (d : Data) (r : Run) → On i (Branch (M.Bne a 0 0) b ∷ ls) d r → a < 32 → d.regs 0 ≡ 0 → ¬ (d.regs a ≡ 0) → Labelled i b to → Jumped q hs g On Addr Labelled i to d r
    taken i a b ls to d r h la z n lb =
        let j = branch_leads us os image made i h.unit h.line (M.Bne a 0 0) b (la, omega arith) (from_get h.unit.unit.lines h.line (Branch (M.Bne a 0 0) b) ls h.rest) in
        let w = j.2 r h.at (not_zero a d r h.like la z n) in
        jumped i b (Branch (M.Bne a 0 0) b ∷ ls) to d r h j.0 w.0 j.1 lb 3 (omega arith) w.1

    passed : (i a b : ℕ) (ls : List AsmLine) (d : Data) (r : Run) → On i (Branch (M.Bne a 0 0) b ∷ ls) d r → a < 32 → d.regs 0 ≡ 0 → d.regs a ≡ 0 → Goes 1 i ls d r
    passed i a b ls d r h la z e =
        let j = branch_leads us os image made i h.unit h.line (M.Bne a 0 0) b (la, omega arith) (from_get h.unit.unit.lines h.line (Branch (M.Bne a 0 0) b) ls h.rest) in
        passed_on i (M.Bne a 0 0) b ls d r h (j.3 r h.at (is_zero a d r h.like la z e))

    less_is : (d : Data) (r : Run) → Like high r.state d → d.regs 5 < d.regs 6 → nat_lt (register r.state 5) (register r.state 6) ≡ true
    less_is d r l lt =
        let e5 = l.regs 5 (omega arith) in
        let e6 = l.regs 6 (omega arith) in
        let k : register r.state 5 < register r.state 6 = omega arith in
        grind (arith, nat_tests)

    less_not : (d : Data) (r : Run) → Like high r.state d → d.regs 6 ≤ d.regs 5 → nat_lt (register r.state 5) (register r.state 6) ≡ false
    less_not d r l lt =
        let e5 = l.regs 5 (omega arith) in
        let e6 = l.regs 6 (omega arith) in
        let k : register r.state 6 ≤ register r.state 5 = omega arith in
        grind (arith, nat_tests)

    less : (i b : ℕ) (ls to : List AsmLine) (d : Data) (r : Run) → On i (Branch (M.Bltu 5 6 0) b ∷ ls) d r → d.regs 5 < d.regs 6 → Labelled i b to → Jumped q hs g On Addr Labelled i to d r
    less i b ls to d r h lt lb =
        let j = branch_leads us os image made i h.unit h.line (M.Bltu 5 6 0) b (omega arith, omega arith) (from_get h.unit.unit.lines h.line (Branch (M.Bltu 5 6 0) b) ls h.rest) in
        let w = j.2 r h.at (less_is d r h.like lt) in
        jumped i b (Branch (M.Bltu 5 6 0) b ∷ ls) to d r h j.0 w.0 j.1 lb 3 (omega arith) w.1

    not_less : (i b : ℕ) (ls : List AsmLine) (d : Data) (r : Run) → On i (Branch (M.Bltu 5 6 0) b ∷ ls) d r → d.regs 6 ≤ d.regs 5 → Goes 1 i ls d r
    not_less i b ls d r h le =
        let j = branch_leads us os image made i h.unit h.line (M.Bltu 5 6 0) b (omega arith, omega arith) (from_get h.unit.unit.lines h.line (Branch (M.Bltu 5 6 0) b) ls h.rest) in
        passed_on i (M.Bltu 5 6 0) b ls d r h (j.3 r h.at (less_not d r h.like le))

    -- a byte was taken
    turned : (i : ℕ) (ls : List AsmLine) (d : Data) (r : Run) (h : On i (Plain M.Ecall ∷ ls) d r) (v : ℕ) (z : Run) → turn r ≡ z → z.state ≡ (moved_to r (set_register r.state.registers 10 v) (line_address h.unit (h.line + 1))).state → Turned q hs g On Addr Labelled i ls (set d 10 v) r (record { state = (turn r).state; left = z.left; taken = z.taken; output = z.output })
    turned i ls d r h v z e es =
        let p = line_address h.unit (h.line + 1) in
        let rs = set_register r.state.registers 10 v in
        let there : (moved_to r rs p).state ≡ (turn r).state = sym es ∙ ap (λ (k : Run). k.state) (sym e) in
        let ten : IsTarget 10 = (omega arith, omega arith) in
        let n : length rs ≡ 32 = set_length r.state.registers 10 v ∙ h.like.count in
        record {
          turns = e ∙ ap (λ (k : Run). record { state = k.state; left = z.left; taken = z.taken; output = z.output }) (sym e);
          on = record {
            unit = h.unit;
            line = h.line + 1;
            rest = from_next h.unit.unit.lines h.line (Plain M.Ecall) ls h.rest;
            at = subst (λ (k : State). IsAt image k p) there (at_moved image r (line_address h.unit h.line) rs p h.at (n ∙ sym h.at.count));
            like = subst (λ (k : State). Like high k (set d 10 v)) there (like_moved r d (set d 10 v) rs p h.like refl n (regs_set r.state.registers d.regs 10 v ten h.like.count h.like.regs));
            bytes = h.bytes;
          };
        }

    -- ECALLs
    takes : (i b : ℕ) (bs : List ℕ) (ls : List AsmLine) (d : Data) (r : Run) → On i (Plain M.Ecall ∷ ls) d r → d.regs 17 ≡ 63 → r.left ≡ b ∷ bs → Turned q hs g On Addr Labelled i ls (set d 10 b) r (record { state = (turn r).state; left = bs; taken = r.taken + 1; output = r.output })
    takes i b bs ls d r h e17 el = turned i ls d r h b (record { state = (moved_to r (set_register r.state.registers 10 b) (line_address h.unit (h.line + 1))).state; left = bs; taken = r.taken + 1; output = r.output }) (byte_turn r b bs (line_address h.unit (h.line + 1)) (word i M.Ecall ls d r h).0 (h.like.regs 17 (omega arith) ∙ e17) el (next_line i M.Ecall ls d r h)) refl

    takes_none : (i : ℕ) (ls : List AsmLine) (d : Data) (r : Run) → On i (Plain M.Ecall ∷ ls) d r → d.regs 17 ≡ 63 → r.left ≡ [] → Turned q hs g On Addr Labelled i ls (set d 10 (2 ^ 64 - 1)) r (record { state = (turn r).state; left = []; taken = r.taken; output = r.output })
    takes_none i ls d r h e17 el =
        let t = turned i ls d r h (2 ^ 64 - 1) (moved_to r (set_register r.state.registers 10 (2 ^ 64 - 1)) (line_address h.unit (h.line + 1))) (end_turn r (line_address h.unit (h.line + 1)) (word i M.Ecall ls d r h).0 (h.like.regs 17 (omega arith) ∙ e17) el (next_line i M.Ecall ls d r h)) refl in
        subst (λ l. Turned q hs g On Addr Labelled i ls (set d 10 (2 ^ 64 - 1)) r (record { state = (turn r).state; left = l; taken = r.taken; output = r.output })) el t

    gives : (i : ℕ) (ls : List AsmLine) (d : Data) (r : Run) → On i (Plain M.Ecall ∷ ls) d r → d.regs 17 ≡ 64 → Turned q hs g On Addr Labelled i ls d r (record { state = (turn r).state; left = r.left; taken = r.taken; output = r.output ++ (d.regs 10 % 256) ∷ [] })
    gives i ls d r h e17 =
        let p = line_address h.unit (h.line + 1) in
        let b = d.regs 10 % 256 in
        let e = give_turn r b p (word i M.Ecall ls d r h).0 (h.like.regs 17 (omega arith) ∙ e17) (ap (λ v. v % 256) (h.like.regs 10 (omega arith))) (next_line i M.Ecall ls d r h) in
        record {
          turns = e ∙ ap (λ (z : Run). record { state = z.state; left = r.left; taken = r.taken; output = r.output ++ b ∷ [] }) (sym e);
          on = record {
            unit = h.unit;
            line = h.line + 1;
            rest = from_next h.unit.unit.lines h.line (Plain M.Ecall) ls h.rest;
            at = subst (λ (z : Run). IsAt image z.state p) (sym e) (at_moved image r (line_address h.unit h.line) r.state.registers p h.at refl);
            like = subst (λ (z : Run). Like high z.state d) (sym e) (like_moved r d d r.state.registers p h.like refl h.like.count h.like.regs);
            bytes = h.bytes;
          };
        }

    stops : (i : ℕ) (ls : List AsmLine) (d : Data) (r : Run) → On i (Plain M.Ecall ∷ ls) d r → d.regs 17 ≡ 93 → turn r ≡ record { state = record r.state { mode = mode.Ended (event.Exit (cast_signed w32 (d.regs 10 % 2 ^ 32))) }; left = r.left; taken = r.taken; output = r.output }
    stops i ls d r h e17 = exit_turn r (d.regs 10) (word i M.Ecall ls d r h).0 (h.like.regs 17 (omega arith) ∙ e17) (h.like.regs 10 (omega arith))

    limits : (i n : ℕ) (ls : List AsmLine) (d : Data) (r : Run) → On i (Plain M.Ecall ∷ ls) d r → d.regs 17 ≡ 94 → d.regs 10 ≡ n → n ≤ 1 → turn r ≡ record { state = record r.state { mode = mode.Ended (event.Limited n) }; left = r.left; taken = r.taken; output = r.output }
    limits i n ls d r h e17 en le = limit_turn r n (word i M.Ecall ls d r h).0 (h.like.regs 17 (omega arith) ∙ e17) (h.like.regs 10 (omega arith) ∙ en) le

    -- the unit of a procedure, and of the image
    pub record ProcUnit (p : ℕ) (f : BlockProc) : Type 0 where
      pub unit : UnitAt us os p
      pub named : unit.unit.name ≡ proc_name p
      pub lines : unit.unit.lines ≡ proc_lines (layout_of f (homes_in (slice_get hs p))) f
      pub some : 0 < length unit.object.code
      pub address : g.procs p < 2 ^ 64 → g.procs p ≡ line_address unit 0

    pub record ImageUnit : Type 0 where
      pub unit : UnitAt us os (length q.procs)
      pub named : unit.unit.name ≡ image_name
      pub address : (n : ℕ) → n ≤ length q.image → name_address unit (image_place n) ≡ g.image + n

    module _ (procs : (p : ℕ) (f : BlockProc) → IsProc q p f → ProcUnit p f) (with_image : ImageUnit) where
      abbrev code : ℕ → BlockProc → List AsmLine
      code p f = proc_lines (layout_of f (homes_in (slice_get hs p))) f

      -- at the first line of a procedure
      at_proc : (i p : ℕ) (f : BlockProc) (ls : List AsmLine) (d d' : Data) (r : Run) (h : On i ls d r) (u : ProcUnit p f) (n : ℕ) (registers : List ℕ) → Leads n r (moved_to r registers (line_address u.unit 0)) → d'.mem ≡ d.mem → length registers ≡ 32 → ((j : ℕ) → j < 32 → slice_index registers j ≡ d'.regs j) → Goes n p (code p f) d' r
      at_proc i p f ls d d' r h u n registers l e len same = record {
        run = moved_to r registers (line_address u.unit 0);
        leads = l;
        on = record {
          unit = u.unit;
          line = 0;
          rest = subst (λ xs. From xs 0 (code p f)) (sym u.lines) (here (code p f));
          at = at_moved image r (line_address h.unit h.line) registers (line_address u.unit 0) h.at (len ∙ sym h.at.count);
          like = like_moved r d d' registers (line_address u.unit 0) h.like e len same;
          bytes = λ a. subst (λ (m : Bytes). m a < 256) (sym e) (h.bytes a);
        };
      }

      one_target : IsTarget 1
      one_target = (omega arith, omega arith)

      call : (i p : ℕ) (f : BlockProc) (ls : List AsmLine) (d : Data) (r : Run) → On i (Call (proc_name p) ∷ ls) d r → IsProc q p f → Called q hs g On Addr Labelled 2 i ls p f d r
      call i p f ls d r h ip =
          let u = procs p f ip in
          let back = line_address h.unit (h.line + 1) in
          let rest = from_next h.unit.unit.lines h.line (Call (proc_name p)) ls h.rest in
          let l = call_leads us os image made i h.unit h.line (proc_name p) (from_get h.unit.unit.lines h.line (Call (proc_name p)) ls h.rest) p u.unit u.named u.some r h.at in
          let lt = (place_next i h.unit (h.line + 1) r d h.like h.at.has (from_le h.unit.unit.lines (h.line + 1) ls rest)) in
          record {
            address = back;
            small = omega (arith, lt);
            stands = record { unit = h.unit; line = h.line + 1; rest = rest; is = refl };
            went = at_proc i p f (Call (proc_name p) ∷ ls) d (set d 1 back) r h u 2 (set_register r.state.registers 1 back) l refl (set_length r.state.registers 1 back ∙ h.like.count) (regs_set r.state.registers d.regs 1 back one_target h.like.count h.like.regs);
          }

      call_at : (i p : ℕ) (f : BlockProc) (ls : List AsmLine) (d : Data) (r : Run) → On i (Plain (M.Jalr 1 6 0) ∷ ls) d r → IsProc q p f → d.regs 6 < 2 ^ 64 → d.regs 6 ≡ g.procs p → Called q hs g On Addr Labelled 1 i ls p f d r
      call_at i p f ls d r h ip lt6 e6 =
          let u = procs p f ip in
          let back = line_address h.unit (h.line + 1) in
          let rest = from_next h.unit.unit.lines h.line (Plain (M.Jalr 1 6 0)) ls h.rest in
          let to = line_address u.unit 0 in
          let there : register r.state 6 ≡ to = h.like.regs 6 (omega arith) ∙ (e6 ∙ u.address (subst (λ v. v < 2 ^ 64) e6 lt6)) in
          let whole = (are_in_code us os image made p u.unit 0 (omega arith)).0 in
          let target : (register r.state 6 + 0) % 2 ^ 64 / 2 * 2 ≡ to = (let lo = subst (λ v. v < 2 ^ 64) (sym (h.like.regs 6 (omega arith))) lt6 in omega arith) in
          let a = word i (M.Jalr 1 6 0) ls d r h in
          let goes = jalr_turn r 1 6 0 to back a.0 a.1 target whole (next_line i (M.Jalr 1 6 0) ls d r h) in
          let lt = (place_next i h.unit (h.line + 1) r d h.like h.at.has (from_le h.unit.unit.lines (h.line + 1) ls rest)) in
          record {
            address = back;
            small = omega (arith, lt);
            stands = record { unit = h.unit; line = h.line + 1; rest = rest; is = refl };
            went = at_proc i p f (Plain (M.Jalr 1 6 0) ∷ ls) d (set d 1 back) r h u 1 (set_register r.state.registers 1 back) (leads_one r (set_register r.state.registers 1 back) to h.at.ready goes) refl (set_length r.state.registers 1 back ∙ h.like.count) (regs_set r.state.registers d.regs 1 back one_target h.like.count h.like.regs);
          }

      back : (i j : ℕ) (ls to : List AsmLine) (d : Data) (r : Run) → On i (Plain (M.Jalr 0 1 0) ∷ ls) d r → Addr j to (d.regs 1) → Goes 1 j to d r
      back i j ls to d r h s =
          let p = line_address s.unit s.line in
          let there : register r.state 1 ≡ p = h.like.regs 1 (omega arith) ∙ sym s.is in
          let le = from_le s.unit.unit.lines s.line to s.rest in
          let whole = (are_in_code us os image made j s.unit s.line le).0 in
          let lt = place_next j s.unit s.line r d h.like h.at.has le in
          let target : (register r.state 1 + 0) % 2 ^ 64 / 2 * 2 ≡ p = omega arith in
          let a = word i (M.Jalr 0 1 0) ls d r h in
          let goes = jalr_turn r 0 1 0 p (line_address h.unit (h.line + 1)) a.0 a.1 target whole (next_line i (M.Jalr 0 1 0) ls d r h) in
          record {
            run = moved_to r r.state.registers p;
            leads = leads_one r r.state.registers p h.at.ready goes;
            on = record {
              unit = s.unit;
              line = s.line;
              rest = s.rest;
              at = at_moved image r (line_address h.unit h.line) r.state.registers p h.at refl;
              like = like_moved r d d r.state.registers p h.like refl h.like.count h.like.regs;
              bytes = h.bytes;
            };
          }

      -- an address in a register
      address_set : (i rd : ℕ) (name : List ℕ) (offset : ℕ) (ls : List AsmLine) (d : Data) (r : Run) (h : On i (Address rd name offset ∷ ls) d r) (v : ℕ) → IsTarget rd → Leads 2 r (moved_to r (set_register r.state.registers rd v) (line_address h.unit (h.line + 1))) → Goes 2 i ls (set d rd v) r
      address_set i rd name offset ls d r h v t l =
          moved_on i (Address rd name offset ∷ ls) d (set d rd v) r h 2 (h.line + 1) (set_register r.state.registers rd v) ls l (from_next h.unit.unit.lines h.line (Address rd name offset) ls h.rest) refl
          (set_length r.state.registers rd v ∙ h.like.count) (regs_set r.state.registers d.regs rd v t h.like.count h.like.regs)

      first_place : (p : ℕ) (f : BlockProc) (u : ProcUnit p f) → name_address u.unit 0 ≡ line_address u.unit 0
      first_place p f u =
          let e = offset_code us os image made p u.unit 0 u.some in
          let z = u.unit.assembled.begins in
          omega (arith, e, z)

      proc_address : (i p rd : ℕ) (f : BlockProc) (ls : List AsmLine) (d : Data) (r : Run) → On i (Address rd (proc_name p) 0 ∷ ls) d r → IsTarget rd → IsProc q p f → g.procs p < 2 ^ 64 → Goes 2 i ls (set d rd (g.procs p)) r
      proc_address i p rd f ls d r h t ip lt =
          let u = procs p f ip in
          let l = address_leads us os image made i h.unit h.line rd (proc_name p) 0 (from_get h.unit.unit.lines h.line (Address rd (proc_name p) 0) ls h.rest) p u.unit u.named r h.at in
          let e : name_address u.unit 0 ≡ g.procs p = first_place p f u ∙ sym (u.address lt) in
          address_set i rd (proc_name p) 0 ls d r h (g.procs p) t (subst (λ v. Leads 2 r (moved_to r (set_register r.state.registers rd v) (line_address h.unit (h.line + 1)))) e l)

      image_address : (i n rd : ℕ) (ls : List AsmLine) (d : Data) (r : Run) → On i (Address rd image_name (image_place n) ∷ ls) d r → IsTarget rd → n ≤ length q.image → Goes 2 i ls (set d rd (g.image + n)) r
      image_address i n rd ls d r h t le =
          let u = with_image in
          let l = address_leads us os image made i h.unit h.line rd image_name (image_place n) (from_get h.unit.unit.lines h.line (Address rd image_name (image_place n)) ls h.rest) (length q.procs) u.unit u.named r h.at in
          address_set i rd image_name (image_place n) ls d r h (g.image + n) t (subst (λ v. Leads 2 r (moved_to r (set_register r.state.registers rd v) (line_address h.unit (h.line + 1)))) (u.address n le) l)

      pub laws : g.image ≡ low → heap_end (length q.image) g ≡ high → Laws q hs g On Addr Labelled
      laws el eh = record {
        ready = λ i ls d r h. h.at.ready;
        plain = λ i x ls d r h sf. plain i x ls d r h (subst (λ b. Safe low b x d) eh (subst (λ a. Safe a (heap_end (length q.image) g) x d) el sf));
        label = λ i b ls d r h. label i b ls d r h;
        jump = λ i b ls to d r h lb. jump i b ls to d r h lb;
        taken = λ i a b ls to d r h la z n lb. taken i a b ls to d r h la z n lb;
        passed = λ i a b ls d r h la z e. passed i a b ls d r h la z e;
        less = λ i b ls to d r h lt lb. less i b ls to d r h lt lb;
        not_less = λ i b ls d r h le. not_less i b ls d r h le;
        call = λ i p f ls d r h ip. call i p f ls d r h ip;
        call_at = λ i p f ls d r h ip lt e. call_at i p f ls d r h ip lt e;
        back = λ i j ls to d r h s. back i j ls to d r h s;
        proc_address = λ i p rd f ls d r h t ip lt. proc_address i p rd f ls d r h t ip lt;
        image_address = λ i n rd ls d r h t le. image_address i n rd ls d r h t le;
        takes = λ i b bs ls d r h e el. takes i b bs ls d r h e el;
        takes_none = λ i ls d r h e el. takes_none i ls d r h e el;
        gives = λ i ls d r h e. gives i ls d r h e;
        stops = λ i ls d r h e. stops i ls d r h e;
        limits = λ i n ls d r h e en le. limits i n ls d r h e en le;
      }
