-- The blocks of a program: how large they are, and that its procedures' frames have room.
use Rattle.std.proofs.Common.{◌≡◌, ℕ, zero, suc, ◌+◌, ◌*◌, ◌%◌, ◌^◌, ◌<◌, ◌≤◌, true, false, List, [], ◌∷◌, ◌++◌, length, refl, sym, ap, ◌∙◌, subst, arith}
use Rattle.std.specs.Prelude.{map, not, ◌==◌}
use Rattle.std.proofs.lemmas.Bool.Decides.{nat_tests}
use Rattle.first_form.specs.declared.program.FirstProgram.{FirstProgram}
use Rattle.first_form.specs.declared.program.PutcharArgument.{PutcharArgument}
use Rattle.first_form.specs.declared.program.PutcharArgument.TheVariants.{Parameter, Number}
use Rattle.first_meaning.specs.Charges.{main_tokens, function_tokens, frame}
use Rattle.flat_ir.specs.declared.program.FlatExpr.TheVariants as E
use Rattle.flat_ir.specs.declared.program.FlatStmt.TheVariants as S
use Rattle.flat_ir.specs.View.{stmts_of, proc_of}
use Rattle.flatten.specs.declared.blocks.BlockEnd.TheVariants as B
use Rattle.flatten.specs.declared.blocks.BlockProc.{BlockProc}
use Rattle.flatten.specs.Code.{Code, only, code, spare_of, proc_code, program_code}
use Rattle.emitted_code.specs.Frames.{most_words, words_of_blocks, need, is_charged}
use Rattle.emitted_code.specs.Room.{IsProc, HasRoom}
use Rattle.emitted_size.specs.Bounds.{end_parts, insns_parts, blocks_parts}
use Rattle.first_flat.specs.Lowered.{put_stmt, function_proc, call_stmt, main_proc, lowered}

-- one block, of so many parts beside its end, which passes no word on the stack
record IsStraight (c : Code) (parts : ℕ) : Type 0 where
  alone : c.others ≡ []
  words : most_words c.first.insns ≤ 0
  few : insns_parts c.first.insns ≤ parts
  end : end_parts c.first.end ≡ 1

puts_straight : (t : ℕ) (puts : List PutcharArgument) → IsStraight (code (stmts_of (map put_stmt puts)) t 1 [] (only (B.Return []))) (2 * length puts)
unfolding code
puts_straight t [] = record { alone = refl; words = omega arith; few = omega arith; end = refl }
puts_straight t (Parameter ∷ puts) = (let r = puts_straight t puts in record { alone = r.alone; words = (let w = r.words in omega (arith, w)); few = (let f = r.few in omega arith); end = r.end })
puts_straight t (Number n ∷ puts) = (let r = puts_straight t puts in record { alone = r.alone; words = (let w = r.words in omega (arith, w)); few = (let f = r.few in omega arith); end = r.end })

calls_straight : (t : ℕ) (cs : List ℕ) → IsStraight (code (stmts_of (map call_stmt cs ++ S.Stop (E.Number 0) ∷ [])) t 1 [] (only (B.Return []))) (3 * length cs + 1)
unfolding code
calls_straight t [] = record { alone = refl; words = omega arith; few = omega arith; end = refl }
calls_straight t (c ∷ cs) = (let r = calls_straight t cs in record { alone = r.alone; words = (let w = r.words in omega (arith, w)); few = (let f = r.few in omega arith); end = r.end })

puts_spare : (puts : List PutcharArgument) → spare_of (stmts_of (map put_stmt puts)) ≤ 1
puts_spare [] = omega arith
puts_spare (Parameter ∷ puts) = omega (arith, puts_spare puts)
puts_spare (Number n ∷ puts) = omega (arith, puts_spare puts)

calls_spare : (cs : List ℕ) → spare_of (stmts_of (map call_stmt cs ++ S.Stop (E.Number 0) ∷ [])) ≤ 1
calls_spare [] = omega arith
calls_spare (c ∷ cs) = omega (arith, calls_spare cs)

-- a procedure of straight code
pub record IsLow (f : BlockProc) (tokens parts : ℕ) : Type 0 where
  pub frame : f.frame ≡ frame tokens
  pub values : f.values ≤ 2
  pub words : words_of_blocks f.blocks ≤ 0
  pub few : blocks_parts f.blocks ≤ parts + 1

low : (c : Code) (parts : ℕ) → IsStraight c parts → (words_of_blocks (c.first ∷ c.others) ≤ 0) × (blocks_parts (c.first ∷ c.others) ≤ parts + 1)
low c parts s =
    let a = ap words_of_blocks s.alone in
    let b = ap blocks_parts s.alone in
    let w = s.words in
    let f = s.few in
    let e = s.end in
    (omega (arith, w, a), omega (arith, b, f, e))

module _ (p : FirstProgram) where
  abbrev pub function : BlockProc
  function = proc_code (proc_of (function_proc p))

  abbrev pub main : BlockProc
  main = proc_code (proc_of (main_proc p))

  pub function_low : IsLow function (function_tokens p) (2 * length p.puts)
  function_low =
      let l = low (code (stmts_of (map put_stmt p.puts)) 1 1 [] (only (B.Return []))) (2 * length p.puts) (puts_straight 1 p.puts) in
      let s = puts_spare p.puts in
      record { frame = refl; values = omega (arith, s); words = l.0; few = l.1 }

  pub main_low : IsLow main (main_tokens p) (3 * length p.calls + 1)
  main_low =
      let l = low (code (stmts_of (map call_stmt p.calls ++ S.Stop (E.Number 0) ∷ [])) 0 1 [] (only (B.Return []))) (3 * length p.calls + 1) (calls_straight 0 p.calls) in
      let s = calls_spare p.calls in
      record { frame = refl; values = omega (arith, s); words = l.0; few = l.1 }

-- its frame is charged, and takes what it needs
charged_so : (f : BlockProc) (tokens parts : ℕ) → IsLow f tokens parts → is_charged f ≡ true
charged_so f tokens parts h =
    let e = h.frame in
    let some : (f.frame == 0) ≡ false = grind (arith, nat_tests, e) in
    ap not some

fits_so : (f : BlockProc) (tokens parts : ℕ) → IsLow f tokens parts → tokens ≤ 1000 → (f.frame % 16 ≡ 0) × (need f ≤ f.frame) × (f.frame < 2 ^ 64)
fits_so f tokens parts h few =
    let e = h.frame in
    let v = h.values in
    let w = h.words in
    (omega (arith, e), omega (arith, e, v, w), omega (arith, e, few))

module _ (p : FirstProgram) (few_calls : length p.calls ≤ 100) (few_puts : length p.puts ≤ 100) where
  -- what holds of both procedures holds of each
  each : (P : BlockProc → Type 0) → P (function p) → P (main p) → (i : ℕ) (f : BlockProc) → IsProc (program_code (lowered p)) i f → P f
  each P a b zero f e = let same : function p ≡ f = cc in subst P same a
  each P a b (suc zero) f e = let same : main p ≡ f = cc in subst P same b
  each P a b (suc (suc i)) f e = absurd (cc)

  abbrev IsFit : BlockProc → Type 0
  IsFit f = (is_charged f ≡ true) × ((f.frame % 16 ≡ 0) × (need f ≤ f.frame) × (f.frame < 2 ^ 64))

  fit : (i : ℕ) (f : BlockProc) → IsProc (program_code (lowered p)) i f → IsFit f
  fit =
      each IsFit
      (charged_so (function p) (function_tokens p) (2 * length p.puts) (function_low p), fits_so (function p) (function_tokens p) (2 * length p.puts) (function_low p) (omega (arith, few_puts)))
      (charged_so (main p) (main_tokens p) (3 * length p.calls + 1) (main_low p), fits_so (main p) (main_tokens p) (3 * length p.calls + 1) (main_low p) (omega (arith, few_calls)))

  uncharged : {A : Type 0} (i : ℕ) (f : BlockProc) → IsProc (program_code (lowered p)) i f → is_charged f ≡ false → A
  uncharged i f is free =
      let charged = (fit i f is).0 in
      let e : true ≡ false = sym charged ∙ free in
      absurd (cc)

  pub room : HasRoom (program_code (lowered p))
  room = record {
    deep = λ i. 0;
    most = 0;
    charged = λ i f is charged. (fit i f is).1;
    routines = λ i f is. uncharged i f is.0 is.1;
    calls = λ i f is insn has. uncharged i f is.0 is.1;
    bound = omega arith;
    alone = λ f is free. uncharged 1 f is free;
  }
