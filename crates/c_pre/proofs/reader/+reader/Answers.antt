use Rattle.std.proofs.Common.{◌≡◌, ℕ, suc, ◌+◌, ◌-◌, ◌≤◌, List, [], length, reverse, Option, Some, None, Result, Ok, Err, ap, sym, ◌∙◌, arith, refl, zero-add}
use Rattle.std.proofs.lemmas.Bool.Decides.{nat_tests}
use Rattle.jf_base.specs.declared.place.Place.{Place}
use Rattle.jf_outside.specs.Listing.{listed}
use Rattle.c_text.specs.declared.kind.Lexeme.{Lexeme}
use Rattle.c_text.specs.Source.{lexemes_in}
use Rattle.c_text.proofs.WholeLaws.{lexes_one}
use Rattle.c_lines.specs.declared.head.Head.TheVariants as head
use Rattle.c_lines.specs.declared.rule.Rule.TheVariants as rule
use Rattle.c_lines.specs.declared.header.Delimiter.TheVariants.{Angle, Quote}
use Rattle.c_lines.specs.Rows.{rows}
use Rattle.c_define.specs.Numbers.{Tables, macros_of}
use Rattle.c_directives.specs.declared.stop.Stop.{Stop}
use Rattle.c_directives.specs.Headers.{header_text}
use Rattle.c_directives.specs.Reads.{Read, broken, Asks, ◌>>=◌}
use Rattle.c_directives.specs.Texts.{Work, place_of}
use Rattle.c_directives.specs.Directives.{define_at, undefine_at}
use Rattle.c_directives.specs.Conditions.{Name, asked, header_at}
use Rattle.c_directives.specs.Reading.{State, Stand, Opens, Including, with_macros, with_opens, act_at, line_at, lines_at, file_at, first_place}
use Rattle.c_directives.specs.Sorting.{state_of, work_of}
use Rattle.c_pre.specs.Files.{include_at}
use Rattle.c_pre.proofs.Acting.{gives_same, gives_plain, says_counts, says_strays, macros_answer, broken_answer, bind_fails, bind_counts, bind_strays, stand, acts_include, acts_define, acts_undef, acts_error, acts_unknown, acts_other, too_deep, no_header, read_header, no_call, read_file, found_bytes, told, sorts_counts, sorts_strays, sort_fails, sorted_none, sorted_some, act_gives, SoFar, so_far_more, so_far_gives, row_read, row_fails, lines_over, file_large, file_small}
use Rattle.c_pre.proofs.reader.+reader.Goals as goal

-- ---- what a directive does

pub act-returns-in-Err-clause-cause : goal.act-returns-in-Err-clause-cause
act-returns-in-Err-clause-cause g t c =
    bind_counts (Unit {0}) c.in-Err.stop asked (header_at (macros_of c.args.pre.now.macros) c.args.action.now.place c.args.action.now.tail.now) _ c.in-Err.ensures.says

pub act-returns-in-Err-clause-strays : goal.act-returns-in-Err-clause-strays
act-returns-in-Err-clause-strays g t c = λ fs fe.
    bind_strays (Unit {0}) c.in-Err.stop asked (header_at (macros_of c.args.pre.now.macros) c.args.action.now.place c.args.action.now.tail.now) fs _ c.in-Err.ensures.says

pub act-returns-in-Err-clause-gives : goal.act-returns-in-Err-clause-gives
act-returns-in-Err-clause-gives g t c = λ fs fe.
    let inc : Including = include_at fs c.args.reading.limit c.args.reading.depth in
    let s : ℕ → State = λ k. state_of k c.args.pre.now in
    let r : Result (Unit {0}) Stop = Err c.in-Err.stop in
    let named : ℕ → Name → Read State = λ k n. inc (s k) n c.args.action.now.place in
    gives_same {A = Unit {0}} r _ _ (λ k. header_at (macros_of c.args.pre.now.macros) c.args.action.now.place c.args.action.now.tail.now >>= named k)
    (λ k. acts_include inc c.args.action.now.head (s k) c.args.action.now.place c.args.action.now.tail.now c.in-Include.is)
    (gives_plain {A = Unit {0}} r _ _ (λ k. bind_fails {C = Unit {0}} c.in-Err.stop asked (header_at (macros_of c.args.pre.now.macros) c.args.action.now.place c.args.action.now.tail.now) (named k) k _ c.in-Err.ensures.says))

pub act-returns-in-Ok-clause-gives : goal.act-returns-in-Ok-clause-gives
act-returns-in-Ok-clause-gives g t c = λ fs fe.
    let inc : Including = include_at fs c.args.reading.limit c.args.reading.depth in
    let s : ℕ → State = λ k. state_of k c.args.pre.now in
    let p : Place = c.args.action.now.place in
    let named : ℕ → Name → Read State = λ k n. inc (s k) n p in
    let after : ℕ → Tables → State = λ k m. record { work = record { macros = macros_of m; out = c.args.pre.now.out.items }; calls = k } in
    gives_same {A = Unit {0}} c.include.result (λ k. state_of k c.include.new.pre) _ (λ k. inc (after k c.header.new.macros) (asked c.in-Ok.asked) p)
    (λ k. acts_include inc c.args.action.now.head (s k) p c.args.action.now.tail.now c.in-Include.is
    ∙ ap (λ (x : Read Name). x >>= named k) c.in-Ok.ensures.says
    ∙ ap (λ (m : Tables). inc (after k m) (asked c.in-Ok.asked) p) (sym c.in-Ok.ensures.same))
    (c.include.ensures.gives fs fe)

pub act-returns-in-Define-clause-cause : goal.act-returns-in-Define-clause-cause
act-returns-in-Define-clause-cause g t c = says_counts c.define.result _ _ _ c.define.ensures

pub act-returns-in-Define-clause-strays : goal.act-returns-in-Define-clause-strays
act-returns-in-Define-clause-strays g t c = λ fs fe. says_strays c.define.result _ _ fs _ c.define.ensures

pub act-returns-in-Define-clause-gives : goal.act-returns-in-Define-clause-gives
act-returns-in-Define-clause-gives g t c = λ fs fe.
    let inc : Including = include_at fs c.args.reading.limit c.args.reading.depth in
    let s : ℕ → State = λ k. state_of k c.args.pre.now in
    let made = define_at (macros_of c.args.pre.now.macros) c.args.action.now.place c.args.action.now.tail.now in
    gives_same {A = Unit {0}} c.define.result _ _ (λ k. with_macros (s k) made)
    (λ k. acts_define inc c.args.action.now.head (s k) c.args.action.now.place c.args.action.now.tail.now c.in-Define.is)
    (gives_plain {A = Unit {0}} c.define.result _ _ (λ k. macros_answer c.define.result (macros_of c.define.new.macros) made (s k) k c.define.ensures))

pub act-returns-in-Undef-clause-cause : goal.act-returns-in-Undef-clause-cause
act-returns-in-Undef-clause-cause g t c = says_counts c.undefine.result _ _ _ c.undefine.ensures

pub act-returns-in-Undef-clause-strays : goal.act-returns-in-Undef-clause-strays
act-returns-in-Undef-clause-strays g t c = λ fs fe. says_strays c.undefine.result _ _ fs _ c.undefine.ensures

pub act-returns-in-Undef-clause-gives : goal.act-returns-in-Undef-clause-gives
act-returns-in-Undef-clause-gives g t c = λ fs fe.
    let inc : Including = include_at fs c.args.reading.limit c.args.reading.depth in
    let s : ℕ → State = λ k. state_of k c.args.pre.now in
    let made = undefine_at (macros_of c.args.pre.now.macros) c.args.action.now.place c.args.action.now.tail.now in
    gives_same {A = Unit {0}} c.undefine.result _ _ (λ k. with_macros (s k) made)
    (λ k. acts_undef inc c.args.action.now.head (s k) c.args.action.now.place c.args.action.now.tail.now c.in-Undef.is)
    (gives_plain {A = Unit {0}} c.undefine.result _ _ (λ k. macros_answer c.undefine.result (macros_of c.undefine.new.macros) made (s k) k c.undefine.ensures))

pub act-returns-in-Error-clause-gives : goal.act-returns-in-Error-clause-gives
act-returns-in-Error-clause-gives g t c = λ fs fe.
    let inc : Including = include_at fs c.args.reading.limit c.args.reading.depth in
    let s : ℕ → State = λ k. state_of k c.args.pre.now in
    let r : Result (Unit {0}) Stop = Err c.breaks.result in
    gives_same {A = Unit {0}} r s _ (λ k. broken rule.Error c.args.action.now.place)
    (λ k. acts_error inc c.args.action.now.head (s k) c.args.action.now.place c.args.action.now.tail.now c.in-Error.is)
    (gives_plain {A = Unit {0}} r s _ (λ k. broken_answer {A = Unit {0}} c.breaks.result rule.Error c.args.action.now.place k _ c.breaks.ensures))

pub act-returns-in-Unknown-clause-gives : goal.act-returns-in-Unknown-clause-gives
act-returns-in-Unknown-clause-gives g t c = λ fs fe.
    let inc : Including = include_at fs c.args.reading.limit c.args.reading.depth in
    let s : ℕ → State = λ k. state_of k c.args.pre.now in
    let r : Result (Unit {0}) Stop = Err c.breaks-in-Unknown.result in
    gives_same {A = Unit {0}} r s _ (λ k. broken rule.Form c.args.action.now.place)
    (λ k. acts_unknown inc c.args.action.now.head (s k) c.args.action.now.place c.args.action.now.tail.now c.in-Unknown.is)
    (gives_plain {A = Unit {0}} r s _ (λ k. broken_answer {A = Unit {0}} c.breaks-in-Unknown.result rule.Form c.args.action.now.place k _ c.breaks-in-Unknown.ensures))

pub act-returns-in_default-clause-gives : goal.act-returns-in_default-clause-gives
act-returns-in_default-clause-gives g t c = λ fs fe.
    let inc : Including = include_at fs c.args.reading.limit c.args.reading.depth in
    let s : ℕ → State = λ k. state_of k c.args.pre.now in
    let r : Result (Unit {0}) Stop = Ok tt in
    gives_plain {A = Unit {0}} r s _
    (λ k. acts_other inc c.args.action.now.head (s k) c.args.action.now.place c.args.action.now.tail.now
    c.in_default.not-Include c.in_default.not-Define c.in_default.not-Undef c.in_default.not-Error c.in_default.not-Unknown)

-- ---- the text of a header

pub include-returns-then-reading-eq0-clause-gives : goal.include-returns-then-reading-eq0-clause-gives
include-returns-then-reading-eq0-clause-gives g t c = λ fs fe.
    let r : Result (Unit {0}) Stop = Err c.breaks.result in
    gives_same {A = Unit {0}} r (λ k. state_of k c.args.pre.now) _ (λ k. broken rule.Header c.args.place)
    (λ k. too_deep fs c.args.reading.limit (work_of c.args.pre.now) c.args.place (asked c.args.name.now) c.args.reading.depth k c.if-reading-eq0.true)
    (gives_plain {A = Unit {0}} r (λ k. state_of k c.args.pre.now) _ (λ k. broken_answer {A = Unit {0}} c.breaks.result rule.Header c.args.place k _ c.breaks.ensures))

pub include-returns-in-None-clause-gives : goal.include-returns-in-None-clause-gives
include-returns-in-None-clause-gives g t c = λ fs fe.
    let r : Result (Unit {0}) Stop = Err c.breaks-in-None.result in
    let inc : Including = include_at fs c.args.reading.limit c.args.reading.depth in
    gives_same {A = Unit {0}} r (λ k. state_of k c.args.pre.now) _ (λ k. broken rule.Header c.args.place)
    (λ k. ap (λ n. inc (state_of k c.args.pre.now) (asked n) c.args.place) c.in-BuiltIn.is
    ∙ no_header fs c.args.reading.limit (work_of c.args.pre.now) c.args.place c.in-BuiltIn.name c.args.reading.depth k c.if-reading-eq0.false
    (ap header_text (sym c.as_slice.ensures) ∙ c.in-None.ensures))
    (gives_plain {A = Unit {0}} r (λ k. state_of k c.args.pre.now) _ (λ k. broken_answer {A = Unit {0}} c.breaks-in-None.result rule.Header c.args.place k _ c.breaks-in-None.ensures))

pub include-returns-in-Some-clause-gives : goal.include-returns-in-Some-clause-gives
include-returns-in-Some-clause-gives g t c = λ fs fe.
    let inc : Including = include_at fs c.args.reading.limit c.args.reading.depth in
    let ne = c.if-reading-eq0.false in
    let d : c.args.reading.depth ≡ suc (c.args.reading.depth - 1) = omega arith in
    gives_same {A = Unit {0}} c.read.result (λ k. state_of k c.read.new.pre) _ (λ k. inc (state_of k c.args.pre.now) (Angle, c.in-BuiltIn.name) c.args.place)
    (λ k. ap (λ n. inc (state_of k c.args.pre.now) (asked n) c.args.place) c.in-BuiltIn.is)
    (read_header fs c.args.reading.limit (work_of c.args.pre.now) c.args.place c.in-BuiltIn.name c.args.reading.depth (c.args.reading.depth - 1) d c.in-Some.bytes.now
    (ap header_text (sym c.as_slice.ensures) ∙ c.in-Some.ensures)
    c.read.result (λ k. state_of k c.read.new.pre) (c.read.ensures.gives fs fe))

pub include-returns-in-Err-Failed-clause-gives : goal.include-returns-in-Err-Failed-clause-gives
include-returns-in-Err-Failed-clause-gives g t c = λ fs fe. (
  0,
  λ k z. ap (λ n. include_at fs c.args.reading.limit c.args.reading.depth (state_of (0 + k) c.args.pre.now) (asked n) c.args.place) c.in-File.is
      ∙ no_call fs c.args.reading.limit (work_of c.args.pre.now) c.args.place c.in-File.name c.args.reading.depth (0 + k) c.if-reading-eq0.false (omega arith)
      ∙ ap (λ (l : List ℕ). Err (Asks l)) (sym (c.in_ok-asked-in-File.ensures.ok ∙ c.as_str.ensures)),
)

pub include-returns-in-Ok-clause-gives : goal.include-returns-in-Ok-clause-gives
include-returns-in-Ok-clause-gives g t c = λ fs fe.
    let inc : Including = include_at fs c.args.reading.limit c.args.reading.depth in
    let found = told (g.L.Library.files c.args.library.now) fs _ fe c.in-Ok.ensures.bytes in
    let ne = c.if-reading-eq0.false in
    let d : c.args.reading.depth ≡ suc (c.args.reading.depth - 1) = omega arith in
    gives_same {A = Unit {0}} c.read-in-Ok.result (λ k. state_of k c.read-in-Ok.new.pre) _ (λ k. inc (state_of k c.args.pre.now) (Quote, c.in-File.name) c.args.place)
    (λ k. ap (λ n. inc (state_of k c.args.pre.now) (asked n) c.args.place) c.in-File.is)
    (read_file fs c.args.reading.limit (work_of c.args.pre.now) c.args.place c.in-File.name c.args.reading.depth (c.args.reading.depth - 1) d c.deref.result.now
    (ap (listed fs) (sym c.as_str-in-File.ensures) ∙ found_bytes (listed fs c.as_str-in-File.result.now) c.in-Ok.bytes _ _ found ∙ ap Some (sym c.deref.ensures.value))
    c.read-in-Ok.result (λ k. state_of k c.read-in-Ok.new.pre) (c.read-in-Ok.ensures.gives fs (c.in-Ok.ensures.files ∙ fe)))

-- ---- a line

pub step-returns-in-Err-clause-cause : goal.step-returns-in-Err-clause-cause
step-returns-in-Err-clause-cause g t c =
    sorts_counts (Unit {0}) c.in-Err.stop 0 c.args.pre.now c.sort.new.pre (reverse c.args.opens.now.items) (reverse c.sort.new.opens.items) (λ s n p. Ok s) _ _ (c.in-Err.ensures.sorts 0 (λ s n p. Ok s))

pub step-returns-in-Err-clause-strays : goal.step-returns-in-Err-clause-strays
step-returns-in-Err-clause-strays g t c = λ fs fe.
    sorts_strays (Unit {0}) c.in-Err.stop 0 c.args.pre.now c.sort.new.pre (reverse c.args.opens.now.items) (reverse c.sort.new.opens.items) (λ s n p. Ok s) _ fs _ (c.in-Err.ensures.sorts 0 (λ s n p. Ok s))

pub step-returns-in-Err-clause-gives : goal.step-returns-in-Err-clause-gives
step-returns-in-Err-clause-gives g t c = λ fs fe.
    let r : Result (Unit {0}) Stop = Err c.in-Err.stop in
    let inc : Including = include_at fs c.args.reading.limit c.args.reading.depth in
    let x : ℕ → Stand = λ k. (reverse c.sort.new.opens.items, state_of k c.sort.new.pre) in
    gives_plain {A = Unit {0}} r x _
    (λ k. sort_fails {A = Unit {0}} c.in-Err.stop k c.args.pre.now c.sort.new.pre (reverse c.args.opens.now.items) (reverse c.sort.new.opens.items) inc (line_at inc c.args.reading.limit c.args.reading.origin (reverse c.args.opens.now.items, state_of k c.args.pre.now) c.args.row.now) (λ _. x k) (c.in-Err.ensures.sorts k inc))

pub step-returns-in-None-clause-gives : goal.step-returns-in-None-clause-gives
step-returns-in-None-clause-gives g t c = λ fs fe.
    let r : Result (Unit {0}) Stop = Ok tt in
    let inc : Including = include_at fs c.args.reading.limit c.args.reading.depth in
    let os : Opens = reverse c.args.opens.now.items in
    let line : ℕ → Read Stand = λ k. line_at inc c.args.reading.limit c.args.reading.origin (os, state_of k c.args.pre.now) c.args.row.now in
    gives_plain {A = Unit {0}} r (λ k. (reverse c.sort.new.opens.items, state_of k c.sort.new.pre)) line
    (λ k. sorted_none c.in-Ok.sorted k c.args.pre.now c.sort.new.pre os (reverse c.sort.new.opens.items) inc (line k) c.in-None.is (c.in-Ok.ensures.sorts k inc))

pub step-returns-in-Some-clause-gives : goal.step-returns-in-Some-clause-gives
step-returns-in-Some-clause-gives g t c = λ fs fe.
    let inc : Including = include_at fs c.args.reading.limit c.args.reading.depth in
    let a = c.act.ensures.gives fs fe in
    let os : Opens = reverse c.args.opens.now.items in
    let acts : ℕ → Work → Read State = λ k w. act_at inc c.in-Some.action.head (stand w k) c.in-Some.action.place c.in-Some.action.tail.now in
    let line : ℕ → Read Stand = λ k. line_at inc c.args.reading.limit c.args.reading.origin (os, state_of k c.args.pre.now) c.args.row.now in (
      a.0,
      λ k. let sorted = sorted_some c.in-Ok.sorted c.in-Some.action (a.0 + k) c.args.pre.now c.sort.new.pre os (reverse c.sort.new.opens.items) inc (line (a.0 + k)) c.in-Some.is (c.in-Ok.ensures.sorts (a.0 + k) inc) in
          act_gives c.act.result k os (reverse c.sort.new.opens.items) (acts (a.0 + k) (work_of c.sort.new.pre)) (line (a.0 + k)) (state_of k c.act.new.pre)
          sorted.0 (sorted.2 ∙ ap (λ (w : Work). with_opens os (acts (a.0 + k) w)) (sym sorted.1)) (a.1 k),
    )

-- ---- a text

pub read-lines-preserved : goal.read-lines-preserved
read-lines-preserved g t c = (
  c.in-Ok.ensures.room,
  c.in-Ok.ensures.files ∙ c.lines.invariant.1,
  c.in-Ok.ensures.cause ∙ c.lines.invariant.2,
  λ fs fe.
      let inc : Including = include_at fs c.args.reading.limit c.args.reading.depth in
      let a = c.in-Ok.ensures.gives fs (c.lines.invariant.1 ∙ fe) in
      so_far_more (λ k. lines_at inc c.args.reading.limit c.args.reading.origin (reverse c.lines.opens.items, state_of k c.lines.pre) (rows c.lines.rest.now))
      (λ k. lines_at inc c.args.reading.limit c.args.reading.origin (reverse c.step.new.opens.items, state_of k c.step.new.pre) (rows c.row_at.result.1.now))
      (λ k. file_at inc c.args.reading.limit c.args.reading.origin (state_of k c.args.pre.now) c.args.bytes.now) a.0
      (λ k. row_read inc c.args.reading.limit c.args.reading.origin (reverse c.lines.opens.items, state_of (a.0 + k) c.lines.pre) (rows c.lines.rest.now) c.row_at.result.0.now (rows c.row_at.result.1.now) c.row_at.ensures.rows
      (reverse c.step.new.opens.items, state_of k c.step.new.pre) (a.1 k))
      (c.lines.invariant.3 fs fe),
  λ fs fe. c.in-Ok.ensures.strays fs (c.lines.invariant.1 ∙ fe) ∙ c.lines.invariant.4 fs fe,
)

pub read-returns-in-Err-clause-gives : goal.read-returns-in-Err-clause-gives
read-returns-in-Err-clause-gives g t c = λ fs fe.
    let inc : Including = include_at fs c.args.reading.limit c.args.reading.depth in
    let a = c.in-Err.ensures.gives fs (c.lines.invariant.1 ∙ fe) in
    let r : Result (Unit {0}) Stop = Err c.in-Err.stop in
    so_far_gives {A = Unit {0}} r (λ k. state_of k c.step.new.pre) (λ k. lines_at inc c.args.reading.limit c.args.reading.origin (reverse c.lines.opens.items, state_of k c.lines.pre) (rows c.lines.rest.now))
    (λ k. file_at inc c.args.reading.limit c.args.reading.origin (state_of k c.args.pre.now) c.args.bytes.now)
    (c.lines.invariant.3 fs fe) (
      a.0,
      λ k. row_fails inc c.args.reading.limit c.args.reading.origin (reverse c.lines.opens.items, state_of (a.0 + k) c.lines.pre) (rows c.lines.rest.now) c.row_at.result.0.now (rows c.row_at.result.1.now) c.row_at.ensures.rows
          (Unit {0}) (reverse c.step.new.opens.items, state_of k c.step.new.pre) (state_of k c.step.new.pre) k c.in-Err.stop (a.1 k),
    )

pub read-returns-in-None-clause-gives : goal.read-returns-in-None-clause-gives
read-returns-in-None-clause-gives g t c = λ fs fe.
    let inc : Including = include_at fs c.args.reading.limit c.args.reading.depth in
    let over : length c.lines.rest.now ≡ 0 = grind (arith, nat_tests, c.lines-test.ensures) in
    let h = c.lines.invariant.3 fs fe in (
      h.0,
      λ k. sym (h.1 k) ∙ lines_over inc c.args.reading.limit c.args.reading.origin (reverse c.lines.opens.items) (state_of k c.lines.pre) c.lines.rest.now None over
          (c.in-None.ensures ∙ ap (λ (l : List _). first_place (reverse l)) c.deref.ensures.value),
    )

pub read-returns-clause-gives : goal.read-returns-clause-gives
read-returns-clause-gives g t c = λ fs fe.
    let inc : Including = include_at fs c.args.reading.limit c.args.reading.depth in
    let over : length c.lines.rest.now ≡ 0 = grind (arith, nat_tests, c.lines-test.ensures) in
    let r : Result (Unit {0}) Stop = Err c.breaks-in-Some.result in
    so_far_gives {A = Unit {0}} r (λ k. state_of k c.lines.pre) (λ k. lines_at inc c.args.reading.limit c.args.reading.origin (reverse c.lines.opens.items, state_of k c.lines.pre) (rows c.lines.rest.now))
    (λ k. file_at inc c.args.reading.limit c.args.reading.origin (state_of k c.args.pre.now) c.args.bytes.now)
    (c.lines.invariant.3 fs fe)
    (gives_same {A = Unit {0}} r (λ k. state_of k c.lines.pre) _ (λ k. broken rule.Balance c.in-Some.place)
    (λ k. lines_over inc c.args.reading.limit c.args.reading.origin (reverse c.lines.opens.items) (state_of k c.lines.pre) c.lines.rest.now (Some c.in-Some.place) over
    (c.in-Some.ensures ∙ ap (λ (l : List _). first_place (reverse l)) c.deref.ensures.value))
    (gives_plain {A = Unit {0}} r (λ k. state_of k c.lines.pre) _ (λ k. broken_answer {A = Unit {0}} c.breaks-in-Some.result rule.Balance c.in-Some.place k _ c.breaks-in-Some.ensures)))

pub read-returns-then-bytes-gt-MOST_BYTES-clause-gives : goal.read-returns-then-bytes-gt-MOST_BYTES-clause-gives
read-returns-then-bytes-gt-MOST_BYTES-clause-gives g t c = λ fs fe.
    let inc : Including = include_at fs c.args.reading.limit c.args.reading.depth in
    let r : Result (Unit {0}) Stop = Err c.breaks.result in
    gives_same {A = Unit {0}} r (λ k. state_of k c.args.pre.now) _ (λ k. broken rule.TooMany c.place_of.result)
    (λ k. file_large inc c.args.reading.limit c.args.reading.origin (state_of k c.args.pre.now) c.args.bytes.now c.if-bytes-gt-MOST_BYTES.true ∙ ap (broken rule.TooMany) (sym c.place_of.ensures))
    (gives_plain {A = Unit {0}} r (λ k. state_of k c.args.pre.now) _ (λ k. broken_answer {A = Unit {0}} c.breaks.result rule.TooMany c.place_of.result k _ c.breaks.ensures))

pub read-lines-init : goal.read-lines-init
read-lines-init g t c = (
  c.requires,
  refl,
  refl,
  λ fs fe.
      let inc : Including = include_at fs c.args.reading.limit c.args.reading.depth in (
        0,
        λ k. ap (λ (os : Opens). lines_at inc c.args.reading.limit c.args.reading.origin (reverse os, state_of k c.args.pre.now) (rows c.as_slice-rest.result.now)) c.new-opens.ensures.items
            ∙ sym (file_small inc c.args.reading.limit c.args.reading.origin (state_of k c.args.pre.now) c.args.bytes.now c.if-bytes-gt-MOST_BYTES.false c.as_slice-rest.result.now
            (c.as_slice-rest.ensures.value ∙ lexes_one c.args.bytes.now _ c.in_ok-lexemes.ensures))
            ∙ ap (λ (n : ℕ). file_at inc c.args.reading.limit c.args.reading.origin (state_of n c.args.pre.now) c.args.bytes.now) (sym (zero-add k)),
      ),
  λ fs fe. refl,
)
