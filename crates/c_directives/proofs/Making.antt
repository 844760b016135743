-- Lines and texts leave macros that definitions made.
use Rattle.std.proofs.Common.{◌≡◌, ℕ, zero, suc, Bool, true, false, cond, List, [], ◌∷◌, Option, Some, None, Ok, Err, refl, sym, ap, ◌∙◌, subst}
use Rattle.std.specs.Prelude.{codes, nat_lt, length}
use Rattle.std.specs.Str.{bytes_eq}
use Rattle.jf_base.specs.declared.place.Place.{Place}
use Rattle.c_text.specs.declared.kind.Lexeme.{Lexeme}
use Rattle.c_text.specs.Source.{lexemes_in}
use Rattle.c_token.specs.declared.token.CToken.{CToken}
use Rattle.c_lines.specs.declared.rule.Rule.{Rule}
use Rattle.c_lines.specs.declared.rule.Rule.TheVariants as rule
use Rattle.c_lines.specs.declared.rule.Fault.{Fault}
use Rattle.c_lines.specs.declared.head.Head.{Head}
use Rattle.c_lines.specs.declared.head.Head.TheVariants as head
use Rattle.c_lines.specs.Rows.{Row, rows}
use Rattle.c_lines.specs.Rules.{first_ill}
use Rattle.c_lines.specs.Heads.{head_at}
use Rattle.c_define.specs.Definitions.{Macro, Macros, defined, undefined, same_written, Made, MadeDefined, MadeUndefined}
use Rattle.c_directives.specs.declared.origin.Origin.{Origin}
use Rattle.c_directives.specs.Reads.{Read, broken, ◌>>=◌}
use Rattle.c_directives.specs.Directives.{tokens_of, written_of, has_hash, list_rule, is_macro_name, define_new, define_again, define_over, define_list, define_at, one_name, undefine, undefine_at}
use Rattle.c_directives.specs.Conditions.{Name, header_at}
use Rattle.c_directives.specs.Texts.{Work, place_of, text_at}
use Rattle.c_directives.specs.Reading.{State, Including, Opens, Stand, with_macros, with_work, with_opens, and_state, is_live, is_conditional, turn_at, act_at, hash_place, unless_ill, directive_at, sorted_at, line_at, first_place, end_of, lines_at, most_bytes, file_at}
use Rattle.c_directives.specs.Replacement.{KeepsMade, LinesKeepMade, TextsKeepMade}
use Rattle.c_directives.proofs.Rescanned.{whole}

abbrev value : {A : Type 0} → A → Read A → A
value d (Ok x) = x
value d (Err e) = d

keep_define : (ms : Macros) (place : Place) (tail : List Lexeme) (ms' : Macros) → Made ms → define_at ms place tail ≡ Ok ms' → Made ms'
unfolding define_at
keep_define ms place [] ms' made e = cc
keep_define ms place (n ∷ list) ms' made e = named (is_macro_name n) e
  where
    again : (b : Bool) → define_again ms place b ≡ Ok ms' → Made ms'
    again true e = subst Made (ap (value ms) e) made
    again false e = cc

    fresh : ms.of n.spelling ≡ None → (o : Option (List CToken)) → define_new ms place n.spelling list o ≡ Ok ms' → Made ms'
    fresh none None e = cc
    fresh none (Some ts) e = subst Made (ap (value ms) e) (MadeDefined ms n.spelling (record { body = ts; written = written_of list }) made none)

    over : (o : Option Macro) → ms.of n.spelling ≡ o → define_over ms place n.spelling list o ≡ Ok ms' → Made ms'
    over None oe e = fresh oe (tokens_of list) e
    over (Some m) oe e = again (same_written m.written (written_of list)) e

    hashed : (b : Bool) → cond {A = Read Macros} b (broken rule.Hash place) (define_over ms place n.spelling list (ms.of n.spelling)) ≡ Ok ms' → Made ms'
    hashed true e = cc
    hashed false e = over (ms.of n.spelling) refl e

    ruled : (o : Option Rule) → define_list ms place n.spelling list o ≡ Ok ms' → Made ms'
    ruled (Some r) e = cc
    ruled None e = hashed (has_hash list) e

    named : (b : Bool) → cond {A = Read Macros} b (define_list ms place n.spelling list (list_rule list)) (broken rule.Form place) ≡ Ok ms' → Made ms'
    named true e = ruled (list_rule list) e
    named false e = cc

keep_undefine : (ms : Macros) (place : Place) (tail : List Lexeme) (ms' : Macros) → Made ms → undefine_at ms place tail ≡ Ok ms' → Made ms'
unfolding undefine_at
keep_undefine ms place tail ms' made e = pick (one_name tail) e
  where
    named : (name : List ℕ) (b : Bool) → cond {A = Read Macros} b (broken rule.Form place) (Ok (undefined ms name)) ≡ Ok ms' → Made ms'
    named name true e = cc
    named name false e = subst Made (ap (value ms) e) (MadeUndefined ms name made)

    pick : (o : Option (List ℕ)) → undefine ms place o ≡ Ok ms' → Made ms'
    pick None e = cc
    pick (Some name) e = named name (bytes_eq name (codes "defined")) e

same_macros : (s s' : State) → Made s.work.macros → ◌≡◌ {A = Read State} (Ok s) (Ok s') → Made s'.work.macros
same_macros s s' made e = subst Made (ap (λ (r : Read State). (value s r).work.macros) e) made

keep_act : (including : Including) (h : Head) (s s' : State) (place : Place) (tail : List Lexeme) → KeepsMade including → Made s.work.macros → act_at including h s place tail ≡ Ok s' → Made s'.work.macros
unfolding act_at
keep_act including head.Include s s' place tail k made e = pick (header_at s.work.macros place tail) e
  where
    pick : (r : Read Name) → (r >>= λ h. including s h place) ≡ Ok s' → Made s'.work.macros
    pick (Err x) e = cc
    pick (Ok n) e = k s s' n place made e
keep_act including head.Define s s' place tail k made e = pick (define_at s.work.macros place tail) refl e
  where
    pick : (r : Read Macros) → define_at s.work.macros place tail ≡ r → with_macros s r ≡ Ok s' → Made s'.work.macros
    pick (Err x) re e = cc
    pick (Ok ms) re e = subst Made (ap (λ (r : Read State). (value s r).work.macros) e) (keep_define s.work.macros place tail ms made re)
keep_act including head.Undef s s' place tail k made e = pick (undefine_at s.work.macros place tail) refl e
  where
    pick : (r : Read Macros) → undefine_at s.work.macros place tail ≡ r → with_macros s r ≡ Ok s' → Made s'.work.macros
    pick (Err x) re e = cc
    pick (Ok ms) re e = subst Made (ap (λ (r : Read State). (value s r).work.macros) e) (keep_undefine s.work.macros place tail ms made re)
keep_act including head.Error s s' place tail k made e = cc
keep_act including head.Unknown s s' place tail k made e = cc
keep_act including head.Text s s' place tail k made e = same_macros s s' made e
keep_act including head.Null s s' place tail k made e = same_macros s s' made e
keep_act including head.If s s' place tail k made e = same_macros s s' made e
keep_act including head.Ifdef s s' place tail k made e = same_macros s s' made e
keep_act including head.Ifndef s s' place tail k made e = same_macros s s' made e
keep_act including head.Elif s s' place tail k made e = same_macros s s' made e
keep_act including head.Else s s' place tail k made e = same_macros s s' made e
keep_act including head.Endif s s' place tail k made e = same_macros s s' made e
keep_act including head.Pragma s s' place tail k made e = same_macros s s' made e

module _ (including : Including) (k : KeepsMade including) (limit : ℕ) (origin : Origin) where
  module _ (os os' : Opens) (s s' : State) (made : Made s.work.macros) where
    abbrev Goal : Type 0
    Goal = Made s'.work.macros

    same_stand : ◌≡◌ {A = Read Stand} (Ok (os, s)) (Ok (os', s')) → Goal
    same_stand e = subst Made (ap (λ (r : Read Stand). (value (os, s) r).1.work.macros) e) made

    turned : (r : Read Opens) → and_state s r ≡ Ok (os', s') → Goal
    turned (Err x) e = cc
    turned (Ok v) e = subst Made (ap (λ (r : Read Stand). (value (os, s) r).1.work.macros) e) made

    acted : (h : Head) (place : Place) (tail : List Lexeme) (r : Read State) → act_at including h s place tail ≡ r → with_opens os r ≡ Ok (os', s') → Goal
    acted h place tail (Err x) re e = cc
    acted h place tail (Ok v) re e = subst Made (ap (λ (r : Read Stand). (value (os, s) r).1.work.macros) e) (keep_act including h s v place tail k made re)

    live : (h : Head) (place : Place) (tail : List Lexeme) (b : Bool) → cond {A = Read Stand} b (with_opens os (act_at including h s place tail)) (Ok (os, s)) ≡ Ok (os', s') → Goal
    live h place tail true e = acted h place tail (act_at including h s place tail) refl e
    live h place tail false e = same_stand e

    directive : (h : Head) (place : Place) (tail : List Lexeme) (b : Bool)
        → cond {A = Read Stand} b (and_state s (turn_at h s.work.macros os place tail)) (cond {A = Read Stand} (is_live os) (with_opens os (act_at including h s place tail)) (Ok (os, s))) ≡ Ok (os', s') → Goal
    directive h place tail true e = turned (turn_at h s.work.macros os place tail) e
    directive h place tail false e = live h place tail (is_live os) e

    well : (h : Head) (place : Place) (tail : List Lexeme) (o : Option Fault) → unless_ill origin o (directive_at including h (os, s) place tail) ≡ Ok (os', s') → Goal
    well h place tail (Some f) e = cc
    well h place tail None e = directive h place tail (is_conditional h) e

    put_text : (ls : List Lexeme) (r : Read Work) → text_at limit origin s.work ls ≡ r → with_opens os (with_work s r) ≡ Ok (os', s') → Goal
    put_text ls (Err x) re e = cc
    put_text ls (Ok w) re e = subst Made (sym (whole limit origin ls s.work w re).macros ∙ ap (λ (r : Read Stand). (value (os, s) r).1.work.macros) e) made

    skipped : (o : Option Fault) → unless_ill {A = Stand} origin o (Ok (os, s)) ≡ Ok (os', s') → Goal
    skipped (Some f) e = cc
    skipped None e = same_stand e

    text_line : (row : Row) (ls : List Lexeme) (b : Bool) → cond {A = Read Stand} b (with_opens os (with_work s (text_at limit origin s.work ls))) (unless_ill origin (first_ill row) (Ok (os, s))) ≡ Ok (os', s') → Goal
    text_line row ls true e = put_text ls (text_at limit origin s.work ls) refl e
    text_line row ls false e = skipped (first_ill row) e

    sorted : (row : Row) (h : Head) (ls : List Lexeme) → sorted_at including limit origin (os, s) row (h, ls) ≡ Ok (os', s') → Goal
    sorted row head.Text ls e = text_line row ls (is_live os) e
    sorted row head.Null ls e = well head.Null (hash_place origin row) ls (first_ill row) e
    sorted row head.Include ls e = well head.Include (hash_place origin row) ls (first_ill row) e
    sorted row head.Define ls e = well head.Define (hash_place origin row) ls (first_ill row) e
    sorted row head.Undef ls e = well head.Undef (hash_place origin row) ls (first_ill row) e
    sorted row head.If ls e = well head.If (hash_place origin row) ls (first_ill row) e
    sorted row head.Ifdef ls e = well head.Ifdef (hash_place origin row) ls (first_ill row) e
    sorted row head.Ifndef ls e = well head.Ifndef (hash_place origin row) ls (first_ill row) e
    sorted row head.Elif ls e = well head.Elif (hash_place origin row) ls (first_ill row) e
    sorted row head.Else ls e = well head.Else (hash_place origin row) ls (first_ill row) e
    sorted row head.Endif ls e = well head.Endif (hash_place origin row) ls (first_ill row) e
    sorted row head.Error ls e = well head.Error (hash_place origin row) ls (first_ill row) e
    sorted row head.Pragma ls e = well head.Pragma (hash_place origin row) ls (first_ill row) e
    sorted row head.Unknown ls e = well head.Unknown (hash_place origin row) ls (first_ill row) e

    pub keep_line : (row : Row) → line_at including limit origin (os, s) row ≡ Ok (os', s') → Goal
    unfolding line_at
    keep_line row e = sorted row (head_at row).0 (head_at row).1 e

  ended : (s s' : State) (o : Option Place) → Made s.work.macros → end_of s o ≡ Ok s' → Made s'.work.macros
  ended s s' (Some p) made e = cc
  ended s s' None made e = same_macros s s' made e

  keep_lines : (rs : List Row) (os : Opens) (s s' : State) → Made s.work.macros → lines_at including limit origin (os, s) rs ≡ Ok s' → Made s'.work.macros
  unfolding lines_at
  keep_lines [] os s s' made e = ended s s' (first_place os) made e
  keep_lines (r ∷ rs) os s s' made e = pick (λ os v made h. keep_lines rs os v s' made h) (line_at including limit origin (os, s) r) refl e
    where
      pick : ((os : Opens) (v : State) → Made v.work.macros → lines_at including limit origin (os, v) rs ≡ Ok s' → Made s'.work.macros) → (x : Read Stand) → line_at including limit origin (os, s) r ≡ x
          → (x >>= λ x. lines_at including limit origin x rs) ≡ Ok s' → Made s'.work.macros
      pick ih (Err x) re e = cc
      pick ih (Ok x) re e = ih x.0 x.1 (keep_line os x.0 s x.1 made r re) e

  pub keep_file : (s s' : State) (bytes : List ℕ) → Made s.work.macros → file_at including limit origin s bytes ≡ Ok s' → Made s'.work.macros
  unfolding file_at
  keep_file s s' bytes made e = pick (nat_lt most_bytes (length bytes)) e
    where
      pick : (b : Bool) → cond {A = Read State} b (broken rule.TooMany (place_of origin (record { line = 1; column = 1 }))) (lines_at including limit origin ([], s) (rows (lexemes_in bytes))) ≡ Ok s' → Made s'.work.macros
      pick true e = cc
      pick false e = keep_lines (rows (lexemes_in bytes)) [] s s' made e

pub texts_keep : TextsKeepMade
texts_keep = λ including limit origin s s' bytes k made e. keep_file including k limit origin s s' bytes made e

pub lines_keep : LinesKeepMade
lines_keep = λ including limit origin os os' s s' row k made e. keep_line including k limit origin os os' s s' made row e
