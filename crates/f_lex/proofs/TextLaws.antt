-- Texts: what is read is spelled so, and what is spelled so is read.
use Rattle.std.proofs.Common.{◌≡◌, ℕ, zero, suc, ◌+◌, ◌-◌, ◌<◌, ◌≤◌, Bool, true, false, cond, eqb, List, [], ◌∷◌, ◌++◌, length, Option, Some, None, refl, sym, ap, subst, ◌∙◌, arith, append_assoc, length-append}
use Rattle.std.proofs.lemmas.Bool.{eqb-true, eq-eqb}
use Rattle.std.proofs.lemmas.List.{append-nil}
use Rattle.f_lex.specs.declared.fault.Rule.{Rule}
use Rattle.f_lex.specs.declared.lines.Context.TheVariants.{Inside}
use Rattle.f_lex.specs.declared.text.Part.{Part as Read}
use Rattle.f_lex.specs.declared.text.Part.TheVariants as read
use Rattle.f_lex.specs.declared.text.Body.{Body}
use Rattle.f_lex.specs.Characters.{Class, Letter, Digit, Underscore, Blank, LineEnd, Exclamation, Ampersand, Quote, Semicolon, Dot, Mark, Unused, Foreign, Nothing, ampersand, class_at, is_next, ends_line as line_ends}
use Rattle.f_lex.specs.Lines.{choose, byte_at, ends_line, goes_on_at}
use Rattle.f_lex.specs.Texts.{part_of, part_at, with_part, body_at}
use Rattle.f_lex.specs.Grammar.{with_lead, Continues, Part, Char, Doubled, Split, Ending, Closed, Open, Lost, spell_ending, spell_parts, IsCharacter, HasNoLine, FitsEnding, FitsParts, content_of, continuing, broken_by}
use Rattle.f_lex.proofs.Lengths.{Shorter, part-length}
use Rattle.f_lex.proofs.Small.{is_class, class_ampersand, no_quote, IsByte, byte_sound, byte_again, no_byte, IsContinued, continues_sound, continues_again}

-- ---- one part

abbrev IsStep : ℕ → List ℕ → Read × List ℕ → Type 0
IsStep quote bytes (read.Byte c, next) = (bytes ≡ c ∷ next) × (eqb c quote ≡ false) × IsCharacter (class_at (c ∷ next)) next
IsStep quote bytes (read.Doubled, next) = bytes ≡ quote ∷ quote ∷ next
IsStep quote bytes (read.Joined, next) = (between : List ℕ) × (lead : Bool) × (bytes ≡ ampersand ∷ (between ++ with_lead lead next)) × Continues Inside between lead next
IsStep quote bytes (read.Closed, next) = (bytes ≡ quote ∷ next) × (is_next quote next ≡ false)
IsStep quote bytes (read.Open, next) = (bytes ≡ next) × (line_ends (class_at next) ≡ true)
IsStep quote bytes (read.Lost, next) = (bytes ≡ ampersand ∷ next) × (ends_line Inside next ≡ true) × HasNoLine next

no_line : (cs : List ℕ) → goes_on_at Inside cs ≡ None → HasNoLine cs
no_line cs e between lead more h is = let found : goes_on_at Inside cs ≡ Some more = ap (goes_on_at Inside) is ∙ continues_again Inside between lead more h in let both : None ≡ Some more = sym e ∙ found in cc

line_is_none : (cs : List ℕ) → ends_line Inside cs ≡ true → HasNoLine cs → goes_on_at Inside cs ≡ None
line_is_none cs e none = pick (goes_on_at Inside cs) (continues_sound Inside cs e)
  where
    pick : (o : Option (List ℕ)) → IsContinued Inside cs o → o ≡ None
    pick None i = refl
    pick (Some r) (between, lead, is, h) = absurd (none between lead r h is)

nothing_is : (c : ℕ) (cs : List ℕ) → class_at (c ∷ cs) ≡ Nothing → ⊥
nothing_is c cs e = is_class Nothing c cs e

part_sound : (quote : ℕ) (bytes : List ℕ) → IsStep quote bytes (part_at quote bytes)
unfolding part_at class_at
part_sound quote [] = (refl, refl)
part_sound quote (c ∷ cs) = pick (eqb c quote) refl
  where
    doubled : c ≡ quote → (o : Option (List ℕ)) → IsByte quote cs o → IsStep quote (c ∷ cs) (choose o (read.Closed, cs) (λ next. (read.Doubled, next)))
    doubled e None i = (ap (λ c. c ∷ cs) e, i)
    doubled e (Some r) i = ap (λ c. c ∷ cs) e ∙ ap (λ l. quote ∷ l) i

    joined : c ≡ ampersand → ends_line Inside cs ≡ true → (o : Option (List ℕ)) → goes_on_at Inside cs ≡ o → IsContinued Inside cs o → IsStep quote (c ∷ cs) (choose o (read.Lost, cs) (λ next. (read.Joined, next)))
    joined e last None is i = (ap (λ c. c ∷ cs) e, last, no_line cs is)
    joined e last (Some r) is (between, lead, spelled, h) = (between, lead, ap (λ c. c ∷ cs) e ∙ ap (λ l. ampersand ∷ l) spelled, h)

    ending : c ≡ ampersand → eqb c quote ≡ false → (v : Bool) → ends_line Inside cs ≡ v → IsStep quote (c ∷ cs) (cond v (choose (goes_on_at Inside cs) (read.Lost, cs) (λ next. (read.Joined, next))) (read.Byte ampersand, cs))
    ending e isnt true last = joined e last (goes_on_at Inside cs) refl (continues_sound Inside cs last)
    ending e isnt false last = (
      ap (λ c. c ∷ cs) e,
      subst (λ (n : ℕ). eqb n quote ≡ false) e isnt,
      subst (λ (v : Class). IsCharacter v cs) (sym (class_ampersand cs)) last,
    )

    char : (v : Class) → class_at (c ∷ cs) ≡ v → IsCharacter v cs → eqb c quote ≡ false → IsStep quote (c ∷ cs) (read.Byte c, cs)
    char v e i isnt = (refl, isnt, subst (λ (v : Class). IsCharacter v cs) (sym e) i)

    other : eqb c quote ≡ false → (v : Class) → class_at (c ∷ cs) ≡ v → IsStep quote (c ∷ cs) (part_of v c cs)
    other isnt LineEnd e = (refl, ap line_ends e)
    other isnt Ampersand e = ending (is_class Ampersand c cs e) isnt (ends_line Inside cs) refl
    other isnt Letter e = char Letter e tt isnt
    other isnt Digit e = char Digit e tt isnt
    other isnt Underscore e = char Underscore e tt isnt
    other isnt Blank e = char Blank e tt isnt
    other isnt Exclamation e = char Exclamation e tt isnt
    other isnt Quote e = char Quote e tt isnt
    other isnt Semicolon e = char Semicolon e tt isnt
    other isnt Dot e = char Dot e tt isnt
    other isnt Mark e = char Mark e tt isnt
    other isnt Unused e = char Unused e tt isnt
    other isnt Foreign e = char Foreign e tt isnt
    other isnt Nothing e = char Nothing e tt isnt

    pick : (v : Bool) → eqb c quote ≡ v → IsStep quote (c ∷ cs) (cond v (choose (byte_at quote cs) (read.Closed, cs) (λ next. (read.Doubled, next))) (part_of (class_at (c ∷ cs)) c cs))
    pick true e = doubled (eqb-true c quote e) (byte_at quote cs) (byte_sound quote cs)
    pick false e = other e (class_at (c ∷ cs)) refl

-- ---- all parts

pub body_is : (a b : List ℕ) (n m : ℕ) (o : Option Rule) (r : List ℕ) → a ≡ b → n ≡ m → let x : Body × List ℕ = (record { bytes = a; passed = n; broken = o }, r) in let y : Body × List ℕ = (record { bytes = b; passed = m; broken = o }, r) in x ≡ y
body_is a b n m o r e f = ap (λ (l : List ℕ). let x : Body × List ℕ = (record { bytes = l; passed = n; broken = o }, r) in x) e ∙ ap (λ (k : ℕ). let x : Body × List ℕ = (record { bytes = b; passed = k; broken = o }, r) in x) f

-- the body that parts make behind what was read before
abbrev pub body_of : ℕ → List ℕ → ℕ → List Part → Ending → List ℕ → Body × List ℕ
body_of quote content passed ps e rest = (record { bytes = content ++ content_of quote ps; passed = passed + continuing ps; broken = broken_by e }, rest)

abbrev pub IsBody : ℕ → List ℕ → ℕ → List ℕ → Body × List ℕ → Type 0
IsBody quote content passed bytes x = (ps : List Part) × (e : Ending) × (rest : List ℕ) × (bytes ≡ spell_parts quote ps e rest) × FitsParts quote ps e rest × (x ≡ body_of quote content passed ps e rest)

split-length : (between : List ℕ) (lead : Bool) (next : List ℕ) → length (ampersand ∷ (between ++ with_lead lead next)) - length next ≡ 1 + length between + length (with_lead lead [])
split-length between true next = omega (arith, length-append between (ampersand ∷ next))
split-length between false next = omega (arith, length-append between next)

last_body : (quote : ℕ) (content : List ℕ) (passed : ℕ) (e : Ending) (rest : List ℕ) → let x : Body × List ℕ = (record { bytes = content; passed = passed; broken = broken_by e }, rest) in x ≡ body_of quote content passed [] e rest
last_body quote content passed e rest = body_is content (content ++ []) passed (passed + 0) (broken_by e) rest (sym (append-nil content)) (omega arith)

pub body_sound : (k quote : ℕ) (content : List ℕ) (passed : ℕ) (bytes : List ℕ) → length bytes + 1 ≤ k → IsBody quote content passed bytes (body_at k quote content passed bytes)
unfolding body_at
body_sound zero quote content passed bytes le = absurd (omega (arith, le))
body_sound (suc k) quote content passed bytes le = pick (part_at quote bytes) (part-length quote bytes) (part_sound quote bytes) (λ content passed next le. body_sound k quote content passed next le)
  where
    pick : (p : Read × List ℕ) → Shorter bytes p → IsStep quote bytes p → ((content : List ℕ) (passed : ℕ) (next : List ℕ) → length next + 1 ≤ k → IsBody quote content passed next (body_at k quote content passed next))
        → IsBody quote content passed bytes (with_part quote content passed bytes p (body_at k quote))
    pick (read.Byte c, next) short (is, isnt, fits) ih =
        let (ps, e, rest, spelled, all, same) = ih (content ++ c ∷ []) passed next (omega (arith, le, short)) in (
          Char c ∷ ps,
          e,
          rest,
          is ∙ ap (λ l. c ∷ l) spelled,
          (isnt, subst (λ (l : List ℕ). IsCharacter (class_at (c ∷ l)) l) spelled fits, all),
          same ∙ body_is _ _ _ _ (broken_by e) rest (append_assoc content (c ∷ []) (content_of quote ps)) refl,
        )
    pick (read.Doubled, next) short is ih =
        let (ps, e, rest, spelled, all, same) = ih (content ++ quote ∷ []) passed next (omega (arith, le, short)) in
        (Doubled ∷ ps, e, rest, is ∙ ap (λ l. quote ∷ quote ∷ l) spelled, all, same ∙ body_is _ _ _ _ (broken_by e) rest (append_assoc content (quote ∷ []) (content_of quote ps)) refl)
    pick (read.Joined, next) short (between, lead, is, h) ih =
        let (ps, e, rest, spelled, all, same) = ih content (passed + (length bytes - length next)) next (omega (arith, le, short)) in
        let len : length bytes - length next ≡ 1 + length between + length (with_lead lead []) = ap (λ l. length l - length next) is ∙ split-length between lead next in (
          Split between lead ∷ ps,
          e,
          rest,
          is ∙ ap (λ l. ampersand ∷ (between ++ with_lead lead l)) spelled,
          (subst (Continues Inside between lead) spelled h, all),
          same ∙ body_is _ _ _ _ (broken_by e) rest refl (omega (arith, len)),
        )
    pick (read.Closed, next) short (is, isnt) ih = ([], Closed, next, is, isnt, last_body quote content passed Closed next)
    pick (read.Open, next) short (is, isnt) ih = ([], Open, next, is, isnt, last_body quote content passed Open next)
    pick (read.Lost, next) short (is, last, none) ih = ([], Lost, next, is, (last, none), last_body quote content passed Lost next)

-- ---- what is spelled so is read

char_again : (v : Class) (c : ℕ) (cs : List ℕ) → class_at (c ∷ cs) ≡ v → IsCharacter v cs → part_of v c cs ≡ (read.Byte c, cs)
char_again LineEnd c cs e i = absurd i
char_again Ampersand c cs e i = rw i (ap (λ (n : ℕ). (read.Byte n, cs)) (sym (is_class Ampersand c cs e)))
char_again Letter c cs e i = refl
char_again Digit c cs e i = refl
char_again Underscore c cs e i = refl
char_again Blank c cs e i = refl
char_again Exclamation c cs e i = refl
char_again Quote c cs e i = refl
char_again Semicolon c cs e i = refl
char_again Dot c cs e i = refl
char_again Mark c cs e i = refl
char_again Unused c cs e i = refl
char_again Foreign c cs e i = refl
char_again Nothing c cs e i = refl

module _ (quote : ℕ) (qs : List ℕ) (is_quote : class_at (quote ∷ qs) ≡ Quote) where
  no_ampersand : (cs : List ℕ) → eqb ampersand quote ≡ false
  no_ampersand cs = no_quote ampersand quote cs qs is_quote (λ e. let both : Ampersand ≡ Quote = sym (class_ampersand cs) ∙ e in cc)

  open_again : (rest : List ℕ) → line_ends (class_at rest) ≡ true → part_at quote rest ≡ (read.Open, rest)
  unfolding part_at
  open_again [] e = refl
  open_again (c ∷ cs) e = pick (class_at (c ∷ cs)) refl e
    where
      pick : (v : Class) → class_at (c ∷ cs) ≡ v → line_ends v ≡ true → cond (eqb c quote) (choose (byte_at quote cs) (read.Closed, cs) (λ next. (read.Doubled, next))) (part_of (class_at (c ∷ cs)) c cs) ≡ (read.Open, c ∷ cs)
      pick LineEnd is t = rw (no_quote c quote cs qs is_quote (λ e. let both : LineEnd ≡ Quote = sym is ∙ e in cc), is) refl
      pick Nothing is t = absurd (nothing_is c cs is)
      pick Letter is t = cc
      pick Digit is t = cc
      pick Underscore is t = cc
      pick Blank is t = cc
      pick Exclamation is t = cc
      pick Ampersand is t = cc
      pick Quote is t = cc
      pick Semicolon is t = cc
      pick Dot is t = cc
      pick Mark is t = cc
      pick Unused is t = cc
      pick Foreign is t = cc

  ending_again : (e : Ending) (k : ℕ) (content : List ℕ) (passed : ℕ) (rest : List ℕ) → FitsEnding quote e rest → body_at (suc k) quote content passed (spell_ending quote e rest) ≡ (record { bytes = content; passed = passed; broken = broken_by e }, rest)
  unfolding body_at part_at
  ending_again Closed k content passed rest f = rw (eq-eqb quote quote refl, no_byte quote rest f) refl
  ending_again Open k content passed rest f = rw (open_again rest f) refl
  ending_again Lost k content passed rest f = rw (no_ampersand rest, class_ampersand rest, f.0, line_is_none rest f.0 f.1) refl

  pub body_again : (ps : List Part) (e : Ending) (k : ℕ) (content : List ℕ) (passed : ℕ) (rest : List ℕ) → FitsParts quote ps e rest → length ps < k → body_at k quote content passed (spell_parts quote ps e rest) ≡ body_of quote content passed ps e rest
  unfolding body_at part_at
  body_again ps e zero content passed rest f lt = absurd (omega (arith, lt))
  body_again [] e (suc k) content passed rest f lt = ending_again e k content passed rest f ∙ last_body quote content passed e rest
  body_again (Char c ∷ ps) e (suc k) content passed rest f lt =
      rw (f.0, char_again (class_at (c ∷ spell_parts quote ps e rest)) c (spell_parts quote ps e rest) refl f.1)
      (body_again ps e k (content ++ c ∷ []) passed rest f.2 (omega (arith, lt)) ∙ body_is _ _ _ _ (broken_by e) rest (append_assoc content (c ∷ []) (content_of quote ps)) refl)
  body_again (Doubled ∷ ps) e (suc k) content passed rest f lt =
      rw (eq-eqb quote quote refl, byte_again quote (spell_parts quote ps e rest))
      (body_again ps e k (content ++ quote ∷ []) passed rest f (omega (arith, lt)) ∙ body_is _ _ _ _ (broken_by e) rest (append_assoc content (quote ∷ []) (content_of quote ps)) refl)
  body_again (Split between lead ∷ ps) e (suc k) content passed rest f lt =
      let next = spell_parts quote ps e rest in
      let line = between ++ with_lead lead next in
      let len : length (ampersand ∷ (between ++ with_lead lead (spell_parts quote ps e rest))) - length (spell_parts quote ps e rest) ≡ 1 + length between + length (with_lead lead []) = split-length between lead (spell_parts quote ps e rest) in
      rw (no_ampersand line, class_ampersand line, f.0.last, continues_again Inside between lead next f.0)
      (body_again ps e k content (passed + (length (ampersand ∷ line) - length next)) rest f.1 (omega (arith, lt)) ∙ body_is _ _ _ _ (broken_by e) rest refl (omega (arith, len)))

pub length-parts : (quote : ℕ) (ps : List Part) (e : Ending) (rest : List ℕ) → length ps ≤ length (spell_parts quote ps e rest)
length-parts quote [] e rest = omega arith
length-parts quote (Char c ∷ ps) e rest = omega (arith, length-parts quote ps e rest)
length-parts quote (Doubled ∷ ps) e rest = omega (arith, length-parts quote ps e rest)
length-parts quote (Split between true ∷ ps) e rest = omega (arith, length-parts quote ps e rest, length-append between (ampersand ∷ spell_parts quote ps e rest))
length-parts quote (Split between false ∷ ps) e rest = omega (arith, length-parts quote ps e rest, length-append between (spell_parts quote ps e rest))
