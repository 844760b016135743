-- Lines that are read as they are written.
use Rattle.std.proofs.Common.{◌≡◌, ◌≢◌, ℕ, ◌-◌, ◌<◌, Bool, true, false, cond, eqb, List, [], ◌∷◌, ◌++◌, map, length, take, get_or, reverse, refl, sym, ap, ◌∙◌, codes, arith, append_assoc, inl, inr, ◌&&◌}
use Rattle.std.specs.List.{All, flat_map, list_all}
use Rattle.std.specs.Fmt.{decimal}
use Rattle.std.specs.Char.{IsAsciiLowercase, IsAsciiDigit}
use Rattle.std.specs.Str.Lines.{strip_carriage_return}
use Rattle.std.proofs.Math.Seq.{get_or-append_seam}
use Rattle.std.proofs.lemmas.Bool.{ne_eqb, eqb-false}
use Rattle.std.proofs.lemmas.List.{reverse-append, reverse-reverse, length-append}
use Rattle.std.proofs.lemmas.List.Elements.{All-nil, All-cons, All-head, All-tail, All-append, All-weaker}
use Rattle.first_form.specs.Lines.{is_blank, without_leading_blanks, trimmed, text_lines, written}
use Rattle.first_form.specs.Words.{IsName, IsLabel, IsInt}
use Rattle.first_form.specs.Forms.{program_lines, interface_lines, call_line, end_line, fortran_lines, include_line, opening_text, closing_text, argument_text, put_text, c_lines, c_one_line, IsArgument, AreCalls, ArePuts, IsFortranText, IsCText}
use Rattle.first_form.specs.declared.program.PutcharArgument.{PutcharArgument}
use Rattle.first_form.specs.declared.program.PutcharArgument.TheVariants.{Parameter, Number}
use Rattle.first_form.proofs.TextLines.{text_lines-empty, text_lines-first}
use Rattle.first_form.proofs.Numerals.{decimal_plain}

record IsPlain (line : List ℕ) : Type 0 where
  feed_free : All (λ b. b ≢ 10) line
  same : trimmed (strip_carriage_return line) ≡ line

data ArePlain : List (List ℕ) → Type 0 where
  none : ArePlain []
  one_more : {line : List ℕ} {lines : List (List ℕ)} → IsPlain line → ArePlain lines → ArePlain (line ∷ lines)

plain_lines : (lines : List (List ℕ)) → ArePlain lines → text_lines (written lines) ≡ lines
plain_lines [] none = text_lines-empty [] refl
plain_lines (line ∷ lines) (one_more p ps) =
    text_lines-first (line ++ (10 ∷ written lines)) line (written lines) line refl p.feed_free (sym p.same) ∙ ap (λ (x : List (List ℕ)). line ∷ x) (plain_lines lines ps)

plain_map : {A : Type 0} (f : A → List ℕ) (Is : A → Type 0) → ((a : A) → Is a → IsPlain (f a)) → (items : List A) → All Is items → (rest : List (List ℕ)) → ArePlain rest → ArePlain (map f items ++ rest)
plain_map f Is each [] are rest ps = ps
plain_map f Is each (item ∷ items) are rest ps = one_more (each item (All-head Is item items are)) (plain_map f Is each items (All-tail Is item items are) rest ps)

-- a line that begins and ends with no blank
kept : (line back : List ℕ) (first : ℕ) → line ≡ first ∷ back → is_blank first ≡ false → without_leading_blanks line ≡ line
kept line back first e ink =
    ap without_leading_blanks e ∙ (ap (λ (b : Bool). cond b (without_leading_blanks back) (first ∷ back)) ink ∙ sym e)

end_at : (front : List ℕ) (last : ℕ) → get_or (front ++ last ∷ []) (length (front ++ last ∷ []) - 1) 0 ≡ last
end_at front last =
    let place : length (front ++ last ∷ []) - 1 ≡ length front = omega (arith, length-append front (last ∷ [])) in
    ap (λ (n : ℕ). get_or (front ++ last ∷ []) n 0) place ∙ get_or-append_seam front last [] 0

no_return : (line front : List ℕ) (last : ℕ) → line ≡ front ++ last ∷ [] → eqb last 13 ≡ false → strip_carriage_return line ≡ line
no_return line front last e other =
    ap strip_carriage_return e
    ∙ (ap (λ (b : Bool). cond b (take (length (front ++ last ∷ []) - 1) (front ++ last ∷ [])) (front ++ last ∷ [])) (ap (λ (n : ℕ). eqb n 13) (end_at front last) ∙ other) ∙ sym e)

plain_from : (line front back : List ℕ) (first last : ℕ) → line ≡ first ∷ back → line ≡ front ++ last ∷ [] → is_blank first ≡ false → is_blank last ≡ false → eqb last 13 ≡ false
    → All (λ b. b ≢ 10) line → IsPlain line
plain_from line front back first last e h ink end other free = record {
  feed_free = free;
  same = ap trimmed (no_return line front last h other)
      ∙ (ap (λ (x : List ℕ). reverse (without_leading_blanks (reverse x))) (kept line back first e ink)
      ∙ (ap reverse (kept (reverse line) (reverse front) last (ap reverse h ∙ reverse-append front (last ∷ [])) end) ∙ reverse-reverse line));
}

-- bytes of literals, by computation
free_cons : (feed : Bool) (byte : ℕ) (text : List ℕ) → feed ≡ eqb byte 10 → (cond feed false true && list_all (λ b. cond (eqb b 10) false true) text) ≡ true
    → (list_all (λ b. cond (eqb b 10) false true) text ≡ true → All (λ b. b ≢ 10) text) → All (λ b. b ≢ 10) (byte ∷ text)
free_cons true byte text h e more = absurd (cc)
free_cons false byte text h e more = All-cons (λ b. b ≢ 10) byte text (eqb-false byte 10 (sym h)) (more e)

free_from : (text : List ℕ) → list_all (λ b. cond (eqb b 10) false true) text ≡ true → All (λ b. b ≢ 10) text
free_from [] e = All-nil (λ b. b ≢ 10)
free_from (byte ∷ text) e = free_cons (eqb byte 10) byte text refl e (free_from text)

literal : (text : List ℕ) → list_all (λ b. cond (eqb b 10) false true) text ≡ true → trimmed (strip_carriage_return text) ≡ text → IsPlain text
literal text e h = record { feed_free = free_from text e; same = h }

name_free : (word : List ℕ) → IsName word → All (λ b. b ≢ 10) word
name_free word h = All-weaker IsAsciiLowercase (λ b. b ≢ 10) (λ b letter e. omega arith) word h.letters

decimal_free : (n : ℕ) → IsInt n → All (λ b. b ≢ 10) (decimal n)
decimal_free n h = All-weaker IsAsciiDigit (λ b. b ≢ 10) (λ b digit e. omega arith) (decimal n) (decimal_plain n h).digits

-- the last letter of a word
record EndsInLetter (word : List ℕ) : Type 0 where
  front : List ℕ
  letter : ℕ
  is_letter : IsAsciiLowercase letter
  split : word ≡ front ++ letter ∷ []

last_letter : (word : List ℕ) → 0 < length word → All IsAsciiLowercase word → EndsInLetter word
last_letter [] some are = absurd (omega arith)
last_letter (letter ∷ []) some are = record { front = []; letter = letter; is_letter = All-head IsAsciiLowercase letter [] are; split = refl }
last_letter (byte ∷ letter ∷ word) some are =
    let more = last_letter (letter ∷ word) (omega arith) (All-tail IsAsciiLowercase byte (letter ∷ word) are) in
    record { front = byte ∷ more.front; letter = more.letter; is_letter = more.is_letter; split = ap (λ (x : List ℕ). byte ∷ x) more.split }

no_blank : (letter : ℕ) → IsAsciiLowercase letter → is_blank letter ≡ false
no_blank letter h = rw (ne_eqb letter 32 (λ e. absurd (omega arith))) (ne_eqb letter 9 (λ e. absurd (omega arith)))

program_line : (name : List ℕ) → IsName name → IsPlain (codes "program " ++ name)
program_line name h =
    let end = last_letter name h.some h.letters in
    plain_from (codes "program " ++ name) (codes "program " ++ end.front) (codes "rogram " ++ name) 112 end.letter refl
    (ap (λ (x : List ℕ). codes "program " ++ x) end.split) refl (no_blank end.letter end.is_letter) (ne_eqb end.letter 13 (λ e. absurd (omega arith)))
    (All-append (λ b. b ≢ 10) (codes "program ") name (free_from (codes "program ") refl) (name_free name h))

free_after : (text more : List ℕ) → list_all (λ b. cond (eqb b 10) false true) text ≡ true → All (λ b. b ≢ 10) more → All (λ b. b ≢ 10) (text ++ more)
free_after text more e h = All-append (λ b. b ≢ 10) text more (free_from text e) h

subroutine_line : (label : List ℕ) → IsName label → IsPlain (codes "subroutine " ++ (label ++ codes "(c) bind(c)"))
subroutine_line label h =
    plain_from (codes "subroutine " ++ (label ++ codes "(c) bind(c)")) (codes "subroutine " ++ (label ++ codes "(c) bind(c")) (codes "ubroutine " ++ (label ++ codes "(c) bind(c)")) 115 41 refl
    (ap (λ (x : List ℕ). codes "subroutine " ++ x) (sym (append_assoc label (codes "(c) bind(c") (41 ∷ [])))) refl refl refl
    (free_after (codes "subroutine ") (label ++ codes "(c) bind(c)") refl (All-append (λ b. b ≢ 10) label (codes "(c) bind(c)") (name_free label h) (free_from (codes "(c) bind(c)") refl)))

call_plain : (label : List ℕ) → IsName label → (n : ℕ) → IsInt n → IsPlain (call_line label n)
unfolding call_line
call_plain label h n small =
    plain_from (codes "call " ++ (label ++ (codes "(" ++ (decimal n ++ codes "_c_int)")))) (codes "call " ++ (label ++ (codes "(" ++ (decimal n ++ codes "_c_int")))) (codes "all " ++ (label ++ (codes "(" ++ (decimal n ++ codes "_c_int)"))))
    99 41 refl
    (ap (λ (x : List ℕ). codes "call " ++ x)
    (ap (λ (x : List ℕ). label ++ (codes "(" ++ x)) (sym (append_assoc (decimal n) (codes "_c_int") (41 ∷ []))) ∙ sym (append_assoc label (codes "(" ++ (decimal n ++ codes "_c_int")) (41 ∷ [])))) refl refl refl
    (free_after (codes "call ") (label ++ (codes "(" ++ (decimal n ++ codes "_c_int)"))) refl
    (All-append (λ b. b ≢ 10) label (codes "(" ++ (decimal n ++ codes "_c_int)")) (name_free label h)
    (free_after (codes "(") (decimal n ++ codes "_c_int)") refl (All-append (λ b. b ≢ 10) (decimal n) (codes "_c_int)") (decimal_free n small) (free_from (codes "_c_int)") refl)))))

argument_free : (a : PutcharArgument) → IsArgument a → All (λ b. b ≢ 10) (argument_text a)
argument_free Parameter h = free_from (codes "c") refl
argument_free (Number n) h = decimal_free n h

put_free : (a : PutcharArgument) → IsArgument a → All (λ b. b ≢ 10) (put_text a)
unfolding put_text
put_free a h = free_after (codes "putchar(") (argument_text a ++ codes ");") refl (All-append (λ b. b ≢ 10) (argument_text a) (codes ");") (argument_free a h) (free_from (codes ");") refl))

put_plain : (a : PutcharArgument) → IsArgument a → IsPlain (put_text a)
unfolding put_text
put_plain a h =
    plain_from (codes "putchar(" ++ (argument_text a ++ codes ");")) (codes "putchar(" ++ (argument_text a ++ codes ")")) (codes "utchar(" ++ (argument_text a ++ codes ");")) 112 59 refl
    (ap (λ (x : List ℕ). codes "putchar(" ++ x) (sym (append_assoc (argument_text a) (codes ")") (59 ∷ [])))) refl refl refl (put_free a h)

puts_free : (puts : List PutcharArgument) → All IsArgument puts → All (λ b. b ≢ 10) (flat_map put_text puts)
puts_free [] are = All-nil (λ b. b ≢ 10)
puts_free (a ∷ puts) are = All-append (λ b. b ≢ 10) (put_text a) (flat_map put_text puts) (put_free a (All-head IsArgument a puts are)) (puts_free puts (All-tail IsArgument a puts are))

opening_free : (label : List ℕ) → IsName label → All (λ b. b ≢ 10) (opening_text label)
unfolding opening_text
opening_free label h = free_after (codes "void ") (label ++ codes "(int c){") refl (All-append (λ b. b ≢ 10) label (codes "(int c){") (name_free label h) (free_from (codes "(int c){") refl))

opening_plain : (label : List ℕ) → IsName label → IsPlain (opening_text label)
unfolding opening_text
opening_plain label h =
    plain_from (codes "void " ++ (label ++ codes "(int c){")) (codes "void " ++ (label ++ codes "(int c)")) (codes "oid " ++ (label ++ codes "(int c){")) 118 123 refl
    (ap (λ (x : List ℕ). codes "void " ++ x) (sym (append_assoc label (codes "(int c)") (123 ∷ [])))) refl refl refl (opening_free label h)

closing_free : All (λ b. b ≢ 10) closing_text
unfolding closing_text
closing_free = free_from (codes "}") refl

function_plain : (label : List ℕ) → IsName label → (puts : List PutcharArgument) → All IsArgument puts → IsPlain (opening_text label ++ (flat_map put_text puts ++ closing_text))
unfolding opening_text closing_text
function_plain label h puts are =
    plain_from (opening_text label ++ (flat_map put_text puts ++ closing_text)) (opening_text label ++ flat_map put_text puts) (codes "oid " ++ ((label ++ codes "(int c){") ++ (flat_map put_text puts ++ closing_text))) 118 125 refl
    (sym (append_assoc (opening_text label) (flat_map put_text puts) (125 ∷ []))) refl refl refl
    (All-append (λ b. b ≢ 10) (opening_text label) (flat_map put_text puts ++ closing_text) (opening_free label h)
    (All-append (λ b. b ≢ 10) (flat_map put_text puts) closing_text (puts_free puts are) closing_free))

end_plain : IsPlain end_line
unfolding end_line
end_plain = literal (codes "end program") refl refl

include_plain : IsPlain include_line
unfolding include_line
include_plain = literal (codes "#include <stdio.h>") refl refl

closing_plain : IsPlain closing_text
unfolding closing_text
closing_plain = literal (codes "}") refl refl

program_plain : (name : List ℕ) → IsName name → (rest : List (List ℕ)) → ArePlain rest → ArePlain (program_lines name ++ rest)
unfolding program_lines
program_plain name h rest ps =
    one_more (program_line name h) (one_more (literal (codes "use iso_c_binding") refl refl) (one_more (literal (codes "implicit none") refl refl) (one_more (literal (codes "interface") refl refl) ps)))

interface_plain : (label : List ℕ) → IsName label → (rest : List (List ℕ)) → ArePlain rest → ArePlain (interface_lines label ++ rest)
unfolding interface_lines
interface_plain label h rest ps =
    one_more (subroutine_line label h) (one_more (literal (codes "import") refl refl) (one_more (literal (codes "integer(c_int), value :: c") refl refl)
    (one_more (literal (codes "end subroutine") refl refl) (one_more (literal (codes "end interface") refl refl) ps))))

fortran_plain : (name label calls : List ℕ) → IsName name → IsName label → AreCalls calls → ArePlain (fortran_lines name label calls)
fortran_plain name label calls h k are =
    program_plain name h _ (interface_plain label k _ (plain_map (call_line label) IsInt (call_plain label k) calls are.numbers (end_line ∷ []) (one_more end_plain none)))

pub fortran_is_read : (name label calls : List ℕ) → IsName name → IsLabel name label → AreCalls calls → IsFortranText (written (fortran_lines name label calls)) label calls
fortran_is_read name label calls h k are = record { name = name; is_name = h; is_label = k; are_calls = are; lines = plain_lines (fortran_lines name label calls) (fortran_plain name label calls h k.word are) }

pub c_is_read : (label : List ℕ) (puts : List PutcharArgument) → IsName label → ArePuts puts → IsCText (written (c_lines label puts)) label puts
c_is_read label puts h are = record {
  are_puts = are;
  lines = inl (plain_lines (c_lines label puts) (one_more include_plain (one_more (opening_plain label h) (plain_map put_text IsArgument put_plain puts are.arguments (closing_text ∷ []) (one_more closing_plain none)))));
}

pub one_line_is_read : (label : List ℕ) (puts : List PutcharArgument) → IsName label → ArePuts puts → IsCText (written (c_one_line label puts)) label puts
one_line_is_read label puts h are = record {
  are_puts = are;
  lines = inr (plain_lines (c_one_line label puts) (one_more include_plain (one_more (function_plain label h puts are.arguments) none)));
}
