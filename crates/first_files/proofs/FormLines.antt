-- The lines of the form's Fortran text, cut into their pieces.
use Rattle.std.proofs.Common.{◌≡◌, ℕ, ◌≤◌, true, false, List, [], ◌∷◌, ◌++◌, map, length, Some, None, codes, refl, sym, ap, ◌∙◌, arith, append_assoc}
use Rattle.std.specs.List.{All}
use Rattle.std.specs.Fmt.{decimal}
use Rattle.std.specs.Char.{IsAsciiLowercase, IsAsciiDigit}
use Rattle.std.proofs.lemmas.Bool.{ne_eqb, le-leb, lt-leb}
use Rattle.std.proofs.lemmas.List.Elements.{All-head, All-tail}
use Rattle.f_lex.specs.declared.class.Class.TheVariants as class
use Rattle.f_lex.specs.declared.class.Run.TheVariants as run
use Rattle.f_lex.specs.declared.token.Kind.TheVariants as kind
use Rattle.f_lex.specs.declared.token.Mark.TheVariants as mark
use Rattle.f_lex.specs.declared.token.Token.{Token}
use Rattle.f_lex.specs.declared.token.Token.TheVariants as token
use Rattle.f_lex.specs.Characters.{class_at, class_of, goes_on, is_next, quote_is_second}
use Rattle.f_lex.specs.Lines.{byte_at}
use Rattle.f_lex.specs.Words.{lowered, kind_quote_at, quote_at, mark_at, one_or_two}
use Rattle.f_lex.specs.Grammar.{Word, Number, Named, Sign, Blanks, AreRun, Fits}
use Rattle.first_form.specs.Words.{IsName, IsInt}
use Rattle.first_form.specs.Forms.{program_lines, interface_lines, call_line, end_line, fortran_lines}
use Rattle.first_form.proofs.Numerals.{decimal_plain}
use Rattle.first_files.proofs.FormStatements.{name_of, calls_tokens, end_tokens, form_tokens}
use Rattle.first_files.proofs.Joining.{LineOf, Lined, none, one_more}

-- ---- names and digits

letter_class : (x : ℕ) (ys : List ℕ) → IsAsciiLowercase x → class_at (x ∷ ys) ≡ class.Letter
unfolding class_at class_of
letter_class x ys h = rw (ne_eqb x 13 (λ e. absurd (omega arith)), le-leb 65 x (omega arith), lt-leb x 90 (omega arith), le-leb 97 x (omega arith), le-leb x 122 (omega arith)) refl

digit_class : (x : ℕ) (ys : List ℕ) → IsAsciiDigit x → class_at (x ∷ ys) ≡ class.Digit
unfolding class_at class_of
digit_class x ys h = rw (ne_eqb x 13 (λ e. absurd (omega arith)), lt-leb 65 x (omega arith), lt-leb 97 x (omega arith), le-leb 48 x (omega arith), le-leb x 57 (omega arith)) refl

letter_goes : (x : ℕ) (ys : List ℕ) → IsAsciiLowercase x → goes_on run.Word (x ∷ ys) ≡ true
unfolding goes_on
letter_goes x ys h = rw (letter_class x ys h) refl

digit_goes : (x : ℕ) (ys : List ℕ) → IsAsciiDigit x → goes_on run.Digits (x ∷ ys) ≡ true
unfolding goes_on
digit_goes x ys h = rw (digit_class x ys h) refl

letters_run : (cs rest : List ℕ) → All IsAsciiLowercase cs → goes_on run.Word rest ≡ false → AreRun run.Word cs rest
letters_run [] rest a s = s
letters_run (c ∷ cs) rest a s = (letter_goes c (cs ++ rest) (All-head IsAsciiLowercase c cs a), letters_run cs rest (All-tail IsAsciiLowercase c cs a) s)

digits_run : (ds rest : List ℕ) → All IsAsciiDigit ds → goes_on run.Digits rest ≡ false → AreRun run.Digits ds rest
digits_run [] rest a s = s
digits_run (d ∷ ds) rest a s = (digit_goes d (ds ++ rest) (All-head IsAsciiDigit d ds a), digits_run ds rest (All-tail IsAsciiDigit d ds a) s)

letters_class : (cs rest : List ℕ) → 1 ≤ length cs → All IsAsciiLowercase cs → class_at (cs ++ rest) ≡ class.Letter
letters_class [] rest some a = absurd (omega arith)
letters_class (c ∷ cs) rest some a = letter_class c (cs ++ rest) (All-head IsAsciiLowercase c cs a)

digits_class : (ds rest : List ℕ) → 1 ≤ length ds → All IsAsciiDigit ds → class_at (ds ++ rest) ≡ class.Digit
digits_class [] rest some a = absurd (omega arith)
digits_class (d ∷ ds) rest some a = digit_class d (ds ++ rest) (All-head IsAsciiDigit d ds a)

-- no blank goes on with a name
name_no_blank : (name rest : List ℕ) → IsName name → goes_on run.Blanks (name ++ rest) ≡ false
unfolding goes_on
name_no_blank name rest h = rw (letters_class name rest h.some h.letters) refl

name_fits : (name rest : List ℕ) → IsName name → goes_on run.Word rest ≡ false → kind_quote_at rest ≡ None → Fits (Word name) rest
name_fits name rest h s k = (letters_class name rest h.some h.letters, letters_run name rest h.letters s, k)

-- ---- lines without names

use_line : LineOf (codes "use iso_c_binding") (name_of (codes "use") ∷ name_of (codes "iso_c_binding") ∷ [])
unfolding goes_on class_at class_of is_next kind_quote_at byte_at quote_is_second lowered mark_at one_or_two
use_line = record {
  begins = λ rest. refl;
  shapes = Word (codes "use") ∷ Blanks 32 [] ∷ Word (codes "iso_c_binding") ∷ [];
  spelled_is = λ rest. refl;
  fit = λ rest s. ((refl, (refl, (refl, (refl, refl))), refl), ((refl, refl), ((refl, (refl, (refl, (refl, (refl, (refl, (refl, (refl, (refl, (refl, (refl, (refl, (refl, (refl, s.no_word))))))))))))), s.no_kind), tt)));
  gives = λ more. refl;
}

none_line : LineOf (codes "implicit none") (name_of (codes "implicit") ∷ name_of (codes "none") ∷ [])
unfolding goes_on class_at class_of is_next kind_quote_at byte_at quote_is_second lowered mark_at one_or_two
none_line = record {
  begins = λ rest. refl;
  shapes = Word (codes "implicit") ∷ Blanks 32 [] ∷ Word (codes "none") ∷ [];
  spelled_is = λ rest. refl;
  fit = λ rest s. ((refl, (refl, (refl, (refl, (refl, (refl, (refl, (refl, (refl, refl)))))))), refl), ((refl, refl), ((refl, (refl, (refl, (refl, (refl, s.no_word)))), s.no_kind), tt)));
  gives = λ more. refl;
}

interface_line : LineOf (codes "interface") (name_of (codes "interface") ∷ [])
unfolding goes_on class_at class_of is_next kind_quote_at byte_at quote_is_second lowered mark_at one_or_two
interface_line = record {
  begins = λ rest. refl;
  shapes = Word (codes "interface") ∷ [];
  spelled_is = λ rest. refl;
  fit = λ rest s. ((refl, (refl, (refl, (refl, (refl, (refl, (refl, (refl, (refl, (refl, s.no_word))))))))), s.no_kind), tt);
  gives = λ more. refl;
}

import_line : LineOf (codes "import") (name_of (codes "import") ∷ [])
unfolding goes_on class_at class_of is_next kind_quote_at byte_at quote_is_second lowered mark_at one_or_two
import_line = record {
  begins = λ rest. refl;
  shapes = Word (codes "import") ∷ [];
  spelled_is = λ rest. refl;
  fit = λ rest s. ((refl, (refl, (refl, (refl, (refl, (refl, (refl, s.no_word)))))), s.no_kind), tt);
  gives = λ more. refl;
}

dummy_line : LineOf (codes "integer(c_int), value :: c") (name_of (codes "integer") ∷ token.Mark mark.Open ∷ name_of (codes "c_int") ∷ token.Mark mark.Close ∷ token.Mark mark.Comma ∷ name_of (codes "value") ∷ token.Mark mark.DoubleColon ∷ name_of (codes "c") ∷ [])
unfolding goes_on class_at class_of is_next kind_quote_at byte_at quote_is_second lowered mark_at one_or_two
dummy_line = record {
  begins = λ rest. refl;
  shapes = Word (codes "integer") ∷ Sign mark.Open 40 [] ∷ Word (codes "c_int") ∷ Sign mark.Close 41 [] ∷ Sign mark.Comma 44 [] ∷ Blanks 32 [] ∷ Word (codes "value") ∷ Blanks 32 [] ∷ Sign mark.DoubleColon 58 (58 ∷ []) ∷ Blanks 32 [] ∷ Word (codes "c") ∷ [];
  spelled_is = λ rest. refl;
  fit = λ rest s. ((refl, (refl, (refl, (refl, (refl, (refl, (refl, (refl, refl))))))), refl), ((refl, refl), ((refl, (refl, (refl, (refl, (refl, (refl, refl))))), refl), ((refl, refl), ((refl, refl), ((refl, refl), ((refl, (refl, (refl, (refl, (refl, (refl, refl))))), refl), ((refl, refl), ((refl, refl), ((refl, refl), ((refl, (refl, s.no_word), s.no_kind), tt)))))))))));
  gives = λ more. refl;
}

end_body_line : LineOf (codes "end subroutine") (name_of (codes "end") ∷ name_of (codes "subroutine") ∷ [])
unfolding goes_on class_at class_of is_next kind_quote_at byte_at quote_is_second lowered mark_at one_or_two
end_body_line = record {
  begins = λ rest. refl;
  shapes = Word (codes "end") ∷ Blanks 32 [] ∷ Word (codes "subroutine") ∷ [];
  spelled_is = λ rest. refl;
  fit = λ rest s. ((refl, (refl, (refl, (refl, refl))), refl), ((refl, refl), ((refl, (refl, (refl, (refl, (refl, (refl, (refl, (refl, (refl, (refl, (refl, s.no_word)))))))))), s.no_kind), tt)));
  gives = λ more. refl;
}

end_interface_line : LineOf (codes "end interface") (name_of (codes "end") ∷ name_of (codes "interface") ∷ [])
unfolding goes_on class_at class_of is_next kind_quote_at byte_at quote_is_second lowered mark_at one_or_two
end_interface_line = record {
  begins = λ rest. refl;
  shapes = Word (codes "end") ∷ Blanks 32 [] ∷ Word (codes "interface") ∷ [];
  spelled_is = λ rest. refl;
  fit = λ rest s. ((refl, (refl, (refl, (refl, refl))), refl), ((refl, refl), ((refl, (refl, (refl, (refl, (refl, (refl, (refl, (refl, (refl, (refl, s.no_word))))))))), s.no_kind), tt)));
  gives = λ more. refl;
}

end_program_line : LineOf (codes "end program") (name_of (codes "end") ∷ name_of (codes "program") ∷ [])
unfolding goes_on class_at class_of is_next kind_quote_at byte_at quote_is_second lowered mark_at one_or_two
end_program_line = record {
  begins = λ rest. refl;
  shapes = Word (codes "end") ∷ Blanks 32 [] ∷ Word (codes "program") ∷ [];
  spelled_is = λ rest. refl;
  fit = λ rest s. ((refl, (refl, (refl, (refl, refl))), refl), ((refl, refl), ((refl, (refl, (refl, (refl, (refl, (refl, (refl, (refl, s.no_word))))))), s.no_kind), tt)));
  gives = λ more. refl;
}

-- ---- lines with names

program_line : (name : List ℕ) → IsName name → LineOf (codes "program " ++ name) (name_of (codes "program") ∷ name_of (lowered name) ∷ [])
unfolding goes_on class_at class_of is_next kind_quote_at byte_at quote_is_second lowered mark_at one_or_two
program_line name h = record {
  begins = λ rest. refl;
  shapes = Word (codes "program") ∷ Blanks 32 [] ∷ Word name ∷ [];
  spelled_is = λ rest. refl;
  fit = λ rest s. ((refl, (refl, (refl, (refl, (refl, (refl, (refl, (refl, refl))))))), refl), ((refl, name_no_blank name rest h), (name_fits name rest h s.no_word s.no_kind, tt)));
  gives = λ more. refl;
}

subroutine_line : (label : List ℕ) → IsName label
    → LineOf (codes "subroutine " ++ (label ++ codes "(c) bind(c)"))
    (name_of (codes "subroutine") ∷ name_of (lowered label) ∷ token.Mark mark.Open ∷ name_of (codes "c") ∷ token.Mark mark.Close ∷ name_of (codes "bind") ∷ token.Mark mark.Open ∷ name_of (codes "c") ∷ token.Mark mark.Close ∷ [])
unfolding goes_on class_at class_of is_next kind_quote_at byte_at quote_is_second lowered mark_at one_or_two
subroutine_line label h = record {
  begins = λ rest. refl;
  shapes = Word (codes "subroutine") ∷ Blanks 32 [] ∷ Word label ∷ Sign mark.Open 40 [] ∷ Word (codes "c") ∷ Sign mark.Close 41 [] ∷ Blanks 32 [] ∷ Word (codes "bind") ∷ Sign mark.Open 40 [] ∷ Word (codes "c") ∷ Sign mark.Close 41 [] ∷ [];
  spelled_is = λ rest. ap (λ (l : List ℕ). codes "subroutine " ++ l) (sym (append_assoc label (codes "(c) bind(c)") rest));
  fit = λ rest s. (
    (refl, (refl, (refl, (refl, (refl, (refl, (refl, (refl, (refl, (refl, (refl, refl)))))))))), refl),
    (
      (refl, name_no_blank label (codes "(c) bind(c)" ++ rest) h),
      (
        name_fits label (codes "(c) bind(c)" ++ rest) h refl refl,
        ((refl, refl), ((refl, (refl, refl), refl), ((refl, refl), ((refl, refl), ((refl, (refl, (refl, (refl, (refl, refl)))), refl), ((refl, refl), ((refl, (refl, refl), refl), ((refl, refl), tt)))))))),
      ),
    ),
  );
  gives = λ more. refl;
}

call_is : (label : List ℕ) (n : ℕ) → IsName label → IsInt n
    → LineOf (call_line label n)
    (name_of (codes "call") ∷ name_of (lowered label) ∷ token.Mark mark.Open ∷ token.Number (lowered (decimal n)) (Some (kind.Name (codes "c_int"))) ∷ token.Mark mark.Close ∷ [])
unfolding goes_on class_at class_of is_next kind_quote_at byte_at quote_is_second lowered mark_at one_or_two quote_at call_line
call_is label n h small =
    let numeral = decimal_plain n small in
    let digits = decimal n in
    record {
      begins = λ rest. refl;
      shapes = Word (codes "call") ∷ Blanks 32 [] ∷ Word label ∷ Sign mark.Open 40 [] ∷ Number digits (Named (codes "c_int")) ∷ Sign mark.Close 41 [] ∷ [];
      spelled_is = λ rest.
          ap (λ (l : List ℕ). codes "call " ++ l)
          (ap (λ (l : List ℕ). label ++ (codes "(" ++ l)) (sym (append_assoc digits (codes "_c_int)") rest)) ∙ sym (append_assoc label (codes "(" ++ (digits ++ codes "_c_int)")) rest));
      fit = λ rest s. (
        (refl, (refl, (refl, (refl, (refl, refl)))), refl),
        (
          (refl, name_no_blank label (codes "(" ++ (digits ++ (codes "_c_int)" ++ rest))) h),
          (
            name_fits label (codes "(" ++ (digits ++ (codes "_c_int)" ++ rest))) h refl refl,
            (
              (refl, refl),
              ((digits_class digits (codes "_c_int)" ++ rest) numeral.some numeral.digits, digits_run digits (codes "_c_int)" ++ rest) numeral.digits refl, refl, (refl, (refl, (refl, (refl, (refl, (refl, refl))))))), ((refl, refl), tt)),
            ),
          ),
        ),
      );
      gives = λ more. refl;
    }

-- ---- all lines

-- the digits of each call
abbrev pub numerals : List ℕ → List (List ℕ)
numerals calls = map (λ n. lowered (decimal n)) calls

calls_lined : (label : List ℕ) → IsName label → (calls : List ℕ) → All IsInt calls → (lines : List (List ℕ)) (us : List Token) → Lined lines us → Lined (map (call_line label) calls ++ lines) (calls_tokens (lowered label) (numerals calls) us)
calls_lined label h [] a lines us m = m
calls_lined label h (n ∷ calls) a lines us m = one_more (call_is label n h (All-head IsInt n calls a)) (calls_lined label h calls (All-tail IsInt n calls a) lines us m)

pub form_lined : (name label : List ℕ) → IsName name → IsName label → (calls : List ℕ) → All IsInt calls → Lined (fortran_lines name label calls) (form_tokens (lowered name) (lowered label) (numerals calls))
unfolding program_lines interface_lines end_line
form_lined name label h k calls a =
    one_more (program_line name h) (one_more use_line (one_more none_line (one_more interface_line
    (one_more (subroutine_line label k) (one_more import_line (one_more dummy_line (one_more end_body_line (one_more end_interface_line
    (calls_lined label k calls a (end_line ∷ []) end_tokens (one_more end_program_line none))))))))))
