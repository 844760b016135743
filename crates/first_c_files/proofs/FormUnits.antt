-- The external declarations of the form's C text: those of `stdio.h`, and the function.
use Rattle.std.proofs.Common.{◌≡◌, ℕ, List, [], ◌∷◌, Some, None, true, false, refl, ap, ◌∙◌}
use Rattle.c_tree.specs.declared.operator.SpecifierWord.{SpecifierWord}
use Rattle.c_tree.specs.declared.operator.SpecifierWord.TheVariants as word
use Rattle.c_tree.specs.declared.operator.ConstantType.{ConstantType}
use Rattle.c_tree.specs.declared.operator.PointerMark.TheVariants as mark
use Rattle.c_grammar.specs.declared.token.Token.{Token}
use Rattle.c_grammar.specs.declared.token.Token.TheVariants as token
use Rattle.c_grammar.specs.declared.token.Allowed.TheVariants.{Named, Abstract, Either}
use Rattle.c_grammar.specs.declared.scope.Binding.{Binding}
use Rattle.c_grammar.specs.Grammar.{Scope, is_type, Expr, Name, Number, Postfix, post, no_posts, Call, Specs, no_specs, spec, Keyword, Decl, decl, Id, Absent, suffix, no_suffixes, Function, Params, OnlyVoid, Some_params, no_more, typed, spell, FitsSpecifiers, FitsParams}
use Rattle.c_unit_grammar.specs.Statements.{Items, nothing, does, Do, init, Declares, Ext, Outer, Defines, spell_items, spell_ext, spell_exts, FitsItems, FitsExt, FitsExts}

-- ---- specifiers

abbrev one_word : SpecifierWord → Specs
one_word w = spec (Keyword w) no_specs

abbrev two_words : SpecifierWord → SpecifierWord → Specs
two_words v w = spec (Keyword v) (one_word w)

-- a type that one word names
one_fits : (n : ℕ) (s : Scope) → FitsSpecifiers n s (one_word word.Int) × FitsSpecifiers n s (one_word word.Void)
one_fits n s = ((tt, tt), (tt, tt))

const_char_fits : (n : ℕ) (s : Scope) → FitsSpecifiers n s (two_words word.Const word.Char)
const_char_fits n s = (tt, (tt, tt))

typedef_long_fits : (n : ℕ) (s : Scope) → FitsSpecifiers n s (two_words word.Typedef word.Long)
typedef_long_fits n s = (tt, (tt, tt))

typedef_unsigned_long_fits : (n : ℕ) (s : Scope) → FitsSpecifiers n s (spec (Keyword word.Typedef) (two_words word.Unsigned word.Long))
typedef_unsigned_long_fits n s = (tt, (tt, (tt, tt)))

-- ---- declarations of stdio.h (7.19 and 7.21), whose names have the numbers 0 to 4

abbrev named : ℕ → Decl
named k = decl [] (Id k) no_suffixes

abbrev function : ℕ → Params → Decl
function k ps = decl [] (Id k) (suffix (Function ps) no_suffixes)

abbrev only : Specs → Decl → Params
only specs d = Some_params (typed specs d) no_more

abbrev declares : Specs → Decl → Ext
declares specs d = Outer (Declares specs (init d None) [])

abbrev size_type : Ext
size_type = declares (spec (Keyword word.Typedef) (two_words word.Unsigned word.Long)) (named 0)

abbrev difference_type : Ext
difference_type = declares (two_words word.Typedef word.Long) (named 1)

abbrev putchar : Ext
putchar = declares (one_word word.Int) (function 2 (only (one_word word.Int) (decl [] Absent no_suffixes)))

abbrev getchar : Ext
getchar = declares (one_word word.Int) (function 3 OnlyVoid)

abbrev puts : Ext
puts = declares (one_word word.Int) (function 4 (only (two_words word.Const word.Char) (decl (mark.Star ∷ []) Absent no_suffixes)))

-- ---- the function (6.9.1), whose name and parameter have the numbers 5 and 6

-- putchar(e);
abbrev pub puts_items : List Expr → Items
puts_items [] = nothing
puts_items (e ∷ es) = does (Do (Postfix (Name 2) (post (Call e) no_posts))) (puts_items es)

abbrev definition : List Expr → Ext
definition es = Defines (one_word word.Void) (function 5 (only (one_word word.Int) (named 6))) (puts_items es)

abbrev pub form_units : List Expr → List Ext
form_units es = size_type ∷ difference_type ∷ putchar ∷ getchar ∷ puts ∷ definition es ∷ []

-- what is put: the parameter, or a constant
pub data IsPut : Expr → Type 0 where
  parameter : IsPut (Name 6)
  constant : (value : ℕ) (t : ConstantType) → IsPut (Number value t)

abbrev pub ArePut : List Expr → Type 0
ArePut [] = Unit {0}
ArePut (e ∷ es) = IsPut e × ArePut es

-- ---- they fit

abbrev bound : ℕ → Binding
bound k = record { name = k; is_type = false }

abbrev type_bound : ℕ → Binding
type_bound k = record { name = k; is_type = true }

abbrev inside : Scope
inside = type_bound 0 ∷ type_bound 1 ∷ bound 2 ∷ bound 3 ∷ bound 4 ∷ bound 5 ∷ bound 6 ∷ []

items_fit : (es : List Expr) → ArePut es → FitsItems 63 inside (puts_items es)
unfolding is_type
items_fit [] are = tt
items_fit (e ∷ es) (parameter, are) = ((refl, refl, (refl, tt), tt), items_fit es are)
items_fit (e ∷ es) (constant value t, are) = ((refl, refl, (tt, tt), tt), items_fit es are)

no_name : {A : Type 0} → Either ≡ Named → A
no_name e = absurd (cc)

is_named : {A : Type 0} → Named ≡ Abstract → A
is_named e = absurd (cc)

is_either : {A : Type 0} → Either ≡ Abstract → A
is_either e = absurd (cc)

int_parameter : (s : Scope) → FitsParams 64 s (only (one_word word.Int) (decl [] Absent no_suffixes))
int_parameter s = (((one_fits 63 s).0, (tt, (λ e. no_name e), tt), tt), tt, tt)

text_parameter : (s : Scope) → FitsParams 64 s (only (two_words word.Const word.Char) (decl (mark.Star ∷ []) Absent no_suffixes))
text_parameter s = ((const_char_fits 63 s, (tt, (λ e. no_name e), tt), tt), tt, tt)

named_parameter : (s : Scope) → FitsParams 64 s (only (one_word word.Int) (named 6))
named_parameter s = (((one_fits 63 s).0, (tt, (λ e. is_either e), tt), tt), tt, tt)

pub units_fit : (es : List Expr) → ArePut es → FitsExts 64 [] (form_units es)
unfolding is_type
units_fit es are = (
  (typedef_unsigned_long_fits 64 [], (((tt, (λ e. is_named e), tt), tt), tt), tt),
  (
    (typedef_long_fits 64 [], (((tt, (λ e. is_named e), tt), tt), tt), tt),
    (
      ((one_fits 64 []).0, (((tt, (λ e. is_named e), (int_parameter [], tt)), tt), tt), tt),
      (
        ((one_fits 64 []).0, (((tt, (λ e. is_named e), (tt, tt)), tt), tt), tt),
        (
          ((one_fits 64 []).0, (((tt, (λ e. is_named e), (text_parameter [], tt)), tt), tt), tt),
          (((one_fits 64 []).1, (tt, (λ e. is_named e), (named_parameter [], tt)), items_fit es are, tt), tt),
        ),
      ),
    ),
  ),
)

-- ---- how they are spelled

abbrev pub put_words : Expr → List Token → List Token
put_words e rest = token.Name 2 ∷ token.Open ∷ spell e (token.Close ∷ token.Semi ∷ rest)

abbrev pub puts_words : List Expr → List Token → List Token
puts_words [] rest = rest
puts_words (e ∷ es) rest = put_words e (puts_words es rest)

-- the words of stdio.h
abbrev pub header_words : List Token → List Token
header_words rest =
    token.Word word.Typedef ∷ token.Word word.Unsigned ∷ token.Word word.Long ∷ token.Name 0 ∷ token.Semi
    ∷ token.Word word.Typedef ∷ token.Word word.Long ∷ token.Name 1 ∷ token.Semi
    ∷ token.Word word.Int ∷ token.Name 2 ∷ token.Open ∷ token.Word word.Int ∷ token.Close ∷ token.Semi
    ∷ token.Word word.Int ∷ token.Name 3 ∷ token.Open ∷ token.Word word.Void ∷ token.Close ∷ token.Semi
    ∷ token.Word word.Int ∷ token.Name 4 ∷ token.Open ∷ token.Word word.Const ∷ token.Word word.Char ∷ token.Star ∷ token.Close ∷ token.Semi ∷ rest

abbrev pub opening_words : List Token → List Token
opening_words rest =
    token.Word word.Void ∷ token.Name 5 ∷ token.Open ∷ token.Word word.Int ∷ token.Name 6 ∷ token.Close ∷ token.BraceOpen ∷ rest

abbrev pub form_words : List Expr → List Token
form_words es = header_words (opening_words (puts_words es (token.BraceClose ∷ [])))

items_spelled : (es : List Expr) (rest : List Token) → puts_words es rest ≡ spell_items (puts_items es) rest
items_spelled [] rest = refl
items_spelled (e ∷ es) rest = ap (put_words e) (items_spelled es rest)

pub units_spelled : (es : List Expr) → form_words es ≡ spell_exts (form_units es) []
units_spelled es = ap (λ (ts : List Token). header_words (opening_words ts)) (items_spelled es (token.BraceClose ∷ []))
