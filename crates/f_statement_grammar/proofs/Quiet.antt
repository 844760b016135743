-- No declaration is read as a statement of an executable part.
use Rattle.std.proofs.Common.{◌≡◌, ℕ, List, [], ◌∷◌, length, Option, Some, None, Bool, true, false, refl, sym, ap, subst, ◌∙◌}
use Rattle.std.specs.Prelude.{codes}
use Rattle.f_lex.specs.declared.token.Mark.TheVariants as mark
use Rattle.f_lex.specs.declared.token.Token.{Token}
use Rattle.f_lex.specs.declared.token.Token.TheVariants as token
use Rattle.f_grammar.specs.Grammar.{Refer, refer, Parts, no_parts, part, named, Group, NoGroup, group, Range, NoRange, range, TypeOf, Integer, Logical, Character, Derived, Assumed, NoKind, kind, NoParams, params, put, spell_group, spell_range, spell_parts, spell_type, FitsGroup, FitsRange, FitsType}
use Rattle.f_grammar.specs.Reading.{IfSome, ◌>>=◌, open_at, percent_at, name_at, closing, behind_group, refer_at, expr_at}
use Rattle.f_grammar.specs.ActionReading.{assign_at, arrow_at, set_behind, target_at, by_word}
use Rattle.f_grammar.proofs.Sound.{AsRefer, refer_sound, expr_sound}
use Rattle.f_grammar.proofs.Closed.{closed_args}
use Rattle.f_grammar.proofs.Steps.{plain_part, parts_stop, refer_step}
use Rattle.f_line_grammar.specs.LineReading.{end_at, construct_at, simple, word_line, line_at}
use Rattle.f_declaration_grammar.specs.Listing.{spell_behind, spell_listed, spell_each, AreSome}
use Rattle.f_declaration_grammar.specs.Declarations.{Public, Private, Attr, Entity, entity, TypeAttr, Prefix, Recursive, Returns, Ended, OfProgram, OfModule, OfSubroutine, OfFunction, OfType, OfInterface, Declared, Program, Module, Head, Contains, Use, Import, ImplicitNone, Variables, TypeStart, InterfaceStart, Accesses, SaveAll, Procedures, End, EndOf, front, spell_name, spell_attr, spell_entity, spell_uses, spell_colons, spell_intrinsic, spell_type_attr, spell_prefix, unit_word, spell_maybe_name, spell_end, spell_declared, FitsEntity, FitsDeclared}
use Rattle.f_declaration_grammar.proofs.DeclaredGrows.{behind_type_group}

-- the end, a name, a comma or `::`: no reference goes on so, and no assignment
abbrev Quiet : List Token → Type 0
Quiet [] = Unit {0}
Quiet (token.Name name ∷ ts) = Unit {0}
Quiet (token.Mark mark.Comma ∷ ts) = Unit {0}
Quiet (token.Mark mark.DoubleColon ∷ ts) = Unit {0}
Quiet _ = ⊥

quiet_open : (ts : List Token) → Quiet ts → open_at ts ≡ None
unfolding open_at
quiet_open (token.Mark mark.Open ∷ ts) q = absurd q
quiet_open _ q = refl

quiet_percent : (ts : List Token) → Quiet ts → percent_at ts ≡ None
unfolding percent_at
quiet_percent (token.Mark mark.Percent ∷ ts) q = absurd q
quiet_percent _ q = refl

quiet_set : (x : Refer) (ts : List Token) → Quiet ts → set_behind (x, ts) ≡ None
unfolding set_behind assign_at arrow_at
quiet_set x (token.Mark mark.Assign ∷ ts) q = absurd q
quiet_set x (token.Mark mark.Arrow ∷ ts) q = absurd q
quiet_set x [] q = refl
quiet_set x (_ ∷ ts) q = refl

-- behind a word
target_step : (n : ℕ) (ts r : List Token) (x : Refer) → refer_at (expr_at n) ts ≡ Some (x, r) → set_behind (x, r) ≡ None → target_at n ts ≡ None
unfolding target_at
target_step n ts r x e1 e2 = rw e1 e2

no_target : (n : ℕ) (w : List ℕ) (ts : List Token) → Quiet ts → target_at n (front w ts) ≡ None
no_target n w ts q =
    let x : Refer = refer (named w NoGroup NoRange) no_parts in
    target_step n (front w ts) ts x
    (refer_step (expr_at n) (front w ts) ts ts (named w NoGroup NoRange) no_parts (plain_part (expr_at n) w ts (quiet_open ts q)) (parts_stop (expr_at n) (length ts) ts (quiet_percent ts q)))
    (quiet_set x ts q)

-- behind a word and parentheses
not_open_percent : (ts us : List Token) → put mark.Open ts ≡ put mark.Percent us → ⊥
not_open_percent ts us e = cc

none_open : (x : Refer) (ts : List Token) → set_behind (x, put mark.Open ts) ≡ None
unfolding set_behind assign_at arrow_at
none_open x ts = refl

parts_none : (n : ℕ) (x : Refer) (g : Group) (s : Range) (ps : Parts) (rest us r : List Token) → FitsGroup n g → FitsRange n g s
    → put mark.Open us ≡ spell_group g (spell_range s (spell_parts ps rest)) → behind_group (put mark.Open us) ≡ r → Quiet r → set_behind (x, rest) ≡ None
unfolding behind_group closing
parts_none n x NoGroup NoRange no_parts rest us r f h e b q = ap (λ (ts : List Token). set_behind (x, ts)) (sym e) ∙ none_open x us
parts_none n x NoGroup NoRange (part p ps) rest us r f h e b q = absurd (not_open_percent us _ e)
parts_none n x NoGroup (range lower upper) ps rest us r f h e b q = absurd h.0
parts_none n x (group args) NoRange no_parts rest us r f h e b q =
    let is : rest ≡ r = sym (closed_args args n true 0 (put mark.Close rest) f) ∙ sym (ap behind_group e) ∙ b in
    ap (λ (ts : List Token). set_behind (x, ts)) is ∙ quiet_set x r q
parts_none n x (group args) NoRange (part p ps) rest us r f h e b q =
    absurd (subst Quiet (sym (sym (closed_args args n true 0 (put mark.Close (spell_parts (part p ps) rest)) f) ∙ sym (ap behind_group e) ∙ b)) q)
parts_none n x (group args) (range lower upper) ps rest us r f h e b q =
    absurd (subst Quiet (sym (sym (closed_args args n true 0 (put mark.Close (spell_range (range lower upper) (spell_parts ps rest))) f) ∙ sym (ap behind_group e) ∙ b)) q)

tail_is : (a b : List ℕ) (ts us : List Token) → front a ts ≡ front b us → ts ≡ us
tail_is a b ts us e = cc

no_target_group : (n : ℕ) (w : List ℕ) (us r : List Token) → behind_group (put mark.Open us) ≡ r → Quiet r → target_at n (front w (put mark.Open us)) ≡ None
unfolding target_at
no_target_group n w us r b q = pick (refer_at (expr_at n) (front w (put mark.Open us))) (refer_sound (expr_at n) n (expr_sound n) (front w (put mark.Open us)))
  where
    pick : (o : Option (Refer × List Token)) → IfSome o (AsRefer n (front w (put mark.Open us))) → (o >>= set_behind) ≡ None
    pick None p = refl
    pick (Some (refer (named m g s) ps, rest)) p = parts_none n (refer (named m g s) ps) g s ps rest us r p.1.0.0 p.1.0.1 (tail_is w m _ _ p.0) b q

-- behind a type
no_target_type : (n : ℕ) (t : TypeOf) (rest : List Token) → FitsType n t → Quiet rest → target_at n (spell_type t rest) ≡ None
no_target_type n (Integer NoKind) rest f q = no_target n (codes "integer") rest q
no_target_type n (Integer (kind w e)) rest f q = no_target_group n (codes "integer") _ rest (behind_type_group (Integer (kind w e)) n rest f tt) q
no_target_type n (Logical NoKind) rest f q = no_target n (codes "logical") rest q
no_target_type n (Logical (kind w e)) rest f q = no_target_group n (codes "logical") _ rest (behind_type_group (Logical (kind w e)) n rest f tt) q
no_target_type n (Character NoParams) rest f q = no_target n (codes "character") rest q
no_target_type n (Character (params p ps)) rest f q = no_target_group n (codes "character") _ rest (behind_type_group (Character (params p ps)) n rest f tt) q
no_target_type n (Derived name) rest f q = no_target_group n (codes "type") _ rest (behind_type_group (Derived name) n rest f tt) q
no_target_type n Assumed rest f q = no_target_group n (codes "type") _ rest (behind_type_group Assumed n rest f tt) q

-- ---- declarations

line_none : (n : ℕ) (w : List ℕ) (ts : List Token) → target_at n (front w ts) ≡ None → construct_at n w ts (simple (by_word n w ts)) ≡ None → line_at n (front w ts) ≡ None
unfolding line_at word_line name_at
line_none n w ts e1 e2 = rw e1 e2

plain_none : (n : ℕ) (w : List ℕ) (ts : List Token) → Quiet ts → construct_at n w ts (simple (by_word n w ts)) ≡ None → line_at n (front w ts) ≡ None
plain_none n w ts q e = line_none n w ts (no_target n w ts q) e

type_none : (n : ℕ) (t : TypeOf) (rest : List Token) → FitsType n t → Quiet rest → line_at n (spell_type t rest) ≡ None
unfolding construct_at by_word
type_none n (Integer k) rest f q = line_none n (codes "integer") _ (no_target_type n (Integer k) rest f q) refl
type_none n (Logical k) rest f q = line_none n (codes "logical") _ (no_target_type n (Logical k) rest f q) refl
type_none n (Character ps) rest f q = line_none n (codes "character") _ (no_target_type n (Character ps) rest f q) refl
type_none n (Derived name) rest f q = line_none n (codes "type") _ (no_target_type n (Derived name) rest f q) refl
type_none n Assumed rest f q = line_none n (codes "type") _ (no_target_type n Assumed rest f q) refl

prefixes_quiet : (ps : List Prefix) (w : List ℕ) (ts : List Token) → Quiet (spell_each spell_prefix ps (front w ts))
prefixes_quiet [] w ts = tt
prefixes_quiet (Recursive ∷ ps) w ts = tt
prefixes_quiet (Returns (Integer k) ∷ ps) w ts = tt
prefixes_quiet (Returns (Logical k) ∷ ps) w ts = tt
prefixes_quiet (Returns (Character qs) ∷ ps) w ts = tt
prefixes_quiet (Returns (Derived name) ∷ ps) w ts = tt
prefixes_quiet (Returns Assumed ∷ ps) w ts = tt

variables_quiet : (n : ℕ) (attrs : List Attr) (c : Bool) (xs : List Entity) → AreSome (FitsEntity n) xs → Quiet (spell_behind spell_attr attrs (spell_colons c (spell_listed spell_entity xs [])))
variables_quiet n (a ∷ attrs) c xs f = tt
variables_quiet n [] true xs f = tt
variables_quiet n [] false [] f = absurd f
variables_quiet n [] false (entity name ds i ∷ xs) f = tt

use_quiet : (i c : Bool) (name : List ℕ) (ts : List Token) → Quiet (spell_intrinsic i (spell_colons c (front name ts)))
use_quiet true c name ts = tt
use_quiet false true name ts = tt
use_quiet false false name ts = tt

names_quiet : (c : Bool) (names : List (List ℕ)) → Quiet (spell_colons c (spell_listed spell_name names []))
names_quiet true names = tt
names_quiet false [] = tt
names_quiet false (name ∷ names) = tt

type_quiet : (attrs : List TypeAttr) (c : Bool) (name : List ℕ) → Quiet (spell_behind spell_type_attr attrs (spell_colons c (front name [])))
type_quiet (a ∷ attrs) c name = tt
type_quiet [] true name = tt
type_quiet [] false name = tt

maybe_quiet : (name : Option (List ℕ)) → Quiet (spell_maybe_name name)
maybe_quiet None = tt
maybe_quiet (Some name) = tt

procedure_none : (n : ℕ) (name : List ℕ) (ts : List Token) → line_at n (front (codes "procedure") (put mark.Open (front name (put mark.Close (put mark.Comma ts))))) ≡ None
unfolding construct_at by_word behind_group closing
procedure_none n name ts = line_none n (codes "procedure") _ (no_target_group n (codes "procedure") (front name (put mark.Close (put mark.Comma ts))) (put mark.Comma ts) refl tt) refl

end_of_none : (n : ℕ) (what : Ended) (is_one_word : Bool) (name : Option (List ℕ)) → line_at n (spell_end what is_one_word (spell_maybe_name name)) ≡ None
unfolding construct_at by_word end_at name_at
end_of_none n OfProgram true name = plain_none n (codes "endprogram") _ (maybe_quiet name) refl
end_of_none n OfModule true name = plain_none n (codes "endmodule") _ (maybe_quiet name) refl
end_of_none n OfSubroutine true name = plain_none n (codes "endsubroutine") _ (maybe_quiet name) refl
end_of_none n OfFunction true name = plain_none n (codes "endfunction") _ (maybe_quiet name) refl
end_of_none n OfType true name = plain_none n (codes "endtype") _ (maybe_quiet name) refl
end_of_none n OfInterface true name = plain_none n (codes "endinterface") _ (maybe_quiet name) refl
end_of_none n OfProgram false name = plain_none n (codes "end") _ tt refl
end_of_none n OfModule false name = plain_none n (codes "end") _ tt refl
end_of_none n OfSubroutine false name = plain_none n (codes "end") _ tt refl
end_of_none n OfFunction false name = plain_none n (codes "end") _ tt refl
end_of_none n OfType false name = plain_none n (codes "end") _ tt refl
end_of_none n OfInterface false name = plain_none n (codes "end") _ tt refl

pub no_line : (n : ℕ) (d : Declared) → FitsDeclared n d → line_at n (spell_declared d) ≡ None
unfolding construct_at by_word end_at name_at
no_line n (Program name) f = plain_none n (codes "program") _ tt refl
no_line n (Module name) f = plain_none n (codes "module") _ tt refl
no_line n (Head [] true name d ss) f = plain_none n (codes "function") _ tt refl
no_line n (Head [] false name d ss) f = plain_none n (codes "subroutine") _ tt refl
no_line n (Head (Recursive ∷ ps) b name d ss) f = plain_none n (codes "recursive") _ (prefixes_quiet ps (unit_word b) _) refl
no_line n (Head (Returns t ∷ ps) b name d ss) f = type_none n t _ f.0.0 (prefixes_quiet ps (unit_word b) _)
no_line n Contains f = plain_none n (codes "contains") [] tt refl
no_line n (Use i c name u) f = plain_none n (codes "use") _ (use_quiet i c name (spell_uses u)) refl
no_line n (Import c names) f = plain_none n (codes "import") _ (names_quiet c names) refl
no_line n ImplicitNone f = plain_none n (codes "implicit") _ tt refl
no_line n (Variables t attrs c xs) f = type_none n t _ f.0 (variables_quiet n attrs c xs f.2)
no_line n (TypeStart attrs c name) f = plain_none n (codes "type") _ (type_quiet attrs c name) refl
no_line n (InterfaceStart true) f = plain_none n (codes "abstract") _ tt refl
no_line n (InterfaceStart false) f = plain_none n (codes "interface") [] tt refl
no_line n (Accesses Public c names) f = plain_none n (codes "public") _ (names_quiet c names) refl
no_line n (Accesses Private c names) f = plain_none n (codes "private") _ (names_quiet c names) refl
no_line n SaveAll f = plain_none n (codes "save") [] tt refl
no_line n (Procedures name attrs xs) f = procedure_none n name _
no_line n End f = plain_none n (codes "end") [] tt refl
no_line n (EndOf what w name) f = end_of_none n what w name
