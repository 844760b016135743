-- The tokens of action statements are those that the grammar spells for their views (ISO/IEC 1539-1:2018, 5.1, R515).
use Rattle.std.proofs.Common.{◌≡◌, ℕ, List, [], ◌∷◌, ◌++◌, Option, Some, None, Bool, true, false, ◌&&◌, map, refl, ap, ◌∙◌}
use Rattle.std.specs.Prelude.{codes}
use Rattle.std.specs.Option.{option_map}
use Rattle.f_lex.specs.declared.token.Mark.TheVariants as mark
use Rattle.f_lex.specs.declared.token.Token.{Token}
use Rattle.f_lex.specs.declared.token.Token.TheVariants as token
use Rattle.f_tree.specs.declared.lexeme.Lexeme.{Lexeme}
use Rattle.f_tree.specs.declared.expression.Expression.{Expression}
use Rattle.f_tree.specs.declared.expression.Reference.{Reference}
use Rattle.f_tree.specs.declared.expression.Argument.{Argument}
use Rattle.f_tree.specs.declared.statement.Action.{Action}
use Rattle.f_tree.specs.declared.statement.Action.TheVariants as action_form
use Rattle.f_tree.specs.Lexemes.{mark_of, behind_commas, listed, if_there}
use Rattle.f_tree.specs.Expressions.{expression, reference, argument}
use Rattle.f_tree.specs.Statements.{action, call_arguments, status as status_front}
use Rattle.f_grammar.specs.Grammar.{Refer, put, spell, spell_refer, spell_group, spell_others, spell_arg, spell_maybe}
use Rattle.f_grammar.specs.Actions.{Act, Assign, Associate, Call, Exit, Cycle, Return, Stop, ErrorStop, Allocate, Deallocate, Nullify, Print, Read, ReadUnit, Refs, no_refs, ref, Exprs, no_exprs, expr, Status, NoStatus, status, spell_refs, spell_exprs, spell_status, spell_act}
use Rattle.f_expr_read.specs.Views.{view, view_reference, view_argument, view_maybe, args_of, group_of}
use Rattle.f_action_read.specs.Actions.{refs_of, exprs_of, view_status, view_action}
use Rattle.f_spelling_laws.specs.Told.{tokens_of, all, maybe_all, maybe_told, status_told, is_told, reference_is_told, argument_is_told, action_told}
use Rattle.f_spelling_laws.proofs.Fronts.{first_of, second_of}
use Rattle.f_spelling_laws.proofs.Ahead.{Carries, carries, refer_carries, group_carries, maybe_carries}
use Rattle.f_spelling_laws.proofs.Expressions.{expressions_spelled, references_spelled, arguments_spelled}

-- ---- action statements in front of a rest

abbrev objects_front : Refer → Refs → Status → List Token → List Token
objects_front r rs stat rest = put mark.Open (spell_refer r (spell_refs rs (spell_status (codes "stat") stat (put mark.Close rest))))

abbrev pub act_front : Act → List Token → List Token
act_front (Assign target value) rest = spell_refer target (put mark.Assign (spell value rest))
act_front (Associate target value) rest = spell_refer target (put mark.Arrow (spell value rest))
act_front (Call name arguments) rest = token.Name (codes "call") ∷ token.Name name ∷ spell_group arguments rest
act_front Exit rest = token.Name (codes "exit") ∷ rest
act_front Cycle rest = token.Name (codes "cycle") ∷ rest
act_front Return rest = token.Name (codes "return") ∷ rest
act_front (Stop code) rest = token.Name (codes "stop") ∷ spell_maybe code rest
act_front (ErrorStop code) rest = token.Name (codes "error") ∷ token.Name (codes "stop") ∷ spell_maybe code rest
act_front (Allocate r rs stat) rest = token.Name (codes "allocate") ∷ objects_front r rs stat rest
act_front (Deallocate r rs stat) rest = token.Name (codes "deallocate") ∷ objects_front r rs stat rest
act_front (Nullify r rs) rest = token.Name (codes "nullify") ∷ objects_front r rs NoStatus rest
act_front (Print es) rest = token.Name (codes "print") ∷ put mark.Star (spell_exprs es rest)
act_front (Read r rs) rest = token.Name (codes "read") ∷ put mark.Star (put mark.Comma (spell_refer r (spell_refs rs rest)))
act_front (ReadUnit stat r rs) rest = token.Name (codes "read") ∷ put mark.Open (put mark.Star (put mark.Comma (put mark.Star (spell_status (codes "iostat") stat (put mark.Close (spell_refer r (spell_refs rs rest)))))))

refs_carry : (rs : Refs) → Carries (spell_refs rs)
refs_carry no_refs a b = refl
refs_carry (ref r rs) a b = ap (put mark.Comma) (ap (spell_refer r) (refs_carry rs a b) ∙ refer_carries r (spell_refs rs a) b)

exprs_carry : (es : Exprs) → Carries (spell_exprs es)
exprs_carry no_exprs a b = refl
exprs_carry (expr e es) a b = ap (put mark.Comma) (ap (spell e) (exprs_carry es a b) ∙ carries e (spell_exprs es a) b)

status_carries : (word : List ℕ) (stat : Status) → Carries (spell_status word stat)
status_carries word NoStatus a b = refl
status_carries word (status r) a b = ap (λ (ts : List Token). put mark.Comma (token.Name word ∷ put mark.Assign ts)) (refer_carries r a b)

references_carry : (r : Refer) (rs : Refs) → Carries (λ ts. spell_refer r (spell_refs rs ts))
references_carry r rs a b = ap (spell_refer r) (refs_carry rs a b) ∙ refer_carries r (spell_refs rs a) b

objects_carry : (r : Refer) (rs : Refs) (stat : Status) → Carries (objects_front r rs stat)
objects_carry r rs stat a b = ap (put mark.Open) (ap (λ (ts : List Token). spell_refer r (spell_refs rs ts)) (status_carries (codes "stat") stat (put mark.Close a) b)
    ∙ references_carry r rs (spell_status (codes "stat") stat (put mark.Close a)) b)

pub act_carries : (x : Act) → Carries (act_front x)
act_carries (Assign target value) a b = ap (λ (ts : List Token). spell_refer target (put mark.Assign ts)) (carries value a b) ∙ refer_carries target (put mark.Assign (spell value a)) b
act_carries (Associate target value) a b = ap (λ (ts : List Token). spell_refer target (put mark.Arrow ts)) (carries value a b) ∙ refer_carries target (put mark.Arrow (spell value a)) b
act_carries (Call name arguments) a b = ap (λ (ts : List Token). token.Name (codes "call") ∷ token.Name name ∷ ts) (group_carries arguments a b)
act_carries Exit a b = refl
act_carries Cycle a b = refl
act_carries Return a b = refl
act_carries (Stop code) a b = ap (λ (ts : List Token). token.Name (codes "stop") ∷ ts) (maybe_carries code a b)
act_carries (ErrorStop code) a b = ap (λ (ts : List Token). token.Name (codes "error") ∷ token.Name (codes "stop") ∷ ts) (maybe_carries code a b)
act_carries (Allocate r rs stat) a b = ap (λ (ts : List Token). token.Name (codes "allocate") ∷ ts) (objects_carry r rs stat a b)
act_carries (Deallocate r rs stat) a b = ap (λ (ts : List Token). token.Name (codes "deallocate") ∷ ts) (objects_carry r rs stat a b)
act_carries (Nullify r rs) a b = ap (λ (ts : List Token). token.Name (codes "nullify") ∷ ts) (objects_carry r rs NoStatus a b)
act_carries (Print es) a b = ap (λ (ts : List Token). token.Name (codes "print") ∷ put mark.Star ts) (exprs_carry es a b)
act_carries (Read r rs) a b = ap (λ (ts : List Token). token.Name (codes "read") ∷ put mark.Star (put mark.Comma ts)) (references_carry r rs a b)
act_carries (ReadUnit stat r rs) a b = ap (λ (ts : List Token). token.Name (codes "read") ∷ put mark.Open (put mark.Star (put mark.Comma (put mark.Star ts))))
    (ap (λ (ts : List Token). spell_status (codes "iostat") stat (put mark.Close ts)) (references_carry r rs a b) ∙ status_carries (codes "iostat") stat (put mark.Close (spell_refer r (spell_refs rs a))) b)

pub act_is : (x : Act) → act_front x [] ≡ spell_act x
act_is (Assign target value) = refl
act_is (Associate target value) = refl
act_is (Call name arguments) = refl
act_is Exit = refl
act_is Cycle = refl
act_is Return = refl
act_is (Stop code) = refl
act_is (ErrorStop code) = refl
act_is (Allocate r rs stat) = refl
act_is (Deallocate r rs stat) = refl
act_is (Nullify r rs) = refl
act_is (Print es) = refl
act_is (Read r rs) = refl
act_is (ReadUnit stat r rs) = refl

-- ---- parts of action statements

others_spelled : (rs : List Reference) → all (map reference_is_told rs) ≡ true → (rest : List Lexeme) → tokens_of (behind_commas (map reference rs) rest) ≡ spell_refs (refs_of (map view_reference rs)) (tokens_of rest)
others_spelled [] sure rest = refl
others_spelled (r ∷ rs) sure rest =
    let a : Bool = all (map reference_is_told rs) in
    ap (put mark.Comma) (references_spelled r (first_of (reference_is_told r) a sure) (behind_commas (map reference rs) rest)
    ∙ ap (spell_refer (view_reference r)) (others_spelled rs (second_of (reference_is_told r) a sure) rest))

some_spelled : (r : Reference) (rs : List Reference) → (reference_is_told r && all (map reference_is_told rs)) ≡ true → (rest : List Lexeme) →
    tokens_of (listed (map reference (r ∷ rs)) rest) ≡ spell_refer (view_reference r) (spell_refs (refs_of (map view_reference rs)) (tokens_of rest))
some_spelled r rs sure rest =
    let a : Bool = all (map reference_is_told rs) in
    references_spelled r (first_of (reference_is_told r) a sure) (behind_commas (map reference rs) rest)
    ∙ ap (spell_refer (view_reference r)) (others_spelled rs (second_of (reference_is_told r) a sure) rest)

items_spelled : (es : List Expression) → all (map is_told es) ≡ true → (rest : List Lexeme) → tokens_of (behind_commas (map expression es) rest) ≡ spell_exprs (exprs_of (map view es)) (tokens_of rest)
items_spelled [] sure rest = refl
items_spelled (e ∷ es) sure rest =
    let a : Bool = all (map is_told es) in
    ap (put mark.Comma) (expressions_spelled e (first_of (is_told e) a sure) (behind_commas (map expression es) rest)
    ∙ ap (spell (view e)) (items_spelled es (second_of (is_told e) a sure) rest))

other_arguments_spelled : (xs : List Argument) → all (map argument_is_told xs) ≡ true → (rest : List Lexeme) → tokens_of (behind_commas (map argument xs) rest) ≡ spell_others (args_of (map view_argument xs)) (tokens_of rest)
other_arguments_spelled [] sure rest = refl
other_arguments_spelled (x ∷ xs) sure rest =
    let a : Bool = all (map argument_is_told xs) in
    ap (put mark.Comma) (arguments_spelled x (first_of (argument_is_told x) a sure) (behind_commas (map argument xs) rest)
    ∙ ap (spell_arg (view_argument x)) (other_arguments_spelled xs (second_of (argument_is_told x) a sure) rest))

call_spelled : (xs : Option (List Argument)) → maybe_all (option_map (map argument_is_told) xs) ≡ true → (rest : List Lexeme) →
    tokens_of (if_there call_arguments xs rest) ≡ spell_group (group_of (option_map (map view_argument) xs)) (tokens_of rest)
call_spelled None sure rest = refl
call_spelled (Some []) sure rest = refl
call_spelled (Some (x ∷ xs)) sure rest =
    let a : Bool = all (map argument_is_told xs) in
    ap (put mark.Open) (arguments_spelled x (first_of (argument_is_told x) a sure) (behind_commas (map argument xs) (mark_of mark.Close rest))
    ∙ ap (spell_arg (view_argument x)) (other_arguments_spelled xs (second_of (argument_is_told x) a sure) (mark_of mark.Close rest)))

pub maybe_spelled : (e : Option Expression) → maybe_told e ≡ true → (rest : List Lexeme) → tokens_of (if_there expression e rest) ≡ spell_maybe (view_maybe e) (tokens_of rest)
maybe_spelled None sure rest = refl
maybe_spelled (Some e) sure rest = expressions_spelled e sure rest

status_spelled : (word : List ℕ) (r : Option Reference) → status_told r ≡ true → (rest : List Lexeme) → tokens_of (if_there (status_front word) r rest) ≡ spell_status word (view_status r) (tokens_of rest)
status_spelled word None sure rest = refl
status_spelled word (Some r) sure rest = ap (λ (ts : List Token). put mark.Comma (token.Name word ∷ put mark.Assign ts)) (references_spelled r sure rest)

objects_spelled : (r : Reference) (rs : List Reference) (stat : Option Reference) → ((reference_is_told r && all (map reference_is_told rs)) && status_told stat) ≡ true → (rest : List Lexeme) →
    tokens_of (mark_of mark.Open (listed (map reference (r ∷ rs)) (if_there (status_front (codes "stat")) stat (mark_of mark.Close rest)))) ≡ objects_front (view_reference r) (refs_of (map view_reference rs)) (view_status stat) (tokens_of rest)
objects_spelled r rs stat sure rest =
    let a : Bool = reference_is_told r && all (map reference_is_told rs) in
    ap (put mark.Open) (some_spelled r rs (first_of a (status_told stat) sure) (if_there (status_front (codes "stat")) stat (mark_of mark.Close rest))
    ∙ ap (λ (ts : List Token). spell_refer (view_reference r) (spell_refs (refs_of (map view_reference rs)) ts)) (status_spelled (codes "stat") stat (second_of a (status_told stat) sure) (mark_of mark.Close rest)))

-- ---- action statements

pub action_front_spelled : (x : Action) → action_told x ≡ true → (rest : List Lexeme) → tokens_of (action x rest) ≡ act_front (view_action x) (tokens_of rest)
action_front_spelled (action_form.Assign target value) sure rest =
    references_spelled target (first_of (reference_is_told target) (is_told value) sure) (mark_of mark.Assign (expression value rest))
    ∙ ap (λ (ts : List Token). spell_refer (view_reference target) (put mark.Assign ts)) (expressions_spelled value (second_of (reference_is_told target) (is_told value) sure) rest)
action_front_spelled (action_form.Associate target value) sure rest =
    references_spelled target (first_of (reference_is_told target) (is_told value) sure) (mark_of mark.Arrow (expression value rest))
    ∙ ap (λ (ts : List Token). spell_refer (view_reference target) (put mark.Arrow ts)) (expressions_spelled value (second_of (reference_is_told target) (is_told value) sure) rest)
action_front_spelled (action_form.Call p name arguments) sure rest = ap (λ (ts : List Token). token.Name (codes "call") ∷ token.Name name.bytes ∷ ts) (call_spelled arguments sure rest)
action_front_spelled (action_form.Exit p) sure rest = refl
action_front_spelled (action_form.Cycle p) sure rest = refl
action_front_spelled (action_form.Return p) sure rest = refl
action_front_spelled (action_form.Stop p true code) sure rest = ap (λ (ts : List Token). token.Name (codes "error") ∷ token.Name (codes "stop") ∷ ts) (maybe_spelled code sure rest)
action_front_spelled (action_form.Stop p false code) sure rest = ap (λ (ts : List Token). token.Name (codes "stop") ∷ ts) (maybe_spelled code sure rest)
action_front_spelled (action_form.Allocate p [] stat) sure rest = absurd (let no : false ≡ true = sure in cc)
action_front_spelled (action_form.Allocate p (r ∷ rs) stat) sure rest = ap (λ (ts : List Token). token.Name (codes "allocate") ∷ ts) (objects_spelled r rs stat sure rest)
action_front_spelled (action_form.Deallocate p [] stat) sure rest = absurd (let no : false ≡ true = sure in cc)
action_front_spelled (action_form.Deallocate p (r ∷ rs) stat) sure rest = ap (λ (ts : List Token). token.Name (codes "deallocate") ∷ ts) (objects_spelled r rs stat sure rest)
action_front_spelled (action_form.Nullify p []) sure rest = absurd (let no : false ≡ true = sure in cc)
action_front_spelled (action_form.Nullify p (r ∷ rs)) sure rest = ap (λ (ts : List Token). token.Name (codes "nullify") ∷ put mark.Open ts) (some_spelled r rs sure (mark_of mark.Close rest))
action_front_spelled (action_form.Print p items) sure rest = ap (λ (ts : List Token). token.Name (codes "print") ∷ put mark.Star ts) (items_spelled items sure rest)
action_front_spelled (action_form.Read p []) sure rest = absurd (let no : false ≡ true = sure in cc)
action_front_spelled (action_form.Read p (r ∷ rs)) sure rest = ap (λ (ts : List Token). token.Name (codes "read") ∷ put mark.Star (put mark.Comma ts)) (some_spelled r rs sure rest)
action_front_spelled (action_form.ReadUnit p stat []) sure rest = absurd (let no : false ≡ true = second_of (status_told stat) false sure in cc)
action_front_spelled (action_form.ReadUnit p stat (r ∷ rs)) sure rest =
    let a : Bool = reference_is_told r && all (map reference_is_told rs) in
    ap (λ (ts : List Token). token.Name (codes "read") ∷ put mark.Open (put mark.Star (put mark.Comma (put mark.Star ts))))
    (status_spelled (codes "iostat") stat (first_of (status_told stat) a sure) (mark_of mark.Close (listed (map reference (r ∷ rs)) rest))
    ∙ ap (λ (ts : List Token). spell_status (codes "iostat") (view_status stat) (put mark.Close ts)) (some_spelled r rs (second_of (status_told stat) a sure) rest))

-- the tokens of an action statement are those of its view, and then what follows
pub action_spelled : (x : Action) → action_told x ≡ true → (rest : List Lexeme) → tokens_of (action x rest) ≡ spell_act (view_action x) ++ tokens_of rest
action_spelled x sure rest = action_front_spelled x sure rest ∙ act_carries (view_action x) [] (tokens_of rest) ∙ ap (λ (ts : List Token). ts ++ tokens_of rest) (act_is (view_action x))
