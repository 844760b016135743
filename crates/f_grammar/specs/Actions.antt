-- Action statements (ISO/IEC 1539-1:2018, 5.1, R515): what a tree is, all its tokens, and which trees fit.
use Rattle.std.specs.Prelude.{ℕ, List, [], ◌∷◌, codes}
use Rattle.f_lex.specs.declared.token.Mark.TheVariants as mark
use Rattle.f_lex.specs.declared.token.Token.{Token}
use Rattle.f_lex.specs.declared.token.Token.TheVariants as token
use Rattle.f_grammar.specs.Grammar.{Expr, Refer, Group, Maybe, put, spell, spell_refer, spell_group, spell_maybe, FitsRefer, FitsGroup, FitsMaybe, Within}

-- references with a comma before each
pub data Refs : Type 0 where
  no_refs : Refs
  ref : (r : Refer) (rest : Refs) → Refs

-- expressions with a comma before each
pub data Exprs : Type 0 where
  no_exprs : Exprs
  expr : (e : Expr) (rest : Exprs) → Exprs

-- a variable that is told how a statement went
pub data Status : Type 0 where
  NoStatus : Status
  status : (r : Refer) → Status

pub data Act : Type 0 where
  Assign : (target : Refer) (value : Expr) → Act
  Associate : (target : Refer) (value : Expr) → Act
  Call : (name : List ℕ) (arguments : Group) → Act
  Exit : Act
  Cycle : Act
  Return : Act
  Stop : (code : Maybe) → Act
  ErrorStop : (code : Maybe) → Act
  Allocate : (first : Refer) (others : Refs) (stat : Status) → Act
  Deallocate : (first : Refer) (others : Refs) (stat : Status) → Act
  Nullify : (first : Refer) (others : Refs) → Act
  Print : (items : Exprs) → Act
  Read : (first : Refer) (others : Refs) → Act
  ReadUnit : (stat : Status) (first : Refer) (others : Refs) → Act

abbrev pub spell_refs : Refs → List Token → List Token
spell_refs no_refs rest = rest
spell_refs (ref r rs) rest = put mark.Comma (spell_refer r (spell_refs rs rest))

abbrev pub spell_exprs : Exprs → List Token → List Token
spell_exprs no_exprs rest = rest
spell_exprs (expr e es) rest = put mark.Comma (spell e (spell_exprs es rest))

abbrev pub spell_status : List ℕ → Status → List Token → List Token
spell_status word NoStatus rest = rest
spell_status word (status r) rest = put mark.Comma (token.Name word ∷ put mark.Assign (spell_refer r rest))

-- objects in parentheses, and their status
abbrev pub spell_objects : Refer → Refs → Status → List Token
spell_objects r rs stat = put mark.Open (spell_refer r (spell_refs rs (spell_status (codes "stat") stat (put mark.Close []))))

-- the tokens of a statement, but for its end
abbrev pub spell_act : Act → List Token
spell_act (Assign target value) = spell_refer target (put mark.Assign (spell value []))
spell_act (Associate target value) = spell_refer target (put mark.Arrow (spell value []))
spell_act (Call name arguments) = token.Name (codes "call") ∷ token.Name name ∷ spell_group arguments []
spell_act Exit = token.Name (codes "exit") ∷ []
spell_act Cycle = token.Name (codes "cycle") ∷ []
spell_act Return = token.Name (codes "return") ∷ []
spell_act (Stop code) = token.Name (codes "stop") ∷ spell_maybe code []
spell_act (ErrorStop code) = token.Name (codes "error") ∷ token.Name (codes "stop") ∷ spell_maybe code []
spell_act (Allocate r rs stat) = token.Name (codes "allocate") ∷ spell_objects r rs stat
spell_act (Deallocate r rs stat) = token.Name (codes "deallocate") ∷ spell_objects r rs stat
spell_act (Nullify r rs) = token.Name (codes "nullify") ∷ spell_objects r rs NoStatus
spell_act (Print es) = token.Name (codes "print") ∷ put mark.Star (spell_exprs es [])
spell_act (Read r rs) = token.Name (codes "read") ∷ put mark.Star (put mark.Comma (spell_refer r (spell_refs rs [])))
spell_act (ReadUnit stat r rs) = token.Name (codes "read") ∷ put mark.Open (put mark.Star (put mark.Comma (put mark.Star (spell_status (codes "iostat") stat (put mark.Close (spell_refer r (spell_refs rs [])))))))

abbrev pub FitsRefs : ℕ → Refs → Type 0
FitsRefs n no_refs = Unit {0}
FitsRefs n (ref r rs) = FitsRefer n r × FitsRefs n rs

abbrev pub FitsExprs : ℕ → Exprs → Type 0
FitsExprs n no_exprs = Unit {0}
FitsExprs n (expr e es) = Within n e × FitsExprs n es

abbrev pub FitsStatus : ℕ → Status → Type 0
FitsStatus n NoStatus = Unit {0}
FitsStatus n (status r) = FitsRefer n r

-- with so many nestings left
abbrev pub FitsAct : ℕ → Act → Type 0
FitsAct n (Assign target value) = FitsRefer n target × Within n value
FitsAct n (Associate target value) = FitsRefer n target × Within n value
FitsAct n (Call name arguments) = FitsGroup n arguments
FitsAct n Exit = Unit {0}
FitsAct n Cycle = Unit {0}
FitsAct n Return = Unit {0}
FitsAct n (Stop code) = FitsMaybe n code
FitsAct n (ErrorStop code) = FitsMaybe n code
FitsAct n (Allocate r rs stat) = FitsRefer n r × FitsRefs n rs × FitsStatus n stat
FitsAct n (Deallocate r rs stat) = FitsRefer n r × FitsRefs n rs × FitsStatus n stat
FitsAct n (Nullify r rs) = FitsRefer n r × FitsRefs n rs
FitsAct n (Print es) = FitsExprs n es
FitsAct n (Read r rs) = FitsRefer n r × FitsRefs n rs
FitsAct n (ReadUnit stat r rs) = FitsStatus n stat × FitsRefer n r × FitsRefs n rs
