-- A statement that is read is spelled so and fits, and one that fits is read.
use Rattle.std.proofs.Common.{◌≡◌, ℕ, List, Option, Some, None, refl, sym, ap, ◌∙◌}
use Rattle.f_lex.specs.declared.token.Token.{Token}
use Rattle.f_grammar.specs.Reading.{IfSome}
use Rattle.f_grammar.proofs.Sound.{chosen}
use Rattle.f_line_grammar.specs.Lines.{Line, spell_line, FitsLine}
use Rattle.f_line_grammar.specs.LineReading.{line_at}
use Rattle.f_line_grammar.proofs.LineSound.{line_sound}
use Rattle.f_line_grammar.proofs.LineAgain.{line_again}
use Rattle.f_declaration_grammar.specs.Declarations.{Declared, spell_declared}
use Rattle.f_declaration_grammar.specs.DeclarationReading.{declared_at}
use Rattle.f_declaration_grammar.proofs.DeclaredSound.{IsDeclared, declared_sound}
use Rattle.f_declaration_grammar.proofs.DeclaredAgain.{declared_again}
use Rattle.f_statement_grammar.specs.Statements.{Statement, Executable, Declaring, spell_statement, FitsStatement, declaring, statement_at}
use Rattle.f_statement_grammar.proofs.Quiet.{no_line}

abbrev IsStatement : ℕ → List Token → Statement → Type 0
IsStatement n ts s = (ts ≡ spell_statement s) × FitsStatement n s

declared_is : (n : ℕ) (ts : List Token) (o : Option Declared) → IfSome o (IsDeclared n ts) → IfSome (declaring o) (IsStatement n ts)
declared_is n ts None p = tt
declared_is n ts (Some d) p = p

pub statement_sound : (n : ℕ) (ts : List Token) → IfSome (statement_at n ts) (λ s. (ts ≡ spell_statement s) × FitsStatement n s)
unfolding statement_at
statement_sound n ts = chosen (line_at n ts) _ _ (λ l. (ts ≡ spell_line l) × FitsLine n l) (IsStatement n ts) (line_sound n ts) (declared_is n ts (declared_at n ts) (declared_sound n ts)) (λ l p. p)

as_line : (n : ℕ) (ts : List Token) (l : Line) → line_at n ts ≡ Some l → statement_at n ts ≡ Some (Executable l)
unfolding statement_at
as_line n ts l e = rw e refl

as_declared : (n : ℕ) (ts : List Token) (d : Declared) → line_at n ts ≡ None → declared_at n ts ≡ Some d → statement_at n ts ≡ Some (Declaring d)
unfolding statement_at
as_declared n ts d e1 e2 = rw (e1, e2) refl

pub statement_again : (n : ℕ) (s : Statement) → FitsStatement n s → statement_at n (spell_statement s) ≡ Some s
statement_again n (Executable l) f = as_line n (spell_line l) l (line_again n l f)
statement_again n (Declaring d) f = as_declared n (spell_declared d) d (no_line n d f) (declared_again n d f)

statement_is : (a b : Statement) → let d : Option Statement = Some a in let e : Option Statement = Some b in d ≡ e → a ≡ b
statement_is a b e = cc

pub one_spelled : (n : ℕ) (a b : Statement) → FitsStatement n a → FitsStatement n b → spell_statement a ≡ spell_statement b → a ≡ b
one_spelled n a b f g e = statement_is a b (sym (statement_again n a f) ∙ ap (statement_at n) e ∙ statement_again n b g)
