-- One turn of the loop that reads ranges.
use Rattle.std.proofs.Common.{◌≡◌, ℕ, zero, suc, List, Some, None, refl}
use Rattle.f_lex.specs.declared.token.Token.{Token}
use Rattle.f_grammar.specs.Reading.{comma_at}
use Rattle.f_line_grammar.specs.Lines.{Span, no_spans, span}
use Rattle.f_line_grammar.specs.LineReading.{span_at, spans_at}
use Rattle.f_expr_read.specs.declared.error.ReadError.{ReadError}
use Rattle.f_expr_read.specs.declared.error.ReadError.TheVariants.{Memory, Form}
use Rattle.f_expr_read.specs.Gives.{Fails}
use Rattle.f_expr_read.proofs.Loops.{Next}

pub spans_next : (n : ℕ) (ts r after : List Token) (x : Span) → comma_at ts ≡ Some r → span_at n r ≡ Some (x, after) → Next span (spans_at n) ts x after
unfolding spans_at
spans_next n ts r after x e1 e2 = λ k. rw (e1, e2) refl

pub spans_fails : (n : ℕ) (ts r : List Token) (e : ReadError) → comma_at ts ≡ Some r → Fails e (span_at n r) → (k : ℕ) → Fails e (spans_at n (suc k) ts)
unfolding spans_at
spans_fails n ts r Memory e1 f = λ k. tt
spans_fails n ts r Form e1 f = λ k. rw (e1, f) refl

pub spans_stops : (n : ℕ) (ts : List Token) → comma_at ts ≡ None → (k : ℕ) → spans_at n (suc k) ts ≡ Some (no_spans, ts)
unfolding spans_at
spans_stops n ts e = λ k. rw e refl

pub spans_zero : (n : ℕ) (ts : List Token) → spans_at n zero ts ≡ Some (no_spans, ts)
unfolding spans_at
spans_zero n ts = refl
