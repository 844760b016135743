-- What is written in turn.
use Rattle.std.proofs.Common.{◌≡◌, ℕ, ◌+◌, ◌-◌, length, List, [], ◌∷◌, ◌++◌, sym, ap, ◌∙◌, append_assoc}
use Rattle.std.specs.Prelude.{nat_lt}
use Rattle.f_tree.specs.declared.lexeme.Lexeme.{Lexeme}
use Rattle.f_tree.specs.declared.page.Line.{Line}
use Rattle.f_tree.specs.Text.{Written, and_then, opened, run, character, characters, quoted, written, text_from}

pub then_then : (p : Written) (f g : Line → Written) → and_then (and_then p f) g ≡ and_then p (λ l. and_then (f l) g)
then_then p f g = ap (λ (w : List ℕ). (w, (g (f p.1).1).1)) (append_assoc p.0 (f p.1).0 (g (f p.1).1).0)

pub character_then : (p : Written) (c : ℕ) (cs : List ℕ) → and_then p (characters (c ∷ cs)) ≡ and_then (and_then p (character c)) (characters cs)
unfolding characters
character_then p c cs = sym (then_then p (character c) (characters cs))

pub token_then : (p : Written) (t : Lexeme) (ts : List Lexeme) → p.0 ++ text_from p.1 (t ∷ ts) ≡ (and_then p (written t.token)).0 ++ text_from (and_then p (written t.token)).1 ts
unfolding text_from
token_then p t ts = sym (append_assoc p.0 (written t.token p.1).0 (text_from (written t.token p.1).1 ts))

pub quoted_then : (p : Written) (before cs : List ℕ) → and_then (and_then (and_then p (opened (nat_lt (length cs) (p.1.room - (length before + 2))))) (run (before ++ 39 ∷ []))) (characters cs) ≡ and_then p (quoted before cs)
unfolding quoted
quoted_then p before cs =
    let o : Line → Written = opened (nat_lt (length cs) (p.1.room - (length before + 2))) in
    then_then (and_then p o) (run (before ++ 39 ∷ [])) (characters cs)
    ∙ then_then p o (λ l. and_then (run (before ++ 39 ∷ []) l) (characters cs))
