-- Runs of characters are split off in one way.
use Rattle.std.proofs.Common.{◌≡◌, ℕ, Bool, true, false, ◌==◌, ◌&&◌, not, [], ◌∷◌, ◌++◌, Option, Some, None, refl, sym, ap, ◌∙◌}
use Rattle.c_text.specs.Classes.{is_alphanumeric, class_of}
use Rattle.c_text.specs.Characters.{Character}
use Rattle.c_text.specs.Rests.{byte_at, is_exponent, is_in_number, word_rest, number_rest, line_rest, comment_rest, literal_rest}
use Rattle.c_text.specs.Grammar.{Text, AreWord, AreNumber, AreLine, begins_end, AreComment, CommentEnd, Ended, Unended, spell_end, FitsEnd, Ending, Closed, Open, spell_ending, ends_literal, AreLiteral}

pub record WordSplit (text : Text) : Type 0 where
  pub run : Text
  pub rest : Text
  pub are : AreWord run rest
  pub is : text ≡ run ++ rest

pub word_split : (text : Text) → WordSplit text
word_split [] = record { run = []; rest = []; are = refl; is = refl }
word_split (c ∷ cs) = pick (word_split cs) (is_alphanumeric (class_of c.byte)) refl
  where
    pick : WordSplit cs → (b : Bool) → is_alphanumeric (class_of c.byte) ≡ b → WordSplit (c ∷ cs)
    pick h true e = record { run = c ∷ h.run; rest = h.rest; are = (e, h.are); is = ap (λ (l : Text). c ∷ l) h.is }
    pick h false e = record { run = []; rest = c ∷ cs; are = e; is = refl }

pub word_again : (run rest : Text) → AreWord run rest → word_rest (run ++ rest) ≡ rest
unfolding word_rest
word_again [] [] e = refl
word_again [] (c ∷ cs) e = rw e refl
word_again (c ∷ cs) rest e = rw e.0 (word_again cs rest e.1)

pub record NumberSplit (s : Bool) (text : Text) : Type 0 where
  pub run : Text
  pub rest : Text
  pub are : AreNumber s run rest
  pub is : text ≡ run ++ rest

pub number_split : (s : Bool) (text : Text) → NumberSplit s text
number_split s [] = record { run = []; rest = []; are = refl; is = refl }
number_split s (c ∷ cs) = pick (number_split (is_exponent c.byte) cs) (is_in_number s c.byte) refl
  where
    pick : NumberSplit (is_exponent c.byte) cs → (b : Bool) → is_in_number s c.byte ≡ b → NumberSplit s (c ∷ cs)
    pick h true e = record { run = c ∷ h.run; rest = h.rest; are = (e, h.are); is = ap (λ (l : Text). c ∷ l) h.is }
    pick h false e = record { run = []; rest = c ∷ cs; are = e; is = refl }

pub number_again : (s : Bool) (run rest : Text) → AreNumber s run rest → number_rest s (run ++ rest) ≡ rest
unfolding number_rest
number_again s [] [] e = refl
number_again s [] (c ∷ cs) e = rw e refl
number_again s (c ∷ cs) rest e = rw e.0 (number_again (is_exponent c.byte) cs rest e.1)

pub record LineSplit (text : Text) : Type 0 where
  pub run : Text
  pub rest : Text
  pub are : AreLine run rest
  pub is : text ≡ run ++ rest

pub line_split : (text : Text) → LineSplit text
line_split [] = record { run = []; rest = []; are = refl; is = refl }
line_split (c ∷ cs) = pick (line_split cs) (c.byte == 10) refl
  where
    pick : LineSplit cs → (b : Bool) → (c.byte == 10) ≡ b → LineSplit (c ∷ cs)
    pick h true e = record { run = []; rest = c ∷ cs; are = e; is = refl }
    pick h false e = record { run = c ∷ h.run; rest = h.rest; are = (e, h.are); is = ap (λ (l : Text). c ∷ l) h.is }

pub line_again : (run rest : Text) → AreLine run rest → line_rest (run ++ rest) ≡ rest
unfolding line_rest
line_again [] [] e = refl
line_again [] (c ∷ cs) e = rw e refl
line_again (c ∷ cs) rest e = rw e.0 (line_again cs rest e.1)

pub record LiteralSplit (s : Bool) (q : ℕ) (text : Text) : Type 0 where
  pub run : Text
  pub end : Ending
  pub rest : Text
  pub are : AreLiteral s q run end rest
  pub is : text ≡ run ++ spell_ending end rest

pub literal_split : (s : Bool) (q : ℕ) (text : Text) → LiteralSplit s q text
literal_split s q [] = record { run = []; end = Open; rest = []; are = refl; is = refl }
literal_split s q (c ∷ cs) = pick (literal_split (not s && (c.byte == 92)) q cs) (c.byte == 10) refl
  where
    inside : LiteralSplit (not s && (c.byte == 92)) q cs → (c.byte == 10) ≡ false → (b : Bool) → ends_literal s q c ≡ b → LiteralSplit s q (c ∷ cs)
    inside h f true e = record { run = []; end = Closed c; rest = cs; are = (f, e); is = refl }
    inside h f false e = record { run = c ∷ h.run; end = h.end; rest = h.rest; are = (f, e, h.are); is = ap (λ (l : Text). c ∷ l) h.is }

    pick : LiteralSplit (not s && (c.byte == 92)) q cs → (b : Bool) → (c.byte == 10) ≡ b → LiteralSplit s q (c ∷ cs)
    pick h true e = record { run = []; end = Open; rest = c ∷ cs; are = e; is = refl }
    pick h false e = inside h e (ends_literal s q c) refl

abbrev pub closes : Ending → Bool
closes (Closed z) = true
closes Open = false

pub literal_again : (s : Bool) (q : ℕ) (run : Text) (e : Ending) (rest : Text) → AreLiteral s q run e rest → literal_rest s q (run ++ spell_ending e rest) ≡ (closes e, rest)
unfolding literal_rest
literal_again s q [] (Closed z) rest a = rw (a.0, a.1) refl
literal_again s q [] Open [] a = refl
literal_again s q [] Open (c ∷ cs) a = rw a refl
literal_again s q (c ∷ cs) e rest a = rw (a.0, a.1) (literal_again (not s && (c.byte == 92)) q cs e rest a.2)

pub record CommentSplit (text : Text) : Type 0 where
  pub run : Text
  pub end : CommentEnd
  pub rest : Text
  pub are : AreComment run (spell_end end rest)
  pub fits : FitsEnd end rest
  pub is : text ≡ run ++ spell_end end rest

pub comment_split : (text : Text) → CommentSplit text
comment_split [] = record { run = []; end = Unended; rest = []; are = tt; fits = refl; is = refl }
comment_split (c ∷ cs) = pick (comment_split cs) (begins_end (c ∷ cs)) refl
  where
    ended : (ds : Text) → begins_end (c ∷ ds) ≡ true → CommentSplit (c ∷ ds)
    ended [] e = absurd (let no : false ≡ true = e in cc)
    ended (d ∷ ds) e = record { run = []; end = Ended c d; rest = ds; are = tt; fits = e; is = refl }

    pick : CommentSplit cs → (b : Bool) → begins_end (c ∷ cs) ≡ b → CommentSplit (c ∷ cs)
    pick h true e = ended cs e
    pick h false e = record { run = c ∷ h.run; end = h.end; rest = h.rest; are = (ap (λ (l : Text). begins_end (c ∷ l)) (sym h.is) ∙ e, h.are); fits = h.fits; is = ap (λ (l : Text). c ∷ l) h.is }

and_false : (a b : Bool) → (a && b) ≡ false → a ≡ true → b ≡ false
and_false true b e t = e
and_false false b e t = absurd (cc)

and_both : (a b : Bool) → (a && b) ≡ true → (a ≡ true) × (b ≡ true)
and_both true b e = (refl, e)
and_both false b e = absurd (let no : false ≡ true = e in cc)

no_slash : (b : ℕ) (c : Character) (cs : Text) → (c.byte == b) ≡ false → byte_at b (c ∷ cs) ≡ None
unfolding byte_at
no_slash b c cs e = rw e refl

nothing_at : (b : ℕ) → byte_at b [] ≡ None
unfolding byte_at
nothing_at b = refl

pub some_at : (b : ℕ) (c : Character) (cs : Text) → (c.byte == b) ≡ true → byte_at b (c ∷ cs) ≡ Some cs
unfolding byte_at
some_at b c cs e = rw e refl

pub none_at : (b : ℕ) (c : Character) (cs : Text) → (c.byte == b) ≡ false → byte_at b (c ∷ cs) ≡ None
none_at b c cs e = no_slash b c cs e

comment_on : (c : Character) (cs : Text) → begins_end (c ∷ cs) ≡ false → comment_rest (c ∷ cs) ≡ comment_rest cs
unfolding comment_rest
comment_on c cs e = pick (c.byte == 42) refl
  where
    behind : (ds : Text) → begins_end (c ∷ ds) ≡ false → (c.byte == 42) ≡ true → byte_at 47 ds ≡ None
    behind [] e t = nothing_at 47
    behind (d ∷ ds) e t = no_slash 47 d ds (and_false (c.byte == 42) (d.byte == 47) e t)

    pick : (b : Bool) → (c.byte == 42) ≡ b → comment_rest (c ∷ cs) ≡ comment_rest cs
    pick true t = rw (t, behind cs e t) refl
    pick false t = rw t refl

comment_end : (c d : Character) (cs : Text) → begins_end (c ∷ d ∷ cs) ≡ true → comment_rest (c ∷ d ∷ cs) ≡ Some cs
unfolding comment_rest
comment_end c d cs e = let both = and_both (c.byte == 42) (d.byte == 47) e in rw (both.0, some_at 47 d cs both.1) refl

no_comment : comment_rest [] ≡ None
unfolding comment_rest
no_comment = refl

abbrev pub behind_end : CommentEnd → Text → Option Text
behind_end (Ended s t) rest = Some rest
behind_end Unended rest = None

pub comment_again : (run : Text) (e : CommentEnd) (rest : Text) → AreComment run (spell_end e rest) → FitsEnd e rest → comment_rest (run ++ spell_end e rest) ≡ behind_end e rest
comment_again [] (Ended s t) rest a f = comment_end s t rest f
comment_again [] Unended rest a f = ap comment_rest f ∙ no_comment
comment_again (c ∷ cs) e rest a f = comment_on c (cs ++ spell_end e rest) a.0 ∙ comment_again cs e rest a.1 f
