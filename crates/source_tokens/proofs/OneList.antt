-- Files have at most one list of tokens each, and break no rule beside them.
use Rattle.std.proofs.Common.{◌≡◌, ◌⊎◌, ℕ, ◌+◌, List, [], ◌∷◌, Some, true, false, Ok, Err, refl, sym, ap, ◌∙◌, subst, inl, inr, arith}
use Rattle.jf_base.specs.declared.place.Place.{Place}
use Rattle.jf_base.specs.declared.tag.Tag.{Tag}
use Rattle.jf_outside.specs.Listing.{listed}
use Rattle.c_token.specs.declared.token.CSpanned.{CSpanned}
use Rattle.c_directives.specs.Reads.{Read, At}
use Rattle.c_pre.specs.Files.{expanded_at}
use Rattle.f_lex.specs.Lexing.{Lexes}
use Rattle.f_lex.proofs.WholeLaws as lexis
use Rattle.f_lex.specs.declared.token.Spanned.{Spanned}
use Rattle.f_statement_grammar.specs.Statements.{Statement}
use Rattle.source_tokens.specs.Sources.{Files, is_fortran_name, Tokens, Fortran, C, Source, count, Expands, AreStatements, AreExternals, HasTokens, IsSource, AreSources, BreaksFortran, BreaksPreprocessing, BreaksC, IsBroken, Reaches}
use Rattle.source_tokens.proofs.Statements.{one_statements, nowhere_broken}
use Rattle.source_tokens.proofs.Externals.{one_unit, unit_nowhere_broken}
use Rattle.c_read.specs.Reading.{File}

-- as many files given as both readings asked for
module _ (files : Files) (file before : ℕ) (text : List ℕ) where
  abbrev pub at : ℕ → Read (List CSpanned)
  at k = expanded_at files file before text k

  turned : (m n : ℕ) → at (m + n) ≡ at (n + m)
  turned m n = ap at (omega arith)

  one_expansion : (ts us : List CSpanned) → Expands files file before text ts → Expands files file before text us → ts ≡ us
  one_expansion ts us (m, p) (n, q) =
      let e : Ok ts ≡ Ok us = sym (p n) ∙ turned m n ∙ q m in
      cc

  none_beside : (ts : List CSpanned) (place : Place) (tag : Tag) → Expands files file before text ts → BreaksPreprocessing files file before text place tag → ⊥
  none_beside ts place tag (m, p) (n, q) =
      let w = q m in
      let e : Ok ts ≡ Err (At w.0) = sym (p n) ∙ turned m n ∙ w.1 in
      cc

module _ (files : Files) (name : List ℕ) (file before : ℕ) (text : List ℕ) where
  one_tokens : (ts us : Tokens) → HasTokens files name file before text ts → HasTokens files name file before text us → ts ≡ us
  one_tokens (Fortran ts ss) (Fortran us qs) p q =
      let same : ts ≡ us = lexis.one_list file before text ts us p.1 q.1 in
      let P : List Spanned → Type 0 = λ l. AreStatements l ss in
      let statements : ss ≡ qs = one_statements us ss qs (subst P same p.2) q.2 in
      λ i. Fortran (same i) (statements i)
  one_tokens (Fortran ts ss) (C us v) p q = let e : true ≡ false = sym p.0 ∙ q.0 in absurd (cc)
  one_tokens (C ts u) (Fortran us qs) p q = let e : true ≡ false = sym q.0 ∙ p.0 in absurd (cc)
  one_tokens (C ts u) (C us v) p q =
      let same : ts ≡ us = one_expansion files file before text ts us p.1 q.1 in
      let P : List CSpanned → Type 0 = λ l. AreExternals l u in
      let units : u ≡ v = one_unit us u v (subst P same p.2) q.2 in
      λ i. C (same i) (units i)

module _ (files : Files) where
  same_text : (name : List ℕ) (text other : List ℕ) → listed files name ≡ Some text → listed files name ≡ Some other → text ≡ other
  same_text name text other p q = let e : Some text ≡ Some other = sym p ∙ q in cc

  one_source : (name : List ℕ) (file before : ℕ) (s t : Source) → IsSource files name file before s → IsSource files name file before t → s ≡ t
  one_source name file before s t p q =
      let text : s.text ≡ t.text = same_text name s.text t.text p.is_listed q.is_listed in
      let P : List ℕ → Type 0 = λ x. HasTokens files name file before x s.tokens in
      let tokens : s.tokens ≡ t.tokens = one_tokens files name file before t.text s.tokens t.tokens (subst P text p.has_tokens) q.has_tokens in
      λ i. record { text = text i; tokens = tokens i }

  -- files have one list of sources
  pub one_list : (file before : ℕ) (names : List (List ℕ)) (ss ts : List Source) → AreSources files file before names ss → AreSources files file before names ts → ss ≡ ts
  one_list file before [] [] [] p q = refl
  one_list file before [] [] (t ∷ ts) p q = absurd q
  one_list file before [] (s ∷ ss) ts p q = absurd p
  one_list file before (name ∷ names) [] ts p q = absurd p
  one_list file before (name ∷ names) (s ∷ ss) [] p q = absurd q
  one_list file before (name ∷ names) (s ∷ ss) (t ∷ ts) p q =
      let one : s ≡ t = one_source name file before s t p.0 q.0 in
      let P : Source → Type 0 = λ x. AreSources files (file + 1) (before + count x.tokens) names ss in
      let rest : ss ≡ ts = one_list (file + 1) (before + count t.tokens) names ss ts (subst P one p.1) q.1 in
      λ i. one i ∷ rest i

  module _ (place : Place) (tag : Tag) (name : List ℕ) (file before : ℕ) (text : List ℕ) where
    abbrev pub Broken : Type 0
    Broken = ((is_fortran_name name ≡ true) × BreaksFortran file before text place tag) ⊎ ((is_fortran_name name ≡ false) × BreaksC files file before text place tag)

    fortran_beside : (ts : List Spanned) (ss : List Statement) → Lexes file before text ts → AreStatements ts ss → BreaksFortran file before text place tag → ⊥
    fortran_beside ts ss lexes are (inl broken) = lexis.not_both file before text ts broken.fault lexes broken.breaks
    fortran_beside ts ss lexes are (inr broken) =
        let same : ts ≡ broken.tokens = lexis.one_list file before text ts broken.tokens lexes broken.lexes in
        let P : List Spanned → Type 0 = λ l. AreStatements l ss in
        nowhere_broken broken.tokens ss (subst P same are) place tag broken.broken

    c_beside : (ts : List CSpanned) (u : File) → Expands files file before text ts → AreExternals ts u → BreaksC files file before text place tag → ⊥
    c_beside ts u expands are (inl broken) = none_beside files file before text ts place tag expands broken
    c_beside ts u expands are (inr broken) =
        let same : ts ≡ broken.tokens = one_expansion files file before text ts broken.tokens expands broken.expands in
        let P : List CSpanned → Type 0 = λ l. AreExternals l u in
        unit_nowhere_broken broken.tokens u (subst P same are) place tag broken.broken

    beside : (ts : Tokens) → HasTokens files name file before text ts → Broken → ⊥
    beside (Fortran ts ss) (is, lexes, are) (inl (_, broken)) = fortran_beside ts ss lexes are broken
    beside (Fortran ts ss) (is, lexes, are) (inr (not, _)) = let e : true ≡ false = sym is ∙ not in absurd (cc)
    beside (C ts u) (is, expands, are) (inl (not, _)) = let e : true ≡ false = sym not ∙ is in absurd (cc)
    beside (C ts u) (is, expands, are) (inr (_, broken)) = c_beside ts u expands are broken

  not_both : (place : Place) (tag : Tag) (name : List ℕ) (file before : ℕ) (s : Source) → IsSource files name file before s → IsBroken files place tag name file before → ⊥
  not_both place tag name file before s source b =
      let P : List ℕ → Type 0 = λ x. Broken place tag name file before x in
      beside place tag name file before s.text s.tokens source.has_tokens (subst P (same_text name b.text s.text b.is_listed source.is_listed) b.breaks)

  -- files that have tokens break no rule
  pub none_broken : (place : Place) (tag : Tag) (file before : ℕ) (names : List (List ℕ)) (ss : List Source) → AreSources files file before names ss → Reaches files (IsBroken files place tag) file before names → ⊥
  none_broken place tag file before [] ss p r = r
  none_broken place tag file before (name ∷ names) [] p r = p
  none_broken place tag file before (name ∷ names) (s ∷ ss) p (inl b) = not_both place tag name file before s p.0 b
  none_broken place tag file before (name ∷ names) (s ∷ ss) p (inr (t, source, r)) =
      let one : t ≡ s = one_source name file before t s source p.0 in
      let P : Source → Type 0 = λ x. Reaches files (IsBroken files place tag) (file + 1) (before + count x.tokens) names in
      none_broken place tag (file + 1) (before + count s.tokens) names ss p.1 (subst P one r)
