-- Tests in parentheses, and tests that are joined.
use Rattle.std.proofs.Common.{◌≡◌, inl, subst, sym, ℕ, suc, List, [], ◌∷◌, ◌++◌}
use Rattle.std.specs.Prelude.{codes}
use Rattle.simd_json_query.specs.Filters.{Basic, ComparableText, Conjunction, Logical, Nested, Operands, OperatorText, Word}
use Rattle.simd_json_query.specs.Filters.{PlainSegments, QueryText, SingularText, left_parenthesis, right_parenthesis}
use Rattle.simd_json_query.specs.Spans.{◌then◌, Mark}
use Rattle.simd_json_query.specs.Steps.{Blanks}
use Rattle.simd_json_query.specs.declared.filter.Comparable.{Comparable}
use Rattle.simd_json_query.specs.declared.filter.Comparable as comparable
use Rattle.simd_json_query.specs.declared.filter.Query.{Query}
use Rattle.simd_json_query.specs.declared.filter.Comparison.{Comparison}
use Rattle.simd_json_query.specs.declared.filter.Test.{Test, Compare, And', Or'}
use Rattle.simd_json_query.proofs.Operands.{many-last}

pub nested-more : (nesting below : ℕ) (t : Test) (text others begin end rest : List ℕ) → nesting ≡ suc below
    → Mark left_parenthesis text others → Blanks others begin → Logical below t begin end
    → (Blanks then Mark right_parenthesis) end rest → Nested nesting t text rest
nested-more nesting below t text others begin end rest same mark blanks test closed =
    subst (λ n. Nested n t text rest) (sym same) (others, mark, (begin, blanks, (end, test, closed)))

pub or-step : (nesting : ℕ) (old new : List Test) (first t a b : Test) (p q : _) (text m rest : List ℕ)
    → old ≡ new ++ first ∷ [] → a ≡ first → b ≡ t
    → Operands (Conjunction (Nested nesting)) (codes "||") old text m → Logical nesting t m rest
    → (k : List ℕ) × Operands (Conjunction (Nested nesting)) (codes "||") new text k × Logical nesting (Or' p a q b) k rest
or-step nesting old new first t a b p q text m rest popped is-first is-rest operands test =
    let (k, before, (m1, operand, (m2, blanks, (m3, joint, after)))) =
    many-last (λ t. Conjunction (Nested nesting) t then Blanks then Word (codes "||") then Blanks) new first text m
    (subst (λ ts. Operands (Conjunction (Nested nesting)) (codes "||") ts text m) popped operands) in (
      k,
      before,
      subst (λ x. Logical nesting (Or' p x q b) k rest) (sym is-first)
          (subst (λ x. Logical nesting (Or' p first q x) k rest) (sym is-rest)
          (inl (m1, operand, (m2, blanks, (m3, joint, (m, after, test)))))),
    )

pub and-step : (nesting : ℕ) (old new : List Test) (first t a b : Test) (p q : _) (text m rest : List ℕ)
    → old ≡ new ++ first ∷ [] → a ≡ first → b ≡ t
    → Operands (Basic (Nested nesting)) (codes "&&") old text m → Conjunction (Nested nesting) t m rest
    → (k : List ℕ) × Operands (Basic (Nested nesting)) (codes "&&") new text k × Conjunction (Nested nesting) (And' p a q b) k rest
and-step nesting old new first t a b p q text m rest popped is-first is-rest operands test =
    let (k, before, (m1, operand, (m2, blanks, (m3, joint, after)))) =
    many-last (λ t. Basic (Nested nesting) t then Blanks then Word (codes "&&") then Blanks) new first text m
    (subst (λ ts. Operands (Basic (Nested nesting)) (codes "&&") ts text m) popped operands) in (
      k,
      before,
      subst (λ x. Conjunction (Nested nesting) (And' p x q b) k rest) (sym is-first)
          (subst (λ x. Conjunction (Nested nesting) (And' p first q x) k rest) (sym is-rest)
          (inl (m1, operand, (m2, blanks, (m3, joint, (m, after, test)))))),
    )

pub or-last : (nesting : ℕ) (ts : List Test) (t : Test) (text m rest : List ℕ) → ts ≡ []
    → Operands (Conjunction (Nested nesting)) (codes "||") ts text m → Logical nesting t m rest → Logical nesting t text rest
or-last nesting ts t text m rest none operands test =
    let same : text ≡ m = subst (λ l. Operands (Conjunction (Nested nesting)) (codes "||") l text m) none operands in
    subst (λ bs. Logical nesting t bs rest) (sym same) test

pub and-last : (nesting : ℕ) (ts : List Test) (t : Test) (text m rest : List ℕ) → ts ≡ []
    → Operands (Basic (Nested nesting)) (codes "&&") ts text m → Conjunction (Nested nesting) t m rest
    → Conjunction (Nested nesting) t text rest
and-last nesting ts t text m rest none operands test =
    let same : text ≡ m = subst (λ l. Operands (Basic (Nested nesting)) (codes "&&") l text m) none operands in
    subst (λ bs. Conjunction (Nested nesting) t bs rest) (sym same) test

pub compare-basic : (N : Test → List ℕ → List ℕ → Type 0) (a b : Comparable) (op : Comparison) (text behind begin rest : List ℕ)
    → (ComparableText a then Blanks then OperatorText op) text behind → Blanks behind begin → ComparableText b begin rest
    → Basic N (Compare a op b) text rest
compare-basic N a b op text behind begin rest (others, left, (end, before, is)) after right =
    inl (others, left, (end, before, (behind, is, (begin, after, right))))

-- the left side of a comparison, read as a query of any segments
pub query-left : (q : Query) (op : Comparison) (text others end behind : List ℕ) → QueryText q text others → q.segments.now ≡ []
    → Blanks others end → OperatorText op end behind
    → (ComparableText (comparable.Query q.start) then Blanks then OperatorText op) text behind
query-left q op text others end behind (few, (m, start, segments)) none before is =
    let same : m ≡ others = subst (λ ss. PlainSegments ss m others) none segments in
    (others, subst (λ bs. SingularText q.start text bs) same start, (end, before, is))
