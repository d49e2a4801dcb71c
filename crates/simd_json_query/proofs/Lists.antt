-- Parts of a query that are read one after the other.
use Rattle.std.proofs.Common.{List, [], ◌∷◌, ◌++◌, ℕ, Bool}
use Rattle.simd_json_parts.specs.Bytes.{comma}
use Rattle.simd_json_query.specs.Segments.{Segments, Selectors}
use Rattle.simd_json_query.specs.Steps.{Blanks, StepText, Steps}
use Rattle.simd_json_query.specs.Spans.{◌then◌, Mark}
use Rattle.simd_json_query.specs.declared.filter.Step.{Step}
use Rattle.simd_json_query.specs.declared.query.Segment.{Segment}
use Rattle.simd_json_query.proofs.Runs.{many-more}

pub steps-more : (steps : List Step) (s : Step) (text between begin rest : List ℕ) → Steps steps text between → Blanks between begin
    → StepText s begin rest → Steps (steps ++ s ∷ []) text rest
steps-more steps s text between begin rest read blanks step =
    many-more (λ s. Blanks then StepText s) steps s text between rest read (begin, blanks, step)

pub segments-more : {S : Type 0} (Text : Bool → List S → List ℕ → List ℕ → Type 0) (segments : List (Segment S)) (s : Segment S)
    (text between begin end rest : List ℕ) → Segments Text segments text between → Blanks between begin
    → Text s.is_descendant s.selectors.now begin end → Steps s.steps.now end rest → Segments Text (segments ++ s ∷ []) text rest
segments-more Text segments s text between begin end rest read blanks segment steps =
    many-more (λ s. Blanks then Text s.is_descendant s.selectors.now then Steps s.steps.now) segments s text between rest read
    (begin, blanks, (end, segment, steps))

pub selectors-more : {S : Type 0} (Text : S → List ℕ → List ℕ → Type 0) (selectors : List S) (s : S)
    (text between comma_at behind begin rest : List ℕ)
    → (Blanks then Selectors Text selectors) text between → Blanks between comma_at → Mark comma comma_at behind → Blanks behind begin
    → Text s begin rest → (Blanks then Selectors Text (selectors ++ s ∷ [])) text rest
selectors-more Text [] s text between comma_at behind begin rest (m, blanks, none) before mark after selector = absurd none
selectors-more Text (first ∷ more) s text between comma_at behind begin rest (m, blanks, (n, head, tail)) before mark after selector = (
  m,
  blanks,
  (
    n,
    head,
    many-more (λ more. Blanks then Mark comma then Blanks then Text more) more s n between rest tail
        (comma_at, before, (behind, mark, (begin, after, selector))),
  ),
)
