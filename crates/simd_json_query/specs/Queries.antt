-- The grammar of a query (RFC 9535): which text is which query.
use Rattle.std.specs.Prelude.{ℕ, List, [], Bool}
use Rattle.simd_json_query.specs.Choices.{ChoiceText}
use Rattle.simd_json_query.specs.Filters.{Logical, question_mark}
use Rattle.simd_json_query.specs.Segments.{Segments, SegmentText}
use Rattle.simd_json_query.specs.Spans.{◌then◌, Mark}
use Rattle.simd_json_query.specs.Steps.{Blanks, Steps, dollar}
use Rattle.simd_json_query.specs.declared.filter.Step.{Step}
use Rattle.simd_json_query.specs.declared.filter.Test.{Test}
use Rattle.simd_json_query.specs.declared.query.Segment.{Segment}
use Rattle.simd_json_query.specs.declared.query.Selector.{Selector}
use Rattle.simd_json_query.specs.declared.query.Selector.TheVariants as selector

-- ---- selectors (section 2.3); parentheses in a filter may be nested so deep

abbrev pub max_nesting : ℕ
max_nesting = 100

abbrev pub SelectorText : Selector → List ℕ → List ℕ → Type 0
SelectorText (selector.Choice c) = ChoiceText c
SelectorText (selector.Filter test) = Mark question_mark then Blanks then Logical max_nesting test.now

-- ---- queries (section 2.1.1), which begin with steps

abbrev pub PathSegment : Bool → List Selector → List ℕ → List ℕ → Type 0
PathSegment = SegmentText SelectorText selector.Choice

abbrev pub PathSegments : List (Segment Selector) → List ℕ → List ℕ → Type 0
PathSegments = Segments PathSegment

abbrev pub Query : List Step → List (Segment Selector) → List ℕ → Type 0
Query steps segments text = (Mark dollar then Steps steps then PathSegments segments) text []

-- ---- a lone test, as of a value

abbrev pub FilterText : Test → List ℕ → Type 0
FilterText test text = (Blanks then Logical max_nesting test then Blanks) text []
