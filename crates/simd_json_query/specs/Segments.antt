-- The grammar of segments (RFC 9535, section 2.5), where that of a selector in brackets is given. `of` is the selector that a
-- name or a wildcard without brackets is.
use Rattle.std.specs.Prelude.{◌≡◌, ℕ, List, [], ◌∷◌, Bool, true, false, Option, Some, None}
use Rattle.simd_json_parts.specs.Bytes.{comma, left_bracket, right_bracket}
use Rattle.simd_json_query.specs.Choices.{Shorthand}
use Rattle.simd_json_query.specs.Spans.{◌then◌, ◌or◌, Many, Mark, Nothing}
use Rattle.simd_json_query.specs.Steps.{Blanks, Steps, dot}
use Rattle.simd_json_query.specs.declared.query.Choice.{Choice}
use Rattle.simd_json_query.specs.declared.query.Segment.{Segment}

-- ---- selections in brackets (section 2.5.1.1)

abbrev pub Selectors : {S : Type 0} → (S → List ℕ → List ℕ → Type 0) → List S → List ℕ → List ℕ → Type 0
Selectors Text [] = Nothing
Selectors Text (s ∷ ss) = Text s then Many (λ more. Blanks then Mark comma then Blanks then Text more) ss

abbrev pub Selection : {S : Type 0} → (S → List ℕ → List ℕ → Type 0) → List S → List ℕ → List ℕ → Type 0
Selection Text ss = Mark left_bracket then Blanks then Selectors Text ss then Blanks then Mark right_bracket

-- ---- segments (sections 2.5.1.1 and 2.5.2.1)

abbrev pub Member : {S : Type 0} → (Choice → S) → List S → List ℕ → List ℕ → Type 0
Member of ss text rest = (c : Choice) × (ss ≡ of c ∷ []) × Shorthand c text rest

abbrev pub SegmentText : {S : Type 0} → (S → List ℕ → List ℕ → Type 0) → (Choice → S) → Bool → List S → List ℕ → List ℕ → Type 0
SegmentText Text of false ss = Selection Text ss or Mark dot then Member of ss
SegmentText Text of true ss = Mark dot then Mark dot then (Selection Text ss or Member of ss)

-- how one begins: up to `[`, or a whole one of a choice without brackets
abbrev pub Opening : Bool → Option Choice → List ℕ → List ℕ → Type 0
Opening false None = Mark left_bracket
Opening false (Some c) = Mark dot then Shorthand c
Opening true None = Mark dot then Mark dot then Mark left_bracket
Opening true (Some c) = Mark dot then Mark dot then Shorthand c

-- ---- one after the other, each with the steps that follow

abbrev pub Segments : {S : Type 0} → (Bool → List S → List ℕ → List ℕ → Type 0) → List (Segment S) → List ℕ → List ℕ → Type 0
Segments Text = Many (λ s. Blanks then Text s.is_descendant s.selectors.now then Steps s.steps.now)
