-- The grammar of selectors that are no filters (RFC 9535, sections 2.3.1 to 2.3.4).
use Rattle.std.specs.Prelude.{◌≡◌, ℕ, ℤ, pos, List, Option, Some, None}
use Rattle.simd_json_parts.specs.Bytes.{colon}
use Rattle.simd_json_query.specs.Spans.{◌then◌, ◌or◌, Empty, Mark, Nothing}
use Rattle.simd_json_query.specs.Steps.{Blanks, Integer, Name, StringText, star}
use Rattle.simd_json_query.specs.declared.query.Choice.{Choice}
use Rattle.simd_json_query.specs.declared.query.Choice.TheVariants as choice
use Rattle.simd_json_query.specs.declared.query.Slice.{Slice}

-- ---- slices (section 2.3.4.1); the step is 1 where none is written

abbrev pub Optional : Option ℤ → List ℕ → List ℕ → Type 0
Optional None = Empty
Optional (Some i) = Integer i

abbrev pub SliceStep : ℤ → List ℕ → List ℕ → Type 0
SliceStep i = (λ text rest. (i ≡ pos 1) × Empty text rest)
    or (λ text rest. (i ≡ pos 1) × (Blanks then Mark colon) text rest)
    or Blanks then Mark colon then Blanks then Integer i

abbrev pub SliceText : Slice → List ℕ → List ℕ → Type 0
SliceText s =
    Optional s.start then Blanks then Mark colon then Blanks then Optional s.end then SliceStep s.step

-- ---- selectors in brackets

abbrev pub ChoiceText : Choice → List ℕ → List ℕ → Type 0
ChoiceText (choice.Name name) = StringText name.now
ChoiceText choice.Wildcard = Mark star
ChoiceText (choice.Index i) = Integer i
ChoiceText (choice.Slice s) = SliceText s

-- ---- a name or a wildcard without brackets (section 2.5.1.1)

abbrev pub Shorthand : Choice → List ℕ → List ℕ → Type 0
Shorthand (choice.Name name) = Name name.now
Shorthand choice.Wildcard = Mark star
Shorthand _ = Nothing
