-- What queries select of a document.
use Rattle.std.specs.Prelude.{ℕ, List, [], ◌∷◌, length, Bool, true, false, not, ◌&&◌, nat_le, Option, None, Some}
use Rattle.std.specs.List.{list_all}
use Rattle.std.specs.Option.{option_to_list}
use Rattle.std.specs.Result.{result_ok}
use Rattle.simd_json_parts.specs.Document.{Document, Elements, no_elements, element}
use Rattle.simd_json_parts.specs.Pointed.{pointed}
use Rattle.simd_json_path.specs.Paths.{selected}
use Rattle.simd_json_query.specs.declared.query.Choice.TheVariants as choice
use Rattle.simd_json_query.specs.declared.query.Segment.{Segment}
use Rattle.simd_json_query.specs.declared.query.Selector.{Selector}
use Rattle.simd_json_query.specs.declared.query.Selector.TheVariants as selector
use Rattle.jpick.specs.declared.query.Query.{Query}
use Rattle.jpick.specs.declared.query.Query.TheVariants as query

-- what the header names it by
abbrev pub text_of : Query → List ℕ
text_of (query.Pointer pointer) = pointer.now
text_of (query.Path text path) = text.now

-- the value that a JSON Pointer names (RFC 6901), or the values that a JSONPath selects (RFC 9535), in order
abbrev pub selected_by : Query → Document → List Document
selected_by (query.Pointer pointer) d = option_to_list (result_ok (pointed pointer.now d))
selected_by (query.Path text path) d = selected path d

abbrev pub first : List Document → Option Document
first [] = None
first (d ∷ ds) = Some d

-- ---- queries that select at most one value by their form (RFC 9535, section 2.3.5.1)

-- one name or one index
abbrev pub is_single : List Selector → Bool
is_single [] = false
is_single (selector.Choice (choice.Name name) ∷ []) = true
is_single (selector.Choice (choice.Index i) ∷ []) = true
is_single (selector.Choice choice.Wildcard ∷ []) = false
is_single (selector.Choice (choice.Slice s) ∷ []) = false
is_single (selector.Filter test ∷ []) = false
is_single (s ∷ t ∷ others) = false

abbrev pub is_singular_segment : Segment Selector → Bool
is_singular_segment s = not s.is_descendant && is_single s.selectors.now

abbrev pub is_singular : Query → Bool
is_singular (query.Pointer pointer) = true
is_singular (query.Path text path) = list_all is_singular_segment path.segments.now

-- ---- all that a query selects, in an array

abbrev pub elements_of : List Document → Elements
elements_of [] = no_elements
elements_of (d ∷ ds) = element d (elements_of ds)

-- ---- what private clauses cite: how many frames suffice

abbrev pub frames_of : Query → ℕ
frames_of (query.Pointer pointer) = 0
frames_of (query.Path text path) = length path.segments.now

abbrev pub has_frames : ℕ → Query → Bool
has_frames count q = nat_le (frames_of q) count

-- so many suffice for a document, or for the header
abbrev pub has_room : ℕ → Option Document → Query → Bool
has_room count None q = true
has_room count (Some d) q = has_frames count q
