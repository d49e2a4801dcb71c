-- Which nodes steps and segments select (RFC 9535), in order; one may come more than once.
use Rattle.std.specs.Prelude.{List, [], ◌∷◌, Bool, true, false, Option, Some, option_and_then}
use Rattle.std.specs.List.{flat_map}
use Rattle.std.specs.Option.{option_to_list}
use Rattle.simd_json_parts.specs.Document.{Document}
use Rattle.simd_json_parts.specs.Views.{get}
use Rattle.simd_json.specs.Beneath.{children, descendants}
use Rattle.simd_json_path.specs.Indexes.{at_index}
use Rattle.simd_json_path.specs.Slices.{sliced}
use Rattle.simd_json_query.specs.declared.filter.Step.{Step}
use Rattle.simd_json_query.specs.declared.filter.Step.TheVariants as step
use Rattle.simd_json_query.specs.declared.query.Choice.{Choice}
use Rattle.simd_json_query.specs.declared.query.Choice.TheVariants as choice
use Rattle.simd_json_query.specs.declared.query.Segment.{Segment}

-- ---- steps: segments of one name or one index each, that select at most one node (section 2.3.5.1)

abbrev pub at_step : Step → Document → Option Document
at_step (step.Name name) d = get name.now d
at_step (step.Index i) d = at_index i d

abbrev pub at_steps : List Step → Document → Option Document
at_steps [] d = Some d
at_steps (s ∷ ss) d = option_and_then (at_steps ss) (at_step s d)

-- where they lead from each of some nodes
abbrev pub followed : List Step → List Document → List Document
followed steps ds = flat_map (λ d. option_to_list (at_steps steps d)) ds

-- ---- selectors by name or place (sections 2.3.1 to 2.3.4)

abbrev pub chosen_by : Choice → Document → List Document
chosen_by (choice.Name name) d = option_to_list (get name.now d)
chosen_by choice.Wildcard d = children d
chosen_by (choice.Index i) d = option_to_list (at_index i d)
chosen_by (choice.Slice s) d = sliced s d

-- ---- segments (section 2.5), each of whose selectors selects as `by` says

-- the node itself, or also all nodes beneath it
abbrev pub visited : Bool → Document → List Document
visited false d = d ∷ []
visited true d = descendants d

module _ {S : Type 0} (by : S → Document → List Document) where
  abbrev pub by_all : List S → Document → List Document
  by_all selectors d = flat_map (λ s. by s d) selectors

  abbrev pub selected_of : Segment S → Document → List Document
  selected_of s d = followed s.steps.now (flat_map (by_all s.selectors.now) (visited s.is_descendant d))

  -- each segment selects of each node that the one before it selected
  abbrev pub nodes : List (Segment S) → List Document → List Document
  nodes [] ds = ds
  nodes (s ∷ ss) ds = nodes ss (flat_map (selected_of s) ds)
