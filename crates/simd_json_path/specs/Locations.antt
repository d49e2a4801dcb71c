-- Where the values are that a query selects (RFC 9535, section 2.7): nodes, each the places on the way to it and the value.
use Rattle.std.specs.Prelude.{ℕ, suc, ◌/◌, ◌%◌, ℤ, List, [], ◌∷◌, ◌++◌, codes, decimal, encode_utf8, filter, flat_map, length, map}
use Rattle.std.specs.Prelude.{if◌then◌else◌, ◌==◌, nat_lt, slice_get, Bool, true, false, Option, Some, None, option_and_then, option_map}
use Rattle.std.specs.Char.{digit_char}
use Rattle.std.specs.Option.{option_to_list}
use Rattle.std.specs.Str.{chars}
use Rattle.simd_json_parts.specs.Document.{Document, array, object, Elements, no_elements, element, elements}
use Rattle.simd_json_parts.specs.Document.{Members, no_members, member, members}
use Rattle.simd_json_parts.specs.Views.{get}
use Rattle.simd_json_path.specs.Filters.{holds}
use Rattle.simd_json_path.specs.Indexes.{element_index}
use Rattle.simd_json_path.specs.Slices.{by_step}
use Rattle.simd_json_path.specs.declared.path.Path.{Path}
use Rattle.simd_json_query.specs.declared.filter.Step.{Step}
use Rattle.simd_json_query.specs.declared.filter.Step.TheVariants as step
use Rattle.simd_json_query.specs.declared.query.Choice.{Choice}
use Rattle.simd_json_query.specs.declared.query.Choice.TheVariants as choice
use Rattle.simd_json_query.specs.declared.query.Segment.{Segment}
use Rattle.simd_json_query.specs.declared.query.Selector.{Selector}
use Rattle.simd_json_query.specs.declared.query.Selector.TheVariants as selector
use Rattle.simd_json_query.specs.declared.query.Slice.{Slice}

-- an element by its index, a member by its name
pub data Place : Type 0 where
  index : ℕ → Place
  name : List ℕ → Place

-- ---- the text of a way

abbrev pub control : ℕ → List ℕ
control c = codes "\\u00" ++ encode_utf8 (digit_char (c / 16)) ++ encode_utf8 (digit_char (c % 16))

abbrev pub escaped : ℕ → List ℕ
escaped c =
    if c == 8 then codes "\\b" else if c == 9 then codes "\\t" else if c == 10 then codes "\\n"
    else if c == 12 then codes "\\f" else if c == 13 then codes "\\r" else if c == 39 then codes "\\'"
    else if c == 92 then codes "\\\\" else if nat_lt c 32 then control c else encode_utf8 c

abbrev pub quoted : List ℕ → List ℕ
quoted key = codes "['" ++ flat_map escaped (chars key) ++ codes "']"

abbrev pub indexed : ℕ → List ℕ
indexed i = codes "[" ++ decimal i ++ codes "]"

abbrev pub segment : Place → List ℕ
segment (index i) = indexed i
segment (name key) = quoted key

abbrev pub normalized : List Place → List ℕ
normalized way = codes "$" ++ flat_map segment way

-- ---- children, each with its place

abbrev pub numbered : ℕ → List Document → List (Place × Document)
numbered i [] = []
numbered i (d ∷ ds) = (index i, d) ∷ numbered (suc i) ds

abbrev pub named : List (List ℕ × Document) → List (Place × Document)
named [] = []
named (m ∷ ms) = (name m.0, m.1) ∷ named ms

abbrev pub placed_children : Document → List (Place × Document)
placed_children (array ds) = numbered 0 (elements ds)
placed_children (object ms) = named (members ms)
placed_children _ = []

abbrev pub placed_name : List ℕ → Document → Option (Place × Document)
placed_name key d = option_map (λ v. (name key, v)) (get key d)

abbrev pub placed_index : ℤ → Document → Option (Place × Document)
placed_index i (array ds) =
    option_and_then (λ k. option_map (λ v. (index k, v)) (slice_get (elements ds) k)) (element_index i (length (elements ds)))
placed_index i _ = None

abbrev pub placed_slice : Slice → Document → List (Place × Document)
placed_slice s (array ds) = by_step s s.step (numbered 0 (elements ds))
placed_slice s _ = []

-- ---- those that a step or a selector selects, in a query that is applied to a root

abbrev pub placed_step : Step → Document → Option (Place × Document)
placed_step (step.Name key) d = placed_name key.now d
placed_step (step.Index i) d = placed_index i d

abbrev pub placed_choice : Choice → Document → List (Place × Document)
placed_choice (choice.Name key) d = option_to_list (placed_name key.now d)
placed_choice choice.Wildcard d = placed_children d
placed_choice (choice.Index i) d = option_to_list (placed_index i d)
placed_choice (choice.Slice s) d = placed_slice s d

abbrev pub placed_by : Document → Selector → Document → List (Place × Document)
placed_by root (selector.Choice c) d = placed_choice c d
placed_by root (selector.Filter test) d = filter (λ c. holds root test.now c.1) (placed_children d)

-- ---- nodes

abbrev pub below : List Place × Document → Place × Document → List Place × Document
below n c = (n.0 ++ c.0 ∷ [], c.1)

-- a node itself and those beneath it, in the order of `descendants`
abbrev mutual
  pub nodes_from : List Place → Document → List (List Place × Document)
  nodes_from way (array ds) = (way, array ds) ∷ nodes_of_elements way 0 ds
  nodes_from way (object ms) = (way, object ms) ∷ nodes_of_members way ms
  nodes_from way d = (way, d) ∷ []

  pub nodes_of_elements : List Place → ℕ → Elements → List (List Place × Document)
  nodes_of_elements way i no_elements = []
  nodes_of_elements way i (element d ds) = nodes_from (way ++ index i ∷ []) d ++ nodes_of_elements way (suc i) ds

  pub nodes_of_members : List Place → Members → List (List Place × Document)
  nodes_of_members way no_members = []
  nodes_of_members way (member key d ms) = nodes_from (way ++ name key ∷ []) d ++ nodes_of_members way ms

abbrev pub visited_nodes : Bool → List Place × Document → List (List Place × Document)
visited_nodes false n = n ∷ []
visited_nodes true n = nodes_from n.0 n.1

-- where steps lead from a node
abbrev pub node_at : List Step → List Place × Document → Option (List Place × Document)
node_at [] n = Some n
node_at (s ∷ ss) n = option_and_then (λ c. node_at ss (below n c)) (placed_step s n.1)

abbrev pub selected_nodes : Document → List Selector → List Place × Document → List (List Place × Document)
selected_nodes root selectors n = flat_map (λ s. map (below n) (placed_by root s n.1)) selectors

-- ---- queries, where `rest` is what is selected of each node that is reached

abbrev pub if_some : {A B : Type 0} → (A → List B) → Option A → List B
if_some f None = []
if_some f (Some x) = f x

abbrev pub along : (List Place × Document → List (List Place × Document)) → List Step → List Place × Document
    → List (List Place × Document)
along rest steps n = if_some rest (node_at steps n)

abbrev pub by_segment : Document → (List Place × Document → List (List Place × Document)) → Segment Selector
    → List Place × Document → List (List Place × Document)
by_segment root rest s n = flat_map (along rest s.steps.now) (selected_nodes root s.selectors.now n)

abbrev pub located_from : Document → List (Segment Selector) → List Place × Document → List (List Place × Document)
located_from root [] n = n ∷ []
located_from root (s ∷ ss) n = flat_map (by_segment root (located_from root ss) s) (visited_nodes s.is_descendant n)

abbrev pub located : Path → Document → List (List Place × Document)
located path d = along (located_from d path.segments.now) path.steps.now ([], d)
