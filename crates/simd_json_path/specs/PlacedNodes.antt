-- Children and nodes with their places, as the code has them.
use Rattle.std.specs.Prelude.{◌+◌, ◌-◌, ◌^◌, ℕ, suc, min, ℤ, pos, negsuc, List, [], ◌∷◌, ◌++◌, filter, map, string_bytes}
use Rattle.std.specs.Prelude.{Option, Some, None}
use denote.Ref.{Bor}
use Rattle.simd_json_parts.specs.Document.{Document}
use Rattle.simd_json.specs.Iterated.{pairs_left}
use Rattle.simd_json.specs.Viewed.{doc}
use Rattle.simd_json.specs.declared.value.tape.value.Value.{Value}
use Rattle.simd_json_path.specs.Filters.{holds}
use Rattle.simd_json_path.specs.Locations.{Place, index, name, named, normalized}
use Rattle.simd_json_path.specs.SliceNodes.{children_left}
use Rattle.simd_json_path.specs.Slices.{bound_after_or, bound_or}
use Rattle.simd_json_path.specs.declared.located.Located.{Located}
use Rattle.simd_json_path.specs.declared.location.Location.{Location}
use Rattle.simd_json_path.specs.declared.location.Location as location
use Rattle.simd_json_path.specs.declared.location.Node.{Node}
use Rattle.simd_json_path.specs.declared.location.Place.{Place as CodePlace}
use Rattle.simd_json_path.specs.declared.location.Place.TheVariants as place
use Rattle.simd_json_path.specs.declared.placed.PlacedChildren.{PlacedChildren}
use Rattle.simd_json_path.specs.declared.placed.PlacedChildren.TheVariants as children
use Rattle.simd_json_path.specs.declared.placed.PlacedNodes.{PlacedNodes}
use Rattle.simd_json_query.specs.declared.filter.Test.{Test}
use Rattle.simd_json_query.specs.declared.query.Slice.{Slice}

abbrev pub place_of : CodePlace → Place
place_of (place.Index i) = index i
place_of (place.Name key) = name key.now
place_of (place.Key key) = name key.now

abbrev pub placed : CodePlace × Value → Place × Document
placed c = (place_of c.0, doc c.1)

abbrev pub way_of : Location → List Place
way_of location.Root = []
way_of (location.Child' p parent place) = way_of parent ++ place_of place ∷ []

abbrev pub node_of : Node → List Place × Document
node_of n = (way_of n.location, doc n.value)

-- ---- children that are left

-- the index that is so far after an index, below zero before it
abbrev pub moved : ℕ → ℤ → ℕ
moved i (pos n) = min (i + n) (2 ^ 64 - 1)
moved i (negsuc n) = i - suc n

abbrev pub numbered_by : ℤ → ℕ → List Document → List (Place × Document)
numbered_by step i [] = []
numbered_by step i (d ∷ ds) = (index i, d) ∷ numbered_by step (moved i step) ds

-- the index of the first of so many elements that a slice of such a step selects
abbrev pub first_by : ℤ → Slice → ℕ → ℕ
first_by (pos n) s len = bound_or s.start 0 len
first_by (negsuc n) s len = bound_after_or s.start len len - 1

abbrev pub placed_left : PlacedChildren → List (Place × Document)
placed_left children.Nothing = []
placed_left (children.One child) = placed child ∷ []
placed_left (children.Elements e) = numbered_by e.step e.index (children_left e.elements)
placed_left (children.Pairs it) = named (pairs_left it)

-- those that pass the test, if there is one
abbrev pub placed_passing : Document → Option (Bor Test) → List (Place × Document) → List (Place × Document)
placed_passing root None cs = cs
placed_passing root (Some test) cs = filter (λ c. holds root test.now c.1) cs

abbrev pub placed_nodes_left : Document → PlacedNodes → List (Place × Document)
placed_nodes_left root n = placed_passing root n.test (placed_left n.children)

-- ---- what is found: texts and documents

abbrev pub texts : List (List Place × Document) → List (List ℕ × Document)
texts ns = map (λ n. (normalized n.0, n.1)) ns

abbrev pub found : List Located → List (List ℕ × Document)
found ls = map (λ l. (string_bytes l.path, doc l.value)) ls
