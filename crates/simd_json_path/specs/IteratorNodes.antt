-- What a query has still to select, by its open frames: each of a segment, at a value that the segment before it selected.
use Rattle.std.specs.Prelude.{ℕ, ◌+◌, ◌*◌, List, [], ◌∷◌, ◌++◌, filter, length, map, take, Option, Some, None, Result, option_map}
use denote.Ref.{Bor}
use Rattle.std.specs.List.{flat_map}
use Rattle.std.specs.Option.{option_to_list}
use Rattle.std.specs.Result.{result_ok}
use Rattle.simd_json_parts.specs.Document.{Document}
use Rattle.simd_json.specs.Descending.{containers_left}
use Rattle.simd_json.specs.Viewed.{doc}
use Rattle.simd_json.specs.declared.value.tape.value.Value.{Value}
use Rattle.simd_json_path.specs.Filters.{holds}
use Rattle.simd_json_path.specs.Nodes.{followed, nodes, selected_of}
use Rattle.simd_json_path.specs.Paths.{selected_by, selected_by_all}
use Rattle.simd_json_path.specs.SliceNodes.{children_left}
use Rattle.simd_json_path.specs.declared.frame.Frame.{Frame}
use Rattle.simd_json_path.specs.declared.segment_nodes.SegmentNodes.{SegmentNodes}
use Rattle.simd_json_path.specs.declared.selected.Selected.{Selected}
use Rattle.simd_json_path.specs.declared.selected.TooFewFrames.{TooFewFrames}
use Rattle.simd_json_path.specs.declared.selector_nodes.SelectorNodes.{SelectorNodes}
use Rattle.simd_json_query.specs.declared.filter.Test.{Test}
use Rattle.simd_json_query.specs.declared.query.Segment.{Segment}
use Rattle.simd_json_query.specs.declared.query.Selector.{Selector}

-- ---- of a selector, and of selectors, at a value

-- those that pass the test, if there is one
abbrev pub passing : Document → Option (Bor Test) → List Document → List Document
passing root None ds = ds
passing root (Some test) ds = filter (holds root test.now) ds

abbrev pub selector_nodes_left : Document → SelectorNodes → List Document
selector_nodes_left root n = passing root n.test (children_left n.children)

abbrev pub segment_nodes_left : Document → SegmentNodes → List Document
segment_nodes_left root n = selector_nodes_left root n.nodes ++ selected_by_all root n.selectors.now (doc n.value)

-- ---- of a segment: at the value that it visits, and at the arrays and objects that it visits after that

abbrev pub before_steps : Document → Frame → List Document
before_steps root f =
    segment_nodes_left root f.nodes ++ flat_map (selected_by_all root f.selectors.now) (containers_left f.containers)

abbrev pub frame_left : Document → Frame → List Document
frame_left root f = followed f.steps.now (before_steps root f)

-- ---- of segments, of which the first ones have these frames

abbrev pub frames_left : Document → List (Segment Selector) → List Frame → List Document
frames_left root ss [] = []
frames_left root [] (f ∷ fs) = []
frames_left root (s ∷ ss) (f ∷ fs) = frames_left root ss fs ++ nodes (selected_by root) ss (frame_left root f)

-- how many steps it takes: to open a frame at each node, to close it, and those of what is selected there
abbrev pub effort : Document → List (Segment Selector) → List Document → ℕ
effort root [] ds = length ds
effort root (s ∷ ss) ds = 2 * length ds + effort root ss (flat_map (selected_of (selected_by root) s) ds)

abbrev pub frames_effort : Document → List (Segment Selector) → List Frame → ℕ
frames_effort root ss [] = 0
frames_effort root [] (f ∷ fs) = 0
frames_effort root (s ∷ ss) (f ∷ fs) = frames_effort root ss fs + 1 + effort root ss (frame_left root f)

-- ---- of a query

-- the document of a value; none for an error
abbrev pub item_of : Result Value TooFewFrames → Option Document
item_of item = option_map doc (result_ok item)

abbrev pub selected_left : Selected → List (Option Document)
selected_left it =
    map Some (frames_left (doc it.root) it.segments.now (take it.opened it.frames.now))
    ++ option_to_list (option_map item_of it.single)
