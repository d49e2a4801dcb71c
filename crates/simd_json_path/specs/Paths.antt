-- Which documents a JSONPath query selects in a document (RFC 9535), in order; one may come more than once.
use Rattle.std.specs.Prelude.{List, [], ◌∷◌, Bool, not, ◌&&◌, filter}
use Rattle.std.specs.List.{list_all}
use Rattle.simd_json_parts.specs.Document.{Document}
use Rattle.simd_json.specs.Beneath.{children}
use Rattle.simd_json_path.specs.Filters.{holds}
use Rattle.simd_json_path.specs.Nodes.{by_all, chosen_by, followed, nodes}
use Rattle.simd_json_path.specs.Singular.{is_one}
use Rattle.simd_json_path.specs.declared.path.Path.{Path}
use Rattle.simd_json_query.specs.declared.query.Selector.{Selector}
use Rattle.simd_json_query.specs.declared.query.Selector.TheVariants as selector

-- ---- selectors (section 2.3), in a query that is applied to a root

abbrev pub selected_by : Document → Selector → Document → List Document
selected_by root (selector.Choice c) d = chosen_by c d
selected_by root (selector.Filter test) d = filter (holds root test.now) (children d)

abbrev pub selected_by_all : Document → List Selector → Document → List Document
selected_by_all root selectors d = by_all (selected_by root) selectors d

-- ---- queries (section 2.1.2)

abbrev pub selected : Path → Document → List Document
selected path d = nodes (selected_by d) path.segments.now (followed path.steps.now (d ∷ []))

-- ---- singular ones (section 2.3.5.1): each segment is of one name or one index

abbrev pub is_singular : Path → Bool
is_singular path = list_all (λ s. not s.is_descendant && is_one s.selectors.now) path.segments.now
