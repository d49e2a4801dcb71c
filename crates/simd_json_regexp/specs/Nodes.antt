-- The regular expression of some nodes: the first is the whole one, and its parts are among those after it.
use Rattle.std.specs.Prelude.{◌≡◌, ◌≤◌, ℕ, List, [], ◌∷◌, take, not, ⊤, slice_index_or}
use Rattle.std.specs.List.{list_any}
use Rattle.std.specs.Coded.{le_prop, ×_prop, Unit-prop, Coded-set, coded_ℕ, coded_bool}
use Rattle.simd_json_regexp.specs.Regexps.{Regexp, never, empty, one, ◌then◌, ◌or◌, many}
use Rattle.simd_json_regexp.specs.Items.{allows, node_allows}
use Rattle.simd_json_regexp.specs.Marks.{size, takes_empty}
use Rattle.simd_json_regexp.specs.declared.node.Kind.{Kind}
use Rattle.simd_json_regexp.specs.declared.node.Kind.TheVariants as kind
use Rattle.simd_json_regexp.specs.declared.node.Node.{Node}

-- a part, by how many nodes are before it
abbrev pub part : List Regexp → ℕ → Regexp
part ps i = slice_index_or ps i never

-- a character that one of these nodes allows, or none
abbrev pub class : List Node → Regexp
class ns = one (λ c. list_any (node_allows c) ns)

abbrev pub other_class : List Node → Regexp
other_class ns = one (λ c. not (list_any (node_allows c) ns))

-- of a node before these nodes, and the regular expressions of these
abbrev pub of_kind : Kind → List Node → List Regexp → Regexp
of_kind kind.Empty ns ps = empty
of_kind (kind.One i) ns ps = one (allows i)
of_kind (kind.OneOf count) ns ps = class (take count ns)
of_kind (kind.NoneOf count) ns ps = other_class (take count ns)
of_kind (kind.Then p q) ns ps = part ps p then part ps q
of_kind (kind.Or p q) ns ps = part ps p or part ps q
of_kind (kind.Many p) ns ps = many (part ps p)

-- of each node and those after it
abbrev pub regexps : List Node → List Regexp
regexps [] = []
regexps (n ∷ ns) = of_kind n.kind ns (regexps ns) ∷ regexps ns

abbrev pub regexp : List Node → Regexp
regexp ns = part (regexps ns) 0

-- a regular expression has at most so many characters
abbrev pub max_positions : ℕ
max_positions = 512

abbrev pub IsSized : Node → Regexp → Type 0
IsSized n p = (n.size ≡ size p) × (n.size ≤ max_positions)

-- a node keeps the size of its regular expression, and whether that matches the empty list
abbrev pub IsMeasured : Node → Regexp → Type 0
IsMeasured n p = IsSized n p × (n.takes_empty ≡ takes_empty p)

abbrev pub AreMeasured : List Node → Type 0
AreMeasured [] = ⊤
AreMeasured (n ∷ ns) = IsMeasured n (of_kind n.kind ns (regexps ns)) × AreMeasured ns

IsSized-prop : (n : Node) (p : Regexp) → IsProp (IsSized n p)
IsSized-prop n p = ×_prop (Coded-set coded_ℕ n.size (size p)) le_prop

IsMeasured-prop : (n : Node) (p : Regexp) → IsProp (IsMeasured n p)
IsMeasured-prop n p = ×_prop (IsSized-prop n p) (Coded-set coded_bool n.takes_empty (takes_empty p))

pub AreMeasured-prop : (ns : List Node) → IsProp (AreMeasured ns)
AreMeasured-prop [] = Unit-prop
AreMeasured-prop (n ∷ ns) = ×_prop (IsMeasured-prop n (of_kind n.kind ns (regexps ns))) (AreMeasured-prop ns)
