-- How the values of a line are printed.
use Rattle.std.specs.Prelude.{ℕ, List, [], ◌∷◌, ◌++◌, codes, flat_map, ◌==◌, if◌then◌else◌, Option, None, Some}
use Rattle.simd_json_parts.specs.Bytes.{backslash, carriage_return, line_feed, tab}
use Rattle.simd_json_parts.specs.Document.{Document, string}
use Rattle.simd_json_parts.specs.Printed.{compact}

-- a string as its text, every other value as compact JSON
abbrev pub raw_text : Document → List ℕ
raw_text (string t) = t
raw_text d = compact d

-- what stands for a byte in tab separated text, if not the byte itself
abbrev pub tsv_escape : ℕ → Option (List ℕ)
tsv_escape x =
    if x == tab then Some (codes "\\t")
    else if x == line_feed then Some (codes "\\n")
    else if x == carriage_return then Some (codes "\\r")
    else if x == backslash then Some (codes "\\\\")
    else None

-- the cell of an element, after the mark between two cells
abbrev pub after_mark : {X : Type 0} → List ℕ → (X → List ℕ) → X → List ℕ
after_mark mark cell x = mark ++ cell x

-- the cells of elements, with a mark between two of them
abbrev pub cells : {X : Type 0} → List ℕ → (X → List ℕ) → List X → List ℕ
cells mark cell [] = []
cells mark cell (first ∷ others) = cell first ++ flat_map (after_mark mark cell) others
