-- What is picked of a document: whether its line is printed, and its row.
use Rattle.std.specs.Prelude.{ℕ, List, [], ◌∷◌, ◌++◌, flat_map, map, codes, Bool, true, false, ◌&&◌, ◌||◌, not, ◌==◌, if◌then◌else◌}
use Rattle.std.specs.Prelude.{Option, None, Some, is_some, unwrap_or}
use Rattle.std.specs.List.{list_all}
use Rattle.programs.specs.Cells.{cells, raw_text, tsv_escape}
use Rattle.simd_json_parts.specs.Bytes.{comma, left_bracket, line_feed, quote, right_bracket, tab}
use Rattle.simd_json_parts.specs.Document.{Document, string, array, object}
use Rattle.simd_json_parts.specs.Printed.{compact, text}
use Rattle.simd_json_parts.specs.Views.{as_null}
use Rattle.simd_json_path.specs.Filters.{holds}
use Rattle.simd_json_path.specs.declared.filter.Filter.{Filter}
use Rattle.jpick.specs.Queries.{elements_of, first, is_singular, selected_by, text_of}
use Rattle.jpick.specs.Sorted.{sorted}
use Rattle.jpick.specs.declared.fields.Layout.{Layout}
use Rattle.jpick.specs.declared.fields.Layout.TheVariants.{Tabs, Tsv, Csv, Json}
use Rattle.jpick.specs.declared.fields.Wanted.{Wanted}
use Rattle.jpick.specs.declared.query.Query.{Query}

-- ---- filters

abbrev pub meets : Document → Filter → Bool
meets d f = holds d f.test.now d

abbrev pub has_value : Document → Query → Bool
has_value d q = is_some (first (selected_by q d))

-- each query selects a value, if all are needed
abbrev pub has_needed : Wanted → Document → Bool
has_needed w d = not w.needs_all || list_all (has_value d) w.queries.now

-- the line is printed
abbrev pub is_picked : Wanted → Document → Bool
is_picked w d = list_all (meets d) w.filters.now && has_needed w d

-- ---- a value in a row

-- what stands for a byte in tab separated or comma separated text, if not the byte itself
abbrev pub escape_of : Layout → ℕ → Option (List ℕ)
escape_of Tsv x = tsv_escape x
escape_of Csv x = if x == quote then Some (codes "\"\"") else None
escape_of _ x = None

abbrev pub escaped : Layout → ℕ → List ℕ
escaped layout x = unwrap_or (escape_of layout x) (x ∷ [])

-- before and after a value: quotes in comma separated text, if it is no truth value and no number
abbrev pub quote_of : Layout → Document → List ℕ
quote_of Csv (string t) = quote ∷ []
quote_of Csv (array ds) = quote ∷ []
quote_of Csv (object ms) = quote ∷ []
quote_of _ d = []

-- in tab separated or comma separated text; null is empty
abbrev pub field_text : Layout → Document → List ℕ
field_text layout d =
    if is_some (as_null d) then [] else quote_of layout d ++ flat_map (escaped layout) (raw_text d) ++ quote_of layout d

-- of a query that selects nothing
abbrev pub no_value_text : Layout → List ℕ
no_value_text Json = codes "null"
no_value_text _ = []

-- as JSON, over several lines or compact
abbrev pub shown : Bool → Document → List ℕ
shown pretty d = text pretty d 0

-- a string as its text, if that is wanted
abbrev pub plain_text : Bool → Bool → Document → List ℕ
plain_text true pretty (string t) = t
plain_text raw pretty d = shown pretty d

abbrev pub text_in : Layout → Bool → Bool → Document → List ℕ
text_in Tabs raw pretty d = plain_text raw pretty d
text_in Json raw pretty d = compact d
text_in layout raw pretty d = field_text layout d

-- with the members of each object in the order of their keys, if that is wanted
abbrev pub arranged : Wanted → Document → Document
arranged w d = if w.has_sorted_keys then sorted d else d

abbrev pub value_text : Wanted → Document → List ℕ
value_text w d = text_in w.layout w.is_raw w.is_pretty (arranged w d)

abbrev pub value_cell : Wanted → Option Document → List ℕ
value_cell w None = no_value_text w.layout
value_cell w (Some d) = value_text w d

-- the column of a query that may select more than one value: an array of all
abbrev pub array_text : Wanted → List Document → List ℕ
array_text w ds = text_in w.layout false false (array (elements_of (map (arranged w) ds)))

-- ---- the row

abbrev pub opening : Layout → List ℕ
opening Json = left_bracket ∷ []
opening _ = []

-- between two values
abbrev pub mark_of : Layout → List ℕ
mark_of Csv = comma ∷ []
mark_of Json = comma ∷ []
mark_of _ = tab ∷ []

abbrev pub closing : Layout → List ℕ
closing Json = right_bracket ∷ line_feed ∷ []
closing _ = line_feed ∷ []

-- of a query: the value that it selects, or all in an array; or in the header its text, as a string
abbrev pub cell_at : Wanted → Option Document → Query → List ℕ
cell_at w None q = field_text w.layout (string (text_of q))
cell_at w (Some d) q =
    if is_singular q then value_cell w (first (selected_by q d)) else array_text w (selected_by q d)

-- the row of a document, or the header
abbrev pub row : Wanted → Option Document → List ℕ
row w d = opening w.layout ++ cells (mark_of w.layout) (cell_at w d) w.queries.now ++ closing w.layout

-- ---- the rows of a document: of a lone query that may select more than one value there is one for each

abbrev pub value_row : Wanted → Document → List ℕ
value_row w d = opening w.layout ++ value_text w d ++ closing w.layout

abbrev pub rows_by : Wanted → List Query → Document → List ℕ
rows_by w (q ∷ []) d = if is_singular q then row w (Some d) else flat_map (value_row w) (selected_by q d)
rows_by w [] d = row w (Some d)
rows_by w (q ∷ r ∷ qs) d = row w (Some d)

abbrev pub document_rows : Wanted → Document → List ℕ
document_rows w d = rows_by w w.queries.now d

-- of a value, if it is printed
abbrev pub picked_rows : Wanted → Document → List ℕ
picked_rows w d = if is_picked w d then document_rows w d else []

-- of each value that a query selects of a document, or without one of the document
abbrev pub rows_of_each : Option Query → Wanted → Document → List ℕ
rows_of_each None w d = picked_rows w d
rows_of_each (Some q) w d = flat_map (picked_rows w) (selected_by q d)

-- ---- what private clauses cite

abbrev pub needed_rows : Wanted → Document → List ℕ
needed_rows w d = if has_needed w d then document_rows w d else []

-- of an array's text
abbrev pub element_text : Wanted → Document → List ℕ
element_text w d = flat_map (escaped w.layout) (compact (arranged w d))
