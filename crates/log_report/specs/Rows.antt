-- The row of a line: a column for each selector.
use Rattle.std.specs.Prelude.{◌≡◌, ℕ, List, [], ◌∷◌, ◌++◌, flat_map, length, take, nat_lt, if◌then◌else◌}
use Rattle.std.specs.Prelude.{Option, None, Some, is_some, unwrap_or}
use Rattle.std.specs.Result.{result_ok}
use Rattle.programs.specs.Cells.{cells, raw_text, tsv_escape}
use Rattle.simd_json_parts.specs.Bytes.{tab}
use Rattle.simd_json_parts.specs.Document.{Document}
use Rattle.simd_json_parts.specs.Pointed.{pointed}
use Rattle.simd_json_parts.specs.Printed.{compact}
use Rattle.simd_json_parts.specs.Views.{as_null, get}
use Rattle.log_report.specs.Table.{no_value, others}
use Rattle.log_report.specs.declared.rows.Selector.{Selector}
use Rattle.log_report.specs.declared.rows.Selector.TheVariants.{Key, Pointer}
use Rattle.log_report.specs.declared.rows.Wanted.{Wanted}

-- the value that a selector names: the first with its key, or that at its JSON Pointer
abbrev pub selected : Selector → Document → Option Document
selected (Key key) d = get key.now d
selected (Pointer pointer) d = result_ok (pointed pointer.now d)

-- in tab separated text
abbrev pub tsv_byte : ℕ → List ℕ
tsv_byte x = unwrap_or (tsv_escape x) (x ∷ [])

-- in tab separated text; null is empty
abbrev pub tsv_text : Document → List ℕ
tsv_text d = if is_some (as_null d) then [] else flat_map tsv_byte (raw_text d)

abbrev pub cell : Wanted → Option Document → List ℕ
cell w None = no_value w.is_tsv
cell w (Some d) = if w.is_tsv then tsv_text d else compact d

-- the value of a selector
abbrev pub column : Wanted → Document → Selector → List ℕ
column w d selector = cell w (selected selector d)

abbrev pub row_text : Wanted → Document → List ℕ
row_text w d = cells (tab ∷ []) (column w d) w.selectors.now

-- how much of it is kept: one byte more than a row has that counts by itself
abbrev pub most_bytes : ℕ
most_bytes = 1025

-- it has become that with this text
abbrev pub Extends : List ℕ → List ℕ → List ℕ → Type 0
Extends old new text = take most_bytes new ≡ take most_bytes (old ++ text)

-- what a line with this document counts under
abbrev pub row_label : Wanted → Document → List ℕ
row_label w d = if nat_lt 1024 (length (row_text w d)) then others w.is_tsv else row_text w d
