-- The bytes of a value as they are written.
use Rattle.std.specs.Prelude.{ℕ, suc, ◌+◌, ◌-◌, List, drop, slice_index, slice_range, Option, Some, None, if◌then◌else◌}
use Rattle.simd_json_parts.specs.Bytes.{byte_at, is_closing, is_opening}
use Rattle.simd_json_ondemand.specs.Closing.{span}
use Rattle.simd_json_ondemand.specs.Docs.{text, places, index_of, literal}
use Rattle.simd_json_ondemand.specs.declared.value.Value.{Value}

-- the structural index of the last token of the value there, by counting brackets
abbrev pub last_place : Value → ℕ
last_place v = slice_index (places v.document) (v.at + span (text v.document) (drop v.at (places v.document)) - 1)

-- from an opening bracket to the closing one
abbrev pub enclosed : Value → Option (List ℕ)
enclosed v = let b = text v.document in
    if is_closing (byte_at b (last_place v)) then Some (slice_range b (index_of v) (suc (last_place v))) else None

abbrev pub written : Value → Option (List ℕ)
written v = if is_opening (byte_at (text v.document) (index_of v)) then enclosed v else literal v
