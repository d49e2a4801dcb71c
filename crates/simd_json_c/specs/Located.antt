-- The place and the reason of an error, for people.
use Rattle.std.specs.Prelude.{◌≡◌, ◌⊎◌, ◌||◌, ◌==◌, ℕ, ℤ, pos, List, [], ◌∷◌, Bool, not, cond, is_none, map, nat_lt, slice_get}
use Rattle.std.specs.Prelude.{if◌then◌else◌, unwrap_or, Option, Some, None, option_map, MatchOption}
use Rattle.simd_json_check.specs.Messages.{message_text}
use Rattle.simd_json_check.specs.Reasons.{location_in, location_of, shown_kind}
use Rattle.simd_json_check.specs.declared.location.Location.{Location}
use Rattle.simd_json_parts.specs.Bytes.{byte_at, colon, comma, right_bracket, right_brace}
use Rattle.simd_json_parts.specs.Faults.{error_of}
use Rattle.simd_json_parts.specs.InputFaults.{input_fault}
use Rattle.simd_json_parts.specs.Positions.{positions}
use Rattle.simd_json_parts.specs.declared.error.ErrorType.TheVariants as errors
use Rattle.simd_json_parts.specs.declared.error.Error.{Error}
use Rattle.simd_json_parts.specs.declared.error.ErrorType.{ErrorType}
use Rattle.simd_json_c.specs.Calls.{IsTextPut}
use Rattle.simd_json_c.specs.Names.{error_kinds}
use Rattle.simd_json_c.specs.Statuses.{kind_status, no_value_status, out_of_memory}
use Rattle.simd_json_c.specs.declared.location.InputPosition.{InputPosition}
use Rattle.simd_json_c.specs.declared.status.ErrorPlace.{ErrorPlace}

-- the kind with a status, where it is one of an input's errors
abbrev pub kind_with : ℤ → Option ErrorType
kind_with (pos n) = unwrap_or (slice_get (None ∷ map Some error_kinds) n) None
kind_with _ = None

-- the byte of a place, where it has one
abbrev pub byte_of : ℕ → Option ℕ
byte_of c = if nat_lt c 256 then Some c else None

-- the error with a status and a place
abbrev pub error_with : ℤ → ErrorPlace → Option Error
error_with status place = option_map (error_of place.index (byte_of place.character)) (kind_with status)

abbrev pub position_of : Location → InputPosition
position_of l =
    record { byte = l.byte; line = l.line; column = l.column; status = pos (kind_status (shown_kind l.reason l.error.error)) }

-- of no error
abbrev pub nowhere : InputPosition
nowhere = record { byte = 0; line = 0; column = 0; status = pos 0 }

-- the place of an error of b, which begins in line `first` of a file, and its reason where there is memory and room for it
abbrev pub IsLocated : List ℕ → ℕ → Option Error → ℤ → InputPosition → ℕ → ℕ → List ℕ → List ℕ → Type 0
IsLocated b first fault status position old_needed needed old new =
    MatchOption fault
    ((status ≡ pos 0) × (position ≡ nowhere) × (needed ≡ 0) × (new ≡ old))
    (λ e. let l = location_in first (location_of b e) in (position ≡ position_of l)
    × (IsTextPut (message_text l.reason l.opening) status needed old new
    ⊎ ((status ≡ out_of_memory) × (needed ≡ old_needed) × (new ≡ old))))

-- ---- where a node was written

-- all tokens are nodes but the characters between nodes, and after them
abbrev pub begins_node : ℕ → Bool
begins_node c = not ((c == colon) || (c == comma) || (c == right_bracket) || (c == right_brace))

-- of these indexes of b those at which a node begins
abbrev pub node_places : List ℕ → List ℕ → List ℕ
node_places b [] = []
node_places b (i ∷ is) = if begins_node (byte_at b i) then i ∷ node_places b is else node_places b is

-- that of an error there
abbrev pub node_position : List ℕ → ℕ → InputPosition
node_position b i = record (position_of (location_of b (error_of i (Some 32) errors.InvalidNumber))) { status = pos 0 }

-- it is that of the node with an index, or there is no such node, or an allocation failed
abbrev pub IsNodeLocated : List ℕ → ℕ → ℤ → InputPosition → InputPosition → Type 0
IsNodeLocated b node status old new =
    ((status ≡ out_of_memory) × (new ≡ old))
    ⊎ MatchOption (slice_get (node_places b (cond (is_none (input_fault b)) (positions b) [])) node)
    ((status ≡ no_value_status) × (new ≡ old)) (λ i. (status ≡ pos 0) × (new ≡ node_position b i))
