-- What the next node says of a value, as a function: of what is no key, a step returns exactly that.
use Rattle.std.specs.Prelude.{◌≡◌, ◌⊎◌, ℕ, ◌+◌, ◌-◌, ◌^◌, ◌<◌, ◌≤◌, ◌&&◌, ℤ, pos, neg_ℤ, int_le, int_lt, List, slice_get, length, nat_lt}
use Rattle.std.specs.Prelude.{if◌then◌else◌, [], Bool, true, false, Option, Some, None, option_and_then, decimal}
use Rattle.std.specs.Fmt.{signed_decimal}
use Rattle.std.specs.Float.{Float, Format, float_is_finite}
use lib.Ieee.{of_int}
use Rattle.fast_float.specs.Parse.{parse_float}
use Rattle.simd_json_parts.specs.Headers.{count_of}
use Rattle.simd_json_parts.specs.Nodes.{Item, static_item, decimal_item, string_item, array_item, object_item}
use Rattle.simd_json_parts.specs.StaticNodes.{truth_of, number_in}
use Rattle.simd_json_parts.specs.Views.{if_passes, natural_of}
use Rattle.simd_json_parts.specs.declared.node.StaticNode.{StaticNode}
use Rattle.simd_json_parts.specs.declared.node.StaticNode.TheVariants as fixed
use Rattle.serde.specs.declared.format.Kind.{Kind}
use Rattle.serde.specs.declared.format.Kind.TheVariants as kinds
use Rattle.simd_json_serde.specs.Steps.{Place, BeginsBytes}

-- the next node within the innermost container
abbrev pub node_ahead : Place → Option Item
node_ahead p = if nat_lt p.at p.end then slice_get p.nodes p.at else None

-- what it says
abbrev pub ahead : {A : Type 0} → (Item → Option A) → Place → Option A
ahead said p = option_and_then said (node_ahead p)

abbrev pub truth : Item → Option Bool
truth (static_item s) = truth_of s
truth _ = None

abbrev pub integer_said : Item → Option ℤ
integer_said (static_item s) = number_in s
integer_said _ = None

abbrev pub string_text : Item → Option (List ℕ)
string_text (string_item t) = Some t
string_text _ = None

abbrev pub decimal_text : Item → Option (List ℕ)
decimal_text (decimal_item t) = Some t
decimal_text _ = None

-- the integer of a node that holds one without a sign and of 64 bits
abbrev pub natural : Item → Option ℕ
natural (static_item (fixed.U64 n)) = Some n
natural _ = None

-- an integer that fits a type of so many bits
abbrev pub signed : ℕ → Item → Option ℤ
signed bits item =
    option_and_then
    (if_passes (λ z. int_le (neg_ℤ (pos (2 ^ (bits - 1)))) z && int_lt z (pos (2 ^ (bits - 1)))))
    (integer_said item)

abbrev pub unsigned : ℕ → Item → Option ℕ
unsigned bits item =
    option_and_then
    (λ z. option_and_then (if_passes (λ n. int_lt (pos n) (pos (2 ^ bits)))) (natural_of z))
    (integer_said item)

-- the float nearest to what the text spells, if it is finite
abbrev pub nearest : Format → List ℕ → Option Float
nearest format t = option_and_then (if_passes float_is_finite) (parse_float format t)

abbrev pub float_in : Format → StaticNode → Option Float
float_in format (fixed.I64 z) = Some (of_int format z)
float_in format (fixed.U64 n) = Some (of_int format (pos n))
float_in format (fixed.I128 z) = nearest format (signed_decimal z)
float_in format (fixed.U128 n) = nearest format (decimal n)
float_in format _ = None

abbrev pub float : Format → Item → Option Float
float format (static_item s) = float_in format s
float format (decimal_item t) = nearest format t
float format _ = None

-- ---- what comes, and what can be entered or skipped

-- past 64 bits an integer is a float to a type that asks for the kind
abbrev pub kind_in : Item → Kind
kind_in (static_item fixed.Null) = kinds.Unit
kind_in (static_item (fixed.Bool b)) = kinds.Bool
kind_in (static_item (fixed.I64 z)) = kinds.Signed
kind_in (static_item (fixed.U64 n)) = kinds.Unsigned
kind_in (static_item (fixed.I128 z)) = kinds.Float
kind_in (static_item (fixed.U128 n)) = kinds.Float
kind_in (decimal_item t) = kinds.Float
kind_in (string_item t) = kinds.Str
kind_in (array_item len count) = kinds.Seq
kind_in (object_item len count) = kinds.Map

abbrev pub is_null : Item → Bool
is_null (static_item fixed.Null) = true
is_null _ = false

-- how many nodes are beneath
abbrev pub array_count : Item → Option ℕ
array_count (array_item len count) = Some count
array_count _ = None

abbrev pub object_count : Item → Option ℕ
object_count (object_item len count) = Some count
object_count _ = None

-- a container is next, and its nodes can be numbered
abbrev pub CanEnter : (Item → Option ℕ) → Place → Type 0
CanEnter count_in p = (count : ℕ) × (ahead count_in p ≡ Some count) × (p.at + 1 + count < 2 ^ 64)

-- the same of any value
abbrev pub CanSkip : Place → Type 0
CanSkip p = (count : ℕ) × (ahead (λ item. Some (count_of item)) p ≡ Some count) × (p.at + 1 + count < 2 ^ 64)

-- bytes are next, as a string or as an array whose nodes can be numbered
abbrev pub AreBytesAhead : Place → List ℕ → Type 0
AreBytesAhead p bs = (ahead string_text p ≡ Some bs) ⊎ (BeginsBytes p bs × (p.at + 1 + length bs < 2 ^ 64))

-- no container is open, and nothing is left
abbrev pub NothingIsLeft : Place → Type 0
NothingIsLeft p = (p.end ≤ p.at) × (p.outer ≡ [])
