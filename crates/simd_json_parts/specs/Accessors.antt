-- The typed accessors as one table: what each returns of a document, and which kind its errors name as expected.
-- Neither acceptance nor faults rest on it.
use Rattle.std.specs.Prelude.{ℕ, ℤ, List, Bool, false, Option, option_and_then, Result, ok_or}
use Rattle.std.specs.Option.{option_map_or}
use Rattle.simd_json_parts.specs.Document.{Document}
use Rattle.simd_json_parts.specs.Views.{as_null, as_bool, as_signed, as_unsigned, as_str, as_decimal, as_array}
use Rattle.simd_json_parts.specs.Views.{as_object, get, mismatch, try_get_as}
use Rattle.simd_json_parts.specs.declared.node.TryTypeError.{TryTypeError}
use Rattle.simd_json_parts.specs.declared.node.ValueType.{ValueType}
use Rattle.simd_json_parts.specs.declared.node.ValueType.TheVariants as kinds

pub record Accessor (A : Type 0) : Type 0 where
  pub answer : Document → Option A
  pub expected : ValueType

abbrev pub row : {A : Type 0} → (Document → Option A) → ValueType → Accessor A
row answer expected = record { answer = answer; expected = expected }

-- ---- the table. An integer is returned where its number fits the type, of whatever kind it is.

abbrev pub null : Accessor (Unit {0})
null = row as_null kinds.Null

abbrev pub bool : Accessor Bool
bool = row as_bool kinds.Bool

abbrev pub i8 : Accessor ℤ
i8 = row (as_signed 8) kinds.I64

abbrev pub i16 : Accessor ℤ
i16 = row (as_signed 16) kinds.I64

abbrev pub i32 : Accessor ℤ
i32 = row (as_signed 32) kinds.I64

abbrev pub i64 : Accessor ℤ
i64 = row (as_signed 64) kinds.I64

abbrev pub i128 : Accessor ℤ
i128 = row (as_signed 128) kinds.I128

abbrev pub u8 : Accessor ℕ
u8 = row (as_unsigned 8) kinds.U64

abbrev pub u16 : Accessor ℕ
u16 = row (as_unsigned 16) kinds.U64

abbrev pub u32 : Accessor ℕ
u32 = row (as_unsigned 32) kinds.U64

abbrev pub u64 : Accessor ℕ
u64 = row (as_unsigned 64) kinds.U64

abbrev pub u128 : Accessor ℕ
u128 = row (as_unsigned 128) kinds.U128

-- of 64 bits on each machine that this runs on
abbrev pub usize : Accessor ℕ
usize = row (as_unsigned 64) kinds.U64

abbrev pub str : Accessor (List ℕ)
str = row as_str kinds.String

-- its literal
abbrev pub decimal : Accessor (List ℕ)
decimal = row as_decimal kinds.Decimal

abbrev pub array : Accessor (List Document)
array = row as_array kinds.Array

abbrev pub object : Accessor (List (List ℕ × Document))
object = row as_object kinds.Object

-- ---- the calls of a row, each named after its functions

abbrev pub as_t : {A : Type 0} → Accessor A → Document → Option A
as_t t = t.answer

abbrev pub try_as_t : {A : Type 0} → Accessor A → Document → Result A TryTypeError
try_as_t t d = ok_or (t.answer d) (mismatch t.expected d)

-- at the first value with the key
abbrev pub get_t : {A : Type 0} → Accessor A → List ℕ → Document → Option A
get_t t key d = option_and_then t.answer (get key d)

abbrev pub try_get_t : {A : Type 0} → Accessor A → List ℕ → Document → Result (Option A) TryTypeError
try_get_t t = try_get_as (try_as_t t)

-- whether there is such a value, the same as x
abbrev pub eq_t : {A : Type 0} → (A → A → Bool) → Accessor A → A → Document → Bool
eq_t same t x d = option_map_or (λ y. same y x) (t.answer d) false
