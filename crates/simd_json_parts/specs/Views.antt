-- What a view of a document returns. Neither acceptance nor faults rest on it.
use Rattle.std.specs.Prelude.{ℕ, ◌-◌, ◌^◌, ℤ, pos, neg_ℤ, int_le, int_lt, List, length, map, slice_get, Bool, cond}
use Rattle.std.specs.Prelude.{◌&&◌, Option, Some, None, is_some, option_and_then, Result, Ok, Err, bytes_eq}
use Rattle.simd_json_parts.specs.Document.{Document, null, boolean, integer, decimal, string, array, object, elements}
use Rattle.simd_json_parts.specs.Document.{Members, no_members, member, members}
use Rattle.simd_json_parts.specs.Integers.{number_of, integer_node}
use Rattle.simd_json_parts.specs.NodeTypes.{static_type}
use Rattle.simd_json_parts.specs.declared.node.ValueType.{ValueType}
use Rattle.simd_json_parts.specs.declared.node.ValueType.TheVariants as kinds
use Rattle.simd_json_parts.specs.declared.node.TryTypeError.{TryTypeError}

abbrev pub value_type : Document → ValueType
value_type null = kinds.Null
value_type (boolean b) = kinds.Bool
value_type (integer minus n) = static_type (integer_node minus n)
value_type (decimal literal) = kinds.Decimal
value_type (string t) = kinds.String
value_type (array ds) = kinds.Array
value_type (object ms) = kinds.Object

-- how many elements or members the document has
abbrev pub member_count : Document → ℕ
member_count (array ds) = length (elements ds)
member_count (object ms) = length (members ms)
member_count _ = 0

-- ---- a value of one kind

abbrev pub as_null : Document → Option (Unit {0})
as_null null = Some tt
as_null _ = None

abbrev pub as_bool : Document → Option Bool
as_bool (boolean b) = Some b
as_bool _ = None

abbrev pub as_integer : Document → Option ℤ
as_integer (integer minus n) = Some (number_of minus n)
as_integer _ = None

abbrev pub as_decimal : Document → Option (List ℕ)
as_decimal (decimal literal) = Some literal
as_decimal _ = None

abbrev pub as_str : Document → Option (List ℕ)
as_str (string t) = Some t
as_str _ = None

abbrev pub as_array : Document → Option (List Document)
as_array (array ds) = Some (elements ds)
as_array _ = None

abbrev pub as_object : Document → Option (List (List ℕ × Document))
as_object (object ms) = Some (members ms)
as_object _ = None

abbrev pub is_array : Document → Bool
is_array d = is_some (as_array d)

abbrev pub is_object : Document → Bool
is_object d = is_some (as_object d)

-- ---- integers, where they fit a type of so many bits

abbrev pub if_passes : {A : Type 0} → (A → Bool) → A → Option A
if_passes test x = cond (test x) (Some x) None

abbrev pub as_signed : ℕ → Document → Option ℤ
as_signed bits d =
    option_and_then
    (if_passes (λ z. int_le (neg_ℤ (pos (2 ^ (bits - 1)))) z && int_lt z (pos (2 ^ (bits - 1)))))
    (as_integer d)

-- the number, where it is not negative
abbrev pub natural_of : ℤ → Option ℕ
natural_of (pos n) = Some n
natural_of _ = None

abbrev pub as_unsigned : ℕ → Document → Option ℕ
as_unsigned bits d =
    option_and_then
    (λ z. option_and_then (if_passes (λ n. int_lt (pos n) (pos (2 ^ bits)))) (natural_of z))
    (as_integer d)

-- ---- look-up

-- of the first pair with that key
abbrev pub first_with : List ℕ → Members → Option Document
first_with key no_members = None
first_with key (member k d ms) = cond (bytes_eq k key) (Some d) (first_with key ms)

abbrev pub get : List ℕ → Document → Option Document
get key (object ms) = first_with key ms
get key _ = None

abbrev pub get_idx : ℕ → Document → Option Document
get_idx i (array ds) = slice_get (elements ds) i
get_idx i _ = None

abbrev pub contains_key : List ℕ → Document → Bool
contains_key key d = is_some (get key d)

-- ---- what the iterators give, in order

abbrev pub keys : Members → List (List ℕ)
keys ms = map (λ (m : List ℕ × Document). m.0) (members ms)

abbrev pub values : Members → List Document
values ms = map (λ (m : List ℕ × Document). m.1) (members ms)

-- ---- the `try_` forms: an error names the kind that was expected, and the value's

abbrev pub ok_map : {A B E : Type 0} → (A → B) → Result A E → Result B E
ok_map f (Ok x) = Ok (f x)
ok_map f (Err e) = Err e

abbrev pub mismatch : ValueType → Document → TryTypeError
mismatch expected d = record { expected = expected; got = value_type d }

abbrev pub try_at : {A : Type 0} → (Document → Result A TryTypeError) → Option Document → Result (Option A) TryTypeError
try_at try_t None = Ok None
try_at try_t (Some d) = ok_map (λ x. Some x) (try_t d)

abbrev pub try_get_as : {A : Type 0} → (Document → Result A TryTypeError) → List ℕ → Document → Result (Option A) TryTypeError
try_get_as try_t key (object ms) = try_at try_t (first_with key ms)
try_get_as try_t key d = Err (mismatch kinds.Object d)

abbrev pub try_get : List ℕ → Document → Result (Option Document) TryTypeError
try_get = try_get_as Ok

abbrev pub try_get_idx : ℕ → Document → Result (Option Document) TryTypeError
try_get_idx i (array ds) = Ok (slice_get (elements ds) i)
try_get_idx i d = Err (mismatch kinds.Array d)
