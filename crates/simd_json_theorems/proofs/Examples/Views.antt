-- What views of a document return: the ends of each width of integers, look-up, kinds, and what is equal.
use Rattle.std.proofs.Common.{◌≡◌, refl, ℕ, suc, ◌-◌, List, [], ◌∷◌, map, Bool, true, false, cond, nat_eq}
use Rattle.std.specs.Prelude.{codes, is_some, ℤ, pos, Option, Some, None, bytes_eq, Ok, Err}
use Rattle.simd_json_parts.specs.Accessors as accessors
use Rattle.simd_json_parts.specs.Accessors.{Accessor, as_t, try_as_t, get_t, try_get_t, eq_t}
use Rattle.simd_json_parts.specs.Document.{Document, null, integer, decimal, array, object, no_elements, element, no_members, member}
use Rattle.simd_json_parts.specs.Equality.{equal}
use Rattle.simd_json_parts.specs.MapEquality.{equals_map}
use Rattle.simd_json_parts.specs.StaticNodes.{same_static}
use Rattle.simd_json_parts.specs.Views as views
use Rattle.simd_json_parts.specs.declared.node.StaticNode.TheVariants as fixed
use Rattle.simd_json_parts.specs.declared.node.TryTypeError.{TryTypeError}
use Rattle.simd_json_parts.specs.declared.node.ValueType.{ValueType}
use Rattle.simd_json_parts.specs.declared.node.ValueType.TheVariants as kinds

-- ---- integers

-- the first and the last number that fit, and those next to them that do not
abbrev signed_ends : Accessor ℤ → ℕ → List Bool
signed_ends t end = map (λ d. is_some (as_t t d))
    (integer true (suc end) ∷ integer true end ∷ integer false (end - 1) ∷ integer false end ∷ [])

abbrev fit_within : List Bool
fit_within = false ∷ true ∷ true ∷ false ∷ []

signed-ends : map (λ (p : Accessor ℤ × ℕ). signed_ends p.0 p.1)
    ((accessors.i8, 128) ∷ (accessors.i16, 32768) ∷ (accessors.i32, 2147483648) ∷ (accessors.i64, 9223372036854775808)
    ∷ (accessors.i128, 170141183460469231731687303715884105728) ∷ [])
    ≡ fit_within ∷ fit_within ∷ fit_within ∷ fit_within ∷ fit_within ∷ []
signed-ends = refl

abbrev unsigned_ends : Accessor ℕ → ℕ → List Bool
unsigned_ends t max = map (λ d. is_some (as_t t d)) (integer true 1 ∷ integer true 0 ∷ integer false max ∷ integer false (suc max) ∷ [])

unsigned-ends : map (λ (p : Accessor ℕ × ℕ). unsigned_ends p.0 p.1)
    ((accessors.u8, 255) ∷ (accessors.u16, 65535) ∷ (accessors.u32, 4294967295) ∷ (accessors.u64, 18446744073709551615)
    ∷ (accessors.usize, 18446744073709551615) ∷ (accessors.u128, 340282366920938463463374607431768211455) ∷ [])
    ≡ fit_within ∷ fit_within ∷ fit_within ∷ fit_within ∷ fit_within ∷ fit_within ∷ []
unsigned-ends = refl

-- ---- kinds

abbrev expected_got : ValueType → ValueType → TryTypeError
expected_got expected got = record { expected = expected; got = got }

minus_zero-type : views.value_type (integer true 0) ≡ kinds.I64
minus_zero-type = refl

not_a_byte : try_as_t accessors.u8 (integer false 300) ≡ Err (expected_got kinds.U64 kinds.U64)
not_a_byte = refl

past_u64 : try_as_t accessors.u64 (integer false 18446744073709551616) ≡ Err (expected_got kinds.U64 kinds.U128)
past_u64 = refl

not_a_bool : try_as_t accessors.bool null ≡ Err (expected_got kinds.Bool kinds.Null)
not_a_bool = refl

-- ---- look-up: `{"a":1,"a":[2]}`

abbrev twice : Document
twice =
    object (member (codes "a") (integer false 1)
    (member (codes "a") (array (element (integer false 2) no_elements)) no_members))

first_is_taken : views.get (codes "a") twice ≡ Some (integer false 1)
first_is_taken = refl

first_is_no_array : get_t accessors.array (codes "a") twice ≡ None
first_is_no_array = refl

first_has_kind : try_get_t accessors.array (codes "a") twice ≡ Err (expected_got kinds.Array kinds.U64)
first_has_kind = refl

no_such_key : try_get_t accessors.u64 (codes "b") twice ≡ Ok None
no_such_key = refl

no_array : views.try_get_idx 0 twice ≡ Err (expected_got kinds.Array kinds.Object)
no_array = refl

-- ---- equality

abbrev alone : Document → Document
alone d = array (element d no_elements)

zeros-equal : equal (alone (integer true 0)) (alone (integer false 0)) ≡ true
zeros-equal = refl

spellings-differ : equal (alone (decimal (codes "1.0"))) (alone (decimal (codes "1.00"))) ≡ false
spellings-differ = refl

kinds-differ : equal (decimal (codes "1.0")) (integer false 1) ≡ false
kinds-differ = refl

nodes-equal : same_static (fixed.U128 1) (fixed.I64 (pos 1)) ≡ true
nodes-equal = refl

-- a map from strings to numbers, of so many keys
abbrev look_up : List (List ℕ × ℕ) → List ℕ → Option ℕ
look_up [] key = None
look_up (m ∷ ms) key = cond (bytes_eq m.0 key) (Some m.1) (look_up ms key)

abbrev same_u64 : ℕ → Document → Bool
same_u64 = eq_t nat_eq accessors.u64

abbrev ones : Document
ones = object (member (codes "a") (integer false 1) (member (codes "b") (integer false 1) no_members))

map-equal : equals_map (look_up ((codes "a", 1) ∷ (codes "b", 1) ∷ [])) 2 same_u64 ones ≡ true
map-equal = refl

map-differs : equals_map (look_up ((codes "a", 1) ∷ (codes "b", 2) ∷ [])) 2 same_u64 ones ≡ false
map-differs = refl

map-lacks : equals_map (look_up ((codes "a", 1) ∷ [])) 1 same_u64 ones ≡ false
map-lacks = refl
