-- What a walk that recurses over values needs to be shown to end.
use Rattle.std.proofs.Common.{◌≡◌, ap, ◌<◌, ◌+◌, List, ◌∷◌, ℕ, refl, arith}
use Rattle.simd_json_parts.specs.Document.{Document, array, object, Elements, no_elements, element, elements, Members, no_members}
use Rattle.simd_json_parts.specs.Document.{member, members}
use Rattle.simd_json_parts.specs.Views.{values}
use Rattle.simd_json.specs.Sizes.{size, elements_size, members_size, sizes, pair_sizes}

elements-sizes : (ds : Elements) → sizes (elements ds) ≡ elements_size ds
elements-sizes no_elements = refl
elements-sizes (element d ds) = ap (λ n. size d + n) (elements-sizes ds)

members-sizes : (ms : Members) → pair_sizes (members ms) ≡ members_size ms
members-sizes no_members = refl
members-sizes (member k d ms) = ap (λ n. size d + n) (members-sizes ms)

values-sizes : (ms : Members) → sizes (values ms) ≡ members_size ms
values-sizes no_members = refl
values-sizes (member k d ms) = ap (λ n. size d + n) (values-sizes ms)

-- at first all elements, pairs or values are left
pub array_smaller : (xs : List Document) (ds : Elements) (d : Document) → xs ≡ elements ds → d ≡ array ds → sizes xs < size d
array_smaller xs ds d left is = omega (arith, ap sizes left, elements-sizes ds, ap size is)

pub object_smaller : (xs : List (List ℕ × Document)) (ms : Members) (d : Document) → xs ≡ members ms → d ≡ object ms
    → pair_sizes xs < size d
object_smaller xs ms d left is = omega (arith, ap pair_sizes left, members-sizes ms, ap size is)

pub values_smaller : (xs : List Document) (ms : Members) (d : Document) → xs ≡ values ms → d ≡ object ms → sizes xs < size d
values_smaller xs ms d left is = omega (arith, ap sizes left, values-sizes ms, ap size is)

-- the next one, and then the others
pub next_size : (xs ys : List Document) (d : Document) → xs ≡ d ∷ ys → sizes xs ≡ size d + sizes ys
next_size xs ys d is = ap sizes is

pub next_pair_size : (xs ys : List (List ℕ × Document)) (m : List ℕ × Document) → xs ≡ m ∷ ys → pair_sizes xs ≡ size m.1 + pair_sizes ys
next_pair_size xs ys m is = ap pair_sizes is

-- for `using` on a function that recurses over values
pub ruleset walks = (array_smaller, object_smaller, values_smaller, next_size, next_pair_size)
