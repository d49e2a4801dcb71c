-- What is put of the number of a node, by the node's kind.
use Rattle.std.proofs.Common.{◌≡◌, ◌∙◌, ap, subst, ℕ, ◌≤◌, ◌<◌, ◌⊎◌, ◌^◌, inl, inr, List, true, false, arith, ℤ, pos, FitsSigned}
use Rattle.std.specs.Float.{binary64}
use Rattle.std.specs.Float.Ieee.{Float}
use Rattle.std.specs.Int.{cast_signed, w64}
use Rattle.std.proofs.lemmas.Bool.{cases_lt}
use Rattle.std.proofs.lemmas.Int.{to_z-of_z}
use lib.Ieee.{of_int}
use Rattle.simd_json_parts.specs.Nodes.{Item, static_item, decimal_item, string_item, array_item, object_item}
use Rattle.simd_json_parts.specs.declared.node.StaticNode.TheVariants as fixed
use Rattle.simd_json_c.specs.Doubles.{IsDoublePut}
use Rattle.simd_json_c.specs.Numbers.{IsInt64Put, IsNotPut, IsNumberPut, IsPut}
use Rattle.simd_json_c.specs.Placed.{IsNodeOf}
use Rattle.simd_json_c.specs.Printable.{IsPartAt}
use Rattle.simd_json_c.specs.Statuses.{invalid_number, no_value_status}
use Rattle.simd_json_c.specs.declared.cells.Cell.{Cell}
use Rattle.simd_json_c.proofs.Printing.{part-at}

module _ (text : List ℕ) (node : Cell) (status : ℤ) where
  signed-of : (z : ℤ) (is : IsNodeOf text node (static_item (fixed.I64 z))) → FitsSigned w64 z → cast_signed w64 node.value ≡ z
  signed-of z is fits = ap (cast_signed w64) (ap (λ (n : Cell). n.value) is.node_is) ∙ to_z-of_z w64 z fits

  pub number-put : (old new : Float) (x : Item) → IsNodeOf text node x
      → (node.kind ≡ 2 → IsPut (of_int binary64 (cast_signed w64 node.value)) status new)
      → (node.kind ≡ 3 → IsPut (of_int binary64 (pos node.value)) status new)
      → (4 ≤ node.kind → node.kind ≤ 6 → (part : List ℕ) → IsPartAt text node.value node.len part → IsDoublePut part status old new)
      → ((node.kind < 2) ⊎ (6 < node.kind) → IsNotPut no_value_status status old new)
      → IsNumberPut x status old new
  number-put old new (static_item fixed.Null) is signed unsigned literal other =
      other (inl (omega (arith, ap (λ (n : Cell). n.kind) is.node_is)))
  number-put old new (static_item (fixed.Bool false)) is signed unsigned literal other =
      other (inl (omega (arith, ap (λ (n : Cell). n.kind) is.node_is)))
  number-put old new (static_item (fixed.Bool true)) is signed unsigned literal other =
      other (inl (omega (arith, ap (λ (n : Cell). n.kind) is.node_is)))
  number-put old new (static_item (fixed.I64 z)) is signed unsigned literal other =
      λ fits. (let put = signed (ap (λ (n : Cell). n.kind) is.node_is) in (put.0, put.1 ∙ ap (of_int binary64) (signed-of z is fits)))
  number-put old new (static_item (fixed.U64 n)) is signed unsigned literal other =
      (let put = unsigned (ap (λ (n : Cell). n.kind) is.node_is) in
      (put.0, put.1 ∙ ap (λ m. of_int binary64 (pos m)) (ap (λ (n : Cell). n.value) is.node_is)))
  number-put old new (static_item (fixed.I128 z)) is signed unsigned literal other =
      let kind = ap (λ (n : Cell). n.kind) is.node_is in
      let part = part-at text node (static_item fixed.Null) _ is (ap (λ (n : Cell). n.len) is.node_is) (ap (λ (n : Cell). n.value) is.node_is) in
      (is.part, is.is_text, literal (omega (arith, kind)) (omega (arith, kind)) is.part part)
  number-put old new (static_item (fixed.U128 n)) is signed unsigned literal other =
      let kind = ap (λ (n : Cell). n.kind) is.node_is in
      let part = part-at text node (static_item fixed.Null) _ is (ap (λ (n : Cell). n.len) is.node_is) (ap (λ (n : Cell). n.value) is.node_is) in
      (is.part, is.is_text, literal (omega (arith, kind)) (omega (arith, kind)) is.part part)
  number-put old new (decimal_item t) is signed unsigned literal other =
      let kind = ap (λ (n : Cell). n.kind) is.node_is in
      let part = part-at text node (static_item fixed.Null) _ is (ap (λ (n : Cell). n.len) is.node_is) (ap (λ (n : Cell). n.value) is.node_is) in
      subst (λ p. IsDoublePut p status old new) is.is_text (literal (omega (arith, kind)) (omega (arith, kind)) is.part part)
  number-put old new (string_item t) is signed unsigned literal other =
      other (inr (omega (arith, ap (λ (n : Cell). n.kind) is.node_is)))
  number-put old new (array_item m n) is signed unsigned literal other =
      other (inr (omega (arith, ap (λ (n : Cell). n.kind) is.node_is)))
  number-put old new (object_item m n) is signed unsigned literal other =
      other (inr (omega (arith, ap (λ (n : Cell). n.kind) is.node_is)))

  great : (old new : ℤ) (n : ℕ) → (n < 2 ^ 63) ⊎ (2 ^ 63 ≤ n) → (n < 2 ^ 63 → IsPut (pos n) status new)
      → (2 ^ 63 ≤ n → IsNotPut invalid_number status old new) → IsInt64Put (static_item (fixed.U64 n)) status old new
  great old new n (inl less) few many = inl (less, few less)
  great old new n (inr more) few many = inr (more, many more)

  pub int64-put : (old new : ℤ) (x : Item) → IsNodeOf text node x
      → (node.kind ≡ 2 → IsPut (cast_signed w64 node.value) status new)
      → (node.kind ≡ 3 → node.value < 2 ^ 63 → IsPut (pos node.value) status new)
      → (node.kind ≡ 3 → 2 ^ 63 ≤ node.value → IsNotPut invalid_number status old new)
      → (4 ≤ node.kind → node.kind ≤ 6 → IsNotPut invalid_number status old new)
      → ((node.kind < 2) ⊎ (6 < node.kind) → IsNotPut no_value_status status old new)
      → IsInt64Put x status old new
  int64-put old new (static_item fixed.Null) is signed few many literal other =
      other (inl (omega (arith, ap (λ (n : Cell). n.kind) is.node_is)))
  int64-put old new (static_item (fixed.Bool false)) is signed few many literal other =
      other (inl (omega (arith, ap (λ (n : Cell). n.kind) is.node_is)))
  int64-put old new (static_item (fixed.Bool true)) is signed few many literal other =
      other (inl (omega (arith, ap (λ (n : Cell). n.kind) is.node_is)))
  int64-put old new (static_item (fixed.I64 z)) is signed few many literal other =
      λ fits. (let put = signed (ap (λ (n : Cell). n.kind) is.node_is) in (put.0, put.1 ∙ signed-of z is fits))
  int64-put old new (static_item (fixed.U64 n)) is signed few many literal other =
      great old new n (cases_lt n (2 ^ 63))
      (λ less. (let put = few (ap (λ (n : Cell). n.kind) is.node_is) (omega (arith, less, ap (λ (n : Cell). n.value) is.node_is)) in
      (put.0, put.1 ∙ ap (λ m. pos m) (ap (λ (n : Cell). n.value) is.node_is))))
      (λ more. many (ap (λ (n : Cell). n.kind) is.node_is) (omega (arith, more, ap (λ (n : Cell). n.value) is.node_is)))
  int64-put old new (static_item (fixed.I128 z)) is signed few many literal other =
      literal (omega (arith, ap (λ (n : Cell). n.kind) is.node_is)) (omega (arith, ap (λ (n : Cell). n.kind) is.node_is))
  int64-put old new (static_item (fixed.U128 n)) is signed few many literal other =
      literal (omega (arith, ap (λ (n : Cell). n.kind) is.node_is)) (omega (arith, ap (λ (n : Cell). n.kind) is.node_is))
  int64-put old new (decimal_item t) is signed few many literal other =
      literal (omega (arith, ap (λ (n : Cell). n.kind) is.node_is)) (omega (arith, ap (λ (n : Cell). n.kind) is.node_is))
  int64-put old new (string_item t) is signed few many literal other =
      other (inr (omega (arith, ap (λ (n : Cell). n.kind) is.node_is)))
  int64-put old new (array_item m n) is signed few many literal other =
      other (inr (omega (arith, ap (λ (n : Cell). n.kind) is.node_is)))
  int64-put old new (object_item m n) is signed few many literal other =
      other (inr (omega (arith, ap (λ (n : Cell). n.kind) is.node_is)))
