-- An integer to the end of the bytes, from what a reader of numbers returns.
use Rattle.std.proofs.Common.{◌≡◌, refl, sym, ◌∙◌, ap, ℕ, ◌+◌, ◌%◌, ◌/◌, ◌^◌, List, length, Bool, inl, arith, pos, Result, Ok, Err}
use Rattle.simd_json_parts.specs.Document.{Document, integer}
use Rattle.simd_json_parts.specs.Integers.{integer_node}
use Rattle.simd_json_parts.specs.declared.error.Error.{Error}
use Rattle.simd_json_parts.specs.declared.node.StaticNode.{StaticNode}
use Rattle.simd_json_parts.specs.declared.node.StaticNode.TheVariants as fixed
use Rattle.simd_json_scalars.specs.NumberRead.{IsNumberAt}
use Rattle.simd_json_scalars.specs.declared.numberparse.Number.{Number}
use Rattle.simd_json_scalars.specs.declared.numberparse.Number.TheVariants.{Integer, Decimal, Invalid}
use Rattle.simd_json_c.specs.Integers.{IsIntegerText, IsIntegerPut, bits_of}

-- where it ends; its node; whether it is an integer
abbrev end_of : Result (Document × ℕ) Error → ℕ
end_of (Ok p) = p.1
end_of (Err e) = 0

abbrev integer_in : Document → StaticNode
integer_in (integer minus n) = integer_node minus n
integer_in d = fixed.Null

abbrev node_of : Result (Document × ℕ) Error → StaticNode
node_of (Ok p) = integer_in p.0
node_of (Err e) = fixed.Null

abbrev is_one : Document → ℕ
is_one (integer minus n) = 1
is_one d = 0

abbrev one_of : Result (Document × ℕ) Error → ℕ
one_of (Ok p) = is_one p.0
one_of (Err e) = 0

module _ (b : List ℕ) where
  pub not-integer : (r : Number) → IsNumberAt b 0 r → ((node : StaticNode) (len : ℕ) → r ≡ Integer node len → ⊥)
      → (minus : Bool) (n : ℕ) → IsIntegerText b minus n → ⊥
  not-integer (Integer node len) read never minus n is = never node len refl
  not-integer (Decimal len) read never minus n is = let e : 0 ≡ 1 = ap one_of (sym read ∙ is) in omega (arith, e)
  not-integer (Invalid offset) read never minus n is = let e : 0 ≡ 1 = ap one_of (sym read ∙ is) in omega (arith, e)

  pub whole-len : (node : StaticNode) (len : ℕ) → IsNumberAt b 0 (Integer node len)
      → (minus : Bool) (n : ℕ) → IsIntegerText b minus n → len ≡ length b
  whole-len node len (m, k, read, same) minus n is =
      let e : 0 + len ≡ length b = ap end_of (sym read ∙ is) in omega (arith, e)

  pub whole-node : (node : StaticNode) (len : ℕ) → IsNumberAt b 0 (Integer node len)
      → (minus : Bool) (n : ℕ) → IsIntegerText b minus n → node ≡ integer_node minus n
  whole-node node len (m, k, read, same) minus n is = same ∙ ap node_of (sym read ∙ is)

  pub put : (node : StaticNode) (len bits low high : ℕ) → IsNumberAt b 0 (Integer node len) → len ≡ length b → bits ≡ bits_of node
      → IsIntegerPut b (pos 0) low (bits % 2 ^ 64) high (bits / 2 ^ 64)
  put node len bits low high (minus, n, read, same) whole are =
      let end : 0 + len ≡ length b = omega (arith, whole) in
      let bits-are : bits ≡ bits_of (integer_node minus n) = are ∙ ap bits_of same in
      inl (minus, n, read ∙ ap (λ k. Ok (integer minus n, k)) end, refl, ap (λ m. m % 2 ^ 64) bits-are, ap (λ m. m / 2 ^ 64) bits-are)
