-- The nodes of integers.
use Rattle.std.proofs.Common.{◌≡◌, refl, sym, ◌∙◌, ap, ap₂, ℕ, pos, neg_ℤ, Bool, true, false, nat_le}
use Rattle.std.specs.Prelude.{Some, None}
use Rattle.std.proofs.lemmas.Bool.{cond_both}
use Rattle.std.proofs.Math.IntN.{neg_ℤ-neg_ℤ}
use Rattle.simd_json_parts.specs.Document.{integer}
use Rattle.simd_json_parts.specs.Integers.{number_of, max_magnitude_64, integer_node}
use Rattle.simd_json_parts.specs.StaticNodes.{truth_of, number_in}
use Rattle.simd_json_parts.specs.declared.node.StaticNode.{StaticNode}
use Rattle.simd_json_parts.specs.declared.node.StaticNode.TheVariants as fixed

-- What holds of each kind holds of an integer's node.
pub of-integer_node : (P : Bool → ℕ → StaticNode → Type 0) → ((n : ℕ) → P true n (fixed.I64 (number_of true n)))
    → ((n : ℕ) → P false n (fixed.U64 n))
    → ((n : ℕ) → P true n (fixed.I128 (number_of true n))) → ((n : ℕ) → P false n (fixed.U128 n)) → (minus : Bool) (n : ℕ)
    → P minus n (integer_node minus n)
of-integer_node P i64 u64 i128 u128 true n = cond_both (nat_le n (max_magnitude_64 true)) _ _ (P true n) (λ _. i64 n) (λ _. i128 n)
of-integer_node P i64 u64 i128 u128 false n = cond_both (nat_le n (max_magnitude_64 false)) _ _ (P false n) (λ _. u64 n) (λ _. u128 n)

pub number_in-integer_node : (minus : Bool) (n : ℕ) → number_in (integer_node minus n) ≡ Some (number_of minus n)
number_in-integer_node =
    of-integer_node (λ minus n s. number_in s ≡ Some (number_of minus n)) (λ n. refl) (λ n. refl) (λ n. refl) (λ n. refl)

pub truth_of-integer_node : (minus : Bool) (n : ℕ) → truth_of (integer_node minus n) ≡ None
truth_of-integer_node = of-integer_node (λ minus n s. truth_of s ≡ None) (λ n. refl) (λ n. refl) (λ n. refl) (λ n. refl)

-- ---- it is of one integer

abbrev has_sign : StaticNode → Bool
has_sign (fixed.I64 z) = true
has_sign (fixed.I128 z) = true
has_sign _ = false

has_sign-integer_node : (minus : Bool) (n : ℕ) → has_sign (integer_node minus n) ≡ minus
has_sign-integer_node = of-integer_node (λ minus n s. has_sign s ≡ minus) (λ n. refl) (λ n. refl) (λ n. refl) (λ n. refl)

-- Numbers with one negative are the same.
neg_ℤ_cancel : (m n : ℕ) → neg_ℤ (pos m) ≡ neg_ℤ (pos n) → m ≡ n
neg_ℤ_cancel m n e = let same : pos m ≡ pos n = sym (neg_ℤ-neg_ℤ (pos m)) ∙ ap neg_ℤ e ∙ neg_ℤ-neg_ℤ (pos n) in cc

number_of_cancel : (minus : Bool) (m n : ℕ) → Some (number_of minus m) ≡ Some (number_of minus n) → m ≡ n
number_of_cancel true m n e = neg_ℤ_cancel m n (cc)
number_of_cancel false m n e = cc

pub integer_node_cancel : (minus minus' : Bool) (m n : ℕ) → integer_node minus m ≡ integer_node minus' n
    → integer minus m ≡ integer minus' n
integer_node_cancel minus minus' m n e =
    let sign : minus ≡ minus' = sym (has_sign-integer_node minus m) ∙ ap has_sign e ∙ has_sign-integer_node minus' n in
    let number : Some (number_of minus m) ≡ Some (number_of minus' n) =
    sym (number_in-integer_node minus m) ∙ ap number_in e ∙ number_in-integer_node minus' n in
    ap₂ integer sign (number_of_cancel minus m n (number ∙ ap (λ t. Some (number_of t n)) (sym sign)))
