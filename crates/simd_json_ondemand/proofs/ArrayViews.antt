-- The array that begins at a value.
use Rattle.std.proofs.Common.{◌≡◌, refl, sym, ◌∙◌, ap, ℕ, ◌+◌, ◌<◌, ◌≤◌, false, List, length, drop, get_or, Some, None, ne_eqb}
use Rattle.std.proofs.lemmas.List.{drop_more, drop_all}
use Rattle.simd_json_parts.specs.Bytes.{byte_at}
use Rattle.simd_json_parts.specs.Document.{Document, array, elements}
use Rattle.simd_json_parts.specs.Views.{as_array, is_array}
use Rattle.simd_json_ondemand.specs.Remaining.{elements_inside}
use Rattle.simd_json_ondemand.specs.Viewed.{read_along}
use Rattle.simd_json_ondemand.proofs.Agreement.{begins-at, array-is}
use Rattle.simd_json_ondemand.proofs.Standing.{opens_array_byte}
use Rattle.simd_json_ondemand.proofs.Sequence.Arrays.{InArray, opened, inside-none}

none-array : (d : Document) → is_array d ≡ false → as_array d ≡ None
none-array (array ds) h = cc
none-array _ h = refl

module _ (b is : List ℕ) (k : ℕ) (l : k < length is) (d : Document) (h : read_along b (drop k is) ≡ Some d) where
  pub no-array : (byte_at b (get_or is k 0) ≡ 91 → ⊥) → as_array d ≡ None
  no-array ne =
      let i : ℕ = get_or is k 0 in
      none-array d (sym (array-is b i d (begins-at b is k l d h)) ∙ sym (opens_array_byte b i) ∙ ne_eqb (byte_at b i) 91 ne)

  module _ (e : byte_at b (get_or is k 0) ≡ 91) where
    pub within : InArray b (drop (k + 1) is) d
    within = opened b (get_or is k 0) (drop (k + 1) is) d e (ap (read_along b) (sym (drop_more is k 0 l)) ∙ h)

    pub no-end : length is ≤ k + 1 → ⊥
    no-end m = inside-none b (elements within.held) (ap (elements_inside b) (sym (drop_all (k + 1) is m)) ∙ within.inside)
