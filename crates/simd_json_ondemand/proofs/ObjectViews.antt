-- The object that begins at a value.
use Rattle.std.proofs.Common.{◌≡◌, refl, sym, ◌∙◌, ap, ℕ, ◌+◌, ◌<◌, ◌≤◌, false, List, length, drop, get_or, Some, None, ne_eqb}
use Rattle.std.proofs.lemmas.List.{drop_more, drop_all}
use Rattle.simd_json_parts.specs.Bytes.{byte_at}
use Rattle.simd_json_parts.specs.Document.{Document, object, members}
use Rattle.simd_json_parts.specs.Views.{as_object, is_object}
use Rattle.simd_json_ondemand.specs.Remaining.{members_inside}
use Rattle.simd_json_ondemand.specs.Viewed.{read_along}
use Rattle.simd_json_ondemand.proofs.Agreement.{begins-at, object-is}
use Rattle.simd_json_ondemand.proofs.Standing.{opens_object_byte}
use Rattle.simd_json_ondemand.proofs.Sequence.Objects.{InObject, opened, inside-none}

none-object : (d : Document) → is_object d ≡ false → as_object d ≡ None
none-object (object ms) h = cc
none-object _ h = refl

module _ (b is : List ℕ) (k : ℕ) (l : k < length is) (d : Document) (h : read_along b (drop k is) ≡ Some d) where
  pub no-object : (byte_at b (get_or is k 0) ≡ 123 → ⊥) → as_object d ≡ None
  no-object ne =
      let i : ℕ = get_or is k 0 in
      none-object d (sym (object-is b i d (begins-at b is k l d h)) ∙ sym (opens_object_byte b i) ∙ ne_eqb (byte_at b i) 123 ne)

  module _ (e : byte_at b (get_or is k 0) ≡ 123) where
    pub within : InObject b (drop (k + 1) is) d
    within = opened b (get_or is k 0) (drop (k + 1) is) d e (ap (read_along b) (sym (drop_more is k 0 l)) ∙ h)

    pub no-end : length is ≤ k + 1 → ⊥
    no-end m = inside-none b (members within.held) (ap (members_inside b) (sym (drop_all (k + 1) is m)) ∙ within.inside)
