-- An accessor and its `try_` form agree, also at a key.
use Rattle.std.proofs.Common.{◌≡◌, ℕ, List, Some, None, Ok, Err}
use Rattle.std.specs.Prelude.{◌↔◌, Option, ok_or, option_and_then}
use Rattle.simd_json_parts.specs.Accessors.{Accessor, as_t, try_as_t, get_t, try_get_t}
use Rattle.simd_json_parts.specs.Document.{Document, object}
use Rattle.simd_json_parts.specs.Views.{first_with, mismatch, ok_map, try_at}
use Rattle.simd_json_parts.specs.declared.node.TryTypeError.{TryTypeError}

module _ {A : Type 0} where
  value-or : (o : Option A) (e : TryTypeError) (x : A) → (ok_or o e ≡ Ok x) ↔ (o ≡ Some x)
  value-or (Some y) e x = (λ h. cc, λ h. cc)
  value-or None e x = (λ h. cc, λ h. cc)

  some-or : (o : Option A) (e : TryTypeError) (x : A) → (ok_map (λ y. Some y) (ok_or o e) ≡ Ok (Some x)) ↔ (o ≡ Some x)
  some-or (Some y) e x = (λ h. cc, λ h. cc)
  some-or None e x = (λ h. cc, λ h. cc)

  pub value : (t : Accessor A) (d : Document) (x : A) → (try_as_t t d ≡ Ok x) ↔ (as_t t d ≡ Some x)
  value t d x = value-or (t.answer d) (mismatch t.expected d) x

  pub rejected : (t : Accessor A) (d : Document) → as_t t d ≡ None → try_as_t t d ≡ Err (mismatch t.expected d)
  rejected t d none = rw none

  at_first : (t : Accessor A) (found : Option Document) (x : A) → (try_at (try_as_t t) found ≡ Ok (Some x))
      ↔ (option_and_then t.answer found ≡ Some x)
  at_first t (Some d) x = some-or (t.answer d) (mismatch t.expected d) x
  at_first t None x = (λ h. cc, λ h. cc)

  pub at_key : (t : Accessor A) (key : List ℕ) (d : Document) (x : A) → (try_get_t t key d ≡ Ok (Some x)) ↔ (get_t t key d ≡ Some x)
  at_key t key (object ms) x = at_first t (first_with key ms) x
  at_key t key _ x = (λ h. cc, λ h. cc)
