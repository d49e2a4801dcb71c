-- What a test may be asked of the pairs of an object holds of each pair, and of the others.
use Rattle.std.proofs.Common.{◌≡◌, ◌∙◌, ◌==◌, ℕ, suc, ap, sym, refl, subst, List, length, true, false, Bool, ◌&&◌, Some, Option, arith}
use Rattle.std.specs.Fn.{Shared}
use Rattle.std.specs.List.{IsAmong}
use denote.Ref.{Bor}
use Rattle.simd_json_parts.specs.Document.{Document, object, Members, member, members}
use Rattle.simd_json_parts.specs.MapEquality.{are_in, equals_map, has_distinct_names, is_same}
use Rattle.simd_json_parts.specs.Views.{values}
use Rattle.simd_json.specs.MapCompared.{MayCompare}
use Rattle.simd_json.specs.declared.value.tape.value.Value.{Value}

module _ (ms others : Members) (k : List ℕ) (d : Document) (headed : ms ≡ member k d others) where
  pub first-is-among : IsAmong (values ms) d
  first-is-among = subst (λ x. IsAmong (values x) d) (sym headed) (0, (omega arith, refl))

  pub others-are-among : (e : Document) → IsAmong (values others) e → IsAmong (values ms) e
  others-are-among e at = subst (λ x. IsAmong (values x) e) (sym headed) (suc at.0, (omega (arith, at.1.0), at.1.1))

  pub may-compare-others : {F T : Type 0} (g : Shared F (Bor T × (Bor Value × Unit {0})) Bool) (same : F) (wanted : List T)
      → MayCompare g same wanted ms → MayCompare g same wanted others
  may-compare-others g same wanted may x v in_map in_others = may x v in_map (others-are-among _ in_others)

  -- where the first pair says the same, the others decide
  pub are_in-others : {A : Type 0} (look_up : List ℕ → Option A) (says : A → Document → Bool) (x : A) → look_up k ≡ Some x
      → says x d ≡ true → are_in look_up says others ≡ are_in look_up says ms
  are_in-others look_up says x found same = ap (λ b. b && are_in look_up says others) (sym same)
      ∙ ap (λ o. is_same says d o && are_in look_up says others) (sym found) ∙ ap (are_in look_up says) (sym headed)

-- ---- what tells an object and a map apart

and-false : (a b : Bool) → false ≡ (a && b && false)
and-false true true = refl
and-false true false = refl
and-false false b = refl

module _ {A : Type 0} (look_up : List ℕ → Option A) (size : ℕ) (says : A → Document → Bool) (d : Document) (ms : Members)
    (is : d ≡ object ms) where
  pub differs-in-size : (length (members ms) == size) ≡ false → false ≡ equals_map look_up size says d
  differs-in-size other =
      ap (λ b. b && has_distinct_names ms && are_in look_up says ms) (sym other) ∙ ap (equals_map look_up size says) (sym is)

  pub differs-in-a-pair : are_in look_up says ms ≡ false → false ≡ equals_map look_up size says d
  differs-in-a-pair other = and-false (length (members ms) == size) (has_distinct_names ms)
      ∙ ap (λ b. (length (members ms) == size) && has_distinct_names ms && b) (sym other) ∙ ap (equals_map look_up size says) (sym is)
