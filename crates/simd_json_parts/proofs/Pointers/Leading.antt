-- Steps along a JSON Pointer, and one more.
use Rattle.std.proofs.Common.{◌+◌, ℕ, List, [], ◌∷◌, ◌++◌, Option, Some, Result, Ok, refl, subst, sym}
use Rattle.std.specs.List.{slice_range}
use Rattle.simd_json_parts.specs.Followed.{IsTokenAt}
use Rattle.simd_json_parts.specs.Led.{LeadsBy, LeadsTo}

module _ {V E : Type 0} (names : V → List ℕ → Result (Option V) E → Type 0) (p : List ℕ) where
  one-more : (i : ℕ) (v : V) (steps : List (ℕ × V)) (j e : ℕ) (u w : V) → LeadsBy names p i v steps j u → IsTokenAt p j e
      → names u (slice_range p (j + 1) e) (Ok (Some w)) → LeadsBy names p i v (steps ++ (e, w) ∷ []) e w
  one-more i v [] j e u w led at next =
      let same : IsTokenAt p i e = subst (λ k. IsTokenAt p k e) (sym led.0) at in (
        same,
        subst (λ k. names v (slice_range p (k + 1) e) (Ok (Some w))) (sym led.0)
            (subst (λ x. names x (slice_range p (j + 1) e) (Ok (Some w))) (sym led.1) next),
        (refl, refl),
      )
  one-more i v ((k, x) ∷ steps) j e u w led at next = (led.0, led.1, one-more k x steps j e u w led.2 at next)

  pub leads-further : (v : V) (j e : ℕ) (u w : V) → LeadsTo names p v j u → IsTokenAt p j e
      → names u (slice_range p (j + 1) e) (Ok (Some w)) → LeadsTo names p v e w
  leads-further v j e u w led at next = (at.within.1, (led.1.0 ++ (e, w) ∷ [], one-more 0 v led.1.0 j e u w led.1.1 at next))
