-- The steps of a JSON Pointer over the values of a tape.
use Rattle.std.proofs.Common.{◌≡◌, ◌≢◌, ◌<◌, ◌+◌, ◌∙◌, ◌⊎◌, inl, inr, ap, sym, ℕ, List, [], ◌∷◌, drop, get_or, length}
use Rattle.std.specs.Prelude.{Option, None, Result, IfOk, option_map}
use Rattle.std.specs.List.{slice_range}
use Rattle.std.specs.Result.{result_ok}
use Rattle.std.specs.declared.convert.Infallible.{Infallible}
use Rattle.simd_json_parts.specs.Followed.{IsTokenAt, first_step}
use Rattle.simd_json_parts.specs.Led.{LeadsBy, StopsAt}
use Rattle.simd_json_parts.specs.Pointed.{named, pointed_from}
use Rattle.simd_json_parts.proofs.Pointers.Pointed.{further, stuck-at-token, stuck-without-slash}
use Rattle.simd_json.specs.Viewed.{doc}
use Rattle.simd_json.specs.declared.value.tape.value.Value.{Value}

abbrev pub Named : Value → List ℕ → Result (Option Value) Infallible → Type 0
Named v token found = IfOk found (λ o. option_map doc o ≡ result_ok (named token (doc v)))

module _ (p : List ℕ) where
  pub led : (i : ℕ) (v : Value) (steps : List (ℕ × Value)) (j : ℕ) (w : Value) → LeadsBy Named p i v steps j w
      → pointed_from i (drop i p) (doc v) ≡ pointed_from j (drop j p) (doc w)
  led i v [] j w is = ap (λ k. pointed_from k (drop k p) (doc v)) is.0 ∙ ap (λ x. pointed_from j (drop j p) (doc x)) is.1
  led i v ((e, u) ∷ steps) j w is = further p i e (doc v) (doc u) is.0 (sym is.1) ∙ led e u steps j w is.2

  pub stopped : (i : ℕ) (v : Value) → StopsAt Named p i v → i < length p → result_ok (first_step (drop i p) (doc v)) ≡ None
  stopped i v stops less = by (stops less)
    where
      by : (get_or p i 0 ≢ 47) ⊎ ((e : ℕ) × IsTokenAt p i e × (option_map doc None ≡ result_ok (named (slice_range p (i + 1) e) (doc v))))
          → result_ok (first_step (drop i p) (doc v)) ≡ None
      by (inl other) = stuck-without-slash p i (doc v) less other
      by (inr t) = stuck-at-token p i t.0 (doc v) t.1 (sym t.2)
