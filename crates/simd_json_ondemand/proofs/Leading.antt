-- The steps of a JSON Pointer, over any bytes and over values of documents.
use Rattle.std.proofs.Common.{◌≡◌, ◌≢◌, ◌<◌, ◌≤◌, ◌+◌, ◌∙◌, ◌⊎◌, inl, inr, ap, refl, sym, subst, ℕ, List, [], ◌∷◌, drop, get_or, length}
use Rattle.std.specs.Prelude.{Option, Some, None, Result, Ok, Err, option_map}
use Rattle.std.specs.List.{slice_range}
use Rattle.std.specs.Result.{result_ok}
use Rattle.simd_json_parts.specs.Document.{Document}
use Rattle.simd_json_parts.specs.Followed.{IsTokenAt, tokens_after}
use Rattle.simd_json_parts.specs.Led.{LeadsBy, StopsAt}
use Rattle.simd_json_parts.specs.Pointed.{pointed}
use Rattle.simd_json_parts.proofs.Pointers.Pointed.{stuck-at-token, stuck-without-slash}
use Rattle.simd_json_ondemand.specs.Docs.{doc}
use Rattle.simd_json_ondemand.specs.Reached.{followed_at, named_at, pointed_at, reach_further}
use Rattle.simd_json_ondemand.specs.Sites.{site}
use Rattle.simd_json_ondemand.specs.Stopped.{told}
use Rattle.simd_json_ondemand.specs.Walks.{found}
use Rattle.simd_json_ondemand.specs.declared.unexpected.Expected.TheVariants.{Container}
use Rattle.simd_json_ondemand.specs.declared.value.Value.{Value}
use Rattle.simd_json_ondemand.specs.declared.walk.StoppedAt.{StoppedAt}
use Rattle.simd_json_ondemand.proofs.Pointers.{IsFollowed, IsFollowed-further, IsFollowed-none, led-nowhere, led-there, nowhere}
use Rattle.simd_json_ondemand.proofs.Sites.{is-step, on-all, on-behind, on-nothing, on-token}

abbrev pub Named : Value → List ℕ → Result (Option Value) StoppedAt → Type 0
Named v t found = told (option_map site) found ≡ named_at t (site v)

-- the first i bytes of the pointer lead from v to w
pub record IsLed (p : List ℕ) (v : Value) (i : ℕ) (w : Value) : Type 0 where
  pub led : IsFollowed p v i w
  pub ahead : pointed_at p (site v) ≡ pointed_at (drop i p) (site w)

pub IsLed-further : (p : List ℕ) (v u w : Value) (i e : ℕ) → IsLed p v i u → IsTokenAt p i e
    → Named u (slice_range p (i + 1) e) (Ok (Some w)) → IsLed p v e w
IsLed-further p v u w i e before at step = record {
  led =
      IsFollowed-further p v u w i e before.led at
      (λ d h. (is-step (slice_range p (i + 1) e) u d h (Ok (Some w)) step).finds);
  ahead =
      before.ahead ∙ on-token p i e at (site u) ∙ ap (λ r. reach_further r (followed_at (tokens_after (drop e p)))) (sym step)
      ∙ on-behind p i e at (site w);
}

by-steps : (p : List ℕ) (v : Value) (i : ℕ) (u : Value) (steps : List (ℕ × Value)) (j : ℕ) (w : Value) → IsLed p v i u
    → LeadsBy Named p i u steps j w → IsLed p v j w
by-steps p v i u [] j w before led = subst (λ k. IsLed p v k w) led.0 (subst (λ x. IsLed p v i x) led.1 before)
by-steps p v i u ((e, x) ∷ steps) j w before led =
    by-steps p v e x steps j w (IsLed-further p v u x i e before led.0 led.1) led.2

pub is-led : (p : List ℕ) (v : Value) (steps : List (ℕ × Value)) (j : ℕ) (w : Value) → LeadsBy Named p 0 v steps j w → IsLed p v j w
is-led p v steps j w = by-steps p v 0 v steps j w (record { led = IsFollowed-none p v; ahead = refl })

module _ (p : List ℕ) (v : Value) (i : ℕ) (u : Value) (led : IsLed p v i u) where
  -- to the end of the pointer
  pub walk-there : length p ≤ i → Ok (Some (site u)) ≡ pointed_at p (site v)
  walk-there past = sym (led.ahead ∙ on-all p i (site u) past)

  pub document-there : length p ≤ i → (d : Document) → doc v ≡ Some d
      → Some (doc u) ≡ option_map (λ (e : Document). Some e) (result_ok (pointed p d))
  document-there past = led-there p v u i led.led past

  -- to a token that leads nowhere, or to no token
  module _ (e : ℕ) (at : IsTokenAt p i e) where
    pub walk-at : (found : Result (Option Value) StoppedAt) → Named u (slice_range p (i + 1) e) found
        → pointed_at p (site v) ≡ reach_further (told (option_map site) found) (followed_at (tokens_after (drop e p)))
    walk-at found step =
        led.ahead ∙ on-token p i e at (site u) ∙ ap (λ r. reach_further r (followed_at (tokens_after (drop e p)))) (sym step)

    pub document-at : (r : Result (Option Value) StoppedAt) → found r ≡ None → Named u (slice_range p (i + 1) e) r
        → (d : Document) → doc v ≡ Some d → None ≡ option_map (λ (x : Document). Some x) (result_ok (pointed p d))
    document-at r none step =
        led-nowhere p v u i led.led at.begins.0
        (λ d h. stuck-at-token p i e d at
        (nowhere _ (ap (option_map doc) (sym none) ∙ (is-step (slice_range p (i + 1) e) u d h r step).finds)))

    pub container-at : (s : StoppedAt) → Named u (slice_range p (i + 1) e) (Err s) → (d : Document) → doc v ≡ Some d
        → s.expected ≡ Container
    container-at s step d h =
        let there = led.led d h in
        (is-step (slice_range p (i + 1) e) u there.0 there.1 (Err s) step).container

  pub walk-stops : i < length p → StopsAt Named p i u → Ok None ≡ pointed_at p (site v)
  walk-stops less stops = by (stops less)
    where
      by : (get_or p i 0 ≢ 47) ⊎ ((e : ℕ) × IsTokenAt p i e × Named u (slice_range p (i + 1) e) (Ok None))
          → Ok None ≡ pointed_at p (site v)
      by (inl other) = sym (led.ahead ∙ on-nothing p i (site u) less other)
      by (inr t) = sym (walk-at t.0 t.1 (Ok None) t.2)

  pub document-stops : i < length p → StopsAt Named p i u
      → (d : Document) → doc v ≡ Some d → None ≡ option_map (λ (x : Document). Some x) (result_ok (pointed p d))
  document-stops less stops = by (stops less)
    where
      by : (get_or p i 0 ≢ 47) ⊎ ((e : ℕ) × IsTokenAt p i e × Named u (slice_range p (i + 1) e) (Ok None))
          → (d : Document) → doc v ≡ Some d → None ≡ option_map (λ (x : Document). Some x) (result_ok (pointed p d))
      by (inl other) = led-nowhere p v u i led.led less (λ d h. stuck-without-slash p i d less other)
      by (inr t) = document-at t.0 t.1 (Ok None) refl t.2
