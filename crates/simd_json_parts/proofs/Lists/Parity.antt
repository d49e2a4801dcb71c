-- Parity, one number further.
use Rattle.std.proofs.Common.{◌≡◌, sym, ◌∙◌, ap, ℕ, suc, ◌%◌, ◌≢◌, inl, inr, not, arith}
use Rattle.std.proofs.lemmas.Bool.{cases_Bool, eqb-true, eq-eqb, ne_eqb, eqb-false}
use Rattle.simd_json_parts.specs.Positions.{is_even}

pub is_even-suc : (n : ℕ) → is_even (suc n) ≡ not (is_even n)
is_even-suc n =
    elim (cases_Bool (is_even n)) [
      | inl e ↦ ne_eqb (suc n % 2) 0 (λ h. omega (arith, eqb-true (n % 2) 0 e)) ∙ sym (ap not e)
      | inr e ↦ let odd : n % 2 ≢ 0 = eqb-false (n % 2) 0 e in eq-eqb (suc n % 2) 0 (omega arith) ∙ sym (ap not e)
    ]
