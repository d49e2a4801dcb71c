-- No digit follows a zero that begins a number.
use Rattle.std.proofs.Common.{◌≡◌, refl, ◌∙◌, ap, ℕ, List, ◌∷◌, true}
use Rattle.std.proofs.lemmas.Bool.{both_ways}
use Rattle.std.specs.Char.{is_ascii_digit}
use Rattle.simd_json_parts.specs.Derivatives.{derivative, matches}
use Rattle.simd_json_parts.specs.Numbers.{number_literal}
use Rattle.simd_json_parts.specs.Patterns.{never, Matches}
use Rattle.simd_json_scalars.proofs.Numbers.Steps.{no_digit}
use Rattle.simd_json_parts.proofs.Patterns.Sets.{Matches-matches, matches-never}

-- what may follow the zero, at a digit
no_more : (x : ℕ) → is_ascii_digit x ≡ true → derivative x (derivative 48 number_literal) ≡ never
no_more x h = rw (no_digit 46 x h refl, no_digit 69 x h refl, no_digit 101 x h refl) refl

no_more-signed : (x : ℕ) → is_ascii_digit x ≡ true → derivative x (derivative 48 (derivative 45 number_literal)) ≡ never
no_more-signed x h = rw (no_digit 46 x h refl, no_digit 69 x h refl, no_digit 101 x h refl) refl

pub zero-alone : (x : ℕ) (bs : List ℕ) → is_ascii_digit x ≡ true → Matches number_literal (48 ∷ x ∷ bs) → ⊥
zero-alone x bs h m = both_ways (matches number_literal (48 ∷ x ∷ bs)) (ap (λ p. matches p bs) (no_more x h) ∙ matches-never bs)
    (Matches-matches number_literal (48 ∷ x ∷ bs) m)

pub zero-alone-signed : (x : ℕ) (bs : List ℕ) → is_ascii_digit x ≡ true → Matches number_literal (45 ∷ 48 ∷ x ∷ bs) → ⊥
zero-alone-signed x bs h m =
    both_ways (matches number_literal (45 ∷ 48 ∷ x ∷ bs)) (ap (λ p. matches p bs) (no_more-signed x h) ∙ matches-never bs)
    (Matches-matches number_literal (45 ∷ 48 ∷ x ∷ bs) m)
