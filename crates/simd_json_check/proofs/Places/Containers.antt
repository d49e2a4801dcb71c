-- The containers that are open, as a scan of an input from the left counts them.
use Rattle.std.proofs.Common.{◌≡◌, ◌∙◌, refl, sym, ap, arith, ℕ, zero, suc, ◌+◌, ◌-◌, ◌≤◌, List, Some, None, nat_lt}
use Rattle.std.proofs.Common.{Bool, true, false, not, ◌==◌, ◌||◌, if◌then◌else◌}
use Rattle.simd_json_check.specs.Openings.{last_below, open_after, open_before}
use Rattle.simd_json_parts.specs.Bytes.{byte_at, left_brace, left_bracket, right_brace, right_bracket}
use Rattle.simd_json_parts.specs.Positions.{is_inside}

after-few : (c n : ℕ) → open_after c n ≤ suc n
after-few c n = elim ((c == left_bracket) || (c == left_brace)) as (λ t. (if t then suc n
    else if (c == right_bracket) || (c == right_brace) then n - 1 else n) ≤ suc n) [
      | true ↦ omega arith
      | false ↦ elim ((c == right_bracket) || (c == right_brace)) as (λ t. (if t then n - 1 else n) ≤ suc n) [
        | true ↦ omega arith
        | false ↦ omega arith
      ]
    ]

-- no more are open than bytes are passed
pub open-few : (b : List ℕ) (i : ℕ) → open_before b i ≤ i
unfolding open_before
open-few b zero = omega arith
open-few b (suc i) = elim (is_inside b i) as (λ t. (if t then open_before b i else open_after (byte_at b i) (open_before b i)) ≤ suc i) [
  | true ↦ omega (arith, open-few b i)
  | false ↦ omega (arith, open-few b i, after-few (byte_at b i) (open_before b i))
]

pub flip : (x t : Bool) → not x ≡ t → x ≡ not t
flip true t e = ap not e
flip false t e = ap not e

pub open-none : (b : List ℕ) → open_before b 0 ≡ 0
unfolding open_before
open-none b = refl

pub below-none : (b : List ℕ) (n : ℕ) → last_below b n 0 ≡ None
unfolding last_below
below-none b n = refl

module _ (b : List ℕ) (i : ℕ) where
  next : suc i ≡ i + 1
  next = omega arith

  pub open-same : is_inside b i ≡ true → open_before b (i + 1) ≡ open_before b i
  unfolding open_before
  open-same is =
      ap (open_before b) (sym next) ∙ ap (λ t. if t then open_before b i else open_after (byte_at b i) (open_before b i)) is

  pub open-next : is_inside b i ≡ false → open_before b (i + 1) ≡ open_after (byte_at b i) (open_before b i)
  unfolding open_before
  open-next is =
      ap (open_before b) (sym next) ∙ ap (λ t. if t then open_before b i else open_after (byte_at b i) (open_before b i)) is

  pub below-here : (n : ℕ) → nat_lt (open_before b i) n ≡ true → last_below b n (i + 1) ≡ Some i
  unfolding last_below
  below-here n is = ap (last_below b n) (sym next) ∙ ap (λ t. if t then Some i else last_below b n i) is

  pub below-before : (n : ℕ) → nat_lt (open_before b i) n ≡ false → last_below b n (i + 1) ≡ last_below b n i
  unfolding last_below
  below-before n is = ap (last_below b n) (sym next) ∙ ap (λ t. if t then Some i else last_below b n i) is
