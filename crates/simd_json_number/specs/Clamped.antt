-- An integer between two bounds.
use Rattle.std.specs.Prelude.{◌^◌, ◌≤ℤ◌, ℤ, pos, neg_ℤ}
use Rattle.std.specs.Int.{int_max, int_min}

abbrev pub limit : ℤ
limit = pos (2 ^ 80)

abbrev pub clamped : ℤ → ℤ
clamped z = int_max (neg_ℤ limit) (int_min z limit)

-- at most so far from 0
pub record IsWithin (bound z : ℤ) : Type 0 where
  pub low : neg_ℤ bound ≤ℤ z
  pub high : z ≤ℤ bound
