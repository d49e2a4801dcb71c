-- Words of 64 bits, one bit at a time. It serves proofs: only the crate's private clauses cite it.
use Rattle.std.specs.Prelude.{◌≡◌, ℕ, zero, suc, ◌+◌, ◌-◌, ◌^◌, ◌<◌, ◌≤◌, ◌==◌, List, map, filter, Bool, true, false, not, ◌&&◌}
use Rattle.std.specs.Int.{bit_at}
use Rattle.std.specs.List.{range_with_len}

-- bit i of x, of which bit 0 is the lowest
unfoldable pub is_set : ℕ → ℕ → Bool
is_set x i = bit_at x i == 1

-- x is a word, and bit i of it is set just where p i is true
pub record HasBits (x : ℕ) (p : ℕ → Bool) : Type 0 where
  pub small : x < 2 ^ 64
  pub bits : (i : ℕ) → i < 64 → is_set x i ≡ p i

-- word y has at its front the last `len` bits of word x, and no other
pub record HasLastBits (len x y : ℕ) : Type 0 where
  pub small : y < 2 ^ 64
  pub front : (i : ℕ) → i < len → is_set y i ≡ is_set x (64 - len + i)
  pub behind : (i : ℕ) → len ≤ i → i < 64 → is_set y i ≡ false

-- base + i for each bit i below n that is set, in increasing order
unfoldable pub set_bits : ℕ → ℕ → ℕ → List ℕ
set_bits n base x = map (λ i. base + i) (filter (is_set x) (range_with_len 0 n))

abbrev pub xor : Bool → Bool → Bool
xor true t = not t
xor false t = t

-- of the bits below place i, an odd number is set
unfoldable pub parity : ℕ → ℕ → Bool
parity x zero = false
parity x (suc i) = xor (parity x i) (is_set x i)

-- whether the byte at place i is escaped, where x has a bit for each backslash, and the byte at place 0 is escaped if c says so
unfoldable pub escaped_in : Bool → ℕ → ℕ → Bool
escaped_in c x zero = c
escaped_in c x (suc i) = is_set x i && not (escaped_in c x i)
