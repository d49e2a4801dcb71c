-- Runs of digits, and words of eight bytes.
use Rattle.std.specs.Prelude.{◌≡◌, ℕ, Bool, not, List, length, map, bit_xor}
use Rattle.std.specs.Char.{is_ascii_digit}
use Rattle.std.specs.Int.Digits.{AllBelowBase}
use Rattle.std.specs.Simd.Lanes.{number_l}

-- where a run of digits ends
abbrev pub is_no_digit : ℕ → Bool
is_no_digit c = not (is_ascii_digit c)

abbrev pub AreEightBytes : List ℕ → Type 0
AreEightBytes bs = (length bs ≡ 8) × AllBelowBase 256 bs

-- bytes as a number, the first lowest: of a digit its value, of another byte 10 or more
abbrev pub word_of : List ℕ → ℕ
word_of bs = number_l 256 (map (λ c. bit_xor c 48) bs)
