-- Eight bytes as a word: their lanes, and how many digits come first.
use Rattle.std.proofs.Common.{◌≡◌, refl, sym, ◌∙◌, ap, ap₂, ℕ, zero, suc, ◌+◌, ◌*◌, ◌/◌, ◌%◌, ◌^◌, ◌<◌, ◌≤◌, lit<, List, [], ◌∷◌}
use Rattle.std.proofs.Common.{length, take, drop, get_or, Bool, true, false, cond, eqb, bit_and, bit_or, bit_xor, drop-cons}
use Rattle.std.proofs.Common.{length-drop, add-zero, add-suc, arith}
use Rattle.std.specs.Char.{is_ascii_digit}
use Rattle.std.specs.Int.Digits.{AllBelowBase}
use Rattle.std.specs.List.{prefix_len}
use Rattle.std.proofs.Math.Arith.{digits_div, digits_mod, mod-mul}
use Rattle.std.proofs.Math.Nat.{pow-suc}
use Rattle.std.proofs.lemmas.Bool.{agree_below_at, eqb-true, cond-false}
use Rattle.std.proofs.lemmas.List.{length-take-le}
use Rattle.std.proofs.lemmas.Nat.{and_block, or_block, xor_block, or_lt, xor_lt}
use lib.Count.{count_trailing_zeros}
use lib.Lanes.{number_l}
use Rattle.simd_json_parts.specs.Bytes.{byte_at}
use Rattle.simd_json_scalars.specs.DigitRuns.{AreEightBytes, word_of}

abbrev pub lane : ℕ → ℕ
lane c = bit_xor c 48

pub positive : (n : ℕ) → 0 < 256 ^ n
positive zero = omega arith
positive (suc n) = omega (arith, pow-suc 256 n, positive n)

-- ---- the lanes of eight bytes of a list

-- n bytes from i + k on
abbrev from : List ℕ → ℕ → ℕ → ℕ → ℕ
from bs i k zero = 0
from bs i k (suc n) = get_or bs (i + k) 0 + 256 * from bs i (suc k) n

spelt : (bs : List ℕ) (i k n : ℕ) → i + k + n ≤ length bs → number_l 256 (take n (drop (i + k) bs)) ≡ from bs i k n
spelt bs i k zero h = refl
spelt bs i k (suc n) h =
    let rest : number_l 256 (take n (drop (suc (i + k)) bs)) ≡ from bs i (suc k) n = rw (← add-suc) (spelt bs i (suc k) n (omega arith)) in
    ap (λ l. number_l 256 (take (suc n) l)) (drop-cons bs (i + k) 0 (omega arith)) ∙ ap (λ m. get_or bs (i + k) 0 + 256 * m) rest

abbrev zeros : ℕ → ℕ
zeros zero = 0
zeros (suc n) = 48 + 256 * zeros n

lanes : (n : ℕ) (bs : List ℕ) → length bs ≡ n → AllBelowBase 256 bs → bit_xor (number_l 256 bs) (zeros n) ≡ word_of bs
lanes zero [] e h = refl
lanes zero (c ∷ bs) e h = absurd (omega arith)
lanes (suc n) [] e h = absurd (omega arith)
lanes (suc n) (c ∷ bs) e h =
    let word : c + 256 * number_l 256 bs ≡ number_l 256 bs * 256 + c = omega arith in
    let spread : zeros (suc n) ≡ zeros n * 256 + 48 = omega arith in
    ap₂ bit_xor word spread ∙ xor_block 8 (number_l 256 bs) (zeros n) c 48 h.0 (omega arith) ∙ omega (arith, lanes n bs (omega arith) h.1)

below-all : (bs : List ℕ) → ((k : ℕ) → get_or bs k 0 < 256) → AllBelowBase 256 bs
below-all [] h = tt
below-all (c ∷ bs) h = (h 0, below-all bs (λ k. h (suc k)))

below-take : (n : ℕ) (bs : List ℕ) → AllBelowBase 256 bs → AllBelowBase 256 (take n bs)
below-take zero bs h = tt
below-take (suc n) [] h = tt
below-take (suc n) (c ∷ bs) h = (h.0, below-take n bs h.1)

below-drop : (n : ℕ) (bs : List ℕ) → AllBelowBase 256 bs → AllBelowBase 256 (drop n bs)
below-drop zero bs h = h
below-drop (suc n) [] h = tt
below-drop (suc n) (c ∷ bs) h = below-drop n bs h.1

module _ (bs : List ℕ) (i : ℕ) (fits : (k : ℕ) → get_or bs k 0 < 256) (inside : i + 8 ≤ length bs) where
  pub eight-at : AreEightBytes (take 8 (drop i bs))
  eight-at = (length-take-le 8 (drop i bs) (omega (arith, length-drop i bs)), below-take 8 _ (below-drop i bs (below-all bs fits)))

  pub word-at : (word : ℕ) → word ≡ from bs i 0 8 → bit_xor word (zeros 8) ≡ word_of (take 8 (drop i bs))
  word-at word e =
      let same : number_l 256 (take 8 (drop i bs)) ≡ from bs i 0 8 = ap (λ k. number_l 256 (take 8 (drop k bs))) (sym (add-zero i))
      ∙ spelt bs i 0 8 (omega arith) in
      ap (λ w. bit_xor w (zeros 8)) (e ∙ sym same) ∙ lanes 8 (take 8 (drop i bs)) eight-at.0 eight-at.1

-- A zero in front makes the lowest byte 0.
pub leading-zero : (bs : List ℕ) (word : ℕ) → length bs ≡ 8 → word ≡ word_of bs → byte_at bs 0 ≡ 48 → word % 256 ≡ 0
leading-zero [] word l e z = absurd (omega arith)
leading-zero (c ∷ bs) word l e z =
    let none : lane c ≡ 0 = ap lane z in
    omega arith

-- ---- the lowest bit that is set

even : (k n m : ℕ) → n ≡ 2 * m → count_trailing_zeros (suc k) n ≡ suc (count_trailing_zeros k m)
unfolding count_trailing_zeros
even k n m e =
    let low : n % 2 ≡ 0 = omega arith in
    let half : n / 2 ≡ m = omega arith in
    rw (low, half) refl

odd : (k n m : ℕ) → n ≡ 2 * m + 1 → count_trailing_zeros (suc k) n ≡ 0
unfolding count_trailing_zeros
odd k n m e =
    let low : n % 2 ≡ 1 = omega arith in
    rw low refl

none : (n : ℕ) → count_trailing_zeros zero n ≡ 0
unfolding count_trailing_zeros
none n = refl

abbrev more : ℕ → ℕ → ℕ
more zero k = k
more (suc j) k = suc (more j k)

shifted : (j k n : ℕ) → count_trailing_zeros (more j k) (n * 2 ^ j) ≡ more j (count_trailing_zeros k n)
shifted zero k n = ap (count_trailing_zeros k) (omega arith)
shifted (suc j) k n = even (more j k) (n * 2 ^ suc j) (n * 2 ^ j) (omega (arith, ap (λ p. n * p) (pow-suc 2 j))) ∙ ap suc (shifted j k n)

-- ---- the bits of n bytes that are no digits, exact for the lowest

abbrev additions : ℕ → ℕ
additions zero = 0
additions (suc n) = 118 + 256 * additions n

abbrev high_bits : ℕ → ℕ
high_bits zero = 0
high_bits (suc n) = 128 + 256 * high_bits n

abbrev bits : ℕ → ℕ
bits zero = 0
bits (suc n) = more 8 (bits n)

abbrev stops : ℕ → ℕ → ℕ
stops n word = bit_and (bit_or ((word + additions n) % 256 ^ n) word) (high_bits n)

-- a digit sets no bit, and another byte its highest
flag-is : (c : ℕ) → c < 256 → bit_and (bit_or ((lane c + 118) % 256) (lane c)) 128 ≡ cond (is_ascii_digit c) 0 128
flag-is c h = eqb-true _ _
    (agree_below_at (λ d. eqb (bit_and (bit_or ((lane d + 118) % 256) (lane d)) 128) (cond (is_ascii_digit d) 0 128))
    (λ _. true) 256 c refl h)

-- a digit carries nothing
carry-is : (c : ℕ) → c < 256 → cond (is_ascii_digit c) ((lane c + 118) / 256) 0 ≡ 0
carry-is c h = eqb-true _ _ (agree_below_at (λ d. eqb (cond (is_ascii_digit d) ((lane d + 118) / 256) 0) 0) (λ _. true) 256 c refl h)

-- the rest, to which the first byte may carry
abbrev above : ℕ → ℕ → ℕ → ℕ
above n carry w = bit_and (bit_or ((w + additions n + carry) % 256 ^ n) w) (high_bits n)

step : (n c w : ℕ) → c < 256 → stops (suc n) (lane c + 256 * w) ≡ above n ((lane c + 118) / 256) w * 256 + cond (is_ascii_digit c) 0 128
step n c w h =
    let x : ℕ = lane c in
    let small : x < 256 = xor_lt 8 c 48 h (omega arith) in
    let low : (x + 118) % 256 < 256 = omega arith in
    let sum : x + 256 * w + additions (suc n) ≡ (w + additions n + (x + 118) / 256) * 256 + (x + 118) % 256 = omega arith in
    let wrapped : (x + 256 * w + additions (suc n)) % 256 ^ suc n ≡ (w + additions n + (x + 118) / 256) % 256 ^ n * 256 + (x + 118) % 256 =
    rw (
      sum,
      pow-suc,
      mod-mul _ (positive n) (lit< tt),
      digits_div (w + additions n + (x + 118) / 256) low,
      digits_mod (w + additions n + (x + 118) / 256) low,
    ) refl in
    let word : x + 256 * w ≡ w * 256 + x = omega arith in
    let bits : high_bits (suc n) ≡ high_bits n * 256 + 128 = omega arith in
    ap (λ s. bit_and (bit_or s (x + 256 * w)) (high_bits (suc n))) wrapped
    ∙ ap (λ v. bit_and (bit_or ((w + additions n + (x + 118) / 256) % 256 ^ n * 256 + (x + 118) % 256) v) (high_bits (suc n))) word
    ∙ ap (λ v. bit_and v (high_bits (suc n))) (or_block 8 _ _ _ _ low small)
    ∙ ap (λ v. bit_and (bit_or ((w + additions n + (x + 118) / 256) % 256 ^ n) w * 256 + bit_or ((x + 118) % 256) x) v) bits
    ∙ and_block 8 _ _ _ _ (or_lt 8 _ _ low small) (omega arith)
    ∙ ap (λ f. above n ((x + 118) / 256) w * 256 + f) (flag-is c h)

-- So as many digits come first as whole bytes lie below the lowest bit.
pub run-is : (n : ℕ) (bs : List ℕ) → length bs ≡ n → AllBelowBase 256 bs
    → count_trailing_zeros (bits n) (stops n (word_of bs)) / 8 ≡ prefix_len is_ascii_digit bs
run-is zero [] e h = ap (λ k. k / 8) (none (stops zero (word_of [])))
run-is zero (c ∷ bs) e h = absurd (omega arith)
run-is (suc n) [] e h = absurd (omega arith)
run-is (suc n) (c ∷ bs) e h =
    let w : ℕ = word_of bs in
    let rest : count_trailing_zeros (bits n) (stops n w) / 8 ≡ prefix_len is_ascii_digit bs = run-is n bs (omega arith) h.1 in
    let here : stops (suc n) (lane c + 256 * w) ≡ above n ((lane c + 118) / 256) w * 256 + cond (is_ascii_digit c) 0 128 = step n c w h.0 in
    by (is_ascii_digit c) refl (carry-is c h.0) here rest
  where
    by : (t : Bool) → is_ascii_digit c ≡ t → cond t ((lane c + 118) / 256) 0 ≡ 0
        → stops (suc n) (word_of (c ∷ bs)) ≡ above n ((lane c + 118) / 256) (word_of bs) * 256 + cond t 0 128
        → count_trailing_zeros (bits n) (stops n (word_of bs)) / 8 ≡ prefix_len is_ascii_digit bs
        → count_trailing_zeros (bits (suc n)) (stops (suc n) (word_of (c ∷ bs))) / 8 ≡ cond t (1 + prefix_len is_ascii_digit bs) 0
    by true d carry here rest =
        let same : above n ((lane c + 118) / 256) (word_of bs) ≡ stops n (word_of bs) =
        rw carry (ap (λ s. bit_and (bit_or (s % 256 ^ n) (word_of bs)) (high_bits n)) (omega arith)) in
        let shift : count_trailing_zeros (bits (suc n)) (stops (suc n) (word_of (c ∷ bs)))
        ≡ more 8 (count_trailing_zeros (bits n) (stops n (word_of bs))) =
        ap (count_trailing_zeros (bits (suc n))) (here ∙ ap (λ s. s * 256 + 0) same ∙ omega arith)
        ∙ shifted 8 (bits n) (stops n (word_of bs)) in
        omega (arith, shift, rest)
    by false d carry here rest =
        let s : ℕ = above n ((lane c + 118) / 256) (word_of bs) in
        let shift : count_trailing_zeros (bits (suc n)) (stops (suc n) (word_of (c ∷ bs)))
        ≡ more 7 (count_trailing_zeros (suc (bits n)) (2 * s + 1)) =
        ap (count_trailing_zeros (bits (suc n))) (here ∙ omega arith) ∙ shifted 7 (suc (bits n)) (2 * s + 1) in
        omega (arith, shift, odd (bits n) (2 * s + 1) s refl)

-- ---- a run of digits that the window shows in part

-- It ends where another byte follows, in the window or behind it.
pub run-closed : (n m : ℕ) (bs : List ℕ) → m ≡ prefix_len is_ascii_digit (take n bs) → is_ascii_digit (byte_at bs m) ≡ false
    → m ≡ prefix_len is_ascii_digit bs
run-closed zero m [] e h = e
run-closed (suc n) m [] e h = e
run-closed n zero (c ∷ bs) e h = sym (cond-false _ _ _ h)
run-closed zero (suc m) (c ∷ bs) e h = absurd (omega arith)
run-closed (suc n) (suc m) (c ∷ bs) e h = by (is_ascii_digit c) e (λ more. run-closed n m bs more h)
  where
    by : (t : Bool) → suc m ≡ cond t (1 + prefix_len is_ascii_digit (take n bs)) 0
        → (m ≡ prefix_len is_ascii_digit (take n bs) → m ≡ prefix_len is_ascii_digit bs)
        → suc m ≡ cond t (1 + prefix_len is_ascii_digit bs) 0
    by true e rest = omega (arith, rest (omega arith))
    by false e rest = absurd (omega arith)

-- Through the window, it goes on behind it.
pub run-on : (n : ℕ) (bs : List ℕ) → n ≡ prefix_len is_ascii_digit (take n bs)
    → prefix_len is_ascii_digit bs ≡ n + prefix_len is_ascii_digit (drop n bs)
run-on zero bs e = omega arith
run-on (suc n) [] e = absurd (omega arith)
run-on (suc n) (c ∷ bs) e = by (is_ascii_digit c) e (run-on n bs)
  where
    by : (t : Bool) → suc n ≡ cond t (1 + prefix_len is_ascii_digit (take n bs)) 0
        → (n ≡ prefix_len is_ascii_digit (take n bs) → prefix_len is_ascii_digit bs ≡ n + prefix_len is_ascii_digit (drop n bs))
        → cond t (1 + prefix_len is_ascii_digit bs) 0 ≡ suc n + prefix_len is_ascii_digit (drop n bs)
    by true e rest = omega (arith, rest (omega arith))
    by false e rest = absurd (omega arith)

run-front : (n : ℕ) (bs : List ℕ) → n ≤ prefix_len is_ascii_digit bs → n ≤ prefix_len is_ascii_digit (take n bs)
run-front zero bs h = omega arith
run-front (suc n) [] h = h
run-front (suc n) (c ∷ bs) h = by (is_ascii_digit c) h (run-front n bs)
  where
    by : (t : Bool) → suc n ≤ cond t (1 + prefix_len is_ascii_digit bs) 0
        → (n ≤ prefix_len is_ascii_digit bs → n ≤ prefix_len is_ascii_digit (take n bs))
        → suc n ≤ cond t (1 + prefix_len is_ascii_digit (take n bs)) 0
    by true h rest = omega (arith, rest (omega arith))
    by false h rest = h

-- All of a window inside a run are digits.
pub run-inside : (k n : ℕ) (bs : List ℕ) → k + n ≤ prefix_len is_ascii_digit bs → n ≤ prefix_len is_ascii_digit (take n (drop k bs))
run-inside zero n bs h = run-front n bs (omega arith)
run-inside (suc k) n [] h = absurd (omega arith)
run-inside (suc k) n (c ∷ bs) h = run-inside k n bs (by (is_ascii_digit c) h)
  where
    by : (t : Bool) → suc k + n ≤ cond t (1 + prefix_len is_ascii_digit bs) 0 → k + n ≤ prefix_len is_ascii_digit bs
    by true h = omega arith
    by false h = absurd (omega arith)
