-- Digits as bytes, and those at the end of a word behind bytes that are skipped.
use Rattle.std.proofs.Common.{◌≡◌, refl, sym, ◌∙◌, ap, ap₂, subst, ℕ, zero, suc, ◌+◌, ◌-◌, ◌*◌, ◌/◌, ◌^◌, ◌≤◌, ◌<◌, List, [], ◌∷◌, ◌++◌}
use Rattle.std.proofs.Common.{length, take, drop, map, replicate, Bool, true, false, cond, eqb, get_or, length-drop, arith}
use Rattle.std.specs.Char.{is_ascii_digit}
use Rattle.std.specs.Int.Digits.{AllBelowBase}
use Rattle.std.specs.List.{prefix_len}
use Rattle.std.specs.Simd.Lanes.{number_l}
use Rattle.std.specs.Str.Parse.{AllDigits, digits_value}
use Rattle.std.proofs.Math.Arith.{digits_div}
use Rattle.std.proofs.Math.Nat.{div-div-eq-div-mul, pow-suc}
use Rattle.std.proofs.Math.Seq.{take-append_seam}
use Rattle.std.proofs.lemmas.Bool.{agree_below_at, and_parts, eqb-true, leb-true}
use Rattle.std.proofs.lemmas.Int.Digits.{digits_value_more}
use Rattle.std.proofs.lemmas.List.{length-append, length-replicate, map-append, take_all, take-append-drop}
use Rattle.std.proofs.lemmas.List.Sums.{prefix_len-drop_yes}
use Rattle.std.proofs.lemmas.Nat.{xor_lt}
use Rattle.std.proofs.lemmas.Str.{digit_value_digit}
use Rattle.simd_json_scalars.specs.DigitRuns.{AreEightBytes, word_of}
use Rattle.simd_json_scalars.proofs.Numbers.DigitWords.{lane}
use Rattle.simd_json_scalars.proofs.Numbers.DigitsWorth.{worth-lt}
use Rattle.simd_json_scalars.proofs.Numbers.Values.{digits_value-join}

pub is-digit : (c : ℕ) → is_ascii_digit c ≡ true → (48 ≤ c) × (c ≤ 57)
is-digit c e = let parts = and_parts _ _ e in (leb-true _ _ parts.0, leb-true _ _ parts.1)

pub run-digits : (n : ℕ) (bs : List ℕ) → n ≤ prefix_len is_ascii_digit bs → AllDigits 10 (take n bs)
run-digits zero bs h = tt
run-digits (suc n) [] h = absurd (omega arith)
run-digits (suc n) (c ∷ bs) h = by (is_ascii_digit c) refl h (run-digits n bs)
  where
    by : (t : Bool) → is_ascii_digit c ≡ t → suc n ≤ cond t (1 + prefix_len is_ascii_digit bs) 0
        → (n ≤ prefix_len is_ascii_digit bs → AllDigits 10 (take n bs)) → AllDigits 10 (c ∷ take n bs)
    by true e h rest = let d = is-digit c e in (omega (arith, digit_value_digit c d, d.1), rest (omega arith))
    by false e h rest = absurd (omega arith)

pub run-within : (n : ℕ) (bs : List ℕ) → prefix_len is_ascii_digit (take n bs) ≤ prefix_len is_ascii_digit bs
run-within zero bs = omega arith
run-within (suc n) [] = omega arith
run-within (suc n) (c ∷ bs) = by (is_ascii_digit c) (run-within n bs)
  where
    by : (t : Bool) → prefix_len is_ascii_digit (take n bs) ≤ prefix_len is_ascii_digit bs
        → cond t (1 + prefix_len is_ascii_digit (take n bs)) 0 ≤ cond t (1 + prefix_len is_ascii_digit bs) 0
    by true h = omega arith
    by false h = omega arith

-- all of some digits
pub whole-run : (ds : List ℕ) (n number : ℕ) → n ≡ length ds → n ≤ prefix_len is_ascii_digit ds → number ≡ digits_value 10 (take n ds)
    → AllDigits 10 ds × (number ≡ digits_value 10 ds)
whole-run ds n number len run value =
    let all : take n ds ≡ ds = take_all n ds (omega arith) in
    (subst (AllDigits 10) all (run-digits n ds run), value ∙ ap (digits_value 10) all)

-- one digit more
pub record Grown (bs : List ℕ) (n number : ℕ) : Type 0 where
  pub run : prefix_len is_ascii_digit bs ≡ n + 1 + prefix_len is_ascii_digit (drop (n + 1) bs)
  pub value : number * 10 + (get_or bs n 0 - 48) ≡ digits_value 10 (take (n + 1) bs)
  pub small : number * 10 + (get_or bs n 0 - 48) < 10 ^ 8

pub grown : (bs : List ℕ) (n number : ℕ) → n < length bs → n < 8
    → prefix_len is_ascii_digit bs ≡ n + prefix_len is_ascii_digit (drop n bs) → number ≡ digits_value 10 (take n bs)
    → is_ascii_digit (get_or bs n 0) ≡ true → Grown bs n number
grown bs n number inside few run is e =
    let digit = is-digit (get_or bs n 0) e in
    let more : prefix_len is_ascii_digit bs ≡ n + 1 + prefix_len is_ascii_digit (drop (n + 1) bs) =
    omega (arith, run, prefix_len-drop_yes is_ascii_digit bs n 0 inside e) in
    let value : number * 10 + (get_or bs n 0 - 48) ≡ digits_value 10 (take (n + 1) bs) =
    omega (arith, is, digits_value_more 10 bs n inside, digit_value_digit (get_or bs n 0) digit) in
    record { run = more; value = value; small = omega (arith, value, worth-lt (n + 1) 8 bs (omega arith) (omega (arith, more))) }

pub all-digits : (xs ys : List ℕ) → AllDigits 10 xs → AllDigits 10 ys → AllDigits 10 (xs ++ ys)
all-digits [] ys h g = g
all-digits (x ∷ xs) ys h g = (h.0, all-digits xs ys h.1 g)

-- Digits of which the last eight are apart.
pub joined : (ds : List ℕ) (n high low : ℕ) → n + 8 ≡ length ds → AllDigits 10 (take n ds) → high ≡ digits_value 10 (take n ds)
    → AllDigits 10 (drop n ds) × (low ≡ digits_value 10 (drop n ds)) → AllDigits 10 ds × (high * 100000000 + low ≡ digits_value 10 ds)
joined ds n high low size all is behind =
    let power : 10 ^ length (drop n ds) ≡ 100000000 = ap (λ k. 10 ^ k) {y = 8} (omega (arith, length-drop n ds)) in (
      subst (AllDigits 10) (take-append-drop n ds) (all-digits (take n ds) (drop n ds) all behind.0),
      ap₂ (λ h l. h * 100000000 + l) is behind.1
          ∙ ap (λ p. digits_value 10 (take n ds) * p + digits_value 10 (drop n ds)) (sym power) ∙ sym (digits_value-join n ds),
    )

-- ---- the end of a word

shifted : (j : ℕ) (xs : List ℕ) → AllBelowBase 256 xs → number_l 256 xs / 256 ^ j ≡ number_l 256 (drop j xs)
shifted zero xs h = omega arith
shifted (suc j) [] h = omega arith
shifted (suc j) (x ∷ xs) h =
    let n : ℕ = number_l 256 xs in
    let e : x + 256 * n ≡ n * 256 + x = omega arith in
    let power : 256 ^ suc j ≡ 256 * 256 ^ j = omega (arith, pow-suc 256 j) in
    ap₂ (λ a m. a / m) e power ∙ sym (div-div-eq-div-mul (n * 256 + x) 256 (256 ^ j))
    ∙ ap (λ a. a / 256 ^ j) (digits_div n h.0) ∙ shifted j xs h.1

zeros : (k : ℕ) → number_l 256 (replicate k 0) ≡ 0
zeros zero = refl
zeros (suc k) = omega (arith, zeros k)

padded : (k : ℕ) (xs : List ℕ) → number_l 256 (xs ++ replicate k 0) ≡ number_l 256 xs
padded k [] = zeros k
padded k (x ∷ xs) = ap (λ n. x + 256 * n) (padded k xs)

lanes : (k : ℕ) → map lane (replicate k 48) ≡ replicate k 0
lanes zero = refl
lanes (suc k) = ap (λ xs. 0 ∷ xs) (lanes k)

dropped : (j : ℕ) (xs : List ℕ) → map lane (drop j xs) ≡ drop j (map lane xs)
dropped zero xs = refl
dropped (suc j) [] = refl
dropped (suc j) (x ∷ xs) = dropped j xs

below-lanes : (bs : List ℕ) → AllBelowBase 256 bs → AllBelowBase 256 (map lane bs)
below-lanes [] h = tt
below-lanes (c ∷ bs) h = (xor_lt 8 c 48 h.0 (omega arith), below-lanes bs h.1)

below-drop : (n : ℕ) (bs : List ℕ) → AllBelowBase 256 bs → AllBelowBase 256 (drop n bs)
below-drop zero bs h = h
below-drop (suc n) [] h = tt
below-drop (suc n) (c ∷ bs) h = below-drop n bs h.1

below-pad : (k : ℕ) (bs : List ℕ) → AllBelowBase 256 bs → AllBelowBase 256 (bs ++ replicate k 48)
below-pad zero [] h = tt
below-pad (suc k) [] h = (omega arith, below-pad k [] h)
below-pad k (c ∷ bs) h = (h.0, below-pad k bs h.1)

-- the bytes behind the first j, and then zeros
abbrev pub tail : List ℕ → ℕ → List ℕ
tail b j = drop j b ++ replicate j 48

module _ (b : List ℕ) (j : ℕ) (eight : AreEightBytes b) (few : j < 8) where
  size : length (drop j b) ≡ 8 - j
  size = omega (arith, length-drop j b, eight.0)

  pub tail-eight : AreEightBytes (tail b j)
  tail-eight = (
    omega (arith, size, length-append (drop j b) (replicate j 48), length-replicate {A = ℕ} j 48),
    below-pad j (drop j b) (below-drop j b eight.1),
  )

  power : 2 ^ (8 * j) ≡ 256 ^ j
  power = eqb-true _ _ (agree_below_at (λ k. eqb (2 ^ (8 * k)) (256 ^ k)) (λ _. true) 8 j refl few)

  pub tail-word : (word : ℕ) → word ≡ word_of b → word / 2 ^ (8 * j) ≡ word_of (tail b j)
  tail-word word e =
      ap₂ (λ w m. w / m) e power ∙ shifted j (map lane b) (below-lanes b eight.1)
      ∙ ap (number_l 256) (sym (dropped j b)) ∙ sym (padded j (map lane (drop j b)))
      ∙ ap (number_l 256) (ap (λ ys. map lane (drop j b) ++ ys) (sym (lanes j)) ∙ sym (map-append lane (drop j b) (replicate j 48)))

  pub tail-front : take (8 - j) (tail b j) ≡ drop j b
  tail-front = ap (λ n. take n (tail b j)) (sym size) ∙ take-append_seam (drop j b) (replicate j 48)

  pub tail-digits : 8 ≤ prefix_len is_ascii_digit (tail b j) → AllDigits 10 (drop j b)
  tail-digits all = subst (AllDigits 10) tail-front (run-digits (8 - j) (tail b j) (omega arith))
