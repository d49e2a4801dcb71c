-- The number that the first digits of a word spell: they move up behind zeros, and two multiplications add the pairs.
use Rattle.std.proofs.Common.{◌≡◌, refl, sym, ◌∙◌, ap, ap₂, ℕ, zero, suc, ◌+◌, ◌-◌, ◌*◌, ◌/◌, ◌%◌, ◌^◌, ◌<◌, ◌≤◌, lit<, List, []}
use Rattle.std.proofs.Common.{◌∷◌, ◌++◌, length, length-append, length-drop, take, drop, map, replicate, Bool, true, false, cond}
use Rattle.std.proofs.Common.{eqb, leb, bit_and, arith}
use Rattle.std.specs.Char.{is_ascii_digit, digit_value}
use Rattle.std.specs.Int.Digits.{AllBelowBase, number_from_digits}
use Rattle.std.specs.List.{prefix_len}
use Rattle.std.specs.Str.Parse.{digits_value}
use Rattle.std.proofs.Math.Arith.{digits_div, digits_mod, mod-mul}
use Rattle.std.proofs.Math.Nat.{pow-le-pow_right, pow-suc, mod-eq_of_lt, mul-mod_left, mul-div_cancel, zero-mod, add-zero}
use Rattle.std.proofs.lemmas.Bool.{agree_below_at, and_parts, eqb-true, leb-true}
use Rattle.std.proofs.lemmas.Int.Digits.{digits_value_is, number_lt}
use Rattle.std.proofs.lemmas.List.Sums.{prefix_len-le-length}
use Rattle.std.proofs.lemmas.List.{drop-take, length-map, length-replicate, length-take, length-take-le, take-map, take-take}
use Rattle.std.proofs.lemmas.Nat.{and_block, and_mask, pow-add, xor_lt}
use lib.Lanes.{number_l}
use Rattle.simd_json_scalars.specs.DigitRuns.{AreEightBytes, word_of}
use Rattle.simd_json_scalars.proofs.Numbers.Values.{digits_value-join}
use Rattle.simd_json_scalars.proofs.Numbers.DigitWords.{lane, positive}

-- ---- eight digits

-- the mask keeps bytes 0 and 4
masked : (x : ℕ) → bit_and x 0x0000_00ff_0000_00ff ≡ x / 2 ^ 32 % 256 * 2 ^ 32 + x % 2 ^ 32 % 256
masked x =
    let e : x ≡ x / 2 ^ 32 * 2 ^ 32 + x % 2 ^ 32 = omega arith in
    ap (λ y. bit_and y 0x0000_00ff_0000_00ff) e ∙ and_block 32 (x / 2 ^ 32) 255 (x % 2 ^ 32) 255 (omega arith) (omega arith)
    ∙ ap₂ (λ y z. y * 2 ^ 32 + z) (and_mask (x / 2 ^ 32) 8) (and_mask (x % 2 ^ 32) 8)

-- what the code makes of a word
abbrev worth : ℕ → ℕ
worth word =
    let pairs = (word * 10 % 2 ^ 64 + word / 256) % 2 ^ 64 in
    (bit_and pairs 0x0000_00ff_0000_00ff * 4294967296000100 % 2 ^ 64
    + bit_and (pairs / 65536) 0x0000_00ff_0000_00ff * 42949672960001 % 2 ^ 64) % 2 ^ 64 / 2 ^ 32

below : (x : ℕ) → x < 100 → x < 256
below x h = omega arith

first : (p r : ℕ) → p < 100 → r < 100 → (r * 2 ^ 32 + p) * 4294967296000100 % 2 ^ 64 ≡ (p * 1000000 + r * 100) * 2 ^ 32 + p * 100
first p r P R = omega arith

second : (q s : ℕ) → q < 100 → s < 100 → (s * 2 ^ 32 + q) * 42949672960001 % 2 ^ 64 ≡ (q * 10000 + s) * 2 ^ 32 + q
second q s Q S = omega arith

last : (p q r s : ℕ) → p < 100 → q < 100 → r < 100 → s < 100
    → ((p * 1000000 + r * 100) * 2 ^ 32 + p * 100 + ((q * 10000 + s) * 2 ^ 32 + q)) % 2 ^ 64 / 2 ^ 32
    ≡ p * 1000000 + q * 10000 + r * 100 + s
last p q r s P Q R S =
    let sum = (p * 1000000 + r * 100) * 2 ^ 32 + p * 100 + ((q * 10000 + s) * 2 ^ 32 + q) in
    let small : sum < 2 ^ 64 = omega arith in
    let parts : sum ≡ (p * 1000000 + q * 10000 + r * 100 + s) * 2 ^ 32 + (p * 100 + q) = omega arith in
    let low : p * 100 + q < 2 ^ 32 = omega arith in
    ap (λ x. x / 2 ^ 32) (mod-eq_of_lt small ∙ parts) ∙ digits_div _ low

-- p, q, r and s are the four pairs of digits, and x, y, z and w the bytes between them
combined : (p q r s x y z w pairs : ℕ) → p < 100 → q < 100 → r < 100 → s < 100 → x < 100 → y < 100 → z < 100 → w < 100
    → pairs ≡ p + 2 ^ 8 * x + 2 ^ 16 * q + 2 ^ 24 * y + 2 ^ 32 * r + 2 ^ 40 * z + 2 ^ 48 * s + 2 ^ 56 * w
    → (bit_and pairs 0x0000_00ff_0000_00ff * 4294967296000100 % 2 ^ 64
    + bit_and (pairs / 65536) 0x0000_00ff_0000_00ff * 42949672960001 % 2 ^ 64) % 2 ^ 64 / 2 ^ 32
    ≡ p * 1000000 + q * 10000 + r * 100 + s
combined p q r s x y z w pairs P Q R S X Y Z W e =
    let high : pairs / 2 ^ 32 ≡ (z + 2 ^ 8 * s + 2 ^ 16 * w) * 256 + r = omega arith in
    let low : pairs % 2 ^ 32 ≡ (x + 2 ^ 8 * q + 2 ^ 16 * y) * 256 + p = omega arith in
    let down : pairs / 65536 ≡ (((w * 256) + s) * 2 ^ 32) + ((y + 2 ^ 8 * r + 2 ^ 16 * z) * 256 + q) = omega arith in
    let a : pairs / 2 ^ 32 % 256 ≡ r = rw high (digits_mod _ (below r R)) in
    let b : pairs % 2 ^ 32 % 256 ≡ p = rw low (digits_mod _ (below p P)) in
    let part : (y + 2 ^ 8 * r + 2 ^ 16 * z) * 256 + q < 2 ^ 32 = omega arith in
    let c : pairs / 65536 / 2 ^ 32 % 256 ≡ s = rw (down, digits_div _ part) (digits_mod _ (below s S)) in
    let d : pairs / 65536 % 2 ^ 32 % 256 ≡ q = rw (down, digits_mod _ part) (digits_mod _ (below q Q)) in
    rw (masked pairs, masked (pairs / 65536), a, b, c, d, first p r P R, second q s Q S) (last p q r s P Q R S)

eight : (ds : List ℕ) (word : ℕ) → length ds ≡ 8 → AllBelowBase 10 ds → word ≡ number_l 256 ds → worth word ≡ number_from_digits 10 ds
eight (a ∷ b ∷ c ∷ d ∷ f ∷ g ∷ i ∷ j ∷ []) word l h e =
    let rest = b + 256 * (c + 256 * (d + 256 * (f + 256 * (g + 256 * (i + 256 * (j + 256 * 0)))))) in
    let parts : word ≡ rest * 256 + a = omega arith in
    let small : a < 256 = omega arith in
    let moved : word / 256 ≡ rest = ap (λ x. x / 256) parts ∙ digits_div rest small in
    let tens : word * 10 < 2 ^ 64 = omega arith in
    let sum : word * 10 + rest < 2 ^ 64 = omega arith in
    let pairs : (word * 10 % 2 ^ 64 + word / 256) % 2 ^ 64
    ≡ 10 * a + b + 2 ^ 8 * (10 * b + c) + 2 ^ 16 * (10 * c + d) + 2 ^ 24 * (10 * d + f) + 2 ^ 32 * (10 * f + g)
    + 2 ^ 40 * (10 * g + i) + 2 ^ 48 * (10 * i + j) + 2 ^ 56 * (10 * j) =
    rw (mod-eq_of_lt tens, moved, mod-eq_of_lt sum) (omega arith) in
    combined _ _ _ _ _ _ _ _ _ (omega arith) (omega arith) (omega arith) (omega arith) (omega arith) (omega arith) (omega arith)
    (omega arith) pairs ∙ omega arith
eight _ word l h e = absurd (omega arith)

-- ---- the first n of them, behind zeros

digit : (c : ℕ) → is_ascii_digit c ≡ true → (lane c < 10) × (lane c ≡ digit_value c)
digit c e =
    let range : (leb 48 c ≡ true) × (leb c 57 ≡ true) = and_parts _ _ e in
    let byte : c < 256 = omega (arith, leb-true c 57 range.1) in
    let low : leb (cond (is_ascii_digit c) (lane c) 0) 9 ≡ true =
    agree_below_at (λ d. leb (cond (is_ascii_digit d) (lane d) 0) 9) (λ _. true) 256 c refl byte in
    let same : eqb (cond (is_ascii_digit c) (lane c) 0) (cond (is_ascii_digit c) (digit_value c) 0) ≡ true =
    agree_below_at (λ d. eqb (cond (is_ascii_digit d) (lane d) 0) (cond (is_ascii_digit d) (digit_value d) 0))
    (λ _. true) 256 c refl byte in
    let small : lane c ≤ 9 = leb-true _ _ (ap (λ t. leb (cond t (lane c) 0) 9) (sym e) ∙ low) in
    (omega arith, eqb-true _ _ (ap (λ t. eqb (cond t (lane c) 0) (cond t (digit_value c) 0)) (sym e) ∙ same))

values : (n : ℕ) (bs : List ℕ) → n ≤ prefix_len is_ascii_digit bs
    → AllBelowBase 10 (map lane (take n bs)) × (map lane (take n bs) ≡ map digit_value (take n bs))
values zero bs h = (tt, refl)
values (suc n) [] h = (tt, refl)
values (suc n) (c ∷ bs) h = by (values n bs) (is_ascii_digit c) refl h
  where
    by : (n ≤ prefix_len is_ascii_digit bs
        → AllBelowBase 10 (map lane (take n bs)) × (map lane (take n bs) ≡ map digit_value (take n bs))) → (t : Bool)
        → is_ascii_digit c ≡ t → suc n ≤ cond t (1 + prefix_len is_ascii_digit bs) 0
        → AllBelowBase 10 (map lane (take (suc n) (c ∷ bs))) × (map lane (take (suc n) (c ∷ bs)) ≡ map digit_value (take (suc n) (c ∷ bs)))
    by rest true e h = let r = rest (omega arith) in (((digit c e).0, r.0), ap₂ (λ d ds. d ∷ ds) (digit c e).1 r.1)
    by rest false e h = absurd (omega arith)

-- Digits, k at most, are worth less than ten to the k-th.
pub worth-lt : (n k : ℕ) (bs : List ℕ) → n ≤ k → n ≤ prefix_len is_ascii_digit bs → digits_value 10 (take n bs) < 10 ^ k
worth-lt n k bs few run =
    let v = values n bs run in
    let inside : n ≤ length bs = omega (arith, prefix_len-le-length is_ascii_digit bs) in
    let size : length (map lane (take n bs)) ≡ n = length-map (take n bs) lane ∙ length-take-le n bs inside in
    let same : number_from_digits 10 (map lane (take n bs)) ≡ digits_value 10 (take n bs) =
    ap (number_from_digits 10) v.1 ∙ sym (digits_value_is 10 (take n bs)) in
    let most : 10 ^ n ≤ 10 ^ k = pow-le-pow_right (lit< tt) few in
    omega (arith, same, number_lt 10 (map lane (take n bs)) v.0, ap (λ m. 10 ^ m) size)

padded : (k : ℕ) (ds : List ℕ) → AllBelowBase 10 ds
    → AllBelowBase 10 (replicate k 0 ++ ds) × (number_l 256 (replicate k 0 ++ ds) ≡ number_l 256 ds * 256 ^ k)
    × (number_from_digits 10 (replicate k 0 ++ ds) ≡ number_from_digits 10 ds)
padded zero ds h = (h, omega arith, refl)
padded (suc k) ds h = let r = padded k ds h in ((omega arith, r.0), omega (arith, ap (λ x. number_l 256 ds * x) (pow-suc 256 k)), r.2)

front : (n : ℕ) (xs : List ℕ) → AllBelowBase 256 xs → number_l 256 xs % 256 ^ n ≡ number_l 256 (take n xs)
front zero xs h = omega arith
front (suc n) [] h = zero-mod _
front (suc n) (x ∷ xs) h =
    let e : x + 256 * number_l 256 xs ≡ number_l 256 xs * 256 + x = omega arith in
    rw (pow-suc, e, mod-mul _ (positive n) (lit< tt), digits_div _ h.0, digits_mod _ h.0, front n xs h.1) (omega arith)

scaled : (a m c : ℕ) → 0 < m → 0 < c → a * c % (m * c) ≡ a % m * c
scaled a m c M C = rw (mod-mul _ M C, mul-div_cancel a C, mul-mod_left, add-zero) refl

fit : (bs : List ℕ) → AllBelowBase 256 bs → AllBelowBase 256 (map lane bs)
fit [] h = tt
fit (c ∷ bs) h = (xor_lt 8 c 48 h.0 (omega arith), fit bs h.1)

places : (n : ℕ) → n ≤ 8 → 2 ^ (64 - 8 * n) ≡ 256 ^ (8 - n)
places n h = eqb-true _ _ (agree_below_at (λ k. eqb (2 ^ (64 - 8 * k)) (256 ^ (8 - k))) (λ _. true) 9 n refl (omega arith))

pub worth-is : (word n : ℕ) (bs : List ℕ) → AreEightBytes bs → word ≡ word_of bs → n ≤ 8 → n ≤ prefix_len is_ascii_digit bs
    → worth (word * 2 ^ (64 - 8 * n) % 2 ^ 64) ≡ digits_value 10 (take n bs)
worth-is word n bs bytes e few run =
    let digits : List ℕ = map lane (take n bs) in
    let v = values n bs run in
    let p = padded (8 - n) digits v.0 in
    let size : length (replicate (8 - n) 0 ++ digits) ≡ 8 =
    omega (
      arith,
      bytes.0,
      length-append (replicate (8 - n) 0) digits,
      length-replicate {A = ℕ} (8 - n) 0,
      length-map (take n bs) lane,
      length-take n bs,
    ) in
    let all : 2 ^ 64 ≡ 256 ^ n * 256 ^ (8 - n) = ap (λ k. 256 ^ k) {x = 8} (omega arith) ∙ pow-add 256 n (8 - n) in
    let behind : word * 2 ^ (64 - 8 * n) % 2 ^ 64 ≡ number_l 256 digits * 256 ^ (8 - n) =
    ap₂ (λ w q. w * q % 2 ^ 64) e (places n few)
    ∙ ap (λ m. word_of bs * 256 ^ (8 - n) % m) all
    ∙ scaled (word_of bs) (256 ^ n) (256 ^ (8 - n)) (positive n) (positive (8 - n))
    ∙ ap (λ w. w * 256 ^ (8 - n)) (front n (map lane bs) (fit bs bytes.1) ∙ ap (number_l 256) (take-map lane n bs)) in
    eight (replicate (8 - n) 0 ++ digits) (word * 2 ^ (64 - 8 * n) % 2 ^ 64) size p.0 (behind ∙ sym p.1)
    ∙ p.2 ∙ ap (number_from_digits 10) v.1 ∙ sym (digits_value_is 10 (take n bs))

-- Digits before the last eight are worth ten to the eighth times as much.
pub two-words : (more : ℕ) (ds : List ℕ) → more + 8 ≤ length ds
    → digits_value 10 (take more ds) * 100000000 + digits_value 10 (take 8 (drop more ds)) ≡ digits_value 10 (take (8 + more) ds)
two-words more ds inside =
    let whole : List ℕ = take (more + 8) ds in
    let low : drop more whole ≡ take 8 (drop more ds) = drop-take more 8 ds in
    let power : 10 ^ length (drop more whole) ≡ 100000000 =
    ap (λ n. 10 ^ n) (ap length low ∙ length-take-le 8 (drop more ds) (omega (arith, length-drop more ds))) in
    let high : take more whole ≡ take more ds = take-take more (more + 8) ds (omega arith) in
    ap₂ (λ h l. h + l) (ap₂ (λ v p. digits_value 10 v * p) (sym high) (sym power)) (ap (digits_value 10) (sym low))
    ∙ sym (digits_value-join more whole) ∙ ap (λ n. digits_value 10 (take n ds)) (omega arith)

-- So are digits before the last sixteen, twice.
pub three-words : (more : ℕ) (ds : List ℕ) → more + 16 ≤ length ds
    → (digits_value 10 (take more ds) * 100000000 + digits_value 10 (take 8 (drop more ds))) * 100000000
    + digits_value 10 (take 8 (drop (8 + more) ds)) ≡ digits_value 10 (take (16 + more) ds)
three-words more ds inside =
    ap (λ n. n * 100000000 + digits_value 10 (take 8 (drop (8 + more) ds))) (two-words more ds (omega arith))
    ∙ two-words (8 + more) ds (omega arith) ∙ ap (λ n. digits_value 10 (take n ds)) (omega arith)
