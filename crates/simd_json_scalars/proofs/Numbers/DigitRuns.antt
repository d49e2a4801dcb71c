-- Runs of digits among 32 bytes, seen by the mask of those that are no digits.
use Rattle.std.proofs.Common.{◌≡◌, refl, sym, ◌∙◌, ap, ap₂, ℕ, zero, suc, ◌+◌, ◌-◌, ◌*◌, ◌/◌, ◌%◌, ◌^◌, ◌<◌, ◌≤◌, List, [], ◌∷◌}
use Rattle.std.proofs.Common.{length, take, drop, map, replicate, Bool, true, false, not, cond, leb, Fits, w8, arith}
use Rattle.std.specs.Char.{is_ascii_digit}
use Rattle.std.specs.List.{prefix_len}
use Rattle.std.proofs.Math.Nat.{zero-div, div-one, pow-suc, mul_comm}
use Rattle.std.proofs.lemmas.Bool.Decides.{nat_tests}
use Rattle.std.proofs.lemmas.List.{drop-map, drop-take, length-map}
use Rattle.std.proofs.lemmas.Simd.{zip2_splat, zip2_splat_left, map-map, mask_l-mod}
use native.Mathlib.Nat.{div-div-eq-div-mul}
use lib.Lanes.{chunk, mask_l, zip2, top, Each1}
use lib.Count.{count_trailing_zeros, trailing_of_zero}
use Rattle.simd_json_scalars.specs.DigitRuns.{is_no_digit}
use Rattle.simd_json_parts.proofs.Lists.LaneRuns.{run-ends, map-same}

-- ---- the mask

abbrev less_zero : ℕ → ℕ → ℕ
less_zero a b = (a + (256 - b)) % 256

abbrev at_most : ℕ → ℕ → ℕ
at_most a b = cond (leb a b) 255 0

top-cond : (t : Bool) → top 7 (cond t 255 0) ≡ t
top-cond true = refl
top-cond false = refl

-- the byte less that of 0 is 10 or more where it is no digit
no_digit-lane : (x : ℕ) → x < 256 → leb 10 (less_zero x 48) ≡ is_no_digit x
no_digit-lane x h = grind (arith, nat_tests)

no_digit-lanes : (v : List ℕ) → Each1 (Fits w8) v → map (λ x. leb 10 (less_zero x 48)) v ≡ map is_no_digit v
no_digit-lanes [] fits = refl
no_digit-lanes (x ∷ xs) fits = ap₂ (λ t ts. t ∷ ts) (no_digit-lane x fits.0.fits) (no_digit-lanes xs fits.1)

pub mask-non_digits : (v : List ℕ) → length v ≡ 32 → Each1 (Fits w8) v
    → mask_l (map (top 7) (zip2 at_most (replicate 32 10) (zip2 less_zero v (replicate 32 48)))) % 2 ^ 64 ≡ mask_l (map is_no_digit v)
mask-non_digits v long fits =
    let less : List ℕ = map (λ x. less_zero x 48) v in
    let lanes : zip2 at_most (replicate 32 10) (zip2 less_zero v (replicate 32 48)) ≡ map (λ x. at_most 10 (less_zero x 48)) v =
    ap (zip2 at_most (replicate 32 10)) (zip2_splat less_zero v 32 48 long)
    ∙ zip2_splat_left at_most 10 32 less (length-map v (λ x. less_zero x 48) ∙ long)
    ∙ map-map (at_most 10) (λ x. less_zero x 48) v in
    let tops : map (top 7) (map (λ x. at_most 10 (less_zero x 48)) v) ≡ map is_no_digit v =
    map-map (top 7) (λ x. at_most 10 (less_zero x 48)) v ∙ map-same _ _ (λ x. top-cond (leb 10 (less_zero x 48))) v
    ∙ no_digit-lanes v fits in
    ap (λ us. mask_l us % 2 ^ 64) (ap (map (top 7)) lanes ∙ tops)
    ∙ mask_l-mod (map is_no_digit v) 64 (omega (arith, length-map v is_no_digit))

-- ---- a run in it

mask-half : (m : Bool) (n : ℕ) → (cond m 1 0 + 2 * n) / 2 ≡ n
mask-half true n = omega arith
mask-half false n = omega arith

-- to shift a mask is to drop its first lanes
mask-drop : (k : ℕ) (ms : List Bool) → mask_l ms / 2 ^ k ≡ mask_l (drop k ms)
mask-drop zero ms = div-one (mask_l ms)
mask-drop (suc k) [] = zero-div (2 ^ suc k)
mask-drop (suc k) (m ∷ ms) =
    ap (λ n. mask_l (m ∷ ms) / n) (pow-suc 2 k ∙ mul_comm (2 ^ k) 2)
    ∙ sym (div-div-eq-div-mul (mask_l (m ∷ ms)) 2 (2 ^ k))
    ∙ ap (λ n. n / 2 ^ k) (mask-half m (mask_l ms))
    ∙ mask-drop k ms

not-not : (t : Bool) → t ≡ not (not t)
not-not true = refl
not-not false = refl

same-run : (xs : List ℕ) → prefix_len is_ascii_digit xs ≡ prefix_len (λ x. not (is_no_digit x)) xs
same-run [] = refl
same-run (x ∷ xs) = ap₂ (λ t n. cond t (1 + n) 0) (not-not (is_ascii_digit x)) (same-run xs)

-- The digits from an index on end at the first bit from there on, where it is one of the 32.
pub run_end-is : (stops from : ℕ) (b : List ℕ) → from ≤ 32 → 32 ≤ length b → stops ≡ mask_l (map is_no_digit (take 32 b))
    → from + count_trailing_zeros 64 (stops / 2 ^ from) < 32
    → from + count_trailing_zeros 64 (stops / 2 ^ from) ≡ from + prefix_len is_ascii_digit (drop from b)
run_end-is stops from b l long e inside =
    let whole : from + (32 - from) ≡ 32 = omega arith in
    let seen : List ℕ = chunk from (32 - from) b in
    let rest : stops / 2 ^ from ≡ mask_l (map is_no_digit seen) =
    ap (λ n. n / 2 ^ from) e
    ∙ mask-drop from (map is_no_digit (take 32 b))
    ∙ ap mask_l (drop-map is_no_digit from (take 32 b))
    ∙ ap (λ n. mask_l (map is_no_digit (drop from (take n b)))) (sym whole)
    ∙ ap (λ us. mask_l (map is_no_digit us)) (drop-take from (32 - from) b) in
    let some : 0 < mask_l (map is_no_digit seen) = first-bit (mask_l (map is_no_digit seen)) from (rw rest at inside) in
    ap (λ n. from + count_trailing_zeros 64 n) rest
    ∙ ap (λ n. from + n) (sym (run-ends is_no_digit b from (32 - from) (omega arith) (omega arith) some))
    ∙ ap (λ n. from + n) (sym (same-run (drop from b)))
  where
    first-bit : (n from : ℕ) → from + count_trailing_zeros 64 n < 32 → 0 < n
    first-bit zero from h = absurd (omega (arith, trailing_of_zero 64))
    first-bit (suc n) from h = omega arith
