-- Vectors of bytes of which none is to be escaped, and two that overlap.
use Rattle.std.proofs.Common.{◌≡◌, ◌≢◌, refl, ◌∙◌, ap, ap₂, sym, ℕ, suc, ◌+◌, ◌-◌, ◌≤◌, ◌%◌, ◌^◌, Bool, true, false, cond, eqb, ltb}
use Rattle.std.proofs.Common.{◌||◌, List, [], ◌∷◌, ◌++◌, length, take, drop, get_or, flat_map, map, not, subst, replicate, inl, inr}
use Rattle.std.proofs.Common.{arith, IsFalse}
use Rattle.std.proofs.lemmas.Bool.{cases_lt, or_parts, not-true}
use Rattle.std.proofs.lemmas.Simd.{length-chunk, none_from_empty_mask, zip2_splat, zip2_of_maps, map-map, mask_l-mod, trailing_mask_l}
use Rattle.std.proofs.lemmas.List.Sums.{prefix_len_passes, prefix_len-le-length}
use Rattle.std.specs.List.{prefix_len}
use Rattle.std.proofs.lemmas.List.{length-map, length-take-le, get_or-take, get_or-drop}
use lib.Bits.{bit_or}
use lib.Count.{count_trailing_zeros}
use lib.Lanes.{chunk, mask_l, zip2, top}
use Rattle.simd_json_parts.specs.Bytes.{is_control}
use Rattle.simd_json_scalars.specs.StringContent.{is_stop}
use Rattle.simd_json_parts.specs.Printed.{escaped_byte}
use Rattle.simd_json_parts.proofs.Lists.LaneRuns.{map-same}
use Rattle.simd_json_print.specs.Unescaped.{needs_escape, AreUnescaped}
use Rattle.simd_json_print.proofs.Runs.{plain-byte}

abbrev hit : ℕ → ℕ → ℕ
hit a b = cond (eqb a b) 255 0

abbrev below : ℕ → ℕ → ℕ
below a b = cond (ltb a b) 255 0

-- the top bit of a lane that passed one of three tests
top-three : (t u w : Bool) → top 7 (bit_or (bit_or (cond t 255 0) (cond u 255 0)) (cond w 255 0)) ≡ ((t || u) || w)
top-three true true true = refl
top-three true true false = refl
top-three true false true = refl
top-three true false false = refl
top-three false true true = refl
top-three false true false = refl
top-three false false true = refl
top-three false false false = refl

-- the test of a vector, as the code makes it
pub mask-three : (n : ℕ) (v : List ℕ) → length v ≡ n → n ≤ 64
    → mask_l (map (top 7) (zip2 bit_or (zip2 bit_or (zip2 hit v (replicate n 34)) (zip2 hit v (replicate n 92)))
    (zip2 below v (replicate n 32)))) % 2 ^ 64 ≡ mask_l (map needs_escape v)
mask-three n v long short =
    let stops = zip2_of_maps bit_or (λ x. hit x 34) (λ x. hit x 92) v (zip2_splat hit v n 34 long) (zip2_splat hit v n 92 long) in
    let lanes = zip2_of_maps bit_or (λ x. bit_or (hit x 34) (hit x 92)) (λ x. below x 32) v stops (zip2_splat below v n 32 long) in
    let tops = map-map (top 7) (λ x. bit_or (bit_or (hit x 34) (hit x 92)) (below x 32)) v
    ∙ map-same _ _ (λ x. top-three (eqb x 34) (eqb x 92) (ltb x 32)) v in
    ap (λ us. mask_l us % 2 ^ 64) (ap (map (top 7)) lanes ∙ tops)
    ∙ mask_l-mod (map needs_escape v) 64 (omega (arith, length-map v needs_escape))

-- a vector of which no bit is set
pub unescaped-vector : (d : List ℕ) (i n : ℕ) → i + n ≤ length d → mask_l (map needs_escape (chunk i n d)) ≡ 0 → AreUnescaped d i (i + n)
unescaped-vector d i n room is = none_from_empty_mask needs_escape d i n 0 room is

-- where a bit is set, the lowest is that of the first that is to be escaped
front-count : (d : List ℕ) (i n mask : ℕ) → i + n ≤ length d → n ≤ 64 → mask ≡ mask_l (map needs_escape (chunk i n d)) → mask ≢ 0
    → count_trailing_zeros 64 mask ≡ prefix_len (λ x. not (needs_escape x)) (chunk i n d)
front-count d i n mask room few is some =
    ap (count_trailing_zeros 64) is
    ∙ trailing_mask_l needs_escape 64 (chunk i n d) (omega (arith, length-chunk i n d room)) (omega (arith, is, some))

pub front-within : (d : List ℕ) (i n mask : ℕ) → i + n ≤ length d → n ≤ 64 → mask ≡ mask_l (map needs_escape (chunk i n d)) → mask ≢ 0
    → count_trailing_zeros 64 mask ≤ n
front-within d i n mask room few is some =
    omega (
      arith,
      front-count d i n mask room few is some,
      prefix_len-le-length (λ x. not (needs_escape x)) (chunk i n d),
      length-chunk i n d room,
    )

pub unescaped-front : (d : List ℕ) (i n mask : ℕ) → i + n ≤ length d → n ≤ 64 → mask ≡ mask_l (map needs_escape (chunk i n d)) → mask ≢ 0
    → AreUnescaped d i (i + count_trailing_zeros 64 mask)
unescaped-front d i n mask room few is some k p q =
    let count = front-count d i n mask room few is some in
    let within = front-within d i n mask room few is some in
    let place : i + (k - i) ≡ k = omega arith in
    let passes = prefix_len_passes (λ x. not (needs_escape x)) (chunk i n d) (k - i) 0 (omega (arith, count, p, q)) in
    let same : get_or (chunk i n d) (k - i) 0 ≡ get_or d k 0 =
    get_or-take n (drop i d) (k - i) 0 (omega (arith, within, p, q)) ∙ get_or-drop i d (k - i) 0 ∙ ap (λ j. get_or d j 0) place in
    subst (λ x. IsFalse (needs_escape x)) same (not-true (needs_escape (get_or (chunk i n d) (k - i) 0)) passes)

unescaped-all : (d : List ℕ) → AreUnescaped d 0 (length d) → flat_map escaped_byte d ≡ d
unescaped-all [] h = refl
unescaped-all (x ∷ xs) h =
    let none = or_parts (is_stop x) (is_control x) (h 0 (omega arith) (omega arith)) in
    ap₂ (λ us vs. us ++ vs) (plain-byte x none.0 none.1) (unescaped-all xs (λ k p q. h (suc k) (omega arith) (omega arith)))

-- one in front and one at the end
pub unescaped-overlap : (d : List ℕ) (n : ℕ) → n ≤ length d → length d ≤ n + n → AreUnescaped d 0 n
    → AreUnescaped d (length d - n) (length d - n + n) → flat_map escaped_byte d ≡ d
unescaped-overlap d n covers within front back =
    unescaped-all d (λ k p q. elim (cases_lt k n) [
      | inl h ↦ front k p h
      | inr h ↦ back k (omega arith) (omega arith)
    ])

-- those in front
pub unescaped-prefix : (d : List ℕ) (n : ℕ) → n ≤ length d → AreUnescaped d 0 n → flat_map escaped_byte (take n d) ≡ take n d
unescaped-prefix d n room is =
    let size : length (take n d) ≡ n = length-take-le n d room in
    unescaped-all (take n d) (λ k p q.
    subst (λ x. IsFalse (needs_escape x)) (sym (get_or-take n d k 0 (omega (arith, size)))) (is k p (omega (arith, size))))

-- more, from an index within them on
pub unescaped-further : (d : List ℕ) (from done n : ℕ) → from ≤ done → AreUnescaped d 0 done → AreUnescaped d from (from + n)
    → AreUnescaped d 0 (from + n)
unescaped-further d from done n within before more k p q = elim (cases_lt k done) [
  | inl h ↦ before k p h
  | inr h ↦ more k (omega arith) q
]
