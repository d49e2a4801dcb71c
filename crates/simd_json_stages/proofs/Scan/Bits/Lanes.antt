-- The classes of 32 lanes, and the words of two halves.
use Rattle.std.proofs.Common.{◌≡◌, ℕ, zero, suc, ◌+◌, ◌-◌, ◌*◌, ◌/◌, ◌%◌, ◌^◌, ◌<◌, ◌≤◌, ◌⊎◌, inl, inr, Bool, true, false, not, ◌||◌, cond}
use Rattle.std.proofs.Common.{eqb, leb, subst, T, List, [], ◌∷◌, ◌++◌, map, length, get_or, take, replicate, bit_and, bit_or, refl, sym}
use Rattle.std.proofs.Common.{ap, ap₂, ◌∙◌, drop, take-append-drop, arith, w8, Fits, eqb→eq, mod-lt, pow_pos}
use Rattle.std.proofs.lemmas.Bool.{cases_lt, ne_eqb, leb-false}
use Rattle.std.proofs.lemmas.List.{get_or-map, get_or_past, get_or_append_left, get_or-append_right, length-map, ext_get_or, take-take}
use Rattle.std.proofs.lemmas.List.{take_all, length-drop, length-take-le}
use Rattle.std.proofs.lemmas.Nat.{and_le_r, le_or_l, le_or_r}
use Rattle.std.proofs.lemmas.Simd.{bitmask_splat, Each1-all, Each1-zip2, Each2-splat, length-zip2, mask_l-mod, mask_l-lt, swz_l, SwzOk}
use Rattle.std.proofs.lemmas.Simd.{SwzOk-from_below, length-swz_l, get_or-swz_l_below, zip2_splat, zip2_of_maps, length-chunk}
use Rattle.std.proofs.lemmas.Simd.{tops_compared, zip2_splat_left, get_or-zip2}
use Rattle.std.proofs.Math.Bool.{or-false}
use lib.Bits.{or_lt}
use lib.Lanes.{chunk, zip2, mask_l, top, Each1}
use Rattle.std.specs.List.{list_any}
use Rattle.std.proofs.lemmas.List.Folds.{list_any-append}
use Rattle.simd_json_stages.specs.Words.{is_set, HasBits}
use Rattle.simd_json_stages.proofs.Scan.Bits.Operations.{is_set-or, is_set-mask_l, shl, is_set-shl_low, is_set-shl_high, is_set-zero}
use Rattle.simd_json_stages.proofs.Scan.Bits.Computed.{upto, upto_sound, same, same_is, equal-two}

abbrev pub IsHalf : List ℕ → Type 0
IsHalf v = (length v ≡ 32) × Each1 (Fits w8) v

abbrev pub low_half : ℕ → ℕ
low_half x = bit_and x 15

pub low_ok : (v : List ℕ) → IsHalf v → SwzOk w8 16 32 0 (zip2 bit_and v (replicate 32 15))
low_ok v fits =
    let small = Each1-all (λ a. bit_and a 15 < 16) (λ a. omega (arith, and_le_r a 15)) v in
    SwzOk-from_below w8 16 2 32 0 (zip2 bit_and v (replicate 32 15)) refl (omega (arith, length-zip2 bit_and v (replicate 32 15) fits.0))
    (Each1-zip2 bit_and (λ j. j < 16) v (replicate 32 15) (Each2-splat (λ a b. bit_and a b < 16) v 32 15 small))

-- a table t of two copies of s, read at the low halves
looked_up : (t s : List ℕ) (v : List ℕ) → IsHalf v → T (upto
    (λ i. upto (λ j. eqb (get_or t (16 * ((0 + i) / 16) + j) 0) (get_or s j 0)) 16) 32)
    → swz_l w8 16 t 0 (zip2 bit_and v (replicate 32 15)) ≡ map (λ x. get_or s (low_half x) 0) v
looked_up t s v fits copies =
    let js = zip2 bit_and v (replicate 32 15) in
    let e : js ≡ map low_half v = zip2_splat bit_and v 32 15 fits.0 in
    let long : length js ≡ 32 = ap length e ∙ length-map v low_half ∙ fits.0 in
    ext_get_or 0 _ _ (length-swz_l w8 16 t 0 js ∙ long ∙ sym (length-map v (λ x. get_or s (low_half x) 0) ∙ fits.0)) (λ i h.
    let lt : i < 32 = omega (arith, length-swz_l w8 16 t 0 js) in
    let within : i < length v = omega (arith, fits.0) in
    let is : get_or js i 0 ≡ low_half (get_or v i 0) = ap (λ l. get_or l i 0) e ∙ get_or-map low_half v i 0 0 within in
    let below : get_or js i 0 < 16 = omega (arith, and_le_r (get_or v i 0) 15) in
    let row = upto_sound (λ a. upto (λ j. eqb (get_or t (16 * ((0 + a) / 16) + j) 0) (get_or s j 0)) 16) 32 copies i lt in
    get_or-swz_l_below w8 16 t 0 js i (omega arith) below
    ∙ eqb→eq _ _ (upto_sound (λ j. eqb (get_or t (16 * ((0 + i) / 16) + j) 0) (get_or s j 0)) 16 row (get_or js i 0) below)
    ∙ ap (λ k. get_or s k 0) is ∙ sym (get_or-map (λ x. get_or s (low_half x) 0) v i 0 0 within))

each_byte : (p q : ℕ → Bool) (v : List ℕ) → Each1 (Fits w8) v → T (upto (λ x. same (p x) (q x)) 256) → map p v ≡ map q v
each_byte p q [] h all = refl
each_byte p q (x ∷ xs) h all = ap₂ (λ a b. a ∷ b) (same_is _ _ (upto_sound (λ y. same (p y) (q y)) 256 all x h.0.fits))
    (each_byte p q xs h.1 all)

abbrev hit : ℕ → ℕ → ℕ
hit a b = cond (eqb a b) (2 ^ 8 - 1) 0

-- the word of a comparison of what f and g give
compared : (f g : ℕ → ℕ) (p : ℕ → Bool) (v : List ℕ) {xs ys : List ℕ} → IsHalf v → xs ≡ map f v → ys ≡ map g v
    → T (upto (λ x. same (eqb (f x) (g x)) (p x)) 256)
    → mask_l (map (top 7) (zip2 hit xs ys)) % 2 ^ 64 ≡ mask_l (map p v)
compared f g p v {xs} {ys} fits e h all =
    let is : map (top 7) (zip2 hit xs ys) ≡ map p v = tops_compared w8 eqb xs ys ∙ zip2_of_maps eqb f g v e h
    ∙ each_byte (λ x. eqb (f x) (g x)) p v fits.1 all in
    ap (λ l. mask_l l % 2 ^ 64) is ∙ mask_l-mod (map p v) 64 (omega (arith, length-map v p, fits.0))

map-id : (v : List ℕ) → v ≡ map (λ x. x) v
map-id [] = refl
map-id (x ∷ xs) = ap (λ l. x ∷ l) (map-id xs)

-- a byte against what a table has at its low half
pub against_table : (t s : List ℕ) (p : ℕ → Bool) (v : List ℕ) → IsHalf v
    → T (upto (λ i. upto (λ j. eqb (get_or t (16 * ((0 + i) / 16) + j) 0) (get_or s j 0)) 16) 32)
    → T (upto (λ x. same (eqb x (get_or s (low_half x) 0)) (p x)) 256)
    → mask_l (map (top 7) (zip2 hit v (swz_l w8 16 t 0 (zip2 bit_and v (replicate 32 15))))) % 2 ^ 64 ≡ mask_l (map p v)
against_table t s p v fits copies all = compared (λ x. x) (λ x. get_or s (low_half x) 0) p v fits (map-id v)
    (looked_up t s v fits copies) all

-- the same, with one bit of the byte set
pub against_table_with : (k : ℕ) (t s : List ℕ) (p : ℕ → Bool) (v : List ℕ) → IsHalf v
    → T (upto (λ i. upto (λ j. eqb (get_or t (16 * ((0 + i) / 16) + j) 0) (get_or s j 0)) 16) 32)
    → T (upto (λ x. same (eqb (bit_or x k) (get_or s (low_half x) 0)) (p x)) 256)
    → mask_l (map (top 7) (zip2 hit (zip2 bit_or v (replicate 32 k)) (swz_l w8 16 t 0 (zip2 bit_and v (replicate 32 15)))))
    % 2 ^ 64 ≡ mask_l (map p v)
against_table_with k t s p v fits copies all = compared (λ x. bit_or x k) (λ x. get_or s (low_half x) 0) p v fits
    (zip2_splat bit_or v 32 k fits.0) (looked_up t s v fits copies) all

-- ---- two halves

pub two_halves : (p : ℕ → Bool) (xs ys zs : List ℕ) (a b : ℕ) → length xs ≡ 32 → length ys ≡ 32 → xs ++ ys ≡ zs
    → a ≡ mask_l (map p xs) → b ≡ mask_l (map p ys)
    → HasBits (bit_or a (shl 32 b)) (λ i. p (get_or zs i 0))
two_halves p xs ys zs a b m n e ae be = record {
  small =
      let l : mask_l (map p xs) < 2 ^ length (map p xs) = mask_l-lt (map p xs) in
      let w : 2 ^ length (map p xs) ≡ 2 ^ 32 = ap (λ k. 2 ^ k) (length-map xs p ∙ m) in
      or_lt 64 a (shl 32 b) (omega arith) (mod-lt (b * 2 ^ 32) (pow_pos 64));
  bits = λ i l. is_set-or a (shl 32 b) i ∙ at i l (cases_lt i 32);
}
  where
    none : (xs : List ℕ) (i : ℕ) → length xs ≤ i → get_or (map p xs) i false ≡ false
    none xs i l = get_or_past (map p xs) i false (omega (arith, length-map xs p))

    at : (i : ℕ) → i < 64 → (i < 32) ⊎ (32 ≤ i) → (is_set a i || is_set (shl 32 b) i) ≡ p (get_or zs i 0)
    at i l (inl g) =
        let within : i < length xs = omega arith in
        ap₂ (λ s t. s || t) (ap (λ k. is_set k i) ae ∙ is_set-mask_l (map p xs) i ∙ get_or-map p xs i 0 false within)
        (is_set-shl_low 32 i b g l)
        ∙ or-false _ ∙ ap p (sym (get_or_append_left xs ys 0 i within) ∙ ap (λ k. get_or k i 0) e)
    at i l (inr g) =
        let j = i - 32 in
        let is : i ≡ 32 + j = omega arith in
        let within : j < length ys = omega arith in
        ap₂ (λ s t. s || t) (ap (λ k. is_set k i) ae ∙ is_set-mask_l (map p xs) i ∙ none xs i (omega arith))
        (ap (is_set (shl 32 b)) is ∙ is_set-shl_high 32 j b (omega arith) ∙ ap (λ k. is_set k j) be
        ∙ is_set-mask_l (map p ys) j ∙ get_or-map p ys j 0 false within)
        ∙ ap p (sym (get_or-append_right xs ys 32 i 0 m g) ∙ ap (λ k. get_or k i 0) e)

abbrev pub low_lanes : List ℕ → List ℕ
low_lanes bs = chunk 0 32 (take 32 bs)

abbrev pub high_lanes : List ℕ → List ℕ
high_lanes bs = chunk 0 32 (take 32 (drop 32 bs))

pub lanes-join : (bs : List ℕ) → length bs ≡ 64 → low_lanes bs ++ high_lanes bs ≡ bs
lanes-join bs h =
    let rest : length (drop 32 bs) ≤ 32 = omega (arith, length-drop 32 bs) in
    ap₂ (λ xs ys. xs ++ ys) (take-take 32 32 bs (omega arith))
    (take-take 32 32 (drop 32 bs) (omega arith) ∙ take_all 32 (drop 32 bs) rest) ∙ take-append-drop 32 bs

pub low-length : (bs : List ℕ) → length bs ≡ 64 → length (low_lanes bs) ≡ 32
low-length bs h = length-chunk 0 32 (take 32 bs) (omega (arith, length-take-le 32 bs))

pub high-length : (bs : List ℕ) → length bs ≡ 64 → length (high_lanes bs) ≡ 32
high-length bs h = length-chunk 0 32 (take 32 (drop 32 bs)) (omega (arith, length-take-le 32 (drop 32 bs), length-drop 32 bs))

pub two_lanes : (p : ℕ → Bool) (bs : List ℕ) (a b : ℕ) → length bs ≡ 64 → a ≡ mask_l (map p (low_lanes bs))
    → b ≡ mask_l (map p (high_lanes bs)) → HasBits (bit_or a (shl 32 b)) (λ i. p (get_or bs i 0))
two_lanes p bs a b h = two_halves p (low_lanes bs) (high_lanes bs) bs a b (low-length bs h) (high-length bs h) (lanes-join bs h)

-- the word of a test of each lane against one number
abbrev pub test_word : (ℕ → ℕ → Bool) → ℕ → List ℕ → ℕ
test_word t k xs = mask_l (map (top 7) (zip2 (λ a b. cond (t a b) (2 ^ 8 - 1) 0) xs (replicate 32 k))) % 2 ^ 64

pub two_tests : (t : ℕ → ℕ → Bool) (k : ℕ) (bs : List ℕ) → length bs ≡ 64
    → HasBits (bit_or (test_word t k (low_lanes bs)) (shl 32 (test_word t k (high_lanes bs)))) (λ i. t (get_or bs i 0) k)
two_tests t k bs h = two_lanes (λ x. t x k) bs _ _ h (bitmask_splat w8 t (low_lanes bs) 32 k (low-length bs h) (omega arith))
    (bitmask_splat w8 t (high_lanes bs) 32 k (high-length bs h) (omega arith))

-- ---- a byte in either half

hits : (k : ℕ) (xs ys : List ℕ) → length xs ≡ length ys
    → map (top 7) (zip2 bit_or (zip2 hit xs (replicate (length xs) k)) (zip2 hit ys (replicate (length ys) k))) ≡ zip2
    (λ x y. eqb x k || eqb y k) xs ys
hits k [] ys h = refl
hits k (x ∷ xs) [] h = absurd (omega arith)
hits k (x ∷ xs) (y ∷ ys) h = ap₂ (λ t l. t ∷ l) (either (eqb x k) (eqb y k)) (hits k xs ys (omega arith))
  where
    either : (s t : Bool) → top 7 (bit_or (cond s (2 ^ 8 - 1) 0) (cond t (2 ^ 8 - 1) 0)) ≡ (s || t)
    either = equal-two (λ s t. top 7 (bit_or (cond s (2 ^ 8 - 1) 0) (cond t (2 ^ 8 - 1) 0))) (λ s t. s || t) tt

mask-any : (ms : List Bool) → not (eqb (mask_l ms) 0) ≡ list_any (λ t. t) ms
mask-any [] = refl
mask-any (true ∷ ms) = ap not (ne_eqb (1 + 2 * mask_l ms) 0 (λ e. omega arith))
mask-any (false ∷ ms) = ap not (go (mask_l ms)) ∙ mask-any ms
  where
    go : (n : ℕ) → eqb (0 + 2 * n) 0 ≡ eqb n 0
    go zero = refl
    go (suc n) = ne_eqb (0 + 2 * suc n) 0 (λ e. omega arith) ∙ sym (ne_eqb (suc n) 0 (λ e. omega arith))

any-zip : (p : ℕ → Bool) (xs ys : List ℕ) → length xs ≡ length ys
    → list_any (λ t. t) (zip2 (λ x y. p x || p y) xs ys) ≡ (list_any p xs || list_any p ys)
any-zip p [] [] h = refl
any-zip p [] (y ∷ ys) h = absurd (omega arith)
any-zip p (x ∷ xs) [] h = absurd (omega arith)
any-zip p (x ∷ xs) (y ∷ ys) h = ap (λ t. (p x || p y) || t) (any-zip p xs ys (omega arith))
    ∙ mixed (p x) (p y) (list_any p xs) (list_any p ys)
  where
    mixed : (a b c d : Bool) → ((a || b) || (c || d)) ≡ ((a || c) || (b || d))
    mixed true b c d = refl
    mixed false true true d = refl
    mixed false true false d = refl
    mixed false false c d = refl

pub any_in_lanes : (k : ℕ) (xs ys : List ℕ) → length xs ≡ 32 → length ys ≡ 32
    → not (eqb (mask_l (map (top 7) (zip2 bit_or (zip2 hit xs (replicate 32 k)) (zip2 hit ys (replicate 32 k)))) % 2 ^ 64) 0)
    ≡ list_any (λ x. eqb x k) (xs ++ ys)
any_in_lanes k xs ys m n =
    let short : length (zip2 (λ x y. eqb x k || eqb y k) xs ys) ≤ 64 = omega
    (arith, length-zip2 (λ x y. eqb x k || eqb y k) xs ys (m ∙ sym n)) in
    ap (λ l. not (eqb (mask_l l % 2 ^ 64) 0)) (ap₂ (λ i j. map (top 7)
    (zip2 bit_or (zip2 hit xs (replicate i k)) (zip2 hit ys (replicate j k)))) (sym m) (sym n) ∙ hits k xs ys (m ∙ sym n))
    ∙ ap (λ w. not (eqb w 0)) (mask_l-mod _ 64 short) ∙ mask-any _ ∙ any-zip (λ x. eqb x k) xs ys (m ∙ sym n)
    ∙ sym (list_any-append (λ x. eqb x k) xs ys)

-- ---- ASCII in both halves

pub ascii_lanes : (xs ys : List ℕ) → length xs ≡ 32 → length ys ≡ 32
    → mask_l (map (top 7) (zip2 (λ a b. cond (leb a b) (2 ^ 8 - 1) 0) (replicate 32 128) (zip2 bit_or xs ys))) % 2 ^ 64 ≡ 0
    → (i : ℕ) → i < 32 → (get_or xs i 0 < 128) × (get_or ys i 0 < 128)
ascii_lanes xs ys m n none i l =
    let ors : List ℕ = zip2 bit_or xs ys in
    let long : length ors ≡ 32 = length-zip2 bit_or xs ys (m ∙ sym n) ∙ m in
    let is : map (top 7) (zip2 (λ a b. cond (leb a b) (2 ^ 8 - 1) 0) (replicate 32 128) ors) ≡ map (leb 128)
    ors = tops_compared w8 leb (replicate 32 128) ors ∙ zip2_splat_left leb 128 32 ors long in
    let zero : mask_l (map (leb 128) ors) ≡ 0 = sym (mask_l-mod (map (leb 128) ors) 64 (omega (arith, length-map ors (leb 128))))
    ∙ ap (λ l. mask_l l % 2 ^ 64) (sym is) ∙ none in
    let clear : leb 128 (get_or ors i 0) ≡ false = sym (get_or-map (leb 128) ors i 0 false (omega arith))
    ∙ sym (is_set-mask_l (map (leb 128) ors) i) ∙ ap (λ w. is_set w i) zero ∙ is_set-zero i in
    let small : get_or ors i 0 < 128 = leb-false 128 (get_or ors i 0) clear in
    let lane : get_or ors i 0 ≡ bit_or (get_or xs i 0) (get_or ys i 0) = get_or-zip2 bit_or xs ys i 0 0 0 (omega arith) (omega arith) in
    (omega (arith, le_or_l (get_or xs i 0) (get_or ys i 0)), omega (arith, le_or_r (get_or xs i 0) (get_or ys i 0)))

-- the bytes of both halves
pub ascii_bytes : (bs : List ℕ) → length bs ≡ 64 → ((i : ℕ) → i < 32 → (get_or (low_lanes bs) i 0 < 128)
    × (get_or (high_lanes bs) i 0 < 128)) → (i : ℕ) → i < 64 → get_or bs i 0 < 128
ascii_bytes bs long both i l = subst (λ xs. get_or xs i 0 < 128) (lanes-join bs long) (elim (cases_lt i 32) [
  | inl below ↦ subst (λ x. x < 128) (sym (get_or_append_left (low_lanes bs) (high_lanes bs) 0 i
      (omega (arith, low-length bs long)))) (both i below).0
  | inr above ↦ subst (λ x. x < 128) (sym (get_or-append_right (low_lanes bs) (high_lanes bs) 32 i 0 (low-length bs long) above))
      (both (i - 32) (omega arith)).1
])
