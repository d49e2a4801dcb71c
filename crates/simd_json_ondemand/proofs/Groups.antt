-- Brackets among the first bytes of a group, as bits of a word.
use Rattle.std.proofs.Common.{◌≡◌, refl, sym, ◌∙◌, ap, ap₂, ℕ, suc, ◌+◌, ◌-◌, ◌%◌, ◌^◌, ◌<◌, ◌≤◌, Bool, cond, eqb, w8, Fits, List, [], ◌∷◌}
use Rattle.std.proofs.Common.{length, map, take, drop, get_or, slice_index_or, replicate, bit_or, arith, drop-cons}
use Rattle.std.proofs.lemmas.List.{get_or_default}
use Rattle.std.proofs.lemmas.Simd.{bitmask_splat, zip2_splat, length-zip2, map-map}
use lib.Lanes.{zip2, mask_l, top, Each1}
use Rattle.simd_json_parts.specs.Bytes.{byte_at, is_closing, is_opening}
use Rattle.simd_json_stages.proofs.Scan.Bits.Computed.{upto_sound, same, same_is}
use Rattle.simd_json_ondemand.specs.Closing.{first_bytes, AreWithin}

pub test_opening : (x : ℕ) → x < 256 → eqb (bit_or x 32) 123 ≡ is_opening x
test_opening x l = same_is _ _ (upto_sound (λ y. same (eqb (bit_or y 32) 123) (is_opening y)) 256 tt x l)

pub test_closing : (x : ℕ) → x < 256 → eqb (bit_or x 32) 125 ≡ is_closing x
test_closing x l = same_is _ _ (upto_sound (λ y. same (eqb (bit_or y 32) 125) (is_closing y)) 256 tt x l)

each_byte : (p q : ℕ → Bool) (v : List ℕ) → Each1 (Fits w8) v → ((x : ℕ) → x < 256 → p x ≡ q x) → map p v ≡ map q v
each_byte p q [] h all = refl
each_byte p q (x ∷ xs) h all = ap₂ (λ a b. a ∷ b) (all x h.0.fits) (each_byte p q xs h.1 all)

-- the word of a comparison of eight bytes `| 0x20` with one
pub compared : (k : ℕ) (p : ℕ → Bool) (v : List ℕ) → length v ≡ 8 → Each1 (Fits w8) v
    → ((x : ℕ) → x < 256 → eqb (bit_or x 32) k ≡ p x)
    → mask_l (map (top 7) (zip2 (λ a b. cond (eqb a b) (2 ^ 8 - 1) 0) (zip2 bit_or v (replicate 8 32)) (replicate 8 k))) % 2 ^ 64
    ≡ mask_l (map p v)
compared k p v long fits all =
    let ors : zip2 bit_or v (replicate 8 32) ≡ map (λ x. bit_or x 32) v = zip2_splat bit_or v 8 32 long in
    let size : length (zip2 bit_or v (replicate 8 32)) ≡ 8 = length-zip2 bit_or v (replicate 8 32) long ∙ long in
    bitmask_splat w8 eqb (zip2 bit_or v (replicate 8 32)) 8 k size (omega arith)
    ∙ ap (λ l. mask_l (map (λ x. eqb x k) l)) ors ∙ ap mask_l (map-map (λ x. eqb x k) (λ x. bit_or x 32) v)
    ∙ ap mask_l (each_byte (λ x. eqb (bit_or x 32) k) p v fits all)

-- ---- the first bytes of a group, loaded one by one

module _ (b is : List ℕ) (within : AreWithin b is) where
  unfoldable pub loaded : ℕ → ℕ
  loaded i = slice_index_or b (slice_index_or is i 0) 0

  pub loaded-byte : (i : ℕ) → i < length is → loaded i ≡ byte_at b (get_or is i 0)
  unfolding loaded
  loaded-byte i l = get_or_default b (get_or is i 0) 0 32 (within i l)

  -- one, and n after it
  next : (i j n : ℕ) → j ≡ suc i → i + suc n ≤ length is
      → loaded i ∷ first_bytes b (take n (drop j is)) ≡ first_bytes b (take (suc n) (drop i is))
  next i j n e l = ap (λ k. loaded i ∷ first_bytes b (take n (drop k is))) e
      ∙ ap (λ x. x ∷ first_bytes b (take n (drop (suc i) is))) (loaded-byte i (omega arith))
      ∙ ap (λ js. first_bytes b (take (suc n) js)) (sym (drop-cons is i 0 (omega arith)))

  pub eight : (i : ℕ) → i + 8 ≤ length is
      → (loaded i ∷ loaded (i + 1) ∷ loaded (i + 2) ∷ loaded (i + 3) ∷ loaded (i + 4) ∷ loaded (i + 5) ∷ loaded (i + 6) ∷ loaded
      (i + 7) ∷ [])
      ≡ first_bytes b (take 8 (drop i is))
  eight i l =
      let one = next (i + 7) (i + 8) 0 (omega arith) (omega arith) in
      let two = ap (λ xs. loaded (i + 6) ∷ xs) one ∙ next (i + 6) (i + 7) 1 (omega arith) (omega arith) in
      let three = ap (λ xs. loaded (i + 5) ∷ xs) two ∙ next (i + 5) (i + 6) 2 (omega arith) (omega arith) in
      let four = ap (λ xs. loaded (i + 4) ∷ xs) three ∙ next (i + 4) (i + 5) 3 (omega arith) (omega arith) in
      let five = ap (λ xs. loaded (i + 3) ∷ xs) four ∙ next (i + 3) (i + 4) 4 (omega arith) (omega arith) in
      let six = ap (λ xs. loaded (i + 2) ∷ xs) five ∙ next (i + 2) (i + 3) 5 (omega arith) (omega arith) in
      let seven = ap (λ xs. loaded (i + 1) ∷ xs) six ∙ next (i + 1) (i + 2) 6 (omega arith) (omega arith) in
      ap (λ xs. loaded i ∷ xs) seven ∙ next i (i + 1) 7 (omega arith) (omega arith)
