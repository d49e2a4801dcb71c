-- A string without a backslash is one run of plain bytes, up to its closing quote.
use Rattle.std.proofs.Common.{◌≡◌, ◌≢◌, refl, sym, ◌∙◌, ap, subst, ℕ, suc, ◌+◌, ◌<◌, List, [], ◌∷◌, length, drop, Bool, true, false}
use Rattle.std.proofs.Common.{not, cond, ◌||◌, ◌&&◌, ◌≤◌, nat_eq, arith}
use Rattle.std.specs.Prelude.{IsUtf8}
use Rattle.std.specs.List.{prefix_len}
use Rattle.std.proofs.lemmas.Bool.{eqb-true, ne_eqb}
use Rattle.std.proofs.lemmas.List.{get_or-drop, length-drop}
use Rattle.simd_json_parts.specs.Bytes.{quote, backslash, byte_at}
use Rattle.simd_json_parts.specs.StringAt.{closing_quote}
use Rattle.simd_json_scalars.specs.StringContent.{content, is_plain}
use Rattle.simd_json_scalars.specs.StringDecoded.{IsDecoded}
use Rattle.simd_json_scalars.proofs.Strings.Content.{content-quote, content-byte, content_from-next, closing_quote-content}
use Rattle.simd_json_scalars.proofs.Strings.Decoding.{run-decoded}
use Rattle.simd_json_scalars.proofs.Strings.Reader.{opened}

-- where the content of some bytes ends
abbrev EndsPlain : List ℕ → ℕ → Type 0
EndsPlain us n = (prefix_len is_plain us ≡ n) × (byte_at us n ≡ quote)

plain-run : (us : List ℕ) → ((k : ℕ) → k < length (content us) → byte_at us k ≢ backslash) → length (content us) < length us
    → EndsPlain us (length (content us))
plain-run [] plain l = absurd (omega (arith, l))
plain-run (x ∷ xs) plain l = by_byte (nat_eq x 34) refl (plain-run xs) where
  by_byte : (t : Bool) → nat_eq x 34 ≡ t
      → (((k : ℕ) → k < length (content xs) → byte_at xs k ≢ backslash) → length (content xs) < length xs
      → EndsPlain xs (length (content xs)))
      → EndsPlain (x ∷ xs) (length (content (x ∷ xs)))
  by_byte true is later =
      let here : x ≡ 34 = eqb-true x 34 is in
      subst (λ y. EndsPlain (y ∷ xs) (length (content (y ∷ xs)))) (sym here)
      (subst (EndsPlain (34 ∷ xs)) (sym (ap length (content-quote xs))) (refl, refl))
  by_byte false is later =
      let some : 0 < length (content (x ∷ xs)) = omega (arith, ap length (content_from-next false x xs (ap (λ t. t && true) is))) in
      let other : nat_eq x 92 ≡ false = ne_eqb x 92 (plain 0 some) in
      let size : length (content (x ∷ xs)) ≡ suc (length (content xs)) = ap length (content-byte x xs is other) in
      let rest = later (λ k within. plain (suc k) (omega (arith, within, size))) (omega (arith, l, size)) in
      let here : is_plain x ≡ true = ap (λ t. not (t || nat_eq x 92)) is ∙ ap not other in
      let one_more : 1 + prefix_len is_plain xs ≡ suc (length (content xs)) = omega (arith, rest.0) in
      subst (EndsPlain (x ∷ xs)) (sym size) (ap (λ t. cond t (1 + prefix_len is_plain xs) 0) here ∙ one_more, rest.1)

-- The string whose bytes up to its closing quote are plain is read up to that, and stays where it is.
pub plain-decoded : (bs : List ℕ) (closing : ℕ) → byte_at bs 0 ≡ quote → closing ≡ closing_quote bs 0 → closing < length bs
    → ((i : ℕ) → 0 < i → i < closing → byte_at bs i ≢ backslash)
    → IsUtf8 bs → (1 ≤ closing) × IsDecoded bs 1 1 bs closing closing × (byte_at bs closing ≡ quote)
plain-decoded bs closing opening is l plain utf8 =
    let us : List ℕ = drop 1 bs in
    let size : closing ≡ 1 + length (content us) = is ∙ closing_quote-content bs 0 opening in
    let after : (k : ℕ) → byte_at us k ≡ byte_at bs (1 + k) = λ k. get_or-drop 1 bs k 32 in
    let ends = plain-run us (λ k within at. plain (1 + k) (omega arith) (omega (arith, within, size)) (sym (after k) ∙ at))
    (omega (arith, size, l, length-drop 1 bs)) in (
      omega (arith, size),
      run-decoded bs 1 closing (opened bs opening (subst (λ n. n < length bs) is l) utf8)
          (size ∙ ap (λ n. 1 + n) (sym ends.0)),
      ap (byte_at bs) size ∙ sym (after (length (content us))) ∙ ends.1,
    )
