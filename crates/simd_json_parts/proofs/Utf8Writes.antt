-- A character's UTF-8, written byte by byte.
use Rattle.std.proofs.Common.{◌≡◌, refl, ℕ, ◌+◌, ◌-◌, ◌/◌, ◌%◌, ◌<◌, ◌≤◌, List, [], ◌∷◌, ◌++◌, length, take, drop, slice_set}
use Rattle.std.proofs.Common.{append-nil, sym, ◌∙◌, ap, arith}
use Rattle.std.specs.Char.{encode_utf8}
use Rattle.std.proofs.lemmas.Bool.{lt-ltb, le-ltb}
use Rattle.std.proofs.lemmas.Grind.{common_steps}
use borrow.Rule.Slice.PartMut.{put_mid, post_of}
use Rattle.std.proofs.lemmas.List.{drop-drop, drop_at, drop_all, take_rest, length-take-le, length-drop}

-- the first two bytes set
two-set : (b : List ℕ) (p q : ℕ) → 2 ≤ length b → slice_set (slice_set b 0 p) 1 q ≡ p ∷ q ∷ drop 2 b
two-set (x ∷ y ∷ b) p q l = refl
two-set _ p q l = absurd (omega arith)

-- the first three
three-set : (b : List ℕ) (p q r : ℕ) → 3 ≤ length b → slice_set (slice_set (slice_set b 0 p) 1 q) 2 r ≡ p ∷ q ∷ r ∷ drop 3 b
three-set (x ∷ y ∷ z ∷ b) p q r l = refl
three-set _ p q r l = absurd (omega arith)

-- the first four
four-set : (b : List ℕ) (p q r s : ℕ) → 4 ≤ length b
    → slice_set (slice_set (slice_set (slice_set b 0 p) 1 q) 2 r) 3 s ≡ p ∷ q ∷ r ∷ s ∷ drop 4 b
four-set (x ∷ y ∷ z ∷ w ∷ b) p q r s l = refl
four-set _ p q r s l = absurd (omega arith)

-- Two bytes are a character below U+0800,
pub two-written : (b : List ℕ) (c : ℕ) → 2 ≤ length b → 128 ≤ c → c < 2048
    → slice_set (slice_set b 0 (192 + c / 64)) 1 (128 + c % 64) ≡ encode_utf8 c ++ drop 2 b
unfolding encode_utf8
two-written b c l h k = two-set b _ _ l ∙ simp (le-ltb c 128 h, lt-ltb c 2048 k)

-- three one below U+10000,
pub three-written : (b : List ℕ) (c : ℕ) → 3 ≤ length b → 2048 ≤ c → c < 65536
    → slice_set (slice_set (slice_set b 0 (224 + c / 4096)) 1 (128 + c / 64 % 64)) 2 (128 + c % 64) ≡ encode_utf8 c ++ drop 3 b
unfolding encode_utf8
three-written b c l h k = three-set b _ _ _ l ∙ simp (le-ltb c 128 (omega arith), le-ltb c 2048 h, lt-ltb c 65536 k)

-- and four any other.
pub four-written : (b : List ℕ) (c : ℕ) → 4 ≤ length b → 65536 ≤ c
    → slice_set (slice_set (slice_set (slice_set b 0 (240 + c / 262144)) 1 (128 + c / 4096 % 64)) 2 (128 + c / 64 % 64)) 3
    (128 + c % 64) ≡ encode_utf8 c ++ drop 4 b
unfolding encode_utf8
four-written b c l h = four-set b _ _ _ _ l ∙ simp (le-ltb c 128 (omega arith), le-ltb c 2048 (omega arith), le-ltb c 65536 h)

-- what a list becomes when a prefix is written at an index: nothing before it changes, and nothing after it
pub record IsWritten (xs zs prefix : List ℕ) (at n : ℕ) : Type 0 where
  pub written : take (at + n) zs ≡ take at xs ++ prefix
  pub unread : drop (at + n) zs ≡ drop (at + n) xs
  pub same_length : length zs ≡ length xs

put_mid-written : (xs ys prefix : List ℕ) (at n : ℕ) → at + n ≤ length xs → length prefix ≡ n
    → ys ≡ prefix ++ drop n (take (length xs - at) (drop at xs)) → take (at + n) (put_mid at (length xs - at) xs ys) ≡ take at xs ++ prefix
put_mid-written xs ys prefix at n fits size e = grind (arith, common_steps)

put_mid-length : (xs ys prefix : List ℕ) (at n : ℕ) → at + n ≤ length xs → length prefix ≡ n
    → ys ≡ prefix ++ drop n (take (length xs - at) (drop at xs)) → length (put_mid at (length xs - at) xs ys) ≡ length xs
put_mid-length xs ys prefix at n fits size e = grind (arith, common_steps)

put_mid-unread : (xs ys prefix : List ℕ) (at n : ℕ) → at + n ≤ length xs → length prefix ≡ n
    → ys ≡ prefix ++ drop n (take (length xs - at) (drop at xs)) → drop (at + n) (put_mid at (length xs - at) xs ys) ≡ drop (at + n) xs
put_mid-unread xs ys prefix at n fits size e =
    let rest : List ℕ = drop n (take (length xs - at) (drop at xs)) in
    let none : post_of at (length xs - at) xs ≡ [] = drop_all (length xs - at) (drop at xs) (omega (arith, length-drop at xs)) in
    sym (drop-drop n at (put_mid at (length xs - at) xs ys))
    ∙ ap (drop n) (drop_at (take at xs) (ys ++ post_of at (length xs - at) xs) at (length-take-le at xs (omega arith)))
    ∙ ap (λ us. drop n (ys ++ us)) none
    ∙ ap (drop n) (append-nil ys ∙ e)
    ∙ drop_at prefix rest n size
    ∙ ap (drop n) (take_rest xs at)
    ∙ drop-drop n at xs

-- So is one that is written at the front of what stands from that index on.
pub put_mid-prefix : (xs ys prefix : List ℕ) (at n : ℕ) → at + n ≤ length xs → length prefix ≡ n
    → ys ≡ prefix ++ drop n (take (length xs - at) (drop at xs)) → IsWritten xs (put_mid at (length xs - at) xs ys) prefix at n
put_mid-prefix xs ys prefix at n fits size e = record {
  written = put_mid-written xs ys prefix at n fits size e;
  unread = put_mid-unread xs ys prefix at n fits size e;
  same_length = put_mid-length xs ys prefix at n fits size e;
}
