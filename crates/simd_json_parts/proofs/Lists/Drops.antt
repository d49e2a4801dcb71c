-- What stands at an index, where the list from there on is known.
use Rattle.std.proofs.Common.{◌≡◌, sym, ◌∙◌, ap, ℕ, zero, suc, ◌+◌, ◌-◌, ◌<◌, ◌≤◌, List, [], ◌∷◌, ◌++◌, length, drop, get_or, arith}
use Rattle.std.proofs.lemmas.List.{get_or-drop}
use Rattle.std.proofs.Math.Seq.{drop-drop, drop-append_seam}
use Rattle.simd_json_parts.specs.Bytes.{byte_at}

pub drop-head : (k : ℕ) (b : List ℕ) (x : ℕ) (zs : List ℕ) → drop k b ≡ x ∷ zs → byte_at b k ≡ x
drop-head zero [] x zs e = cc
drop-head zero (y ∷ b) x zs e = ap (λ us. get_or us 0 0) e
drop-head (suc k) [] x zs e = cc
drop-head (suc k) (y ∷ b) x zs e = drop-head k b x zs e

pub drop-tail : (k : ℕ) (b : List ℕ) (x : ℕ) (zs : List ℕ) → drop k b ≡ x ∷ zs → drop (suc k) b ≡ zs
drop-tail zero [] x zs e = cc
drop-tail zero (y ∷ b) x zs e = ap (drop 1) e
drop-tail (suc k) [] x zs e = cc
drop-tail (suc k) (y ∷ b) x zs e = drop-tail k b x zs e

pub drop-inside : (k : ℕ) (b : List ℕ) (x : ℕ) (zs : List ℕ) → drop k b ≡ x ∷ zs → k < length b
drop-inside zero [] x zs e = cc
drop-inside zero (y ∷ b) x zs e = omega arith
drop-inside (suc k) [] x zs e = cc
drop-inside (suc k) (y ∷ b) x zs e = let h : k < length b = drop-inside k b x zs e in omega arith

pub drop-through : (k : ℕ) (b xs zs : List ℕ) → drop k b ≡ xs ++ zs → drop (k + length xs) b ≡ zs
drop-through k b xs zs e = sym (drop-drop (length xs) k b) ∙ ap (drop (length xs)) e ∙ drop-append_seam xs zs

-- What is the same from an index on is the same further on,
pub drop-further : (xs ys : List ℕ) (i j : ℕ) → i ≤ j → drop i xs ≡ drop i ys → drop j xs ≡ drop j ys
drop-further xs ys i j l e =
    let there : i + (j - i) ≡ j = omega arith in
    ap (λ n. drop n xs) (sym there) ∙ sym (drop-drop (j - i) i xs) ∙ ap (drop (j - i)) e ∙ drop-drop (j - i) i ys
    ∙ ap (λ n. drop n ys) there

-- and so is the byte there.
pub drop-byte : (xs ys : List ℕ) (i : ℕ) → drop i xs ≡ drop i ys → byte_at xs i ≡ byte_at ys i
drop-byte xs ys i e =
    let same : i ≡ i + 0 = omega arith in
    ap (byte_at xs) same ∙ sym (get_or-drop i xs 0 32) ∙ ap (λ us. byte_at us 0) e ∙ get_or-drop i ys 0 32 ∙ ap (byte_at ys) (sym same)
