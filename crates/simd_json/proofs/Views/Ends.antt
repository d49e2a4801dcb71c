-- Lists of bytes as the numbers that their parts spell.
use Rattle.std.proofs.Common.{◌≡◌, ◌∙◌, sym, ap, ap₂, ℕ, zero, suc, ◌+◌, ◌-◌, ◌<◌, ◌≤◌, ◌++◌, List, [], ◌∷◌, length, take, drop, get_or}
use Rattle.std.proofs.Common.{length-drop, eqb, true, bytes_eq, arith, drop-drop, get_or-drop, length-take-le, take-append-drop, take_all}
use Rattle.std.proofs.lemmas.Bool.{eq-eqb, eqb-true}
use Rattle.std.proofs.lemmas.Bool.Decides.{same_from_decides}
use Rattle.std.proofs.lemmas.Slice.Eq.{bytes_eq-Decides}

abbrev AreBytes : List ℕ → Type 0
AreBytes xs = (i : ℕ) → get_or xs i 0 < 256

bytes-take : (n : ℕ) (xs : List ℕ) → AreBytes xs → AreBytes (take n xs)
bytes-take zero xs h i = omega arith
bytes-take (suc n) [] h i = h i
bytes-take (suc n) (x ∷ xs) h zero = h 0
bytes-take (suc n) (x ∷ xs) h (suc i) = bytes-take n xs (λ k. h (suc k)) i

-- n bytes from i on
pub part-length : (n i : ℕ) (xs : List ℕ) → i + n ≤ length xs → length (take n (drop i xs)) ≡ n
part-length n i xs inside = length-take-le n (drop i xs) (omega (arith, length-drop i xs))

pub part-bytes : (n i : ℕ) (xs : List ℕ) → AreBytes xs → AreBytes (take n (drop i xs))
part-bytes n i xs h = bytes-take n (drop i xs) (λ k. omega (arith, get_or-drop i xs k 0, h (i + k)))

-- The first n and those from i on, which overlap or meet, are all.
covered : (n i : ℕ) (xs ys : List ℕ) → i ≤ n → take n xs ≡ take n ys → drop i xs ≡ drop i ys → xs ≡ ys
covered n i xs ys most front back =
    let rest : (zs : List ℕ) → drop n zs ≡ drop (n - i) (drop i zs) =
    λ zs. ap (λ m. drop m zs) (omega arith) ∙ sym (drop-drop (n - i) i zs) in
    sym (take-append-drop n xs) ∙ ap₂ (λ f b. f ++ b) front (rest xs ∙ ap (drop (n - i)) back ∙ sym (rest ys)) ∙ take-append-drop n ys

-- Where the first n bytes spell one number, two lists of one length are the same exactly if the last n do: `number` reads n bytes, and
-- `spelt` gives them back.
pub same-ends : (n : ℕ) (number : List ℕ → ℕ) (spelt : ℕ → List ℕ) {p q r s : ℕ} {xs ys : List ℕ} (ks os : List ℕ) → xs ≡ ks → ys ≡ os
    → length ks ≡ length os → n ≤ length os → length os ≤ n + n
    → p ≡ q → spelt p ≡ take n xs → spelt q ≡ take n ys
    → r ≡ number (take n (drop (length os - n) xs)) → spelt r ≡ take n (drop (length os - n) xs)
    → s ≡ number (take n (drop (length os - n) ys)) → spelt s ≡ take n (drop (length os - n) ys)
    → eqb r s ≡ bytes_eq ks os
same-ends n number spelt {p} {q} {r} {s} {xs} {ys} ks os left right same least most e first other-first is last js other-last =
    let i = length os - n in
    let all : (zs : List ℕ) → length zs ≡ length os → take n (drop i zs) ≡ drop i zs =
    λ zs l. take_all n (drop i zs) (omega (arith, length-drop i zs)) in
    let to : eqb r s ≡ true → ks ≡ os = λ t.
    sym left ∙ covered n i xs ys (omega arith) (sym first ∙ ap spelt e ∙ other-first)
    (sym (all xs (ap length left ∙ same)) ∙ sym last ∙ ap spelt (eqb-true r s t) ∙ other-last ∙ all ys (ap length right)) ∙ right in
    let from : ks ≡ os → eqb r s ≡ true = λ t.
    eq-eqb r s (is ∙ ap (λ zs. number (take n (drop i zs))) (left ∙ t ∙ sym right) ∙ sym js) in
    same_from_decides (eqb r s) (bytes_eq ks os) (to, from) (bytes_eq-Decides ks os)
