-- A number literal is an integer's or a decimal's and never both, and one that stands at an index is read whole.
use Rattle.std.proofs.Common.{◌≡◌, refl, sym, ◌∙◌, ap, ℕ, zero, suc, ◌+◌, ◌≤◌, lit<, lit≤, ◌⊎◌, inl, inr, List, [], ◌∷◌, ◌++◌}
use Rattle.std.proofs.Common.{length, take, drop, map, get_or, Bool, true, false, cond, ◌||◌, ◌==◌, nat_lt, IsTrue, if◌then◌else◌}
use Rattle.std.proofs.Common.{find, Some, None, Ok, add-zero, arith}
use Rattle.std.specs.Char.{digit_value}
use Rattle.std.specs.Int.Digits.{number_from_digits, number_from_digits_after}
use Rattle.std.proofs.lemmas.Bool.{and_from, le-ltb, cond-true, cond-false, false_from_ne_true}
use Rattle.std.proofs.lemmas.Int.Digits.{number_after_append, number_after_ge}
use Rattle.std.proofs.lemmas.List.{append-nil, get_or-drop, take-append-drop, map-append}
use Rattle.std.proofs.lemmas.List.Recursion.{found_nowhere}
use Rattle.std.proofs.Math.Seq.{take-append_seam}
use Rattle.simd_json_parts.specs.Bytes.{is_terminator, byte_at, indices}
use Rattle.simd_json_parts.specs.Document.{integer, decimal}
use Rattle.simd_json_parts.specs.Patterns.{Matches}
use Rattle.simd_json_parts.specs.Derivatives.{matches, longest_prefix}
use Rattle.simd_json_parts.specs.Numbers.{number_literal, integer_literal, decimal_literal, has_minus, magnitude}
use Rattle.simd_json_parts.specs.Integers.{max_magnitude}
use Rattle.simd_json_parts.specs.NumberAt.{number_at, number_between, integer_or, first_excess}
use Rattle.simd_json_parts.proofs.Patterns.Sets.{Matches-matches, matches-Matches}
use Rattle.simd_json_parts.proofs.Patterns.Bytes.{byte_at-append, avoids-needs, longest_prefix-append}

-- ---- integers and decimals

pub number-integer_or_decimal : (bs : List ℕ) → Matches number_literal bs → Matches integer_literal bs ⊎ Matches decimal_literal bs
number-integer_or_decimal bs (xs, ys, e, ms, (zs, ws, f, mi, (us, vs, g, inl mf, inl me))) =
    inl (xs, zs, simp (e, f, g, mf, me, append-nil), ms, mi)
number-integer_or_decimal bs (xs, ys, e, ms, (zs, ws, f, mi, (us, vs, g, inl mf, inr me))) =
    inr (xs, ys, e, ms, (zs, vs, simp (f, g, mf), mi, inr me))
number-integer_or_decimal bs (xs, ys, e, ms, (zs, ws, f, mi, (us, vs, g, inr mf, me))) =
    inr (xs, ys, e, ms, (zs, ws, f, mi, inl (us, vs, g, mf, me)))

pub integer-number : (bs : List ℕ) → Matches integer_literal bs → Matches number_literal bs
integer-number bs (xs, ys, e, ms, mi) = (xs, ys, e, ms, (ys, [], sym (append-nil ys), mi, ([], [], refl, inl refl, inl refl)))

pub decimal-number : (bs : List ℕ) → Matches decimal_literal bs → Matches number_literal bs
decimal-number bs (xs, ys, e, ms, (zs, ws, f, mi, inl (us, vs, g, mf, me))) = (xs, ys, e, ms, (zs, ws, f, mi, (us, vs, g, inr mf, me)))
decimal-number bs (xs, ys, e, ms, (zs, ws, f, mi, inr me)) = (xs, ys, e, ms, (zs, ws, f, mi, ([], ws, refl, inl refl, inr me)))

-- . e E, of which each decimal has one and no integer does
abbrev is_mark : ℕ → Bool
is_mark c = (c == 46) || (c == 101) || (c == 69)

pub integer-not_decimal : (bs : List ℕ) → Matches integer_literal bs → Matches decimal_literal bs → ⊥
integer-not_decimal bs = avoids-needs is_mark integer_literal decimal_literal bs refl refl

-- ---- magnitudes

-- the number that these digits spell
abbrev digits_number : List ℕ → ℕ
digits_number ds = number_from_digits 10 (map digit_value ds)

digits_number-take : (n : ℕ) (ds : List ℕ) → digits_number (take n ds) ≤ digits_number ds
digits_number-take n ds =
    let prefix : List ℕ = map digit_value (take n ds) in
    let rest : List ℕ = map digit_value (drop n ds) in
    let whole : digits_number ds ≡ number_from_digits_after 10 (digits_number (take n ds)) rest =
    ap digits_number (sym (take-append-drop n ds))
    ∙ ap (number_from_digits 10) (map-append digit_value (take n ds) (drop n ds))
    ∙ number_after_append 10 0 prefix rest in
    omega (arith, number_after_ge 10 (digits_number (take n ds)) rest (lit< tt))

-- A prefix has no greater magnitude than the whole.
pub magnitude-take : (n : ℕ) (bs : List ℕ) → magnitude (take n bs) ≤ magnitude bs
magnitude-take zero bs = omega arith
magnitude-take n [] = omega arith
magnitude-take (suc n) (c ∷ bs) = after_sign (c == 45)
  where
    after_sign : (minus : Bool) → digits_number (drop (cond minus 1 0) (c ∷ take n bs)) ≤ digits_number (drop (cond minus 1 0) (c ∷ bs))
    after_sign true = digits_number-take n bs
    after_sign false = digits_number-take (suc n) (c ∷ bs)

pub first_excess-none : (bs : List ℕ) → magnitude bs ≤ max_magnitude false → first_excess bs ≡ None
first_excess-none bs fits =
    let too_great : ℕ → Bool = λ k. nat_lt (max_magnitude false) (magnitude (take (k + 1) bs)) in
    found_nowhere (find too_great) too_great Some None refl (λ _ _. refl) (indices bs) 0
    (λ i _. let prefix : magnitude (take (get_or (indices bs) i 0 + 1) bs) ≤ magnitude bs = magnitude-take _ bs in le-ltb _ _ (omega arith))

max_magnitude-le : (minus : Bool) → max_magnitude minus ≤ max_magnitude false
max_magnitude-le true = lit≤ tt
max_magnitude-le false = omega arith

-- ---- a literal at an index, with a terminator or the end after it

-- the first byte of what is left from an index on
pub byte_at-front : (b : List ℕ) (i : ℕ) (l : List ℕ) → drop i b ≡ l → byte_at b i ≡ byte_at l 0
byte_at-front b i l e =
    let here : byte_at (drop i b) 0 ≡ byte_at b i = simp add-zero at (get_or-drop i b 0 32) in
    sym here ∙ ap (λ bs. byte_at bs 0) e

pub number_at-literal : (b : List ℕ) (i : ℕ) (xs rest : List ℕ) → drop i b ≡ xs ++ rest → IsTrue (is_terminator (byte_at rest 0))
    → Matches number_literal xs
    → number_at b i ≡ (if matches integer_literal xs then integer_or b i xs (i + length xs) (first_excess xs)
    else Ok (decimal xs, i + length xs))
unfolding number_at
number_at-literal b i xs rest e t m =
    let prefix : longest_prefix number_literal (drop i b) ≡ length xs =
    ap (longest_prefix number_literal) e ∙ longest_prefix-append is_terminator number_literal xs rest refl m t in
    let after : byte_at b (i + length xs) ≡ byte_at rest 0 =
    sym (get_or-drop i b (length xs) 32) ∙ ap (λ l. byte_at l (length xs)) e ∙ byte_at-append xs rest in
    ap (λ n. number_between b i (take n (drop i b)) (i + n)) prefix
    ∙ ap (λ l. number_between b i l (i + length xs)) (ap (take (length xs)) e ∙ take-append_seam xs rest)
    ∙ cond-true _ _ _ (and_from _ _ (Matches-matches number_literal xs m) (ap is_terminator after ∙ t))

pub number_at-integer : (b : List ℕ) (i : ℕ) (xs rest : List ℕ) → drop i b ≡ xs ++ rest → IsTrue (is_terminator (byte_at rest 0))
    → Matches integer_literal xs → magnitude xs ≤ max_magnitude (has_minus xs)
    → number_at b i ≡ Ok (integer (has_minus xs) (magnitude xs), i + length xs)
number_at-integer b i xs rest e t m fits =
    let most : max_magnitude (has_minus xs) ≤ max_magnitude false = max_magnitude-le (has_minus xs) in
    number_at-literal b i xs rest e t (integer-number xs m)
    ∙ cond-true _ _ _ (Matches-matches integer_literal xs m)
    ∙ ap (integer_or b i xs (i + length xs)) (first_excess-none xs (omega arith))
    ∙ cond-false _ _ _ (le-ltb (max_magnitude (has_minus xs)) (magnitude xs) fits)

pub number_at-decimal : (b : List ℕ) (i : ℕ) (xs rest : List ℕ) → drop i b ≡ xs ++ rest → IsTrue (is_terminator (byte_at rest 0))
    → Matches decimal_literal xs → number_at b i ≡ Ok (decimal xs, i + length xs)
number_at-decimal b i xs rest e t m =
    number_at-literal b i xs rest e t (decimal-number xs m)
    ∙ cond-false _ _ _ (false_from_ne_true _ (λ y. integer-not_decimal xs (matches-Matches integer_literal xs y) m))
