-- The array index that a token is.
use Rattle.std.proofs.Common.{◌≡◌, ◌∙◌, ap, sym, ◌<◌, ◌≤◌, ℕ, Bool, true, false, List, [], ◌∷◌, length, map, arith}
use Rattle.std.proofs.Common.{rules, Some, None, Result, Ok, Err, cond, inl, inr, refl}
use Rattle.std.proofs.lemmas.Bool.{cases_lt, le-ltb, lt-ltb}
use Rattle.std.proofs.lemmas.Str.Parse.{IsNumeralModel, numerals_by_fold, parse_digits}
use Rattle.std.specs.Char.{digit_value, is_ascii_digit}
use Rattle.std.specs.Int.Digits.{number_from_digits_after}
use Rattle.std.specs.List.{list_all}
use Rattle.std.specs.Prelude.{◌^◌, ◌&&◌, ◌⊎◌, option_and_then}
use Rattle.std.specs.Result.{OkIff, result_ok}
use Rattle.std.specs.Str.Parse.{ParsesUnsigned}
use Rattle.simd_json_parts.specs.Followed.{fits_64}
use Rattle.simd_json_parts.specs.Pointed.{array_index, is_array_index}
use Rattle.simd_json_parts.proofs.Pointers.Pointed.{index-of}

abbrev read_on : ℕ → List ℕ → ℕ
read_on n ds = number_from_digits_after 10 n (map digit_value ds)

own : IsNumeralModel (λ ds. list_all is_ascii_digit ds ≡ true) (read_on 0)
own = numerals_by_fold _ (search rules) read_on (search rules)

past : (n : ℕ) → (n < 2 ^ 64 → ⊥) → (n < 2 ^ 64) ⊎ (2 ^ 64 ≤ n) → 2 ^ 64 ≤ n
past n never (inl less) = absurd (never less)
past n never (inr more) = more

fits-by : {E : Type 0} (r : Result ℕ E) (n len : ℕ) → OkIff r ((0 < len) × (n < 2 ^ 64)) n → 0 < len → result_ok r ≡ fits_64 n
fits-by (Ok x) n len is some = ap Some is.1 ∙ sym (ap (λ b. cond b (Some n) None) (lt-ltb n (2 ^ 64) is.0.1))
fits-by (Err e) n len is some =
    sym (ap (λ b. cond b (Some n) None) (le-ltb n (2 ^ 64) (past n (λ less. is (some, less)) (cases_lt n (2 ^ 64)))))

digits-of : (t : List ℕ) → is_array_index t ≡ true → (list_all is_ascii_digit t ≡ true) × (0 < length t)
digits-of [] is = cc
digits-of (c ∷ t) is = (and-left (list_all is_ascii_digit (c ∷ t)) _ is, omega arith)
  where
    and-left : (a b : Bool) → a && b ≡ true → a ≡ true
    and-left true b is = refl
    and-left false b is = cc

pub index-read : {E : Type 0} (t : List ℕ) (r : Result ℕ E) → ParsesUnsigned 64 10 t r → is_array_index t ≡ true
    → result_ok r ≡ option_and_then fits_64 (array_index t)
index-read t r parses is =
    let digits = digits-of t is in
    fits-by r _ (length t) (parse_digits own 64 t r parses digits.0) digits.1 ∙ sym (ap (option_and_then fits_64) (index-of t is))
