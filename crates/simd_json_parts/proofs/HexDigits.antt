-- Four hexadecimal digits are read by one sum: what is no digit counts more than four digits can spell.
use Rattle.std.proofs.Common.{◌≡◌, refl, ℕ, ◌+◌, ◌*◌, ◌<◌, ◌≤◌, List, length, get_or, Bool, true, cond, ◌&&◌, arith}
use Rattle.std.specs.Prelude.{Some, None, if◌then◌else◌}
use Rattle.std.specs.Char.{digit_value, is_digit}
use Rattle.std.proofs.lemmas.Bool.{ltb-true}
use Rattle.std.proofs.lemmas.Bool.Decides.{nat_tests}
use Rattle.simd_json_parts.specs.Strings.{hex_value}
use Rattle.simd_json_parts.proofs.Tables.{lists_values, table-value}

-- what a byte counts, by the test and the value alone
abbrev counts : Bool → ℕ → ℕ
counts t v = if t then v else 65536

abbrev pub counted : ℕ → ℕ
counted c = counts (is_digit c 16) (digit_value c)

-- no byte counts more
counted-bound : (c : ℕ) → counted c ≤ 65536
counted-bound c = grind (arith, nat_tests)

-- The table holds what each byte counts,
pub counted-table : (xs : List ℕ) (c : ℕ) → lists_values counted 0 xs ≡ true → c < length xs → get_or xs c 0 ≡ counted c
counted-table xs c all l = table-value counted xs c 0 all l

-- and no more.
pub counted-table-bound : (xs : List ℕ) (c : ℕ) → lists_values counted 0 xs ≡ true → c < length xs → get_or xs c 0 ≤ 65536
counted-table-bound xs c all l = omega (arith, counted-table xs c all l, counted-bound c)

-- the number of the digits, by their tests, values and counts
spelled : (t u v w : Bool) (a b c d : ℕ) → counts t a * 4096 + counts u b * 256 + counts v c * 16 + counts w d < 65536
    → Some (counts t a * 4096 + counts u b * 256 + counts v c * 16 + counts w d)
    ≡ cond (t && u && v && w) (Some (a * 4096 + b * 256 + c * 16 + d)) None
spelled true true true true a b c d l = refl
spelled t u v w a b c d l = absurd (omega arith)

-- where the sum is greater, one of them is no digit
excess : (t u v w : Bool) (a b c d : ℕ) → (t ≡ true → a < 16) → (u ≡ true → b < 16) → (v ≡ true → c < 16) → (w ≡ true → d < 16)
    → 65536 ≤ counts t a * 4096 + counts u b * 256 + counts v c * 16 + counts w d
    → None ≡ cond (t && u && v && w) (Some (a * 4096 + b * 256 + c * 16 + d)) None
excess true true true true a b c d ha hb hc hd l =
    let pa = ha refl in
    let pb = hb refl in
    let pc = hc refl in
    let pd = hd refl in
    absurd (omega arith)
excess t u v w a b c d ha hb hc hd l = refl

-- a digit is below 16
digit-small : (c : ℕ) → is_digit c 16 ≡ true → digit_value c < 16
digit-small c e = ltb-true (digit_value c) 16 e

-- A sum below 2^16 is the number that the digits spell,
pub hex_value-sum : (a b c d p q r s : ℕ) → p ≡ counted a → q ≡ counted b → r ≡ counted c → s ≡ counted d
    → p * 4096 + q * 256 + r * 16 + s < 65536 → Some (p * 4096 + q * 256 + r * 16 + s) ≡ hex_value a b c d
hex_value-sum a b c d p q r s ep eq er es l =
    rw (ep, eq, er, es) (spelled (is_digit a 16) (is_digit b 16) (is_digit c 16) (is_digit d 16) (digit_value a) (digit_value b)
    (digit_value c) (digit_value d) (rw (ep, eq, er, es) at l))

-- and with any other one of them is none.
pub hex_value-excess : (a b c d p q r s : ℕ) → p ≡ counted a → q ≡ counted b → r ≡ counted c → s ≡ counted d
    → 65536 ≤ p * 4096 + q * 256 + r * 16 + s → None ≡ hex_value a b c d
hex_value-excess a b c d p q r s ep eq er es l =
    excess (is_digit a 16) (is_digit b 16) (is_digit c 16) (is_digit d 16) (digit_value a) (digit_value b) (digit_value c) (digit_value d)
    (digit-small a) (digit-small b) (digit-small c) (digit-small d) (rw (ep, eq, er, es) at l)
