-- The characters of escapes, by a table that has 0 where there is none.
use Rattle.std.proofs.Common.{◌≡◌, ◌≢◌, ◌==◌, ◌∙◌, ap, sym, ℕ, ◌<◌, ◌≤◌, List, length, get_or, true, false, arith}
use Rattle.std.specs.Prelude.{Option, Some, None, if◌then◌else◌, encode_utf8}
use Rattle.std.specs.Char.{len_utf8}
use Rattle.std.proofs.lemmas.Bool.Decides.{nat_tests}
use Rattle.std.proofs.lemmas.Bool.{ne_eqb}
use Rattle.std.proofs.lemmas.List.{get_or_default}
use Rattle.simd_json_parts.specs.Bytes.{byte_at, lower_u}
use Rattle.simd_json_parts.specs.Strings.{escaped_character}
use Rattle.simd_json_parts.specs.StringAt.{escape_at}
use Rattle.simd_json_parts.proofs.Tables.{lists_values, table-value}

abbrev or_zero : Option ℕ → ℕ
or_zero None = 0
or_zero (Some c) = c

-- the entry of a letter
abbrev pub escaped_or_zero : ℕ → ℕ
escaped_or_zero letter = or_zero (escaped_character letter)

-- no escape is of the character 0
none-zero : (letter : ℕ) → escaped_character letter ≡ (if escaped_or_zero letter == 0 then None else Some (escaped_or_zero letter))
none-zero letter = grind (arith, nat_tests)

-- no character is outside ASCII
ascii : (letter : ℕ) → escaped_or_zero letter < 128
ascii letter = grind (arith, nat_tests)

-- the letter of a code unit is no letter of the table
not-code-unit : (letter : ℕ) → escaped_or_zero letter ≢ 0 → (letter == lower_u) ≡ false
not-code-unit letter some = grind (arith, nat_tests)

-- the character of the escape with a letter
of-letter : (bs : List ℕ) (letter : ℕ) → byte_at bs 1 ≡ letter → escaped_or_zero letter ≢ 0
    → escape_at bs ≡ Some (encode_utf8 (escaped_or_zero letter), 1)
of-letter bs letter at some =
    let is : escaped_character letter ≡ Some (escaped_or_zero letter) = none-zero letter ∙ simp (ne_eqb _ _ some) in
    rw (at, not-code-unit letter some, is)

-- Where the table's entry is not 0 it is the character of an escape of one letter,
pub escapes-table : (xs bs : List ℕ) → lists_values escaped_or_zero 0 xs ≡ true → get_or bs 1 0 < length xs → 2 ≤ length bs
    → get_or xs (get_or bs 1 0) 0 ≢ 0
    → escape_at bs ≡ Some (encode_utf8 (get_or xs (get_or bs 1 0) 0), 1)
escapes-table xs bs all l fits some =
    let e : get_or xs (get_or bs 1 0) 0 ≡ escaped_or_zero (get_or bs 1 0) = table-value escaped_or_zero xs (get_or bs 1 0) 0 all l in
    of-letter bs (get_or bs 1 0) (get_or_default bs 1 32 0 fits) (λ none. some (e ∙ none))
    ∙ ap (λ c. Some (encode_utf8 c, 1)) (sym e)

-- and ASCII.
pub escapes-table-ascii : (xs : List ℕ) (letter : ℕ) → lists_values escaped_or_zero 0 xs ≡ true → letter < length xs
    → len_utf8 (get_or xs letter 0) ≤ 1
escapes-table-ascii xs letter all l = grind (arith, nat_tests, table-value escaped_or_zero xs letter 0 all l, ascii letter)
