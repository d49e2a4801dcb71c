-- The tables by which a byte is escaped.
use Rattle.std.proofs.Common.{◌≡◌, ◌∙◌, ap₂, ℕ, ◌<◌, ◌/◌, ◌%◌, List, [], ◌∷◌, ◌++◌, length, get_or, codes, true, ◌==◌, arith, if◌then◌else◌}
use Rattle.std.proofs.lemmas.Bool.Decides.{nat_tests}
use Rattle.std.specs.Char.{digit_char}
use Rattle.simd_json_parts.proofs.Tables.{lists_values, table-value}
use Rattle.simd_json_parts.specs.Bytes.{backspace, tab, line_feed, form_feed, carriage_return, quote, backslash, is_control}
use Rattle.simd_json_parts.specs.Printed.{escaped_byte}
use Rattle.simd_json_print.specs.Texts.{TargetState, Adds}
use Rattle.simd_json_print.specs.declared.text.Text.{Text}
use Rattle.simd_json_print.proofs.Texts.{adds-is}

-- what follows the backslash where a byte is escaped: `u` and a number, or a letter alone; where it is not, none
abbrev pub escape_letter : ℕ → ℕ
escape_letter x =
    if x == quote then quote
    else if x == backslash then backslash
    else if x == backspace then 98
    else if x == tab then 116
    else if x == line_feed then 110
    else if x == form_feed then 102
    else if x == carriage_return then 114
    else if is_control x then 117
    else 0

pub letters-table : (xs : List ℕ) (c : ℕ) → lists_values escape_letter 0 xs ≡ true → c < length xs → get_or xs c 0 ≡ escape_letter c
letters-table xs c all l = table-value escape_letter xs c 0 all l

pub digits-table : (xs : List ℕ) (c : ℕ) → lists_values digit_char 0 xs ≡ true → c < length xs → get_or xs c 0 ≡ digit_char c
digits-table xs c all l = table-value digit_char xs c 0 all l

-- ---- what is given for a byte, by its letter

pub as-it-is : {T : Type 0} {size : ℕ} (state : T → TargetState) (a b : Text T size) (x letter : ℕ) → Adds state a b (x ∷ []) → letter ≡ 0
    → letter ≡ escape_letter x → Adds state a b (escaped_byte x)
as-it-is state a b x letter g none is =
    let whole : x ∷ [] ≡ escaped_byte x = grind (arith, nat_tests, none, is) in
    adds-is state a b _ _ whole g

pub by-number : {T : Type 0} {size : ℕ} (state : T → TargetState) (a b : Text T size) (x letter tens ones : ℕ)
    → Adds state a b (codes "\\u00" ++ tens ∷ ones ∷ []) → letter ≡ 117 → letter ≡ escape_letter x
    → tens ≡ digit_char (x / 16) → ones ≡ digit_char (x % 16) → Adds state a b (escaped_byte x)
by-number state a b x letter tens ones g number is ten one =
    let whole : codes "\\u00" ++ digit_char (x / 16) ∷ digit_char (x % 16) ∷ [] ≡ escaped_byte x = grind (arith, nat_tests, number, is) in
    adds-is state a b _ _ (ap₂ (λ t o. codes "\\u00" ++ t ∷ o ∷ []) ten one ∙ whole) g

pub by-letter : {T : Type 0} {size : ℕ} (state : T → TargetState) (a b : Text T size) (x letter : ℕ)
    → Adds state a b (backslash ∷ letter ∷ []) → (letter ≡ 0 → ⊥) → (letter ≡ 117 → ⊥) → letter ≡ escape_letter x
    → Adds state a b (escaped_byte x)
by-letter state a b x letter g some short is =
    let whole : backslash ∷ letter ∷ [] ≡ escaped_byte x = grind (arith, nat_tests, some, short, is) in
    adds-is state a b _ _ whole g
