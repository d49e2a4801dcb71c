-- Digits that are read one after the other.
use Rattle.std.proofs.Common.{◌≡◌, ◌≢◌, ◌∙◌, ap, sym, refl, ◌<◌, ◌+◌, ◌*◌, ◌^◌, ℕ, List, [], ◌∷◌, ◌++◌, append_assoc}
use Rattle.std.proofs.Common.{arith}
use Rattle.std.specs.Prelude.{encode_utf8, encode_utf8_all, map}
use Rattle.std.specs.Char.{digit_value}
use Rattle.std.specs.Int.Digits.{number_from_digits}
use Rattle.std.proofs.lemmas.Int.Digits.{number_after_append}
use Rattle.std.proofs.lemmas.List.{append-nil, map-append}
use Rattle.simd_json_query.specs.Steps.{IsNumeral, Natural, is_decimal}
use Rattle.simd_json_query.specs.Spans.{Run}
use Rattle.simd_json_query.proofs.Runs.{run-none, run-more}

-- the digits after the first one so far, and the number of all of them
pub record IsRead (first value : ℕ) (text rest : List ℕ) : Type 0 where
  pub digits : List ℕ
  pub run : Run is_decimal digits text rest
  pub number : value ≡ number_from_digits 10 (map digit_value (first ∷ digits))

zero-plus : (n : ℕ) → n ≡ 0 + n
zero-plus n = omega arith

pub read-none : (first : ℕ) (text : List ℕ) → IsRead first (digit_value first) text text
read-none first text = record { digits = []; run = run-none is_decimal text; number = zero-plus (digit_value first) }

pub read-more : (first value : ℕ) (text between rest : List ℕ) (c : ℕ) → IsRead first value text between → digit_value c < 10
    → between ≡ encode_utf8 c ++ rest → IsRead first (value * 10 + digit_value c) text rest
read-more first value text between rest c read is next = record {
  digits = read.digits ++ c ∷ [];
  run = run-more is_decimal read.digits text between rest c read.run (grind arith) next;
  number =
      ap (λ n. n * 10 + digit_value c) read.number
      ∙ sym (ap (number_from_digits 10) (map-append digit_value (first ∷ read.digits) (c ∷ []))
      ∙ number_after_append 10 0 (map digit_value (first ∷ read.digits)) (digit_value c ∷ []));
}

numeral : (first : ℕ) (ds : List ℕ) → first ≢ 48 → IsNumeral (first ∷ ds)
numeral first [] no_zero = tt
numeral first (d ∷ ds) no_zero = no_zero

pub read-natural : (first value : ℕ) (text between rest : List ℕ) → IsRead first value between rest → digit_value first < 10 → first ≢ 48
    → value < 2 ^ 53 → text ≡ encode_utf8 first ++ between → Natural value text rest
read-natural first value text between rest read is no_zero few begins = (
  first ∷ read.digits,
  record {
    whole = begins ∙ ap (λ bs. encode_utf8 first ++ bs) read.run.whole
        ∙ sym (append_assoc (encode_utf8 first) (encode_utf8_all read.digits) rest);
    kind = grind (arith, read.run.kind);
  },
  numeral first read.digits no_zero,
  sym read.number,
  few,
)

pub natural-zero : (text rest : List ℕ) → text ≡ encode_utf8 48 ++ rest → Natural 0 text rest
natural-zero text rest is =
    (48 ∷ [], record { whole = is ∙ ap (λ bs. bs ++ rest) (sym (append-nil (encode_utf8 48))); kind = refl }, tt, refl, omega arith)
