-- The grammar of a query's smallest parts (RFC 9535), and of its steps.
use Rattle.std.specs.Prelude.{◌≡◌, ◌≢◌, ◌<◌, ◌≤◌, ℕ, ◌+◌, ◌^◌, ℤ, pos, neg_ℤ, List, [], ◌∷◌, ◌++◌, drop, map, Bool, true, ◌||◌}
use Rattle.std.specs.Prelude.{◌==◌}
use Rattle.std.specs.Prelude.{Some, nat_lt, encode_utf8, encode_utf8_all}
use Rattle.std.specs.Char.{digit_value, is_digit, is_ascii_digit, is_ascii_alphabetic}
use Rattle.std.specs.Int.Digits.{number_from_digits}
use Rattle.simd_json_parts.specs.Bytes.{backslash, byte_at, is_whitespace, left_bracket, minus_sign, quote, right_bracket}
use Rattle.simd_json_parts.specs.StringAt.{escape_at}
use Rattle.simd_json_query.specs.Spans.{◌then◌, ◌or◌, Many, Mark, Nothing, Run}
use Rattle.simd_json_query.specs.declared.filter.Step.{Step}
use Rattle.simd_json_query.specs.declared.filter.Step.TheVariants as step

-- ---- characters

abbrev pub dollar : ℕ
dollar = 36

abbrev pub apostrophe : ℕ
apostrophe = 39

abbrev pub star : ℕ
star = 42

abbrev pub dot : ℕ
dot = 46

abbrev pub underscore : ℕ
underscore = 95

-- ---- blanks (section 2.1.1)

abbrev pub Blanks : List ℕ → List ℕ → Type 0
Blanks text rest = (cs : List ℕ) × Run is_whitespace cs text rest

-- ---- names in quotes (section 2.3.1.1)

-- a character as it is
pub record Unescaped (q c : ℕ) (text rest : List ℕ) : Type 0 where
  pub printable : 32 ≤ c
  pub no_quote : c ≢ q
  pub no_backslash : c ≢ backslash
  pub whole : text ≡ encode_utf8 c ++ rest

-- an escape that JSON has too, but for that of its quote
pub record Escaped (c : ℕ) (text rest : List ℕ) : Type 0 where
  pub more : ℕ
  pub begins : byte_at text 0 ≡ backslash
  pub no_quote : byte_at text 1 ≢ quote
  pub decoded : escape_at text ≡ Some (encode_utf8 c, more)
  pub left : rest ≡ drop (more + 1) text

-- one character of a string in these quotes
abbrev pub Piece : ℕ → ℕ → List ℕ → List ℕ → Type 0
Piece q c = Unescaped q c or (λ text rest. (c ≡ q) × (Mark backslash then Mark q) text rest) or Escaped c

abbrev pub Quoted : ℕ → List ℕ → List ℕ → List ℕ → Type 0
Quoted q name text rest =
    (cs : List ℕ) × (name ≡ encode_utf8_all cs) × (Mark q then Many (Piece q) cs then Mark q) text rest

abbrev pub StringText : List ℕ → List ℕ → List ℕ → Type 0
StringText string = Quoted quote string or Quoted apostrophe string

-- ---- indexes (section 2.3.3.1)

-- without a leading zero
abbrev pub IsNumeral : List ℕ → Type 0
IsNumeral [] = ⊥
IsNumeral (d ∷ []) = Unit {0}
IsNumeral (d ∷ e ∷ ds) = d ≢ 48

abbrev pub is_decimal : ℕ → Bool
is_decimal c = is_digit c 10

abbrev pub Natural : ℕ → List ℕ → List ℕ → Type 0
Natural n text rest =
    (ds : List ℕ) × Run is_decimal ds text rest × IsNumeral ds × (number_from_digits 10 (map digit_value ds) ≡ n) × (n < 2 ^ 53)

abbrev pub Integer : ℤ → List ℕ → List ℕ → Type 0
Integer i = (λ text rest. (n : ℕ) × (i ≡ pos n) × Natural n text rest)
    or (λ text rest. (n : ℕ) × (0 < n) × (i ≡ neg_ℤ (pos n)) × (Mark minus_sign then Natural n) text rest)

-- ---- names without quotes (section 2.5.1.1)

abbrev pub begins_name : ℕ → Bool
begins_name c = is_ascii_alphabetic c || (c == underscore) || nat_lt 127 c

abbrev pub is_in_name : ℕ → Bool
is_in_name c = begins_name c || is_ascii_digit c

abbrev pub Name : List ℕ → List ℕ → List ℕ → Type 0
Name name text rest =
    (c : ℕ) × (cs : List ℕ) × (name ≡ encode_utf8_all (c ∷ cs)) × (begins_name c ≡ true) × Run is_in_name (c ∷ cs) text rest

-- ---- steps: child segments of one name or one index (section 2.5.1.1)

abbrev pub Bracketed : Step → List ℕ → List ℕ → Type 0
Bracketed (step.Name name) = StringText name.now
Bracketed (step.Index i) = Integer i

abbrev pub Dotted : Step → List ℕ → List ℕ → Type 0
Dotted (step.Name name) = Name name.now
Dotted (step.Index i) = Nothing

abbrev pub StepText : Step → List ℕ → List ℕ → Type 0
StepText s = Mark left_bracket then Blanks then Bracketed s then Blanks then Mark right_bracket or Mark dot then Dotted s

abbrev pub Steps : List Step → List ℕ → List ℕ → Type 0
Steps = Many (λ s. Blanks then StepText s)
