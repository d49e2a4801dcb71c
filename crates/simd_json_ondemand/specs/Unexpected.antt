-- What an error of a walk holds, and what is printed of it.
use Rattle.std.specs.Prelude.{ℕ, List, [], ◌∷◌, ◌++◌, length, Option, Some, None, codes, decimal}
use Rattle.simd_json_parts.specs.ErrorKinds.{type_words, expected_words}
use Rattle.simd_json_parts.specs.Tokens.{form_at}
use Rattle.simd_json_parts.specs.declared.node.ValueType.{ValueType}
use Rattle.simd_json_ondemand.specs.Standing.{kind_of}
use Rattle.simd_json_ondemand.specs.declared.unexpected.Expected.{Expected}
use Rattle.simd_json_ondemand.specs.declared.unexpected.Expected.TheVariants as expected
use Rattle.simd_json_ondemand.specs.declared.unexpected.Got.{Got}
use Rattle.simd_json_ondemand.specs.declared.unexpected.Got.TheVariants as found
use Rattle.simd_json_ondemand.specs.declared.unexpected.Unexpected.{Unexpected}

-- the byte index of the first of some tokens, or of the end of the input
abbrev pub place : List ℕ → List ℕ → ℕ
place b [] = length b
place b (i ∷ is) = i

abbrev pub found_kind : Option ValueType → Got
found_kind (Some kind) = found.Value kind
found_kind None = found.Other

-- what is there
abbrev pub found_at : List ℕ → List ℕ → Got
found_at b [] = found.End
found_at b (i ∷ is) = found_kind (kind_of (form_at b i))

-- the error that something else was expected of the first of these tokens
abbrev pub unexpected : List ℕ → Expected → List ℕ → Unexpected
unexpected b expected is = record { index = place b is; expected = expected; got = found_at b is }

-- ---- in words

abbrev pub expected_text : Expected → List ℕ
expected_text (expected.Kind kind) = expected_words kind
expected_text expected.PlainString = codes "a string without an escape"
expected_text expected.Container = codes "an array or an object"
expected_text expected.Value = codes "a value"
expected_text expected.Key = codes "a key"
expected_text expected.Colon = codes "a colon"
expected_text expected.CommaOrBracket = codes "a comma or ]"
expected_text expected.CommaOrBrace = codes "a comma or }"

abbrev pub found_in_words : Got → List ℕ
found_in_words (found.Value kind) = type_words kind
found_in_words found.Other = codes "no value"
found_in_words found.End = codes "the end of the input"

abbrev pub unexpected_text : Unexpected → List ℕ
unexpected_text e =
    codes "expected " ++ expected_text e.expected ++ codes ", found " ++ found_in_words e.got ++ codes " at byte " ++ decimal e.index
