-- What the definitions of a parse and of printing compute, an example or two of each; of a parse, one for each kind of fault.
use Rattle.std.proofs.Common.{◌≡◌, refl, ℕ, List, [], ◌∷◌, ◌++◌, map, get_or, replicate, true, false}
use Rattle.std.specs.Prelude.{codes, Result, Ok, Err}
use Rattle.std.specs.Fmt.{digits}
use Rattle.std.specs.Char.{encode_utf8}
use Rattle.simd_json_parts.specs.Answer.{answer, padded_answer}
use Rattle.simd_json_parts.specs.Bytes.{quote, backslash}
use Rattle.simd_json_parts.specs.Document.{Document, integer, decimal, string, array, object, no_elements, element, no_members, member}
use Rattle.simd_json_parts.specs.ErrorKinds.{error_text}
use Rattle.simd_json_parts.specs.Faults.{whole_fault, fault_with}
use Rattle.simd_json_parts.specs.Limits.{depth}
use Rattle.simd_json_parts.specs.Listing.{listing}
use Rattle.simd_json_parts.specs.Nodes.{static_item, string_item, array_item, object_item}
use Rattle.simd_json_parts.specs.Positions.{positions}
use Rattle.simd_json_parts.specs.Printed.{quoted, compact, pretty}
use Rattle.simd_json_parts.specs.declared.error.Error.{Error}
use Rattle.simd_json_parts.specs.declared.error.ErrorType.{ErrorType}
use Rattle.simd_json_parts.specs.declared.error.ErrorType.TheVariants.{DepthLimitExceeded, Eof, ExpectedArrayContent, ExpectedFalse}
use Rattle.simd_json_parts.specs.declared.error.ErrorType.TheVariants.{ExpectedNull, ExpectedObjectColon, ExpectedObjectContent}
use Rattle.simd_json_parts.specs.declared.error.ErrorType.TheVariants.{ExpectedObjectKey, ExpectedTrue, InsufficientPadding}
use Rattle.simd_json_parts.specs.declared.error.ErrorType.TheVariants.{InternalError, InvalidEscape, InvalidNumber}
use Rattle.simd_json_parts.specs.declared.error.ErrorType.TheVariants.{InvalidUnicodeCodepoint, InvalidUtf8, Syntax, TrailingData}
use Rattle.simd_json_parts.specs.declared.node.StaticNode.TheVariants.{U64}
use Rattle.simd_json_theorems.proofs.Examples.Computes.{computes}

-- ---- structural indexes

positions-found : positions (codes "{\"the_answer\": 42}") ≡ 0 ∷ 1 ∷ 13 ∷ 15 ∷ 17 ∷ []
unfolding computes
positions-found = refl

positions-escaped : positions (quote ∷ (replicate 64 backslash ++ quote ∷ codes "\" ")) ≡ 0 ∷ 66 ∷ []
unfolding computes
positions-escaped = refl

-- ---- what is read

record Row : Type 0 where
  input : List ℕ
  wanted : Result Document Error

abbrev reads : List ℕ → Document → Row
reads input d = record { input = input; wanted = Ok d }

-- at this index, with this character
abbrev fails : List ℕ → ErrorType → ℕ → List ℕ → Row
fails input kind i character = record { input = input; wanted = Err (fault_with kind i (get_or character 0 0)) }

abbrev fails_whole : List ℕ → ErrorType → Row
fails_whole input kind = record { input = input; wanted = Err (whole_fault kind) }

abbrev nested : Document
nested =
    object (member (codes "a") (array (element (integer true 0) (element (decimal (codes "1e309")) no_elements)))
    (member (codes "a") (string (0xf0 ∷ 0x9f ∷ 0x98 ∷ 0x80 ∷ [])) no_members))

-- at most two containers may be open
abbrev rows : List Row
rows =
    reads (codes " {\"a\":[-0,1e309],\"\\u0061\":\"\\ud83d\\ude00\"}") nested
    ∷ reads (codes "-170141183460469231731687303715884105728") (integer true 170141183460469231731687303715884105728)
    ∷ fails (codes "-170141183460469231731687303715884105729") InvalidNumber 40 (codes " ")
    ∷ reads (codes "340282366920938463463374607431768211455") (integer false 340282366920938463463374607431768211455)
    ∷ fails (codes "340282366920938463463374607431768211456") InvalidNumber 38 (codes "6")
    ∷ fails (codes "[1.8011670033376514H-308]") InvalidNumber 19 (codes "H")
    ∷ fails (codes "truex") ExpectedTrue 0 (codes "t")
    ∷ fails (codes "[true, falsy]") ExpectedFalse 7 (codes "f")
    ∷ fails (codes "{\"0\":new}") ExpectedNull 5 (codes "n")
    ∷ fails (codes "\"\\q\"") InvalidEscape 1 (codes "q")
    ∷ fails (codes "\"a\\ud83dx\"") InvalidUnicodeCodepoint 2 (codes "u")
    ∷ fails (codes "[1,]") InternalError 3 (codes "]")
    ∷ fails (codes "[1] 2") InternalError 2 (codes "]")
    ∷ fails (codes "1 2") TrailingData 0 (codes "1")
    ∷ fails (codes "[1 2]") ExpectedArrayContent 3 (codes "2")
    ∷ fails (codes "{1:2}") ExpectedObjectContent 1 (codes "1")
    ∷ fails (codes "{\"a\":1]") ExpectedObjectContent 6 (codes "]")
    ∷ fails (codes "{\"a\":1,}") ExpectedObjectKey 7 (codes "}")
    ∷ fails (codes "{\"a\" 1}") ExpectedObjectColon 5 (codes "1")
    ∷ fails (codes "[[[1]]]") DepthLimitExceeded 2 (codes "[")
    ∷ fails (codes "[1") Syntax 1 (codes "1")
    ∷ fails_whole (codes "[01,\"") Syntax
    ∷ fails_whole (0x22 ∷ 0x0a ∷ 0x22 ∷ []) Syntax
    ∷ fails_whole (0x5b ∷ 0x22 ∷ 0xff ∷ []) InvalidUtf8
    ∷ fails_whole (0x22 ∷ 0xed ∷ 0xa0 ∷ 0x80 ∷ 0x22 ∷ []) InvalidUtf8
    ∷ fails_whole (0x20 ∷ 0x09 ∷ 0x0d ∷ 0x0a ∷ []) Eof
    ∷ []

rows-answered : map (λ (row : Row). answer row.input 2) rows ≡ map (λ (row : Row). row.wanted) rows
unfolding computes
rows-answered = refl

padded-answered : padded_answer (codes "12" ++ replicate 64 51) 2 1024 ≡ Ok (integer false 12)
unfolding computes
padded-answered = refl

padding-short : padded_answer (codes "12" ++ replicate 63 51) 2 1024 ≡ Err (whole_fault InsufficientPadding)
unfolding computes
padding-short = refl

-- ---- what is listed and printed

abbrev small : Document
small = object (member (codes "a\n") (array (element (integer true 0) (element (array no_elements) no_elements))) no_members)

small-listed : listing (object (member (codes "a") (array (element (integer false 1) no_elements)) no_members))
    ≡ object_item 1 3 ∷ string_item (codes "a") ∷ array_item 1 1 ∷ static_item (U64 1) ∷ []
small-listed = refl

small-depth : depth small ≡ 3
small-depth = refl

small-compact : compact small ≡ codes "{\"a\\n\":[0,[]]}"
unfolding computes quoted digits
small-compact = refl

small-pretty : pretty small ≡ codes "{\n  \"a\\n\": [\n    0,\n    []\n  ]\n}"
unfolding computes quoted digits
small-pretty = refl

-- each escape of a byte, the slash and DEL, which need none
escapes-quoted : quoted (0x22 ∷ 0x5c ∷ 0x2f ∷ 0x08 ∷ 0x0c ∷ 0x0a ∷ 0x0d ∷ 0x09 ∷ 0x1f ∷ 0x7f ∷ [])
    ≡ codes "\"\\\"\\\\/\\b\\f\\n\\r\\t\\u001f\u{7f}\""
unfolding quoted
escapes-quoted = refl

error-printed : error_text (fault_with InternalError 12 0xef) ≡ codes "InternalError at character 12 ('" ++ 0xc3 ∷ 0xaf ∷ codes "')"
unfolding digits encode_utf8
error-printed = refl
