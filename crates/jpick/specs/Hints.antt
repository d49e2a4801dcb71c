-- What was meant where a text is no query, by who writes another language.
use Rattle.std.specs.Prelude.{ℕ, List, [], ◌∷◌, codes, drop, Bool, ◌==◌, ◌||◌, Option, None, Some, nat_eq, if◌then◌else◌}
use Rattle.std.specs.Char.{is_ascii_alphabetic}
use Rattle.std.specs.List.{starts_with}
use Rattle.simd_json_parts.specs.Bytes.{comma, slash}
use Rattle.simd_json_query.specs.declared.text.PathExpected.{PathExpected}
use Rattle.simd_json_query.specs.declared.text.PathExpected.TheVariants as expected
use Rattle.jpick.specs.declared.hints.Hint.{Hint}
use Rattle.jpick.specs.declared.hints.Hint.TheVariants.{Equal, And, Or, Not, In, Pattern, Name, Quoted, Root, Further, Where}

abbrev pub begins : List ℕ → List ℕ → Bool
begins s word = starts_with nat_eq s word

-- where a test or its operand has ended
abbrev pub operator_meant : List ℕ → Option Hint
operator_meant s =
    if begins s (codes "=~") || begins s (codes "like") || begins s (codes "LIKE") then Some Pattern
    else if begins s (codes "=") then Some Equal
    else if begins s (codes "&") || begins s (codes "and") || begins s (codes "AND") then Some And
    else if begins s (codes "|") || begins s (codes "or") || begins s (codes "OR") then Some Or
    else if begins s (codes "in") || begins s (codes "IN") then Some In
    else if begins s (codes "-") then Some Quoted
    else None

-- `.a`, `/a` or `a`
abbrev pub begins_name : ℕ → Bool
begins_name c = (c == 46) || (c == slash) || (c == 95) || is_ascii_alphabetic c

abbrev pub name_meant : List ℕ → Option Hint
name_meant [] = None
name_meant (c ∷ s) = if begins_name c then Some Name else None

-- where a test or an operand is to begin
abbrev pub operand_meant : List ℕ → Option Hint
operand_meant s =
    if begins s (codes "not ") || begins s (codes "not(") || begins s (codes "NOT ") then Some Not
    else if begins s (codes "=") then Some Equal
    else name_meant s

-- `=`, `<`, `>` or `!`
abbrev pub is_comparison : ℕ → Bool
is_comparison c = (c == 61) || (c == 60) || (c == 62) || (c == 33)

-- where a segment is to begin, or the query to end, at this byte
abbrev pub segment_meant : ℕ → List ℕ → Option Hint
segment_meant i [] = None
segment_meant i (c ∷ s) =
    if i == 1 then Some Root else if c == comma then Some Further else if is_comparison c then Some Where else Some Quoted

-- by what was expected at a byte of the text
abbrev pub hint_of : PathExpected → ℕ → List ℕ → Option Hint
hint_of expected.Separator i text = operator_meant (drop i text)
hint_of expected.End i text = operator_meant (drop i text)
hint_of expected.Comparison i text = operator_meant (drop i text)
hint_of expected.Test i text = operand_meant (drop i text)
hint_of expected.Denied i text = operand_meant (drop i text)
hint_of expected.Comparable i text = operand_meant (drop i text)
hint_of expected.Segment i text = segment_meant i (drop i text)
hint_of expected.Member i text = segment_meant i (drop i text)
hint_of _ i text = None
