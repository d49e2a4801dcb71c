-- A number at an index: the document and the index after it, or a fault (RFC 8259, section 6). Faults rest on it.
use Rattle.std.specs.Prelude.{ℕ, ◌+◌, List, take, drop, false, ◌&&◌, nat_lt, Option, Some, None, Result, Ok, Err, find, if◌then◌else◌}
use Rattle.simd_json_parts.specs.Bytes.{is_terminator, byte_at, indices}
use Rattle.simd_json_parts.specs.Document.{Document, integer, decimal}
use Rattle.simd_json_parts.specs.Derivatives.{matches, longest_prefix}
use Rattle.simd_json_parts.specs.Numbers.{number_literal, integer_literal, has_minus, magnitude}
use Rattle.simd_json_parts.specs.Integers.{max_magnitude}
use Rattle.simd_json_parts.specs.Faults.{fault_at}
use Rattle.simd_json_parts.specs.declared.error.Error.{Error}
use Rattle.simd_json_parts.specs.declared.error.ErrorType.TheVariants.{InvalidNumber}

-- the first byte of the literal with which the magnitude passes what an integer without `-` may have
abbrev pub first_excess : List ℕ → Option ℕ
first_excess literal = find (λ k. nat_lt (max_magnitude false) (magnitude (take (k + 1) literal))) (indices literal)

-- rejected there, or else where the number ends if `-` makes its magnitude too great
abbrev pub integer_or : List ℕ → ℕ → List ℕ → ℕ → Option ℕ → Result (Document × ℕ) Error
integer_or b i literal end (Some k) = Err (fault_at b InvalidNumber (i + k))
integer_or b i literal end None =
    if nat_lt (max_magnitude (has_minus literal)) (magnitude literal)
    then Err (fault_at b InvalidNumber end)
    else Ok (integer (has_minus literal) (magnitude literal), end)

-- the literal is the longest prefix that begins a number, and the byte at end stands after it
abbrev pub number_between : List ℕ → ℕ → List ℕ → ℕ → Result (Document × ℕ) Error
number_between b i literal end =
    if matches number_literal literal && is_terminator (byte_at b end)
    then (if matches integer_literal literal then integer_or b i literal end (first_excess literal) else Ok (decimal literal, end))
    else Err (fault_at b InvalidNumber end)

unfoldable pub number_at : List ℕ → ℕ → Result (Document × ℕ) Error
number_at b i = let n = longest_prefix number_literal (drop i b) in number_between b i (take n (drop i b)) (i + n)
