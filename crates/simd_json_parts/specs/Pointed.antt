-- Which value a JSON Pointer names in a document (RFC 6901).
use Rattle.std.specs.Prelude.{ℕ, ◌+◌, List, [], ◌∷◌, length, map, slice_get, Bool, true, false, ◌&&◌, ◌||◌, not, ◌==◌}
use Rattle.std.specs.Prelude.{if◌then◌else◌, Option, Some, None, option_map, is_some, Result, Ok, Err, ok_or}
use Rattle.std.specs.Char.{digit_value, is_ascii_digit}
use Rattle.std.specs.Int.Digits.{number_from_digits}
use Rattle.std.specs.List.{list_all}
use Rattle.simd_json_parts.specs.Bytes.{slash}
use Rattle.simd_json_parts.specs.Document.{Document, array, object, Elements, elements, Members}
use Rattle.simd_json_parts.specs.Views.{first_with, value_type}
use Rattle.simd_json_parts.specs.declared.pointer.PointerError.{PointerError}
use Rattle.simd_json_parts.specs.declared.pointer.PointerExpected.{PointerExpected}
use Rattle.simd_json_parts.specs.declared.pointer.PointerExpected.TheVariants as lacking

-- ---- the syntax (section 3): reference tokens, with a `/` before each

abbrev pub with_first : ℕ → List (List ℕ) → List (List ℕ)
with_first c [] = (c ∷ []) ∷ []
with_first c (t ∷ ts) = (c ∷ t) ∷ ts

-- the reference tokens after a `/`
abbrev pub tokens : List ℕ → List (List ℕ)
tokens [] = [] ∷ []
tokens (c ∷ p) = if c == slash then [] ∷ tokens p else with_first c (tokens p)

abbrev pub tilde : ℕ
tilde = 126

-- a reference token with its escapes decoded: `~0` is `~`, `~1` is `/`, and no other `~` may be in it
abbrev pub unescaped : List ℕ → Option (List ℕ)
unescaped [] = Some []
unescaped (c ∷ []) = if c == tilde then None else Some (c ∷ [])
unescaped (c ∷ e ∷ t) =
    if c == tilde
    then (if e == 48 then option_map (λ k. tilde ∷ k) (unescaped t)
    else (if e == 49 then option_map (λ k. slash ∷ k) (unescaped t) else None))
    else option_map (λ k. c ∷ k) (unescaped (e ∷ t))

-- well formed: empty, or a `/` before each reference token, and each `~` of them begins an escape
abbrev pub is_pointer : List ℕ → Bool
is_pointer [] = true
is_pointer (c ∷ p) = (c == slash) && list_all (λ t. is_some (unescaped t)) (tokens p)

abbrev pub token_count : List ℕ → ℕ
token_count [] = 0
token_count (c ∷ p) = length (tokens p)

-- ---- the evaluation (section 4)

-- array-index: digits, of which the first is `0` only if there is no other
abbrev pub is_array_index : List ℕ → Bool
is_array_index [] = false
is_array_index (c ∷ t) = list_all is_ascii_digit (c ∷ t) && (not (c == 48) || (length t == 0))

abbrev pub array_index : List ℕ → Option ℕ
array_index t = if is_array_index t then Some (number_from_digits 10 (map digit_value t)) else None

abbrev pub element_at : Elements → Option ℕ → Result Document PointerExpected
element_at ds None = Err lacking.Index
element_at ds (Some i) = ok_or (slice_get (elements ds) i) lacking.Element

-- of equal keys the first
abbrev pub member_at : Members → Option (List ℕ) → Result Document PointerExpected
member_at ms None = Err lacking.Escape
member_at ms (Some key) = ok_or (first_with key ms) lacking.Key

-- the value that a reference token names in another
abbrev pub named : List ℕ → Document → Result Document PointerExpected
named t (array ds) = element_at ds (array_index t)
named t (object ms) = member_at ms (unescaped t)
named t _ = Err lacking.Container

-- where the pointer stops: what precedes this byte of it leads to the document, and nothing goes on from there
abbrev pub stop : ℕ → Document → PointerExpected → PointerError
stop i d lacks = record { index = i; expected = lacks; got = value_type d }

abbrev pub go_on : ℕ → Document → (Document → Result Document PointerError) → Result Document PointerExpected → Result Document PointerError
go_on i d further (Ok e) = further e
go_on i d further (Err lacks) = Err (stop i d lacks)

-- each reference token names a value in the value before it; the first begins after byte i of the pointer
abbrev pub followed : ℕ → List (List ℕ) → Document → Result Document PointerError
followed i [] d = Ok d
followed i (t ∷ ts) d = go_on i d (followed (i + 1 + length t) ts) (named t d)

abbrev pub pointed_from : ℕ → List ℕ → Document → Result Document PointerError
pointed_from i [] d = Ok d
pointed_from i (c ∷ p) d = if c == slash then followed i (tokens p) d else Err (stop i d lacking.Slash)

-- the value that the pointer names in a document: the empty pointer names the whole of it
abbrev pub pointed : List ℕ → Document → Result Document PointerError
pointed p d = pointed_from 0 p d
