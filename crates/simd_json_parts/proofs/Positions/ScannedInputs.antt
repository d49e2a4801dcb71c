-- The fault of a whole input is what the scan finds, where size and encoding are right.
use Rattle.std.proofs.Common.{◌≡◌, refl, ◌∙◌, ap, ◌<◌, ◌≤◌, ℕ, List, length, Bool, true, false, not, Some, Option, IsUtf8, cond, nat_lt}
use Rattle.std.specs.Str.{is_utf8}
use Rattle.std.proofs.lemmas.Bool.{lt-ltb, le-ltb}
use Rattle.std.proofs.lemmas.Str.{IsUtf8-from_is_utf8, is_utf8-from_IsUtf8}
use Rattle.simd_json_parts.specs.Faults.{whole_fault}
use Rattle.simd_json_parts.specs.InputFaults.{input_fault, scan_fault}
use Rattle.simd_json_parts.specs.Limits.{max_length}
use Rattle.simd_json_parts.specs.declared.error.Error.{Error}
use Rattle.simd_json_parts.specs.declared.error.ErrorType.TheVariants.{InputTooLarge, InvalidUtf8}

abbrev pub by_size : Bool → Bool → Option Error → Option Error
by_size is_large is_string scanned =
    cond is_large (Some (whole_fault InputTooLarge)) (cond (not is_string) (Some (whole_fault InvalidUtf8)) scanned)

pub fault-by_size : (b : List ℕ) → input_fault b ≡ by_size (nat_lt max_length (length b)) (is_utf8 b) (scan_fault b)
unfolding input_fault
fault-by_size b = refl

-- too many bytes
pub too_large : (b : List ℕ) → max_length < length b → input_fault b ≡ Some (whole_fault InputTooLarge)
too_large b l = fault-by_size b ∙ ap (λ t. by_size t (is_utf8 b) (scan_fault b)) (lt-ltb max_length (length b) l)

no_string : (b : List ℕ) → (IsUtf8 b → ⊥) → is_utf8 b ≡ false
no_string b none = by_cases (is_utf8 b) refl where
  by_cases : (t : Bool) → is_utf8 b ≡ t → t ≡ false
  by_cases true is = absurd (none (IsUtf8-from_is_utf8 b is))
  by_cases false is = refl

-- no UTF-8
pub bad_encoding : (b : List ℕ) → length b ≤ max_length → (IsUtf8 b → ⊥) → input_fault b ≡ Some (whole_fault InvalidUtf8)
bad_encoding b l none =
    fault-by_size b ∙ ap (λ t. by_size t (is_utf8 b) (scan_fault b)) (le-ltb max_length (length b) l)
    ∙ ap (λ t. by_size false t (scan_fault b)) (no_string b none)

-- neither
pub scanned : (b : List ℕ) → length b ≤ max_length → IsUtf8 b → input_fault b ≡ scan_fault b
scanned b l string =
    fault-by_size b ∙ ap (λ t. by_size t (is_utf8 b) (scan_fault b)) (le-ltb max_length (length b) l)
    ∙ ap (λ t. by_size false t (scan_fault b)) (is_utf8-from_IsUtf8 b string)
