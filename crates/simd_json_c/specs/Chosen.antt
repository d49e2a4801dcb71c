-- The text of a value that a pointer names in a document.
use Rattle.std.specs.Prelude.{◌≡◌, ◌<◌, ◌⊎◌, ℕ, ℤ, List, length, max, ◌==◌, cond, Option, None, MatchOption, MatchResult, IsUtf8}
use Rattle.std.specs.Result.{result_ok}
use Rattle.std.specs.Vec.{vec_capacity}
use Rattle.simd_json.specs.Parsed.{IsParse}
use Rattle.simd_json.specs.Reserved.{parse_capacity}
use Rattle.simd_json_parts.specs.Document.{Document}
use Rattle.simd_json_parts.specs.Limits.{depth}
use Rattle.simd_json_parts.specs.Listing.{listing}
use Rattle.simd_json_parts.specs.Nodes.{Item}
use Rattle.simd_json_parts.specs.Pointed.{pointed}
use Rattle.simd_json_parts.specs.declared.error.Error.{Error}
use Rattle.simd_json_print.specs.Layout.{printed}
use Rattle.simd_json_print.specs.declared.document.Layout.{Layout}
use Rattle.simd_json_print.specs.declared.document.Layout.TheVariants as layouts
use Rattle.simd_json_c.specs.Calls.{IsTextPut}
use Rattle.simd_json_c.specs.Kept.{IsCallWith}
use Rattle.simd_json_c.specs.Statuses.{error_place, error_status, missing_status, named_by, out_of_memory}
use Rattle.simd_json_c.specs.declared.status.ErrorPlace.{ErrorPlace}
use Rattle.simd_json_c.specs.declared.lists.Lists.{Lists}

-- the layout that a call names
abbrev pub layout_of : ℕ → Layout
layout_of number = cond (number == 0) layouts.Compact layouts.Pretty

-- The list for the text had less capacity; or more containers are open at a time than 64, and than there were levels.
abbrev pub IsTooLittle : ℕ → ℕ → Layout → Document → Type 0
IsTooLittle capacity levels layout d = (capacity < length (printed layout d)) ⊎ (max 64 levels < depth d)

-- the text of the value that the pointer names is put or has too little room, or an allocation failed; or there is no such value
unfoldable pub IsChosenPut : ℕ → ℕ → Layout → List ℕ → Document → ℤ → ℕ → ℕ → List ℕ → List ℕ → Type 0
IsChosenPut capacity levels layout pointer d status old_needed needed old new =
    MatchResult (named_by pointer (result_ok (pointed pointer d)))
    (λ e.
    IsTextPut (printed layout e) status needed old new
    ⊎ ((status ≡ out_of_memory) × (needed ≡ old_needed) × (new ≡ old) × IsTooLittle capacity levels layout e))
    (λ why. (status ≡ why) × (needed ≡ old_needed) × (new ≡ old))

-- a parse of b with the lists and their tape, and the lists afterwards
abbrev pub IsTapedWith : Lists → List ℕ → Option Error → List Item → Lists → Type 0
IsTapedWith old b fault ns new =
    IsParse b old.buffers.limit (parse_capacity old.buffers old.tape) fault ns new.buffers.index.listed

-- a call with an open parser that prints the value that the pointer names in the document that b is
abbrev pub IsPrintOf : Lists → Lists → List ℕ → Layout → List ℕ → ℤ → ErrorPlace → ℕ → ℕ → List ℕ → List ℕ → Type 0
IsPrintOf was lists b layout pointer status place old_needed needed old_out out =
    (fault : Option Error) × (ns : List Item) × IsTapedWith was b fault ns lists × (place ≡ error_place fault)
    × MatchOption fault
    ((d : Document) × (listing d ≡ ns)
    × IsChosenPut (vec_capacity was.printed) (length was.levels.items) layout pointer d status old_needed needed old_out out)
    (λ e. (status ≡ error_status fault) × (needed ≡ old_needed) × (out ≡ old_out))

-- with any parser; a pointer that is no text names no value, and the input is not read
abbrev pub IsPrintedWith : Option Lists → Option Lists → List ℕ → Layout → List ℕ → ℤ → ErrorPlace → ℕ → ℕ → List ℕ → List ℕ → Type 0
IsPrintedWith old new b layout pointer status place old_needed needed old_out out =
    IsCallWith old new status place ((needed ≡ old_needed) × (out ≡ old_out))
    (λ was lists.
    (IsUtf8 pointer × IsPrintOf was lists b layout pointer status place old_needed needed old_out out)
    ⊎ ((IsUtf8 pointer → ⊥) × (status ≡ missing_status pointer) × (place ≡ error_place None) × (needed ≡ old_needed) × (out ≡ old_out)))
