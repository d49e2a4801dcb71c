-- Values that are found by pointers in an input that a parser keeps, with its structural indexes.
use Rattle.std.specs.Prelude.{◌≡◌, ℕ, ℤ, List, true, false, Option, Some, None, MatchOption, MatchResult, Ok, IsUtf8}
use Rattle.std.specs.Result.{result_ok}
use Rattle.simd_json_parts.specs.Answer.{answer}
use Rattle.simd_json_parts.specs.Document.{Document}
use Rattle.simd_json_parts.specs.InputFaults.{input_fault}
use Rattle.simd_json_parts.specs.Pointed.{pointed}
use Rattle.simd_json_parts.specs.Positions.{positions}
use Rattle.simd_json_parts.specs.Views.{value_type}
use Rattle.simd_json_parts.specs.declared.error.Error.{Error}
use Rattle.simd_json_parts.specs.declared.node.ValueType.{ValueType}
use Rattle.simd_json_parts.specs.declared.node.ValueType.TheVariants as kinds
use Rattle.simd_json_ondemand.specs.Docs.{doc, kind}
use Rattle.simd_json_ondemand.specs.Reached.{pointed_at}
use Rattle.simd_json_ondemand.specs.Sites.{Site, site}
use Rattle.simd_json_ondemand.specs.Walks.{found as reached}
use Rattle.simd_json_ondemand.specs.Written.{written}
use Rattle.simd_json_ondemand.specs.declared.value.Value.{Value}
use Rattle.simd_json_c.specs.Calls.{IsTextPut}
use Rattle.simd_json_c.specs.Indexed.{IsUnscanned}
use Rattle.simd_json_c.specs.Kept.{KeepsRoom, KeepsSource, source_capacity}
use Rattle.simd_json_c.specs.Statuses.{error_place, error_status, missing_status, named_by, no_value_status, parser_closed}
use Rattle.simd_json_c.specs.declared.demand.FoundValue.{FoundValue}
use Rattle.simd_json_c.specs.declared.status.ErrorPlace.{ErrorPlace}
use Rattle.simd_json_c.specs.declared.scanned.ScannedInput.{ScannedInput}
use Rattle.simd_json_c.specs.declared.lists.Lists.{Lists}

-- the header's numbers
abbrev pub kind_number : ValueType → ℕ
kind_number kinds.Null = 0
kind_number kinds.Bool = 1
kind_number kinds.I64 = 2
kind_number kinds.U64 = 3
kind_number kinds.I128 = 4
kind_number kinds.U128 = 5
kind_number kinds.Decimal = 6
kind_number kinds.String = 7
kind_number kinds.Array = 8
kind_number kinds.Object = 9

-- there is no value, for a reason
abbrev pub IsNotFound : ℤ → FoundValue → FoundValue → List ℕ → List ℕ → ℤ → Type 0
IsNotFound status old_found found old new why = (status ≡ why) × (found ≡ old_found) × (new ≡ old)

-- the value's kind, and its bytes as they are written, which are put or have too little room
abbrev pub IsPutAs : ValueType → List ℕ → ℤ → FoundValue → List ℕ → List ℕ → Type 0
IsPutAs k bytes status found old new = (found.kind ≡ kind_number k) × IsTextPut bytes status found.len old new

-- of a place that has both
abbrev pub IsValuePut : Value → ℤ → FoundValue → FoundValue → List ℕ → List ℕ → Type 0
IsValuePut v status old_found found old new =
    MatchOption (kind v) (IsNotFound status old_found found old new no_value_status)
    (λ k. MatchOption (written v) (IsNotFound status old_found found old new no_value_status)
    (λ bytes. IsPutAs k bytes status found old new))

-- where the pointer leads in b, whatever the bytes are
abbrev pub site_named : List ℕ → List ℕ → Option Site
site_named pointer b = reached (pointed_at pointer (b, positions b))

-- of the value at that place of b
abbrev pub IsSitePut : List ℕ → List ℕ → ℤ → FoundValue → FoundValue → List ℕ → List ℕ → Type 0
IsSitePut b pointer status old_found found old new =
    MatchResult (named_by pointer (site_named pointer b))
    (λ s. (v : Value) × (site v ≡ s) × IsValuePut v status old_found found old new) (IsNotFound status old_found found old new)

-- where b is a document, this is the value that the pointer names in it
abbrev pub IsNamedPut : List ℕ → List ℕ → ℤ → FoundValue → FoundValue → List ℕ → List ℕ → Type 0
IsNamedPut b pointer status old_found found old new = (d : Document) (limit : ℕ) → answer b limit ≡ Ok d
    → MatchResult (named_by pointer (result_ok (pointed pointer d)))
    (λ e. (v : Value) × (site_named pointer b ≡ Some (site v)) × (doc v ≡ Some e)
    × ((bytes : List ℕ) × (written v ≡ Some bytes) × IsPutAs (value_type e) bytes status found old new))
    (IsNotFound status old_found found old new)

-- in the input that is kept, or in none
abbrev pub IsFoundIn : ScannedInput → List ℕ → ℤ → FoundValue → FoundValue → List ℕ → List ℕ → Type 0
IsFoundIn source pointer status old_found found old new =
    (source.is_scanned ≡ false → IsNotFound status old_found found old new (missing_status pointer))
    × ((IsUtf8 pointer → ⊥) → IsNotFound status old_found found old new (missing_status pointer))
    × (source.is_scanned ≡ true → IsUtf8 pointer
    → IsSitePut source.bytes.items pointer status old_found found old new
    × IsNamedPut source.bytes.items pointer status old_found found old new)

-- a call that finds a value with a parser, which stays as it is
abbrev pub IsFoundWith : Option Lists → Option Lists → List ℕ → ℤ → FoundValue → FoundValue → List ℕ → List ℕ → Type 0
IsFoundWith old new pointer status old_found found old_out out =
    (new ≡ old)
    × MatchOption old
    ((status ≡ parser_closed) × (found ≡ old_found) × (out ≡ old_out))
    (λ lists. IsFoundIn lists.source pointer status old_found found old_out out)

-- b is kept, and has no error of the whole input
abbrev pub KeepsInput : List ℕ → Lists → Type 0
KeepsInput b lists = (input_fault b ≡ None) × (lists.source.bytes.items ≡ b) × (lists.source.is_scanned ≡ true)

-- a call that keeps b, or nothing
abbrev pub IsInputWith : Option Lists → Option Lists → List ℕ → ℤ → ErrorPlace → Type 0
IsInputWith old new b status place =
    MatchOption old
    ((new ≡ None) × (status ≡ parser_closed) × (place ≡ error_place None))
    (λ was. (lists : Lists) × (new ≡ Some lists) × KeepsRoom was lists × KeepsSource was.source lists.source
    × (lists.wanted ≡ was.wanted)
    × ((fault : Option Error) × (status ≡ error_status fault) × (place ≡ error_place fault)
    × MatchOption fault (KeepsInput b lists)
    (λ e. IsUnscanned (source_capacity was.source) b e × (lists.source.is_scanned ≡ false))))
