-- What a call leaves that is made with the lists of an open parser, by what it returns for them.
use denote.RawPtr.{Ptr}
use Rattle.std.specs.Prelude.{◌≡◌, ◌⊎◌, ℕ, ℤ, pos, List, IsUtf8, Option, Some, None, Result, Ok, Err, IfOk, IfErr, MatchResult, length}
use Rattle.std.specs.Result.{result_err}
use Rattle.std.specs.Vec.{vec_capacity}
use Rattle.std.proofs.Common.{◌∙◌, inl, inr}
use Rattle.simd_json_parts.specs.Document.{Document}
use Rattle.simd_json_parts.specs.Listing.{listing}
use Rattle.simd_json_parts.specs.Nodes.{Item}
use Rattle.simd_json_parts.specs.declared.error.Error.{Error}
use Rattle.simd_json_check.specs.Checkers.{check_capacity}
use Rattle.simd_json_print.specs.declared.document.Layout.{Layout}
use Rattle.simd_json_c.specs.Calls.{IsCheckOf}
use Rattle.simd_json_c.specs.Chosen.{IsChosenPut, IsPrintedWith, IsTapedWith}
use Rattle.simd_json_c.specs.Kept.{IsCheckedWith, IsReadWith, KeepsLists}
use Rattle.simd_json_c.specs.Lent.{AreLent, IsParsedWith}
use Rattle.simd_json_c.specs.Statuses.{error_place, error_status, missing_status}
use Rattle.simd_json_c.specs.declared.lent.Lent.{Lent}
use Rattle.simd_json_c.specs.declared.status.ErrorPlace.{ErrorPlace}
use Rattle.simd_json_c.specs.declared.lists.Lists.{Lists}

-- the status and the place of an outcome
abbrev pub IsReported : Result ℤ Error → ℤ → ErrorPlace → Type 0
IsReported outcome status place =
    (place ≡ error_place (result_err outcome))
    × MatchResult outcome (λ s. status ≡ s) (λ e. status ≡ error_status (Some e))

-- the lists before and after, which are kept
abbrev pub AreKeptOpen : Option Lists → Option Lists → Lists → Lists → Type 0
AreKeptOpen old new was lists = (old ≡ Some was) × (new ≡ Some lists) × KeepsLists was lists

pub checked-with : (old new : Option Lists) (was lists : Lists) (b : List ℕ) (r : Result ℤ Error) (status : ℤ) (place : ErrorPlace)
    → AreKeptOpen old new was lists → IsReported r status place
    → IsCheckOf b was.buffers.limit (check_capacity was.buffers.limit was.checker) (result_err r) → IfOk r (λ s. s ≡ pos 0)
    → IsCheckedWith old new b status place
checked-with old new was lists b (Ok s) status place kept told is zero =
    rw kept.0 (lists, kept.1, kept.2, (None, is, told.1 ∙ zero, told.0))
checked-with old new was lists b (Err e) status place kept told is zero =
    rw kept.0 (lists, kept.1, kept.2, (Some e, is, told.1, told.0))

pub parsed-with : (old new : Option Lists) (was lists : Lists) (address : Ptr) (b bytes : List ℕ) (r : Result ℤ Error) (status : ℤ)
    (place : ErrorPlace) (old_lent lent : Lent) → AreKeptOpen old new was lists → IsReported r status place
    → IfOk r (λ s. (ns : List Item) × IsReadWith was b None ns × AreLent ns address bytes was lists s old_lent lent)
    → IfErr r (λ e. (ns : List Item) × IsReadWith was b (Some e) ns × (lent ≡ old_lent))
    → IsParsedWith old new address b bytes status place old_lent lent
parsed-with old new was lists address b bytes (Ok s) status place old_lent lent kept told are none =
    rw kept.0 (lists, kept.1, kept.2, (None, are.0, are.1, told.0, rw told.1 are.2))
parsed-with old new was lists address b bytes (Err e) status place old_lent lent kept told are none =
    rw kept.0 (lists, kept.1, kept.2, (Some e, none.0, none.1, told.0, (told.1, none.2)))

pub printed-with : (old new : Option Lists) (was lists : Lists) (b : List ℕ) (layout : Layout) (pointer : List ℕ) (r : Result ℤ Error)
    (status : ℤ) (place : ErrorPlace) (old_needed needed : ℕ) (old_out out : List ℕ) → AreKeptOpen old new was lists
    → IsReported r status place
    → IfOk r (λ s. (IsUtf8 pointer × ((ns : List Item) × (d : Document) × IsTapedWith was b None ns lists × (listing d ≡ ns)
    × IsChosenPut (vec_capacity was.printed) (length was.levels.items) layout pointer d s old_needed needed old_out out))
    ⊎ ((IsUtf8 pointer → ⊥) × (s ≡ missing_status pointer) × (needed ≡ old_needed) × (out ≡ old_out)))
    → IfErr r (λ e. IsUtf8 pointer
    × ((ns : List Item) × IsTapedWith was b (Some e) ns lists × (needed ≡ old_needed) × (out ≡ old_out)))
    → IsPrintedWith old new b layout pointer status place old_needed needed old_out out
printed-with old new was lists b layout pointer (Ok s) status place old_needed needed old_out out kept told (inl is) none =
    rw kept.0 (lists, kept.1, kept.2, inl (is.0, (None, is.1.0, is.1.2, told.0, (is.1.1, is.1.3, rw told.1 is.1.4))))
printed-with old new was lists b layout pointer (Ok s) status place old_needed needed old_out out kept told (inr is) none =
    rw kept.0 (lists, kept.1, kept.2, inr (is.0, told.1 ∙ is.1, told.0, is.2, is.3))
printed-with old new was lists b layout pointer (Err e) status place old_needed needed old_out out kept told is none =
    rw kept.0 (lists, kept.1, kept.2, inl (none.0, (Some e, none.1.0, none.1.1, told.0, (told.1, none.1.2, none.1.3))))
