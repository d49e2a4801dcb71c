-- What a parser keeps from one call to the next. A closed one keeps no lists.
use Rattle.std.specs.Prelude.{◌≡◌, ◌≤◌, ◌⊎◌, ℕ, ℤ, pos, List, [], length, min, false, Option, Some, None, MatchOption, ⊤}
use Rattle.std.specs.Vec.{vec_capacity}
use Rattle.simd_json.specs.Capacities.{KeepsCapacities, capacity, new_buffers}
use Rattle.simd_json.specs.Parsed.{IsParseResult}
use Rattle.simd_json_stages.specs.Capacities as lists
use Rattle.simd_json_check.specs.Checkers.{KeepsChecker, check_capacity, new_checker}
use Rattle.simd_json_parts.specs.Nodes.{Item}
use Rattle.simd_json_parts.specs.declared.error.Error.{Error}
use Rattle.simd_json_c.specs.Statuses.{out_of_memory, parser_closed, error_place}
use Rattle.simd_json_c.specs.Calls.{IsCheckReported}
use Rattle.simd_json_c.specs.declared.lists.Lists.{Lists}
use Rattle.simd_json_c.specs.declared.scanned.ScannedInput.{ScannedInput}
use Rattle.simd_json_c.specs.declared.status.ErrorPlace.{ErrorPlace}

-- within the same limit, and no capacity is given up
abbrev pub KeepsRoom : Lists → Lists → Type 0
KeepsRoom old new =
    (new.buffers.limit ≡ old.buffers.limit) × KeepsCapacities old.buffers new.buffers × (old.tape.capacity ≤ new.tape.capacity)
    × KeepsChecker old.checker new.checker
    × (vec_capacity old.printed ≤ vec_capacity new.printed) × (length old.levels.items ≤ length new.levels.items)
    × (vec_capacity old.nodes ≤ vec_capacity new.nodes)

-- nor of the lists for an input that is kept
abbrev pub KeepsSource : ScannedInput → ScannedInput → Type 0
KeepsSource old new = lists.IsNoShorter old.index new.index × (vec_capacity old.bytes ≤ vec_capacity new.bytes)

-- for an input of how many bytes these have capacity
abbrev pub source_capacity : ScannedInput → ℕ
source_capacity s = min (lists.capacity s.index) (vec_capacity s.bytes)

-- and the input that is kept, if one is, and the pointers
abbrev pub KeepsLists : Lists → Lists → Type 0
KeepsLists old new = KeepsRoom old new × (new.source ≡ old.source) × (new.wanted ≡ old.wanted)

-- a parse of b with the lists
abbrev pub IsReadWith : Lists → List ℕ → Option Error → List Item → Type 0
IsReadWith lists b fault ns = IsParseResult b lists.buffers.limit (capacity lists.buffers) fault ns

-- lists with no capacity yet, no input and no pointer
abbrev pub AreNew : ℕ → Lists → Type 0
AreNew limit lists =
    (lists.buffers ≡ new_buffers 0 limit) × (lists.checker ≡ new_checker) × (lists.source.is_scanned ≡ false)
    × (lists.wanted.items ≡ [])

abbrev pub IsOpened : ℕ → ℤ → Option Lists → Type 0
IsOpened limit status parser =
    ((status ≡ pos 0) × ((lists : Lists) × (parser ≡ Some lists) × AreNew limit lists)) ⊎ ((status ≡ out_of_memory) × (parser ≡ None))

-- a closed parser stays closed, and an open one open
abbrev pub IsCallWith : Option Lists → Option Lists → ℤ → ErrorPlace → Type 0 → (Lists → Lists → Type 0) → Type 0
IsCallWith old new status place Same Is =
    MatchOption old
    ((new ≡ None) × (status ≡ parser_closed) × (place ≡ error_place None) × Same)
    (λ was. (lists : Lists) × (new ≡ Some lists) × KeepsLists was lists × Is was lists)

abbrev pub IsCheckedWith : Option Lists → Option Lists → List ℕ → ℤ → ErrorPlace → Type 0
IsCheckedWith old new b status place =
    IsCallWith old new status place ⊤
    (λ was lists. IsCheckReported b was.buffers.limit (check_capacity was.buffers.limit was.checker) status place)
