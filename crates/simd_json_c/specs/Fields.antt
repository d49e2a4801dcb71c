-- Values that several pointers name in one input, as they lie there.
use Rattle.std.specs.Prelude.{◌≡◌, ◌≢◌, ◌⊎◌, ◌++◌, ◌<◌, ◌≤◌, ℕ, ℤ, pos, List, [], ◌∷◌, length, map, Bool, true, false, if◌then◌else◌}
use Rattle.std.specs.Prelude.{Option, Some, None, MatchOption, IsUtf8, Ok}
use Rattle.std.specs.List.{slice_get}
use Rattle.std.specs.Result.{result_ok}
use Rattle.simd_json_parts.specs.Accessors as accessors
use Rattle.simd_json_parts.specs.Answer.{answer}
use Rattle.simd_json_parts.specs.Document.{Document}
use Rattle.simd_json_parts.specs.InputFaults.{input_fault}
use Rattle.simd_json_parts.specs.Pointed.{is_pointer, pointed}
use Rattle.simd_json_parts.specs.Views.{value_type}
use Rattle.simd_json_parts.specs.declared.error.Error.{Error}
use Rattle.simd_json_parts.specs.declared.node.StaticNode.{StaticNode}
use Rattle.simd_json_parts.specs.declared.node.ValueType.{ValueType}
use Rattle.simd_json_parts.specs.declared.node.ValueType.TheVariants as kinds
use Rattle.simd_json_stages.specs.Capacities.{capacity}
use Rattle.simd_json_stages.specs.Placed.{is_long}
use Rattle.simd_json_ondemand.specs.Docs.{HasEscape, as_standing, between_quotes, doc, index_of, kind, standing}
use Rattle.simd_json_ondemand.specs.Prepared.{pointer_text}
use Rattle.simd_json_ondemand.specs.Reached.{pointed_at}
use Rattle.simd_json_ondemand.specs.Sites.{Site, site}
use Rattle.simd_json_ondemand.specs.Standing.{IsInteger}
use Rattle.simd_json_ondemand.specs.Walks.{found as reached}
use Rattle.simd_json_ondemand.specs.Written.{written}
use Rattle.simd_json_ondemand.specs.declared.prepared.PreparedPointer.{PreparedPointer}
use Rattle.simd_json_ondemand.specs.declared.value.Value.{Value}
use Rattle.simd_json_c.specs.Cells.{static_cell}
use Rattle.simd_json_c.specs.Found.{kind_number, site_named}
use Rattle.simd_json_c.specs.Indexed.{IsUnscanned}
use Rattle.simd_json_c.specs.Kept.{IsCallWith, KeepsRoom}
use Rattle.simd_json_c.specs.Statuses.{error_place, error_status, invalid_pointer, out_of_memory, parser_closed}
use Rattle.simd_json_c.specs.declared.cells.Cell.{Cell}
use Rattle.simd_json_c.specs.declared.fields.Field.{Field}
use Rattle.simd_json_c.specs.declared.lists.Lists.{Lists}
use Rattle.simd_json_c.specs.declared.status.ErrorPlace.{ErrorPlace}

-- ---- the pointers of a parser

abbrev pub wanted : Lists → List (List ℕ)
wanted lists = map pointer_text lists.wanted.items

-- the pointer comes after those before it, or is malformed or no text, or an allocation failed, and none is added
abbrev pub IsAdded : List (List ℕ) → List (List ℕ) → List ℕ → ℤ → Type 0
IsAdded old new pointer status =
    ((status ≡ pos 0) × (new ≡ old ++ pointer ∷ []) × (is_pointer pointer ≡ true))
    ⊎ ((status ≡ invalid_pointer) × (new ≡ old) × ((is_pointer pointer ≡ false) ⊎ (IsUtf8 pointer → ⊥)))
    ⊎ ((status ≡ out_of_memory) × (new ≡ old))

abbrev pub IsAddedWith : Option Lists → Option Lists → List ℕ → ℤ → Type 0
IsAddedWith old new pointer status =
    MatchOption old
    ((new ≡ None) × (status ≡ parser_closed))
    (λ was. (lists : Lists) × (new ≡ Some lists) × KeepsRoom was lists × (lists.source ≡ was.source)
    × IsAdded (wanted was) (wanted lists) pointer status)

-- ---- what they name

abbrev pub field_with : ℕ → ℕ → ℕ → Field
field_with kind len value = record { kind = kind; has_escape = 0; len = len; value = value }

abbrev pub missing : Field
missing = field_with 10 0 0

-- an integer of 64 bits, as in a node
abbrev pub cell_field : Cell → Field
cell_field c = field_with c.kind c.len c.value

abbrev pub IsShortField : Value → Field → Type 0
IsShortField v f = (node : StaticNode) × IsInteger node (standing v) × (is_long node ≡ false) × (f ≡ cell_field (static_cell 0 0 node))

-- a string that has no escape is what lies between its quotes
abbrev pub IsEscapeOf : Value → ℕ → Type 0
IsEscapeOf v n = ((n ≡ 0) × (as_standing accessors.str v ≡ Some (between_quotes v))) ⊎ ((n ≡ 1) × HasEscape v)

-- a truth value; of all else the bytes as they are written, which begin at the value's index
abbrev pub IsFieldAs : Value → ValueType → List ℕ → Field → Type 0
IsFieldAs v kinds.Null bytes f = f ≡ field_with 0 0 0
IsFieldAs v kinds.Bool bytes f = (t : Bool) × (as_standing accessors.bool v ≡ Some t) × (f ≡ field_with 1 0 (if t then 1 else 0))
IsFieldAs v kinds.String bytes f = (f.kind ≡ 7) × IsEscapeOf v f.has_escape × (f.len ≡ length bytes) × (f.value ≡ index_of v)
IsFieldAs v k bytes f = f ≡ field_with (kind_number k) (length bytes) (index_of v)

abbrev pub IsWrittenField : Value → Field → Type 0
IsWrittenField v f =
    MatchOption (kind v) (f ≡ missing) (λ k. MatchOption (written v) (f ≡ missing) (λ bytes. IsFieldAs v k bytes f))

abbrev pub IsFieldOf : Value → Field → Type 0
IsFieldOf v f =
    IsShortField v f
    ⊎ (((node : StaticNode) → IsInteger node (standing v) → is_long node ≡ true) × IsWrittenField v f)

-- and a value of a document is found
abbrev pub IsFieldOfSome : Value → Field → Type 0
IsFieldOfSome v f = IsFieldOf v f × ((e : Document) → doc v ≡ Some e → (kind v ≡ Some (value_type e)) × (f.kind ≢ missing.kind))

abbrev pub IsFieldAt : Option Site → Field → Type 0
IsFieldAt place f = MatchOption place (f ≡ missing) (λ s. (v : Value) × (site v ≡ s) × IsFieldOfSome v f)

-- where b is a document, this is the value that the pointer names in it
abbrev pub IsFieldNamed : Option Site → Option Document → Field → Type 0
IsFieldNamed place named f =
    MatchOption named (f ≡ missing) (λ e. (v : Value) × (place ≡ Some (site v)) × (doc v ≡ Some e) × IsFieldOfSome v f)

-- of a pointer from a value, and in an input
abbrev pub IsFieldFrom : Value → List ℕ → Field → Type 0
IsFieldFrom root p f = let place = reached (pointed_at p (site root)) in
    IsFieldAt place f × ((d : Document) → doc root ≡ Some d → IsFieldNamed place (result_ok (pointed p d)) f)

abbrev pub IsFieldIn : List ℕ → List ℕ → Field → Type 0
IsFieldIn b p f =
    IsFieldAt (site_named p b) f
    × ((d : Document) (limit : ℕ) → answer b limit ≡ Ok d → IsFieldNamed (site_named p b) (result_ok (pointed p d)) f)

-- The fields of the pointers from one number up to another are put, as far as there are fields, and no other. It serves
-- proofs: only the crate's private clauses cite it.
pub record AreFieldsFrom {A : Type 0} (root : Value) (ps : List (PreparedPointer A)) (from to : ℕ) (old new : List Field) : Type 0 where
  pub size : length new ≡ length old
  pub others : (k : ℕ) → (k < from) ⊎ (to ≤ k) → slice_get new k ≡ slice_get old k
  pub each : (k : ℕ) (p : PreparedPointer A) (f : Field) → from ≤ k → k < to → slice_get ps k ≡ Some p → slice_get new k ≡ Some f
      → IsFieldFrom root (pointer_text p) f

-- of each pointer in b
pub record AreFieldsPut (ps : List (List ℕ)) (b : List ℕ) (old new : List Field) : Type 0 where
  pub size : length new ≡ length old
  pub others : (k : ℕ) → length ps ≤ k → slice_get new k ≡ slice_get old k
  pub each : (k : ℕ) (p : List ℕ) (f : Field) → slice_get ps k ≡ Some p → slice_get new k ≡ Some f → IsFieldIn b p f

-- a call that finds what the pointers of a parser name in b
abbrev pub IsFieldsWith : Option Lists → Option Lists → List ℕ → ℤ → ErrorPlace → List Field → List Field → Type 0
IsFieldsWith old new b status place old_fields fields =
    IsCallWith old new status place (fields ≡ old_fields)
    (λ was lists. (fault : Option Error) × (status ≡ error_status fault) × (place ≡ error_place fault)
    × MatchOption fault
    ((input_fault b ≡ None) × AreFieldsPut (wanted was) b old_fields fields)
    (λ e. IsUnscanned (capacity was.checker.index) b e × (fields ≡ old_fields)))
