-- Where containers end among the structural indexes, by counting brackets, and a cursor inside a container.
use Rattle.std.specs.Prelude.{◌≡◌, ◌≢◌, ◌<◌, ℕ, ◌+◌, List, length, drop, slice_index, Option, Some, None}
use Rattle.simd_json_parts.specs.Bytes.{comma, byte_at}
use Rattle.simd_json_parts.specs.Document as parts
use Rattle.simd_json_ondemand.specs.Closing.{closed_at, first_bytes, span}
use Rattle.simd_json_ondemand.specs.Docs.{text, places}
use Rattle.simd_json_ondemand.specs.Remaining.{elements_inside, elements_past, elements_behind}
use Rattle.simd_json_ondemand.specs.Remaining.{members_inside, members_past, members_behind}
use Rattle.simd_json_ondemand.specs.declared.array.Array.{Array}
use Rattle.simd_json_ondemand.specs.declared.array.Position.{Position}
use Rattle.simd_json_ondemand.specs.declared.array.Position.TheVariants.{First, AtValue, AfterValue}
use Rattle.simd_json_ondemand.specs.declared.object.Object.{Object}
use Rattle.simd_json_ondemand.specs.declared.value.Document.{Document}
use Rattle.simd_json_ondemand.specs.declared.value.Value.{Value}

-- the number of the structural index after the value that begins at this one
abbrev pub after_value : Document → ℕ → ℕ
after_value d at = at + span (text d) (drop at (places d))

abbrev pub after : Value → ℕ
after v = after_value v.document v.at

-- the same of the container that is open here
abbrev pub after_open : Document → ℕ → ℕ
after_open d at = at + closed_at 1 (first_bytes (text d) (drop at (places d)))

-- of the container that a cursor is in
abbrev pub after_at : Document → ℕ → Position → ℕ
after_at d at AtValue = after_open d (after_value d at)
after_at d at _ = after_open d at

-- of the value that a cursor returned last
abbrev pub after_last : Document → ℕ → Position → Option ℕ
after_last d at First = None
after_last d at AtValue = Some (after_value d at)
after_last d at AfterValue = Some at

-- what is left, if an array or an object goes on here and ends
abbrev pub elements_at : Document → ℕ → Position → Option (List parts.Document)
elements_at d at First = elements_inside (text d) (drop at (places d))
elements_at d at AtValue = elements_past (text d) (drop at (places d))
elements_at d at AfterValue = elements_behind (text d) (drop at (places d))

abbrev pub members_at : Document → ℕ → Position → Option (List (List ℕ × parts.Document))
members_at d at First = members_inside (text d) (drop at (places d))
members_at d at AtValue = members_past (text d) (drop at (places d))
members_at d at AfterValue = members_behind (text d) (drop at (places d))

-- the cursor is inside the array that begins at the value
pub record IsInArray (v : Value) (a : Array) : Type 0 where
  pub left : List parts.Document
  pub here : elements_at a.document a.at a.position ≡ Some left
  pub ends : after_at a.document a.at a.position ≡ after v

-- inside the object, whose first member is where it begins
pub record IsInObject (v : Value) (o : Object) : Type 0 where
  pub left : List (List ℕ × parts.Document)
  pub here : members_at o.document o.at o.position ≡ Some left
  pub ends : after_at o.document o.at o.position ≡ after v
  pub all : List (List ℕ × parts.Document)
  pub begins : members_at o.document o.first First ≡ Some all
  pub closes : after_at o.document o.first First ≡ after v

-- the cursors are in the same object
pub record AreInSameObject (o p : Object) : Type 0 where
  pub document : p.document ≡ o.document
  pub first : p.first ≡ o.first

-- Where the item that a cursor comes to next is to begin: behind a comma, or where no bracket closes the container. They
-- serve proofs: only the crate's private clauses cite them.
abbrev pub IsBehindComma : Document → ℕ → ℕ → Type 0
IsBehindComma d at next = (at < length (places d)) × (byte_at (text d) (slice_index (places d) at) ≡ comma) × (next ≡ at + 1)

abbrev pub IsItemAt : ℕ → Document → ℕ → Position → ℕ → Type 0
IsItemAt close d at First next = (byte_at (text d) (slice_index (places d) at) ≢ close) × (next ≡ at)
IsItemAt close d at AtValue next = IsBehindComma d (after_value d at) next
IsItemAt close d at AfterValue next = IsBehindComma d at next
