-- JSON Pointers that are prepared for look-ups (RFC 6901).
use Rattle.std.specs.Prelude.{ℕ, List}
use Rattle.std.specs.List.{slice_range}
use Rattle.std.specs.String.{string_bytes}
use Rattle.simd_json_ondemand.specs.declared.prepared.PreparedPointer.{PreparedPointer}

abbrev pub pointer_text : {A : Type 0} → PreparedPointer A → List ℕ
pointer_text p = string_bytes p.text

-- the key that its first token is. Only the crate's private clauses cite it.
abbrev pub first_key : {A : Type 0} → PreparedPointer A → List ℕ
first_key p = slice_range (pointer_text p) 1 p.key_end
