-- What iterators have left, what the items are, and the hint that tells how much is left.
use Rattle.std.specs.Prelude.{List, ℕ, Option, Some}
use denote.Ref.{Bor}
use Rattle.simd_json_parts.specs.Document.{Document, elements, members}
use Rattle.simd_json_parts.specs.Views.{keys, values}
use Rattle.simd_json.specs.Viewed.{doc, docs, pairs}
use Rattle.simd_json.specs.declared.value.tape.array.Iter.{Iter as ArrayIter}
use Rattle.simd_json.specs.declared.value.tape.object.Iter.{Iter as ObjectIter}
use Rattle.simd_json.specs.declared.value.tape.object.Keys.{Keys}
use Rattle.simd_json.specs.declared.value.tape.object.Values.{Values}
use Rattle.simd_json.specs.declared.value.tape.value.Value.{Value}

abbrev pub elements_left : ArrayIter → List Document
elements_left it = elements (docs it.left)

abbrev pub pairs_left : ObjectIter → List (List ℕ × Document)
pairs_left it = members (pairs it.left)

-- a name and a value
abbrev pub pair : Bor (List ℕ) × Value → List ℕ × Document
pair p = (p.0.now, doc p.1)

abbrev pub keys_left : Keys → List (List ℕ)
keys_left it = keys (pairs it.left)

abbrev pub values_left : Values → List Document
values_left it = values (pairs it.left)

-- what `size_hint` returns where so many items are left: the number is both bounds
abbrev pub exact_hint : ℕ → ℕ × Option ℕ
exact_hint count = (count, Some count)
