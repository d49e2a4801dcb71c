-- What a test of a value of a map and a value of a tape is asked, and what it says.
use Rattle.std.specs.Prelude.{◌≡◌, List, Bool}
use Rattle.std.specs.Fn.{Shared}
use Rattle.std.specs.List.{IsAmong}
use denote.Ref.{Bor}
use Rattle.simd_json_parts.specs.Document.{Document, Members, object}
use Rattle.simd_json_parts.specs.Views.{values}
use Rattle.simd_json.specs.Viewed.{doc}
use Rattle.simd_json.specs.declared.value.tape.value.Value.{Value}

module _ {F T : Type 0} (g : Shared F (Bor T × (Bor Value × Unit {0})) Bool) (same : F) where
  -- it may be asked of each of these values of a map beside each value of the pairs
  abbrev pub MayCompare : List T → Members → Type 0
  MayCompare wanted ms =
      (x : Bor T) (v : Bor Value) → IsAmong wanted x.now → IsAmong (values ms) (doc v.now)
      → g.pre same (x, (v, tt))

  -- beside each value of the object, where there is one
  abbrev pub MayCompareTo : List T → Document → Type 0
  MayCompareTo wanted d = (ms : Members) → d ≡ object ms → MayCompare wanted ms

  -- its result is that of `says`, and so depends on the two values alone
  abbrev pub Says : (T → Document → Bool) → Type 0
  Says says = (x : Bor T) (v : Bor Value) (r : Bool) → g.post same (x, (v, tt)) r → r ≡ says x.now (doc v.now)
