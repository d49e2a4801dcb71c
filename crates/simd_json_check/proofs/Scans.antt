-- The structural indexes of an input: there are some, and they lie within it.
use Rattle.std.proofs.Common.{sym, subst, ℕ, ◌<◌, List, length, slice_index}
use Rattle.simd_json_stages.proofs.Scan.WholeFaults.{some-listed}
use Rattle.simd_json_stages.proofs.Tokens.Places.{position-inside}
use Rattle.simd_json_check.specs.Scanned.{IsWholeScan}

pub within : (b is : List ℕ) → IsWholeScan b is → (k : ℕ) → k < length is → slice_index is k < length b
within b is s k l = subst (λ ks. slice_index ks k < length b) (sym s.listed) (position-inside b k (subst (λ ks. k < length ks) s.listed l))

pub some_position : (b is : List ℕ) → IsWholeScan b is → 0 < length is
some_position b is s = some-listed b is s.listed s.whole
