-- The nodes of a value that stands at a place.
use Rattle.std.proofs.Common.{◌≡◌, ℕ, suc, ◌+◌, ◌<◌, List, ◌∷◌, ◌++◌, drop, drop-cons, get_or, length}
use Rattle.std.proofs.Common.{slice_get, Some, sym, ap, ◌∙◌, arith, [], Result, Ok, Err, OnOk}
use Rattle.std.proofs.lemmas.Grind.{common_steps}
use Rattle.std.proofs.lemmas.Option.{slice_get_within, get_or_from_slice_get}
use Rattle.simd_json_parts.specs.Document.{Document, null, boolean, integer, decimal, string, array, object}
use Rattle.simd_json_parts.specs.Listing.{listing}
use Rattle.simd_json_parts.specs.Headers.{count_of}
use Rattle.simd_json_parts.specs.Nodes.{Item}
use Rattle.simd_json_serde.specs.Steps.{Place, IsNodeTaken, Opens}

-- a listing's first node says how many follow it
beneath_first : (d : Document) (i : Item) (rest others : List Item) → listing d ++ rest ≡ i ∷ others →
    count_of i + 1 ≡ length (listing d)
beneath_first null i rest others h = grind (arith, common_steps)
beneath_first (boolean b) i rest others h = grind (arith, common_steps)
beneath_first (integer minus n) i rest others h = grind (arith, common_steps)
beneath_first (decimal t) i rest others h = grind (arith, common_steps)
beneath_first (string t) i rest others h = grind (arith, common_steps)
beneath_first (array ds) i rest others h = grind (arith, common_steps)
beneath_first (object ms) i rest others h = grind (arith, common_steps)

-- the node that is next begins the value that stands there
pub stands_beneath : (ns : List Item) (at : ℕ) (d : Document) (n : Item) (rest : List Item) → slice_get ns at ≡ Some n →
    drop at ns ≡ listing d ++ rest → count_of n + 1 ≡ length (listing d)
stands_beneath ns at d n rest got h =
    let within : at < length ns = slice_get_within ns at n got in
    let read : get_or ns at n ≡ n = get_or_from_slice_get ns at n n got in
    let cut : drop at ns ≡ n ∷ drop (suc at) ns = drop-cons ns at n within ∙ ap (λ x. x ∷ drop (suc at) ns) read in
    beneath_first d n rest (drop (suc at) ns) (sym h ∙ cut)

-- a header is taken, and its container entered
pub opened : {E : Type 0} (r : Result Unit E) (header : ℕ → ℕ → Item) (old mid new : Place) (n : Item) (len count : ℕ)
    → IsNodeTaken old n mid → n ≡ header len count → OnOk r
    (new ≡ record mid { end = mid.at + count; outer = mid.outer ++ mid.end ∷ [] })
    → OnOk r (Opens old header new)
opened (Ok u) header old mid new n len count taken is entered = (
  len,
  count,
  taken.0,
  taken.1 ∙ ap Some is,
  entered ∙ ap (λ (m : Place). record m { end = m.at + count; outer = m.outer ++ m.end ∷ [] }) taken.2,
)
opened (Err e) header old mid new n len count taken is entered = tt
