use Rattle.std.proofs.Common.{◌<◌, ℕ, List, length}
use Rattle.simd_json_parts.specs.Document.{Elements, elements}
use Rattle.simd_json_parts.specs.Listing.{elements_listing}
use Rattle.simd_json_c.specs.Placed.{AreAt}
use Rattle.simd_json_c.proofs.Placing.{ElementsLeft}
use Rattle.simd_json_c.proofs.pointer.nth.Given as goal

abbrev pub invariant-loop-passed : goal.invariant-loop-passed
invariant-loop-passed l =
    (text : List ℕ) (ds : Elements) → AreAt l.nodes text l.first (elements_listing ds) → l.index < length (elements ds)
    → ElementsLeft l.nodes text ds l.first l.passed l.at
