use Rattle.std.proofs.Common.{map, subst, sym}
use Rattle.simd_json.specs.Documents.{IsListing}
use Rattle.simd_json_parts.specs.Nodes.{item_of}
use Rattle.simd_json_parts.proofs.Documents.Fronts.{front-listed}
use Rattle.simd_json.proofs.Views.Listed.{listing-listed}
use Rattle.simd_json.proofs.Views.Printable.{printable-take, printable-drop}
use Rattle.simd_json.proofs.value.tape.value.Value.split.Goals as goal

pub invariant_of-result : goal.invariant_of-result
invariant_of-result c =
    let r = c.requires.listed in
    let is = front-listed c.args.nodes.now r.0 r.1.0 c.size.result r.1.1 (c.size.ensures r.0 r.1.0 r.1.1) in
    record {
      listed = subst (λ xs. IsListing (map item_of xs)) (sym c.split_at.ensures.front) (listing-listed _ r.0 is.0);
      printable = printable-take _ _ _ c.split_at.ensures.front c.requires.printable;
    }

pub returns-clause-printable : goal.returns-clause-printable
returns-clause-printable c = printable-drop _ _ _ c.split_at.ensures.back c.requires.printable
