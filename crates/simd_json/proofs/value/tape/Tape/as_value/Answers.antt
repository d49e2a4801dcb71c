use Rattle.std.proofs.Common.{◌∙◌, ap, map, subst, sym}
use Rattle.simd_json.specs.Documents.{IsListing}
use Rattle.simd_json_parts.specs.Listing.{listing}
use Rattle.simd_json_parts.specs.Nodes.{item_of}
use Rattle.simd_json.proofs.Views.Listed.{tape-listed}
use Rattle.simd_json.proofs.Views.Printable.{tape-printable}
use Rattle.simd_json.specs.Printable.{ArePrintable}
use Rattle.simd_json.proofs.value.tape.Tape.as_value.Goals as goal

pub new-requires-clause-listed : goal.new-requires-clause-listed
new-requires-clause-listed g c =
    let list = tape-listed _ c.self.invariant (λ none. c.requires (ap (λ t. t.nodes) (sym c.self.view_is) ∙ none)) in
    subst (λ xs. IsListing (map item_of xs)) (sym c.as_slice.ensures.value) list

pub new-requires-clause-printable : goal.new-requires-clause-printable
new-requires-clause-printable g c =
    subst ArePrintable (sym c.as_slice.ensures.value) (tape-printable _ c.self.invariant)

pub returns : goal.returns
returns g c =
    let list = tape-listed _ c.self.invariant (λ none. c.requires (ap (λ t. t.nodes) (sym c.self.view_is) ∙ none)) in
    ap listing c.new.ensures ∙ subst (λ xs. IsListing (map item_of xs)) (sym c.as_slice.ensures.value) list
    ∙ ap (map item_of) c.as_slice.ensures.value ∙ ap (λ t. t.nodes) c.self.view_is
