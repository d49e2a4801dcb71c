use Rattle.std.proofs.Common.{◌≡◌, sym, ◌∙◌, ap, subst, arith, ◌+◌, ◌-◌, ◌≤◌, length, take, drop, length-drop, take_all}
use Rattle.std.specs.Prelude.{unwrap_or}
use Rattle.simd_json_parts.specs.Listing.{listing}
use Rattle.simd_json_c.specs.Placed.{AreFirst}
use Rattle.simd_json_c.proofs.Placing.{value-within}
use Rattle.simd_json_c.proofs.Printing.{cells-len, value-cells}
use Rattle.simd_json_c.proofs.printable.nodes_from.Goals as goal

pub returns-in-Some : goal.returns-in-Some
returns-in-Some c d are printable =
    let cells = c.args.cells.now in
    let text = c.args.text.now in
    let from = c.args.from in
    let rest = take (length cells - from) (drop from cells) in
    let same : rest ≡ drop from cells = take_all (length cells - from) (drop from cells) (omega (arith, length-drop from cells)) in
    let there : AreFirst text (listing d) rest = subst (AreFirst text (listing d)) (sym same) are in
    let end : c.in-Some.end ≡ 0 + length (listing d) = ap (λ o. unwrap_or o 0) (sym c.in-Some.is ∙ c.after.ensures text d there) in
    let inside : length (listing d) ≤ length rest = omega (arith, value-within rest text 0 d there) in
    let whole : c.min-end.result ≡ length (listing d) = grind (arith, c.min-end.ensures, end, inside) in
    c.nodes_of.ensures (listing d) (value-cells rest text 0 _ d there (omega (arith, whole)))
    (cells-len rest text 0 _ d there (omega (arith, whole))) printable
