use Rattle.std.proofs.Common.{◌∙◌, ap, sym, false, Some}
use Rattle.simd_json.specs.Viewed.{doc}
use Rattle.simd_json_parts.specs.Document.{integer}
use Rattle.simd_json_path.specs.Comparisons.{equals, same}
use Rattle.simd_json_path.specs.Filters.{literal_value}
use Rattle.simd_json_path.specs.Operands.{operand_value, scalar_value}
use Rattle.simd_json_path.proofs.Equals.{scalar-second}
use Rattle.simd_json_path.proofs.operand.equals_node.Goals as goal

pub returns-in-Literal : goal.returns-in-Literal
unfolding same
returns-in-Literal c =
    c.is_scalar.ensures
    ∙ scalar-second 128 (doc c.args.left) (literal_value c.in-Literal.literal) (scalar_value c.of_literal.result) (sym c.of_literal.ensures)
    ∙ ap (λ o. equals (Some (doc c.args.left)) (operand_value o)) (sym c.in-Literal.is)

pub returns-in-Count : goal.returns-in-Count
unfolding same
returns-in-Count c =
    c.is_scalar-in-Count.ensures
    ∙ scalar-second 128 (doc c.args.left) (integer false c.in-Count.count) (scalar_value c.of_count.result) (sym c.of_count.ensures)
    ∙ ap (λ o. equals (Some (doc c.args.left)) (operand_value o)) (sym c.in-Count.is)

pub returns-in-Node : goal.returns-in-Node
unfolding same
returns-in-Node c = c.same_to.ensures ∙ ap (λ o. equals (Some (doc c.args.left)) (operand_value o)) (sym c.in-Node.is)
