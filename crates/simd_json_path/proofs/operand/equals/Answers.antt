use Rattle.std.proofs.Common.{◌≡◌, ◌∙◌, ap, sym, Option, Some, None, refl, false, option_and_then}
use Rattle.simd_json_parts.specs.Document.{Document, integer}
use Rattle.simd_json_path.specs.Comparisons.{Primitive, both, equals, primitive, same, same_primitives}
use Rattle.simd_json_path.specs.Filters.{literal_value}
use Rattle.simd_json_path.specs.Operands.{operand_value, scalar_value}
use Rattle.simd_json_path.proofs.Equals.{scalar-first}
use Rattle.simd_json_path.proofs.operand.equals.Goals as goal

scalar-equals : (d : Document) (p : Primitive) (o : Option Document) → primitive d ≡ Some p
    → both same_primitives (Some p) (option_and_then primitive o) ≡ equals (Some d) o
unfolding same
scalar-equals d p None is = refl
scalar-equals d p (Some e) is = scalar-first 128 d e p is

pub returns-in-Literal : goal.returns-in-Literal
returns-in-Literal c =
    c.equals_scalar.ensures
    ∙ scalar-equals (literal_value c.in-Literal.literal) (scalar_value c.of_literal.result) (operand_value c.args.right)
    (sym c.of_literal.ensures)
    ∙ ap (λ o. equals (operand_value o) (operand_value c.args.right)) (sym c.in-Literal.is)

pub returns-in-Count : goal.returns-in-Count
returns-in-Count c =
    c.equals_scalar-in-Count.ensures
    ∙ scalar-equals (integer false c.in-Count.count) (scalar_value c.of_count.result) (operand_value c.args.right) (sym c.of_count.ensures)
    ∙ ap (λ o. equals (operand_value o) (operand_value c.args.right)) (sym c.in-Count.is)
