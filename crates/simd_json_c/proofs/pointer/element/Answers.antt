use Rattle.std.proofs.Common.{◌∙◌, ◌+◌, sym, subst, arith}
use Rattle.std.specs.Prelude.{slice_get, unwrap_or}
use Rattle.std.proofs.lemmas.Option.{slice_get_past}
use Rattle.std.specs.Result.{result_ok}
use Rattle.simd_json_parts.specs.Document.{elements}
use Rattle.simd_json_parts.specs.Pointed.{array_index, element_at}
use Rattle.simd_json_parts.proofs.Pointers.Pointed.{element-fits, element-past}
use Rattle.simd_json_c.specs.Placed.{IsFound, before_element}
use Rattle.simd_json_c.proofs.Placing.{index-is}
use Rattle.simd_json_c.proofs.pointer.element.Goals as goal

pub returns-in_err-index : goal.returns-in_err-index
returns-in_err-index c text ds a is =
    let number = array_index c.args.token.now in
    let place = c.args.first + before_element ds (unwrap_or number 0) in
    subst (λ r. IsFound c.args.nodes.now text r place (result_ok (element_at ds number))) (sym c.from_residual.ensures)
    (element-past ds number (omega (arith, is)) (sym c.in_err-index.ensures))

pub returns-then-index-len : goal.returns-then-index-len
returns-then-index-len c text ds a is =
    let index = c.in_ok-index.index in
    element-fits ds (array_index c.args.token.now) index (sym c.in_ok-index.ensures)
    ∙ slice_get_past (elements ds) index (omega (arith, is))

pub returns : goal.returns
returns c text ds a is =
    let number = array_index c.args.token.now in
    let index = c.in_ok-index.index in
    let same = element-fits ds number index (sym c.in_ok-index.ensures) in
    subst (IsFound c.args.nodes.now text c.nth.result (c.args.first + before_element ds (unwrap_or number 0))) (sym same)
    (subst (λ i. IsFound c.args.nodes.now text c.nth.result (c.args.first + before_element ds i) (slice_get (elements ds) index))
    (sym (index-is number index (sym c.in_ok-index.ensures))) (c.nth.ensures text ds a (omega (arith, is))))
