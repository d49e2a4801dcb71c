use Rattle.std.proofs.Common.{◌≡◌, ◌∙◌, ◌++◌, ap, arith, length, refl, subst, inl, inr, Ok, Err}
use Rattle.std.proofs.lemmas.Result.{IfErr-weaker, on_ok_weaker}
use Rattle.simd_json_parts.specs.Descent.{descent}
use Rattle.simd_json_parts.specs.Faults.{whole_fault}
use Rattle.simd_json_parts.specs.declared.error.ErrorType.TheVariants.{OutOfMemory}
use Rattle.simd_json_stages.proofs.Exits.{passed-on}
use Rattle.simd_json_stages.proofs.Whole.{descent-answered, few-positions, right-input}
use Rattle.simd_json_check.proofs.check.parse_copy.Goals as goal

pub returns-in_err-extend_from_slice-clause-fault : goal.returns-in_err-extend_from_slice-clause-fault
returns-in_err-extend_from_slice-clause-fault g c =
    let right = right-input c.args.input.now c.requires.whole in
    passed-on c.from_residual.result (whole_fault OutOfMemory) _ c.from_residual.ensures.1
    (inr (
      (refl, right.0, right.1),
      inl (omega (arith, c.in_err-extend_from_slice.ensures.full, c.clear.ensures.capacity, c.clear.ensures.len)),
    ))

pub returns-in_err-lengthen-clause-fault : goal.returns-in_err-lengthen-clause-fault
returns-in_err-lengthen-clause-fault g c =
    let right = right-input c.args.input.now c.requires.whole in
    let lacks = c.in_err-lengthen.ensures.failed in
    let few = few-positions c.args.input.now in
    let listed = ap length c.requires.positions in
    passed-on c.from_residual-in_err-lengthen.result (whole_fault OutOfMemory) _ c.from_residual-in_err-lengthen.ensures.1
    (inr ((refl, right.0, right.1), inr (omega (arith, lacks.1, few, listed, c.min-open.ensures))))

pub returns-clause-document : goal.returns-clause-document
returns-clause-document g c =
    let copied = c.as_mut_slice.ensures.value ∙ c.in_ok-extend_from_slice.ensures.items
    ∙ ap (λ bs. bs ++ c.args.input.now) c.clear.ensures.items in
    let answered = descent-answered c.args.input.now c.args.max_depth c.requires.whole in
    on_ok_weaker c.count_nodes.result
    (λ d. (d.0, answered ∙ subst (λ b. descent b c.args.max_depth ≡ Ok d.0) copied d.1)) c.count_nodes.ensures.document

pub returns-clause-fault : goal.returns-clause-fault
returns-clause-fault g c =
    let copied = c.as_mut_slice.ensures.value ∙ c.in_ok-extend_from_slice.ensures.items
    ∙ ap (λ bs. bs ++ c.args.input.now) c.clear.ensures.items in
    let answered = descent-answered c.args.input.now c.args.max_depth c.requires.whole in
    IfErr-weaker c.count_nodes.result _ _
    (λ e is. inl (answered ∙ subst (λ b. descent b c.args.max_depth ≡ Err e) copied is)) c.count_nodes.ensures.fault
