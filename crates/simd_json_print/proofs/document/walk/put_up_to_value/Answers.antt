use Rattle.std.proofs.Common.{rules, arith, ap, sym, subst, refl, ◌≡◌, ◌∙◌, [], ◌∷◌, ◌++◌, ◌+◌, ◌-◌, cond, get_or, map, not, nat_eq}
use Rattle.std.proofs.lemmas.List.{length-map}
use Rattle.simd_json_parts.specs.Bytes.{right_brace, right_bracket}
use Rattle.simd_json_parts.specs.Nodes.{item_of}
use Rattle.simd_json_parts.specs.Printed.{line}
use Rattle.simd_json_print.specs.Frames.{no_level, frames_text}
use Rattle.simd_json_print.specs.Texts.{Adds}
use Rattle.simd_json_print.proofs.Lead.{leads-by, leads-lost, leads-none, leads-then, leads-to}
use Rattle.simd_json_print.proofs.Lines.{adds-a-line, adds-no-line}
use Rattle.simd_json_print.proofs.Nestings.{after-end, ended, next-end, next-value}
use Rattle.simd_json_print.proofs.Texts.{adds-is, adds-then}
use Rattle.simd_json_print.proofs.document.walk.put_up_to_value.Goals as goal
use Rattle.simd_json_print.proofs.document.walk.put_up_to_value.Goals.{then-this-ne0, else-this-ne0, then-innermost, else-innermost}

pub loop-used-init : goal.loop-used-init
loop-used-init g c = (omega arith, omega arith, leads-none _ _ _ _ (λ done root is. is))

pub returns-then-has_failed-clause-put : goal.returns-then-has_failed-clause-put
returns-then-has_failed-clause-put g c =
    let pretty = not (nat_eq g.row.PRETTY 0) in
    let l = c.loop-used in
    leads-lost _ _ _ _ _ _ (search rules) l.invariant.2
    (λ done root is.
    let rest = frames_text pretty c.args.depth l.is_first is.frames in (
      rest,
      next-end pretty c.args.depth c.args.levels.now l.used root (map item_of c.none.result.nodes.now) (done ++ rest)
          (ap (map item_of) c.none.ensures) is.printed,
    ))

pub returns-then-others-end-clause-put : goal.returns-then-others-end-clause-put
returns-then-others-end-clause-put g c =
    let pretty = not (nat_eq g.row.PRETTY 0) in
    let l = c.loop-used in
    leads-then _ _ _ _ _ _ _ l.invariant.2
    (leads-then _ _ _ _ _ _ _ (c.put_elements-is_still_first.ensures.put c.args.levels.now refl)
    (leads-to _ _ _ _ _ _ (c.put_before.ensures.put c.args.levels.now refl)
    (λ done root is. next-value pretty c.args.depth c.args.levels.now l.used root (map item_of c.put_before.result.nodes.now) done is)))

pub loop-used-preserved : goal.loop-used-preserved
loop-used-preserved g c =
    let pretty = not (nat_eq g.row.PRETTY 0) in
    let l = c.loop-used in
    let m = c.put_elements-is_still_first in
    let levels = c.args.levels.now in
    let outer = l.used - 1 in
    let bracket = cond (get_or levels outer no_level).is_object right_brace right_bracket ∷ [] in
    let depth = c.args.depth + outer in
    let before_end : Adds g.T.Target.state m.new.out c.if-this-ne0.out (line pretty depth) = elim c.if-this-ne0.branch [
      | then-this-ne0 w ↦ subst (λ s. Adds g.T.Target.state m.new.out s (line pretty depth)) (sym w.out-is)
          (adds-a-line _ _ depth _ _ w.if-this-ne0.true w.put_new_line.ensures)
      | else-this-ne0 w ↦ subst (λ s. Adds g.T.Target.state m.new.out s (line pretty depth)) (sym w.out-is)
          (adds-no-line _ _ depth _ w.if-this-ne0.false)
    ] in
    let closing : c.if-innermost.put.now ≡ bracket = elim c.if-innermost.branch [
      | then-innermost w ↦
          ap (λ s. s.now) w.put-is ∙ ap (λ b. cond b right_brace right_bracket ∷ []) (sym w.if-innermost.true)
      | else-innermost w ↦
          ap (λ s. s.now) w.put-is ∙ ap (λ b. cond b right_brace right_bracket ∷ []) (sym w.if-innermost.false)
    ] in
    let end = adds-then _ _ _ _ (line pretty depth) bracket before_end (adds-is _ _ _ _ _ closing c.put.ensures) in (
      omega (arith, l.invariant.0),
      omega (arith, l.invariant.1, m.ensures.within),
      leads-then _ _ _ _ _ _ _ l.invariant.2
          (leads-then _ _ _ _ _ _ _ (m.ensures.put levels refl)
          (leads-by _ _ _ _ _ _ end (λ done root is.
          after-end pretty c.args.depth levels l.used root outer m.result.1 (map item_of m.result.0.nodes.now) done is
          (search (rules, arith)) (search (rules, arith, length-map)) refl))),
    )

pub returns-clause-put : goal.returns-clause-put
returns-clause-put g c =
    let pretty = not (nat_eq g.row.PRETTY 0) in
    let l = c.loop-used in
    leads-to _ _ _ _ _ _ l.invariant.2
    (λ done root is. next-end pretty c.args.depth c.args.levels.now l.used root (map item_of c.none-2.result.nodes.now) done
    (ap (map item_of) c.none-2.ensures)
    (ended pretty c.args.depth c.args.levels.now l.used root l.is_first _ done (search (rules, arith)) is))
