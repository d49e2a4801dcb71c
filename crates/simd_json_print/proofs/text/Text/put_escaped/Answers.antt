use Rattle.std.proofs.Common.{[], refl, sym, subst, flat_map, take, arith, rules}
use Rattle.simd_json_parts.specs.Printed.{escaped_byte}
use Rattle.simd_json_print.specs.Texts.{Adds}
use Rattle.simd_json_print.proofs.Texts.{adds-none, adds-is, adds-then, adds-lost, adds-collected}
use Rattle.simd_json_print.proofs.Runs.{no-run, last-run, given-run}
use Rattle.simd_json_print.proofs.text.Text.put_escaped.Goals as goal
use Rattle.simd_json_print.proofs.text.Text.put_escaped.Goals.{then-loop-self-test+else-is_none, else-loop-self-test}
use Rattle.simd_json_print.proofs.text.Text.put_escaped.Goals.{then-loop-self-test+then-is_none+then-is_empty}

pub loop-self-init : goal.loop-self-init
loop-self-init g c = ([], adds-none _ _, refl)

pub loop-self-preserved : goal.loop-self-preserved
loop-self-preserved g c =
    let done = c.loop-self.invariant in
    let run = adds-collected _ _ _ _ refl refl c.collect_run.ensures.collected in
    given-run _ _ _ _ _ done.0 c.loop-self.left.now c.split_at.result.1.now c.split_at-in-loop-self.result.1.now _
    c.collect_run.result _ done.1 done.2
    run c.put_byte.ensures c.split_at.ensures.back (search (arith, rules)) c.split_at-in-loop-self.ensures.back

pub returns : goal.returns
returns g c =
    let done = c.loop-self.invariant in
    let left = c.loop-self.left.now in
    let escaped = flat_map escaped_byte c.args.string.now in
    let all : Adds g.T.Target.state c.put.new.self c.loop-self-test.self escaped = elim c.loop-self-test.branch [
      | then-loop-self-test+else-is_none w ↦ subst (λ s. Adds g.T.Target.state c.put.new.self s escaped) (sym w.self-is)
          (adds-is _ _ _ _ _ done.2 (adds-lost _ _ c.loop-self.self done.0 _ (search rules) done.1))
      | else-loop-self-test w ↦ subst (λ s. Adds g.T.Target.state c.put.new.self s escaped) (sym w.self-is)
          (adds-is _ _ _ _ _ (no-run done.0 left escaped done.2 (search (arith, rules))) done.1)
      | then-loop-self-test+then-is_none+then-is_empty w ↦
          let run = flat_map escaped_byte (take w.collect_run.result left) in
          subst (λ s. Adds g.T.Target.state c.put.new.self s escaped) (sym w.self-is)
          (adds-is _ _ _ _ _ (last-run done.0 left w.split_at.result.1.now escaped w.collect_run.result done.2
          w.split_at.ensures.back (search (arith, rules)))
          (adds-then _ _ _ _ done.0 run done.1 (adds-collected _ _ _ run refl refl w.collect_run.ensures.collected)))
    ] in
    adds-then _ _ _ _ c.args.front.now _ c.put.ensures (adds-then _ _ _ _ escaped c.args.back.now all c.put-2.ensures)
