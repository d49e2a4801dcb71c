use Rattle.std.proofs.Common.{rules, arith, ◌∙◌, subst, sym, refl, ◌<◌, ◌≤◌, ◌+◌, length, map, not, nat_eq}
use Rattle.std.proofs.lemmas.List.{length-map}
use Rattle.simd_json_parts.specs.Nodes.{item_of}
use Rattle.simd_json_print.specs.Frames.{IsAtValue, IsBetween, IsNext}
use Rattle.simd_json_print.specs.Texts.{Leads}
use Rattle.simd_json_print.proofs.Lead.{leads-from, leads-none, leads-then}
use Rattle.simd_json_print.proofs.Nestings.{at-value, next-value}
use Rattle.simd_json_print.proofs.Steps.{leads-leaf, leads-open}
use Rattle.simd_json_print.proofs.document.walk.put_from.Goals as goal
use Rattle.simd_json_print.proofs.document.walk.put_from.Goals.{then-count-eq0, else-count-eq0+else-not-begin}

pub loop-first-init : goal.loop-first-init
loop-first-init g c =
    let pretty = not (nat_eq g.row.PRETTY 0) in (
      record { nested = c.requires.nested; levels = refl; room = omega arith; within = omega arith },
      leads-none _ _ _ _ (λ done root is. next-value pretty c.args.depth c.args.levels.now c.args.used.now root
          (map item_of c.args.value.nodes.now) done is),
    )

pub loop-first-preserved : goal.loop-first-preserved
loop-first-preserved g c =
    let pretty = not (nat_eq g.row.PRETTY 0) in
    let l = c.loop-first in
    let m = c.if-count-eq0 in
    let s = c.split_at in
    let u = c.put_up_to_value-value in
    let ns = l.value.nodes.now in
    let rest = s.result.1.now in
    let count = c.min-count.result in
    let some : 0 < length ns = search (rules, arith) in
    let within : (m.used ≤ length m.levels) × (m.used + length rest ≤ l.used + length ns) = elim m.branch [
      | then-count-eq0 w ↦ (
        omega (arith, w.used-is, l.invariant.0.nested, m.auto.levels),
        omega (arith, w.used-is, s.ensures.back_len, some),
      )
      | else-count-eq0+else-not-begin w ↦
          let b = w.begin.ensures.begun (search rules) in
          (omega (arith, b.0, b.1, w.used-is, m.auto.levels), omega (arith, b.1, w.used-is, s.ensures.back_len, some))
    ] in
    let step : Leads g.T.Target.state l.out m.out (IsAtValue pretty c.args.depth l.levels l.used (map item_of ns))
    (IsBetween pretty c.args.depth m.levels m.used (not (nat_eq count 0)) (map item_of rest)) = elim m.branch [
      | then-count-eq0 w ↦ leads-leaf _ _ _ _ pretty c.args.depth l.levels m.levels l.used m.used ns s.result.0.now rest _ _ count some
          s.ensures.front s.ensures.back c.count.ensures c.min-count.ensures w.if-count-eq0.true w.put_leaf.ensures w.out-is w.levels-is
          w.used-is
      | else-count-eq0+else-not-begin w ↦
          let b = w.begin.ensures.begun (search rules) in
          leads-open _ _ _ pretty c.args.depth l.levels m.levels l.used m.used ns s.result.0.now rest _ _ count some
          s.ensures.front s.ensures.back c.count.ensures c.min-count.ensures w.if-count-eq0.false w.out-is b.0 (w.used-is ∙ b.1)
          (w.levels-is ∙ b.2)
    ] in (
      record {
        nested = omega (arith, u.ensures.nested, within.0);
        levels = m.auto.levels ∙ l.invariant.0.levels;
        room = omega (arith, u.ensures.nested, u.ensures.within, within.1, l.invariant.0.room);
        within = omega (arith, u.ensures.within, s.ensures.back_len, l.invariant.0.within);
      },
      leads-then _ _ _ _ _ _ _ l.invariant.1
          (leads-then _ _ _ _ _ _ _
          (leads-from _ _ _ _ _ _ (λ done root is. at-value pretty c.args.depth l.levels l.used root (map item_of ns) done
          (omega (arith, some, length-map ns item_of)) is) step)
          u.ensures.put),
    )

pub returns-then-not-begin-clause-put : goal.returns-then-not-begin-clause-put
returns-then-not-begin-clause-put g c =
    let pretty = not (nat_eq g.row.PRETTY 0) in
    let l = c.loop-first in
    let from = IsAtValue pretty c.args.depth c.args.levels.now c.args.used.now (map item_of c.args.value.nodes.now) in
    let items = map item_of l.value.nodes.now in
    let kept = c.begin.ensures.kept (search rules) in
    subst (λ k. Leads g.T.Target.state c.args.out.now l.out from (IsNext pretty c.args.depth c.begin.new.levels k items)) (sym kept.0)
    (subst (λ ls. Leads g.T.Target.state c.args.out.now l.out from (IsNext pretty c.args.depth ls l.used items)) (sym kept.1)
    l.invariant.1)
