use Rattle.std.proofs.Common.{◌≤◌, rules, [], length, map, subst, sym}
use Rattle.simd_json_parts.specs.Nodes.{item_of}
use Rattle.simd_json_print.specs.Layout.{printed}
use Rattle.simd_json_print.specs.Texts.{IsPrintedBy}
use Rattle.simd_json_print.specs.declared.document.Layout.TheVariants as layouts
use Rattle.simd_json_print.proofs.Lead.{by-layout}
use Rattle.simd_json_print.proofs.Levels.{on-match}
use Rattle.simd_json_print.proofs.document.print.Goals as goal
use Rattle.simd_json_print.proofs.document.print.Goals.{in-Compact, in-Pretty}

pub returns : goal.returns
returns g c =
    let start = g.T.Target.state c.args.target.now in
    let m = c.match-layout in
    let before = length c.args.levels.now.items in
    let p : IsPrintedBy g.T.Target.state c.new-out.result m.out (map item_of c.args.nodes.now) (printed c.args.layout) before m.put =
    elim m.branch [
      | in-Compact w ↦ by-layout _ _ _ _ _ _ layouts.Compact _ _ _ w.in-Compact.is w.out-is w.put-is w.put_growing-put.ensures.put
      | in-Pretty w ↦ by-layout _ _ _ _ _ _ layouts.Pretty _ _ _ w.in-Pretty.is w.out-is w.put-is w.put_growing-put-in-Pretty.ensures.put
    ] in
    let longer : before ≤ length m.levels.items = elim m.branch [
      | in-Compact w ↦ subst (λ ls. before ≤ length ls.items) (sym w.levels-is) w.put_growing-put.ensures.longer
      | in-Pretty w ↦ subst (λ ls. before ≤ length ls.items) (sym w.levels-is) w.put_growing-put-in-Pretty.ensures.longer
    ] in
    record {
      kept = let ends = c.finish.ensures start _ (p.kept.1.given start [] c.new-out.ensures.empty) in search rules;
      given = λ d is. on-match m.put _ _ _ _
          (λ adds. let ends = c.finish.ensures start _ (adds.given start [] c.new-out.ensures.empty) in search rules)
          (λ begun. (
            (
              begun.0.0,
              let ends = c.finish.ensures start _ (begun.0.1.given start [] c.new-out.ensures.empty) in search rules,
            ),
            begun.1,
          ))
          (p.given d is);
      longer = longer;
    }
