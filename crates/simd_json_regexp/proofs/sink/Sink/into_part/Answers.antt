use Rattle.std.proofs.Common.{◌≡◌, ◌≤◌, ◌∙◌, ◌-◌, ℕ, List, ap, sym, subst, drop, length, arith}
use Rattle.std.proofs.lemmas.Grind.{common_steps}
use Rattle.simd_json_regexp.specs.Nodes.{AreMeasured, regexp}
use Rattle.simd_json_regexp.specs.Written.{written}
use Rattle.simd_json_regexp.specs.declared.node.Node.{Node}
use Rattle.simd_json_regexp.proofs.Nodes.{measured-drop, regexp-drop}
use Rattle.simd_json_regexp.proofs.sink.Sink.into_part.Goals as goal

last-drop : (n k : ℕ) (ns : List Node) → n ≤ length ns → k ≤ length (drop n ns)
    → drop (length ns - k) ns ≡ drop (length (drop n ns) - k) (drop n ns)
last-drop n k ns small within = grind (arith, common_steps)

pub returns-clause-part : goal.returns-clause-part
returns-clause-part c =
    let ns = written c.args.self in
    ap regexp (c.last.ensures ∙ last-drop c.args.self.next c.args.part c.args.self.nodes.now c.args.self.within c.requires.within)
    ∙ regexp-drop (length ns - c.args.part) ns

pub returns-clause-measured : goal.returns-clause-measured
returns-clause-measured c =
    let ns = written c.args.self in
    subst AreMeasured
    (sym (c.last.ensures ∙ last-drop c.args.self.next c.args.part c.args.self.nodes.now c.args.self.within c.requires.within))
    (measured-drop (length ns - c.args.part) ns c.requires.measured)
