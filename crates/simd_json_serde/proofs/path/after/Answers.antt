use Rattle.std.proofs.Common.{arith, sym}
use Rattle.simd_json_parts.specs.Nodes.{item_of}
use Rattle.simd_json_serde.specs.Nodes.{items_of}
use Rattle.simd_json_serde.proofs.Paths.{inside-at, sized-at, some-at}
use Rattle.simd_json_serde.proofs.path.after.Goals as goal

pub returns-in_default-clause-value : goal.returns-in_default-clause-value
returns-in_default-clause-value c = λ d h. absurd (some-at (items_of c.args.nodes) c.args.at d h c.in_default.ensures)

pub returns-then-count-saturating_sub-clause-value : goal.returns-then-count-saturating_sub-clause-value
returns-then-count-saturating_sub-clause-value c = λ d h.
    absurd (omega (
      arith,
      c.if-count-saturating_sub.true,
      c.count-count.ensures,
      c.saturating_sub.ensures,
      c.len.ensures,
      sized-at (items_of c.args.nodes) c.args.at (item_of c.in-Some.node) d (sym c.in-Some.ensures) h,
      inside-at (items_of c.args.nodes) c.args.at d h,
    ))

pub returns-clause-value : goal.returns-clause-value
returns-clause-value c = λ d h.
    let size = sized-at (items_of c.args.nodes) c.args.at (item_of c.in-Some.node) d (sym c.in-Some.ensures) h in
    omega (arith, c.count-count.ensures, size)
