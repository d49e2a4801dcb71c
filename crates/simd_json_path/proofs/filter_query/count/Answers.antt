use Rattle.std.proofs.Common.{sym, arith}
use Rattle.simd_json.specs.Viewed.{doc}
use Rattle.simd_json_path.specs.Filters.{queried}
use Rattle.simd_json_path.proofs.NthNode.{nth-beyond, nth-within}
use Rattle.simd_json_path.proofs.filter_query.count.Goals as goal

pub returns-in-Break : goal.returns-in-Break
returns-in-Break c =
    let ds = queried (doc c.args.root) c.args.query.now (doc c.args.node) in
    omega (arith, nth-beyond ds 18446744073709551615 (doc c.in-Break.field-0) (sym c.in-Break.ensures))

pub returns-in-Continue : goal.returns-in-Continue
returns-in-Continue c =
    let ds = queried (doc c.args.root) c.args.query.now (doc c.args.node) in
    omega (arith, nth-within ds 18446744073709551615 c.in-Continue.left (sym c.in-Continue.ensures))
