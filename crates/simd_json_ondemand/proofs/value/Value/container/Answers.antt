use Rattle.std.proofs.Common.{◌-◌, arith}
use Rattle.simd_json_ondemand.proofs.Written.{ordered}
use Rattle.simd_json_ondemand.proofs.value.Value.container.Goals as goal

pub slice_bounds-result-count : goal.slice_bounds-result-count
slice_bounds-result-count c =
    let d = c.args.self.document in
    let rise = ordered d.input.now d.indexes.now d.scanned c.args.self.at (c.skip-last.result - 1)
    (let far = c.skip-last.ensures.forward in omega (arith, far.0))
    (let far = c.skip-last.ensures.forward in omega (arith, far.0, far.1)) in
    omega (arith, rise)

pub slice_bounds-result-start : goal.slice_bounds-result-start
slice_bounds-result-start c =
    let d = c.args.self.document in
    let rise = ordered d.input.now d.indexes.now d.scanned c.args.self.at (c.skip-last.result - 1)
    (let far = c.skip-last.ensures.forward in omega (arith, far.0))
    (let far = c.skip-last.ensures.forward in omega (arith, far.0, far.1)) in
    omega (arith, rise)
