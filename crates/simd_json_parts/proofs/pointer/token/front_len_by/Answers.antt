use Rattle.std.proofs.Common.{◌-◌, length, arith}
use Rattle.simd_json_parts.proofs.Pointers.Fronts.{stops-some, stops-none, stops-never}
use Rattle.simd_json_parts.proofs.pointer.token.front_len_by.Goals as goal

pub returns-then-stops-ne0 : goal.returns-then-stops-ne0
returns-then-stops-ne0 g c =
    stops-some c.args.one c.args.other c.args.bytes.now c.loop-done.done g.row.N _ c.loop-done.invariant.1
    (omega arith) (omega arith) c.stops-stops.ensures c.if-stops-ne0.true

pub loop-done-preserved : goal.loop-done-preserved
loop-done-preserved g c = (
  omega arith,
  stops-none c.args.one c.args.other c.args.bytes.now c.loop-done.done g.row.N _ c.loop-done.invariant.1
      (omega arith) c.stops-stops.ensures c.if-stops-ne0.false,
)

pub returns-then-stops-ne0-2 : goal.returns-then-stops-ne0-2
returns-then-stops-ne0-2 g c =
    stops-some c.args.one c.args.other c.args.bytes.now (length c.args.bytes.now - g.row.N) g.row.N _
    (omega (arith, c.loop-done.invariant.1)) (omega arith) (omega arith) c.stops-stops-2.ensures c.if-stops-ne0-2.true

pub returns : goal.returns
returns g c =
    let last = length c.args.bytes.now - g.row.N in
    let none = stops-none c.args.one c.args.other c.args.bytes.now last g.row.N _
    (omega (arith, c.loop-done.invariant.1)) (omega arith) c.stops-stops-2.ensures c.if-stops-ne0-2.false in
    stops-never c.args.one c.args.other c.args.bytes.now (omega (arith, none))
