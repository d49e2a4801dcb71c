use Rattle.std.proofs.Common.{◌≡◌, ◌≤◌, arith, length, min}
use Rattle.simd_json_c.proofs.Several.{fields-all, fields-joined}
use Rattle.simd_json_c.proofs.fields.put_fields.Goals as goal

pub loop-done-preserved : goal.loop-done-preserved
loop-done-preserved c = record {
  bound = omega (arith, c.min-end.ensures);
  put = fields-joined c.args.root c.args.wanted.now 0 c.loop-done.done c.min-end.result c.args.fields.now c.loop-done.fields
      c.put_some.new.fields (omega arith) (omega (arith, c.min-end.ensures, c.loop-done-test.true)) c.loop-done.invariant.put
      c.put_some.ensures;
}

pub returns : goal.returns
returns c =
    fields-all c.args.root c.args.wanted.now c.loop-done.done c.args.fields.now c.loop-done.fields
    (omega (arith, c.min-count.ensures, c.loop-done-test.false)) (omega (arith, c.min-count.ensures, c.loop-done.invariant.bound))
    c.loop-done.invariant.put
