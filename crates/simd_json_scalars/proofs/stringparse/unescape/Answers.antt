use Rattle.std.proofs.Common.{refl, sym, ap, ◌∙◌, length, arith}
use Rattle.simd_json_scalars.specs.StringContent.{is_plain}
use Rattle.simd_json_scalars.specs.StringDecoded.{IsDecoded}
use Rattle.simd_json_scalars.proofs.Strings.Decoding.{decoded-open, decoded-further, decoded-byte, was-backslash, decoded-fits, decoded-bad}
use Rattle.simd_json_scalars.proofs.stringparse.unescape.Goals as goal

pub move_plain-ends-requires-clause-goes_on : goal.move_plain-ends-requires-clause-goes_on
move_plain-ends-requires-clause-goes_on c =
    decoded-open _ _ _ _ _ _ (decoded-further _ _ _ _ _ _ _ _ _ c.loop-unread.invariant.decoded c.in-Some.ensures.0)

pub loop-unread-preserved-then-unread-ends-ne92 : goal.loop-unread-preserved-then-unread-ends-ne92
loop-unread-preserved-then-unread-ends-ne92 c =
    let run = c.move_plain-ends.ensures in
    let one : IsDecoded c.args.unread.now c.args.from c.args.from c.unescape_one.new.unread c.in-Some.next.read c.in-Some.next.written =
    decoded-further _ _ _ _ _ _ _ _ _ c.loop-unread.invariant.decoded c.in-Some.ensures.0 in
    let both = decoded-further _ _ _ _ _ _ _ _ _ one run.0 in
    record { decoded = both; stops = ap is_plain (sym (decoded-byte _ _ _ _ _ _ both)) ∙ run.1 }

pub loop-unread-preserved : goal.loop-unread-preserved
loop-unread-preserved c =
    let next = c.in-Some.next in
    let one : IsDecoded c.args.unread.now c.args.from c.args.from c.unescape_one.new.unread next.read next.written =
    decoded-further _ _ _ _ _ _ _ _ _ c.loop-unread.invariant.decoded c.in-Some.ensures.0 in
    record { decoded = one; stops = ap is_plain (was-backslash _ _ _ _ _ one c.if-unread-ends-ne92.false) }

pub bounds-unread-ends-in-None : goal.bounds-unread-ends-in-None
bounds-unread-ends-in-None c =
    omega (arith, decoded-fits _ _ _ _ _ c.loop-unread.invariant.decoded c.loop-unread-test.true, ap length c.in-None.ensures.1)

pub returns-in-None : goal.returns-in-None
returns-in-None c =
    decoded-bad _ c.loop-unread.unread c.unescape_one.new.unread _ c.loop-unread.ends.read _ _ c.loop-unread.invariant.decoded
    c.loop-unread-test.true c.in-None.ensures.0 c.in-None.ensures.1 refl refl
