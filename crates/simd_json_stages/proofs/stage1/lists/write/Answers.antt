use Rattle.std.proofs.Common.{arith}
use lib.Count.{ones-le}
use Rattle.simd_json_stages.proofs.Scan.Bits.Writing.{stored-four, four-more, stored-all, ones-left, stored-both}
use Rattle.simd_json_stages.proofs.stage1.lists.write.Goals as goal

pub returns-then-count-le4-clause-written : goal.returns-then-count-le4-clause-written
returns-then-count-le4-clause-written c =
    let small = c.ranges.bits.fits in
    stored-all _ _ _ _ 4 _ _ small (stored-four small c.store_four-rest.ensures) (omega arith)

pub returns-then-count-le8-clause-written : goal.returns-then-count-le8-clause-written
returns-then-count-le8-clause-written c =
    let small = c.ranges.bits.fits in
    let s = four-more 4 c.store_four-rest-2.ensures (stored-four small c.store_four-rest.ensures) in
    stored-all _ _ _ _ 8 _ _ small s (omega arith)

pub returns-then-count-le12-clause-written : goal.returns-then-count-le12-clause-written
returns-then-count-le12-clause-written c =
    let small = c.ranges.bits.fits in
    let s = four-more 4 c.store_four-rest-2.ensures (stored-four small c.store_four-rest.ensures) in
    stored-all _ _ _ _ 12 _ _ small (four-more 8 c.store_four-rest-3.ensures s) (omega arith)

pub returns-then-count-le16-clause-written : goal.returns-then-count-le16-clause-written
returns-then-count-le16-clause-written c =
    let small = c.ranges.bits.fits in
    let s = four-more 4 c.store_four-rest-2.ensures (stored-four small c.store_four-rest.ensures) in
    stored-all _ _ _ _ 16 _ _ small (four-more 12 c.store_four-rest-4.ensures (four-more 8 c.store_four-rest-3.ensures s)) (omega arith)

pub write_exactly-requires-clause-capacity : goal.write_exactly-requires-clause-capacity
write_exactly-requires-clause-capacity c =
    let small = c.ranges.bits.fits in
    let s = four-more 4 c.store_four-rest-2.ensures (stored-four small c.store_four-rest.ensures) in
    let t = four-more 12 c.store_four-rest-4.ensures (four-more 8 c.store_four-rest-3.ensures s) in
    omega (arith, ones-le 64 c.args.bits small, ones-left _ _ _ c.args.bits 16 _ _ small t, t.len)

pub returns-clause-written : goal.returns-clause-written
returns-clause-written c =
    let small = c.ranges.bits.fits in
    let s = four-more 4 c.store_four-rest-2.ensures (stored-four small c.store_four-rest.ensures) in
    let t = four-more 12 c.store_four-rest-4.ensures (four-more 8 c.store_four-rest-3.ensures s) in
    stored-both _ _ _ _ 16 _ _ _ _ small t (omega arith) c.write_exactly.ensures.written

pub returns-clause-count : goal.returns-clause-count
returns-clause-count c =
    let small = c.ranges.bits.fits in
    let s = four-more 4 c.store_four-rest-2.ensures (stored-four small c.store_four-rest.ensures) in
    let t = four-more 12 c.store_four-rest-4.ensures (four-more 8 c.store_four-rest-3.ensures s) in
    omega (arith, ones-le 64 c.args.bits small, ones-left _ _ _ c.args.bits 16 _ _ small t)
