use Rattle.std.proofs.Common.{◌≤◌, ◌+◌, length, sym, ap, ◌∙◌, arith}
use lib.Count.{count_trailing_zeros}
use Rattle.simd_json_scalars.specs.StringContent.{is_stop}
use Rattle.simd_json_parts.proofs.Lists.LaneRuns.{run-through, run-ends, run-within}
use Rattle.simd_json_scalars.proofs.Strings.MovedRuns.{moving-none, moving-more, moving-ends}
use Rattle.simd_json_scalars.proofs.stringparse.move_plain.Goals as goal

pub loop-bytes-init : goal.loop-bytes-init
loop-bytes-init c = moving-none c.args.bytes.now c.args.from c.args.to c.requires.goes_on

pub move_few-requires : goal.move_few-requires
move_few-requires c =
    let l = c.loop-bytes in
    let i = c.args.from + l.done in
    let found = c.stops-stops.ensures in
    let run = run-ends is_stop l.bytes i 32 (omega arith) (omega arith) (omega (arith, found))
    ∙ ap (count_trailing_zeros 64) (sym found) in
    let inside = run-within is_stop l.bytes i 32 (omega arith) (omega arith) (omega (arith, found)) in
    let counted = ap (count_trailing_zeros 64) found in
    (omega arith, omega arith, omega (arith, run, l.invariant.value, l.invariant.bound), omega (arith, counted, inside))

pub returns-then-stops-ne0 : goal.returns-then-stops-ne0
returns-then-stops-ne0 c =
    let l = c.loop-bytes in
    let i = c.args.from + l.done in
    let found = c.stops-stops.ensures in
    let run = run-ends is_stop l.bytes i 32 (omega arith) (omega arith) (omega (arith, found))
    ∙ ap (count_trailing_zeros 64) (sym found) in
    moving-ends _ _ _ _ _ _ _ c.requires.goes_on c.requires.order l.invariant (ap (λ n. i + n) (sym run)) c.move_few.ensures

pub loop-bytes-preserved : goal.loop-bytes-preserved
loop-bytes-preserved c =
    let l = c.loop-bytes in
    moving-more _ _ _ _ _ 32 c.requires.order l.invariant
    (run-through is_stop l.bytes (c.args.from + l.done) 32 (omega arith) (omega (arith, c.stops-stops.ensures))) (omega arith)

pub plain_end_slowly-end-requires : goal.plain_end_slowly-end-requires
plain_end_slowly-end-requires c = omega (arith, c.loop-bytes.invariant.value, c.loop-bytes.invariant.bound)

pub move_few-requires-2 : goal.move_few-requires-2
move_few-requires-2 c =
    let l = c.loop-bytes in
    let run = c.plain_end_slowly-end.ensures in
    let inside : c.plain_end_slowly-end.result ≤ length l.bytes = omega (arith, run, l.invariant.value, l.invariant.bound) in
    (omega arith, omega (arith, run), inside, omega (arith, inside, c.loop-bytes-test.false))

pub returns : goal.returns
returns c =
    moving-ends _ _ _ _ _ _ _ c.requires.goes_on c.requires.order c.loop-bytes.invariant c.plain_end_slowly-end.ensures c.move_few-2.ensures
