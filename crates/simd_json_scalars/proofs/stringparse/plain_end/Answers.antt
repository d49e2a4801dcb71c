use Rattle.std.proofs.Common.{refl, sym, ap, ◌∙◌, arith}
use lib.Count.{count_trailing_zeros}
use Rattle.simd_json_scalars.specs.StringContent.{is_stop}
use Rattle.simd_json_parts.proofs.Lists.LaneRuns.{run-through, run-ends}
use Rattle.simd_json_scalars.proofs.Strings.Decoding.{run-inside, run-ended}
use Rattle.simd_json_scalars.proofs.stringparse.plain_end.Goals as goal

pub loop-end-init : goal.loop-end-init
loop-end-init c = record { value = refl; bound = run-inside c.args.bytes.now c.args.from c.requires.closed }

pub loop-end-preserved : goal.loop-end-preserved
loop-end-preserved c =
    let run = run-through is_stop c.args.bytes.now c.loop-end.end 32 (omega arith) (omega (arith, c.stops-stops.ensures)) in
    record { value = omega (arith, run, c.loop-end.invariant.value); bound = c.loop-end.invariant.bound }

pub returns-then-stops-ne0 : goal.returns-then-stops-ne0
returns-then-stops-ne0 c =
    let found = c.stops-stops.ensures in
    let run = run-ends is_stop c.args.bytes.now c.loop-end.end 32 (omega arith) (omega arith) (omega (arith, found))
    ∙ ap (count_trailing_zeros 64) (sym found) in
    run-ended _ _ _ c.requires (omega (arith, run, c.loop-end.invariant.value))

pub returns : goal.returns
returns c = run-ended _ _ _ c.requires (omega (arith, c.plain_end_slowly.ensures, c.loop-end.invariant.value))
