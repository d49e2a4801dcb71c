use Rattle.std.proofs.Common.{arith}
use Rattle.simd_json_stages.proofs.Machine.Bounds.{inside}
use Rattle.simd_json_stages.proofs.Machine.Following.{at-first}
use Rattle.simd_json_stages.proofs.Scan.WholeFaults.{some-listed}
use Rattle.simd_json_stages.proofs.stage2.machine.build.Goals as goal

pub bounds-route-0 : goal.bounds-route-0
bounds-route-0 g c = let route = c.requires.route in some-listed _ _ route.positions route.whole

pub byte-requires : goal.byte-requires
byte-requires g c =
    let b = g.K.Original.bytes in
    let route = c.requires.route in
    record {
      b = b;
      reads = g.met.B.Builder.later b c.args.builder.now 0 _ c.requires.reads (omega arith);
      within = omega (arith, inside _ _ route.positions 0 (some-listed _ _ route.positions route.whole));
    }

pub read_value-requires : goal.read_value-requires
read_value-requires g c =
    let b = g.K.Original.bytes in
    let kept = g.met.B.Builder.later b c.args.builder.now in
    at-first kept c.requires.route c.requires.capacities c.requires.empty c.requires.reads
    (c.byte.ensures b (kept 0 _ c.requires.reads (omega arith)))
