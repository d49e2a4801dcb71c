use Rattle.std.proofs.Common.{◌≡◌, arith}
use Rattle.simd_json_stages.proofs.Scan.BlockScanLaws.{Scans-none, Scans-more, Scans-same, CanScan-after, CanScan-front}
use Rattle.simd_json_stages.proofs.stage1.scan.groups.scan_groups.Goals as goal

pub loop-i-init : goal.loop-i-init
loop-i-init c = record {
  from = omega arith;
  groups = c.requires.groups;
  fits = c.requires.fits;
  scans = Scans-none _ _ _ _ _;
}

pub scan_group-done-requires : goal.scan_group-done-requires
scan_group-done-requires c = CanScan-front c.loop-i.invariant.fits (omega arith) (omega arith)

pub loop-i-preserved : goal.loop-i-preserved
loop-i-preserved c =
    let i = c.loop-i.invariant in
    let one = c.scan_group-done.ensures in
    record {
      from = omega arith;
      groups = omega arith;
      fits = CanScan-after i.fits one (omega arith) (omega arith) (omega arith) (omega arith);
      scans = Scans-more (omega arith) (omega arith) i.scans one;
    }

pub returns : goal.returns
returns c = Scans-same (let e : c.loop-i.i ≡ c.args.window.end = omega (arith, c.loop-i.invariant.fits.order) in e) c.loop-i.invariant.scans
