use Rattle.std.proofs.Common.{◌≡◌, ◌+◌, arith}
use Rattle.simd_json_stages.specs.BlockScans.{Scans}
use Rattle.simd_json_stages.specs.declared.stage1.scan.ScanState.{ScanState}
use Rattle.simd_json_stages.proofs.Scan.BlockScanLaws.{Classifies-one, Scans-none, Scans-more, Scans-same, CanScan-after}
use Rattle.simd_json_stages.proofs.stage1.scan.windows.scan_few.Goals as goal

pub loop-i-init : goal.loop-i-init
loop-i-init c = record { from = omega arith; fits = c.requires; scans = Scans-none _ _ _ _ _ }

pub loop-i-preserved : goal.loop-i-preserved
loop-i-preserved c =
    let l = c.loop-i in
    let i = l.invariant in
    let m = c.classify-found in
    let s = c.with_block-classifying in
    let p = c.place_block-placing in
    let before : ScanState = record { classifying = l.classifying; placing = l.placing } in
    let after : ScanState = record { classifying = s.result; placing = p.result } in
    let one : Scans c.args.blocks.now l.i (l.i + 1) before after l.structural_indexes l.escape_blocks p.new.structural_indexes
    s.new.escape_blocks = record {
      classifies = Classifies-one (λ b is. is l.i _ (omega arith)) m.ensures.classified s.ensures.few s.ensures.ascii
          s.ensures.classified;
      few = omega arith;
      placed = λ b is h.
          let found = m.ensures.classified b _ (is l.i _ (omega arith)) h.classified.escaped in
          p.ensures.placed b (c.find_parts-parts.ensures b _ found.classes) found.classes.control h.placed;
    } in
    record {
      from = omega arith;
      fits = CanScan-after i.fits one (omega arith) (omega arith) (omega arith) (omega arith);
      scans = Scans-more (omega arith) (omega arith) i.scans one;
    }

pub returns : goal.returns
returns c = Scans-same (let e : c.loop-i.i ≡ c.args.window.end = omega (arith, c.loop-i.invariant.fits.order) in e) c.loop-i.invariant.scans
