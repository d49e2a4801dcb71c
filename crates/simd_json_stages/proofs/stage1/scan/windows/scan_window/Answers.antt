use Rattle.std.proofs.Common.{◌≡◌, ◌-◌, ◌%◌, arith}
use Rattle.simd_json_stages.specs.BlockScans.{Scans}
use Rattle.simd_json_stages.proofs.Scan.BlockScanLaws.{Scans-none, Scans-more, Scans-same, CanScan-after, CanScan-front}
use Rattle.simd_json_stages.proofs.stage1.scan.windows.scan_window.Goals as goal
use Rattle.simd_json_stages.proofs.stage1.scan.windows.scan_window.Goals.{then-window-middle, else-window-middle}

pub scan_groups-done-requires-clause-fits : goal.scan_groups-done-requires-clause-fits
scan_groups-done-requires-clause-fits c = CanScan-front c.requires (omega arith) (omega arith)

pub scan_few-requires : goal.scan_few-requires
scan_few-requires c =
    let i = c.if-window-middle in
    let middle = c.args.window.end - (c.args.window.end - c.args.window.first) % 8 in
    let groups : Scans c.args.blocks.now c.args.window.first middle c.args.before i.done c.args.structural_indexes.now
    c.args.escape_blocks.now i.structural_indexes i.escape_blocks = elim i.branch [
      | then-window-middle w ↦ rw (w.structural_indexes-is, w.escape_blocks-is, w.done-is) w.scan_groups-done.ensures
      | else-window-middle w ↦ (
          let none : c.args.window.first ≡ middle = omega arith in
          rw (w.structural_indexes-is, w.escape_blocks-is, w.done-is) (Scans-same none (Scans-none _ _ _ _ _))
          )
    ] in
    CanScan-after c.requires groups (omega arith) (omega arith) (omega arith) (omega arith)

pub returns : goal.returns
returns c =
    let i = c.if-window-middle in
    let middle = c.args.window.end - (c.args.window.end - c.args.window.first) % 8 in
    let groups : Scans c.args.blocks.now c.args.window.first middle c.args.before i.done c.args.structural_indexes.now
    c.args.escape_blocks.now i.structural_indexes i.escape_blocks = elim i.branch [
      | then-window-middle w ↦ rw (w.structural_indexes-is, w.escape_blocks-is, w.done-is) w.scan_groups-done.ensures
      | else-window-middle w ↦ (
          let none : c.args.window.first ≡ middle = omega arith in
          rw (w.structural_indexes-is, w.escape_blocks-is, w.done-is) (Scans-same none (Scans-none _ _ _ _ _))
          )
    ] in
    Scans-more (omega arith) (omega (arith, c.requires.order)) groups c.scan_few.ensures
