use Rattle.simd_json_stages.proofs.Scan.Bits.Escapes.{escaped_words}
use Rattle.simd_json_stages.proofs.stage1.words.find_escaped.Goals as goal

pub returns : goal.returns
returns c = λ k e.
    let sum = c.overflowing_add-even_runs in
    escaped_words k c.args.backslash c.args.before c.ranges.backslash.fits e _ _ sum.ensures.value sum.ensures.overflow
