use Rattle.std.proofs.Common.{◌∙◌, arith, ap, sym, true, false, nat_lt}
use Rattle.std.proofs.lemmas.Bool.{le-ltb, lt-ltb}
use Rattle.simd_json_check.specs.Openings.{open_after}
use Rattle.simd_json_parts.specs.Bytes.{byte_at}
use Rattle.simd_json_check.proofs.Places.Containers.{below-before, below-here, below-none, flip, open-few, open-next, open-none, open-same}
use Rattle.simd_json_check.proofs.Places.StringScan.{after-inside, read, read-after, scan-none}
use Rattle.simd_json_check.proofs.location.scan.containers.Goals as goal
use Rattle.simd_json_check.proofs.location.scan.containers.Goals.{then-count-level, else-count-level, then-not-strings, else-not-strings}

pub loop-i-init : goal.loop-i-init
loop-i-init c = record {
  scan = scan-none c.args.input.now;
  levels = sym (open-none c.args.input.now);
  last = sym (below-none c.args.input.now c.args.level);
}

pub open_after-count-requires : goal.open_after-count-requires
open_after-count-requires c =
    omega (arith, c.loop-i.invariant.levels, open-few c.args.input.now c.loop-i.i, c.loop-i-test.true)

pub loop-i-preserved : goal.loop-i-preserved
loop-i-preserved c =
    let b = c.args.input.now in
    let i = c.loop-i.i in
    let level = c.args.level in
    let before = c.loop-i.strings in
    let after = c.after-strings.result in
    let l = c.loop-i-test.true in
    let levels = c.loop-i.invariant.levels in
    let s = read-after b i before.is_escaped before.is_inside l c.loop-i.invariant.scan after.is_escaped after.is_inside
    c.after-strings.ensures.escaped c.after-strings.ensures.inside in
    let inside = sym (after-inside b i after.is_escaped after.is_inside s) in
    record {
      scan = s;
      levels = elim c.if-not-strings.branch [
        | then-not-strings w ↦ w.count-is ∙ w.open_after-count.ensures ∙ ap (λ x. open_after x c.loop-i.count) (read b i l)
            ∙ ap (open_after (byte_at b i)) levels ∙ sym (open-next b i (inside ∙ flip after.is_inside true w.if-not-strings.true))
        | else-not-strings w ↦ w.count-is ∙ levels ∙ sym (open-same b i (inside ∙ flip after.is_inside false w.if-not-strings.false))
      ];
      last = elim c.if-count-level.branch [
        | then-count-level w ↦ w.below-is
            ∙ sym (below-here b i level (ap (λ n. nat_lt n level) (sym levels) ∙ lt-ltb c.loop-i.count level w.if-count-level.true))
        | else-count-level w ↦ w.below-is ∙ c.loop-i.invariant.last
            ∙ sym (below-before b i level (ap (λ n. nat_lt n level) (sym levels) ∙ le-ltb c.loop-i.count level w.if-count-level.false))
      ];
    }
