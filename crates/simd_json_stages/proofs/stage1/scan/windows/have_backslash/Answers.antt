use Rattle.std.proofs.Common.{◌≡◌, ◌∙◌, ◌==◌, ap, inl, inr, [], slice_index_or, arith}
use Rattle.std.specs.List.{list_any}
use Rattle.std.proofs.lemmas.Bool.{cases_lt}
use Rattle.std.proofs.lemmas.List.{get_or_default}
use Rattle.simd_json_parts.specs.Bytes.{backslash}
use Rattle.simd_json_stages.proofs.Scan.BlockWords.{any-zero}
use Rattle.simd_json_stages.proofs.stage1.scan.windows.have_backslash.Goals as goal

pub loop-i-preserved : goal.loop-i-preserved
loop-i-preserved c =
    let l = c.loop-i in
    let bs = c.args.blocks.now in
    record {
      from = omega arith;
      to = omega arith;
      none = λ k d from to. elim (cases_lt k l.i) [
        | inl below ↦ l.invariant.none k d from below
        | inr above ↦ (
            let here : k ≡ l.i = omega arith in
            ap (λ n. list_any (λ x. x == backslash) (slice_index_or bs n d)) here
            ∙ ap (list_any (λ x. x == backslash)) (get_or_default bs l.i d [] (omega arith))
            ∙ any-zero (λ x. x == backslash) _ _ (c.told-blocks l.i (omega arith)) c.backslashes.ensures c.if-backslashes-ne0.false
            )
      ];
    }
