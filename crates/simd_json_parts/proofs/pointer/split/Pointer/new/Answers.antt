use Rattle.std.proofs.Common.{◌<◌, ◌∙◌, ap, sym, refl, drop, length, length-set, true≢false, arith}
use Rattle.std.proofs.lemmas.List.{drop_all}
use Rattle.std.specs.Prelude.{◌&&◌}
use Rattle.simd_json_parts.specs.Followed.{tokens_after}
use Rattle.simd_json_parts.specs.Pointed.{is_pointer, token_count}
use Rattle.simd_json_parts.proofs.Pointers.Splitting.{count-so-far, ends-more, formed-at, more-tokens}
use Rattle.simd_json_parts.proofs.pointer.split.Pointer.new.Goals as goal
use Rattle.simd_json_parts.proofs.pointer.split.Pointer.new.Goals.{then-len-via-then-len}
use Rattle.simd_json_parts.proofs.pointer.split.Pointer.new.Goals.{then-len-via-else-len+then-not-is_well_formed}

pub returns-then-len-clause-formed : goal.returns-then-len-clause-formed
returns-then-len-clause-formed g c =
    let p = c.as_bytes-bytes.result.now in
    let l = c.loop-at in
    let same = c.as_bytes-bytes.ensures.value in (
      λ no. absurd (true≢false (sym no)),
      λ is. (elim c.then-len.branch [
        | then-len-via-then-len w ↦
            (let count = count-so-far p l.at l.ends l.len (omega (arith, l.invariant.counted, l.invariant.room)) l.invariant.split in
            absurd (omega (arith, is.1, ap token_count same, count, more-tokens p l.at c.loop-at-test.true, w.if-len.true)))
        | then-len-via-else-len+then-not-is_well_formed w ↦
            sym (l.invariant.formed ∙ formed-at p l.at c.in-Some.token.end c.in-Some.ensures.0
            ∙ ap (λ b. b && is_pointer (drop c.in-Some.token.end p)) (sym w.is_well_formed.ensures ∙ w.if-not-is_well_formed.true))
            ∙ ap is_pointer same ∙ is.0
      ]),
    )

pub loop-at-preserved : goal.loop-at-preserved
loop-at-preserved g c =
    let p = c.as_bytes-bytes.result.now in
    let l = c.loop-at in
    let end = c.in-Some.token.end in
    let room : l.len < length l.ends = omega (arith, c.if-len.false, l.invariant.counted, l.invariant.room) in
    record {
      within = c.in-Some.ensures.0.within.1;
      counted = omega (arith, c.if-len.false, l.invariant.counted);
      room = length-set l.ends l.len end ∙ l.invariant.room;
      formed =
          l.invariant.formed ∙ formed-at p l.at end c.in-Some.ensures.0
          ∙ ap (λ b. b && is_pointer (drop end p)) (sym c.if-not-is_well_formed.ensures);
      split = ends-more p l.at end l.ends l.len c.in-Some.ensures.0 room l.invariant.split;
    }

pub returns-clause-formed : goal.returns-clause-formed
returns-clause-formed g c =
    let p = c.as_bytes-bytes.result.now in
    let l = c.loop-at in
    let none = drop_all l.at p (omega (arith, c.loop-at-test.false)) in
    let count = count-so-far p l.at l.ends l.len (omega (arith, l.invariant.counted, l.invariant.room)) l.invariant.split in
    let same = c.as_bytes-bytes.ensures.value in (
      λ yes. (
        ap is_pointer (sym same) ∙ l.invariant.formed ∙ ap is_pointer none,
        omega (arith, ap token_count same, count, ap (λ q. length (tokens_after q)) none, l.invariant.counted),
      ),
      λ is. refl,
    )
