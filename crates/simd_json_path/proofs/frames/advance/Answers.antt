use Rattle.std.proofs.Common.{◌≡◌, ◌∙◌, ap, sym, ◌<◌, ◌+◌, ◌-◌, ◌∷◌, ◌++◌, [], ℕ, length, drop, take, arith}
use Rattle.simd_json.specs.Viewed.{doc}
use Rattle.simd_json_path.specs.IteratorNodes.{effort, frames_effort, frames_left}
use Rattle.simd_json_path.specs.Nodes.{nodes}
use Rattle.simd_json_path.specs.Paths.{selected_by}
use Rattle.simd_json_path.proofs.Stacks.{last-selected, next-selected, opened-smaller}
use Rattle.simd_json_path.proofs.frames.advance.Goals as goal

-- ---- the innermost frame is finished

pub frames-smaller-in_default : goal.frames-smaller-in_default
frames-smaller-in_default c =
    let root = doc c.args.root in
    let ss = c.args.segments.now in
    let n = c.frames.opened in
    let inside : n - 1 < length ss = omega arith in
    let last : n ≡ n - 1 + 1 = omega arith in
    let before = ap (λ k. frames_effort root ss (take k c.frames.frames)) last in
    omega (arith, before, c.in_default.ensures.effort ss inside)

pub frames-preserved-in_default : goal.frames-preserved-in_default
frames-preserved-in_default c =
    let root = doc c.args.root in
    let ss = c.args.segments.now in
    let n = c.frames.opened in
    let inside : n - 1 < length ss = omega arith in
    let last : n ≡ n - 1 + 1 = omega arith in
    record {
      within = omega arith;
      left = sym (c.in_default.ensures.left ss inside)
          ∙ sym (ap (λ k. frames_left root ss (take k c.frames.frames)) last)
          ∙ c.frames.invariant.left;
    }

-- ---- it gives a node of the last segment

pub returns-then-opened-segments-clause-left : goal.returns-then-opened-segments-clause-left
returns-then-opened-segments-clause-left c =
    let root = doc c.args.root in
    let ss = c.args.segments.now in
    let n = c.frames.opened in
    let new = c.step.new.frames in
    let d = doc c.in-Some.value in
    let inside : n - 1 < length ss = omega arith in
    let last : n ≡ n - 1 + 1 = omega arith in
    sym c.frames.invariant.left
    ∙ ap (λ k. frames_left root ss (take k c.frames.frames)) last
    ∙ c.in-Some.ensures.left ss inside
    ∙ ap (λ ds. ds ++ frames_left root ss (take (n - 1 + 1) new)) (last-selected root ss (n - 1 + 1) d (omega arith))
    ∙ ap (λ k. d ∷ frames_left root ss (take k new)) (sym last)

-- ---- or one at which the next segment begins

pub frames-smaller : goal.frames-smaller
frames-smaller c =
    let root = doc c.args.root in
    let ss = c.args.segments.now in
    let n = c.frames.opened in
    let d = doc c.in-Some.value in
    let inside : n - 1 < length ss = omega arith in
    let more : n < length ss = omega arith in
    let last : n ≡ n - 1 + 1 = omega arith in
    let count = λ (k : ℕ). effort root (drop k ss) (d ∷ []) + frames_effort root ss (take k c.step.new.frames) in
    let segment = c.index-segments-opened.result in
    let opened = rw c.index-segments-opened.is at (c.open.ensures.effort root ss more) in
    opened-smaller root ss n segment d more _ _ _ opened
    (ap (λ k. frames_effort root ss (take k c.frames.frames)) last ∙ c.in-Some.ensures.effort ss inside ∙ ap count (sym last))

pub frames-preserved : goal.frames-preserved
frames-preserved c =
    let root = doc c.args.root in
    let ss = c.args.segments.now in
    let n = c.frames.opened in
    let new = c.step.new.frames in
    let d = doc c.in-Some.value in
    let inside : n - 1 < length ss = omega arith in
    let more : n < length ss = omega arith in
    let last : n ≡ n - 1 + 1 = omega arith in
    let segment = c.index-segments-opened.result in
    let opened = rw c.index-segments-opened.is at (c.open.ensures.left root ss more) in
    record {
      within = omega arith;
      left = opened
          ∙ ap (λ ds. ds ++ frames_left root ss (take n new)) (sym (next-selected root ss n segment d more))
          ∙ ap (λ k. nodes (selected_by root) (drop k ss) (d ∷ []) ++ frames_left root ss (take k new)) last
          ∙ sym (c.in-Some.ensures.left ss inside)
          ∙ sym (ap (λ k. frames_left root ss (take k c.frames.frames)) last)
          ∙ c.frames.invariant.left;
    }
