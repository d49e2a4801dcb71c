use Rattle.std.proofs.Common.{ap, get_or}
use Rattle.simd_json.specs.Viewed.{doc}
use Rattle.simd_json_path.proofs.Stacks.{match-more, finished-left, stepped-left, finished-effort, stepped-effort}
use Rattle.simd_json_path.proofs.frames.step.Goals as goal

pub returns-clause-left : goal.returns-clause-left
returns-clause-left c ss segment =
    let root = doc c.args.root in
    let fs = c.args.frames.now in
    let k = c.args.last in
    let old = get_or fs k c.index-frames-last.result in
    let new = c.next.new.self in
    let is = ap (get_or fs k) c.index-frames-last.is in
    match-more c.next.result
    (λ none. finished-left root ss fs k old new segment c.requires is none.0)
    (λ value next. stepped-left root ss fs k old new segment c.requires is (doc value) next)
    c.next.ensures

pub returns-clause-effort : goal.returns-clause-effort
returns-clause-effort c ss segment =
    let root = doc c.args.root in
    let fs = c.args.frames.now in
    let k = c.args.last in
    let old = get_or fs k c.index-frames-last.result in
    let new = c.next.new.self in
    let is = ap (get_or fs k) c.index-frames-last.is in
    match-more c.next.result
    (λ none. finished-effort root ss fs k old new segment c.requires is)
    (λ value next. stepped-effort root ss fs k old new segment c.requires is (doc value) next)
    c.next.ensures
