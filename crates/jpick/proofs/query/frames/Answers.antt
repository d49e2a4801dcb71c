use Rattle.std.proofs.Common.{◌∙◌, ap, arith, take, sym}
use Rattle.std.proofs.Math.Seq.{take-length}
use Rattle.std.proofs.lemmas.Bool.{le-leb}
use Rattle.std.specs.List.{list_all}
use Rattle.jpick.specs.Queries.{has_frames}
use Rattle.jpick.proofs.Appended.{all-more}
use Rattle.jpick.proofs.Enough.{frames-grow}
use Rattle.jpick.proofs.query.frames.Goals as goal

pub loop-query-preserved : goal.loop-query-preserved
loop-query-preserved c =
    let queries = c.args.queries.now in
    let i = c.loop-query.query-index in
    let most = c.max-most.result in
    all-more (has_frames most) queries i c.query-item.result c.loop-query-test.true
    (frames-grow (take i queries) c.loop-query.most most (omega arith) c.loop-query.invariant)
    (ap (has_frames most) (sym c.query-item.is) ∙ le-leb _ _ (omega arith))

pub returns : goal.returns
returns c =
    let queries = c.args.queries.now in
    let p = has_frames c.loop-query.most in
    sym (ap (λ n. list_all p (take n queries)) (omega arith) ∙ ap (list_all p) (take-length queries)) ∙ c.loop-query.invariant
