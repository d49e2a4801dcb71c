use Rattle.std.proofs.Common.{◌∙◌, sym}
use Rattle.std.proofs.lemmas.Result.{err_from_is_err_and}
use Rattle.programs.proofs.Pieces.{found-cut, not_found-last}
use Rattle.jtape.proofs.Streams.{none-done, one-more, all-put, others-lost, stops-before, stops-at}
use Rattle.jtape.proofs.stream.put_stream.Goals as goal

pub returns-in_err-stream-clause-stopped : goal.returns-in_err-stream-clause-stopped
returns-in_err-stream-clause-stopped g c =
    let p = err_from_is_err_and c.from_residual.result c.from_residual.ensures.1 in
    rw p.1 (stops-before g.T.Target.state c.args.text.now c.args.depth c.args.input.now)

pub loop-end-init : goal.loop-end-init
loop-end-init g c = record {
  limit = c.in_ok-stream.ensures.made;
  done = none-done g.T.Target.state c.args.text.now c.args.depth c.args.input.now;
}

pub returns-in_err-all_clean-clause-stopped : goal.returns-in_err-all_clean-clause-stopped
returns-in_err-all_clean-clause-stopped g c =
    let p = err_from_is_err_and c.from_residual-in_err-all_clean.result c.from_residual-in_err-all_clean.ensures.1 in
    let split = c.split_at_mut-piece in
    let cut =
    found-cut c.loop-end.rest.now split.result.0.now split.result.1.now c.split_at_mut-more.result.1.now c.in-Some.end c.in-Some.ensures
    split.ensures.front split.ensures.back c.split_at_mut-more.ensures.back in
    rw p.1 (stops-at cut c.loop-end.invariant.done c.in_err-all_clean.ensures.none)

pub returns-then-has_failed-clause-put : goal.returns-then-has_failed-clause-put
returns-then-has_failed-clause-put g c =
    let split = c.split_at_mut-piece in
    let cut =
    found-cut c.loop-end.rest.now split.result.0.now split.result.1.now c.split_at_mut-more.result.1.now c.in-Some.end c.in-Some.ensures
    split.ensures.front split.ensures.back c.split_at_mut-more.ensures.back in
    let put = c.in_ok-all_clean.ensures in
    let done = one-more c.loop-end.invariant.limit cut c.loop-end.invariant.done put.put put.clean in
    others-lost (sym c.has_failed.ensures ∙ c.if-has_failed.true) done

pub loop-end-preserved : goal.loop-end-preserved
loop-end-preserved g c =
    let split = c.split_at_mut-piece in
    let cut =
    found-cut c.loop-end.rest.now split.result.0.now split.result.1.now c.split_at_mut-more.result.1.now c.in-Some.end c.in-Some.ensures
    split.ensures.front split.ensures.back c.split_at_mut-more.ensures.back in
    let put = c.in_ok-all_clean.ensures in
    record {
      limit = put.limit ∙ c.loop-end.invariant.limit;
      done = one-more c.loop-end.invariant.limit cut c.loop-end.invariant.done put.put put.clean;
    }

pub returns-in_err-all_clean-2-clause-stopped : goal.returns-in_err-all_clean-2-clause-stopped
returns-in_err-all_clean-2-clause-stopped g c =
    let p = err_from_is_err_and c.from_residual-in_err-all_clean-2.result c.from_residual-in_err-all_clean-2.ensures.1 in
    rw p.1 (stops-at (not_found-last c.loop-end.rest.now c.in_default.ensures) c.loop-end.invariant.done c.in_err-all_clean-2.ensures.none)

pub returns-clause-clean : goal.returns-clause-clean
returns-clause-clean g c sound =
    let put = c.in_ok-all_clean-2.ensures in
    let last = not_found-last c.loop-end.rest.now c.in_default.ensures in
    (all-put (one-more c.loop-end.invariant.limit last c.loop-end.invariant.done put.put put.clean)).1

pub returns-clause-put : goal.returns-clause-put
returns-clause-put g c =
    let put = c.in_ok-all_clean-2.ensures in
    let last = not_found-last c.loop-end.rest.now c.in_default.ensures in
    (all-put (one-more c.loop-end.invariant.limit last c.loop-end.invariant.done put.put put.clean)).0
