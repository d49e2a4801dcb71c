use Rattle.std.proofs.Common.{inl, rules}
use Rattle.simd_json_print.specs.Layout.{printed}
use Rattle.simd_json_print.proofs.Growing.{is-appended, part-begun}
use Rattle.simd_json_print.proofs.Levels.{was-err, was-ok}
use Rattle.simd_json_print.proofs.document.append.Goals as goal

pub returns-in-Ok : goal.returns-in-Ok
returns-in-Ok g c =
    let old = c.args.out.now.items in
    let put = c.print-ended in
    let some = is-appended put.result.0 _ _ old put.new.target put.ensures.kept.0 put.ensures.kept.1 in
    record {
      appended = λ d is.
          let all = is-appended put.result.0 _ _ old put.new.target (printed c.args.layout d)
          (was-ok put.result.1 _ _ _ c.in_ok-put.was (put.ensures.given d is)) in
          search rules;
      lacking = λ d is. search rules;
      begun = λ d is. search rules;
      kept = search rules;
      capacity = search rules;
      levels = put.ensures.longer;
    }

pub returns-in-Err : goal.returns-in-Err
returns-in-Err g c =
    let old = c.args.out.now.items in
    let put = c.print-ended in
    let some = is-appended put.result.0 _ _ old put.new.target put.ensures.kept.0 put.ensures.kept.1 in
    record {
      appended = λ d is. search rules;
      lacking = λ d is.
          let all = is-appended put.result.0 _ _ old put.new.target (printed c.args.layout d)
          (was-ok put.result.1 _ _ _ c.in_ok-put.was (put.ensures.given d is)) in
          inl (search rules);
      begun = λ d is.
          let all = is-appended put.result.0 _ _ old put.new.target (printed c.args.layout d)
          (was-ok put.result.1 _ _ _ c.in_ok-put.was (put.ensures.given d is)) in
          search rules;
      kept = search rules;
      capacity = search rules;
      levels = put.ensures.longer;
    }

pub returns-in_err-put : goal.returns-in_err-put
returns-in_err-put g c =
    let old = c.args.out.now.items in
    let put = c.print-ended in
    let some = is-appended put.result.0 _ _ old put.new.target put.ensures.kept.0 put.ensures.kept.1 in
    record {
      appended = λ d is. search rules;
      lacking = λ d is.
          let part = was-err put.result.1 _ _ _ c.in_err-put.was (put.ensures.given d is) in
          search rules;
      begun = λ d is.
          let part = was-err put.result.1 _ _ _ c.in_err-put.was (put.ensures.given d is) in
          let all = part-begun put.result.0 _ _ part.0.0 old put.new.target (printed c.args.layout d) part.0.1 in
          search rules;
      kept = search rules;
      capacity = search rules;
      levels = put.ensures.longer;
    }
