use Rattle.simd_json_query.proofs.text.patterns.arguments.Goals as goal

pub returns-clause-arguments : goal.returns-clause-arguments
returns-clause-arguments g c = (
  c.skip_blanks-begin.result.now,
  c.skip_blanks-begin.ensures.blanks,
  (
    c.in_ok-text.others.now,
    c.in_ok-text.ensures.comparable,
    (
      c.skip_blanks-end.result.now,
      c.skip_blanks-end.ensures.blanks,
      (
        c.in-Some.behind.now,
        c.in-Some.ensures.mark,
        (
          c.skip_blanks.result.now,
          c.skip_blanks.ensures.blanks,
          (c.in_ok-matcher.behind.now, c.in_ok-matcher.ensures.matcher, c.in_ok-closed.ensures.closed),
        ),
      ),
    ),
  ),
)
