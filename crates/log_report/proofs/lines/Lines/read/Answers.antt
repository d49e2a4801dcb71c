use Rattle.std.proofs.Common.{◌∙◌, [], ap, refl, subst, sym}
use Rattle.std.proofs.KnownBytes.{Consumes-nil}
use Rattle.programs.proofs.Reading
use Rattle.programs.proofs.Reading.{at-start}
use Rattle.programs.specs.Failures.{name_fault}
use Rattle.programs.specs.Lines.{Moves}
use Rattle.log_report.specs.Runs.{BeginsCountedLine, CountsLine, input_fault}
use Rattle.log_report.proofs.Counting.{block-at, end-begun, end-taken, line-begun, line-taken, reading-begun}
use Rattle.log_report.proofs.Written.{input-handed-on, input-named, read-fault}
use Rattle.log_report.proofs.lines.Lines.read.Goals as goal
use Rattle.log_report.proofs.lines.Lines.read.Goals.{in-Line+in_ok-count-in-Line, in-Block}

pub loop-init : goal.loop-init
loop-init g c = record {
  reader = c.requires.reader;
  err = c.requires.err;
  counted = record {
    done = [];
    read = subst (λ lines. Reading.IsAt c.args.self.now.wanted.now.longest lines c.args.line.now.items
        (g.R.Read.remaining c.args.reader.now.inner) (g.R.Read.remaining c.args.reader.now.inner) []) (sym c.new-lines.ensures)
        (at-start c.args.self.now.wanted.now.longest c.args.line.now.items _);
    shown = λ held w last r shown. record {
      by = shown.by;
      of = refl;
      longest = ap (λ n. n.longest) c.restart.ensures ∙ shown.longest;
      depth = ap (λ n. n.depth) c.restart.ensures ∙ shown.depth;
      number = ap (λ n. n.number) c.restart.ensures;
      all_taken = shown.all_taken;
      counts = shown.counts;
      rejections = shown.rejections;
    };
  };
}

pub loop-preserved : goal.loop-preserved
loop-preserved g c =
    let at = c.loop.invariant.counted in
    let old = c.args.self.now in
    let first = c.args.reader.now in
    let names = c.args.err.now in
    let file = c.args.file.now in
    elim c.match-branch-2.branch [
      | in-Line+in_ok-count-in-Line v ↦
          let counted = v.in_ok-count-in-Line.ensures c.loop.invariant.err in
          rw (v.self-is, v.line-is, v.err-is) (record {
            reader = c.in_ok-next.ensures.moves.0;
            err = counted.0;
            counted = line-taken g.R.Read.remaining g.E.Write.contents old c.loop.self first c.loop.reader names c.loop.err file
                c.loop.lines c.loop.line.items v.count.new.self c.next.new.self c.next.new.line.items _ c.next.new.reader v.count.new.err at
                (subst (Moves c.loop.lines c.next.new.self c.loop.line.items c.next.new.line.items (g.R.Read.remaining c.loop.reader.inner)
                (g.R.Read.remaining c.next.new.reader.inner)) v.in-Line.is c.in_ok-next.ensures.moves.1)
                (subst (CountsLine g.E.Write.contents c.loop.self v.count.new.self c.loop.err v.count.new.err)
                v.as_mut_slice.ensures.value counted.1);
          })
      | in-Block v ↦
          rw (v.self-is, v.line-is, v.err-is) (record {
            reader = c.in_ok-next.ensures.moves.0;
            err = c.loop.invariant.err;
            counted = block-at g.R.Read.remaining g.E.Write.contents old c.loop.self first c.loop.reader names c.loop.err file
                c.loop.lines c.loop.line.items c.next.new.self c.next.new.line.items c.next.new.reader at
                (subst (Moves c.loop.lines c.next.new.self c.loop.line.items c.next.new.line.items (g.R.Read.remaining c.loop.reader.inner)
                (g.R.Read.remaining c.next.new.reader.inner)) v.in-Block.is c.in_ok-next.ensures.moves.1);
          })
    ]

pub returns-in_err-next : goal.returns-in_err-next
returns-in_err-next g c =
    let failed = c.in_err-next.ensures.moves in
    input-handed-on c.from_residual.result _ _ _ _ _ c.from_residual.ensures.1
    (λ e is. is ∙ read-fault _ _ _ c.loop.invariant.err failed.0) (λ is. c.loop.invariant.err)
    (reading-begun g.R.Read.remaining g.E.Write.contents c.args.self.now c.loop.self c.args.reader.now c.loop.reader c.args.err.now
    c.loop.err c.args.file.now c.loop.lines c.loop.line.items c.next.new.reader c.loop.invariant.counted (failed.1, failed.2))

pub returns-in_err-count-in-Line : goal.returns-in_err-count-in-Line
returns-in_err-count-in-Line g c =
    let failed = c.in_err-count-in-Line.ensures c.loop.invariant.err in
    let none = c.in_ok-next.ensures.moves.0 in
    input-handed-on c.from_residual-in_err-count-in-Line.result _ _ _ _ _ c.from_residual-in_err-count-in-Line.ensures.1
    (λ e is. is ∙ failed.0 ∙ ap (λ b. input_fault b c.count.new.err.failed) (sym none)) (λ is. cc)
    (line-begun g.R.Read.remaining g.E.Write.contents c.args.self.now c.loop.self c.args.reader.now c.loop.reader c.args.err.now
    c.loop.err c.args.file.now c.loop.lines c.loop.line.items c.next.new.self c.next.new.line.items c.next.new.reader c.count.new.err
    c.loop.invariant.counted
    (subst (Moves c.loop.lines c.next.new.self c.loop.line.items c.next.new.line.items (g.R.Read.remaining c.loop.reader.inner)
    (g.R.Read.remaining c.next.new.reader.inner)) c.in-Line.is c.in_ok-next.ensures.moves.1)
    (subst (BeginsCountedLine g.E.Write.contents c.loop.self c.loop.err c.count.new.err) c.as_mut_slice.ensures.value failed.1))

pub returns-in-End : goal.returns-in-End
returns-in-End g c =
    let at = c.loop.invariant.counted in
    let moves = subst (Moves c.loop.lines c.next.new.self c.loop.line.items c.next.new.line.items (g.R.Read.remaining c.loop.reader.inner)
    (g.R.Read.remaining c.next.new.reader.inner)) c.in-End.is c.in_ok-next.ensures.moves.1 in
    input-named c.count-in-End.result _ _ _ _ _ _ c.in_ok-next.ensures.moves.0
    (λ taken. end-taken g.R.Read.remaining g.E.Write.contents c.args.self.now c.loop.self c.args.reader.now c.loop.reader c.args.err.now
    c.loop.err c.args.file.now c.loop.lines c.loop.line.items c.count-in-End.new.self c.next.new.self c.next.new.line.items
    c.next.new.reader c.count-in-End.new.err at moves
    (subst (CountsLine g.E.Write.contents c.loop.self c.count-in-End.new.self c.loop.err c.count-in-End.new.err)
    c.as_mut_slice-in-End.ensures.value taken))
    (λ begun. end-begun g.R.Read.remaining g.E.Write.contents c.args.self.now c.loop.self c.args.reader.now c.loop.reader c.args.err.now
    c.loop.err c.args.file.now c.loop.lines c.loop.line.items c.next.new.self c.next.new.line.items c.next.new.reader
    c.count-in-End.new.err at moves
    (subst (BeginsCountedLine g.E.Write.contents c.loop.self c.loop.err c.count-in-End.new.err) c.as_mut_slice-in-End.ensures.value begun))
    (c.count-in-End.ensures c.loop.invariant.err)

pub returns : goal.returns
returns g c = (
  ap name_fault (sym c.loop.invariant.err) ∙ ap (λ b. input_fault b c.loop.err.failed) (sym c.loop.invariant.reader),
  λ is. c.loop.invariant.err,
  reading-begun g.R.Read.remaining g.E.Write.contents c.args.self.now c.loop.self c.args.reader.now c.loop.reader c.args.err.now
      c.loop.err c.args.file.now c.loop.lines c.loop.line.items c.loop.reader c.loop.invariant.counted ([], Consumes-nil _),
)
