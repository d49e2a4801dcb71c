use Rattle.std.proofs.Common.{◌≡◌, length}
use Rattle.jtape.specs.Pieces.{pieces}
use Rattle.jtape.proofs.Streams.{AreDone}
use Rattle.jtape.proofs.stream.put_stream.Given as goal

abbrev pub invariant-loop-end : goal.invariant-loop-end
invariant-loop-end g l = record {
  limit : l.stream.buffers.limit ≡ l.depth;
  done : AreDone g.T.Target.state l.fn.text l.text l.depth l.fn.input (pieces l.rest) l.all_clean;
}

abbrev pub decreases-loop-end : goal.decreases-loop-end
decreases-loop-end g l = length l.rest
