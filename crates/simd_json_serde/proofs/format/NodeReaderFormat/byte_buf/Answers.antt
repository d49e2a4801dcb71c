use Rattle.std.proofs.lemmas.Result.{err_from_is_err_and}
use Rattle.simd_json_serde.specs.Places.{spot}
use Rattle.simd_json_serde.proofs.Octets.{bytes-taken, entered-or-full, memory-inside, no-text}
use Rattle.simd_json_serde.proofs.format.NodeReaderFormat.byte_buf.Goals as goal

pub returns-in_err-begin_seq-clause-err : goal.returns-in_err-begin_seq-clause-err
returns-in_err-begin_seq-clause-err c =
    let none = no-text c.in_ok-look.field-0 (spot c.args.self.now) c.in_ok-look.ensures.exact c.in_default.not-String in
    let all = entered-or-full (spot c.args.self.now) c.in_err-begin_seq.field-0.0.kind _ none c.in_err-begin_seq.ensures.err in
    let p = err_from_is_err_and c.from_residual-in_err-begin_seq.result c.from_residual-in_err-begin_seq.ensures.1 in
    rw (p.1, p.2) all

pub returns-clause-given : goal.returns-clause-given
returns-clause-given c = bytes-taken (λ v. v.items) c.bytes_inside.result (spot c.args.self.now) (spot c.begin_seq.new.self)
    (spot c.bytes_inside.new.self) c.in_ok-begin_seq.ensures.given c.bytes_inside.ensures.given c.bytes_inside.ensures.closed

pub returns-clause-err : goal.returns-clause-err
returns-clause-err c = memory-inside c.bytes_inside.result (spot c.args.self.now) (spot c.begin_seq.new.self)
    c.in_ok-begin_seq.ensures.given c.bytes_inside.ensures.err
