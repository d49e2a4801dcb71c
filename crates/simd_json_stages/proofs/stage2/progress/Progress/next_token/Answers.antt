use Rattle.std.proofs.Common.{◌<◌, ◌+◌, ap, length, get_or, arith}
use Rattle.simd_json_stages.proofs.Machine.Bounds.{some-left, inside, is-next}
use Rattle.simd_json_stages.proofs.stage2.progress.Progress.next_token.Goals as goal

pub is_last-requires-clause-left : goal.is_last-requires-clause-left
is_last-requires-clause-left g c t x y =
    some-left (c.requires.on_route.closes t) c.requires.read x y

pub byte-requires : goal.byte-requires
byte-requires g c =
    let b = g.K.Original.bytes in
    let p = c.args.self in
    let ps = c.args.route.indexes.now in
    let more : p.read < length ps = c.is_last.ensures.left c.if-is_last.false in
    record {
      b = b;
      reads = c.requires.input more;
      within = omega (arith, inside b ps c.requires.on_route.positions p.read more);
    }

pub returns-clause-next : goal.returns-clause-next
returns-clause-next g c =
    let b = g.K.Original.bytes in
    let p = c.args.self in
    let ps = c.args.route.indexes.now in
    let more : p.read < length ps = c.is_last.ensures.left c.if-is_last.false in
    is-next c.requires.read more
    (ap (λ x. record p { read = p.read + 1; at = get_or ps p.read 0; byte = x }) (c.byte.ensures b (c.requires.input more)))
