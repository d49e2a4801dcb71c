use Rattle.std.proofs.Common.{◌∙◌, ap, sym, arith}
use Rattle.std.specs.Prelude.{Err}
use Rattle.simd_json_stages.proofs.Machine.Bounds.{some-left}
use Rattle.simd_json_stages.proofs.Machine.StringPut.{string-before, bad-within}
use Rattle.simd_json_stages.proofs.stage2.scalar.push_string.Goals as goal

pub position_or_end-next-requires : goal.position_or_end-next-requires
position_or_end-next-requires g c t =
    let s = c.requires in
    some-left (s.on_route.closes t) s.read (λ is. omega (arith, s.opening, is)) (λ is. omega (arith, s.opening, is))

pub push_string-requires-clause-quoted : goal.push_string-requires-clause-quoted
push_string-requires-clause-quoted g c =
    let b = g.K.Original.bytes in
    record {
      b = b;
      reads = c.requires.input;
      string = string-before c.requires c.position_or_end-next.ensures c.requires.on_route.end;
    }

pub returns-in-Ok-clause-put : goal.returns-in-Ok-clause-put
returns-in-Ok-clause-put g c =
    let b = g.K.Original.bytes in
    c.in-Ok.ensures.put b c.requires.input (string-before c.requires c.position_or_end-next.ensures c.requires.on_route.end)

pub bad_escape-requires : goal.bad_escape-requires
bad_escape-requires g c =
    let b = g.K.Original.bytes in
    let whole = c.requires.on_route.end in
    let is = c.in-Err.ensures.put b c.requires.input (string-before c.requires c.position_or_end-next.ensures whole) in
    omega (arith, whole, bad-within c.requires c.in-Err.bad.offset c.in-Err.bad.letter is)

pub returns-in-Err-clause-rejected : goal.returns-in-Err-clause-rejected
returns-in-Err-clause-rejected g c =
    let b = g.K.Original.bytes in
    let whole = c.requires.on_route.end in
    c.in-Err.ensures.put b c.requires.input (string-before c.requires c.position_or_end-next.ensures whole) ∙ ap Err
    (sym c.bad_escape.ensures)
