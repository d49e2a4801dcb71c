use Rattle.std.proofs.Common.{◌≡◌, ◌∙◌, ◌∷◌, ◌++◌, ◌+◌, [], ap, sym, arith, length, Some, None, get_or, if◌then◌else◌, length-append}
use Rattle.simd_json_serde.specs.Nodes.{items_of}
use Rattle.simd_json_serde.specs.Places.{spot}
use Rattle.simd_json_serde.proofs.Octets.{next-place, next-bytes, reads-byte, byte-fits, any-error}
use Rattle.simd_json_serde.proofs.node_reader.NodeReader.bytes_inside.Goals as goal

pub returns-in_err-u64-clause-err : goal.returns-in_err-u64-clause-err
returns-in_err-u64-clause-err c = any-error c.from_residual.result _ (λ e bytes ends are.
    let here = c.bytes.invariant.place in
    let end = ap (λ p. p.end) here in
    let read = reads-byte None (spot c.bytes.self) (items_of c.args.self.now.nodes) c.args.self.now.at bytes (length c.bytes.bytes.items)
    (ap (λ p. p.nodes) here) (ap (λ p. p.at) here) c.bytes-test.true (end ∙ sym ends) are
    (c.in_err-u64.ensures.exact (ap (λ p. p.at_key) here ∙ c.requires.value)) in
    cc)

pub returns-in_default-clause-err : goal.returns-in_default-clause-err
returns-in_default-clause-err c bytes ends are =
    let here = c.bytes.invariant.place in
    let at = ap (λ p. p.at) here in
    let end = ap (λ p. p.end) here in
    let read = reads-byte (Some c.in_ok-u64.field-0) (spot c.bytes.self) (items_of c.args.self.now.nodes) c.args.self.now.at bytes
    (length c.bytes.bytes.items) (ap (λ p. p.nodes) here) at c.bytes-test.true (end ∙ sym ends) are
    (c.in_ok-u64.ensures.exact (ap (λ p. p.at_key) here ∙ c.requires.value)) in
    let is : c.in_ok-u64.field-0 ≡ get_or bytes (length c.bytes.bytes.items) 0 = cc in
    let fits = byte-fits (items_of c.args.self.now.nodes) c.args.self.now.at bytes (length c.bytes.bytes.items)
    (omega (arith, at, end, ends, c.bytes-test.true)) are in
    absurd (c.in_default.ensures (omega (arith, is, fits)))

pub bytes-preserved : goal.bytes-preserved
bytes-preserved c =
    let here = c.bytes.invariant.place in
    let at = ap (λ p. p.at) here in
    let end = ap (λ p. p.end) here in
    let value = ap (λ p. p.at_key) here ∙ c.requires.value in
    let taken = c.in_ok-u64.ensures.given in
    let items : c.push.new.self.items ≡ c.bytes.bytes.items ++ c.in-Ok.byte ∷ [] =
    c.push.ensures.items
    ∙ ap (λ b. if b then (c.bytes.bytes.items ++ c.in-Ok.byte ∷ []) else c.bytes.bytes.items) c.if-is_err.ensures.negation in
    let more : length c.push.new.self.items ≡ length c.bytes.bytes.items + 1 =
    ap length items ∙ length-append c.bytes.bytes.items (c.in-Ok.byte ∷ []) in
    let there = next-place (spot c.args.self.now) (spot c.bytes.self) (spot c.u64.new.self) (length c.bytes.bytes.items)
    (length c.push.new.self.items) here c.requires.value more taken.1.2 in
    let new_at = ap (λ p. p.at) there in
    let new_end = ap (λ p. p.end) there in
    record {
      place = there;
      within = omega (arith, new_at, new_end, at, end, more, c.bytes-test.true);
      bytes = next-bytes (items_of c.args.self.now.nodes) c.args.self.now.at c.bytes.bytes.items c.push.new.self.items (spot c.bytes.self)
          (spot c.u64.new.self) c.in-Ok.byte c.in_ok-u64.field-0 c.bytes.invariant.bytes (ap (λ p. p.nodes) here) at value taken
          c.in-Ok.ensures.0 c.in-Ok.ensures.1 items;
    }
