use Rattle.std.proofs.Common.{◌∙◌, sym, refl, arith}
use Rattle.simd_json_ondemand.specs.Prepared.{first_key}
use Rattle.simd_json_ondemand.proofs.Several.{other-key}
use Rattle.simd_json_ondemand.proofs.prepared.PreparedPointer.is_at.Goals as goal

pub returns-then-byte-ne92 : goal.returns-then-byte-ne92
returns-then-byte-ne92 g c = λ keyed.
    let p = c.args.self.now in
    let lane = (p.keyed keyed).wanted.lanes 0 (omega arith) in
    sym (other-key c.args.key _ refl c.requires.key (first_key p) c.args.byte c.requires.byte c.if-byte-ne92.true
    (λ e. c.if-self-byte.true (lane ∙ e)))
