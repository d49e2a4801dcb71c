use Rattle.std.proofs.Common.{◌∙◌, arith, inl, map, refl}
use Rattle.simd_json_stages.specs.Placed.{Placed}
use Rattle.simd_json_c.proofs.Whole.{kept-whole, some-byte}
use Rattle.simd_json_c.proofs.lists.Lists.parse.Goals as goal

pub address-requires : goal.address-requires
address-requires c = omega (arith, some-byte _ _ _ _ c.in_ok-keep_spans.ensures.read.1, c.keep_spans.auto.s)

pub returns-clause-lent : goal.returns-clause-lent
returns-clause-lent c =
    let nodes = c.keep_spans.new.nodes in
    let r = c.in_ok-keep_spans.ensures.read in
    let whole = kept-whole _ c.keep_spans.new.s _ _ r.0 nodes.items r.1 c.keep_spans.auto.s (r.2.0 c.if-not-branch.false) in (
      map (λ (p : Placed). p.item) r.0,
      r.1,
      inl (refl, whole.0, rw c.as_ptr.ensures (rw c.address.ensures (rw (c.len.ensures ∙ nodes.ok.0 ∙ whole.1) refl))),
    )
