use Rattle.std.proofs.Common.{◌∙◌, sym, refl, rules}
use Rattle.simd_json.proofs.Views.MapCompared.{first-is-among, may-compare-others, are_in-others}
use Rattle.simd_json.proofs.value.tape.cmp.map.is_in.Goals as goal

pub ask-requires : goal.ask-requires
ask-requires g c κs = ((refl, tt), c.loop-key.invariant.0 _ _ (search rules) (first-is-among _ _ _ _ c.in-Some.ensures))

pub loop-key-preserved : goal.loop-key-preserved
loop-key-preserved g c = (
  may-compare-others _ _ _ _ c.in-Some.ensures g.F.Fn c.args.same _ c.loop-key.invariant.0,
  λ says exact. are_in-others _ _ _ _ c.in-Some.ensures _ says c.in-Some-get.wanted.now (sym c.in-Some-get.ensures.value)
      (sym (exact _ _ _ c.ask.ensures) ∙ c.if-not-ask.false)
      ∙ c.loop-key.invariant.1 says exact,
)
