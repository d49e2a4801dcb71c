use Rattle.std.proofs.Common.{◌∙◌, ap, sym}
use Rattle.simd_json_scalars.specs.StringContent.{is_plain}
use Rattle.simd_json_ondemand.proofs.key.WantedKey.of.Goals as goal

pub invariant_of-result : goal.invariant_of-result
invariant_of-result c = record {
  made = record {
    lanes = c.first_eight-first.ensures.lanes;
    size = c.first_eight-first.ensures.size;
    plain_key = λ t k l m. ap is_plain (sym (c.first_eight-first.ensures.lanes k l)) ∙ c.is_plain_up_to.ensures t k l m;
  };
}
