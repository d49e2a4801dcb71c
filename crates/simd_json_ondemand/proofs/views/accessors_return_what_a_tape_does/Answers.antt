use Rattle.simd_json_parts.specs.Accessors.{as_t}
use Rattle.simd_json_ondemand.specs.Docs.{text, places, form}
use Rattle.simd_json_ondemand.proofs.Agreement.{begins-at, standing-is}
use Rattle.simd_json_ondemand.proofs.views.accessors_return_what_a_tape_does.Goals as goal

pub returns : goal.returns
returns g c t no_array no_object v d h =
    standing-is (as_t t) no_array no_object (form v) d (begins-at (text v.document) (places v.document) v.at v.inside d h)
