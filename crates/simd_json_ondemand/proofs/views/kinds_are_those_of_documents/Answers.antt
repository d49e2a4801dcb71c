use Rattle.simd_json_ondemand.specs.Docs.{text, places, index_of, form}
use Rattle.simd_json_ondemand.proofs.Agreement.{begins-at, kind-is, array-is, object-is}
use Rattle.simd_json_ondemand.proofs.views.kinds_are_those_of_documents.Goals as goal

pub returns-clause-kind : goal.returns-clause-kind
returns-clause-kind c v d h = kind-is (form v) d (begins-at (text v.document) (places v.document) v.at v.inside d h)

pub returns-clause-array : goal.returns-clause-array
returns-clause-array c v d h =
    array-is (text v.document) (index_of v) d (begins-at (text v.document) (places v.document) v.at v.inside d h)

pub returns-clause-object : goal.returns-clause-object
returns-clause-object c v d h =
    object-is (text v.document) (index_of v) d (begins-at (text v.document) (places v.document) v.at v.inside d h)
