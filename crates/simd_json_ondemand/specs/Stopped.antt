-- What a walk gives before an error is asked for. It serves proofs: only the crate's private clauses cite it.
use Rattle.std.specs.Prelude.{drop, Result, Ok, Err}
use Rattle.simd_json_ondemand.specs.Docs.{text, places}
use Rattle.simd_json_ondemand.specs.Unexpected.{unexpected}
use Rattle.simd_json_ondemand.specs.declared.unexpected.Unexpected.{Unexpected}
use Rattle.simd_json_ondemand.specs.declared.walk.StoppedAt.{StoppedAt}

-- the error that names the place where a walk stopped
abbrev pub error_at : StoppedAt → Unexpected
error_at s = unexpected (text s.document) s.expected (drop s.at (places s.document))

-- what was found, as it is seen, or that error
abbrev pub told : {A B : Type 0} → (A → B) → Result A StoppedAt → Result B Unexpected
told f (Ok x) = Ok (f x)
told f (Err s) = Err (error_at s)
