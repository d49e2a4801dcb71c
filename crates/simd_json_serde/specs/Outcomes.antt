-- What a typed read of bytes returns.
use Rattle.std.specs.Prelude.{◌≡◌, ◌⊎◌, ℕ, List, Result, Ok, Err}
use Rattle.simd_json_parts.specs.Document.{Document}
use Rattle.simd_json_parts.specs.Grammar.{Denotes}
use Rattle.simd_json_parts.specs.Limits.{WithinLimits}
use Rattle.simd_json_stages.specs.Capacities.{IsOutOfMemory}
use Rattle.simd_json.specs.Parsed.{IsRejected}
use Rattle.simd_json_serde.specs.Messages.{path_of}
use Rattle.simd_json_serde.specs.Paths.{way}
use Rattle.simd_json_serde.specs.declared.error.ReadError.{ReadError}
use Rattle.simd_json_serde.specs.declared.error.Mismatch.{Mismatch as MismatchData}
use Rattle.simd_json_serde.specs.declared.error.ReadError.TheVariants.{Parse, Mismatch}
use Rattle.simd_json_serde.specs.declared.error.MismatchKind.TheVariants.{OutOfMemory}

-- the bytes are a document within the limits
abbrev pub IsDocument : List ℕ → ℕ → Type 0
IsDocument b limit = (d : Document) × Denotes b d × WithinLimits b d limit

-- A read of b: a value and a mismatch come of documents alone; a parse error is the first one, or of memory.
abbrev pub IsTypedRead : {T : Type 0} → List ℕ → ℕ → Result T ReadError → Type 0
IsTypedRead b limit (Ok value) = IsDocument b limit
IsTypedRead b limit (Err (Mismatch m)) = IsDocument b limit
IsTypedRead b limit (Err (Parse e)) = IsRejected b limit e ⊎ IsOutOfMemory e

-- the path is the way to the node of d where the read failed
abbrev pub HasPath : Document → MismatchData → Type 0
HasPath d m = path_of m ≡ way d m.fault.depth m.fault.node

abbrev pub HasErrorPath : Document → ReadError → Type 0
HasErrorPath d (Mismatch m) = HasPath d m
HasErrorPath d (Parse e) = Unit {0}

-- the same of the document that the bytes are
abbrev pub HasPathIn : List ℕ → ReadError → Type 0
HasPathIn b (Mismatch m) = (d : Document) × Denotes b d × HasPath d m
HasPathIn b (Parse e) = Unit {0}

-- not an error of a parse
abbrev pub IsLate : {T : Type 0} → Result T ReadError → Type 0
IsLate (Ok value) = Unit {0}
IsLate (Err (Mismatch m)) = Unit {0}
IsLate (Err (Parse e)) = ⊥

-- a mismatch for memory
abbrev pub IsNoMemory : ReadError → Type 0
IsNoMemory (Mismatch m) = m.fault.kind ≡ OutOfMemory
IsNoMemory (Parse e) = ⊥

-- no allocation of the parse failed
abbrev pub HasParseMemory : {T : Type 0} → Result T ReadError → Type 0
HasParseMemory (Ok value) = Unit {0}
HasParseMemory (Err (Mismatch m)) = Unit {0}
HasParseMemory (Err (Parse e)) = IsOutOfMemory e → ⊥
