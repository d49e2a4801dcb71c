-- What a reader of one value returns that is put as the next node.
use Rattle.std.specs.Prelude.{◌≡◌, ◌≢◌, ◌<◌, ◌⊎◌, ℕ, List, [], ◌∷◌, ◌++◌, length, Bool, true, false, ◌&&◌, nat_eq, codes, Ok, Err}
use Rattle.std.specs.List.{starts_with}
use Rattle.simd_json_parts.specs.Bytes.{byte_at, is_terminator}
use Rattle.simd_json_parts.specs.Descent.{is_container}
use Rattle.simd_json_parts.specs.Document.{Document}
use Rattle.simd_json_parts.specs.Faults.{fault_with}
use Rattle.simd_json_parts.specs.Listing.{listing}
use Rattle.simd_json_parts.specs.Nodes.{Item, string_item}
use Rattle.simd_json_parts.specs.NumberAt.{number_at}
use Rattle.simd_json_parts.specs.StringAt.{string_at}
use Rattle.simd_json_parts.specs.Tokens.{Form, begin_array, begin_object, string_token, scalar, form_at}
use Rattle.simd_json_stages.specs.Rejections.{error_type}
use Rattle.simd_json_stages.specs.declared.stage2.fault.Fault.{Fault}
use Rattle.simd_json_stages.specs.declared.stage2.fault.FaultKind.TheVariants as kinds
use Rattle.simd_json_stages.specs.declared.stage2.progress.Progress.{Progress}

-- what no call changes of a sink: its room, and what it borrows
abbrev pub SameSink : {Sink Lender : Type 0} → (Sink → ℕ) → (Sink → Lender) → Sink → Sink → Type 0
SameSink room lender old new = (room new ≡ room old) × (lender new ≡ lender old)

-- at the first byte of a token, with room for a node
pub record AtScalar (b : List ℕ) (reads : ℕ → Type 0) (capacity written : ℕ) (p : Progress) : Type 0 where
  pub input : reads p.at
  pub within : p.at < length b
  pub first : p.byte ≡ byte_at b p.at
  pub room : written < capacity

-- which is no string, array or object
pub record AtOther (b : List ℕ) (reads : ℕ → Type 0) (capacity written : ℕ) (p : Progress) : Type 0 where
  pub at : AtScalar b reads capacity written p
  pub no_string : p.byte ≢ 34
  pub no_array : p.byte ≢ 91
  pub no_object : p.byte ≢ 123

-- which is a number
pub record AtNumber (b : List ℕ) (reads : ℕ → Type 0) (capacity written : ℕ) (p : Progress) : Type 0 where
  pub at : AtScalar b reads capacity written p
  pub form : form_at b p.at ≡ scalar (number_at b p.at)

-- the string at index i is the next node, and what is after it can be read
pub record IsStringPut (b : List ℕ) (i : ℕ) (nodes nodes' : List Item) (reads : ℕ → Type 0) : Type 0 where
  pub string : List ℕ
  pub end : ℕ
  pub node : Item
  pub read : string_at b i ≡ Ok (string, end)
  pub item : node ≡ string_item string
  pub put : nodes' ≡ nodes ++ node ∷ []
  pub input : reads end

-- the scalar at index i is the next node, and what is after it can be read, or it too
pub record IsScalarPut (b : List ℕ) (i : ℕ) (nodes nodes' : List Item) (reads : ℕ → Type 0) : Type 0 where
  pub document : Document
  pub end : ℕ
  pub node : Item
  pub read : form_at b i ≡ scalar (Ok (document, end))
  pub listed : listing document ≡ node ∷ []
  pub single : is_container document ≡ false
  pub put : nodes' ≡ nodes ++ node ∷ []
  pub input : reads i ⊎ reads end

-- the fault is the string's
abbrev pub IsBadString : List ℕ → ℕ → Fault → Type 0
IsBadString b i f = string_at b i ≡ Err (fault_with (error_type f.kind) f.index f.byte)

-- the letters of a boolean and a terminator are at the front
abbrev pub is_boolean : Bool → List ℕ → Bool
is_boolean true bs = starts_with nat_eq bs (codes "true") && is_terminator (byte_at bs 4)
is_boolean false bs = starts_with nat_eq bs (codes "false") && is_terminator (byte_at bs 5)

abbrev pub begins_value : Form → Bool
begins_value begin_array = true
begins_value begin_object = true
begins_value (string_token read) = true
begins_value (scalar read) = true
begins_value _ = false

-- the fault is the scalar's, or of a token that begins no value
abbrev pub IsNoScalar : List ℕ → ℕ → Fault → Type 0
IsNoScalar b i f =
    (form_at b i ≡ scalar (Err (fault_with (error_type f.kind) f.index f.byte)))
    ⊎ ((begins_value (form_at b i) ≡ false) × (f ≡ record { kind = kinds.InternalError; index = i; byte = byte_at b i }))
