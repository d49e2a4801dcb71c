-- What a parse returns, and what it leaves.
use Rattle.std.specs.Prelude.{◌≡◌, ◌≢◌, ◌≤◌, ◌<◌, ◌⊎◌, ℕ, suc, List, [], length, take, Option, Some}
use Rattle.std.specs.Prelude.{None, IsSome, IsTrue, IfNone, IfSome, OnSome, MatchOption, Result, Ok, Err}
use Rattle.simd_json_parts.specs.Answer.{answer}
use Rattle.simd_json_parts.specs.Document.{Document}
use Rattle.simd_json_parts.specs.ErrorKinds.{is_unexpected_token}
use Rattle.simd_json_parts.specs.Faults.{whole_fault}
use Rattle.simd_json_parts.specs.FaultKinds.{IsOfInput, IsOfToken, IsBeginning}
use Rattle.simd_json_parts.specs.Grammar.{Denotes}
use Rattle.simd_json_parts.specs.InputFaults.{input_fault, padding_fault}
use Rattle.simd_json_parts.specs.Limits.{WithinLimits}
use Rattle.simd_json_parts.specs.Listing.{listing}
use Rattle.simd_json_parts.specs.Nodes.{Item}
use Rattle.simd_json_parts.specs.Positions.{positions}
use Rattle.simd_json_parts.specs.declared.error.Error.{Error}
use Rattle.simd_json_parts.specs.declared.error.ErrorType.TheVariants.{OutOfMemory}
use Rattle.simd_json_stages.specs.Capacities.{LacksMemory, positions_after}
use Rattle.simd_json.specs.Tapes.{Listed}

-- no allocation failed
abbrev pub HasMemory : Option Error → Type 0
HasMemory fault = fault ≢ Some (whole_fault OutOfMemory)

-- b is a document within the limits, and these are its nodes
pub record IsParsed (b : List ℕ) (limit : ℕ) (nodes : List Item) : Type 0 where
  pub document : Document
  pub denoted : Denotes b document
  pub within : WithinLimits b document limit
  pub answered : answer b limit ≡ Ok document
  pub listed : nodes ≡ listing document

-- b is no document within the limits, and the fault is the one that the definitions give: the whole input's, of
-- one of its kinds and without a character, or else a token's, of one of theirs and with its character. A fault
-- with a character is not reported late: the bytes before it go on to a document. Where it is a token that an array
-- or an object does not expect after an element, at a name, after a name or after a member, it is not early: with
-- that token's first byte they do not.
pub record IsRejected (b : List ℕ) (limit : ℕ) (e : Error) : Type 0 where
  pub answered : answer b limit ≡ Err e
  pub not_denoted : (d : Document) → Denotes b d → WithinLimits b d limit → ⊥
  pub kinds : ((input_fault b ≡ Some e) × IsOfInput e) ⊎ ((input_fault b ≡ None) × IsOfToken e)
  pub not_late : IsSome e.character → IsBeginning (take e.index b)
  pub not_early : IsTrue (is_unexpected_token e.error) → IsBeginning (take (suc e.index) b) → ⊥

-- A parse of b with so many containers open at most, where there was capacity for `capacity` bytes: the fault if
-- there is one, and the nodes and the positions that are listed afterwards. Nothing else that buffers and tape held
-- before is named.
pub record IsParse (b : List ℕ) (limit capacity : ℕ) (fault : Option Error) (nodes : List Item) (listed : List ℕ) : Type 0 where
  pub parsed : IfNone fault (IsParsed b limit nodes)
  pub rejected : IfSome fault (λ e. IsRejected b limit e ⊎ (LacksMemory b e × (capacity < length b)))
  pub empty : OnSome fault (nodes ≡ [])
  pub found : listed ≡ positions_after b fault
  pub few : (length nodes ≤ length (positions b)) × (length (positions b) ≤ length b)

-- the same where it is not said what is listed
abbrev pub IsParseResult : List ℕ → ℕ → ℕ → Option Error → List Item → Type 0
IsParseResult b limit capacity fault nodes = (listed : List ℕ) × IsParse b limit capacity fault nodes listed

-- of the first `len` bytes of s; where too few follow them, only this is reported
abbrev pub IsPaddedParse : List ℕ → ℕ → ℕ → ℕ → Option Error → List Item → List ℕ → Type 0
IsPaddedParse s len limit capacity fault nodes listed =
    MatchOption (padding_fault s len)
    (IsParse (take len s) limit capacity fault nodes listed)
    (λ e. (fault ≡ Some e) × (nodes ≡ []) × (listed ≡ []))

-- the nodes of the document that the definitions give, if they do
abbrev pub answered_nodes : Result Document Error → List Item
answered_nodes (Ok d) = listing d
answered_nodes (Err e) = []

-- the nodes of the tape that is returned, if one is
abbrev pub nodes_of : Result Listed Error → List Item
nodes_of (Ok tape) = tape.nodes
nodes_of (Err e) = []

-- the nodes that are written to a sink, or none after a fault
abbrev pub nodes_written : Result (Unit {0}) Error → List Item → List Item
nodes_written (Ok done) nodes = nodes
nodes_written (Err e) nodes = []
