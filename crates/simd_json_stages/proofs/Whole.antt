-- What an input without a fault of the whole is: its answer is the descent's, and its size, its encoding and the number of its
-- positions are right.
use Rattle.std.proofs.Common.{◌≡◌, ap, ◌≤◌, ℕ, List, length, arith, Some, None, Err, IsUtf8}
use Rattle.std.proofs.lemmas.List.FromFn.{length-range_with_len}
use Rattle.std.proofs.lemmas.List.Sums.{length-filter, count_by-le-length}
use Rattle.simd_json_parts.proofs.Positions.CleanInputs.{IsClean-input}
use Rattle.simd_json_parts.specs.Answer.{answer, fault_or}
use Rattle.simd_json_parts.specs.Bytes.{indices}
use Rattle.simd_json_parts.specs.Descent.{descent}
use Rattle.simd_json_parts.specs.InputFaults.{input_fault}
use Rattle.simd_json_parts.specs.Limits.{max_length}
use Rattle.simd_json_parts.specs.Positions.{positions, is_position}
use Rattle.simd_json_parts.specs.declared.error.Error.{Error}
use Rattle.simd_json_stages.specs.NodesEnough.{nodes_enough}

-- ---- the answer

pub fault-answered : (b : List ℕ) (limit : ℕ) (e : Error) → input_fault b ≡ Some e → answer b limit ≡ Err e
unfolding answer
fault-answered b limit e is = ap (λ o. fault_or o (descent b limit)) is

pub descent-answered : (b : List ℕ) (limit : ℕ) → input_fault b ≡ None → answer b limit ≡ descent b limit
unfolding answer
descent-answered b limit is = ap (λ o. fault_or o (descent b limit)) is

-- ---- size and encoding

-- where nothing is wrong with the whole, they are right
pub right-input : (b : List ℕ) → input_fault b ≡ None → (length b ≤ max_length) × IsUtf8 b
right-input b none = let clean = IsClean-input b none in (clean.size, clean.utf8)

pub few-positions : (b : List ℕ) → length (positions b) ≤ length b
unfolding positions
few-positions b = omega (
  arith,
  length-filter (is_position b) (indices b),
  count_by-le-length (is_position b) (indices b),
  length-range_with_len 0 (length b),
)

-- so a sink with room for as many nodes has enough
pub nodes-within : (b : List ℕ) (count limit : ℕ) → input_fault b ≡ None → count ≡ length (positions b)
    → nodes_enough count limit ≤ max_length
unfolding nodes_enough
nodes-within b count limit none is = omega (arith, is, few-positions b, (right-input b none).0)
