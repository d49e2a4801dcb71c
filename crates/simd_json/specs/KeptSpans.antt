-- Nodes of a form of the caller's own, which are kept, and whose texts lie in the input.
use Rattle.std.specs.Prelude.{◌≡◌, ℕ, List, map}
use Rattle.std.specs.List.{All}
use Rattle.simd_json_stages.specs.Placed.{LiesIn, Note, Placed, noting}

-- the nodes have this form, and their texts lie in the bytes
abbrev pub AreFormed : {N : Type 0} → (Placed → N) → List Placed → List ℕ → List N → Type 0
AreFormed form ps bytes nodes = (nodes ≡ map form ps) × All (LiesIn bytes) ps

-- ---- while they are kept, one after another

-- the list that is lent, by the name of the reference, and its capacity before
pub record Loan : Type 0 where
  pub nodes : ℕ
  pub node_capacity : ℕ

-- which is kept so
abbrev pub IsNoted : {N : Type 0} → (Placed → N) → Note → Note → N → Type 0
IsNoted form old new node = (p : Placed) × (new ≡ noting old p) × (node ≡ form p)
