-- What a contract sees of buffers.
use Rattle.std.specs.Prelude.{◌≡◌, ◌≤◌, ℕ, List, length, min, max, nat_lt, if◌then◌else◌, None}
use Rattle.simd_json_stages.specs.Capacities as lists
use Rattle.simd_json_parts.specs.InputFaults.{input_fault}
use Rattle.simd_json_parts.specs.Positions.{positions}
use Rattle.simd_json_stages.specs.EscapeBlocks.{backslash_blocks, blocks_in}

-- what is listed, with its capacity; the depth limit; and for how many open containers there is capacity
pub record Capacities : Type 0 where
  pub index : lists.IndexCapacities
  pub limit : ℕ
  pub stack_capacity : ℕ

-- for an input of how many bytes there is capacity; a stack that reaches the limit bounds nothing
abbrev pub capacity : Capacities → ℕ
capacity r =
    if nat_lt r.stack_capacity r.limit then min (lists.capacity r.index) r.stack_capacity else lists.capacity r.index

-- no list is shorter
abbrev pub KeepsCapacities : Capacities → Capacities → Type 0
KeepsCapacities old new = lists.IsNoShorter old.index new.index × (old.stack_capacity ≤ new.stack_capacity)

-- the same is listed, within the same limit
abbrev pub ListsSame : Capacities → Capacities → Type 0
ListsSame old new =
    (new.index.listed ≡ old.index.listed) × (new.index.escapes ≡ old.index.escapes) × (new.limit ≡ old.limit)

-- what the first stage finds in b is listed, and the stack suffices, or what is there for a few containers
pub record HoldsScan (b : List ℕ) (r : Capacities) : Type 0 where
  pub listed : r.index.listed ≡ positions b
  pub escapes : r.index.escapes ≡ backslash_blocks b
  pub whole : input_fault b ≡ None
  pub stack : min (length (positions b)) r.limit ≤ max r.stack_capacity 64

-- the same with capacity for so many bytes
abbrev pub with_room : ℕ → Capacities → Capacities
with_room len r =
    record r {
      index = record r.index { indexes = max r.index.indexes len; blocks = max r.index.blocks (blocks_in len) };
      stack_capacity = max r.stack_capacity (min len r.limit);
    }

-- nothing is listed, and there is capacity for the positions and blocks of so many bytes, but none for open containers
abbrev pub new_buffers : ℕ → ℕ → Capacities
new_buffers len limit = record { index = lists.new_index len; limit = limit; stack_capacity = 0 }
