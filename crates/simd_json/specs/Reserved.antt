-- For inputs of how many bytes buffers and a tape have capacity together.
use Rattle.std.specs.Prelude.{◌≡◌, ◌≤◌, ℕ, ◌*◌, ◌-◌, List, length, min, max, Option}
use Rattle.simd_json_parts.specs.Nodes.{Item}
use Rattle.simd_json_parts.specs.declared.error.Error.{Error}
use Rattle.simd_json.specs.Capacities.{Capacities, KeepsCapacities, capacity}
use Rattle.simd_json.specs.Parsed.{HasMemory, IsParse}
use Rattle.simd_json.specs.Tapes.{Listed}

-- the greatest number of bytes for which `nodes_enough` asks for no more than so many nodes, with so many containers open
abbrev pub bytes_listed : ℕ → ℕ → ℕ
bytes_listed limit nodes = max nodes (2 * nodes - limit)

abbrev pub parse_capacity : Capacities → Listed → ℕ
parse_capacity buffers tape = min (bytes_listed buffers.limit tape.capacity) (capacity buffers)

-- no parse of so many bytes at most returns `OutOfMemory`, now or once others have been made in between
abbrev pub IsReserved : ℕ → Capacities → Listed → Type 0
IsReserved len buffers tape =
    (later : Capacities) (next : Listed) → later.limit ≡ buffers.limit → KeepsCapacities buffers later → tape.capacity ≤ next.capacity
    → (b : List ℕ) (fault : Option Error) (nodes : List Item) (listed : List ℕ)
    → length b ≤ len → IsParse b later.limit (parse_capacity later next) fault nodes listed → HasMemory fault
