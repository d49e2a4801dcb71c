-- What a kept read has of its own.
use Rattle.std.specs.Prelude.{ℕ, ◌*◌, min}
use Rattle.std.specs.Vec.{vec_capacity}
use Rattle.simd_json_serde.specs.declared.reading.Scratch.{Scratch}

-- for how many nodes there is capacity; a document has at most as many as bytes
abbrev pub node_capacity : Scratch → ℕ
node_capacity k = vec_capacity k.nodes

-- for how many bytes of input: for as many nodes, and for half as many open containers, since each has two brackets
abbrev pub input_capacity : Scratch → ℕ
input_capacity k = min (node_capacity k) (2 * vec_capacity k.outer)
