-- How many nodes are enough for a tape, by its number of positions. The public contract of the second stage rests on it.
use Rattle.std.specs.Prelude.{ℕ, ◌+◌, ◌-◌, ◌/◌, min}

-- Each node but the first comes right after a comma, a colon or the bracket that opens its container, and to that bracket belongs a
-- closing one, unless the container is still open. So nodes, counted twice, are no more than the positions, the open containers
-- and one. Where a node is written, its own position has opened no container yet, so fewer are open than there are positions.
unfoldable pub nodes_enough : ℕ → ℕ → ℕ
nodes_enough positions limit = (positions + min limit (positions - 1) + 1) / 2
