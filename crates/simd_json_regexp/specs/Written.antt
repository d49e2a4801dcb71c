-- Nodes that are written, and the parts among them.
use Rattle.std.specs.Prelude.{◌≡◌, ◌≤◌, ◌-◌, ℕ, List, drop, take, length, Result, Ok, Err}
use Rattle.std.specs.Str.{chars}
use denote.Ref.{Bor}
use Rattle.simd_json_regexp.specs.Regexps.{Regexp}
use Rattle.simd_json_regexp.specs.Nodes.{AreMeasured, part, regexps}
use Rattle.simd_json_regexp.specs.declared.node.Node.{Node}
use Rattle.simd_json_regexp.specs.declared.pattern.PatternError.{PatternError}
use Rattle.simd_json_regexp.specs.declared.sink.Sink.{Sink}

abbrev pub written : Sink → List Node
written s = drop s.next s.nodes.now

-- the part with so many nodes from its first one on
abbrev pub part_of : List Node → ℕ → Regexp
part_of ns i = part (regexps ns) (length ns - i)

-- nodes are added, and each part stays
pub record Grows (old new : List Node) : Type 0 where
  pub measured : AreMeasured new
  pub longer : length old ≤ length new
  pub kept : (i : ℕ) → i ≤ length old → part_of new i ≡ part_of old i

-- a part that was written, and for how many nodes there is room
abbrev pub part_read : Sink → Result ℕ PatternError → Result (Regexp × ℕ) PatternError
part_read s (Ok i) = Ok (part_of (written s) i, s.next)
part_read s (Err e) = Err e

-- the same, and what is left of a text
abbrev pub text_read : Sink → Result (ℕ × Bor (List ℕ)) PatternError → Result (Regexp × ℕ × List ℕ) PatternError
text_read s (Ok r) = Ok (part_of (written s) r.0, s.next, chars r.1.now)
text_read s (Err e) = Err e

-- the same of nodes that were written last
abbrev pub items_read : Sink → Result (ℕ × Bor (List ℕ)) PatternError → Result (List Node × ℕ × List ℕ) PatternError
items_read s (Ok r) = Ok (take r.0 (written s), s.next, chars r.1.now)
items_read s (Err e) = Err e
