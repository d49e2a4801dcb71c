-- What a pattern says that was read.
use Rattle.std.specs.Prelude.{◌≡◌, List, Result, Ok, Err}
use Rattle.simd_json_regexp.specs.Nodes.{regexp}
use Rattle.simd_json_regexp.specs.Patterns.{Writing}
use Rattle.simd_json_regexp.specs.Regexps.{Regexp, never}
use Rattle.simd_json_regexp.specs.declared.node.Node.{Node}
use Rattle.simd_json_regexp.specs.declared.pattern.Pattern.{Pattern}
use Rattle.simd_json_regexp.specs.declared.pattern.PatternError.{PatternError}
use Rattle.simd_json_regexp.specs.declared.pattern.PatternError.TheVariants.{NoPattern, TooLarge}

abbrev pub regexp_of : Pattern → Regexp
regexp_of p = regexp p.nodes.now

abbrev pub nodes_of : Pattern → List Node
nodes_of p = p.nodes.now

abbrev pub pattern_read : Result Pattern PatternError → Result Regexp PatternError
pattern_read (Ok p) = Ok (regexp_of p)
pattern_read (Err e) = Err e

-- without the room that is left
abbrev pub regexp_read : Writing → Result Regexp PatternError
regexp_read (Ok w) = Ok w.0
regexp_read (Err e) = Err e

-- the pattern of a literal (RFC 9535, section 2.4.6): a text that is none matches nothing; beyond the limits there is none
abbrev pub IsLiteral : Pattern → Writing → Type 0
IsLiteral p (Ok w) = regexp_of p ≡ w.0
IsLiteral p (Err NoPattern) = regexp_of p ≡ never
IsLiteral p (Err TooLarge) = ⊥
