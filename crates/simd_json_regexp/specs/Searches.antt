-- Searching (RFC 9535, section 2.4.7).
use Rattle.std.specs.Prelude.{◌≡◌, ℕ, List, ◌++◌}
use Rattle.simd_json_regexp.specs.Items.{allows}
use Rattle.simd_json_regexp.specs.Regexps.{Regexp, one, ◌then◌, many, Matches}
use Rattle.simd_json_regexp.specs.declared.item.Item.TheVariants as item

-- some characters in a row match
abbrev pub Finds : Regexp → List ℕ → Type 0
Finds p cs = (before : List ℕ) × (middle : List ℕ) × (behind : List ℕ) × (cs ≡ before ++ (middle ++ behind)) × Matches p middle

abbrev pub anything : Regexp
anything = many (one (allows item.Any))

-- the whole list matches this where some characters in a row match
abbrev pub within : Regexp → Regexp
within p = anything then (p then anything)
