-- When a node passes a test (RFC 9535, section 2.3.5), in a query that is applied to a root.
use Rattle.std.specs.Prelude.{ℕ, ◌-◌, ◌^◌, List, [], ◌∷◌, length, min, Bool, true, false, not, ◌&&◌, ◌||◌}
use Rattle.std.specs.Prelude.{Option, Some, None, option_and_then}
use Rattle.std.specs.Option.{option_map_or, option_to_list}
use Rattle.std.specs.Str.{chars}
use Rattle.simd_json_parts.specs.Document.{Document, null, boolean, integer, decimal, string, array, object, elements, members}
use Rattle.simd_json_path.specs.Comparisons.{both, compares}
use Rattle.simd_json_path.specs.Nodes.{at_steps, chosen_by, nodes}
use Rattle.simd_json_query.specs.declared.filter.Comparable.{Comparable}
use Rattle.simd_json_query.specs.declared.filter.Comparable as comparable
use Rattle.simd_json_query.specs.declared.filter.Literal.{Literal}
use Rattle.simd_json_query.specs.declared.filter.Literal.TheVariants as literal
use Rattle.simd_json_query.specs.declared.filter.Matcher.{Matcher}
use Rattle.simd_json_query.specs.declared.filter.Matcher.TheVariants as matcher
use Rattle.simd_json_query.specs.declared.filter.Query.{Query}
use Rattle.simd_json_query.specs.declared.filter.SingularQuery.{SingularQuery}
use Rattle.simd_json_query.specs.declared.filter.SingularQuery.TheVariants as start
use Rattle.simd_json_query.specs.declared.filter.Test.{Test, Exists, Compare, Matches, Not', And', Or'}
use Rattle.simd_json_regexp.specs.Marks.{matches}
use Rattle.simd_json_regexp.specs.Patterns.{is_found, is_match}
use Rattle.simd_json_regexp.specs.Readings.{regexp_of}

-- ---- queries (section 2.3.5), from the node that is tested or from the root

abbrev pub selected_node : Document → SingularQuery → Document → Option Document
selected_node root (start.Relative steps) d = at_steps steps.now d
selected_node root (start.Absolute steps) d = at_steps steps.now root

abbrev pub queried : Document → Query → Document → List Document
queried root q d = nodes chosen_by q.segments.now (option_to_list (selected_node root q.start d))

-- whether there is one
abbrev pub any : List Document → Bool
any [] = false
any (d ∷ ds) = true

-- ---- what is compared (section 2.3.5.1): a value or nothing

abbrev pub literal_value : Literal → Document
literal_value literal.Null = null
literal_value (literal.Bool b) = boolean b
literal_value (literal.Number number) = decimal number.now
literal_value (literal.String t) = string t.now

-- `length` (section 2.4.4)
abbrev pub length_of : Document → Option Document
length_of (string t) = Some (integer false (length (chars t)))
length_of (array ds) = Some (integer false (length (elements ds)))
length_of (object ms) = Some (integer false (length (members ms)))
length_of _ = None

-- `count` (section 2.4.5): how many, but no more than the greatest `usize`
abbrev pub count_value : List Document → Document
count_value ds = integer false (min (length ds) (2 ^ 64 - 1))

-- `value` (section 2.4.8)
abbrev pub only : List Document → Option Document
only (d ∷ []) = Some d
only _ = None

abbrev pub operand : Document → Comparable → Document → Option Document
operand root (comparable.Literal l) d = Some (literal_value l)
operand root (comparable.Query q) d = selected_node root q d
operand root (comparable.Length' p c) d = option_and_then length_of (operand root c d)
operand root (comparable.Count q) d = Some (count_value (queried root q d))
operand root (comparable.Value q) d = only (queried root q d)

-- ---- `match` (section 2.4.6) and `search` (section 2.4.7): of strings alone, and where the pattern is one

abbrev pub text_of : Document → Option (List ℕ)
text_of (string t) = Some t
text_of _ = None

-- a literal that was read, or the value of another argument
abbrev pub matched : Document → Matcher → Option (List ℕ) → Document → Bool
matched root (matcher.Literal p) text d = option_map_or (λ t. matches (regexp_of p) (chars t)) text false
matched root (matcher.Match c) text d = both is_match (option_and_then text_of (operand root c d)) text
matched root (matcher.Search c) text d = both is_found (option_and_then text_of (operand root c d)) text

-- ---- tests (section 2.3.5.2)

abbrev pub holds : Document → Test → Document → Bool
holds root (Exists q) d = any (queried root q d)
holds root (Compare a c b) d = compares c (operand root a d) (operand root b d)
holds root (Matches c m) d = matched root m (option_and_then text_of (operand root c d)) d
holds root (Not' p t) d = not (holds root t d)
holds root (And' p t q u) d = holds root t d && holds root u d
holds root (Or' p t q u) d = holds root t d || holds root u d
