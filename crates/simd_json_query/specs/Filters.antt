-- The grammar of a filter's test (RFC 9535, section 2.3.5.1): which text is which logical expression.
use Rattle.std.specs.Prelude.{ℕ, zero, suc, List, ◌++◌, ◌≡◌, ◌≤◌, Bool, true, false, codes, length}
use Rattle.std.specs.Str.{chars}
use Rattle.simd_json_parts.specs.Bytes.{comma}
use Rattle.simd_json_parts.specs.Numbers.{number_literal}
use Rattle.simd_json_parts.specs.Patterns as literals
use Rattle.simd_json_query.specs.Choices.{ChoiceText}
use Rattle.simd_json_query.specs.Segments.{Segments, SegmentText}
use Rattle.simd_json_query.specs.Steps.{Blanks, StringText, Steps, dollar}
use Rattle.simd_json_query.specs.Spans.{◌then◌, ◌or◌, Many, Mark, Nothing}
use Rattle.simd_json_query.specs.declared.filter.Comparable.{Comparable, Length'}
use Rattle.simd_json_query.specs.declared.filter.Comparable as comparable
use Rattle.simd_json_query.specs.declared.filter.Comparison.{Comparison}
use Rattle.simd_json_query.specs.declared.filter.Comparison.TheVariants as comparison
use Rattle.simd_json_query.specs.declared.filter.Literal.{Literal}
use Rattle.simd_json_query.specs.declared.filter.Literal.TheVariants as literal
use Rattle.simd_json_query.specs.declared.filter.Matcher.{Matcher}
use Rattle.simd_json_query.specs.declared.filter.Matcher.TheVariants as matcher
use Rattle.simd_json_query.specs.declared.filter.Query.{Query}
use Rattle.simd_json_query.specs.declared.filter.SingularQuery.{SingularQuery}
use Rattle.simd_json_query.specs.declared.filter.SingularQuery.TheVariants as query
use Rattle.simd_json_query.specs.declared.query.Choice.{Choice}
use Rattle.simd_json_regexp.specs.Patterns.{max_nodes, pattern_of, pattern_within}
use Rattle.simd_json_regexp.specs.Readings.{IsLiteral}
use Rattle.simd_json_regexp.specs.declared.pattern.Pattern.{Pattern}
use Rattle.simd_json_query.specs.declared.query.Segment.{Segment}
use Rattle.simd_json_query.specs.declared.filter.Test.{Test, Exists, Compare, Matches, Not', And', Or'}

-- ---- characters

abbrev pub exclamation_mark : ℕ
exclamation_mark = 33

abbrev pub left_parenthesis : ℕ
left_parenthesis = 40

abbrev pub right_parenthesis : ℕ
right_parenthesis = 41

abbrev pub question_mark : ℕ
question_mark = 63

-- these ASCII characters
abbrev pub Word : List ℕ → List ℕ → List ℕ → Type 0
Word cs text rest = text ≡ cs ++ rest

-- ---- literals

abbrev pub NumberText : List ℕ → List ℕ → List ℕ → Type 0
NumberText number text rest = (text ≡ number ++ rest) × literals.Matches number_literal number

abbrev pub LiteralText : Literal → List ℕ → List ℕ → Type 0
LiteralText literal.Null = Word (codes "null")
LiteralText (literal.Bool true) = Word (codes "true")
LiteralText (literal.Bool false) = Word (codes "false")
LiteralText (literal.Number number) = NumberText number.now
LiteralText (literal.String string) = StringText string.now

-- ---- queries that select at most one node

abbrev pub at_sign : ℕ
at_sign = 64

abbrev pub SingularText : SingularQuery → List ℕ → List ℕ → Type 0
SingularText (query.Relative steps) = Mark at_sign then Steps steps.now
SingularText (query.Absolute steps) = Mark dollar then Steps steps.now

-- ---- queries without filters, of so many segments

abbrev pub max_segments : ℕ
max_segments = 100

abbrev pub PlainSegment : Bool → List Choice → List ℕ → List ℕ → Type 0
PlainSegment = SegmentText ChoiceText (λ c. c)

abbrev pub PlainSegments : List (Segment Choice) → List ℕ → List ℕ → Type 0
PlainSegments = Segments PlainSegment

abbrev pub QueryText : Query → List ℕ → List ℕ → Type 0
QueryText q text rest =
    (length q.segments.now ≤ max_segments) × (SingularText q.start then PlainSegments q.segments.now) text rest

-- ---- functions (section 2.4) of one argument

abbrev pub Call : List ℕ → (List ℕ → List ℕ → Type 0) → List ℕ → List ℕ → Type 0
Call begin Argument = Word begin then Blanks then Argument then Blanks then Mark right_parenthesis

-- ---- comparisons

abbrev pub ComparableText : Comparable → List ℕ → List ℕ → Type 0
ComparableText (comparable.Literal l) = LiteralText l
ComparableText (comparable.Query q) = SingularText q
ComparableText (Length' p c) = Call (codes "length(") (ComparableText c)
ComparableText (comparable.Count q) = Call (codes "count(") (QueryText q)
ComparableText (comparable.Value q) = Call (codes "value(") (QueryText q)

abbrev pub OperatorText : Comparison → List ℕ → List ℕ → Type 0
OperatorText comparison.Equal = Word (codes "==")
OperatorText comparison.NotEqual = Word (codes "!=")
OperatorText comparison.Less = Word (codes "<")
OperatorText comparison.LessOrEqual = Word (codes "<=")
OperatorText comparison.Greater = Word (codes ">")
OperatorText comparison.GreaterOrEqual = Word (codes ">=")

-- ---- `match` (section 2.4.6) and `search` (section 2.4.7)

abbrev pub IsPatternOf : Bool → Pattern → List ℕ → Type 0
IsPatternOf false p string = IsLiteral p (pattern_of max_nodes (chars string))
IsPatternOf true p string = IsLiteral p (pattern_within max_nodes (chars string))

abbrev pub LiteralPattern : Bool → Pattern → List ℕ → List ℕ → Type 0
LiteralPattern is_search p text rest = (string : List ℕ) × StringText string text rest × IsPatternOf is_search p string

abbrev pub MatcherText : Bool → Matcher → List ℕ → List ℕ → Type 0
MatcherText is_search (matcher.Literal p) = LiteralPattern is_search p
MatcherText false (matcher.Match c) = ComparableText c
MatcherText true (matcher.Search c) = ComparableText c
MatcherText _ _ = Nothing

-- the arguments and the `)`
abbrev pub Arguments : Bool → Comparable → Matcher → List ℕ → List ℕ → Type 0
Arguments is_search c m =
    Blanks then ComparableText c then Blanks then Mark comma then Blanks then MatcherText is_search m
    then Blanks then Mark right_parenthesis

abbrev pub MatchesText : Comparable → Matcher → List ℕ → List ℕ → Type 0
MatchesText c m = Word (codes "match(") then Arguments false c m or Word (codes "search(") then Arguments true c m

-- ---- tests, where a part is one in parentheses

-- what may follow `!`
abbrev pub Denied : (Test → List ℕ → List ℕ → Type 0) → Test → List ℕ → List ℕ → Type 0
Denied Enclosed (Exists q) = QueryText q or Enclosed (Exists q)
Denied Enclosed (Matches c m) = MatchesText c m or Enclosed (Matches c m)
Denied Enclosed t = Enclosed t

abbrev pub Basic : (Test → List ℕ → List ℕ → Type 0) → Test → List ℕ → List ℕ → Type 0
Basic Enclosed (Exists q) = QueryText q or Enclosed (Exists q)
Basic Enclosed (Compare a op b) =
    ComparableText a then Blanks then OperatorText op then Blanks then ComparableText b or Enclosed (Compare a op b)
Basic Enclosed (Matches c m) = MatchesText c m or Enclosed (Matches c m)
Basic Enclosed (Not' p t) = Mark exclamation_mark then Blanks then Denied Enclosed t or Enclosed (Not' p t)
Basic Enclosed t = Enclosed t

abbrev pub Conjunction : (Test → List ℕ → List ℕ → Type 0) → Test → List ℕ → List ℕ → Type 0
Conjunction Enclosed (And' p t q u) =
    Basic Enclosed t then Blanks then Word (codes "&&") then Blanks then Conjunction Enclosed u or Basic Enclosed (And' p t q u)
Conjunction Enclosed t = Basic Enclosed t

abbrev pub Disjunction : (Test → List ℕ → List ℕ → Type 0) → Test → List ℕ → List ℕ → Type 0
Disjunction Enclosed (Or' p t q u) =
    Conjunction Enclosed t then Blanks then Word (codes "||") then Blanks then Disjunction Enclosed u or Conjunction Enclosed (Or' p t q u)
Disjunction Enclosed t = Conjunction Enclosed t

-- tests with this word after each
abbrev pub Operands : (Test → List ℕ → List ℕ → Type 0) → List ℕ → List Test → List ℕ → List ℕ → Type 0
Operands Operand word = Many (λ t. Operand t then Blanks then Word word then Blanks)

-- in parentheses, at most so many of them one in the other
abbrev pub Nested : ℕ → Test → List ℕ → List ℕ → Type 0
Nested zero t = Nothing
Nested (suc nesting) t = Mark left_parenthesis then Blanks then Disjunction (Nested nesting) t then Blanks then Mark right_parenthesis

abbrev pub Logical : ℕ → Test → List ℕ → List ℕ → Type 0
Logical nesting = Disjunction (Nested nesting)
