-- When two values are equal, and when one is less than another (RFC 9535, section 2.3.5.2.2).
use Rattle.std.specs.Prelude.{◌≡◌, ℕ, zero, suc, List, [], ◌∷◌, ◌++◌, Bool, true, false}
use Rattle.std.specs.Prelude.{not, ◌&&◌, ◌||◌, Option, Some, None, option_and_then, bytes_eq, pos}
use Rattle.std.specs.Bool.{beq}
use Rattle.std.specs.List.{list_all}
use Rattle.std.specs.Cmp.Lexicographic.{slice_cmp}
use Rattle.std.specs.Ordering.{is_eq, is_lt, nat_cmp}
use Rattle.simd_json_parts.specs.Document.{Document, null, boolean, integer, decimal, string, array, object, elements, Members}
use Rattle.simd_json_parts.specs.Equality.{equal}
use Rattle.simd_json_parts.specs.Integers.{number_of}
use Rattle.simd_json_parts.specs.Views.{first_with, keys}
use Rattle.simd_json_number.specs.Numbers.{Decimal, compare, meaning}
use Rattle.simd_json_query.specs.declared.filter.Comparison.{Comparison}
use Rattle.simd_json_query.specs.declared.filter.Comparison.TheVariants as comparison

-- of two that are both there
abbrev pub both : {A : Type 0} → (A → A → Bool) → Option A → Option A → Bool
both test (Some x) (Some y) = test x y
both test _ _ = false

-- or nothing of both: nothing is equal to nothing
abbrev pub both_or_none : {A : Type 0} → (A → A → Bool) → Option A → Option A → Bool
both_or_none test None None = true
both_or_none test x y = both test x y

-- ---- primitive values

pub data Primitive : Type 0 where
  nothing : Primitive
  truth : Bool → Primitive
  number : Decimal → Primitive
  text : List ℕ → Primitive

-- what an array and an object are not
abbrev pub primitive : Document → Option Primitive
primitive null = Some nothing
primitive (boolean b) = Some (truth b)
primitive (integer minus n) = Some (number (record { coefficient = number_of minus n; exponent = pos 0 }))
primitive (decimal literal) = Some (number (meaning literal))
primitive (string t) = Some (text t)
primitive _ = None

-- numbers by their values, strings by their characters
abbrev pub same_primitives : Primitive → Primitive → Bool
same_primitives nothing nothing = true
same_primitives (truth a) (truth b) = beq a b
same_primitives (number x) (number y) = is_eq (compare x y)
same_primitives (text s) (text t) = bytes_eq s t
same_primitives _ _ = false

-- the order of characters is that of their bytes in UTF-8
abbrev pub less_primitives : Primitive → Primitive → Bool
less_primitives (number x) (number y) = is_lt (compare x y)
less_primitives (text s) (text t) = is_lt (slice_cmp nat_cmp s t)
less_primitives _ _ = false

-- ---- all values

abbrev pub same_lists : (Document → Document → Bool) → List Document → List Document → Bool
same_lists same [] [] = true
same_lists same (d ∷ ds) (e ∷ es) = same d e && same_lists same ds es
same_lists same _ _ = false

abbrev pub same_at : (Document → Document → Bool) → Members → Members → List ℕ → Bool
same_at same ms ns name = both_or_none same (first_with name ms) (first_with name ns)

-- each name of either has the same value in both; of equal names the first counts
abbrev pub same_members : (Document → Document → Bool) → Members → Members → Bool
same_members same ms ns = list_all (same_at same ms ns) (keys ms ++ keys ns)

-- one level of arrays and objects; what is in them by a test
abbrev pub compared : (Document → Document → Bool) → Document → Document → Bool
compared same (array ds) (array es) = same_lists same (elements ds) (elements es)
compared same (object ms) (object ns) = same_members same ms ns
compared same d e = both same_primitives (primitive d) (primitive e)

-- the comparison of the section, without a bound
abbrev pub IsComparison : (Document → Document → Bool) → Type 0
IsComparison same = (d e : Document) → same d e ≡ compared same d e

-- down to so many levels of arrays and objects; below these, what is written in the same order with the same literals
abbrev pub same_to : ℕ → Document → Document → Bool
same_to zero (array ds) e = equal (array ds) e
same_to zero (object ms) e = equal (object ms) e
same_to zero d e = both same_primitives (primitive d) (primitive e)
same_to (suc n) d e = compared (same_to n) d e

unfoldable pub same : Document → Document → Bool
same d e = same_to 128 d e

-- ---- comparisons of what may be nothing

abbrev pub equals : Option Document → Option Document → Bool
equals a b = both_or_none same a b

abbrev pub is_less : Option Document → Option Document → Bool
is_less a b = both less_primitives (option_and_then primitive a) (option_and_then primitive b)

abbrev pub compares : Comparison → Option Document → Option Document → Bool
compares comparison.Equal a b = equals a b
compares comparison.NotEqual a b = not (equals a b)
compares comparison.Less a b = is_less a b
compares comparison.LessOrEqual a b = is_less a b || equals a b
compares comparison.Greater a b = is_less b a
compares comparison.GreaterOrEqual a b = is_less b a || equals a b
