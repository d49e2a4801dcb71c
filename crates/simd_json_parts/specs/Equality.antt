-- When two documents are the same value: the same shape and order, integers by their numbers, decimals and strings
-- by their bytes. Neither acceptance nor faults rest on it.
use Rattle.std.specs.Prelude.{ℕ, Bool, true, false, ◌&&◌, ◌||◌, ◌==◌, bytes_eq}
use Rattle.std.specs.Bool.{beq}
use Rattle.simd_json_parts.specs.Document.{Document, null, boolean, integer, decimal, string, array, object, Elements}
use Rattle.simd_json_parts.specs.Document.{no_elements, element, Members, no_members, member}

-- 0 has no sign
abbrev pub same_number : Bool → ℕ → Bool → ℕ → Bool
same_number minus m minus' n = (m == n) && ((m == 0) || beq minus minus')

abbrev mutual
  pub equal : Document → Document → Bool
  equal null null = true
  equal (boolean a) (boolean b) = beq a b
  equal (integer minus m) (integer minus' n) = same_number minus m minus' n
  equal (decimal a) (decimal b) = bytes_eq a b
  equal (string a) (string b) = bytes_eq a b
  equal (array ds) (array es) = equal_elements ds es
  equal (object ms) (object ns) = equal_members ms ns
  equal _ _ = false

  pub equal_elements : Elements → Elements → Bool
  equal_elements no_elements no_elements = true
  equal_elements (element d ds) (element e es) = equal d e && equal_elements ds es
  equal_elements _ _ = false

  pub equal_members : Members → Members → Bool
  equal_members no_members no_members = true
  equal_members (member k d ms) (member l e ns) = bytes_eq k l && equal d e && equal_members ms ns
  equal_members _ _ = false
