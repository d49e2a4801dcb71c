-- The two printed forms of a document: compact, and pretty with a line for each member. Both are JSON texts (RFC
-- 8259, section 2). Neither acceptance nor faults rest on it.
use Rattle.std.specs.Prelude.{ℕ, suc, ◌*◌, ◌/◌, ◌%◌, List, [], ◌∷◌, ◌++◌, replicate, flat_map, Bool, true, false, ◌==◌}
use Rattle.std.specs.Prelude.{if◌then◌else◌, codes}
use Rattle.std.specs.Fmt.{signed_decimal}
use Rattle.std.specs.Char.{digit_char}
use Rattle.simd_json_parts.specs.Document.{Document, null, boolean, integer, decimal, string, array, object, Elements}
use Rattle.simd_json_parts.specs.Document.{no_elements, element, Members, no_members, member}
use Rattle.simd_json_parts.specs.Bytes.{backspace, tab, line_feed, form_feed, carriage_return, space, quote, comma}
use Rattle.simd_json_parts.specs.Bytes.{left_bracket, backslash, right_bracket, left_brace, right_brace, is_control}
use Rattle.simd_json_parts.specs.Integers.{number_of}

-- a byte of a string as it is printed: a quote, a backslash and what is below 0x20 are escaped
abbrev pub escaped_byte : ℕ → List ℕ
escaped_byte x =
    if x == quote then codes "\\\""
    else if x == backslash then codes "\\\\"
    else if x == backspace then codes "\\b"
    else if x == tab then codes "\\t"
    else if x == line_feed then codes "\\n"
    else if x == form_feed then codes "\\f"
    else if x == carriage_return then codes "\\r"
    else if is_control x then codes "\\u00" ++ digit_char (x / 16) ∷ digit_char (x % 16) ∷ []
    else x ∷ []

unfoldable pub quoted : List ℕ → List ℕ
quoted t = quote ∷ (flat_map escaped_byte t ++ quote ∷ [])

abbrev pub truth_text : Bool → List ℕ
truth_text true = codes "true"
truth_text false = codes "false"

-- a line feed, and two spaces for each open container
abbrev pub new_line : ℕ → List ℕ
new_line open_containers = line_feed ∷ replicate (2 * open_containers) space

-- what is before each member and each closing bracket, and after a name: in a pretty text, or in a compact one
abbrev pub line : Bool → ℕ → List ℕ
line true n = new_line n
line false n = []

abbrev pub after_name : Bool → List ℕ
after_name true = codes ": "
after_name false = codes ":"

-- pretty or compact, with n containers open around it
abbrev mutual
  pub text : Bool → Document → ℕ → List ℕ
  text p null n = codes "null"
  text p (boolean b) n = truth_text b
  text p (integer minus m) n = signed_decimal (number_of minus m)
  text p (decimal literal) n = literal
  text p (string t) n = quoted t
  text p (array no_elements) n = codes "[]"
  text p (array (element d ds)) n = elements_text p left_bracket (element d ds) (suc n) ++ (line p n ++ right_bracket ∷ [])
  text p (object no_members) n = codes "{}"
  text p (object (member k d ms)) n = members_text p left_brace (member k d ms) (suc n) ++ (line p n ++ right_brace ∷ [])

  -- the first element after the byte, and each other one after a comma
  pub elements_text : Bool → ℕ → Elements → ℕ → List ℕ
  elements_text p before no_elements n = []
  elements_text p before (element d ds) n = before ∷ (line p n ++ (text p d n ++ elements_text p comma ds n))

  pub members_text : Bool → ℕ → Members → ℕ → List ℕ
  members_text p before no_members n = []
  members_text p before (member k d ms) n = before ∷ (line p n ++ ((quoted k ++ after_name p) ++ (text p d n ++ members_text p comma ms n)))

abbrev pub compact : Document → List ℕ
compact d = text false d 0

abbrev pub pretty : Document → List ℕ
pretty d = text true d 0
