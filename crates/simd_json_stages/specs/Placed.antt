-- Nodes whose texts lie in the input, and that these stay while later bytes are written.
use Rattle.std.specs.Prelude.{◌≡◌, ◌≤◌, ◌<◌, ◌+◌, ◌^◌, ℕ, ℤ, pos, List, [], ◌∷◌, ◌++◌, length, take, drop}
use Rattle.std.specs.Prelude.{Bool, true, false, IsTrue, IsFalse, IsUtf8, Ok}
use Rattle.std.specs.List.{All}
use Rattle.std.specs.Str.{is_utf8}
use Rattle.simd_json_parts.specs.Derivatives.{matches}
use Rattle.simd_json_parts.specs.Integers.{number_of}
use Rattle.simd_json_parts.specs.Nodes.{Item, static_item, string_item, decimal_item}
use Rattle.simd_json_parts.specs.Numbers.{has_minus, integer_literal, magnitude}
use Rattle.simd_json_parts.specs.StringAt.{string_at}
use Rattle.simd_json_parts.specs.declared.node.StaticNode.{StaticNode}
use Rattle.simd_json_parts.specs.declared.node.StaticNode.TheVariants as fixed
use Rattle.simd_json_stages.specs.EscapesAhead.{AreAhead, PlainFrom}
use Rattle.simd_json_stages.specs.declared.stage2.escapes.Escapes.{Escapes}

-- a node, its text, and the byte index at which that begins; of a node without a text 0
pub record Placed : Type 0 where
  pub at : ℕ
  pub text : List ℕ
  pub item : Item

abbrev pub placed_at : ℕ → List ℕ → Item → Placed
placed_at at text item = record { at = at; text = text; item = item }

abbrev pub textless : Item → Placed
textless item = record { at = 0; text = []; item = item }

-- an integer of 128 bits
abbrev pub is_long : StaticNode → Bool
is_long (fixed.I128 z) = true
is_long (fixed.U128 n) = true
is_long _ = false

-- a literal of the integer (RFC 8259, section 6)
abbrev pub IsLiteralOf : ℤ → List ℕ → Type 0
IsLiteralOf z text = (matches integer_literal text ≡ true) × (number_of (has_minus text) (magnitude text) ≡ z)

-- the text of a node: a string decoded, the literal of a number with a fraction or an exponent, or that of an integer of 128 bits
abbrev pub IsTextOf : Item → List ℕ → Type 0
IsTextOf (string_item string) text = text ≡ string
IsTextOf (decimal_item literal) text = text ≡ literal
IsTextOf (static_item (fixed.I128 z)) text = IsLiteralOf z text
IsTextOf (static_item (fixed.U128 n)) text = IsLiteralOf (pos n) text
IsTextOf _ text = text ≡ []

-- The text of a node lies in the bytes at its place, as UTF-8.
pub record LiesIn (bytes : List ℕ) (p : Placed) : Type 0 where
  pub within : p.at + length p.text ≤ length bytes
  pub there : take (length p.text) (drop p.at bytes) ≡ p.text
  pub is_text : IsTextOf p.item p.text
  pub utf8 : IsUtf8 p.text

-- ---- what a sink was given

-- the nodes, and for how many its list had capacity at first
pub record Note : Type 0 where
  pub placed : List Placed
  pub node_capacity : ℕ

-- one more node is known
abbrev pub noting : Note → Placed → Note
noting n p = record n { placed = n.placed ++ p ∷ [] }

-- ---- what serves proofs

-- it lies before an index
pub record LiesBefore (bytes : List ℕ) (end : ℕ) (p : Placed) : Type 0 where
  pub before : p.at + length p.text ≤ end
  pub there : take (length p.text) (drop p.at bytes) ≡ p.text
  pub is_text : ∥ IsTextOf p.item p.text ∥₁
  pub utf8 : is_utf8 p.text ≡ true

-- so do the texts of all nodes
pub record AreLaid (bytes : List ℕ) (end : ℕ) (nodes : List Placed) : Type 0 where
  pub within : end ≤ length bytes
  pub each : All (LiesBefore bytes end) nodes

-- All bytes of the input b from index i on can be read: from `at` on, no later than i, they are as they were.
pub record ReadsInPlace (b bytes : List ℕ) (at : ℕ) (is_plain : Bool) (escapes : Escapes) (i : ℕ) : Type 0 where
  pub fits : length b < 2 ^ 64
  pub size : length bytes ≡ length b
  pub rest : drop at bytes ≡ drop at b
  pub before : at ≤ i
  pub plain : IsTrue is_plain → PlainFrom b i (length b)
  pub ahead : IsFalse is_plain → AreAhead b escapes i

-- The string whose opening quote has index i is decoded in place, up to index `after`, and is the next node.
pub record IsDecodedTo (b : List ℕ) (i : ℕ) (old new : List Placed) (bytes : List ℕ) (after : ℕ) : Type 0 where
  pub string : List ℕ
  pub read : string_at b i ≡ Ok (string, after)
  pub put : new ≡ old ++ placed_at (i + 1) string (string_item string) ∷ []
  pub there : take (length string) (drop (i + 1) bytes) ≡ string
  pub utf8 : IsUtf8 string
  pub before : i + 1 + length string ≤ after
  pub within : after ≤ length bytes
  pub rest : drop after bytes ≡ drop after b
