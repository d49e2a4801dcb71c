-- What the machine can read of an input, and where a string ends in it.
use Rattle.std.specs.Prelude.{◌≡◌, ◌≤◌, ◌<◌, ◌+◌, ◌^◌, ℕ, List, length, take, drop, true, IsTrue, IsFalse, IsUtf8}
use Rattle.simd_json_parts.specs.Bytes.{quote, byte_at}
use Rattle.simd_json_parts.specs.Derivatives.{matches}
use Rattle.simd_json_parts.specs.Integers.{integer_node}
use Rattle.simd_json_parts.specs.Numbers.{has_minus, integer_literal, magnitude}
use Rattle.simd_json_parts.specs.StringAt.{closing_quote}
use Rattle.simd_json_parts.specs.declared.node.StaticNode.{StaticNode}
use Rattle.simd_json_stages.specs.EscapesAhead.{AreAhead, PlainFrom}
use Rattle.simd_json_stages.specs.declared.stage2.escapes.Escapes.{Escapes}
use Rattle.simd_json_stages.specs.declared.stage2.input.Unread.{Unread}

-- what is lent is the input from an index on, no later than i, with the blocks ahead that hold a backslash
pub record IsLent (b bytes : List ℕ) (at : ℕ) (escapes : Escapes) (i : ℕ) : Type 0 where
  pub rest : bytes ≡ drop at b
  pub before : at ≤ i
  pub ahead : AreAhead b escapes i

-- what is shared is the whole input, and it has no backslash
pub record IsShared (b shared : List ℕ) : Type 0 where
  pub all : shared ≡ b
  pub plain : PlainFrom b 0 (length b)

-- All bytes of the input b from index i on can be read.
pub record Reads (b : List ℕ) (t : Unread) (i : ℕ) : Type 0 where
  pub fits : length b < 2 ^ 64
  pub end : t.end ≡ length b
  pub whole : IsTrue t.is_plain → IsShared b t.shared.now
  pub part : IsFalse t.is_plain → IsLent b t.rest.now t.at t.escapes i

-- what can be read from one index on can be from a later one
abbrev pub IsKept : (ℕ → Type 0) → Type 0
IsKept reads = (i j : ℕ) → reads i → i ≤ j → reads j

-- The string whose opening quote has index i is closed before an index, and no quote is between.
pub record IsStringBefore (b : List ℕ) (i next : ℕ) : Type 0 where
  pub opening : byte_at b i ≡ quote
  pub closing : byte_at b (closing_quote b i) ≡ quote
  pub later : i < closing_quote b i
  pub closed : closing_quote b i < next
  pub within : next ≤ length b
  pub last : (j : ℕ) → closing_quote b i ≤ j → j < next → byte_at b j ≡ quote → closing_quote b i ≡ j
  pub utf8 : IsUtf8 (drop i b)

-- ---- what a function that reads an input asks for, where `can_read b i` says that the input b can be read from index i on

-- Some input can be read from index i on, and has `len` bytes there.
pub record HasBytes (can_read : List ℕ → ℕ → Type 0) (i len : ℕ) : Type 0 where
  pub b : List ℕ
  pub reads : can_read b i
  pub within : i + len ≤ length b

-- they are a string of their own
pub record HasString (can_read : List ℕ → ℕ → Type 0) (i len : ℕ) : Type 0 where
  pub bytes : HasBytes can_read i len
  pub utf8 : IsUtf8 (take len (drop i bytes.b))

-- they are the literal of an integer that fits a node
pub record HasInteger (can_read : List ℕ → ℕ → Type 0) (i len : ℕ) (value : StaticNode) : Type 0 where
  pub string : HasString can_read i len
  pub matched : matches integer_literal (take len (drop i string.bytes.b)) ≡ true
  pub is : value ≡ integer_node (has_minus (take len (drop i string.bytes.b))) (magnitude (take len (drop i string.bytes.b)))

-- Some input can be read from index i on, where a string begins that is closed before an index.
pub record HasQuoted (can_read : List ℕ → ℕ → Type 0) (i next : ℕ) : Type 0 where
  pub b : List ℕ
  pub reads : can_read b i
  pub string : IsStringBefore b i next

-- it has no escape
pub record HasPlain (can_read : List ℕ → ℕ → Type 0) (i next : ℕ) : Type 0 where
  pub quoted : HasQuoted can_read i next
  pub plain : PlainFrom quoted.b i next

-- the same, whatever the index is
pub record HasQuotedSomewhere (can_read : List ℕ → ℕ → Type 0) (i : ℕ) : Type 0 where
  pub next : ℕ
  pub quoted : HasQuoted can_read i next
