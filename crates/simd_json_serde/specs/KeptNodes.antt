-- The nodes that a parse in place leaves: what they say with the input, in which their texts lie.
use Rattle.std.specs.Prelude.{◌≡◌, ◌+◌, ◌≤◌, ℕ, List, length, map, take, drop, true, Option, Some, None}
use Rattle.std.specs.List.{All}
use Rattle.std.specs.Str.{is_utf8}
use Rattle.simd_json_parts.specs.Document.{Document}
use Rattle.simd_json_parts.specs.Grammar.{Denotes}
use Rattle.simd_json_parts.specs.Limits.{WithinLimits}
use Rattle.simd_json_parts.specs.Listing.{listing}
use Rattle.simd_json_parts.specs.Nodes.{Item, static_item, decimal_item, string_item, array_item, object_item}
use Rattle.simd_json_parts.specs.declared.node.StaticNode.{StaticNode}
use Rattle.simd_json_parts.specs.declared.node.StaticNode.TheVariants as fixed
use Rattle.simd_json_stages.specs.Placed.{Placed}
use Rattle.simd_json_serde.specs.declared.kept_node.KeptNode.{KeptNode}
use Rattle.simd_json_serde.specs.declared.kept_node.KeptNode.TheVariants as kept

-- what a node says, with the bytes of the input after the parse
abbrev pub item_in : List ℕ → KeptNode → Item
item_in bytes (kept.String at len) = string_item (take len (drop at bytes))
item_in bytes (kept.Decimal at len) = decimal_item (take len (drop at bytes))
item_in bytes (kept.Array len count) = array_item len count
item_in bytes (kept.Object len count) = object_item len count
item_in bytes kept.Null = static_item fixed.Null
item_in bytes (kept.Bool b) = static_item (fixed.Bool b)
item_in bytes (kept.I64 z) = static_item (fixed.I64 z)
item_in bytes (kept.U64 n) = static_item (fixed.U64 n)
item_in bytes (kept.I128 z) = static_item (fixed.I128 z)
item_in bytes (kept.U128 n) = static_item (fixed.U128 n)

-- where a string begins
abbrev pub string_start : KeptNode → Option ℕ
string_start (kept.String at len) = Some at
string_start _ = None

-- a text of so many bytes lies there, as UTF-8
abbrev pub IsTextAt : List ℕ → ℕ → ℕ → Type 0
IsTextAt bytes at len = (at + len ≤ length bytes) × (is_utf8 (take len (drop at bytes)) ≡ true)

-- where the text of a node begins, and its length; of a node without a text 0
abbrev pub text_start : KeptNode → ℕ
text_start (kept.String at len) = at
text_start (kept.Decimal at len) = at
text_start _ = 0

abbrev pub text_len : KeptNode → ℕ
text_len (kept.String at len) = len
text_len (kept.Decimal at len) = len
text_len _ = 0

-- so the text of a node lies there
abbrev pub LiesWithin : List ℕ → KeptNode → Type 0
LiesWithin bytes node = IsTextAt bytes (text_start node) (text_len node)

-- the bytes that were a document within the limits became these, in which the texts of its nodes lie
pub record IsPlacedIn (b : List ℕ) (limit : ℕ) (bytes : List ℕ) (nodes : List KeptNode) : Type 0 where
  pub document : Document
  pub denoted : Denotes b document
  pub within : WithinLimits b document limit
  pub listed : map (item_in bytes) nodes ≡ listing document
  pub texts : All (LiesWithin bytes) nodes

-- ---- while they are kept, one after another

abbrev pub static_of : StaticNode → KeptNode
static_of fixed.Null = kept.Null
static_of (fixed.Bool b) = kept.Bool b
static_of (fixed.I64 z) = kept.I64 z
static_of (fixed.U64 n) = kept.U64 n
static_of (fixed.I128 z) = kept.I128 z
static_of (fixed.U128 n) = kept.U128 n

-- a node as it is kept, whose text of so many bytes begins there
abbrev pub kept_at : ℕ → ℕ → Item → KeptNode
kept_at at len (static_item s) = static_of s
kept_at at len (decimal_item t) = kept.Decimal at len
kept_at at len (string_item t) = kept.String at len
kept_at at len (array_item n count) = kept.Array n count
kept_at at len (object_item n count) = kept.Object n count

abbrev pub kept_of : Placed → KeptNode
kept_of p = kept_at p.at (length p.text) p.item
