-- The nodes that each step of a typed read takes, and what it returns for them.
use Rattle.std.specs.Prelude.{◌≡◌, ℕ, ◌+◌, ◌^◌, ◌<◌, ◌≤◌, ◌⊎◌, ℤ, pos, List, [], ◌∷◌, ◌++◌, length, get_or, drop, Bool, true, false, Some}
use Rattle.std.specs.Prelude.{slice_get, codes, decimal, encode_utf8, IsTrue}
use Rattle.std.specs.Fmt.{signed_decimal}
use Rattle.std.specs.Float.{Float, Format, binary32, binary64, float_is_finite}
use Rattle.std.specs.Str.Parse.{IsNumeral, digits_value, signed_digits_value, without_leading_plus, without_leading_sign}
use lib.Ieee.{of_int}
use Rattle.fast_float.specs.Parse.{parse_float}
use Rattle.serde.specs.Event.{Event, boolean, signed, unsigned, single, double, character, text, octets, nothing, unit_variant, seq_begins}
use Rattle.serde.specs.Event.{seq_ends, map_begins, map_ends, field_key, variant_key, key_begins, key_ends, flattens}
use Rattle.serde.specs.Names.{Finds}
use Rattle.serde.specs.declared.name.Name.{Name}
use Rattle.simd_json_parts.specs.Document.{Document}
use Rattle.simd_json_parts.specs.Listing.{listing}
use Rattle.simd_json_parts.specs.Nodes.{Item, static_item, decimal_item, string_item, array_item, object_item}
use Rattle.simd_json_parts.specs.StaticNodes.{number_in}
use Rattle.simd_json_parts.specs.declared.node.StaticNode.TheVariants as fixed

-- The place of a reader: the nodes, the index of the next one, where the innermost open container ends, where those
-- around it do, and whether the next node is a key that is read as a value.
pub record Place : Type 0 where
  pub nodes : List Item
  pub at : ℕ
  pub end : ℕ
  pub outer : List ℕ
  pub at_key : Bool

-- the first place in these nodes
abbrev pub first_place : List Item → Place
first_place items = record { nodes = items; at = 0; end = length items; outer = []; at_key = false }

-- n is the next node, within the innermost container, and it is passed
abbrev pub IsNodeTaken : Place → Item → Place → Type 0
IsNodeTaken old n new =
    (old.at < old.end) × (slice_get old.nodes old.at ≡ Some n) × (new ≡ record old { at = old.at + 1; at_key = false })

-- the next node is taken, and says this
abbrev pub TakesNode : Place → (Bool → Item → Type 0) → Place → Type 0
TakesNode old P new = (n : Item) × IsNodeTaken old n new × P old.at_key n

-- the nodes from the next one on begin with those of the value
abbrev pub Stands : Place → Document → Type 0
Stands p d = (rest : List Item) × (drop p.at p.nodes ≡ listing d ++ rest)

-- ---- what a node says; the Bool says whether it is a key, which may spell a value

abbrev pub IsBool : Bool → Bool → Item → Type 0
IsBool true key item = (item ≡ static_item (fixed.Bool true)) ⊎ ((key ≡ true) × (item ≡ string_item (codes "true")))
IsBool false key item = (item ≡ static_item (fixed.Bool false)) ⊎ ((key ≡ true) × (item ≡ string_item (codes "false")))

abbrev pub IsSigned : ℤ → Bool → Item → Type 0
IsSigned z key (static_item s) = number_in s ≡ Some z
IsSigned z key (decimal_item t) = ⊥
IsSigned z key (string_item t) = (key ≡ true) × IsNumeral 10 (without_leading_sign t) × (z ≡ signed_digits_value 10 t)
IsSigned z key (array_item len count) = ⊥
IsSigned z key (object_item len count) = ⊥

abbrev pub IsUnsigned : ℕ → Bool → Item → Type 0
IsUnsigned n key (static_item s) = number_in s ≡ Some (pos n)
IsUnsigned n key (decimal_item t) = ⊥
IsUnsigned n key (string_item t) = (key ≡ true) × IsNumeral 10 (without_leading_plus t) × (n ≡ digits_value 10 (without_leading_plus t))
IsUnsigned n key (array_item len count) = ⊥
IsUnsigned n key (object_item len count) = ⊥

-- the float nearest to what the text spells, which is finite
abbrev pub IsNearest : Format → Float → List ℕ → Type 0
IsNearest format x t = (parse_float format t ≡ Some x) × IsTrue (float_is_finite x)

-- the float nearest to the number
abbrev pub IsFloat : Format → Float → Bool → Item → Type 0
IsFloat format x key (static_item fixed.Null) = ⊥
IsFloat format x key (static_item (fixed.Bool b)) = ⊥
IsFloat format x key (static_item (fixed.I64 z)) = x ≡ of_int format z
IsFloat format x key (static_item (fixed.U64 n)) = x ≡ of_int format (pos n)
IsFloat format x key (static_item (fixed.I128 z)) = IsNearest format x (signed_decimal z)
IsFloat format x key (static_item (fixed.U128 n)) = IsNearest format x (decimal n)
IsFloat format x key (decimal_item t) = IsNearest format x t
IsFloat format x key (string_item t) = ⊥
IsFloat format x key (array_item len count) = ⊥
IsFloat format x key (object_item len count) = ⊥

abbrev pub IsText : List ℕ → Bool → Item → Type 0
IsText t key item = item ≡ string_item t

abbrev pub Closes : Place → Place → Type 0
Closes old new =
    (old.end ≤ old.at) × (old.outer ≡ new.outer ++ new.end ∷ []) × (new.at ≡ old.at) × (new.nodes ≡ old.nodes) × (new.at_key ≡ old.at_key)

-- the header of a container is taken, and the container entered
abbrev pub Opens : Place → (ℕ → ℕ → Item) → Place → Type 0
Opens old header new =
    (len count : ℕ) × (old.at < old.end) × (slice_get old.nodes old.at ≡ Some (header len count))
    × (new ≡ record { nodes = old.nodes; at = old.at + 1; end = old.at + 1 + count; outer = old.outer ++ old.end ∷ []; at_key = false })

-- the nodes from an index on are the integers that these bytes are
abbrev pub AreBytesAt : List Item → ℕ → List ℕ → Type 0
AreBytesAt nodes at bs =
    (k : ℕ) → k < length bs
    → (get_or bs k 0 < 2 ^ 8) × ((n : Item) × (slice_get nodes (at + k) ≡ Some n) × IsUnsigned (get_or bs k 0) false n)

-- the next node begins an array of these bytes
abbrev pub BeginsBytes : Place → List ℕ → Type 0
BeginsBytes p bs =
    (len : ℕ) × (p.at < p.end) × (slice_get p.nodes p.at ≡ Some (array_item len (length bs))) × AreBytesAt p.nodes (p.at + 1) bs

abbrev pub TakesBytes : Place → List ℕ → Place → Type 0
TakesBytes old bs new = BeginsBytes old bs × (new ≡ record old { at = old.at + 1 + length bs; at_key = false })

-- what each event is read from
abbrev pub ReadsAs : Place → Event → Place → Type 0
ReadsAs old (boolean b) new = TakesNode old (IsBool b) new
ReadsAs old (signed z) new = TakesNode old (IsSigned z) new
ReadsAs old (unsigned n) new = TakesNode old (IsUnsigned n) new
ReadsAs old (single x) new = TakesNode old (IsFloat binary32 x) new
ReadsAs old (double x) new = TakesNode old (IsFloat binary64 x) new
ReadsAs old (character c) new = TakesNode old (IsText (encode_utf8 c)) new
ReadsAs old (text t) new = TakesNode old (IsText t) new
ReadsAs old (octets bs) new = TakesNode old (IsText bs) new ⊎ TakesBytes old bs new
ReadsAs old nothing new = TakesNode old (λ _ item. item ≡ static_item fixed.Null) new
ReadsAs old (unit_variant name case) new = ⊥
ReadsAs old (seq_begins n) new = Opens old array_item new
ReadsAs old seq_ends new = Closes old new
ReadsAs old (map_begins n) new = Opens old object_item new
ReadsAs old map_ends new = Closes old new
ReadsAs old (field_key name case) new = ⊥
ReadsAs old (variant_key name case) new = ⊥
ReadsAs old key_begins new = (old.at < old.end) × (new ≡ record old { at_key = true })
ReadsAs old key_ends new = ⊥
ReadsAs old flattens new = ⊥

-- a key or a string, and the first name that it stands for
abbrev pub PicksName : Place → Bool → List Name → ℕ → Place → Type 0
PicksName old is_key names at new = (t : List ℕ) × TakesNode old (IsText t) new × Finds names t at
