-- Kept nodes say with the input what was appended, and their texts lie in it.
use Rattle.std.proofs.Common.{◌≡◌, ◌∙◌, ap, sym, subst, refl, arith, ℕ, ◌+◌, ◌≤◌, List, [], ◌∷◌, length, map, take, drop, Some, true}
use Rattle.std.proofs.lemmas.List.Elements.{All-cons, All-head, All-nil, All-tail, All-get_or}
use Rattle.std.proofs.lemmas.Option.{get_or_from_slice_get, slice_get_within}
use Rattle.std.proofs.lemmas.Str.{IsUtf8-nil, is_utf8-from_IsUtf8}
use Rattle.std.specs.List.{All}
use Rattle.std.specs.Prelude.{slice_get}
use Rattle.std.specs.Str.{is_utf8}
use Rattle.simd_json_parts.specs.Nodes.{Item, static_item, decimal_item, string_item, array_item, object_item}
use Rattle.simd_json_parts.specs.declared.node.StaticNode.TheVariants as fixed
use Rattle.simd_json.specs.KeptSpans.{AreFormed}
use Rattle.simd_json.specs.Parsed.{IsParsed}
use Rattle.simd_json_stages.specs.Placed.{IsTextOf, LiesIn, Placed}
use Rattle.simd_json_serde.specs.KeptNodes.{IsPlacedIn, IsTextAt, LiesWithin, item_in, kept_at, kept_of}
use Rattle.simd_json_serde.specs.declared.kept_node.KeptNode.{KeptNode}

item-kept : (bytes : List ℕ) (at : ℕ) (text : List ℕ) (item : Item) → take (length text) (drop at bytes) ≡ text → IsTextOf item text
    → item_in bytes (kept_at at (length text) item) ≡ item
item-kept bytes at text (static_item fixed.Null) there is = refl
item-kept bytes at text (static_item (fixed.Bool b)) there is = refl
item-kept bytes at text (static_item (fixed.I64 z)) there is = refl
item-kept bytes at text (static_item (fixed.U64 n)) there is = refl
item-kept bytes at text (static_item (fixed.I128 z)) there is = refl
item-kept bytes at text (static_item (fixed.U128 n)) there is = refl
item-kept bytes at text (decimal_item literal) there is = ap decimal_item (there ∙ is)
item-kept bytes at text (string_item string) there is = ap string_item (there ∙ is)
item-kept bytes at text (array_item len count) there is = refl
item-kept bytes at text (object_item len count) there is = refl

no-text : (bytes : List ℕ) → IsTextAt bytes 0 0
no-text bytes = (omega arith, is_utf8-from_IsUtf8 _ IsUtf8-nil)

text-kept : (bytes : List ℕ) (at : ℕ) (text : List ℕ) (item : Item) → at + length text ≤ length bytes
    → take (length text) (drop at bytes) ≡ text → is_utf8 text ≡ true → LiesWithin bytes (kept_at at (length text) item)
text-kept bytes at text (static_item fixed.Null) within there utf8 = no-text bytes
text-kept bytes at text (static_item (fixed.Bool b)) within there utf8 = no-text bytes
text-kept bytes at text (static_item (fixed.I64 z)) within there utf8 = no-text bytes
text-kept bytes at text (static_item (fixed.U64 n)) within there utf8 = no-text bytes
text-kept bytes at text (static_item (fixed.I128 z)) within there utf8 = no-text bytes
text-kept bytes at text (static_item (fixed.U128 n)) within there utf8 = no-text bytes
text-kept bytes at text (decimal_item literal) within there utf8 = (within, ap is_utf8 there ∙ utf8)
text-kept bytes at text (string_item string) within there utf8 = (within, ap is_utf8 there ∙ utf8)
text-kept bytes at text (array_item len count) within there utf8 = no-text bytes
text-kept bytes at text (object_item len count) within there utf8 = no-text bytes

items-kept : (bytes : List ℕ) (ps : List Placed) → All (LiesIn bytes) ps
    → map (item_in bytes) (map kept_of ps) ≡ map (λ (p : Placed). p.item) ps
items-kept bytes [] lie = refl
items-kept bytes (p ∷ ps) lie =
    let here = All-head (LiesIn bytes) p ps lie in
    ap (λ i. i ∷ map (item_in bytes) (map kept_of ps)) (item-kept bytes p.at p.text p.item here.there here.is_text)
    ∙ ap (λ is. p.item ∷ is) (items-kept bytes ps (All-tail (LiesIn bytes) p ps lie))

texts-kept : (bytes : List ℕ) (ps : List Placed) → All (LiesIn bytes) ps → All (LiesWithin bytes) (map kept_of ps)
texts-kept bytes [] lie = All-nil (LiesWithin bytes)
texts-kept bytes (p ∷ ps) lie =
    let here = All-head (LiesIn bytes) p ps lie in
    All-cons (LiesWithin bytes) (kept_of p) (map kept_of ps)
    (text-kept bytes p.at p.text p.item here.within here.there (is_utf8-from_IsUtf8 _ here.utf8))
    (texts-kept bytes ps (All-tail (LiesIn bytes) p ps lie))

-- the document that was parsed, and its nodes
pub placed-in : (b : List ℕ) (limit : ℕ) (bytes : List ℕ) (ps : List Placed) (nodes : List KeptNode)
    → IsParsed b limit (map (λ (p : Placed). p.item) ps) → AreFormed kept_of ps bytes nodes → IsPlacedIn b limit bytes nodes
placed-in b limit bytes ps nodes parsed are = record {
  document = parsed.document;
  denoted = parsed.denoted;
  within = parsed.within;
  listed = ap (map (item_in bytes)) are.0 ∙ items-kept bytes ps are.1 ∙ parsed.listed;
  texts = subst (All (LiesWithin bytes)) (sym are.0) (texts-kept bytes ps are.1);
}

-- that of a node that was found
pub lies-at : (bytes : List ℕ) (nodes : List KeptNode) (at : ℕ) (node : KeptNode) → All (LiesWithin bytes) nodes
    → slice_get nodes at ≡ Some node → LiesWithin bytes node
lies-at bytes nodes at node lie got =
    subst (LiesWithin bytes) (get_or_from_slice_get nodes at node node got)
    (All-get_or (LiesWithin bytes) nodes at node (slice_get_within nodes at node got) lie)

-- what a reader of them sees
pub placed-items : (nodes kept : List KeptNode) (input bytes : List ℕ) (items : List Item) → nodes ≡ kept → input ≡ bytes
    → map (item_in bytes) kept ≡ items → map (item_in input) nodes ≡ items
placed-items nodes kept input bytes items same lies listed =
    ap (λ ns. map (item_in input) ns) same ∙ ap (λ b. map (item_in b) kept) lies ∙ listed
