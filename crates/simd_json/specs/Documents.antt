-- Which documents nodes list: listings read backwards, as total functions. For nodes that list none the result
-- means nothing.
use Rattle.std.specs.Prelude.{◌≡◌, ℕ, zero, suc, ℤ, pos, negsuc, true, false, List, [], ◌∷◌}
use Rattle.simd_json_parts.specs.Document.{Document, null, boolean, integer, decimal, string, array}
use Rattle.simd_json_parts.specs.Document.{object, Elements, no_elements, element, Members, no_members, member}
use Rattle.simd_json_parts.specs.Listing.{listing, elements_listing, members_listing}
use Rattle.simd_json_parts.specs.Nodes.{Item, static_item, decimal_item, string_item, array_item, object_item}
use Rattle.simd_json_parts.specs.declared.node.StaticNode.{StaticNode}
use Rattle.simd_json_parts.specs.declared.node.StaticNode.TheVariants as fixed

-- the magnitude of a number that is not positive
abbrev pub magnitude_below : ℤ → ℕ
magnitude_below (pos n) = 0
magnitude_below (negsuc n) = suc n

abbrev pub static_document : StaticNode → Document
static_document fixed.Null = null
static_document (fixed.Bool b) = boolean b
static_document (fixed.I64 z) = integer true (magnitude_below z)
static_document (fixed.U64 n) = integer false n
static_document (fixed.I128 z) = integer true (magnitude_below z)
static_document (fixed.U128 n) = integer false n

-- ---- documents in a row

abbrev pub first_in_row : Elements → Document
first_in_row no_elements = null
first_in_row (element d ds) = d

-- at most so many
abbrev pub front : ℕ → Elements → Elements
front zero ds = no_elements
front (suc n) no_elements = no_elements
front (suc n) (element d ds) = element d (front n ds)

-- all but so many
abbrev pub other_elements : ℕ → Elements → Elements
other_elements zero ds = ds
other_elements (suc n) no_elements = no_elements
other_elements (suc n) (element d ds) = other_elements n ds

abbrev pub name_of : Document → List ℕ
name_of (string t) = t
name_of _ = []

-- each two of them are a name and a document
abbrev pub in_pairs : Elements → Members
in_pairs no_elements = no_members
in_pairs (element k no_elements) = no_members
in_pairs (element k (element d ds)) = member (name_of k) d (in_pairs ds)

-- so many pairs of them
abbrev pub front_pairs : ℕ → Elements → Members
front_pairs zero ds = no_members
front_pairs (suc n) no_elements = no_members
front_pairs (suc n) (element k no_elements) = no_members
front_pairs (suc n) (element k (element d ds)) = member (name_of k) d (front_pairs n ds)

abbrev pub other_pairs : ℕ → Elements → Elements
other_pairs zero ds = ds
other_pairs (suc n) no_elements = no_elements
other_pairs (suc n) (element k no_elements) = no_elements
other_pairs (suc n) (element k (element d ds)) = other_pairs n ds

-- ---- what nodes list

abbrev pub elements_of : List Item → Elements
elements_of [] = no_elements
elements_of (static_item s ∷ ns) = element (static_document s) (elements_of ns)
elements_of (decimal_item literal ∷ ns) = element (decimal literal) (elements_of ns)
elements_of (string_item t ∷ ns) = element (string t) (elements_of ns)
elements_of (array_item len count ∷ ns) = element (array (front len (elements_of ns))) (other_elements len (elements_of ns))
elements_of (object_item len count ∷ ns) = element (object (front_pairs len (elements_of ns))) (other_pairs len (elements_of ns))

abbrev pub document_of : List Item → Document
document_of ns = first_in_row (elements_of ns)

abbrev pub members_of : List Item → Members
members_of ns = in_pairs (elements_of ns)

-- the nodes are the listing of one document, of documents in a row, or of pairs
abbrev pub IsListing : List Item → Type 0
IsListing ns = listing (document_of ns) ≡ ns

abbrev pub AreElementNodes : List Item → Type 0
AreElementNodes ns = elements_listing (elements_of ns) ≡ ns

abbrev pub AreMemberNodes : List Item → Type 0
AreMemberNodes ns = members_listing (members_of ns) ≡ ns

-- the document is a scalar that the node says whole, or an array or an object where the node is its header
abbrev pub IsFirst : Item → Document → Type 0
IsFirst (static_item s) d = d ≡ static_document s
IsFirst (decimal_item literal) d = d ≡ decimal literal
IsFirst (string_item t) d = d ≡ string t
IsFirst (array_item len count) d = (ds : Elements) × (d ≡ array ds)
IsFirst (object_item len count) d = (ms : Members) × (d ≡ object ms)
