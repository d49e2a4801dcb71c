-- A listing read backwards is its document.
use Rattle.std.proofs.Common.{◌≡◌, ◌≢◌, ◌∙◌, ap, sym, refl, ℕ, zero, suc, pos, neg_ℤ, Bool, true, List, [], ◌∷◌, ◌++◌, length, get_or, map}
use Rattle.std.proofs.Common.{drop, append_assoc, arith, inl, inr, append-nil}
use Rattle.simd_json_parts.proofs.Documents.Listing.{IsHeaded-document}
use Rattle.simd_json_parts.proofs.Documents.Fronts.{sized}
use Rattle.simd_json_parts.proofs.Documents.Integers.{of-integer_node}
use Rattle.simd_json_parts.specs.Document.{Document, integer, string, array, object, Elements, no_elements, element, elements, Members}
use Rattle.simd_json_parts.specs.Document.{no_members, member, members}
use Rattle.simd_json_parts.specs.Integers.{integer_node}
use Rattle.simd_json_parts.specs.Listing.{listing, elements_listing, members_listing}
use Rattle.simd_json.specs.Tapes.{IsTapeContent}
use Rattle.simd_json_parts.specs.Views.{member_count}
use Rattle.simd_json_parts.specs.Nodes.{Item, array_item, object_item, item_of}
use Rattle.simd_json_parts.specs.Headers.{count_of, len_of}
use Rattle.simd_json_parts.specs.declared.node.Node.{Node}
use Rattle.simd_json_parts.specs.declared.node.Node.TheVariants as nodes
use Rattle.simd_json.specs.Descending.{elements_joined, flat}
use Rattle.simd_json.specs.Documents.{magnitude_below, static_document, first_in_row, front, other_elements, in_pairs, front_pairs}
use Rattle.simd_json.specs.Documents.{other_pairs, elements_of, document_of, members_of, IsListing, AreElementNodes, AreMemberNodes}

pub magnitude-below : (n : ℕ) → magnitude_below (neg_ℤ (pos n)) ≡ n
magnitude-below zero = refl
magnitude-below (suc n) = refl

document-integer : (minus : Bool) (n : ℕ) → static_document (integer_node minus n) ≡ integer minus n
document-integer =
    of-integer_node (λ minus n s. static_document s ≡ integer minus n) (λ n. ap (integer true) (magnitude-below n)) (λ n. refl)
    (λ n. ap (integer true) (magnitude-below n)) (λ n. refl)

-- ---- documents in a row

joined-none : (ds : Elements) → elements_joined ds no_elements ≡ ds
joined-none no_elements = refl
joined-none (element d ds) = ap (element d) (joined-none ds)

pub front-joined : (ds es : Elements) → front (length (elements ds)) (elements_joined ds es) ≡ ds
front-joined no_elements es = refl
front-joined (element d ds) es = ap (element d) (front-joined ds es)

pub others-joined : (ds es : Elements) → other_elements (length (elements ds)) (elements_joined ds es) ≡ es
others-joined no_elements es = refl
others-joined (element d ds) es = others-joined ds es

pub front-flat : (ms : Members) (es : Elements) → front_pairs (length (members ms)) (flat ms es) ≡ ms
front-flat no_members es = refl
front-flat (member k d ms) es = ap (member k d) (front-flat ms es)

pub others-flat : (ms : Members) (es : Elements) → other_pairs (length (members ms)) (flat ms es) ≡ es
others-flat no_members es = refl
others-flat (member k d ms) es = others-flat ms es

in_pairs-flat : (ms : Members) → in_pairs (flat ms no_elements) ≡ ms
in_pairs-flat no_members = refl
in_pairs-flat (member k d ms) = ap (member k d) (in_pairs-flat ms)

-- ---- listings

mutual
  pub elements_of-listing : (d : Document) (ns : List Item) → elements_of (listing d ++ ns) ≡ element d (elements_of ns)
  elements_of-listing (integer minus n) ns = ap (λ d. element d (elements_of ns)) (document-integer minus n)
  elements_of-listing (array ds) ns =
      let e = elements_of-elements ds ns in
      rw (e, front-joined, others-joined)
  elements_of-listing (object ms) ns =
      let e = elements_of-members ms ns in
      rw (e, front-flat, others-flat)
  elements_of-listing _ ns = refl

  elements_of-elements : (ds : Elements) (ns : List Item) → elements_of (elements_listing ds ++ ns) ≡ elements_joined ds (elements_of ns)
  elements_of-elements no_elements ns = refl
  elements_of-elements (element d ds) ns =
      rw append_assoc (elements_of-listing d (elements_listing ds ++ ns) ∙ ap (element d) (elements_of-elements ds ns))

  elements_of-members : (ms : Members) (ns : List Item) → elements_of (members_listing ms ++ ns) ≡ flat ms (elements_of ns)
  elements_of-members no_members ns = refl
  elements_of-members (member k d ms) ns =
      ap (element (string k))
      (ap elements_of (append_assoc (listing d) (members_listing ms) ns) ∙ elements_of-listing d (members_listing ms ++ ns)
      ∙ ap (element d) (elements_of-members ms ns))

pub document_of-listing : (d : Document) → document_of (listing d) ≡ d
document_of-listing d = ap document_of (sym (append-nil (listing d))) ∙ ap first_in_row (elements_of-listing d [])

pub elements_of-all : (ds : Elements) → elements_of (elements_listing ds) ≡ ds
elements_of-all ds = ap elements_of (sym (append-nil (elements_listing ds))) ∙ elements_of-elements ds [] ∙ joined-none ds

pub members_of-all : (ms : Members) → members_of (members_listing ms) ≡ ms
members_of-all ms = ap members_of (sym (append-nil (members_listing ms))) ∙ ap in_pairs (elements_of-members ms []) ∙ in_pairs-flat ms

-- ---- beneath a header

pub record IsArrayOf (xs : List Item) (len : ℕ) (ns : List Item) : Type 0 where
  pub listed : AreElementNodes ns
  pub counted : len ≡ length (elements (elements_of ns))
  pub whole : document_of xs ≡ array (elements_of ns)

pub array-of : (xs ns : List Item) (len count : ℕ) → IsListing xs → xs ≡ array_item len count ∷ ns → IsArrayOf xs len ns
array-of xs ns len count is headed =
    let ds = front len (elements_of ns) in
    let whole : document_of xs ≡ array ds = ap document_of headed in
    let same : listing (array ds) ≡ array_item len count ∷ ns = ap listing (sym whole) ∙ is ∙ headed in
    let nodes : elements_listing ds ≡ ns = cc in
    let back : elements_of ns ≡ ds = ap elements_of (sym nodes) ∙ elements_of-all ds in
    let counted : length (elements ds) ≡ len = cc in
    record {
      listed = ap elements_listing back ∙ nodes;
      counted = sym (ap (λ es. length (elements es)) back ∙ counted);
      whole = whole ∙ ap array (sym back);
    }

pub record IsObjectOf (xs : List Item) (len : ℕ) (ns : List Item) : Type 0 where
  pub listed : AreMemberNodes ns
  pub counted : len ≡ length (members (members_of ns))
  pub whole : document_of xs ≡ object (members_of ns)

pub object-of : (xs ns : List Item) (len count : ℕ) → IsListing xs → xs ≡ object_item len count ∷ ns → IsObjectOf xs len ns
object-of xs ns len count is headed =
    let ms = front_pairs len (elements_of ns) in
    let whole : document_of xs ≡ object ms = ap document_of headed in
    let same : listing (object ms) ≡ object_item len count ∷ ns = ap listing (sym whole) ∙ is ∙ headed in
    let nodes : members_listing ms ≡ ns = cc in
    let back : members_of ns ≡ ms = ap members_of (sym nodes) ∙ members_of-all ms in
    let counted : length (members ms) ≡ len = cc in
    record {
      listed = ap members_listing back ∙ nodes;
      counted = sym (ap (λ ns. length (members ns)) back ∙ counted);
      whole = whole ∙ ap object (sym back);
    }

pub headed : (xs ns : List Node) (x y : Node) → map item_of xs ≡ item_of x ∷ map item_of (drop 1 xs)
    → x ≡ y → ns ≡ drop 1 xs → map item_of xs ≡ item_of y ∷ map item_of ns
headed xs ns x y is kind beneath =
    is ∙ ap (λ z. item_of z ∷ map item_of (drop 1 xs)) kind ∙ ap (λ zs. item_of y ∷ map item_of zs) (sym beneath)

-- ---- a scalar at the front of nodes

-- a node that is no header has none beneath
scalar-count : (x : Node) → ((len count : ℕ) → x ≡ nodes.Array len count → ⊥) → ((len count : ℕ) → x ≡ nodes.Object len count → ⊥)
    → count_of (item_of x) ≡ 0
scalar-count (nodes.Array len count) no_array no_object = absurd (no_array len count refl)
scalar-count (nodes.Object len count) no_array no_object = absurd (no_object len count refl)
scalar-count _ no_array no_object = refl

pub sized-scalar : (ns : List Node) (default : Node) (d : Document) (rest : List Item) → map item_of ns ≡ listing d ++ rest
    → ((len count : ℕ) → get_or ns 0 default ≡ nodes.Array len count → ⊥)
    → ((len count : ℕ) → get_or ns 0 default ≡ nodes.Object len count → ⊥) → 1 ≡ length (listing d)
sized-scalar ns default d rest is no_array no_object =
    omega (arith, sized ns default (get_or ns 0 default) d rest is refl, scalar-count (get_or ns 0 default) no_array no_object)

-- ---- lists of nodes that are listings

pub listing-listed : (xs : List Item) (d : Document) → xs ≡ listing d → IsListing xs
listing-listed xs d is = ap (λ ns. listing (document_of ns)) is ∙ ap listing (document_of-listing d) ∙ sym is

pub tape-listed : (xs : List Item) → IsTapeContent xs → xs ≢ [] → IsListing xs
tape-listed xs (inl none) some = absurd (some none)
tape-listed xs (inr (d, spelled, fit, is)) some = listing-listed xs d is

-- ---- what a listing says of its document

pub known : (d e : Document) → listing d ≡ listing e → d ≡ e
known d e is = sym (document_of-listing d) ∙ ap document_of is ∙ document_of-listing e

pub counted : (d : Document) (header : Item) (beneath : List Item) → listing d ≡ header ∷ beneath
    → (length beneath ≡ count_of header) × (len_of header ≡ member_count d)
counted d header beneath is =
    let h = IsHeaded-document d in
    let same : h.first ∷ h.rest ≡ header ∷ beneath = sym h.whole ∙ is in
    let first : h.first ≡ header = cc in
    let rest : h.rest ≡ beneath = cc in
    (ap length (sym rest) ∙ h.beneath ∙ ap count_of first, ap len_of (sym first) ∙ h.len)
