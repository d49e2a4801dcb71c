-- Laws of listings.
use Rattle.std.proofs.Common.{◌≡◌, refl, sym, ◌∙◌, ap, ℕ, Bool, List, [], ◌++◌, length, drop, append_assoc}
use Rattle.std.specs.Prelude.{Some, None}
use Rattle.simd_json_parts.specs.Document.{Document, null, boolean, integer, decimal, string, array, object, Elements, no_elements}
use Rattle.simd_json_parts.specs.Document.{element, elements, Members, no_members, member, members}
use Rattle.simd_json_parts.specs.Headers.{IsHeaded}
use Rattle.simd_json_parts.specs.Integers.{number_of, integer_node}
use Rattle.simd_json_parts.specs.Listing.{listing, elements_listing, members_listing}
use Rattle.simd_json_parts.specs.Nodes.{Item, static_item, decimal_item, string_item, array_item, object_item}
use Rattle.simd_json_parts.specs.StaticNodes.{number_in}
use Rattle.simd_json_parts.specs.declared.node.StaticNode.{StaticNode}
use Rattle.simd_json_parts.specs.declared.node.StaticNode.TheVariants as fixed
use Rattle.simd_json_parts.proofs.Documents.Integers.{number_in-integer_node, integer_node_cancel}

-- A listing is a first node and as many more as its `count` says, with as many members as its `len`.
pub IsHeaded-document : (d : Document) → IsHeaded d
IsHeaded-document null = record { first = static_item fixed.Null; rest = []; whole = refl; beneath = refl; len = refl; kind = refl }
IsHeaded-document (boolean b) =
    record { first = static_item (fixed.Bool b); rest = []; whole = refl; beneath = refl; len = refl; kind = refl }
IsHeaded-document (integer minus n) =
    record { first = static_item (integer_node minus n); rest = []; whole = refl; beneath = refl; len = refl; kind = refl }
IsHeaded-document (decimal literal) =
    record { first = decimal_item literal; rest = []; whole = refl; beneath = refl; len = refl; kind = refl }
IsHeaded-document (string t) = record { first = string_item t; rest = []; whole = refl; beneath = refl; len = refl; kind = refl }
IsHeaded-document (array ds) = record {
  first = array_item (length (elements ds)) (length (elements_listing ds));
  rest = elements_listing ds;
  whole = refl;
  beneath = refl;
  len = refl;
  kind = refl;
}
IsHeaded-document (object ms) = record {
  first = object_item (length (members ms)) (length (members_listing ms));
  rest = members_listing ms;
  whole = refl;
  beneath = refl;
  len = refl;
  kind = refl;
}

-- An integer's node is no other.
no_integer : (s : StaticNode) (minus : Bool) (n : ℕ) → number_in s ≡ None → s ≡ integer_node minus n → ⊥
no_integer s minus n none e =
    let number : Some (number_of minus n) ≡ None = sym (number_in-integer_node minus n) ∙ ap number_in (sym e) ∙ none in
    cc

mutual
  -- A listing is of one document, and ends where that document does.
  pub listing_cancel : (d e : Document) (xs ys : List Item) → listing d ++ xs ≡ listing e ++ ys → (d ≡ e) × (xs ≡ ys)
  listing_cancel null null xs ys h = (refl, cc)
  listing_cancel null (integer minus n) xs ys h = absurd (no_integer fixed.Null minus n refl (cc))
  listing_cancel (integer minus n) null xs ys h = absurd (no_integer fixed.Null minus n refl (cc))
  listing_cancel (boolean a) (boolean b) xs ys h = (cc, cc)
  listing_cancel (boolean a) (integer minus n) xs ys h = absurd (no_integer (fixed.Bool a) minus n refl (cc))
  listing_cancel (integer minus n) (boolean a) xs ys h = absurd (no_integer (fixed.Bool a) minus n refl (cc))
  listing_cancel (integer minus m) (integer minus' n) xs ys h = (integer_node_cancel minus minus' m n (cc), cc)
  listing_cancel (decimal a) (decimal b) xs ys h = (cc, cc)
  listing_cancel (string a) (string b) xs ys h = (cc, cc)
  listing_cancel (array ds) (array es) xs ys h =
      let both : (ds ≡ es) × (xs ≡ ys) = elements_listing_cancel ds es xs ys (cc) (cc) in
      (ap array both.0, both.1)
  listing_cancel (object ms) (object ns) xs ys h =
      let both : (ms ≡ ns) × (xs ≡ ys) = members_listing_cancel ms ns xs ys (cc) (cc) in
      (ap object both.0, both.1)
  listing_cancel _ _ xs ys h = cc

  elements_listing_cancel : (ds es : Elements) (xs ys : List Item) → length (elements ds) ≡ length (elements es)
      → elements_listing ds ++ xs ≡ elements_listing es ++ ys → (ds ≡ es) × (xs ≡ ys)
  elements_listing_cancel no_elements no_elements xs ys k h = (refl, h)
  elements_listing_cancel (element d ds) (element e es) xs ys k h =
      let first : (d ≡ e) × (elements_listing ds ++ xs ≡ elements_listing es ++ ys) = listing_cancel d e _ _ (simp append_assoc at h) in
      let rest : (ds ≡ es) × (xs ≡ ys) = elements_listing_cancel ds es xs ys (cc) first.1 in
      (cc, rest.1)
  elements_listing_cancel _ _ xs ys k h = cc

  members_listing_cancel : (ms ns : Members) (xs ys : List Item) → length (members ms) ≡ length (members ns)
      → members_listing ms ++ xs ≡ members_listing ns ++ ys → (ms ≡ ns) × (xs ≡ ys)
  members_listing_cancel no_members no_members xs ys k h = (refl, h)
  members_listing_cancel (member a d ms) (member b e ns) xs ys k h =
      let first : (d ≡ e) × (members_listing ms ++ xs ≡ members_listing ns ++ ys) =
      listing_cancel d e _ _ (simp append_assoc at (ap (drop 1) h)) in
      let rest : (ms ≡ ns) × (xs ≡ ys) = members_listing_cancel ms ns xs ys (cc) first.1 in
      (cc, rest.1)
  members_listing_cancel _ _ xs ys k h = cc
