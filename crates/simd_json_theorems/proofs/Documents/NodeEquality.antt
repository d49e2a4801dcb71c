-- Documents are equal exactly if their nodes are, one by one.
use Rattle.std.proofs.Common.{◌≡◌, refl, sym, ◌∙◌, ap, ap₂, Bool, true, false, not, ◌&&◌, ◌==◌, ℕ, ℤ, pos, negsuc, suc, zero, List}
use Rattle.std.proofs.Common.{[], ◌∷◌, ◌++◌, map, length, Decides, arith}
use Rattle.std.specs.Cmp.{booleans_Decides}
use Rattle.std.specs.Option.{option_eq}
use Rattle.std.specs.Prelude.{Option, Some, None}
use Rattle.std.proofs.lemmas.Bool.Decides.{Decides-and, Decides-int_eq, Decides-like, same_from_decides}
use Rattle.std.proofs.lemmas.List.{length-map, map-append}
use Rattle.std.proofs.lemmas.Slice.Eq.{bytes_eq-Decides}
use Rattle.simd_json_parts.specs.Document.{Document, null, boolean, integer, decimal, string, array, object, Elements, no_elements}
use Rattle.simd_json_parts.specs.Document.{element, elements, Members, no_members, member, members}
use Rattle.simd_json_parts.specs.Equality.{equal}
use Rattle.simd_json_theorems.specs.Normalized.{normalized, normalized_elements, normalized_members}
use Rattle.simd_json_parts.specs.Integers.{number_of, integer_node}
use Rattle.simd_json_parts.specs.Listing.{listing, elements_listing, members_listing}
use Rattle.simd_json_theorems.specs.NodeEquality.{same_item, same_items}
use Rattle.simd_json_parts.specs.Nodes.{Item, static_item, decimal_item, string_item, array_item, object_item}
use Rattle.simd_json_parts.specs.StaticNodes.{truth_of, number_in, same_static}
use Rattle.simd_json_parts.specs.declared.node.StaticNode.{StaticNode}
use Rattle.simd_json_parts.specs.declared.node.StaticNode.TheVariants as fixed
use Rattle.simd_json_theorems.proofs.Documents.Equality.{Decides-equal}
use Rattle.simd_json_parts.proofs.Documents.Integers.{number_in-integer_node, truth_of-integer_node}
use Rattle.simd_json_parts.proofs.Documents.Listing.{listing_cancel}

-- the node of a number, which has a sign only where it is negative
abbrev node_of : ℤ → StaticNode
node_of (pos n) = integer_node false n
node_of (negsuc n) = integer_node true (suc n)

abbrev node_with : Option Bool → Option ℤ → StaticNode
node_with (Some b) number = fixed.Bool b
node_with None (Some z) = node_of z
node_with None None = fixed.Null

abbrev normalized_static : StaticNode → StaticNode
normalized_static s = node_with (truth_of s) (number_in s)

abbrev normalized_item : Item → Item
normalized_item (static_item s) = static_item (normalized_static s)
normalized_item x = x

-- ---- nodes are equal exactly if they are then the same

abbrev key : StaticNode → Option Bool × Option ℤ
key s = (truth_of s, number_in s)

Decides-option : {A : Type 0} {E : A → A → Bool} → ((a b : A) → Decides (E a b) (a ≡ b)) → (x y : Option A)
    → Decides (option_eq E x y) (x ≡ y)
Decides-option d None None = (λ h. refl, λ h. refl)
Decides-option d (Some a) (Some b) = Decides-like _ (λ h. cc) (λ h. cc) (d a b)
Decides-option d _ _ = (λ h. cc, λ h. cc)

Decides-key : (a b : StaticNode) → Decides (same_static a b) (key a ≡ key b)
Decides-key a b =
    Decides-like _ (λ h. ap₂ (λ t n. (t, n)) h.0 h.1) (λ h. (ap (λ k. k.0) h, ap (λ k. k.1) h))
    (Decides-and _ _ (Decides-option booleans_Decides (truth_of a) (truth_of b))
    (Decides-option Decides-int_eq (number_in a) (number_in b)))

key-node_of : (z : ℤ) → key (node_of z) ≡ (None, Some z)
key-node_of (pos n) = ap₂ (λ t n. (t, n)) (truth_of-integer_node false n) (number_in-integer_node false n)
key-node_of (negsuc n) = ap₂ (λ t n. (t, n)) (truth_of-integer_node true (suc n)) (number_in-integer_node true (suc n))

key-normalized : (s : StaticNode) → key (normalized_static s) ≡ key s
key-normalized fixed.Null = refl
key-normalized (fixed.Bool b) = refl
key-normalized (fixed.I64 z) = key-node_of z
key-normalized (fixed.U64 n) = key-node_of (pos n)
key-normalized (fixed.I128 z) = key-node_of z
key-normalized (fixed.U128 n) = key-node_of (pos n)

Decides-same_static : (a b : StaticNode) → Decides (same_static a b) (normalized_static a ≡ normalized_static b)
Decides-same_static a b =
    Decides-like _ (λ h. ap (λ k. node_with k.0 k.1) h) (λ h. sym (key-normalized a) ∙ ap key h ∙ key-normalized b) (Decides-key a b)

Decides-same_item : (x y : Item) → Decides (same_item x y) (normalized_item x ≡ normalized_item y)
Decides-same_item (static_item a) (static_item b) = Decides-like _ (λ h. cc) (λ h. cc) (Decides-same_static a b)
Decides-same_item (decimal_item a) (decimal_item b) = Decides-like _ (λ h. cc) (λ h. cc) (bytes_eq-Decides a b)
Decides-same_item (string_item a) (string_item b) = Decides-like _ (λ h. cc) (λ h. cc) (bytes_eq-Decides a b)
Decides-same_item (array_item m c) (array_item n d) = (λ h. grind arith, λ h. grind arith)
Decides-same_item (object_item m c) (object_item n d) = (λ h. grind arith, λ h. grind arith)
Decides-same_item _ _ = (λ h. cc, λ h. cc)

Decides-same_items : (xs ys : List Item) → Decides (same_items xs ys) (map normalized_item xs ≡ map normalized_item ys)
Decides-same_items [] [] = (λ h. refl, λ h. refl)
Decides-same_items (x ∷ xs) (y ∷ ys) =
    Decides-like _ (λ h. cc) (λ h. (cc, cc)) (Decides-and _ _ (Decides-same_item x y) (Decides-same_items xs ys))
Decides-same_items _ _ = (λ h. cc, λ h. cc)

-- ---- the nodes of a document

length-normalized_elements : (ds : Elements) → length (elements (normalized_elements ds)) ≡ length (elements ds)
length-normalized_elements no_elements = refl
length-normalized_elements (element d ds) = ap suc (length-normalized_elements ds)

length-normalized_members : (ms : Members) → length (members (normalized_members ms)) ≡ length (members ms)
length-normalized_members no_members = refl
length-normalized_members (member k d ms) = ap suc (length-normalized_members ms)

normalized-integer_node : (minus : Bool) (n : ℕ) → normalized_static (integer_node minus n) ≡ integer_node (minus && not (n == 0)) n
normalized-integer_node minus n = ap₂ node_with (truth_of-integer_node minus n) (number_in-integer_node minus n) ∙ by_sign minus n
  where
    by_sign : (minus : Bool) (n : ℕ) → node_of (number_of minus n) ≡ integer_node (minus && not (n == 0)) n
    by_sign true zero = refl
    by_sign true (suc n) = let signed : (suc n == 0) ≡ false = grind arith in rw signed
    by_sign false n = refl

mutual
  -- A document without the sign of a zero has the nodes without the sign of a zero.
  listing-normalized : (d : Document) → map normalized_item (listing d) ≡ listing (normalized d)
  listing-normalized null = refl
  listing-normalized (boolean b) = refl
  listing-normalized (integer minus n) = ap (λ s. static_item s ∷ []) (normalized-integer_node minus n)
  listing-normalized (decimal literal) = refl
  listing-normalized (string t) = refl
  listing-normalized (array ds) =
      let beneath = elements_listing-normalized ds in
      let counted : length (elements_listing (normalized_elements ds)) ≡ length (elements_listing ds) =
      ap length (sym beneath) ∙ length-map (elements_listing ds) normalized_item in
      rw (beneath, length-normalized_elements ds, counted)
  listing-normalized (object ms) =
      let beneath = members_listing-normalized ms in
      let counted : length (members_listing (normalized_members ms)) ≡ length (members_listing ms) =
      ap length (sym beneath) ∙ length-map (members_listing ms) normalized_item in
      rw (beneath, length-normalized_members ms, counted)

  elements_listing-normalized : (ds : Elements) → map normalized_item (elements_listing ds) ≡ elements_listing (normalized_elements ds)
  elements_listing-normalized no_elements = refl
  elements_listing-normalized (element d ds) = rw (map-append, listing-normalized d, elements_listing-normalized ds)

  members_listing-normalized : (ms : Members) → map normalized_item (members_listing ms) ≡ members_listing (normalized_members ms)
  members_listing-normalized no_members = refl
  members_listing-normalized (member k d ms) =
      rw (map-append normalized_item (listing d) (members_listing ms), listing-normalized d, members_listing-normalized ms)

-- ---- both

Decides-same_items-listing : (d e : Document) → Decides (same_items (listing d) (listing e)) (normalized d ≡ normalized e)
Decides-same_items-listing d e =
    let left = listing-normalized d in
    let right = listing-normalized e in
    Decides-like _
    (λ h. (listing_cancel (normalized d) (normalized e) [] [] (ap (λ xs. xs ++ []) (sym left ∙ h ∙ right))).0)
    (λ h. left ∙ ap listing h ∙ sym right)
    (Decides-same_items (listing d) (listing e))

pub same_items-listing : (d e : Document) → same_items (listing d) (listing e) ≡ equal d e
same_items-listing d e = same_from_decides _ _ (Decides-same_items-listing d e) (Decides-equal d e)
