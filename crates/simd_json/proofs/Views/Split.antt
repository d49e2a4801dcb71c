-- The first of documents in a row, or of pairs, and the others.
use Rattle.std.proofs.Common.{◌≡◌, ◌∙◌, ap, sym, refl, ◌<◌, ◌-◌, ℕ, false, List, [], ◌∷◌, ◌++◌, length, map, take}
use Rattle.std.proofs.Common.{drop, get_or, None, Bor, arith}
use Rattle.std.proofs.lemmas.List.{append_cancel_left}
use Rattle.simd_json_parts.specs.Document.{Document, string, array, object, Elements, no_elements, element, elements, Members}
use Rattle.simd_json_parts.specs.Document.{no_members, member, members}
use Rattle.simd_json_parts.specs.Listing.{listing, elements_listing, members_listing}
use Rattle.simd_json.specs.Tapes.{StandsFor}
use Rattle.simd_json_parts.specs.Nodes.{Item, string_item, item_of}
use Rattle.simd_json_parts.specs.Views.{get, get_idx, is_object, is_array}
use Rattle.simd_json_parts.specs.declared.node.Node.{Node}
use Rattle.simd_json_parts.specs.declared.node.Node.TheVariants as nodes
use Rattle.simd_json.specs.Documents.{elements_of, members_of, in_pairs, AreElementNodes, AreMemberNodes}
use Rattle.simd_json.proofs.Views.Listed.{elements_of-listing}

-- ---- documents in a row

elements-empty : (ds : Elements) → length (elements ds) ≡ 0 → ds ≡ no_elements
elements-empty no_elements none = refl
elements-empty (element d ds) none = cc

pub no-elements : (ds : Elements) (len : ℕ) → len ≡ length (elements ds) → len ≡ 0 → ds ≡ no_elements
no-elements ds len counted none = elements-empty ds (sym counted ∙ none)

begins-with : (ns : List Node) (ds : Elements) → elements_listing ds ≡ map item_of ns → 0 < length (elements ds)
    → (d : Document) × StandsFor ns d
begins-with ns no_elements is some = absurd (omega arith)
begins-with ns (element d ds) is some = (d, (elements_listing ds, sym is))

pub begins : (ns : List Node) (len : ℕ) → AreElementNodes (map item_of ns) → len ≡ length (elements (elements_of (map item_of ns)))
    → 0 < len → (d : Document) × StandsFor ns d
begins ns len listed counted some = begins-with ns (elements_of (map item_of ns)) listed (omega arith)

-- without the first of `len` documents
pub record IsWithoutFirst (xs : List Item) (len : ℕ) (d : Document) (ys : List Item) : Type 0 where
  pub listed : AreElementNodes ys
  pub counted : len - 1 ≡ length (elements (elements_of ys))
  pub whole : elements_of xs ≡ element d (elements_of ys)

pub without-first : (xs ys : List Item) (len : ℕ) (d : Document) → AreElementNodes xs → len ≡ length (elements (elements_of xs))
    → xs ≡ listing d ++ ys → IsWithoutFirst xs len d ys
without-first xs ys len d listed counted is =
    let whole : elements_of xs ≡ element d (elements_of ys) = ap elements_of is ∙ elements_of-listing d ys in
    let same : listing d ++ elements_listing (elements_of ys) ≡ listing d ++ ys = ap elements_listing (sym whole) ∙ listed ∙ is in
    record {
      listed = append_cancel_left (listing d) (elements_listing (elements_of ys)) ys same;
      counted = omega (arith, ap (λ ds. length (elements ds)) whole);
      whole = whole;
    }

-- ---- pairs

-- without the first of `len` pairs
pub record IsWithoutPair (xs : List Item) (len : ℕ) (k : List ℕ) (d : Document) (ys : List Item) : Type 0 where
  pub listed : AreMemberNodes ys
  pub counted : len - 1 ≡ length (members (members_of ys))
  pub whole : members_of xs ≡ member k d (members_of ys)

pub without-pair : (xs zs ys : List Item) (len : ℕ) (k : List ℕ) (d : Document) → AreMemberNodes xs
    → len ≡ length (members (members_of xs)) → xs ≡ string_item k ∷ zs → zs ≡ listing d ++ ys → IsWithoutPair xs len k d ys
without-pair xs zs ys len k d listed counted headed is =
    let whole : members_of xs ≡ member k d (members_of ys) =
    ap members_of headed ∙ ap (λ ns. in_pairs (element (string k) (elements_of ns))) is
    ∙ ap (λ ds. in_pairs (element (string k) ds)) (elements_of-listing d ys) in
    let same : string_item k ∷ (listing d ++ members_listing (members_of ys)) ≡ string_item k ∷ (listing d ++ ys) =
    ap members_listing (sym whole) ∙ listed ∙ headed ∙ ap (λ ns. string_item k ∷ ns) is in
    record {
      listed = append_cancel_left (listing d) (members_listing (members_of ys)) ys (cc);
      counted = omega (arith, ap (λ ms. length (members ms)) whole);
      whole = whole;
    }

-- nodes that list a pair begin with its name
some-nodes : (ns : List Node) (ms : Members) → members_listing ms ≡ map item_of ns → 0 < length (members ms) → 0 < length ns
some-nodes ns no_members is some = absurd (omega arith)
some-nodes [] (member k d ms) is some = cc
some-nodes (n ∷ ns) (member k d ms) is some = omega arith

headed : (ns : List Node) (default : Node) (key : Bor (List ℕ)) → 0 < length ns → get_or (take 1 ns) 0 default ≡ nodes.String key
    → map item_of ns ≡ string_item key.now ∷ map item_of (drop 1 ns)
headed [] default key some is = absurd (omega arith)
headed (n ∷ ns) default key some is = ap (λ x. item_of x ∷ map item_of ns) is

pub headed-by : (ns first others : List Node) (default : Node) (key : Bor (List ℕ)) (len : ℕ) → AreMemberNodes (map item_of ns)
    → len ≡ length (members (members_of (map item_of ns))) → 0 < len
    → first ≡ take 1 ns → others ≡ drop 1 ns → get_or first 0 default ≡ nodes.String key
    → map item_of ns ≡ string_item key.now ∷ map item_of others
headed-by ns first others default key len listed counted some front back is =
    headed ns default key (some-nodes ns (members_of (map item_of ns)) listed (omega arith))
    (ap (λ xs. get_or xs 0 default) (sym front) ∙ is)
    ∙ ap (λ xs. string_item key.now ∷ map item_of xs) (sym back)

-- ---- look-up
