-- Values are equal exactly if their nodes are, one by one.
use Rattle.std.proofs.Common.{◌≡◌, ◌∙◌, refl, ap, sym, List, [], ◌∷◌, map}
use Rattle.std.specs.Cmp.Lexicographic.{pointwise}
use Rattle.simd_json_theorems.proofs.Documents.NodeEquality.{same_items-listing}
use Rattle.simd_json_parts.specs.Equality.{equal}
use Rattle.simd_json_parts.specs.Listing.{listing}
use Rattle.simd_json_theorems.specs.NodeEquality.{same_item, same_items}
use Rattle.simd_json_parts.specs.Nodes.{item_of}
use Rattle.simd_json_parts.specs.contracts.node.NodePartialEq.TheImpl as node_eq
use Rattle.simd_json_parts.specs.declared.node.Node.{Node}
use Rattle.simd_json_parts.specs.declared.node.Node.TheVariants as nodes
use Rattle.simd_json.specs.Documents.{IsListing, document_of}

-- what `==` says of two nodes, without where their strings lie
same-nodes : (x y : Node) → node_eq.ghosts.eq x y ≡ same_item (item_of x) (item_of y)
same-nodes (nodes.String s) (nodes.String t) = refl
same-nodes (nodes.Decimal s) (nodes.Decimal t) = refl
same-nodes (nodes.Static s) (nodes.Static t) = refl
same-nodes (nodes.Array m c) (nodes.Array n d) = refl
same-nodes (nodes.Object m c) (nodes.Object n d) = refl
same-nodes _ _ = refl

same-items : (xs ys : List Node) → pointwise node_eq.ghosts.eq xs ys ≡ same_items (map item_of xs) (map item_of ys)
same-items [] [] = refl
same-items [] (y ∷ ys) = refl
same-items (x ∷ xs) [] = refl
same-items (x ∷ xs) (y ∷ ys) = rw (same-nodes x y, same-items xs ys)

pub compared : (vs ws xs ys : List Node) → vs ≡ xs → ws ≡ ys → IsListing (map item_of xs) → IsListing (map item_of ys)
    → pointwise node_eq.ghosts.eq vs ws ≡ equal (document_of (map item_of xs)) (document_of (map item_of ys))
compared vs ws xs ys left right one other =
    let d = document_of (map item_of xs) in
    let e = document_of (map item_of ys) in
    ap (λ ns. pointwise node_eq.ghosts.eq ns ws) left ∙ ap (pointwise node_eq.ghosts.eq xs) right ∙ same-items xs ys
    ∙ ap (λ ns. same_items ns (map item_of ys)) (sym one) ∙ ap (same_items (listing d)) (sym other) ∙ same_items-listing d e
