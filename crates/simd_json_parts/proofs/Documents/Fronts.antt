-- A document at the front of nodes.
use Rattle.std.proofs.Common.{◌≡◌, ◌∙◌, ap, sym, ◌<◌, ◌≤◌, ◌+◌, ℕ, List, [], ◌∷◌, ◌++◌, length, length-append, get_or, map, take}
use Rattle.std.proofs.Common.{drop, arith}
use Rattle.std.proofs.Math.Seq.{take-append_seam, drop-append_seam}
use Rattle.std.proofs.lemmas.List.{length-map, take-map, drop-map}
use Rattle.simd_json_parts.proofs.Documents.Listing.{IsHeaded-document}
use Rattle.simd_json_parts.specs.Document.{Document}
use Rattle.simd_json_parts.specs.Listing.{listing}
use Rattle.simd_json_parts.specs.Nodes.{Item, item_of}
use Rattle.simd_json_parts.specs.Headers.{count_of}
use Rattle.simd_json_parts.specs.declared.node.Node.{Node}

-- it has a node
pub positive : (d : Document) → 0 < length (listing d)
positive d = let h = IsHeaded-document d in omega (arith, ap length h.whole)

-- it has as many nodes as its first node says
pub sized : (ns : List Node) (default x : Node) (d : Document) (rest : List Item) → map item_of ns ≡ listing d ++ rest
    → get_or ns 0 default ≡ x → count_of (item_of x) + 1 ≡ length (listing d)
sized [] default x d rest is at = absurd (omega (arith, positive d, ap length is, length-append (listing d) rest))
sized (y ∷ ns) default x d rest is at =
    let h = IsHeaded-document d in
    let front : item_of y ∷ map item_of ns ≡ h.first ∷ (h.rest ++ rest) = is ∙ ap (λ xs. xs ++ rest) h.whole in
    let same : item_of x ≡ h.first = ap item_of (sym at) ∙ cc in
    omega (arith, ap count_of same, h.beneath, ap length h.whole)

-- no more than there are
pub within : (ns : List Node) (d : Document) (rest : List Item) → map item_of ns ≡ listing d ++ rest → length (listing d) ≤ length ns
within ns d rest is = omega (arith, ap length is, length-append (listing d) rest, length-map ns item_of)

-- they are its listing
pub front-listed : (ns : List Node) (d : Document) (rest : List Item) (n : ℕ) → map item_of ns ≡ listing d ++ rest → n ≡ length (listing d)
    → (map item_of (take n ns) ≡ listing d) × (map item_of (drop n ns) ≡ rest)
front-listed ns d rest n is whole = (
  sym (take-map item_of n ns) ∙ ap (take n) is ∙ ap (λ k. take k (listing d ++ rest)) whole ∙ take-append_seam (listing d) rest,
  sym (drop-map item_of n ns) ∙ ap (drop n) is ∙ ap (λ k. drop k (listing d ++ rest)) whole ∙ drop-append_seam (listing d) rest,
)
