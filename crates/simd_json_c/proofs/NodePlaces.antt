-- Which of the structural indexes are left of those at which a node begins.
use Rattle.std.proofs.Common.{◌≡◌, ◌∙◌, ap, ℕ, zero, suc, ◌+◌, ◌-◌, ◌<◌, List, ◌∷◌, length, drop, get_or, true, false, arith}
use Rattle.std.specs.Prelude.{Some, slice_get}
use Rattle.std.proofs.lemmas.Bool.{cond-true, cond-false}
use Rattle.std.proofs.lemmas.List.{drop_more}
use Rattle.simd_json_parts.specs.Bytes.{byte_at}
use Rattle.simd_json_c.specs.Located.{begins_node, node_places}

module _ (b is : List ℕ) (i : ℕ) (inside : i < length is) where
  split : drop i is ≡ get_or is i 0 ∷ drop (i + 1) is
  split = drop_more is i 0 inside

  here : begins_node (byte_at b (get_or is i 0)) ≡ true
      → node_places b (drop i is) ≡ get_or is i 0 ∷ node_places b (drop (i + 1) is)
  here t = ap (node_places b) split ∙ cond-true _ _ _ t

  pub between : begins_node (byte_at b (get_or is i 0)) ≡ false → node_places b (drop i is) ≡ node_places b (drop (i + 1) is)
  between f = ap (node_places b) split ∙ cond-false _ _ _ f

  pub this-one : begins_node (byte_at b (get_or is i 0)) ≡ true → slice_get (node_places b (drop i is)) 0 ≡ Some (get_or is i 0)
  this-one t = ap (λ ns. slice_get ns 0) (here t)

  pub later : begins_node (byte_at b (get_or is i 0)) ≡ true → (left : ℕ) → 0 < left
      → slice_get (node_places b (drop i is)) left ≡ slice_get (node_places b (drop (i + 1) is)) (left - 1)
  later t zero some = absurd (omega arith)
  later t (suc left) some =
      ap (λ ns. slice_get ns (suc left)) (here t)
      ∙ ap (slice_get (node_places b (drop (i + 1) is))) {x = left} {y = suc left - 1} (omega arith)
