-- What is at most so many levels beneath a document is all, where the document is no deeper.
use Rattle.std.proofs.Common.{◌≡◌, ◌∙◌, ap, refl, ◌≤◌, ◌∷◌, ◌++◌, ℕ, zero, suc, length, length-append, arith, flat_map}
use Rattle.simd_json_parts.specs.Document.{Document, array, object, Elements, no_elements, element, elements, Members, no_members, member}
use Rattle.simd_json_parts.specs.Limits.{depth, elements_depth, members_depth}
use Rattle.simd_json_parts.specs.Listing.{listing, elements_listing, members_listing}
use Rattle.simd_json_parts.specs.Views.{values}
use Rattle.simd_json.specs.Beneath.{beneath, descendants, among_elements, among_members}

mutual
  pub within-depth : (d : Document) (n : ℕ) → depth d ≤ n → beneath n d ≡ descendants d
  within-depth (array ds) zero within = absurd (omega arith)
  within-depth (array ds) (suc n) within = ap (λ es. array ds ∷ es) (elements-within ds n (omega arith))
  within-depth (object ms) zero within = absurd (omega arith)
  within-depth (object ms) (suc n) within = ap (λ es. object ms ∷ es) (members-within ms n (omega arith))
  within-depth _ zero within = refl
  within-depth _ (suc n) within = refl

  elements-within : (ds : Elements) (n : ℕ) → elements_depth ds ≤ n → flat_map (beneath n) (elements ds) ≡ among_elements ds
  elements-within no_elements n within = refl
  elements-within (element d ds) n within =
      ap (λ es. es ++ flat_map (beneath n) (elements ds)) (within-depth d n (omega arith))
      ∙ ap (λ es. descendants d ++ es) (elements-within ds n (omega arith))

  members-within : (ms : Members) (n : ℕ) → members_depth ms ≤ n → flat_map (beneath n) (values ms) ≡ among_members ms
  members-within no_members n within = refl
  members-within (member k d ms) n within =
      ap (λ es. es ++ flat_map (beneath n) (values ms)) (within-depth d n (omega arith))
      ∙ ap (λ es. descendants d ++ es) (members-within ms n (omega arith))

-- ---- each value takes a node

mutual
  pub beneath-few : (n : ℕ) (d : Document) → length (beneath n d) ≤ length (listing d)
  beneath-few (suc n) (array ds) = omega (arith, elements-few n ds)
  beneath-few (suc n) (object ms) = omega (arith, members-few n ms)
  beneath-few zero (array ds) = omega arith
  beneath-few zero (object ms) = omega arith
  beneath-few zero _ = omega arith
  beneath-few (suc n) _ = omega arith

  elements-few : (n : ℕ) (ds : Elements) → length (flat_map (beneath n) (elements ds)) ≤ length (elements_listing ds)
  elements-few n no_elements = omega arith
  elements-few n (element d ds) =
      let parts = length-append (beneath n d) (flat_map (beneath n) (elements ds)) in
      let nodes = length-append (listing d) (elements_listing ds) in
      omega (arith, beneath-few n d, elements-few n ds)

  members-few : (n : ℕ) (ms : Members) → length (flat_map (beneath n) (values ms)) ≤ length (members_listing ms)
  members-few n no_members = omega arith
  members-few n (member k d ms) =
      let parts = length-append (beneath n d) (flat_map (beneath n) (values ms)) in
      let nodes = length-append (listing d) (members_listing ms) in
      omega (arith, beneath-few n d, members-few n ms)
