-- Bytes denote one document at most: a value at the front of bytes and all in it are determined from left to right, by the bytes alone.
use Rattle.std.proofs.Common.{◌≡◌, refl, sym, ◌∙◌, ap, subst, ℕ, inl, inr, List, [], ◌∷◌, ◌++◌, drop, append_assoc}
use Rattle.std.specs.Prelude.{codes}
use Rattle.std.proofs.lemmas.Bool.{eqb-false}
use Rattle.simd_json_parts.specs.Bytes.{comma, colon, right_bracket, right_brace, byte_at}
use Rattle.simd_json_parts.specs.Document.{Document, null, boolean, integer, decimal, string, array, object, Elements, no_elements}
use Rattle.simd_json_parts.specs.Document.{element, Members, no_members, member}
use Rattle.simd_json_parts.specs.Grammar.{IsWhitespace, Spaced, Joined, IsValue, AreMoreMembers, Denotes}
use Rattle.simd_json_theorems.proofs.Containers.{Container, in_array, in_object, AreValueRow, rest-Delimited}
use Rattle.simd_json_theorems.proofs.Unique.LeadingBytes.{leading, value-leads, value-NoSpace, Leads-one}
use Rattle.simd_json_theorems.proofs.Unique.ScalarPrefixes.{boolean-one, integer-one, decimal-one, integer-decimal, string-one}
use Rattle.simd_json_theorems.proofs.Unique.SpacedPrefixes.{Ended, Delimited, OnePrefix, OneUpTo, append-replace, space-one}
use Rattle.simd_json_theorems.proofs.Unique.SpacedPrefixes.{spaced-one, space-nothing, joined-one, after-one}

-- Values at the front of the same bytes begin with the same class of byte.
same-leading : (d e : Document) (xs ys r s : List ℕ) → IsValue d xs → IsValue e ys → xs ++ r ≡ ys ++ s → leading d ≡ leading e
same-leading d e xs ys r s h g f = Leads-one (leading d) (leading e) xs ys r s (value-leads d xs h) (value-leads e ys g) f

-- ---- rows, given that what is in them is determined

module _ (c : Container) where
  -- an item and what is more of it
  abbrev ItemRow : c.Item × c.More → List ℕ → Type 0
  ItemRow p bs = Joined (Spaced (c.IsItem p.0)) (c.AreMore p.1) bs

  -- Both are determined, where each is.
  item_row-one : (i : c.Item) (m : c.More) → OnePrefix c.Item c.IsItem Ended i → OneUpTo c.More c.last c.AreMore m
      → ((n : c.More) (xs rest : List ℕ) → c.AreMore n xs → Delimited (xs ++ c.last ∷ rest))
      → OneUpTo (c.Item × c.More) c.last ItemRow (i, m)
  item_row-one i m item more ends =
      joined-one c.Item c.More c.last (λ k. Spaced (c.IsItem k)) c.AreMore ends i m (spaced-one c.Item c.IsItem c.item_NoSpace i item) more

  -- what a row begins with is determined
  abbrev StartsOne : c.Row → Type 0
  StartsOne r = (i : c.Item) (m : c.More) → r ≡ c.some i m → OneUpTo (c.Item × c.More) c.last ItemRow (i, m)

  -- Nothing but whitespace up to a closing bracket is no item.
  no_item : (i : c.Item) (m : c.More) (xs ys u v : List ℕ) → IsWhitespace xs → ItemRow (i, m) ys
      → xs ++ c.last ∷ u ≡ ys ++ c.last ∷ v → ⊥
  no_item i m xs ys u v w h e =
      space-nothing c.last (c.IsItem i) (c.last_ends u).1 (c.item_NoSpace i) (c.item_not_last i) xs h.left u
      (h.right ++ c.last ∷ v) w h.left_holds
      (e ∙ ap (λ us. us ++ c.last ∷ v) h.whole ∙ append_assoc h.left h.right (c.last ∷ v))

  -- So is what stands between brackets,
  whole-one : (r : c.Row) → StartsOne r → OneUpTo c.Row c.last c.IsWhole r
  whole-one r one y xs ys u v h g f =
      elim (c.whole_cases r xs h) [
        | inl (e, w) ↦ elim (c.whole_cases y ys g) [
          | inl (e', w') ↦ (
            e ∙ sym e',
            ap (drop 1) (space-one xs ys (c.last ∷ u) (c.last ∷ v) w w' (c.last_ends u).1 (c.last_ends v).1 f),
          )
          | inr (i, m, _, j) ↦ absurd (no_item i m xs ys u v w j f)
        ]
        | inr (i, m, e, j) ↦ elim (c.whole_cases y ys g) [
          | inl (_, w) ↦ absurd (no_item i m ys xs v u w j (sym f))
          | inr (k, n, e', j') ↦
              let same : ((i, m) ≡ (k, n)) × (u ≡ v) = one i m e (k, n) xs ys u v j j' f in
              (e ∙ ap (λ (p : c.Item × c.More). c.some p.0 p.1) same.0 ∙ sym e', same.1)
        ]
      ]

  -- A closing bracket is no comma, so no more stands before it where it stands first.
  no_comma : (xs ys zs u s : List ℕ) → xs ≡ [] → ys ≡ comma ∷ zs → xs ++ c.last ∷ u ≡ ys ++ s → ⊥
  no_comma xs ys zs u s h g e = c.last_no_comma (ap (λ us. byte_at us 0) (append-replace xs ys [] (comma ∷ zs) (c.last ∷ u) s h g e))

  -- and what stands after an item and what is more of it.
  rest-one : (r : c.Row) → StartsOne r → OneUpTo c.Row c.last c.IsRest r
  rest-one r one y xs ys u v h g f =
      elim (c.rest_cases r xs h) [
        | inl (e, w) ↦ elim (c.rest_cases y ys g) [
          | inl (e', w') ↦ (e ∙ sym e', ap (drop 1) (append-replace xs ys [] [] (c.last ∷ u) (c.last ∷ v) w w' f))
          | inr (i, m, _, (zs, k, _)) ↦ absurd (no_comma xs ys zs u (c.last ∷ v) w k f)
        ]
        | inr (i, m, e, j) ↦ elim (c.rest_cases y ys g) [
          | inl (_, w) ↦ absurd (no_comma ys xs j.0 v (c.last ∷ u) w j.1 (sym f))
          | inr (k, n, e', j') ↦
              let same : ((i, m) ≡ (k, n)) × (u ≡ v) =
              after-one (c.Item × c.More) comma c.last ItemRow (i, m) (one i m e) (k, n) xs ys u v j j' f in
              (e ∙ ap (λ (p : c.Item × c.More). c.some p.0 p.1) same.0 ∙ sym e', same.1)
        ]
      ]

-- What stands after a name is determined.
value_row-one : (d : Document) (ms : Members) → OnePrefix Document IsValue Ended d → OneUpTo Members right_brace AreMoreMembers ms
    → OneUpTo (Document × Members) right_brace AreValueRow (d, ms)
value_row-one d ms value more =
    after-one (Document × Members) colon right_brace (λ p. Joined (Spaced (IsValue p.0)) (AreMoreMembers p.1)) (d, ms)
    (joined-one Document Members right_brace (λ e. Spaced (IsValue e)) AreMoreMembers (rest-Delimited in_object) d ms
    (spaced-one Document IsValue value-NoSpace d value) more)

-- ---- by induction on the first document

mutual
  -- A value is determined, where its end stands after it.
  pub value-one : (d : Document) → OnePrefix Document IsValue Ended d
  value-one null null xs ys r s h g f t u = (refl, ap (drop 4) (append-replace xs ys (codes "null") (codes "null") r s h g f))
  value-one (boolean a) (boolean b) xs ys r s h g f t u = boolean-one a b xs ys r s h g f
  value-one (integer minus m) (integer minus' n) xs ys r s h g f t u = integer-one minus minus' m n xs ys r s h g f t u
  value-one (integer minus m) (decimal literal) xs ys r s h g f t u = absurd (integer-decimal minus m literal xs ys r s h g f t u)
  value-one (decimal literal) (integer minus n) xs ys r s h g f t u = absurd (integer-decimal minus n literal ys xs s r g h (sym f) u t)
  value-one (decimal literal) (decimal literal') xs ys r s h g f t u = decimal-one literal literal' xs ys r s h g f t u
  value-one (string a) (string b) xs ys r s h g f t u =
      let same : (a ≡ b) × (r ≡ s) = string-one a b xs ys r s h g f in
      (ap string same.0, same.1)
  value-one (array ds) (array es) xs ys r s (inner, e, h) (inner', e', g) f t u =
      let same : (ds ≡ es) × (r ≡ s) =
      whole-one in_array ds (elements-start ds) es inner inner' r s h g
      (ap (drop 1) (simp append_assoc at (append-replace xs ys _ _ r s e e' f))) in
      (ap array same.0, same.1)
  value-one (object ms) (object ns) xs ys r s (inner, e, h) (inner', e', g) f t u =
      let same : (ms ≡ ns) × (r ≡ s) =
      whole-one in_object ms (members-start ms) ns inner inner' r s h g
      (ap (drop 1) (simp append_assoc at (append-replace xs ys _ _ r s e e' f))) in
      (ap object same.0, same.1)
  value-one d e xs ys r s h g f t u = absurd (eqb-false (leading d) (leading e) refl (same-leading d e xs ys r s h g f))

  -- What elements and members begin with is determined.
  elements-start : (ds : Elements) → StartsOne in_array ds
  elements-start no_elements d es e = absurd (cc)
  elements-start (element d ds) d' es e =
      let one : OneUpTo (Document × Elements) right_bracket (ItemRow in_array) (d, ds) =
      item_row-one in_array d ds (value-one d) (rest-one in_array ds (elements-start ds)) (rest-Delimited in_array) in
      subst (OneUpTo (Document × Elements) right_bracket (ItemRow in_array)) (cc) one

  members-start : (ms : Members) → StartsOne in_object ms
  members-start no_members k p e = absurd (cc)
  members-start (member k d ms) k' p e =
      let one : OneUpTo (List ℕ × (Document × Members)) right_brace (ItemRow in_object) (k, (d, ms)) =
      item_row-one in_object k (d, ms) (λ l xs ys r s h g e t u. string-one k l xs ys r s h g e)
      (value_row-one d ms (value-one d) (rest-one in_object ms (members-start ms)))
      (λ p xs rest h. subst (λ us. Delimited (us ++ right_brace ∷ rest)) (sym h.1) (refl, refl)) in
      subst (OneUpTo (List ℕ × (Document × Members)) right_brace (ItemRow in_object)) (cc) one

-- Bytes denote one document at most.
pub document-one : (b : List ℕ) (d e : Document) → Denotes b d → Denotes b e → d ≡ e
document-one b d e h g = (spaced-one Document IsValue value-NoSpace d (value-one d) e b b [] [] h g refl (refl, tt) (refl, tt)).0
