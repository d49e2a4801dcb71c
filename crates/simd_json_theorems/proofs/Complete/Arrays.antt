-- Arrays of the grammar are read, if their elements are.
use Rattle.std.proofs.Common.{◌≡◌, refl, sym, ◌∙◌, ap, subst, ℕ, zero, suc, List, [], ◌∷◌, ◌++◌, drop, append_assoc}
use Rattle.std.specs.Prelude.{Ok}
use Rattle.simd_json_parts.specs.Document.{Document, array, Elements, no_elements, element}
use Rattle.simd_json_parts.specs.Grammar.{Spaced, Joined, IsValue, AreElements, AreMoreElements}
use Rattle.simd_json_parts.specs.Tokens.{Token, Form, begin_array, end_array, value_separator}
use Rattle.simd_json_parts.specs.Descent.{◌>>=◌, Reads, element_end, elements_from, elements_by, first_element, array_from, value_from}
use Rattle.simd_json_parts.specs.declared.error.Error.{Error}
use Rattle.simd_json_parts.proofs.Lists.Drops.{drop-tail}
use Rattle.simd_json_parts.proofs.Descent.ArrayTurns.{turn, elements_by-turn}
use Rattle.simd_json_parts.proofs.Descent.Shrinking.{value_from-takes}
use Rattle.simd_json_parts.proofs.Positions.TokensAtPositions.{tokens_at}
use Rattle.simd_json_theorems.proofs.Complete.TokensHere.{Ended, Got, ReadsHere, ReadsUpTo, AfterSpace, past_space, spaced, byte_here}

-- A comma or a closing bracket ends what stands before it.
ended-elements : (ds : Elements) (xs rest : List ℕ) → AreMoreElements ds xs → Ended (xs ++ 93 ∷ rest)
ended-elements no_elements xs rest h = subst (λ us. Ended (us ++ 93 ∷ rest)) (sym h) refl
ended-elements (element d ds) xs rest h = subst (λ us. Ended (us ++ 93 ∷ rest)) (sym h.1) refl

module _ (b : List ℕ) (missing : Error) (levels : ℕ) where
  abbrev value : Reads Document
  value = value_from b missing levels

  -- each of the elements is read where it stands
  abbrev pub ElementsRead : Elements → Type 0
  ElementsRead no_elements = Unit {0}
  ElementsRead (element d ds) = ReadsHere b value d (IsValue d) × ElementsRead ds

  -- what follows an element
  abbrev more : Reads Elements
  more ts = element_end b missing ts (elements_by b missing value)

  -- an element and those after it
  joined : (d : Document) (ds : Elements) → ReadsHere b value d (IsValue d) → ReadsUpTo b 93 more ds (AreMoreElements ds)
      → ReadsUpTo b 93 (elements_by b missing value) (element d ds) (Joined (Spaced (IsValue d)) (AreMoreElements ds))
  joined d ds first after k xs rest j e =
      let regrouped : drop k b ≡ j.left ++ (j.right ++ 93 ∷ rest) =
      e ∙ ap (λ us. us ++ 93 ∷ rest) j.whole ∙ append_assoc j.left j.right (93 ∷ rest) in
      let g : Got b (value (tokens_at b k)) d (j.right ++ 93 ∷ rest) =
      spaced b value d (IsValue d) first k j.left (j.right ++ 93 ∷ rest) j.left_holds regrouped
      (ended-elements ds j.right rest j.right_holds) in
      let h : Got b (more (tokens_at b g.end)) ds rest = after g.end j.right rest j.right_holds g.there in
      record {
        end = h.end;
        there = h.there;
        is = elements_by-turn b missing value (value_from-takes b missing levels) (tokens_at b k)
            ∙ ap (λ r. turn b missing value (value_from-takes b missing levels) r (elements_by b missing value)) g.is
            ∙ ap (λ r. r >>= λ rest. Ok (element d rest.0, rest.1)) h.is;
      }

  -- the elements after the first
  more_read : (ds : Elements) → ElementsRead ds → ReadsUpTo b 93 more ds (AreMoreElements ds)
  more_read no_elements reads k xs rest h e =
      let f : drop k b ≡ 93 ∷ rest = e ∙ ap (λ us. us ++ 93 ∷ rest) h in
      record { end = suc k; there = drop-tail k b 93 rest f; is = ap more (byte_here b k 93 rest end_array refl f refl refl) }
  more_read (element d ds) reads k xs rest h e =
      let f : drop k b ≡ 44 ∷ (h.0 ++ 93 ∷ rest) = e ∙ ap (λ us. us ++ 93 ∷ rest) h.1 in
      let g : Got b (elements_by b missing value (tokens_at b (suc k))) (element d ds) rest =
      joined d ds reads.0 (more_read ds reads.1) (suc k) h.0 rest h.2 (drop-tail k b 44 (h.0 ++ 93 ∷ rest) f) in
      record { end = g.end; there = g.there; is = ap more (byte_here b k 44 (h.0 ++ 93 ∷ rest) value_separator refl f refl refl) ∙ g.is }

  -- where elements are read no closing bracket stands
  not_empty : (ds : Elements) (us ts : List Token) → elements_by b missing value ts ≡ Ok (ds, us)
      → array_from b missing value ts ≡ elements_by b missing value ts
  unfolding elements_from value_from
  not_empty ds us [] e = cc
  not_empty ds us (t ∷ ts) e = go t.form refl
    where
      no_value : (n : ℕ) → t.form ≡ end_array → elements_by b missing (value_from b missing n) (t ∷ ts) ≡ Ok (ds, us) → ⊥
      no_value zero h f = cc
      no_value (suc n) h f = cc

      go : (form : Form) → t.form ≡ form
          → first_element b missing form (t ∷ ts) ts (elements_by b missing value) ≡ elements_by b missing value (t ∷ ts)
      go end_array h = absurd (no_value levels h e)
      go _ h = refl

  -- what stands between the brackets
  elements_read : (ds : Elements) → ElementsRead ds → ReadsUpTo b 93 (array_from b missing value) ds (AreElements ds)
  elements_read no_elements reads k xs rest h e =
      let p : AfterSpace b k (93 ∷ rest) = past_space b k xs (93 ∷ rest) h e in
      record {
        end = suc p.end;
        there = drop-tail p.end b 93 rest p.there;
        is = ap (array_from b missing value) (p.same ∙ byte_here b p.end 93 rest end_array refl p.there refl refl);
      }
  elements_read (element d ds) reads k xs rest h e =
      let g : Got b (elements_by b missing value (tokens_at b k)) (element d ds) rest =
      joined d ds reads.0 (more_read ds reads.1) k xs rest h e in
      record { end = g.end; there = g.there; is = not_empty (element d ds) (tokens_at b g.end) (tokens_at b k) g.is ∙ g.is }

  -- An array, where one more container may be open.
  pub array_reads : (ds : Elements) → ElementsRead ds → ReadsHere b (value_from b missing (suc levels)) (array ds) (IsValue (array ds))
  unfolding value_from
  array_reads ds reads k xs rest (inner, same, h) e t =
      let f : drop k b ≡ 91 ∷ (inner ++ 93 ∷ rest) =
      e ∙ ap (λ us. us ++ rest) same ∙ ap (λ us. 91 ∷ us) (append_assoc inner (93 ∷ []) rest) in
      let g : Got b (array_from b missing value (tokens_at b (suc k))) ds rest =
      elements_read ds reads (suc k) inner rest h (drop-tail k b 91 (inner ++ 93 ∷ rest) f) in
      record {
        end = g.end;
        there = g.there;
        is = ap (value_from b missing (suc levels)) (byte_here b k 91 (inner ++ 93 ∷ rest) begin_array refl f refl refl)
            ∙ ap (λ r. r >>= λ inner. Ok (array inner.0, inner.1)) g.is;
      }
