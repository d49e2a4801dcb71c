-- Objects of the grammar are read, if their values are.
use Rattle.std.proofs.Common.{◌≡◌, refl, sym, ◌∙◌, ap, subst, ℕ, suc, List, [], ◌∷◌, ◌++◌, drop, append_assoc}
use Rattle.std.specs.Prelude.{Ok}
use Rattle.simd_json_parts.specs.Bytes.{colon}
use Rattle.simd_json_parts.specs.Document.{Document, object, Members, no_members, member}
use Rattle.simd_json_parts.specs.Grammar.{Spaced, Joined, After, IsValue, AreMembers, AreMoreMembers}
use Rattle.simd_json_parts.specs.Strings.{IsStringLiteral}
use Rattle.simd_json_parts.specs.Tokens.{Token, Form, begin_object, end_object, name_separator, value_separator}
use Rattle.simd_json_parts.specs.Descent.{◌>>=◌, Reads, name_from, name_end, member_end, members_from, members_by, first_member}
use Rattle.simd_json_parts.specs.Descent.{object_from, value_from}
use Rattle.simd_json_parts.specs.declared.error.Error.{Error}
use Rattle.simd_json_parts.specs.declared.error.ErrorType.{ErrorType}
use Rattle.simd_json_parts.specs.declared.error.ErrorType.TheVariants.{ExpectedObjectKey, ExpectedObjectContent}
use Rattle.simd_json_parts.proofs.Lists.Drops.{drop-tail}
use Rattle.simd_json_parts.proofs.Descent.ObjectTurns.{rest_after_value, after_colon, rest_after_name, members_by-turn}
use Rattle.simd_json_theorems.proofs.Complete.Scalars.{name_reads}
use Rattle.simd_json_parts.proofs.Descent.Shrinking.{value_from-takes}
use Rattle.simd_json_parts.proofs.Positions.TokensAtPositions.{tokens_at}
use Rattle.simd_json_theorems.proofs.Complete.TokensHere.{Ended, Got, ReadsHere, ReadsUpTo, AfterSpace, past_space, spaced, byte_here}

-- A comma or a closing brace ends what stands before it.
ended-members : (ms : Members) (xs rest : List ℕ) → AreMoreMembers ms xs → Ended (xs ++ 125 ∷ rest)
ended-members no_members xs rest h = subst (λ us. Ended (us ++ 125 ∷ rest)) (sym h) refl
ended-members (member name d ms) xs rest h = subst (λ us. Ended (us ++ 125 ∷ rest)) (sym h.1) refl

module _ (b : List ℕ) (missing : Error) (levels : ℕ) where
  abbrev value : Reads Document
  value = value_from b missing levels

  -- each of the members' values is read where it stands
  abbrev pub MembersRead : Members → Type 0
  MembersRead no_members = Unit {0}
  MembersRead (member name d ms) = ReadsHere b value d (IsValue d) × MembersRead ms

  -- the members from a name on, and what follows a member
  abbrev members_on : ErrorType → Reads Members
  members_on kind = members_by b missing value kind

  abbrev more : Reads Members
  more ts = member_end b missing ts (members_on ExpectedObjectKey)

  -- a value and the members after it
  abbrev ValueOn : Document → Members → List ℕ → Type 0
  ValueOn d ms = Joined (Spaced (IsValue d)) (AreMoreMembers ms)

  value_on : (name : List ℕ) (d : Document) (ms : Members) → ReadsHere b value d (IsValue d) → ReadsUpTo b 125 more ms (AreMoreMembers ms)
      → ReadsUpTo b 125 (after_colon b missing value (value_from-takes b missing levels) (members_on ExpectedObjectKey) name)
      (member name d ms) (ValueOn d ms)
  value_on name d ms first after k xs rest j e =
      let regrouped : drop k b ≡ j.left ++ (j.right ++ 125 ∷ rest) =
      e ∙ ap (λ us. us ++ 125 ∷ rest) j.whole ∙ append_assoc j.left j.right (125 ∷ rest) in
      let g : Got b (value (tokens_at b k)) d (j.right ++ 125 ∷ rest) =
      spaced b value d (IsValue d) first k j.left (j.right ++ 125 ∷ rest) j.left_holds regrouped
      (ended-members ms j.right rest j.right_holds) in
      let h : Got b (more (tokens_at b g.end)) ms rest = after g.end j.right rest j.right_holds g.there in
      record {
        end = h.end;
        there = h.there;
        is = ap (λ r. r >>= rest_after_value b missing value (value_from-takes b missing levels)
            (members_on ExpectedObjectKey) name) g.is ∙ ap (λ r. r >>= λ rest. Ok (member name d rest.0, rest.1)) h.is;
      }

  -- the colon after a name
  colon_read : (k : ℕ) (tail : List ℕ) → drop k b ≡ 58 ∷ tail → name_end b missing (tokens_at b k) ≡ Ok (tokens_at b (suc k))
  colon_read k tail e = ap (name_end b missing) (byte_here b k 58 tail name_separator refl e refl refl)

  -- a member and those after it
  abbrev MemberOn : List ℕ → Document → Members → List ℕ → Type 0
  MemberOn name d ms = Joined (Spaced (λ xs. IsStringLiteral xs name)) (After colon (ValueOn d ms))

  member_on : (kind : ErrorType) (name : List ℕ) (d : Document) (ms : Members) → ReadsHere b value d (IsValue d)
      → ReadsUpTo b 125 more ms (AreMoreMembers ms)
      → ReadsUpTo b 125 (members_on kind) (member name d ms) (MemberOn name d ms)
  member_on kind name d ms first after k xs rest j e =
      let tail : List ℕ = j.right_holds.0 in
      let regrouped : drop k b ≡ j.left ++ (58 ∷ (tail ++ 125 ∷ rest)) =
      e ∙ ap (λ us. us ++ 125 ∷ rest) j.whole ∙ append_assoc j.left j.right (125 ∷ rest)
      ∙ ap (λ us. j.left ++ (us ++ 125 ∷ rest)) j.right_holds.1 in
      let g : Got b (name_from b missing kind (tokens_at b k)) name (58 ∷ (tail ++ 125 ∷ rest)) =
      spaced b (name_from b missing kind) name (λ xs. IsStringLiteral xs name) (name_reads b missing kind name) k j.left
      (58 ∷ (tail ++ 125 ∷ rest)) j.left_holds regrouped refl in
      let h : Got b (after_colon b missing value (value_from-takes b missing levels) (members_on ExpectedObjectKey) name
      (tokens_at b (suc g.end))) (member name d ms) rest =
      value_on name d ms first after (suc g.end) tail rest j.right_holds.2 (drop-tail g.end b 58 (tail ++ 125 ∷ rest) g.there) in
      record {
        end = h.end;
        there = h.there;
        is = members_by-turn b missing value (value_from-takes b missing levels) kind (tokens_at b k)
            ∙ ap (λ r. r >>= rest_after_name b missing value (value_from-takes b missing levels) (members_on ExpectedObjectKey)) g.is
            ∙ ap (λ r. r >>= after_colon b missing value (value_from-takes b missing levels) (members_on ExpectedObjectKey) name)
            (colon_read g.end (tail ++ 125 ∷ rest) g.there) ∙ h.is;
      }

  -- the members after the first
  more_read : (ms : Members) → MembersRead ms → ReadsUpTo b 125 more ms (AreMoreMembers ms)
  more_read no_members reads k xs rest h e =
      let f : drop k b ≡ 125 ∷ rest = e ∙ ap (λ us. us ++ 125 ∷ rest) h in
      record { end = suc k; there = drop-tail k b 125 rest f; is = ap more (byte_here b k 125 rest end_object refl f refl refl) }
  more_read (member name d ms) reads k xs rest h e =
      let f : drop k b ≡ 44 ∷ (h.0 ++ 125 ∷ rest) = e ∙ ap (λ us. us ++ 125 ∷ rest) h.1 in
      let g : Got b (members_on ExpectedObjectKey (tokens_at b (suc k))) (member name d ms) rest =
      member_on ExpectedObjectKey name d ms reads.0 (more_read ms reads.1) (suc k) h.0 rest h.2 (drop-tail k b 44 (h.0 ++ 125 ∷ rest) f) in
      record { end = g.end; there = g.there; is = ap more (byte_here b k 44 (h.0 ++ 125 ∷ rest) value_separator refl f refl refl) ∙ g.is }

  -- where members are read no closing brace stands
  not_empty : (ms : Members) (us ts : List Token) → members_on ExpectedObjectContent ts ≡ Ok (ms, us)
      → object_from b missing value ts ≡ members_on ExpectedObjectContent ts
  unfolding members_from
  not_empty ms us [] e = cc
  not_empty ms us (t ∷ ts) e = go t.form refl
    where
      no_name : t.form ≡ end_object → members_on ExpectedObjectContent (t ∷ ts) ≡ Ok (ms, us) → ⊥
      no_name h f = cc

      go : (form : Form) → t.form ≡ form
          → first_member b missing form (t ∷ ts) ts (members_on ExpectedObjectContent) ≡ members_on ExpectedObjectContent (t ∷ ts)
      go end_object h = absurd (no_name h e)
      go _ h = refl

  -- what stands between the braces
  members_read : (ms : Members) → MembersRead ms → ReadsUpTo b 125 (object_from b missing value) ms (AreMembers ms)
  members_read no_members reads k xs rest h e =
      let p : AfterSpace b k (125 ∷ rest) = past_space b k xs (125 ∷ rest) h e in
      record {
        end = suc p.end;
        there = drop-tail p.end b 125 rest p.there;
        is = ap (object_from b missing value) (p.same ∙ byte_here b p.end 125 rest end_object refl p.there refl refl);
      }
  members_read (member name d ms) reads k xs rest h e =
      let g : Got b (members_on ExpectedObjectContent (tokens_at b k)) (member name d ms) rest =
      member_on ExpectedObjectContent name d ms reads.0 (more_read ms reads.1) k xs rest h e in
      record { end = g.end; there = g.there; is = not_empty (member name d ms) (tokens_at b g.end) (tokens_at b k) g.is ∙ g.is }

  -- An object, where one more container may be open.
  pub object_reads : (ms : Members) → MembersRead ms → ReadsHere b (value_from b missing (suc levels)) (object ms) (IsValue (object ms))
  unfolding value_from
  object_reads ms reads k xs rest (inner, same, h) e t =
      let f : drop k b ≡ 123 ∷ (inner ++ 125 ∷ rest) =
      e ∙ ap (λ us. us ++ rest) same ∙ ap (λ us. 123 ∷ us) (append_assoc inner (125 ∷ []) rest) in
      let g : Got b (object_from b missing value (tokens_at b (suc k))) ms rest =
      members_read ms reads (suc k) inner rest h (drop-tail k b 123 (inner ++ 125 ∷ rest) f) in
      record {
        end = g.end;
        there = g.there;
        is = ap (value_from b missing (suc levels)) (byte_here b k 123 (inner ++ 125 ∷ rest) begin_object refl f refl refl)
            ∙ ap (λ r. r >>= λ inner. Ok (object inner.0, inner.1)) g.is;
      }
