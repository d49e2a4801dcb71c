-- Where tokens stand for bytes, the elements and the members that the descent reads of them are what a prefix of the bytes denotes.
use Rattle.std.proofs.Common.{◌≡◌, refl, ◌∙◌, ap, ℕ, zero, suc, ◌≤◌, List, [], ◌∷◌, ◌++◌, length, append_assoc, arith}
use Rattle.std.specs.Prelude.{Ok, Err, IfOk}
use Rattle.simd_json_parts.specs.Bytes.{comma, colon, right_bracket, right_brace}
use Rattle.simd_json_parts.specs.Document.{Document, Elements, no_elements, element, Members, no_members, member}
use Rattle.simd_json_parts.specs.Limits.{elements_depth, members_depth, ElementsFit, MembersFit}
use Rattle.simd_json_parts.specs.Grammar.{Spaced, Joined, IsValue, AreElements, AreMoreElements, AreMembers, AreMoreMembers}
use Rattle.simd_json_parts.specs.Strings.{IsStringLiteral}
use Rattle.simd_json_parts.specs.Tokens.{Token, Form, end_array, end_object, name_separator, value_separator, string_token}
use Rattle.simd_json_parts.specs.Descent.{◌>>=◌, Reads, after_element, element_end, elements_from, elements_by, first_element, array_from}
use Rattle.simd_json_parts.specs.Descent.{name_of, name_from, after_name, name_end, after_member, member_end}
use Rattle.simd_json_parts.specs.Descent.{members_from, members_by, first_member, object_from}
use Rattle.simd_json_parts.specs.declared.error.Error.{Error}
use Rattle.simd_json_parts.specs.declared.error.ErrorType.{ErrorType}
use Rattle.simd_json_parts.specs.declared.error.ErrorType.TheVariants.{ExpectedObjectKey, ExpectedObjectContent}
use Rattle.simd_json_theorems.proofs.Containers.{IsName, AreValueRow}
use Rattle.simd_json_theorems.proofs.Sound.SpelledTokens.{Accepted, Prefix, FormSpelled, AreTokens, Closed, SpaceClosed}
use Rattle.simd_json_theorems.proofs.Sound.SpelledTokens.{after_comma, at_close, nothing_closed, weaken_closed, bind-IfOk}

-- a row of the set, whose integers fit, and that nests no deeper than the levels allow
pub record AcceptedRow (R : Type 0) (Fit : R → Type 0) (depth : R → ℕ) (P : R → List ℕ → Type 0) (levels : ℕ) (r : R) (bs : List ℕ)
    : Type 0 where
  pub denotes : P r bs
  pub integers : Fit r
  pub nesting : depth r ≤ levels

abbrev pub AcceptedElements : (Elements → List ℕ → Type 0) → ℕ → Elements → List ℕ → Type 0
AcceptedElements = AcceptedRow Elements ElementsFit elements_depth

abbrev pub AcceptedMembers : (Members → List ℕ → Type 0) → ℕ → Members → List ℕ → Type 0
AcceptedMembers = AcceptedRow Members MembersFit members_depth

-- ---- one at least, without the comma before it, is a whole row, and after a comma more of one

abbrev AreSomeElements : Elements → List ℕ → Type 0
AreSomeElements no_elements bs = ⊥
AreSomeElements (element d ds) bs = Joined (Spaced (IsValue d)) (AreMoreElements ds) bs

abbrev AreSomeMembers : Members → List ℕ → Type 0
AreSomeMembers no_members bs = ⊥
AreSomeMembers (member k d ms) bs = Joined (Spaced (IsName k)) (AreValueRow (d, ms)) bs

row-elements : (levels : ℕ) (ds : Elements) (bs : List ℕ) → AcceptedElements AreSomeElements levels ds bs
    → AcceptedElements AreElements levels ds bs
row-elements levels no_elements bs h = absurd h.denotes
row-elements levels (element d ds) bs h = record { denotes = h.denotes; integers = h.integers; nesting = h.nesting }

more-elements : (levels : ℕ) (ds : Elements) (bs : List ℕ) → AcceptedElements AreSomeElements levels ds bs
    → AcceptedElements AreMoreElements levels ds (comma ∷ bs)
more-elements levels no_elements bs h = absurd h.denotes
more-elements levels (element d ds) bs h = record { denotes = (bs, refl, h.denotes); integers = h.integers; nesting = h.nesting }

row-members : (levels : ℕ) (ms : Members) (bs : List ℕ) → AcceptedMembers AreSomeMembers levels ms bs
    → AcceptedMembers AreMembers levels ms bs
row-members levels no_members bs h = absurd h.denotes
row-members levels (member k d ms) bs h = record { denotes = h.denotes; integers = h.integers; nesting = h.nesting }

more-members : (levels : ℕ) (ms : Members) (bs : List ℕ) → AcceptedMembers AreSomeMembers levels ms bs
    → AcceptedMembers AreMoreMembers levels ms (comma ∷ bs)
more-members levels no_members bs h = absurd h.denotes
more-members levels (member k d ms) bs h = record { denotes = (bs, refl, h.denotes); integers = h.integers; nesting = h.nesting }

-- ---- elements

-- A reader of values is given, with what it owes.
module _ (b : List ℕ) (missing : Error) (levels : ℕ) (value : Reads Document)
    (sound : (ts : List Token) (bs : List ℕ) → AreTokens ts bs
    → IfOk (value ts) (λ p. Prefix (Accepted levels p.0) (AreTokens p.1) bs)) where
  -- elements up to the closing bracket
  abbrev AreElementsRead : List ℕ → Elements × List Token → Type 0
  AreElementsRead bs p = Closed (AcceptedElements AreSomeElements levels p.0) right_bracket p.1 bs

  -- what stands after an element
  abbrev AreElementsAfter : List ℕ → Elements × List Token → Type 0
  AreElementsAfter bs p = SpaceClosed (AcceptedElements AreMoreElements levels p.0) right_bracket p.1 bs

  -- After an element more are read, or none.
  element_end-sound : (more : Reads Elements) → ((us : List Token) (bs : List ℕ) → AreTokens us bs → IfOk (more us) (AreElementsRead bs))
      → (ts : List Token) (bs : List ℕ) → AreTokens ts bs → IfOk (element_end b missing ts more) (AreElementsAfter bs)
  element_end-sound more row [] bs h = tt
  element_end-sound more row (t ∷ ts) bs h = go t.form h
    where
      go : (form : Form) → FormSpelled form ts bs → IfOk (after_element b missing t form ts more) (AreElementsAfter bs)
      go value_separator h = after_comma (AcceptedElements AreSomeElements levels)
          (AcceptedElements AreMoreElements levels) right_bracket (more-elements levels) ts bs (h refl) (more ts) (row ts)
      go end_array h = at_close (AcceptedElements AreMoreElements levels no_elements) right_bracket ts bs
          (record { denotes = refl; integers = tt; nesting = omega arith }) (h refl)
      go _ h = tt

  -- Elements are read up to the closing bracket, by induction on the turns.
  elements_from-sound : (turns : ℕ) (ts : List Token) (bs : List ℕ) → AreTokens ts bs
      → IfOk (elements_from b missing value turns ts) (AreElementsRead bs)
  unfolding elements_from
  elements_from-sound zero ts bs h = tt
  elements_from-sound (suc turns) ts bs h =
      bind-IfOk (value ts) _ (λ p. Prefix (Accepted levels p.0) (AreTokens p.1) bs) (AreElementsRead bs) (sound ts bs h)
      (λ first f. bind-IfOk (element_end b missing first.1 (elements_from b missing value turns)) _
      (AreElementsAfter f.left) (AreElementsRead bs)
      (element_end-sound (elements_from b missing value turns) (elements_from-sound turns) first.1 f.left f.more)
      (λ rest g. record {
        inner = ((f.before ++ f.inner) ++ g.after) ++ g.inner;
        left = g.left;
        whole = f.whole ∙ ap (λ xs. f.before ++ (f.inner ++ xs)) g.whole ∙ simp append_assoc;
        holds = record {
          denotes = record {
            left = (f.before ++ f.inner) ++ g.after;
            right = g.inner;
            whole = refl;
            left_holds = record {
              before = f.before;
              inner = f.inner;
              after = g.after;
              whole = refl;
              before_space = f.space;
              after_space = g.space;
              holds = (f.holds).denotes;
            };
            right_holds = (g.holds).denotes;
          };
          integers = ((f.holds).integers, (g.holds).integers);
          nesting = omega (arith, (f.holds).nesting, (g.holds).nesting);
        };
        more = g.more;
      }))

  -- After an opening bracket, an array's elements are read up to the closing one.
  pub array_from-sound : (ts : List Token) (bs : List ℕ) → AreTokens ts bs
      → IfOk (array_from b missing value ts) (λ p. Closed (AcceptedElements AreElements levels p.0) right_bracket p.1 bs)
  array_from-sound [] bs h = tt
  array_from-sound (t ∷ ts) bs h = go t.form h
    where
      go : (form : Form) → FormSpelled form ts bs → IfOk (first_element b missing form (t ∷ ts) ts (elements_by b missing value))
          (λ p. Closed (AcceptedElements AreElements levels p.0) right_bracket p.1 bs)
      go end_array k = nothing_closed (AcceptedElements AreElements levels no_elements) right_bracket ts bs
          (λ xs w. record { denotes = w; integers = tt; nesting = omega arith }) (k refl)
      go _ k = weaken_closed (AcceptedElements AreSomeElements levels) (AcceptedElements AreElements levels) right_bracket bs
          (row-elements levels) _ (elements_from-sound (length (t ∷ ts)) (t ∷ ts) bs h)

-- ---- names

-- a name, and then a colon, at the front
abbrev IsNameRead : List ℕ → List ℕ × List Token → Type 0
IsNameRead bs p = Prefix (λ xs. IsStringLiteral xs p.0) (AreTokens p.1) bs

abbrev IsColonRead : List ℕ → List Token → Type 0
IsColonRead bs ts = Prefix (λ xs. xs ≡ colon ∷ []) (AreTokens ts) bs

module _ (b : List ℕ) (missing : Error) where
  -- Where a name is read, it stands there,
  name_from-sound : (kind : ErrorType) (ts : List Token) (bs : List ℕ) → AreTokens ts bs
      → IfOk (name_from b missing kind ts) (IsNameRead bs)
  name_from-sound kind [] bs h = tt
  name_from-sound kind (t ∷ ts) bs h = go t.form h
    where
      go : (form : Form) → FormSpelled form ts bs → IfOk (name_of b missing kind t form >>= λ name. Ok (name.0, ts)) (IsNameRead bs)
      go (string_token (Ok r)) h = h refl
      go (string_token (Err e)) h = tt
      go _ h = tt

  -- and so does the colon after it.
  name_end-sound : (ts : List Token) (bs : List ℕ) → AreTokens ts bs → IfOk (name_end b missing ts) (IsColonRead bs)
  name_end-sound [] bs h = tt
  name_end-sound (t ∷ ts) bs h = go t.form h
    where
      go : (form : Form) → FormSpelled form ts bs → IfOk (after_name b missing t form ts) (IsColonRead bs)
      go name_separator h = h refl
      go _ h = tt

-- ---- members

-- A reader of values is given, with what it owes.
module _ (b : List ℕ) (missing : Error) (levels : ℕ) (value : Reads Document)
    (sound : (ts : List Token) (bs : List ℕ) → AreTokens ts bs
    → IfOk (value ts) (λ p. Prefix (Accepted levels p.0) (AreTokens p.1) bs)) where
  -- members up to the closing brace
  abbrev AreMembersRead : List ℕ → Members × List Token → Type 0
  AreMembersRead bs p = Closed (AcceptedMembers AreSomeMembers levels p.0) right_brace p.1 bs

  -- what stands after a member
  abbrev AreMembersAfter : List ℕ → Members × List Token → Type 0
  AreMembersAfter bs p = SpaceClosed (AcceptedMembers AreMoreMembers levels p.0) right_brace p.1 bs

  -- After a member more are read, or none.
  member_end-sound : (more : Reads Members) → ((us : List Token) (bs : List ℕ) → AreTokens us bs → IfOk (more us) (AreMembersRead bs))
      → (ts : List Token) (bs : List ℕ) → AreTokens ts bs → IfOk (member_end b missing ts more) (AreMembersAfter bs)
  member_end-sound more row [] bs h = tt
  member_end-sound more row (t ∷ ts) bs h = go t.form h
    where
      go : (form : Form) → FormSpelled form ts bs → IfOk (after_member b missing t form ts more) (AreMembersAfter bs)
      go value_separator h = after_comma (AcceptedMembers AreSomeMembers levels) (AcceptedMembers AreMoreMembers levels) right_brace
          (more-members levels) ts bs (h refl) (more ts) (row ts)
      go end_object h = at_close (AcceptedMembers AreMoreMembers levels no_members) right_brace ts bs
          (record { denotes = refl; integers = tt; nesting = omega arith }) (h refl)
      go _ h = tt

  -- A name, a colon, a value and what stands after are members.
  a_member : (bs : List ℕ) (name : List ℕ × List Token) (colon : List Token) (first : Document × List Token)
      (rest : Members × List Token) (n : IsNameRead bs name) (c : IsColonRead n.left colon)
      (f : Prefix (Accepted levels first.0) (AreTokens first.1) c.left) → AreMembersAfter f.left rest
      → AreMembersRead bs (member name.0 first.0 rest.0, rest.1)
  a_member bs name us first rest n c f g =
      let left : List ℕ = (n.before ++ n.inner) ++ c.before in
      let value : List ℕ = (f.before ++ f.inner) ++ g.after in
      record {
        inner = left ++ (colon ∷ (value ++ g.inner));
        left = g.left;
        whole =
            n.whole ∙ ap (λ xs. n.before ++ (n.inner ++ xs)) (c.whole ∙ ap (λ xs. c.before ++ (xs ++ c.left)) c.holds)
            ∙ ap (λ xs. n.before ++ (n.inner ++ (c.before ++ (colon ∷ xs)))) (f.whole ∙ ap (λ xs. f.before ++ (f.inner ++ xs)) g.whole)
            ∙ simp append_assoc;
        holds = record {
          denotes = record {
            left = left;
            right = colon ∷ (value ++ g.inner);
            whole = refl;
            left_holds = record {
              before = n.before;
              inner = n.inner;
              after = c.before;
              whole = refl;
              before_space = n.space;
              after_space = c.space;
              holds = n.holds;
            };
            right_holds = (
              value ++ g.inner,
              refl,
              record {
                left = value;
                right = g.inner;
                whole = refl;
                left_holds = record {
                  before = f.before;
                  inner = f.inner;
                  after = g.after;
                  whole = refl;
                  before_space = f.space;
                  after_space = g.space;
                  holds = (f.holds).denotes;
                };
                right_holds = (g.holds).denotes;
              },
            );
          };
          integers = ((f.holds).integers, (g.holds).integers);
          nesting = omega (arith, (f.holds).nesting, (g.holds).nesting);
        };
        more = g.more;
      }

  -- Members are read up to the closing brace, by induction on the turns.
  members_from-sound : (turns : ℕ) (kind : ErrorType) (ts : List Token) (bs : List ℕ) → AreTokens ts bs
      → IfOk (members_from b missing value turns kind ts) (AreMembersRead bs)
  unfolding members_from
  members_from-sound zero kind ts bs h = tt
  members_from-sound (suc turns) kind ts bs h =
      bind-IfOk (name_from b missing kind ts) _ (IsNameRead bs) (AreMembersRead bs) (name_from-sound b missing kind ts bs h)
      (λ name n. bind-IfOk (name_end b missing name.1) _ (IsColonRead n.left) (AreMembersRead bs)
      (name_end-sound b missing name.1 n.left n.more)
      (λ us c. bind-IfOk (value us) _ (λ p. Prefix (Accepted levels p.0) (AreTokens p.1) c.left) (AreMembersRead bs)
      (sound us c.left c.more)
      (λ first f. bind-IfOk (member_end b missing first.1 (members_from b missing value turns ExpectedObjectKey)) _
      (AreMembersAfter f.left) (AreMembersRead bs)
      (member_end-sound (members_from b missing value turns ExpectedObjectKey)
      (members_from-sound turns ExpectedObjectKey) first.1 f.left f.more)
      (λ rest g. a_member bs name us first rest n c f g))))

  -- After an opening brace, an object's members are read up to the closing one.
  pub object_from-sound : (ts : List Token) (bs : List ℕ) → AreTokens ts bs
      → IfOk (object_from b missing value ts) (λ p. Closed (AcceptedMembers AreMembers levels p.0) right_brace p.1 bs)
  object_from-sound [] bs h = tt
  object_from-sound (t ∷ ts) bs h = go t.form h
    where
      go : (form : Form) → FormSpelled form ts bs
          → IfOk (first_member b missing form (t ∷ ts) ts (members_by b missing value ExpectedObjectContent))
          (λ p. Closed (AcceptedMembers AreMembers levels p.0) right_brace p.1 bs)
      go end_object k = nothing_closed (AcceptedMembers AreMembers levels no_members) right_brace ts bs
          (λ xs w. record { denotes = w; integers = tt; nesting = omega arith }) (k refl)
      go _ k = weaken_closed (AcceptedMembers AreSomeMembers levels) (AcceptedMembers AreMembers levels) right_brace bs
          (row-members levels) _ (members_from-sound (length (t ∷ ts)) ExpectedObjectContent (t ∷ ts) bs h)
