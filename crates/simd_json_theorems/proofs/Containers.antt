-- Arrays and objects in one form: items in a row between two brackets, each but the first after a comma.
use Rattle.std.proofs.Common.{◌≡◌, ◌≢◌, refl, sym, subst, ℕ, ◌⊎◌, inl, inr, List, [], ◌∷◌, ◌++◌, false, ◌==◌}
use Rattle.std.proofs.lemmas.Bool.{eqb-false}
use Rattle.simd_json_parts.specs.Bytes.{comma, colon, quote, left_bracket, right_bracket, left_brace, right_brace}
use Rattle.simd_json_parts.specs.Document.{Document, array, object, Elements, no_elements, element, Members, no_members, member}
use Rattle.simd_json_parts.specs.Grammar.{IsWhitespace, Spaced, Joined, After, Between, IsValue, AreElements, AreMoreElements}
use Rattle.simd_json_parts.specs.Grammar.{AreMembers, AreMoreMembers}
use Rattle.simd_json_parts.specs.Strings.{IsStringLiteral}
use Rattle.simd_json_theorems.proofs.Unique.LeadingBytes.{class, leading, leading-right_bracket, NoSpace, Leads-one}
use Rattle.simd_json_theorems.proofs.Unique.LeadingBytes.{value-leads, value-NoSpace, string-leads, string-NoSpace}
use Rattle.simd_json_theorems.proofs.Unique.SpacedPrefixes.{Delimited}

-- the bytes are this name
abbrev pub IsName : List ℕ → List ℕ → Type 0
IsName k bs = IsStringLiteral bs k

-- what stands after a name: its value and the members after it
abbrev pub AreValueRow : Document × Members → List ℕ → Type 0
AreValueRow p bs = After colon (Joined (Spaced (IsValue p.0)) (AreMoreMembers p.1)) bs

-- An item is a value or a name. `More` is what stands after it, and `Row` items and what is more of each.
pub record Container : Type 1 where
  pub Item : Type 0
  pub More : Type 0
  pub Row : Type 0
  pub IsItem : Item → List ℕ → Type 0
  pub AreMore : More → List ℕ → Type 0
  -- what stands between the brackets, and what after an item and what is more of it
  pub IsWhole : Row → List ℕ → Type 0
  pub IsRest : Row → List ℕ → Type 0
  pub first : ℕ
  pub last : ℕ
  pub document : Row → Document
  pub none : Row
  pub some : Item → More → Row
  pub whole_none : (bs : List ℕ) → IsWhitespace bs → IsWhole none bs
  pub whole_some : (i : Item) (m : More) (bs : List ℕ) → Joined (Spaced (IsItem i)) (AreMore m) bs → IsWhole (some i m) bs
  pub whole_cases : (r : Row) (bs : List ℕ) → IsWhole r bs
      → ((r ≡ none) × IsWhitespace bs) ⊎ ((i : Item) × (m : More) × (r ≡ some i m) × Joined (Spaced (IsItem i)) (AreMore m) bs)
  pub rest_none : IsRest none []
  pub rest_some : (i : Item) (m : More) (bs : List ℕ) → Joined (Spaced (IsItem i)) (AreMore m) bs → IsRest (some i m) (comma ∷ bs)
  pub rest_cases : (r : Row) (bs : List ℕ) → IsRest r bs
      → ((r ≡ none) × (bs ≡ [])) ⊎ ((i : Item) × (m : More) × (r ≡ some i m) × After comma (Joined (Spaced (IsItem i)) (AreMore m)) bs)
  pub is_value : (r : Row) (bs : List ℕ) → Between first (IsWhole r) last bs → IsValue (document r) bs
  -- a value that begins with the first bracket
  pub value_row : (d : Document) (left right rest : List ℕ) → IsValue d left → first ∷ rest ≡ left ++ right
      → (r : Row) × Between first (IsWhole r) last left
  pub item_NoSpace : (i : Item) (xs rest : List ℕ) → IsItem i xs → NoSpace (xs ++ rest)
  pub item_not_last : (i : Item) (left right rest : List ℕ) → IsItem i left → last ∷ rest ≡ left ++ right → ⊥
  pub last_ends : (rest : List ℕ) → Delimited (last ∷ rest)
  pub last_no_comma : last ≢ comma

-- What stands after an item up to the closing bracket begins with what ends a value.
pub rest-Delimited : (c : Container) (r : c.Row) (xs rest : List ℕ) → c.IsRest r xs → Delimited (xs ++ c.last ∷ rest)
rest-Delimited c r xs rest h =
    elim (c.rest_cases r xs h) [
      | inl (_, e) ↦ subst (λ us. Delimited (us ++ c.last ∷ rest)) (sym e) (c.last_ends rest)
      | inr (_, _, _, (_, e, _)) ↦ subst (λ us. Delimited (us ++ c.last ∷ rest)) (sym e) (refl, refl)
    ]

-- ---- arrays

pub elements-whole : (ds : Elements) (bs : List ℕ) → AreElements ds bs
    → ((ds ≡ no_elements) × IsWhitespace bs)
    ⊎ ((d : Document) × (es : Elements) × (ds ≡ element d es) × Joined (Spaced (IsValue d)) (AreMoreElements es) bs)
elements-whole no_elements bs h = inl (refl, h)
elements-whole (element d ds) bs h = inr (d, ds, refl, h)

pub elements-rest : (ds : Elements) (bs : List ℕ) → AreMoreElements ds bs
    → ((ds ≡ no_elements) × (bs ≡ []))
    ⊎ ((d : Document) × (es : Elements) × (ds ≡ element d es) × After comma (Joined (Spaced (IsValue d)) (AreMoreElements es)) bs)
elements-rest no_elements bs h = inl (refl, h)
elements-rest (element d ds) bs h = inr (d, ds, refl, h)

-- A value begins with the byte of its kind.
pub other_kind : {A : Type 0} (c : ℕ) (d : Document) (left right rest : List ℕ) → (class c == leading d) ≡ false → IsValue d left
    → c ∷ rest ≡ left ++ right → A
other_kind c d left right rest other h e =
    absurd (eqb-false (class c) (leading d) other
    (Leads-one (class c) (leading d) (c ∷ []) left rest right refl (value-leads d left h) e))

pub is_array : (d : Document) (left right rest : List ℕ) → IsValue d left → left_bracket ∷ rest ≡ left ++ right
    → (ds : Elements) × Between left_bracket (AreElements ds) right_bracket left
is_array (array ds) left right rest h e = (ds, h)
is_array d left right rest h e = other_kind left_bracket d left right rest refl h e

abbrev pub in_array : Container
in_array = record {
  Item = Document;
  More = Elements;
  Row = Elements;
  IsItem = IsValue;
  AreMore = AreMoreElements;
  IsWhole = AreElements;
  IsRest = AreMoreElements;
  first = left_bracket;
  last = right_bracket;
  document = array;
  none = no_elements;
  some = element;
  whole_none = λ bs h. h;
  whole_some = λ i m bs h. h;
  whole_cases = elements-whole;
  rest_none = refl;
  rest_some = λ i m bs h. (bs, refl, h);
  rest_cases = elements-rest;
  is_value = λ r bs h. h;
  value_row = is_array;
  item_NoSpace = value-NoSpace;
  item_not_last = λ d xs more rest h e. other_kind right_bracket d xs more rest (leading-right_bracket d) h e;
  last_ends = λ rest. (refl, refl);
  last_no_comma = eqb-false right_bracket comma refl;
}

-- ---- objects

pub members-whole : (ms : Members) (bs : List ℕ) → AreMembers ms bs
    → ((ms ≡ no_members) × IsWhitespace bs)
    ⊎ ((k : List ℕ) × (p : Document × Members) × (ms ≡ member k p.0 p.1) × Joined (Spaced (IsName k)) (AreValueRow p) bs)
members-whole no_members bs h = inl (refl, h)
members-whole (member k d ms) bs h = inr (k, (d, ms), refl, h)

pub members-rest : (ms : Members) (bs : List ℕ) → AreMoreMembers ms bs
    → ((ms ≡ no_members) × (bs ≡ []))
    ⊎ ((k : List ℕ) × (p : Document × Members) × (ms ≡ member k p.0 p.1) × After comma (Joined (Spaced (IsName k)) (AreValueRow p)) bs)
members-rest no_members bs h = inl (refl, h)
members-rest (member k d ms) bs h = inr (k, (d, ms), refl, h)

pub is_object : (d : Document) (left right rest : List ℕ) → IsValue d left → left_brace ∷ rest ≡ left ++ right
    → (ms : Members) × Between left_brace (AreMembers ms) right_brace left
is_object (object ms) left right rest h e = (ms, h)
is_object d left right rest h e = other_kind left_brace d left right rest refl h e

abbrev pub in_object : Container
in_object = record {
  Item = List ℕ;
  More = Document × Members;
  Row = Members;
  IsItem = IsName;
  AreMore = AreValueRow;
  IsWhole = AreMembers;
  IsRest = AreMoreMembers;
  first = left_brace;
  last = right_brace;
  document = object;
  none = no_members;
  some = λ k p. member k p.0 p.1;
  whole_none = λ bs h. h;
  whole_some = λ k p bs h. h;
  whole_cases = members-whole;
  rest_none = refl;
  rest_some = λ k p bs h. (bs, refl, h);
  rest_cases = members-rest;
  is_value = λ r bs h. h;
  value_row = is_object;
  item_NoSpace = string-NoSpace;
  item_not_last = λ k xs more rest h e. absurd (eqb-false right_brace quote refl
      (Leads-one (class right_brace) quote (right_brace ∷ []) xs rest more refl (string-leads xs k h) e));
  last_ends = λ rest. (refl, refl);
  last_no_comma = eqb-false right_brace comma refl;
}
