-- The way to a node, along the nodes of a document.
use Rattle.std.proofs.Common.{◌≡◌, ◌≤◌, ◌<◌, ◌+◌, ◌-◌, ◌∙◌, ap, sym, subst, refl, true, false, arith, ℕ, zero, suc, List, [], ◌∷◌}
use Rattle.std.proofs.Common.{◌++◌, drop, length, slice_get, get_or, Some, None, is_some, option_and_then, cond, ◌==◌, ◌||◌}
use Rattle.std.proofs.lemmas.Option.{slice_get-get_or}
use Rattle.std.proofs.Math.Seq.{drop-append_seam}
use Rattle.std.proofs.lemmas.List.{append_assoc, append-nil, drop-drop, length-append, length-drop}
use Rattle.std.proofs.lemmas.Bool.{le-ltb, lt-ltb, false≢true, ne_eqb}
use Rattle.simd_json_parts.specs.Document.{Document, null, boolean, integer, decimal, string, array, object, Elements, no_elements, element}
use Rattle.simd_json_parts.specs.Document.{Members, no_members, member}
use Rattle.simd_json_parts.specs.Listing.{listing, elements_listing, members_listing}
use Rattle.simd_json_parts.specs.Nodes.{Item, string_item, array_item, object_item}
use Rattle.simd_json_parts.proofs.Documents.Fronts.{positive}
use Rattle.simd_json_serde.specs.Ahead.{array_count, string_text}
use Rattle.simd_json_parts.specs.Headers.{count_of}
use Rattle.simd_json_serde.proofs.Values.{stands_beneath}
use Rattle.simd_json_serde.specs.Paths.{BeginAt, IsStep, way, elements_way, members_way, index_token, key_token}

-- ---- no token

pub way-none : (d : Document) (node : ℕ) → way d 0 node ≡ []
way-none (array ds) node = refl
way-none (object ms) node = refl
way-none _ node = refl

-- ---- nodes that begin with some items

pub front-at : (ns : List Item) (at : ℕ) (xs ys : List Item) → BeginAt ns at (xs ++ ys) → BeginAt ns at xs
front-at ns at xs ys h = (ys ++ h.0, h.1 ∙ append_assoc xs ys h.0)

pub behind-at : (ns : List Item) (at : ℕ) (xs ys : List Item) → BeginAt ns at (xs ++ ys) → BeginAt ns (at + length xs) ys
behind-at ns at xs ys h = (
  h.0,
  ap (λ k. drop k ns) (omega arith) ∙ sym (drop-drop (length xs) at ns)
      ∙ ap (drop (length xs)) (h.1 ∙ append_assoc xs ys h.0) ∙ drop-append_seam xs (ys ++ h.0),
)

first-at : (ns : List Item) (at : ℕ) (x : Item) (xs : List Item) → drop at ns ≡ x ∷ xs → slice_get ns at ≡ Some x
first-at [] zero x xs h = cc
first-at [] (suc at) x xs h = cc
first-at (n ∷ ns) zero x xs h = (let e : n ≡ x = cc in ap Some e)
first-at (n ∷ ns) (suc at) x xs h = first-at ns at x xs h

pub item-at : (ns : List Item) (at : ℕ) (x : Item) (xs : List Item) → BeginAt ns at (x ∷ xs) → slice_get ns at ≡ Some x
item-at ns at x xs h = first-at ns at x (xs ++ h.0) h.1

-- they are within the nodes
pub inside-at : (ns : List Item) (at : ℕ) (d : Document) → BeginAt ns at (listing d) → at + length (listing d) ≤ length ns
inside-at ns at d h =
    omega (arith, length-drop at ns, ap length h.1, length-append (listing d) h.0, positive d)

-- so there is one
pub some-at : (ns : List Item) (at : ℕ) (d : Document) → BeginAt ns at (listing d) → None ≡ slice_get ns at → ⊥
some-at ns at d h none =
    let e : None ≡ Some (get_or ns at (array_item 0 0)) =
    none ∙ slice_get-get_or ns at (array_item 0 0) (omega (arith, inside-at ns at d h, positive d)) in
    cc e

-- the node there
pub sized-at : (ns : List Item) (at : ℕ) (n : Item) (d : Document) → slice_get ns at ≡ Some n → BeginAt ns at (listing d)
    → count_of n + 1 ≡ length (listing d)
sized-at ns at n d got h = stands_beneath ns at d n h.0 got h.1

-- ---- one element, one member further

-- What is known of the elements from `at` on, up to `end`, of which the first has index i: the way through them is that
-- through all.
pub record ElementsFrom (ns : List Item) (end node : ℕ) (all : ℕ → List ℕ) (at i : ℕ) : Type 0 where
  pub elements : Elements
  pub begin : BeginAt ns at (elements_listing elements)
  pub ends : end ≡ at + length (elements_listing elements)
  pub before : at ≤ node
  pub same : (depth : ℕ) → all depth ≡ elements_way elements i depth (node - at)

pub record IsElement (ns : List Item) (node : ℕ) (all : ℕ → List ℕ) (at i : ℕ) : Type 0 where
  pub document : Document
  pub begin : BeginAt ns at (listing document)
  pub same : (depth : ℕ) → all depth ≡ index_token i ++ way document depth (node - at)

module _ (ns : List Item) (end node : ℕ) (all : ℕ → List ℕ) (at i next : ℕ)
    (behind : (d : Document) → BeginAt ns at (listing d) → next ≡ at + length (listing d)) (more : at < end) where
  element-here : (es : Elements) → BeginAt ns at (elements_listing es) → end ≡ at + length (elements_listing es) → at ≤ node
      → ((depth : ℕ) → all depth ≡ elements_way es i depth (node - at)) → node < next → IsElement ns node all at i
  element-here no_elements begin ends before same less = absurd (omega (arith, ends, more))
  element-here (element d ds) begin ends before same less =
      let first = front-at ns at (listing d) (elements_listing ds) begin in
      let inside : node - at < length (listing d) = omega (arith, less, behind d first, before) in
      record {
        document = d;
        begin = first;
        same = λ depth.
            same depth
            ∙ ap (λ b. cond b (index_token i ++ way d depth (node - at)) (elements_way ds (i + 1) depth (node - at - length (listing d))))
            (lt-ltb (node - at) (length (listing d)) inside);
      }

  element-later : (es : Elements) → BeginAt ns at (elements_listing es) → end ≡ at + length (elements_listing es) → at ≤ node
      → ((depth : ℕ) → all depth ≡ elements_way es i depth (node - at)) → next ≤ node → ElementsFrom ns end node all next (i + 1)
  element-later no_elements begin ends before same past = absurd (omega (arith, ends, more))
  element-later (element d ds) begin ends before same past =
      let is : next ≡ at + length (listing d) = behind d (front-at ns at (listing d) (elements_listing ds) begin) in
      let outside : length (listing d) ≤ node - at = omega (arith, past, is) in
      record {
        elements = ds;
        begin = subst (λ k. BeginAt ns k (elements_listing ds)) (sym is) (behind-at ns at (listing d) (elements_listing ds) begin);
        ends = omega (arith, ends, is, length-append (listing d) (elements_listing ds));
        before = past;
        same = λ depth.
            same depth
            ∙ ap (λ b. cond b (index_token i ++ way d depth (node - at)) (elements_way ds (i + 1) depth (node - at - length (listing d))))
            (le-ltb (node - at) (length (listing d)) outside)
            ∙ ap (elements_way ds (i + 1) depth) (omega (arith, is));
      }

pub element-found : (ns : List Item) (end node : ℕ) (all : ℕ → List ℕ) (at i next : ℕ)
    → ((d : Document) → BeginAt ns at (listing d) → next ≡ at + length (listing d)) → at < end
    → ElementsFrom ns end node all at i → node < next → IsElement ns node all at i
element-found ns end node all at i next behind more r =
    element-here ns end node all at i next behind more r.elements r.begin r.ends r.before r.same

pub element-passed : (ns : List Item) (end node : ℕ) (all : ℕ → List ℕ) (at i next : ℕ)
    → ((d : Document) → BeginAt ns at (listing d) → next ≡ at + length (listing d)) → at < end
    → ElementsFrom ns end node all at i → next ≤ node → ElementsFrom ns end node all next (i + 1)
element-passed ns end node all at i next behind more r =
    element-later ns end node all at i next behind more r.elements r.begin r.ends r.before r.same

no-element : (es : Elements) (i depth node : ℕ) → length (elements_listing es) ≡ 0 → elements_way es i depth node ≡ []
no-element no_elements i depth node empty = refl
no-element (element d ds) i depth node empty =
    absurd (omega (arith, empty, length-append (listing d) (elements_listing ds), positive d))

pub elements-end : (ns : List Item) (end node : ℕ) (all : ℕ → List ℕ) (at i : ℕ) → ElementsFrom ns end node all at i → end ≤ at
    → (depth : ℕ) → all depth ≡ []
elements-end ns end node all at i r past depth =
    r.same depth ∙ no-element r.elements i depth (node - at) (omega (arith, r.ends, past))

-- the same of members, of which the first has its key at `key`
pub record MembersFrom (ns : List Item) (end node : ℕ) (all : ℕ → List ℕ) (key : ℕ) : Type 0 where
  pub members : Members
  pub begin : BeginAt ns key (members_listing members)
  pub ends : end ≡ key + length (members_listing members)
  pub before : key ≤ node
  pub same : (depth : ℕ) → all depth ≡ members_way members depth (node - key)

pub record IsMember (ns : List Item) (node : ℕ) (all : ℕ → List ℕ) (key : ℕ) : Type 0 where
  pub name : List ℕ
  pub document : Document
  pub is : slice_get ns key ≡ Some (string_item name)
  pub begin : BeginAt ns (key + 1) (listing document)
  pub same : (depth : ℕ) → all depth ≡ key_token name ++ way document depth (node - (key + 1))

module _ (ns : List Item) (end node : ℕ) (all : ℕ → List ℕ) (key next : ℕ)
    (behind : (d : Document) → BeginAt ns (key + 1) (listing d) → next ≡ key + 1 + length (listing d)) (more : key < end) where
  value-at : (k : List ℕ) (d : Document) (ms : Members) → BeginAt ns key (members_listing (member k d ms))
      → BeginAt ns (key + 1) (listing d ++ members_listing ms)
  value-at k d ms begin = behind-at ns key (string_item k ∷ []) (listing d ++ members_listing ms) begin

  member-here : (es : Members) → BeginAt ns key (members_listing es) → end ≡ key + length (members_listing es) → key ≤ node
      → ((depth : ℕ) → all depth ≡ members_way es depth (node - key)) → node < next → IsMember ns node all key
  member-here no_members begin ends before same less = absurd (omega (arith, ends, more))
  member-here (member k d ms) begin ends before same less =
      let value = front-at ns (key + 1) (listing d) (members_listing ms) (value-at k d ms begin) in
      let inside : node - key < suc (length (listing d)) = omega (arith, less, behind d value, before) in
      record {
        name = k;
        document = d;
        is = item-at ns key (string_item k) (listing d ++ members_listing ms) begin;
        begin = value;
        same = λ depth.
            same depth
            ∙ ap (λ b. cond b (key_token k ++ way d depth (node - key - 1)) (members_way ms depth (node - key - suc (length (listing d)))))
            (lt-ltb (node - key) (suc (length (listing d))) inside)
            ∙ ap (λ n. key_token k ++ way d depth n) (omega arith);
      }

  member-later : (es : Members) → BeginAt ns key (members_listing es) → end ≡ key + length (members_listing es) → key ≤ node
      → ((depth : ℕ) → all depth ≡ members_way es depth (node - key)) → next ≤ node → MembersFrom ns end node all next
  member-later no_members begin ends before same past = absurd (omega (arith, ends, more))
  member-later (member k d ms) begin ends before same past =
      let values = value-at k d ms begin in
      let is : next ≡ key + 1 + length (listing d) = behind d (front-at ns (key + 1) (listing d) (members_listing ms) values) in
      let outside : suc (length (listing d)) ≤ node - key = omega (arith, past, is) in
      record {
        members = ms;
        begin = subst (λ n. BeginAt ns n (members_listing ms)) (sym is) (behind-at ns (key + 1) (listing d) (members_listing ms) values);
        ends = omega (arith, ends, is, length-append (listing d) (members_listing ms));
        before = past;
        same = λ depth.
            same depth
            ∙ ap (λ b. cond b (key_token k ++ way d depth (node - key - 1)) (members_way ms depth (node - key - suc (length (listing d)))))
            (le-ltb (node - key) (suc (length (listing d))) outside)
            ∙ ap (members_way ms depth) (omega (arith, is));
      }

pub member-found : (ns : List Item) (end node : ℕ) (all : ℕ → List ℕ) (key next : ℕ)
    → ((d : Document) → BeginAt ns (key + 1) (listing d) → next ≡ key + 1 + length (listing d)) → key < end
    → MembersFrom ns end node all key → node < next → IsMember ns node all key
member-found ns end node all key next behind more r =
    member-here ns end node all key next behind more r.members r.begin r.ends r.before r.same

pub member-passed : (ns : List Item) (end node : ℕ) (all : ℕ → List ℕ) (key next : ℕ)
    → ((d : Document) → BeginAt ns (key + 1) (listing d) → next ≡ key + 1 + length (listing d)) → key < end
    → MembersFrom ns end node all key → next ≤ node → MembersFrom ns end node all next
member-passed ns end node all key next behind more r =
    member-later ns end node all key next behind more r.members r.begin r.ends r.before r.same

no-member : (ms : Members) (depth node : ℕ) → length (members_listing ms) ≡ 0 → members_way ms depth node ≡ []
no-member no_members depth node empty = refl
no-member (member k d ms) depth node empty = absurd (omega (arith, empty))

pub members-end : (ns : List Item) (end node : ℕ) (all : ℕ → List ℕ) (key : ℕ) → MembersFrom ns end node all key → end ≤ key
    → (depth : ℕ) → all depth ≡ []
members-end ns end node all key r past depth =
    r.same depth ∙ no-member r.members depth (node - key) (omega (arith, r.ends, past))

pub string-there : (ns : List Item) (node : ℕ) (all : ℕ → List ℕ) (key : ℕ) (r : IsMember ns node all key)
    → option_and_then string_text (slice_get ns key) ≡ Some r.name
string-there ns node all key r = ap (option_and_then string_text) r.is

-- ---- one container further

not-zero : (n : ℕ) → (n + 1 == 0) ≡ false
not-zero n = ne_eqb (n + 1) 0 (λ e. omega (arith, e))

open-way : (depth m : ℕ) (path : List ℕ) → 0 < m → cond ((depth + 1 == 0) || (m == 0)) [] path ≡ path
open-way depth m path some =
    ap (λ b. cond (b || (m == 0)) [] path) (not-zero depth) ∙ ap (λ b. cond b [] path) (ne_eqb m 0 (λ e. omega (arith, e, some)))

-- an array there, and its elements
pub record IsArrayAt (ns : List Item) (node : ℕ) (d : Document) (at : ℕ) : Type 0 where
  pub elements : Elements
  pub begin : BeginAt ns (at + 1) (elements_listing elements)
  pub long : length (listing d) ≡ 1 + length (elements_listing elements)
  pub same : (depth : ℕ) → way d (depth + 1) (node - at) ≡ elements_way elements 0 depth (node - (at + 1))

pub record IsOtherAt (ns : List Item) (node : ℕ) (d : Document) (at : ℕ) : Type 0 where
  pub members : Members
  pub begin : BeginAt ns (at + 1) (members_listing members)
  pub long : length (listing d) ≡ 1 + length (members_listing members)
  pub same : (depth : ℕ) → way d (depth + 1) (node - at) ≡ members_way members depth (node - (at + 1))

read-is : (ns : List Item) (at : ℕ) (n x : Item) (xs : List Item) → slice_get ns at ≡ Some n → BeginAt ns at (x ∷ xs) → n ≡ x
read-is ns at n x xs got h = cc (sym got ∙ item-at ns at x xs h)

module _ (ns : List Item) (node at : ℕ) (n : Item) (got : slice_get ns at ≡ Some n) (before : at < node) where
  no-array : (x : Item) (xs : List Item) → BeginAt ns at (x ∷ xs) → is_some (array_count n) ≡ true → is_some (array_count x) ≡ true
  no-array x xs h is = ap (λ y. is_some (array_count y)) (sym (read-is ns at n x xs got h)) ∙ is

  pub array-at : (d : Document) → BeginAt ns at (listing d) → is_some (array_count n) ≡ true → IsArrayAt ns node d at
  array-at null h is = absurd (false≢true (no-array _ [] h is))
  array-at (boolean b) h is = absurd (false≢true (no-array _ [] h is))
  array-at (integer minus m) h is = absurd (false≢true (no-array _ [] h is))
  array-at (decimal t) h is = absurd (false≢true (no-array _ [] h is))
  array-at (string t) h is = absurd (false≢true (no-array _ [] h is))
  array-at (array ds) h is = record {
    elements = ds;
    begin = behind-at ns at (array_item _ _ ∷ []) (elements_listing ds) h;
    long = omega arith;
    same = λ depth.
        open-way depth (node - at) (elements_way ds 0 (depth + 1 - 1) (node - at - 1)) (omega (arith, before))
        ∙ ap (λ k. elements_way ds 0 k (node - at - 1)) (omega arith) ∙ ap (elements_way ds 0 depth) (omega arith);
  }
  array-at (object ms) h is = absurd (false≢true (no-array (object_item _ _) (members_listing ms) h is))

  scalar : (d : Document) (x : Item) → listing d ≡ x ∷ [] → ((depth m : ℕ) → way d depth m ≡ []) → BeginAt ns at (listing d)
      → IsOtherAt ns node d at
  scalar d x is none h = record {
    members = no_members;
    begin = behind-at ns at (x ∷ []) [] (subst (BeginAt ns at) is h);
    long = ap length is;
    same = λ depth. none (depth + 1) (node - at);
  }

  pub other-at : (d : Document) → BeginAt ns at (listing d) → is_some (array_count n) ≡ false → IsOtherAt ns node d at
  other-at null h is = scalar null _ refl (λ depth m. refl) h
  other-at (boolean b) h is = scalar (boolean b) _ refl (λ depth m. refl) h
  other-at (integer minus m) h is = scalar (integer minus m) _ refl (λ depth k. refl) h
  other-at (decimal t) h is = scalar (decimal t) _ refl (λ depth m. refl) h
  other-at (string t) h is = scalar (string t) _ refl (λ depth m. refl) h
  other-at (array ds) h is =
      absurd (false≢true (sym is ∙ ap (λ y. is_some (array_count y))
      (read-is ns at n (array_item _ _) (elements_listing ds) got h)))
  other-at (object ms) h is = record {
    members = ms;
    begin = behind-at ns at (object_item _ _ ∷ []) (members_listing ms) h;
    long = omega arith;
    same = λ depth.
        open-way depth (node - at) (members_way ms (depth + 1 - 1) (node - at - 1)) (omega (arith, before))
        ∙ ap (λ k. members_way ms k (node - at - 1)) (omega arith) ∙ ap (members_way ms depth) (omega arith);
  }

-- where there is no child, no token either
pub no-token : (d : Document) (m : ℕ) → ((depth : ℕ) → way d (depth + 1) m ≡ []) → (depth : ℕ) → way d depth m ≡ []
no-token d m none zero = way-none d m
no-token d m none (suc depth) = ap (λ k. way d k m) (omega arith) ∙ none depth

pub token-then : (old new token path whole : List ℕ) → new ≡ old ++ token → whole ≡ token ++ path → new ++ path ≡ old ++ whole
token-then old new token path whole appended is =
    ap (λ t. t ++ path) appended ∙ append_assoc old token path ∙ ap (λ t. old ++ t) (sym is)

-- what is known of the value at `at`: the way from it, with what was appended, is that from the root
pub record IsOnWay (ns : List Item) (node : ℕ) (whole appended : List ℕ) (at left : ℕ) : Type 0 where
  pub document : Document
  pub begin : BeginAt ns at (listing document)
  pub same : appended ++ way document left (node - at) ≡ whole

pub at-root : (ns : List Item) (node depth : ℕ) (d : Document) (old : List ℕ) → ns ≡ listing d
    → IsOnWay ns node (old ++ way d depth node) old 0 (depth - 0)
at-root ns node depth d old h = record {
  document = d;
  begin = ([], h ∙ sym (append-nil (listing d)));
  same = ap (λ k. old ++ way d k (node - 0)) (omega arith) ∙ ap (λ m. old ++ way d depth m) (omega arith);
}

pub on-way : (ns : List Item) (node : ℕ) (whole old new : List ℕ) (at child left less : ℕ) (r : IsOnWay ns node whole old at left)
    → IsStep ns node r.document at old new (Some child) → left ≡ less + 1 → IsOnWay ns node whole new child less
on-way ns node whole old new at child left less r step is = record {
  document = step.0;
  begin = step.1;
  same = step.2 less ∙ ap (λ k. old ++ way r.document k (node - at)) (sym is) ∙ r.same;
}

pub ends-none : (ns : List Item) (node : ℕ) (whole appended : List ℕ) (at left : ℕ) → IsOnWay ns node whole appended at left → left ≡ 0
    → appended ≡ whole
ends-none ns node whole appended at left r none =
    sym (append-nil appended) ∙ ap (λ p. appended ++ p) (sym (ap (λ n. way r.document n (node - at)) none
    ∙ way-none r.document (node - at)))
    ∙ r.same

pub ends-step : (ns : List Item) (node : ℕ) (whole old new : List ℕ) (at left : ℕ) (r : IsOnWay ns node whole old at left)
    → IsStep ns node r.document at old new None → new ≡ whole
ends-step ns node whole old new at left r step =
    step.0 ∙ sym (append-nil old) ∙ ap (λ p. old ++ p) (sym (step.1 left)) ∙ r.same
