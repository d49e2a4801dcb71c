-- What is held grows by a value, by a name, by an opening bracket and by a closing one.
use Rattle.std.proofs.Common.{◌≡◌, refl, sym, ◌∙◌, ap, subst, ℕ, ◌+◌, ◌-◌, ◌<◌, ◌≤◌, List, [], ◌∷◌, ◌++◌, length, set, append_assoc}
use Rattle.std.proofs.Common.{get_or, length-append, true, arith}
use Rattle.std.proofs.Math.Seq.{get_or-append_seam}
use Rattle.std.proofs.lemmas.List.{append-nil}
use Rattle.simd_json_parts.specs.Document.{Document, array, object, elements, members}
use Rattle.simd_json_parts.specs.Document.{no_elements, no_members}
use Rattle.simd_json_parts.specs.Nodes.{Item, static_item, string_item, array_item, object_item}
use Rattle.simd_json_parts.specs.Listing.{listing, elements_listing, members_listing}
use Rattle.simd_json_parts.specs.declared.node.StaticNode.TheVariants.{Null}
use Rattle.simd_json_stages.specs.Continued.{Open, in_array, in_object, elements_onto, members_onto}
use Rattle.simd_json_stages.specs.Building.{header_of, is_header, listings, member_listings, Headed, Holds, HoldsValue, HoldsMembers}
use Rattle.simd_json_stages.specs.Building.{closed_with}
use Rattle.simd_json_stages.specs.declared.stage2.stack.Container.{Container}
use Rattle.simd_json_stages.specs.declared.stage2.stack.StackState.{StackState}

-- ---- listings

listings-append : (ds : List Document) (d : Document) → listings (ds ++ d ∷ []) ≡ listings ds ++ listing d
listings-append [] d = simp append-nil
listings-append (x ∷ ds) d = ap (λ items. listing x ++ items) (listings-append ds d)
    ∙ sym (append_assoc (listing x) (listings ds) (listing d))

member_listings-append : (ms : List (List ℕ × Document)) (name : List ℕ) (d : Document)
    → member_listings (ms ++ (name, d) ∷ []) ≡ member_listings ms ++ string_item name ∷ listing d
member_listings-append [] name d = simp append-nil
member_listings-append (m ∷ ms) name d =
    ap (λ items. string_item m.0 ∷ (listing m.1 ++ items)) (member_listings-append ms name d)
    ∙ ap (λ items. string_item m.0 ∷ items) (sym (append_assoc (listing m.1) (member_listings ms) (string_item name ∷ listing d)))

-- the containers of these members
listing-onto : (ds : List Document) → elements_listing (elements_onto ds no_elements) ≡ listings ds
listing-onto [] = refl
listing-onto (d ∷ ds) = ap (λ items. listing d ++ items) (listing-onto ds)

length-onto : (ds : List Document) → length (elements (elements_onto ds no_elements)) ≡ length ds
length-onto [] = refl
length-onto (d ∷ ds) = let h : length (elements (elements_onto ds no_elements)) ≡ length ds = length-onto ds in omega (arith, h)

members_listing-onto : (ms : List (List ℕ × Document)) → members_listing (members_onto ms no_members) ≡ member_listings ms
members_listing-onto [] = refl
members_listing-onto (m ∷ ms) = ap (λ items. string_item m.0 ∷ (listing m.1 ++ items)) (members_listing-onto ms)

length-members_onto : (ms : List (List ℕ × Document)) → length (members (members_onto ms no_members)) ≡ length ms
length-members_onto [] = refl
length-members_onto (m ∷ ms) = let h : length (members (members_onto ms no_members)) ≡ length ms = length-members_onto ms in
    omega (arith, h)

listing-array_of : (ds : List Document) → listing (array (elements_onto ds no_elements)) ≡ array_item (length ds)
    (length (listings ds)) ∷ listings ds
listing-array_of ds = rw (listing-onto ds, length-onto ds) refl

listing-object_of : (ms : List (List ℕ × Document)) → listing (object (members_onto ms no_members)) ≡ object_item (length ms)
    (length (member_listings ms)) ∷ member_listings ms
listing-object_of ms = rw (members_listing-onto ms, length-members_onto ms) refl

-- there are no more members than nodes
pub listing-some : (d : Document) → 0 < length (listing d)
listing-some (array ds) = omega arith
listing-some (object ms) = omega arith
listing-some _ = omega arith

length-listings : (ds : List Document) → length ds ≤ length (listings ds)
length-listings [] = omega arith
length-listings (d ∷ ds) = omega (arith, length-listings ds, listing-some d, length-append (listing d) (listings ds))

length-member_listings : (ms : List (List ℕ × Document)) → length ms ≤ length (member_listings ms)
length-member_listings [] = omega arith
length-member_listings (m ∷ ms) = omega (arith, length-member_listings ms, length-append (listing m.1) (member_listings ms))

-- ---- what is after a header

-- it grows
Headed-grown : (round : Container → List StackState → ℕ → List Item → Type 0) (us vs ws : List Item) (m n : ℕ)
    (fs : List StackState) (len more : ℕ) (items : List Item)
    → ws ≡ us ++ vs → m + more ≡ n → Headed round us m fs len items → Headed round ws n fs (len + more) (items ++ vs)
Headed-grown round us vs ws m n [] len more items longer sum h = h
Headed-grown round us vs ws m n (f ∷ fs) len more items longer sum (before, header, heads, is, at, count, beyond) =
    let grown : items ++ vs ≡ before ++ header ∷ ws = ap (λ xs. xs ++ vs) is ∙ append_assoc before (header ∷ us) vs
    ∙ ap (λ xs. before ++ header ∷ xs) (sym longer) in
    (before, header, heads, grown, at, omega (arith, count, sum), beyond)

-- it has no fewer nodes than members
Headed-len : (round : Container → List StackState → ℕ → List Item → Type 0) (us : List Item) (n : ℕ) (fs : List StackState)
    (len : ℕ) (items : List Item)
    → n ≤ length us → Headed round us n fs len items → len ≤ length items
Headed-len round us n [] len items enough h = absurd h
Headed-len round us n (f ∷ fs) len items enough (before, header, heads, is, at, count, beyond) = omega
    (arith, enough, count, ap length is, length-append before (header ∷ us))

Holds-len : (opens : List Open) (c : Container) (fs : List StackState) (len : ℕ) (items : List Item) → Holds opens c fs len items
    → len ≤ length items
Holds-len [] c fs len items h = omega (arith, h.1)
Holds-len (in_array ds ∷ outer) c fs len items h = Headed-len (Holds outer) (listings ds) (length ds) fs len items (length-listings ds) h.1
Holds-len (in_object ms name ∷ outer) c fs len items h =
    let enough : length ms ≤ length (member_listings ms ++ string_item name ∷ []) = omega
    (arith, length-member_listings ms, length-append (member_listings ms) (string_item name ∷ [])) in
    Headed-len (Holds outer) (member_listings ms ++ string_item name ∷ []) (length ms) fs len items enough h.1

-- the list with another element after the first of its parts
set-after : {X : Type 0} (xs ys : List X) (x y : X) → set (xs ++ x ∷ ys) (length xs) y ≡ xs ++ y ∷ ys
set-after [] ys x y = refl
set-after (z ∷ xs) ys x y = ap (λ zs. z ∷ zs) (set-after xs ys x y)

-- its header is patched
patched : (item : ℕ → ℕ → Item) (before us : List Item) (header : Item) (n at len : ℕ) (items : List Item)
    → items ≡ before ++ header ∷ us → at ≡ length before → len ≡ n
    → set items at (item len (length items - at - 1)) ≡ before ++ item n (length us) ∷ us
patched item before us header n at len items is at-is count =
    let beneath : length items - at - 1 ≡ length us = omega (arith, at-is, ap length is, length-append before (header ∷ us)) in
    ap (λ k. set items at (item len k)) beneath
    ∙ ap (λ k. set items k (item len (length us))) at-is
    ∙ ap (λ xs. set xs (length before) (item len (length us))) is
    ∙ set-after before us header (item len (length us))
    ∙ ap (λ k. before ++ item k (length us) ∷ us) count

-- the item there is a header
abbrev pub HasHeader : List Item → ℕ → Type 0
HasHeader items k = (k < length items) × (is_header (get_or items k (static_item Null)) ≡ true)

Headed-top : (outer : List Open) (us : List Item) (n : ℕ) (f : StackState) (fs : List StackState) (len : ℕ) (items : List Item)
    → Headed (Holds outer) us n (f ∷ fs) len items → HasHeader items f.header × (f.len < length items)
Headed-top outer us n f fs len items (before, header, heads, is, at, count, beyond) =
    let size : length items ≡ length before + length (header ∷ us) = ap length is ∙ length-append before (header ∷ us) in
    ((omega (arith, at, size), rw (is, at, get_or-append_seam) heads), omega (arith, Holds-len outer f.outer fs f.len before beyond, size))

-- ---- what is held

-- one more value
pub Holds-value : (opens : List Open) (c : Container) (fs : List StackState) (len : ℕ) (items : List Item) (d : Document)
    → Holds opens c fs len items → HoldsValue opens d c fs (len + 1) (items ++ listing d)
Holds-value [] c fs len items d h = (h.0, ap (λ us. us ++ listing d) h.2)
Holds-value (in_array ds ∷ outer) c fs len items d h = (
  h.0,
  Headed-grown (Holds outer) (listings ds) (listing d) (listings (ds ++ d ∷ [])) (length ds) (length ds + 1)
      fs len 1 items (listings-append ds d) refl h.1,
)
Holds-value (in_object ms name ∷ outer) c fs len items d h =
    let longer : member_listings (ms ++ (name, d) ∷ []) ≡ (member_listings ms ++ string_item name ∷ []) ++ listing d =
    member_listings-append ms name d ∙ sym (append_assoc (member_listings ms) (string_item name ∷ []) (listing d)) in (
      h.0,
      Headed-grown (Holds outer) (member_listings ms ++ string_item name ∷ []) (listing d)
          (member_listings (ms ++ (name, d) ∷ [])) (length ms) (length ms + 1) fs len 1 items longer refl h.1,
    )

-- a name
pub Holds-name : (ms : List (List ℕ × Document)) (outer : List Open) (c : Container) (fs : List StackState) (len : ℕ)
    (items : List Item) (name : List ℕ)
    → HoldsMembers ms outer c fs len items → Holds (in_object ms name ∷ outer) c fs len (items ++ string_item name ∷ [])
Holds-name ms outer c fs len items name h =
    let same : len + 0 ≡ len = omega arith in (
      h.0,
      subst (λ n. Headed (Holds outer) (member_listings ms ++ string_item name ∷ []) (length ms) fs n (items ++ string_item name ∷ [])) same
          (Headed-grown (Holds outer) (member_listings ms) (string_item name ∷ []) (member_listings ms ++ string_item name ∷ [])
          (length ms) (length ms) fs len 0 items refl (omega arith) h.1),
    )

-- a comma
pub Holds-comma : (ds : List Document) (outer : List Open) (d : Document) (c : Container) (fs : List StackState) (len : ℕ)
    (items : List Item)
    → HoldsValue (in_array ds ∷ outer) d c fs len items → Holds (in_array (ds ++ d ∷ []) ∷ outer) c fs len items
Holds-comma ds outer d c fs len items h =
    let same : length ds + 1 ≡ length (ds ++ d ∷ []) = omega (arith, length-append ds (d ∷ [])) in
    (h.0, subst (λ n. Headed (Holds outer) (listings (ds ++ d ∷ [])) n fs len items) same h.1)

pub Holds-member_comma : (ms : List (List ℕ × Document)) (name : List ℕ) (outer : List Open) (d : Document) (c : Container)
    (fs : List StackState) (len : ℕ) (items : List Item)
    → HoldsValue (in_object ms name ∷ outer) d c fs len items → HoldsMembers (ms ++ (name, d) ∷ []) outer c fs len items
Holds-member_comma ms name outer d c fs len items h =
    let same : length ms + 1 ≡ length (ms ++ (name, d) ∷ []) = omega (arith, length-append ms ((name, d) ∷ [])) in
    (h.0, subst (λ n. Headed (Holds outer) (member_listings (ms ++ (name, d) ∷ [])) n fs len items) same h.1)

-- an opening bracket
pub Headed-open : (header : Item) → is_header header ≡ true → (opens : List Open) (c : Container) (fs : List StackState) (len : ℕ)
    (items : List Item) (k : ℕ) → Holds opens c fs len items → k ≡ length items
    → let f : StackState = record { header = k; outer = c; len = len } in
    Headed (Holds opens) [] 0 (f ∷ fs) 0 (items ++ header ∷ [])
Headed-open header heads opens c fs len items k h at = (items, header, heads, refl, at, refl, h)

-- a closing bracket: the header is patched
pub Holds-close : (o : Open) (outer : List Open) (d : Document) (c : Container) (f : StackState) (fs : List StackState) (len : ℕ)
    (items : List Item)
    → HoldsValue (o ∷ outer) d c (f ∷ fs) len items
    → HoldsValue outer (closed_with o d) f.outer fs (f.len + 1)
    (set items f.header (header_of c len (length items - f.header - 1)))
Holds-close (in_array ds) outer d c f fs len items (kind, (before, header, heads, is, at, count, beyond)) =
    let same : set items f.header (header_of c len (length items - f.header - 1)) ≡ before ++ listing
    (closed_with (in_array ds) d) =
    ap (λ k. set items f.header (header_of k len (length items - f.header - 1))) kind
    ∙ patched array_item before (listings (ds ++ d ∷ [])) header (length (ds ++ d ∷ [])) f.header len items is at
    (omega (arith, count, length-append ds (d ∷ [])))
    ∙ ap (λ us. before ++ us) (sym (listing-array_of (ds ++ d ∷ []))) in
    subst (HoldsValue outer (closed_with (in_array ds) d) f.outer fs (f.len + 1)) (sym same)
    (Holds-value outer f.outer fs f.len before (closed_with (in_array ds) d) beyond)
Holds-close (in_object ms name) outer d c f fs len items (kind, (before, header, heads, is, at, count, beyond)) =
    let same : set items f.header (header_of c len (length items - f.header - 1)) ≡ before ++ listing
    (closed_with (in_object ms name) d) =
    ap (λ k. set items f.header (header_of k len (length items - f.header - 1))) kind
    ∙ patched object_item before (member_listings (ms ++ (name, d) ∷ [])) header (length (ms ++ (name, d) ∷ []))
    f.header len items is at (omega (arith, count, length-append ms ((name, d) ∷ [])))
    ∙ ap (λ us. before ++ us) (sym (listing-object_of (ms ++ (name, d) ∷ []))) in
    subst (HoldsValue outer (closed_with (in_object ms name) d) f.outer fs (f.len + 1)) (sym same)
    (Holds-value outer f.outer fs f.len before (closed_with (in_object ms name) d) beyond)

-- its frame points at a header, and the container round it has fewer members than there are nodes
pub Holds-top : (o : Open) (outer : List Open) (d : Document) (c : Container) (f : StackState) (fs : List StackState) (len : ℕ)
    (items : List Item) → HoldsValue (o ∷ outer) d c (f ∷ fs) len items → HasHeader items f.header × (f.len < length items)
Holds-top (in_array ds) outer d c f fs len items h = Headed-top outer (listings (ds ++ d ∷ [])) (length ds + 1) f fs len items h.1
Holds-top (in_object ms name) outer d c f fs len items h = Headed-top outer (member_listings (ms ++ (name, d) ∷ [])) (length ms + 1)
    f fs len items h.1
