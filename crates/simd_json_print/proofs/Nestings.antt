-- The steps of the walk, by what is left of the containers that are open.
use Rattle.std.proofs.Common.{◌≡◌, ◌∙◌, ap, ap₂, sym, refl, subst, ◌<◌, ◌≤◌, ◌+◌, ◌-◌, ◌^◌, ◌⊎◌, inl, inr, ℕ, suc, Bool, true, false, cond}
use Rattle.std.proofs.Common.{List, [], ◌∷◌, ◌++◌, length, length-append, map, min, take, drop, get_or, set, append_assoc, append-nil}
use Rattle.std.proofs.Common.{arith}
use Rattle.std.proofs.lemmas.List.{get_or-set_other, get_or-set_same, length-map, take-map, drop-map}
use Rattle.std.proofs.lemmas.Bool.{both_ways}
use Rattle.std.proofs.lemmas.Grind.{common_steps}
use Rattle.std.proofs.Math.Seq.{take-append_seam, drop-append_seam}
use Rattle.simd_json_parts.proofs.Documents.Fronts.{positive}
use Rattle.simd_json_parts.specs.Bytes.{comma, left_bracket, right_bracket, left_brace, right_brace}
use Rattle.simd_json_parts.specs.Document.{Document, Elements, no_elements, element, Members, no_members, member}
use Rattle.simd_json_parts.specs.Limits.{depth}
use Rattle.simd_json_parts.specs.Listing.{listing, elements_listing, members_listing}
use Rattle.simd_json_parts.specs.Nodes.{Item, string_item, item_of}
use Rattle.simd_json_parts.specs.Headers.{count_of}
use Rattle.simd_json_parts.specs.Printed.{quoted, line, after_name, text, elements_text, members_text}
use Rattle.simd_json_parts.specs.declared.node.Node.{Node}
use Rattle.simd_json_parts.specs.declared.node.Node.TheVariants as nodes
use Rattle.simd_json_print.specs.Frames.{Frame, elements_left, members_left, has_members, frame_listing, frame_text, frames_listing}
use Rattle.simd_json_print.specs.Frames.{frames_text, AreNested, IsBetween, IsAtValue, IsDeep, IsNext, is_object_item, no_level}
use Rattle.simd_json_print.specs.Layout.{leaf_text}
use Rattle.simd_json_print.specs.declared.document.walk.Level.{Level}
use Rattle.simd_json_print.proofs.Walk.{IsOpened, is-leaf, is-opened, beneath-within, positive-depth, same-first, same-rest, split-first}

-- ---- the first step

at-start : (p : Bool) (n : ℕ) (levels : List Level) (count : ℕ) (items : List Item) (d : Document) → count ≡ 0 → items ≡ listing d
    → IsAtValue p n levels count items [] d
at-start p n levels count items d none is = record {
  value = d;
  frames = [];
  number = sym none;
  within = omega arith;
  are_nested = tt;
  listed = is ∙ sym (append-nil (listing d));
  printed = append-nil (text p d (n + 0)) ∙ ap (λ k. text p d k) (omega arith);
}

pub starts : (p : Bool) (n : ℕ) (levels : List Level) (count : ℕ) (items : List Item) (done : List ℕ) (d : Document) → count ≡ 0 → done ≡ []
    → items ≡ listing d → IsAtValue p n levels count items done d
starts p n levels count items done d none start is =
    subst (λ us. IsAtValue p n levels count items us d) (sym start) (at-start p n levels count items d none is)

pub begins : (p : Bool) (n : ℕ) (levels : List Level) (count : ℕ) (ns : List Node) (done : List ℕ) (d : Document) → count ≡ 0 → done ≡ []
    → map item_of ns ≡ listing d → IsNext p n levels count (map item_of ns) done d
begins p n levels count [] done d none start is = absurd (omega (arith, positive d, ap length is))
begins p n levels count (x ∷ ns) done d none start is = starts p n levels count (map item_of (x ∷ ns)) done d none start is

-- ---- an element or a member

-- what the innermost container is, as its record says
same-at : {A : Type 0} (xs : List A) (k : ℕ) (outer : List Frame) (default : A) → suc (length outer) ≡ k
    → get_or xs (k - 1) default ≡ get_or xs (length outer) default
same-at xs k outer default is = let same : k - 1 ≡ length outer = omega (arith, is) in ap (λ i. get_or xs i default) same

turned : (done before name value more close outer : List ℕ) → (done ++ (before ++ name)) ++ (value ++ ((more ++ close) ++ outer))
    ≡ done ++ (((before ++ (name ++ (value ++ more))) ++ close) ++ outer)
turned done before name value more close outer = grind (arith, common_steps)

element-at : (p : Bool) (n i j : ℕ) (first : Bool) (done whole : List ℕ) (d : Document) (ds : Elements) (outer : List Frame)
    → i ≡ suc (n + length outer) → j ≡ suc (n + length outer) → done ++ frames_text p n first (elements_left (element d ds) ∷ outer) ≡ whole
    → (done ++ (cond first left_bracket comma ∷ line p i)) ++ (text p d j ++ frames_text p n false (elements_left ds ∷ outer)) ≡ whole
element-at p n i j first done whole d ds outer one two is =
    let k = n + length outer in
    let b = cond first left_bracket comma in
    ap₂ (λ u v. (done ++ (b ∷ line p u)) ++ (text p d v ++ frames_text p n false (elements_left ds ∷ outer))) one two
    ∙ turned done (b ∷ []) (line p (suc k)) (text p d (suc k)) (elements_text p comma ds (suc k)) (line p k ++ right_bracket ∷ [])
    (frames_text p n false outer) ∙ is

member-at : (p : Bool) (n i j : ℕ) (first : Bool) (done whole : List ℕ) (k : List ℕ) (d : Document) (ms : Members) (outer : List Frame)
    → i ≡ suc (n + length outer) → j ≡ suc (n + length outer) → done ++ frames_text p n first (members_left (member k d ms) ∷ outer) ≡ whole
    → (done ++ (cond first left_brace comma ∷ (line p i ++ (quoted k ++ after_name p))))
    ++ (text p d j ++ frames_text p n false (members_left ms ∷ outer)) ≡ whole
member-at p n i j first done whole k d ms outer one two is =
    let m = n + length outer in
    let b = cond first left_brace comma in
    ap₂ (λ u v. (done ++ (b ∷ (line p u ++ (quoted k ++ after_name p))))
    ++ (text p d v ++ frames_text p n false (members_left ms ∷ outer))) one two
    ∙ turned done (b ∷ line p (suc m)) (quoted k ++ after_name p) (text p d (suc m)) (members_text p comma ms (suc m))
    (line p m ++ right_brace ∷ []) (frames_text p n false outer) ∙ is

-- a container of which some is open
nested-more : (levels : List Level) (limit : ℕ) (fs : List Frame) (k : ℕ) (level : Level) → length fs ≤ k → AreNested levels limit fs
    → AreNested (set levels k level) limit fs
nested-more levels limit [] k level fits is = is
nested-more levels limit (f ∷ outer) k level fits is =
    let same = get_or-set_other levels k (length outer) level no_level (λ same. absurd (omega (arith, fits, same))) in (
      ap (λ l. l.end) same ∙ is.0,
      ap (λ l. l.is_object) same ∙ is.1,
      is.2,
      nested-more levels limit outer k level (omega (arith, fits)) is.3,
    )

-- a longer list of levels
nested-longer : (levels new : List Level) (limit : ℕ) (fs : List Frame) → length fs ≤ length levels
    → ((k : ℕ) → k < length levels → get_or new k no_level ≡ get_or levels k no_level) → AreNested levels limit fs → AreNested new limit fs
nested-longer levels new limit [] fits longer is = is
nested-longer levels new limit (f ∷ outer) fits longer is =
    let same = longer (length outer) (omega (arith, fits)) in (
      ap (λ l. l.end) same ∙ is.0,
      ap (λ l. l.is_object) same ∙ is.1,
      is.2,
      nested-longer levels new limit outer (omega (arith, fits)) longer is.3,
    )

set-here : {A : Type 0} (xs : List A) (k j : ℕ) (v default : A) → k < length xs → j ≡ k → get_or (set xs k v) j default ≡ v
set-here xs k j v default room same = ap (λ i. get_or (set xs k v) i default) same ∙ get_or-set_same xs k v default room

closed-text : (p : Bool) (k : ℕ) (first : Bool) (f : Frame) → frame_listing f ≡ []
    → frame_text p k first f ≡ line p k ++ cond (has_members f) right_brace right_bracket ∷ []
closed-text p k first (elements_left no_elements) none = refl
closed-text p k first (members_left no_members) none = refl
closed-text p k first (elements_left (element d ds)) none =
    absurd (omega (arith, positive d, ap length none, length-append (listing d) (elements_listing ds)))
closed-text p k first (members_left (member t d ms)) none = absurd (omega (arith, ap length none))

none-of : (xs : List Item) → length xs ≡ 0 → xs ≡ []
none-of [] none = refl
none-of (x ∷ xs) none = absurd (omega (arith, none))

-- where these containers are open in the root
module _ (p : Bool) (n : ℕ) (levels : List Level) (o : ℕ) (root : Document) where
  abbrev whole : List ℕ
  whole = text p root n

  elements-front : (first : Bool) (items : List Item) (done : List ℕ) (fs : List Frame) → length fs ≡ o
      → AreNested levels (depth root) fs → items ≡ frames_listing fs → done ++ frames_text p n first fs ≡ whole → 0 < o
      → (get_or levels (o - 1) no_level).is_object ≡ false → (get_or levels (o - 1) no_level).end < length items
      → IsAtValue p n levels o items (done ++ (cond first left_bracket comma ∷ line p (n + o))) root
  elements-front first items done [] number are listed is some kind live = absurd (omega (arith, number, some))
  elements-front first items done (members_left ms ∷ outer) number are listed is some kind live =
      absurd (both_ways _ (sym (ap (λ l. l.is_object) (same-at levels o outer no_level number)) ∙ kind) are.1)
  elements-front first items done (elements_left no_elements ∷ outer) number are listed is some kind live =
      absurd (omega (arith, ap (λ l. l.end) (same-at levels o outer no_level number), are.0, ap length listed, live))
  elements-front first items done (elements_left (element d ds) ∷ outer) number are listed is some kind live = record {
    value = d;
    frames = elements_left ds ∷ outer;
    number = number;
    within = omega (arith, are.2);
    are_nested = (are.0, are.1, omega (arith, are.2), are.3);
    listed = listed ∙ append_assoc (listing d) (elements_listing ds) (frames_listing outer);
    printed = element-at p n (n + o) (n + suc (length outer)) first done whole d ds outer (omega (arith, number)) (omega arith) is;
  }

  pub element-before : (first : Bool) (items : List Item) (done : List ℕ) → IsBetween p n levels o first items done root
      → 0 < o → (get_or levels (o - 1) no_level).is_object ≡ false → (get_or levels (o - 1) no_level).end < length items
      → IsAtValue p n levels o items (done ++ (cond first left_bracket comma ∷ line p (n + o))) root
  element-before first items done is = elements-front first items done is.frames is.number is.are_nested is.listed is.printed

  -- the name is the first node
  pub record IsNamed (first : Bool) (x : Item) (items : List Item) (done : List ℕ) : Type 0 where
    pub name : List ℕ
    pub named : x ≡ string_item name
    pub at : IsAtValue p n levels o items (done ++ (cond first left_brace comma ∷ (line p (n + o) ++ (quoted name ++ after_name p)))) root

  members-front : (first : Bool) (x : Item) (items : List Item) (done : List ℕ) (fs : List Frame) → length fs ≡ o
      → AreNested levels (depth root) fs → x ∷ items ≡ frames_listing fs → done ++ frames_text p n first fs ≡ whole → 0 < o
      → (get_or levels (o - 1) no_level).is_object ≡ true → (get_or levels (o - 1) no_level).end < suc (length items)
      → IsNamed first x items done
  members-front first x items done [] number are listed is some kind live = absurd (omega (arith, number, some))
  members-front first x items done (elements_left ds ∷ outer) number are listed is some kind live =
      absurd (both_ways _ are.1 (sym (ap (λ l. l.is_object) (same-at levels o outer no_level number)) ∙ kind))
  members-front first x items done (members_left no_members ∷ outer) number are listed is some kind live =
      absurd (omega (arith, ap (λ l. l.end) (same-at levels o outer no_level number), are.0, ap length listed, live))
  members-front first x items done (members_left (member k d ms) ∷ outer) number are listed is some kind live = record {
    name = k;
    named = same-first x _ items _ listed;
    at = record {
      value = d;
      frames = members_left ms ∷ outer;
      number = number;
      within = omega (arith, are.2);
      are_nested = (are.0, are.1, omega (arith, are.2), are.3);
      listed = same-rest x _ items _ listed ∙ append_assoc (listing d) (members_listing ms) (frames_listing outer);
      printed = member-at p n (n + o) (n + suc (length outer)) first done whole k d ms outer (omega (arith, number)) (omega arith) is;
    };
  }

  pub member-before : (first : Bool) (x : Item) (items : List Item) (done : List ℕ) → IsBetween p n levels o first (x ∷ items) done root
      → 0 < o → (get_or levels (o - 1) no_level).is_object ≡ true → (get_or levels (o - 1) no_level).end < suc (length items)
      → IsNamed first x items done
  member-before first x items done is = members-front first x items done is.frames is.number is.are_nested is.listed is.printed

  -- ---- a value

  no-value : (items : List Item) (done : List ℕ) → length items ≡ 0 → IsAtValue p n levels o items done root → ⊥
  no-value items done none is =
      omega (arith, positive is.value, none, ap length is.listed, length-append (listing is.value) (frames_listing is.frames))

  pub next-value : (items : List Item) (done : List ℕ) → IsAtValue p n levels o items done root → IsNext p n levels o items done root
  next-value [] done is = absurd (no-value [] done refl is)
  next-value (x ∷ items) done is = is

  pub at-value : (items : List Item) (done : List ℕ) → 0 < length items → IsNext p n levels o items done root
      → IsAtValue p n levels o items done root
  at-value [] done some is = absurd (omega (arith, some))
  at-value (x ∷ items) done some is = is

  pub at-end : (items : List Item) (done : List ℕ) → length items ≡ 0 → IsNext p n levels o items done root → done ≡ whole
  at-end [] done none is = is
  at-end (x ∷ items) done none is = absurd (omega (arith, none))

  pub next-end : (items : List Item) (done : List ℕ) → items ≡ [] → done ≡ whole → IsNext p n levels o items done root
  next-end items done none is = subst (λ us. IsNext p n levels o us done root) (sym none) is

  -- where nothing is open
  none-left : (first : Bool) (fs : List Frame) (done : List ℕ) → length fs ≡ 0 → done ++ frames_text p n first fs ≡ whole → done ≡ whole
  none-left first [] done none is = sym (append-nil done) ∙ is
  none-left first (f ∷ outer) done none is = absurd (omega (arith, none))

  pub ended : (first : Bool) (items : List Item) (done : List ℕ) → o ≡ 0 → IsBetween p n levels o first items done root → done ≡ whole
  ended first items done none is = none-left first is.frames done (is.number ∙ none) is.printed

  -- with nothing beneath its first node
  after-leaf : (x : Item) (items : List Item) (done : List ℕ) → count_of x ≡ 0 → IsAtValue p n levels o (x ∷ items) done root
      → IsBetween p n levels o false items (done ++ leaf_text x) root
  after-leaf x items done none is =
      let l = is-leaf p (n + length is.frames) x items (frames_listing is.frames) is.value is.listed none in
      record {
        frames = is.frames;
        number = is.number;
        are_nested = is.are_nested;
        listed = l.after;
        printed = append_assoc done (leaf_text x) (frames_text p n false is.frames)
            ∙ ap (λ us. done ++ (us ++ frames_text p n false is.frames)) l.printed ∙ is.printed;
      }

  -- with some, so the root nests deeper than what is open
  pub deeper : (x : Item) (items : List Item) (done : List ℕ) → 0 < count_of x → IsAtValue p n levels o (x ∷ items) done root → o < depth
      root
  deeper x items done some is =
      let c = is-opened p (n + length is.frames) x items (frames_listing is.frames) is.value is.listed some in
      omega (arith, is.number, is.within, c.deep, positive-depth c.frame)

  -- ---- an end

  closed : (q : ℕ) (first : Bool) (items : List Item) (done : List ℕ) (fs : List Frame) → length fs ≡ o
      → AreNested levels (depth root) fs → items ≡ frames_listing fs → done ++ frames_text p n first fs ≡ whole → 0 < o
      → length items ≤ (get_or levels (o - 1) no_level).end → q ≡ o - 1
      → IsBetween p n levels q false items
      (done ++ (line p (n + q) ++ cond (get_or levels (o - 1) no_level).is_object right_brace right_bracket ∷ [])) root
  closed q first items done [] number are listed is some few count = absurd (omega (arith, number, some))
  closed q first items done (f ∷ outer) number are listed is some few count =
      let same : q ≡ length outer = omega (arith, number, count) in
      let innermost = same-at levels o outer no_level number in
      let none = none-of (frame_listing f) (omega (
        arith,
        ap (λ l. l.end) innermost,
        are.0,
        ap length listed,
        length-append (frame_listing f) (frames_listing outer),
        few,
      )) in
      let end = ap₂ (λ k b. line p (n + k) ++ cond b right_brace right_bracket ∷ []) same (ap (λ l. l.is_object) innermost ∙ are.1)
      ∙ sym (closed-text p (n + length outer) first f none) in
      record {
        frames = outer;
        number = sym same;
        are_nested = are.3;
        listed = listed ∙ ap (λ us. us ++ frames_listing outer) none;
        printed = append_assoc done _ (frames_text p n false outer) ∙ ap (λ us. done ++ (us ++ frames_text p n false outer)) end ∙ is;
      }

  pub after-end : (q : ℕ) (first : Bool) (items : List Item) (done : List ℕ) → IsBetween p n levels o first items done root → 0 < o
      → length items ≤ (get_or levels (o - 1) no_level).end → q ≡ o - 1
      → IsBetween p n levels q false items
      (done ++ (line p (n + q) ++ cond (get_or levels (o - 1) no_level).is_object right_brace right_bracket ∷ [])) root
  after-end q first items done is = closed q first items done is.frames is.number is.are_nested is.listed is.printed

  -- ---- with nodes

  pub element-step : (is_first : Bool) (ns first rest : List Node) (default : Node) (beneath : ℕ) (done : List ℕ) → 0 < length ns
      → first ≡ take 1 ns → rest ≡ drop 1 ns → beneath ≡ count_of (item_of (get_or first 0 default)) → beneath ≡ 0 → 0 < o
      → (get_or levels (o - 1) no_level).is_object ≡ false
      → (get_or levels (o - 1) no_level).end < length ns → IsBetween p n levels o is_first (map item_of ns) done root
      → IsBetween p n levels o false (map item_of rest)
      (done ++ (cond is_first left_bracket comma ∷ (line p (n + o) ++ leaf_text (item_of (get_or first 0 default))))) root
  element-step is_first ns first rest default beneath done some front back sized none open_some kind live is =
      let x = item_of (get_or first 0 default) in
      let before = cond is_first left_bracket comma ∷ line p (n + o) in
      let one = split-first ns first rest default 1 some refl front back in
      let at = subst (λ us. IsBetween p n levels o is_first us done root) one is in
      let more = subst (λ k. (get_or levels (o - 1) no_level).end < k) (sym (length-map ns item_of) ∙ ap length one) live in
      subst (λ us. IsBetween p n levels o false (map item_of rest) us root) (append_assoc done before (leaf_text x))
      (after-leaf x (map item_of rest) (done ++ before) (omega (arith, sized, none))
      (element-before is_first (x ∷ map item_of rest) done at open_some kind more))

  -- a container that is printed by a call of its own
  pub record IsApart (value rest : List Item) (done : List ℕ) : Type 0 where
    pub document : Document
    pub listed : value ≡ listing document
    pub after : IsBetween p n levels o false rest (done ++ text p document (n + o)) root

  -- the value's first node, and how many are beneath it
  module _ (ns first rest : List Node) (default : Node) (beneath count : ℕ) (done : List ℕ) (some : 0 < length ns)
      (front : first ≡ take 1 ns) (back : rest ≡ drop 1 ns) (sized : beneath ≡ count_of (item_of (get_or first 0 default)))
      (least : count ≡ min beneath (length rest)) (is : IsAtValue p n levels o (map item_of ns) done root)
    where
      abbrev x : Item
      x = item_of (get_or first 0 default)

      one : map item_of ns ≡ x ∷ map item_of rest
      one = split-first ns first rest default 1 some refl front back

      at : IsAtValue p n levels o (x ∷ map item_of rest) done root
      at = subst (λ us. IsAtValue p n levels o us done root) one is

      exact : count ≡ count_of x
      exact = omega (
        arith,
        beneath-within x (map item_of rest) (frames_listing at.frames) at.value at.listed,
        length-map rest item_of,
        sized,
        least,
      )

      pub leaf-step : count ≡ 0 → IsBetween p n levels o false (map item_of rest) (done ++ leaf_text x) root
      leaf-step none = after-leaf x (map item_of rest) done (sym exact ∙ none) at

      opened-at : 0 < count → IsOpened p (n + length at.frames) x (map item_of rest) (frames_listing at.frames) at.value
      opened-at more = is-opened p (n + length at.frames) x (map item_of rest) (frames_listing at.frames) at.value at.listed
          (omega (arith, exact, more))

      pub open-step : (new : List Level) (level : Level) (q : ℕ) → 0 < count → o < length levels → new ≡ set levels o level
          → level.end ≡ length rest - count → level.is_object ≡ is_object_item x → q ≡ o + 1
          → IsBetween p n new q true (map item_of rest) done root
      open-step new level q more room stored at_end kind counted =
          let c = opened-at more in
          let left : level.end ≡ length (frames_listing at.frames) = omega (
            arith,
            at_end,
            exact,
            c.count,
            length-map rest item_of,
            ap length c.after,
            length-append (frame_listing c.frame) (frames_listing at.frames),
          ) in
          let here = set-here levels o (length at.frames) level no_level room at.number in
          record {
            frames = c.frame ∷ at.frames;
            number = omega (arith, at.number, counted);
            are_nested = subst (λ ls. AreNested ls (depth root) (c.frame ∷ at.frames)) (sym stored) (
              ap (λ l. l.end) here ∙ left,
              ap (λ l. l.is_object) here ∙ kind ∙ c.kind,
              omega (arith, at.within, c.deep),
              nested-more levels (depth root) at.frames o level (omega (arith, at.number)) at.are_nested,
            );
            listed = c.after;
            printed = ap (λ us. done ++ (us ++ frames_text p n false at.frames)) (sym c.printed) ∙ at.printed;
          }

      pub some-beneath : IsDeep levels o (map item_of ns) → 0 < count
      some-beneath deep =
          let here : IsDeep levels o (x ∷ map item_of rest) = subst (λ us. IsDeep levels o us) one deep in
          omega (arith, exact, here.0)

      pub apart-step : (value others : List Node) → 0 < count → value ≡ take (count + 1) ns → others ≡ drop (count + 1) ns
          → IsApart (map item_of value) (map item_of others) done
      apart-step value others more fronts backs =
          let d = at.value in
          let size : count + 1 ≡ length (listing d) = omega (arith, exact, (opened-at more).count, ap length (opened-at more).whole) in
          let all = one ∙ at.listed in
          record {
            document = d;
            listed = ap (map item_of) fronts ∙ sym (take-map item_of (count + 1) ns) ∙ ap₂ (λ k us. take k us) size all
                ∙ take-append_seam (listing d) (frames_listing at.frames);
            after = record {
              frames = at.frames;
              number = at.number;
              are_nested = at.are_nested;
              listed = ap (map item_of) backs ∙ sym (drop-map item_of (count + 1) ns) ∙ ap₂ (λ k us. drop k us) size all
                  ∙ drop-append_seam (listing d) (frames_listing at.frames);
              printed = append_assoc done (text p d (n + o)) (frames_text p n false at.frames)
                  ∙ ap (λ k. done ++ (text p d (n + k) ++ frames_text p n false at.frames)) (sym at.number) ∙ at.printed;
            };
          }

-- for which there is no level, though the root has one
pub apart-less : (levels : List Level) (o : ℕ) (ns first rest : List Node) (default : Node) (beneath count all : ℕ)
    → IsDeep levels o (map item_of ns) → 0 < length levels → 0 < length ns → first ≡ take 1 ns → rest ≡ drop 1 ns
    → beneath ≡ count_of (item_of (get_or first 0 default)) → count ≡ min beneath (length rest) → o + length ns ≤ all → count + 1 < all
apart-less levels o ns first rest default beneath count all deep has some front back sized least room =
    let one = split-first ns first rest default 1 some refl front back in
    by-case (subst (λ us. IsDeep levels o us) one deep).1
  where
    size : length ns ≡ suc (length (map item_of rest))
    size = sym (length-map ns item_of) ∙ ap length (split-first ns first rest default 1 some refl front back)

    by-case : (length levels ≤ o) ⊎ (count_of (item_of (get_or first 0 default)) + 2 ^ 32 ≤ length (map item_of rest)) → count + 1 < all
    by-case (inl full) = omega (arith, full, has, size, length-map rest item_of, least, room)
    by-case (inr great) = omega (arith, great, sized, size, length-map rest item_of, least, room)

-- with fewer nodes than an end can have
pub is-full : (levels : List Level) (o : ℕ) (ns : List Node) → IsDeep levels o (map item_of ns) → 0 < length ns → length ns < 2 ^ 32
    → length levels ≤ o
is-full levels o [] deep some few = absurd (omega (arith, some))
is-full levels o (x ∷ ns) deep some few = by-case deep.1
  where
    by-case : (length levels ≤ o) ⊎ (count_of (item_of x) + 2 ^ 32 ≤ length (map item_of ns)) → length levels ≤ o
    by-case (inl full) = full
    by-case (inr great) = absurd (omega (arith, great, few, length-map ns item_of))

-- a container for which there is no level is within a root that nests deeper than there are levels
pub nests-deeper : (p : Bool) (n : ℕ) (levels : List Level) (o : ℕ) (root : Document) (ns : List Node) (done : List ℕ)
    → IsDeep levels o (map item_of ns) → 0 < length ns → IsAtValue p n levels o (map item_of ns) done root → o < depth root
nests-deeper p n levels o root [] done deep some at = absurd (omega (arith, some))
nests-deeper p n levels o root (x ∷ ns) done deep some at = deeper p n levels o root (item_of x) (map item_of ns) done deep.0 at

-- with more levels
pub at-longer : (p : Bool) (n : ℕ) (levels new : List Level) (o : ℕ) (items : List Item) (done : List ℕ) (root : Document)
    → o ≤ length levels → ((k : ℕ) → k < length levels → get_or new k no_level ≡ get_or levels k no_level)
    → IsAtValue p n levels o items done root → IsAtValue p n new o items done root
at-longer p n levels new o items done root fits longer is = record {
  value = is.value;
  frames = is.frames;
  number = is.number;
  within = is.within;
  are_nested = nested-longer levels new (depth root) is.frames (omega (arith, is.number, fits)) longer is.are_nested;
  listed = is.listed;
  printed = is.printed;
}

-- only an object's header is one
pub no-object : (x : Node) → ((len count : ℕ) → x ≡ nodes.Object len count → ⊥) → is_object_item (item_of x) ≡ false
no-object (nodes.String s) none = refl
no-object (nodes.Static s) none = refl
no-object (nodes.Decimal s) none = refl
no-object (nodes.Array len count) none = refl
no-object (nodes.Object len count) none = absurd (none len count refl)
