-- Where the values of a document lie among nodes that list it.
use Rattle.std.proofs.Common.{◌≡◌, ◌≢◌, ◌∙◌, ap, ap₂, sym, subst, refl, ℕ, zero, suc, ◌+◌, ◌-◌, ◌≤◌, ◌<◌, arith, Bool, true, false}
use Rattle.std.proofs.Common.{List, [], ◌∷◌, ◌++◌, length, take, drop, get_or, drop-drop, length-drop, Some, None}
use Rattle.std.proofs.lemmas.List.{drop_more, get_or-drop, length-take}
use Rattle.std.proofs.lemmas.Option.{slice_get-get_or}
use Rattle.std.proofs.lemmas.Slice.Eq.{bytes_eq-Decides}
use Rattle.std.proofs.lemmas.Bool.{and_parts, leb-true, ltb-false, ltb-true}
use Rattle.std.proofs.lemmas.Str.{IsUtf8-from_ascii}
use Rattle.std.specs.Prelude.{◌==◌, ◌||◌, ◌^◌, bytes_eq, nat_le, nat_lt, not, slice_get, unwrap_or, if◌then◌else◌}
use Rattle.std.specs.Prelude.{Option, option_and_then, option_map}
use Rattle.std.specs.Char.{is_ascii_digit}
use Rattle.std.specs.List.{list_all}
use Rattle.std.specs.Str.{IsAscii, IsUtf8}
use Rattle.std.specs.Result.{result_ok}
use Rattle.simd_json_parts.specs.Document.{Document, null, boolean, integer, decimal, string, array, object, Elements}
use Rattle.simd_json_parts.specs.Document.{no_elements, element, elements, Members, no_members, member, members}
use Rattle.simd_json_parts.specs.Followed.{IsPlain, fits_64}
use Rattle.simd_json_parts.specs.Integers.{integer_node}
use Rattle.simd_json_parts.specs.Listing.{listing, elements_listing, members_listing}
use Rattle.simd_json_parts.specs.Nodes.{Item, static_item, decimal_item, string_item, array_item, object_item}
use Rattle.simd_json_parts.specs.Pointed.{is_array_index, member_at, named, unescaped}
use Rattle.simd_json_parts.specs.Views.{get}
use Rattle.simd_json_parts.specs.declared.node.StaticNode.{StaticNode}
use Rattle.simd_json_parts.specs.declared.node.StaticNode.TheVariants as fixed
use Rattle.simd_json_c.specs.Cells.{item_cell, cell_with, static_cell}
use Rattle.simd_json_c.specs.Placed.{AreAt, AreFirst, IsNodeOf, IsValueAt, before_element, before_followed, before_member, before_named}
use Rattle.simd_json_c.specs.Placed.{token_key}
use Rattle.simd_json_c.specs.declared.cells.Cell.{Cell}
use Rattle.simd_json_parts.proofs.Pointers.Keys.{unescaped-plain}
use Rattle.simd_json_parts.proofs.Pointers.Pointed.{member-here, member-later, member-none}

-- ---- parts of a list

first-front : (text : List ℕ) (xs ys : List Item) (nodes : List Cell) → AreFirst text (xs ++ ys) nodes → AreFirst text xs nodes
first-front text [] ys nodes are = tt
first-front text (x ∷ xs) ys [] are = absurd are
first-front text (x ∷ xs) ys (node ∷ nodes) are = (are.0, first-front text xs ys nodes are.1)

first-back : (text : List ℕ) (xs ys : List Item) (nodes : List Cell) → AreFirst text (xs ++ ys) nodes
    → AreFirst text ys (drop (length xs) nodes)
first-back text [] ys nodes are = are
first-back text (x ∷ xs) ys [] are = absurd are
first-back text (x ∷ xs) ys (node ∷ nodes) are = first-back text xs ys nodes are.1

first-few : (text : List ℕ) (xs : List Item) (nodes : List Cell) → AreFirst text xs nodes → length xs ≤ length nodes
first-few text [] nodes are = omega arith
first-few text (x ∷ xs) [] are = absurd are
first-few text (x ∷ xs) (node ∷ nodes) are = omega (arith, first-few text xs nodes are.1)

first-node : (text : List ℕ) (x : Item) (xs : List Item) (nodes : List Cell) (d : Cell) → AreFirst text (x ∷ xs) nodes
    → IsNodeOf text (get_or nodes 0 d) x
first-node text x xs [] d are = absurd are
first-node text x xs (node ∷ nodes) d are = are.0

pub front-at : (nodes : List Cell) (text : List ℕ) (i : ℕ) (xs ys : List Item) → AreAt nodes text i (xs ++ ys) → AreAt nodes text i xs
front-at nodes text i xs ys a = first-front text xs ys (drop i nodes) a

pub back-at : (nodes : List Cell) (text : List ℕ) (i : ℕ) (xs ys : List Item) → AreAt nodes text i (xs ++ ys)
    → AreAt nodes text (i + length xs) ys
back-at nodes text i xs ys a = subst (AreFirst text ys) (drop-drop (length xs) i nodes) (first-back text xs ys (drop i nodes) a)

-- all lie within the nodes
pub within-at : (nodes : List Cell) (text : List ℕ) (i : ℕ) (x : Item) (ns : List Item) → AreAt nodes text i (x ∷ ns)
    → i + length (x ∷ ns) ≤ length nodes
within-at nodes text i x ns a = omega (arith, length-drop i nodes, first-few text (x ∷ ns) (drop i nodes) a)

-- ---- the first node, and its text

pub node-at : (nodes : List Cell) (text : List ℕ) (i : ℕ) (x : Item) (ns : List Item) (d : Cell) → AreAt nodes text i (x ∷ ns)
    → IsNodeOf text (get_or nodes i d) x
node-at nodes text i x ns d a =
    let here : i + 0 ≡ i = omega arith in
    subst (λ n. IsNodeOf text n x) (get_or-drop i nodes 0 d ∙ ap (λ k. get_or nodes k d) here) (first-node text x ns (drop i nodes) d a)

pub key-of : (text : List ℕ) (node : Cell) (k : List ℕ) → IsNodeOf text node (string_item k)
    → (node.len ≡ length k) × (node.len ≤ length text - node.value) × (take node.len (drop node.value text) ≡ k)
key-of text node k is =
    let len : node.len ≡ length is.part = ap (λ (n : Cell). n.len) is.node_is in
    let at : node.value ≡ is.at = ap (λ (n : Cell). n.value) is.node_is in (
      len ∙ ap length is.is_text,
      omega (
        arith,
        len,
        at,
        ap length is.there,
        length-take (length is.part) (drop is.at text),
        length-drop is.at text,
      ),
      ap₂ (λ l i. take l (drop i text)) len at ∙ is.there ∙ is.is_text,
    )

-- ---- headers

static-kind : (at len : ℕ) (s : StaticNode) → (static_cell at len s).kind < 8
static-kind at len fixed.Null = omega arith
static-kind at len (fixed.Bool false) = omega arith
static-kind at len (fixed.Bool true) = omega arith
static-kind at len (fixed.I64 z) = omega arith
static-kind at len (fixed.U64 n) = omega arith
static-kind at len (fixed.I128 z) = omega arith
static-kind at len (fixed.U128 n) = omega arith

-- what the header of a document says
pub record Header (d : Document) (node : Cell) : Type 0 where
  pub scalar : node.kind < 8 → length (listing d) ≡ 1
  pub beneath : 8 ≤ node.kind → suc node.value ≡ length (listing d)
  pub of_array : node.kind ≡ 8 → (ds : Elements) × (d ≡ array ds) × (node.len ≡ length (elements ds))
  pub of_object : node.kind ≡ 9 → (ms : Members) × (d ≡ object ms) × (node.len ≡ length (members ms))
  pub of_other : node.kind ≢ 8 → node.kind ≢ 9 → (t : List ℕ) → result_ok (named t d) ≡ None
  pub keyless : node.kind ≢ 9 → (key : List ℕ) → get key d ≡ None

scalar-header : (d : Document) (node : Cell) → length (listing d) ≡ 1 → node.kind < 8
    → ((t : List ℕ) → (result_ok (named t d) ≡ None) × (get t d ≡ None)) → Header d node
scalar-header d node one small none = record {
  scalar = λ less. one;
  beneath = λ more. absurd (omega (arith, more));
  of_array = λ is. absurd (omega (arith, is));
  of_object = λ is. absurd (omega (arith, is));
  of_other = λ no no' t. (none t).0;
  keyless = λ no key. (none key).1;
}

abbrev head : Document → Item
head null = static_item fixed.Null
head (boolean b) = static_item (fixed.Bool b)
head (integer minus n) = static_item (integer_node minus n)
head (decimal literal) = decimal_item literal
head (string t) = string_item t
head (array ds) = array_item (length (elements ds)) (length (elements_listing ds))
head (object ms) = object_item (length (members ms)) (length (members_listing ms))

abbrev rest : Document → List Item
rest (array ds) = elements_listing ds
rest (object ms) = members_listing ms
rest _ = []

headed : (d : Document) → listing d ≡ head d ∷ rest d
headed null = refl
headed (boolean b) = refl
headed (integer minus n) = refl
headed (decimal literal) = refl
headed (string t) = refl
headed (array ds) = refl
headed (object ms) = refl

header-of : (at len : ℕ) (d : Document) → Header d (item_cell at len (head d))
header-of at len null = scalar-header null (item_cell at len (head null)) refl (static-kind at len fixed.Null) (λ t. (refl, refl))
header-of at len (boolean b) =
    scalar-header (boolean b) (item_cell at len (head (boolean b))) refl (static-kind at len (fixed.Bool b)) (λ t. (refl, refl))
header-of at len (integer minus n) =
    scalar-header (integer minus n) (item_cell at len (head (integer minus n))) refl (static-kind at len (integer_node minus n))
    (λ t. (refl, refl))
header-of at len (decimal l) =
    scalar-header (decimal l) (item_cell at len (head (decimal l))) refl (omega arith) (λ t. (refl, refl))
header-of at len (string t) =
    scalar-header (string t) (item_cell at len (head (string t))) refl (omega arith) (λ u. (refl, refl))
header-of at len (array ds) = record {
  scalar = λ less. absurd (omega (arith, less));
  beneath = λ more. refl;
  of_array = λ is. (ds, refl, refl);
  of_object = λ is. absurd (omega (arith, is));
  of_other = λ no no' t. absurd (no refl);
  keyless = λ no key. refl;
}
header-of at len (object ms) = record {
  scalar = λ less. absurd (omega (arith, less));
  beneath = λ more. refl;
  of_array = λ is. absurd (omega (arith, is));
  of_object = λ is. (ms, refl, refl);
  of_other = λ no no' t. absurd (no' refl);
  keyless = λ no key. absurd (no refl);
}

pub value-header : (nodes : List Cell) (text : List ℕ) (i : ℕ) (d : Document) (n : Cell) → IsValueAt nodes text i d
    → Header d (get_or nodes i n)
value-header nodes text i d n a =
    let is = node-at nodes text i (head d) (rest d) n (subst (AreAt nodes text i) (headed d) a) in
    subst (Header d) (sym is.node_is) (header-of is.at (length is.part) d)

len-by : (t : Bool) (k v b len : ℕ) → nat_lt k 8 ≡ t → (k < 8 → len ≡ 1) → (8 ≤ k → suc v ≡ len) → (8 ≤ k → b ≡ v) → (k < 8 → b ≡ 0)
    → b + 1 ≡ len
len-by true k v b len is scalar beneath above below = let less = ltb-true k 8 is in omega (arith, scalar less, below less)
len-by false k v b len is scalar beneath above below = let more = ltb-false k 8 is in omega (arith, beneath more, above more)

pub value-len : (nodes : List Cell) (text : List ℕ) (i : ℕ) (d : Document) (n : Cell) (b : ℕ) → IsValueAt nodes text i d
    → (8 ≤ (get_or nodes i n).kind → b ≡ (get_or nodes i n).value) → ((get_or nodes i n).kind < 8 → b ≡ 0) → b + 1 ≡ length (listing d)
value-len nodes text i d n b a above below =
    let h = value-header nodes text i d n a in
    let k = (get_or nodes i n).kind in
    len-by (nat_lt k 8) k (get_or nodes i n).value b (length (listing d)) refl h.scalar h.beneath above below

pub value-within : (nodes : List Cell) (text : List ℕ) (i : ℕ) (d : Document) → IsValueAt nodes text i d
    → i + length (listing d) ≤ length nodes
value-within nodes text i d a =
    let b = subst (AreAt nodes text i) (headed d) a in
    omega (arith, within-at nodes text i (head d) (rest d) b, ap length (headed d))

pub value-some : (d : Document) → 0 < length (listing d)
value-some d = omega (arith, ap length (headed d))

-- ---- what lies beneath

pub elements-at : (nodes : List Cell) (text : List ℕ) (i : ℕ) (ds : Elements) → IsValueAt nodes text i (array ds)
    → AreAt nodes text (i + 1) (elements_listing ds)
elements-at nodes text i ds a = back-at nodes text i (head (array ds) ∷ []) (elements_listing ds) a

pub members-at : (nodes : List Cell) (text : List ℕ) (i : ℕ) (ms : Members) → IsValueAt nodes text i (object ms)
    → AreAt nodes text (i + 1) (members_listing ms)
members-at nodes text i ms a = back-at nodes text i (head (object ms) ∷ []) (members_listing ms) a

pub member-value : (nodes : List Cell) (text : List ℕ) (i : ℕ) (k : List ℕ) (d : Document) (ms : Members)
    → AreAt nodes text i (members_listing (member k d ms)) → IsValueAt nodes text (i + 1) d
member-value nodes text i k d ms a =
    front-at nodes text (i + 1) (listing d) (members_listing ms)
    (back-at nodes text i (string_item k ∷ []) (listing d ++ members_listing ms) a)

pub member-after : (nodes : List Cell) (text : List ℕ) (i : ℕ) (k : List ℕ) (d : Document) (ms : Members)
    → AreAt nodes text i (members_listing (member k d ms)) → AreAt nodes text (i + 1 + length (listing d)) (members_listing ms)
member-after nodes text i k d ms a =
    back-at nodes text (i + 1) (listing d) (members_listing ms)
    (back-at nodes text i (string_item k ∷ []) (listing d ++ members_listing ms) a)

-- what is left of the elements after some of them, of which the first lies at an index
pub record ElementsLeft (nodes : List Cell) (text : List ℕ) (ds : Elements) (first passed at : ℕ) : Type 0 where
  pub left : Elements
  pub placed : AreAt nodes text at (elements_listing left)
  pub are : elements left ≡ drop passed (elements ds)
  pub before : (k : ℕ) → at + before_element left k ≡ first + before_element ds (passed + k)

pub elements-all : (nodes : List Cell) (text : List ℕ) (ds : Elements) (at : ℕ) → AreAt nodes text at (elements_listing ds)
    → ElementsLeft nodes text ds at 0 at
elements-all nodes text ds at a = record {
  left = ds;
  placed = a;
  are = refl;
  before = λ k. let same : k ≡ 0 + k = omega arith in ap (λ n. at + before_element ds n) same;
}

-- the next of them
pub record NextElement (nodes : List Cell) (text : List ℕ) (ds : Elements) (first passed at : ℕ) : Type 0 where
  pub value : Document
  pub placed : IsValueAt nodes text at value
  pub is : slice_get (elements ds) passed ≡ Some value
  pub here : at ≡ first + before_element ds passed
  pub after : ElementsLeft nodes text ds first (passed + 1) (at + length (listing value))

next-by : (nodes : List Cell) (text : List ℕ) (ds : Elements) (first passed at : ℕ) (left : Elements)
    → AreAt nodes text at (elements_listing left) → elements left ≡ drop passed (elements ds)
    → ((k : ℕ) → at + before_element left k ≡ first + before_element ds (passed + k))
    → passed < length (elements ds) → NextElement nodes text ds first passed at
next-by nodes text ds first passed at no_elements a are before less =
    absurd (omega (arith, less, length-drop passed (elements ds), ap length are))
next-by nodes text ds first passed at (element d es) a are before less =
    let split : d ∷ elements es ≡ get_or (elements ds) passed d ∷ drop (passed + 1) (elements ds) =
    are ∙ drop_more (elements ds) passed d less in
    let here : get_or (elements ds) passed d ≡ d = cc in
    let later : elements es ≡ drop (passed + 1) (elements ds) = cc in
    let begin : at ≡ first + before_element ds (passed + 0) = omega (arith, before 0) in
    let none : passed + 0 ≡ passed = omega arith in record {
      value = d;
      placed = front-at nodes text at (listing d) (elements_listing es) a;
      is = slice_get-get_or (elements ds) passed d less ∙ ap Some here;
      here = begin ∙ ap (λ n. first + before_element ds n) none;
      after = record {
        left = es;
        placed = back-at nodes text at (listing d) (elements_listing es) a;
        are = later;
        before = λ k.
            (let moved : at + length (listing d) + before_element es k ≡ first + before_element ds (passed + suc k) =
            omega (arith, before (suc k)) in
            let along : passed + suc k ≡ passed + 1 + k = omega arith in
            moved ∙ ap (λ n. first + before_element ds n) along);
      };
    }

pub next-element : (nodes : List Cell) (text : List ℕ) (ds : Elements) (first passed at : ℕ)
    → ElementsLeft nodes text ds first passed at → passed < length (elements ds) → NextElement nodes text ds first passed at
next-element nodes text ds first passed at l less = next-by nodes text ds first passed at l.left l.placed l.are l.before less

fits-is : (b : Bool) (i j : ℕ) → (if b then Some i else None) ≡ Some j → i ≡ j
fits-is true i j is = cc
fits-is false i j is = absurd (cc)

-- the index that a token is, where it fits 64 bits
pub index-is : (i : Option ℕ) (j : ℕ) → option_and_then fits_64 i ≡ Some j → unwrap_or i 0 ≡ j
index-is None j is = absurd (cc)
index-is (Some i) j is = fits-is (nat_lt i (2 ^ 64)) i j is

empty : {A : Type 0} (xs : List A) → length xs ≡ 0 → xs ≡ []
empty [] none = refl
empty (x ∷ xs) none = absurd (omega (arith, none))

-- the bytes of a key, and others
before-here : (k : List ℕ) (d : Document) (es : Members) → before_member (member k d es) k ≡ 1
before-here k d es = ap (λ b. if b then 1 else suc (length (listing d) + before_member es k)) ((bytes_eq-Decides k k).1 refl)

before-by : (b : Bool) (k key : List ℕ) (n : ℕ) → (b ≡ true → k ≡ key) → (k ≡ key → ⊥) → (if b then 1 else n) ≡ n
before-by true k key n same other = absurd (other (same refl))
before-by false k key n same other = refl

before-later : (k key : List ℕ) (d : Document) (es : Members) → (k ≡ key → ⊥)
    → before_member (member k d es) key ≡ suc (length (listing d) + before_member es key)
before-later k key d es other = before-by (bytes_eq k key) k key _ (bytes_eq-Decides k key).0 other

-- the value of the first of the pairs that has the key
abbrev pub found_by : Option (List ℕ) → Members → Option Document
found_by u ms = result_ok (member_at ms u)

pub key-is : (is_plain : Bool) (t : List ℕ) → (is_plain ≡ true → IsPlain t) → token_key is_plain t ≡ unescaped t
key-is true t plain = sym (unescaped-plain t (plain refl))
key-is false t plain = refl

-- what is left of the pairs, of which those before have other keys than the one that is sought, and the first lies at an index
pub record MembersLeft (nodes : List Cell) (text : List ℕ) (u : Option (List ℕ)) (ms : Members) (len first passed at : ℕ) : Type 0 where
  pub left : Members
  pub placed : AreAt nodes text at (members_listing left)
  pub count : passed + length (members left) ≡ len
  pub same : found_by u left ≡ found_by u ms
  pub before : (key : List ℕ) → u ≡ Some key → at + before_member left key ≡ first + before_member ms key

pub members-all : (nodes : List Cell) (text : List ℕ) (u : Option (List ℕ)) (ms : Members) (len at : ℕ)
    → AreAt nodes text at (members_listing ms) → len ≡ length (members ms) → MembersLeft nodes text u ms len at 0 at
members-all nodes text u ms len at a is =
    record { left = ms; placed = a; count = omega (arith, is); same = refl; before = λ key named. refl }

pub members-none : (nodes : List Cell) (text : List ℕ) (u : Option (List ℕ)) (ms : Members) (len first passed at : ℕ)
    → MembersLeft nodes text u ms len first passed at → len ≤ passed → found_by u ms ≡ None
members-none nodes text u ms len first passed at l past =
    sym l.same ∙ member-none u l.left (empty (members l.left) (omega (arith, l.count, past)))

-- any node
abbrev pub some_node : Cell
some_node = cell_with 0 0 0

-- the next pair, whose key has this node
pub record NextMember (nodes : List Cell) (text : List ℕ) (u : Option (List ℕ)) (ms : Members) (len first passed at : ℕ) (node : Cell)
    : Type 0 where
  pub key : List ℕ
  pub value : Document
  pub key_len : node.len ≡ length key
  pub within : node.len ≤ length text - node.value
  pub key_is : take node.len (drop node.value text) ≡ key
  pub placed : IsValueAt nodes text (at + 1) value
  pub here : u ≡ Some key → found_by u ms ≡ Some value
  pub before : u ≡ Some key → at + 1 ≡ first + before_member ms (unwrap_or u [])
  pub later : (u ≡ Some key → ⊥) → MembersLeft nodes text u ms len first (passed + 1) (at + 1 + length (listing value))

next-member-by : (nodes : List Cell) (text : List ℕ) (u : Option (List ℕ)) (ms : Members) (len first passed at : ℕ) (n : Cell)
    (left : Members) → AreAt nodes text at (members_listing left) → passed + length (members left) ≡ len → found_by u left ≡ found_by u ms
    → ((key : List ℕ) → u ≡ Some key → at + before_member left key ≡ first + before_member ms key) → passed < len
    → (at < length nodes) × NextMember nodes text u ms len first passed at (get_or nodes at n)
next-member-by nodes text u ms len first passed at n no_members a count same before less = absurd (omega (arith, count, less))
next-member-by nodes text u ms len first passed at n (member k d es) a count same before less =
    let beneath = listing d ++ members_listing es in
    let key = key-of text (get_or nodes at n) k (node-at nodes text at (string_item k) beneath n a) in
    let placed = member-value nodes text at k d es a in
    let after = member-after nodes text at k d es a in
    let next : NextMember nodes text u ms len first passed at (get_or nodes at n) =
    record {
      key = k;
      value = d;
      key_len = key.0;
      within = key.1;
      key_is = key.2;
      placed = placed;
      here = λ is. sym same ∙ member-here u k d (member k d es) es refl is;
      before =
          λ is. ap (λ n. at + n) (sym (before-here k d es)) ∙ before k is
          ∙ ap (λ o. first + before_member ms (unwrap_or o [])) (sym is);
      later = λ other. record {
        left = es;
        placed = after;
        count = omega (arith, count);
        same = sym (member-later u k d (member k d es) es refl other) ∙ same;
        before = λ sought is.
            omega (arith, before-later k sought d es (λ both. other (is ∙ ap Some (sym both)))) ∙ before sought is;
      };
    } in (
      omega (arith, within-at nodes text at (string_item k) beneath a),
      next,
    )

pub next-member : (nodes : List Cell) (text : List ℕ) (u : Option (List ℕ)) (ms : Members) (len first passed at : ℕ) (n : Cell)
    → MembersLeft nodes text u ms len first passed at → passed < len
    → (at < length nodes) × NextMember nodes text u ms len first passed at (get_or nodes at n)
next-member nodes text u ms len first passed at n l less =
    next-member-by nodes text u ms len first passed at n l.left l.placed l.count l.same l.before less

-- ---- along a pointer

pub before-next : (t : List ℕ) (ts : List (List ℕ)) (d e : Document) → result_ok (named t d) ≡ Some e
    → before_followed (t ∷ ts) d ≡ before_named t d + before_followed ts e
before-next t ts d e is = ap (λ o. before_named t d + unwrap_or (option_map (before_followed ts) o) 0) is

-- ---- the digits of an index are text

digits-ascii : (t : List ℕ) → list_all is_ascii_digit t ≡ true → IsAscii t
digits-ascii [] all i = omega arith
digits-ascii (c ∷ t) all zero =
    let digit = (and_parts (is_ascii_digit c) (list_all is_ascii_digit t) all).0 in
    omega (arith, leb-true c 57 (and_parts (nat_le 48 c) (nat_le c 57) digit).1)
digits-ascii (c ∷ t) all (suc i) = digits-ascii t (and_parts (is_ascii_digit c) (list_all is_ascii_digit t) all).1 i

index-digits : (t : List ℕ) → is_array_index t ≡ true → list_all is_ascii_digit t ≡ true
index-digits [] is = cc
index-digits (c ∷ t) is = (and_parts (list_all is_ascii_digit (c ∷ t)) (not (c == 48) || (length t == 0)) is).0

pub index-utf8 : (t : List ℕ) → is_array_index t ≡ true → IsUtf8 t
index-utf8 t is = IsUtf8-from_ascii t (digits-ascii t (index-digits t is))
