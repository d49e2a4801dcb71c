-- What the walk over nodes meets, step by step.
use Rattle.std.proofs.Common.{◌≡◌, ◌∙◌, ap, ap₂, sym, refl, ◌<◌, ◌≤◌, ℕ, zero, suc, Bool, true, false, List, [], ◌∷◌, ◌++◌, length}
use Rattle.std.proofs.Common.{length-append, map, take, drop, get_or, arith}
use Rattle.std.specs.Fmt.{signed_decimal}
use Rattle.simd_json_parts.proofs.Documents.Fronts.{positive}
use Rattle.simd_json_parts.proofs.Documents.Integers.{of-integer_node}
use Rattle.simd_json_parts.specs.Document.{Document, null, boolean, integer, decimal, string, array, object, no_elements, element}
use Rattle.simd_json_parts.specs.Document.{no_members, member}
use Rattle.simd_json_parts.specs.Limits.{depth}
use Rattle.simd_json_parts.specs.Listing.{listing, elements_listing}
use Rattle.simd_json_parts.specs.Nodes.{Item, static_item, item_of}
use Rattle.simd_json_parts.specs.Headers.{count_of}
use Rattle.simd_json_parts.specs.Integers.{number_of, integer_node}
use Rattle.simd_json_parts.specs.declared.node.Node.{Node}
use Rattle.simd_json_parts.specs.declared.node.StaticNode.TheVariants as fixed
use Rattle.simd_json_print.specs.Frames.{Frame, elements_left, members_left, has_members, frame_depth, frame_listing, frame_text}
use Rattle.simd_json_print.specs.Frames.{is_object_item}
use Rattle.simd_json_print.specs.Layout.{static_text, leaf_text}
use Rattle.simd_json_parts.specs.Printed.{text}

-- ---- the node in front of a value

of-integer : (minus : Bool) (m : ℕ) → static_text (integer_node minus m) ≡ signed_decimal (number_of minus m)
of-integer = of-integer_node (λ minus m s. static_text s ≡ signed_decimal (number_of minus m)) (λ m. refl)
    (λ m. refl) (λ m. refl) (λ m. refl)

first_of : List Item → Item
first_of [] = static_item fixed.Null
first_of (x ∷ xs) = x

pub same-first : (x y : Item) (xs ys : List Item) → x ∷ xs ≡ y ∷ ys → x ≡ y
unfolding first_of
same-first x y xs ys is = ap first_of is

pub same-rest : (x y : Item) (xs ys : List Item) → x ∷ xs ≡ y ∷ ys → xs ≡ ys
same-rest x y xs ys is = ap (drop 1) is

-- with nothing beneath it, it is all of the value
pub record IsLeaf (p : Bool) (n : ℕ) (x : Item) (items rest : List Item) (d : Document) : Type 0 where
  pub printed : leaf_text x ≡ text p d n
  pub after : items ≡ rest

leaf : (p : Bool) (n : ℕ) (x y : Item) (items rest : List Item) (d : Document) → x ∷ items ≡ y ∷ rest → leaf_text y ≡ text p d n
    → IsLeaf p n x items rest d
leaf p n x y items rest d is same = record {
  printed = ap leaf_text (same-first x y items rest is) ∙ same;
  after = same-rest x y items rest is;
}

not-leaf : (x y : Item) (items others more : List Item) (k : ℕ) → x ∷ items ≡ y ∷ others → count_of y ≡ k → 0 < k → count_of x ≡ 0 → ⊥
not-leaf x y items others more k is count some none = omega (arith, ap count_of (same-first x y items others is), count, some, none)

pub is-leaf : (p : Bool) (n : ℕ) (x : Item) (items rest : List Item) (d : Document) → x ∷ items ≡ listing d ++ rest → count_of x ≡ 0
    → IsLeaf p n x items rest d
is-leaf p n x items rest null is none = leaf p n x _ items rest null is refl
is-leaf p n x items rest (boolean b) is none = leaf p n x _ items rest (boolean b) is refl
is-leaf p n x items rest (integer minus m) is none = leaf p n x _ items rest (integer minus m) is (of-integer minus m)
is-leaf p n x items rest (decimal literal) is none = leaf p n x _ items rest (decimal literal) is refl
is-leaf p n x items rest (string t) is none = leaf p n x _ items rest (string t) is refl
is-leaf p n x items rest (array no_elements) is none = leaf p n x _ items rest (array no_elements) is refl
is-leaf p n x items rest (object no_members) is none = leaf p n x _ items rest (object no_members) is refl
is-leaf p n x items rest (array (element d ds)) is none =
    absurd (not-leaf x _ items _ rest _ is refl (omega (arith, positive d, length-append (listing d) (elements_listing ds))) none)
is-leaf p n x items rest (object (member k d ms)) is none = absurd (not-leaf x _ items _ rest _ is refl (omega arith) none)

-- with some, it is a container's, and they are what is left of it
pub record IsOpened (p : Bool) (n : ℕ) (x : Item) (items rest : List Item) (d : Document) : Type 0 where
  pub frame : Frame
  pub kind : is_object_item x ≡ has_members frame
  pub count : count_of x ≡ length (frame_listing frame)
  pub after : items ≡ frame_listing frame ++ rest
  pub whole : listing d ≡ x ∷ frame_listing frame
  pub deep : depth d ≡ frame_depth frame
  pub printed : text p d n ≡ frame_text p n true frame

opened : (p : Bool) (n : ℕ) (x y : Item) (items rest : List Item) (d : Document) (f : Frame) → x ∷ items ≡ y ∷ (frame_listing f ++ rest)
    → is_object_item y ≡ has_members f → count_of y ≡ length (frame_listing f) → listing d ≡ y ∷ frame_listing f
    → depth d ≡ frame_depth f → text p d n ≡ frame_text p n true f → IsOpened p n x items rest d
opened p n x y items rest d f is kind count whole deep printed = record {
  frame = f;
  kind = ap is_object_item (same-first x y items _ is) ∙ kind;
  count = ap count_of (same-first x y items _ is) ∙ count;
  after = same-rest x y items _ is;
  whole = whole ∙ ap (λ z. z ∷ frame_listing f) (sym (same-first x y items _ is));
  deep = deep;
  printed = printed;
}

no-container : (x y : Item) (items rest : List Item) → x ∷ items ≡ y ∷ rest → count_of y ≡ 0 → 0 < count_of x → ⊥
no-container x y items rest is none some = omega (arith, ap count_of (same-first x y items rest is), none, some)

pub is-opened : (p : Bool) (n : ℕ) (x : Item) (items rest : List Item) (d : Document) → x ∷ items ≡ listing d ++ rest → 0 < count_of x
    → IsOpened p n x items rest d
is-opened p n x items rest null is some = absurd (no-container x _ items rest is refl some)
is-opened p n x items rest (boolean b) is some = absurd (no-container x _ items rest is refl some)
is-opened p n x items rest (integer minus m) is some = absurd (no-container x _ items rest is refl some)
is-opened p n x items rest (decimal literal) is some = absurd (no-container x _ items rest is refl some)
is-opened p n x items rest (string t) is some = absurd (no-container x _ items rest is refl some)
is-opened p n x items rest (array no_elements) is some = absurd (no-container x _ items rest is refl some)
is-opened p n x items rest (object no_members) is some = absurd (no-container x _ items rest is refl some)
is-opened p n x items rest (array (element d ds)) is some =
    opened p n x _ items rest _ (elements_left (element d ds)) is refl refl refl refl refl
is-opened p n x items rest (object (member k d ms)) is some =
    opened p n x _ items rest _ (members_left (member k d ms)) is refl refl refl refl refl

pub positive-depth : (f : Frame) → 0 < frame_depth f
positive-depth (elements_left ds) = omega arith
positive-depth (members_left ms) = omega arith

-- no more than there are
pub beneath-within : (x : Item) (items rest : List Item) (d : Document) → x ∷ items ≡ listing d ++ rest → count_of x ≤ length items
beneath-within x items rest d is = case (count_of x) refl
  where
    case : (k : ℕ) → count_of x ≡ k → count_of x ≤ length items
    case zero none = omega (arith, none)
    case (suc k) some =
        let o = is-opened false 0 x items rest d is (omega (arith, some)) in
        omega (arith, o.count, ap length o.after, length-append (frame_listing o.frame) rest)

-- ---- nodes

pub split-first : (ns front back : List Node) (default : Node) (k : ℕ) → 0 < length ns → k ≡ 1 → front ≡ take k ns → back ≡ drop k ns
    → map item_of ns ≡ item_of (get_or front 0 default) ∷ map item_of back
split-first [] front back default k some one fronts backs = absurd (omega (arith, some))
split-first (x ∷ ns) front back default k some one fronts backs =
    sym (ap₂ (λ a b. item_of (get_or a 0 default) ∷ map item_of b) (fronts ∙ ap (λ j. take j (x ∷ ns)) one)
    (backs ∙ ap (λ j. drop j (x ∷ ns)) one))
