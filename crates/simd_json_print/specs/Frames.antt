-- What of a document is still to be printed: the rest of each container that is open. Only private clauses cite it.
use Rattle.std.specs.Prelude.{◌≡◌, ◌<◌, ◌≤◌, ◌⊎◌, ◌^◌, ℕ, suc, ◌+◌, List, [], ◌∷◌, ◌++◌, Bool, true, false, cond, length, get_or, ⊤}
use Rattle.simd_json_parts.specs.Bytes.{comma, left_bracket, right_bracket, left_brace, right_brace}
use Rattle.simd_json_parts.specs.Document.{Document, Elements, Members}
use Rattle.simd_json_parts.specs.Headers.{count_of}
use Rattle.simd_json_parts.specs.Limits.{depth, elements_depth, members_depth}
use Rattle.simd_json_parts.specs.Listing.{listing, elements_listing, members_listing}
use Rattle.simd_json_parts.specs.Nodes.{Item, object_item}
use Rattle.simd_json_parts.specs.Printed.{line, text, elements_text, members_text}
use Rattle.simd_json_print.specs.declared.document.walk.Level.{Level}

-- the elements or the members of a container that are left
pub data Frame : Type 0 where
  elements_left : Elements → Frame
  members_left : Members → Frame

abbrev pub has_members : Frame → Bool
has_members (elements_left ds) = false
has_members (members_left ms) = true

abbrev pub frame_listing : Frame → List Item
frame_listing (elements_left ds) = elements_listing ds
frame_listing (members_left ms) = members_listing ms

-- with the container itself
abbrev pub frame_depth : Frame → ℕ
frame_depth (elements_left ds) = suc (elements_depth ds)
frame_depth (members_left ms) = suc (members_depth ms)

-- with the bracket that ends it, where n containers are open around it; the first one stands after the bracket that begins it
abbrev pub frame_text : Bool → ℕ → Bool → Frame → List ℕ
frame_text p n first (elements_left ds) = elements_text p (cond first left_bracket comma) ds (suc n) ++ (line p n ++ right_bracket ∷ [])
frame_text p n first (members_left ms) = members_text p (cond first left_brace comma) ms (suc n) ++ (line p n ++ right_brace ∷ [])

-- of those that are open, the innermost first
abbrev pub frames_listing : List Frame → List Item
frames_listing [] = []
frames_listing (f ∷ outer) = frame_listing f ++ frames_listing outer

-- where n containers are open around all of them
abbrev pub frames_text : Bool → ℕ → Bool → List Frame → List ℕ
frames_text p n first [] = []
frames_text p n first (f ∷ outer) = frame_text p (n + length outer) first f ++ frames_text p n false outer

abbrev pub is_object_item : Item → Bool
is_object_item (object_item len count) = true
is_object_item _ = false

abbrev pub no_level : Level
no_level = record { end = 0; is_object = false }

-- the level of each says how many nodes are left when it ends, and whether it is an object; none nests deeper than the limit
abbrev pub AreNested : List Level → ℕ → List Frame → Type 0
AreNested levels limit [] = ⊤
AreNested levels limit (f ∷ outer) =
    ((get_or levels (length outer) no_level).end ≡ length (frames_listing outer))
    × ((get_or levels (length outer) no_level).is_object ≡ has_members f)
    × (length outer + frame_depth f ≤ limit) × AreNested levels limit outer

-- in front of an element or a member, or of an end: these nodes are left, and this is printed of the root, in n containers
pub record IsBetween (p : Bool) (n : ℕ) (levels : List Level) (count : ℕ) (first : Bool) (left : List Item) (done : List ℕ)
    (root : Document) : Type 0 where
  pub frames : List Frame
  pub number : length frames ≡ count
  pub are_nested : AreNested levels (depth root) frames
  pub listed : left ≡ frames_listing frames
  pub printed : done ++ frames_text p n first frames ≡ text p root n

-- in front of a value, of which what stands before it is printed
pub record IsAtValue (p : Bool) (n : ℕ) (levels : List Level) (count : ℕ) (left : List Item) (done : List ℕ) (root : Document)
    : Type 0 where
  pub value : Document
  pub frames : List Frame
  pub number : length frames ≡ count
  pub within : length frames + depth value ≤ depth root
  pub are_nested : AreNested levels (depth root) frames
  pub listed : left ≡ listing value ++ frames_listing frames
  pub printed : done ++ (text p value (n + length frames) ++ frames_text p n false frames) ≡ text p root n

-- at the end of the root, or in front of a value
abbrev pub IsNext : Bool → ℕ → List Level → ℕ → List Item → List ℕ → Document → Type 0
IsNext p n levels count [] done root = done ≡ text p root n
IsNext p n levels count (x ∷ left) done root = IsAtValue p n levels count (x ∷ left) done root

-- at a container for which there is no level, or whose end is too great a number for one
abbrev pub IsDeep : List Level → ℕ → List Item → Type 0
IsDeep levels count [] = ⊤
IsDeep levels count (x ∷ left) = (0 < count_of x) × ((length levels ≤ count) ⊎ (count_of x + 2 ^ 32 ≤ length left))

-- With as many levels as before, no more of them are in use than there are; and fewer nodes are left, or as many, also with those in use.
pub record IsFurther (old : List Level) (used left : ℕ) (new : List Level) (still_used still_left : ℕ) : Type 0 where
  pub nested : still_used ≤ length new
  pub levels : length new ≡ length old
  pub room : still_used + still_left ≤ used + left
  pub within : still_left ≤ left
