-- What the nodes so far and the stack mean for the containers that are open, the innermost first.
use Rattle.std.specs.Prelude.{◌≡◌, ℕ, zero, suc, ◌+◌, ◌-◌, List, [], ◌∷◌, ◌++◌, length, get_or, slice_set, map, drop, Bool, true, false}
use Rattle.std.specs.Prelude.{Result, Ok, Err}
use Rattle.simd_json_parts.specs.Bytes.{byte_at, is_closing}
use Rattle.simd_json_parts.specs.Document.{Document, array, object, no_elements, no_members}
use Rattle.simd_json_parts.specs.Nodes.{Item, array_item, object_item, string_item, item_of}
use Rattle.simd_json_parts.specs.Listing.{listing}
use Rattle.simd_json_parts.specs.Descent.{◌>>=◌, is_container, last_index, root_end, descent}
use Rattle.simd_json_parts.specs.Faults.{fault_with, fault_at}
use Rattle.simd_json_parts.specs.Tokens.{Token}
use Rattle.simd_json_parts.specs.TokensAlong.{tokens_along}
use Rattle.simd_json_parts.specs.declared.error.Error.{Error}
use Rattle.simd_json_parts.specs.declared.error.ErrorType.{ErrorType}
use Rattle.simd_json_parts.specs.declared.error.ErrorType.TheVariants.{Syntax}
use Rattle.simd_json_parts.specs.declared.node.Node.{Node}
use Rattle.simd_json_stages.specs.Continued.{Open, in_array, in_object, elements_onto, members_onto, after_value, at_value, at_name}
use Rattle.simd_json_stages.specs.Rejections.{error_type}
use Rattle.simd_json_stages.specs.declared.stage2.stack.Container.{Container}
use Rattle.simd_json_stages.specs.declared.stage2.stack.Container.TheVariants.{Array, Object}
use Rattle.simd_json_stages.specs.declared.stage2.progress.Progress.{Progress}
use Rattle.simd_json_stages.specs.declared.stage2.stack.StackState.{StackState}
use Rattle.simd_json_stages.specs.declared.stage2.fault.Fault.{Fault}
use Rattle.simd_json_stages.specs.declared.stage2.fault.FaultKind.{FaultKind}
use Rattle.simd_json_stages.specs.declared.stage2.fault.FaultKind.TheVariants as kinds

-- ---- containers

abbrev pub closer : Container → ℕ
closer Array = 93
closer Object = 125

abbrev pub header_of : Container → ℕ → ℕ → Item
header_of Array len count = array_item len count
header_of Object len count = object_item len count

abbrev pub is_header : Item → Bool
is_header (array_item len count) = true
is_header (object_item len count) = true
is_header _ = false

-- the fault of a token that may not follow a member
abbrev pub content_kind : Container → FaultKind
content_kind Array = kinds.ExpectedArrayContent
content_kind Object = kinds.ExpectedObjectContent

-- the fault of a token after a root, by whether that is a container
abbrev pub end_kind : Bool → FaultKind
end_kind true = kinds.InternalError
end_kind false = kinds.TrailingData

-- ---- what nodes and stack mean

-- documents in a row
abbrev pub listings : List Document → List Item
listings [] = []
listings (d ∷ ds) = listing d ++ listings ds

-- pairs of a name and a document in a row
abbrev pub member_listings : List (List ℕ × Document) → List Item
member_listings [] = []
member_listings (m ∷ ms) = string_item m.0 ∷ (listing m.1 ++ member_listings ms)

abbrev pub no_frame : StackState
no_frame = record { header = 0; outer = Array; len = 0 }

-- the frames of the stack in use, the innermost first
abbrev pub frames : List StackState → ℕ → List StackState
frames stack zero = []
frames stack (suc depth) = get_or stack depth no_frame ∷ frames stack depth

-- the frame of the innermost container
abbrev pub top : List StackState → ℕ → StackState
top stack depth = get_or stack (depth - 1) no_frame

-- the nodes with its header patched
abbrev pub patch : List Item → StackState → Progress → List Item
patch nodes f p = slice_set nodes f.header (header_of p.container p.len (length nodes - f.header - 1))

-- The items end with a header, whose counts are not set yet, and what is beneath it so far, of n members. The frame has the
-- header's index, and with the rest of the stack it holds what is around.
abbrev pub Headed : (Container → List StackState → ℕ → List Item → Type 0) → List Item → ℕ → List StackState → ℕ → List Item → Type 0
Headed round beneath n [] len items = ⊥
Headed round beneath n (f ∷ fs) len items =
    (before : List Item) × (header : Item) × (is_header header ≡ true) × (items ≡ before ++ header ∷ beneath)
    × (f.header ≡ length before) × (len ≡ n) × round f.outer fs f.len before

-- where a value is expected, in these containers; of the innermost it is known what it is and how many members it has
abbrev pub Holds : List Open → Container → List StackState → ℕ → List Item → Type 0
Holds [] c fs len items = (fs ≡ []) × (len ≡ 0) × (items ≡ [])
Holds (in_array ds ∷ outer) c fs len items = (c ≡ Array) × Headed (Holds outer) (listings ds) (length ds) fs len items
Holds (in_object ms name ∷ outer) c fs len items = (c ≡ Object)
    × Headed (Holds outer) (member_listings ms ++ string_item name ∷ []) (length ms) fs len items

-- after such a value
abbrev pub HoldsValue : List Open → Document → Container → List StackState → ℕ → List Item → Type 0
HoldsValue [] d c fs len items = (fs ≡ []) × (items ≡ listing d)
HoldsValue (in_array ds ∷ outer) d c fs len items = (c ≡ Array)
    × Headed (Holds outer) (listings (ds ++ d ∷ [])) (length ds + 1) fs len items
HoldsValue (in_object ms name ∷ outer) d c fs len items = (c ≡ Object)
    × Headed (Holds outer) (member_listings (ms ++ (name, d) ∷ [])) (length ms + 1) fs len items

-- where a name is expected
abbrev pub HoldsMembers : List (List ℕ × Document) → List Open → Container → List StackState → ℕ → List Item → Type 0
HoldsMembers ms outer c fs len items = (c ≡ Object) × Headed (Holds outer) (member_listings ms) (length ms) fs len items

-- the innermost container, closed after its last member
abbrev pub closed_with : Open → Document → Document
closed_with (in_array ds) d = array (elements_onto (ds ++ d ∷ []) no_elements)
closed_with (in_object ms name) d = object (members_onto (ms ++ (name, d) ∷ []) no_members)

-- ---- the machine

-- the nodes are the listing of the document that the descent reads
pub record IsListed (b : List ℕ) (limit : ℕ) (nodes : List Node) : Type 0 where
  pub document : Document
  pub same : descent b limit ≡ Ok document
  pub listed : map item_of nodes ≡ listing document

-- the same of nodes that are known as items
pub record IsWritten (b : List ℕ) (limit : ℕ) (nodes : List Item) : Type 0 where
  pub document : Document
  pub same : descent b limit ≡ Ok document
  pub listed : nodes ≡ listing document

-- b is the input, ps its positions
-- the fault where a token is expected and none is left
abbrev pub missing : List ℕ → List ℕ → Error
missing b ps = fault_at b Syntax (last_index (tokens_along b ps))

module _ (b ps : List ℕ) (limit : ℕ) where
  -- the value at the first token
  abbrev pub whole : Result (Document × List Token) Error
  whole = at_value b (missing b ps) limit [] (tokens_along b ps)

  -- The last token is the first of a value, and the others follow from p.read on: to go on from there gives the whole.
  pub record AtValue (stack : List StackState) (nodes : List Item) (p : Progress) : Type 0 where
    pub opens : List Open
    pub same : whole ≡ at_value b (missing b ps) limit opens (tokens_along b (p.at ∷ drop p.read ps))
    pub before : List Token
    pub along : tokens_along b ps ≡ before ++ tokens_along b (p.at ∷ drop p.read ps)
    pub holds : Holds opens p.container (frames stack p.depth) p.len nodes
    pub deep : length opens ≡ p.depth

  -- It is the name of a member.
  pub record AtName (kind : ErrorType) (stack : List StackState) (nodes : List Item) (p : Progress) : Type 0 where
    pub members : List (List ℕ × Document)
    pub outer : List Open
    pub same : whole ≡ at_name b (missing b ps) limit kind members outer (tokens_along b (p.at ∷ drop p.read ps))
    pub before : List Token
    pub along : tokens_along b ps ≡ before ++ tokens_along b (p.at ∷ drop p.read ps)
    pub holds : HoldsMembers members outer p.container (frames stack p.depth) p.len nodes
    pub deep : suc (length outer) ≡ p.depth

  -- The value has been read. Its last token tells whether it is a container.
  pub record AfterValue (stack : List StackState) (nodes : List Item) (p : Progress) : Type 0 where
    pub opens : List Open
    pub last : Document
    pub same : whole ≡ after_value b (missing b ps) limit opens last (tokens_along b (drop p.read ps))
    pub before : List Token
    pub along : tokens_along b ps ≡ before ++ tokens_along b (drop p.read ps)
    pub reached : last_index before ≡ p.at
    pub kind : is_closing (byte_at b p.at) ≡ is_container last
    pub holds : HoldsValue opens last p.container (frames stack p.depth) p.len nodes
    pub deep : length opens ≡ p.depth

  -- The whole is this document, and its listing is written.
  pub record IsBuilt (nodes : List Item) : Type 0 where
    pub document : Document
    pub same : whole ≡ Ok (document, [])
    pub listed : nodes ≡ listing document

  -- at the first token of a member: a value, or a name in an object
  abbrev pub AtMemberOf : Container → ErrorType → List StackState → List Item → Progress → Type 0
  AtMemberOf Array kind stack nodes p = AtValue stack nodes p
  AtMemberOf Object kind stack nodes p = AtName kind stack nodes p

  abbrev pub AtMember : FaultKind → List StackState → List Item → Progress → Type 0
  AtMember kind stack nodes p = AtMemberOf p.container (error_type kind) stack nodes p

  -- The fault is the descent's.
  abbrev pub IsFirstFault : Fault → Type 0
  IsFirstFault f = (whole >>= root_end b (tokens_along b ps)) ≡ Err (fault_with (error_type f.kind) f.index f.byte)
