-- The JSON Pointer (RFC 6901) of a mismatch: the way from the value that was read to the node that did not fit.
use Rattle.std.specs.Prelude.{◌≡◌, ◌+◌, ◌-◌, ◌==◌, ◌||◌, ℕ, suc, List, [], ◌∷◌, ◌++◌, drop, flat_map, length, nat_lt}
use Rattle.std.specs.Prelude.{if◌then◌else◌, codes, decimal, encode_utf8, Option, Some, None}
use Rattle.std.specs.Str.{chars}
use Rattle.simd_json_parts.specs.Bytes.{slash}
use Rattle.simd_json_parts.specs.Document.{Document, array, object, Elements, no_elements, element, Members, no_members, member}
use Rattle.simd_json_parts.specs.Listing.{listing}
use Rattle.simd_json_parts.specs.Nodes.{Item}
use Rattle.simd_json_parts.specs.Pointed.{tilde}

-- a key as a reference token (section 3): `~0` for `~`, `~1` for `/`
abbrev pub token_character : ℕ → List ℕ
token_character c = if c == tilde then codes "~0" else if c == slash then codes "~1" else encode_utf8 c

abbrev pub key_token : List ℕ → List ℕ
key_token key = slash ∷ flat_map token_character (chars key)

abbrev pub index_token : ℕ → List ℕ
index_token i = slash ∷ decimal i

-- The pointer to the node with this index in the listing of the document, but no more reference tokens than `depth`. A
-- key has the pointer of its value.
abbrev mutual
  pub way : Document → ℕ → ℕ → List ℕ
  way (array ds) depth node = if (depth == 0) || (node == 0) then [] else elements_way ds 0 (depth - 1) (node - 1)
  way (object ms) depth node = if (depth == 0) || (node == 0) then [] else members_way ms (depth - 1) (node - 1)
  way _ depth node = []

  pub elements_way : Elements → ℕ → ℕ → ℕ → List ℕ
  elements_way no_elements i depth node = []
  elements_way (element d ds) i depth node =
      if nat_lt node (length (listing d)) then index_token i ++ way d depth node
      else elements_way ds (i + 1) depth (node - length (listing d))

  pub members_way : Members → ℕ → ℕ → List ℕ
  members_way no_members depth node = []
  members_way (member key d ms) depth node =
      if nat_lt node (suc (length (listing d))) then key_token key ++ way d depth (node - 1)
      else members_way ms depth (node - suc (length (listing d)))

-- from this index on the nodes begin with these
abbrev pub BeginAt : List Item → ℕ → List Item → Type 0
BeginAt nodes at items = (rest : List Item) × (drop at nodes ≡ items ++ rest)

-- one token further, from the value d at `at` to a child that has the node, or to none
abbrev pub IsStep : List Item → ℕ → Document → ℕ → List ℕ → List ℕ → Option ℕ → Type 0
IsStep nodes node d at old new None = (new ≡ old) × ((depth : ℕ) → way d depth (node - at) ≡ [])
IsStep nodes node d at old new (Some child) =
    (e : Document) × BeginAt nodes child (listing e)
    × ((depth : ℕ) → new ++ way e depth (node - child) ≡ old ++ way d (depth + 1) (node - at))
