-- Where a JSON Pointer leads over any bytes (RFC 6901), or where the walk to it stops.
use Rattle.std.specs.Prelude.{ℕ, List, [], ◌∷◌, ◌==◌, if◌then◌else◌, Option, Some, None, option_map, option_and_then, Result, Ok, Err}
use Rattle.simd_json_parts.specs.Bytes.{slash}
use Rattle.simd_json_parts.specs.Followed.{fits_64}
use Rattle.simd_json_parts.specs.Pointed.{tokens, array_index, unescaped}
use Rattle.simd_json_parts.specs.Tokens.{form_at}
use Rattle.simd_json_parts.specs.Views.{as_str, ok_map}
use Rattle.simd_json_ondemand.specs.Keys.{is_key}
use Rattle.simd_json_ondemand.specs.Sites.{Site, doc_at, element_site, pair_sites}
use Rattle.simd_json_ondemand.specs.Standing.{opens_array, opens_object}
use Rattle.simd_json_ondemand.specs.Unexpected.{unexpected}
use Rattle.simd_json_ondemand.specs.Walks.{Walk, came, first, walk_past, elements_seen, members_seen}
use Rattle.simd_json_ondemand.specs.declared.array.Position.TheVariants.{First}
use Rattle.simd_json_ondemand.specs.declared.unexpected.Expected.TheVariants.{Container}
use Rattle.simd_json_ondemand.specs.declared.unexpected.Unexpected.{Unexpected}

-- where something is, nothing, or where the walk stopped
abbrev pub Reached : Type 0
Reached = Result (Option Site) Unexpected

-- from the first member with the key on
unfoldable pub walk_to : List ℕ → Walk (Site × Site) → Walk (Site × Site)
walk_to key (came m w) = if is_key key (option_and_then as_str (doc_at m.0)) then came m w else walk_to key w
walk_to key w = w

-- The element with the index, and the first member with the key. A token that is no index, or no key, names nothing,
-- whatever is there; 2^64 and more is no index of an element.
abbrev pub element_reached : Option ℕ → Walk Site → Reached
element_reached None w = Ok None
element_reached (Some i) w = first (walk_past i w)

abbrev pub key_reached : List ℕ → Walk (Site × Site) → Reached
key_reached key w = ok_map (option_map (λ m. m.1)) (first (walk_to key w))

abbrev pub member_reached : Option (List ℕ) → Walk (Site × Site) → Reached
member_reached None w = Ok None
member_reached (Some key) w = key_reached key w

-- where a reference token leads from the value there
abbrev pub named_at : List ℕ → Site → Reached
named_at t (b, []) = Ok None
named_at t (b, i ∷ is) =
    if opens_array (form_at b i)
    then element_reached (option_and_then fits_64 (array_index t)) (elements_seen (element_site b) b First is)
    else if opens_object (form_at b i) then member_reached (unescaped t) (members_seen (pair_sites b) b First is)
    else Err (unexpected b Container (i ∷ is))

abbrev pub reach_further : Reached → (Site → Reached) → Reached
reach_further (Ok (Some s)) further = further s
reach_further (Ok None) further = Ok None
reach_further (Err e) further = Err e

-- each reference token leads on from the value before it
abbrev pub followed_at : List (List ℕ) → Site → Reached
followed_at [] s = Ok (Some s)
followed_at (t ∷ ts) s = reach_further (named_at t s) (followed_at ts)

-- the empty pointer leads to the value itself; one without a `/` at its front leads nowhere
abbrev pub pointed_at : List ℕ → Site → Reached
pointed_at [] s = Ok (Some s)
pointed_at (c ∷ p) s = if c == slash then followed_at (tokens p) s else Ok None
