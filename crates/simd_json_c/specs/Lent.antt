-- Nodes that a parser keeps, and lends until the next call. Their texts lie in the input.
use denote.RawPtr.{Ptr}
use Rattle.std.specs.Prelude.{◌≡◌, ◌<◌, ◌⊎◌, ℕ, ℤ, pos, List, length, map, Option, MatchOption}
use Rattle.std.specs.List.{All}
use Rattle.std.specs.Vec.{vec_capacity, vec_ptr}
use Rattle.simd_json_parts.specs.Nodes.{Item}
use Rattle.simd_json_parts.specs.declared.error.Error.{Error}
use Rattle.simd_json_stages.specs.Placed.{LiesIn, Placed}
use Rattle.simd_json_c.specs.Kept.{IsCallWith, IsReadWith}
use Rattle.simd_json_c.specs.Cells.{cell_at}
use Rattle.simd_json_c.specs.Statuses.{error_place, error_status, out_of_memory}
use Rattle.simd_json_c.specs.declared.lent.Lent.{Lent}
use Rattle.simd_json_c.specs.declared.cells.Cell.{Cell}
use Rattle.simd_json_c.specs.declared.status.ErrorPlace.{ErrorPlace}
use Rattle.simd_json_c.specs.declared.lists.Lists.{Lists}

-- the nodes of these items, whose texts lie in the bytes at their places
pub record AreKept (ns : List Item) (bytes : List ℕ) (nodes : List Cell) : Type 0 where
  pub placed : List Placed
  pub items : map (λ p. p.item) placed ≡ ns
  pub nodes_are : nodes ≡ map cell_at placed
  pub texts : All (LiesIn bytes) placed

-- where nodes and input are, and how many
abbrev pub lent_of : List Item → Ptr → List ℕ → Lists → Lent
lent_of ns address bytes lists =
    record {
      nodes = vec_ptr lists.nodes;
      nodes_len = length ns;
      text = address;
      text_len = length bytes;
    }

-- they are kept and lent, or an allocation failed, where the list was too small
abbrev pub AreLent : List Item → Ptr → List ℕ → Lists → Lists → ℤ → Lent → Lent → Type 0
AreLent ns address bytes was lists status old lent =
    ((status ≡ pos 0) × AreKept ns bytes lists.nodes.items × (lent ≡ lent_of ns address bytes lists))
    ⊎ ((status ≡ out_of_memory) × (lent ≡ old) × (vec_capacity was.nodes < length ns))

-- a call that lends the nodes of the document that b is, the input at an address, which holds these bytes afterwards
abbrev pub IsParsedWith : Option Lists → Option Lists → Ptr → List ℕ → List ℕ → ℤ → ErrorPlace → Lent → Lent → Type 0
IsParsedWith old new address b bytes status place old_lent lent =
    IsCallWith old new status place (lent ≡ old_lent)
    (λ was lists. (fault : Option Error) × (ns : List Item) × IsReadWith was b fault ns × (place ≡ error_place fault)
    × MatchOption fault
    (AreLent ns address bytes was lists status old_lent lent)
    (λ e. (status ≡ error_status fault) × (lent ≡ old_lent)))
