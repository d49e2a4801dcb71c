-- Which characters are meant (RFC 9485, sections 4 and 5).
use Rattle.std.specs.Prelude.{ℕ, Bool, true, false, not, nat_le, ◌==◌, ◌&&◌}
use Rattle.ucd_category.specs.GeneralCategory.{general_category, general_category_number}
use Rattle.simd_json_regexp.specs.declared.item.Item.{Item}
use Rattle.simd_json_regexp.specs.declared.item.Item.TheVariants as item
use Rattle.simd_json_regexp.specs.declared.node.Kind.{Kind}
use Rattle.simd_json_regexp.specs.declared.node.Kind.TheVariants as kind
use Rattle.simd_json_regexp.specs.declared.node.Node.{Node}

-- neither a line feed nor a carriage return
abbrev pub is_in_line : ℕ → Bool
is_in_line c = not (c == 10) && not (c == 13)

abbrev pub is_between : ℕ → ℕ → ℕ → Bool
is_between low high c = nat_le low c && nat_le c high

abbrev pub has_category : ℕ → ℕ → ℕ → Bool
has_category first last c = is_between first last (general_category_number (general_category c))

abbrev pub allows : Item → ℕ → Bool
allows item.Any c = true
allows item.InLine c = is_in_line c
allows (item.Range low high) c = is_between low high c
allows (item.Category first last) c = has_category first last c
allows (item.OtherCategory first last) c = not (has_category first last c)

-- of a node, which may be one in brackets
abbrev pub kind_allows : ℕ → Kind → Bool
kind_allows c (kind.One i) = allows i c
kind_allows c _ = false

abbrev pub node_allows : ℕ → Node → Bool
node_allows c n = kind_allows c n.kind
