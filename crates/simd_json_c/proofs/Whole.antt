-- The lengths of a document's nodes fit 32 bits, since it has fewer bytes.
use Rattle.std.proofs.Common.{◌≡◌, ◌≤◌, ◌<◌, ◌^◌, ◌∙◌, ap, sym, subst, arith, ℕ, List, [], ◌∷◌, ◌++◌, length, length-append, map}
use Rattle.std.proofs.Common.{None, refl, true, false}
use Rattle.std.proofs.lemmas.List.{length-map}
use Rattle.std.proofs.lemmas.List.Elements.{All-head, All-tail}
use Rattle.std.proofs.Math.Nat.{mod-eq_of_lt}
use Rattle.std.specs.List.{All}
use Rattle.std.specs.Prelude.{⊤}
use Rattle.simd_json_parts.specs.Document.{Document, null, boolean, integer, decimal, string, array, object, Elements, no_elements}
use Rattle.simd_json_parts.specs.Document.{element, elements, Members, no_members, member, members}
use Rattle.simd_json_parts.specs.Listing.{listing, elements_listing, members_listing}
use Rattle.simd_json_parts.specs.Nodes.{Item, static_item, decimal_item, string_item, array_item, object_item}
use Rattle.simd_json_parts.specs.declared.node.StaticNode.TheVariants as fixed
use Rattle.simd_json.specs.KeptSpans.{AreFormed}
use Rattle.simd_json.specs.Parsed.{IsParseResult}
use Rattle.simd_json_stages.specs.Placed.{LiesIn, Placed}
use Rattle.simd_json_c.specs.Lent.{AreKept}
use Rattle.simd_json_c.specs.Cells.{cut, cut_of, item_cell, cell_at}
use Rattle.simd_json_c.specs.declared.cells.Cell.{Cell}
use Rattle.simd_json_c.proofs.Placing.{value-some}

-- a header has so few members
abbrev IsShort : Item → Type 0
IsShort (array_item len count) = len < 2 ^ 32
IsShort (object_item len count) = len < 2 ^ 32
IsShort _ = ⊤

abbrev AreShort : List Item → Type 0
AreShort [] = ⊤
AreShort (n ∷ ns) = IsShort n × AreShort ns

short-append : (xs ys : List Item) → AreShort xs → AreShort ys → AreShort (xs ++ ys)
short-append [] ys front back = back
short-append (x ∷ xs) ys front back = (front.0, short-append xs ys front.1 back)

cut-same : (n : Cell) → n.len < 2 ^ 32 → cut n ≡ n
cut-same n less = ap (λ l. record n { len = l }) (mod-eq_of_lt less)

node-short : (at len : ℕ) (x : Item) → len < 2 ^ 32 → IsShort x → (item_cell at len x).len < 2 ^ 32
node-short at len (static_item fixed.Null) few short = omega arith
node-short at len (static_item (fixed.Bool true)) few short = omega arith
node-short at len (static_item (fixed.Bool false)) few short = omega arith
node-short at len (static_item (fixed.I64 z)) few short = omega arith
node-short at len (static_item (fixed.U64 n)) few short = omega arith
node-short at len (static_item (fixed.I128 z)) few short = few
node-short at len (static_item (fixed.U128 n)) few short = few
node-short at len (decimal_item literal) few short = few
node-short at len (string_item t) few short = few
node-short at len (array_item size count) few short = short
node-short at len (object_item size count) few short = short

cut-short : (bytes : List ℕ) (ps : List Placed) → length bytes < 2 ^ 32 → All (LiesIn bytes) ps
    → AreShort (map (λ (p : Placed). p.item) ps) → map cut_of ps ≡ map cell_at ps
cut-short bytes [] few lie short = refl
cut-short bytes (p ∷ ps) few lie short =
    let here = All-head (LiesIn bytes) p ps lie in
    ap (λ m. m ∷ map cut_of ps) (cut-same (cell_at p)
    (node-short p.at (length p.text) p.item (omega (arith, few, here.within)) short.0))
    ∙ ap (λ r. cell_at p ∷ r) (cut-short bytes ps few (All-tail (LiesIn bytes) p ps lie) short.1)

-- ---- documents

elements-few : (ds : Elements) → length (elements ds) ≤ length (elements_listing ds)
elements-few no_elements = omega arith
elements-few (element d ds) = omega (arith, length-append (listing d) (elements_listing ds), value-some d, elements-few ds)

members-few : (ms : Members) → length (members ms) ≤ length (members_listing ms)
members-few no_members = omega arith
members-few (member k d ms) = omega (arith, length-append (listing d) (members_listing ms), members-few ms)

mutual
  value-short : (d : Document) → length (listing d) < 2 ^ 32 → AreShort (listing d)
  value-short null less = (tt, tt)
  value-short (boolean b) less = (tt, tt)
  value-short (integer minus m) less = (tt, tt)
  value-short (decimal l) less = (tt, tt)
  value-short (string t) less = (tt, tt)
  value-short (array ds) less = (omega (arith, less, elements-few ds), elements-short ds (omega (arith, less)))
  value-short (object ms) less = (omega (arith, less, members-few ms), members-short ms (omega (arith, less)))

  elements-short : (ds : Elements) → length (elements_listing ds) < 2 ^ 32 → AreShort (elements_listing ds)
  elements-short no_elements less = tt
  elements-short (element d ds) less =
      let nodes_are = length-append (listing d) (elements_listing ds) in
      short-append (listing d) (elements_listing ds) (value-short d (omega (arith, less, nodes_are)))
      (elements-short ds (omega (arith, less, nodes_are)))

  members-short : (ms : Members) → length (members_listing ms) < 2 ^ 32 → AreShort (members_listing ms)
  members-short no_members less = tt
  members-short (member k d ms) less =
      let nodes_are = length-append (listing d) (members_listing ms) in (
        tt,
        short-append (listing d) (members_listing ms) (value-short d (omega (arith, less, nodes_are)))
            (members-short ms (omega (arith, less, nodes_are))),
      )

-- ---- of what is parsed

-- there is a node, and so a byte
pub some-byte : (b : List ℕ) (limit capacity : ℕ) (ns : List Item) → IsParseResult b limit capacity None ns → 0 < length b
some-byte b limit capacity ns p =
    omega (arith, value-some p.1.parsed.document, ap length p.1.parsed.listed, p.1.few.0, p.1.few.1)

pub kept-whole : (b bytes : List ℕ) (limit capacity : ℕ) (ps : List Placed) (nodes : List Cell)
    → IsParseResult b limit capacity None (map (λ (p : Placed). p.item) ps) → length bytes ≡ length b → AreFormed cut_of ps bytes nodes
    → AreKept (map (λ (p : Placed). p.item) ps) bytes nodes × (length nodes ≡ length (map (λ (p : Placed). p.item) ps))
kept-whole b bytes limit capacity ps nodes p size are =
    let ns = map (λ (p : Placed). p.item) ps in
    let listed = p.1.parsed.listed in
    let short = subst AreShort (sym listed) (value-short p.1.parsed.document
    (omega (arith, p.1.few.0, p.1.few.1, p.1.parsed.within.size, ap length listed))) in (
      record {
        placed = ps;
        items = refl;
        nodes_are = are.0 ∙ cut-short bytes ps (omega (arith, size, p.1.parsed.within.size)) are.1 short;
        texts = are.1;
      },
      ap length are.0 ∙ length-map ps cut_of ∙ sym (length-map ps (λ (p : Placed). p.item)),
    )
