-- Nodes of which each can be printed list a document that can be spelled and whose integers fit, and such a document lists them.
use Rattle.std.proofs.Common.{◌≡◌, refl, sym, ◌∙◌, ap, subst, ℕ, Bool, true, nat_le, List, [], ◌∷◌, ◌++◌, map, take, drop, length, All, inl}
use Rattle.std.proofs.Common.{inr, le-leb, leb-true}
use Rattle.std.proofs.lemmas.Str.{IsUtf8-from_is_utf8, is_utf8-from_IsUtf8}
use Rattle.std.proofs.Math.Seq.{take-append_seam, drop-append_seam}
use Rattle.std.proofs.lemmas.List.Elements.{All-nil, All-cons, All-head, All-tail, All-append, All-take, All-drop, All-map}
use Rattle.simd_json_parts.proofs.Documents.Integers.{of-integer_node}
use Rattle.simd_json_parts.proofs.Patterns.Sets.{Matches-matches, matches-Matches}
use Rattle.simd_json_parts.specs.Document.{Document, null, boolean, integer, decimal, string, array, object, Elements, no_elements}
use Rattle.simd_json_parts.specs.Document.{element, Members, no_members, member}
use Rattle.simd_json_parts.specs.Integers.{max_magnitude, integer_node}
use Rattle.simd_json_parts.specs.Limits.{IntegersFit, ElementsFit, MembersFit}
use Rattle.simd_json_parts.specs.Listing.{listing, elements_listing, members_listing}
use Rattle.simd_json.specs.Tapes.{IsTapeContent}
use Rattle.simd_json_parts.specs.Nodes.{Item, static_item, item_of}
use Rattle.simd_json_parts.specs.Numbers.{decimal_literal}
use Rattle.simd_json_theorems.specs.Spellable.{IsSpellable, ElementsSpellable, MembersSpellable}
use Rattle.simd_json_parts.specs.declared.node.Node.{Node}
use Rattle.simd_json.specs.Documents.{document_of, IsListing}
use Rattle.simd_json.specs.Printable.{is_printable, ArePrintable}
use Rattle.simd_json.proofs.Views.Listed.{magnitude-below}

abbrev IsPrintable : Item → Type 0
IsPrintable x = is_printable x ≡ true

one : (x : Item) → IsPrintable x → All IsPrintable (x ∷ [])
one x is = All-cons IsPrintable x [] is (All-nil IsPrintable)

front : (xs ys : List Item) → All IsPrintable (xs ++ ys) → All IsPrintable xs
front xs ys all = subst (All IsPrintable) (take-append_seam xs ys) (All-take IsPrintable (length xs) (xs ++ ys) all)

back : (xs ys : List Item) → All IsPrintable (xs ++ ys) → All IsPrintable ys
back xs ys all = subst (All IsPrintable) (drop-append_seam xs ys) (All-drop IsPrintable (length xs) (xs ++ ys) all)

integer-printable : (minus : Bool) (n : ℕ) → is_printable (static_item (integer_node minus n)) ≡ nat_le n (max_magnitude minus)
integer-printable =
    of-integer_node (λ minus n s. is_printable (static_item s) ≡ nat_le n (max_magnitude minus))
    (λ n. ap (λ m. nat_le m (max_magnitude true)) (magnitude-below n)) (λ n. refl)
    (λ n. ap (λ m. nat_le m (max_magnitude true)) (magnitude-below n)) (λ n. refl)

-- ---- from documents to nodes

mutual
  printable : (d : Document) → IsSpellable d → IntegersFit d → All IsPrintable (listing d)
  printable null spelled fits = one _ refl
  printable (boolean b) spelled fits = one _ refl
  printable (integer minus n) spelled fits = one _ (integer-printable minus n ∙ le-leb n (max_magnitude minus) fits)
  printable (decimal literal) spelled fits = one _ (Matches-matches decimal_literal literal spelled)
  printable (string t) spelled fits = one _ (is_utf8-from_IsUtf8 t spelled)
  printable (array ds) spelled fits = All-cons IsPrintable _ (elements_listing ds) refl (printable-elements ds spelled fits)
  printable (object ms) spelled fits = All-cons IsPrintable _ (members_listing ms) refl (printable-members ms spelled fits)

  printable-elements : (ds : Elements) → ElementsSpellable ds → ElementsFit ds → All IsPrintable (elements_listing ds)
  printable-elements no_elements spelled fits = All-nil IsPrintable
  printable-elements (element d ds) spelled fits =
      All-append IsPrintable (listing d) (elements_listing ds) (printable d spelled.0 fits.0) (printable-elements ds spelled.1 fits.1)

  printable-members : (ms : Members) → MembersSpellable ms → MembersFit ms → All IsPrintable (members_listing ms)
  printable-members no_members spelled fits = All-nil IsPrintable
  printable-members (member k d ms) spelled fits =
      All-cons IsPrintable _ (listing d ++ members_listing ms) (is_utf8-from_IsUtf8 k spelled.0)
      (All-append IsPrintable (listing d) (members_listing ms) (printable d spelled.1 fits.0) (printable-members ms spelled.2 fits.1))

-- ---- and back

mutual
  spelled : (d : Document) → All IsPrintable (listing d) → IsSpellable d × IntegersFit d
  spelled null all = (tt, tt)
  spelled (boolean b) all = (tt, tt)
  spelled (integer minus n) all = (tt, leb-true n (max_magnitude minus) (sym (integer-printable minus n) ∙ All-head IsPrintable _ [] all))
  spelled (decimal literal) all = (matches-Matches decimal_literal literal (All-head IsPrintable _ [] all), tt)
  spelled (string t) all = (IsUtf8-from_is_utf8 t (All-head IsPrintable _ [] all), tt)
  spelled (array ds) all = spelled-elements ds (All-tail IsPrintable _ (elements_listing ds) all)
  spelled (object ms) all = spelled-members ms (All-tail IsPrintable _ (members_listing ms) all)

  spelled-elements : (ds : Elements) → All IsPrintable (elements_listing ds) → ElementsSpellable ds × ElementsFit ds
  spelled-elements no_elements all = (tt, tt)
  spelled-elements (element d ds) all =
      let first = spelled d (front (listing d) (elements_listing ds) all) in
      let others = spelled-elements ds (back (listing d) (elements_listing ds) all) in
      ((first.0, others.0), (first.1, others.1))

  spelled-members : (ms : Members) → All IsPrintable (members_listing ms) → MembersSpellable ms × MembersFit ms
  spelled-members no_members all = (tt, tt)
  spelled-members (member k d ms) all =
      let beneath = All-tail IsPrintable _ (listing d ++ members_listing ms) all in
      let first = spelled d (front (listing d) (members_listing ms) beneath) in
      let others = spelled-members ms (back (listing d) (members_listing ms) beneath) in
      ((IsUtf8-from_is_utf8 k (All-head IsPrintable _ (listing d ++ members_listing ms) all), first.0, others.0), (first.1, others.1))

-- ---- of nodes

from-items : (ns : List Node) → All IsPrintable (map item_of ns) → ArePrintable ns
from-items [] all = All-nil (λ n. IsPrintable (item_of n))
from-items (n ∷ ns) all =
    All-cons (λ n. IsPrintable (item_of n)) n ns (All-head IsPrintable (item_of n) (map item_of ns) all)
    (from-items ns (All-tail IsPrintable (item_of n) (map item_of ns) all))

pub tape-printable : (ns : List Node) → IsTapeContent (map item_of ns) → ArePrintable ns
tape-printable ns (inl none) = from-items ns (subst (All IsPrintable) (sym none) (All-nil IsPrintable))
tape-printable ns (inr (d, spells, fits, is)) = from-items ns (subst (All IsPrintable) (sym is) (printable d spells fits))

pub listed-spelled : (ns : List Node) → IsListing (map item_of ns) → ArePrintable ns
    → IsSpellable (document_of (map item_of ns)) × IntegersFit (document_of (map item_of ns))
listed-spelled ns is all =
    spelled (document_of (map item_of ns)) (subst (All IsPrintable) (sym is) (All-map IsPrintable item_of ns all))

-- ---- parts of them

pub printable-take : (n : ℕ) (ns xs : List Node) → xs ≡ take n ns → ArePrintable ns → ArePrintable xs
printable-take n ns xs is all = subst ArePrintable (sym is) (All-take (λ n. IsPrintable (item_of n)) n ns all)

pub printable-drop : (n : ℕ) (ns xs : List Node) → xs ≡ drop n ns → ArePrintable ns → ArePrintable xs
printable-drop n ns xs is all = subst ArePrintable (sym is) (All-drop (λ n. IsPrintable (item_of n)) n ns all)
