-- The printer's nodes of cells that list a document.
use Rattle.std.proofs.Common.{◌≡◌, refl, sym, ◌∙◌, ap, ap₂, subst, ℕ, zero, suc, ◌+◌, ◌-◌, ◌^◌, ◌≤◌, ◌<◌, ◌⊎◌, inl, inr, List, [], ◌∷◌}
use Rattle.std.proofs.Common.{◌++◌, length, take, drop, get_or, Bool, true, false, ◌==◌, nat_le, arith, ℤ, pos, negsuc, not, Ok}
use Rattle.std.specs.Int.{cast_signed, w64}
use Rattle.std.specs.List.{All}
use Rattle.std.proofs.lemmas.Int.{to_z-of_z}
use Rattle.std.proofs.lemmas.Bool.{cond_both, false≢true, leb-false}
use Rattle.std.proofs.lemmas.List.{append-nil, length-drop, length-take-le}
use Rattle.simd_json_parts.specs.Document.{Document, integer}
use Rattle.simd_json_parts.specs.Integers.{integer_node, max_magnitude, max_magnitude_64, number_of}
use Rattle.simd_json_parts.specs.NumberAt.{number_at}
use Rattle.simd_json_parts.specs.Nodes.{Item, static_item, decimal_item, string_item, array_item, object_item}
use Rattle.simd_json_parts.specs.Numbers.{has_minus, integer_literal, magnitude}
use Rattle.simd_json_parts.specs.declared.node.StaticNode.{StaticNode}
use Rattle.simd_json_parts.specs.declared.node.StaticNode.TheVariants as fixed
use Rattle.simd_json_parts.proofs.Patterns.Sets.{matches-Matches}
use Rattle.simd_json_scalars.proofs.Numbers.Literals.{number_at-integer}
use Rattle.simd_json_parts.specs.Listing.{listing}
use Rattle.simd_json_scalars.specs.NumberRead.{IsNumberAt}
use Rattle.simd_json_scalars.specs.declared.numberparse.Number.{Number}
use Rattle.simd_json_scalars.specs.declared.numberparse.Number.TheVariants.{Integer}
use Rattle.simd_json_stages.specs.Placed.{IsLiteralOf, is_long}
use Rattle.simd_json_c.proofs.Integers.{not-integer, whole-node}
use Rattle.simd_json_c.proofs.Placing.{value-within}
use Rattle.simd_json_c.specs.Integers.{IsIntegerText}
use Rattle.simd_json_c.specs.Placed.{AreFirst, IsNodeOf, IsValueAt}
use Rattle.simd_json_c.specs.Printable.{IsPartAt, IsPrintable, IsStrAt, IsWideAt, IsWideLiteral}
use Rattle.simd_json_c.specs.declared.cells.Cell.{Cell}

-- ---- an item from its cell

module _ (text : List ℕ) (cell : Cell) (r : Item) where
  pub part-at : (x : Item) (is : IsNodeOf text cell x) → (cell.len ≡ length is.part) → (cell.value ≡ is.at)
      → IsPartAt text cell.value cell.len is.part
  part-at x is len at = (len, ap₂ (λ l i. take l (drop i text)) len at ∙ is.there)

  pub made : (x : Item) → IsNodeOf text cell x → IsPrintable x
      → (cell.kind ≡ 0 → r ≡ static_item fixed.Null)
      → (cell.kind ≡ 1 → r ≡ static_item (fixed.Bool (not (cell.value == 0))))
      → (cell.kind ≡ 2 → r ≡ static_item (fixed.I64 (cast_signed w64 cell.value)))
      → (cell.kind ≡ 3 → r ≡ static_item (fixed.U64 cell.value))
      → ((cell.kind ≡ 4) ⊎ (cell.kind ≡ 5) → (value : StaticNode) → IsWideAt text cell.value cell.len value → r ≡ static_item value)
      → (cell.kind ≡ 6 → (part : List ℕ) → IsStrAt text cell.value cell.len part → r ≡ decimal_item part)
      → (cell.kind ≡ 7 → (part : List ℕ) → IsStrAt text cell.value cell.len part → r ≡ string_item part)
      → (cell.kind ≡ 8 → r ≡ array_item cell.len cell.value)
      → (cell.kind ≡ 9 → r ≡ object_item cell.len cell.value)
      → r ≡ x
  made (static_item fixed.Null) is p null truth signed unsigned wide decimal string array object =
      null (ap (λ (n : Cell). n.kind) is.node_is)
  made (static_item (fixed.Bool false)) is p null truth signed unsigned wide decimal string array object =
      truth (ap (λ (n : Cell). n.kind) is.node_is)
      ∙ ap (λ n. static_item (fixed.Bool (not (n == 0)))) (ap (λ (n : Cell). n.value) is.node_is)
  made (static_item (fixed.Bool true)) is p null truth signed unsigned wide decimal string array object =
      truth (ap (λ (n : Cell). n.kind) is.node_is)
      ∙ ap (λ n. static_item (fixed.Bool (not (n == 0)))) (ap (λ (n : Cell). n.value) is.node_is)
  made (static_item (fixed.I64 z)) is p null truth signed unsigned wide decimal string array object =
      signed (ap (λ (n : Cell). n.kind) is.node_is)
      ∙ ap (λ n. static_item (fixed.I64 (cast_signed w64 n))) (ap (λ (n : Cell). n.value) is.node_is)
      ∙ ap (λ y. static_item (fixed.I64 y)) (to_z-of_z w64 z p)
  made (static_item (fixed.U64 n)) is p null truth signed unsigned wide decimal string array object =
      unsigned (ap (λ (n : Cell). n.kind) is.node_is) ∙ ap (λ m. static_item (fixed.U64 m)) (ap (λ (n : Cell). n.value) is.node_is)
  made (static_item (fixed.I128 z)) is p null truth signed unsigned wide decimal string array object =
      wide (inl (ap (λ (n : Cell). n.kind) is.node_is)) (fixed.I128 z)
      (is.part, part-at _ is (ap (λ (n : Cell). n.len) is.node_is) (ap (λ (n : Cell). n.value) is.node_is), (refl, is.is_text, p))
  made (static_item (fixed.U128 n)) is p null truth signed unsigned wide decimal string array object =
      wide (inr (ap (λ (n : Cell). n.kind) is.node_is)) (fixed.U128 n)
      (is.part, part-at _ is (ap (λ (n : Cell). n.len) is.node_is) (ap (λ (n : Cell). n.value) is.node_is), (refl, is.is_text, p))
  made (decimal_item t) is p null truth signed unsigned wide decimal string array object =
      decimal (ap (λ (n : Cell). n.kind) is.node_is) t (
        subst (IsPartAt text cell.value cell.len) is.is_text
            (part-at _ is (ap (λ (n : Cell). n.len) is.node_is) (ap (λ (n : Cell). n.value) is.node_is)),
        p,
      )
  made (string_item t) is p null truth signed unsigned wide decimal string array object =
      string (ap (λ (n : Cell). n.kind) is.node_is) t (
        subst (IsPartAt text cell.value cell.len) is.is_text
            (part-at _ is (ap (λ (n : Cell). n.len) is.node_is) (ap (λ (n : Cell). n.value) is.node_is)),
        p,
      )
  made (array_item m n) is p null truth signed unsigned wide decimal string array object =
      array (ap (λ (n : Cell). n.kind) is.node_is)
      ∙ ap₂ array_item (ap (λ (n : Cell). n.len) is.node_is) (ap (λ (n : Cell). n.value) is.node_is)
  made (object_item m n) is p null truth signed unsigned wide decimal string array object =
      object (ap (λ (n : Cell). n.kind) is.node_is)
      ∙ ap₂ object_item (ap (λ (n : Cell). n.len) is.node_is) (ap (λ (n : Cell). n.value) is.node_is)

-- ---- an integer of 128 bits from its literal

abbrev size : ℤ → ℕ
size (pos n) = n
size (negsuc n) = suc n

-- a literal of a number other than 0 has its sign and its magnitude
signs : (minus negative : Bool) (n m : ℕ) → 0 < n → number_of negative m ≡ number_of minus n → (negative ≡ minus) × (m ≡ n)
signs true true zero m some e = absurd (omega arith)
signs true true (suc n) zero some e = absurd (cc)
signs true true (suc n) (suc m) some e = (refl, ap size e)
signs true false zero m some e = absurd (omega arith)
signs true false (suc n) m some e = absurd (cc)
signs false true n zero some e = let none : 0 ≡ n = ap size e in absurd (omega (arith, none))
signs false true n (suc m) some e = absurd (cc)
signs false false n m some e = (refl, ap size e)

module _ (literal : List ℕ) (minus : Bool) (n : ℕ) (fits : n ≤ max_magnitude minus) (some : 0 < n)
    (is : IsLiteralOf (number_of minus n) literal) where
  same : (has_minus literal ≡ minus) × (magnitude literal ≡ n)
  same = signs minus (has_minus literal) n (magnitude literal) some is.1

  pub literal-read : number_at literal 0 ≡ Ok (integer minus n, length literal)
  literal-read =
      number_at-integer literal 0 literal [] (sym (append-nil literal)) refl (matches-Matches integer_literal literal is.0)
      (subst (λ s. magnitude literal ≤ max_magnitude s) (sym same.0) (subst (λ m. m ≤ max_magnitude minus) (sym same.1) fits))
      ∙ ap₂ (λ s m. Ok (integer s m, 0 + length literal)) same.0 same.1 ∙ ap (λ k. Ok (integer minus n, k)) (omega arith)

-- ---- which integers have 128 bits

abbrev is_signed : StaticNode → Bool
is_signed (fixed.I64 z) = true
is_signed (fixed.I128 z) = true
is_signed s = false

abbrev number : StaticNode → ℤ
number (fixed.I128 z) = z
number (fixed.U128 n) = pos n
number s = pos 0

sign : (minus : Bool) (n : ℕ) → is_signed (integer_node minus n) ≡ minus
sign true n = cond_both (nat_le n (max_magnitude_64 true)) _ _ (λ s. is_signed s ≡ true) (λ _. refl) (λ _. refl)
sign false n = cond_both (nat_le n (max_magnitude_64 false)) _ _ (λ s. is_signed s ≡ false) (λ _. refl) (λ _. refl)

abbrev IsWide : Bool → ℕ → StaticNode → Type 0
IsWide minus n s = is_long s ≡ true → (0 < n) × (number s ≡ number_of minus n)

wide : (minus : Bool) (n : ℕ) → IsWide minus n (integer_node minus n)
wide true n =
    cond_both (nat_le n (max_magnitude_64 true)) _ _ (IsWide true n) (λ _ long. absurd (false≢true long))
    (λ h _. (let more : 2 ^ 63 < n = leb-false n (max_magnitude_64 true) h in omega (arith, more), refl))
wide false n =
    cond_both (nat_le n (max_magnitude_64 false)) _ _ (IsWide false n) (λ _ long. absurd (false≢true long))
    (λ h _. (let more : 2 ^ 64 - 1 < n = leb-false n (max_magnitude_64 false) h in omega (arith, more), refl))

-- the number of a node of 128 bits is that of its sign and its magnitude
wide-is : (value : StaticNode) (minus : Bool) (n : ℕ) → is_long value ≡ true → value ≡ integer_node minus n
    → (0 < n) × (number value ≡ number_of minus n)
wide-is value minus n long is =
    let w = wide minus n (ap is_long (sym is) ∙ long) in (w.0, ap number is ∙ w.1)

-- what an integer of 128 bits is read from
pub wide-read : (literal : List ℕ) (value : StaticNode) → IsWideLiteral literal value
    → (minus : Bool) × (n : ℕ) × (value ≡ integer_node minus n) × IsIntegerText literal minus n
wide-read literal (fixed.I128 z) (long, text, (minus, n, is, fits)) =
    let w = wide-is (fixed.I128 z) minus n long is in
    (minus, n, is, literal-read literal minus n fits w.0 (text.0, text.1 ∙ w.1))
wide-read literal (fixed.U128 m) (long, text, (minus, n, is, fits)) =
    let w = wide-is (fixed.U128 m) minus n long is in
    (minus, n, is, literal-read literal minus n fits w.0 (text.0, text.1 ∙ w.1))
wide-read literal fixed.Null (long, text, range) = absurd (false≢true long)
wide-read literal (fixed.Bool b) (long, text, range) = absurd (false≢true long)
wide-read literal (fixed.I64 z) (long, text, range) = absurd (false≢true long)
wide-read literal (fixed.U64 n) (long, text, range) = absurd (false≢true long)

-- ---- what a reader of numbers returns of it

pub read-node : (literal : List ℕ) (node : StaticNode) (len : ℕ) → IsNumberAt literal 0 (Integer node len)
    → (value : StaticNode) → IsWideLiteral literal value → node ≡ value
read-node literal node len read value is = by (wide-read literal value is)
  where
    by : (minus : Bool) × (n : ℕ) × (value ≡ integer_node minus n) × IsIntegerText literal minus n → node ≡ value
    by (minus, n, node-is, whole) = whole-node literal node len read minus n whole ∙ sym node-is

pub read-other : (literal : List ℕ) (r : Number) → IsNumberAt literal 0 r
    → ((node : StaticNode) (len : ℕ) → r ≡ Integer node len → ⊥) → (value : StaticNode) → IsWideLiteral literal value → ⊥
read-other literal r read never value is = by (wide-read literal value is)
  where
    by : (minus : Bool) × (n : ℕ) × (value ≡ integer_node minus n) × IsIntegerText literal minus n → ⊥
    by (minus, n, node-is, whole) = not-integer literal r read never minus n whole

-- ---- the cells of a value, and the next one

taken-first : (text : List ℕ) (items : List Item) (cells : List Cell) (n : ℕ) → length items ≤ n → AreFirst text items cells
    → AreFirst text items (take n cells)
taken-first text [] cells n few are = tt
taken-first text (x ∷ xs) [] n few are = absurd are
taken-first text (x ∷ xs) (c ∷ cs) zero few are = absurd (omega arith)
taken-first text (x ∷ xs) (c ∷ cs) (suc n) few are = (are.0, taken-first text xs cs n (omega arith) are.1)

module _ (cells : List Cell) (text : List ℕ) (i n : ℕ) (d : Document) (are : IsValueAt cells text i d) (is : n ≡ length (listing d)) where
  pub value-cells : AreFirst text (listing d) (take n (drop i cells))
  value-cells = taken-first text (listing d) (drop i cells) n (omega (arith, is)) are

  pub cells-len : length (listing d) ≡ length (take n (drop i cells))
  cells-len =
      let inside : n ≤ length (drop i cells) = omega (arith, is, length-drop i cells, value-within cells text i d are) in
      omega (arith, is, length-take-le n (drop i cells) inside)

pub record NextItem (text : List ℕ) (items : List Item) (cell : Cell) (at : ℕ) : Type 0 where
  pub item : Item
  pub node : IsNodeOf text cell item
  pub printable : IsPrintable item
  pub longer : take (at + 1) items ≡ take at items ++ item ∷ []

pub next-item : (text : List ℕ) (d : Cell) (items : List Item) (cells : List Cell) (at : ℕ) → AreFirst text items cells
    → at < length items → All IsPrintable items → NextItem text items (get_or cells at d) at
next-item text d [] cells at are inside all = absurd (omega arith)
next-item text d (x ∷ xs) [] at are inside all = absurd are
next-item text d (x ∷ xs) (c ∷ cs) zero are inside all = record { item = x; node = are.0; printable = all 0 x (omega arith); longer = refl }
next-item text d (x ∷ xs) (c ∷ cs) (suc at) are inside all =
    let r : NextItem text xs (get_or cs at d) at =
    next-item text d xs cs at are.1 (omega arith) (λ k e less. all (suc k) e (omega (arith, less))) in
    let one : suc at + 1 ≡ suc (at + 1) = omega arith in
    record {
      item = r.item;
      node = r.node;
      printable = r.printable;
      longer = ap (λ n. take n (x ∷ xs)) one ∙ ap (λ ys. x ∷ ys) r.longer;
    }
