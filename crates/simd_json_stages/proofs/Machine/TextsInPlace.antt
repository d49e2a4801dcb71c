-- Texts that lie in the input before an index stay there while later bytes are written.
use Rattle.std.proofs.Common.{◌≡◌, sym, ◌∙◌, ap, subst, refl, ℕ, ◌+◌, ◌-◌, ◌≤◌, List, [], ◌∷◌, ◌++◌, length, take, drop, get_or, Bool}
use Rattle.std.proofs.Common.{arith, true, false, nat_le}
use Rattle.std.proofs.Math.Logic.{∥∥₁_elim}
use Rattle.std.proofs.Props.{props}
use Rattle.std.proofs.lemmas.Bool.{cond_both}
use Rattle.std.proofs.lemmas.Grind.{common_steps}
use Rattle.std.specs.Prelude.{IsFalse, IsUtf8, slice_set}
use Rattle.std.proofs.lemmas.List.{drop-drop, drop-take, take-take, get_or-drop, length-drop, length-take-le}
use Rattle.std.proofs.lemmas.List.Elements.{All-push, All-set, All-weaker}
use Rattle.std.proofs.lemmas.Str.{IsUtf8-nil, is_utf8-from_IsUtf8, IsUtf8-from_is_utf8}
use Rattle.std.specs.List.{All}
use borrow.Rule.Slice.PartMut.{put_mid}
use Rattle.simd_json_parts.specs.Bytes.{byte_at}
use Rattle.simd_json_parts.specs.Derivatives.{matches}
use Rattle.simd_json_parts.specs.Integers.{integer_node, max_magnitude_64, number_of}
use Rattle.simd_json_parts.specs.Nodes.{Item, static_item, decimal_item, string_item, array_item, object_item}
use Rattle.simd_json_parts.specs.Numbers.{has_minus, integer_literal, magnitude}
use Rattle.simd_json_parts.specs.declared.node.StaticNode.{StaticNode}
use Rattle.simd_json_parts.specs.declared.node.StaticNode.TheVariants as fixed
use Rattle.simd_json_stages.specs.Building.{header_of}
use Rattle.simd_json_stages.specs.EscapesAhead.{AreAhead}
use Rattle.simd_json_stages.specs.ReadsLater.{ahead-later}
use Rattle.simd_json_stages.specs.Placed.{AreLaid, IsTextOf, LiesBefore, LiesIn, Placed, ReadsInPlace}
use Rattle.simd_json_stages.specs.Placed.{is_long, placed_at, textless}
use Rattle.simd_json_stages.specs.declared.stage2.escapes.Escapes.{Escapes}
use Rattle.simd_json_stages.specs.declared.stage2.stack.Container.{Container}
use Rattle.simd_json_stages.specs.declared.stage2.stack.Container.TheVariants.{Array, Object}

-- from a later index on the bytes are the input's, too
pub place-drop : {b bytes : List ℕ} {at : ℕ} {is_plain : Bool} {escapes : Escapes} {i : ℕ} → ReadsInPlace b bytes at is_plain escapes i
    → (j : ℕ) → at ≤ j → drop j bytes ≡ drop j b
place-drop {b} {bytes} {at} reads j l =
    let there : at + (j - at) ≡ j = omega (arith, l) in
    sym (ap (λ n. drop n bytes) there) ∙ sym (drop-drop (j - at) at bytes) ∙ ap (drop (j - at)) reads.rest
    ∙ drop-drop (j - at) at b ∙ ap (λ n. drop n b) there

pub place-byte : {b bytes : List ℕ} {at : ℕ} {is_plain : Bool} {escapes : Escapes} {i : ℕ} → ReadsInPlace b bytes at is_plain escapes i
    → get_or bytes i 32 ≡ byte_at b i
place-byte {b} {bytes} {i = i} reads =
    let none : i + 0 ≡ i = omega arith in
    sym (ap (λ n. get_or bytes n 32) none) ∙ sym (get_or-drop i bytes 0 32) ∙ ap (λ us. get_or us 0 32) (place-drop reads i reads.before)
    ∙ get_or-drop i b 0 32 ∙ ap (λ n. get_or b n 32) none

-- so they are after more of them were written
pub place-later : {b bytes bytes' : List ℕ} {at at' : ℕ} {is_plain : Bool} {escapes escapes' : Escapes} {i : ℕ}
    → ReadsInPlace b bytes at is_plain escapes i → (IsFalse is_plain → AreAhead b escapes' i) → (later : ℕ) → length bytes' ≡ length bytes
    → drop at' bytes' ≡ drop at' b → at' ≤ later → i ≤ later → ReadsInPlace b bytes' at' is_plain escapes' later
place-later {b} {escapes' = escapes'} {i} reads ahead later size rest low l = record {
  fits = reads.fits;
  size = size ∙ reads.size;
  rest = rest;
  before = low;
  plain = λ t k f e. reads.plain t k (omega (arith, f, l)) e;
  ahead = λ t. ahead-later b escapes' i (ahead t) later l;
}

-- ---- a string that is decoded in a part of the bytes

pub drop-part : (at k : ℕ) (xs ys : List ℕ) → at ≤ length xs → k ≡ length xs - at → length ys ≡ k → drop at (put_mid at k xs ys) ≡ ys
drop-part at k xs ys fits size long = grind (arith, common_steps)

-- ---- texts that lie in the bytes

-- before a later index they lie too
pub laid-later : {bytes : List ℕ} {end later : ℕ} {ps : List Placed} → AreLaid bytes end ps → end ≤ later → later ≤ length bytes
    → AreLaid bytes later ps
laid-later {bytes} {end} {later} {ps} laid l fits = record {
  within = fits;
  each = All-weaker (LiesBefore bytes end) (LiesBefore bytes later)
      (λ p h. record { before = omega (arith, h.before, l); there = h.there; is_text = h.is_text; utf8 = h.utf8 }) ps laid.each;
}

-- and after bytes from an index on were written
pub laid-kept : {old new : List ℕ} {end : ℕ} (at : ℕ) {ps : List Placed} → AreLaid old end ps → end ≤ at → take at new ≡ take at old
    → length new ≡ length old → AreLaid new end ps
laid-kept {old} {new} {end} at {ps} laid l same size = record {
  within = omega (arith, laid.within, size);
  each = All-weaker (LiesBefore old end) (LiesBefore new end) (λ p h.
      let n = length p.text in
      record {
        before = h.before;
        there = sym (drop-take p.at n new) ∙ ap (drop p.at) (sym (take-take (p.at + n) at new (omega (arith, h.before, l))))
            ∙ ap (λ us. drop p.at (take (p.at + n) us)) same ∙ ap (drop p.at) (take-take (p.at + n) at old (omega (arith, h.before, l)))
            ∙ drop-take p.at n old ∙ h.there;
        is_text = h.is_text;
        utf8 = h.utf8;
      }) ps laid.each;
}

-- with one more
pub laid-more : {bytes : List ℕ} {end : ℕ} {ps qs : List Placed} (p : Placed) → AreLaid bytes end ps → LiesBefore bytes end p
    → qs ≡ ps ++ p ∷ [] → AreLaid bytes end qs
laid-more {bytes} {end} {ps} p laid lies is = record {
  within = laid.within;
  each = subst (All (LiesBefore bytes end)) (sym is) (All-push (LiesBefore bytes end) ps p laid.each lies);
}

-- with one in the place of another
pub laid-set : {bytes : List ℕ} {end : ℕ} {ps qs : List Placed} (i : ℕ) (p : Placed) → AreLaid bytes end ps → LiesBefore bytes end p
    → qs ≡ slice_set ps i p → AreLaid bytes end qs
laid-set {bytes} {end} {ps} i p laid lies is = record {
  within = laid.within;
  each = subst (All (LiesBefore bytes end)) (sym is) (All-set (LiesBefore bytes end) ps i p lies laid.each);
}

-- some bytes that are UTF-8 lie where they are
pub lies-there : (bytes : List ℕ) (i n end : ℕ) (item : Item) → IsTextOf item (take n (drop i bytes)) → i + n ≤ end → end ≤ length bytes
    → IsUtf8 (take n (drop i bytes)) → LiesBefore bytes end (placed_at i (take n (drop i bytes)) item)
lies-there bytes i n end item is ends fits utf8 =
    let size : length (take n (drop i bytes)) ≡ n = length-take-le n (drop i bytes) (omega (arith, length-drop i bytes, ends, fits)) in
    record {
      before = omega (arith, size, ends);
      there = ap (λ k. take k (drop i bytes)) size;
      is_text = ∣ is ∣₁;
      utf8 = is_utf8-from_IsUtf8 _ utf8;
    }

-- a node without a text lies anywhere
pub no-text : (bytes : List ℕ) (end : ℕ) (item : Item) → IsTextOf item [] → LiesBefore bytes end (textless item)
no-text bytes end item none = record {
  before = omega arith;
  there = refl;
  is_text = ∣ none ∣₁;
  utf8 = is_utf8-from_IsUtf8 _ IsUtf8-nil;
}

pub no-header-text : (c : Container) (len count : ℕ) → IsTextOf (header_of c len count) []
no-header-text Array len count = refl
no-header-text Object len count = refl

pub no-short-text : (value : StaticNode) → is_long value ≡ false → IsTextOf (static_item value) []
no-short-text fixed.Null short = refl
no-short-text (fixed.Bool b) short = refl
no-short-text (fixed.I64 z) short = refl
no-short-text (fixed.U64 n) short = refl
no-short-text (fixed.I128 z) short = absurd (cc short)
no-short-text (fixed.U128 n) short = absurd (cc short)

-- that of an integer of 128 bits
long-by : (literal : List ℕ) (minus : Bool) → has_minus literal ≡ minus → matches integer_literal literal ≡ true
    → is_long (integer_node minus (magnitude literal)) ≡ true → IsTextOf (static_item (integer_node minus (magnitude literal))) literal
long-by literal true sign matched = cond_both (nat_le (magnitude literal) (max_magnitude_64 true)) _ _
    (λ s. is_long s ≡ true → IsTextOf (static_item s) literal) (λ _ long. absurd (cc long))
    (λ _ long. (matched, ap (λ b. number_of b (magnitude literal)) sign))
long-by literal false sign matched = cond_both (nat_le (magnitude literal) (max_magnitude_64 false)) _ _
    (λ s. is_long s ≡ true → IsTextOf (static_item s) literal) (λ _ long. absurd (cc long))
    (λ _ long. (matched, ap (λ b. number_of b (magnitude literal)) sign))

pub long-text : (value : StaticNode) (literal : List ℕ) → is_long value ≡ true → matches integer_literal literal ≡ true
    → value ≡ integer_node (has_minus literal) (magnitude literal) → IsTextOf (static_item value) literal
long-text value literal long matched is =
    subst (λ s. IsTextOf (static_item s) literal) (sym is)
    (long-by literal (has_minus literal) refl matched (sym (ap is_long is) ∙ long))

IsTextOf-prop : (item : Item) (text : List ℕ) → IsProp (IsTextOf item text)
IsTextOf-prop (static_item fixed.Null) text = Prim.hlevel props
IsTextOf-prop (static_item (fixed.Bool b)) text = Prim.hlevel props
IsTextOf-prop (static_item (fixed.I64 z)) text = Prim.hlevel props
IsTextOf-prop (static_item (fixed.U64 n)) text = Prim.hlevel props
IsTextOf-prop (static_item (fixed.I128 z)) text = Prim.hlevel props
IsTextOf-prop (static_item (fixed.U128 n)) text = Prim.hlevel props
IsTextOf-prop (decimal_item literal) text = Prim.hlevel props
IsTextOf-prop (string_item string) text = Prim.hlevel props
IsTextOf-prop (array_item len count) text = Prim.hlevel props
IsTextOf-prop (object_item len count) text = Prim.hlevel props

-- in the end
pub laid-in : {bytes : List ℕ} {end : ℕ} {ps : List Placed} → AreLaid bytes end ps → All (LiesIn bytes) ps
laid-in {bytes} {end} {ps} laid = All-weaker (LiesBefore bytes end) (LiesIn bytes) (λ p h. record {
  within = omega (arith, h.before, laid.within);
  there = h.there;
  is_text = ∥∥₁_elim h.is_text (IsTextOf-prop p.item p.text) (λ is. is);
  utf8 = IsUtf8-from_is_utf8 _ h.utf8;
}) ps laid.each
