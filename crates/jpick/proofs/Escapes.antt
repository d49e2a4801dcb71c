-- How text is escaped.
use Rattle.std.proofs.Common.{◌≡◌, ◌∙◌, ◌<◌, ◌+◌, ◌++◌, ap, ap₂, refl, sym, flat_map, take, get_or, length, List, ℕ, Option, None, Some, ◌∷◌}
use Rattle.std.proofs.Common.{[], Bool, false, true}
use Rattle.std.proofs.lemmas.List.{take_more}
use Rattle.std.proofs.lemmas.List.Concat.{flat_map-append}
use Rattle.std.specs.Prelude.{is_some, option_map, unwrap_or, if◌then◌else◌}
use Rattle.simd_json_print.proofs.FlatMaps.{flat_map-more}
use Rattle.jpick.proofs.Appended.{is-seen}
use Rattle.simd_json_parts.specs.Document.{Document, null, boolean, integer, decimal, string, array, object, Elements, Members}
use Rattle.simd_json_parts.specs.Printed.{compact}
use Rattle.simd_json_parts.specs.Views.{as_null, as_str}
use Rattle.jpick.specs.Rows.{arranged, escape_of, escaped, field_text, plain_text, quote_of, shown}
use Rattle.jpick.specs.Sorted.{sorted}
use Rattle.jpick.specs.declared.fields.Layout.{Layout}
use Rattle.jpick.specs.declared.fields.Layout.TheVariants.{Tabs, Tsv, Csv, Json}
use Rattle.jpick.specs.declared.fields.Wanted.{Wanted}

as-itself : (o : Option (List ℕ)) (x : ℕ) → is_some o ≡ false → unwrap_or o (x ∷ []) ≡ x ∷ []
as-itself None x none = refl
as-itself (Some us) x none = cc

module _ (layout : Layout) (bytes : List ℕ) where
  -- one more byte without an escape
  pub one-unescaped : (i : ℕ) {S : Type 0} (f : S → List ℕ) (r : Option S) → i < length bytes
      → option_map f r ≡ escape_of layout (get_or bytes i 0) → is_some r ≡ false → flat_map (escaped layout) (take i bytes) ≡ take i bytes
      → flat_map (escaped layout) (take (i + 1) bytes) ≡ take (i + 1) bytes
  one-unescaped i f r more is none so-far =
      flat_map-more (escaped layout) bytes i 0 more
      ∙ ap₂ (λ us vs. us ++ vs) so-far (as-itself (escape_of layout (get_or bytes i 0)) (get_or bytes i 0) (is-seen f r _ false is none))
      ∙ sym (take_more bytes i 0 more)

  -- a run, and the byte after it
  pub run-escaped : (run rest others : List ℕ) (x : ℕ) → flat_map (escaped layout) run ≡ run → run ++ rest ≡ bytes → rest ≡ x ∷ others
      → run ++ (escaped layout x ++ flat_map (escaped layout) others) ≡ flat_map (escaped layout) bytes
  run-escaped run rest others x none all is =
      ap (λ us. us ++ flat_map (escaped layout) (x ∷ others)) (sym none) ∙ sym (flat_map-append (escaped layout) run (x ∷ others))
      ∙ ap (flat_map (escaped layout)) (ap (λ us. run ++ us) (sym is) ∙ all)

-- ---- fields

pub string-field : (layout : Layout) (d : Document) (t : List ℕ) → Some t ≡ as_str d → field_text layout (string t) ≡ field_text layout d
string-field layout null u is = cc
string-field layout (boolean b) u is = cc
string-field layout (integer m n) u is = cc
string-field layout (decimal v) u is = cc
string-field layout (string t) u is = cc
string-field layout (array ds) u is = cc
string-field layout (object ms) u is = cc

pub null-field : (layout : Layout) (d : Document) → is_some (as_null d) ≡ true → field_text layout d ≡ []
null-field layout null is = refl
null-field layout (boolean b) is = cc
null-field layout (integer m n) is = cc
null-field layout (decimal v) is = cc
null-field layout (string t) is = cc
null-field layout (array ds) is = cc
null-field layout (object ms) is = cc

pub other-field : (layout : Layout) (d : Document) → None ≡ as_str d → is_some (as_null d) ≡ false
    → (quote_of layout d ++ flat_map (escaped layout) (compact d)) ++ quote_of layout d ≡ field_text layout d
other-field layout null is some = cc
other-field layout (boolean b) is some = refl
other-field layout (integer m n) is some = refl
other-field layout (decimal v) is some = refl
other-field layout (string t) is some = cc
other-field layout (array ds) is some = refl
other-field layout (object ms) is some = refl

pub string-plain : (pretty : Bool) (d : Document) (t : List ℕ) → Some t ≡ as_str d → t ≡ plain_text true pretty d
string-plain pretty null u is = cc
string-plain pretty (boolean b) u is = cc
string-plain pretty (integer m n) u is = cc
string-plain pretty (decimal v) u is = cc
string-plain pretty (string t) u is = cc
string-plain pretty (array ds) u is = cc
string-plain pretty (object ms) u is = cc

pub other-plain : (pretty : Bool) (d : Document) → None ≡ as_str d → shown pretty d ≡ plain_text true pretty d
other-plain pretty null is = refl
other-plain pretty (boolean b) is = refl
other-plain pretty (integer m n) is = refl
other-plain pretty (decimal v) is = refl
other-plain pretty (string t) is = cc
other-plain pretty (array ds) is = refl
other-plain pretty (object ms) is = refl

-- ---- with the members in order

module _ {X : Type 0} (f : Document → X) (arrays : (ds es : Elements) → f (array ds) ≡ f (array es))
    (objects : (ms ns : Members) → f (object ms) ≡ f (object ns)) where
  -- what does not depend on what is in an array or an object
  kept : (b : Bool) (d : Document) → f (if b then sorted d else d) ≡ f d
  kept false d = refl
  kept true null = refl
  kept true (boolean b) = refl
  kept true (integer m n) = refl
  kept true (decimal v) = refl
  kept true (string t) = refl
  kept true (array ds) = arrays _ ds
  kept true (object ms) = objects _ ms

pub arranged-null : (w : Wanted) (d : Document) → is_some (as_null (arranged w d)) ≡ is_some (as_null d)
arranged-null w d = kept (λ e. is_some (as_null e)) (λ _ _. refl) (λ _ _. refl) w.has_sorted_keys d

pub arranged-str : (w : Wanted) (d : Document) → as_str (arranged w d) ≡ as_str d
arranged-str w d = kept as_str (λ _ _. refl) (λ _ _. refl) w.has_sorted_keys d

pub arranged-quote : (layout : Layout) (w : Wanted) (d : Document) → quote_of layout (arranged w d) ≡ quote_of layout d
arranged-quote Tabs w d = refl
arranged-quote Tsv w d = refl
arranged-quote Csv w d = kept (quote_of Csv) (λ _ _. refl) (λ _ _. refl) w.has_sorted_keys d
arranged-quote Json w d = refl
