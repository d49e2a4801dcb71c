-- The compact text of an array is that of its elements, with commas between them.
use Rattle.std.specs.Prelude.{◌⊎◌}
use Rattle.std.proofs.Common.{◌≡◌, inl, inr, ◌∙◌, ap, ap₂, sym, refl, ℕ, suc, List, [], ◌∷◌, ◌++◌, append_assoc, append-nil, false, flat_map, map, arith, length}
use Rattle.std.proofs.lemmas.List.Concat.{flat_map-append}
use Rattle.programs.specs.Cells.{after_mark, cells}
use Rattle.simd_json_parts.specs.Bytes.{comma, left_bracket, left_brace, right_bracket, right_brace}
use Rattle.simd_json_parts.specs.Document.{Document, null, boolean, integer, decimal, string, array, object, Elements}
use Rattle.simd_json_parts.specs.Document.{no_elements, element, Members, no_members, member}
use Rattle.simd_json_parts.specs.Printed.{after_name, compact, elements_text, members_text, quoted, text}
use Rattle.jpick.specs.Queries.{elements_of}
use Rattle.jpick.specs.Rows.{arranged, array_text, element_text, escaped, quote_of, text_in}
use Rattle.jpick.specs.declared.fields.Layout.{Layout}
use Rattle.jpick.specs.declared.fields.Layout.TheVariants.{Tabs, Tsv, Csv, Json}
use Rattle.jpick.specs.declared.fields.Wanted.{Wanted}

-- a compact text does not depend on how many containers are open around it
mutual
  level : (d : Document) (m n : ℕ) → text false d m ≡ text false d n
  level null m n = refl
  level (boolean b) m n = refl
  level (integer minus k) m n = refl
  level (decimal literal) m n = refl
  level (string t) m n = refl
  level (array no_elements) m n = refl
  level (array (element d ds)) m n =
      ap (λ t. t ++ (right_bracket ∷ [])) (level-elements left_bracket (element d ds) (suc m) (suc n))
  level (object no_members) m n = refl
  level (object (member k d ms)) m n =
      ap (λ t. t ++ (right_brace ∷ [])) (level-members left_brace (member k d ms) (suc m) (suc n))

  level-elements : (before : ℕ) (ds : Elements) (m n : ℕ) → elements_text false before ds m ≡ elements_text false before ds n
  level-elements before no_elements m n = refl
  level-elements before (element d ds) m n =
      ap (λ t. before ∷ (t ++ elements_text false comma ds m)) (level d m n)
      ∙ ap (λ t. before ∷ (text false d n ++ t)) (level-elements comma ds m n)

  level-members : (before : ℕ) (ms : Members) (m n : ℕ) → members_text false before ms m ≡ members_text false before ms n
  level-members before no_members m n = refl
  level-members before (member k d ms) m n =
      ap (λ t. before ∷ ((quoted k ++ after_name false) ++ (t ++ members_text false comma ms m))) (level d m n)
      ∙ ap (λ t. before ∷ ((quoted k ++ after_name false) ++ (text false d n ++ t))) (level-members comma ms m n)

-- ---- as it is put

module _ (cell : Document → List ℕ) where
  -- the elements after a mark
  abbrev pub joined : List ℕ → List Document → List ℕ
  joined mark [] = []
  joined mark (d ∷ ds) = mark ++ (cell d ++ flat_map (after_mark (comma ∷ []) cell) ds)

  pub joined-first : (ds : List Document) → joined [] ds ≡ cells (comma ∷ []) cell ds
  joined-first [] = refl
  joined-first (d ∷ ds) = refl

  joined-next : (ds : List Document) → joined (comma ∷ []) ds ≡ flat_map (after_mark (comma ∷ []) cell) ds
  joined-next [] = refl
  joined-next (d ∷ ds) = refl

  -- one element more
  pub joined-step : (old mark : List ℕ) (d : Document) (ds rest : List Document) → ds ≡ d ∷ rest
      → (old ++ (mark ++ cell d)) ++ joined (comma ∷ []) rest ≡ old ++ joined mark ds
  joined-step old mark d ds rest whole =
      append_assoc old (mark ++ cell d) (joined (comma ∷ []) rest)
      ∙ ap (λ us. old ++ us) (append_assoc mark (cell d) (joined (comma ∷ []) rest) ∙ ap (λ us. mark ++ (cell d ++ us)) (joined-next rest))
      ∙ sym (ap (λ xs. old ++ joined mark xs) whole)

-- ---- as it is printed

others : (ds : List Document) → elements_text false comma (elements_of ds) 1 ≡ flat_map (after_mark (comma ∷ []) compact) ds
others [] = refl
others (d ∷ ds) = ap (λ t. comma ∷ (t ++ elements_text false comma (elements_of ds) 1)) (level d 1 0)
    ∙ ap (λ t. comma ∷ (compact d ++ t)) (others ds)

array-text : (ds : List Document)
    → compact (array (elements_of ds)) ≡ left_bracket ∷ (cells (comma ∷ []) compact ds ++ right_bracket ∷ [])
array-text [] = refl
array-text (d ∷ ds) =
    ap (λ t. (left_bracket ∷ (t ++ elements_text false comma (elements_of ds) 1)) ++ right_bracket ∷ []) (level d 1 0)
    ∙ ap (λ t. (left_bracket ∷ (compact d ++ t)) ++ right_bracket ∷ []) (others ds)

-- ---- escaped

no-escape-before : (layout : Layout) → escaped layout left_bracket ≡ left_bracket ∷ []
no-escape-before Tabs = refl
no-escape-before Tsv = refl
no-escape-before Csv = refl
no-escape-before Json = refl

no-escape-after : (layout : Layout) → escaped layout right_bracket ≡ right_bracket ∷ []
no-escape-after Tabs = refl
no-escape-after Tsv = refl
no-escape-after Csv = refl
no-escape-after Json = refl

no-escape-between : (layout : Layout) → escaped layout comma ≡ comma ∷ []
no-escape-between Tabs = refl
no-escape-between Tsv = refl
no-escape-between Csv = refl
no-escape-between Json = refl

-- as it is, whatever is wanted
abbrev plain_element : Layout → Document → List ℕ
plain_element layout d = flat_map (escaped layout) (compact d)

module _ (layout : Layout) where
  abbrev mapped : List ℕ → List ℕ
  mapped us = flat_map (escaped layout) us

  mapped-after : (ds : List Document) → mapped (flat_map (after_mark (comma ∷ []) compact) ds)
      ≡ flat_map (after_mark (comma ∷ []) (plain_element layout)) ds
  mapped-after [] = refl
  mapped-after (d ∷ ds) =
      flat_map-append (escaped layout) (comma ∷ compact d) (flat_map (after_mark (comma ∷ []) compact) ds)
      ∙ ap₂ (λ us vs. (us ++ plain_element layout d) ++ vs) (no-escape-between layout) (mapped-after ds)

  mapped-cells : (ds : List Document) → mapped (cells (comma ∷ []) compact ds) ≡ cells (comma ∷ []) (plain_element layout) ds
  mapped-cells [] = refl
  mapped-cells (d ∷ ds) =
      flat_map-append (escaped layout) (compact d) (flat_map (after_mark (comma ∷ []) compact) ds)
      ∙ ap (λ us. plain_element layout d ++ us) (mapped-after ds)

  mapped-array : (ds : List Document) → mapped (compact (array (elements_of ds)))
      ≡ left_bracket ∷ (cells (comma ∷ []) (plain_element layout) ds ++ right_bracket ∷ [])
  mapped-array ds =
      ap mapped (array-text ds)
      ∙ ap₂ (λ us vs. us ++ vs) (no-escape-before layout) (flat_map-append (escaped layout) (cells (comma ∷ []) compact ds) (right_bracket ∷ [])
      ∙ ap₂ (λ us vs. us ++ vs) (mapped-cells ds) (append-nil (escaped layout right_bracket) ∙ no-escape-after layout))

unescaped : (us : List ℕ) → flat_map (λ x. x ∷ []) us ≡ us
unescaped [] = refl
unescaped (u ∷ us) = ap (λ vs. u ∷ vs) (unescaped us)

pub no-escapes : (layout : Layout) → (layout ≡ Tabs) ⊎ (layout ≡ Json) → (us : List ℕ) → flat_map (escaped layout) us ≡ us
no-escapes Tabs is us = unescaped us
no-escapes Tsv (inl is) us = cc
no-escapes Tsv (inr is) us = cc
no-escapes Csv (inl is) us = cc
no-escapes Csv (inr is) us = cc
no-escapes Json is us = unescaped us

-- between its quotes
quoted-array : (layout : Layout) (ds : List Document)
    → quote_of layout (array (elements_of ds)) ++ (mapped layout (compact (array (elements_of ds))) ++ quote_of layout (array (elements_of ds)))
    ≡ text_in layout false false (array (elements_of ds))
quoted-array Tabs ds = append-nil _ ∙ unescaped _
quoted-array Tsv ds = refl
quoted-array Csv ds = refl
quoted-array Json ds = append-nil _ ∙ unescaped _

after-arranged : (w : Wanted) (ds : List Document) → flat_map (after_mark (comma ∷ []) (element_text w)) ds
    ≡ flat_map (after_mark (comma ∷ []) (plain_element w.layout)) (map (arranged w) ds)
after-arranged w [] = refl
after-arranged w (d ∷ ds) = ap (λ us. (comma ∷ element_text w d) ++ us) (after-arranged w ds)

cells-arranged : (w : Wanted) (ds : List Document)
    → cells (comma ∷ []) (element_text w) ds ≡ cells (comma ∷ []) (plain_element w.layout) (map (arranged w) ds)
cells-arranged w [] = refl
cells-arranged w (d ∷ ds) = ap (λ us. element_text w d ++ us) (after-arranged w ds)

pub array-put : (w : Wanted) (ds : List Document) (q : List ℕ) → q ≡ quote_of w.layout (array (elements_of (map (arranged w) ds)))
    → (q ++ (left_bracket ∷ [])) ++ (cells (comma ∷ []) (element_text w) ds ++ (right_bracket ∷ (q ++ []))) ≡ array_text w ds
array-put w ds q is =
    let layout = w.layout in
    let es = map (arranged w) ds in
    let body = cells (comma ∷ []) (plain_element layout) es in
    ap (λ us. (q ++ (left_bracket ∷ [])) ++ (us ++ (right_bracket ∷ (q ++ [])))) (cells-arranged w ds)
    ∙ append_assoc q (left_bracket ∷ []) (body ++ (right_bracket ∷ (q ++ [])))
    ∙ ap (λ us. q ++ (left_bracket ∷ us)) (ap (λ us. body ++ (right_bracket ∷ us)) (append-nil q) ∙ sym (append_assoc body (right_bracket ∷ []) q))
    ∙ ap (λ us. q ++ (us ++ q)) (sym (mapped-array layout es))
    ∙ ap (λ q. q ++ (mapped layout (compact (array (elements_of es))) ++ q)) is
    ∙ quoted-array layout es

pub no-cells : {X : Type 0} (mark : List ℕ) (cell : X → List ℕ) (xs : List X) → length xs ≡ 0 → [] ≡ cells mark cell xs
no-cells mark cell [] is = refl
no-cells mark cell (x ∷ xs) is = absurd (omega (arith, is))
