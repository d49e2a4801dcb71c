-- A JSON Pointer, over values of documents.
use Rattle.std.proofs.Common.{◌≡◌, refl, sym, ◌∙◌, ap, ℕ, ◌+◌, ◌<◌, ◌≤◌, List, length, drop, true, false, ◌==◌, arith, eqb-true}
use Rattle.std.specs.Prelude.{Option, Some, None, is_some, option_map, option_and_then, ◌^◌}
use Rattle.std.specs.List.{slice_range}
use Rattle.std.specs.Result.{result_ok}
use Rattle.std.proofs.lemmas.List.{length-drop, length-map}
use Rattle.simd_json_parts.specs.Bytes.{byte_at}
use Rattle.simd_json_parts.specs.Document.{Document, array, object, Elements, elements, Members}
use Rattle.simd_json_parts.specs.Followed.{IsTokenAt, first_step, fits_64}
use Rattle.simd_json_parts.specs.Pointed.{array_index, member_at, named, pointed, pointed_from, unescaped}
use Rattle.simd_json_parts.specs.Views.{as_array, get_idx, is_array}
use Rattle.simd_json_parts.proofs.Pointers.Pointed.{element-fits, element-past, further, member-here, member-later, member-none, some-left}
use Rattle.simd_json_parts.proofs.Pointers.Pointed.{stop-of}
use Rattle.simd_json_parts.proofs.Pointers.Pointed as pointed
use Rattle.simd_json_ondemand.specs.Docs.{doc, index_of, places, text}
use Rattle.simd_json_ondemand.specs.Iterated.{all_some}
use Rattle.simd_json_ondemand.specs.Viewed.{read_along}
use Rattle.simd_json_ondemand.specs.Walks.{element_ahead, elements_walk, items, whole}
use Rattle.simd_json_ondemand.specs.declared.array.Position.TheVariants.{First, AtValue}
use Rattle.simd_json_ondemand.specs.declared.value.Value.{Value}
use Rattle.simd_json_ondemand.proofs.Agreement.{array-is, begins-at}
use Rattle.simd_json_ondemand.proofs.Standing.{opens_array_byte}
use Rattle.simd_json_ondemand.proofs.WalkViews.{elements-found}
use Rattle.simd_json_ondemand.proofs.Walks.{few-items, items-whole}
use Rattle.simd_json_stages.proofs.Whole.{few-positions, right-input}

-- ---- elements

module _ (v : Value) (d : Document) (h : doc v ≡ Some d) where
  few-elements : (ds : Elements) → d ≡ array ds → length (elements ds) < 2 ^ 64
  few-elements ds is =
      let b : List ℕ = text v.document in
      let ps : List ℕ = places v.document in
      let test : is_array d ≡ true = ap is_array is in
      let opens : (byte_at b (index_of v) == 91) ≡ true =
      opens_array_byte b (index_of v) ∙ array-is b (index_of v) d (begins-at b ps v.at v.inside d h) ∙ test in
      let found = elements-found b ps v.at v.inside d h (eqb-true (byte_at b (index_of v)) 91 opens)
      ∙ ap (λ x. option_map (λ xs. whole (all_some xs)) (as_array x)) is in
      let inside : List ℕ = drop (v.at + 1) ps in
      let same : elements_walk b First inside ≡ whole (all_some (elements ds)) = cc in
      let scanned = v.document.scanned in
      omega (
        arith,
        ap (λ w. length (items w)) same,
        ap length (items-whole (all_some (elements ds))),
        length-map (elements ds) (λ (e : Document). Some e),
        few-items (read_along b) (element_ahead b AtValue) (length inside) (element_ahead b First inside),
        length-drop (v.at + 1) ps,
        ap length scanned.listed,
        few-positions b,
        (right-input b scanned.whole).0,
      )

  pub element-nowhere : (t : List ℕ) → is_array d ≡ true → option_and_then fits_64 (array_index t) ≡ None → result_ok (named t d) ≡ None
  element-nowhere t is none = go d refl is
    where
      go : (e : Document) → d ≡ e → is_array e ≡ true → result_ok (named t e) ≡ None
      go (array ds) same is = element-past ds (array_index t) (few-elements ds same) none
      go _ same is = cc

pub element-named : (t : List ℕ) (d : Document) (i : ℕ) → is_array d ≡ true → option_and_then fits_64 (array_index t) ≡ Some i
    → get_idx i d ≡ result_ok (named t d)
element-named t (array ds) i is fits = sym (element-fits ds (array_index t) i fits)
element-named t _ i is fits = cc

no-name : (ms : Members) (u : Option (List ℕ)) → is_some u ≡ false → result_ok (member_at ms u) ≡ None
no-name ms None malformed = refl
no-name ms (Some k) malformed = cc

pub malformed-named : (t : List ℕ) (d : Document) → is_array d ≡ false → is_some (unescaped t) ≡ false → result_ok (named t d) ≡ None
malformed-named t (array ds) other malformed = cc
malformed-named t (object ms) other malformed = no-name ms (unescaped t) malformed
malformed-named t _ other malformed = refl

-- ---- a token further

-- the pointer leads from the value to another, of whatever document begins there
abbrev pub IsFollowed : List ℕ → Value → ℕ → Value → Type 0
IsFollowed p v i w = (d : Document) → doc v ≡ Some d → (e : Document) × (doc w ≡ Some e) × (pointed p d ≡ pointed_from i (drop i p) e)

pub IsFollowed-none : (p : List ℕ) (v : Value) → IsFollowed p v 0 v
IsFollowed-none p v d h = (d, h, refl)

there : (o x : Option Document) → Some x ≡ option_map (λ (e : Document). Some e) o
    → (e : Document) × (o ≡ Some e) × (x ≡ Some e)
there None x is = cc
there (Some e) x is = let same : x ≡ Some e = cc in (e, refl, same)

pub nowhere : (o : Option Document) → None ≡ option_map (λ (e : Document). Some e) o → o ≡ None
nowhere None is = refl
nowhere (Some e) is = cc

pub IsFollowed-further : (p : List ℕ) (v w x : Value) (i e : ℕ) → IsFollowed p v i w → IsTokenAt p i e
    → ((d : Document) → doc w ≡ Some d
    → Some (doc x) ≡ option_map (λ (e : Document). Some e) (result_ok (named (slice_range p (i + 1) e) d)))
    → IsFollowed p v e x
IsFollowed-further p v w x i e before at step d h =
    let b = before d h in
    let t = there _ _ (step b.0 b.1) in
    (t.0, t.2, b.2 ∙ further p i e b.0 t.0 at t.1)

pub led-nowhere : (p : List ℕ) (v w : Value) (i : ℕ) → IsFollowed p v i w → i < length p
    → ((e : Document) → doc w ≡ Some e → result_ok (first_step (drop i p) e) ≡ None)
    → (d : Document) → doc v ≡ Some d → None ≡ option_map (λ (e : Document). Some e) (result_ok (pointed p d))
led-nowhere p v w i before less stopped d h =
    let b = before d h in
    ap (option_map (λ (e : Document). Some e)) (sym (ap result_ok b.2 ∙ stop-of i (drop i p) b.0 (some-left p i less) (stopped b.0 b.1)))

pub led-there : (p : List ℕ) (v w : Value) (i : ℕ) → IsFollowed p v i w → length p ≤ i
    → (d : Document) → doc v ≡ Some d → Some (doc w) ≡ option_map (λ (e : Document). Some e) (result_ok (pointed p d))
led-there p v w i before past d h =
    let b = before d h in
    ap (λ o. Some o) b.1 ∙ ap (option_map (λ (e : Document). Some e)) (sym (ap result_ok (b.2 ∙ pointed.whole i p b.0 past)))
