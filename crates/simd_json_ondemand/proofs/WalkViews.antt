-- The array or the object that begins at a value, as a walk along it goes.
use Rattle.std.proofs.Common.{◌≡◌, refl, sym, ◌∙◌, ap, ℕ, ◌+◌, ◌<◌, ◌≤◌, List, [], length, drop, get_or, true, false, ◌==◌}
use Rattle.std.specs.Prelude.{Option, Some, None, Result, Ok, Err, option_map, MatchOption, MatchResult}
use Rattle.std.specs.Result.{result_ok}
use Rattle.std.proofs.lemmas.Bool.{cond-true, cond-false, eqb-true, ne_eqb}
use Rattle.std.proofs.lemmas.List.{drop_all}
use Rattle.std.proofs.lemmas.Option.{slice_get-map}
use Rattle.simd_json_parts.specs.Bytes.{byte_at}
use Rattle.simd_json_parts.specs.Document.{Document, elements, array, members, object, string}
use Rattle.simd_json_parts.specs.Tokens.{Form, string_token, form_at}
use Rattle.simd_json_parts.specs.Views.{as_array, as_object, get, get_idx, is_array, is_object, try_at, try_get, try_get_idx, ok_map}
use Rattle.simd_json_parts.specs.declared.node.ValueType.TheVariants as kinds
use Rattle.simd_json_stages.proofs.Machine.Steps.{is_string}
use Rattle.simd_json_stages.proofs.Tokens.TokenForms as forms
use Rattle.simd_json_ondemand.specs.Docs.{text, places, index_of, form, doc}
use Rattle.simd_json_ondemand.specs.Iterated.{all_some}
use Rattle.simd_json_ondemand.specs.IteratedMembers.{all_members}
use Rattle.simd_json_ondemand.specs.Standing.{opens_array, opens_object}
use Rattle.simd_json_ondemand.specs.Viewed.{read_along}
use Rattle.simd_json_ondemand.specs.Walked.{array_seen, object_seen, array_walk, object_walk, unexpected_here, member_with, string_wanted}
use Rattle.simd_json_ondemand.specs.Stopped.{error_at, told}
use Rattle.simd_json_ondemand.specs.Unexpected.{unexpected}
use Rattle.simd_json_ondemand.specs.Walks.{stopped, ended, came, whole, first, walk_past, walk_from, elements_walk, members_walk, Walk}
use Rattle.simd_json_ondemand.specs.Walks.{elements_seen, found, items, members_seen}
use Rattle.simd_json_ondemand.specs.declared.array.Position.TheVariants.{First}
use Rattle.simd_json_ondemand.specs.declared.unexpected.Expected.TheVariants.{Kind}
use Rattle.simd_json_ondemand.specs.declared.unexpected.Expected.TheVariants as expected
use Rattle.simd_json_ondemand.specs.declared.unexpected.Unexpected.{Unexpected}
use Rattle.simd_json_ondemand.specs.declared.value.Value.{Value}
use Rattle.simd_json_ondemand.specs.declared.walk.StoppedAt.{StoppedAt}
use Rattle.simd_json_ondemand.proofs.Agreement.{begins-at, array-is, object-is}
use Rattle.simd_json_ondemand.proofs.ArrayViews as arrays
use Rattle.simd_json_ondemand.proofs.ObjectViews as objects
use Rattle.simd_json_ondemand.proofs.Sequence.Arrays.{InArray}
use Rattle.simd_json_ondemand.proofs.Sequence.Objects.{InObject}
use Rattle.simd_json_ondemand.proofs.Standing.{opens_array_byte, opens_object_byte}
use Rattle.simd_json_ondemand.proofs.Turns.{elements-seen-stop, members-seen-stop}
use Rattle.simd_json_ondemand.proofs.Walks.{Pairs, inside-walk, inside-members, from-stopped, items-whole, whole-with, past-whole}
use Rattle.simd_json_ondemand.proofs.Walks.{past-stopped}

-- ---- the walk inside

module _ (b is : List ℕ) (k : ℕ) (l : k < length is) (d : Document) (h : read_along b (drop k is) ≡ Some d) where
  pub elements-found : byte_at b (get_or is k 0) ≡ 91
      → Some (elements_walk b First (drop (k + 1) is)) ≡ option_map (λ ds. whole (all_some ds)) (as_array d)
  elements-found e =
      let w : InArray b (drop (k + 1) is) d = arrays.within b is k l d h e in
      ap (λ x. Some x) (inside-walk b (elements w.held) (drop (k + 1) is) w.inside)
      ∙ ap (λ x. option_map (λ ds. whole (all_some ds)) (as_array x)) (sym w.same)

  pub members-found : byte_at b (get_or is k 0) ≡ 123
      → Some (members_walk b First (drop (k + 1) is)) ≡ option_map (λ ms. whole (all_members ms)) (as_object d)
  members-found e =
      let w : InObject b (drop (k + 1) is) d = objects.within b is k l d h e in
      ap (λ x. Some x) (inside-members b (members w.held) (drop (k + 1) is) w.inside)
      ∙ ap (λ x. option_map (λ ms. whole (all_members ms)) (as_object x)) (sym w.same)

-- ---- the walk from a value

module _ (v : Value) (d : Document) (h : doc v ≡ Some d) where
  pub opens-array : opens_array (form v) ≡ is_array d
  opens-array = array-is (text v.document) (index_of v) d (begins-at (text v.document) (places v.document) v.at v.inside d h)

  pub opens-object : opens_object (form v) ≡ is_object d
  opens-object = object-is (text v.document) (index_of v) d (begins-at (text v.document) (places v.document) v.at v.inside d h)

  pub array-whole : is_array d ≡ true → Some (array_walk v) ≡ option_map (λ ds. whole (all_some ds)) (as_array d)
  array-whole is = let opens = opens-array ∙ is in
      ap (λ w. Some w) (cond-true _ _ _ opens)
      ∙ elements-found (text v.document) (places v.document) v.at v.inside d h
      (eqb-true _ 91 (opens_array_byte (text v.document) (index_of v) ∙ opens))

  array-none : is_array d ≡ false → array_walk v ≡ stopped (unexpected_here (Kind kinds.Array) v)
  array-none is = cond-false _ _ _ (opens-array ∙ is)

  pub object-whole : is_object d ≡ true → Some (object_walk v) ≡ option_map (λ ms. whole (all_members ms)) (as_object d)
  object-whole is = let opens = opens-object ∙ is in
      ap (λ w. Some w) (cond-true _ _ _ opens)
      ∙ members-found (text v.document) (places v.document) v.at v.inside d h
      (eqb-true _ 123 (opens_object_byte (text v.document) (index_of v) ∙ opens))

  object-none : is_object d ≡ false → object_walk v ≡ stopped (unexpected_here (Kind kinds.Object) v)
  object-none is = cond-false _ _ _ (opens-object ∙ is)

-- ---- look-up in a document

tried-at : (o : Option Document) → Some (option_map (λ e. Some e) o) ≡ option_map (option_map (λ e. Some e)) (result_ok (try_at Ok o))
tried-at None = refl
tried-at (Some d) = refl

pub stopped-with : (key : List ℕ) (e : Unexpected) → member_with key (stopped e) ≡ Err e
stopped-with key e = ap (λ w. ok_map (option_map (λ m. m.1)) (first w)) (from-stopped key e)

pub get-found : (key : List ℕ) (v : Value) (d : Document) → doc v ≡ Some d
    → result_ok (member_with key (object_walk v)) ≡ option_map (option_map (λ e. Some e)) (result_ok (try_get key d))
get-found key v (object ms) h =
    let same : object_walk v ≡ whole (all_members (members ms)) = (let e = object-whole v (object ms) h refl in cc) in
    ap (λ w. result_ok (member_with key w)) same ∙ ap result_ok (whole-with key ms) ∙ tried-at _
get-found key v d h = ap (λ w. result_ok (member_with key w)) (object-none v d h refl) ∙ ap result_ok (stopped-with key _)

pub idx-found : (i : ℕ) (v : Value) (d : Document) → doc v ≡ Some d
    → result_ok (first (walk_past i (array_walk v))) ≡ option_map (option_map (λ e. Some e)) (result_ok (try_get_idx i d))
idx-found i v (array ds) h =
    let same : array_walk v ≡ whole (all_some (elements ds)) = (let e = array-whole v (array ds) h refl in cc) in
    ap (λ w. result_ok (first (walk_past i w))) same ∙ ap result_ok (past-whole (all_some (elements ds)) i)
    ∙ ap (λ o. Some o) (slice_get-map (λ e. Some e) (elements ds) i)
idx-found i v d h = ap (λ w. result_ok (first (walk_past i w))) (array-none v d h refl) ∙ ap (λ w. result_ok (first w)) (past-stopped i _)

pub got : (key : List ℕ) (v : Value) (d : Document) → doc v ≡ Some d
    → found (member_with key (object_walk v)) ≡ option_map (λ e. Some e) (get key d)
got key v (object ms) h =
    let same : object_walk v ≡ whole (all_members (members ms)) = (let e = object-whole v (object ms) h refl in cc) in
    ap (λ w. found (member_with key w)) same ∙ ap found (whole-with key ms)
got key v d h = ap (λ w. found (member_with key w)) (object-none v d h refl) ∙ ap found (stopped-with key _)

pub idx-got : (i : ℕ) (v : Value) (d : Document) → doc v ≡ Some d
    → found (first (walk_past i (array_walk v))) ≡ option_map (λ e. Some e) (get_idx i d)
idx-got i v (array ds) h =
    let same : array_walk v ≡ whole (all_some (elements ds)) = (let e = array-whole v (array ds) h refl in cc) in
    ap (λ w. found (first (walk_past i w))) same ∙ ap found (past-whole (all_some (elements ds)) i)
    ∙ slice_get-map (λ e. Some e) (elements ds) i
idx-got i v d h = ap (λ w. found (first (walk_past i w))) (array-none v d h refl) ∙ ap (λ w. found (first w)) (past-stopped i _)

pub found-with : (key : List ℕ) (r : Result (Option Value) StoppedAt) (w more : Pairs) (P : Type 0)
    → MatchResult r (λ found. MatchOption found ((walk_from key w ≡ ended) × P)
    (λ v. walk_from key w ≡ came (Some (string key), doc v) more)) (λ s. (walk_from key w ≡ stopped (error_at s)) × P)
    → told (option_map doc) r ≡ member_with key w
found-with key (Ok (Some v)) w more P m = sym (ap (λ u. ok_map (option_map (λ m. m.1)) (first u)) m)
found-with key (Ok None) w more P m = sym (ap (λ u. ok_map (option_map (λ m. m.1)) (first u)) m.0)
found-with key (Err s) w more P m = sym (ap (λ u. ok_map (option_map (λ m. m.1)) (first u)) m.0)

-- ---- a value that begins no array or no object

module _ (v : Value) where
  abbrev b : List ℕ
  b = text v.document

  abbrev is : List ℕ
  is = places v.document

  module _ {A : Type 0} (view : List ℕ → A) where
    pub array-other : (e : Unexpected) → (byte_at b (index_of v) ≡ 91 → ⊥) → e ≡ unexpected_here (Kind kinds.Array) v
        → array_seen view v ≡ stopped e
    array-other e ne h =
        cond-false _ _ _ (sym (opens_array_byte b (index_of v)) ∙ ne_eqb (byte_at b (index_of v)) 91 ne) ∙ ap (λ x. stopped x) (sym h)

    pub array-inside : byte_at b (index_of v) ≡ 91 → array_seen view v ≡ elements_seen view b First (drop (v.at + 1) is)
    array-inside h = cond-true _ _ _ (sym (opens_array_byte b (index_of v)) ∙ ap (λ x. x == 91) h)

    pub array-unended : (e : Unexpected) → byte_at b (index_of v) ≡ 91 → length is ≤ v.at + 1
        → e ≡ unexpected b expected.Value (drop (v.at + 1) is) → array_seen view v ≡ stopped e
    array-unended e h l is-e = array-inside h ∙ ap (elements_seen view b First) (drop_all (v.at + 1) is l)
        ∙ elements-seen-stop b view First [] (unexpected b expected.Value []) refl
        ∙ ap (λ ks. stopped (unexpected b expected.Value ks)) (sym (drop_all (v.at + 1) is l)) ∙ ap (λ x. stopped x) (sym is-e)

    pub object-other : (e : Unexpected) → (byte_at b (index_of v) ≡ 123 → ⊥) → e ≡ unexpected_here (Kind kinds.Object) v
        → object_seen view v ≡ stopped e
    object-other e ne h =
        cond-false _ _ _ (sym (opens_object_byte b (index_of v)) ∙ ne_eqb (byte_at b (index_of v)) 123 ne) ∙ ap (λ x. stopped x) (sym h)

    pub object-inside : byte_at b (index_of v) ≡ 123 → object_seen view v ≡ members_seen view b First (drop (v.at + 1) is)
    object-inside h = cond-true _ _ _ (sym (opens_object_byte b (index_of v)) ∙ ap (λ x. x == 123) h)

    pub object-unended : (e : Unexpected) → byte_at b (index_of v) ≡ 123 → length is ≤ v.at + 1
        → e ≡ unexpected b expected.Key (drop (v.at + 1) is) → object_seen view v ≡ stopped e
    object-unended e h l is-e = object-inside h ∙ ap (members_seen view b First) (drop_all (v.at + 1) is l)
        ∙ members-seen-stop b view First [] (unexpected b expected.Key []) refl
        ∙ ap (λ ks. stopped (unexpected b expected.Key ks)) (sym (drop_all (v.at + 1) is l)) ∙ ap (λ x. stopped x) (sym is-e)

pub no-string-wanted : (b : List ℕ) (i : ℕ) → (byte_at b i ≡ 34 → ⊥) → string_wanted (form_at b i) ≡ Kind kinds.String
no-string-wanted b i ne = go (form_at b i) (forms.no_string b i ne)
  where
    go : (form : Form) → is_string form ≡ false → string_wanted form ≡ Kind kinds.String
    go (string_token read) h = cc
    go _ h = refl

-- ---- what is left of a whole walk

module _ {A B C : Type 0} (ahead : A → Walk C) (all : B → List C) where
  pub left-of-whole : (o : Option A) (p : Option B) → option_map ahead o ≡ option_map (λ x. whole (all x)) p
      → option_map (λ a. items (ahead a)) o ≡ option_map all p
  left-of-whole (Some a) (Some x) h = let same : ahead a ≡ whole (all x) = cc in ap (λ w. Some (items w)) same ∙ ap (λ xs. Some xs)
      (items-whole (all x))
  left-of-whole None None h = refl
  left-of-whole (Some a) None h = cc
  left-of-whole None (Some x) h = cc
