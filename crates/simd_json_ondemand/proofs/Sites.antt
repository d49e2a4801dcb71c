-- Where a JSON Pointer leads, over any bytes and in a document.
use Rattle.std.proofs.Common.{◌≡◌, ◌≢◌, refl, sym, ◌∙◌, ap, ℕ, zero, suc, ◌+◌, ◌<◌, ◌≤◌, List, [], ◌∷◌, length, drop, get_or, Bool, true}
use Rattle.std.proofs.Common.{false, cond, arith, Option, Some, None, Result, Ok, Err, IfErr, is_some, option_map, option_and_then}
use Rattle.std.specs.List.{slice_range}
use Rattle.std.specs.Result.{result_ok}
use Rattle.std.proofs.lemmas.Bool.{cond-true, cond-false, ne_eqb}
use Rattle.std.proofs.lemmas.List.{drop_all, drop_more}
use Rattle.std.proofs.lemmas.Option.{slice_get-map}
use Rattle.simd_json_parts.specs.Document.{Document, elements, array, members, object}
use Rattle.simd_json_parts.specs.Followed.{IsTokenAt, fits_64, tokens_after}
use Rattle.simd_json_parts.specs.Pointed.{array_index, member_at, named, unescaped}
use Rattle.simd_json_parts.specs.Views as views
use Rattle.simd_json_parts.specs.Views.{as_str, is_array, is_object, ok_map}
use Rattle.simd_json_parts.specs.declared.pointer.PointerExpected.TheVariants as lacking
use Rattle.simd_json_parts.proofs.Pointers.Pointed.{at-slash, begins-at, ok-or}
use Rattle.simd_json_ondemand.specs.Docs.{text, places, index_of, form, doc}
use Rattle.simd_json_ondemand.specs.Iterated.{all_some}
use Rattle.simd_json_ondemand.specs.IteratedMembers.{all_members}
use Rattle.simd_json_ondemand.specs.Keys.{is_key}
use Rattle.simd_json_ondemand.specs.Reached.{Reached, walk_to, element_reached, key_reached, member_reached, named_at}
use Rattle.simd_json_ondemand.specs.Reached.{reach_further, followed_at, pointed_at}
use Rattle.simd_json_ondemand.specs.Sites.{Site, site, doc_at, element_site, pair_sites, array_sites, object_sites}
use Rattle.simd_json_ondemand.specs.Standing.{opens_array, opens_object}
use Rattle.simd_json_ondemand.specs.Stopped.{error_at, told}
use Rattle.simd_json_ondemand.specs.Unexpected.{unexpected}
use Rattle.simd_json_ondemand.specs.Walked.{array_walk, object_walk, unexpected_here, member_with}
use Rattle.simd_json_ondemand.specs.Walks.{Walk, stopped, ended, came, found, whole, first, walk_past, walk_from, walk_by}
use Rattle.simd_json_ondemand.specs.Walks.{elements_seen, members_seen}
use Rattle.simd_json_ondemand.specs.declared.array.Position.TheVariants.{First}
use Rattle.simd_json_ondemand.specs.declared.unexpected.Expected.TheVariants.{Container}
use Rattle.simd_json_ondemand.specs.declared.unexpected.Unexpected.{Unexpected}
use Rattle.simd_json_ondemand.specs.declared.value.Value.{Value}
use Rattle.simd_json_ondemand.specs.declared.walk.StoppedAt.{StoppedAt}
use Rattle.simd_json_ondemand.proofs.Keys.{some-of}
use Rattle.simd_json_ondemand.proofs.Pointers.{element-named, element-nowhere, malformed-named}
use Rattle.simd_json_ondemand.proofs.WalkViews.{opens-array, opens-object, array-whole, object-whole}
use Rattle.simd_json_ondemand.proofs.Walks.{past-whole, whole-with}

abbrev Sites : Type 0
Sites = Walk (Site × Site)

-- ---- the first member with a key

to-ended : (key : List ℕ) → walk_to key ended ≡ ended
unfolding walk_to
to-ended key = refl

to-stopped : (key : List ℕ) (e : Unexpected) → walk_to key (stopped e) ≡ stopped e
unfolding walk_to
to-stopped key e = refl

to-came : (key : List ℕ) (m : Site × Site) (w : Sites)
    → walk_to key (came m w) ≡ cond (is_key key (option_and_then as_str (doc_at m.0))) (came m w) (walk_to key w)
unfolding walk_to
to-came key m w = refl

-- among the members that are left it is the first with the key as among all
module _ (key : List ℕ) (all left : Sites) (before : walk_to key all ≡ walk_to key left) where
  led : (w : Sites) → walk_to key left ≡ w → ok_map (option_map (λ m. m.1)) (first w) ≡ key_reached key all
  led w is = sym (ap (λ u. ok_map (option_map (λ m. m.1)) (first u)) (before ∙ is))

  pub key-none : left ≡ ended → Ok None ≡ key_reached key all
  key-none h = led ended (ap (walk_to key) h ∙ to-ended key)

  pub key-stop : (e : Unexpected) → left ≡ stopped e → Err e ≡ key_reached key all
  key-stop e h = led (stopped e) (ap (walk_to key) h ∙ to-stopped key e)

  module _ (m : Site × Site) (rest : Sites) (step : left ≡ came m rest) (b : Bool)
      (test : b ≡ is_key key (option_and_then as_str (doc_at m.0))) where
    pub key-here : b ≡ true → Ok (Some m.1) ≡ key_reached key all
    key-here holds = led (came m rest) (ap (walk_to key) step ∙ to-came key m rest ∙ cond-true _ _ _ (sym test ∙ holds))

    pub key-later : b ≡ false → walk_to key all ≡ walk_to key rest
    key-later other = before ∙ ap (walk_to key) step ∙ to-came key m rest ∙ cond-false _ _ _ (sym test ∙ other)

-- and so with the key that a token is
abbrev pub IsAhead : List ℕ → Sites → Sites → Type 0
IsAhead t all left = (key : List ℕ) → unescaped t ≡ Some key → walk_to key all ≡ walk_to key left

module _ (t : List ℕ) (all left : Sites) (before : IsAhead t all left) where
  with-key : is_some (unescaped t) ≡ true → (r : Reached) → ((key : List ℕ) → unescaped t ≡ Some key → r ≡ key_reached key all)
      → r ≡ member_reached (unescaped t) all
  with-key formed r is = let k = some-of (unescaped t) formed in is k.0 k.1 ∙ ap (λ u. member_reached u all) (sym k.1)

  pub to-none : is_some (unescaped t) ≡ true → left ≡ ended → Ok None ≡ member_reached (unescaped t) all
  to-none formed h = with-key formed (Ok None) (λ key n. key-none key all left (before key n) h)

  pub to-stop : is_some (unescaped t) ≡ true → (e : Unexpected) → left ≡ stopped e → Err e ≡ member_reached (unescaped t) all
  to-stop formed e h = with-key formed (Err e) (λ key n. key-stop key all left (before key n) e h)

  module _ (m : Site × Site) (rest : Sites) (step : left ≡ came m rest) (b : Bool)
      (test : (key : List ℕ) → unescaped t ≡ Some key → b ≡ is_key key (option_and_then as_str (doc_at m.0))) where
    pub to-here : is_some (unescaped t) ≡ true → b ≡ true → Ok (Some m.1) ≡ member_reached (unescaped t) all
    to-here formed holds =
        with-key formed (Ok (Some m.1)) (λ key n. key-here key all left (before key n) m rest step b (test key n) holds)

    pub to-later : b ≡ false → IsAhead t all rest
    to-later other key n = key-later key all left (before key n) m rest step b (test key n) other

pub no-member : (u : Option (List ℕ)) (w : Sites) → is_some u ≡ false → Ok None ≡ member_reached u w
no-member None w malformed = refl
no-member (Some key) w malformed = cc

-- ---- a token from a value

module _ (t : List ℕ) (v : Value) where
  abbrev b : List ℕ
  b = text v.document

  abbrev rest : List ℕ
  rest = drop (v.at + 1) (places v.document)

  first-place : drop v.at (places v.document) ≡ index_of v ∷ rest
  first-place = drop_more (places v.document) v.at 0 v.inside

  abbrev in-array : Reached
  in-array = element_reached (option_and_then fits_64 (array_index t)) (elements_seen (element_site b) b First rest)

  abbrev in-object : Reached
  in-object = member_reached (unescaped t) (members_seen (pair_sites b) b First rest)

  from-first : named_at t (site v)
      ≡ cond (opens_array (form v)) in-array (cond (opens_object (form v)) in-object (Err (unexpected b Container (index_of v ∷ rest))))
  from-first = ap (λ js. named_at t (b, js)) first-place

  pub array-named : opens_array (form v) ≡ true
      → named_at t (site v) ≡ element_reached (option_and_then fits_64 (array_index t)) (array_sites v)
  array-named h =
      from-first ∙ cond-true _ _ _ h ∙ ap (element_reached (option_and_then fits_64 (array_index t))) (sym (cond-true _ _ _ h))

  pub object-named : opens_array (form v) ≡ false → opens_object (form v) ≡ true
      → named_at t (site v) ≡ member_reached (unescaped t) (object_sites v)
  object-named g h =
      from-first ∙ cond-false _ _ _ g ∙ cond-true _ _ _ h ∙ ap (member_reached (unescaped t)) (sym (cond-true _ _ _ h))

  pub other-named : opens_array (form v) ≡ false → opens_object (form v) ≡ false → named_at t (site v) ≡ Err (unexpected_here Container v)
  other-named g h =
      from-first ∙ cond-false _ _ _ g ∙ cond-false _ _ _ h ∙ ap (λ js. Err (unexpected b Container js)) (sym first-place)

-- ---- what is seen of an item, by where it is

unfoldable walk_map : {A B : Type 0} → (A → B) → Walk A → Walk B
walk_map f (stopped e) = stopped e
walk_map f ended = ended
walk_map f (came x w) = came (f x) (walk_map f w)

map-by : {A B : Type 0} (f : A → B) (view : List ℕ → A) (next : List ℕ → Result (Option (List ℕ)) Unexpected) (n : ℕ)
    (r : Result (Option (List ℕ)) Unexpected) → walk_by (λ is. f (view is)) next n r ≡ walk_map f (walk_by view next n r)
unfolding walk_by walk_map
map-by f view next n (Err e) = refl
map-by f view next n (Ok None) = refl
map-by f view next zero (Ok (Some is)) = refl
map-by f view next (suc n) (Ok (Some is)) = ap (came (f (view is))) (map-by f view next n (next is))

map-past : {A B : Type 0} (f : A → B) (i : ℕ) (w : Walk A)
    → ok_map (option_map f) (first (walk_past i w)) ≡ first (walk_past i (walk_map f w))
unfolding walk_past walk_map
map-past f zero (stopped e) = refl
map-past f zero ended = refl
map-past f zero (came x w) = refl
map-past f (suc i) (stopped e) = refl
map-past f (suc i) ended = refl
map-past f (suc i) (came x w) = map-past f i w

abbrev pair_doc_at : Site × Site → Option Document × Option Document
pair_doc_at m = (doc_at m.0, doc_at m.1)

map-to : (key : List ℕ) (w : Sites)
    → ok_map (option_map doc_at) (ok_map (option_map (λ m. m.1)) (first (walk_to key w))) ≡ member_with key (walk_map pair_doc_at w)
unfolding walk_to walk_from walk_map
map-to key (stopped e) = refl
map-to key ended = refl
map-to key (came m w) = go (is_key key (option_and_then as_str (doc_at m.0))) (map-to key w)
  where
    go : (t : Bool)
        → ok_map (option_map doc_at) (ok_map (option_map (λ m. m.1)) (first (walk_to key w))) ≡ member_with key (walk_map pair_doc_at w)
        → ok_map (option_map doc_at) (ok_map (option_map (λ m. m.1)) (first (cond t (came m w) (walk_to key w))))
        ≡ ok_map (option_map (λ m. m.1))
        (first (cond t (came (pair_doc_at m) (walk_map pair_doc_at w)) (walk_from key (walk_map pair_doc_at w))))
    go true more = refl
    go false more = more

-- ---- a token from a document

module _ (t : List ℕ) (v : Value) (d : Document) (h : doc v ≡ Some d) where
  abbrev some_of : Option Document → Option (Option Document)
  some_of = option_map (λ e. Some e)

  in-elements : is_array d ≡ true → ok_map (option_map doc_at) (named_at t (site v)) ≡ Ok (some_of (result_ok (named t d)))
  in-elements is =
      let opens : opens_array (form v) ≡ true = opens-array v d h ∙ is in
      ap (ok_map (option_map doc_at)) (array-named t v opens) ∙ go d refl is (option_and_then fits_64 (array_index t)) refl
    where
      go : (e : Document) → d ≡ e → is_array e ≡ true → (o : Option ℕ) → option_and_then fits_64 (array_index t) ≡ o
          → ok_map (option_map doc_at) (element_reached o (array_sites v)) ≡ Ok (some_of (result_ok (named t d)))
      go (array ds) same _ None none = ap (λ x. Ok (some_of x)) (sym (element-nowhere v d h t is none))
      go (array ds) same _ (Some i) fits =
          let opens : opens_array (form v) ≡ true = opens-array v d h ∙ is in
          let along : array_walk v ≡ walk_map doc_at (array_sites v) =
          cond-true _ _ _ opens ∙ map-by doc_at (element_site (text v.document)) _ _ _
          ∙ ap (walk_map doc_at) (sym (cond-true _ _ _ opens)) in
          let all : array_walk v ≡ whole (all_some (elements ds)) = (let e = array-whole v d h is in cc) in
          map-past doc_at i (array_sites v) ∙ ap (λ w. first (walk_past i w)) (sym along ∙ all)
          ∙ past-whole (all_some (elements ds)) i ∙ ap (λ o. Ok o) (slice_get-map (λ e. Some e) (elements ds) i)
          ∙ ap (λ e. Ok (some_of (views.get_idx i e))) (sym same) ∙ ap (λ x. Ok (some_of x)) (element-named t d i is fits)
      go _ same is o fits = cc

  in-members : is_object d ≡ true → ok_map (option_map doc_at) (named_at t (site v)) ≡ Ok (some_of (result_ok (named t d)))
  in-members is = ap (ok_map (option_map doc_at)) (object-named t v (opens-array v d h ∙ other d is) (opens-object v d h ∙ is))
      ∙ go d refl is (unescaped t) refl
    where
      other : (e : Document) → is_object e ≡ true → is_array e ≡ false
      other (array ds) is = cc
      other _ is = refl

      go : (e : Document) → d ≡ e → is_object e ≡ true → (o : Option (List ℕ)) → unescaped t ≡ o
          → ok_map (option_map doc_at) (member_reached o (object_sites v)) ≡ Ok (some_of (result_ok (named t d)))
      go (object ms) same _ None none = ap (λ x. Ok (some_of x)) (sym (malformed-named t d (other d is) (ap is_some none)))
      go (object ms) same _ (Some key) names =
          let opens : opens_object (form v) ≡ true = opens-object v d h ∙ is in
          let along : object_walk v ≡ walk_map pair_doc_at (object_sites v) =
          cond-true _ _ _ opens ∙ map-by pair_doc_at (pair_sites (text v.document)) _ _ _
          ∙ ap (walk_map pair_doc_at) (sym (cond-true _ _ _ opens)) in
          let all : object_walk v ≡ whole (all_members (members ms)) = (let e = object-whole v d h is in cc) in
          map-to key (object_sites v) ∙ ap (member_with key) (sym along ∙ all) ∙ whole-with key ms
          ∙ ap (λ x. Ok (some_of x)) (sym (ap (λ e. result_ok (named t e)) same ∙ ap (λ u. result_ok (member_at ms u)) names
          ∙ ok-or (views.first_with key ms) lacking.Key))
      go _ same is o names = cc

  found-in : (r : Reached) (x : Option (Option Document)) → ok_map (option_map doc_at) r ≡ Ok x → option_map doc_at (found r) ≡ x
  found-in (Ok o) x is = cc
  found-in (Err e) x is = cc

  -- what is found there is what the token names
  pub named-found : option_map doc_at (found (named_at t (site v))) ≡ some_of (result_ok (named t d))
  named-found = go d refl
    where
      other : is_array d ≡ false → is_object d ≡ false → result_ok (named t d) ≡ None
          → option_map doc_at (found (named_at t (site v))) ≡ some_of (result_ok (named t d))
      other g o none =
          ap (λ r. option_map doc_at (found r)) (other-named t v (opens-array v d h ∙ g) (opens-object v d h ∙ o))
          ∙ ap some_of (sym none)

      go : (e : Document) → d ≡ e → option_map doc_at (found (named_at t (site v))) ≡ some_of (result_ok (named t d))
      go (array ds) same = found-in _ _ (in-elements (ap is_array same))
      go (object ms) same = found-in _ _ (in-members (ap is_object same))
      go _ same = other (ap is_array same) (ap is_object same) (ap (λ e. result_ok (named t e)) same)

  -- what a step finds is what the token names, and where it names nothing in a container no walk stopped
  pub record IsStep (r : Result (Option Value) StoppedAt) : Type 0 where
    pub finds : option_map doc (found r) ≡ some_of (result_ok (named t d))
    pub container : IfErr r (λ s. s.expected ≡ Container)

  of-ok : (r : Result (Option Value) StoppedAt)
      → ok_map (option_map doc_at) (told (option_map site) r) ≡ Ok (some_of (result_ok (named t d))) → IsStep r
  of-ok (Ok None) is = record { finds = (let e : None ≡ some_of (result_ok (named t d)) = cc in e); container = tt }
  of-ok (Ok (Some w)) is = record { finds = (let e : Some (doc w) ≡ some_of (result_ok (named t d)) = cc in e); container = tt }
  of-ok (Err e) is = cc

  of-err : (r : Result (Option Value) StoppedAt) → told (option_map site) r ≡ Err (unexpected_here Container v)
      → result_ok (named t d) ≡ None → IsStep r
  of-err (Ok o) is none = cc
  of-err (Err e) is none =
      let same : error_at e ≡ unexpected_here Container v = cc in
      record { finds = ap some_of (sym none); container = ap (λ x. x.expected) same }

  pub is-step : (r : Result (Option Value) StoppedAt) → told (option_map site) r ≡ named_at t (site v) → IsStep r
  is-step r is = go d refl
    where
      other : is_array d ≡ false → is_object d ≡ false → result_ok (named t d) ≡ None → IsStep r
      other g o none = of-err r (is ∙ other-named t v (opens-array v d h ∙ g) (opens-object v d h ∙ o)) none

      go : (e : Document) → d ≡ e → IsStep r
      go (array ds) same = of-ok r (ap (ok_map (option_map doc_at)) is ∙ in-elements (ap is_array same))
      go (object ms) same = of-ok r (ap (ok_map (option_map doc_at)) is ∙ in-members (ap is_object same))
      go _ same = other (ap is_array same) (ap is_object same) (ap (λ e. result_ok (named t e)) same)

-- ---- a token further

-- where a token leads nowhere, so does the pointer
pub leads-nowhere : (r : Result (Option Value) StoppedAt) (further : Site → Reached) → None ≡ found r
    → found (reach_further (told (option_map site) r) further) ≡ None
leads-nowhere (Ok (Some w)) further h = cc
leads-nowhere (Ok None) further h = refl
leads-nowhere (Err s) further h = refl

followed-by : (q : List ℕ) (s : Site) → (0 < length q → get_or q 0 0 ≡ 47) → followed_at (tokens_after q) s ≡ pointed_at q s
followed-by [] s begins = refl
followed-by (c ∷ q) s begins = let is : c ≡ 47 = begins (omega arith) in rw is refl

module _ (p : List ℕ) (i e : ℕ) (at : IsTokenAt p i e) (s : Site) where
  pub on-token : pointed_at (drop i p) s ≡ reach_further (named_at (slice_range p (i + 1) e) s) (followed_at (tokens_after (drop e p)))
  on-token =
      ap (λ q. pointed_at q s) (at-slash p i e at)
      ∙ ap (λ ts. followed_at ts s) (sym (ap tokens_after (at-slash p i e at)) ∙ at.split)

  pub on-behind : followed_at (tokens_after (drop e p)) s ≡ pointed_at (drop e p) s
  on-behind = followed-by (drop e p) s (begins-at p e at.goes_on)

pub on-all : (p : List ℕ) (i : ℕ) (s : Site) → length p ≤ i → pointed_at (drop i p) s ≡ Ok (Some s)
on-all p i s past = ap (λ q. pointed_at q s) (drop_all i p past)

pub on-nothing : (p : List ℕ) (i : ℕ) (s : Site) → i < length p → get_or p i 0 ≢ 47 → pointed_at (drop i p) s ≡ Ok None
on-nothing p i s less other = ap (λ q. pointed_at q s) (drop_more p i 0 less) ∙ cond-false _ _ _ (ne_eqb (get_or p i 0) 47 other)
