-- Values that prepared pointers name, found in one walk.
use Rattle.std.proofs.Common.{◌≡◌, refl, sym, ◌∙◌, ap, ℕ, suc, ◌+◌, ◌<◌, List, [], ◌∷◌, length, drop, map, get_or, Bool, true, false}
use Rattle.std.proofs.Common.{◌≢◌, ◌≤◌, subst, inl, inr, set, cond, ◌==◌, arith, Option, Some, None, Result, Ok, Err, MatchOption}
use Rattle.std.proofs.Common.{is_some, option_map, option_and_then}
use Rattle.std.specs.List.{slice_get, slice_range}
use Rattle.std.specs.Result.{result_ok}
use Rattle.std.proofs.lemmas.Bool.{cases_eq, false≢true}
use Rattle.std.proofs.lemmas.List.{get_or-drop, get_or-set_other, get_or-set_same, length-drop}
use Rattle.simd_json_parts.specs.Bytes.{byte_at, quote, slash}
use Rattle.simd_json_parts.specs.Document.{Document}
use Rattle.simd_json_parts.specs.Followed.{IsPlain, IsTokenAt, tokens_after}
use Rattle.simd_json_parts.specs.Pointed.{followed, go_on, named, pointed, pointed_from, stop, tokens}
use Rattle.simd_json_parts.specs.Tokens.{Form, begin_array}
use Rattle.simd_json_parts.specs.Views.{as_str}
use Rattle.simd_json_parts.specs.declared.pointer.PointerExpected.{PointerExpected}
use Rattle.simd_json_parts.specs.declared.pointer.PointerExpected.TheVariants as lacking
use Rattle.simd_json_parts.proofs.Pointers.Keys.{unescaped-plain}
use Rattle.simd_json_parts.proofs.Pointers.Pointed.{stuck-at-token}
use Rattle.simd_json_ondemand.specs.Docs.{doc, form, index_of, text}
use Rattle.simd_json_ondemand.specs.Keys.{is_key}
use Rattle.simd_json_ondemand.specs.WantedKey.{noted}
use Rattle.simd_json_ondemand.specs.Reached.{Reached, followed_at, key_reached, member_reached, named_at, pointed_at, reach_further}
use Rattle.simd_json_ondemand.specs.Reached.{walk_to}
use Rattle.simd_json_ondemand.specs.Sites.{Site, doc_at, object_sites, site}
use Rattle.simd_json_ondemand.specs.Standing.{opens_array, opens_object}
use Rattle.simd_json_ondemand.specs.Walks.{Walk, came, ended, found, stopped}
use Rattle.simd_json_ondemand.specs.declared.unexpected.Unexpected.{Unexpected}
use Rattle.simd_json_ondemand.specs.declared.value.Value.{Value}
use Rattle.simd_json_ondemand.proofs.Keys.{differs, from-quote, names-content}
use Rattle.simd_json_ondemand.proofs.Lookup.{string-is}
use Rattle.simd_json_ondemand.proofs.Quoted.{IsQuoted, quoted-value}
use Rattle.simd_json_ondemand.proofs.Pointers.{IsFollowed, IsFollowed-further, IsFollowed-none, led-nowhere}
use Rattle.simd_json_ondemand.proofs.Sites.{key-here, key-later, key-none, key-stop, named-found, object-named, on-behind, on-token}

-- ---- a search for a key, with others

-- the value of the first member with the key, or it is among those that are left as among all
abbrev pub IsSought : List ℕ → Walk (Site × Site) → Walk (Site × Site) → Option Value → Type 0
IsSought key all left o = MatchOption o (walk_to key all ≡ walk_to key left) (λ v. Ok (Some (site v)) ≡ key_reached key all)

module _ (key : List ℕ) (all left : Walk (Site × Site)) where
  pub sought-first : (o : Option Value) → o ≡ None → IsSought key all all o
  sought-first None is = refl
  sought-first (Some v) is = cc

  -- a member further
  pub sought-further : (m : Site × Site) (rest : Walk (Site × Site)) → left ≡ came m rest → (v : Value) → site v ≡ m.1
      → (o : Option Value) → IsSought key all left o → IsSought key all rest (noted (is_key key (option_and_then as_str (doc_at m.0))) v o)
  sought-further m rest step v is (Some w) sought = sought
  sought-further m rest step v is None sought = go (is_key key (option_and_then as_str (doc_at m.0))) refl
    where
      go : (b : Bool) → b ≡ is_key key (option_and_then as_str (doc_at m.0)) → IsSought key all rest (noted b v None)
      go true test = ap (λ s. Ok (Some s)) is ∙ key-here key all left sought m rest step true test refl
      go false test = key-later key all left sought m rest step false test refl

  pub sought-found : (o : Option Value) → IsSought key all left o → is_some o ≡ true → option_map site o ≡ found (key_reached key all)
  sought-found None sought some = absurd (false≢true some)
  sought-found (Some v) sought some = ap found sought

  pub sought-ended : (o : Option Value) → IsSought key all left o → left ≡ ended → option_map site o ≡ found (key_reached key all)
  sought-ended None sought over = ap found (key-none key all left sought over)
  sought-ended (Some v) sought over = ap found sought

  pub sought-stopped : (o : Option Value) → IsSought key all left o → (e : Unexpected) → left ≡ stopped e
      → option_map site o ≡ found (key_reached key all)
  sought-stopped None sought e over = ap found (key-stop key all left sought e over)
  sought-stopped (Some v) sought e over = ap found sought

-- the key that a plain token is, in an object
pub key-named : (v : Value) (t : List ℕ) → IsPlain t → opens_array (form v) ≡ false → opens_object (form v) ≡ true
    → named_at t (site v) ≡ key_reached t (object_sites v)
key-named v t plain g h = object-named t v g h ∙ ap (λ u. member_reached u (object_sites v)) (unescaped-plain t plain)

-- ---- the rest of a pointer

-- whether a pointer leads to a value does not depend on how its bytes are counted
followed-anyhow : (i j : ℕ) (ts : List (List ℕ)) (d : Document) → result_ok (followed i ts d) ≡ result_ok (followed j ts d)
followed-anyhow i j [] d = refl
followed-anyhow i j (t ∷ ts) d = go (followed-anyhow (i + 1 + length t) (j + 1 + length t) ts) (named t d)
  where
    go : ((e : Document) → result_ok (followed (i + 1 + length t) ts e) ≡ result_ok (followed (j + 1 + length t) ts e))
        → (r : Result Document PointerExpected)
        → result_ok (go_on i d (followed (i + 1 + length t) ts) r) ≡ result_ok (go_on j d (followed (j + 1 + length t) ts) r)
    go more (Ok e) = more e
    go more (Err lacks) = refl

pointed-anyhow : (i j : ℕ) (p : List ℕ) (d : Document) → result_ok (pointed_from i p d) ≡ result_ok (pointed_from j p d)
pointed-anyhow i j [] d = refl
pointed-anyhow i j (c ∷ p) d = go (c == slash)
  where
    go : (b : Bool) → result_ok (cond b (followed i (tokens p) d) (Err (stop i d lacking.Slash)))
        ≡ result_ok (cond b (followed j (tokens p) d) (Err (stop j d lacking.Slash)))
    go true = followed-anyhow i j (tokens p) d
    go false = refl

further-none : (r : Reached) (further : Site → Reached) → None ≡ found r → found (reach_further r further) ≡ None
further-none (Ok None) further h = refl
further-none (Ok (Some s)) further h = cc
further-none (Err e) further h = refl

further-some : (r : Reached) (further : Site → Reached) (s : Site) → Some s ≡ found r → reach_further r further ≡ further s
further-some (Ok None) further s h = cc
further-some (Ok (Some u)) further s h = let same : s ≡ u = cc in ap further (sym same)
further-some (Err e) further s h = cc

-- The first token ends at e, and leads to what was found first. From there the rest leads to what is found then.
module _ (p : List ℕ) (e : ℕ) (at : IsTokenAt p 0 e) (v : Value) (first r : Option Value)
    (named_first : option_map site first ≡ found (named_at (slice_range p 1 e) (site v))) where
  abbrev t : List ℕ
  t = slice_range p 1 e

  abbrev further : Site → Reached
  further = followed_at (tokens_after (drop e p))

  abbrev some_of : Option Document → Option (Option Document)
  some_of = option_map (λ x. Some x)

  -- what the token names, in a document
  names : (d : Document) → doc v ≡ Some d → option_map doc first ≡ some_of (result_ok (named t d))
  names d h = go first named_first ∙ named-found t v d h
    where
      go : (o : Option Value) → option_map site o ≡ found (named_at t (site v))
          → option_map doc o ≡ option_map doc_at (found (named_at t (site v)))
      go None is = ap (option_map doc_at) is
      go (Some w) is = ap (option_map doc_at) is

  pub nowhere-walk : first ≡ None → None ≡ found (pointed_at p (site v))
  nowhere-walk none =
      sym (ap found (on-token p 0 e at (site v)) ∙ further-none _ further (sym (ap (option_map site) none) ∙ named_first))

  pub nowhere-document : first ≡ None → (d : Document) → doc v ≡ Some d → None ≡ some_of (result_ok (pointed p d))
  nowhere-document none = led-nowhere p v v 0 (IsFollowed-none p v) at.begins.0
      (λ d h. stuck-at-token p 0 e d at (nothing (result_ok (named t d)) (sym (ap (option_map doc) none) ∙ names d h)))
    where
      nothing : (o : Option Document) → None ≡ some_of o → o ≡ None
      nothing None is = refl
      nothing (Some x) is = cc

  module _ (w : Value) (some : first ≡ Some w) where
    pub there-walk : option_map site r ≡ found (pointed_at (drop e p) (site w)) → option_map site r ≡ found (pointed_at p (site v))
    there-walk is = is ∙ ap found (sym (on-token p 0 e at (site v)
        ∙ further-some _ further (site w) (sym (ap (option_map site) some) ∙ named_first) ∙ on-behind p 0 e at (site w)))

    pub there-document : ((x : Document) → doc w ≡ Some x → option_map doc r ≡ some_of (result_ok (pointed (drop e p) x)))
        → (d : Document) → doc v ≡ Some d → option_map doc r ≡ some_of (result_ok (pointed p d))
    there-document is d h =
        let led : IsFollowed p v e w =
        IsFollowed-further p v v w 0 e (IsFollowed-none p v) at (λ d h. sym (ap (option_map doc) some) ∙ names d h) in
        let b = led d h in
        is b.0 b.1 ∙ ap some_of (pointed-anyhow 0 e (drop e p) b.0 ∙ sym (ap result_ok b.2))

  -- the pointer has no other token
  module _ (ends : drop e p ≡ []) where
    pub all-walk : option_map site first ≡ found (pointed_at p (site v))
    all-walk = go first refl
      where
        go : (o : Option Value) → first ≡ o → option_map site first ≡ found (pointed_at p (site v))
        go None is = ap (option_map site) is ∙ nowhere-walk is
        go (Some w) is =
            sym (ap found (on-token p 0 e at (site v)
            ∙ further-some _ further (site w) (sym (ap (option_map site) is) ∙ named_first) ∙ on-behind p 0 e at (site w)
            ∙ ap (λ q. pointed_at q (site w)) ends) ∙ sym (ap (option_map site) is))

    pub all-document : (d : Document) → doc v ≡ Some d → option_map doc first ≡ some_of (result_ok (pointed p d))
    all-document d h = go first refl
      where
        go : (o : Option Value) → first ≡ o → option_map doc first ≡ some_of (result_ok (pointed p d))
        go None is = ap (option_map doc) is ∙ nowhere-document is d h
        go (Some w) is =
            let led : IsFollowed p v e w =
            IsFollowed-further p v v w 0 e (IsFollowed-none p v) at (λ d h. sym (ap (option_map doc) is) ∙ names d h) in
            let b = led d h in
            ap (option_map doc) is ∙ ap (λ o. Some o) b.1
            ∙ ap some_of (sym (ap result_ok (b.2 ∙ ap (λ q. pointed_from e q b.0) ends)))

-- ---- each of a list

-- what holds of two lists at each index
pub maps-agree : {A B C : Type 0} (f : A → C) (g : B → C) (xs : List A) (ys : List B) (d : A) → length xs ≡ length ys
    → ((k : ℕ) (y : B) → slice_get ys k ≡ Some y → f (get_or xs k d) ≡ g y) → map f xs ≡ map g ys
maps-agree f g [] [] d l each = refl
maps-agree f g [] (y ∷ ys) d l each = absurd (omega (arith, l))
maps-agree f g (x ∷ xs) [] d l each = absurd (omega (arith, l))
maps-agree f g (x ∷ xs) (y ∷ ys) d l each =
    ap (λ c. c ∷ map f xs) (each 0 y refl)
    ∙ ap (λ cs. g y ∷ cs) (maps-agree f g xs ys d (omega (arith, l)) (λ k z is. each (suc k) z is))

-- The values after the first k of the pointers, of which some want a key, have seen a member: with `all`, each of those that want one has a
-- value.
pub record AreNoted {P : Type 0} (ps : List P) (Wants : P → Type 0) (is : P → Bool) (v : Value) (was now : List (Option Value)) (all : Bool)
    (k : ℕ) : Type 0 where
  pub done : (j : ℕ) (p : P) → slice_get ps j ≡ Some p → Wants p → j < k → get_or now j None ≡ noted (is p) v (get_or was j None)
  pub left : (j : ℕ) → k ≤ j → get_or now j None ≡ get_or was j None
  pub has_all : all ≡ true → (j : ℕ) (p : P) → slice_get ps j ≡ Some p → Wants p → j < k → is_some (get_or now j None) ≡ true

pub AreNoted-none : {P : Type 0} (ps : List P) (Wants : P → Type 0) (is : P → Bool) (v : Value) (was : List (Option Value)) (all : Bool)
    → AreNoted ps Wants is v was was all 0
AreNoted-none ps Wants is v was all = record {
  done = λ j p at w l. absurd (omega (arith, l));
  left = λ j l. refl;
  has_all = λ a j p at w l. absurd (omega (arith, l));
}

pub the-one : {P : Type 0} (ps : List P) (j k : ℕ) (p q : P) → slice_get ps k ≡ Some p → slice_get ps j ≡ Some q → j ≡ k → p ≡ q
the-one {P = P} ps j k p q here at e = let same : slice_get ps k ≡ Some q = subst (λ x. slice_get ps x ≡ Some q) e at in cc

-- one pointer further
pub AreNoted-further : {P : Type 0} (ps : List P) (Wants : P → Type 0) (is : P → Bool) (v : Value) (was now new : List (Option Value))
    (all every : Bool) (k : ℕ) → AreNoted ps Wants is v was now all k
    → ((j : ℕ) → j ≢ k → get_or new j None ≡ get_or now j None)
    → ((p : P) → slice_get ps k ≡ Some p → Wants p → get_or new k None ≡ noted (is p) v (get_or now k None)) → (every ≡ true → all ≡ true)
    → (every ≡ true → is_some (get_or new k None) ≡ true) → AreNoted ps Wants is v was new every (k + 1)
AreNoted-further ps Wants is v was now new all every k before others this more some = record {
  done = λ j q at w l. elim (cases_eq j k) [
    | inl e ↦
        subst (λ x. get_or new x None ≡ noted (is q) v (get_or was x None)) (sym e)
        (this q (subst (λ x. slice_get ps x ≡ Some q) e at) w ∙ ap (noted (is q) v) (before.left k (omega arith)))
    | inr e ↦ others j e ∙ before.done j q at w (omega (arith, l, e))
  ];
  left = λ j l. others j (λ e. omega (arith, l, e)) ∙ before.left j (omega (arith, l));
  has_all = λ a j q at w l. elim (cases_eq j k) [
    | inl e ↦ subst (λ x. is_some (get_or new x None) ≡ true) (sym e) (some a)
    | inr e ↦ ap is_some (others j e) ∙ before.has_all (more a) j q at w (omega (arith, l, e))
  ];
}

-- what holds of the first k of two lists, after a write
pub holds-further : {A P : Type 0} (Q : P → A → Type 0) (ps : List P) (xs : List A) (x d : A) (k : ℕ) (p : P) → slice_get ps k ≡ Some p
    → k < length xs → ((j : ℕ) (q : P) → slice_get ps j ≡ Some q → j < k → Q q (get_or xs j d)) → Q p x
    → (j : ℕ) (q : P) → slice_get ps j ≡ Some q → j < k + 1 → Q q (get_or (set xs k x) j d)
holds-further Q ps xs x d k p here fits before this j q at l = elim (cases_eq j k) [
  | inl e ↦
      subst (λ i. Q q (get_or (set xs k x) i d)) (sym e)
      (subst (Q q) (sym (get_or-set_same xs k x d fits)) (subst (λ y. Q y x) (the-one ps j k p q here at e) this))
  | inr e ↦ subst (Q q) (sym (get_or-set_other xs k j x d e)) (before j q at (omega (arith, l, e)))
]

pub not-array : (f : Form) → opens_object f ≡ true → opens_array f ≡ false
not-array begin_array h = absurd (false≢true h)
not-array _ h = refl

pub noted-none : (b t : Bool) (v : Value) (o : Option Value) → o ≡ None → b ≡ t → cond b (Some v) None ≡ noted t v o
noted-none b t v None none same = ap (λ x. cond x (Some v) None) same
noted-none b t v (Some w) none same = cc

pub noted-some : (t : Bool) (v : Value) (o : Option Value) → is_some o ≡ true → o ≡ noted t v o
noted-some t v None some = absurd (false≢true some)
noted-some t v (Some w) some = refl

pub none-of : (o : Option Value) → is_some o ≡ false → o ≡ None
none-of None none = refl
none-of (Some v) none = absurd (false≢true (sym none))

pub noted-other : (b : Bool) (v : Value) (o : Option Value) → b ≡ false → o ≡ noted b v o
noted-other b v None other = ap (λ x. cond x (Some v) None) (sym other)
noted-other b v (Some w) other = refl

-- ---- the byte after the opening quote

module _ (v : Value) (bs : List ℕ) (is : bs ≡ drop (index_of v) (text v.document))
    (opening : byte_at (text v.document) (index_of v) ≡ quote) where
  begun : IsQuoted bs
  begun = quoted-value v opening bs is

  pub some-byte : 1 < length bs
  some-byte = omega (arith, (from-quote bs [] begun.opening begun.closing).closed)

  -- it tells the key from another, but for a backslash
  pub other-key : (key : List ℕ) (c : ℕ) → c ≡ get_or bs 1 0 → c ≢ 92 → get_or key 0 34 ≢ c
      → is_key key (option_and_then as_str (doc v)) ≡ false
  other-key key c here plain other =
      let first : get_or (drop 1 bs) 0 0 ≡ c = get_or-drop 1 bs 0 0 ∙ sym here in
      ap (is_key key) (string-is v bs is opening) ∙ names-content bs key begun.opening
      ∙ differs 0 key (drop 1 bs) (λ j h. absurd (omega (arith, h))) (omega (arith, some-byte, length-drop 1 bs)) (omega arith)
      (λ j h. absurd (omega (arith, h))) (λ e. other (sym e ∙ first)) (λ e. plain (sym first ∙ e))

pub still-true : (bs : List Bool) (i j : ℕ) → i < length bs → get_or bs j false ≡ true → get_or (set bs i true) j false ≡ true
still-true bs i j fits is = elim (cases_eq j i) [
  | inl e ↦ ap (λ k. get_or (set bs i true) k false) e ∙ get_or-set_same bs i true false fits
  | inr e ↦ get_or-set_other bs i j true false e ∙ is
]

-- a value that stays as it is
pub holds-still : {A P : Type 0} (Q : P → A → Type 0) (ps : List P) (xs : List A) (d : A) (k : ℕ) (p : P) → slice_get ps k ≡ Some p
    → ((j : ℕ) (q : P) → slice_get ps j ≡ Some q → j < k → Q q (get_or xs j d)) → Q p (get_or xs k d)
    → (j : ℕ) (q : P) → slice_get ps j ≡ Some q → j < k + 1 → Q q (get_or xs j d)
holds-still Q ps xs d k p here before this j q at l = elim (cases_eq j k) [
  | inl e ↦ subst (λ i. Q q (get_or xs i d)) (sym e) (subst (λ y. Q y (get_or xs k d)) (the-one ps j k p q here at e) this)
  | inr e ↦ before j q at (omega (arith, l, e))
]
