-- The turns of a walk: each takes tokens, so the bound on them is never met.
use Rattle.std.proofs.Common.{◌≡◌, refl, sym, ◌∙◌, ap, subst, ℕ, zero, suc, ◌+◌, ◌-◌, ◌<◌, ◌≤◌, Bool, true, false, cond, ◌==◌, List, []}
use Rattle.std.proofs.Common.{◌∷◌, length, drop, arith, Option, Some, None, Result, Ok, Err, MatchOption, length-drop, drop-drop}
use Rattle.simd_json_parts.specs.Bytes.{quote, comma, colon, right_bracket, right_brace, byte_at}
use Rattle.simd_json_ondemand.specs.Closing.{span}
use Rattle.simd_json_ondemand.specs.Docs.{text, places}
use Rattle.simd_json_ondemand.specs.Viewed.{read_along}
use Rattle.simd_json_ondemand.specs.Walks.{Walk, stopped, ended, came, and_ok, and_some, may_begin_value, value_here, behind_token}
use Rattle.simd_json_parts.specs.Views.{ok_map}
use Rattle.simd_json_ondemand.specs.Walks.{behind_item, first_item, item_ahead, element_ahead, member_here, member_ahead, walk_by}
use Rattle.simd_json_ondemand.specs.Walks.{elements_seen, members_seen, elements_walk, members_walk, pair_along}
use Rattle.simd_json_ondemand.specs.Within.{after_last}
use Rattle.simd_json_ondemand.specs.declared.array.Position.{Position}
use Rattle.simd_json_ondemand.specs.declared.array.Position.TheVariants.{First, AtValue, AfterValue}
use Rattle.simd_json_ondemand.specs.declared.unexpected.Expected.{Expected}
use Rattle.simd_json_ondemand.specs.declared.unexpected.Expected.TheVariants as expected
use Rattle.simd_json_ondemand.specs.declared.unexpected.Unexpected.{Unexpected}
use Rattle.simd_json_ondemand.specs.declared.value.Document.{Document}

-- the tokens from an item on, where one comes
abbrev pub Ahead : Type 0
Ahead = Result (Option (List ℕ)) Unexpected

-- an item has some tokens, and no more than so many
abbrev pub IsLeft : ℕ → Ahead → Type 0
IsLeft n r = (js : List ℕ) → r ≡ Ok (Some js) → (0 < length js) × (length js ≤ n)

module _ {A : Type 0} (view : List ℕ → A) (next : List ℕ → Ahead)
    (fewer : (is js : List ℕ) → next is ≡ Ok (Some js) → (0 < length js) × (length js < length is)) where
  enough : (m n : ℕ) (r : Ahead) → IsLeft m r → IsLeft n r → walk_by view next m r ≡ walk_by view next n r
  unfolding walk_by
  enough m n (Err e) l k = refl
  enough m n (Ok None) l k = refl
  enough zero n (Ok (Some is)) l k = absurd (let h = l is refl in omega arith)
  enough (suc m) zero (Ok (Some is)) l k = absurd (let h = k is refl in omega arith)
  enough (suc m) (suc n) (Ok (Some is)) l k =
      let h = l is refl in
      let g = k is refl in
      ap (came (view is)) (enough m n (next is) (λ js e. let f = fewer is js e in (f.0, omega arith))
      (λ js e. let f = fewer is js e in (f.0, omega arith)))

  pub turn : (m n : ℕ) (r : Ahead) (is : List ℕ) → r ≡ Ok (Some is) → IsLeft m r → IsLeft n (next is)
      → walk_by view next m r ≡ came (view is) (walk_by view next n (next is))
  unfolding walk_by
  turn zero n r is e l k = absurd (let h = l is e in omega arith)
  turn (suc m) n r is e l k =
      let h = l is e in
      ap (walk_by view next (suc m)) e
      ∙ ap (came (view is)) (enough m n (next is) (λ js g. let f = fewer is js g in (f.0, omega arith)) k)

  pub stop : (m : ℕ) (r : Ahead) (e : Unexpected) → r ≡ Err e → walk_by view next m r ≡ stopped e
  unfolding walk_by
  stop m r e h = ap (walk_by view next m) h

  pub end : (m : ℕ) (r : Ahead) → r ≡ Ok None → walk_by view next m r ≡ ended
  unfolding walk_by
  end m r h = ap (walk_by view next m) h

-- ---- what steps take

-- an `Ok` of a choice
chosen : (t : Bool) {E : Type 0} (x y : List ℕ) (e : E) → cond t (Ok x) (Err e) ≡ Ok y → (t ≡ true) × (x ≡ y)
chosen true x y e h = (refl, cc)
chosen false x y e h = cc

module _ (b : List ℕ) where
  value-is : (is js : List ℕ) → value_here b is ≡ Ok js → (is ≡ js) × (0 < length js)
  value-is [] js h = cc
  value-is (i ∷ is) js h =
      let c = chosen (may_begin_value (byte_at b i)) (i ∷ is) js _ h in
      (c.1, subst (λ ks. 0 < length ks) c.1 (omega arith))

  token-is : (c : ℕ) (wanted : Expected) (is js : List ℕ) → behind_token b c wanted is ≡ Ok js → length is ≡ suc (length js)
  token-is c wanted [] js h = cc
  token-is c wanted (i ∷ is) js h = ap (λ ks. suc (length ks)) (chosen (byte_at b i == c) is js _ h).1

  behind-is : (close : ℕ) (wanted : Expected) (is js : List ℕ) → behind_item b close wanted is ≡ Ok (Some js) → length js < length is
  behind-is close wanted [] js h = cc
  behind-is close wanted (i ∷ is) js h = go (byte_at b i == close) h
    where
      comma-is : (r : Result (List ℕ) Unexpected) → behind_token b comma wanted (i ∷ is) ≡ r → ok_map (λ ks. Some ks) r ≡ Ok (Some js)
          → length js < length (i ∷ is)
      comma-is (Ok ks) e g = let l = token-is comma wanted (i ∷ is) ks e in let same : ks ≡ js = cc in
          subst (λ us. length us < length (i ∷ is)) same (omega arith)
      comma-is (Err f) e g = cc

      go : (t : Bool) → ◌≡◌ {A = Ahead} (cond t (Ok None) (ok_map (λ ks. Some ks) (behind_token b comma wanted (i ∷ is)))) (Ok (Some js))
          → length js < length (i ∷ is)
      go true h = cc
      go false h = comma-is (behind_token b comma wanted (i ∷ is)) refl h

  first-is : (close : ℕ) (is js : List ℕ) → first_item b close is ≡ Ok (Some js) → length js ≤ length is
  first-is close [] js h = let same : [] ≡ js = cc in subst (λ us. length us ≤ 0) same (omega arith)
  first-is close (i ∷ is) js h = go (byte_at b i == close) h
    where
      go : (t : Bool) → ◌≡◌ {A = Ahead} (cond t (Ok None) (Ok (Some (i ∷ is)))) (Ok (Some js)) → length js ≤ length (i ∷ is)
      go true h = cc
      go false h = let same : (i ∷ is) ≡ js = cc in subst (λ us. length us ≤ length (i ∷ is)) same (omega arith)

  past-is : (close : ℕ) (wanted : Expected) (is js : List ℕ) → item_ahead b close wanted AtValue is ≡ Ok (Some js) → length js < length is
  past-is close wanted is js h =
      let l = behind-is close wanted (drop (span b is) is) js h in
      let short : length (drop (span b is) is) ≡ length is - span b is = length-drop (span b is) is in
      omega arith

  item-is : (close : ℕ) (wanted : Expected) (position : Position) (is js : List ℕ)
      → item_ahead b close wanted position is ≡ Ok (Some js) → length js ≤ length is
  item-is close wanted First is js h = first-is close is js h
  item-is close wanted AtValue is js h = omega (arith, past-is close wanted is js h)
  item-is close wanted AfterValue is js h = omega (arith, behind-is close wanted is js h)

  -- what is at an item
  then-is : (r : Ahead) (f : List ℕ → Result (List ℕ) Unexpected) (js : List ℕ) → and_some r f ≡ Ok (Some js)
      → (ks : List ℕ) × (r ≡ Ok (Some ks)) × (f ks ≡ Ok js)
  then-is (Ok (Some ks)) f js h = (ks, refl, go (f ks) h)
    where
      go : (r : Result (List ℕ) Unexpected) → ok_map (λ us. Some us) r ≡ Ok (Some js) → r ≡ Ok js
      go (Ok us) h = cc
      go (Err e) h = cc
  then-is (Ok None) f js h = cc
  then-is (Err e) f js h = cc

  member-is : (is js : List ℕ) → member_here b is ≡ Ok js → (is ≡ js) × (2 < length js)
  member-is is js h = go (behind_token b quote expected.Key is) refl h
    where
      value : (cs vs : List ℕ) → length is ≡ suc (length cs) → length cs ≡ suc (length vs) → (r : Result (List ℕ) Unexpected)
          → value_here b vs ≡ r → ok_map (λ _. is) r ≡ Ok js → (is ≡ js) × (2 < length js)
      value cs vs l k (Ok us) e g = let v = value-is vs us e in let same : is ≡ js = cc in
          let some : 0 < length vs = subst (λ xs. 0 < length xs) (sym v.0) v.1 in
          (same, subst (λ xs. 2 < length xs) same (omega arith))
      value cs vs l k (Err f) e g = cc

      after : (cs : List ℕ) → length is ≡ suc (length cs) → (r : Result (List ℕ) Unexpected) → behind_token b colon expected.Colon cs ≡ r
          → ok_map (λ _. is) (and_ok r (value_here b)) ≡ Ok js → (is ≡ js) × (2 < length js)
      after cs l (Ok vs) e g = value cs vs l (token-is colon expected.Colon cs vs e) (value_here b vs) refl g
      after cs l (Err f) e g = cc

      go : (r : Result (List ℕ) Unexpected) → behind_token b quote expected.Key is ≡ r
          → ok_map (λ _. is) (and_ok (and_ok r (behind_token b colon expected.Colon)) (value_here b)) ≡ Ok js
          → (is ≡ js) × (2 < length js)
      go (Ok cs) e g = after cs (token-is quote expected.Key is cs e) (behind_token b colon expected.Colon cs) refl g
      go (Err f) e g = cc

  -- ---- the turns of the walks

  element-left : (position : Position) (is : List ℕ) → IsLeft (length is) (element_ahead b position is)
  element-left position is js h =
      let t = then-is (item_ahead b right_bracket expected.CommaOrBracket position is) (value_here b) js h in
      let v = value-is t.0 js t.2 in
      let l = item-is right_bracket expected.CommaOrBracket position is t.0 t.1 in
      (v.1, subst (λ us. length us ≤ length is) v.0 l)

  element-fewer : (is js : List ℕ) → element_ahead b AtValue is ≡ Ok (Some js) → (0 < length js) × (length js < length is)
  element-fewer is js h =
      let t = then-is (item_ahead b right_bracket expected.CommaOrBracket AtValue is) (value_here b) js h in
      let v = value-is t.0 js t.2 in
      let l = past-is right_bracket expected.CommaOrBracket is t.0 t.1 in
      (v.1, subst (λ us. length us < length is) v.0 l)

  module _ {A : Type 0} (view : List ℕ → A) (position : Position) (is : List ℕ) where
    pub element-seen : (js : List ℕ) → element_ahead b position is ≡ Ok (Some js)
        → elements_seen view b position is ≡ came (view js) (elements_seen view b AtValue js)
    element-seen js h = turn view (element_ahead b AtValue) element-fewer (length is) (length js) (element_ahead b position is) js h
        (element-left position is) (element-left AtValue js)

    pub elements-seen-end : element_ahead b position is ≡ Ok None → elements_seen view b position is ≡ ended
    elements-seen-end h = end view (element_ahead b AtValue) element-fewer (length is) (element_ahead b position is) h

    pub elements-seen-stop : (e : Unexpected) → element_ahead b position is ≡ Err e → elements_seen view b position is ≡ stopped e
    elements-seen-stop e h = stop view (element_ahead b AtValue) element-fewer (length is) (element_ahead b position is) e h

  pub element-comes : (position : Position) (is js : List ℕ) → element_ahead b position is ≡ Ok (Some js)
      → elements_walk b position is ≡ came (read_along b js) (elements_walk b AtValue js)
  element-comes = element-seen (read_along b)

  pub elements-end : (position : Position) (is : List ℕ) → element_ahead b position is ≡ Ok None → elements_walk b position is ≡ ended
  elements-end = elements-seen-end (read_along b)

  pub elements-stop : (position : Position) (is : List ℕ) (e : Unexpected) → element_ahead b position is ≡ Err e
      → elements_walk b position is ≡ stopped e
  elements-stop = elements-seen-stop (read_along b)

  -- after a value it is the same as from the token behind it on
  pub elements-behind : (is : List ℕ) → elements_walk b AfterValue (drop (span b is) is) ≡ elements_walk b AtValue is
  elements-behind is = go (element_ahead b AtValue is) refl
    where
      go : (r : Result (Option (List ℕ)) Unexpected) → element_ahead b AtValue is ≡ r
          → elements_walk b AfterValue (drop (span b is) is) ≡ elements_walk b AtValue is
      go (Ok (Some js)) h = element-comes AfterValue (drop (span b is) is) js h ∙ sym (element-comes AtValue is js h)
      go (Ok None) h = elements-end AfterValue (drop (span b is) is) h ∙ sym (elements-end AtValue is h)
      go (Err e) h = elements-stop AfterValue (drop (span b is) is) e h ∙ sym (elements-stop AtValue is e h)

  member-left : (position : Position) (is : List ℕ) → IsLeft (length is) (member_ahead b position is)
  member-left position is js h =
      let t = then-is (item_ahead b right_brace expected.CommaOrBrace position is) (member_here b) js h in
      let v = member-is t.0 js t.2 in
      let l = item-is right_brace expected.CommaOrBrace position is t.0 t.1 in
      (omega (arith, v.1), subst (λ us. length us ≤ length is) v.0 l)

  member-fewer : (is js : List ℕ) → member_ahead b AtValue (drop 2 is) ≡ Ok (Some js) → (0 < length js) × (length js < length is)
  member-fewer is js h =
      let t = then-is (item_ahead b right_brace expected.CommaOrBrace AtValue (drop 2 is)) (member_here b) js h in
      let v = member-is t.0 js t.2 in
      let l = past-is right_brace expected.CommaOrBrace (drop 2 is) t.0 t.1 in
      let short : length (drop 2 is) ≡ length is - 2 = length-drop 2 is in
      (omega (arith, v.1), subst (λ us. length us < length is) v.0 (omega arith))

  module _ {A : Type 0} (view : List ℕ → A) (position : Position) (is : List ℕ) where
    abbrev next : List ℕ → Ahead
    next ks = member_ahead b AtValue (drop 2 ks)

    pub member-seen : (js : List ℕ) → member_ahead b position is ≡ Ok (Some js)
        → members_seen view b position is ≡ came (view js) (members_seen view b AtValue (drop 2 js))
    member-seen js h = turn view next member-fewer (length is) (length (drop 2 js)) (member_ahead b position is) js h
        (member-left position is) (member-left AtValue (drop 2 js))

    pub members-seen-end : member_ahead b position is ≡ Ok None → members_seen view b position is ≡ ended
    members-seen-end h = end view next member-fewer (length is) (member_ahead b position is) h

    pub members-seen-stop : (e : Unexpected) → member_ahead b position is ≡ Err e → members_seen view b position is ≡ stopped e
    members-seen-stop e h = stop view next member-fewer (length is) (member_ahead b position is) e h

  pub member-comes : (position : Position) (is js : List ℕ) → member_ahead b position is ≡ Ok (Some js)
      → members_walk b position is ≡ came (pair_along b js) (members_walk b AtValue (drop 2 js))
  member-comes = member-seen (pair_along b)

  pub members-end : (position : Position) (is : List ℕ) → member_ahead b position is ≡ Ok None → members_walk b position is ≡ ended
  members-end = members-seen-end (pair_along b)

  pub members-stop : (position : Position) (is : List ℕ) (e : Unexpected) → member_ahead b position is ≡ Err e
      → members_walk b position is ≡ stopped e
  members-stop = members-seen-stop (pair_along b)

  -- after a value it is the same as from the token behind it on
  pub members-behind : (is : List ℕ) → members_walk b AfterValue (drop (span b is) is) ≡ members_walk b AtValue is
  members-behind is = go (member_ahead b AtValue is) refl
    where
      go : (r : Result (Option (List ℕ)) Unexpected) → member_ahead b AtValue is ≡ r
          → members_walk b AfterValue (drop (span b is) is) ≡ members_walk b AtValue is
      go (Ok (Some js)) h = member-comes AfterValue (drop (span b is) is) js h ∙ sym (member-comes AtValue is js h)
      go (Ok None) h = members-end AfterValue (drop (span b is) is) h ∙ sym (members-end AtValue is h)
      go (Err e) h = members-stop AfterValue (drop (span b is) is) e h ∙ sym (members-stop AtValue is e h)

-- and after the value that a cursor returned last
pub elements-passed : (d : Document) (at end : ℕ) (position : Position) → after_last d at position ≡ Some end
    → elements_walk (text d) AfterValue (drop end (places d)) ≡ elements_walk (text d) position (drop at (places d))
elements-passed d at end First e = cc
elements-passed d at end AtValue e =
    let n : ℕ = span (text d) (drop at (places d)) in
    let same : at + n ≡ end = cc in
    ap (λ k. elements_walk (text d) AfterValue (drop k (places d))) (sym same)
    ∙ ap (elements_walk (text d) AfterValue) (sym (drop-drop n at (places d))) ∙ elements-behind (text d) (drop at (places d))
elements-passed d at end AfterValue e =
    let same : at ≡ end = cc in
    ap (λ k. elements_walk (text d) AfterValue (drop k (places d))) (sym same)

pub members-passed : (d : Document) (at end : ℕ) (position : Position) → after_last d at position ≡ Some end
    → members_walk (text d) AfterValue (drop end (places d)) ≡ members_walk (text d) position (drop at (places d))
members-passed d at end First e = cc
members-passed d at end AtValue e =
    let n : ℕ = span (text d) (drop at (places d)) in
    let same : at + n ≡ end = cc in
    ap (λ k. members_walk (text d) AfterValue (drop k (places d))) (sym same)
    ∙ ap (members_walk (text d) AfterValue) (sym (drop-drop n at (places d))) ∙ members-behind (text d) (drop at (places d))
members-passed d at end AfterValue e =
    let same : at ≡ end = cc in
    ap (λ k. members_walk (text d) AfterValue (drop k (places d))) (sym same)

-- ---- how many items come

unfoldable pub count : {A : Type 0} → Walk A → ℕ
count (stopped e) = 0
count ended = 0
count (came x w) = suc (count w)

pub count-came : {A : Type 0} (x : A) (w more : Walk A) → w ≡ came x more → count more < count w
unfolding count
count-came x w more e = subst (λ u. count more < count u) (sym e) (omega arith)

-- ---- what a step says, once it is known what it gave

pub when-some : {A : Type 0} (P : Type 0) (Q : A → Type 0) {o : Option A} {x : A} → o ≡ Some x → MatchOption o P Q → Q x
when-some P Q e m = subst (λ o. MatchOption o P Q) e m

pub when-none : {A : Type 0} (P : Type 0) (Q : A → Type 0) {o : Option A} → o ≡ None → MatchOption o P Q → P
when-none P Q e m = subst (λ o. MatchOption o P Q) e m
