-- Walks along a document: its elements or members come, and then the end.
use Rattle.std.proofs.Common.{◌≡◌, ◌≢◌, refl, sym, ◌∙◌, ap, ap₂, ℕ, zero, suc, ◌<◌, ◌≤◌, ◌-◌, Bool, true, false, cond, ◌==◌, ◌||◌, inl, inr}
use Rattle.std.proofs.Common.{List, [], ◌∷◌, length, drop, arith, bytes_eq, get_or}
use Rattle.std.specs.Prelude.{Option, Some, None, Result, Ok, Err, option_map, option_and_then, slice_get}
use Rattle.std.specs.Char.{is_ascii_digit}
use Rattle.std.proofs.lemmas.Bool.{cases_Bool, cond-true, cond-false, eqb-true, false≢true}
use Rattle.simd_json_parts.specs.AtomAt.{atom_at}
use Rattle.simd_json_parts.specs.Bytes.{byte_at, comma}
use Rattle.simd_json_parts.specs.Descent.{after_element, after_member, array_from, elements_by, members_by, object_from, value_from}
use Rattle.simd_json_parts.specs.Descent.{value_of}
use Rattle.simd_json_parts.specs.Document.{Document, Members, no_members, member, members, string}
use Rattle.simd_json_parts.specs.Faults.{fault_at}
use Rattle.simd_json_parts.specs.NumberAt.{number_at}
use Rattle.simd_json_parts.specs.StringAt.{string_at}
use Rattle.simd_json_parts.specs.Tokens.{Form, begin_array, end_array, begin_object, end_object, name_separator, value_separator, Token}
use Rattle.simd_json_parts.specs.Tokens.{string_token, scalar, stray, form_at}
use Rattle.simd_json_parts.specs.TokensAlong.{goes_on, tokens_along}
use Rattle.simd_json_parts.specs.Views.{as_str, first_with, ok_map}
use Rattle.simd_json_parts.specs.declared.error.Error.{Error}
use Rattle.simd_json_parts.specs.declared.error.ErrorType.TheVariants.{Syntax, ExpectedObjectKey}
use Rattle.simd_json_stages.proofs.Machine.Steps.{ends_element, ends_member}
use Rattle.simd_json_stages.proofs.Tokens.TokenForms as forms
use Rattle.simd_json_ondemand.specs.Closing.{span}
use Rattle.simd_json_ondemand.specs.Iterated.{all_some}
use Rattle.simd_json_ondemand.specs.IteratedMembers.{all_members}
use Rattle.simd_json_ondemand.specs.Keys.{is_key}
use Rattle.simd_json_ondemand.specs.Remaining.{value_at_first, listed, paired, elements_inside, elements_behind, members_inside}
use Rattle.simd_json_ondemand.specs.Remaining.{members_behind}
use Rattle.simd_json_ondemand.specs.Unexpected.{unexpected}
use Rattle.simd_json_ondemand.specs.Viewed.{first_read, read_along}
use Rattle.simd_json_ondemand.specs.Walked as walks
use Rattle.simd_json_ondemand.specs.Walks.{Walk, stopped, ended, came, whole, first, walk_past, walk_from, and_ok, and_some}
use Rattle.simd_json_ondemand.specs.Walks.{may_begin_value, value_here, behind_token, behind_item, member_here, elements_walk}
use Rattle.simd_json_ondemand.specs.Walks.{items, members_walk, pair_along, walk_by}
use Rattle.simd_json_ondemand.specs.declared.array.Position.TheVariants.{First, AtValue}
use Rattle.simd_json_ondemand.specs.declared.unexpected.Expected.TheVariants as expected
use Rattle.simd_json_ondemand.specs.declared.unexpected.Unexpected.{Unexpected}
use Rattle.simd_json_ondemand.proofs.Agreement.{Begins, begins-at}
use Rattle.simd_json_ondemand.proofs.Lookup.{key-is}
use Rattle.simd_json_ondemand.proofs.Sequence.Arrays.{AtElement, inside-end, inside-none, inside-element, behind-comma, behind-end}
use Rattle.simd_json_ondemand.proofs.Sequence.Arrays.{behind-none}
use Rattle.simd_json_ondemand.proofs.Sequence.Objects as objects
use Rattle.simd_json_ondemand.proofs.Sequence.Objects.{AtMember}
use Rattle.simd_json_ondemand.proofs.Turns.{Ahead, element-comes, elements-end, member-comes, members-end}

-- ---- a value begins with its first byte

-- a form by which test of its byte is the first to hold
begins-with : (s : Result (List ℕ × ℕ) Error) (r q : Result (Document × ℕ) Error) (a z o y k m t w f n p g : Bool) (d : Document)
    → Begins (cond a begin_array (cond z end_array (cond o begin_object (cond y end_object (cond k name_separator
    (cond m value_separator (cond t (string_token s) (cond (w || f || n) (scalar r) (cond (p || g) (scalar q) stray))))))))) d
    → (a || o || t || w || f || n || p || g) ≡ true
begins-with s r q true z o y k m t w f n p g d h = refl
begins-with s r q false true o y k m t w f n p g d h = absurd h
begins-with s r q false false true y k m t w f n p g d h = refl
begins-with s r q false false false true k m t w f n p g d h = absurd h
begins-with s r q false false false false true m t w f n p g d h = absurd h
begins-with s r q false false false false false true t w f n p g d h = absurd h
begins-with s r q false false false false false false true w f n p g d h = refl
begins-with s r q false false false false false false false true f n p g d h = refl
begins-with s r q false false false false false false false false true n p g d h = refl
begins-with s r q false false false false false false false false false true p g d h = refl
begins-with s r q false false false false false false false false false false true g d h = refl
begins-with s r q false false false false false false false false false false false true d h = refl
begins-with s r q false false false false false false false false false false false false d h = absurd h

module _ (b : List ℕ) where
  begins-byte : (i : ℕ) (d : Document) → Begins (form_at b i) d → may_begin_value (byte_at b i) ≡ true
  unfolding form_at
  begins-byte i d h =
      let c : ℕ = byte_at b i in
      begins-with (string_at b i) (atom_at b i) (number_at b i) (c == 91) (c == 93) (c == 123) (c == 125) (c == 58) (c == 44) (c == 34)
      (c == 116) (c == 102) (c == 110) (c == 45) (is_ascii_digit c) d h

  some_token : (is : List ℕ) (d : Document) → read_along b is ≡ Some d → 0 < length is
  unfolding value_from
  some_token [] d e = absurd (cc)
  some_token (i ∷ is) d e = omega arith

  value-read : (is : List ℕ) (d : Document) → read_along b is ≡ Some d → value_here b is ≡ Ok is
  value-read is d h = go is (some_token is d h) h
    where
      go : (is : List ℕ) → 0 < length is → read_along b is ≡ Some d → value_here b is ≡ Ok is
      go [] l h = absurd (omega arith)
      go (i ∷ is) l h = cond-true _ _ _ (begins-byte i d (begins-at b (i ∷ is) 0 l d h))

  -- ---- the elements of an array

  -- behind an element is a comma or the closing bracket
  element-closes : (i : ℕ) (is : List ℕ) (ds : List Document) → byte_at b i ≢ 44 → elements_behind b (i ∷ is) ≡ Some ds → byte_at b i ≡ 93
  element-closes i is ds byte e =
      elim (cases_Bool (byte_at b i == 93)) [
        | inl closing ↦ eqb-true (byte_at b i) 93 closing
        | inr other ↦
            absurd (none (form_at b i) (forms.no_ending b i (λ h. false≢true (sym other ∙ ap (λ c. c == 93) h)) byte) e)
      ]
    where
      none : (form : Form) → ends_element form ≡ false → listed b (after_element b (fault_at b Syntax 0)
          (record { index = i; form = form_at b i }) form (cond (goes_on form) (tokens_along b is) [])
          (elements_by b (fault_at b Syntax 0) (value_at_first b))) ≡ Some ds → ⊥
      none value_separator f e = false≢true (sym f)
      none end_array f e = false≢true (sym f)
      none _ f e = cc

  -- behind an element, where from each of the others on they come
  behind-walk : (ds : List Document)
      → ((js : List ℕ) → AtElement b js ds → came (read_along b js) (elements_walk b AtValue js) ≡ whole (all_some ds))
      → (is js : List ℕ) → drop (span b is) is ≡ js → elements_behind b js ≡ Some ds → elements_walk b AtValue is ≡ whole (all_some ds)
  unfolding whole
  behind-walk ds more is [] same e = absurd (behind-none b ds e)
  behind-walk ds more is (j ∷ js) same e =
      elim (cases_Bool (byte_at b j == 44)) [
        | inl comma ↦ let c : byte_at b j ≡ 44 = eqb-true (byte_at b j) 44 comma in
            let next : AtElement b js ds = behind-comma b j js ds c e in
            element-comes b AtValue is js (ap (λ ks. and_some (behind_item b 93 expected.CommaOrBracket ks) (value_here b)) same
            ∙ ap (ahead js) c ∙ ap (ok_map (λ us. Some us)) (value-read js next.document next.read)) ∙ more js next
        | inr other ↦ let ne : byte_at b j ≢ 44 = (λ h. false≢true (sym other ∙ ap (λ c. c == 44) h)) in
            elements-end b AtValue is (ap (λ ks. and_some (behind_item b 93 expected.CommaOrBracket ks) (value_here b)) same
            ∙ ap (ahead js) (element-closes j js ds ne e))
            ∙ ap (λ xs. whole (all_some xs)) (sym (behind-end b j js ds ne e))
      ]
    where
      ahead : List ℕ → ℕ → Ahead
      ahead js x = and_some (cond (x == 93) (Ok None) (ok_map (λ us. Some us)
          (cond (x == 44) (Ok js) (Err (unexpected b expected.CommaOrBracket (j ∷ js)))))) (value_here b)

  -- from an element on
  element-walk : (ds : List Document) (is : List ℕ) → AtElement b is ds
      → came (read_along b is) (elements_walk b AtValue is) ≡ whole (all_some ds)
  unfolding whole
  element-walk [] is a = absurd (let e = a.all in cc)
  element-walk (d ∷ ds) is a =
      let same : a.document ≡ d = (let e = a.all in cc) in
      let rest : a.others ≡ ds = (let e = a.all in cc) in
      ap (λ x. came x (elements_walk b AtValue is)) (a.read ∙ ap (λ x. Some x) same)
      ∙ ap (came (Some d)) (behind-walk ds (element-walk ds) is (drop (span b is) is) refl (a.past ∙ ap (λ xs. Some xs) rest))

  pub inside-walk : (ds : List Document) (is : List ℕ) → elements_inside b is ≡ Some ds → elements_walk b First is ≡ whole (all_some ds)
  unfolding whole
  inside-walk ds [] e = absurd (inside-none b ds e)
  inside-walk ds (i ∷ is) e =
      elim (cases_Bool (byte_at b i == 93)) [
        | inl closing ↦ elements-end b First (i ∷ is) (ap (λ t. and_some (cond t (Ok None) (Ok (Some (i ∷ is)))) (value_here b)) closing)
            ∙ ap (λ xs. whole (all_some xs)) (empty (inside-end b i is (eqb-true (byte_at b i) 93 closing)))
        | inr other ↦
            let at : AtElement b (i ∷ is) ds = inside-element b i is ds (λ h. false≢true (sym other ∙ ap (λ c. c == 93) h)) e in
            element-comes b First (i ∷ is) (i ∷ is) (ap (λ t. and_some (cond t (Ok None) (Ok (Some (i ∷ is)))) (value_here b)) other
            ∙ ap (ok_map (λ us. Some us)) (value-read (i ∷ is) at.document at.read))
            ∙ element-walk ds (i ∷ is) at
      ]
    where
      empty : elements_inside b (i ∷ is) ≡ Some [] → [] ≡ ds
      empty h = cc

  -- ---- the members of an object

  -- behind a member is a comma or the closing brace
  member-closes : (i : ℕ) (is : List ℕ) (ms : List (List ℕ × Document)) → byte_at b i ≢ 44 → members_behind b (i ∷ is) ≡ Some ms
      → byte_at b i ≡ 125
  member-closes i is ms byte e =
      elim (cases_Bool (byte_at b i == 125)) [
        | inl closing ↦ eqb-true (byte_at b i) 125 closing
        | inr other ↦
            absurd (none (form_at b i) (forms.no_member_ending b i (λ h. false≢true (sym other ∙ ap (λ c. c == 125) h)) byte) e)
      ]
    where
      none : (form : Form) → ends_member form ≡ false → paired b (after_member b (fault_at b Syntax 0)
          (record { index = i; form = form_at b i }) form (cond (goes_on form) (tokens_along b is) [])
          (members_by b (fault_at b Syntax 0) (value_at_first b) ExpectedObjectKey)) ≡ Some ms → ⊥
      none value_separator f e = false≢true (sym f)
      none end_object f e = false≢true (sym f)
      none _ f e = cc

  member-read : (is : List ℕ) (ms : List (List ℕ × Document)) → AtMember b is ms → member_here b is ≡ Ok is
  member-read [] ms a = absurd (let l = a.fits in omega arith)
  member-read (k ∷ []) ms a = absurd (let l = a.fits in omega arith)
  member-read (k ∷ c ∷ vs) ms a =
      ap (λ x. ok_map (λ _. k ∷ c ∷ vs) (and_ok (and_ok (cond (x == 34) (Ok (c ∷ vs)) (Err (unexpected b expected.Key (k ∷ c ∷ vs))))
      (behind_token b 58 expected.Colon)) (value_here b))) a.quote
      ∙ ap (λ x. ok_map (λ _. k ∷ c ∷ vs) (and_ok (cond (x == 58) (Ok vs) (Err (unexpected b expected.Colon (c ∷ vs)))) (value_here b)))
      a.colon
      ∙ ap (ok_map (λ _. k ∷ c ∷ vs)) (value-read vs a.document a.read)

  -- behind a member, where from each of the others on they come
  behind-members : (ms : List (List ℕ × Document))
      → ((js : List ℕ) → AtMember b js ms → came (pair_along b js) (members_walk b AtValue (drop 2 js)) ≡ whole (all_members ms))
      → (vs js : List ℕ) → drop (span b vs) vs ≡ js → members_behind b js ≡ Some ms → members_walk b AtValue vs ≡ whole (all_members ms)
  unfolding whole
  behind-members ms more vs [] same e = absurd (objects.behind-none b ms e)
  behind-members ms more vs (j ∷ js) same e =
      elim (cases_Bool (byte_at b j == 44)) [
        | inl comma ↦ let c : byte_at b j ≡ 44 = eqb-true (byte_at b j) 44 comma in
            let next : AtMember b js ms = objects.behind-comma b j js ms c e in
            member-comes b AtValue vs js (ap (λ ks. and_some (behind_item b 125 expected.CommaOrBrace ks) (member_here b)) same
            ∙ ap (ahead js) c ∙ ap (ok_map (λ us. Some us)) (member-read js ms next)) ∙ more js next
        | inr other ↦ let ne : byte_at b j ≢ 44 = (λ h. false≢true (sym other ∙ ap (λ c. c == 44) h)) in
            members-end b AtValue vs (ap (λ ks. and_some (behind_item b 125 expected.CommaOrBrace ks) (member_here b)) same
            ∙ ap (ahead js) (member-closes j js ms ne e))
            ∙ ap (λ xs. whole (all_members xs)) (sym (objects.behind-end b j js ms ne e))
      ]
    where
      ahead : List ℕ → ℕ → Ahead
      ahead js x = and_some (cond (x == 125) (Ok None) (ok_map (λ us. Some us)
          (cond (x == 44) (Ok js) (Err (unexpected b expected.CommaOrBrace (j ∷ js)))))) (member_here b)

  key-read : (is : List ℕ) (key : List ℕ) (end : ℕ) → 0 < length is → byte_at b (get_or is 0 0) ≡ 34
      → string_at b (get_or is 0 0) ≡ Ok (key, end) → read_along b is ≡ Some (string key)
  unfolding value_from
  key-read [] key end l q s = absurd (omega arith)
  key-read (i ∷ is) key end l q s =
      let m : Error = fault_at b Syntax 0 in
      let rest : List Token = cond (goes_on (form_at b i)) (tokens_along b is) [] in
      ap (λ form. first_read (value_of b m (λ _. array_from b m (value_from b m (length rest)))
      (λ _. object_from b m (value_from b m (length rest))) (record { index = i; form = form_at b i }) form rest))
      (forms.quotes b i q ∙ ap string_token s)

  -- from a member on
  member-walk : (ms : List (List ℕ × Document)) (is : List ℕ) → AtMember b is ms
      → came (pair_along b is) (members_walk b AtValue (drop 2 is)) ≡ whole (all_members ms)
  unfolding whole
  member-walk [] is a = absurd (let e = a.all in cc)
  member-walk (m ∷ ms) is a =
      let same : (a.key, a.document) ≡ m = (let e = a.all in cc) in
      let rest : a.others ≡ ms = (let e = a.all in cc) in
      let key : read_along b is ≡ Some (string a.key) = key-read is a.key a.end (omega (arith, a.fits)) a.quote a.string in
      ap (λ x. came x (members_walk b AtValue (drop 2 is)))
      (ap₂ (λ x y. (x, y)) key a.read ∙ ap (λ m. (Some (string m.0), Some m.1)) same)
      ∙ ap (came (Some (string m.0), Some m.1)) (behind-members ms (member-walk ms) (drop 2 is) (drop (span b (drop 2 is)) (drop 2 is)) refl
      (a.past ∙ ap (λ xs. Some xs) rest))

  pub inside-members : (ms : List (List ℕ × Document)) (is : List ℕ) → members_inside b is ≡ Some ms
      → members_walk b First is ≡ whole (all_members ms)
  unfolding whole
  inside-members ms [] e = absurd (objects.inside-none b ms e)
  inside-members ms (i ∷ is) e =
      elim (cases_Bool (byte_at b i == 125)) [
        | inl closing ↦ members-end b First (i ∷ is) (ap (λ t. and_some (cond t (Ok None) (Ok (Some (i ∷ is)))) (member_here b)) closing)
            ∙ ap (λ xs. whole (all_members xs)) (empty (objects.inside-end b i is (eqb-true (byte_at b i) 125 closing)))
        | inr other ↦
            let at : AtMember b (i ∷ is) ms = objects.inside-member b i is ms (λ h. false≢true (sym other ∙ ap (λ c. c == 125) h)) e in
            member-comes b First (i ∷ is) (i ∷ is) (ap (λ t. and_some (cond t (Ok None) (Ok (Some (i ∷ is)))) (member_here b)) other
            ∙ ap (ok_map (λ us. Some us)) (member-read (i ∷ is) ms at))
            ∙ member-walk ms (i ∷ is) at
      ]
    where
      empty : members_inside b (i ∷ is) ≡ Some [] → [] ≡ ms
      empty h = cc

-- ---- items

pub items-whole : {A : Type 0} (xs : List A) → items (whole xs) ≡ xs
unfolding items whole
items-whole [] = refl
items-whole (x ∷ xs) = ap (λ ys. x ∷ ys) (items-whole xs)

pub items-came : {A : Type 0} (x : A) (w : Walk A) → items (came x w) ≡ x ∷ items w
unfolding items
items-came x w = refl

pub items-ended : {A : Type 0} → items {A = A} ended ≡ []
unfolding items
items-ended = refl

pub items-stopped : {A : Type 0} (e : Unexpected) → items {A = A} (stopped e) ≡ []
unfolding items
items-stopped e = refl

-- no more than turns
pub few-items : {A : Type 0} (view : List ℕ → A) (next : List ℕ → Ahead) (n : ℕ) (r : Ahead) → length (items (walk_by view next n r)) ≤ n
unfolding items walk_by
few-items view next n (Err e) = omega arith
few-items view next n (Ok None) = omega arith
few-items view next zero (Ok (Some is)) = omega arith
few-items view next (suc n) (Ok (Some is)) = omega (arith, few-items view next n (next is))

-- ---- searches

abbrev pub Pairs : Type 0
Pairs = Walk (Option Document × Option Document)

from-step : (key : List ℕ) (m : Option Document × Option Document) (w : Pairs)
    → walk_from key (came m w) ≡ cond (is_key key (option_and_then as_str m.0)) (came m w) (walk_from key w)
unfolding walk_from
from-step key m w = refl

pub from-ended : (key : List ℕ) → walk_from key ended ≡ ended
unfolding walk_from
from-ended key = refl

pub from-stopped : (key : List ℕ) (e : Unexpected) → walk_from key (stopped e) ≡ stopped e
unfolding walk_from
from-stopped key e = refl

pub from-here : (key : List ℕ) (k d : Option Document) (w : Pairs) → is_key key (option_and_then as_str k) ≡ true
    → walk_from key (came (k, d) w) ≡ came (Some (string key), d) w
from-here key k d w h = from-step key (k, d) w ∙ cond-true _ _ _ h ∙ ap (λ x. came (x, d) w) (key-is key k h)

pub from-later : (key : List ℕ) (k d : Option Document) (w : Pairs) → is_key key (option_and_then as_str k) ≡ false
    → walk_from key (came (k, d) w) ≡ walk_from key w
from-later key k d w h = from-step key (k, d) w ∙ cond-false _ _ _ h

pub whole-with : (key : List ℕ) (ms : Members)
    → walks.member_with key (whole (all_members (members ms))) ≡ Ok (option_map (λ e. Some e) (first_with key ms))
unfolding walk_from whole
whole-with key no_members = refl
whole-with key (member k d ms) = go (bytes_eq k key) (whole-with key ms)
  where
    w : Pairs
    w = whole (all_members (members ms))

    go : (t : Bool) → walks.member_with key w ≡ Ok (option_map (λ e. Some e) (first_with key ms))
        → ok_map (option_map (λ m. m.1)) (first (cond t (came (Some (string k), Some d) w) (walk_from key w)))
        ≡ Ok (option_map (λ e. Some e) (cond t (Some d) (first_with key ms)))
    go true more = refl
    go false more = more

pub past-whole : {A : Type 0} (xs : List A) (i : ℕ) → first (walk_past i (whole xs)) ≡ Ok (slice_get xs i)
unfolding walk_past whole
past-whole [] zero = refl
past-whole [] (suc i) = refl
past-whole (x ∷ xs) zero = refl
past-whole (x ∷ xs) (suc i) = past-whole xs i

pub past-none : {A : Type 0} (w : Walk A) → walk_past 0 w ≡ w
unfolding walk_past
past-none w = refl

pub past-came : {A : Type 0} (n : ℕ) (x : A) (w : Walk A) → walk_past (suc n) (came x w) ≡ walk_past n w
unfolding walk_past
past-came n x w = refl

pub past-ended : {A : Type 0} (n : ℕ) → ◌≡◌ {A = Walk A} (walk_past n ended) ended
unfolding walk_past
past-ended zero = refl
past-ended (suc n) = refl

pub past-stopped : {A : Type 0} (n : ℕ) (e : Unexpected) → ◌≡◌ {A = Walk A} (walk_past n (stopped e)) (stopped e)
unfolding walk_past
past-stopped zero e = refl
past-stopped (suc n) e = refl

-- so it goes, where the next turn is known
module _ {A : Type 0} (n : ℕ) (w : Walk A) where
  pub past-here : (x : A) (more : Walk A) → n ≡ 0 → w ≡ came x more → first (walk_past n w) ≡ Ok (Some x)
  past-here x more e h = ap (λ k. first (walk_past k w)) e ∙ ap first (past-none w ∙ h)

  pub past-later : (x : A) (more : Walk A) → n ≢ 0 → w ≡ came x more → first (walk_past n w) ≡ first (walk_past (n - 1) more)
  past-later x more other h =
      let next : n ≡ suc (n - 1) = omega (arith, other) in
      ap (λ k. first (walk_past k w)) next ∙ ap (λ u. first (walk_past (suc (n - 1)) u)) h ∙ ap first (past-came (n - 1) x more)

  pub past-end : w ≡ ended → first (walk_past n w) ≡ Ok None
  past-end h = ap (λ u. first (walk_past n u)) h ∙ ap first (past-ended n)

  pub past-stop : (e : Unexpected) → w ≡ stopped e → first (walk_past n w) ≡ Err e
  past-stop e h = ap (λ u. first (walk_past n u)) h ∙ ap first (past-stopped n e)
