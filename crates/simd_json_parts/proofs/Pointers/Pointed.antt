-- A JSON Pointer a token at a time.
use Rattle.std.proofs.Common.{◌≡◌, ◌≢◌, ◌∙◌, ap, sym, refl, ◌<◌, ◌≤◌, ◌+◌, ◌-◌, ℕ, suc, Bool, true, false}
use Rattle.std.proofs.Common.{cond, not, bytes_eq, List, [], ◌∷◌, length, map, take, drop, length-drop}
use Rattle.std.proofs.Common.{get_or, Some, None, Option, Result, Ok, Err, arith, ne_eqb}
use Rattle.std.proofs.lemmas.Bool.{eqb-true, eq-eqb, ltb-false}
use Rattle.std.proofs.lemmas.List.{drop-drop, drop_all, drop_more, get_or-drop, get_or-take, length-take-le}
use Rattle.std.proofs.lemmas.List.Sums.{passes_at_first, position_or_len_is, prefix_len-le-length}
use Rattle.std.specs.Char.{digit_value}
use Rattle.std.specs.Int.Digits.{number_from_digits}
use Rattle.std.specs.List.{position_or_len, slice_range}
use Rattle.std.proofs.lemmas.Option.{slice_get_past}
use Rattle.std.proofs.lemmas.Slice.Eq.{bytes_eq-Decides}
use Rattle.std.specs.Prelude.{◌==◌, ◌^◌, nat_lt, slice_get, ok_or, is_some, option_and_then}
use Rattle.std.specs.Result.{result_ok}
use Rattle.std.specs.Str.{IsCharBoundary}
use Rattle.simd_json_parts.specs.Document.{Document, integer, array, object, elements, Elements, Members, members}
use Rattle.simd_json_parts.specs.Views.{first_with, is_array, is_object, value_type}
use Rattle.simd_json_parts.specs.Integers.{integer_node}
use Rattle.simd_json_parts.specs.NodeTypes.{static_type}
use Rattle.simd_json_parts.specs.declared.node.ValueType.{ValueType}
use Rattle.simd_json_parts.specs.declared.node.ValueType.TheVariants as kinds
use Rattle.simd_json_parts.proofs.Documents.Integers.{of-integer_node}
use Rattle.simd_json_parts.specs.Pointed.{with_first, tokens, unescaped, is_array_index, array_index, element_at, member_at, named, stop}
use Rattle.simd_json_parts.specs.Pointed.{go_on, followed, pointed_from}
use Rattle.simd_json_parts.specs.Followed.{IsPlain, IsTokenAt, tokens_after, first_of, first_step, fits_64}
use Rattle.simd_json_parts.specs.declared.pointer.PointerError.{PointerError}
use Rattle.simd_json_parts.specs.declared.pointer.PointerExpected.{PointerExpected}
use Rattle.simd_json_parts.specs.declared.pointer.PointerExpected.TheVariants as lacking
use Rattle.simd_json_parts.proofs.Documents.Members.{first_with-pair, first_with-none}

-- ---- the first token of what is left of a pointer

abbrev pub is_slash : ℕ → Bool
is_slash b = b == 47

split-by : (c : ℕ) (p : List ℕ) (n : ℕ) (b : Bool) → tokens p ≡ take n p ∷ tokens_after (drop n p)
    → cond b ([] ∷ tokens p) (with_first c (tokens p))
    ≡ take (cond (not b) (1 + n) 0) (c ∷ p) ∷ tokens_after (drop (cond (not b) (1 + n) 0) (c ∷ p))
split-by c p n true rest = refl
split-by c p n false rest =
    let number : suc n ≡ 1 + n = omega arith in
    ap (with_first c) rest ∙ ap (λ m. take m (c ∷ p) ∷ tokens_after (drop m (c ∷ p))) number

tokens-split : (p : List ℕ) → tokens p ≡ take (position_or_len is_slash p) p ∷ tokens_after (drop (position_or_len is_slash p) p)
tokens-split [] = refl
tokens-split (c ∷ p) = split-by c p (position_or_len is_slash p) (c == 47) (tokens-split p)

pub token-at : (p : List ℕ) (i e : ℕ) → i < length p → get_or p i 0 ≡ 47 → e ≡ i + 1 + position_or_len is_slash (drop (i + 1) p)
    → IsTokenAt p i e
token-at p i e inside slashed is =
    let q = drop (i + 1) p in
    let n = position_or_len is_slash q in
    let left : length q ≡ length p - (i + 1) = length-drop (i + 1) p in
    let number : n ≡ e - (i + 1) = omega (arith, is) in
    let rest : drop n q ≡ drop e p = drop-drop n (i + 1) p ∙ ap (λ m. drop m p) (omega (arith, is)) in
    record {
      begins = (inside, slashed);
      within = (omega (arith, is), omega (arith, is, left, prefix_len-le-length (λ b. not (is_slash b)) q));
      split =
          ap tokens_after (drop_more p i 0 inside) ∙ tokens-split q ∙ ap (λ m. take m q ∷ tokens_after (drop n q)) number
          ∙ ap (λ l. take (e - (i + 1)) q ∷ tokens_after l) rest;
      goes_on = λ less. (let inside : n < length q = omega (arith, is, less, left) in
          ap (λ m. get_or p m 0) is ∙ sym (get_or-drop (i + 1) p n 0) ∙ eqb-true (get_or q n 0) 47 (passes_at_first is_slash q 0 inside));
    }

pub token-to : (p : List ℕ) (i e : ℕ) → i < length p → get_or p i 0 ≡ 47 → (i < e) × (e ≤ length p)
    → ((k : ℕ) → i + 1 + k < e → is_slash (get_or p (i + 1 + k) 0) ≡ false) → (e < length p → get_or p e 0 ≡ 47) → IsTokenAt p i e
token-to p i e inside slashed within lacks ends =
    let q = drop (i + 1) p in
    let left : length q ≡ length p - (i + 1) = length-drop (i + 1) p in
    let n = e - (i + 1) in
    let end : i + 1 + n ≡ e = omega (arith, within) in
    let is : position_or_len is_slash q ≡ n =
    position_or_len_is is_slash q n 0 (omega (arith, within, left))
    (λ k less. ap is_slash (get_or-drop (i + 1) p k 0) ∙ lacks k (omega (arith, less, within)))
    (λ less. eq-eqb (get_or q n 0) 47
    (get_or-drop (i + 1) p n 0 ∙ ap (λ m. get_or p m 0) end ∙ ends (omega (arith, less, left, within)))) in
    token-at p i e inside slashed (omega (arith, is, within))

pub plain-to : (p : List ℕ) (i e : ℕ) → (i < e) × (e ≤ length p) → ((k : ℕ) → i + 1 + k < e → get_or p (i + 1 + k) 0 ≢ 126)
    → IsPlain (slice_range p (i + 1) e)
plain-to p i e within lacks k less is =
    let q = drop (i + 1) p in
    let long = length-take-le (e - (i + 1)) q (omega (arith, within, length-drop (i + 1) p)) in
    let inside : k < e - (i + 1) = omega (arith, less, long) in
    lacks k (omega (arith, inside)) (sym (get_or-take (e - (i + 1)) q k 0 inside ∙ get_or-drop (i + 1) p k 0) ∙ is)

pub at-slash : (p : List ℕ) (i e : ℕ) → IsTokenAt p i e → drop i p ≡ 47 ∷ drop (i + 1) p
at-slash p i e at = drop_more p i 0 at.begins.0 ∙ ap (λ c. c ∷ drop (i + 1) p) at.begins.1

pub token-len : (p : List ℕ) (i e : ℕ) → IsTokenAt p i e → i + 1 + length (slice_range p (i + 1) e) ≡ e
token-len p i e at =
    let left = length-drop (i + 1) p in
    omega (arith, at.within, left, length-take-le (e - (i + 1)) (drop (i + 1) p) (omega (arith, at.within, left)))

pub boundary : (p : List ℕ) (i e : ℕ) → IsTokenAt p i e → IsCharBoundary p e
boundary p i e at = (at.within.1, λ less high. absurd (omega (arith, at.goes_on less, high)))

-- ---- results

ok-of : {A E : Type 0} (r : Result A E) (x : A) → result_ok r ≡ Some x → r ≡ Ok x
ok-of (Ok y) x is = let same : y ≡ x = cc in ap Ok same
ok-of (Err e) x is = cc

-- ---- a token further

followed-by : (i : ℕ) (p : List ℕ) (d : Document) → (0 < length p → get_or p 0 0 ≡ 47)
    → followed i (tokens_after p) d ≡ pointed_from i p d
followed-by i [] d begins = refl
followed-by i (c ∷ p) d begins = let is : c ≡ 47 = begins (omega arith) in rw is refl

pub begins-at : (p : List ℕ) (i : ℕ) → (i < length p → get_or p i 0 ≡ 47) → 0 < length (drop i p) → get_or (drop i p) 0 0 ≡ 47
begins-at p i begins some =
    get_or-drop i p 0 0 ∙ ap (λ m. get_or p m 0) (omega arith) ∙ begins (omega (arith, some, length-drop i p))

followed-rest : (i : ℕ) (p : List ℕ) (d : Document) → (i < length p → get_or p i 0 ≡ 47)
    → followed i (tokens_after (drop i p)) d ≡ pointed_from i (drop i p) d
followed-rest i p d begins = followed-by i (drop i p) d (begins-at p i begins)

pub further : (p : List ℕ) (i e : ℕ) (d x : Document) → IsTokenAt p i e → result_ok (named (slice_range p (i + 1) e) d) ≡ Some x
    → pointed_from i (drop i p) d ≡ pointed_from e (drop e p) x
further p i e d x at leads =
    let t = slice_range p (i + 1) e in
    sym (followed-rest i p d (λ less. at.begins.1)) ∙ ap (λ ts. followed i ts d) at.split
    ∙ ap (go_on i d (followed (i + 1 + length t) (tokens_after (drop e p)))) (ok-of (named t d) x leads)
    ∙ ap (λ n. followed n (tokens_after (drop e p)) x) (token-len p i e at)
    ∙ followed-rest e p x at.goes_on

pub token-step : (p : List ℕ) (i e : ℕ) (d : Document) → IsTokenAt p i e → first_step (drop i p) d ≡ named (slice_range p (i + 1) e) d
token-step p i e d at =
    ap (λ q. first_step q d) (at-slash p i e at)
    ∙ ap (λ ts. named (first_of ts) d) (sym (ap tokens_after (at-slash p i e at)) ∙ at.split)

pub lacks-slash : (p : List ℕ) (i : ℕ) (d : Document) → i < length p → get_or p i 0 ≢ 47 → first_step (drop i p) d ≡ Err lacking.Slash
lacks-slash p i d inside other = ap (λ q. first_step q d) (drop_more p i 0 inside) ∙ rw (ne_eqb (get_or p i 0) 47 other) refl

pub stuck-at-token : (p : List ℕ) (i e : ℕ) (d : Document) → IsTokenAt p i e → result_ok (named (slice_range p (i + 1) e) d) ≡ None
    → result_ok (first_step (drop i p) d) ≡ None
stuck-at-token p i e d at nowhere = ap result_ok (token-step p i e d at) ∙ nowhere

pub stuck-without-slash : (p : List ℕ) (i : ℕ) (d : Document) → i < length p → get_or p i 0 ≢ 47
    → result_ok (first_step (drop i p) d) ≡ None
stuck-without-slash p i d inside other = ap result_ok (lacks-slash p i d inside other)

-- ---- where a pointer stops

stop-in : (i : ℕ) (ts : List (List ℕ)) (d : Document) (e : PointerExpected) → 0 < length ts → named (first_of ts) d ≡ Err e
    → followed i ts d ≡ Err (stop i d e)
stop-in i [] d e some is = absurd (omega arith)
stop-in i (t ∷ ts) d e some is = ap (go_on i d (followed (i + 1 + length t) ts)) is

with_first-some : (c : ℕ) (ts : List (List ℕ)) → 0 < length (with_first c ts)
with_first-some c [] = omega arith
with_first-some c (t ∷ ts) = omega arith

pub tokens-some : (p : List ℕ) → 0 < length (tokens p)
tokens-some [] = omega arith
tokens-some (c ∷ p) = elim (c == 47) as (λ b. 0 < length (cond b ([] ∷ tokens p) (with_first c (tokens p)))) [
  | true ↦ omega arith
  | false ↦ with_first-some c (tokens p)
]

stop-by : (b : Bool) (i : ℕ) (p : List ℕ) (d : Document) (e : PointerExpected)
    → cond b (named (first_of (tokens p)) d) (Err lacking.Slash) ≡ Err e
    → cond b (followed i (tokens p) d) (Err (stop i d lacking.Slash)) ≡ Err (stop i d e)
stop-by true i p d e is = stop-in i (tokens p) d e (tokens-some p) is
stop-by false i p d e is = let same : lacking.Slash ≡ e = cc in ap (λ x. Err (stop i d x)) same

pub stop-at : (i : ℕ) (p : List ℕ) (d : Document) (e : PointerExpected) → 0 < length p → first_step p d ≡ Err e
    → pointed_from i p d ≡ Err (stop i d e)
stop-at i [] d e some is = absurd (omega arith)
stop-at i (c ∷ p) d e some is = stop-by (c == 47) i p d e is

err-of : {A E : Type 0} (r : Result A E) → result_ok r ≡ None → (e : E) × (r ≡ Err e)
err-of (Ok y) is = cc
err-of (Err e) is = (e, refl)

pub stop-of : (i : ℕ) (p : List ℕ) (d : Document) → 0 < length p → result_ok (first_step p d) ≡ None → result_ok (pointed_from i p d) ≡ None
stop-of i p d some nowhere = let e = err-of (first_step p d) nowhere in ap result_ok (stop-at i p d e.0 some e.1)

pub whole : (i : ℕ) (p : List ℕ) (d : Document) → length p ≤ i → pointed_from i (drop i p) d ≡ Ok d
whole i p d past = ap (λ q. pointed_from i q d) (drop_all i p past)

-- ---- pairs

-- what a token finds among pairs
abbrev pub found : List ℕ → Members → Option Document
found t ms = result_ok (member_at ms (unescaped t))

same-bytes : (k : List ℕ) → bytes_eq k k ≡ true
same-bytes k = (bytes_eq-Decides k k).1 refl

not-true : (b : Bool) → (b ≡ true → ⊥) → b ≡ false
not-true true never = absurd (never refl)
not-true false never = refl

other-bytes : (k l : List ℕ) → (k ≡ l → ⊥) → bytes_eq k l ≡ false
other-bytes k l other = not-true (bytes_eq k l) (λ same. other ((bytes_eq-Decides k l).0 same))

pub member-here : (u : Option (List ℕ)) (k : List ℕ) (d : Document) (ms ns : Members) → members ms ≡ (k, d) ∷ members ns
    → u ≡ Some k → result_ok (member_at ms u) ≡ Some d
member-here u k d ms ns pair is =
    ap (λ v. result_ok (member_at ms v)) is ∙ ap (λ o. result_ok (ok_or o lacking.Key)) (first_with-pair k k d ms ns pair)
    ∙ ap (λ b. result_ok (ok_or (cond b (Some d) (first_with k ns)) lacking.Key)) (same-bytes k)

pub member-later : (u : Option (List ℕ)) (k : List ℕ) (d : Document) (ms ns : Members) → members ms ≡ (k, d) ∷ members ns
    → (u ≡ Some k → ⊥) → result_ok (member_at ms u) ≡ result_ok (member_at ns u)
member-later None k d ms ns pair other = refl
member-later (Some key) k d ms ns pair other =
    ap (λ o. result_ok (ok_or o lacking.Key)) (first_with-pair key k d ms ns pair)
    ∙ ap (λ b. result_ok (ok_or (cond b (Some d) (first_with key ns)) lacking.Key)) (other-bytes k key (λ same. other (ap Some (sym same))))

pub member-none : (u : Option (List ℕ)) (ms : Members) → members ms ≡ [] → result_ok (member_at ms u) ≡ None
member-none None ms empty = refl
member-none (Some key) ms empty = ap (λ o. result_ok (ok_or o lacking.Key)) (first_with-none key ms empty)

-- ---- elements

pub ok-or : {A E : Type 0} (o : Option A) (e : E) → result_ok (ok_or o e) ≡ o
ok-or None e = refl
ok-or (Some x) e = refl

fits-by : (b : Bool) (i j : ℕ) → cond b (Some i) None ≡ Some j → i ≡ j
fits-by true i j is = cc
fits-by false i j is = cc

at-least : (i n : ℕ) → nat_lt i n ≡ false → n ≤ i
at-least i n test = ltb-false i n test

past-by : (b : Bool) (i : ℕ) → nat_lt i (2 ^ 64) ≡ b → cond b (Some i) None ≡ None → 2 ^ 64 ≤ i
past-by true i test is = cc
past-by false i test is = at-least i (2 ^ 64) test

pub element-fits : (ds : Elements) (i : Option ℕ) (j : ℕ) → option_and_then fits_64 i ≡ Some j
    → result_ok (element_at ds i) ≡ slice_get (elements ds) j
element-fits ds None j is = cc
element-fits ds (Some i) j is =
    ok-or (slice_get (elements ds) i) lacking.Element ∙ ap (slice_get (elements ds)) (fits-by (nat_lt i (2 ^ 64)) i j is)

pub element-past : (ds : Elements) (i : Option ℕ) → length (elements ds) < 2 ^ 64 → option_and_then fits_64 i ≡ None
    → result_ok (element_at ds i) ≡ None
element-past ds None few is = refl
element-past ds (Some i) few is =
    let past : 2 ^ 64 ≤ i = past-by (nat_lt i (2 ^ 64)) i refl is in
    ok-or (slice_get (elements ds) i) lacking.Element ∙ slice_get_past (elements ds) i (omega arith)

-- ---- array indexes

abbrev pub digits : List ℕ → List ℕ
digits t = map digit_value t

pub index-of : (t : List ℕ) → is_array_index t ≡ true → array_index t ≡ Some (number_from_digits 10 (digits t))
index-of t is = ap (λ b. cond b (Some (number_from_digits 10 (digits t))) None) is

pub index-none : (t : List ℕ) → is_array_index t ≡ false → option_and_then fits_64 (array_index t) ≡ None
index-none t is = ap (λ b. option_and_then fits_64 (cond b (Some (number_from_digits 10 (digits t))) None)) is

-- ---- what is lacking

lacks-of : {A E : Type 0} (o : Option A) (e : E) → result_ok (ok_or o e) ≡ None → ok_or o e ≡ Err e
lacks-of None e nowhere = refl
lacks-of (Some x) e nowhere = cc

pub lacks-element : (t : List ℕ) (d : Document) → is_array d ≡ true → is_array_index t ≡ true → result_ok (named t d) ≡ None
    → named t d ≡ Err lacking.Element
lacks-element t (array ds) is index nowhere =
    let number = number_from_digits 10 (digits t) in
    let at : named t (array ds) ≡ ok_or (slice_get (elements ds) number) lacking.Element = ap (element_at ds) (index-of t index) in
    at ∙ lacks-of (slice_get (elements ds) number) lacking.Element (ap result_ok (sym at) ∙ nowhere)
lacks-element t _ is index nowhere = cc

pub lacks-index : (t : List ℕ) (d : Document) → is_array d ≡ true → is_array_index t ≡ false → named t d ≡ Err lacking.Index
lacks-index t (array ds) is other = ap (λ b. element_at ds (cond b (Some (number_from_digits 10 (digits t))) None)) other
lacks-index t _ is other = cc

key-lacks : (ms : Members) (u : Option (List ℕ)) → is_some u ≡ true → result_ok (member_at ms u) ≡ None → member_at ms u ≡ Err lacking.Key
key-lacks ms None formed nowhere = cc
key-lacks ms (Some key) formed nowhere = lacks-of (first_with key ms) lacking.Key nowhere

escape-lacks : (ms : Members) (u : Option (List ℕ)) → is_some u ≡ false → member_at ms u ≡ Err lacking.Escape
escape-lacks ms None malformed = refl
escape-lacks ms (Some key) malformed = cc

pub lacks-key : (t : List ℕ) (d : Document) → is_object d ≡ true → is_some (unescaped t) ≡ true → result_ok (named t d) ≡ None
    → named t d ≡ Err lacking.Key
lacks-key t (object ms) is formed nowhere = key-lacks ms (unescaped t) formed nowhere
lacks-key t _ is formed nowhere = cc

pub lacks-escape : (t : List ℕ) (d : Document) → is_object d ≡ true → is_some (unescaped t) ≡ false → named t d ≡ Err lacking.Escape
lacks-escape t (object ms) is malformed = escape-lacks ms (unescaped t) malformed
lacks-escape t _ is malformed = cc

pub lacks-container : (t : List ℕ) (d : Document) → is_array d ≡ false → is_object d ≡ false → named t d ≡ Err lacking.Container
lacks-container t (array ds) other is = cc
lacks-container t (object ms) other is = cc
lacks-container t _ other is = refl

no-integer : (minus : Bool) (n : ℕ) → static_type (integer_node minus n) ≡ kinds.Object → ⊥
no-integer = of-integer_node (λ minus n s. static_type s ≡ kinds.Object → ⊥) (λ n. λ is. cc) (λ n. λ is. cc) (λ n. λ is. cc) (λ n. λ is. cc)

pub object-kind : (d : Document) → value_type d ≡ kinds.Object → is_object d ≡ true
object-kind (object ms) is = refl
object-kind (integer minus n) is = absurd (no-integer minus n is)
object-kind _ is = cc

pub some-left : (p : List ℕ) (i : ℕ) → i < length p → 0 < length (drop i p)
some-left p i inside = omega (arith, length-drop i p)

pub stop-kind : {A : Type 0} (i : ℕ) (d : Document) (e : PointerExpected) (kind : ValueType) → kind ≡ value_type d
    → ◌≡◌ {A = Result A PointerError} (Err (stop i d e)) (Err (record { index = i; expected = e; got = kind }))
stop-kind i d e kind is = ap (λ k. Err (record { index = i; expected = e; got = k })) (sym is)
