-- Strings compared with a key as they are written.
use Rattle.std.proofs.Common.{◌≡◌, ◌≢◌, refl, sym, ◌∙◌, ap, subst, ℕ, zero, suc, ◌+◌, ◌-◌, ◌<◌, ◌≤◌, inl, inr, List, [], ◌∷◌, ◌++◌, length}
use Rattle.std.proofs.Common.{take, drop, get_or, Bool, true, false, cond, not, ◌||◌, ◌&&◌, ◌==◌, nat_eq, bytes_eq, ◌%◌, ◌^◌, map, w8}
use Rattle.std.proofs.Common.{arith, Some, None, Option, is_some, option_map}
use Rattle.std.specs.List.{prefix_len}
use Rattle.std.proofs.lemmas.Bool.{cases_Bool, cases_eq, cases_lt, eqb-true, ne_eqb, eq-eqb, false≢true, false_from_ne_true}
use Rattle.std.proofs.lemmas.List.{length-drop, drop-drop, get_or-drop, get_or-take, length-take-le}
use Rattle.std.proofs.lemmas.List.Sums.{prefix_len_stops, prefix_len_passes}
use Rattle.std.proofs.lemmas.Slice.Eq.{bytes_eq-Decides}
use Rattle.simd_json_parts.specs.Bytes.{quote, byte_at}
use Rattle.simd_json_parts.proofs.Pointers.Keys.{no-bytes}
use Rattle.simd_json_parts.specs.StringAt.{closing_quote, read_pieces, string_read, string_at, escape_at}
use Rattle.simd_json_scalars.specs.StringContent.{content, is_plain, is_stop, with_prefix}
use Rattle.simd_json_scalars.proofs.Strings.Content.{content-byte, content-quote, closing_quote-content, string_at-content}
use Rattle.simd_json_scalars.proofs.Strings.Decoding.{Backslash, backslash-first}
use Rattle.simd_json_scalars.proofs.Strings.Pieces.{read_byte}
use Rattle.simd_json_scalars.proofs.Strings.Reader.{content-closed, read_pieces-none}
use Rattle.simd_json_scalars.proofs.Strings.Steps.{PassesPieces, plain-passes, escape-passes, escape-stops}
use Rattle.simd_json_ondemand.proofs.Quoted.{stop-other}
use Rattle.simd_json_ondemand.specs.Keys.{is_key}
use Rattle.simd_json_ondemand.specs.WantedKey.{AgreesTo, IsWanted, key_of, names, read_string}
use lib.Lanes.{zip2, mask_l, top}
use lib.Count.{count_trailing_zeros}
use Rattle.std.proofs.lemmas.Simd.{tops_compared, mask_l-mod, length-zip2, leading_from_mask_l, trailing_mask_l}

-- ---- a string and a key by their first pieces

names-read : (key : List ℕ) (r : List ℕ × List ℕ) (end : ℕ) → is_key key (read_string (string_read r end)) ≡ names key r
names-read key (t, []) end = refl
names-read key (t, x ∷ left) end = refl

-- a common prefix is taken off
names-prefix : (s rest : List ℕ) (r : List ℕ × List ℕ) → names (s ++ rest) (with_prefix s r) ≡ names rest r
names-prefix s rest (t, x ∷ left) = refl
names-prefix s rest (t, []) = go s
  where
    go : (s : List ℕ) → bytes_eq (s ++ t) (s ++ rest) ≡ bytes_eq t rest
    go [] = refl
    go (x ∷ xs) = ap (λ b. b && bytes_eq (xs ++ t) (xs ++ rest)) (eq-eqb x x refl) ∙ go xs

names-other : (key s : List ℕ) (r : List ℕ × List ℕ) → ((rest : List ℕ) → key ≢ s ++ rest) → names key (with_prefix s r) ≡ false
names-other key s (t, x ∷ left) other = refl
names-other key s (t, []) other = false_from_ne_true _ (λ e. other t (sym ((bytes_eq-Decides (s ++ t) key).0 e)))

none-left : (rest : List ℕ) → bytes_eq [] rest ≡ (length rest == 0)
none-left [] = refl
none-left (x ∷ xs) = sym (ne_eqb (length (x ∷ xs)) 0 (λ e. omega (arith, e)))

-- ---- piece by piece

-- what is left of both is compared as the whole
pub record IsCompared (bs key : List ℕ) (from : ℕ) (left : List ℕ) : Type 0 where
  pub same : is_key key (read_string (string_at bs 0)) ≡ names left (read_pieces 0 (content (drop from bs)))
  pub closed : from + length (content (drop from bs)) < length bs

pub names-content : (bs key : List ℕ) → byte_at bs 0 ≡ quote
    → is_key key (read_string (string_at bs 0)) ≡ names key (read_pieces 0 (content (drop 1 bs)))
names-content bs key e = ap (λ r. is_key key (read_string r)) (string_at-content bs 0 e) ∙ names-read key _ _

pub from-quote : (bs key : List ℕ) → byte_at bs 0 ≡ quote → closing_quote bs 0 < length bs → IsCompared bs key 1 key
from-quote bs key e l = record { same = names-content bs key e; closed = omega (arith, l, closing_quote-content bs 0 e) }

module _ (bs key : List ℕ) (from : ℕ) (left : List ℕ) (c : IsCompared bs key from left)
    (end : ℕ) (is : end ≡ from + prefix_len is_plain (drop from bs)) where
  abbrev run : List ℕ
  run = take (end - from) (drop from bs)

  rest-at : drop (prefix_len is_plain (drop from bs)) (drop from bs) ≡ drop end bs
  rest-at = drop-drop (prefix_len is_plain (drop from bs)) from bs ∙ ap (λ k. drop k bs) (sym is)

  passed : PassesPieces (drop from bs) (prefix_len is_plain (drop from bs)) (take (prefix_len is_plain (drop from bs)) (drop from bs))
  passed = plain-passes (drop from bs)

  at-stop : is_key key (read_string (string_at bs 0)) ≡ names left (with_prefix run (read_pieces 0 (content (drop end bs))))
  at-stop =
      let size : prefix_len is_plain (drop from bs) ≡ end - from = omega (arith, is) in
      c.same ∙ ap (names left) passed.read
      ∙ ap (λ us. names left (with_prefix (take (prefix_len is_plain (drop from bs)) (drop from bs)) (read_pieces 0 (content us)))) rest-at
      ∙ ap (λ k. names left (with_prefix (take k (drop from bs)) (read_pieces 0 (content (drop end bs))))) size

  pub stop-closed : end + length (content (drop end bs)) < length bs
  stop-closed = omega (arith, c.closed, is, passed.size, ap (λ us. length (content us)) rest-at)

  stops : is_plain (byte_at bs end) ≡ false
  stops =
      let n : ℕ = prefix_len is_plain (drop from bs) in
      let inside : n < length (drop from bs) = omega (arith, c.closed, passed.size, length-drop from bs) in
      ap (λ i. is_plain (byte_at bs i)) is ∙ ap is_plain (sym (get_or-drop from bs n 32))
      ∙ prefix_len_stops is_plain (drop from bs) 32 inside

  -- another run
  pub other-run : ((rest : List ℕ) → left ≢ run ++ rest) → false ≡ is_key key (read_string (string_at bs 0))
  other-run other = sym (at-stop ∙ names-other left run (read_pieces 0 (content (drop end bs))) other)

  module _ (rest : List ℕ) (more : left ≡ run ++ rest) where
    at-rest : is_key key (read_string (string_at bs 0)) ≡ names rest (read_pieces 0 (content (drop end bs)))
    at-rest = at-stop ∙ ap (λ us. names us (with_prefix run (read_pieces 0 (content (drop end bs))))) more
        ∙ names-prefix run rest (read_pieces 0 (content (drop end bs)))

    here : byte_at (drop end bs) 0 ≡ byte_at bs end
    here = let same : end + 0 ≡ end = omega arith in get_or-drop end bs 0 32 ∙ ap (byte_at bs) same

    pub at-quote : byte_at bs end ≡ 34 → is_key key (read_string (string_at bs 0)) ≡ (length rest == 0)
    at-quote e =
        let none : content (drop end bs) ≡ [] =
        content-closed (drop end bs) (omega (arith, stop-closed, length-drop end bs)) (here ∙ e) in
        at-rest ∙ ap (λ us. names rest (read_pieces 0 us)) none ∙ ap (names rest) read_pieces-none ∙ none-left rest

    module _ (other : byte_at bs end ≢ 34) where
      slash : Backslash (drop end bs)
      slash =
          backslash-first (drop end bs) (omega (arith, stop-closed, length-drop end bs))
          (here ∙ stop-other (byte_at bs end) stops other)

      pub escape-fits : 2 ≤ length (drop end bs)
      escape-fits = omega (arith, ap length slash.is)

      pub other-escape : ((p : List ℕ × ℕ) (left : List ℕ) → escape_at (drop end bs) ≡ Some p → rest ≢ p.0 ++ left)
          → false ≡ is_key key (read_string (string_at bs 0))
      other-escape h = sym (at-rest ∙ go (escape_at (drop end bs)) refl)
        where
          go : (o : Option (List ℕ × ℕ)) → escape_at (drop end bs) ≡ o → names rest (read_pieces 0 (content (drop end bs))) ≡ false
          go None e = ap (λ us. names rest (read_pieces 0 (content us))) slash.is
              ∙ ap (names rest) (escape-stops slash.letter slash.rest (ap escape_at (sym slash.is) ∙ e))
          go (Some p) e =
              let q : PassesPieces (92 ∷ slash.letter ∷ slash.rest) (suc p.1) p.0 =
              escape-passes slash.letter slash.rest p.0 p.1 (ap escape_at (sym slash.is) ∙ e) in
              ap (λ us. names rest (read_pieces 0 (content us))) slash.is ∙ ap (names rest) q.read
              ∙ names-other rest p.0 _ (λ left f. h p left e f)

      pub after-escape : (s : List ℕ) (n : ℕ) (left : List ℕ) → escape_at (drop end bs) ≡ Some (s, n) → rest ≡ s ++ left
          → IsCompared bs key (end + 1 + n) left
      after-escape s n left e f =
          let q : PassesPieces (92 ∷ slash.letter ∷ slash.rest) (suc n) s =
          escape-passes slash.letter slash.rest s n (ap escape_at (sym slash.is) ∙ e) in
          let behind : drop (suc n) (92 ∷ slash.letter ∷ slash.rest) ≡ drop (end + 1 + n) bs =
          (let sum : end + suc n ≡ end + 1 + n = omega arith in
          ap (drop (suc n)) (sym slash.is) ∙ drop-drop (suc n) end bs ∙ ap (λ k. drop k bs) sum) in
          record {
            same =
                at-rest ∙ ap (λ us. names rest (read_pieces 0 (content us))) slash.is ∙ ap (names rest) q.read
                ∙ ap (λ us. names us (with_prefix s (read_pieces 0 (content (drop (suc n) (92 ∷ slash.letter ∷ slash.rest)))))) f
                ∙ names-prefix s left _ ∙ ap (λ us. names left (read_pieces 0 (content us))) behind;
            closed = omega (arith, stop-closed, q.size, ap (λ us. length (content us)) slash.is, ap (λ us. length (content us)) behind);
          }

-- ---- a string and a key, or a token

-- what is left is compared as the key that the whole is
pub record IsRead (token : Bool) (bs written : List ℕ) (from : ℕ) (left : List ℕ) : Type 0 where
  pub key : List ℕ
  pub is : key_of token written ≡ Some key
  pub rest : List ℕ
  pub left_is : key_of token left ≡ Some rest
  pub compared : IsCompared bs key from rest

pub some-of : (o : Option (List ℕ)) → is_some o ≡ true → (k : List ℕ) × (o ≡ Some k)
some-of None is = absurd (false≢true is)
some-of (Some k) is = (k, refl)

pub read-from-quote : (token : Bool) (bs written : List ℕ) → byte_at bs 0 ≡ quote → closing_quote bs 0 < length bs
    → is_some (key_of token written) ≡ true → IsRead token bs written 1 written
read-from-quote token bs written e l formed =
    let k = some-of (key_of token written) formed in
    record { key = k.0; is = k.1; rest = k.0; left_is = k.1; compared = from-quote bs k.0 e l }

-- whichever key it is said to be
pub written-is : (o : Option (List ℕ)) (key : List ℕ) (r : Option (List ℕ)) (b : Bool) → o ≡ Some key → b ≡ is_key key r
    → (k : List ℕ) → o ≡ Some k → b ≡ is_key k r
written-is o key r b is test k named = let same : key ≡ k = cc in test ∙ ap (λ x. is_key x r) same

-- a prefix that is taken off what is written is one of the key
pub key-split : (rest xs : List ℕ) (left others : Option (List ℕ)) → left ≡ Some rest → left ≡ option_map (λ k. xs ++ k) others
    → (k : List ℕ) × (others ≡ Some k) × (rest ≡ xs ++ k)
key-split rest xs left others is split = go others (sym split ∙ is)
  where
    go : (o : Option (List ℕ)) → option_map (λ k. xs ++ k) o ≡ Some rest → (k : List ℕ) × (o ≡ Some k) × (rest ≡ xs ++ k)
    go None none = cc
    go (Some k) some = let same : xs ++ k ≡ rest = cc in (k, refl, sym same)

pub key-other : (rest xs : List ℕ) (left : Option (List ℕ)) → left ≡ Some rest → ((k : List ℕ) → left ≡ Some (xs ++ k) → ⊥)
    → (k : List ℕ) → rest ≢ xs ++ k
key-other rest xs left is never k e = never k (is ∙ ap Some e)

pub both-empty : (token : Bool) (t k : List ℕ) → key_of token t ≡ Some k → (length t == 0) ≡ (length k == 0)
both-empty false t k is = let same : t ≡ k = cc in ap (λ xs. length xs == 0) same
both-empty true [] [] is = refl
both-empty true [] (x ∷ k) is = cc
both-empty true (c ∷ t) [] is = let none : c ∷ t ≡ [] = no-bytes (c ∷ t) is in cc
both-empty true (c ∷ t) (x ∷ k) is =
    ne_eqb (suc (length t)) 0 (λ e. omega (arith, e)) ∙ sym (ne_eqb (suc (length k)) 0 (λ e. omega (arith, e)))

-- ---- a key that is written as it is

plain-is : (c : ℕ) → is_plain c ≡ true → (nat_eq c 34 ≡ false) × (nat_eq c 92 ≡ false)
plain-is c h = go (nat_eq c 34) (nat_eq c 92) h
  where
    go : (t u : Bool) → not (t || u) ≡ true → (t ≡ false) × (u ≡ false)
    go true u e = absurd (false≢true e)
    go false true e = absurd (false≢true e)
    go false false e = (refl, refl)

-- a byte that stands for itself
read-plain : (x : ℕ) (xs : List ℕ) → nat_eq x 34 ≡ false → nat_eq x 92 ≡ false
    → read_pieces 0 (content (x ∷ xs)) ≡ with_prefix (x ∷ []) (read_pieces 0 (content xs))
read-plain x xs q s = ap (read_pieces 0) (content-byte x xs q s) ∙ read_byte x (content xs) s

names-byte : (c x : ℕ) (cs xs : List ℕ) → x ≡ c → nat_eq c 34 ≡ false → nat_eq c 92 ≡ false
    → names (c ∷ cs) (read_pieces 0 (content (x ∷ xs))) ≡ names cs (read_pieces 0 (content xs))
names-byte c x cs xs e q s =
    ap (λ y. names (c ∷ cs) (read_pieces 0 (content (y ∷ xs)))) e ∙ ap (names (c ∷ cs)) (read-plain c xs q s)
    ∙ names-prefix (c ∷ []) cs (read_pieces 0 (content xs))

-- the first byte that differs is no backslash
pub differs : (k : ℕ) (key us : List ℕ) → ((j : ℕ) → j < k → is_plain (get_or key j 34) ≡ true) → k < length us → k ≤ length key
    → ((j : ℕ) → j < k → get_or us j 0 ≡ get_or key j 34) → get_or us k 0 ≢ get_or key k 34 → get_or us k 0 ≢ 92
    → names key (read_pieces 0 (content us)) ≡ false
differs k key [] plain l m same other plain_too = absurd (omega arith)
differs zero [] (x ∷ xs) plain l m same other plain_too =
    ap (names []) (read-plain x xs (ne_eqb x 34 other) (ne_eqb x 92 plain_too))
    ∙ names-other [] (x ∷ []) (read_pieces 0 (content xs)) (λ rest e. cc)
differs zero (c ∷ cs) (x ∷ xs) plain l m same other plain_too = elim (cases_eq x 34) [
  | inl e ↦ ap (λ y. names (c ∷ cs) (read_pieces 0 (content (y ∷ xs)))) e
      ∙ ap (λ us. names (c ∷ cs) (read_pieces 0 us)) (content-quote xs) ∙ ap (names (c ∷ cs)) read_pieces-none
  | inr q ↦
      ap (names (c ∷ cs)) (read-plain x xs (ne_eqb x 34 q) (ne_eqb x 92 plain_too))
      ∙ names-other (c ∷ cs) (x ∷ []) (read_pieces 0 (content xs)) (λ rest e. other (sym (ap (λ us. get_or us 0 0) e)))
]
differs (suc k) [] (x ∷ xs) plain l m same other plain_too = absurd (omega arith)
differs (suc k) (c ∷ cs) (x ∷ xs) plain l m same other plain_too =
    let p = plain-is c (plain 0 (omega arith)) in
    names-byte c x cs xs (same 0 (omega arith)) p.0 p.1
    ∙ differs k cs xs (λ j h. plain (suc j) (omega (arith, h))) (omega arith) (omega arith)
    (λ j h. same (suc j) (omega arith)) other plain_too

-- none differs, up to the quote
pub agrees : (key us : List ℕ) → ((j : ℕ) → j < length key → is_plain (get_or key j 34) ≡ true) → length key < length us
    → ((j : ℕ) → j ≤ length key → get_or us j 0 ≡ get_or key j 34) → names key (read_pieces 0 (content us)) ≡ true
agrees key [] plain l same = absurd (omega arith)
agrees [] (x ∷ xs) plain l same =
    ap (λ y. names [] (read_pieces 0 (content (y ∷ xs)))) (same 0 (omega arith))
    ∙ ap (λ us. names [] (read_pieces 0 us)) (content-quote xs) ∙ ap (names []) read_pieces-none
agrees (c ∷ cs) (x ∷ xs) plain l same =
    let p = plain-is c (plain 0 (omega arith)) in
    names-byte c x cs xs (same 0 (omega arith)) p.0 p.1
    ∙ agrees cs xs (λ j h. plain (suc j) (omega (arith, h))) (omega arith) (λ j h. same (suc j) (omega arith))

-- ---- eight bytes at once

abbrev ne : ℕ → ℕ → Bool
ne a b = not (nat_eq a b)

abbrev ahead : List Bool → ℕ
ahead = prefix_len (λ t. not t)

agrees-to : (xs ys : List ℕ) → length xs ≡ length ys → AgreesTo xs ys (ahead (zip2 ne xs ys))
agrees-to [] ys l = record { bound = omega arith; same = λ j h. absurd (omega (arith, h)); other = λ h. absurd (omega (arith, h)) }
agrees-to (x ∷ xs) [] l = absurd (omega arith)
agrees-to (x ∷ xs) (y ∷ ys) l = elim (cases_Bool (nat_eq x y)) [
  | inl e ↦
      let k : ℕ = ahead (zip2 ne xs ys) in
      let size : suc k ≡ ahead (zip2 ne (x ∷ xs) (y ∷ ys)) = omega (arith, ap (λ t. cond (not (not t)) (1 + k) 0) e) in
      subst (AgreesTo (x ∷ xs) (y ∷ ys)) size (longer x y xs ys k (eqb-true x y e) (agrees-to xs ys (omega arith)))
  | inr e ↦
      let size : 0 ≡ ahead (zip2 ne (x ∷ xs) (y ∷ ys)) = sym (ap (λ t. cond (not (not t)) (1 + ahead (zip2 ne xs ys)) 0) e) in
      subst (AgreesTo (x ∷ xs) (y ∷ ys)) size (record {
        bound = omega arith;
        same = λ j h. absurd (omega (arith, h));
        other = λ h f. false≢true (sym e ∙ eq-eqb x y f);
      })
]
  where
    longer : (x y : ℕ) (xs ys : List ℕ) (k : ℕ) → x ≡ y → AgreesTo xs ys k → AgreesTo (x ∷ xs) (y ∷ ys) (suc k)
    longer x y xs ys k e a = record { bound = omega (arith, a.bound); same = first; other = λ h. a.other (omega (arith, h)) }
      where
        first : (j : ℕ) → j < suc k → get_or (x ∷ xs) j 0 ≡ get_or (y ∷ ys) j 0
        first zero h = e
        first (suc j) h = a.same j (omega (arith, h))

all-of : (ms : List Bool) → map (λ t. t) ms ≡ ms
all-of [] = refl
all-of (m ∷ ms) = ap (λ l. m ∷ l) (all-of ms)

-- the word of the lanes that differ
module _ (xs ys : List ℕ) (long : length xs ≡ 8) (too : length ys ≡ 8) where
  abbrev word : ℕ
  word = mask_l (map (top 7) (zip2 (λ a b. cond (ne a b) (2 ^ 8 - 1) 0) xs ys)) % 2 ^ 64

  size : length (zip2 ne xs ys) ≡ 8
  size = length-zip2 ne xs ys (long ∙ sym too) ∙ long

  word-is : word ≡ mask_l (map (λ t. t) (zip2 ne xs ys))
  word-is = ap (λ ms. mask_l ms % 2 ^ 64) (tops_compared w8 ne xs ys) ∙ mask_l-mod (zip2 ne xs ys) 64 (omega (arith, size))
      ∙ ap mask_l (sym (all-of (zip2 ne xs ys)))

  pub none-differs : word ≡ 0 → AgreesTo xs ys 8
  none-differs e =
      subst (AgreesTo xs ys) (leading_from_mask_l (λ t. t) (zip2 ne xs ys) (sym word-is ∙ e) ∙ size) (agrees-to xs ys (long ∙ sym too))

  pub first-differs : (word ≡ 0 → ⊥) → AgreesTo xs ys (count_trailing_zeros 64 word)
  first-differs ne0 =
      let m : ℕ = mask_l (map (λ t. t) (zip2 ne xs ys)) in
      let some : 0 < m = omega (arith, (λ (e : m ≡ 0). ne0 (word-is ∙ e))) in
      let place : count_trailing_zeros 64 word ≡ ahead (zip2 ne xs ys) =
      ap (count_trailing_zeros 64) word-is ∙ trailing_mask_l (λ t. t) 64 (zip2 ne xs ys) (omega (arith, size)) some in
      subst (AgreesTo xs ys) (sym place) (agrees-to xs ys (long ∙ sym too))

-- ---- a key and its first eight bytes

-- where stops are none, or none is before
module _ (bs : List ℕ) (long : length bs ≡ 8) where
  passes : (n : ℕ) → n ≡ prefix_len (λ c. not (is_stop c)) bs → (k : ℕ) → k < n → is_plain (get_or bs k 0) ≡ true
  passes n is k l = prefix_len_passes (λ c. not (is_stop c)) bs k 0 (omega (arith, is, l))

  pub no-stop : mask_l (map is_stop bs) ≡ 0 → (k : ℕ) → k < 8 → is_plain (get_or bs k 0) ≡ true
  no-stop e = passes 8 (sym (leading_from_mask_l is_stop bs e ∙ long))

  pub before-stop : (mask_l (map is_stop bs) ≡ 0 → ⊥) → (k : ℕ) → k < count_trailing_zeros 64 (mask_l (map is_stop bs))
      → is_plain (get_or bs k 0) ≡ true
  before-stop ne0 =
      let some : 0 < mask_l (map is_stop bs) = omega (arith, ne0) in
      passes (count_trailing_zeros 64 (mask_l (map is_stop bs))) (trailing_mask_l is_stop 64 bs (omega (arith, long)) some)

module _ (bs key first : List ℕ) (plain : Bool) (made : IsWanted key first plain) (is : plain ≡ true) (long : 9 ≤ length bs)
    (opening : byte_at bs 0 ≡ quote) (k : ℕ) (a : AgreesTo (take 8 (drop 1 bs)) first k) where
  lane : (j : ℕ) → j < 8 → get_or (take 8 (drop 1 bs)) j 0 ≡ get_or (drop 1 bs) j 0
  lane j l = get_or-take 8 (drop 1 bs) j 0 l

  same-lane : (j : ℕ) → j < 8 → j < k → get_or (drop 1 bs) j 0 ≡ get_or key j 34
  same-lane j l m = sym (lane j l) ∙ a.same j m ∙ made.lanes j l

  pub not-key : k < 8 → k ≤ length key → get_or bs (1 + k) 0 ≢ 92 → false ≡ is_key key (read_string (string_at bs 0))
  not-key l m other =
      let taken : length (take 8 (drop 1 bs)) ≡ 8 = length-take-le 8 (drop 1 bs) (omega (arith, length-drop 1 bs)) in
      sym (names-content bs key opening ∙ differs k key (drop 1 bs)
      (λ j n. made.plain_key is j (omega (arith, n)) (omega (arith, n, m))) (omega (arith, length-drop 1 bs)) m
      (λ j n. same-lane j (omega (arith, n)) n)
      (λ e. a.other (omega (arith, taken)) (lane k l ∙ e ∙ sym (made.lanes k l)))
      (λ e. other (sym (get_or-drop 1 bs k 0) ∙ e)))

  pub the-key : (k < 8 → k ≤ length key → ⊥) → length key < 8 → true ≡ is_key key (read_string (string_at bs 0))
  the-key none short =
      let beyond : (j : ℕ) → j ≤ length key → j < k =
      λ j l. elim (cases_lt j k) [ inl m ↦ m | inr m ↦ absurd (none (omega (arith, l)) (omega (arith, l))) ] in
      sym (names-content bs key opening ∙ agrees key (drop 1 bs)
      (λ j n. made.plain_key is j (omega (arith, n)) n) (omega (arith, length-drop 1 bs))
      (λ j l. same-lane j (omega (arith, l)) (beyond j l)))
