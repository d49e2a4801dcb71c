-- Counting brackets ends where the descent does: from the first token of a value to the first after it, and from
-- the first token inside a container to the first after its closing bracket.
use Rattle.std.proofs.Common.{◌≡◌, refl, sym, ◌∙◌, ap, subst, ℕ, zero, suc, ◌+◌, ◌-◌, ◌<◌, ◌≤◌, get_or, Bool, true, false, ◌||◌, ◌&&◌, ◌==◌}
use Rattle.std.proofs.Common.{nat_le, cond, List, [], ◌∷◌, length, drop, arith, Result, Ok, Err, IfOk, length-drop, get_or-drop, drop-drop}
use Rattle.std.proofs.lemmas.Bool.{cond_both, eqb-true, false≢true}
use Rattle.simd_json_parts.specs.Bytes.{byte_at, is_closing, is_opening}
use Rattle.simd_json_parts.specs.Document.{Document, array, object, Elements, Members}
use Rattle.simd_json_parts.specs.Tokens.{Token, Form, begin_array, end_array, begin_object, end_object, name_separator, value_separator}
use Rattle.simd_json_parts.specs.Tokens.{string_token, scalar, form_at}
use Rattle.simd_json_parts.specs.TokensAlong.{goes_on, tokens_along}
use Rattle.simd_json_parts.specs.Descent.{◌>>=◌, Reads, after_element, element_end, elements_from, elements_by, first_element, array_from}
use Rattle.simd_json_parts.specs.Descent.{name_of, name_from, after_name, name_end, after_member, member_end, members_from, members_by}
use Rattle.simd_json_parts.specs.Descent.{first_member, object_from, value_of, value_with, too_deep, value_from}
use Rattle.simd_json_parts.specs.declared.error.Error.{Error}
use Rattle.simd_json_parts.specs.declared.error.ErrorType.{ErrorType}
use Rattle.simd_json_parts.specs.declared.error.ErrorType.TheVariants.{ExpectedObjectKey, ExpectedObjectContent}
use Rattle.simd_json_ondemand.specs.Closing.{open_after, closed_at, first_bytes, span}

-- ---- a form and what its byte does to the count

-- how many are open after a token of this form, where suc n are before it
abbrev pub form_after : ℕ → Form → ℕ
form_after n begin_array = suc (suc n)
form_after n begin_object = suc (suc n)
form_after n end_array = n
form_after n end_object = n
form_after n _ = suc n

open_after-other : (n c : ℕ) → (c == 91) ≡ false → (c == 93) ≡ false → (c == 123) ≡ false → (c == 125) ≡ false → open_after n c ≡ suc n
open_after-other n c e f g h =
    ap (λ t. cond (t || (c == 123)) (suc (suc n)) (cond ((c == 93) || (c == 125)) n (suc n))) e
    ∙ ap (λ t. cond t (suc (suc n)) (cond ((c == 93) || (c == 125)) n (suc n))) g
    ∙ ap (λ t. cond (t || (c == 125)) n (suc n)) f
    ∙ ap (λ t. cond t n (suc n)) h

-- where none is open nothing is passed
closed_at-none : (cs : List ℕ) → closed_at 0 cs ≡ 0
unfolding closed_at
closed_at-none [] = refl
closed_at-none (c ∷ cs) = refl

opens : (c : ℕ) → open_after 0 c ≡ 2 → is_opening c ≡ true
opens c e = go (is_opening c) (is_closing c) e
  where
    go : (s t : Bool) → cond {A = ℕ} s 2 (cond t 0 1) ≡ 2 → s ≡ true
    go true t e = refl
    go false true e = absurd (omega arith)
    go false false e = absurd (omega arith)

opens_not : (c : ℕ) → open_after 0 c ≤ 1 → is_opening c ≡ false
opens_not c l = go (is_opening c) (is_closing c) l
  where
    go : (s t : Bool) → cond {A = ℕ} s 2 (cond t 0 1) ≤ 1 → s ≡ false
    go true t l = absurd (omega arith)
    go false t l = refl

closes : (c : ℕ) → open_after 0 c ≡ 0 → is_closing c ≡ true
closes c e = go (is_opening c) (is_closing c) e
  where
    go : (s t : Bool) → cond {A = ℕ} s 2 (cond t 0 1) ≡ 0 → t ≡ true
    go true t e = absurd (omega arith)
    go false true e = refl
    go false false e = absurd (omega arith)

module _ (b : List ℕ) where
  pub form-after : (n i : ℕ) → open_after n (byte_at b i) ≡ form_after n (form_at b i)
  unfolding form_at
  form-after n i =
      cond_both (x == 91) _ _ Same (λ e. ap (open_after n) (eqb-true x 91 e)) (λ e.
      cond_both (x == 93) _ _ Same (λ f. ap (open_after n) (eqb-true x 93 f)) (λ f.
      cond_both (x == 123) _ _ Same (λ g. ap (open_after n) (eqb-true x 123 g)) (λ g.
      cond_both (x == 125) _ _ Same (λ h. ap (open_after n) (eqb-true x 125 h)) (λ h.
      let other : open_after n x ≡ suc n = open_after-other n x e f g h in
      cond_both (x == 58) _ _ Same (λ _. other) (λ _.
      cond_both (x == 44) _ _ Same (λ _. other) (λ _.
      cond_both (x == 34) _ _ Same (λ _. other) (λ _.
      cond_both ((x == 116) || (x == 102) || (x == 110)) _ _ Same (λ _. other) (λ _.
      cond_both ((x == 45) || (nat_le 48 x && nat_le x 57)) _ _ Same (λ _. other) (λ _. other)))))))))
    where
      x : ℕ
      x = byte_at b i

      Same : Form → Type 0
      Same form = open_after n x ≡ form_after n form

-- ---- tokens that are passed

-- The first of these indexes are passed, and tokens go on at the next. Where suc k containers are open before, `after k`
-- are afterwards, and not fewer between.
module _ (b : List ℕ) where
  pub record Passed (after : ℕ → ℕ) (is : List ℕ) (rest : List Token) : Type 0 where
    pub count : ℕ
    pub within : count ≤ length is
    pub along : rest ≡ tokens_along b (drop count is)
    pub counted : (k : ℕ) → closed_at (suc k) (first_bytes b is) ≡ count + closed_at (after k) (first_bytes b (drop count is))
    -- where a container is closed, by the last of them
    pub closed : after 0 ≡ 0 → (0 < count) × (is_closing (byte_at b (get_or is (count - 1) 0)) ≡ true)

  -- all that was passed and more
  and_then : (after : ℕ → ℕ) (is : List ℕ) (mid rest : List Token) (p : Passed suc is mid) → Passed after (drop p.count is) rest
      → Passed after is rest
  and_then after is mid rest p q =
      let same : drop q.count (drop p.count is) ≡ drop (p.count + q.count) is = drop-drop q.count p.count is in
      record {
        count = p.count + q.count;
        within = omega (arith, q.within, p.within, length-drop p.count is);
        along = q.along ∙ ap (tokens_along b) same;
        counted = λ k. let here = p.counted k in let there = q.counted k in
            let e : closed_at (after k) (first_bytes b (drop q.count (drop p.count is)))
            ≡ closed_at (after k) (first_bytes b (drop (p.count + q.count) is)) =
            ap (λ js. closed_at (after k) (first_bytes b js)) same in
            omega arith;
        closed = λ z. let last = q.closed z in
            let here : p.count + (q.count - 1) ≡ p.count + q.count - 1 = omega (arith, last.0) in (
              omega (arith, last.0),
              ap (λ j. is_closing (byte_at b j)) (sym (get_or-drop p.count is (q.count - 1) 0 ∙ ap (λ n. get_or is n 0) here)) ∙ last.1,
            );
      }

  -- one token
  one : (after : ℕ → ℕ) (i : ℕ) (is : List ℕ) → ((k : ℕ) → form_after k (form_at b i) ≡ after k)
      → Passed after (i ∷ is) (tokens_along b is)
  unfolding closed_at
  one after i is e = record {
    count = 1;
    within = omega arith;
    along = refl;
    counted = λ k. let same : closed_at (open_after k (byte_at b i)) (first_bytes b is) ≡ closed_at (after k) (first_bytes b is) =
        ap (λ n. closed_at n (first_bytes b is)) (form-after b k i ∙ e k) in
        omega arith;
    closed = λ z. (omega arith, closes (byte_at b i) (form-after b 0 i ∙ e 0 ∙ z));
  }

  -- a container, from its opening bracket on
  enclosed : (i : ℕ) (is : List ℕ) (rest : List Token) → ((k : ℕ) → form_after k (form_at b i) ≡ suc (suc k))
      → Passed (λ k. k) is rest → Passed suc (i ∷ is) rest
  unfolding closed_at
  enclosed i is rest e p = record {
    count = suc p.count;
    within = omega (arith, p.within);
    along = p.along;
    counted = λ k. let inner = p.counted (suc k) in
        let same : closed_at (open_after k (byte_at b i)) (first_bytes b is) ≡ closed_at (suc (suc k)) (first_bytes b is) =
        ap (λ n. closed_at n (first_bytes b is)) (form-after b k i ∙ e k) in
        omega arith;
    closed = λ z. absurd (let no : 1 ≡ 0 = z in omega arith);
  }

  -- ---- readers

  -- what a reader leaves is known to the count
  abbrev pub Skips : {A : Type 0} → (ℕ → ℕ) → List ℕ → Result (A × List Token) Error → Type 0
  Skips after is r = IfOk r (λ p. Passed after is p.1)

  further : {A : Type 0} (after : ℕ → ℕ) (is : List ℕ) (mid : List Token) (p : Passed suc is mid) (r : Result (A × List Token) Error)
      → Skips after (drop p.count is) r → Skips after is r
  further after is mid p (Ok (y, rest)) q = and_then after is mid rest p q
  further after is mid p (Err e) q = tt

  -- after one token
  next : {A : Type 0} (after : ℕ → ℕ) (i : ℕ) (is : List ℕ) (r : Result (A × List Token) Error)
      → ((k : ℕ) → form_after k (form_at b i) ≡ suc k) → Skips after is r → Skips after (i ∷ is) r
  unfolding one
  next after i is r e q = further after (i ∷ is) (tokens_along b is) (one suc i is e) r q

  -- a reader that passes tokens, and what goes on from there
  in_turn : {A B : Type 0} (after : ℕ → ℕ) (is : List ℕ) (r : Result (A × List Token) Error) (f : A × List Token
      → Result (B × List Token) Error)
      → Skips suc is r → ((x : A) (js : List ℕ) → Skips after js (f (x, tokens_along b js))) → Skips after is (r >>= f)
  in_turn after is (Err e) f p step = tt
  in_turn after is (Ok (x, mid)) f p step =
      further after is mid p (f (x, mid)) (subst (λ ts. Skips after (drop p.count is) (f (x, ts))) (sym p.along)
      (step x (drop p.count is)))

  -- what is made of it changes nothing
  made : {A B : Type 0} (after : ℕ → ℕ) (is : List ℕ) (r : Result (A × List Token) Error) (f : A → B)
      → Skips after is r → Skips after is (r >>= λ x. Ok (f x.0, x.1))
  made after is (Ok (x, rest)) f p = p
  made after is (Err e) f p = tt

  -- ---- values

  -- a value takes its span
  pub record Spanned (is : List ℕ) (rest : List Token) : Type 0 where
    pub passed : Passed suc is rest
    pub whole : passed.count ≡ span b is
    pub ended : is_opening (byte_at b (get_or is 0 0)) ≡ true → is_closing (byte_at b (get_or is (span b is - 1) 0)) ≡ true

  abbrev pub Spans : List ℕ → Result (Document × List Token) Error → Type 0
  Spans is r = IfOk r (λ p. Spanned is p.1)

  pub passes : (is : List ℕ) (r : Result (Document × List Token) Error) → Spans is r → Skips suc is r
  passes is (Ok x) s = s.passed
  passes is (Err e) s = tt

  -- a value of one token
  alone : (i : ℕ) (is : List ℕ) → ((k : ℕ) → form_after k (form_at b i) ≡ suc k) → Spanned (i ∷ is) (tokens_along b is)
  unfolding one
  alone i is e = record {
    passed = one suc i is e;
    whole = sym (ap (λ t. cond t (suc (closed_at 1 (first_bytes b is))) 1)
        (opens_not (byte_at b i) (let f = form-after b 0 i ∙ e 0 in omega arith)));
    ended = λ o. absurd (false≢true (sym (opens_not (byte_at b i) (let f = form-after b 0 i ∙ e 0 in omega arith)) ∙ o));
  }

  -- a container
  bracketed : {A : Type 0} (i : ℕ) (is : List ℕ) (r : Result (A × List Token) Error) (f : A → Document)
      → ((k : ℕ) → form_after k (form_at b i) ≡ suc (suc k)) → Skips (λ k. k) is r
      → Spans (i ∷ is) (r >>= λ x. Ok (f x.0, x.1))
  unfolding enclosed
  bracketed i is (Err g) f e q = tt
  bracketed i is (Ok (x, rest)) f e q =
      let inner = q.counted 0 in
      let none = closed_at-none (first_bytes b (drop q.count is)) in
      let same : suc q.count ≡ suc (closed_at 1 (first_bytes b is)) = omega arith in
      let all : suc q.count ≡ span b (i ∷ is) =
      same ∙ sym (ap (λ t. cond t (suc (closed_at 1 (first_bytes b is))) 1) (opens (byte_at b i) (form-after b 0 i ∙ e 0))) in
      let last = q.closed refl in
      let next : suc (q.count - 1) ≡ span b (i ∷ is) - 1 = omega (arith, all, last.0) in
      record {
        passed = enclosed i is rest e q;
        whole = all;
        ended = λ o. ap (λ n. is_closing (byte_at b (get_or (i ∷ is) n 0))) (sym next) ∙ last.1;
      }

  module _ (missing : Error) where
    module _ (value : Reads Document) (skips : (is : List ℕ) → Skips suc is (value (tokens_along b is))) where
      -- ---- arrays

      element_end-skips : (more : Reads Elements) → ((is : List ℕ) → Skips (λ k. k) is (more (tokens_along b is))) → (is : List ℕ)
          → Skips (λ k. k) is (element_end b missing (tokens_along b is) more)
      element_end-skips more goes [] = tt
      element_end-skips more goes (i ∷ is) = go (form_at b i) refl
        where
          go : (form : Form) → form_at b i ≡ form → Skips (λ k. k) (i ∷ is)
              (after_element b missing (record { index = i; form = form_at b i }) form (cond (goes_on form) (tokens_along b is) []) more)
          go value_separator e = next (λ k. k) i is (more (tokens_along b is)) (λ k. ap (form_after k) e) (goes is)
          go end_array e = one (λ k. k) i is (λ k. ap (form_after k) e)
          go _ e = tt

      elements_from-skips : (turns : ℕ) (is : List ℕ) → Skips (λ k. k) is (elements_from b missing value turns (tokens_along b is))
      unfolding elements_from
      elements_from-skips zero is = tt
      elements_from-skips (suc turns) is =
          in_turn (λ k. k) is (value (tokens_along b is)) _ (skips is)
          (λ first js. made (λ k. k) js (element_end b missing (tokens_along b js) (elements_from b missing value turns)) _
          (element_end-skips (elements_from b missing value turns) (elements_from-skips turns) js))

      pub array_from-skips : (is : List ℕ) → Skips (λ k. k) is (array_from b missing value (tokens_along b is))
      array_from-skips [] = tt
      array_from-skips (i ∷ is) = go (form_at b i) refl
        where
          all : List Token
          all = tokens_along b (i ∷ is)

          go : (form : Form) → form_at b i ≡ form → Skips (λ k. k) (i ∷ is)
              (first_element b missing form all (cond (goes_on form) (tokens_along b is) []) (elements_by b missing value))
          go end_array e = one (λ k. k) i is (λ k. ap (form_after k) e)
          go _ e = elements_from-skips (length all) (i ∷ is)

      -- ---- objects

      name_from-skips : (kind : ErrorType) (is : List ℕ) → Skips suc is (name_from b missing kind (tokens_along b is))
      name_from-skips kind [] = tt
      name_from-skips kind (i ∷ is) = go (form_at b i) refl
        where
          go : (form : Form) → form_at b i ≡ form → Skips suc (i ∷ is)
              (name_of b missing kind (record { index = i; form = form_at b i }) form >>= λ name.
              Ok (name.0, cond (goes_on form) (tokens_along b is) []))
          go (string_token (Ok s)) e = one suc i is (λ k. ap (form_after k) e)
          go (string_token (Err f)) e = tt
          go _ e = tt

      -- tokens alone are read
      name_end-skips : (is : List ℕ) → IfOk (name_end b missing (tokens_along b is)) (Passed suc is)
      name_end-skips [] = tt
      name_end-skips (i ∷ is) = go (form_at b i) refl
        where
          go : (form : Form) → form_at b i ≡ form → IfOk
              (after_name b missing (record { index = i; form = form_at b i }) form (cond (goes_on form) (tokens_along b is) []))
              (Passed suc (i ∷ is))
          go name_separator e = one suc i is (λ k. ap (form_after k) e)
          go _ e = tt

      member_end-skips : (more : Reads Members) → ((is : List ℕ) → Skips (λ k. k) is (more (tokens_along b is))) → (is : List ℕ)
          → Skips (λ k. k) is (member_end b missing (tokens_along b is) more)
      member_end-skips more goes [] = tt
      member_end-skips more goes (i ∷ is) = go (form_at b i) refl
        where
          go : (form : Form) → form_at b i ≡ form → Skips (λ k. k) (i ∷ is)
              (after_member b missing (record { index = i; form = form_at b i }) form (cond (goes_on form) (tokens_along b is) []) more)
          go value_separator e = next (λ k. k) i is (more (tokens_along b is)) (λ k. ap (form_after k) e) (goes is)
          go end_object e = one (λ k. k) i is (λ k. ap (form_after k) e)
          go _ e = tt

      colon_passed : {B : Type 0} (is : List ℕ) (r : Result (List Token) Error) (f : List Token → Result (B × List Token) Error)
          → IfOk r (Passed suc is) → ((js : List ℕ) → Skips (λ k. k) js (f (tokens_along b js))) → Skips (λ k. k) is (r >>= f)
      colon_passed is (Err e) f p step = tt
      colon_passed is (Ok mid) f p step =
          further (λ k. k) is mid p (f mid) (subst (λ ts. Skips (λ k. k) (drop p.count is) (f ts)) (sym p.along)
          (step (drop p.count is)))

      members_from-skips : (turns : ℕ) (kind : ErrorType) (is : List ℕ)
          → Skips (λ k. k) is (members_from b missing value turns kind (tokens_along b is))
      unfolding members_from
      members_from-skips zero kind is = tt
      members_from-skips (suc turns) kind is =
          in_turn (λ k. k) is (name_from b missing kind (tokens_along b is)) _ (name_from-skips kind is)
          (λ name js. colon_passed js (name_end b missing (tokens_along b js)) _ (name_end-skips js)
          (λ ks. in_turn (λ k. k) ks (value (tokens_along b ks)) _ (skips ks)
          (λ first ls. made (λ k. k) ls (member_end b missing (tokens_along b ls) (members_from b missing value turns ExpectedObjectKey)) _
          (member_end-skips (members_from b missing value turns ExpectedObjectKey) (members_from-skips turns ExpectedObjectKey) ls))))

      pub object_from-skips : (is : List ℕ) → Skips (λ k. k) is (object_from b missing value (tokens_along b is))
      object_from-skips [] = tt
      object_from-skips (i ∷ is) = go (form_at b i) refl
        where
          all : List Token
          all = tokens_along b (i ∷ is)

          go : (form : Form) → form_at b i ≡ form → Skips (λ k. k) (i ∷ is)
              (first_member b missing form all (cond (goes_on form) (tokens_along b is) [])
              (members_by b missing value ExpectedObjectContent))
          go end_object e = one (λ k. k) i is (λ k. ap (form_after k) e)
          go _ e = members_from-skips (length all) ExpectedObjectContent (i ∷ is)

    -- ---- values

    value_with-spans : (arrays : Token → Reads Elements) (objects : Token → Reads Members)
        → ((t : Token) (is : List ℕ) → Skips (λ k. k) is (arrays t (tokens_along b is)))
        → ((t : Token) (is : List ℕ) → Skips (λ k. k) is (objects t (tokens_along b is)))
        → (is : List ℕ) → Spans is (value_with b missing arrays objects (tokens_along b is))
    value_with-spans arrays objects a o [] = tt
    value_with-spans arrays objects a o (i ∷ is) = go (form_at b i) refl
      where
        t : Token
        t = record { index = i; form = form_at b i }

        go : (form : Form) → form_at b i ≡ form → Spans (i ∷ is)
            (value_of b missing arrays objects t form (cond (goes_on form) (tokens_along b is) []))
        go begin_array e = bracketed i is (arrays t (tokens_along b is)) array (λ k. ap (form_after k) e) (a t is)
        go begin_object e = bracketed i is (objects t (tokens_along b is)) object (λ k. ap (form_after k) e) (o t is)
        go (string_token (Ok s)) e = alone i is (λ k. ap (form_after k) e)
        go (string_token (Err f)) e = tt
        go (scalar (Ok s)) e = alone i is (λ k. ap (form_after k) e)
        go (scalar (Err f)) e = tt
        go _ e = tt

    -- What is read as a value takes its span.
    pub value_from-spans : (levels : ℕ) (is : List ℕ) → Spans is (value_from b missing levels (tokens_along b is))
    unfolding value_from
    value_from-spans zero is = value_with-spans (too_deep b missing) (too_deep b missing) (λ t js. tt) (λ t js. tt) is
    value_from-spans (suc levels) is =
        let skips = λ (js : List ℕ). passes js (value_from b missing levels (tokens_along b js)) (value_from-spans levels js) in
        value_with-spans _ _ (λ t js. array_from-skips (value_from b missing levels) skips js)
        (λ t js. object_from-skips (value_from b missing levels) skips js) is
