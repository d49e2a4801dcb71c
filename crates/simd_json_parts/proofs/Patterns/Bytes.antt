-- Which bytes the lists of a pattern have, and so where a longest prefix ends.
use Rattle.std.proofs.Common.{◌≡◌, refl, sym, ◌∙◌, ap, subst, ℕ, suc, ◌<◌, ◌≤◌, inl, inr, List, [], ◌∷◌, ◌++◌, length, take, Bool}
use Rattle.std.proofs.Common.{true, false, cond, ◌&&◌, ◌||◌, nat_le, arith}
use Rattle.std.specs.List.{concat, All, AllByRecursion, Contains}
use Rattle.std.proofs.lemmas.Bool.{cases_lt, both_ways, agree_below, agree_below_at, and_parts, or_cases, le-leb, cond-true}
use Rattle.std.proofs.lemmas.List.{append-nil, length-append, length-take-le, get_or-take, get_or_append_left}
use Rattle.std.proofs.lemmas.List.Elements.{All-nil, All-cons, All-append, All-same, All-contains, Contains-append_left}
use Rattle.std.proofs.lemmas.List.Elements.{Contains-append_right}
use Rattle.std.proofs.Math.Seq.{take-append_seam}
use Rattle.simd_json_parts.specs.Bytes.{byte_at}
use Rattle.simd_json_parts.specs.Patterns.{Pattern, never, empty, range, ◌then◌, ◌or◌, many, Matches, Begins}
use Rattle.simd_json_parts.specs.Derivatives.{longest_prefix}
use Rattle.simd_json_parts.proofs.Patterns.Sets.{Matches-is_possible, Begins-longest_prefix, longest_prefix-longest, longest_prefix-le}

-- the byte after a prefix
pub byte_at-append : (xs ys : List ℕ) → byte_at (xs ++ ys) (length xs) ≡ byte_at ys 0
byte_at-append [] ys = refl
byte_at-append (x ∷ xs) ys = byte_at-append xs ys

module _ (test : ℕ → Bool) where
  -- the test gives this answer at each number of a range
  abbrev pub gives : Bool → ℕ → ℕ → Bool
  gives answer low high = agree_below (λ c. cond (nat_le low c) (test c) answer) (λ _. answer) (suc high)

  gives-at : (answer : Bool) (low high c : ℕ) → gives answer low high ≡ true → low ≤ c → c ≤ high → test c ≡ answer
  gives-at answer low high c e below above =
      sym (cond-true (nat_le low c) (test c) answer (le-leb low c below))
      ∙ agree_below_at (λ n. cond (nat_le low n) (test n) answer) (λ _. answer) (suc high) c e (omega arith)

  -- No byte of a list of the set passes.
  abbrev pub avoids : Pattern → Bool
  avoids never = true
  avoids empty = true
  avoids (range low high) = gives false low high
  avoids (p then q) = avoids p && avoids q
  avoids (p or q) = avoids p && avoids q
  avoids (many p) = avoids p

  -- Some byte of each list of the set passes.
  abbrev pub needs : Pattern → Bool
  needs never = true
  needs empty = false
  needs (range low high) = gives true low high
  needs (p then q) = needs p || needs q
  needs (p or q) = needs p && needs q
  needs (many p) = false

  abbrev Fails : ℕ → Type 0
  Fails c = test c ≡ false

  All-concat : (p : Pattern) → ((bs : List ℕ) → Matches p bs → All Fails bs)
      → (parts : List (List ℕ)) → AllByRecursion (Matches p) parts → All Fails (concat parts)
  All-concat p each [] all = All-nil Fails
  All-concat p each (x ∷ parts) all = All-append Fails x (concat parts) (each x all.0) (All-concat p each parts all.1)

  pub All-Matches : (p : Pattern) (bs : List ℕ) → avoids p ≡ true → Matches p bs → All Fails bs
  All-Matches never bs a m = absurd m
  All-Matches empty bs a m = All-same Fails bs [] m (All-nil Fails)
  All-Matches (range low high) bs a (c, e, below, above) =
      All-same Fails bs (c ∷ []) e (All-cons Fails c [] (gives-at false low high c a below above) (All-nil Fails))
  All-Matches (p then q) bs a (xs, ys, e, mp, mq) =
      let both : (avoids p ≡ true) × (avoids q ≡ true) = and_parts _ _ a in
      All-same Fails bs (xs ++ ys) e (All-append Fails xs ys (All-Matches p xs both.0 mp) (All-Matches q ys both.1 mq))
  All-Matches (p or q) bs a (inl m) = All-Matches p bs (and_parts (avoids p) (avoids q) a).0 m
  All-Matches (p or q) bs a (inr m) = All-Matches q bs (and_parts (avoids p) (avoids q) a).1 m
  All-Matches (many p) bs a (parts, e, all) = All-same Fails bs (concat parts) e (All-concat p (λ xs. All-Matches p xs a) parts all)

  abbrev Passing : List ℕ → Type 0
  Passing bs = (c : ℕ) × Contains bs c × (test c ≡ true)

  Passing-Matches : (p : Pattern) (bs : List ℕ) → needs p ≡ true → Matches p bs → Passing bs
  Passing-Matches never bs n m = absurd m
  Passing-Matches empty bs n m = cc
  Passing-Matches (range low high) bs n (c, e, below, above) =
      subst Passing (sym e) (c, (0, omega arith, refl), gives-at true low high c n below above)
  Passing-Matches (p then q) bs n (xs, ys, e, mp, mq) =
      elim (or_cases _ _ n) [
        | inl h ↦ let w : Passing xs = Passing-Matches p xs h mp in subst Passing (sym e) (w.0, Contains-append_left xs ys w.0 w.1, w.2)
        | inr h ↦ let w : Passing ys = Passing-Matches q ys h mq in subst Passing (sym e) (w.0, Contains-append_right xs ys w.0 w.1, w.2)
      ]
  Passing-Matches (p or q) bs n (inl m) = Passing-Matches p bs (and_parts (needs p) (needs q) n).0 m
  Passing-Matches (p or q) bs n (inr m) = Passing-Matches q bs (and_parts (needs p) (needs q) n).1 m
  Passing-Matches (many p) bs n m = cc

  -- So no list is of a set that avoids such bytes and of one that needs one.
  pub avoids-needs : (p q : Pattern) (bs : List ℕ) → avoids p ≡ true → needs q ≡ true → Matches p bs → Matches q bs → ⊥
  avoids-needs p q bs a n mp mq =
      let w : Passing bs = Passing-Matches q bs n mq in
      both_ways (test w.0) (All-contains Fails bs w.0 (All-Matches p bs a mp) w.1) w.2

  -- And a list of a set is the longest prefix where a byte that the set avoids stands after it.
  pub longest_prefix-append : (p : Pattern) (xs rest : List ℕ) → avoids p ≡ true → Matches p xs → test (byte_at rest 0) ≡ true
      → longest_prefix p (xs ++ rest) ≡ length xs
  longest_prefix-append p xs rest a m t =
      let bs : List ℕ = xs ++ rest in
      let n : ℕ = longest_prefix p bs in
      let whole : take (length xs) bs ++ [] ≡ xs = append-nil (take (length xs) bs) ∙ take-append_seam xs rest in
      let least : length xs ≤ n =
      longest_prefix-longest p bs (length xs) (omega (arith, length-append xs rest)) ([], subst (Matches p) (sym whole) m) in
      let most : n ≤ length bs = longest_prefix-le p bs in
      elim (cases_lt (length xs) n) [
        | inl l ↦
            let prefix : Begins p (take n bs) = Begins-longest_prefix p bs (Matches-is_possible p xs m) in
            let inside : length xs < length (take n bs) = omega (arith, length-take-le n bs most) in
            let after : byte_at (take n bs ++ prefix.0) (length xs) ≡ byte_at rest 0 =
            get_or_append_left (take n bs) prefix.0 32 (length xs) inside ∙ get_or-take n bs (length xs) 32 l ∙ byte_at-append xs rest in
            let fails : test (byte_at (take n bs ++ prefix.0) (length xs)) ≡ false =
            All-Matches p (take n bs ++ prefix.0) a prefix.1 (length xs) 32 (omega (arith, length-append (take n bs) prefix.0)) in
            absurd (both_ways (test (byte_at rest 0)) (sym (ap test after) ∙ fails) t)
        | inr l ↦ omega arith
      ]
