-- The tests on patterns agree with the sets that the patterns are, and the longest prefix is longest.
use Rattle.std.proofs.Common.{◌≡◌, refl, sym, ◌∙◌, ap, subst, ℕ, zero, suc, ◌≤◌, ◌⊎◌, inl, inr, List, [], ◌∷◌, ◌++◌, length, take}
use Rattle.std.proofs.Common.{Bool, true, false, cond, ◌&&◌, nat_le, arith}
use Rattle.std.specs.List.{concat, AllByRecursion}
use Rattle.std.proofs.lemmas.Bool.{and_parts, and_from, or_cases, or_left, or_right, le-leb, leb-true, cond-true, cond_both}
use Rattle.simd_json_parts.specs.Patterns.{Pattern, never, empty, range, ◌then◌, ◌or◌, many, Matches, Begins}
use Rattle.simd_json_parts.specs.Derivatives.{takes_empty, is_possible, follow, either, derivative, matches, longest_prefix}

-- ---- `follow` is `then`, `either` is `or`, and a pattern under a test needs the test

then-follow : (p q : Pattern) (bs : List ℕ) → Matches (p then q) bs → Matches (follow p q) bs
then-follow never q bs m = absurd m.3
then-follow empty q bs (xs, ys, e, mx, my) = subst (Matches q) (sym (e ∙ ap (λ zs. zs ++ ys) mx)) my
then-follow p q bs m = m

follow-then : (p q : Pattern) (bs : List ℕ) → Matches (follow p q) bs → Matches (p then q) bs
follow-then never q bs m = absurd m
follow-then empty q bs m = ([], bs, refl, refl, m)
follow-then p q bs m = m

or-either : (p q : Pattern) (bs : List ℕ) → Matches p bs ⊎ Matches q bs → Matches (either p q) bs
or-either never q bs (inl m) = absurd m
or-either never q bs (inr m) = m
or-either p never bs (inl m) = m
or-either p never bs (inr m) = absurd m
or-either p q bs m = m

either-or : (p q : Pattern) (bs : List ℕ) → Matches (either p q) bs → Matches p bs ⊎ Matches q bs
either-or never q bs m = inr m
either-or p never bs m = inl m
either-or p q bs m = m

Matches-cond : (t : Bool) (p : Pattern) (bs : List ℕ) → t ≡ true → Matches p bs → Matches (cond t p never) bs
Matches-cond t p bs e m = subst (λ q. Matches q bs) (sym (cond-true t p never e)) m

cond-Matches : (t : Bool) (p : Pattern) (bs : List ℕ) → Matches (cond t p never) bs → (t ≡ true) × Matches p bs
cond-Matches true p bs m = (refl, m)
cond-Matches false p bs m = absurd m

-- ---- `takes_empty` is a match of the empty list

Matches-takes_empty : (p : Pattern) → Matches p [] → takes_empty p ≡ true
Matches-takes_empty never m = absurd m
Matches-takes_empty empty m = refl
Matches-takes_empty (range low high) (c, e, below, above) = cc
Matches-takes_empty (p then q) ([], ys, e, mp, mq) =
    and_from _ _ (Matches-takes_empty p mp) (Matches-takes_empty q (subst (Matches q) (sym e) mq))
Matches-takes_empty (p then q) (x ∷ xs, ys, e, mp, mq) = cc
Matches-takes_empty (p or q) (inl m) = or_left _ _ (Matches-takes_empty p m)
Matches-takes_empty (p or q) (inr m) = or_right _ _ (Matches-takes_empty q m)
Matches-takes_empty (many p) m = refl

takes_empty-Matches : (p : Pattern) → takes_empty p ≡ true → Matches p []
takes_empty-Matches never e = cc
takes_empty-Matches empty e = refl
takes_empty-Matches (range low high) e = cc
takes_empty-Matches (p then q) e =
    let both : (takes_empty p ≡ true) × (takes_empty q ≡ true) = and_parts _ _ e in
    ([], [], refl, takes_empty-Matches p both.0, takes_empty-Matches q both.1)
takes_empty-Matches (p or q) e = elim (or_cases _ _ e) [ inl h ↦ inl (takes_empty-Matches p h) | inr h ↦ inr (takes_empty-Matches q h) ]
takes_empty-Matches (many p) e = ([], refl, tt)

-- ---- the derivative is what is left of a match after its first byte

-- of repetitions, of which some may be empty
many-after : (c : ℕ) (p q : Pattern) (bs : List ℕ) → ((xs : List ℕ) → Matches p (c ∷ xs) → Matches q xs)
    → (parts : List (List ℕ)) → c ∷ bs ≡ concat parts → AllByRecursion (Matches p) parts → Matches (q then many p) bs
many-after c p q bs step [] e all = cc
many-after c p q bs step ([] ∷ parts) e all = many-after c p q bs step parts e all.1
many-after c p q bs step ((d ∷ xs) ∷ parts) e all =
    let same : d ≡ c = cc in
    (xs, concat parts, cc, step xs (subst (λ n. Matches p (n ∷ xs)) same all.0), (parts, refl, all.1))

Matches-after : (c : ℕ) (p : Pattern) (bs : List ℕ) → Matches p (c ∷ bs) → Matches (derivative c p) bs
Matches-after c never bs m = m
Matches-after c empty bs m = cc
Matches-after c (range low high) bs (d, e, below, above) =
    let same : c ≡ d = cc in
    Matches-cond _ empty bs (and_from _ _ (le-leb low c (omega arith)) (le-leb c high (omega arith))) cc
Matches-after c (p then q) bs ([], ys, e, mp, mq) =
    or-either _ _ bs
    (inr (Matches-cond _ (derivative c q) bs (Matches-takes_empty p mp) (Matches-after c q bs (subst (Matches q) (sym e) mq))))
Matches-after c (p then q) bs (x ∷ xs, ys, e, mp, mq) =
    let same : x ≡ c = cc in
    or-either _ _ bs (inl (then-follow _ q bs (xs, ys, cc, Matches-after c p xs (subst (λ n. Matches p (n ∷ xs)) same mp), mq)))
Matches-after c (p or q) bs (inl m) = or-either _ _ bs (inl (Matches-after c p bs m))
Matches-after c (p or q) bs (inr m) = or-either _ _ bs (inr (Matches-after c q bs m))
Matches-after c (many p) bs (parts, e, all) = then-follow _ (many p) bs (many-after c p (derivative c p) bs (Matches-after c p) parts e all)

after-Matches : (c : ℕ) (p : Pattern) (bs : List ℕ) → Matches (derivative c p) bs → Matches p (c ∷ bs)
after-Matches c never bs m = m
after-Matches c empty bs m = absurd m
after-Matches c (range low high) bs m =
    let w : ((nat_le low c && nat_le c high) ≡ true) × (bs ≡ []) = cond-Matches (nat_le low c && nat_le c high) empty bs m in
    let both : (nat_le low c ≡ true) × (nat_le c high ≡ true) = and_parts _ _ w.0 in
    (c, ap (λ zs. c ∷ zs) w.1, leb-true low c both.0, leb-true c high both.1)
after-Matches c (p then q) bs m =
    elim (either-or _ _ bs m) [
      | inl h ↦ let w : Matches (derivative c p then q) bs = follow-then _ q bs h in
          (c ∷ w.0, w.1, ap (λ zs. c ∷ zs) w.2, after-Matches c p w.0 w.3, w.4)
      | inr h ↦ let w : (takes_empty p ≡ true) × Matches (derivative c q) bs = cond-Matches _ (derivative c q) bs h in
          ([], c ∷ bs, refl, takes_empty-Matches p w.0, after-Matches c q bs w.1)
    ]
after-Matches c (p or q) bs m = elim (either-or _ _ bs m) [ inl h ↦ inl (after-Matches c p bs h) | inr h ↦ inr (after-Matches c q bs h) ]
after-Matches c (many p) bs m =
    let w : Matches (derivative c p then many p) bs = follow-then _ (many p) bs m in
    ((c ∷ w.0) ∷ w.4.0, ap (λ zs. c ∷ zs) (w.2 ∙ ap (λ zs. w.0 ++ zs) w.4.1), (after-Matches c p w.0 w.3, w.4.2))

-- ---- the test of a pattern is its set

pub Matches-matches : (p : Pattern) (bs : List ℕ) → Matches p bs → matches p bs ≡ true
Matches-matches p [] m = Matches-takes_empty p m
Matches-matches p (c ∷ bs) m = Matches-matches (derivative c p) bs (Matches-after c p bs m)

pub matches-Matches : (p : Pattern) (bs : List ℕ) → matches p bs ≡ true → Matches p bs
matches-Matches p [] e = takes_empty-Matches p e
matches-Matches p (c ∷ bs) e = after-Matches c p bs (matches-Matches (derivative c p) bs e)

-- ---- `is_possible` is a match of some list

pub Matches-is_possible : (p : Pattern) (bs : List ℕ) → Matches p bs → is_possible p ≡ true
Matches-is_possible never bs m = absurd m
Matches-is_possible empty bs m = refl
Matches-is_possible (range low high) bs (c, e, below, above) = le-leb low high (omega arith)
Matches-is_possible (p then q) bs (xs, ys, e, mp, mq) = and_from _ _ (Matches-is_possible p xs mp) (Matches-is_possible q ys mq)
Matches-is_possible (p or q) bs (inl m) = or_left _ _ (Matches-is_possible p bs m)
Matches-is_possible (p or q) bs (inr m) = or_right _ _ (Matches-is_possible q bs m)
Matches-is_possible (many p) bs m = refl

is_possible-Matches : (p : Pattern) → is_possible p ≡ true → (bs : List ℕ) × Matches p bs
is_possible-Matches never e = cc
is_possible-Matches empty e = ([], refl)
is_possible-Matches (range low high) e = (low ∷ [], (low, refl, omega arith, leb-true low high e))
is_possible-Matches (p then q) e =
    let both : (is_possible p ≡ true) × (is_possible q ≡ true) = and_parts _ _ e in
    let x : (bs : List ℕ) × Matches p bs = is_possible-Matches p both.0 in
    let y : (bs : List ℕ) × Matches q bs = is_possible-Matches q both.1 in
    (x.0 ++ y.0, (x.0, y.0, refl, x.1, y.1))
is_possible-Matches (p or q) e =
    elim (or_cases _ _ e) [
      | inl h ↦ let x : (bs : List ℕ) × Matches p bs = is_possible-Matches p h in (x.0, inl x.1)
      | inr h ↦ let x : (bs : List ℕ) × Matches q bs = is_possible-Matches q h in (x.0, inr x.1)
    ]
is_possible-Matches (many p) e = ([], ([], refl, tt))

-- ---- prefixes

pub Begins-after : (c : ℕ) (p : Pattern) (bs : List ℕ) → Begins p (c ∷ bs) → Begins (derivative c p) bs
Begins-after c p bs (rest, m) = (rest, Matches-after c p (bs ++ rest) m)

pub after-Begins : (c : ℕ) (p : Pattern) (bs : List ℕ) → Begins (derivative c p) bs → Begins p (c ∷ bs)
after-Begins c p bs (rest, m) = (rest, after-Matches c p (bs ++ rest) m)

-- The prefix of that length goes on to a list of the set, where the set has one.
pub Begins-longest_prefix : (p : Pattern) (bs : List ℕ) → is_possible p ≡ true → Begins p (take (longest_prefix p bs) bs)
Begins-longest_prefix p [] e = is_possible-Matches p e
Begins-longest_prefix p (c ∷ bs) e =
    let n : ℕ = longest_prefix (derivative c p) bs in
    cond_both (is_possible (derivative c p)) (suc n) 0 (λ k. Begins p (take k (c ∷ bs)))
    (λ h. after-Begins c p (take n bs) (Begins-longest_prefix (derivative c p) bs h))
    (λ _. is_possible-Matches p e)

-- No longer prefix does.
pub longest_prefix-longest : (p : Pattern) (bs : List ℕ) (n : ℕ) → n ≤ length bs → Begins p (take n bs) → n ≤ longest_prefix p bs
longest_prefix-longest p bs zero l b = omega arith
longest_prefix-longest p [] (suc n) l b = omega arith
longest_prefix-longest p (c ∷ bs) (suc n) l b =
    let h : Begins (derivative c p) (take n bs) = Begins-after c p (take n bs) b in
    let more : n ≤ longest_prefix (derivative c p) bs = longest_prefix-longest (derivative c p) bs n (omega arith) h in
    rw (Matches-is_possible (derivative c p) (take n bs ++ h.0) h.1) (omega arith)

-- A prefix is no longer than the list.
pub longest_prefix-le : (p : Pattern) (bs : List ℕ) → longest_prefix p bs ≤ length bs
longest_prefix-le p [] = omega arith
longest_prefix-le p (c ∷ bs) =
    let more : longest_prefix (derivative c p) bs ≤ length bs = longest_prefix-le (derivative c p) bs in
    cond_both (is_possible (derivative c p)) (suc (longest_prefix (derivative c p) bs)) 0 (λ k. k ≤ length (c ∷ bs))
    (λ _. omega arith) (λ _. omega arith)

-- No list is in the empty set.
pub matches-never : (bs : List ℕ) → matches never bs ≡ false
matches-never [] = refl
matches-never (c ∷ bs) = matches-never bs
