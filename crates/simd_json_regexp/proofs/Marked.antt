-- What marks mean: after a character is read, what is left is what was left after that character.
use Rattle.std.proofs.Common.{◌≡◌, refl, sym, ◌∙◌, ap, subst, ℕ, List, [], ◌∷◌, ◌++◌, length, take, drop, inl, inr, Bool, true, false}
use Rattle.std.proofs.Common.{cond, ◌&&◌, ◌||◌}
use Rattle.std.specs.List.{concat, AllByRecursion}
use Rattle.std.proofs.Math.Seq.{take-append_seam, drop-append_seam}
use Rattle.std.proofs.lemmas.Bool.{and_parts, and_from, or_cases, or_left, or_right}
use Rattle.std.proofs.lemmas.List.{length-append}
use Rattle.simd_json_regexp.specs.Regexps.{Regexp, never, empty, one, ◌then◌, ◌or◌, many, Matches}
use Rattle.simd_json_regexp.specs.Marks.{size, takes_empty, first_mark, is_last, after}
use Rattle.simd_json_regexp.proofs.Left.{left, Follows}
use Rattle.simd_json_regexp.proofs.Empty.{Matches-takes_empty, takes_empty-Matches}

-- ---- as many marks as characters

pub length-after : (p : Regexp) (e : Bool) (c : ℕ) (ms : List Bool) → length (after p e c ms) ≡ size p
length-after never e c ms = refl
length-after empty e c ms = refl
length-after (one is_kind) e c ms = refl
length-after (p then q) e c ms =
    let f : Bool = (e && takes_empty p) || is_last p (take (size p) ms) in
    let x : length (after p e c (take (size p) ms)) ≡ size p = length-after p e c (take (size p) ms) in
    let y : length (after q f c (drop (size p) ms)) ≡ size q = length-after q f c (drop (size p) ms) in
    length-append (after p e c (take (size p) ms)) (after q f c (drop (size p) ms)) ∙ cc
length-after (p or q) e c ms =
    let x : length (after p e c (take (size p) ms)) ≡ size p = length-after p e c (take (size p) ms) in
    let y : length (after q e c (drop (size p) ms)) ≡ size q = length-after q e c (drop (size p) ms) in
    length-append (after p e c (take (size p) ms)) (after q e c (drop (size p) ms)) ∙ cc
length-after (many p) e c ms = length-after p (e || is_last p ms) c ms

take-front : {A : Type 0} (n : ℕ) (xs ys : List A) → length xs ≡ n → take n (xs ++ ys) ≡ xs
take-front n xs ys e = subst (λ k. take k (xs ++ ys) ≡ xs) e (take-append_seam xs ys)

drop-front : {A : Type 0} (n : ℕ) (xs ys : List A) → length xs ≡ n → drop n (xs ++ ys) ≡ ys
drop-front n xs ys e = subst (λ k. drop k (xs ++ ys) ≡ ys) e (drop-append_seam xs ys)

-- what is left of two parts, by the marks of each
then-left : (p q : Regexp) (ms ns : List Bool) → length ms ≡ size p → left (p then q) (ms ++ ns) ≡ (left p ms then q) or left q ns
then-left p q ms ns e =
    let x : take (size p) (ms ++ ns) ≡ ms = take-front (size p) ms ns e in
    let y : drop (size p) (ms ++ ns) ≡ ns = drop-front (size p) ms ns e in
    cc

or-left : (p q : Regexp) (ms ns : List Bool) → length ms ≡ size p → left (p or q) (ms ++ ns) ≡ left p ms or left q ns
or-left p q ms ns e =
    let x : take (size p) (ms ++ ns) ≡ ms = take-front (size p) ms ns e in
    let y : drop (size p) (ms ++ ns) ≡ ns = drop-front (size p) ms ns e in
    cc

-- ---- a mark on a last character leaves nothing

and_true : (b : Bool) → (b && true) ≡ b
and_true true = refl
and_true false = refl

left-is_last : (p : Regexp) (ms : List Bool) → takes_empty (left p ms) ≡ is_last p ms
left-is_last never ms = refl
left-is_last empty ms = refl
left-is_last (one is_kind) [] = refl
left-is_last (one is_kind) (true ∷ ms) = refl
left-is_last (one is_kind) (false ∷ ms) = refl
left-is_last (p then q) ms =
    let x : takes_empty (left p (take (size p) ms)) ≡ is_last p (take (size p) ms) = left-is_last p (take (size p) ms) in
    let y : takes_empty (left q (drop (size p) ms)) ≡ is_last q (drop (size p) ms) = left-is_last q (drop (size p) ms) in
    cc
left-is_last (p or q) ms =
    let x : takes_empty (left p (take (size p) ms)) ≡ is_last p (take (size p) ms) = left-is_last p (take (size p) ms) in
    let y : takes_empty (left q (drop (size p) ms)) ≡ is_last q (drop (size p) ms) = left-is_last q (drop (size p) ms) in
    cc
left-is_last (many p) ms = and_true (takes_empty (left p ms)) ∙ left-is_last p ms

pub is_last-Matches : (p : Regexp) (ms : List Bool) → is_last p ms ≡ true → Matches (left p ms) []
is_last-Matches p ms e = takes_empty-Matches (left p ms) (left-is_last p ms ∙ e)

pub Matches-is_last : (p : Regexp) (ms : List Bool) → Matches (left p ms) [] → is_last p ms ≡ true
Matches-is_last p ms m = sym (left-is_last p ms) ∙ Matches-takes_empty (left p ms) m

-- ---- a character is read

-- of repetitions, of which some may be empty, the first one that is not
pub many-after : (c : ℕ) (p : Regexp) (cs : List ℕ) (parts : List (List ℕ)) → c ∷ cs ≡ concat parts → AllByRecursion (Matches p) parts
    → (xs : List ℕ) × (ys : List ℕ) × (cs ≡ xs ++ ys) × Matches p (c ∷ xs) × Matches (many p) ys
many-after c p cs [] e all = cc
many-after c p cs ([] ∷ parts) e all = many-after c p cs parts e all.1
many-after c p cs ((d ∷ xs) ∷ parts) e all =
    let same : d ≡ c = cc in
    (xs, concat parts, cc, subst (λ n. Matches p (n ∷ xs)) same all.0, (parts, refl, all.1))

one-Follows : (is_kind : ℕ → Bool) (c : ℕ) (ms : List Bool) (w : List ℕ) (e k : Bool) → is_kind c ≡ k
    → Matches (cond (e && k) empty never) w → Follows (one is_kind) e ms (c ∷ w)
one-Follows is_kind c ms w true true is m = inl (refl, (c, ap (λ cs. c ∷ cs) m, is))
one-Follows is_kind c ms w true false is m = absurd m
one-Follows is_kind c ms w false k is m = absurd m

one-after : (w : List ℕ) (e k : Bool) → e ≡ true → k ≡ true → w ≡ [] → Matches (cond (e && k) empty never) w
one-after w true true he hk m = m
one-after w true false he hk m = cc
one-after w false k he hk m = cc

no-more : (c : ℕ) (w : List ℕ) (b : Bool) → Matches (cond b empty never) (c ∷ w) → ⊥
no-more c w true m = cc
no-more c w false m = m

pub after-Follows : (p : Regexp) (e : Bool) (c : ℕ) (ms : List Bool) (w : List ℕ) → Matches (left p (after p e c ms)) w
    → Follows p e ms (c ∷ w)
after-Follows never e c ms w m = absurd m
after-Follows empty e c ms w m = absurd m
after-Follows (one is_kind) e c ms w m = one-Follows is_kind c ms w e (is_kind c) refl m
after-Follows (p then q) e c ms w m =
    let front : List Bool = take (size p) ms in
    let back : List Bool = drop (size p) ms in
    let f : Bool = (e && takes_empty p) || is_last p front in
    let n : Matches ((left p (after p e c front) then q) or left q (after q f c back)) w =
    subst (λ r. Matches r w) (then-left p q (after p e c front) (after q f c back) (length-after p e c front)) m in
    elim n [
      | inl (u, v, same, mp, mq) ↦ elim (after-Follows p e c front u mp) [
        | inl (enters, first) ↦ inl (enters, (c ∷ u, v, ap (λ cs. c ∷ cs) same, first, mq))
        | inr goes ↦ inr (inl (c ∷ u, v, ap (λ cs. c ∷ cs) same, goes, mq))
      ]
      | inr mq ↦ elim (after-Follows q f c back w mq) [
        | inl (enters, second) ↦ elim (or_cases (e && takes_empty p) (is_last p front) enters) [
          | inl h ↦ inl ((and_parts _ _ h).0, ([], c ∷ w, refl, takes_empty-Matches p (and_parts _ _ h).1, second))
          | inr h ↦ inr (inl ([], c ∷ w, refl, is_last-Matches p front h, second))
        ]
        | inr goes ↦ inr (inr goes)
      ]
    ]
after-Follows (p or q) e c ms w m =
    let front : List Bool = take (size p) ms in
    let back : List Bool = drop (size p) ms in
    let n : Matches (left p (after p e c front) or left q (after q e c back)) w =
    subst (λ r. Matches r w) (or-left p q (after p e c front) (after q e c back) (length-after p e c front)) m in
    elim n [
      | inl mp ↦ elim (after-Follows p e c front w mp) [
        | inl (enters, first) ↦ inl (enters, inl first)
        | inr goes ↦ inr (inl goes)
      ]
      | inr mq ↦ elim (after-Follows q e c back w mq) [
        | inl (enters, second) ↦ inl (enters, inr second)
        | inr goes ↦ inr (inr goes)
      ]
    ]
after-Follows (many p) e c ms w (u, v, same, mp, (parts, joined, all)) =
    elim (after-Follows p (e || is_last p ms) c ms u mp) [
      | inl (enters, first) ↦
          let more : Matches (many p) (c ∷ w) =
          ((c ∷ u) ∷ parts, ap (λ cs. c ∷ cs) (same ∙ ap (λ cs. u ++ cs) joined), (first, all)) in
          elim (or_cases e (is_last p ms) enters) [
            | inl h ↦ inl (h, more)
            | inr h ↦ inr ([], c ∷ w, refl, is_last-Matches p ms h, more)
          ]
      | inr goes ↦ inr (c ∷ u, v, ap (λ cs. c ∷ cs) same, goes, (parts, joined, all))
    ]

pub Follows-after : (p : Regexp) (e : Bool) (c : ℕ) (ms : List Bool) (w : List ℕ) → Follows p e ms (c ∷ w)
    → Matches (left p (after p e c ms)) w
Follows-after never e c ms w (inl m) = absurd m.1
Follows-after never e c ms w (inr m) = absurd m
Follows-after empty e c ms w (inl m) = cc
Follows-after empty e c ms w (inr m) = absurd m
Follows-after (one is_kind) e c ms w (inl (enters, (d, same, is))) =
    let here : d ≡ c = cc in
    one-after w e (is_kind c) enters (subst (λ n. is_kind n ≡ true) here is) cc
Follows-after (one is_kind) e c ms w (inr m) = absurd (no-more c w (first_mark ms) m)
Follows-after (p then q) e c ms w m =
    let front : List Bool = take (size p) ms in
    let back : List Bool = drop (size p) ms in
    let f : Bool = (e && takes_empty p) || is_last p front in
    subst (λ r. Matches r w) (sym (then-left p q (after p e c front) (after q f c back) (length-after p e c front)))
    (elim m [
      | inl (enters, ([], ys, same, first, second)) ↦
          let after-empty : Matches q (c ∷ w) = subst (Matches q) (sym same) second in
          inr (Follows-after q f c back w (inl (or_left _ _ (and_from _ _ enters (Matches-takes_empty p first)), after-empty)))
      | inl (enters, (x ∷ xs, ys, same, first, second)) ↦
          let is : x ≡ c = cc in
          inl (xs, ys, cc, Follows-after p e c front xs (inl (enters, subst (λ n. Matches p (n ∷ xs)) is first)), second)
      | inr (inl ([], ys, same, first, second)) ↦
          let after-last : Matches q (c ∷ w) = subst (Matches q) (sym same) second in
          inr (Follows-after q f c back w (inl (or_right (e && takes_empty p) _ (Matches-is_last p front first), after-last)))
      | inr (inl (x ∷ xs, ys, same, first, second)) ↦
          let is : x ≡ c = cc in
          inl (xs, ys, cc, Follows-after p e c front xs (inr (subst (λ n. Matches (left p front) (n ∷ xs)) is first)), second)
      | inr (inr goes) ↦ inr (Follows-after q f c back w (inr goes))
    ])
Follows-after (p or q) e c ms w m =
    let front : List Bool = take (size p) ms in
    let back : List Bool = drop (size p) ms in
    subst (λ r. Matches r w) (sym (or-left p q (after p e c front) (after q e c back) (length-after p e c front)))
    (elim m [
      | inl (enters, inl first) ↦ inl (Follows-after p e c front w (inl (enters, first)))
      | inl (enters, inr second) ↦ inr (Follows-after q e c back w (inl (enters, second)))
      | inr (inl goes) ↦ inl (Follows-after p e c front w (inr goes))
      | inr (inr goes) ↦ inr (Follows-after q e c back w (inr goes))
    ])
Follows-after (many p) e c ms w (inl (enters, (parts, joined, all))) =
    let (xs, ys, same, first, more) = many-after c p w parts joined all in
    (xs, ys, same, Follows-after p (e || is_last p ms) c ms xs (inl (or_left _ _ enters, first)), more)
Follows-after (many p) e c ms w (inr ([], ys, same, last, (parts, joined, all))) =
    let (xs, zs, here, first, more) = many-after c p w parts (same ∙ joined) all in
    (xs, zs, here, Follows-after p (e || is_last p ms) c ms xs (inl (or_right e _ (Matches-is_last p ms last), first)), more)
Follows-after (many p) e c ms w (inr (x ∷ xs, ys, same, goes, more)) =
    let is : x ≡ c = cc in
    (xs, ys, cc, Follows-after p (e || is_last p ms) c ms xs (inr (subst (λ n. Matches (left p ms) (n ∷ xs)) is goes)), more)
