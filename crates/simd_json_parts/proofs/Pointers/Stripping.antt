-- What is left of a token after the front that decodes to some bytes.
use Rattle.std.proofs.Common.{◌≡◌, ◌≢◌, ◌∙◌, ap, sym, refl, ◌<◌, ◌≤◌, ◌+◌, ◌-◌, ℕ, zero, suc, Bool, true, false, cond, List, [], ◌∷◌, ◌++◌}
use Rattle.std.proofs.Common.{length, length-append, take, drop, get_or, bytes_eq, Bor, Some, None, Option, option_map, arith}
use Rattle.std.proofs.lemmas.Bool.{false≢true}
use Rattle.std.proofs.lemmas.List.{append_assoc, append_cancel_left, append-nil, length-take, length-take-le, take_all, take_rest}
use Rattle.std.proofs.lemmas.Slice.Eq.{bytes_eq-Decides}
use Rattle.std.proofs.lemmas.List.Sums.{prefix_len-le-length}
use Rattle.std.specs.List.{prefix_len}
use Rattle.std.specs.Prelude.{◌==◌, ◌↔◌, IsTrue, MatchOption}
use Rattle.simd_json_parts.specs.Followed.{is_neither}
use Rattle.simd_json_parts.specs.Pointed.{unescaped}
use Rattle.simd_json_parts.proofs.Lists.Prefixes.{shorter-prefix}
use Rattle.simd_json_parts.proofs.Pointers.Fronts.{front-lacks}
use Rattle.simd_json_parts.proofs.Pointers.Keys.{end-same, plain-head}

-- ---- bytes in front of a key

put-none : (o : Option (List ℕ)) → option_map (λ k. [] ++ k) o ≡ o
put-none None = refl
put-none (Some k) = refl

put-both : (xs ys : List ℕ) (o : Option (List ℕ))
    → option_map (λ k. xs ++ k) (option_map (λ k. ys ++ k) o) ≡ option_map (λ k. xs ++ ys ++ k) o
put-both xs ys None = refl
put-both xs ys (Some k) = ap Some (sym (append_assoc xs ys k))

put-one : (c : ℕ) (xs : List ℕ) (o : Option (List ℕ))
    → option_map (λ k. c ∷ k) (option_map (λ k. xs ++ k) o) ≡ option_map (λ k. (c ∷ xs) ++ k) o
put-one c xs None = refl
put-one c xs (Some k) = refl

taken-off : (xs k : List ℕ) (o : Option (List ℕ)) → option_map (λ m. xs ++ m) o ≡ Some (xs ++ k) → o ≡ Some k
taken-off xs k None is = cc
taken-off xs k (Some m) is = let same : xs ++ m ≡ xs ++ k = cc in ap Some (append_cancel_left xs m k same)

-- ---- a run without a `~` stands for itself

one-less : (b : Bool) (n m : ℕ) → suc n ≤ cond b (1 + m) 0 → n ≤ m
one-less true n m within = omega arith
one-less false n m within = absurd (omega arith)

pub plain-run : (t : List ℕ) (n : ℕ) → n ≤ prefix_len (is_neither 126 126) t
    → unescaped t ≡ option_map (λ k. take n t ++ k) (unescaped (drop n t))
plain-run t zero within = sym (put-none (unescaped t))
plain-run [] (suc n) within = absurd (omega arith)
plain-run (c ∷ t) (suc n) within =
    plain-head c t (front-lacks 126 126 (c ∷ t) 0 (omega (arith, within))).0
    ∙ ap (option_map (λ k. c ∷ k)) (plain-run t n (one-less (is_neither 126 126 c) n (prefix_len (is_neither 126 126) t) within))
    ∙ put-one c (take n t) (unescaped (drop n t))

-- ---- after some of the bytes

-- what is left of the token, and of the bytes
pub record IsStripped (t front left wanted : List ℕ) : Type 0 where
  pub before : List ℕ
  pub bytes : front ≡ before ++ wanted
  pub decoded : unescaped t ≡ option_map (λ k. before ++ k) (unescaped left)

pub IsStripped-whole : (t front : List ℕ) → IsStripped t front t front
IsStripped-whole t front = record { before = []; bytes = refl; decoded = sym (put-none (unescaped t)) }

pub IsStripped-more : (t front left wanted xs others rest : List ℕ) → IsStripped t front left wanted → wanted ≡ xs ++ others
    → unescaped left ≡ option_map (λ k. xs ++ k) (unescaped rest) → IsStripped t front rest others
IsStripped-more t front left wanted xs others rest s is more = record {
  before = s.before ++ xs;
  bytes = s.bytes ∙ ap (λ l. s.before ++ l) is ∙ sym (append_assoc s.before xs others);
  decoded = s.decoded ∙ ap (option_map (λ k. s.before ++ k)) more ∙ put-both s.before xs (unescaped rest);
}

pub IsStripped-other : (t front left wanted : List ℕ) → IsStripped t front left wanted
    → ((k : List ℕ) → unescaped left ≡ Some (wanted ++ k) → ⊥) → (k : List ℕ) → unescaped t ≡ Some (front ++ k) → ⊥
IsStripped-other t front left wanted s never k is =
    never k (taken-off s.before (wanted ++ k) (unescaped left)
    (sym s.decoded ∙ is ∙ ap (λ l. Some (l ++ k)) s.bytes ∙ ap Some (append_assoc s.before wanted k)))

-- ---- the run in front, of a token and of bytes

unlike-by : (xs wanted k : List ℕ) (o : Option (List ℕ)) → length xs ≤ length wanted → option_map (λ m. xs ++ m) o ≡ Some (wanted ++ k)
    → take (length xs) wanted ≡ xs
unlike-by xs wanted k None fits is = cc
unlike-by xs wanted k (Some m) fits is = let same : xs ++ m ≡ wanted ++ k = cc in shorter-prefix xs wanted m k fits same

-- the bytes go on further, and do not begin with it
pub unlike-run : (left wanted : List ℕ) (n : ℕ) → n ≤ prefix_len (is_neither 126 126) left → n ≤ length left → n ≤ length wanted
    → bytes_eq (take (length (take n left)) wanted) (take n left) ≡ false → (k : List ℕ) → unescaped left ≡ Some (wanted ++ k) → ⊥
unlike-run left wanted n plain within fits other k is =
    let long : length (take n left) ≡ n = length-take-le n left within in
    let same : take (length (take n left)) wanted ≡ take n left =
    unlike-by (take n left) wanted k (unescaped (drop n left)) (omega (arith, long, fits)) (sym (plain-run left n plain) ∙ is) in
    false≢true (sym other ∙ (bytes_eq-Decides (take (length (take n left)) wanted) (take n left)).1 same)

-- the bytes end within it
pub unlike-left : (left wanted : List ℕ) → length wanted ≤ prefix_len (is_neither 126 126) left → length wanted ≤ length left
    → bytes_eq (take (length wanted) left) wanted ≡ false → (k : List ℕ) → unescaped left ≡ Some (wanted ++ k) → ⊥
unlike-left left wanted plain within other k is =
    let n = length wanted in
    let long : length (take n left) ≡ n = length-take-le n left within in
    let same : take (length (take n left)) wanted ≡ take n left =
    unlike-by (take n left) wanted k (unescaped (drop n left)) (omega (arith, long)) (sym (plain-run left n plain) ∙ is) in
    false≢true (sym other ∙ (bytes_eq-Decides (take n left) wanted).1
    (sym same ∙ take_all (length (take n left)) wanted (omega (arith, long))))

-- so they are a prefix of what is left of the token, or not of what it decodes to
pub strips-left : (t front left wanted : List ℕ) (r : Option (Bor (List ℕ))) → IsStripped t front left wanted
    → length wanted ≤ prefix_len (is_neither 126 126) left
    → MatchOption r (bytes_eq (take (length wanted) left) wanted ≡ false)
    (λ rest. (bytes_eq (take (length wanted) left) wanted ≡ true) × (rest.now ≡ drop (length wanted) left)
    × (length rest.now + length wanted ≡ length left))
    → MatchOption r ((k : List ℕ) → unescaped t ≡ Some (front ++ k) → ⊥)
    (λ rest. unescaped t ≡ option_map (λ k. front ++ k) (unescaped rest.now))
strips-left t front left wanted None s plain other =
    IsStripped-other t front left wanted s
    (unlike-left left wanted plain (omega (arith, plain, prefix_len-le-length (is_neither 126 126) left)) other)
strips-left t front left wanted (Some rest) s plain same =
    let prefix : take (length wanted) left ≡ wanted = (bytes_eq-Decides (take (length wanted) left) wanted).0 same.0 in
    let run : unescaped left ≡ option_map (λ k. wanted ++ k) (unescaped rest.now) =
    plain-run left (length wanted) plain
    ∙ ap (λ us. option_map (λ k. us ++ k) (unescaped (drop (length wanted) left))) prefix
    ∙ ap (λ us. option_map (λ k. wanted ++ k) (unescaped us)) (sym same.1) in
    let all = IsStripped-more t front left wanted wanted [] rest.now s (sym (append-nil wanted)) run in
    all.decoded ∙ ap (λ us. option_map (λ k. us ++ k) (unescaped rest.now)) (sym (append-nil all.before) ∙ sym all.bytes)

-- or they go on after it
pub strips-run : (t front left wanted others : List ℕ) (n : ℕ) → IsStripped t front left wanted → n ≡ prefix_len (is_neither 126 126) left
    → wanted ≡ take n left ++ others → IsStripped t front (take (length left - n) (drop n left)) others
strips-run t front left wanted others n s is split =
    IsStripped-more t front left wanted (take n left) others (take (length left - n) (drop n left)) s split
    (plain-run left n (omega (arith, is)) ∙ ap (λ us. option_map (λ k. take n left ++ k) (unescaped us)) (sym (take_rest left n)))

pub goes-on : (left wanted others : List ℕ) (n : ℕ) → n < length wanted → wanted ≡ take n left ++ others → 0 < length others
goes-on left wanted others n less split =
    omega (arith, less, ap length split, length-append (take n left) others, length-take n left)

-- ---- the escape after it

nothing-left : (others k : List ℕ) → 0 < length others → Some [] ≡ Some (others ++ k) → ⊥
nothing-left [] k some is = absurd (omega arith)
nothing-left (x ∷ others) k some is = cc

pub no-escape : (left others : List ℕ) → 0 < length others → (0 < length left → unescaped left ≡ None)
    → (k : List ℕ) → unescaped left ≡ Some (others ++ k) → ⊥
no-escape [] others some none k is = nothing-left others k some is
no-escape (c ∷ left) others some none k is = let never : None ≡ Some (others ++ k) = sym (none (omega arith)) ∙ is in cc

first-is : (x y : ℕ) (o : Option (List ℕ)) (k : List ℕ) → option_map (λ m. x ∷ m) o ≡ Some (y ∷ k) → y ≡ x
first-is x y None k is = cc
first-is x y (Some m) k is = cc

pub other-byte : (left rest others : List ℕ) (x : ℕ) → 0 < length others → get_or others 0 0 ≢ x
    → unescaped left ≡ option_map (λ k. x ∷ k) (unescaped rest) → (k : List ℕ) → unescaped left ≡ Some (others ++ k) → ⊥
other-byte left rest [] x some other first k is = absurd (omega arith)
other-byte left rest (y ∷ others) x some other first k is = other (first-is x y (unescaped rest) (others ++ k) (sym first ∙ is))

pub byte-and-others : (xs : List ℕ) (x : ℕ) → 0 < length xs → get_or xs 0 0 ≡ x → xs ≡ (x ∷ []) ++ drop 1 xs
byte-and-others [] x some is = absurd (omega arith)
byte-and-others (y ∷ xs) x some is = ap (λ z. z ∷ xs) is

-- ---- nothing is left

pub whole-key : (t key rest : List ℕ) (b : Bool) → b ≡ (length rest == 0) → unescaped t ≡ option_map (λ k. key ++ k) (unescaped rest)
    → IsTrue b ↔ (unescaped t ≡ Some key)
whole-key t key rest b test split =
    let end = end-same rest [] b test refl in (
      λ yes. split ∙ ap (option_map (λ k. key ++ k)) (end.0 yes) ∙ ap Some (append-nil key),
      λ is. end.1 (taken-off key [] (unescaped rest) (sym split ∙ is ∙ ap Some (sym (append-nil key)))),
    )

pub no-key : (t key : List ℕ) (b : Bool) → b ≡ false
    → ((k : List ℕ) → unescaped t ≡ Some (key ++ k) → ⊥) → IsTrue b ↔ (unescaped t ≡ Some key)
no-key t key b test never = (
  λ yes. absurd (false≢true (sym test ∙ yes)),
  λ is. absurd (never [] (is ∙ ap Some (sym (append-nil key)))),
)
