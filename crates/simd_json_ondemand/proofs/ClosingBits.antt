-- The bit of the bracket that closes, found from one closing bracket to the next.
use Rattle.std.proofs.Common.{◌≡◌, refl, sym, ◌∙◌, ap, ap₂, subst, ℕ, zero, suc, ◌+◌, ◌-◌, ◌*◌, ◌%◌, ◌^◌, ◌<◌, ◌≤◌, Bool, true, false, cond}
use Rattle.std.proofs.Common.{List, [], ◌∷◌, ◌++◌, length, map, take, drop, get_or, bit_and, count_ones, arith}
use Rattle.std.proofs.Common.{add-one, mul_assoc, zero-mul, suc-mul, pow-suc, take-add, take-append-drop}
use Rattle.std.specs.List.{count_by}
use Rattle.std.proofs.lemmas.List.{drop-drop, length-drop, length-take-le, get_or-drop, take_more}
use Rattle.std.proofs.lemmas.List.Sums.{sum_by-append, count_by-le-length}
use Rattle.std.proofs.lemmas.Nat.{pow_pos, pow-add, ones-le}
use Rattle.std.proofs.lemmas.Simd.{ones-mask_l}
use lib.Lanes.{mask_l}
use Rattle.simd_json_ondemand.specs.Closing.{closed_at, open_through}
use Rattle.simd_json_parts.specs.Bytes.{is_closing, is_opening}
use Rattle.simd_json_ondemand.proofs.Counting.{IsOpen, open-counts, stays-open, open_through-append, open_through-closing}
use Rattle.simd_json_ondemand.proofs.Counting.{open_through-none, closed_at-append, closed_at-closing, closed_at-none, count-step}
use Rattle.simd_json_ondemand.proofs.LowestBits.{word, cleared, before}

-- The closing brackets among the first `passed` tokens have been taken, and the container is open after these.
pub record Reached (levels : ℕ) (cs : List ℕ) (rest left : ℕ) : Type 0 where
  pub passed : ℕ
  pub within : passed ≤ length cs
  pub others : rest ≡ mask_l (map is_closing (drop passed cs)) * 2 ^ passed
  pub still : 0 < open_through levels (take passed cs)
  pub taken : (left + count_by is_closing (take passed cs)) % 2 ^ 64 ≡ levels

-- ---- the next closing bracket

record First (cs : List ℕ) : Type 0 where
  pub before : ℕ
  pub inside : before < length cs
  pub others : mask_l (map is_closing cs) ≡ word (mask_l (map is_closing (drop (suc before) cs))) before
  pub closes : is_closing (get_or cs before 0) ≡ true
  pub none : count_by is_closing (take before cs) ≡ 0

first : (cs : List ℕ) → 0 < mask_l (map is_closing cs) → First cs
first [] some = absurd (omega arith)
first (c ∷ cs) some = go (is_closing c) refl (first cs)
  where
    go : (t : Bool) → is_closing c ≡ t → (0 < mask_l (map is_closing cs) → First cs) → First (c ∷ cs)
    go true h later = record {
      before = 0;
      inside = omega arith;
      others = ap (λ s. cond s 1 0 + 2 * mask_l (map is_closing cs)) h ∙ omega arith;
      closes = h;
      none = refl;
    }
    go false h later =
        let same : mask_l (map is_closing (c ∷ cs)) ≡ 2 * mask_l (map is_closing cs) =
        ap (λ s. cond s 1 0 + 2 * mask_l (map is_closing cs)) h ∙ omega arith in
        let f : First cs = later (omega arith) in
        let m : ℕ = mask_l (map is_closing (drop (suc f.before) cs)) in
        record {
          before = suc f.before;
          inside = omega (arith, f.inside);
          others = same ∙ ap (λ n. 2 * n) f.others ∙ twice (1 + 2 * m) (2 ^ f.before)
              ∙ ap (λ n. (1 + 2 * m) * n) (sym (pow-suc 2 f.before));
          closes = f.closes;
          none = count-step is_closing c (take f.before cs) ∙ ap₂ (λ s n. cond s 1 0 + n) h f.none;
        }
      where
        twice : (a P : ℕ) → 2 * (a * P) ≡ a * (P * 2)
        twice a P = grind arith

-- The lowest bit is that of a closing bracket, and the container is open before it.
pub record AtClosing (levels : ℕ) (cs : List ℕ) (rest left : ℕ) : Type 0 where
  pub place : ℕ
  pub inside : place < length cs
  pub others : rest ≡ word (mask_l (map is_closing (drop (suc place) cs))) place
  pub closes : is_closing (get_or cs place 0) ≡ true
  pub still : 0 < open_through levels (take place cs)
  pub taken : (left + count_by is_closing (take place cs)) % 2 ^ 64 ≡ levels

pub at_closing : (levels : ℕ) (cs : List ℕ) (rest left : ℕ) → Reached levels cs rest left → 0 < rest → AtClosing levels cs rest left
at_closing levels cs rest left r some =
    let j : ℕ = r.passed in
    let todo : List ℕ = drop j cs in
    let f : First todo = first todo (positive (mask_l (map is_closing todo)) (2 ^ j) (subst (λ n. 0 < n) r.others some)) in
    let k : ℕ = f.before in
    let size : length todo ≡ length cs - j = length-drop j cs in
    let prefix : take (j + k) cs ≡ take j cs ++ take k todo = take-add j k cs in
    let behind : drop (suc k) todo ≡ drop (suc (j + k)) cs = drop-drop (suc k) j cs ∙ (let e : j + suc k ≡ suc (j + k) = omega arith in
    ap (λ n. drop n cs) e) in
    let m : ℕ = mask_l (map is_closing (drop (suc k) todo)) in
    let after : open_through levels (take (j + k) cs) ≡ open_through (open_through levels (take j cs)) (take k todo) =
    ap (open_through levels) prefix ∙ open_through-append levels (take j cs) (take k todo) in
    let few : count_by is_closing (take k todo) < open_through levels (take j cs) = omega (arith, f.none, r.still) in
    let open_there : 0 < open_through (open_through levels (take j cs)) (take k todo) =
    stays-open (open_through levels (take j cs)) (take k todo) few in
    let counts : count_by is_closing (take (j + k) cs) ≡ count_by is_closing (take j cs) =
    ap (count_by is_closing) prefix ∙ sum_by-append (λ x. cond (is_closing x) 1 0) (take j cs) (take k todo) ∙ omega (arith, f.none) in
    record {
      place = j + k;
      inside = omega (arith, f.inside, r.within);
      others = r.others ∙ ap (λ n. n * 2 ^ j) f.others ∙ mul_assoc (1 + 2 * m) (2 ^ k) (2 ^ j)
          ∙ ap (λ n. (1 + 2 * m) * n) (turn (2 ^ k) (2 ^ j) ∙ sym (pow-add 2 j k))
          ∙ ap (λ js. word (mask_l (map is_closing js)) (j + k)) behind;
      closes = ap is_closing (sym (get_or-drop j cs k 0)) ∙ f.closes;
      still = omega arith;
      taken = ap (λ n. (left + n) % 2 ^ 64) counts ∙ r.taken;
    }
  where
    positive : (n P : ℕ) → 0 < n * P → 0 < n
    positive zero P h = absurd (omega (arith, zero-mul P))
    positive (suc n) P h = omega arith

    turn : (a b : ℕ) → a * b ≡ b * a
    turn a b = grind arith

-- ---- after it

-- how many are open after it, by what the code computes
pub record AfterClosing (levels : ℕ) (cs : List ℕ) (opens rest left : ℕ) (a : AtClosing levels cs rest left) : Type 0 where
  pub through : open_through levels (take (suc a.place) cs)
      ≡ ((left + (2 ^ 64 - 1)) % 2 ^ 64 + count_ones (bit_and opens (2 ^ a.place - 1))) % 2 ^ 64
  pub passed : closed_at levels (take (suc a.place) cs) ≡ suc a.place
  pub taken : ((left + (2 ^ 64 - 1)) % 2 ^ 64 + count_by is_closing (take (suc a.place) cs)) % 2 ^ 64 ≡ levels

pub after_closing : (levels : ℕ) (cs : List ℕ) (opens rest left : ℕ) (a : AtClosing levels cs rest left) → length cs ≡ 8
    → levels < 2 ^ 63 → opens ≡ mask_l (map is_opening cs) → AfterClosing levels cs opens rest left a
after_closing levels cs opens rest left a long small is =
    let p : ℕ = a.place in
    let front : List ℕ = take p cs in
    let c : ℕ = get_or cs p 0 in
    let depth : ℕ = open_through levels front in
    let within : p ≤ length cs = omega (arith, a.inside) in
    let more : take (suc p) cs ≡ front ++ c ∷ [] = ap (λ n. take n cs) (sym (add-one p)) ∙ take_more cs p 0 a.inside in
    let o : IsOpen levels front = open-counts levels front a.still in
    let before : count_ones (bit_and opens (2 ^ p - 1)) ≡ count_by is_opening front =
    ap (λ n. count_ones (bit_and n (2 ^ p - 1))) is ∙ ap count_ones (before is_opening p cs within) ∙ ones-mask_l is_opening front in
    let through : open_through levels (take (suc p) cs) ≡ depth - 1 =
    ap (open_through levels) more ∙ open_through-append levels front (c ∷ []) ∙ open_through-closing depth c a.still a.closes in
    let counts : count_by is_closing (take (suc p) cs) ≡ count_by is_closing front + 1 =
    ap (count_by is_closing) more ∙ sum_by-append (λ x. cond (is_closing x) 1 0) front (c ∷ [])
    ∙ ap (λ s. count_by is_closing front + (0 + cond s 1 0)) a.closes in
    let size : length front ≡ p = length-take-le p cs within in
    let opening : count_by is_opening front ≤ length front = count_by-le-length is_opening front in
    let closing : count_by is_closing front ≤ length front = count_by-le-length is_closing front in
    record {
      through = through ∙ omega (arith, o.counted, a.taken, a.still, a.inside);
      passed = ap (closed_at levels) more ∙ closed_at-append levels front (c ∷ [])
          ∙ ap₂ (λ x y. x + y) (o.all ∙ size) (closed_at-closing depth c a.still) ∙ add-one p;
      taken = omega (arith, a.taken, a.inside);
    }

-- it closes the container
pub closed_there : (levels : ℕ) (cs : List ℕ) (opens rest left : ℕ) (a : AtClosing levels cs rest left)
    → AfterClosing levels cs opens rest left a → open_through levels (take (suc a.place) cs) ≡ 0
    → (closed_at levels cs ≡ a.place + 1) × (open_through levels cs ≡ 0)
closed_there levels cs opens rest left a f none =
    let p : ℕ = suc a.place in
    let whole : take p cs ++ drop p cs ≡ cs = take-append-drop p cs in (
      ap (closed_at levels) (sym whole) ∙ closed_at-append levels (take p cs) (drop p cs)
          ∙ ap₂ (λ x d. x + closed_at d (drop p cs)) f.passed none ∙ ap (λ n. p + n) (closed_at-none (drop p cs)) ∙ omega arith,
      ap (open_through levels) (sym whole) ∙ open_through-append levels (take p cs) (drop p cs)
          ∙ ap (λ d. open_through d (drop p cs)) none ∙ open_through-none (drop p cs),
    )

-- or does not
pub goes_on : (levels : ℕ) (cs : List ℕ) (opens rest left : ℕ) (a : AtClosing levels cs rest left)
    → AfterClosing levels cs opens rest left a → (open_through levels (take (suc a.place) cs) ≡ 0 → ⊥)
    → Reached levels cs (bit_and rest (rest - 1)) ((left + (2 ^ 64 - 1)) % 2 ^ 64)
goes_on levels cs opens rest left a f some =
    let m : ℕ = mask_l (map is_closing (drop (suc a.place) cs)) in
    record {
      passed = suc a.place;
      within = omega (arith, a.inside);
      others = ap (λ n. bit_and n (n - 1)) a.others ∙ cleared m a.place;
      still = positive (open_through levels (take (suc a.place) cs)) some;
      taken = f.taken;
    }
  where
    positive : (n : ℕ) → (n ≡ 0 → ⊥) → 0 < n
    positive zero h = absurd (h refl)
    positive (suc n) h = omega arith

-- where none is left
pub none_left : (levels : ℕ) (cs : List ℕ) (left : ℕ) → Reached levels cs 0 left → 0 < open_through levels cs
none_left levels cs left r =
    let j : ℕ = r.passed in
    let todo : List ℕ = drop j cs in
    let none : mask_l (map is_closing todo) ≡ 0 = zero_of (mask_l (map is_closing todo)) (2 ^ j) (pow_pos j) (sym r.others) in
    let count : count_by is_closing todo ≡ 0 = sym (ones-mask_l is_closing todo) ∙ ap count_ones none
    ∙ omega (arith, ones-le 0 0 (omega arith)) in
    let stays : 0 < open_through (open_through levels (take j cs)) todo =
    stays-open (open_through levels (take j cs)) todo (omega (arith, r.still)) in
    subst (λ xs. 0 < open_through levels xs) (take-append-drop j cs)
    (subst (λ n. 0 < n) (sym (open_through-append levels (take j cs) todo)) stays)
  where
    zero_of : (n P : ℕ) → 0 < P → n * P ≡ 0 → n ≡ 0
    zero_of zero P some e = refl
    zero_of (suc n) P some e = absurd (omega (arith, suc-mul n P))

pub reached-first : (levels : ℕ) (cs : List ℕ) → 0 < levels → levels < 2 ^ 63 → Reached levels cs (mask_l (map is_closing cs)) levels
unfolding open_through
reached-first levels cs some small = record {
  passed = 0;
  within = omega arith;
  others = omega arith;
  still = some;
  taken = omega arith;
}
