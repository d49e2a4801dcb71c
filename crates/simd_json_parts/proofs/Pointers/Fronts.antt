-- How many bytes stand in front of the first that is one of two, seen a vector at a time.
use Rattle.std.proofs.Common.{◌≡◌, ◌≢◌, ◌∙◌, ap, sym, ◌<◌, ◌≤◌, ◌+◌, ℕ, zero, suc, Bool, true, false, cond, List, [], ◌∷◌}
use Rattle.std.proofs.Common.{length, length-drop, map, drop, get_or, subst, ne_eqb, arith, inl, inr}
use Rattle.std.specs.Prelude.{◌==◌, ◌↔◌, ◌⊎◌, IsTrue}
use Rattle.std.proofs.lemmas.List.{get_or-drop}
use Rattle.std.specs.List.{prefix_len, slice_range}
use Rattle.std.proofs.lemmas.Bool.{cases_lt, eq-eqb, eqb-true}
use Rattle.std.proofs.lemmas.Bool.Decides.{nat_tests}
use Rattle.std.proofs.lemmas.List.Sums.{prefix_len-le-length, prefix_len_passes, prefix_len_stops}
use lib.Count.{count_trailing_zeros}
use lib.Lanes.{chunk, mask_l}
use Rattle.simd_json_parts.proofs.Lists.LaneRuns.{run-ends, run-through}
use Rattle.simd_json_parts.specs.Followed.{IsPlain, IsTokenAt, is_either, is_neither}
use Rattle.simd_json_parts.proofs.Pointers.Pointed.{plain-to, token-to}

-- ---- from an index on

after-by : (b : Bool) (i n m : ℕ) → suc i ≤ cond b (1 + n) 0 → (i ≤ n → n ≡ i + m) → cond b (1 + n) 0 ≡ suc i + m
after-by true i n m within rest = let more : n ≡ i + m = rest (omega arith) in omega arith
after-by false i n m within rest = absurd (omega arith)

front-after : (p : ℕ → Bool) (d : List ℕ) (i : ℕ) → i ≤ prefix_len p d → prefix_len p d ≡ i + prefix_len p (drop i d)
front-after p d zero within = omega arith
front-after p [] (suc i) within = absurd (omega arith)
front-after p (x ∷ d) (suc i) within = after-by (p x) i (prefix_len p d) (prefix_len p (drop i d)) within (front-after p d i)

-- of a vector some bytes are set, or none
pub stops-some : (a b : ℕ) (d : List ℕ) (i n mask : ℕ) → i ≤ prefix_len (is_neither a b) d → i + n ≤ length d → n ≤ 64
    → mask ≡ mask_l (map (is_either a b) (chunk i n d)) → mask ≢ 0 → i + count_trailing_zeros 64 mask ≡ prefix_len (is_neither a b) d
stops-some a b d i n mask before room few is some =
    let run = run-ends (is_either a b) d i n room few (omega (arith, is, some)) ∙ ap (count_trailing_zeros 64) (sym is) in
    omega (arith, run, front-after (is_neither a b) d i before)

pub stops-none : (a b : ℕ) (d : List ℕ) (i n mask : ℕ) → i ≤ prefix_len (is_neither a b) d → i + n ≤ length d
    → mask ≡ mask_l (map (is_either a b) (chunk i n d)) → mask ≡ 0 → i + n ≤ prefix_len (is_neither a b) d
stops-none a b d i n mask before room is none =
    omega (arith, run-through (is_either a b) d i n room (sym is ∙ none), front-after (is_neither a b) d i before)

pub stops-never : (a b : ℕ) (d : List ℕ) → length d ≤ prefix_len (is_neither a b) d → length d ≡ prefix_len (is_neither a b) d
stops-never a b d all = omega (arith, all, prefix_len-le-length (is_neither a b) d)

-- ---- the bytes in front, and the one after them

neither : (a b x : ℕ) → is_neither a b x ≡ true → (x ≢ a) × (x ≢ b)
neither a b x is = grind (arith, nat_tests)

pub front-lacks : (a b : ℕ) (d : List ℕ) (k : ℕ) → k < prefix_len (is_neither a b) d → (get_or d k 0 ≢ a) × (get_or d k 0 ≢ b)
front-lacks a b d k less = neither a b (get_or d k 0) (prefix_len_passes (is_neither a b) d k 0 less)

either : (a b x : ℕ) → is_neither a b x ≡ false → x ≢ b → x ≡ a
either a b x is other = grind (arith, nat_tests)

same : (a x : ℕ) → is_neither a a x ≡ false → x ≡ a
same a x is = grind (arith, nat_tests)

-- the first that is of one kind
pub front-ends : (c : ℕ) (d : List ℕ) (n : ℕ) → n ≡ prefix_len (is_neither c c) d → n < length d → get_or d n 0 ≡ c
front-ends c d n is less =
    ap (λ m. get_or d m 0) is ∙ same c _ (prefix_len_stops (is_neither c c) d 0 (omega (arith, is, less)))

-- ---- the token that ends there

lies-at : (p q : List ℕ) (i k : ℕ) → q ≡ drop (i + 1) p → get_or q k 0 ≡ get_or p (i + 1 + k) 0
lies-at p q i k is = ap (λ l. get_or l k 0) is ∙ get_or-drop (i + 1) p k 0

token-by : (p q : List ℕ) (i n : ℕ) → q ≡ drop (i + 1) p → (i < length p) × (get_or p i 0 ≡ 47) → n ≤ length q
    → ((k : ℕ) → k < n → get_or q k 0 ≢ 47) → (n < length q → get_or q n 0 ≡ 47) → IsTokenAt p i (i + 1 + n)
token-by p q i n is begins within lacks ends =
    let left = length-drop (i + 1) p in
    token-to p i (i + 1 + n) begins.0 begins.1 (omega arith, omega (arith, begins.0, within, ap length is, left))
    (λ k less. ne_eqb (get_or p (i + 1 + k) 0) 47 (λ e. lacks k (omega (arith, less)) (lies-at p q i k is ∙ e)))
    (λ less. sym (lies-at p q i n is) ∙ ends (omega (arith, less, ap length is, left)))

pub slash-front : (p q : List ℕ) (i n : ℕ) → q ≡ drop (i + 1) p → (i < length p) × (get_or p i 0 ≡ 47)
    → n ≡ prefix_len (is_neither 47 47) q → IsTokenAt p i (i + 1 + n)
slash-front p q i n is begins front =
    token-by p q i n is begins (omega (arith, front, prefix_len-le-length (is_neither 47 47) q))
    (λ k less. (front-lacks 47 47 q k (omega (arith, less, front))).0) (front-ends 47 q n front)

pub plain-front : (p q : List ℕ) (i n : ℕ) → q ≡ drop (i + 1) p → (i < length p) × (get_or p i 0 ≡ 47)
    → n ≡ prefix_len (is_neither 47 126) q → (n < length q → get_or q n 0 ≢ 126)
    → IsTokenAt p i (i + 1 + n) × IsPlain (slice_range p (i + 1) (i + 1 + n))
plain-front p q i n is begins front other =
    let lacks : (k : ℕ) → k < n → (get_or q k 0 ≢ 47) × (get_or q k 0 ≢ 126) =
    λ k less. front-lacks 47 126 q k (omega (arith, less, front)) in
    let ends : n < length q → get_or q n 0 ≡ 47 =
    λ less. either 47 126 _ (subst (λ m. is_neither 47 126 (get_or q m 0) ≡ false) (sym front)
    (prefix_len_stops (is_neither 47 126) q 0 (omega (arith, less, front)))) (other less) in
    let token = token-by p q i n is begins (omega (arith, front, prefix_len-le-length (is_neither 47 126) q))
    (λ k less. (lacks k less).0) ends in (
      token,
      plain-to p i (i + 1 + n) token.within (λ k less e. (lacks k (omega (arith, less))).1 (lies-at p q i k is ∙ e)),
    )

-- ---- a token without a `~`

pub plain-whole : (t : List ℕ) (n : ℕ) → n ≡ prefix_len (is_neither 126 126) t → IsTrue (n == length t) ↔ IsPlain t
plain-whole t n is = (
  λ all k less. (front-lacks 126 126 t k (omega (arith, less, is, eqb-true n (length t) all))).0,
  λ plain. eq-eqb n (length t) (all-by plain (cases_lt n (length t))),
)
  where
    all-by : IsPlain t → (n < length t) ⊎ (length t ≤ n) → n ≡ length t
    all-by plain (inl less) = absurd (plain n less (front-ends 126 t n is less))
    all-by plain (inr more) = omega (arith, more, is, prefix_len-le-length (is_neither 126 126) t)
