-- The count of open containers, token by token and group by group.
use Rattle.std.proofs.Common.{◌≡◌, refl, sym, ◌∙◌, ap, ap₂, ℕ, zero, suc, ◌+◌, ◌-◌, ◌<◌, ◌≤◌, Bool, true, false, ◌==◌, cond, eqb, inl, inr}
use Rattle.std.proofs.Common.{w8, Fits, List, [], ◌∷◌, ◌++◌, length, map, take, drop, get_or, bit_or, add-one, arith, take-append-drop}
use Rattle.std.specs.List.{count_by}
use Rattle.std.proofs.lemmas.Bool.{or_cases, eqb-true, ne_eqb}
use Rattle.std.proofs.lemmas.List.{get_or_default, length-map, length-drop, length-take-le, drop-drop, drop_more, map-append}
use Rattle.std.proofs.lemmas.List.Sums.{sum_by-cons, count_by-le-length}
use Rattle.std.proofs.lemmas.Simd.{ones-mask_l}
use lib.Count.{ones}
use lib.Lanes.{mask_l}
use mir.Val.{bool_byte}
use Rattle.simd_json_ondemand.proofs.Groups.{test_opening, test_closing}
use Rattle.std.proofs.Math.Seq.{drop-cons}
use Rattle.simd_json_parts.specs.Bytes.{byte_at, is_closing, is_opening}
use Rattle.simd_json_ondemand.specs.Closing.{open_after, closed_at, open_through, first_bytes, span, AreWithin}

-- no byte is both
pub closing-opens_not : (c : ℕ) → is_closing c ≡ true → is_opening c ≡ false
closing-opens_not c h = elim (or_cases (c == 93) (c == 125) h) [
  | inl e ↦ ap is_opening (eqb-true c 93 e)
  | inr e ↦ ap is_opening (eqb-true c 125 e)
]

pub after-closing : (n c : ℕ) → is_closing c ≡ true → open_after n c ≡ n
after-closing n c h = ap₂ (λ s t. cond s (suc (suc n)) (cond t n (suc n))) (closing-opens_not c h) h

pub after-other : (n c : ℕ) → is_closing c ≡ false → open_after n c ≡ suc n + cond (is_opening c) 1 0
after-other n c h = ap (λ t. cond (is_opening c) (suc (suc n)) (cond t n (suc n))) h ∙ go (is_opening c)
  where
    go : (s : Bool) → cond s (suc (suc n)) (suc n) ≡ suc n + cond s 1 0
    go true = omega arith
    go false = omega arith

-- ---- one token

pub closed_at-none : (cs : List ℕ) → closed_at 0 cs ≡ 0
unfolding closed_at
closed_at-none [] = refl
closed_at-none (c ∷ cs) = refl

pub closed_at-end : (depth : ℕ) → closed_at depth [] ≡ 0
unfolding closed_at
closed_at-end depth = refl

pub closed_at-step : (b is : List ℕ) (i depth : ℕ) → i < length is → 0 < depth
    → closed_at depth (first_bytes b (drop i is))
    ≡ suc (closed_at (open_after (depth - 1) (byte_at b (get_or is i 0))) (first_bytes b (drop (i + 1) is)))
unfolding closed_at
closed_at-step b is i zero l some = absurd (omega arith)
closed_at-step b is i (suc n) l some =
    let same : suc n - 1 ≡ n = omega arith in
    ap (λ js. closed_at (suc n) (first_bytes b js)) (drop-cons is i 0 l)
    ∙ ap₂ (λ m k. suc (closed_at (open_after m (byte_at b (get_or is i 0))) (first_bytes b (drop k is)))) (sym same) (sym (add-one i))

-- as the code tests it
module _ (b is : List ℕ) (within : AreWithin b is) (bytes : (i : ℕ) → Fits w8 (get_or b i 0)) (i depth : ℕ) (l : i < length is)
    (some : 0 < depth) where
  here : byte_at b (get_or is i 0) ≡ get_or b (get_or is i 0) 0
  here = sym (get_or_default b (get_or is i 0) 0 32 (within i l))

  pub step-closing : bit_or (get_or b (get_or is i 0) 0) 32 ≡ 125
      → closed_at depth (first_bytes b (drop i is)) ≡ suc (closed_at (depth - 1) (first_bytes b (drop (i + 1) is)))
  step-closing e =
      let x : ℕ = get_or b (get_or is i 0) 0 in
      let is_closed : is_closing x ≡ true = sym (test_closing x (bytes (get_or is i 0)).fits) ∙ ap (λ y. eqb y 125) e in
      closed_at-step b is i depth l some
      ∙ ap (λ n. suc (closed_at n (first_bytes b (drop (i + 1) is)))) (ap (open_after (depth - 1)) here
      ∙ after-closing (depth - 1) x is_closed)

  pub step-other : (bit_or (get_or b (get_or is i 0) 0) 32 ≡ 125 → ⊥)
      → closed_at depth (first_bytes b (drop i is))
      ≡ suc (closed_at (depth + bool_byte (eqb (bit_or (get_or b (get_or is i 0) 0) 32) 123)) (first_bytes b (drop (i + 1) is)))
  step-other ne =
      let x : ℕ = get_or b (get_or is i 0) 0 in
      let not_closed : is_closing x ≡ false = sym (test_closing x (bytes (get_or is i 0)).fits) ∙ ne_eqb (bit_or x 32) 125 ne in
      let opens : eqb (bit_or x 32) 123 ≡ is_opening x = test_opening x (bytes (get_or is i 0)).fits in
      let after : suc (depth - 1) + cond (is_opening x) 1 0 ≡ depth + bool_byte (is_opening x) = go (is_opening x) in
      closed_at-step b is i depth l some
      ∙ ap (λ n. suc (closed_at n (first_bytes b (drop (i + 1) is))))
      (ap (open_after (depth - 1)) here ∙ after-other (depth - 1) x not_closed ∙ after ∙ ap (λ t. depth + bool_byte t) (sym opens))
    where
      go : (t : Bool) → suc (depth - 1) + cond t 1 0 ≡ depth + bool_byte t
      go true = omega arith
      go false = omega arith

pub open_through-none : (cs : List ℕ) → open_through 0 cs ≡ 0
unfolding open_through
open_through-none [] = refl
open_through-none (c ∷ cs) = refl

-- ---- a group

pub closed_at-append : (depth : ℕ) (cs ds : List ℕ) → closed_at depth (cs ++ ds) ≡ closed_at depth cs + closed_at (open_through depth cs) ds
unfolding closed_at open_through
closed_at-append depth [] ds = omega arith
closed_at-append zero (c ∷ cs) ds = let none = closed_at-none ds in omega arith
closed_at-append (suc n) (c ∷ cs) ds = let rest = closed_at-append (open_after n c) cs ds in omega arith

-- still open: each token is passed, and each bracket counts
pub record IsOpen (depth : ℕ) (cs : List ℕ) : Type 0 where
  pub all : closed_at depth cs ≡ length cs
  pub counted : open_through depth cs + count_by is_closing cs ≡ depth + count_by is_opening cs

abbrev AfterToken : ℕ → ℕ → Type 0
AfterToken n c = open_after n c + cond (is_closing c) 1 0 ≡ suc n + cond (is_opening c) 1 0

after-token : (n c : ℕ) → AfterToken n c
after-token n c = go (is_closing c) refl
  where
    go : (t : Bool) → is_closing c ≡ t → AfterToken n c
    go true h = let a = after-closing n c h in let o = ap (λ s. cond {A = ℕ} s 1 0) (closing-opens_not c h) in
        let k = ap (λ s. cond {A = ℕ} s 1 0) h in omega arith
    go false h = let a = after-other n c h in let k = ap (λ s. cond {A = ℕ} s 1 0) h in omega arith

pub count-step : (p : ℕ → Bool) (c : ℕ) (cs : List ℕ) → count_by p (c ∷ cs) ≡ cond (p c) 1 0 + count_by p cs
count-step p c cs = sum_by-cons (λ x. cond (p x) 1 0) c cs

pub open-counts : (depth : ℕ) (cs : List ℕ) → 0 < open_through depth cs → IsOpen depth cs
unfolding closed_at open_through
open-counts depth [] some = record { all = refl; counted = refl }
open-counts zero (c ∷ cs) some = absurd (omega arith)
open-counts (suc n) (c ∷ cs) some =
    let rest = open-counts (open_after n c) cs some in
    record {
      all = ap suc rest.all;
      counted = let here = after-token n c in let o = count-step is_opening c cs in let k = count-step is_closing c cs in
          omega (arith, rest.counted);
    }

-- where fewer close than are open
pub stays-open : (depth : ℕ) (cs : List ℕ) → count_by is_closing cs < depth → 0 < open_through depth cs
unfolding open_through
stays-open depth [] few = omega arith
stays-open zero (c ∷ cs) few = absurd (omega arith)
stays-open (suc n) (c ∷ cs) few = stays-open (open_after n c) cs
    (let here = after-token n c in let k = count-step is_closing c cs in omega arith)

pub open_through-append : (depth : ℕ) (cs ds : List ℕ) → open_through depth (cs ++ ds) ≡ open_through (open_through depth cs) ds
unfolding open_through
open_through-append depth [] ds = refl
open_through-append zero (c ∷ cs) ds = sym (open_through-none ds)
open_through-append (suc n) (c ∷ cs) ds = open_through-append (open_after n c) cs ds

pub closed_at-le : (depth : ℕ) (cs : List ℕ) → closed_at depth cs ≤ length cs
unfolding closed_at
closed_at-le depth [] = omega arith
closed_at-le zero (c ∷ cs) = omega arith
closed_at-le (suc n) (c ∷ cs) = let rest = closed_at-le (open_after n c) cs in omega arith

-- ---- a closing bracket

pub open_through-closing : (depth c : ℕ) → 0 < depth → is_closing c ≡ true → open_through depth (c ∷ []) ≡ depth - 1
unfolding open_through
open_through-closing zero c some h = absurd (omega arith)
open_through-closing (suc n) c some h = let a = after-closing n c h in omega arith

pub closed_at-closing : (depth c : ℕ) → 0 < depth → closed_at depth (c ∷ []) ≡ 1
unfolding closed_at
closed_at-closing zero c some = absurd (omega arith)
closed_at-closing (suc n) c some = refl

-- ---- the tokens of a group

abbrev pub group : List ℕ → List ℕ → ℕ → List ℕ
group b is i = first_bytes b (take 8 (drop i is))

module _ (b is : List ℕ) (i : ℕ) (l : i + 8 ≤ length is) where
  pub group-length : length (group b is i) ≡ 8
  group-length = length-map (take 8 (drop i is)) (byte_at b) ∙ length-take-le 8 (drop i is) (omega (arith, length-drop i is))

  pub group-split : (depth : ℕ) → closed_at depth (first_bytes b (drop i is))
      ≡ closed_at depth (group b is i) + closed_at (open_through depth (group b is i)) (first_bytes b (drop (i + 8) is))
  group-split depth =
      ap (λ js. closed_at depth (first_bytes b js)) (sym (take-append-drop 8 (drop i is)))
      ∙ ap (closed_at depth) (map-append (byte_at b) (take 8 (drop i is)) (drop 8 (drop i is)))
      ∙ closed_at-append depth (group b is i) (first_bytes b (drop 8 (drop i is)))
      ∙ ap (λ js. closed_at depth (group b is i) + closed_at (open_through depth (group b is i)) (first_bytes b js)) (drop-drop 8 i is)

  -- the bracket that closes is among them
  pub group-closed : (depth last : ℕ) → (closed_at depth (group b is i) ≡ last + 1) × (open_through depth (group b is i) ≡ 0)
      → (closed_at depth (first_bytes b (drop i is)) ≡ last + 1) × (last < 8)
  group-closed depth last (closed, none) =
      let few : closed_at depth (group b is i) ≤ length (group b is i) = closed_at-le depth (group b is i) in
      let rest = ap (λ n. closed_at n (first_bytes b (drop (i + 8) is))) none ∙ closed_at-none (first_bytes b (drop (i + 8) is)) in
      let split = group-split depth in
      let long = group-length in
      (omega arith, omega arith)

  -- or it is not: the words count how many are open
  pub group-open : (depth opens closes : ℕ) → opens ≡ mask_l (map is_opening (group b is i)) → closes
      ≡ mask_l (map is_closing (group b is i))
      → 0 < open_through depth (group b is i)
      → (closed_at depth (first_bytes b (drop i is)) ≡ 8 + closed_at (depth + ones opens - ones closes) (first_bytes b (drop (i + 8) is)))
      × (ones closes < depth + ones opens) × (ones opens ≤ 8)
  group-open depth opens closes o k some =
      let g : List ℕ = group b is i in
      let long : length g ≡ 8 = group-length in
      let c : IsOpen depth g = open-counts depth g some in
      let e : ones opens ≡ count_by is_opening g = ap ones o ∙ ones-mask_l is_opening g in
      let f : ones closes ≡ count_by is_closing g = ap ones k ∙ ones-mask_l is_closing g in
      let few : count_by is_opening g ≤ length g = count_by-le-length is_opening g in
      let through : open_through depth g ≡ depth + ones opens - ones closes = omega (arith, c.counted) in (
        group-split depth ∙ ap₂ (λ x d. x + closed_at d (first_bytes b (drop (i + 8) is))) (c.all ∙ long) through,
        omega (arith, c.counted),
        omega arith,
      )

-- ---- a value

module _ (b is : List ℕ) (within : AreWithin b is) (bytes : (i : ℕ) → Fits w8 (get_or b i 0)) (i : ℕ) (l : i < length is) where
  span-at : span b (drop i is)
      ≡ cond (eqb (bit_or (get_or b (get_or is i 0) 0) 32) 123) (suc (closed_at 1 (first_bytes b (drop (i + 1) is)))) 1
  span-at =
      let x : ℕ = get_or b (get_or is i 0) 0 in
      ap (span b) (drop_more is i 0 l)
      ∙ ap (λ y. cond (is_opening y) (suc (closed_at 1 (first_bytes b (drop (i + 1) is)))) 1) (sym (get_or_default b
      (get_or is i 0) 0 32 (within i l)))
      ∙ ap (λ t. cond t (suc (closed_at 1 (first_bytes b (drop (i + 1) is)))) 1) (sym (test_opening x (bytes (get_or is i 0)).fits))

  pub span-container : bit_or (get_or b (get_or is i 0) 0) 32 ≡ 123 → span b (drop i is)
      ≡ suc (closed_at 1 (first_bytes b (drop (i + 1) is)))
  span-container e = span-at ∙ ap (λ y. cond (eqb y 123) (suc (closed_at 1 (first_bytes b (drop (i + 1) is)))) 1) e

  pub span-other : (bit_or (get_or b (get_or is i 0) 0) 32 ≡ 123 → ⊥) → span b (drop i is) ≡ 1
  span-other ne = span-at ∙ ap (λ t. cond t (suc (closed_at 1 (first_bytes b (drop (i + 1) is)))) 1)
      (ne_eqb (bit_or (get_or b (get_or is i 0) 0) 32) 123 ne)
