-- From byte to byte of a number: the pattern of what may stand after each prefix of a literal.
use Rattle.std.proofs.Common.{◌≡◌, refl, sym, ◌∙◌, ap, subst, ℕ, zero, suc, ◌+◌, ◌-◌, ◌≤◌, ◌<◌, inl, inr, List, [], ◌∷◌, length}
use Rattle.std.proofs.Common.{take, drop, Bool, true, false, ◌==◌, if◌then◌else◌, Result, Ok, Err, drop-cons, length-drop, add-one}
use Rattle.std.proofs.Common.{add-suc, add-zero, arith}
use Rattle.std.specs.Char.{is_ascii_digit}
use Rattle.std.specs.List.{prefix_len}
use Rattle.std.proofs.lemmas.Bool.{cases_lt, eqb-false}
use Rattle.std.proofs.lemmas.List.{get_or-drop, get_or-take, get_or_past, drop-take, length-take}
use Rattle.std.proofs.lemmas.List.Sums.{prefix_len-le-length, prefix_len_passes, prefix_len_stops}
use Rattle.simd_json_parts.specs.Bytes.{byte_at}
use Rattle.simd_json_parts.specs.Patterns.{Pattern, never, empty, ◌then◌}
use Rattle.simd_json_parts.specs.Derivatives.{takes_empty, is_possible, derivative, matches, longest_prefix}

-- ---- from one place and pattern to another

-- Reading b as p from i on comes to reading it as q from j on: as far, and of the same prefixes that reach j.
pub record Leads (b : List ℕ) (p : Pattern) (i : ℕ) (q : Pattern) (j : ℕ) : Type 0 where
  pub onward : i ≤ j
  pub inside : j ≤ length b
  pub prefix : i + longest_prefix p (drop i b) ≡ j + longest_prefix q (drop j b)
  pub member : (k : ℕ) → j ≤ k → matches p (drop i (take k b)) ≡ matches q (drop j (take k b))

pub Leads-Leads : (b : List ℕ) (p q r : Pattern) (i j k : ℕ) → Leads b p i q j → Leads b q j r k → Leads b p i r k
Leads-Leads b p q r i j k x y =
    let far : j ≤ k = y.onward in
    record {
      onward = let near : i ≤ j = x.onward in omega arith;
      inside = y.inside;
      prefix = x.prefix ∙ y.prefix;
      member = λ n l. x.member n (omega arith) ∙ y.member n l;
    }

-- the same end in another word
pub Leads-to : (b : List ℕ) (p q : Pattern) (i j k : ℕ) → k ≡ j → Leads b p i q j → Leads b p i q k
Leads-to b p q i j k e x = subst (λ n. Leads b p i q n) (sym e) x

longest_prefix-cons : (p q : Pattern) (c : ℕ) (bs : List ℕ) → derivative c p ≡ q → is_possible q ≡ true
    → longest_prefix p (c ∷ bs) ≡ suc (longest_prefix q bs)
longest_prefix-cons p q c bs e h = rw e (rw h refl)

-- over a byte
pub over : (b : List ℕ) (p q : Pattern) (i : ℕ) → i < length b → derivative (byte_at b i) p ≡ q
    → is_possible q ≡ true → Leads b p i q (suc i)
over b p q i l e h =
    record {
      onward = omega arith;
      inside = omega arith;
      prefix =
          ap (λ bs. i + longest_prefix p bs) (drop-cons b i 32 l)
          ∙ ap (λ n. i + n) (longest_prefix-cons p q (byte_at b i) (drop (suc i) b) e h)
          ∙ omega arith;
      member = λ k m.
          let inside : i < length (take k b) = omega (arith, length-take k b) in
          let rest : List ℕ = drop (suc i) (take k b) in
          ap (matches p) (drop-cons (take k b) i 32 inside)
          ∙ ap (λ c. matches (derivative c p) rest) (get_or-take k b i 32 (omega arith))
          ∙ ap (λ r. matches r rest) e;
    }

same_prefix : (p q : Pattern) (c : ℕ) (bs : List ℕ) → derivative c p ≡ derivative c q → (0 < length bs → byte_at bs 0 ≡ c)
    → longest_prefix p bs ≡ longest_prefix q bs
same_prefix p q c [] e at = refl
same_prefix p q c (x ∷ bs) e at = rw (at (omega arith), e) refl

same_member : (p q : Pattern) (c : ℕ) (bs : List ℕ) → takes_empty p ≡ takes_empty q → derivative c p ≡ derivative c q
    → (0 < length bs → byte_at bs 0 ≡ c) → matches p bs ≡ matches q bs
same_member p q c [] t e at = t
same_member p q c (x ∷ bs) t e at = rw (at (omega arith), e) refl

-- at a byte that both patterns take alike
pub stay : (b : List ℕ) (p q : Pattern) (i : ℕ) → i ≤ length b → takes_empty p ≡ takes_empty q
    → derivative (byte_at b i) p ≡ derivative (byte_at b i) q → Leads b p i q i
stay b p q i l t e =
    let here : (bs : List ℕ) → byte_at (drop i bs) 0 ≡ byte_at bs i = λ bs. simp add-zero at (get_or-drop i bs 0 32) in
    record {
      onward = omega arith;
      inside = l;
      prefix = ap (λ n. i + n) (same_prefix p q (byte_at b i) (drop i b) e (λ _. here b));
      member = λ k m. same_member p q (byte_at b i) (drop i (take k b)) t e
          (λ h. here (take k b) ∙ get_or-take k b i 32 (omega (arith, length-drop i (take k b), length-take k b)));
    }

-- over the byte c
pub over_byte : (b : List ℕ) (p q : Pattern) (i c : ℕ) → byte_at b i ≡ c → (c == 32) ≡ false → derivative c p ≡ q
    → is_possible q ≡ true → Leads b p i q (i + 1)
over_byte b p q i c e s a h =
    elim (cases_lt i (length b)) [
      | inl l ↦ rw add-one (over b p q i l (ap (λ d. derivative d p) e ∙ a) h)
      | inr l ↦ absurd (eqb-false c 32 s (sym e ∙ get_or_past b i 32 l))
    ]

-- ---- what a reader tells that reads the longest prefix from i on

abbrev pub reported : Bool → ℕ → Result ℕ ℕ
reported whole end = if whole then Ok end else Err end

abbrev pub Reads : Pattern → List ℕ → ℕ → Result ℕ ℕ → Type 0
Reads p b i result = result ≡ reported (matches p (take (longest_prefix p (drop i b)) (drop i b))) (i + longest_prefix p (drop i b))

pub Leads-Reads : (b : List ℕ) (p q : Pattern) (i j : ℕ) (result : Result ℕ ℕ) → Leads b p i q j → Reads q b j result → Reads p b i result
Leads-Reads b p q i j result x e =
    let n : ℕ = longest_prefix p (drop i b) in
    let m : ℕ = longest_prefix q (drop j b) in
    let far : i + n ≡ j + m = x.prefix in
    let same : matches p (take n (drop i b)) ≡ matches q (take m (drop j b)) =
    ap (matches p) (sym (drop-take i n b)) ∙ x.member (i + n) (omega arith)
    ∙ ap (λ k. matches q (drop j (take k b))) far ∙ ap (matches q) (drop-take j m b) in
    e ∙ ap (λ t. reported t (j + m)) (sym same) ∙ ap (reported (matches p (take n (drop i b)))) (sym far)

empty-Reads : (bs : List ℕ) (j : ℕ) → Ok j ≡ reported (matches empty (take (longest_prefix empty bs) bs)) (j + longest_prefix empty bs)
empty-Reads [] j = ap Ok (omega arith)
empty-Reads (x ∷ bs) j = ap Ok (omega arith)

never-Reads : (bs : List ℕ) (j : ℕ) → Err j ≡ reported (matches never (take (longest_prefix never bs) bs)) (j + longest_prefix never bs)
never-Reads [] j = ap Err (omega arith)
never-Reads (x ∷ bs) j = ap Err (omega arith)

-- nothing more may follow
pub Reads-whole : (b : List ℕ) (p : Pattern) (i j : ℕ) → Leads b p i empty j → Reads p b i (Ok j)
Reads-whole b p i j x = Leads-Reads b p empty i j (Ok j) x (empty-Reads (drop j b) j)

-- nothing may follow, and yet something must
pub Reads-part : (b : List ℕ) (p : Pattern) (i j : ℕ) → Leads b p i never j → Reads p b i (Err j)
Reads-part b p i j x = Leads-Reads b p never i j (Err j) x (never-Reads (drop j b) j)

-- ---- digits, up to the first byte that is none

module _ (b : List ℕ) (i end : ℕ) (here : i ≤ length b) (run : end ≡ i + prefix_len is_ascii_digit (drop i b)) where
  pub run-inside : end ≤ length b
  run-inside = omega (arith, prefix_len-le-length is_ascii_digit (drop i b), length-drop i b)

  pub run-digit : (k : ℕ) → i ≤ k → k < end → is_ascii_digit (byte_at b k) ≡ true
  run-digit k low high =
      let at : i + (k - i) ≡ k = omega arith in
      ap (λ j. is_ascii_digit (byte_at b j)) (sym at) ∙ ap is_ascii_digit (sym (get_or-drop i b (k - i) 32))
      ∙ prefix_len_passes is_ascii_digit (drop i b) (k - i) 32 (omega arith)

  run-ends : is_ascii_digit (byte_at b end) ≡ false
  run-ends =
      elim (cases_lt end (length b)) [
        | inl l ↦ ap (λ j. is_ascii_digit (byte_at b j)) run
            ∙ ap is_ascii_digit (sym (get_or-drop i b (prefix_len is_ascii_digit (drop i b)) 32))
            ∙ prefix_len_stops is_ascii_digit (drop i b) 32 (omega (arith, length-drop i b))
        | inr l ↦ ap is_ascii_digit (get_or_past b end 32 l)
      ]

passes : (b : List ℕ) (p : Pattern) (i n : ℕ) → i + n ≤ length b
    → ((k : ℕ) → i ≤ k → k < i + n → derivative (byte_at b k) p ≡ p) → is_possible p ≡ true → Leads b p i p (i + n)
passes b p i zero l each h = simp add-zero (stay b p p i (omega arith) refl refl)
passes b p i (suc n) l each h =
    rw add-suc (Leads-Leads b p p p i (i + n) (suc (i + n)) (passes b p i n (omega arith) (λ k low high. each k low (omega arith)) h)
    (over b p p (i + n) (omega arith) (each (i + n) (omega arith) (omega arith)) h))

-- A pattern that takes digits; at another byte, what is left of it is q.
pub record TakesDigits (p q : Pattern) : Type 0 where
  pub possible : is_possible p ≡ true
  pub each : (c : ℕ) → is_ascii_digit c ≡ true → derivative c p ≡ p
  pub after : (c : ℕ) → is_ascii_digit c ≡ false → derivative c p ≡ derivative c q
  pub ends : takes_empty p ≡ takes_empty q

-- from p, which makes way for more at its first digit
pub over_digits : (b : List ℕ) (p more q : Pattern) (i end : ℕ) → i ≤ length b → end ≡ i + prefix_len is_ascii_digit (drop i b) → i < end
    → derivative (byte_at b i) p ≡ more → TakesDigits more q → Leads b p i q end
over_digits b p more q i end here run some first takes =
    let inside : end ≤ length b = run-inside b i end here run in
    let whole : suc i + (end - suc i) ≡ end = omega arith in
    let each : (k : ℕ) → suc i ≤ k → k < suc i + (end - suc i) → derivative (byte_at b k) more ≡ more =
    λ k low high. takes.each (byte_at b k) (run-digit b i end here run k (omega arith) (omega arith)) in
    Leads-Leads b p more q i (suc i) end (over b p more i (omega arith) first takes.possible)
    (Leads-Leads b more more q (suc i) end end
    (Leads-to b more more (suc i) (suc i + (end - suc i)) end (sym whole)
    (passes b more (suc i) (end - suc i) (omega arith) each takes.possible))
    (stay b more q end inside takes.ends (takes.after (byte_at b end) (run-ends b i end here run))))

-- where a digit must stand and none does
pub no_digits : (b : List ℕ) (p : Pattern) (i end : ℕ) → i ≤ length b → end ≡ i + prefix_len is_ascii_digit (drop i b) → end ≡ i
    → takes_empty p ≡ false → ((c : ℕ) → is_ascii_digit c ≡ false → derivative c p ≡ never) → Leads b p i never end
no_digits b p i end here run none t e =
    Leads-to b p never i i end none
    (stay b p never i here t (e (byte_at b i) (subst (λ k. is_ascii_digit (byte_at b k) ≡ false) none (run-ends b i end here run))))
