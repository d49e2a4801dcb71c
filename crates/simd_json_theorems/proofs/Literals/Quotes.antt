-- A string literal of the grammar, wherever it stands, is read as its string: pieces hold no real quote, and the quote after them is real.
use Rattle.std.proofs.Common.{◌≡◌, ◌≢◌, refl, sym, ◌∙◌, ap, subst, ℕ, zero, suc, ◌+◌, ◌-◌, ◌/◌, ◌<◌, ◌≤◌, ◌⊎◌, inl, inr, List, []}
use Rattle.std.proofs.Common.{◌∷◌, ◌++◌, length, take, drop, Bool, true, false, cond, not, nat_eq, nat_lt, add-zero, add_assoc}
use Rattle.std.proofs.Common.{append_assoc, length-append, arith}
use Rattle.std.specs.Prelude.{Some, Ok, slice_range, encode_utf8_all, if◌then◌else◌}
use Rattle.std.specs.Char.{encode_utf8, is_digit}
use Rattle.std.specs.List.{position_or_len, range_with_len}
use Rattle.std.proofs.Math.Seq.{take-append_seam}
use Rattle.std.proofs.lemmas.Bool.{eqb-true, ne_eqb, cases_Bool, cases_lt, and_right, and_left, and_from}
use lib.Utf8.{next}
use Rattle.simd_json_parts.specs.Bytes.{quote, backslash}
use Rattle.simd_json_parts.specs.Strings.{hex_value, IsCodeUnit, IsPiece, ArePieces}
use Rattle.simd_json_parts.specs.Positions.{is_even, backslashes_before, is_real_quote}
use Rattle.simd_json_parts.specs.StringAt.{closing_quote, read_pieces, string_read, string_at}
use Rattle.simd_json_parts.proofs.Positions.Boundaries.{no_digit}
use Rattle.simd_json_parts.proofs.Lists.Parity.{is_even-suc}
use Rattle.simd_json_parts.proofs.Lists.Drops.{drop-head, drop-tail, drop-inside}
use Rattle.simd_json_theorems.proofs.Literals.Escapes.{AreHexDigits, hex_value-digits}
use Rattle.simd_json_scalars.proofs.Strings.Pieces.{read_pieces-pieces}

-- from k up to m there is no real quote, and the run of backslashes before m is even
pub record Quiet (b : List ℕ) (k m : ℕ) : Type 0 where
  pub grows : k ≤ m
  pub none : (j : ℕ) → k ≤ j → j < m → is_real_quote b j ≡ false
  pub even : is_even (backslashes_before b m) ≡ true

quiet-append : (b : List ℕ) (k m n : ℕ) → Quiet b k m → Quiet b m n → Quiet b k n
quiet-append b k m n p q = record {
  grows = omega (arith, p.grows, q.grows);
  none = λ j l h. elim (cases_lt j m) [ inl s ↦ p.none j l s | inr s ↦ q.none j s h ];
  even = q.even;
}

-- a byte that is no backslash ends a run
pub run_ends : (b : List ℕ) (k x : ℕ) (zs : List ℕ) → drop k b ≡ x ∷ zs → nat_eq x 92 ≡ false → backslashes_before b (suc k) ≡ 0
unfolding backslashes_before
run_ends b k x zs e ne = ap (λ t. if t then suc (backslashes_before b k) else 0) (ap (λ y. nat_eq y 92) (drop-head k b x zs e) ∙ ne)

run_grows : (b : List ℕ) (k : ℕ) (zs : List ℕ) → drop k b ≡ 92 ∷ zs → backslashes_before b (suc k) ≡ suc (backslashes_before b k)
unfolding backslashes_before
run_grows b k zs e = ap (λ t. if t then suc (backslashes_before b k) else 0) (ap (λ y. nat_eq y 92) (drop-head k b 92 zs e))

no_quote : (b : List ℕ) (k x : ℕ) (zs : List ℕ) → drop k b ≡ x ∷ zs → nat_eq x 34 ≡ false → is_real_quote b k ≡ false
unfolding is_real_quote
no_quote b k x zs e ne = and_left _ _ (ap (λ y. nat_eq y 34) (drop-head k b x zs e) ∙ ne)

only : (b : List ℕ) (k : ℕ) → is_real_quote b k ≡ false → (j : ℕ) → k ≤ j → j < suc k → is_real_quote b j ≡ false
only b k e j l h = let same : k ≡ j = omega arith in subst (λ i. is_real_quote b i ≡ false) same e

-- a byte that is neither a quote nor a backslash
quiet_byte : (b : List ℕ) (k x : ℕ) (zs : List ℕ) → drop k b ≡ x ∷ zs → nat_eq x 34 ≡ false → nat_eq x 92 ≡ false → Quiet b k (suc k)
quiet_byte b k x zs e nq nb =
    record { grows = omega arith; none = only b k (no_quote b k x zs e nq); even = ap is_even (run_ends b k x zs e nb) }

-- a backslash after an even run, and the byte that it escapes
quiet_escape : (b : List ℕ) (k x : ℕ) (zs : List ℕ) → drop k b ≡ 92 ∷ x ∷ zs → is_even (backslashes_before b k) ≡ true
    → Quiet b k (suc (suc k))
unfolding is_real_quote
quiet_escape b k x zs e even = record { grows = omega arith; none = none; even = ending (cases_Bool (nat_eq x 92)) }
  where
    second : drop (suc k) b ≡ x ∷ zs
    second = drop-tail k b 92 (x ∷ zs) e

    odd : is_even (backslashes_before b (suc k)) ≡ false
    odd = ap is_even (run_grows b k (x ∷ zs) e) ∙ is_even-suc (backslashes_before b k) ∙ ap not even

    not_real : is_real_quote b (suc k) ≡ false
    not_real = and_right _ _ odd

    none : (j : ℕ) → k ≤ j → j < suc (suc k) → is_real_quote b j ≡ false
    none j l h = elim (cases_lt j (suc k)) [
      | inl s ↦ only b k (no_quote b k 92 (x ∷ zs) e refl) j l s
      | inr s ↦ only b (suc k) not_real j s h
    ]

    ending : (nat_eq x 92 ≡ true) ⊎ (nat_eq x 92 ≡ false) → is_even (backslashes_before b (suc (suc k))) ≡ true
    ending (inl h) =
        ap is_even (run_grows b (suc k) zs (second ∙ ap (λ y. y ∷ zs) (eqb-true x 92 h)))
        ∙ is_even-suc (backslashes_before b (suc k)) ∙ ap not odd
    ending (inr h) = ap is_even (run_ends b (suc k) x zs second h)

-- ---- pieces

-- a stretch, and what stands after it
pub record Passed (b : List ℕ) (k : ℕ) (xs zs : List ℕ) : Type 0 where
  pub end : ℕ
  pub at : end ≡ k + length xs
  pub quiet : Quiet b k end
  pub rest : drop end b ≡ zs

pass_byte : (b : List ℕ) (k x : ℕ) (zs : List ℕ) → drop k b ≡ x ∷ zs → nat_eq x 34 ≡ false → nat_eq x 92 ≡ false → Passed b k (x ∷ []) zs
pass_byte b k x zs e nq nb = record { end = suc k; at = omega arith; quiet = quiet_byte b k x zs e nq nb; rest = drop-tail k b x zs e }

pass_escape : (b : List ℕ) (k x : ℕ) (zs : List ℕ) → drop k b ≡ 92 ∷ x ∷ zs → is_even (backslashes_before b k) ≡ true
    → Passed b k (92 ∷ x ∷ []) zs
pass_escape b k x zs e even =
    record {
      end = suc (suc k);
      at = omega arith;
      quiet = quiet_escape b k x zs e even;
      rest = drop-tail (suc k) b x zs (drop-tail k b 92 (x ∷ zs) e);
    }

pass_append : (b : List ℕ) (k : ℕ) (xs ys zs : List ℕ) → Passed b k xs (ys ++ zs)
    → ((m : ℕ) → is_even (backslashes_before b m) ≡ true → drop m b ≡ ys ++ zs → Passed b m ys zs) → Passed b k (xs ++ ys) zs
pass_append b k xs ys zs p more =
    let q : Passed b p.end ys zs = more p.end p.quiet.even p.rest in
    record {
      end = q.end;
      at = q.at ∙ ap (λ n. n + length ys) p.at ∙ add_assoc k (length xs) (length ys) ∙ ap (λ n. k + n) (sym (length-append xs ys));
      quiet = quiet-append b k p.end q.end p.quiet q.quiet;
      rest = q.rest;
    }

pass_digit : (b : List ℕ) (k a : ℕ) (zs : List ℕ) → drop k b ≡ a ∷ zs → is_digit a 16 ≡ true → Passed b k (a ∷ []) zs
pass_digit b k a zs e good = pass_byte b k a zs e (no_digit a 34 good refl) (no_digit a 92 good refl)

pass_digits : (b : List ℕ) (k p q r s : ℕ) (zs : List ℕ) → is_digit p 16 ≡ true → is_digit q 16 ≡ true → is_digit r 16 ≡ true
    → is_digit s 16 ≡ true → drop k b ≡ p ∷ q ∷ r ∷ s ∷ zs → Passed b k (p ∷ q ∷ r ∷ s ∷ []) zs
pass_digits b k p q r s zs hp hq hr hs e =
    pass_append b k (p ∷ []) (q ∷ r ∷ s ∷ []) zs (pass_digit b k p (q ∷ r ∷ s ∷ zs) e hp)
    (λ k v e. pass_append b k (q ∷ []) (r ∷ s ∷ []) zs (pass_digit b k q (r ∷ s ∷ zs) e hq)
    (λ k v e. pass_append b k (r ∷ []) (s ∷ []) zs (pass_digit b k r (s ∷ zs) e hr) (λ k v e. pass_digit b k s zs e hs)))

pass_six : (b : List ℕ) (k p q r s u : ℕ) (zs : List ℕ) → hex_value p q r s ≡ Some u → drop k b ≡ 92 ∷ 117 ∷ p ∷ q ∷ r ∷ s ∷ zs
    → is_even (backslashes_before b k) ≡ true → Passed b k (92 ∷ 117 ∷ p ∷ q ∷ r ∷ s ∷ []) zs
pass_six b k p q r s u zs value e even =
    let are : AreHexDigits p q r s u = hex_value-digits p q r s u value in
    pass_append b k (92 ∷ 117 ∷ []) (p ∷ q ∷ r ∷ s ∷ []) zs (pass_escape b k 117 (p ∷ q ∷ r ∷ s ∷ zs) e even)
    (λ m v f. pass_digits b m p q r s zs are.first are.second are.third are.fourth f)

pass_code_unit : (b : List ℕ) (k : ℕ) (xs zs : List ℕ) (u : ℕ) → IsCodeUnit xs u → drop k b ≡ xs ++ zs
    → is_even (backslashes_before b k) ≡ true → Passed b k xs zs
pass_code_unit b k xs zs u h e even =
    subst (λ us. Passed b k us zs) (sym h.4) (pass_six b k h.0 h.1 h.2 h.3 u zs h.5 (e ∙ ap (λ us. us ++ zs) h.4) even)

pass_high : (b : List ℕ) (k x : ℕ) (zs : List ℕ) → 128 ≤ x → drop k b ≡ x ∷ zs → Passed b k (x ∷ []) zs
pass_high b k x zs l e = pass_byte b k x zs e (ne_eqb x 34 (λ h. omega arith)) (ne_eqb x 92 (λ h. omega arith))

pass_plain : (b : List ℕ) (k c : ℕ) (zs : List ℕ) → c ≢ quote → c ≢ backslash → drop k b ≡ encode_utf8 c ++ zs
    → Passed b k (encode_utf8 c) zs
unfolding encode_utf8
pass_plain b k c zs nq nb = go (nat_lt c 128) (nat_lt c 2048) (nat_lt c 65536)
  where
    go : (x y z : Bool) → let bytes : List ℕ = cond x (c ∷ []) (cond y ((192 + c / 64) ∷ next c ∷ []) (cond z
        ((224 + c / 4096) ∷ next (c / 64) ∷ next c ∷ []) ((240 + c / 262144) ∷ next (c / 4096) ∷ next (c / 64) ∷ next c ∷ []))) in
        drop k b ≡ bytes ++ zs → Passed b k bytes zs
    go true y z e = pass_byte b k c zs e (ne_eqb c 34 nq) (ne_eqb c 92 nb)
    go false true z e = pass_append b k ((192 + c / 64) ∷ []) (next c ∷ []) zs
        (pass_high b k (192 + c / 64) (next c ∷ zs) (omega arith) e) (λ m v f. pass_high b m (next c) zs (omega arith) f)
    go false false true e =
        pass_append b k ((224 + c / 4096) ∷ []) (next (c / 64) ∷ next c ∷ []) zs
        (pass_high b k (224 + c / 4096) (next (c / 64) ∷ next c ∷ zs) (omega arith) e)
        (λ m v f. pass_append b m (next (c / 64) ∷ []) (next c ∷ []) zs
        (pass_high b m (next (c / 64)) (next c ∷ zs) (omega arith) f) (λ m v f. pass_high b m (next c) zs (omega arith) f))
    go false false false e =
        pass_append b k ((240 + c / 262144) ∷ []) (next (c / 4096) ∷ next (c / 64) ∷ next c ∷ []) zs
        (pass_high b k (240 + c / 262144) (next (c / 4096) ∷ next (c / 64) ∷ next c ∷ zs) (omega arith) e)
        (λ m v f. pass_append b m (next (c / 4096) ∷ []) (next (c / 64) ∷ next c ∷ []) zs
        (pass_high b m (next (c / 4096)) (next (c / 64) ∷ next c ∷ zs) (omega arith) f)
        (λ m v f. pass_append b m (next (c / 64) ∷ []) (next c ∷ []) zs
        (pass_high b m (next (c / 64)) (next c ∷ zs) (omega arith) f) (λ m v f. pass_high b m (next c) zs (omega arith) f)))

pub pass_piece : (b : List ℕ) (k : ℕ) (xs zs : List ℕ) (c : ℕ) → IsPiece xs c → drop k b ≡ xs ++ zs
    → is_even (backslashes_before b k) ≡ true → Passed b k xs zs
pass_piece b k xs zs c (inl (scalar, control, nq, nb, same)) e even =
    subst (λ us. Passed b k us zs) (sym same) (pass_plain b k c zs nq nb (e ∙ ap (λ us. us ++ zs) same))
pass_piece b k xs zs c (inr (inl (letter, same, f))) e even =
    subst (λ us. Passed b k us zs) (sym same) (pass_escape b k letter zs (e ∙ ap (λ us. us ++ zs) same) even)
pass_piece b k xs zs c (inr (inr (inl (code_unit, high, low)))) e even = pass_code_unit b k xs zs c code_unit e even
pass_piece b k xs zs c (inr (inr (inr (us, vs, high, low, same, first, second, is_high, is_low, f)))) e even =
    subst (λ ws. Passed b k ws zs) (sym same)
    (pass_append b k us vs zs (pass_code_unit b k us (vs ++ zs) high first
    (e ∙ ap (λ ws. ws ++ zs) same ∙ append_assoc us vs zs) even) (λ m v g. pass_code_unit b m vs zs low second g v))

-- pieces hold no real quote
pub pass_pieces : (b : List ℕ) (k : ℕ) (bs zs cs : List ℕ) → ArePieces bs cs → drop k b ≡ bs ++ zs
    → is_even (backslashes_before b k) ≡ true → Passed b k bs zs
pass_pieces b k bs zs [] same e even =
    record {
      end = k;
      at = sym (add-zero k) ∙ ap (λ us. k + length us) (sym same);
      quiet = record { grows = omega arith; none = λ j l h. absurd (omega arith); even = even };
      rest = e ∙ ap (λ us. us ++ zs) same;
    }
pass_pieces b k bs zs (c ∷ cs) (xs, ys, same, piece, more) e even =
    subst (λ us. Passed b k us zs) (sym same)
    (pass_append b k xs ys zs (pass_piece b k xs (ys ++ zs) c piece (e ∙ ap (λ us. us ++ zs) same ∙ append_assoc xs ys zs) even)
    (λ m v f. pass_pieces b m ys zs cs more f v))

-- ---- a whole string

first-place : (p : ℕ → Bool) (k d n : ℕ) → ((j : ℕ) → k ≤ j → j < k + d → p j ≡ false) → p (k + d) ≡ true → d < n
    → position_or_len p (range_with_len k n) ≡ d
first-place p k d zero none here l = absurd (omega arith)
first-place p k zero (suc n) none here l =
    ap (λ t. cond (not t) (1 + position_or_len p (range_with_len (k + 1) n)) 0) (ap p (sym (add-zero k)) ∙ here)
first-place p k (suc d) (suc n) none here l =
    let same : (k + 1) + d ≡ k + suc d = omega arith in
    let later : position_or_len p (range_with_len (k + 1) n) ≡ d =
    first-place p (k + 1) d n (λ j g h. none j (omega arith) (omega arith)) (ap p same ∙ here) (omega arith) in
    ap (λ t. cond (not t) (1 + position_or_len p (range_with_len (k + 1) n)) 0) (none k (omega arith) (omega arith)) ∙ omega arith

pub real_quote : (b : List ℕ) (m : ℕ) (zs : List ℕ) → drop m b ≡ 34 ∷ zs → is_even (backslashes_before b m) ≡ true
    → is_real_quote b m ≡ true
unfolding is_real_quote
real_quote b m zs e even = and_from _ _ (ap (λ y. nat_eq y 34) (drop-head m b 34 zs e)) even

-- A string literal of the grammar is read as its string, up to its closing quote.
pub string_at-literal : (b : List ℕ) (i : ℕ) (content zs cs : List ℕ) → drop i b ≡ 34 ∷ (content ++ 34 ∷ zs) → ArePieces content cs
    → string_at b i ≡ Ok (encode_utf8_all cs, suc (suc i + length content))
unfolding string_at closing_quote
string_at-literal b i content zs cs e pieces = ap (λ m. string_read (read_pieces 0 (slice_range b (suc i) m)) m) closes
    ∙ ap (λ us. string_read (read_pieces 0 us) end) inside ∙ ap (λ r. string_read r end) (read_pieces-pieces content cs pieces)
  where
    end : ℕ
    end = suc i + length content

    after : drop (suc i) b ≡ content ++ 34 ∷ zs
    after = drop-tail i b 34 (content ++ 34 ∷ zs) e

    passed : Passed b (suc i) content (34 ∷ zs)
    passed = pass_pieces b (suc i) content (34 ∷ zs) cs pieces after (ap is_even (run_ends b i 34 (content ++ 34 ∷ zs) e refl))

    at_end : drop end b ≡ 34 ∷ zs
    at_end = subst (λ m. drop m b ≡ 34 ∷ zs) passed.at passed.rest

    quiet : Quiet b (suc i) end
    quiet = subst (Quiet b (suc i)) passed.at passed.quiet

    within : end < length b
    within = drop-inside end b 34 zs at_end

    closes : closing_quote b i ≡ end
    closes = ap (λ n. suc i + n) (first-place (is_real_quote b) (suc i) (length content) (length b - suc i) quiet.none
        (real_quote b end zs at_end quiet.even) (omega (arith, within)))

    span : end - suc i ≡ length content
    span = omega arith

    inside : slice_range b (suc i) end ≡ content
    inside = ap (λ n. take n (drop (suc i) b)) span ∙ ap (take (length content)) after ∙ take-append_seam content (34 ∷ zs)
