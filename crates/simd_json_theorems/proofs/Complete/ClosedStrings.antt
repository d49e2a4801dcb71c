-- Bytes that denote a document have an even number of real quotes, and no control byte inside a string.
use Rattle.std.proofs.Common.{◌≡◌, refl, sym, ◌∙◌, ap, subst, ℕ, suc, ◌+◌, ◌-◌, add-zero, add_assoc, inl, inr, List, [], ◌∷◌, ◌++◌, length}
use Rattle.std.proofs.Common.{length-append, append_assoc, append-nil, drop, get_or, Bool, true, false, not, ◌&&◌, ◌==◌, nat_lt, arith}
use Rattle.std.proofs.lemmas.Bool.{cases_lt, and_parts, and_left, and_right, or_from, not-true}
use Rattle.std.proofs.lemmas.List.{get_or-drop, get_or_append_left}
use Rattle.std.proofs.lemmas.List.Folds.{list_any_none}
use Rattle.std.proofs.lemmas.List.FromFn.{get_or-range_with_len, length-range_with_len}
use Rattle.simd_json_parts.specs.Bytes.{quote, backslash, is_control, byte_at, indices}
use Rattle.simd_json_parts.specs.Document.{Document}
use Rattle.simd_json_parts.specs.Grammar.{Denotes}
use Rattle.simd_json_parts.specs.InputFaults.{has_bad_string}
use Rattle.simd_json_parts.specs.Positions.{is_even, backslashes_before, real_quotes, is_inside, has_control_inside}
use Rattle.simd_json_parts.specs.Strings.{IsStringLiteral}
use Rattle.simd_json_parts.proofs.Positions.Boundaries.{no_real_quote}
use Rattle.simd_json_theorems.proofs.Complete.Concatenations.{IsClosed, is_unquoted, of_denoted}
use Rattle.simd_json_parts.proofs.Lists.Drops.{drop-head, drop-tail}
use Rattle.simd_json_theorems.proofs.Literals.Quotes.{run_ends, real_quote, Passed, pass_pieces}
use Rattle.simd_json_parts.proofs.Positions.Scan.{NoneBetween, is_closed, is_closed-quote, is_closed-other, is_closed-through, is_inside-at}
use Rattle.simd_json_theorems.proofs.Complete.StringBytes.{NoControl, NoControl-string}

-- ---- stretches of the input

module _ (b : List ℕ) where
  -- no string is open before index k, and no escape
  pub record Outside (k : ℕ) : Type 0 where
    pub closed : is_closed b k ≡ true
    pub even : is_even (backslashes_before b k) ≡ true

  -- a control byte inside a string
  abbrev is_fault : ℕ → Bool
  is_fault j = is_inside b j && is_control (byte_at b j)

  -- from index k over xs, with no such byte, to an index outside
  pub record Cleared (k : ℕ) (xs zs : List ℕ) : Type 0 where
    pub end : ℕ
    pub at : end ≡ k + length xs
    pub there : drop end b ≡ zs
    pub none : NoneBetween is_fault k end
    pub outside : Outside end

  -- one stretch after another
  cleared-append : (k : ℕ) (xs ys zs : List ℕ) → Cleared k xs (ys ++ zs)
      → ((m : ℕ) → drop m b ≡ ys ++ zs → Outside m → Cleared m ys zs) → Cleared k (xs ++ ys) zs
  cleared-append k xs ys zs p more =
      let q : Cleared p.end ys zs = more p.end p.there p.outside in
      record {
        end = q.end;
        at = q.at ∙ ap (λ n. n + length ys) p.at ∙ add_assoc k (length xs) (length ys) ∙ ap (λ n. k + n) (sym (length-append xs ys));
        there = q.there;
        none = λ j l h. elim (cases_lt j p.end) [ inl s ↦ p.none j l s | inr s ↦ q.none j s h ];
        outside = q.outside;
      }

  -- a byte that is neither a quote nor a backslash
  cleared-plain : (c : ℕ) → is_unquoted c ≡ true → (k : ℕ) (zs : List ℕ) → drop k b ≡ c ∷ zs → Outside k → Cleared k (c ∷ []) zs
  cleared-plain c plain k zs e out =
      let both : ((nat_lt c 128 && not (c == quote)) ≡ true) × (not (c == backslash) ≡ true) =
      and_parts (nat_lt c 128 && not (c == quote)) (not (c == backslash)) plain in
      let no_quote : (c == quote) ≡ false = not-true (c == quote) (and_parts (nat_lt c 128) (not (c == quote)) both.0).1 in
      let closed : is_closed b (suc k) ≡ true =
      is_closed-other b k (no_real_quote b k (ap (λ x. x == quote) (drop-head k b c zs e) ∙ no_quote)) ∙ out.closed in
      record {
        end = suc k;
        at = omega arith;
        there = drop-tail k b c zs e;
        none = λ j l h. let here : k ≡ j = omega arith in
            subst (λ j. is_fault j ≡ false) here (and_left _ _ (is_inside-at b k true closed));
        outside = record { closed = closed; even = ap is_even (run_ends b k c zs e (not-true _ both.1)) };
      }

  -- where no byte of a list is a control byte, none of the input is where the list stands
  none_control : (k : ℕ) (xs zs : List ℕ) → drop k b ≡ xs ++ zs → NoControl xs → NoneBetween is_fault k (k + length xs)
  none_control k xs zs e all j l h =
      let there : k + (j - k) ≡ j = omega arith in
      let byte : byte_at b j ≡ byte_at xs (j - k) =
      ap (byte_at b) (sym there) ∙ sym (get_or-drop k b (j - k) 32) ∙ ap (λ l. byte_at l (j - k)) e
      ∙ get_or_append_left xs zs 32 (j - k) (omega arith) in
      and_right _ _ (ap is_control byte ∙ all (j - k) 32 (omega arith))

  -- a string: its first quote opens, no quote between them is real, and its last one closes
  cleared-string : (xs t : List ℕ) → IsStringLiteral xs t → (k : ℕ) (zs : List ℕ) → drop k b ≡ xs ++ zs → Outside k → Cleared k xs zs
  cleared-string xs t (content, cs, same, pieces, spells) k zs e out =
      record { end = suc m; at = size; there = drop-tail m b 34 zs passed.rest; none = none; outside = outside }
    where
      whole : drop k b ≡ 34 ∷ (content ++ 34 ∷ zs)
      whole = e ∙ ap (λ us. us ++ zs) same ∙ ap (λ us. 34 ∷ us) (append_assoc content (34 ∷ []) zs)

      passed : Passed b (suc k) content (34 ∷ zs)
      passed = pass_pieces b (suc k) content (34 ∷ zs) cs pieces (drop-tail k b 34 (content ++ 34 ∷ zs) whole)
          (ap is_even (run_ends b k 34 (content ++ 34 ∷ zs) whole refl))

      m : ℕ
      m = passed.end

      size : suc m ≡ k + length xs
      size = omega (arith, passed.at, ap length same, length-append content (34 ∷ []))

      none : NoneBetween is_fault k (suc m)
      none = subst (NoneBetween is_fault k) (sym size) (none_control k xs zs e (NoControl-string xs t (content, cs, same, pieces, spells)))

      opened : is_closed b m ≡ false
      opened = is_closed-through b (suc k) m passed.quiet.grows passed.quiet.none
          ∙ is_closed-quote b k (real_quote b k (content ++ 34 ∷ zs) whole out.even) ∙ ap not out.closed

      outside : Outside (suc m)
      outside =
          record {
            closed = is_closed-quote b m (real_quote b m zs passed.rest passed.quiet.even) ∙ ap not opened;
            even = ap is_even (run_ends b m 34 zs passed.rest refl);
          }

-- wherever the list begins outside, it ends outside, with no control byte inside a string
abbrev StaysOutside : List ℕ → Type 0
StaysOutside xs = (b : List ℕ) (k : ℕ) (zs : List ℕ) → drop k b ≡ xs ++ zs → Outside b k → Cleared b k xs zs

IsClosed-StaysOutside : IsClosed StaysOutside
IsClosed-StaysOutside = record { nil = nil; append = append }
  where
    nil : StaysOutside []
    nil b k zs e out = record { end = k; at = sym (add-zero k); there = e; none = λ j l h. absurd (omega arith); outside = out }

    append : (xs ys : List ℕ) → StaysOutside xs → StaysOutside ys → StaysOutside (xs ++ ys)
    append xs ys p q b k zs e out = cleared-append b k xs ys zs (p b k (ys ++ zs) (e ∙ append_assoc xs ys zs) out) (λ m f o. q b m zs f o)

-- What denotes a document is so.
StaysOutside-Denotes : (b : List ℕ) (d : Document) → Denotes b d → StaysOutside b
StaysOutside-Denotes =
    of_denoted StaysOutside IsClosed-StaysOutside (λ c plain b. cleared-plain b c plain) (λ xs t h b. cleared-string b xs t h)

-- No string of a denoted document is bad.
pub has_bad_string-Denotes : (b : List ℕ) (d : Document) → Denotes b d → has_bad_string b ≡ false
unfolding has_control_inside real_quotes backslashes_before
has_bad_string-Denotes b d h =
    let p : Cleared b 0 b [] = StaysOutside-Denotes b d h b 0 [] (sym (append-nil b)) (record { closed = refl; even = refl }) in
    let whole : p.end ≡ length b = omega (arith, p.at) in
    let closed : is_closed b (length b) ≡ true = subst (λ n. is_closed b n ≡ true) whole p.outside.closed in
    or_from _ _ (ap not closed)
    (list_any_none (is_fault b) (indices b) (λ i c l. p.none (get_or (indices b) i c) (omega arith)
    (omega (arith, p.at, get_or-range_with_len 0 (length b) i c, length-range_with_len 0 (length b)))))
