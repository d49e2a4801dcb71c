-- What a printed text is put together from, as the grammar has it: a value between whitespace, and what stands after it.
use Rattle.std.proofs.Common.{◌≡◌, refl, sym, ◌∙◌, ap, ℕ, zero, suc, ◌⊎◌, inl, inr, List, [], ◌++◌, append-nil, append_assoc, replicate}
use Rattle.simd_json_parts.specs.Bytes.{space}
use Rattle.simd_json_parts.specs.Grammar.{IsWhitespace, Spaced, Joined}

pub spaces : (n : ℕ) → IsWhitespace (replicate n space)
spaces zero = refl
spaces (suc n) = spaces n

module _ (P : List ℕ → Type 0) where
  -- with no whitespace around it
  pub alone : (xs : List ℕ) → P xs → Spaced P xs
  alone xs h = record {
    before = [];
    inner = xs;
    after = [];
    whole = sym (append-nil xs);
    before_space = refl;
    after_space = refl;
    holds = h;
  }

  -- after whitespace
  pub spaced_before : (before xs : List ℕ) → IsWhitespace before → P xs → Spaced P (before ++ xs)
  spaced_before before xs space h = record {
    before = before;
    inner = xs;
    after = [];
    whole = sym (append-nil (before ++ xs));
    before_space = space;
    after_space = refl;
    holds = h;
  }

  module _ (Q : List ℕ → Type 0) where
    pub joined : (xs ys : List ℕ) → P xs → Q ys → Joined P Q (xs ++ ys)
    joined xs ys h more = record { left = xs; right = ys; whole = refl; left_holds = h; right_holds = more }

    -- The whitespace at the end is after the last of what is listed: after the first, where there is no more.
    pub listed : (before xs more end : List ℕ) → IsWhitespace before → P xs → IsWhitespace end
        → ((more ≡ []) × Q []) ⊎ Q (more ++ end) → Joined (Spaced P) Q (before ++ xs ++ more ++ end)
    listed before xs more end space h end_space (inl (none, q)) =
        record {
          left = before ++ xs ++ end;
          right = [];
          whole = ap (λ us. us ++ end) (ap (λ us. before ++ xs ++ us) none ∙ append-nil (before ++ xs))
              ∙ sym (append-nil (before ++ xs ++ end));
          left_holds = record {
            before = before;
            inner = xs;
            after = end;
            whole = refl;
            before_space = space;
            after_space = end_space;
            holds = h;
          };
          right_holds = q;
        }
    listed before xs more end space h end_space (inr q) =
        record {
          left = before ++ xs;
          right = more ++ end;
          whole = append_assoc (before ++ xs) more end;
          left_holds = spaced_before before xs space h;
          right_holds = q;
        }
