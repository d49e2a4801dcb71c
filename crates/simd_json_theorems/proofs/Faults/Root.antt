-- What the faults of the descent of a whole input report.
use Rattle.std.proofs.Common.{◌≡◌, refl, sym, ◌∙◌, ap, subst, ℕ, ◌<◌, List, [], ◌∷◌, ◌++◌, length, take, drop, append_assoc}
use Rattle.std.proofs.Common.{append-nil, false, if◌then◌else◌}
use Rattle.std.specs.Prelude.{Err, None}
use Rattle.std.proofs.lemmas.Bool.{cond_both, both_ways}
use Rattle.std.proofs.lemmas.List.{take-append-drop, take-take}
use Rattle.simd_json_parts.specs.Bytes.{is_whitespace, byte_at}
use Rattle.simd_json_parts.specs.Descent.{value_from, is_container, last_index, last_read, root_end, descent}
use Rattle.simd_json_parts.specs.Document.{Document}
use Rattle.simd_json_parts.specs.ErrorKinds.{is_unexpected_token}
use Rattle.simd_json_parts.specs.Faults.{fault_at}
use Rattle.simd_json_parts.specs.Grammar.{IsWhitespace}
use Rattle.simd_json_parts.specs.FaultKinds.{IsBeginning}
use Rattle.simd_json_parts.specs.InputFaults.{input_fault}
use Rattle.simd_json_parts.specs.Tokens.{Token, tokens}
use Rattle.simd_json_parts.specs.declared.error.Error.{Error}
use Rattle.simd_json_parts.specs.declared.error.ErrorType.TheVariants.{Syntax, InternalError, TrailingData}
use Rattle.simd_json_parts.proofs.Positions.CleanInputs.{IsClean, IsClean-input}
use Rattle.simd_json_theorems.proofs.Faults.Descent.{value_from-reported}
use Rattle.simd_json_theorems.proofs.Faults.Expectations.{IsDocument, IsBeginning-prefix, take-through, Expects, ExpectsAt}
use Rattle.simd_json_theorems.proofs.Faults.AtTokens.{Reported, OkOrReported, bind-OkOrReported, Next, IsBeginning-take}
use Rattle.simd_json_theorems.proofs.Faults.AtTokens.{IsBeginning-before, expects-token}
use Rattle.simd_json_theorems.proofs.Faults.Follows.{ValueThen, CanFollow}
use Rattle.simd_json_theorems.proofs.Faults.LastRead.{last_read-le}
use Rattle.simd_json_theorems.proofs.Unique.LeadingBytes.{value-NoSpace}
use Rattle.simd_json_theorems.proofs.Unique.SpacedPrefixes.{Delimited, space-one}
use Rattle.simd_json_theorems.proofs.Sound.TokensInPlace.{AreHere, tokens-here}

-- Nothing follows the root.
abbrev IsNothing : List ℕ → Type 0
IsNothing bs = bs ≡ []

nothing-CanFollow : CanFollow IsNothing
nothing-CanFollow = record { delimited = λ bs e. subst Delimited (sym e) (refl, tt); some = ([], refl) }

module _ (b : List ℕ) where
  -- A value is expected at the start.
  expects-root : Expects b (ValueThen IsNothing) 0
  expects-root = record { goes = goes; comes = comes }
    where
      goes : (space rest : List ℕ) → IsWhitespace space → ValueThen IsNothing rest → IsDocument (space ++ rest)
      goes space rest w (d, j) = (
        d,
        record {
          before = space;
          inner = j.left;
          after = (j.right_holds).left;
          whole = ap (λ us. space ++ us) (j.whole ∙ ap (λ us. j.left ++ us) ((j.right_holds).whole
              ∙ ap (λ us. (j.right_holds).left ++ us) (j.right_holds).right_holds ∙ append-nil (j.right_holds).left))
              ∙ sym (append_assoc space j.left (j.right_holds).left);
          before_space = w;
          after_space = (j.right_holds).left_holds;
          holds = j.left_holds;
        },
      )

      comes : (j : ℕ) (space rest : List ℕ) → IsWhitespace space → b ≡ space ++ drop j b → j < length b
          → is_whitespace (byte_at b j) ≡ false
          → IsDocument (take j b ++ byte_at b j ∷ rest) → ValueThen IsNothing (byte_at b j ∷ rest)
      comes j space rest w e l token (d, s) =
          let more : List ℕ = byte_at b j ∷ rest in
          let whole : space ++ more ≡ s.before ++ (s.inner ++ s.after) =
          ap (λ us. us ++ more) (sym (take-through b 0 j space e)) ∙ s.whole ∙ append_assoc s.before s.inner s.after in (
            d,
            record {
              left = s.inner;
              right = s.after;
              whole = space-one space s.before more (s.inner ++ s.after) w s.before_space token
                  (value-NoSpace d s.inner s.after s.holds) whole;
              left_holds = s.holds;
              right_holds = record {
                left = s.after;
                right = [];
                whole = sym (append-nil s.after);
                left_holds = s.after_space;
                right_holds = refl;
              };
            },
          )

  -- A fault before which there is a beginning, and that is none of a token that is not expected.
  other-reported : (e : Error) → is_unexpected_token e.error ≡ false → IsBeginning (take e.index b) → Reported b e
  other-reported e other h = record { not_late = h; not_early = λ is _. both_ways _ other is }

  -- After the root a token is reported at the last that was read.
  root_end-reported : (p : Document × List Token) → Next b IsNothing (tokens b) p.1
      → OkOrReported b (root_end b (tokens b) p) (λ d. Unit {0})
  root_end-reported (d, []) n = tt
  root_end-reported (d, t ∷ rest) n =
      let i : ℕ = last_read (tokens b) (t ∷ rest) in
      let at : ExpectsAt b IsNothing t.index = expects-token b IsNothing t (AreHere b rest) n.at n.expects n.here in
      let short : take i b ++ drop i (take t.index b) ≡ take t.index b =
      ap (λ us. us ++ drop i (take t.index b)) (sym (take-take i t.index b (last_read-le b (n.took).read t rest (n.took).whole)))
      ∙ take-append-drop i (take t.index b) in
      other-reported (fault_at b (if is_container d then InternalError else TrailingData) i)
      (cond_both (is_container d) InternalError TrailingData (λ kind. is_unexpected_token kind ≡ false) (λ _. refl) (λ _. refl))
      (IsBeginning-prefix (take i b) (drop i (take t.index b))
      (subst IsBeginning (sym short) (IsBeginning-before b IsNothing ([], refl) t.index at)))

  -- So are all faults of the descent.
  descent-reported : (limit : ℕ) → IsClean b → OkOrReported b (descent b limit) (λ d. Unit {0})
  unfolding descent
  descent-reported limit fine =
      let missing : Error = fault_at b Syntax (last_index (tokens b)) in
      bind-OkOrReported b (value_from b missing limit (tokens b)) (root_end b (tokens b))
      (λ p. Next b IsNothing (tokens b) p.1) (λ d. Unit {0})
      (value_from-reported b missing (λ h. other-reported missing refl (IsBeginning-take b h (last_index (tokens b))))
      limit IsNothing nothing-CanFollow 0 (tokens b) expects-root (tokens-here b fine))
      root_end-reported

-- What a fault of the descent reports, of an input that has none of the whole.
pub fault-reported : (b : List ℕ) (limit : ℕ) (e : Error) → input_fault b ≡ None → descent b limit ≡ Err e → Reported b e
fault-reported b limit e none is = subst (λ r. OkOrReported b r (λ d. Unit {0})) is (descent-reported b limit (IsClean-input b none))
