-- From what the steps of a parse find to what the definitions answer.
use Rattle.std.proofs.Common.{◌≡◌, ◌∙◌, ap, sym, ℕ, List, true, Some, None, Ok, Err, map, inl, inr}
use Rattle.std.proofs.Common.{false, refl, is_some, Option, Result, subst, ◌⊎◌}
use Rattle.std.specs.Result.{is_err}
use Rattle.std.proofs.lemmas.Bool.{false≢true}
use Rattle.simd_json_stages.proofs.Whole.{descent-answered, fault-answered}
use Rattle.simd_json_theorems.proofs.Complete.Answer.{answer-Denotes}
use Rattle.simd_json_theorems.proofs.Faults.Kinds.{input-fault, token-fault}
use Rattle.simd_json_theorems.proofs.Faults.Root.{fault-reported}
use Rattle.simd_json_theorems.proofs.Sound.Answer.{answer-sound}
use Rattle.simd_json_theorems.proofs.Documents.Spelling.{IsSpellable-denoted}
use Rattle.simd_json_parts.specs.Answer.{answer}
use Rattle.simd_json_parts.specs.Descent.{descent}
use Rattle.simd_json_parts.specs.Document.{Document}
use Rattle.simd_json_parts.specs.ErrorKinds.{is_unexpected_token}
use Rattle.simd_json_parts.specs.FaultKinds.{is_input_kind}
use Rattle.simd_json_parts.specs.Grammar.{Denotes}
use Rattle.simd_json_parts.specs.Limits.{WithinLimits}
use Rattle.simd_json_parts.specs.Listing.{listing}
use Rattle.simd_json_parts.specs.Nodes.{Item, item_of}
use Rattle.simd_json_parts.specs.declared.node.Node.{Node}
use Rattle.simd_json_stages.specs.Building.{IsListed, IsWritten}
use Rattle.simd_json.specs.Parsed.{IsParsed, IsRejected}
use Rattle.simd_json.specs.Tapes.{IsTapeContent}
use Rattle.simd_json_parts.specs.InputFaults.{input_fault}
use Rattle.simd_json_parts.specs.declared.error.Error.{Error}
use Rattle.simd_json_parts.specs.declared.error.ErrorType.{ErrorType}
use Rattle.simd_json_parts.specs.declared.error.ErrorType.TheVariants as errors

-- ---- rejections

not-both : (d : Document) (e : Error) → Ok d ≡ Err e → ⊥
not-both d e is = false≢true (ap is_err is)

one-error : {A : Type 0} (r : Result A Error) (f e : Error) → r ≡ Err f → r ≡ Err e → f ≡ e
one-error {A} r f e first is = ap error_in (sym first ∙ is) where
  error_in : Result A Error → Error
  error_in (Ok x) = f
  error_in (Err x) = x

not-answered : (b : List ℕ) (limit : ℕ) (e : Error) → answer b limit ≡ Err e → (d : Document) → Denotes b d → WithinLimits b d limit → ⊥
not-answered b limit e is d denoted within = not-both d e (sym (answer-Denotes b d limit denoted within) ∙ is)

-- what the second stage rejects
pub rejected-token : (b : List ℕ) (limit : ℕ) (e : Error) → input_fault b ≡ None → descent b limit ≡ Err e → IsRejected b limit e
rejected-token b limit e none is =
    let answered = descent-answered b limit none ∙ is in
    let reported = fault-reported b limit e none is in record {
      answered = answered;
      not_denoted = not-answered b limit e answered;
      kinds = inr (none, token-fault b limit e is);
      not_late = λ _. reported.not_late;
      not_early = λ unexpected. reported.not_early unexpected;
    }

-- the kinds of a whole input's fault are no token's that is not expected
input-expected : (kind : ErrorType) → is_input_kind kind ≡ true → is_unexpected_token kind ≡ false
input-expected errors.InputTooLarge is = refl
input-expected errors.InvalidUtf8 is = refl
input-expected errors.Syntax is = refl
input-expected errors.Eof is = refl
input-expected _ is = absurd (false≢true is)

-- what the first stage rejects, or the tests before it
pub rejected-whole : (b : List ℕ) (limit : ℕ) (e : Error) → input_fault b ≡ Some e → IsRejected b limit e
rejected-whole b limit e is =
    let answered = fault-answered b limit e is in
    let of_input = input-fault b e is in record {
      answered = answered;
      not_denoted = not-answered b limit e answered;
      kinds = inl (is, of_input);
      not_late = λ some. absurd (false≢true (sym (ap (λ x. is_some x.character) of_input.1) ∙ some));
      not_early = λ unexpected. absurd (false≢true (sym (input-expected e.error of_input.0) ∙ unexpected));
    }

-- what the definitions reject
pub rejected : (b : List ℕ) (limit : ℕ) (e : Error) → answer b limit ≡ Err e → IsRejected b limit e
rejected b limit e is = by_whole (input_fault b) refl where
  by_whole : (o : Option Error) → input_fault b ≡ o → IsRejected b limit e
  by_whole None none = rejected-token b limit e none (sym (descent-answered b limit none) ∙ is)
  by_whole (Some f) some =
      subst (IsRejected b limit) (one-error (answer b limit) f e (fault-answered b limit f some) is) (rejected-whole b limit f some)

pub rejected-or : {A : Type 0} (b : List ℕ) (limit : ℕ) (e : Error) → (answer b limit ≡ Err e) ⊎ A → IsRejected b limit e ⊎ A
rejected-or b limit e (inl is) = inl (rejected b limit e is)
rejected-or b limit e (inr other) = inr other

-- ---- what is listed

pub answered-parsed : (b : List ℕ) (limit : ℕ) (d : Document) → answer b limit ≡ Ok d → IsParsed b limit (listing d)
answered-parsed b limit d answered =
    let right = answer-sound b limit d answered in
    record { document = d; denoted = right.0; within = right.1; answered = answered; listed = refl }

-- what the second stage lists

pub written-parsed : (b : List ℕ) (limit : ℕ) (nodes : List Item) → input_fault b ≡ None → IsWritten b limit nodes
    → IsParsed b limit nodes
written-parsed b limit nodes none written =
    let answered : answer b limit ≡ Ok written.document = descent-answered b limit none ∙ written.same in
    let right = answer-sound b limit written.document answered in
    record { document = written.document; denoted = right.0; within = right.1; answered = answered; listed = written.listed }

pub parsed : (b : List ℕ) (limit : ℕ) (nodes : List Node) → input_fault b ≡ None → IsListed b limit nodes
    → IsParsed b limit (map item_of nodes)
parsed b limit nodes none listed =
    written-parsed b limit (map item_of nodes) none
    (record { document = listed.document; same = listed.same; listed = listed.listed })

pub tape-parsed : (b : List ℕ) (limit : ℕ) (items : List Item) → IsParsed b limit items → IsTapeContent items
tape-parsed b limit items p = inr (p.document, IsSpellable-denoted b p.document p.denoted, p.within.integers, p.listed)
