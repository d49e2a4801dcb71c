-- What a parse leaves is what the definitions answer.
use Rattle.std.proofs.Common.{◌≡◌, ◌∙◌, ap, sym, subst, ◌<◌, ◌≤◌, ℕ, List, [], length, take, Some, None, Option, arith, ◌⊎◌, inl, inr, ◌↔◌}
use Rattle.std.proofs.Common.{IsSome, MatchOption}
use Rattle.std.specs.Result.{result_err}
use Rattle.std.proofs.lemmas.Bool.{false≢true}
use Rattle.std.proofs.lemmas.Option.{none-some}
use Rattle.simd_json_parts.specs.Answer.{answer}
use Rattle.simd_json_parts.specs.FaultKinds.{IsOfInput, IsOfToken}
use Rattle.simd_json_parts.specs.Faults.{whole_fault}
use Rattle.simd_json_parts.specs.InputFaults.{input_fault, padding_fault}
use Rattle.simd_json_parts.specs.Limits.{max_length}
use Rattle.simd_json_parts.specs.Nodes.{Item}
use Rattle.simd_json_parts.specs.declared.error.Error.{Error}
use Rattle.simd_json_parts.specs.declared.error.ErrorType.TheVariants.{OutOfMemory}
use Rattle.simd_json_stages.specs.Capacities.{IsOutOfMemory, LacksMemory, positions_after}
use Rattle.simd_json.specs.Parsed.{HasMemory, IsParse, IsPaddedParse, IsRejected, answered_nodes}
use Rattle.simd_json.proofs.Parses.ParseEnds.{input-character, input-memory, token-memory}

abbrev AsAnswered : List ℕ → ℕ → Option Error → List Item → List ℕ → Type 0
AsAnswered b limit fault nodes listed =
    (fault ≡ result_err (answer b limit)) × (nodes ≡ answered_nodes (answer b limit))
    × (listed ≡ positions_after b (result_err (answer b limit)))

pub as-answered : (b : List ℕ) (limit capacity : ℕ) (fault : Option Error) (nodes : List Item) (listed : List ℕ)
    → IsParse b limit capacity fault nodes listed → HasMemory fault → AsAnswered b limit fault nodes listed
as-answered b limit capacity None nodes listed p memory =
    let is = p.parsed.answered in
    (ap result_err (sym is), p.parsed.listed ∙ ap answered_nodes (sym is), p.found ∙ ap (λ r. positions_after b (result_err r)) (sym is))
as-answered b limit capacity (Some e) nodes listed p memory = by_cause p.rejected where
  by_cause : IsRejected b limit e ⊎ (LacksMemory b e × (capacity < length b)) → AsAnswered b limit (Some e) nodes listed
  by_cause (inl rejected) =
      let is = rejected.answered in
      (ap result_err (sym is), p.empty ∙ ap answered_nodes (sym is), p.found ∙ ap (λ r. positions_after b (result_err r)) (sym is))
  by_cause (inr (lacks, short)) = absurd (memory (ap Some lacks.0))

pub agreed : (b : List ℕ) (limit capacity capacity2 : ℕ) (fault fault2 : Option Error) (nodes nodes2 : List Item)
    (listed listed2 : List ℕ) → IsParse b limit capacity fault nodes listed → IsParse b limit capacity2 fault2 nodes2 listed2
    → HasMemory fault → HasMemory fault2 → (fault ≡ fault2) × (nodes ≡ nodes2) × (listed ≡ listed2)
agreed b limit capacity capacity2 fault fault2 nodes nodes2 listed listed2 p q memory memory2 =
    let a = as-answered b limit capacity fault nodes listed p memory in
    let z = as-answered b limit capacity2 fault2 nodes2 listed2 q memory2 in
    (a.0 ∙ sym z.0, a.1 ∙ sym z.1, a.2 ∙ sym z.2)

-- where enough bytes follow the document, they do not matter
pub unpadded : (s : List ℕ) (len limit capacity : ℕ) (fault : Option Error) (nodes : List Item) (listed : List ℕ)
    → padding_fault s len ≡ None → IsPaddedParse s len limit capacity fault nodes listed
    → IsParse (take len s) limit capacity fault nodes listed
unpadded s len limit capacity fault nodes listed none p =
    subst (λ o. MatchOption o (IsParse (take len s) limit capacity fault nodes listed)
    (λ e. (fault ≡ Some e) × (nodes ≡ []) × (listed ≡ []))) none p

some-same : (e f : Error) → Some e ≡ Some f → e ≡ f
some-same e f is = ap error_in is where
  error_in : Option Error → Error
  error_in None = e
  error_in (Some x) = x

rejected-memory : (b : List ℕ) (e : Error) → IsOutOfMemory e
    → ((input_fault b ≡ Some e) × IsOfInput e) ⊎ ((input_fault b ≡ None) × IsOfToken e) → ⊥
rejected-memory b e lacks (inl (is, named)) = input-memory e named lacks
rejected-memory b e lacks (inr (none, named)) = token-memory e named lacks

-- where there is capacity for so many bytes if they are not too many
pub has-capped-memory : (b : List ℕ) (limit capacity : ℕ) (fault : Option Error) (nodes : List Item) (listed : List ℕ)
    → IsParse b limit capacity fault nodes listed → (length b ≤ max_length → length b ≤ capacity) → HasMemory fault
has-capped-memory b limit capacity None nodes listed p enough is = none-some _ is
has-capped-memory b limit capacity (Some e) nodes listed p enough is = by_cause p.rejected where
  by_cause : IsRejected b limit e ⊎ (LacksMemory b e × (capacity < length b)) → ⊥
  by_cause (inl rejected) = rejected-memory b e (some-same e (whole_fault OutOfMemory) is) rejected.kinds
  by_cause (inr (lacks, short)) = omega (arith, short, enough lacks.1)

pub has-memory : (b : List ℕ) (limit capacity : ℕ) (fault : Option Error) (nodes : List Item) (listed : List ℕ)
    → IsParse b limit capacity fault nodes listed → length b ≤ capacity → HasMemory fault
has-memory b limit capacity fault nodes listed p enough = has-capped-memory b limit capacity fault nodes listed p (λ _. enough)

-- a character is a token's
pub tokens-have-characters : (b : List ℕ) (e : Error) → ((input_fault b ≡ Some e) × IsOfInput e)
    ⊎ ((input_fault b ≡ None) × IsOfToken e) → IsSome e.character ↔ (input_fault b ≡ None)
tokens-have-characters b e (inl (is, named)) =
    (λ some. absurd (false≢true (sym (input-character e named) ∙ some)), λ none. absurd (none-some e (sym none ∙ is)))
tokens-have-characters b e (inr (none, named)) = (λ _. none, λ _. named.1)
