-- What the bytes denote by the grammar, the descent reads, within the depth and the ranges of integers.
use Rattle.std.proofs.Common.{◌≡◌, refl, sym, ◌∙◌, ap, ℕ, zero, suc, ◌≤◌, List, [], append-nil, arith}
use Rattle.std.specs.Prelude.{Ok}
use Rattle.simd_json_parts.specs.Document.{Document, null, boolean, integer, decimal, string, array, object, Elements, no_elements}
use Rattle.simd_json_parts.specs.Document.{element, Members, no_members, member}
use Rattle.simd_json_parts.specs.Limits.{depth, elements_depth, members_depth, IntegersFit, ElementsFit, MembersFit}
use Rattle.simd_json_parts.specs.Grammar.{IsValue, Denotes}
use Rattle.simd_json_parts.specs.Tokens.{tokens, tokens_from}
use Rattle.simd_json_parts.specs.Descent.{◌>>=◌, value_from, last_index, root_end, descent}
use Rattle.simd_json_parts.specs.Faults.{fault_at}
use Rattle.simd_json_parts.specs.declared.error.Error.{Error}
use Rattle.simd_json_parts.specs.declared.error.ErrorType.TheVariants.{Syntax}
use Rattle.simd_json_parts.proofs.Positions.TokensAtPositions.{tokens_at}
use Rattle.simd_json_theorems.proofs.Complete.TokensHere.{Got, ReadsHere, spaced}
use Rattle.simd_json_theorems.proofs.Complete.Scalars.{null_reads, boolean_reads, integer_reads, decimal_reads, string_reads}
use Rattle.simd_json_theorems.proofs.Complete.Arrays.{ElementsRead, array_reads}
use Rattle.simd_json_theorems.proofs.Complete.Objects.{MembersRead, object_reads}

module _ (b : List ℕ) (missing : Error) where
  mutual
    -- Each document is read wherever it stands.
    pub value_reads : (d : Document) (levels : ℕ) → IntegersFit d → depth d ≤ levels
        → ReadsHere b (value_from b missing levels) d (IsValue d)
    value_reads null levels fits l = null_reads b missing levels
    value_reads (boolean x) levels fits l = boolean_reads b missing levels x
    value_reads (integer minus n) levels fits l = integer_reads b missing levels minus n fits
    value_reads (decimal literal) levels fits l = decimal_reads b missing levels literal
    value_reads (string t) levels fits l = string_reads b missing levels t
    value_reads (array ds) zero fits l = absurd (omega arith)
    value_reads (array ds) (suc levels) fits l = array_reads b missing levels ds (all_elements ds levels fits (omega arith))
    value_reads (object ms) zero fits l = absurd (omega arith)
    value_reads (object ms) (suc levels) fits l = object_reads b missing levels ms (all_members ms levels fits (omega arith))

    all_elements : (ds : Elements) (levels : ℕ) → ElementsFit ds → elements_depth ds ≤ levels → ElementsRead b missing levels ds
    all_elements no_elements levels fits l = tt
    all_elements (element d ds) levels fits l = (value_reads d levels fits.0 (omega arith), all_elements ds levels fits.1 (omega arith))

    all_members : (ms : Members) (levels : ℕ) → MembersFit ms → members_depth ms ≤ levels → MembersRead b missing levels ms
    all_members no_members levels fits l = tt
    all_members (member name d ms) levels fits l = (value_reads d levels fits.0 (omega arith), all_members ms levels fits.1 (omega arith))

-- The descent of a document's bytes answers the document.
pub descent-Denotes : (b : List ℕ) (d : Document) (limit : ℕ) → Denotes b d → IntegersFit d → depth d ≤ limit → descent b limit ≡ Ok d
unfolding descent tokens_from
descent-Denotes b d limit h fits l =
    let missing : Error = fault_at b Syntax (last_index (tokens b)) in
    let g : Got b (value_from b missing limit (tokens_at b 0)) d [] =
    spaced b (value_from b missing limit) d (IsValue d) (value_reads b missing d limit fits l) 0 b [] h (sym (append-nil b)) refl in
    ap (λ r. r >>= root_end b (tokens b)) (g.is ∙ ap (λ rest. Ok (d, tokens_from b g.end 0 rest)) g.there)
