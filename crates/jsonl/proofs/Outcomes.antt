-- What a text is, by what its parse returns, and what a line is of which the first bytes are kept.
use Rattle.std.proofs.Common.{◌≡◌, ◌≢◌, ◌∙◌, ap, sym, subst, inl, inr, ℕ, ◌<◌, ◌≤◌, List, [], length, cond, None, Some}
use Rattle.std.proofs.lemmas.Bool.{lt-ltb}
use Rattle.simd_json.proofs.Views.Listed.{document_of-listing}
use Rattle.simd_json.specs.Documents.{document_of}
use Rattle.simd_json.specs.Parsed.{HasMemory, IsParse, IsParsed}
use Rattle.simd_json.specs.Tapes.{Listed}
use Rattle.simd_json_parts.specs.Answer.{answer}
use Rattle.simd_json_parts.specs.Document.{Document}
use Rattle.simd_json_parts.specs.Limits.{depth}
use Rattle.simd_json_parts.specs.Listing.{listing}
use Rattle.simd_json_parts.specs.Nodes.{Item}
use Rattle.simd_json_parts.specs.Pieces.{is_blank}
use Rattle.simd_json_parts.specs.declared.error.Error.{Error}
use Rattle.programs.specs.Lines.{kept}
use Rattle.jsonl.specs.Records.{IsWhole, Outcome, blank, value, rejected, outcome_of_answer, outcome_of_line, outcome_of_text, outcome_read}
use Rattle.jsonl.specs.declared.records.Record.{Record}
use Rattle.jsonl.specs.declared.records.Record.TheVariants as read
use Rattle.programs.proofs.Kept.{kept-is}

module _ (text : List ℕ) (limit : ℕ) (nodes : List Item) where
  on-tape : (p : IsParsed text limit nodes) → document_of nodes ≡ p.document
  on-tape p = ap document_of p.listed ∙ document_of-listing p.document

  pub value-read : IsParsed text limit nodes → value (document_of nodes) ≡ outcome_of_text limit text
  value-read p = ap value (on-tape p) ∙ sym (ap outcome_of_answer p.answered)

  pub no-deeper : IsParsed text limit nodes → depth (document_of nodes) ≤ limit
  no-deeper p = subst (λ d. depth d ≤ limit) (sym (on-tape p)) p.within.nesting

  pub error-read : (capacity : ℕ) (e : Error) (listed : List ℕ) → IsParse text limit capacity (Some e) nodes listed → HasMemory (Some e)
      → rejected (Some e) ≡ outcome_of_text limit text
  error-read capacity e listed p has = sym (ap outcome_of_answer (elim p.rejected [
    | inl is ↦ is.answered
    | inr lacks ↦ absurd (has (ap Some lacks.0.0))
  ]))

-- ---- a document that is on the tape

module _ {A : Type 0} (limit : ℕ) (r : Record A) (tape : Listed) where
  pub whole-some : r ≡ read.Value tape → IsWhole limit r → tape.nodes ≢ []
  whole-some is whole = (subst (IsWhole limit) is whole).0

  -- and is viewed
  pub viewed : (d : Document) → r ≡ read.Value tape → listing d ≡ tape.nodes → outcome_read r ≡ value d
  viewed d is listed = ap outcome_read is ∙ ap value (ap document_of (sym listed) ∙ document_of-listing d)

-- ---- a line

too-long : (longest limit : ℕ) (line : List ℕ) → longest < length line → outcome_of_line longest limit line ≡ rejected None
too-long longest limit line more =
    ap (λ t. cond t (rejected None) (cond (is_blank line) blank (outcome_of_text limit line))) (lt-ltb longest (length line) more)

-- of one that is too long the first bytes are enough, where no text is named by its bytes then
pub cut-outcome : {S : Type 0} (take : List ℕ → Outcome → S) (longest limit : ℕ) (line : List ℕ)
    → ((a b : List ℕ) → take a (rejected None) ≡ take b (rejected None))
    → take (kept longest line) (outcome_of_line longest limit (kept longest line)) ≡ take line (outcome_of_line longest limit line)
cut-outcome take longest limit line same = kept-is (λ line. take line (outcome_of_line longest limit line)) longest line (λ long longer.
    let first = kept longest line in
    ap (take first) (too-long longest limit first longer) ∙ same first line ∙ ap (take line) (sym (too-long longest limit line long)))
