-- From what a parse answers and what printing wrote to the output of an input.
use Rattle.std.proofs.Common.{◌≡◌, ◌≢◌, ◌⊎◌, ◌∙◌, ap, sym, subst, refl, inl, inr, ℕ, List, take, Bool, true, false}
use Rattle.std.proofs.Common.{Option, None, Result, Ok, Err, OnOk, OnErr, IfErr}
use Rattle.std.specs.Io.KnownBytes.{Appends}
use Rattle.programs.specs.Failures.{read_fault}
use Rattle.programs.specs.declared.failure.Failure.{Failure}
use Rattle.jtape.specs.Runs.{lacks_memory, run_fault}
use Rattle.jtape.specs.Output.{Output, output, document_output, output_of, mode_text, all_printed}
use Rattle.jtape.specs.declared.runs.RunFault.{RunFault}
use Rattle.jtape.specs.declared.runs.RunFault.TheVariants.{Read, Write}
use Rattle.jtape.specs.declared.words.Mode.{Mode}
use Rattle.jtape.specs.declared.words.Mode.TheVariants as modes
use Rattle.simd_json.specs.Parsed.{IsParse}
use Rattle.simd_json_parts.specs.Document.{Document}
use Rattle.simd_json_parts.specs.Listing.{listing}
use Rattle.simd_json_parts.specs.Nodes.{Item}
use Rattle.simd_json_parts.specs.Positions.{positions}

-- in each mode but `Lines`
pub one_document : (mode : Mode) (depth : ℕ) (input : List ℕ) → mode ≢ modes.Lines → output mode depth input ≡ document_output mode depth input
one_document modes.Tape depth input other = refl
one_document modes.Positions depth input other = refl
one_document modes.Compact depth input other = refl
one_document modes.Pretty depth input other = refl
one_document modes.Lines depth input other = absurd (other refl)

-- a reader has failed, or an allocation
pub read_faults : (failed : Bool) (failure : Failure) (fault : RunFault) → failure ≡ read_fault failed → fault ≡ run_fault failure
    → ((fault ≡ Read) × (failed ≡ true)) ⊎ ((fault ≡ lacks_memory) × (failed ≡ false))
read_faults true failure fault is gives = inl (gives ∙ ap run_fault is, refl)
read_faults false failure fault is gives = inr (gives ∙ ap run_fault is, refl)

-- of what is parsed
pub parsed-output : (mode : Mode) (b : List ℕ) (limit capacity : ℕ) (nodes : List Item) (listed : List ℕ)
    → IsParse b limit capacity None nodes listed
    → (d : Document) × (nodes ≡ listing d) × (listed ≡ positions b) × (document_output mode limit b ≡ all_printed (mode_text mode b d))
parsed-output mode b limit capacity nodes listed p =
    (p.parsed.document, p.parsed.listed, p.found, ap (output_of mode b) p.parsed.answered)

-- all of it is written
pub all-written : {T E : Type 0} (r : Result T E) (P : Type 0) (a b : Option (List ℕ)) (bytes : List ℕ) (out : Output)
    → out ≡ all_printed bytes → OnOk r P → OnOk r (Appends a b bytes) → OnOk r (P × (out.returned ≡ Ok true) × Appends a b out.bytes)
all-written (Ok x) P a b bytes out is p q = (p, ap (λ o. o.returned) is, subst (λ us. Appends a b us) (sym (ap (λ o. o.bytes) is)) q)
all-written (Err e) P a b bytes out is p q = tt

-- a beginning of it is
pub begun-written : {T : Type 0} (r : Result T RunFault) (P : Type 0) (a b : Option (List ℕ)) (bytes : List ℕ) (out : Output)
    → out ≡ all_printed bytes → IfErr r (λ fault. (fault ≡ Write) × P) → OnErr r ((count : ℕ) × Appends a b (take count bytes))
    → IfErr r (λ fault. fault ≡ Write → P × ((count : ℕ) × Appends a b (take count out.bytes)))
begun-written (Ok x) P a b bytes out is p q = tt
begun-written (Err e) P a b bytes out is p q =
    λ asked. (p.1, (q.0, subst (λ us. Appends a b (take q.0 us)) (sym (ap (λ o. o.bytes) is)) q.1))
