-- What a run leaves.
use Rattle.std.specs.Prelude.{◌≡◌, ◌<◌, ◌↔◌, ◌⊎◌, ◌++◌, ℕ, List, length, take, Bool, true, false, Option}
use Rattle.std.specs.Prelude.{None, OnOk, IfErr, IsErrAnd, Result, Ok, Err, MatchResult}
use Rattle.std.specs.Io.KnownBytes.{Appends, Consumes, IsAtEnd}
use Rattle.programs.specs.Failures.{Begins, SaysClosed, is_write, output_fault}
use Rattle.programs.specs.Lines.{folded}
use Rattle.programs.specs.Ports.{Watched}
use Rattle.programs.specs.declared.failure.Failure.{Failure}
use Rattle.programs.specs.declared.failure.Failure.TheVariants.{Read, Name, Closed, Resources}
use Rattle.simd_json_parts.specs.Pieces.{pieces}
use Rattle.jpick.specs.Picked.{Picked, no_line, picked_of, taken_of, with_line}
use Rattle.jpick.specs.Rows.{row}
use Rattle.jpick.specs.declared.fields.Wanted.{Wanted}
use Rattle.jpick.specs.declared.lines.Taken.{Taken}

-- Of a reader with these bytes left before and after, a writer of rows and one that names rejected lines, which held and hold
-- these: the reader was read to its end, or the first of its lines begins a document, the rows of its lines were written, and its
-- rejected lines were named.
pub record HasPicked (picked : List ℕ → Picked) (before after held holds named names : Option (List ℕ))
    (result : Result Taken Failure) : Type 0 where
  pub input : List ℕ
  pub read : Consumes before after input
  pub end : (picked input).is_over ≡ false → IsAtEnd after
  pub rows : Appends held holds (picked input).rows
  pub rejections : Appends named names (picked input).rejections
  pub returned : result ≡ Ok (taken_of (picked input))

-- of such a run that ended in an error: of what was read, a beginning of the rows was written, and a beginning of the rejected
-- lines named
pub record HasBegun (picked : List ℕ → Picked) (before after held holds named names : Option (List ℕ)) : Type 0 where
  pub input : List ℕ
  pub read : Consumes before after input
  pub rows : Begins held holds (picked input).rows
  pub rejections : Begins named names (picked input).rejections

-- what was picked of the first lines of an input, or of none, or of all
abbrev pub IsPart : Wanted → List ℕ → List ℕ → Picked → Type 0
IsPart w file input r = (r ≡ no_line) ⊎ (r ≡ picked_of w file input)
    ⊎ ((w.is_document ≡ false) × (done rest : List (List ℕ)) × (pieces input ≡ done ++ rest)
    × (r ≡ folded (with_line w file) no_line done))

-- What a failure says of such an input, and of the rows: where the reader of the rows has closed them, whether a line was rejected
-- among those of which a row was not written, and those before; where a rejected line was not named, all rows before it were written.
abbrev pub SaysMore : Wanted → List ℕ → List ℕ → Option (List ℕ) → Option (List ℕ) → Failure → Type 0
SaysMore w file input held holds (Closed taken) = (r : Picked) × IsPart w file input r × (taken ≡ r.all_taken)
    × (count : ℕ) × (count < length r.rows) × Appends held holds (take count r.rows)
SaysMore w file input held holds Name =
    (r : Picked) × IsPart w file input r × (r.all_taken ≡ false) × Appends held holds r.rows
SaysMore w file input held holds _ = Unit

-- Of a run over ports, of what is known of their bytes: what is written is what was picked of what was read, and reading failed
-- exactly where the reader did, writing exactly where its writer did, naming rejected lines exactly where theirs did.
pub record Picks {R W E : Type 0} (remaining : R → Option (List ℕ)) (written : W → Option (List ℕ)) (naming : E → Option (List ℕ))
    (w : Wanted) (file : List ℕ) (reader reads : Watched R) (out outs : Watched W) (rejections rejects : Watched E)
    (result : Result Taken Failure) : Type 0 where
  pub run : OnOk result (HasPicked (picked_of w file) (remaining reader.inner) (remaining reads.inner) (written out.inner)
      (written outs.inner) (naming rejections.inner) (naming rejects.inner) result)
  pub begun : IfErr result (λ failure. (begun : HasBegun (picked_of w file) (remaining reader.inner) (remaining reads.inner)
      (written out.inner) (written outs.inner) (naming rejections.inner) (naming rejects.inner))
      × SaysMore w file begun.input (written out.inner) (written outs.inner) failure)
  pub read : (result ≡ Err Read) ↔ (reads.failed ≡ true)
  pub write : IsErrAnd result (λ failure. is_write failure ≡ true) ↔ (outs.failed ≡ true)
  pub closed : IfErr result (SaysClosed outs.closed)
  pub name : (result ≡ Err Name) ↔ (rejects.failed ≡ true)

-- of a call on a writer that had not failed, if its failures come from there or from want of memory
abbrev pub header_fault : Bool → Bool → Failure
header_fault closed true = output_fault closed true
header_fault closed false = Resources

-- of a writer of what is known: the header was written, or a beginning of it
abbrev pub Heads : {W : Type 0} → (W → Option (List ℕ)) → Wanted → Watched W → Watched W → Result Unit Failure → Type 0
Heads written w out outs result =
    MatchResult result (λ _. (outs.failed ≡ false) × Appends (written out.inner) (written outs.inner) (row w None))
    (λ failure. (failure ≡ header_fault outs.closed outs.failed) × Begins (written out.inner) (written outs.inner) (row w None))
