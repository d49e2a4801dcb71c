-- Why a stream of lines is not written whole. Only private clauses cite it.
use Rattle.std.specs.Prelude.{◌≡◌, ◌⊎◌, ◌∷◌, ◌++◌, ℕ, List, Bool, true, false, Option, take}
use Rattle.std.specs.Io.KnownBytes.{Appends}
use Rattle.jtape.specs.Output.{stream_output}
use Rattle.jtape.specs.Pieces.{pieces, pieces_text}
use Rattle.jtape.specs.Runs.{HasWritten, lacks_memory}
use Rattle.jtape.specs.declared.runs.RunFault.{RunFault}
use Rattle.jtape.specs.declared.runs.RunFault.TheVariants.{Write}
use Rattle.simd_json_print.specs.Texts.{TargetState, Adds}
use Rattle.simd_json_print.specs.declared.text.Text.{Text}

-- the text of all pieces before one of them was put, and nothing else
pub record HasPut {T : Type 0} {size : ℕ} (state : T → TargetState) (old new : Text T size) (depth : ℕ) (input : List ℕ) : Type 0 where
  pub earlier : List (List ℕ)
  pub piece : List ℕ
  pub later : List (List ℕ)
  pub cut : pieces input ≡ earlier ++ piece ∷ later
  pub put : Adds state old new (pieces_text depth earlier)

-- Of all pieces of an input: an allocation failed at one of them, and the text of all before it was written; or the writer
-- failed, and a beginning of the text of all was.
abbrev pub StopsWithin : RunFault → Bool → Option (List ℕ) → Option (List ℕ) → ℕ → List ℕ → Type 0
StopsWithin fault failed held holds depth input =
    ((fault ≡ lacks_memory) × (failed ≡ false) × HasWritten depth input held holds)
    ⊎ ((fault ≡ Write) × (failed ≡ true) × ((count : ℕ) × Appends held holds (take count (stream_output depth input).bytes)))
