-- What a writer makes of a value, and what it gives of it.
use Rattle.std.specs.Prelude.{◌≡◌, ◌⊎◌, ◌^◌, ◌-◌, ℕ, List, [], Bool, true, false, Option, Some, Result, Ok, Err, take}
use Rattle.std.specs.Io.KnownBytes.{Appends}
use Rattle.json.specs.Lex.{tokens}
use Rattle.json.specs.Layout.{pretty}
use Rattle.json.specs.Print.{print}
use Rattle.serde.specs.Event.{Log}
use Rattle.serde_json.specs.Sent.{AreTokensOf}
use Rattle.simd_json_serde.specs.Outcomes.{IsDocument}
use Rattle.simd_json_serde.specs.declared.write_error.WriteError.{WriteError}
use Rattle.simd_json_serde.specs.declared.write_error.WriteError.TheVariants.{Value, Text, Io}

-- the depth that no document has
abbrev pub any_depth : ℕ
any_depth = 2 ^ 64 - 1

-- the compact or the pretty text of its tokens
abbrev pub IsLaidOut : Bool → List ℕ → Type 0
IsLaidOut false b = b ≡ print (tokens b)
IsLaidOut true b = b ≡ pretty (tokens b)

-- the text of a document, with the tokens of the events that a value sends, where these are known
pub record IsPrinted (p : Bool) (sends : Log → Log → Type 0) (b : List ℕ) : Type 0 where
  pub document : IsDocument b any_depth
  pub layout : IsLaidOut p b
  pub events : (log : Log) × sends (Some []) log × AreTokensOf false log (tokens b)

-- the whole of a text that is so; where the writer failed, at most a beginning of it; and else nothing
abbrev pub WritesText : {E : Type 0} → (List ℕ → Type 0) → Result E WriteError → Option (List ℕ) → Option (List ℕ) → Type 0
WritesText IsText (Ok u) old new = (b : List ℕ) × IsText b × Appends old new b
WritesText IsText (Err (Io e)) old new = (new ≡ old) ⊎ ((b : List ℕ) × IsText b × ((count : ℕ) × Appends old new (take count b)))
WritesText IsText (Err (Value e)) old new = new ≡ old
WritesText IsText (Err (Text e)) old new = new ≡ old
