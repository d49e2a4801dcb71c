-- What is written of a value: the text of a document.
use Rattle.std.proofs.Common.{◌≡◌, ap, refl, sym, subst, ℕ, Bool, false, List, [], Some, Option, IfOk, Result, Ok, Err, OnOk, OnErr, inl}
use Rattle.std.proofs.Common.{inr, MatchResult, IsUtf8, take, IsErr, IsErrAnd}
use Rattle.std.specs.Io.KnownBytes.{Appends}
use Rattle.std.specs.declared.io.Error.{Error}
use Rattle.json.specs.Lex.{tokens}
use Rattle.serde.specs.Event.{Log}
use Rattle.serde_json.specs.Sent.{AreTokensOf}
use Rattle.simd_json_theorems.proofs.Complete.Utf8Documents.{IsUtf8-Denotes}
use Rattle.simd_json_serde.specs.WrittenOut.{IsLaidOut, IsPrinted, WritesText, any_depth}
use Rattle.simd_json_serde.specs.Outcomes.{IsDocument}
use Rattle.simd_json_serde.specs.declared.write_error.WriteError.{WriteError}
use Rattle.simd_json_serde.specs.declared.write_error.WriteError.TheVariants.{Value, Text, Io}

pub printed-utf8 : (p : Bool) (sends : Log → Log → Type 0) (b : List ℕ) → IsPrinted p sends b → IsUtf8 b
printed-utf8 p sends b h = IsUtf8-Denotes b h.document.0 h.document.1

-- a text that is returned if it is a document
pub as-printed : {A E : Type 0} (r : Result A E) (bytes : A → List ℕ) (p : Bool) (sends : Log → Log → Type 0) (text : A)
    → IfOk r (λ t. (t ≡ text) × IsDocument (bytes t) any_depth) → IsLaidOut p (bytes text)
    → (log : Log) × sends (Some []) log × AreTokensOf false log (tokens (bytes text)) → IfOk r (λ t. IsPrinted p sends (bytes t))
as-printed (Ok t) bytes p sends text checked layout events =
    let is = ap bytes (sym checked.0) in
    record {
      document = checked.1;
      layout = subst (IsLaidOut p) is layout;
      events = subst (λ b. (log : Log) × sends (Some []) log × AreTokensOf false log (tokens b)) is events;
    }
as-printed (Err e) bytes p sends text checked layout events = tt

-- ---- what a writer was given

error-unwritten : (P : List ℕ → Type 0) (e : WriteError) (held : Option (List ℕ)) → WritesText {E = Unit} P (Err e) held held
error-unwritten P (Value e) held = refl
error-unwritten P (Text e) held = refl
error-unwritten P (Io e) held = inl refl

pub unwritten : (P : List ℕ → Type 0) (r : Result Unit WriteError) (held : Option (List ℕ)) → IsErr r → WritesText P r held held
unwritten P (Ok u) held err = cc
unwritten P (Err e) held err = error-unwritten P e held

pub written-out : (P : List ℕ → Type 0) (r : Result Unit Error) (s : Result Unit WriteError) (b : List ℕ) (old new : Option (List ℕ)) → P b
    → MatchResult r (λ u. s ≡ Ok u) (λ e. IsErrAnd s (λ w. w ≡ Io e)) → OnOk r (Appends old new b)
    → OnErr r ((count : ℕ) × Appends old new (take count b)) → WritesText P s old new
written-out P (Ok u) s b old new is same written begun = subst (λ t. WritesText P t old new) (sym same) (b, is, written)
written-out P (Err e) (Ok u) b old new is same written begun = absurd same
written-out P (Err e) (Err w) b old new is same written begun =
    subst (λ v. WritesText {E = Unit} P (Err v) old new) (sym same) (inr (b, is, begun))
