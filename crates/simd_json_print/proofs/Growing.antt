-- What was appended to a list that grows, at the end of a text.
use Rattle.std.proofs.Common.{◌≡◌, ◌<◌, ◌≤◌, ◌+◌, ◌∙◌, ap, sym, arith, ℕ, Bool, false, List, ◌∷◌, ◌++◌, Some, length, length-append}
use Rattle.std.proofs.Common.{length-take, take, drop, append_assoc, take-append-drop, Result, Ok, Err, OnOk, OnErr}
use Rattle.std.proofs.Math.Seq.{take-append_seam}
use Rattle.std.specs.Vec.{vec_capacity}
use Rattle.simd_json_print.specs.Texts.{TargetState, HasEnded, IsPrefix}
use Rattle.simd_json_print.specs.declared.document.growing.Growing.{Growing}

abbrev pub state : ℕ → ℕ → List ℕ → Bool → TargetState
state name capacity items has_failed = record { held = Some (name ∷ capacity ∷ items); failed = Some has_failed }

pub record IsAppended {E A : Type 0} (r : Result Unit E) (name capacity : ℕ) (old : List ℕ) (new : Growing A) (bytes : List ℕ)
    : Type 0 where
  pub same : name ≡ new.list.ghost_name
  pub kept : IsPrefix old new.list.now.items
  pub all : OnOk r (new.list.now.items ≡ old ++ bytes)
  pub lacking : OnErr r (capacity < length old + length bytes)
  pub begun : OnErr r ((count : ℕ) × (new.list.now.items ≡ old ++ take count bytes))
  pub grown : capacity ≤ vec_capacity new.list.now

pub is-appended : {E A : Type 0} (r : Result Unit E) (name capacity : ℕ) (old : List ℕ) (new : Growing A) (bytes : List ℕ)
    → HasEnded r (state name capacity old false) (state new.list.ghost_name new.capacity new.list.now.items new.has_failed) bytes
    → IsAppended r name capacity old new bytes
is-appended (Ok u) name capacity old new bytes ends =
    let is : new.list.now.items ≡ old ++ bytes = cc in
    let same : new.capacity ≡ capacity = cc in
    record {
      same = cc;
      kept = ap (take (length old)) is ∙ take-append_seam old bytes;
      all = is;
      lacking = tt;
      begun = tt;
      grown = omega (arith, same, new.grown);
    }
is-appended (Err e) name capacity old new bytes ends =
    let part = take ends.0.0 bytes in
    let is : new.list.now.items ≡ old ++ part = cc in
    let same : new.capacity ≡ capacity = cc in
    record {
      same = cc;
      kept = ap (take (length old)) is ∙ take-append_seam old part;
      all = tt;
      lacking = omega (arith, same, new.full cc, ap length is, length-append old part, length-take ends.0.0 bytes, ends.0.1);
      begun = (ends.0.0, is);
      grown = omega (arith, same, new.grown);
    }

-- a beginning of a beginning
front : (k count : ℕ) (bytes : List ℕ)
    → take k (take count bytes) ≡ take (length (take k (take count bytes))) bytes
front k count bytes =
    let whole = take count bytes in
    let part = take k whole in
    let rest = drop count bytes in
    let all = sym (take-append-drop count bytes) ∙ ap (λ us. us ++ rest) (sym (take-append-drop k whole))
    ∙ append_assoc part (drop k whole) rest in
    sym (ap (take (length part)) all ∙ take-append_seam part (drop k whole ++ rest))

-- what is begun of a beginning of the bytes
pub part-begun : {E A : Type 0} (r : Result Unit E) (name capacity count : ℕ) (old : List ℕ) (new : Growing A) (bytes : List ℕ)
    → HasEnded r (state name capacity old false) (state new.list.ghost_name new.capacity new.list.now.items new.has_failed)
    (take count bytes)
    → (k : ℕ) × (new.list.now.items ≡ old ++ take k bytes)
part-begun {E} (Ok u) name capacity count old new bytes ends =
    (count, (is-appended {E = E} (Ok u) name capacity old new (take count bytes) ends).all)
part-begun (Err e) name capacity count old new bytes ends =
    let part = (is-appended (Err e) name capacity old new (take count bytes) ends).begun in
    (length (take part.0 (take count bytes)), part.1 ∙ ap (λ us. old ++ us) (front part.0 count bytes))
