-- How many frames suffice for queries of a document, and what they select then.
use Rattle.std.proofs.Common.{◌≡◌, ◌∙◌, ap, sym, refl, ℕ, ◌≤◌, List, [], ◌∷◌, arith}
use Rattle.std.proofs.Common.{true, Option, Some, None, map}
use Rattle.std.specs.Prelude.{◌&&◌}
use Rattle.std.specs.List.{list_all}
use Rattle.std.proofs.lemmas.Bool.{leb-true, le-leb}
use Rattle.simd_json_parts.specs.Document.{Document}
use Rattle.std.specs.Prelude.{Result, Ok}
use Rattle.simd_json.specs.Viewed.{doc}
use Rattle.simd_json.specs.declared.value.tape.value.Value.{Value}
use Rattle.simd_json_path.specs.IteratorNodes.{item_of}
use Rattle.simd_json_path.specs.declared.selected.TooFewFrames.{TooFewFrames}
use Rattle.jpick.proofs.Appended.{and-first, and-second}
use Rattle.jpick.specs.Queries.{first, frames_of, has_frames, has_room}
use Rattle.jpick.specs.declared.query.Query.{Query}

-- ---- of queries

pub frames-grow : (qs : List Query) (a b : ℕ) → a ≤ b → list_all (has_frames a) qs ≡ true → list_all (has_frames b) qs ≡ true
frames-grow [] a b fits all = refl
frames-grow (q ∷ qs) a b fits all =
    let here = leb-true (frames_of q) a (and-first (has_frames a q) (list_all (has_frames a) qs) all) in
    ap (λ x. x && list_all (has_frames b) qs) (le-leb (frames_of q) b (omega arith))
    ∙ frames-grow qs a b fits (and-second (has_frames a q) (list_all (has_frames a) qs) all)

pub room-for-header : (qs : List Query) (count : ℕ) → list_all (has_room count None) qs ≡ true
room-for-header [] count = refl
room-for-header (q ∷ qs) count = room-for-header qs count

-- ---- what an iterator returns that is left with these documents

pub left-none : (ds : List Document) → map Some ds ≡ [] → first ds ≡ None
left-none [] is = refl
left-none (d ∷ ds) is = cc

pub left-some : (ds : List Document) (o : Option Document) (more : List (Option Document)) → map Some ds ≡ o ∷ more → first ds ≡ o
left-some [] o more is = cc
left-some (d ∷ ds) o more is = cc

pub none-left : (ds : List Document) → map Some ds ≡ [] → ds ≡ []
none-left [] is = refl
none-left (d ∷ ds) is = cc

pub record Parts (ds : List Document) (o : Option Document) (more : List (Option Document)) : Type 0 where
  pub d : Document
  pub rest : List Document
  pub whole : ds ≡ d ∷ rest
  pub one : o ≡ Some d
  pub others : more ≡ map Some rest

pub parts-of : (ds : List Document) (o : Option Document) (more : List (Option Document)) → map Some ds ≡ o ∷ more → Parts ds o more
parts-of [] o more is = cc
parts-of (d ∷ ds) o more is = record { d = d; rest = ds; whole = refl; one = cc; others = cc }

-- a value that is such an item
pub value-of : (v : Value) (r : Result Value TooFewFrames) (o : Option Document) (d : Document) → o ≡ item_of r → r ≡ Ok v → o ≡ Some d
    → doc v ≡ d
value-of v r o d by is one = let e : Some (doc v) ≡ Some d = sym (ap item_of is) ∙ sym by ∙ one in cc
