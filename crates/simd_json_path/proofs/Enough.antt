-- With a frame for each segment there is no error, and without an error all are there.
use Rattle.std.proofs.Common.{◌≡◌, ◌∙◌, ap, sym, refl, ◌<◌, ◌≤◌, ℕ, List, [], ◌∷◌, length, map, Bool, true, false, cond, Option, Some, None}
use Rattle.std.specs.Prelude.{is_some}
use Rattle.std.specs.List.{list_all}
use Rattle.std.specs.Option.{option_to_list}
use Rattle.std.proofs.lemmas.Bool.{le-leb, lt-leb}
use Rattle.std.proofs.lemmas.List.{append-nil}
use Rattle.simd_json_parts.specs.Document.{Document}
use Rattle.simd_json_path.specs.Frames.{selected_within}
use Rattle.simd_json_path.specs.Nodes.{at_steps, nodes}
use Rattle.simd_json_path.specs.Paths.{selected, selected_by}
use Rattle.simd_json_path.specs.declared.path.Path.{Path}

pub path-enough : (path : Path) (d : Document) (count : ℕ) → length path.segments.now ≤ count
    → selected_within count path d ≡ map Some (selected path d)
path-enough path d count fits =
    ap (λ b. cond b (map Some (selected path d)) (None ∷ [])) (le-leb (length path.segments.now) count fits)

pub path-lacks : (path : Path) (d : Document) (count : ℕ) → count < length path.segments.now → selected_within count path d ≡ None ∷ []
path-lacks path d count few =
    ap (λ b. cond b (map Some (selected path d)) (None ∷ [])) (lt-leb (length path.segments.now) count few)

-- by where the first steps lead
pub path-from : (path : Path) (d : Document) (count : ℕ) (start : Option Document) → length path.segments.now ≤ count
    → start ≡ at_steps path.steps.now d
    → selected_within count path d ≡ map Some (nodes (selected_by d) path.segments.now (option_to_list start))
path-from path d count start fits is =
    let ss = path.segments.now in
    path-enough path d count fits
    ∙ ap (λ ds. map Some (nodes (selected_by d) ss ds)) (append-nil (option_to_list (at_steps path.steps.now d)))
    ∙ ap (λ o. map Some (nodes (selected_by d) ss (option_to_list o))) (sym is)

whole-by : (b : Bool) (ds : List Document) → list_all is_some (cond b (map Some ds) (None ∷ [])) ≡ true
    → cond b (map Some ds) (None ∷ []) ≡ map Some ds
whole-by true ds all = refl
whole-by false ds all = cc

pub path-whole : (path : Path) (d : Document) (count : ℕ) → list_all is_some (selected_within count path d) ≡ true
    → selected_within count path d ≡ map Some (selected path d)
path-whole path d count all = whole-by _ (selected path d) all
