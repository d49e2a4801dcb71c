-- What is left to frames, by the innermost one, and how many steps it takes.
use Rattle.std.proofs.Common.{◌≡◌, ◌∙◌, ap, sym, ◌<◌, ◌≤◌, ◌+◌, ℕ, suc, List, [], ◌∷◌, ◌++◌, length, take, drop, get_or, append_assoc}
use Rattle.std.proofs.Common.{length-append, arith, Option, Some, None, MatchOption, flat_map}
use Rattle.std.proofs.lemmas.Grind.{flat_map-append}
use Rattle.std.proofs.lemmas.List.{append-nil, drop_all, drop_more, take-set, take_more, take_more_set, length-take-le}
use Rattle.std.proofs.Math.ListN.{set}
use Rattle.simd_json_parts.specs.Document.{Document}
use Rattle.simd_json_path.specs.IteratorNodes.{effort, frame_left, frames_effort, frames_left}
use Rattle.simd_json_path.specs.Nodes.{nodes, selected_of}
use Rattle.simd_json_path.specs.Paths.{selected_by}
use Rattle.simd_json_path.specs.declared.frame.Frame.{Frame}
use Rattle.simd_json_query.specs.declared.query.Segment.{Segment}
use Rattle.simd_json_query.specs.declared.query.Selector.{Selector}
use Rattle.simd_json_path.proofs.Segments.{nodes-append, nodes-none, nodes-one}

module _ (root : Document) where
  abbrev from : List (Segment Selector) → List Document → List Document
  from ss ds = nodes (selected_by root) ss ds

  effort-append : (ss : List (Segment Selector)) (xs ys : List Document) → effort root ss (xs ++ ys) ≡ effort root ss xs + effort root ss ys
  effort-append [] xs ys = length-append xs ys
  effort-append (s ∷ ss) xs ys =
      let on = selected_of (selected_by root) s in
      omega (
        arith,
        length-append xs ys,
        ap (effort root ss) (flat_map-append on xs ys),
        effort-append ss (flat_map on xs) (flat_map on ys),
      )

  effort-one : (s : Segment Selector) (ss : List (Segment Selector)) (d : Document)
      → effort root (s ∷ ss) (d ∷ []) ≡ 2 + effort root ss (selected_of (selected_by root) s d)
  effort-one s ss d = omega (arith, ap (effort root ss) (append-nil (selected_of (selected_by root) s d)))

  last-left : (ss : List (Segment Selector)) (fs : List Frame) (f : Frame) → length fs < length ss
      → frames_left root ss (fs ++ f ∷ []) ≡ from (drop (suc (length fs)) ss) (frame_left root f) ++ frames_left root ss fs
  last-left [] fs f within = absurd (omega arith)
  last-left (s ∷ ss) [] f within = sym (append-nil (from ss (frame_left root f)))
  last-left (s ∷ ss) (e ∷ fs) f within =
      ap (λ xs. xs ++ from ss (frame_left root e)) (last-left ss fs f (omega arith))
      ∙ append_assoc (from (drop (suc (length fs)) ss) (frame_left root f)) (frames_left root ss fs) (from ss (frame_left root e))

  last-effort : (ss : List (Segment Selector)) (fs : List Frame) (f : Frame) → length fs < length ss
      → frames_effort root ss (fs ++ f ∷ []) ≡ 1 + effort root (drop (suc (length fs)) ss) (frame_left root f) + frames_effort root ss fs
  last-effort [] fs f within = absurd (omega arith)
  last-effort (s ∷ ss) [] f within = omega arith
  last-effort (s ∷ ss) (e ∷ fs) f within = omega (arith, last-effort ss fs f (omega arith))

  -- ---- the frame at an index is the innermost one of those up to it

  module _ (ss : List (Segment Selector)) (fs : List Frame) (k : ℕ) (f : Frame) (segment : k < length ss) (within : k < length fs) where
    front-left : frames_left root ss (take k fs ++ f ∷ []) ≡ from (drop (k + 1) ss) (frame_left root f) ++ frames_left root ss (take k fs)
    front-left =
        let front : length (take k fs) ≡ k = length-take-le k fs (omega arith) in
        let more : suc (length (take k fs)) ≡ k + 1 = omega arith in
        last-left ss (take k fs) f (omega arith)
        ∙ ap (λ n. from (drop n ss) (frame_left root f) ++ frames_left root ss (take k fs)) more

    front-effort : frames_effort root ss (take k fs ++ f ∷ [])
        ≡ 1 + effort root (drop (k + 1) ss) (frame_left root f) + frames_effort root ss (take k fs)
    front-effort =
        let front : length (take k fs) ≡ k = length-take-le k fs (omega arith) in
        let more : suc (length (take k fs)) ≡ k + 1 = omega arith in
        last-effort ss (take k fs) f (omega arith)
        ∙ ap (λ n. 1 + effort root (drop n ss) (frame_left root f) + frames_effort root ss (take k fs)) more

    pub before-left : f ≡ get_or fs k f
        → frames_left root ss (take (k + 1) fs) ≡ from (drop (k + 1) ss) (frame_left root f) ++ frames_left root ss (take k fs)
    before-left is =
        ap (frames_left root ss) (take_more fs k f within)
        ∙ ap (λ e. frames_left root ss (take k fs ++ e ∷ [])) (sym is)
        ∙ front-left

    pub before-effort : f ≡ get_or fs k f
        → frames_effort root ss (take (k + 1) fs)
        ≡ 1 + effort root (drop (k + 1) ss) (frame_left root f) + frames_effort root ss (take k fs)
    before-effort is =
        ap (frames_effort root ss) (take_more fs k f within)
        ∙ ap (λ e. frames_effort root ss (take k fs ++ e ∷ [])) (sym is)
        ∙ front-effort

    pub after-left : frames_left root ss (take (k + 1) (set fs k f))
        ≡ from (drop (k + 1) ss) (frame_left root f) ++ frames_left root ss (take k fs)
    after-left = ap (frames_left root ss) (take_more_set fs k f within) ∙ front-left

    pub after-effort : frames_effort root ss (take (k + 1) (set fs k f))
        ≡ 1 + effort root (drop (k + 1) ss) (frame_left root f) + frames_effort root ss (take k fs)
    after-effort = ap (frames_effort root ss) (take_more_set fs k f within) ∙ front-effort

  -- ---- it is finished, or gives a node

  module _ (ss : List (Segment Selector)) (fs : List Frame) (k : ℕ) (old new : Frame) (segment : k < length ss) (within : k < length fs)
      (is : old ≡ get_or fs k old)
    where
      pub finished-left : frame_left root old ≡ [] → frames_left root ss (take (k + 1) fs) ≡ frames_left root ss (take k (set fs k new))
      finished-left none =
          before-left ss fs k old segment within is
          ∙ ap (λ ds. from (drop (k + 1) ss) ds ++ frames_left root ss (take k fs)) none
          ∙ ap (λ ds. ds ++ frames_left root ss (take k fs)) (nodes-none (selected_by root) (drop (k + 1) ss))
          ∙ ap (frames_left root ss) (sym (take-set fs k new))

      pub stepped-left : (d : Document) → frame_left root old ≡ d ∷ frame_left root new
          → frames_left root ss (take (k + 1) fs)
          ≡ from (drop (k + 1) ss) (d ∷ []) ++ frames_left root ss (take (k + 1) (set fs k new))
      stepped-left d step =
          let after = drop (k + 1) ss in
          let outer = frames_left root ss (take k fs) in
          before-left ss fs k old segment within is
          ∙ ap (λ ds. from after ds ++ outer) step
          ∙ ap (λ ds. ds ++ outer) (nodes-append (selected_by root) after (d ∷ []) (frame_left root new))
          ∙ append_assoc (from after (d ∷ [])) (from after (frame_left root new)) outer
          ∙ ap (λ ds. from after (d ∷ []) ++ ds) (sym (after-left ss fs k new segment within))

      pub finished-effort : frames_effort root ss (take k (set fs k new)) < frames_effort root ss (take (k + 1) fs)
      finished-effort =
          omega (arith, before-effort ss fs k old segment within is, ap (frames_effort root ss) (take-set fs k new))

      pub stepped-effort : (d : Document) → frame_left root old ≡ d ∷ frame_left root new
          → frames_effort root ss (take (k + 1) fs)
          ≡ effort root (drop (k + 1) ss) (d ∷ []) + frames_effort root ss (take (k + 1) (set fs k new))
      stepped-effort d step =
          let after = drop (k + 1) ss in
          omega (
            arith,
            before-effort ss fs k old segment within is,
            ap (effort root after) step,
            effort-append after (d ∷ []) (frame_left root new),
            after-effort ss fs k new segment within,
          )

  -- ---- a node of the last segment is selected, and at another one the next segment begins

  pub last-selected : (ss : List (Segment Selector)) (n : ℕ) (d : Document) → length ss ≤ n → from (drop n ss) (d ∷ []) ≡ d ∷ []
  last-selected ss n d past = ap (λ xs. from xs (d ∷ [])) (drop_all n ss past)

  module _ (ss : List (Segment Selector)) (n : ℕ) (default : Segment Selector) (d : Document) (within : n < length ss) where
    pub next-selected : from (drop n ss) (d ∷ []) ≡ from (drop (n + 1) ss) (selected_of (selected_by root) (get_or ss n default) d)
    next-selected =
        ap (λ xs. from xs (d ∷ [])) (drop_more ss n default within)
        ∙ nodes-one (selected_by root) (get_or ss n default) (drop (n + 1) ss) d

    next-effort : effort root (drop n ss) (d ∷ [])
        ≡ 2 + effort root (drop (n + 1) ss) (selected_of (selected_by root) (get_or ss n default) d)
    next-effort =
        ap (λ xs. effort root xs (d ∷ [])) (drop_more ss n default within) ∙ effort-one (get_or ss n default) (drop (n + 1) ss) d

    pub opened-smaller : (before after outer : ℕ)
        → after ≡ 1 + effort root (drop (n + 1) ss) (selected_of (selected_by root) (get_or ss n default) d) + outer
        → before ≡ effort root (drop n ss) (d ∷ []) + outer → after < before
    opened-smaller before after outer opened node = omega (arith, opened, node, next-effort)

  -- ---- at first

  pub first-left : (ss : List (Segment Selector)) (fs : List Frame) (s : Segment Selector) (d : Document) (f : Frame) → 0 < length ss
      → 0 < length fs → s ≡ get_or ss 0 s → frame_left root f ≡ selected_of (selected_by root) s d
      → frames_left root ss (take 1 (set fs 0 f)) ≡ from ss (d ∷ [])
  first-left ss fs s d f some within is left =
      after-left ss fs 0 f some within
      ∙ append-nil (from (drop 1 ss) (frame_left root f))
      ∙ ap (from (drop 1 ss)) left
      ∙ ap (λ x. from (drop 1 ss) (selected_of (selected_by root) x d)) is
      ∙ sym (next-selected ss 0 s d some)

pub match-more : {X : Type 0} (o : Option X) {A C : Type 0} {B D : X → Type 0}
    → (A → C) → ((x : X) → B x → D x) → MatchOption o A B → MatchOption o C D
match-more None none some is = none is
match-more (Some x) none some is = some x is
