-- What was read of an input so far, and which of its lines have ended.
use Rattle.std.proofs.Common.{◌≡◌, ◌∙◌, ap, refl, subst, ℕ, List, [], ◌∷◌, ◌++◌, append-nil, true, Option}
use Rattle.std.proofs.KnownBytes.{Consumes-nil, Consumes-trans}
use Rattle.std.specs.Io.KnownBytes.{Consumes, IsAtEnd}
use Rattle.simd_json_parts.specs.Pieces.{pieces}
use Rattle.programs.specs.Lines.{Cut, HasCut, Moves, kept}
use Rattle.programs.specs.declared.lines.Event.TheVariants.{Line, Block, End}
use Rattle.programs.proofs.Cuts.{cut-first, cut-last, none-cut}

-- between two steps
pub record IsAt (longest : ℕ) (c : Cut) (line : List ℕ) (first left : Option (List ℕ)) (done : List (List ℕ)) : Type 0 where
  pub input : List ℕ
  pub read : Consumes first left input
  pub cut : HasCut c line input done
  pub same : c.longest ≡ longest

-- these lines are the first
pub record HasFirst (first left : Option (List ℕ)) (done : List (List ℕ)) : Type 0 where
  pub input : List ℕ
  pub read : Consumes first left input
  pub rest : List (List ℕ)
  pub all : pieces input ≡ done ++ rest

-- these, and one more of which the first bytes are kept, are all
pub record IsEnd (longest : ℕ) (line : List ℕ) (first left : Option (List ℕ)) (done : List (List ℕ)) : Type 0 where
  pub input : List ℕ
  pub read : Consumes first left input
  pub end : IsAtEnd left
  pub last : List ℕ
  pub keeps : line ≡ kept longest last
  pub all : pieces input ≡ done ++ last ∷ []

pub at-start : (longest : ℕ) (line : List ℕ) (first : Option (List ℕ))
    → IsAt longest (record { longest = longest; has_ended = true; unread = [] }) line first first []
at-start longest line first = record { input = []; read = Consumes-nil first; cut = none-cut longest line; same = refl }

module _ {longest : ℕ} {c : Cut} {line : List ℕ} {first left : Option (List ℕ)} {done : List (List ℕ)} where
  -- whatever follows
  pub first-more : {after : Option (List ℕ)} → IsAt longest c line first left done → ((more : List ℕ) × Consumes left after more)
      → HasFirst first after done
  first-more at more =
      let rest = cut-first c line at.input done more.0 at.cut in
      record {
        input = at.input ++ more.0;
        read = Consumes-trans _ _ _ at.input more.0 at.read more.1;
        rest = rest.0;
        all = rest.1;
      }

  pub first-now : IsAt longest c line first left done → HasFirst first left done
  first-now at = first-more at ([], Consumes-nil left)

  pub at-line : {d : Cut} {lines : List ℕ} {after : Option (List ℕ)} → IsAt longest c line first left done
      → Moves c d line lines left after Line → (last : List ℕ) × (lines ≡ kept longest last)
      × ((any : List ℕ) → IsAt longest d any first after (done ++ last ∷ []))
  at-line at moves =
      let go = moves.1 at.input done at.cut in
      let same = moves.0 ∙ at.same in (
        go.2,
        go.3 ∙ ap (λ n. kept n go.2) same,
        λ any. record {
          input = at.input ++ go.0;
          read = Consumes-trans _ _ _ at.input go.0 at.read go.1;
          cut = go.4 any;
          same = same;
        },
      )

  pub at-block : {d : Cut} {lines : List ℕ} {after : Option (List ℕ)} → IsAt longest c line first left done
      → Moves c d line lines left after Block → IsAt longest d lines first after done × (d.unread ≡ [])
  at-block at moves =
      let go = moves.1 at.input done at.cut in (
        record {
          input = at.input ++ go.0;
          read = Consumes-trans _ _ _ at.input go.0 at.read go.1;
          cut = go.3;
          same = moves.0 ∙ at.same;
        },
        go.2,
      )

  -- where all that was read is taken, only the line that has begun is left
  pub first-but-last : IsAt longest c line first left done → c.unread ≡ []
      → (h : HasFirst first left done) × (last : List ℕ) × (pieces h.input ≡ done ++ last ∷ [])
  first-but-last at none =
      let all = cut-last c line at.input done none at.cut in (
        record { input = at.input; read = at.read; rest = at.cut.begun ∷ []; all = all },
        at.cut.begun,
        all,
      )

  pub at-end : (d : Cut) {lines : List ℕ} {after : Option (List ℕ)} → IsAt longest c line first left done
      → Moves c d line lines left after End → IsEnd longest lines first after done
  at-end d {after = after} at moves =
      let go = moves.1 at.input done at.cut in
      record {
        input = at.input;
        read = subst (Consumes first after) (append-nil at.input) (Consumes-trans _ _ _ at.input [] at.read go.0);
        end = go.1;
        last = go.2;
        keeps = go.3 ∙ ap (λ n. kept n go.2) (moves.0 ∙ at.same);
        all = go.4;
      }
