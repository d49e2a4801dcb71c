-- What was counted of the lines of an input so far.
use Rattle.std.proofs.Common.{◌≡◌, ◌∙◌, ap, sym, subst, ℕ, List, [], ◌∷◌, ◌++◌, Option}
use Rattle.std.specs.Io.KnownBytes.{Consumes}
use Rattle.programs.specs.Failures.{Begins}
use Rattle.programs.specs.Lines.{Cut, Moves, folded, kept}
use Rattle.programs.specs.Ports.{Watched}
use Rattle.programs.specs.declared.lines.Event.TheVariants.{Line, Block, End}
use Rattle.programs.proofs.Begins.{begins-all}
use Rattle.programs.proofs.Folds.{begins-lines, folded-last}
use Rattle.programs.proofs.Reading
use Rattle.programs.proofs.Reading.{HasFirst, at-block, at-end, at-line, first-more, first-now}
use Rattle.log_report.specs.Report.{Report, with_counted_line, with_part}
use Rattle.log_report.specs.Runs.{BeginsInput, BeginsCountedLine, ShowsReport, TakesInput, CountsLine}
use Rattle.log_report.specs.declared.lines.Lines.{Lines}
use Rattle.log_report.specs.declared.rows.Wanted.{Wanted}
use Rattle.log_report.proofs.Begun.{rejections-grow}
use Rattle.log_report.proofs.Shown.{cut-line}

-- the report with these lines of an input, whose numbers begin at 1
abbrev pub counted : Wanted → List ℕ → Report → List (List ℕ) → Report
counted w file r done = folded (with_counted_line w file) (record r { number = 0 }) done

-- Between two steps: any report that was shown has become that with the lines that have ended.
pub record IsAt {A E : Type 0} (naming : E → Option (List ℕ)) (old lines : Lines A) (c : Cut) (line : List ℕ)
    (first left : Option (List ℕ)) (rejections rejects : Watched E) (file : List ℕ) : Type 0 where
  pub done : List (List ℕ)
  pub read : Reading.IsAt old.wanted.now.longest c line first left done
  pub shown : (held : Option (List ℕ)) (w : Wanted) (last : List ℕ) (r : Report) → ShowsReport old held (naming rejections.inner) w last r
      → ShowsReport lines held (naming rejects.inner) w file (counted w file r done)

-- with a line of which the first bytes are kept
with-last : (w : Wanted) (file : List ℕ) (r : Report) (done : List (List ℕ)) (line last : List ℕ) → line ≡ kept w.longest last
    → with_counted_line w file (counted w file r done) line ≡ counted w file r (done ++ last ∷ [])
with-last w file r done line last is =
    ap (with_counted_line w file (counted w file r done)) is ∙ cut-line w file (counted w file r done) last
    ∙ sym (folded-last (with_counted_line w file) (record r { number = 0 }) done last)

-- what was begun of the rejections of the first lines was of those of all
begins-part : (held holds : Option (List ℕ)) (w : Wanted) (file : List ℕ) (r : Report) {first left : Option (List ℕ)}
    (done : List (List ℕ)) → (h : HasFirst first left done) → Begins held holds (counted w file r done).rejections
    → Begins held holds (with_part w r (file, h.input)).rejections
begins-part held holds w file r done h =
    begins-lines (with_counted_line w file) (λ r. r.rejections) (rejections-grow w file) held holds
    (record r { number = 0 }) done h.rest _ h.all

module _ {A E R : Type 0} (remaining : R → Option (List ℕ)) (naming : E → Option (List ℕ)) (old lines : Lines A)
    (reader reads : Watched R) (rejections rejects : Watched E) (file : List ℕ) (c : Cut) (line : List ℕ) where
  abbrev At : Type 0
  At = IsAt naming old lines c line (remaining reader.inner) (remaining reads.inner) rejections rejects file

  pub reading-begun : (now : Watched R) → At → ((more : List ℕ) × Consumes (remaining reads.inner) (remaining now.inner) more)
      → BeginsInput remaining naming old reader now rejections rejects file
  reading-begun now at more =
      let h = first-more at.read more in
      record {
        input = h.input;
        read = h.read;
        begun = λ held w last r shown.
            begins-part held _ w file r at.done h (begins-all held _ _ (at.shown held w last r shown).rejections);
      }

  pub block-at : (d : Cut) (next : List ℕ) (now : Watched R) → At → Moves c d line next (remaining reads.inner) (remaining now.inner) Block
      → IsAt naming old lines d next (remaining reader.inner) (remaining now.inner) rejections rejects file
  block-at d next now at moves = record { done = at.done; read = (at-block at.read moves).0; shown = at.shown }

  -- ---- a line is counted

  pub line-taken : (new : Lines A) (d : Cut) (next any : List ℕ) (now : Watched R) (names : Watched E) → At
      → Moves c d line next (remaining reads.inner) (remaining now.inner) Line → CountsLine naming lines new rejects names next
      → IsAt naming old new d any (remaining reader.inner) (remaining now.inner) rejections names file
  line-taken new d next any now names at moves taken =
      let go = at-line at.read moves in
      record {
        done = at.done ++ go.0 ∷ [];
        read = go.2 any;
        shown = λ held w last r shown.
            subst (ShowsReport new held (naming names.inner) w file)
            (with-last w file r at.done next go.0 (go.1 ∙ ap (λ v. kept v.longest go.0) shown.by))
            (taken held w file (counted w file r at.done) (at.shown held w last r shown));
      }

  pub line-begun : (d : Cut) (next : List ℕ) (now : Watched R) (names : Watched E) → At
      → Moves c d line next (remaining reads.inner) (remaining now.inner) Line → BeginsCountedLine naming lines rejects names next
      → BeginsInput remaining naming old reader now rejections names file
  line-begun d next now names at moves begun =
      let go = at-line at.read moves in
      let h = first-now (go.2 []) in
      record {
        input = h.input;
        read = h.read;
        begun = λ held w last r shown.
            begins-part held _ w file r (at.done ++ go.0 ∷ []) h
            (subst (λ r. Begins held (naming names.inner) r.rejections)
            (with-last w file r at.done next go.0 (go.1 ∙ ap (λ v. kept v.longest go.0) shown.by))
            (begun held w file (counted w file r at.done) (at.shown held w last r shown)));
      }

  -- ---- the last line

  pub end-taken : (new : Lines A) (d : Cut) (next : List ℕ) (now : Watched R) (names : Watched E) → At
      → Moves c d line next (remaining reads.inner) (remaining now.inner) End → CountsLine naming lines new rejects names next
      → TakesInput remaining naming old new reader now rejections names file
  end-taken new d next now names at moves taken =
      let go = at-end d at.read moves in
      record {
        input = go.input;
        read = go.read;
        end = go.end;
        shown = λ held w last r shown.
            subst (ShowsReport new held (naming names.inner) w file)
            (with-last w file r at.done next go.last (go.keeps ∙ ap (λ v. kept v.longest go.last) shown.by)
            ∙ ap (counted w file r) (sym go.all))
            (taken held w file (counted w file r at.done) (at.shown held w last r shown));
      }

  pub end-begun : (d : Cut) (next : List ℕ) (now : Watched R) (names : Watched E) → At
      → Moves c d line next (remaining reads.inner) (remaining now.inner) End → BeginsCountedLine naming lines rejects names next
      → BeginsInput remaining naming old reader now rejections names file
  end-begun d next now names at moves begun =
      let go = at-end d at.read moves in
      record {
        input = go.input;
        read = go.read;
        begun = λ held w last r shown.
            subst (λ r. Begins held (naming names.inner) r.rejections)
            (with-last w file r at.done next go.last (go.keeps ∙ ap (λ v. kept v.longest go.last) shown.by)
            ∙ ap (counted w file r) (sym go.all))
            (begun held w file (counted w file r at.done) (at.shown held w last r shown));
      }
