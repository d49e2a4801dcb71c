-- What one line more comes to.
use Rattle.std.proofs.Common.{◌≡◌, ◌∙◌, ap, refl, subst, ℕ, List, Option}
use Rattle.std.specs.Io.KnownBytes.{Appends}
use Rattle.simd_json_parts.specs.declared.error.Error.{Error}
use Rattle.simd_json_print.proofs.Texts.{appends-then}
use Rattle.simd_json_stages.specs.Capacities.{default_max_depth}
use Rattle.programs.proofs.Begins.{begins-all, begins-then}
use Rattle.programs.specs.Failures.{Begins}
use Rattle.programs.specs.Ports.{Watched}
use Rattle.programs.specs.Rejections.{one_more}
use Rattle.programs.proofs.Folds.{begins-grown}
use Rattle.jsonl.proofs.Outcomes.{cut-outcome}
use Rattle.programs.specs.Lines.{kept}
use Rattle.jsonl.specs.Records.{Numbered, Outcome, outcome_of_line}
use Rattle.log_report.proofs.Begun.{rejections-grow}
use Rattle.log_report.specs.Report.{Report, next, rejection_line, with_counted_line, with_counted_outcome, with_counted_rejection}
use Rattle.log_report.specs.Runs.{CountsMore, CountsRejection, ShowsReport}
use Rattle.log_report.specs.Table.{counted, rejected}
use Rattle.log_report.specs.declared.lines.Lines.{Lines}
use Rattle.log_report.specs.declared.rows.Wanted.{Wanted}

-- the next line
pub shows-next : {A : Type 0} (old : Lines A) (records : Numbered) (text : List ℕ) (held holds : Option (List ℕ)) (w : Wanted)
    (file : List ℕ) (r : Report) → records ≡ record old.records { number = one_more old.records.number; text = text }
    → ShowsReport old held holds w file r → ShowsReport (record old { records = records }) held holds w file (next r)
shows-next old records text held holds w file r is shown = record {
  by = shown.by;
  of = shown.of;
  longest = ap (λ n. n.longest) is ∙ shown.longest;
  depth = ap (λ n. n.depth) is ∙ shown.depth;
  number = ap (λ n. n.number) is ∙ ap one_more shown.number;
  all_taken = shown.all_taken;
  counts = shown.counts;
  rejections = shown.rejections;
}

pub line-read : (w : Wanted) (file : List ℕ) (r : Report) (line text : List ℕ) (longest limit : ℕ) (o : Outcome) → text ≡ line
    → o ≡ outcome_of_line longest limit line → longest ≡ w.longest → limit ≡ default_max_depth
    → with_counted_outcome w file (next r) text o ≡ with_counted_line w file r line
line-read w file r line text longest limit o same is long deep =
    ap (λ u. with_counted_outcome w file (next r) u o) same
    ∙ ap (with_counted_outcome w file (next r) line)
    (is ∙ ap (λ n. outcome_of_line n limit line) long ∙ ap (λ n. outcome_of_line w.longest n line) deep)

pub shows-added : {A : Type 0} (old new : Lines A) (held holds : Option (List ℕ)) (w : Wanted) (file : List ℕ) (r : Report) (text : List ℕ)
    (more : ℕ) → ShowsReport old held holds w file r → CountsMore old new text more
    → ShowsReport new held holds w file (record r { counts = counted w.is_tsv w.values more text r.counts })
shows-added old new held holds w file r text more shown h = record {
  by = ap (λ l. l.wanted.now) h.same ∙ shown.by;
  of = ap (λ l. l.file.now) h.same ∙ shown.of;
  longest = ap (λ l. l.records.longest) h.same ∙ shown.longest;
  depth = ap (λ l. l.records.depth) h.same ∙ shown.depth;
  number = ap (λ l. l.records.number) h.same ∙ shown.number;
  all_taken = ap (λ l. l.all_taken) h.same ∙ shown.all_taken;
  counts = h.counts ∙ ap (counted old.wanted.now.is_tsv old.wanted.now.values more text) shown.counts
      ∙ ap (λ v. counted v.is_tsv v.values more text r.counts) shown.by;
  rejections = shown.rejections;
}

pub named-as : {A : Type 0} (old : Lines A) (held holds : Option (List ℕ)) (w : Wanted) (file : List ℕ) (r : Report)
    (error : Option Error) → ShowsReport old held holds w file r
    → rejection_line old.wanted.now old.file.now old.records.number old.records.text error
    ≡ rejection_line w file r.number old.records.text error
named-as old held holds w file r error shown =
    let text = old.records.text in
    ap (λ v. rejection_line v old.file.now old.records.number text error) shown.by
    ∙ ap (λ f. rejection_line w f old.records.number text error) shown.of
    ∙ ap (λ n. rejection_line w file n text error) shown.number

pub shows-rejected : {A E : Type 0} (naming : E → Option (List ℕ)) (old new : Lines A) (rejections rejects : Watched E)
    (held : Option (List ℕ)) (w : Wanted) (file : List ℕ) (r : Report) (error : Option Error)
    → ShowsReport old held (naming rejections.inner) w file r → CountsRejection naming old new rejections rejects error
    → ShowsReport new held (naming rejects.inner) w file (with_counted_rejection w file r old.records.text error)
shows-rejected naming old new rejections rejects held w file r error shown h = record {
  by = ap (λ l. l.wanted.now) h.same ∙ shown.by;
  of = ap (λ l. l.file.now) h.same ∙ shown.of;
  longest = ap (λ l. l.records.longest) h.same ∙ shown.longest;
  depth = ap (λ l. l.records.depth) h.same ∙ shown.depth;
  number = ap (λ l. l.records.number) h.same ∙ shown.number;
  all_taken = ap (λ l. l.all_taken) h.same;
  counts = h.counts ∙ ap (counted old.wanted.now.is_tsv old.wanted.now.values 1 (rejected old.wanted.now.is_tsv)) shown.counts
      ∙ ap (λ v. counted v.is_tsv v.values 1 (rejected v.is_tsv) r.counts) shown.by;
  rejections =
      appends-then held (naming rejections.inner) (naming rejects.inner) r.rejections _ shown.rejections
      (subst (Appends (naming rejections.inner) (naming rejects.inner)) (named-as old held _ w file r error shown) h.named);
}

-- ---- after a call that failed

-- of a rejected line, whose name was begun
pub begins-rejected : {A : Type 0} (old : Lines A) (held named names : Option (List ℕ)) (w : Wanted) (file : List ℕ) (r : Report)
    (error : Option Error) → ShowsReport old held named w file r
    → Begins named names (rejection_line old.wanted.now old.file.now old.records.number old.records.text error)
    → Begins held names (with_counted_rejection w file r old.records.text error).rejections
begins-rejected old held named names w file r error shown begun =
    begins-then held named names r.rejections _ shown.rejections
    (subst (Begins named names) (named-as old held named w file r error shown) begun)

-- of any line, before its name
pub begins-line : (held holds : Option (List ℕ)) (w : Wanted) (file : List ℕ) (r : Report) (line : List ℕ)
    → Appends held holds r.rejections → Begins held holds (with_counted_line w file r line).rejections
begins-line held holds w file r line all =
    begins-grown (with_counted_line w file) (λ r. r.rejections) (rejections-grow w file) held holds r line
    (begins-all held holds r.rejections all)

-- of a line that is too long the first bytes are enough
pub cut-line : (w : Wanted) (file : List ℕ) (r : Report) (line : List ℕ)
    → with_counted_line w file r (kept w.longest line) ≡ with_counted_line w file r line
cut-line w file r line = cut-outcome (with_counted_outcome w file (next r)) w.longest default_max_depth line (λ a b. refl)
