-- Inputs of which the first were read.
use Rattle.std.proofs.Common.{◌≡◌, ◌∙◌, refl, ap, sym, subst, arith, ℕ, zero, suc, ◌<◌, List, [], ◌∷◌, ◌++◌, length, set, get_or}
use Rattle.std.proofs.Common.{Bool, true, false, ◌||◌, Option}
use Rattle.programs.specs.Ports.{Watched}
use Rattle.log_report.specs.Report.{Part, Report, report_of, with_part, with_parts}
use Rattle.log_report.specs.Runs.{AreRead, IsInputRead, ShowsReport, has_failed}
use Rattle.log_report.specs.declared.lines.Lines.{Lines}
use Rattle.log_report.specs.declared.rows.Wanted.{Wanted}
use Rattle.log_report.specs.declared.runs.Input.{Input}

pub parts-more : (w : Wanted) (r : Report) (parts : List Part) (part : Part)
    → with_parts w r (parts ++ part ∷ []) ≡ with_part w (with_parts w r parts) part
parts-more w r [] part = refl
parts-more w r (p ∷ parts) part = parts-more w (with_part w r p) parts part

or-left : (a b : Bool) → (a || b) ≡ false → a ≡ false
or-left true b none = none
or-left false b none = refl

or-right : (a b : Bool) → (a || b) ≡ false → b ≡ false
or-right true b none = cc
or-right false b none = none

or-first : (a b : Bool) → b ≡ false → (a || b) ≡ a
or-first true b none = refl
or-first false b none = none

-- the input at this place has not failed
pub sound-at : {R : Type 0} (is : List (Input R)) (k : ℕ) (d : Input R) → has_failed is ≡ false → k < length is
    → (get_or is k d).reader.failed ≡ false
sound-at [] k d none high = absurd (omega (arith, high))
sound-at (i ∷ is) zero d none high = or-left i.reader.failed (has_failed is) none
sound-at (i ∷ is) (suc k) d none high = sound-at is k d (or-right i.reader.failed (has_failed is) none) (omega (arith, high))

-- another there is the only one that may have
pub failed-at : {R : Type 0} (is : List (Input R)) (k : ℕ) (new : Input R) → has_failed is ≡ false → k < length is
    → has_failed (set is k new) ≡ new.reader.failed
failed-at [] k new none high = absurd (omega (arith, high))
failed-at (i ∷ is) zero new none high =
    or-first new.reader.failed (has_failed is) (or-right i.reader.failed (has_failed is) none)
failed-at (i ∷ is) (suc k) new none high =
    ap (λ b. b || has_failed (set is k new)) (or-left i.reader.failed (has_failed is) none)
    ∙ failed-at is k new (or-right i.reader.failed (has_failed is) none) (omega (arith, high))

-- one more that has not
pub sound-more : {R : Type 0} (is : List (Input R)) (i : Input R) → has_failed is ≡ false → i.reader.failed ≡ false
    → has_failed (is ++ i ∷ []) ≡ false
sound-more [] i none sound = or-first i.reader.failed false refl ∙ sound
sound-more (j ∷ is) i none sound =
    ap (λ b. b || has_failed (is ++ i ∷ [])) (or-left j.reader.failed (has_failed is) none)
    ∙ sound-more is i (or-right j.reader.failed (has_failed is) none) sound

-- so many inputs were read and counted
pub record HasCounted {A R E : Type 0} (remaining : R → Option (List ℕ)) (naming : E → Option (List ℕ)) (w : Wanted)
    (inputs reads : List (Input R)) (rejections rejects : Watched E) (lines : Lines A) (count : ℕ) : Type 0 where
  pub parts : List Part
  pub read : AreRead remaining true inputs reads parts
  pub each : length parts ≡ count
  pub last : List ℕ
  pub shown : ShowsReport lines (naming rejections.inner) (naming rejects.inner) w last (report_of w parts)

module _ {R : Type 0} (remaining : R → Option (List ℕ)) where
  -- one more was
  pub read-more : (all : Bool) (is js : List (Input R)) (parts : List Part) (k : ℕ) (part : Part) (d new : Input R)
      → AreRead remaining all is js parts → length parts ≡ k → k < length js → IsInputRead remaining all (get_or js k d) new part
      → AreRead remaining all is (set js k new) (parts ++ part ∷ [])
  read-more all is [] [] k part d new same len high read = absurd (omega (arith, high))
  read-more all is (j ∷ js) [] zero part d new same len high read =
      subst (λ us. AreRead remaining all us (new ∷ js) (part ∷ [])) (sym same) (read, refl)
  read-more all is (j ∷ js) [] (suc k) part d new same len high read = absurd (omega (arith, len))
  read-more all [] js (p ∷ parts) k part d new had len high read = absurd had
  read-more all (i ∷ is) [] (p ∷ parts) k part d new had len high read = absurd had
  read-more all (i ∷ is) (j ∷ js) (p ∷ parts) zero part d new had len high read = absurd (omega (arith, len))
  read-more all (i ∷ is) (j ∷ js) (p ∷ parts) (suc k) part d new had len high read =
      (had.0, read-more all is js parts k part d new had.1 (omega (arith, len)) (omega (arith, high)) read)

  -- whether to their ends or not
  pub read-some : (is js : List (Input R)) (parts : List Part) → AreRead remaining true is js parts → AreRead remaining false is js parts
  read-some is js [] had = had
  read-some [] js (p ∷ parts) had = absurd had
  read-some (i ∷ is) [] (p ∷ parts) had = absurd had
  read-some (i ∷ is) (j ∷ js) (p ∷ parts) had =
      (record { file = had.0.file; bytes = had.0.bytes; end = λ is. cc }, read-some is js parts had.1)
