-- What a call returns that reads an input, or writes the report.
use Rattle.std.proofs.Common.{◌≡◌, ◌∙◌, ap, refl, sym, Bool, false, true, Result, Ok, Err}
use Rattle.std.specs.Prelude.{IsErrAnd, MatchResult}
use Rattle.programs.proofs.Calls.{NamesIn}
use Rattle.programs.specs.Failures.{read_fault}
use Rattle.programs.specs.declared.failure.Failure.{Failure}
use Rattle.programs.specs.declared.failure.Failure.TheVariants.{Closed, Resources}
use Rattle.log_report.specs.Runs.{EndsInput, input_fault, report_fault}

-- ---- the call that reads an input

-- of one that ends in what naming rejected lines ends in, when no read has failed
pub input-named : (q : Result Unit Failure) (reads rejects : Bool) (P Q S T : Type 0) → reads ≡ false → (P → S) → (Q → T)
    → NamesIn q rejects P Q → EndsInput reads rejects S T q
input-named (Ok u) reads rejects P Q S T none then left h = (none, h.0, then h.1)
input-named (Err e) reads rejects P Q S T none then left h =
    (h.0 ∙ ap (λ b. input_fault b rejects) (sym none), λ is. cc, left h.1)

-- an error that `?` hands on
pub input-handed-on : (q : Result Unit Failure) (reads rejects : Bool) (post : Failure → Type 0) (P Q : Type 0) → IsErrAnd q post
    → ((e : Failure) → post e → e ≡ input_fault reads rejects) → (reads ≡ true → rejects ≡ false) → Q → EndsInput reads rejects P Q q
input-handed-on (Ok u) reads rejects post P Q is says one left = absurd is
input-handed-on (Err e) reads rejects post P Q is says one left = (says e is, one, left)

-- where the reader failed, or there was no memory for its bytes
pub read-fault : (e : Failure) (reads rejects : Bool) → rejects ≡ false → e ≡ read_fault reads → e ≡ input_fault reads rejects
read-fault e true rejects none is = is
read-fault e false true none is = cc
read-fault e false false none is = is

-- ---- the call that writes the report

abbrev pub EndsReportIn : Result Unit Failure → Bool → Bool → Bool → Type 0 → Type 0 → Type 0
EndsReportIn q taken closed new P Q = MatchResult q (λ _. (new ≡ false) × P) (λ failure. (failure ≡ report_fault taken closed new) × Q)

-- a want of memory that `?` hands on
pub short-of-memory : (q : Result Unit Failure) (taken closed new : Bool) (P Q : Type 0) → IsErrAnd q (λ e. e ≡ Resources) → new ≡ false → Q
    → EndsReportIn q taken closed new P Q
short-of-memory (Ok u) taken closed new P Q is none left = absurd is
short-of-memory (Err e) taken closed false P Q is none left = (is, left)
short-of-memory (Err e) taken closed true P Q is none left = cc

-- its reader has closed it
pub closed-by : (e : Failure) (taken closed failed t : Bool) → e ≡ report_fault taken closed failed → e ≡ Closed t
    → (failed ≡ true) × (t ≡ taken)
closed-by e taken true true t fault is = (refl, cc)
closed-by e taken false true t fault is = cc
closed-by e taken closed false t fault is = cc
