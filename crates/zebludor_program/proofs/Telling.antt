-- What a result says is handed to the caller.
use Rattle.std.proofs.Common.{◌≡◌, ℕ, List, length, inl, inr, Result, Ok, Err, IfOk, IfErr}
use Rattle.std.specs.Prelude.{MatchResult}
use Rattle.pcboard_texts.specs.declared.fault.Fault.{Fault}
use Rattle.zebludor_program.specs.declared.run.Outcome.{Outcome}
use Rattle.zebludor_program.specs.Buffers.{buffer_after}
use Rattle.zebludor_program.specs.RunOutcomes.{Tells, fault_outcome, text_outcome}

pub tells : {T : Type 0} (bytes : T → List ℕ) (Is : List ℕ → Type 0) (For : Fault → Type 0) (report : Result T Fault) (old new : List ℕ) (outcome : Outcome)
    → MatchResult report (λ text. outcome ≡ text_outcome (bytes text) (length old)) (λ fault. outcome ≡ fault_outcome fault)
    → MatchResult report (λ text. new ≡ buffer_after (bytes text) old) (λ fault. new ≡ old)
    → IfOk report (λ text. Is (bytes text)) → IfErr report For → Tells Is For old new outcome
tells bytes Is For (Ok text) old new outcome told put is_so for_it =
    inl (record { text = bytes text; is_so = is_so; outcome_is = told; buffer_is = put })
tells bytes Is For (Err fault) old new outcome told kept is_so for_it =
    inr (record { fault = fault; is_so = for_it; outcome_is = told; kept = kept })
