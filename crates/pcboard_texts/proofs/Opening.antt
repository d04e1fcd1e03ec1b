-- How the program ends if a file of its task can't be opened.
use Rattle.std.proofs.Common.{◌≡◌, ℕ, zero, suc, ◌<◌, ◌≤◌, List, refl, arith, inl, inr, Option}
use Rattle.std.specs.Prelude.{◌≢◌, ◌⊎◌}
use Rattle.std.specs.Io.KnownBytes.{Appends}
use Rattle.pcboard_words.specs.Files.{hex_of}
use Rattle.pcboard_words.specs.declared.task.Task.{Task}
use Rattle.pcboard_texts.specs.declared.fault.Fault.{Fault}
use Rattle.pcboard_texts.specs.RunFaults.{fault_text}
use Rattle.pcboard_texts.specs.Refusal.{EndsUnjudged, want_of_board, want_of_file}

-- how want of memory is printed, if nothing was judged
pub told_unjudged : (task : Task) (status : ℕ) (old new : Option (List ℕ)) (fault : Fault) → 0 < status → status ≤ 3 → status ≢ 2
    → (status ≡ 1 → Appends old new (fault_text fault)) → (fault ≡ want_of_board) ⊎ (fault ≡ want_of_file (hex_of task))
    → EndsUnjudged task status old new
told_unjudged task zero old new fault above within other tells wants = absurd (omega (arith, above))
told_unjudged task (suc zero) old new fault above within other tells wants = inr (refl, (fault, wants, tells refl))
told_unjudged task (suc (suc zero)) old new fault above within other tells wants = absurd (other refl)
told_unjudged task (suc (suc (suc zero))) old new fault above within other tells wants = inl refl
told_unjudged task (suc (suc (suc (suc n)))) old new fault above within other tells wants = absurd (omega (arith, within))
