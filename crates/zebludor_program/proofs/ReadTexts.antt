-- What is read of a caller's texts, as the contract of the programs tells it, is what the texts tell.
use Rattle.std.proofs.Common.{◌≡◌, ℕ, List, Some, subst}
use Rattle.std.specs.Io.KnownBytes.{Consumes, IsAtEnd}
use Rattle.pcboard_texts.specs.Given.{given_by}
use Rattle.pcboard_texts.proofs.Noting.{Within}
use Rattle.zebludor_program.specs.Programs.{IsFront, read_of}
use Rattle.zebludor_program.specs.declared.texts.Texts.{Texts}

-- what the texts give when one is read
abbrev gave : Texts → Texts → List ℕ → ℕ → List ℕ → Type 0
gave s t name limit bytes = (t ≡ s) × IsFront s.file.now s.run.now name limit bytes

pub within_read : {I : Type 0} (left : I → List ℕ) (old new : Texts) (before after : I)
    → Within (given_by gave old new (λ s t bytes. Consumes (Some (left s)) (Some (left t)) bytes) (λ s. IsAtEnd (Some (left s))) before after)
    (read_of old.file.now old.run.now (left before) (left after))
within_read left old new before after = record {
  one = λ name limit bytes is. is.1;
  two = λ first most front second least back is.
      (is.1.1, subst (λ (s : Texts). IsFront s.file.now s.run.now second least back) is.1.0 is.2.1);
  typed = λ bytes is. is;
  ended = λ is. is;
}
