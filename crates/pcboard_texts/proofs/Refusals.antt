-- When a refusal is true: of the bytes that were read, and of the files.
use Rattle.std.proofs.Common.{◌≡◌, ◌∙◌, ℕ, ◌<◌, Bool, true, false, List, length, take, ap, arith, subst}
use Rattle.std.proofs.Common.{inr, length-take, Option, None, Some, Result, Ok, Err, IfErr, IfSome}
use Rattle.std.specs.Prelude.{IsErrAnd}
use Rattle.pcboard_texts.specs.declared.fault.Fault.{Fault}
use Rattle.pcboard_texts.specs.declared.fault.Fault.TheVariants.{Source, Hex, Run, Board, Session}
use Rattle.pcboard_texts.specs.declared.unanswered.Unanswered.{Unanswered}
use Rattle.pcboard_texts.specs.declared.unanswered.Unanswered.TheVariants.{Failed, Refused}
use Rattle.pcboard_texts.specs.Unanswered.{EndsFor, IsUnjudged}

-- the program ends for a fault that is passed on
pub passed_on : {A : Type 0} (result : Result A Unanswered) (fault : Fault) (Wants Is : Fault → Type 0)
    → IsErrAnd result (λ end. end ≡ Refused fault) → Is fault → IfErr result (EndsFor Wants Is)
passed_on (Ok value) fault Wants Is given is = tt
passed_on (Err Failed) fault Wants Is given is = let never : Failed ≡ Refused fault = given in cc
passed_on (Err (Refused other)) fault Wants Is given is =
    let same : Refused other ≡ Refused fault = given in
    let alike : fault ≡ other = cc in
    inr (subst Is alike is)

-- the program ends for one of several wants of memory if it ends for one of fewer
pub unjudged_wider : {A : Type 0} (result : Result A Unanswered) (Wants More : Fault → Type 0) → ((fault : Fault) → Wants fault → More fault)
    → IfErr result (IsUnjudged Wants) → IfErr result (IsUnjudged More)
unjudged_wider (Ok value) Wants More more is = tt
unjudged_wider (Err Failed) Wants More more is = tt
unjudged_wider (Err (Refused fault)) Wants More more is = more fault is
