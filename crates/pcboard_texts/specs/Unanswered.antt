-- Why the program gives no answer, as its functions pass it on.
-- To be believed by callers of this crate: the headline does not rest on it.
use Rattle.std.specs.Prelude.{◌⊎◌, ⊤, Result, Ok, Err}
use Rattle.pcboard_texts.specs.declared.fault.Fault.{Fault}
use Rattle.pcboard_texts.specs.declared.unanswered.Unanswered.{Unanswered}
use Rattle.pcboard_texts.specs.declared.unanswered.Unanswered.TheVariants.{Failed, Refused}

-- the program ends for one of these wants of memory, for one of these refusals, or for a failure
abbrev pub EndsFor : (Fault → Type 0) → (Fault → Type 0) → Unanswered → Type 0
EndsFor Wants Is Failed = Unit {0}
EndsFor Wants Is (Refused fault) = Wants fault ⊎ Is fault

-- this holds if the program ends for a refusal
abbrev pub WhereRefused : Type 0 → Unanswered → Type 0
WhereRefused Is Failed = Unit {0}
WhereRefused Is (Refused fault) = Is

-- the program ends for one of these wants of memory, or for a failure: nothing was judged
abbrev pub IsUnjudged : (Fault → Type 0) → Unanswered → Type 0
IsUnjudged Wants Failed = Unit {0}
IsUnjudged Wants (Refused fault) = Wants fault

-- this holds if the program ends for a failure
abbrev pub WhereFailed : Type 0 → Unanswered → Type 0
WhereFailed Is Failed = Is
WhereFailed Is (Refused fault) = Unit {0}

-- this holds unless the program ends for a failure
abbrev pub UnlessFailed : {A : Type 0} → Type 0 → Result A Unanswered → Type 0
UnlessFailed Is (Ok value) = Is
UnlessFailed Is (Err Failed) = ⊤
UnlessFailed Is (Err (Refused fault)) = Is
