-- What the matches of the command line of `pcprobe` hold.
use Rattle.std.proofs.Common.{◌≡◌, ◌≢◌, ◌∙◌, ap, subst, sym, List, [], Bool, true, false, is_some, Option, None, Some, codes, refl, inl, inr}
use Rattle.std.specs.Prelude.{Err}
use Rattle.clap.specs.declared.error.Error.{Error}
use Rattle.clap.specs.declared.error.ErrorKind.TheVariants.{OutOfMemory}
use Rattle.clap.specs.Words.{HasKind, Row, Text, built, fault_of, kind_of, matches_of, takes}
use Rattle.clap.specs.Simple.{Shape, argument_words, entered}
use Rattle.clap.specs.Faults.{entered_fault, level_fault}
use Rattle.clap.specs.Kinds.{Kinds}
use Rattle.clap.specs.Walk.{Rule, nothing_held, rows_after, walk}
use Rattle.pcboard_words.proofs.Values.{AllFit, all_filled, asks_help, given_first, sets_true}
use Rattle.pcboard_words.proofs.Matches.{AllGiven, all_given, level_missed, not_true}
use Rattle.pcboard_words.specs.declared.task.LineFault.{LineFault}
use Rattle.pcboard_words.specs.declared.task.LineFault.TheVariants.{Usage, Memory}
use Rattle.pcboard_words.specs.CommandLine.{OnUsage}
use Rattle.pcboard_words.specs.ProbeLine.{AnswersProbe, HoldsFiles, probe_app}

abbrev top : Shape
top = (built probe_app).top

top_fits : AllFit top.rules
top_fits = (inl refl, (inl refl, (inr (sets_true _ refl refl tt), (inr (asks_help _ refl refl), tt))))

-- there are no subcommands
none_entered : (stop : Option (Text × List Text)) → is_some (entered (built probe_app) stop) ≡ false
none_entered None = refl
none_entered (Some p) = refl

nothing_below : (stop : Option (Text × List Text)) → entered_fault (built probe_app) stop ≡ []
nothing_below None = refl
nothing_below (Some p) = refl

-- if `clap` finds no fault, both files are there
pub files_there : (words : List Text) → fault_of probe_app words ≡ [] → HoldsFiles (matches_of probe_app words)
files_there words e =
    let given_words : List Text = argument_words probe_app words in
    let stop = (walk top.rules [] nothing_held given_words).stopped in
    let level : level_fault top [] nothing_held given_words false [] ≡ [] =
    sym (ap (λ (below : Kinds). level_fault top [] nothing_held given_words false below) (nothing_below stop))
    ∙ sym (ap (λ (is_below : Bool). level_fault top [] nothing_held given_words is_below (entered_fault (built probe_app) stop)) (none_entered stop)) ∙ e in
    let rows = rows_after top.rules [] given_words in
    let filled = all_filled top.rules [] given_words top_fits in
    let given : AllGiven rows top.rules = all_given rows top.rules (level_missed top given_words level) in
    (given_first (codes "FILE") rows filled (given.0 refl), given_first (codes "RUN") rows filled (given.1.0 refl))

-- a refusal that isn't for want of memory
pub probe_refused : (words : List Text) (fault : LineFault) (e : Error) → OnUsage fault (kind_of e ≢ OutOfMemory)
    → (takes probe_app words ≡ true → kind_of e ≡ OutOfMemory) → HasKind (fault_of probe_app words) e → AnswersProbe words (Err fault)
unfolding AnswersProbe
probe_refused words Memory e other passes kinds = tt
probe_refused words (Usage text) e other passes kinds = (
  λ none. elim kinds [
    | inl memory ↦ other memory
    | inr among ↦ rw none at among
  ],
  not_true (takes probe_app words) (λ taken. other (passes taken)),
)
