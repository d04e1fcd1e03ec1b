use Rattle.std.proofs.Common.{ap, subst, sym, ◌≡◌, ◌∙◌, map, List, []}
use Rattle.clap.specs.Words.{App, Row, Text, app_of, HasKind, fault_of, found_of, is_simple, is_simple_and_free, matches_of, rows_of, takes}
use Rattle.pcboard_words.specs.ProbeLine.{AnswersProbe, IsSessionOf, probe_app}
use Rattle.pcboard_words.proofs.ProbeMatches.{files_there, probe_refused}
use Rattle.pcboard_words.proofs.probe_line.read_probe_words.Goals as goal

pub probe_task-task-requires : goal.probe_task-task-requires
probe_task-task-requires c =
    let words : List Text = map (λ word. word.now) c.args.words.now in
    let command : app_of c.in-Ok.command ≡ probe_app = c.in-Ok.ensures in
    let held : rows_of (found_of c.in-Ok-try_get_matches_from.matches) ≡ matches_of probe_app words =
    (c.in-Ok-try_get_matches_from.ensures.matches (ap is_simple command)).0 ∙ ap (λ (a : App). matches_of a words) command in
    let passed : fault_of probe_app words ≡ [] =
    ap (λ (a : App). fault_of a words) (sym command) ∙ c.in-Ok-try_get_matches_from.ensures.kinds (ap is_simple_and_free command) in
    rw held (files_there words passed)

pub returns-in-Ok-try_get_matches_from : goal.returns-in-Ok-try_get_matches_from
unfolding AnswersProbe
returns-in-Ok-try_get_matches_from c =
    let words : List Text = map (λ word. word.now) c.args.words.now in
    let command : app_of c.in-Ok.command ≡ probe_app = c.in-Ok.ensures in
    let held : rows_of (found_of c.in-Ok-try_get_matches_from.matches) ≡ matches_of probe_app words =
    (c.in-Ok-try_get_matches_from.ensures.matches (ap is_simple command)).0 ∙ ap (λ (a : App). matches_of a words) command in
    let passed : fault_of probe_app words ≡ [] =
    ap (λ (a : App). fault_of a words) (sym command) ∙ c.in-Ok-try_get_matches_from.ensures.kinds (ap is_simple_and_free command) in
    (passed, subst (λ (rows : List Row). IsSessionOf rows c.probe_task-task.result) held c.probe_task-task.ensures)

pub returns-in-Err-try_get_matches_from : goal.returns-in-Err-try_get_matches_from
returns-in-Err-try_get_matches_from c =
    let words : List Text = map (λ word. word.now) c.args.words.now in
    let command : app_of c.in-Ok.command ≡ probe_app = c.in-Ok.ensures in
    probe_refused words c.line_fault-fault.result c.in-Err-try_get_matches_from.error c.line_fault-fault.ensures
    (λ taken. c.in-Err-try_get_matches_from.ensures.passes (ap (λ (a : App). takes a words) command ∙ taken))
    (subst (λ (a : App). HasKind (fault_of a words) c.in-Err-try_get_matches_from.error) command
    (c.in-Err-try_get_matches_from.ensures.kinds (ap is_simple_and_free command)))
