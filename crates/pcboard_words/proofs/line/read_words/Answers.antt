use Rattle.std.proofs.Common.{ap, subst, sym, ◌≡◌, ◌∙◌, map, List, Option, []}
use Rattle.clap.specs.Words.{App, Row, Text, app_of, HasKind, fault_of, is_simple, is_simple_and_free, subcommand_of, subcommand_rows_of, takes}
use Rattle.pcboard_words.specs.CommandLine.{app, Answers, IsTaskOf}
use Rattle.pcboard_words.proofs.Matches.{refused, tasks_alone}
use Rattle.pcboard_words.proofs.line.read_words.Goals as goal

pub task-task-requires : goal.task-task-requires
task-task-requires c =
    let words : List Text = map (λ word. word.now) c.args.words.now in
    let command : app_of c.in-Ok.command ≡ app = c.in-Ok.ensures in
    let held : subcommand_rows_of c.in-Ok-try_get_matches_from.matches ≡ subcommand_of app words =
    (c.in-Ok-try_get_matches_from.ensures.matches (ap is_simple command)).1 ∙ ap (λ (a : App). subcommand_of a words) command in
    let passed : fault_of app words ≡ [] =
    ap (λ (a : App). fault_of a words) (sym command) ∙ c.in-Ok-try_get_matches_from.ensures.kinds (ap is_simple_and_free command) in
    rw held (tasks_alone words passed)

pub returns-in-Ok-try_get_matches_from : goal.returns-in-Ok-try_get_matches_from
unfolding Answers
returns-in-Ok-try_get_matches_from c =
    let words : List Text = map (λ word. word.now) c.args.words.now in
    let command : app_of c.in-Ok.command ≡ app = c.in-Ok.ensures in
    let held : subcommand_rows_of c.in-Ok-try_get_matches_from.matches ≡ subcommand_of app words =
    (c.in-Ok-try_get_matches_from.ensures.matches (ap is_simple command)).1 ∙ ap (λ (a : App). subcommand_of a words) command in
    let passed : fault_of app words ≡ [] =
    ap (λ (a : App). fault_of a words) (sym command) ∙ c.in-Ok-try_get_matches_from.ensures.kinds (ap is_simple_and_free command) in
    (passed, subst (λ (rows : Option (Text × List Row)). IsTaskOf rows c.task-task.result) held c.task-task.ensures)

pub returns-in-Err-try_get_matches_from : goal.returns-in-Err-try_get_matches_from
returns-in-Err-try_get_matches_from c =
    let words : List Text = map (λ word. word.now) c.args.words.now in
    let command : app_of c.in-Ok.command ≡ app = c.in-Ok.ensures in
    refused words c.line_fault-fault.result c.in-Err-try_get_matches_from.error c.line_fault-fault.ensures
    (λ taken. c.in-Err-try_get_matches_from.ensures.passes (ap (λ (a : App). takes a words) command ∙ taken))
    (subst (λ (a : App). HasKind (fault_of a words) c.in-Err-try_get_matches_from.error) command
    (c.in-Err-try_get_matches_from.ensures.kinds (ap is_simple_and_free command)))
