use Rattle.std.proofs.Common.{ap, codes, ◌≡◌, ◌∙◌}
use Rattle.std.proofs.lemmas.Result.{IfOk-weaker}
use Rattle.clap.specs.Words.{App, app_of, new_app, with_subcommand}
use Rattle.pcboard_words.specs.CommandLine.{asm_command, board_command, with_words_alone}
use Rattle.pcboard_words.proofs.line.command.Goals as goal

pub returns : goal.returns
returns c =
    let top : app_of c.disable_help_subcommand-command.result ≡ with_words_alone (new_app (codes "pcboard")) =
    rw (c.disable_help_subcommand-command.ensures, c.no_binary_name.ensures, c.in_ok-bin_name.ensures.0, c.about.ensures)
    (ap with_words_alone c.new.ensures.app) in
    let with_asm = c.in_ok-command.ensures ∙ ap (λ (a : App). with_subcommand a asm_command.top) top in
    let with_run = c.in_ok-command-2.ensures ∙ ap (λ (a : App). with_subcommand a (board_command (codes "run")).top) with_asm in
    IfOk-weaker c.with_board-2.result _ _
    (λ r added. added ∙ ap (λ (a : App). with_subcommand a (board_command (codes "debug")).top) with_run)
    c.with_board-2.ensures
