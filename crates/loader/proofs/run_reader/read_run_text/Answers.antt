use Rattle.std.proofs.Common.{rules, ◌≡◌, Some, IsUtf8}
use Rattle.serde_json.specs.Read.{read}
use Rattle.serde_json.specs.View.{view}
use Rattle.loader.specs.RunFile.{run_of_text}
use Rattle.loader.proofs.Fields.{value_read}
use Rattle.loader.proofs.run_reader.read_run_text.Goals as goal

pub returns-in-Ok : goal.returns-in-Ok
unfolding run_of_text
returns-in-Ok c =
    let text : IsUtf8 c.args.text.now = search rules in
    let reads : read c.args.text.now ≡ Some (view c.in-Ok.value) = search rules in
    rw (value_read _ _ text reads) c.read_run.ensures
