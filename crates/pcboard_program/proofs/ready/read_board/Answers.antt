use Rattle.std.proofs.Common.{subst}
use Rattle.pcboard_texts.specs.Answer.{IsBoardOf, IsTrueRefusal}
use Rattle.pcboard_texts.proofs.Refusals.{passed_on}
use Rattle.pcboard_program.proofs.ready.read_board.Goals as goal

pub returns-clause-board : goal.returns-clause-board
returns-clause-board g c =
    let is_board : IsBoardOf c.args.hex c.in_ok-bytes.bytes.items c.in_ok-bytes.said.items c.in_ok-board_of.field-0 =
    rw (← c.as_slice.ensures.value, ← c.as_slice-2.ensures.value) c.in_ok-board_of.ensures.board in
    (c.in_ok-bytes.bytes.items, (c.in_ok-bytes.said.items, c.in_ok-bytes.ensures.bytes, is_board))

pub returns-in_err-board_of-clause-end : goal.returns-in_err-board_of-clause-end
returns-in_err-board_of-clause-end g c =
    let seen = subst (λ bytes. IsTrueRefusal c.args.hex bytes c.as_slice-2.result.now c.in_err-board_of.field-0.0)
    c.as_slice.ensures.value c.in_err-board_of.ensures.fault in
    let true_of = subst (λ run. IsTrueRefusal c.args.hex c.in_ok-bytes.bytes.items run c.in_err-board_of.field-0.0) c.as_slice-2.ensures.value seen in
    passed_on c.from_residual-in_err-board_of.result c.in_err-board_of.field-0.0 _ _ c.from_residual-in_err-board_of.ensures.1
    (c.in_ok-bytes.bytes.items, (c.in_ok-bytes.said.items, c.in_ok-bytes.ensures.bytes, true_of))
