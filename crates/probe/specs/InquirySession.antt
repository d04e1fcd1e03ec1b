-- How a session answers inquiries, beside the debugger's commands.
-- To be believed by callers of this crate: the headline does not rest on it.
use Rattle.std.specs.Prelude.{◌≡◌, Result}
use Rattle.board_plain.specs.Plain.{byte_of}
use Rattle.debugger_meaning.specs.declared.answer.Answer.{Answer}
use Rattle.debugger_meaning.specs.declared.fault.DebugFault.{DebugFault}
use Rattle.debugger_meaning.specs.Session.{Shows}
use Rattle.debugger_meaning.specs.Stands.{SessionState}
use Rattle.probe_texts.specs.declared.inquiry.Inquiry.{Inquiry}
use Rattle.probe_texts.specs.declared.inquiry.Inquiry.TheVariants.{Chips, List as Listing, Counts}
use Rattle.probe_texts.specs.declared.inquiry.Inquiry.TheVariants.{Signals, Events, Key}
use Rattle.probe_texts.specs.ChipsText.{chips_text}
use Rattle.probe.specs.Counts.{counts_text}
use Rattle.probe_texts.specs.FormLines.{lines_text}
use Rattle.probe_texts.specs.Listed.{events_text}
use Rattle.probe.specs.Making.{AnswersMaking}
use Rattle.probe_texts.specs.Signals.{signals_text}
use Rattle.probe.specs.Typed.{AnswersKey}

-- a text is shown of the board as it stands, and nothing changes; or the board runs for some clocks, and a text of them
-- is shown; or a key is taken
abbrev pub AnswersInquiry : Inquiry → SessionState → Result Answer DebugFault → SessionState → Type 0
AnswersInquiry Chips old result new = Shows (chips_text old.board.plain) result × (new ≡ old)
AnswersInquiry (Listing lines place count) old result new =
    Shows (lines_text lines (byte_of old.board.plain) place.segment place.offset count) result × (new ≡ old)
AnswersInquiry (Counts n) old result new = AnswersMaking n (counts_text old.board.plain n) old result new
AnswersInquiry (Signals n) old result new = AnswersMaking n (signals_text old.board.plain n) old result new
AnswersInquiry (Events n kinds) old result new =
    AnswersMaking n (events_text kinds.items old.board.plain n) old result new
AnswersInquiry (Key code at) old result new = AnswersKey code at old result new
