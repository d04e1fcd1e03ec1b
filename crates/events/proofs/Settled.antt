-- What each level is once the wires have settled.
use Rattle.std.proofs.Common.{◌≡◌, Bool, true, false, refl, sym, subst}
use Rattle.std.specs.Prelude.{◌&&◌}
use Rattle.board_types.specs.Bits.{has_bit}
use Rattle.board_types.specs.LineLevel.{from_bool, is_high}
use Rattle.ppi8255.specs.Ppi.{lines_b}
use Rattle.wiring.specs.Chips.{ChipsState}
use Rattle.wiring.specs.Speaker.{is_speaker_high}
use Rattle.wiring.specs.WiringLaws.{WiresAgree}
use Rattle.wiring.proofs.Agreement.{settled_agree}
use Rattle.board_plain.specs.BoardLaws.{WiresHold}
use Rattle.board_plain.specs.Plain.{Plain, speaker_level}
use Rattle.board_plain.proofs.Requests.{request_is_taken}
use Rattle.events.specs.Events.{level_of}
use Rattle.events.specs.LevelLaws.{LevelsAreTold, with_processor}

agree : (c : ChipsState) → WiresHold c → WiresAgree c
agree c hold = subst WiresAgree hold.settled (settled_agree c hold.fixed.lines)

level_back : (b : Bool) → is_high (from_bool b) ≡ b
level_back true = refl
level_back false = refl

sounds : (s : Plain) → is_high (speaker_level s) ≡ (has_bit (lines_b s.chips.ppi) 1 && is_high s.chips.pit.counter_2.out)
unfolding speaker_level is_speaker_high
sounds s = level_back (has_bit (lines_b s.chips.ppi) 1 && is_high s.chips.pit.counter_2.out)

pub levels_are_told : LevelsAreTold
unfolding level_of
levels_are_told s hold = record {
  out_0 = sym (agree s.chips hold).ir0;
  out_2 = refl;
  ir_0 = (agree s.chips hold).ir0;
  ir_1 = (agree s.chips hold).ir1;
  int = λ cpu may. (
    (λ taken. ((request_is_taken (with_processor s cpu)).0 taken).0),
    (λ asked. (request_is_taken (with_processor s cpu)).1 (asked, may)),
  );
  speaker = sounds s;
}
