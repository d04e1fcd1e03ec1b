use Rattle.std.proofs.Common.{◌≡◌, ◌≤◌, ◌-◌, ◌++◌, take, length}
use Rattle.std.specs.String.{string_bytes}
use Rattle.std.specs.List.{flat_map}
use Rattle.debugger_meaning.specs.Dump.{spaced_byte}
use Rattle.probe_texts.proofs.chips_text.push_waiting.Given as goal

abbrev pub invariant-loop-code : goal.invariant-loop-code
invariant-loop-code l = record {
  text : string_bytes l.text ≡ string_bytes l.initial.text ++ flat_map spaced_byte (take l.index l.keyboard.waiting);
  within : l.index ≤ length l.keyboard.waiting;
  small : l.index ≤ 16;
}

abbrev pub decreases-loop-code : goal.decreases-loop-code
decreases-loop-code l = length l.keyboard.waiting - l.index
