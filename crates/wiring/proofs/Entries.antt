-- An interrupt that is taken leaves what the speaker's next level depends on.
use Rattle.std.proofs.Common.{refl}
use Rattle.wiring.specs.Chips.{ChipsState}
use Rattle.wiring.specs.Wires.{after_acknowledge}
use Rattle.wiring.specs.WiringLaws.{SoundsAlike, NoEntryTouches}
use Rattle.wiring.proofs.Alike.{depends_on_writes}

alike_after_acknowledge : (s : ChipsState) → SoundsAlike (after_acknowledge s) s
unfolding after_acknowledge
alike_after_acknowledge s = record { clock = refl; ppi = refl; counter_2 = refl }

pub no_entry_touches : NoEntryTouches
no_entry_touches s writes = depends_on_writes (after_acknowledge s) s writes (alike_after_acknowledge s)
