-- What stands at CS:IP, by its slot.
use Rattle.std.proofs.Common.{◌≡◌}
use Rattle.decode.specs.Decoding.{size_of}
use Rattle.decode.specs.DecodedSlots.{IsSlotAt}
use Rattle.decode.specs.declared.decoding.Decoding.{Decoding}
use Rattle.decode.specs.declared.decoding.Decoding.TheVariants.{Found, NoRow}
use Rattle.digest.specs.declared.slot.Slot.{Slot}

pub length_at : (slot : Slot) (d : Decoding) → IsSlotAt slot d → slot.length ≡ size_of d
length_at slot (Found i size) of = of.length
length_at slot NoRow of = of.length
