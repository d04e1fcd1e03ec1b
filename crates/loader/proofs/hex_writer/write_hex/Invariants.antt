use Rattle.std.proofs.Common.{List, ℕ}
use Rattle.std.specs.Io.KnownBytes.{Appends}
use Rattle.board_types.specs.Image.{IsImage}
use Rattle.loader.proofs.LinesLeft.{IsLeft}
use Rattle.loader.proofs.hex_writer.write_hex.Given as goal

-- what is written and what is left to write are the whole text
abbrev pub invariant-loop-address : goal.invariant-loop-address
invariant-loop-address g l = record {
  is_image : IsImage l.image;
  text : (done : List ℕ) × Appends (g.W.Write.contents l.initial.to) (g.W.Write.contents l.to) done
      × IsLeft l.image l.address-iterator l.bank l.skip done;
}
