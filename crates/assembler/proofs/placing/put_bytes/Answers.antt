use Rattle.std.proofs.Common.{◌∙◌, ℕ, List, get_or, length, sym, ap, arith}
use Rattle.assembler.specs.Placement.{bytes_from}
use Rattle.assembler.specs.SecondPass.{with_entries}
use Rattle.assembler.proofs.PlacingAddresses.{loadable_at}
use Rattle.assembler.proofs.PlacingImage.{no_byte, put_next, still_image}
use Rattle.assembler.proofs.placing.put_bytes.Goals as goal

-- each byte stands within the segment
pub address_at-requires : goal.address_at-requires
address_at-requires c = record { within = omega (arith, c.loop-byte.invariant.counted, c.loop-byte-test.true, c.requires.within) }

-- the board can be loaded at each byte's address
pub put-requires : goal.put-requires
put-requires c =
    loadable_at c.args.location (length c.args.bytes.now) c.loop-byte.at c.address_at.result c.requires.loadable
    (omega (arith, c.loop-byte.invariant.counted, c.loop-byte-test.true)) c.address_at.ensures

-- the count of the bytes is small
pub overflow_add-at : goal.overflow_add-at
overflow_add-at c = omega (arith, c.loop-byte.invariant.counted, c.loop-byte-test.true, c.requires.within)

-- one more byte is put
pub loop-byte-preserved : goal.loop-byte-preserved
loop-byte-preserved c = record {
  counted = omega (arith, c.loop-byte.invariant.counted);
  put =
      put_next c.loop-byte.image c.put.new.self (with_entries c.args.image.now (bytes_from c.args.location 0 c.args.bytes.now)) c.args.location c.args.bytes.now
      c.loop-byte.at c.loop-byte.byte-index c.address_at.result c.loop-byte-test.true c.address_at.ensures c.in_ok-put.ensures.ok c.loop-byte.invariant.put;
  is_image = rw c.in_ok-put.ensures.ok
      (still_image c.loop-byte.image c.address_at.result (get_or c.args.bytes.now c.loop-byte.byte-index 0) c.loop-byte.invariant.is_image
      (loadable_at c.args.location (length c.args.bytes.now) c.loop-byte.at c.address_at.result c.requires.loadable
      (omega (arith, c.loop-byte.invariant.counted, c.loop-byte-test.true)) c.address_at.ensures)
      (omega (arith, c.type_inv.bytes c.loop-byte.byte-index)));
}

-- all bytes are put
pub returns-clause-image : goal.returns-clause-image
returns-clause-image c =
    sym (ap (λ (bs : List ℕ). with_entries c.loop-byte.image (bytes_from c.args.location c.loop-byte.at bs))
    (no_byte c.args.bytes.now c.loop-byte.byte-index c.loop-byte-test.false))
    ∙ c.loop-byte.invariant.put
