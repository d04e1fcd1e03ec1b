-- A controller as plain numbers, for callers that know no enums: what each number stands for. All numbers stand for
-- something, so any bytes are some controller.
-- To be believed by callers of this crate: the headline does not rest on it.
use Rattle.std.specs.Prelude.{ℕ, ◌%◌, ◌==◌, Bool, true, false, if◌then◌else◌, nat_lt}
use Rattle.pic8259.specs.declared.controller.Expected.{Expected}
use Rattle.pic8259.specs.declared.controller.Expected.TheVariants.{Icw2, Icw3, Icw4, Operation}
use Rattle.pic8259.specs.declared.image.PicImage.{PicImage}
use Rattle.pic8259.specs.Levels.{levels_of, order_with_lowest}
use Rattle.pic8259.specs.Pic.{PicState}

-- false for 0, and true for any other number
abbrev pub flag_of : ℕ → Bool
flag_of n = if n == 0 then false else true

-- the word that is waited for, by its number from 2 to 4; any other number stands for none
abbrev pub expected_of : ℕ → Expected
expected_of n = if n == 2 then Icw2 else (if n == 3 then Icw3 else (if n == 4 then Icw4 else Operation))

-- the base of the vectors by a number, at most 248, since the last vector is then 255
abbrev pub base_of : ℕ → ℕ
base_of n = if nat_lt 248 n then 248 else n

-- the controller of an image: its lowest level counts modulo 8, and its sets are spelled as their registers show them
unfoldable pub pic_of : PicImage → PicState
pic_of i = record {
  order = order_with_lowest (i.lowest % 8);
  high = levels_of i.high;
  risen = levels_of i.risen;
  masked = levels_of i.masked;
  served = levels_of i.served;
  expected = expected_of i.expected;
  is_cascaded = flag_of i.is_cascaded;
  asks_icw4 = flag_of i.asks_icw4;
  is_level_triggered = flag_of i.is_level_triggered;
  vector_base = base_of i.vector_base;
  slaves = i.slaves;
  is_8086 = flag_of i.is_8086;
  auto_end = flag_of i.auto_end;
  is_specially_nested = flag_of i.is_specially_nested;
  rotates = flag_of i.rotates;
  special_mask = flag_of i.special_mask;
  polled = flag_of i.polled;
  reads_served = flag_of i.reads_served;
}
