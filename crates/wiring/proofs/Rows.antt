-- The definitions on worked values: what answers at a port, and at those beside it (IBM PC Technical Reference, "I/O
-- Address Map").
use Rattle.std.proofs.Common.{◌≡◌, true, false, [], ◌∷◌, map, refl}
use Rattle.wiring.specs.declared.port.Port.TheVariants.{Controller, Timer, Parallel, Adapter, Nothing}
use Rattle.wiring.specs.Ports.{port_at}

controller : map port_at (0x1F ∷ 0x20 ∷ 0x21 ∷ 0x22 ∷ []) ≡ Nothing ∷ Controller false ∷ Controller true ∷ Nothing ∷ []
unfolding port_at
controller = refl

timer : map port_at (0x3F ∷ 0x40 ∷ 0x41 ∷ 0x42 ∷ 0x43 ∷ 0x44 ∷ []) ≡ Nothing ∷ Timer 0 ∷ Timer 1 ∷ Timer 2 ∷ Timer 3 ∷ Nothing ∷ []
unfolding port_at
timer = refl

parallel_port : map port_at (0x5F ∷ 0x60 ∷ 0x61 ∷ 0x62 ∷ 0x63 ∷ 0x64 ∷ [])
    ≡ Nothing ∷ Parallel 0 ∷ Parallel 1 ∷ Parallel 2 ∷ Parallel 3 ∷ Nothing ∷ []
unfolding port_at
parallel_port = refl

-- the CRT controller's index and data, the control port and the status port
adapter : map port_at (0x3B4 ∷ 0x3B5 ∷ 0x3B8 ∷ 0x3BA ∷ []) ≡ Adapter 0x3B4 ∷ Adapter 0x3B5 ∷ Adapter 0x3B8 ∷ Adapter 0x3BA ∷ []
unfolding port_at
adapter = refl

beside_the_adapter : map port_at (0x3B3 ∷ 0x3B6 ∷ 0x3B7 ∷ 0x3B9 ∷ 0x3BB ∷ []) ≡ Nothing ∷ Nothing ∷ Nothing ∷ Nothing ∷ Nothing ∷ []
unfolding port_at
beside_the_adapter = refl

-- all sixteen address lines count, though the chips of the board decode ten
not_mirrored : map port_at (0x420 ∷ 0x440 ∷ 0x460 ∷ 0x7B4 ∷ 0xFFFF ∷ []) ≡ Nothing ∷ Nothing ∷ Nothing ∷ Nothing ∷ Nothing ∷ []
unfolding port_at
not_mirrored = refl
