-- What a caller's handle owns: the session, in a block of its own.
-- To be believed by callers of this crate: the headline does not rest on it.
use Rattle.std.specs.Prelude.{Option, None, Some}
use base.Fml.{Fml, ftrue}
use denote.RawPtr.{Ptr}
use Rattle.std.specs.Box.Ownership.{box_owns}
use Rattle.std.specs.contracts.impls.GlobalAllocator.TheImpl.{ghosts}
use Rattle.std.specs.declared.alloc.Global.{Global}
use Rattle.zebludor_program.specs.contracts.session.OpenSession.{the_row}
use Rattle.zebludor_program.specs.declared.session.OpenSession.{OpenSession}

-- the system's allocator, which is one
abbrev pub global : Global
global = record { memory = record { seal = tt } }

abbrev pub owns_session : Option OpenSession → Ptr → Fml
owns_session None at = ftrue
owns_session (Some session) at = box_owns (ghosts.dealloc_token global) the_row at session
