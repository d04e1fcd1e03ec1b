use Rattle.std.proofs.Common.{◌≡◌, ◌∙◌, sym, ap, Some}
use Rattle.std.specs.Option.{option_map}
use Rattle.std.specs.Box.{box_value}
use Rattle.assembler.specs.declared.kept_line.Content.{Content}
use Rattle.assembler.specs.KeptLines.{content_in}
use Rattle.assembler.specs.SecondPass.{CanStand, HasSizeAt, has_byte}
use Rattle.assembler.proofs.PlacingLines.{bytes_loadable, bytes_within, content_free, kept_size, kept_stands}
use Rattle.assembler.proofs.placing.put_line.Goals as goal
use Rattle.assembler.proofs.placing.put_line.Goals.{After-deref, After-as_slice}

content_is : (c : After-deref) → content_in c.args.located.now ≡ Some c.deref.result.now
content_is c = ap (option_map box_value) c.in-Some-content.is ∙ ap (λ (x : Content). Some x) (sym c.deref.ensures)

stands : (c : After-deref)
    → CanStand c.args.symbols.now.entries (has_byte c.args.image.now) c.args.located.now.has_label
    c.in-Some.location c.args.located.now.size (Some c.deref.result.now)
stands c =
    kept_stands c.args.symbols.now.entries (has_byte c.args.image.now) c.args.located.now c.in-Some.location
    (Some c.deref.result.now) c.in-Some.is (content_is c) c.requires.free

has_size : (c : After-deref) → HasSizeAt c.args.symbols.now.entries c.in-Some.location c.args.located.now.size (Some c.deref.result.now)
has_size c = kept_size c.args.symbols.now.entries c.args.located.now c.in-Some.location (Some c.deref.result.now) c.in-Some.is (content_is c) c.requires.size

-- what the row places has no fault
pub content_bytes-requires-clause-free : goal.content_bytes-requires-clause-free
content_bytes-requires-clause-free c =
    content_free c.args.symbols.now.entries (has_byte c.args.image.now) c.args.located.now.has_label
    c.in-Some.location c.args.located.now.size (Some c.deref.result.now) (stands c)

-- the row's bytes are within the segment
pub put_bytes-requires-clause-within : goal.put_bytes-requires-clause-within
put_bytes-requires-clause-within c =
    let from = (goal.at.put_bytes-requires-clause-within c).After-deref in
    bytes_within c.args.symbols.now.entries (has_byte c.args.image.now) c.args.located.now.has_label c.in-Some.location c.args.located.now.size
    (Some c.deref.result.now) c.as_slice.result.now (stands from) (has_size from) (c.as_slice.ensures.value ∙ c.in_ok-bytes.ensures)

-- the board can be loaded at the addresses of the row's bytes
pub put_bytes-requires-clause-loadable : goal.put_bytes-requires-clause-loadable
put_bytes-requires-clause-loadable c =
    let from = (goal.at.put_bytes-requires-clause-loadable c).After-deref in
    bytes_loadable c.args.symbols.now.entries (has_byte c.args.image.now) c.args.located.now.has_label c.in-Some.location c.args.located.now.size
    (Some c.deref.result.now) c.as_slice.result.now (stands from) (has_size from) (c.as_slice.ensures.value ∙ c.in_ok-bytes.ensures)
