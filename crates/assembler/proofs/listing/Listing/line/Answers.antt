use Rattle.std.proofs.Common.{◌≡◌, ◌∙◌, ◌≤◌, ◌<◌, ◌+◌, ℕ, sym, ap, subst, List, [], length, get_or, None, Some}
use Rattle.std.specs.Prelude.{slice_get}
use Rattle.std.specs.Str.{IsAscii}
use Rattle.std.specs.String.{string_bytes}
use Rattle.std.proofs.lemmas.Option.{slice_get-get_or, slice_get_past}
use Rattle.board_types.specs.TextLines.{text_lines}
use Rattle.assembler.specs.declared.kept_line.KeptLine.{KeptLine}
use Rattle.assembler.specs.Listing.{ListingState, line_at}
use Rattle.assembler.specs.LocatedLines.{AreLocatedLines, LocatedLine}
use Rattle.assembler.specs.Shown.{said_by, shown_line}
use Rattle.assembler.proofs.ListingLines.{own_inside, own_ascii, own_ends, own_line, no_own_line}
use Rattle.assembler.proofs.listing.Listing.line.Goals as goal

found_is : (xs ys : List KeptLine) (i : ℕ) (x : KeptLine) → ys ≡ xs → i < length ys → x ≡ get_or ys i x → slice_get xs i ≡ Some x
found_is xs ys i x same within is =
    ap (λ (zs : List KeptLine). slice_get zs i) (sym same) ∙ (slice_get-get_or ys i x within ∙ ap (λ (y : KeptLine). Some y) (sym is))

kept_is : (c : goal.After-as_slice-2) → slice_get c.self.inside.reading.located_lines.items c.args.i ≡ Some c.in-Some.located.now
kept_is c =
    found_is c.self.inside.reading.located_lines.items c.as_slice.result.now c.args.i c.in-Some.located.now c.as_slice.ensures.value
    c.in-Some.ensures.lookup.3.0 c.in-Some.ensures.lookup.1

pub returns-in_default-clause-line : goal.returns-in_default-clause-line
returns-in_default-clause-line c =
    let past : slice_get c.self.inside.reading.located_lines.items c.args.i ≡ None =
    ap (λ (zs : List KeptLine). slice_get zs c.args.i) (sym c.as_slice.ensures.value)
    ∙ slice_get_past c.as_slice.result.now c.args.i c.in_default.ensures.lookup.3 in
    subst (λ (l : ListingState). (located_lines : List LocatedLine) → AreLocatedLines [] (text_lines l.source) located_lines
    → None ≡ line_at l.names (text_lines l.source) located_lines c.args.i)
    c.self.view_is
    (no_own_line c.self.inside.reading.source.items c.self.inside.reading.symbols.entries c.self.inside.reading.located_lines.items c.self.inside.image
    c.self.invariant.0 c.self.invariant.1 c.args.i past)

pub line_text-requires-clause-inside : goal.line_text-requires-clause-inside
line_text-requires-clause-inside c =
    subst (λ (s : List ℕ). c.in-Some.located.now.start + c.in-Some.located.now.length ≤ length s) (sym c.as_slice-2.ensures.value)
    (own_inside c.self.inside.reading.source.items c.self.inside.reading.symbols.entries c.self.inside.reading.located_lines.items c.self.inside.image
    c.self.invariant.0 c.self.invariant.1 c.args.i c.in-Some.located.now (kept_is c))

pub line_text-requires-clause-ascii : goal.line_text-requires-clause-ascii
line_text-requires-clause-ascii c =
    subst (λ (s : List ℕ). IsAscii (said_by s c.in-Some.located.now)) (sym c.as_slice-2.ensures.value)
    (own_ascii c.self.inside.reading.source.items c.self.inside.reading.symbols.entries c.self.inside.reading.located_lines.items c.self.inside.image
    c.self.invariant.0 c.self.invariant.1 c.args.i c.in-Some.located.now (kept_is c))

pub line_text-requires-clause-ends : goal.line_text-requires-clause-ends
line_text-requires-clause-ends c =
    own_ends c.self.inside.reading.source.items c.self.inside.reading.symbols.entries c.self.inside.reading.located_lines.items c.self.inside.image
    c.self.invariant.0 c.self.invariant.1 c.args.i c.in-Some.located.now (kept_is c)

pub returns-clause-line : goal.returns-clause-line
returns-clause-line c =
    let kept : slice_get c.self.inside.reading.located_lines.items c.args.i ≡ Some c.in-Some.located.now =
    found_is c.self.inside.reading.located_lines.items c.as_slice.result.now c.args.i c.in-Some.located.now c.as_slice.ensures.value
    c.in-Some.ensures.lookup.3.0 c.in-Some.ensures.lookup.1 in
    let shown = c.in_ok-text.ensures ∙ ap (λ (s : List ℕ). shown_line s c.self.inside.image c.in-Some.located.now) c.as_slice-2.ensures.value in
    subst (λ (l : ListingState). (located_lines : List LocatedLine) → AreLocatedLines [] (text_lines l.source) located_lines
    → Some (string_bytes c.in_ok-text.text) ≡ line_at l.names (text_lines l.source) located_lines c.args.i)
    c.self.view_is
    (λ located_lines are. ap (λ (s : List ℕ). Some s) shown
    ∙ own_line c.self.inside.reading.source.items c.self.inside.reading.symbols.entries c.self.inside.reading.located_lines.items c.self.inside.image
    c.self.invariant.0 c.self.invariant.1 c.args.i c.in-Some.located.now kept located_lines are)
