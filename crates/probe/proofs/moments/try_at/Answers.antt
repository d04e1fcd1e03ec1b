-- The rest is one range, or the key is tried at this clock.
use Rattle.std.proofs.Common.{◌≡◌, ◌+◌, ◌<◌, ◌≤◌, Bool, List, true, false, ap, sym, subst, ◌∙◌, arith}
use Rattle.std.specs.Prelude.{◌||◌, is_some, nat_eq}
use Rattle.board_plain.specs.Plain.{clock_of}
use Rattle.probe_texts.specs.declared.moments_text.Moments.{Moments}
use Rattle.probe_texts.specs.declared.stops.Stop.{Stop}
use Rattle.probe.specs.Moments.{AreRanges}
use Rattle.probe.specs.Tried.{RunsTo, Tried}
use Rattle.probe.specs.Watched.{stops_of}
use Rattle.probe.proofs.Ending.{tried_clock}
use Rattle.probe.proofs.Trying.{copy_ends, on_none, rest, stands_within, tried_more, undecided}
use Rattle.probe.proofs.moments.try_at.Goals.{then-is_some-via-then-is_some, then-is_some-via-else-is_some+then-eq}
use Rattle.probe.proofs.moments.try_at.Goals as goal

pub returns-then-is_some-clause-tried : goal.returns-then-is_some-clause-tried
returns-then-is_some-clause-tried c = λ s in_time so_far.
    let stops = stops_of c.args.watches.now in
    let before = c.clock_before-before.result in
    let from : clock_of c.args.bare.now.plain ≤ before = omega (arith, c.clock_before-before.ensures, c.requires.before, c.requires.in_time) in
    let early : before < c.args.stamp = omega (arith, c.clock_before-before.ensures, c.requires.start) in
    let within : before ≤ c.args.end = omega (arith, c.clock_before-before.ensures) in
    let decided : (is_some c.in_ok-stopped.stopped || nat_eq before c.args.end) ≡ true =
    elim c.then-is_some.branch [
      | then-is_some-via-then-is_some w ↦ ap (λ (b : Bool). b || nat_eq before c.args.end) (sym c.is_some.ensures ∙ w.if-is_some.true)
      | then-is_some-via-else-is_some+then-eq w ↦
          ap (λ (b : Bool). b || nat_eq before c.args.end) (sym c.is_some.ensures ∙ w.if-is_some.false) ∙ sym w.eq.ensures ∙ w.if-eq.true
    ] in
    subst (λ (ranges : List Moments). AreRanges stops s c.args.trial c.args.trial.first c.args.trial.last ranges) (sym c.in_ok-add.ensures)
    (rest stops s c.args.bare.now.plain c.run.new.board.plain c.args.trial c.args.end before c.args.stamp c.args.ranges.now.items
    c.args.watches.now c.in_ok-stopped.stopped so_far c.requires.first c.requires.last from early within in_time decided c.in_ok-stopped.ensures.runs)

pub run-requires-2-clause-from : goal.run-requires-2-clause-from
run-requires-2-clause-from c =
    let before = c.clock_before-before.result in
    let from : clock_of c.args.bare.now.plain ≤ before = omega (arith, c.clock_before-before.ensures, c.requires.before, c.requires.in_time) in
    let within : before ≤ c.args.end = omega (arith, c.clock_before-before.ensures) in
    let there =
    stands_within (stops_of c.args.watches.now) before c.args.bare.now.plain c.run.new.board.plain c.in_ok-stopped.stopped from c.in_ok-stopped.ensures.runs in
    let same : clock_of c.in_ok-tried.tried.plain ≡ clock_of c.run.new.board.plain =
    ap clock_of c.in_ok-tried.ensures.plain ∙ tried_clock c.run.new.board.plain c.args.trial c.args.stamp in
    omega (arith, there, same, within)

pub returns-in_err-add-2-clause-keeps : goal.returns-in_err-add-2-clause-keeps
returns-in_err-add-2-clause-keeps c = record {
  stops = c.in_ok-stopped-2.ensures.keeps.stops ∙ c.in_ok-stopped.ensures.keeps.stops;
  watched = c.in_ok-stopped-2.ensures.keeps.watched;
}

pub returns-clause-tried : goal.returns-clause-tried
returns-clause-tried c = λ s in_time so_far.
    let stops = stops_of c.args.watches.now in
    let before = c.clock_before-before.result in
    let bare = c.args.bare.now.plain in
    let next = c.run.new.board.plain in
    let ranges = c.args.ranges.now.items in
    let from : clock_of bare ≤ before = omega (arith, c.clock_before-before.ensures, c.requires.before, c.requires.in_time) in
    let early : before < c.args.stamp = omega (arith, c.clock_before-before.ensures, c.requires.start) in
    let within : before ≤ c.args.end = omega (arith, c.clock_before-before.ensures) in
    let undecided_yet : (is_some c.in_ok-stopped.stopped || nat_eq before c.args.end) ≡ false =
    ap (λ (b : Bool). b || nat_eq before c.args.end) (sym c.is_some.ensures ∙ c.if-is_some.false) ∙ sym c.eq.ensures ∙ c.if-eq.false in
    let moved =
    on_none stops s bare next c.args.trial c.args.end before c.args.stamp ranges c.args.watches.now c.run.new.watches so_far from early within
    (undecided stops c.args.end before bare next c.in_ok-stopped.stopped undecided_yet c.in_ok-stopped.ensures.runs) c.in_ok-stopped.ensures.keeps in
    let ended =
    copy_ends stops next c.in_ok-tried.tried.plain c.run-2.new.board.plain c.args.trial c.args.stamp c.args.end c.in_ok-stopped-2.stopped
    c.in_ok-tried.ensures.plain
    (subst (λ (xs : List Stop). RunsTo xs c.args.end c.in_ok-tried.tried.plain c.run-2.new.board.plain c.in_ok-stopped-2.stopped)
    c.in_ok-stopped.ensures.keeps.stops c.in_ok-stopped-2.ensures.runs) in
    subst (λ (rs : List Moments). Tried stops s next c.args.trial c.args.end (c.args.stamp + 1) rs c.run-2.new.watches) (sym c.in_ok-add-2.ensures)
    (tried_more stops s next c.args.trial c.args.end c.args.stamp ranges c.run.new.watches c.run-2.new.watches
    c.in_ok-stopped-2.stopped moved c.requires.first in_time ended c.in_ok-stopped-2.ensures.keeps)
