-- Each clock is tried, up to the last one or until all ranges are known.
use Rattle.std.proofs.Common.{◌≡◌, ◌-◌, ◌≤◌, Bool, List, refl, subst, sym, arith}
use Rattle.board_plain.specs.Plain.{clock_of}
use Rattle.probe_texts.specs.declared.moments_text.Moments.{Moments}
use Rattle.probe.specs.Moments.{AreRanges}
use Rattle.probe.specs.Tried.{Tried, TriedNext}
use Rattle.probe.specs.Watched.{stops_of}
use Rattle.probe.proofs.Trying.{one_more, tried_none}
use Rattle.probe.proofs.moments.try_key.Goals as goal

pub stamps-init : goal.stamps-init
stamps-init c =
    let stops = stops_of c.args.watches.now in
    let s = c.args.board.now.plain in
    let within : clock_of s ≤ c.args.end = omega (arith, c.requires.end) in (
      subst (λ (rs : List Moments). Tried stops s c.in_ok-bare.bare.plain c.args.trial c.args.end c.args.trial.first rs c.args.watches.now)
          (sym c.new-ranges.ensures.items) (tried_none stops s c.in_ok-bare.bare.plain c.args.trial c.args.end
          c.args.watches.now c.in_ok-bare.ensures.plain c.requires.can.later within refl c.requires.within),
      c.in_ok-bare.ensures.few,
    )

pub returns-then-branch-clause-ranges : goal.returns-then-branch-clause-ranges
returns-then-branch-clause-ranges c =
    let stops = stops_of c.args.watches.now in
    let s = c.args.board.now.plain in
    subst
    (λ (known : Bool). TriedNext known stops s c.try_at.new.bare.plain c.args.trial c.args.end c.stamps.stamp c.try_at.new.ranges.items c.try_at.new.watches)
    c.if-branch.true
    (one_more stops (stops_of c.stamps.watches) s c.stamps.bare.plain c.try_at.new.bare.plain c.args.trial c.args.end c.stamps.stamp
    c.stamps.ranges.items c.try_at.new.ranges.items c.stamps.watches c.try_at.new.watches c.in_ok-try_at.field-0 c.stamps.invariant.0.stops_are
    (c.in_ok-try_at.ensures.tried s c.requires.end) c.stamps.invariant.0)

pub stamps-preserved : goal.stamps-preserved
stamps-preserved c =
    let stops = stops_of c.args.watches.now in
    let s = c.args.board.now.plain in (
      subst (λ (known : Bool).
          TriedNext known stops s c.try_at.new.bare.plain c.args.trial c.args.end c.stamps.stamp c.try_at.new.ranges.items c.try_at.new.watches)
          c.if-branch.false
          (one_more stops (stops_of c.stamps.watches) s c.stamps.bare.plain c.try_at.new.bare.plain c.args.trial c.args.end c.stamps.stamp
          c.stamps.ranges.items c.try_at.new.ranges.items c.stamps.watches c.try_at.new.watches c.in_ok-try_at.field-0 c.stamps.invariant.0.stops_are
          (c.in_ok-try_at.ensures.tried s c.requires.end) c.stamps.invariant.0),
      c.in_ok-try_at.ensures.trail,
    )

pub returns-clause-ranges : goal.returns-clause-ranges
returns-clause-ranges c =
    let last : c.stamps.stamp - 1 ≡ c.args.trial.last = omega (arith, c.stamps-test.false, c.stamps.auto.stamp-end) in
    subst (λ n. AreRanges (stops_of c.args.watches.now) c.args.board.now.plain c.args.trial c.args.trial.first n c.stamps.ranges.items)
    last c.stamps.invariant.0.are
