-- What the events of a turn, told one after another, meet among some stops.
use Rattle.std.proofs.Common.{◌≡◌, Bool, true, false, List, [], ◌∷◌, ◌++◌, get_or, None, refl, sym, ap, ◌∙◌}
use Rattle.std.specs.Prelude.{◌||◌}
use Rattle.std.specs.List.{list_any, position_from}
use Rattle.board_plain.specs.Plain.{Plain}
use Rattle.events.specs.declared.access.Access.{Access}
use Rattle.events.specs.declared.event.Event.{Event}
use Rattle.probe.specs.declared.bytes.Copied.{Copied}
use Rattle.probe.specs.declared.watched.Watched.{Watched}
use Rattle.probe.specs.Met.{earlier, heard, hears, is_stop_met, is_there, met, met_here, waiting_for, waits_for}
use Rattle.probe_texts.specs.declared.stops.Stop.{Stop}
use Rattle.probe_texts.specs.declared.stops.Stop.TheVariants.{Standing, When, Changes}
use Rattle.probe_texts.specs.Listed.{is_listed}
use Rattle.probe.proofs.Places.{either_first, none_before}

or_none : (a : Bool) → a ≡ (a || false)
or_none true = refl
or_none false = refl

or_then : (a b c : Bool) → (a || (b || c)) ≡ ((a || b) || c)
or_then true b c = refl
or_then false b c = refl

any_more : (f : Event → Bool) (events : List Event) (e : Event) → list_any f (events ++ e ∷ []) ≡ (list_any f events || f e)
any_more f [] e = sym (or_none (f e))
any_more f (x ∷ xs) e = ap (λ b. f x || b) (any_more f xs e) ∙ or_then (f x) (list_any f xs) (f e)

hears_more : (events : List Event) (e : Event) (stop : Stop) → hears (events ++ e ∷ []) stop ≡ (hears events stop || waits_for e stop)
hears_more events e (Standing condition) = refl
hears_more events e (When kinds) = any_more (is_listed kinds.items) events e
hears_more events e (Changes address count) = refl

met_or : (stop : Stop) (copied : Copied) (events : List Event) (accesses : List Access) (t : Plain)
    → is_stop_met stop copied events accesses t ≡ (hears events stop || is_there stop copied accesses t)
met_or (Standing condition) copied events accesses t = refl
met_or (When kinds) copied events accesses t = or_none (list_any (is_listed kinds.items) events)
met_or (Changes address count) copied events accesses t = refl

hears_none : (stop : Stop) → hears [] stop ≡ false
hears_none (Standing condition) = refl
hears_none (When kinds) = refl
hears_none (Changes address count) = refl

pub none_heard : (watches : List Watched) → None ≡ heard watches []
unfolding heard
none_heard watches = sym (none_before (λ (w : Watched). hears [] w.stop) 1 watches (λ k d below. hears_none (get_or watches k d).stop))

pub one_heard : (watches : List Watched) (events : List Event) (e : Event)
    → heard watches (events ++ e ∷ []) ≡ earlier (heard watches events) (waiting_for e watches)
unfolding heard waiting_for
one_heard watches events e =
    (λ i. position_from (λ (w : Watched). hears_more events e w.stop i) 1 watches)
    ∙ either_first (λ (w : Watched). hears events w.stop) (λ (w : Watched). waits_for e w.stop) 1 watches

pub all_met : (watches : List Watched) (events : List Event) (accesses : List Access) (t : Plain)
    → met watches events accesses t ≡ earlier (heard watches events) (met_here watches accesses t)
unfolding met heard met_here
all_met watches events accesses t =
    (λ i. position_from (λ (w : Watched). met_or w.stop w.copied events accesses t i) 1 watches)
    ∙ either_first (λ (w : Watched). hears events w.stop) (λ (w : Watched). is_there w.stop w.copied accesses t) 1 watches
