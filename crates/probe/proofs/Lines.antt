-- Lines of events that are heard, one after another.
use Rattle.std.proofs.Common.{◌≡◌, ℕ, ◌+◌, true, false, List, [], ◌∷◌, ◌++◌, sym, ap, ◌∙◌, append-nil}
use Rattle.std.specs.Prelude.{IfOk, OnErr, OnOk, Result, Ok, Err}
use Rattle.std.specs.List.{flat_map}
use Rattle.std.proofs.lemmas.List.Concat.{flat_map-append}
use Rattle.board_plain.specs.Plain.{Plain, after_clock, after_clocks}
use Rattle.board_types.proofs.Iterate.{gathered_add, gathered_zero}
use Rattle.events.specs.declared.event.Event.{Event}
use Rattle.events.specs.Events.{events_in, events_next}
use Rattle.probe.specs.Seen.{asked_in}
use Rattle.probe_texts.specs.declared.asked.Asked.{Asked}
use Rattle.probe_texts.specs.declared.kinds.Kind.{Kind}
use Rattle.probe_texts.specs.declared.kinds.Kind.TheVariants.{Wires}
use Rattle.probe_texts.specs.Asked.{asked_with, nothing_asked}
use Rattle.probe_texts.specs.Listed.{event_line, is_listed, listed_lines}
use Rattle.probe_texts.specs.Signals.{signal_line}
use Rattle.probe_texts.proofs.Asking.{lines_asked, listed_asked, signals_asked}
use Rattle.probe_texts.proofs.Listing.{listed_append, listed_none, not_told, told_listed}

pub line_heard : (kinds : List Kind) (e : Event) (events : List Event) (text more : List ℕ) → is_listed kinds e ≡ true
    → more ≡ text ++ event_line e → text ≡ listed_lines kinds events → more ≡ listed_lines kinds (events ++ e ∷ [])
line_heard kinds e events text more is told so_far =
    told_listed kinds e text more is told ∙ ap (λ ts. ts ++ listed_lines kinds (e ∷ [])) so_far ∙ sym (listed_append kinds events (e ∷ []))

pub line_unheard : (kinds : List Kind) (e : Event) (events : List Event) (text more : List ℕ) → is_listed kinds e ≡ false
    → more ≡ text → text ≡ listed_lines kinds events → more ≡ listed_lines kinds (events ++ e ∷ [])
line_unheard kinds e events text more is same so_far =
    not_told kinds e text more is same ∙ ap (λ ts. ts ++ listed_lines kinds (e ∷ [])) so_far ∙ sym (listed_append kinds events (e ∷ []))

pub signal_heard : (e : Event) (events : List Event) (text more : List ℕ) → more ≡ text ++ signal_line e
    → text ≡ flat_map signal_line events → more ≡ flat_map signal_line (events ++ e ∷ [])
signal_heard e events text more told so_far =
    told ∙ ap (λ ts. ts ++ signal_line e) so_far ∙ ap (λ ls. flat_map signal_line events ++ ls) (sym (append-nil (signal_line e)))
    ∙ sym (flat_map-append signal_line events (e ∷ []))

-- the events of some clocks and of more after them
events_on : (s p : Plain) (n k : ℕ) → p ≡ after_clocks s n → events_in s (n + k) ≡ events_in s n ++ events_in p k
events_on s p n k is = gathered_add after_clock events_next n k s ∙ ap (λ q. events_in s n ++ events_in q k) (sym is)

-- the lines of what is asked for in a turn are those of all that happened in it
pub lines_on : (kinds : List Kind) (s p : Plain) (n k : ℕ) (text : List ℕ) → p ≡ after_clocks s n
    → text ≡ listed_lines kinds (events_in s n ++ asked_in (asked_with nothing_asked kinds) p k) → text ≡ listed_lines kinds (events_in s (n + k))
lines_on kinds s p n k text is told =
    let a : Asked = asked_with nothing_asked kinds in
    told ∙ listed_append kinds (events_in s n) (asked_in a p k)
    ∙ ap (λ ls. listed_lines kinds (events_in s n) ++ ls) (lines_asked a kinds (listed_asked nothing_asked kinds) (events_in p k))
    ∙ sym (listed_append kinds (events_in s n) (events_in p k)) ∙ ap (listed_lines kinds) (sym (events_on s p n k is))

pub signals_on : (s p : Plain) (n k : ℕ) (text : List ℕ) → p ≡ after_clocks s n
    → text ≡ flat_map signal_line (events_in s n ++ asked_in (asked_with nothing_asked (Wires ∷ [])) p k)
    → text ≡ flat_map signal_line (events_in s (n + k))
signals_on s p n k text is told =
    told ∙ flat_map-append signal_line (events_in s n) (asked_in (asked_with nothing_asked (Wires ∷ [])) p k)
    ∙ ap (λ ls. flat_map signal_line (events_in s n) ++ ls) (signals_asked (events_in p k))
    ∙ sym (flat_map-append signal_line (events_in s n) (events_in p k)) ∙ ap (flat_map signal_line) (sym (events_on s p n k is))

pub no_lines : (kinds : List Kind) (s : Plain) → [] ≡ listed_lines kinds (events_in s 0)
no_lines kinds s = sym (ap (listed_lines kinds) (gathered_zero after_clock events_next s) ∙ listed_none kinds)

pub no_signals : (s : Plain) → [] ≡ flat_map signal_line (events_in s 0)
no_signals s = sym (ap (flat_map signal_line) (gathered_zero after_clock events_next s))

-- what may not fail has been told
pub never_fails : {E : Type 0} (r : Result Unit E) (A : Type 0) → OnErr r ⊥ → OnOk r A → A
never_fails (Ok x) A fails told = told
never_fails (Err e) A fails told = absurd fails

-- what holds of a result after what it holds of others
pub on_ok_three : {E : Type 0} {P Q R S : Type 0} (r : Result Unit E) → (P → Q → R → S) → OnOk r P → OnOk r Q → OnOk r R → OnOk r S
on_ok_three (Ok x) so p q r = so p q r
on_ok_three (Err e) so p q r = p

pub if_ok_then : {A E : Type 0} {P Q : A → Type 0} (r : Result A E) → ((a : A) → P a → Q a) → IfOk r P → IfOk r Q
if_ok_then (Ok a) so p = so a p
if_ok_then (Err e) so p = p
