-- The accesses that are noted of a step are those that it makes.
use Rattle.std.proofs.Common.{◌≡◌, true, List, [], ◌∷◌, ◌++◌, refl, sym, ap, ◌∙◌, subst}
use Rattle.std.specs.Prelude.{fold}
use Rattle.bus.specs.Bus.{BusMeaning}
use Rattle.execute_machine.proofs.Related.{Alike}
use Rattle.execute_transfer.proofs.Related.{PortsAlike}
use Rattle.execute_meaning.proofs.Related.{SameStep, same_by_again, same_by_enter, same_by_step}
use Rattle.execute_meaning.specs.Meaning.{StepResult}
use Rattle.events.specs.declared.access.Access.{Access}
use Rattle.events.specs.declared.access.Access.TheVariants.{Write, In, Out}
use Rattle.events.specs.Noting.{Noted, after_access, noting, unnoted, with_access}
use Rattle.events.specs.EventLaws.{AreOwn, IsNoted, IsOwn, MakesAccesses}

made_more : {S : Type 0} (bus : BusMeaning S) (s : S) (xs : List Access) (a : Access)
    → fold (after_access bus) s (xs ++ a ∷ []) ≡ after_access bus (fold (after_access bus) s xs) a
made_more bus s [] a = refl
made_more bus s (x ∷ xs) a = made_more bus (after_access bus s x) xs a

own_more : {S : Type 0} (bus : BusMeaning S) (s : S) (xs : List Access) (a : Access)
    → AreOwn bus s xs → IsOwn bus (fold (after_access bus) s xs) a → AreOwn bus s (xs ++ a ∷ [])
own_more bus s [] a own is = (is, tt)
own_more bus s (x ∷ xs) a own is = (own.0, own_more bus (after_access bus s x) xs a own.1 is)

-- the bus reached, and the bus that notes what was done since a state
pub record Notes {S : Type 0} (bus : BusMeaning S) (start : S) (s : S) (n : Noted S) : Type 0 where
  pub reached : n.reached ≡ s
  pub made : s ≡ fold (after_access bus) start n.accesses
  pub own : AreOwn bus start n.accesses

pub notes_more : {S : Type 0} (bus : BusMeaning S) (start s : S) (n : Noted S) (a : Access) → Notes bus start s n → IsOwn bus s a
    → Notes bus start (after_access bus s a) (with_access n (after_access bus n.reached a) a)
notes_more bus start s n a notes is = record {
  reached = ap (λ t. after_access bus t a) notes.reached;
  made = ap (λ t. after_access bus t a) notes.made ∙ sym (made_more bus start n.accesses a);
  own = own_more bus start n.accesses a notes.own (subst (λ t. IsOwn bus t a) notes.made is);
}

pub notes_alike : {S : Type 0} (bus : BusMeaning S) (start : S) → Alike bus (noting bus) (Notes bus start)
notes_alike bus start = record {
  byte = λ s n address notes. ap (λ t. bus.byte_at t address) notes.reached;
  write = λ s n address byte notes. notes_more bus start s n (Write address byte) notes tt;
}

pub notes_ports : {S : Type 0} (bus : BusMeaning S) (start : S) → PortsAlike bus (noting bus) (λ port. true) (λ port. true) (Notes bus start)
notes_ports bus start = record {
  input = λ s n port any notes. ap (λ t. bus.input t port) notes.reached;
  read = λ s n port any notes. notes_more bus start s n (In port (bus.input n.reached port)) notes (ap (λ t. bus.input t port) notes.reached);
  write = λ s n port byte any notes. notes_more bus start s n (Out port byte) notes tt;
}

notes_none : {S : Type 0} (bus : BusMeaning S) (s : S) → Notes bus s s (unnoted s)
notes_none bus s = record { reached = refl; made = refl; own = tt }

is_noted : {S : Type 0} (bus : BusMeaning S) (s : S) (done : StepResult S) (noted : StepResult (Noted S))
    → SameStep (Notes bus s) done noted → IsNoted bus s done noted
is_noted bus s done noted same = record { cpu = same.cpu; clocks = same.clocks; reached = same.bus.reached; made = same.bus.made; own = same.bus.own }

pub makes_accesses : {S : Type 0} (bus : BusMeaning S) → MakesAccesses bus
makes_accesses bus = record {
  step = λ table p s decoded.
      is_noted bus s _ _ (same_by_step bus (noting bus) table (λ port. true) (λ port. true) (Notes bus s) (notes_alike bus s)
      (notes_ports bus s) p s (unnoted s) decoded (λ k d within. refl) (λ k d within. refl) (notes_none bus s));
  again = λ p s. is_noted bus s _ _ (same_by_again bus (noting bus) (Notes bus s) (notes_alike bus s) p s (unnoted s) (notes_none bus s));
  enter = λ table p s kind cause.
      is_noted bus s _ _ (same_by_enter bus (noting bus) table (Notes bus s) (notes_alike bus s) p s (unnoted s) kind cause (notes_none bus s));
}
