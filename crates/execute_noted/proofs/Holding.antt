-- A bus that notes six accesses notes all of a step, an iteration or an entry, since they make no more.
use Rattle.std.proofs.Common.{◌≡◌, ℕ, ◌+◌, ◌≤◌, Bool, true, false, if◌then◌else◌, List, [], ◌∷◌, ◌++◌, length, refl, sym, ap, ◌∙◌, subst, arith}
use Rattle.std.specs.Prelude.{nat_le}
use Rattle.std.proofs.lemmas.Bool.Decides.{nat_tests}
use Rattle.bus.specs.Bus.{BusMeaning}
use Rattle.board_types.specs.declared.choice.ClockTable.{ClockTable}
use Rattle.decode.specs.declared.decoding.Decoding.{Decoding as Decoded}
use Rattle.execute_machine.proofs.Related.{Alike}
use Rattle.execute_transfer.proofs.Related.{PortsAlike}
use Rattle.execute_meaning.specs.declared.boundary.Cause.{Cause}
use Rattle.execute_meaning.specs.Boundaries.{after_enter}
use Rattle.execute_meaning.specs.Cpu.{CpuState}
use Rattle.execute_meaning.specs.Meaning.{StepResult, after_again, after_step, step_result}
use Rattle.execute_meaning.proofs.Related.{SameStep, same_by_again, same_by_enter, same_by_step}
use Rattle.events.specs.declared.access.Access.{Access}
use Rattle.events.specs.declared.access.Access.TheVariants.{Write, In, Out}
use Rattle.events.specs.Noting.{Noted, noting, unnoted, with_access}
use Rattle.events.specs.EventLaws.{IsNoted}
use Rattle.events.proofs.Few.{makes_few}
use Rattle.events.proofs.Noted.{makes_accesses}
use Rattle.execute_noted.specs.Held.{Held, held_after, holding, is_full}

-- the reference stays, and the accesses are noted while there are at most six
record Keeps {S : Type 0} (name : ℕ) (n : Noted S) (h : Held S) : Type 0 where
  same : h.name ≡ name
  reached : h.reached ≡ n.reached
  few : length n.accesses ≤ 6 → h.accesses ≡ n.accesses

one_longer : (xs : List Access) (a : Access) → length (xs ++ a ∷ []) ≡ length xs + 1
one_longer [] a = omega arith
one_longer (x ∷ xs) a = let rest = one_longer xs a in omega (arith, rest)

has_room : (xs : List Access) → length xs + 1 ≤ 6 → is_full xs ≡ false
has_room xs few = grind (arith, nat_tests, few)

kept_more : (xs ys : List Access) (a b : Access) → (length ys ≤ 6 → xs ≡ ys) → b ≡ a → length (ys ++ a ∷ []) ≤ 6
    → (if is_full xs then xs else xs ++ b ∷ []) ≡ ys ++ a ∷ []
kept_more xs ys a b few equal more =
    let longer = one_longer ys a in
    let same : xs ≡ ys = few (omega (arith, longer, more)) in
    ap (λ zs. if is_full zs then zs else zs ++ b ∷ []) same
    ∙ ap (λ full. if full then ys else ys ++ b ∷ []) (has_room ys (omega (arith, longer, more)))
    ∙ ap (λ c. ys ++ c ∷ []) equal

keeps_more : {S : Type 0} (name : ℕ) (n : Noted S) (h : Held S) (s t : S) (a b : Access)
    → Keeps name n h → t ≡ s → b ≡ a → Keeps name (with_access n s a) (held_after h t b)
keeps_more name n h s t a b keeps reached equal = record {
  same = keeps.same;
  reached = reached;
  few = λ more. kept_more h.accesses n.accesses a b keeps.few equal more;
}

keeps_alike : {S : Type 0} (bus : BusMeaning S) (name : ℕ) → Alike (noting bus) (holding bus) (Keeps name)
keeps_alike bus name = record {
  byte = λ n h address keeps. ap (λ s. bus.byte_at s address) keeps.reached;
  write = λ n h address byte keeps.
      keeps_more name n h _ _ (Write address byte) (Write address byte) keeps (ap (λ s. bus.after_write s address byte) keeps.reached) refl;
}

keeps_ports : {S : Type 0} (bus : BusMeaning S) (name : ℕ) → PortsAlike (noting bus) (holding bus) (λ port. true) (λ port. true) (Keeps name)
keeps_ports bus name = record {
  input = λ n h port any keeps. ap (λ s. bus.input s port) keeps.reached;
  read = λ n h port any keeps.
      keeps_more name n h _ _ _ _ keeps (ap (λ s. bus.after_input s port) keeps.reached) (ap (λ s. In port (bus.input s port)) keeps.reached);
  write = λ n h port byte any keeps. keeps_more name n h _ _ (Out port byte) (Out port byte) keeps (ap (λ s. bus.after_output s port byte) keeps.reached) refl;
}

-- nothing is noted yet
abbrev pub unheld : {S : Type 0} → ℕ → S → Held S
unheld name s = record { name = name; reached = s; accesses = [] }

keeps_none : {S : Type 0} (name : ℕ) (s : S) → Keeps name (unnoted s) (unheld name s)
keeps_none name s = record { same = refl; reached = refl; few = λ more. refl }

-- what is done over a bus that notes is what is done over the bus within; the reference stays, and all accesses are
-- noted
pub record IsKept {S : Type 0} (name : ℕ) (plain : StepResult S) (noted : StepResult (Noted S)) (held : StepResult (Held S)) : Type 0 where
  pub done : step_result held.cpu held.bus.reached held.clocks ≡ plain
  pub same : held.bus.name ≡ name
  pub all : held.bus.accesses ≡ noted.bus.accesses

result_is : {S : Type 0} (a : StepResult S) (p : CpuState) (s : S) (clocks : ℕ) → p ≡ a.cpu → s ≡ a.bus → clocks ≡ a.clocks → step_result p s clocks ≡ a
result_is a p s clocks cpu bus same = λ i. step_result (cpu i) (bus i) (same i)

is_kept : {S : Type 0} (bus : BusMeaning S) (s : S) (name : ℕ) (done : StepResult S) (noted : StepResult (Noted S)) (held : StepResult (Held S))
    → IsNoted bus s done noted → length noted.bus.accesses ≤ 6 → SameStep (Keeps name) noted held → IsKept name done noted held
is_kept bus s name done noted held is few same = record {
  done = result_is done held.cpu held.bus.reached held.clocks (same.cpu ∙ is.cpu) (same.bus.reached ∙ is.reached) (same.clocks ∙ is.clocks);
  same = same.bus.same;
  all = same.bus.few few;
}

pub step_is_kept : {S : Type 0} (bus : BusMeaning S) (table : ClockTable) (p : CpuState) (s : S) (decoded : Decoded) (name : ℕ) (held : StepResult (Held S))
    → held ≡ after_step (holding bus) table p (unheld name s) decoded
    → IsKept name (after_step bus table p s decoded) (after_step (noting bus) table p (unnoted s) decoded) held
step_is_kept bus table p s decoded name held is =
    subst (IsKept name (after_step bus table p s decoded) (after_step (noting bus) table p (unnoted s) decoded)) (sym is)
    (is_kept bus s name _ _ _ ((makes_accesses bus).step table p s decoded) ((makes_few bus).step table p s decoded)
    (same_by_step (noting bus) (holding bus) table (λ port. true) (λ port. true) (Keeps name) (keeps_alike bus name)
    (keeps_ports bus name) p (unnoted s) (unheld name s) decoded (λ k d within. refl) (λ k d within. refl) (keeps_none name s)))

pub again_is_kept : {S : Type 0} (bus : BusMeaning S) (p : CpuState) (s : S) (name : ℕ) (held : StepResult (Held S))
    → held ≡ after_again (holding bus) p (unheld name s) → IsKept name (after_again bus p s) (after_again (noting bus) p (unnoted s)) held
again_is_kept bus p s name held is =
    subst (IsKept name (after_again bus p s) (after_again (noting bus) p (unnoted s))) (sym is)
    (is_kept bus s name _ _ _ ((makes_accesses bus).again p s) ((makes_few bus).again p s)
    (same_by_again (noting bus) (holding bus) (Keeps name) (keeps_alike bus name) p (unnoted s) (unheld name s) (keeps_none name s)))

pub enter_is_kept : {S : Type 0} (bus : BusMeaning S) (table : ClockTable)
    (p : CpuState) (s : S) (kind : ℕ) (cause : Cause) (name : ℕ) (held : StepResult (Held S))
    → held ≡ after_enter (holding bus) table p (unheld name s) kind cause
    → IsKept name (after_enter bus table p s kind cause) (after_enter (noting bus) table p (unnoted s) kind cause) held
enter_is_kept bus table p s kind cause name held is =
    subst (IsKept name (after_enter bus table p s kind cause) (after_enter (noting bus) table p (unnoted s) kind cause)) (sym is)
    (is_kept bus s name _ _ _ ((makes_accesses bus).enter table p s kind cause) ((makes_few bus).enter table p s kind cause)
    (same_by_enter (noting bus) (holding bus) table (Keeps name) (keeps_alike bus name) p (unnoted s) (unheld name s) kind cause (keeps_none name s)))
