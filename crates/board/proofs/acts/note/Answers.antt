use Rattle.std.proofs.Common.{◌≡◌, ◌<◌, ◌++◌, ℕ, List, [], ◌∷◌, refl, sym, ap, ◌∙◌, arith}
use Rattle.board_types.specs.declared.choice.ClockTable.TheVariants.{C1}
use Rattle.decode.specs.Decoding.{code_at, decoded_from, size_of}
use Rattle.decode.specs.declared.decoding.Decoding.{Decoding}
use Rattle.execute_meaning.specs.Cpu.{CpuState}
use Rattle.wiring.specs.Chips.{ChipsState}
use Rattle.wiring.specs.Ports.{byte_at}
use Rattle.board.specs.TrailEntries.{event_in, spelled_in}
use Rattle.board.specs.TrailState.{added_by, IsExact}
use Rattle.board_plain.specs.CodeAtIp.{decoded_at}
use Rattle.board_plain.specs.Plain.{Plain, clock_of}
use Rattle.board_plain.specs.declared.act.Act.TheVariants.{Instruction}
use Rattle.board_plain.specs.declared.trail.TrailEntry.{TrailEntry}
use Rattle.board_plain.specs.Trail.{entry_at, last}
use Rattle.board_plain.proofs.LastEntries.{nothing_added}
use Rattle.board.proofs.Coded.{slot_code}
use Rattle.board.proofs.Entries.{exact_is, keeps_start, no_start}
use Rattle.board.proofs.SlotLength.{length_at}
use Rattle.board.proofs.acts.note.Goals as goal

-- the entry of what was decoded at CS:IP is that of the instruction that begins
begins : (p : CpuState) (s : ChipsState) (d : Decoding) (clock cs ip : ℕ) (trail : List TrailEntry)
    → clock ≡ s.clock → cs ≡ p.registers.cs → ip ≡ p.registers.ip → IsExact p s (Instruction d) → 0 < size_of d
    → last 32 (trail ++ (record { clock = clock; cs = cs; ip = ip; event = event_in d 0 }) ∷ []) ≡ last 32 (trail ++ added_by p s (Instruction d))
unfolding clock_of
begins p s d clock cs ip trail at_clock at_cs at_ip exact some =
    let board : Plain = record { cpu = p; busy = 0; chips = s; keys = []; clocks = C1 } in
    ap (λ xs. last 32 (trail ++ xs))
    ((λ k. record { clock = at_clock k; cs = at_cs k; ip = at_ip k; event = event_in d 0 } ∷ [])
    ∙ ap (entry_at board) (sym (keeps_start p s d exact some)))

pub returns-then-decoded-eq0 : goal.returns-then-decoded-eq0
returns-then-decoded-eq0 c =
    let s : Plain = record { cpu = c.args.cpu.now; busy = 0; chips = c.args.chips.now; keys = []; clocks = C1 } in
    nothing_added 32 c.args.trail.now c.requires.few
    ∙ ap (λ xs. last 32 (c.args.trail.now ++ xs))
    (ap (entry_at s) (sym (no_start c.args.cpu.now c.args.chips.now (decoded_at c.args.cpu.now c.args.chips.now) c.requires.exact
    (omega (arith, length_at c.args.decoded.now (decoded_at c.args.cpu.now c.args.chips.now) c.requires.ready, c.if-decoded-eq0.true)))))

pub returns-in-Some : goal.returns-in-Some
returns-in-Some c =
    let p = c.args.cpu.now in
    let s = c.args.chips.now in
    let d = decoded_at c.args.cpu.now c.args.chips.now in
    let some : 0 < size_of d = omega (arith, length_at c.args.decoded.now d c.requires.ready, c.if-decoded-eq0.false) in
    let bytes = code_at (byte_at s) c.cs-cs.result c.ip-ip.result in
    let code = c.in-Some.slot.now.code in
    let again : decoded_from (spelled_in code 0) ≡ d =
    slot_code bytes code (decoded_from bytes) c.in-Some.ensures.code c.in-Some.ensures.exact 0
    ∙ sym (exact_is p s d c.requires.exact some ∙ (λ k. decoded_from (code_at (byte_at s) (sym c.cs-cs.ensures k) (sym c.ip-ip.ensures k)))) in
    c.add.ensures
    ∙ ap (λ e. last 32 (c.args.trail.now ++ e ∷ [])) (c.begun.ensures.entry
    ∙ ap (λ x. record { clock = c.clock.result; cs = c.cs-cs.result; ip = c.ip-ip.result; event = event_in x 0 }) again)
    ∙ begins p s d c.clock.result c.cs-cs.result c.ip-ip.result c.args.trail.now c.clock.ensures c.cs-cs.ensures c.ip-ip.ensures
    c.requires.exact some

pub returns-in-None : goal.returns-in-None
returns-in-None c =
    let p = c.args.cpu.now in
    let s = c.args.chips.now in
    let d = decoded_at c.args.cpu.now c.args.chips.now in
    let some : 0 < size_of d = omega (arith, length_at c.args.decoded.now d c.requires.ready, c.if-decoded-eq0.false) in
    let is = exact_is p s d c.requires.exact some ∙ (λ k. decoded_from (code_at (byte_at s) (sym c.cs-cs.ensures k) (sym c.ip-ip.ensures k))) in
    c.add-in-None.ensures
    ∙ ap (λ e. last 32 (c.args.trail.now ++ e ∷ [])) (c.read.ensures.entry
    ∙ ap (λ x. record { clock = s.clock; cs = c.cs-cs.result; ip = c.ip-ip.result; event = event_in x 0 }) (sym is))
    ∙ begins p s d s.clock c.cs-cs.result c.ip-ip.result c.args.trail.now refl c.cs-cs.ensures c.ip-ip.ensures c.requires.exact some
