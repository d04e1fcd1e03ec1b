use Rattle.std.proofs.Common.{ℕ, ◌≤◌, None, Some, refl, ap, subst, arith}
use Rattle.std.proofs.lemmas.Result.{err_from_is_err_and}
use Rattle.debugger_meaning.specs.declared.answer.Answer.TheVariants.{Clock}
use Rattle.debugger_meaning.specs.Session.{Runs}
use Rattle.debugger_meaning.proofs.Pieces.{OnePiece, Went, goes_to_end, goes_to_stop, refuses_go, went_none, went_on}
use Rattle.debugger_meaning.proofs.Standing.{few_of}
use Rattle.debugger.proofs.session.Session.go.Goals as goal

pub pieces-init : goal.pieces-init
pieces-init g c =
    went_none c.args.count c.args.self.now (few_of c.args.self.now.first c.args.self.now.board c.clock.ensures.stands)
    (omega (arith, c.clock.ensures.clock, c.get.ensures.value, c.get.ensures.bound, c.if-get-count.false))

pub returns-in_err-stop : goal.returns-in_err-stop
returns-in_err-stop g c =
    let few : c.min-piece.result ≤ c.pieces.left = omega (arith, c.min-piece.ensures) in
    let p = err_from_is_err_and c.from_residual.result c.from_residual.ensures.1 in
    rw (p.1, p.2)
    (refuses_go c.args.count c.pieces.left c.min-piece.result c.args.self.now c.pieces.self c.go_piece.new.self
    c.in_err-stop.field-0.0 few c.pieces.invariant c.in_err-stop.ensures.runs c.go_piece.ensures.stops
    c.go_piece.ensures.first)

pub returns-in-Some : goal.returns-in-Some
returns-in-Some g c =
    let few : c.min-piece.result ≤ c.pieces.left = omega (arith, c.min-piece.ensures) in
    let on : OnePiece c.min-piece.result c.pieces.self c.go_piece.new.self (Some c.in-Some.stop) =
    record {
      runs = subst (Runs c.pieces.self.stops c.min-piece.result c.pieces.self.board c.go_piece.new.self.board) c.in-Some.is c.in_ok-stop.ensures.runs;
      stops = c.go_piece.ensures.stops;
      first = c.go_piece.ensures.first;
    } in
    goes_to_stop c.args.count c.pieces.left c.min-piece.result c.args.self.now c.pieces.self c.go_piece.new.self c.in-Some.stop _ few c.pieces.invariant on refl

pub returns-then-left-eq0 : goal.returns-then-left-eq0
returns-then-left-eq0 g c =
    let few : c.min-piece.result ≤ c.pieces.left = omega (arith, c.min-piece.ensures) in
    let on : OnePiece c.min-piece.result c.pieces.self c.go_piece.new.self None =
    record {
      runs = subst (Runs c.pieces.self.stops c.min-piece.result c.pieces.self.board c.go_piece.new.self.board) c.in_default.is c.in_ok-stop.ensures.runs;
      stops = c.go_piece.ensures.stops;
      first = c.go_piece.ensures.first;
    } in
    goes_to_end c.args.count c.args.self.now c.go_piece.new.self _
    (subst (λ (left : ℕ). Went c.args.count left c.args.self.now c.go_piece.new.self) c.if-left-eq0.true
    (went_on c.args.count c.pieces.left c.min-piece.result c.args.self.now c.pieces.self c.go_piece.new.self few c.pieces.invariant on))
    (ap Clock c.clock-then-left-eq0.ensures.clock)

pub pieces-preserved : goal.pieces-preserved
pieces-preserved g c =
    let few : c.min-piece.result ≤ c.pieces.left = omega (arith, c.min-piece.ensures) in
    let on : OnePiece c.min-piece.result c.pieces.self c.go_piece.new.self None =
    record {
      runs = subst (Runs c.pieces.self.stops c.min-piece.result c.pieces.self.board c.go_piece.new.self.board) c.in_default.is c.in_ok-stop.ensures.runs;
      stops = c.go_piece.ensures.stops;
      first = c.go_piece.ensures.first;
    } in
    went_on c.args.count c.pieces.left c.min-piece.result c.args.self.now c.pieces.self c.go_piece.new.self few c.pieces.invariant on
