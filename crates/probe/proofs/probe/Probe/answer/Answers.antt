use Rattle.std.proofs.Common.{sym, ◌∙◌, subst}
use Rattle.probe.specs.InquirySession.{AnswersInquiry}
use Rattle.probe.specs.Probe.{AnswersRequest}
use Rattle.probe.specs.Watched.{stops_of}
use Rattle.probe.proofs.Passing.{inquires, passes_on}
use Rattle.probe.proofs.Probes.{probe_of}
use Rattle.probe.proofs.probe.Probe.answer.Goals as goal

pub invariant_of-self : goal.invariant_of-self
invariant_of-self c = record {
  conditions = inquires c.in-Inquire.inquiry c.self.inside.session c.inquire.new.session c.inquire.result c.inquire.ensures ∙ c.self.invariant.conditions;
  watched = c.self.invariant.watched;
}

pub returns-in-Inquire : goal.returns-in-Inquire
returns-in-Inquire c =
    let stops = stops_of c.self.inside.watches.items in
    subst (λ r. AnswersRequest r c.args.self.now c.inquire.result (probe_of c.inquire.new.session stops)) (sym c.in-Inquire.is)
    (passes_on (λ s t. AnswersInquiry c.in-Inquire.inquiry s c.inquire.result t) c.args.self.now c.self.inside.session c.inquire.new.session
    stops c.self.view_is c.self.invariant.conditions
    (inquires c.in-Inquire.inquiry c.self.inside.session c.inquire.new.session c.inquire.result c.inquire.ensures) c.inquire.ensures)
