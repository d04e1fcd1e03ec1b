use Rattle.probe_texts.specs.ChipsText.{adapter_line}
use Rattle.probe_texts.proofs.chips_text.push_adapter.Goals as goal

pub returns : goal.returns
unfolding adapter_line
returns c = rw (c.digit-video.ensures.digit) at c.write.ensures.bytes
