use Rattle.std.proofs.Common.{take, ap, ◌∙◌, take-take, arith}
use Rattle.decode.specs.Decoding.{code_at}
use Rattle.decode.proofs.decode.decode_read.Goals as goal

pub decoding_by-requires : goal.decoding_by-requires
decoding_by-requires g c =
    c.front_in.ensures ∙ ap (take 6) c.requires ∙ take-take 6 8 (code_at (g.B.Bytes.byte_at c.args.bytes.now) c.args.cs c.args.ip) (omega arith)
