-- `cipher_mode::work::Message::by_stream` meets its contract: the chain is as long as the data.
use Rattle.walk.specs.Walk.{chain}
use Rattle.stream.specs.Stream.{stream_mode}
use Rattle.stream.proofs.RoundTrip.{length-stream}
use Rattle.cipher_mode.proofs.Ends.{reached}
use Rattle.cipher_mode.proofs.work.Message.by_stream.Goals as goal

pub returns : goal.returns
returns c =
    let a = c.args in
    let m = a.self.now in
    reached (chain (stream_mode a.kind m.rk) (m.iv.now) (m.«data».now)) (a.out.now) _ _ (length-stream a.kind m.rk (m.iv.now) _)
    (rw c.iv_block-start.ensures at c.stream.ensures.out_after)
