-- What the port sends, and what it makes of the state.
use Rattle.bridge.proofs.PromiseLaws.{send_out}
use Rattle.bridge_send.proofs.send.Goals as goal

pub returns : goal.returns
returns c = send_out _ _ _ c.args.out.now _ _ c.sent-answer.ensures.done c.sent-answer.ensures.bytes c.requires
