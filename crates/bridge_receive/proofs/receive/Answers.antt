-- What the frame makes of the state.
use Rattle.std.proofs.Common.{List, ℕ, get_or, Fits, w8, arith}
use Rattle.numbers.specs.Bytes.{Bytes}
use Rattle.bridge.proofs.Keeps.{receive_lawful}
use Rattle.bridge.proofs.PromiseLaws.{out}
use Rattle.bridge_receive.proofs.receive.Goals as goal

-- the elements of the frame are bytes
bytes : (s : List ℕ) → ((i : ℕ) → Fits w8 (get_or s i 0)) → Bytes s
bytes s h i = omega (arith, h i)

pub returns : goal.returns
returns c = out _ _ c.received-answer.ensures (receive_lawful _ _ _ _ (bytes _ c.type_inv.frame) c.requires)
