-- Links.
use Rattle.std.specs.Prelude.{cond, ℕ, Ok, Err}
use Rattle.std.specs.Int.Count.{ones}
use Rattle.refusals.specs.declared.Refusal.TheVariants.{OutOfRange}
use Rattle.bridge.specs.Table.{each, relinked_port}
use Rattle.bridge.specs.Arguments.{mask_beyond}
use Rattle.bridge.specs.State.{with_links, answers}
use Rattle.bridge.specs.declared.Bridge.{Bridge}
use Rattle.bridge.specs.declared.Done.{Done}

-- the answer is how many bits of the mask are set
unfoldable pub links_of : Bridge → ℕ → Done ℕ
links_of b mask =
    cond (mask_beyond b.setup.n mask) (answers (Err OutOfRange) b) (answers (Ok (ones mask)) (with_links b mask (each (relinked_port b.links mask) 0 b.ports)))
