-- By what Setup and Links ensure.
use Rattle.std.specs.Prelude.{⊤}
use Rattle.std.proofs.Common.{ap, ◌∙◌, ℕ}
use Rattle.bridge.specs.Fits.{plain_setup}
use Rattle.bridge.specs.Setup.{setup_of}
use Rattle.bridge.specs.Links.{links_of}
use Rattle.bridge.specs.declared.Done.{Done}
use Rattle.bridge.proofs.PromiseLaws.{done_is}
use Rattle.capture.specs.Capture.{listing_ports, both_linked, listing_back, start_of}
use Rattle.capture.proofs.start.Goals as goal

pub returns-clause-value : goal.returns-clause-value
unfolding start_of
returns-clause-value c =
    let given = c.plain_setup-given.ensures ∙ ap (λ (timeout : ℕ). plain_setup listing_ports timeout listing_back) c.default_timeout.ensures in
    let set = done_is c.setup.ensures ∙ ap setup_of given in
    c.links.ensures.next ∙ ap (λ (x : Done ⊤). (links_of x.next both_linked).next) set
