-- As much more as there is room for.
use Rattle.session.proofs.FedLaws.{kept_more, kept_length}
use Rattle.session.proofs.lines.kept.Goals as goal

pub returns-clause-value : goal.returns-clause-value
returns-clause-value c = kept_length _ _ _ _ c.requires.0 c.requires.1 c.min-n.ensures

pub returns-clause-text_after : goal.returns-clause-text_after
returns-clause-text_after c =
    kept_more c.args.text.now c.args.more.now c.copy_from_slice.new.self _ c.args.len c.min-n.result c.requires.0 c.requires.1 c.min-n.ensures c.copy_from_slice.ensures.after
