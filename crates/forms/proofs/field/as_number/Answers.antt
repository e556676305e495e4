-- Too great, or the number.
use borrow.Author.Tests.{lt-leb, le-leb}
use Rattle.forms.specs.Field.{number_field}
use Rattle.forms.proofs.field.as_number.Goals as goal

pub returns-then-greatest-number : goal.returns-then-greatest-number
unfolding number_field
returns-then-greatest-number c = rw (← c.number-number.ensures, lt-leb c.number-number.result c.args.greatest c.if-greatest-number.true)

pub returns : goal.returns
unfolding number_field
returns c = rw (← c.number-number.ensures, le-leb c.number-number.result c.args.greatest c.if-greatest-number.false)
