-- The mark, no digits, a number, or bytes.
use mathlib.Core.Path.{sym, ◌∙◌}
use Rattle.forms.specs.Field.{field_of}
use Rattle.forms.proofs.FieldLaws.{number_digits}
use Rattle.forms.proofs.field.of_kind.Goals as goal

pub returns-then-is_mark : goal.returns-then-is_mark
unfolding field_of
returns-then-is_mark c = rw (← c.rule_of-rule.ensures, sym c.is_mark.ensures ∙ c.if-is_mark.true)

pub returns-then-not-are_digits : goal.returns-then-not-are_digits
unfolding field_of
returns-then-not-are_digits c =
    rw (← c.rule_of-rule.ensures, sym c.is_mark.ensures ∙ c.if-is_mark.false, sym c.are_digits.ensures ∙ c.if-not-are_digits.true)

pub as_number-requires : goal.as_number-requires
as_number-requires c = number_digits _ _ c.rule_of-rule.ensures c.in-UpTo.is (sym c.are_digits.ensures ∙ c.if-not-are_digits.false)

pub returns-in-UpTo : goal.returns-in-UpTo
unfolding field_of
returns-in-UpTo c =
    rw (← c.rule_of-rule.ensures, sym c.is_mark.ensures ∙ c.if-is_mark.false, sym c.are_digits.ensures ∙ c.if-not-are_digits.false, c.in-UpTo.is) c.as_number.ensures

pub returns-in-WholeBytes : goal.returns-in-WholeBytes
unfolding field_of
returns-in-WholeBytes c =
    rw (← c.rule_of-rule.ensures, sym c.is_mark.ensures ∙ c.if-is_mark.false, sym c.are_digits.ensures ∙ c.if-not-are_digits.false, c.in-WholeBytes.is) c.as_bytes.ensures
