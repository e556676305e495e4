-- Document 01's literals of the frame are what the definitions give.
use mathlib.Core.Path.{refl}
use Rattle.refusals.specs.Literals.{AsWritten}
use Rattle.numbers.specs.Table.{parted, joined}
use Rattle.frame.specs.Read.{read_refusal}
use Rattle.frame.specs.Write.{write_refusal, bytes_of}
use Rattle.frame.specs.Literals.{frame_literals}

pub frame_written : AsWritten frame_literals
unfolding frame_literals bytes_of joined parted read_refusal write_refusal
frame_written = refl
