-- Read by read: what is kept stays ready, the buffers keep their length, no read is counted beyond the last number, and until something is lost all that was read is answered.
use Rattle.std.proofs.Common.{◌≡◌, true, ◌-◌, ◌≤◌, length}
use Rattle.session.specs.Session.{Ready}
use Rattle.stdio.specs.Run.{most_reads}
use Rattle.stdio.proofs.Whole.{going, Told}
use Rattle.stdio.proofs.run.Given as goal

abbrev pub invariant-loop-reads : goal.invariant-loop-reads
invariant-loop-reads g l =
    Ready l.s × (length l.bytes ≡ 65536) × (length l.out ≡ 65536) × (l.reads ≤ most_reads)
    × (going l.course ≡ true → Told g.P.Program.rules l.initial.s (g.R.Read.remaining l.initial.input) (g.W.Write.contents l.initial.output) l.course l.s (g.R.Read.remaining l.input) (g.W.Write.contents l.output))

abbrev pub decreases-loop-reads : goal.decreases-loop-reads
decreases-loop-reads g l = most_reads - l.reads
