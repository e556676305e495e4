-- How a run goes on: after a read and the writes of its answers, and within the bytes of a read.
use Rattle.std.specs.Prelude.{Bool, true, false, ℕ, zero, suc, Option, Some, None}
use Rattle.stdio_course.specs.declared.Course.{Course}
use Rattle.stdio_course.specs.declared.Course.TheVariants.{On, Ended, InputLost, OutputLost}

-- after a read, its answers being written or not: a lost output stops the run, and so does a read that failed; a read of no bytes is the end of the input, and one of any other number is not
abbrev pub course_after : Option ℕ → Bool → Course
course_after got false = OutputLost
course_after None true = InputLost
course_after (Some zero) true = Ended
course_after (Some (suc n)) true = On

-- whether it reads on
abbrev pub reads_on : Course → Bool
reads_on On = true
reads_on Ended = false
reads_on InputLost = false
reads_on OutputLost = false

-- where the bytes of a read go on after a write: where the turn left them; where its output was lost, behind the last
abbrev pub onward_after : Bool → ℕ → ℕ → ℕ
onward_after true rest size = rest
onward_after false rest size = size
