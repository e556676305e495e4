-- Where a run stops, and what it has written then.
use Rattle.std.specs.Prelude.{◌≡◌, ℕ, ◌-◌, ◌^◌, List, [], take, IfSome, Option, Some, None}
use Rattle.std.specs.Io.KnownBytes.{Appends, Consumes, IsAtEnd}
use Rattle.session_programs.specs.Programs.{Rules}
use Rattle.session.specs.Input.{lines_after, lines_text}
use Rattle.stdio_course.specs.declared.Course.TheVariants.{On}
use Rattle.stdio.specs.declared.Ending.{Ending}

-- as many reads as a number of the machine counts
abbrev pub most_reads : ℕ
most_reads = 2 ^ 64 - 1

-- a run stops at the end of the input, or where input or output is lost, and otherwise only after that many reads
pub record Stopped (r : Ending) : Type 0 where
  pub counted : r.course ≡ On → r.reads ≡ most_reads

-- what a read gave: so many bytes, the next of those that the reader had left; and none only at the end of them. Nothing is said of one that failed
abbrev pub Gave : Option ℕ → Option (List ℕ) → Option (List ℕ) → List ℕ → Type 0
Gave (Some n) had has bytes = Consumes had has (take n bytes) × (n ≡ 0 → IsAtEnd has)
Gave None had has bytes = Unit {0}

-- a program's whole input answered, where its bytes and what the writer holds are known: what document 01 says of its lines is written, and nothing else
abbrev pub Answered : Rules → Option (List ℕ) → Option (List ℕ) → Option (List ℕ) → Type 0
Answered p input held holds = IfSome input (λ bytes. Appends held holds (lines_text p p.start (lines_after [] bytes)))
