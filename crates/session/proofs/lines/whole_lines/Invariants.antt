-- Where the loop stands: what the lines so far lead to and print, the line that is shown next, and how far the bytes and the output are used.
use Rattle.std.proofs.Common.{◌≡◌, ◌-◌, ◌^◌, ◌<◌, ◌≤◌, length, take}
use Rattle.bridge.specs.State.{Lawful}
use Rattle.session.specs.Lines.{line_end}
use Rattle.session.proofs.LineLaws.{Stands, Goes}
use Rattle.session.proofs.lines.whole_lines.Given as goal

abbrev pub invariant-loop-end : goal.invariant-loop-end
invariant-loop-end g l = record {
  lawful : Lawful l.next;
  stands : Stands l.first l.bytes l.from l.held l.n l.start;
  goes : Goes g.P.Program.rules l.initial.next l.first l.bytes l.from l.held l.start l.next (take l.n l.out);
  ends : l.end ≡ line_end l.bytes l.start;
  start_most : l.start ≤ length l.bytes;
  held_most : l.held ≤ length l.first;
  fits : l.n ≤ length l.out;
  same : length l.out ≡ length l.initial.out;
  out_size : length l.out < 2 ^ 64;
  bytes_size : length l.bytes < 2 ^ 64;
}

abbrev pub decreases-loop-end : goal.decreases-loop-end
decreases-loop-end g l = length l.bytes - l.end
