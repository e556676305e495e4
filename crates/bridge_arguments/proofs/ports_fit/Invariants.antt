-- What is left of the first n settings and versions fits exactly where all of them do.
use Rattle.std.proofs.Common.{◌≡◌, ◌≤◌, length, take, drop}
use Rattle.bridge.specs.Fits.{delays_fit_of, versions_fit_of}
use Rattle.bridge_arguments.proofs.ports_fit.Given as goal

-- the loop has gone through the first i of them
abbrev pub invariant-loop-i : goal.invariant-loop-i
invariant-loop-i l = record {
  settings_room : l.n ≤ length l.settings;
  versions_room : l.n ≤ length l.versions;
  delays : delays_fit_of (drop l.i (take l.n l.settings)) ≡ delays_fit_of (take l.n l.settings);
  versions_left : versions_fit_of (drop l.i (take l.n l.versions)) ≡ versions_fit_of (take l.n l.versions);
}
