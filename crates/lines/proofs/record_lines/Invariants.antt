use Rattle.std.proofs.Common.{◌-◌, ◌*◌, ◌^◌, ◌<◌, length, drop}
use Rattle.lines.specs.Lines.{fitting_lines_of}
use Rattle.lines.proofs.Blocks.{Going}
use Rattle.lines.proofs.record_lines.Given as goal

abbrev pub invariant-loop-a : goal.invariant-loop-a
invariant-loop-a l =
    Going (fitting_lines_of (length l.initial.room) l.first l.answers) l.initial.room l.room l.size
    (fitting_lines_of (length l.initial.room - l.size) l.n (drop (l.a-index * 2) l.answers))
    × (length l.initial.room < 2 ^ 64)
