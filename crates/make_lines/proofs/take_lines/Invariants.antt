use Rattle.make_lines.proofs.take_lines.Given as goal
use lib.ListN.{length}
use Rattle.make_lines.specs.Lines.{lines_of}
use Rattle.make_lines.proofs.Drafts.{Going}

abbrev pub invariant-loop-i : goal.invariant-loop-i
invariant-loop-i l = Going (lines_of l.values) l.initial.out l.out (length l.yielded) l.records
