use Rattle.std.proofs.Common.{◌≡◌, ◌++◌, length, List, ℕ}
use Rattle.std.specs.Io.KnownBytes.{Appends}
use Rattle.listing_loop.proofs.put.Given as goal

-- The text is written up to the rest.
abbrev pub invariant-loop-rest : goal.invariant-loop-rest
invariant-loop-rest g l = record {
  front : List ℕ;
  all : front ++ l.rest ≡ l.text;
  bytes : Appends (g.W.Write.contents l.initial.output) (g.W.Write.contents l.output) front;
}

abbrev pub decreases-loop-rest : goal.decreases-loop-rest
decreases-loop-rest g l = length l.rest
