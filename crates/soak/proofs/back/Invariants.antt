use Rattle.std.specs.Iterator.Adapters.{rev_source}
use Rattle.std.specs.Slice.Iter.{iter_rest}
use Rattle.soak.proofs.Loop.{Going}
use Rattle.soak.proofs.back.Given as goal

abbrev pub invariant-loop-quad : goal.invariant-loop-quad
invariant-loop-quad l = Going l.d l.quads l.ends l.read (iter_rest (rev_source l.quad-iterator))
