-- Request c, a device count of 1: a row of events of which none is a second device's, and all of a bus's doing that no absent device may bear on.
-- Assumes nothing.
use Rattle.std.specs.Prelude.{◌≡◌, false, List, [], ◌∷◌}
use Rattle.device.specs.declared.Event.{Event}
use Rattle.device.specs.Ranges.{second_of}
use Rattle.pair.specs.Bus.{Done, lines_of, bus_answer_of}

-- the same but for what stands in the second's place
pub record Alike (o q : Done) : Type 0 where
  pub acknowledged : o.acknowledged ≡ q.acknowledged
  pub taken : o.taken ≡ q.taken
  pub held : o.held ≡ q.held
  pub byte : o.byte ≡ q.byte
  pub first : o.bus.first ≡ q.bus.first
  pub lines : lines_of o.bus ≡ lines_of q.bus
  pub answer : bus_answer_of o ≡ bus_answer_of q

-- kinds 01 to 07 alone
abbrev pub NoSecond : List Event → Type 0
NoSecond [] = Unit {0}
NoSecond (e ∷ es) = (second_of e ≡ false) × NoSecond es
