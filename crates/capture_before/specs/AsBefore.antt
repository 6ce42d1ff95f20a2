-- Request c, one device as before: what agrees between a whole capture today and before that request.
-- Assumes nothing.
use Rattle.std.specs.Prelude.{ℕ, ◌≡◌, false, cond, List, [], ◌∷◌, eqb}
use Rattle.device.specs.Bus.{zero_device}
use Rattle.device.specs.Ranges.{second_of}
use Rattle.record.specs.Record.{Record}
use Rattle.std.specs.Prelude.{Ok, Err}
use Rattle.capture.specs.Whole.{whole_of}
use Rattle.capture_before.specs.BeforePair as before

-- a record is refused, or an event of that time
abbrev pub OfThatTime : Record → Type 0
OfThatTime (Ok e) = second_of e ≡ false
OfThatTime (Err why) = Unit {0}

-- the first byte is not a device count of 2: it is 1, or a count that is refused, or there is none
abbrev pub NotTwo : List ℕ → Type 0
NotTwo [] = Unit {0}
NotTwo (devices ∷ xs) = eqb devices 2 ≡ false

pub record AsBefore (xs : List ℕ) : Type 0 where
  pub code : (whole_of xs).code ≡ (before.whole_of xs).code
  pub consumed : (whole_of xs).consumed ≡ (before.whole_of xs).consumed
  pub answers : (whole_of xs).answers ≡ (before.whole_of xs).answers
  pub finishing : (whole_of xs).finishing ≡ (before.whole_of xs).finishing
  -- the end state
  pub head : (whole_of xs).reader.head ≡ (before.whole_of xs).reader.head
  pub count : (whole_of xs).reader.count ≡ (before.whole_of xs).reader.count
  pub done : (whole_of xs).reader.done ≡ (before.whole_of xs).reader.done
  pub carried : (whole_of xs).reader.carried ≡ (before.whole_of xs).reader.carried
  pub bytes : (whole_of xs).reader.bytes ≡ (before.whole_of xs).reader.bytes
  pub held : (whole_of xs).reader.held ≡ (before.whole_of xs).reader.held
  -- its bus: the device of before, alone; a count of 1 once a header byte is taken, else 0
  pub first : (whole_of xs).reader.bus.first ≡ (before.whole_of xs).reader.device
  pub second : (whole_of xs).reader.bus.second ≡ zero_device
  pub devices : (whole_of xs).reader.bus.devices ≡ cond (eqb (whole_of xs).reader.head 0) 0 1
