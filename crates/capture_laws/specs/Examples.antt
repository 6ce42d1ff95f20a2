-- Worked captures: every code with both its sides, cuts in every section, short rooms; and both ends of the reader's own ranges.
-- Assumes nothing.
use Rattle.std.specs.Prelude.{ℕ, ◌≡◌, refl, Bool, true, false, List, [], ◌∷◌, map}
use Rattle.capture.specs.declared.Reader.{Reader}
use Rattle.capture.specs.Reader.{Out, fresh_of, with_done, with_carried, hold_of, ranges_of, call_of, finish_of}
use Rattle.capture.specs.Whole.{Whole, heading, first_taken, whole_of}
use Rattle.capture.specs.Opened.{capture_opened}

-- what a delegate can check by hand of an outcome: what was told
pub record Told : Type 0 where
  pub code : ℕ
  pub consumed : ℕ
  pub answers : List ℕ
  pub finishing : ℕ

-- and where the reader stands: all but the devices themselves
pub record Standing : Type 0 where
  pub head : ℕ
  pub count : ℕ
  pub done : ℕ
  pub carried : ℕ
  pub bytes : List ℕ
  pub held : ℕ
  pub devices : ℕ

pub record Summary : Type 0 where
  pub told : Told
  pub standing : Standing

abbrev standing_of : Reader → Standing
standing_of s =
    record {
      head = s.head;
      count = s.count;
      done = s.done;
      carried = s.carried;
      bytes = s.bytes;
      held = s.held;
      devices = s.bus.devices;
    }

abbrev pub summed : ℕ → ℕ → List ℕ → ℕ → Reader → Summary
summed code consumed answers finishing s =
    record { told = record { code = code; consumed = consumed; answers = answers; finishing = finishing }; standing = standing_of s }

-- ---- whole captures

pub record Example : Type 0 where
  pub capture : List ℕ
  pub summary : Summary

abbrev given : List ℕ → Told → Standing → Example
given capture told standing = record { capture = capture; summary = record { told = told; standing = standing } }

abbrev pub captures : List Example
captures =
    -- the empty capture
    given ([])
    (record { code = 0; consumed = 0; answers = []; finishing = 6 })
    (record { head = 0; count = 0; done = 0; carried = 0; bytes = 0 ∷ 0 ∷ 0 ∷ []; held = 0; devices = 0 }) ∷
    -- device count not 1 or 2
    given (0x00 ∷ [])
    (record { code = 1; consumed = 0; answers = []; finishing = 1 })
    (record { head = 0; count = 0; done = 0; carried = 0; bytes = 0 ∷ 0 ∷ 0 ∷ []; held = 1; devices = 0 }) ∷
    given (0x03 ∷ 0x01 ∷ [])
    (record { code = 1; consumed = 0; answers = []; finishing = 1 })
    (record { head = 0; count = 0; done = 0; carried = 0; bytes = 0 ∷ 0 ∷ 0 ∷ []; held = 1; devices = 0 }) ∷
    -- cut in the header
    given (0x01 ∷ [])
    (record { code = 0; consumed = 1; answers = []; finishing = 6 })
    (record { head = 1; count = 0; done = 0; carried = 0; bytes = 0 ∷ 0 ∷ 0 ∷ []; held = 0; devices = 1 }) ∷
    -- variant not 1, 2 or 3
    given (0x01 ∷ 0x00 ∷ [])
    (record { code = 2; consumed = 1; answers = []; finishing = 2 })
    (record { head = 1; count = 0; done = 0; carried = 0; bytes = 0 ∷ 0 ∷ 0 ∷ []; held = 2; devices = 1 }) ∷
    given (0x01 ∷ 0x04 ∷ 0x00 ∷ [])
    (record { code = 2; consumed = 1; answers = []; finishing = 2 })
    (record { head = 1; count = 0; done = 0; carried = 0; bytes = 0 ∷ 0 ∷ 0 ∷ []; held = 2; devices = 1 }) ∷
    -- cut after the variant, and in the count
    given (0x01 ∷ 0x03 ∷ [])
    (record { code = 0; consumed = 2; answers = []; finishing = 6 })
    (record { head = 2; count = 0; done = 0; carried = 0; bytes = 0 ∷ 0 ∷ 0 ∷ []; held = 0; devices = 1 }) ∷
    given (0x01 ∷ 0x03 ∷ 0x01 ∷ [])
    (record { code = 0; consumed = 3; answers = []; finishing = 6 })
    (record { head = 3; count = 1; done = 0; carried = 0; bytes = 0 ∷ 0 ∷ 0 ∷ []; held = 0; devices = 1 }) ∷
    given (0x01 ∷ 0x03 ∷ 0x01 ∷ 0x02 ∷ [])
    (record { code = 0; consumed = 4; answers = []; finishing = 6 })
    (record { head = 4; count = 258; done = 0; carried = 0; bytes = 0 ∷ 0 ∷ 0 ∷ []; held = 0; devices = 1 }) ∷
    given (0x01 ∷ 0x02 ∷ 0x01 ∷ 0x02 ∷ 0x03 ∷ [])
    (record { code = 0; consumed = 5; answers = []; finishing = 6 })
    (record { head = 5; count = 66051; done = 0; carried = 0; bytes = 0 ∷ 0 ∷ 0 ∷ []; held = 0; devices = 1 }) ∷
    -- complete, with a count of 16909060
    given (0x01 ∷ 0x01 ∷ 0x01 ∷ 0x02 ∷ 0x03 ∷ 0x04 ∷ [])
    (record { code = 0; consumed = 6; answers = []; finishing = 6 })
    (record { head = 6; count = 16909060; done = 0; carried = 0; bytes = 0 ∷ 0 ∷ 0 ∷ []; held = 0; devices = 1 }) ∷
    -- no records, and a byte after them
    given (0x01 ∷ 0x01 ∷ 0x00 ∷ 0x00 ∷ 0x00 ∷ 0x00 ∷ [])
    (record { code = 0; consumed = 6; answers = []; finishing = 0 })
    (record { head = 6; count = 0; done = 0; carried = 0; bytes = 0 ∷ 0 ∷ 0 ∷ []; held = 0; devices = 1 }) ∷
    given (0x01 ∷ 0x01 ∷ 0x00 ∷ 0x00 ∷ 0x00 ∷ 0x00 ∷ 0x01 ∷ [])
    (record { code = 5; consumed = 6; answers = []; finishing = 5 })
    (record { head = 6; count = 0; done = 0; carried = 0; bytes = 0 ∷ 0 ∷ 0 ∷ []; held = 5; devices = 1 }) ∷
    -- cut in the first record
    given (0x01 ∷ 0x01 ∷ 0x00 ∷ 0x00 ∷ 0x00 ∷ 0x02 ∷ 0x05 ∷ [])
    (record { code = 0; consumed = 7; answers = []; finishing = 6 })
    (record { head = 6; count = 2; done = 0; carried = 1; bytes = 5 ∷ 0 ∷ 0 ∷ []; held = 0; devices = 1 }) ∷
    given (0x01 ∷ 0x01 ∷ 0x00 ∷ 0x00 ∷ 0x00 ∷ 0x02 ∷ 0x05 ∷ 0x14 ∷ [])
    (record { code = 0; consumed = 8; answers = []; finishing = 6 })
    (record { head = 6; count = 2; done = 0; carried = 2; bytes = 5 ∷ 20 ∷ 0 ∷ []; held = 0; devices = 1 }) ∷
    given (0x01 ∷ 0x01 ∷ 0x00 ∷ 0x00 ∷ 0x00 ∷ 0x02 ∷ 0x05 ∷ 0x14 ∷ 0x00 ∷ [])
    (record { code = 0; consumed = 9; answers = []; finishing = 6 })
    (record { head = 6; count = 2; done = 0; carried = 3; bytes = 5 ∷ 20 ∷ 0 ∷ []; held = 0; devices = 1 }) ∷
    -- one of two done
    given (0x01 ∷ 0x01 ∷ 0x00 ∷ 0x00 ∷ 0x00 ∷ 0x02 ∷ 0x05 ∷ 0x14 ∷ 0x00 ∷ 0x00 ∷ [])
    (record { code = 0; consumed = 10; answers = 0x08 ∷ 0x00 ∷ []; finishing = 6 })
    (record { head = 6; count = 2; done = 1; carried = 0; bytes = 0 ∷ 0 ∷ 0 ∷ []; held = 0; devices = 1 }) ∷
    -- cut in the second
    given (0x01 ∷ 0x01 ∷ 0x00 ∷ 0x00 ∷ 0x00 ∷ 0x02 ∷ 0x05 ∷ 0x14 ∷ 0x00 ∷ 0x00 ∷ 0x02 ∷ 0x4C ∷ [])
    (record { code = 0; consumed = 12; answers = 0x08 ∷ 0x00 ∷ []; finishing = 6 })
    (record { head = 6; count = 2; done = 1; carried = 2; bytes = 2 ∷ 76 ∷ 0 ∷ []; held = 0; devices = 1 }) ∷
    -- both done, and a byte after them
    given (0x01 ∷ 0x01 ∷ 0x00 ∷ 0x00 ∷ 0x00 ∷ 0x02 ∷ 0x05 ∷ 0x14 ∷ 0x00 ∷ 0x00 ∷ 0x02 ∷ 0x4C ∷ 0x00 ∷ 0x00 ∷ [])
    (record { code = 0; consumed = 14; answers = 0x08 ∷ 0x00 ∷ 0x04 ∷ 0x14 ∷ []; finishing = 0 })
    (record { head = 6; count = 2; done = 2; carried = 0; bytes = 0 ∷ 0 ∷ 0 ∷ []; held = 0; devices = 1 }) ∷
    given (0x01 ∷ 0x01 ∷ 0x00 ∷ 0x00 ∷ 0x00 ∷ 0x02 ∷ 0x05 ∷ 0x14 ∷ 0x00 ∷ 0x00 ∷ 0x02 ∷ 0x4C ∷ 0x00 ∷ 0x00 ∷ 0x00 ∷ [])
    (record { code = 5; consumed = 14; answers = 0x08 ∷ 0x00 ∷ 0x04 ∷ 0x14 ∷ []; finishing = 5 })
    (record { head = 6; count = 2; done = 2; carried = 0; bytes = 0 ∷ 0 ∷ 0 ∷ []; held = 5; devices = 1 }) ∷
    -- a kind that is not 01 to 07, after a valid record
    given (0x01 ∷ 0x01 ∷ 0x00 ∷ 0x00 ∷ 0x00 ∷ 0x02 ∷ 0x05 ∷ 0x14 ∷ 0x00 ∷ 0x00 ∷ 0x00 ∷ 0x00 ∷ 0x00 ∷ 0x00 ∷ [])
    (record { code = 3; consumed = 13; answers = 0x08 ∷ 0x00 ∷ []; finishing = 3 })
    (record { head = 6; count = 2; done = 1; carried = 3; bytes = 0 ∷ 0 ∷ 0 ∷ []; held = 3; devices = 1 }) ∷
    given (0x01 ∷ 0x01 ∷ 0x00 ∷ 0x00 ∷ 0x00 ∷ 0x02 ∷ 0x05 ∷ 0x14 ∷ 0x00 ∷ 0x00 ∷ 0x08 ∷ 0x80 ∷ 0x00 ∷ 0x00 ∷ [])
    (record { code = 3; consumed = 13; answers = 0x08 ∷ 0x00 ∷ []; finishing = 3 })
    (record { head = 6; count = 2; done = 1; carried = 3; bytes = 8 ∷ 128 ∷ 0 ∷ []; held = 3; devices = 1 }) ∷
    -- an operand that breaks the table
    given (0x01 ∷ 0x01 ∷ 0x00 ∷ 0x00 ∷ 0x00 ∷ 0x02 ∷ 0x02 ∷ 0x80 ∷ 0x00 ∷ 0x00 ∷ [])
    (record { code = 4; consumed = 9; answers = []; finishing = 4 })
    (record { head = 6; count = 2; done = 0; carried = 3; bytes = 2 ∷ 128 ∷ 0 ∷ []; held = 4; devices = 1 }) ∷
    given (0x01 ∷ 0x01 ∷ 0x00 ∷ 0x00 ∷ 0x00 ∷ 0x02 ∷ 0x05 ∷ 0x14 ∷ 0x00 ∷ 0x00 ∷ 0x02 ∷ 0x4C ∷ 0x00 ∷ 0x01 ∷ [])
    (record { code = 4; consumed = 13; answers = 0x08 ∷ 0x00 ∷ []; finishing = 4 })
    (record { head = 6; count = 2; done = 1; carried = 3; bytes = 2 ∷ 76 ∷ 0 ∷ []; held = 4; devices = 1 }) ∷
    -- request b: offset 127; 7 + 1016 eighths are exactly the end of the scale, 8 + 1016 are held
    given
    (0x01 ∷ 0x01 ∷ 0x00 ∷ 0x00 ∷ 0x00 ∷ 0x03 ∷ 0x01 ∷ 0x4C ∷ 0x11 ∷ 0x7F ∷ 0x05 ∷ 0x14 ∷ 0x00 ∷ 0xE0 ∷ 0x05 ∷ 0x14 ∷ 0x01 ∷ 0x00 ∷ [])
    (record { code = 0; consumed = 18; answers = 0x04 ∷ 0x00 ∷ 0x0B ∷ 0x00 ∷ 0x1B ∷ 0x00 ∷ []; finishing = 0 })
    (record { head = 6; count = 3; done = 3; carried = 0; bytes = 0 ∷ 0 ∷ 0 ∷ []; held = 0; devices = 1 }) ∷
    -- request c: a conversion of the second, then its local reading and that of the first
    given (0x02 ∷ 0x01 ∷ 0x02 ∷ 0x00 ∷ 0x00 ∷ 0x00 ∷ 0x03 ∷ 0x08 ∷ 0x14 ∷ 0x00 ∷ 0x00 ∷ 0x02 ∷ 0x4D ∷ 0x00 ∷ 0x00 ∷ 0x02 ∷ 0x4C ∷ 0x00 ∷ 0x00 ∷ [])
    (record { code = 0; consumed = 19; answers = 0x08 ∷ 0x00 ∷ 0x04 ∷ 0x14 ∷ 0x04 ∷ 0x00 ∷ []; finishing = 0 })
    (record { head = 7; count = 3; done = 3; carried = 0; bytes = 0 ∷ 0 ∷ 0 ∷ []; held = 0; devices = 2 }) ∷
    -- 09: an open diode reads 127, above the high limit and T_CRIT
    given (0x02 ∷ 0x01 ∷ 0x02 ∷ 0x00 ∷ 0x00 ∷ 0x00 ∷ 0x01 ∷ 0x09 ∷ 0x14 ∷ 0x00 ∷ 0x00 ∷ [])
    (record { code = 0; consumed = 11; answers = 0x0B ∷ 0x00 ∷ []; finishing = 0 })
    (record { head = 7; count = 1; done = 1; carried = 0; bytes = 0 ∷ 0 ∷ 0 ∷ []; held = 0; devices = 2 }) ∷
    []

abbrev of_whole : Whole → Summary
of_whole w = summed w.code w.consumed w.answers w.finishing w.reader

pub wholes : map (λ (x : Example). of_whole (whole_of x.capture)) captures ≡ map (λ (x : Example). x.summary) captures
unfolding capture_opened
wholes = refl

-- ---- rooms

pub record Roomed : Type 0 where
  pub capture : List ℕ
  pub room : ℕ
  pub summary : Summary

abbrev with_room : List ℕ → ℕ → Told → Standing → Roomed
with_room capture room told standing = record { capture = capture; room = room; summary = record { told = told; standing = standing } }

-- 3 and 4 come before 7, and 5 needs no room
abbrev pub roomed : List Roomed
roomed =
    with_room (0x01 ∷ 0x01 ∷ 0x00 ∷ 0x00 ∷ 0x00 ∷ 0x02 ∷ 0x05 ∷ 0x14 ∷ 0x00 ∷ 0x00 ∷ 0x02 ∷ 0x4C ∷ 0x00 ∷ 0x00 ∷ []) 0
    (record { code = 7; consumed = 9; answers = []; finishing = 6 })
    (record { head = 6; count = 2; done = 0; carried = 3; bytes = 5 ∷ 20 ∷ 0 ∷ []; held = 0; devices = 1 }) ∷
    with_room (0x01 ∷ 0x01 ∷ 0x00 ∷ 0x00 ∷ 0x00 ∷ 0x02 ∷ 0x05 ∷ 0x14 ∷ 0x00 ∷ 0x00 ∷ 0x02 ∷ 0x4C ∷ 0x00 ∷ 0x00 ∷ []) 1
    (record { code = 7; consumed = 9; answers = []; finishing = 6 })
    (record { head = 6; count = 2; done = 0; carried = 3; bytes = 5 ∷ 20 ∷ 0 ∷ []; held = 0; devices = 1 }) ∷
    with_room (0x01 ∷ 0x01 ∷ 0x00 ∷ 0x00 ∷ 0x00 ∷ 0x02 ∷ 0x05 ∷ 0x14 ∷ 0x00 ∷ 0x00 ∷ 0x02 ∷ 0x4C ∷ 0x00 ∷ 0x00 ∷ []) 2
    (record { code = 7; consumed = 13; answers = 0x08 ∷ 0x00 ∷ []; finishing = 6 })
    (record { head = 6; count = 2; done = 1; carried = 3; bytes = 2 ∷ 76 ∷ 0 ∷ []; held = 0; devices = 1 }) ∷
    with_room (0x01 ∷ 0x01 ∷ 0x00 ∷ 0x00 ∷ 0x00 ∷ 0x02 ∷ 0x05 ∷ 0x14 ∷ 0x00 ∷ 0x00 ∷ 0x02 ∷ 0x4C ∷ 0x00 ∷ 0x00 ∷ []) 3
    (record { code = 7; consumed = 13; answers = 0x08 ∷ 0x00 ∷ []; finishing = 6 })
    (record { head = 6; count = 2; done = 1; carried = 3; bytes = 2 ∷ 76 ∷ 0 ∷ []; held = 0; devices = 1 }) ∷
    with_room (0x01 ∷ 0x01 ∷ 0x00 ∷ 0x00 ∷ 0x00 ∷ 0x02 ∷ 0x05 ∷ 0x14 ∷ 0x00 ∷ 0x00 ∷ 0x02 ∷ 0x4C ∷ 0x00 ∷ 0x00 ∷ []) 4
    (record { code = 0; consumed = 14; answers = 0x08 ∷ 0x00 ∷ 0x04 ∷ 0x14 ∷ []; finishing = 0 })
    (record { head = 6; count = 2; done = 2; carried = 0; bytes = 0 ∷ 0 ∷ 0 ∷ []; held = 0; devices = 1 }) ∷
    with_room (0x01 ∷ 0x01 ∷ 0x00 ∷ 0x00 ∷ 0x00 ∷ 0x02 ∷ 0x05 ∷ 0x14 ∷ 0x00 ∷ 0x00 ∷ 0x02 ∷ 0x4C ∷ 0x00 ∷ 0x00 ∷ []) 5
    (record { code = 0; consumed = 14; answers = 0x08 ∷ 0x00 ∷ 0x04 ∷ 0x14 ∷ []; finishing = 0 })
    (record { head = 6; count = 2; done = 2; carried = 0; bytes = 0 ∷ 0 ∷ 0 ∷ []; held = 0; devices = 1 }) ∷
    with_room (0x01 ∷ 0x01 ∷ 0x00 ∷ 0x00 ∷ 0x00 ∷ 0x02 ∷ 0x00 ∷ 0x00 ∷ 0x00 ∷ 0x00 ∷ []) 0
    (record { code = 3; consumed = 9; answers = []; finishing = 3 })
    (record { head = 6; count = 2; done = 0; carried = 3; bytes = 0 ∷ 0 ∷ 0 ∷ []; held = 3; devices = 1 }) ∷
    with_room (0x01 ∷ 0x01 ∷ 0x00 ∷ 0x00 ∷ 0x00 ∷ 0x02 ∷ 0x02 ∷ 0x80 ∷ 0x00 ∷ 0x00 ∷ []) 1
    (record { code = 4; consumed = 9; answers = []; finishing = 4 })
    (record { head = 6; count = 2; done = 0; carried = 3; bytes = 2 ∷ 128 ∷ 0 ∷ []; held = 4; devices = 1 }) ∷
    with_room (0x01 ∷ 0x01 ∷ 0x00 ∷ 0x00 ∷ 0x00 ∷ 0x02 ∷ 0x05 ∷ 0x14 ∷ 0x00 ∷ 0x00 ∷ 0x02 ∷ 0x4C ∷ 0x00 ∷ 0x00 ∷ 0x09 ∷ []) 4
    (record { code = 5; consumed = 14; answers = 0x08 ∷ 0x00 ∷ 0x04 ∷ 0x14 ∷ []; finishing = 5 })
    (record { head = 6; count = 2; done = 2; carried = 0; bytes = 0 ∷ 0 ∷ 0 ∷ []; held = 5; devices = 1 }) ∷
    with_room (0x01 ∷ 0x01 ∷ 0x00 ∷ 0x00 ∷ 0x00 ∷ 0x02 ∷ 0x05 ∷ 0x14 ∷ 0x00 ∷ 0x00 ∷ 0x05 ∷ 0x01 ∷ 0x01 ∷ []) 2
    (record { code = 0; consumed = 13; answers = 0x08 ∷ 0x00 ∷ []; finishing = 6 })
    (record { head = 6; count = 2; done = 1; carried = 3; bytes = 5 ∷ 1 ∷ 1 ∷ []; held = 0; devices = 1 }) ∷
    with_room (0x01 ∷ 0x01 ∷ 0x00 ∷ 0x00 ∷ 0x00 ∷ 0x02 ∷ 0x05 ∷ 0x14 ∷ 0x00 ∷ 0x00 ∷ 0x05 ∷ 0x01 ∷ 0x01 ∷ []) 0
    (record { code = 7; consumed = 9; answers = []; finishing = 6 })
    (record { head = 6; count = 2; done = 0; carried = 3; bytes = 5 ∷ 20 ∷ 0 ∷ []; held = 0; devices = 1 }) ∷
    []

abbrev of_call : Out → Summary
of_call o = summed o.code o.consumed o.answers (finish_of o.reader) o.reader

pub calls : map (λ (x : Roomed). of_call (call_of fresh_of x.capture x.room)) roomed ≡ map (λ (x : Roomed). x.summary) roomed
unfolding capture_opened
calls = refl

-- ---- ranges

-- a state whose one device is of this variant, and as after power-on
abbrev at : ℕ → ℕ → ℕ → ℕ → List ℕ → ℕ → ℕ → Reader
at head count done carried bytes held variant =
    hold_of (with_carried (with_done (heading head count (first_taken 1 variant)) done) carried bytes) held

pub record Ended : Type 0 where
  pub reader : Reader
  pub within : Bool

abbrev state : Reader → Bool → Ended
state reader within = record { reader = reader; within = within }

abbrev pub ends : List Ended
ends =
    -- in the records
    state (at 6 2 1 0 (0 ∷ 0 ∷ 0 ∷ []) 0 1) true ∷
    -- header bytes taken at most 6 with one device
    state (at 7 2 0 0 (0 ∷ 0 ∷ 0 ∷ []) 0 1) false ∷
    -- record bytes carried 0 to 3, unused places 0
    state (at 6 2 1 3 (1 ∷ 2 ∷ 3 ∷ []) 0 1) true ∷
    state (at 6 2 1 4 (1 ∷ 2 ∷ 3 ∷ []) 0 1) false ∷
    state (at 6 2 1 1 (1 ∷ 0 ∷ 0 ∷ []) 0 1) true ∷
    state (at 6 2 1 1 (1 ∷ 2 ∷ 0 ∷ []) 0 1) false ∷
    state (at 6 2 1 2 (1 ∷ 2 ∷ 3 ∷ []) 0 1) false ∷
    state (at 6 2 1 0 (1 ∷ 0 ∷ 0 ∷ []) 0 1) false ∷
    -- none before the header is complete or once all records are done
    state (at 5 2 0 1 (1 ∷ 0 ∷ 0 ∷ []) 0 1) false ∷
    state (at 6 2 2 1 (1 ∷ 0 ∷ 0 ∷ []) 0 1) false ∷
    state (at 6 2 2 0 (0 ∷ 0 ∷ 0 ∷ []) 0 1) true ∷
    -- variant 1 to 3 once two header bytes are taken
    state (at 1 0 0 0 (0 ∷ 0 ∷ 0 ∷ []) 0 0) true ∷
    state (at 2 0 0 0 (0 ∷ 0 ∷ 0 ∷ []) 0 0) false ∷
    state (at 2 0 0 0 (0 ∷ 0 ∷ 0 ∷ []) 0 3) true ∷
    state (at 2 0 0 0 (0 ∷ 0 ∷ 0 ∷ []) 0 4) false ∷
    -- the partial record count below 256 to the power of the count bytes taken
    state (at 2 1 0 0 (0 ∷ 0 ∷ 0 ∷ []) 0 1) false ∷
    state (at 3 255 0 0 (0 ∷ 0 ∷ 0 ∷ []) 0 1) true ∷
    state (at 3 256 0 0 (0 ∷ 0 ∷ 0 ∷ []) 0 1) false ∷
    state (at 4 65535 0 0 (0 ∷ 0 ∷ 0 ∷ []) 0 1) true ∷
    state (at 4 65536 0 0 (0 ∷ 0 ∷ 0 ∷ []) 0 1) false ∷
    state (at 5 16777215 0 0 (0 ∷ 0 ∷ 0 ∷ []) 0 1) true ∷
    state (at 5 16777216 0 0 (0 ∷ 0 ∷ 0 ∷ []) 0 1) false ∷
    state (at 6 4294967295 0 0 (0 ∷ 0 ∷ 0 ∷ []) 0 1) true ∷
    -- records done at most the count, and 0 before the header is complete
    state (at 6 2 3 0 (0 ∷ 0 ∷ 0 ∷ []) 0 1) false ∷
    state (at 5 2 1 0 (0 ∷ 0 ∷ 0 ∷ []) 0 1) false ∷
    -- held code 0 to 5; 9 stands in PairExamples.antt
    state (at 6 2 1 0 (0 ∷ 0 ∷ 0 ∷ []) 5 1) true ∷
    state (at 6 2 1 0 (0 ∷ 0 ∷ 0 ∷ []) 6 1) false ∷
    []

pub tested : map (λ (e : Ended). ranges_of e.reader) ends ≡ map (λ (e : Ended). e.within) ends
unfolding capture_opened
tested = refl
