-- The writers' codes, line by line: which code a writer gives, and exactly when.
-- Assumes nothing.
use Rattle.std.specs.Prelude.{ℕ, ◌≤◌, ◌<◌, ◌≡◌, true, false, ◌&&◌}
use Rattle.device.specs.declared.Event.{Event}
use Rattle.device.specs.Ranges.{variant_of, operands_of}
use Rattle.record.specs.Writer.{one_address_of}

-- writing event e into some room gives this code
pub data WritesEvent (e : Event) (room : ℕ) : ℕ → Type 0 where
  -- 4: an operand outside the table
  operand : operands_of e ≡ false → WritesEvent e room 4
  -- 7: fewer than four bytes of room
  no_room : operands_of e ≡ true → room < 4 → WritesEvent e room 7
  -- 0: none of the others applies
  written : operands_of e ≡ true → 4 ≤ room → WritesEvent e room 0

-- writing a header of one device into some room gives this code
pub data WritesHeader (variant count room : ℕ) : ℕ → Type 0 where
  -- 2: variant is not 1, 2 or 3
  variant : variant_of variant ≡ false → WritesHeader variant count room 2
  -- 7: fewer than six bytes of room
  no_room : variant_of variant ≡ true → room < 6 → WritesHeader variant count room 7
  -- 0: none of the others applies
  written : variant_of variant ≡ true → 6 ≤ room → WritesHeader variant count room 0

-- request c: writing a header of two devices into some room gives this code
pub data WritesHeader2 (first second count room : ℕ) : ℕ → Type 0 where
  -- 2: a variant is not 1, 2 or 3
  variant : (variant_of first && variant_of second) ≡ false → WritesHeader2 first second count room 2
  -- 9: both have one address
  address : (variant_of first && variant_of second) ≡ true → one_address_of first second ≡ true → WritesHeader2 first second count room 9
  -- 7: fewer than seven bytes of room
  no_room : (variant_of first && variant_of second) ≡ true → one_address_of first second ≡ false → room < 7 → WritesHeader2 first second count room 7
  -- 0: none of the others applies
  written : (variant_of first && variant_of second) ≡ true → one_address_of first second ≡ false → 7 ≤ room → WritesHeader2 first second count room 0
