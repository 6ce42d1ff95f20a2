-- The writers' codes, both ways: `event_exactly`, `header_exactly` and `header2_exactly`, each code is given exactly if its line of the table says so.
-- Assumes nothing.
use Prim.Native.Nat.{ℕ}
use mathlib.Core.Path.{◌≡◌}
use mathlib.Core.Logic.{◌↔◌}
use mathlib.Core.Bool.{◌&&◌}
use lib.Dec.{leb}
use borrow.Author.Tests.{leb-true, leb-false, le-leb, lt-leb}
use Rattle.laws.proofs.Choices.{cond_ind}
use Rattle.laws.proofs.Exactly.{by_lines}
use Rattle.device.specs.declared.Event.{Event}
use Rattle.device.specs.Ranges.{variant_of, operands_of}
use Rattle.record.specs.Writer.{Writing, write_event_of, write_header_of, one_address_of, write_header2_of}
use Rattle.record.specs.Codes.{WritesEvent, WritesHeader, WritesHeader2}

-- ---- an event

module _ (e : Event) (room : ℕ) where
  writes_event : (code : ℕ) → WritesEvent e room code → (write_event_of e room).code ≡ code
  unfolding write_event_of
  writes_event _ (WritesEvent.operand bad) = simp bad
  writes_event _ (WritesEvent.no_room good l) = simp (good, lt-leb 4 room l)
  writes_event _ (WritesEvent.written good l) = simp (good, le-leb 4 room l)

  event_writes : WritesEvent e room (write_event_of e room).code
  unfolding write_event_of
  event_writes =
      cond_ind Line (operands_of e)
      (λ good. cond_ind Line (leb 4 room) (λ l. WritesEvent.written good (leb-true 4 room l)) (λ l. WritesEvent.no_room good (leb-false 4 room l)))
      WritesEvent.operand
    where
      Line : Writing → Type 0
      Line w = WritesEvent e room w.code

  pub event_exactly : (code : ℕ) → ((write_event_of e room).code ≡ code) ↔ WritesEvent e room code
  event_exactly = by_lines (WritesEvent e room) _ event_writes writes_event

-- ---- a header

module _ (variant count room : ℕ) where
  writes_header : (code : ℕ) → WritesHeader variant count room code → (write_header_of variant count room).code ≡ code
  unfolding write_header_of
  writes_header _ (WritesHeader.variant bad) = simp bad
  writes_header _ (WritesHeader.no_room good l) = simp (good, lt-leb 6 room l)
  writes_header _ (WritesHeader.written good l) = simp (good, le-leb 6 room l)

  header_writes : WritesHeader variant count room (write_header_of variant count room).code
  unfolding write_header_of
  header_writes =
      cond_ind Line (variant_of variant)
      (λ good. cond_ind Line (leb 6 room) (λ l. WritesHeader.written good (leb-true 6 room l)) (λ l. WritesHeader.no_room good (leb-false 6 room l)))
      WritesHeader.variant
    where
      Line : Writing → Type 0
      Line w = WritesHeader variant count room w.code

  pub header_exactly : (code : ℕ) → ((write_header_of variant count room).code ≡ code) ↔ WritesHeader variant count room code
  header_exactly = by_lines (WritesHeader variant count room) _ header_writes writes_header

-- ---- a header of two devices

module _ (first second count room : ℕ) where
  writes_header2 : (code : ℕ) → WritesHeader2 first second count room code → (write_header2_of first second count room).code ≡ code
  unfolding write_header2_of
  writes_header2 _ (WritesHeader2.variant bad) = simp bad
  writes_header2 _ (WritesHeader2.address good same) = simp (good, same)
  writes_header2 _ (WritesHeader2.no_room good apart l) = simp (good, apart, lt-leb 7 room l)
  writes_header2 _ (WritesHeader2.written good apart l) = simp (good, apart, le-leb 7 room l)

  header2_writes : WritesHeader2 first second count room (write_header2_of first second count room).code
  unfolding write_header2_of
  header2_writes =
      cond_ind Line (variant_of first && variant_of second)
      (λ good. cond_ind Line (one_address_of first second) (WritesHeader2.address good)
      (λ apart. cond_ind Line (leb 7 room)
      (λ l. WritesHeader2.written good apart (leb-true 7 room l)) (λ l. WritesHeader2.no_room good apart (leb-false 7 room l))))
      WritesHeader2.variant
    where
      Line : Writing → Type 0
      Line w = WritesHeader2 first second count room w.code

  pub header2_exactly : (code : ℕ) → ((write_header2_of first second count room).code ≡ code) ↔ WritesHeader2 first second count room code
  header2_exactly = by_lines (WritesHeader2 first second count room) _ header2_writes writes_header2
