-- The ways out of a writer, and that its promise has one answer: `one_writing` and `one_result`, and so
-- `one_event`, `one_header`, `one_header_2`.
-- Assumes nothing.
use mathlib.Core.Path.{◌≡◌, refl, sym, ap, ◌∙◌}
use mathlib.Core.Bool.{true, false, cond, ◌&&◌}
use lib.Dec.{eqb}
use Rattle.std.specs.Prelude.{Result, Ok, Err}
use Rattle.record.specs.declared.refusal.WriteRefusal.{WriteRefusal}
use Rattle.record.specs.declared.refusal.WriteRefusal.TheVariants.{Variant, Kind, Operand, Room, OneAddress}
use mathlib.Core.List.{List, [], ◌∷◌}
use Prim.Native.Nat.{ℕ}
use Rattle.device.specs.declared.Event.{Event}
use Rattle.device.specs.Ranges.{variant_of, operands_of}
use Rattle.record.specs.Record.{encode_of}
use Rattle.record.specs.Writer.{Writing, refuses, write_code_of, fitting_of, header_of, write_event_of, write_header_of, one_address_of, write_header2_of}
use Rattle.record.specs.Writer.{Wrote, WroteEvent, WroteHeader, WroteHeader2}

pub refused : (code : ℕ) (entry : List ℕ) → Wrote (refuses code) code entry entry
refused code entry = record { told = refl; buffer = refl }

-- no two results have one code
abbrev of_code : ℕ → Result (Unit {0}) WriteRefusal
of_code code =
    cond (eqb code 0) (Ok tt) (cond (eqb code 2) (Err Variant) (cond (eqb code 3) (Err Kind) (cond (eqb code 4) (Err Operand)
    (cond (eqb code 7) (Err Room) (Err OneAddress)))))

of_its_code : (r : Result (Unit {0}) WriteRefusal) → of_code (write_code_of r) ≡ r
of_its_code (Ok done) = refl
of_its_code (Err Variant) = refl
of_its_code (Err Kind) = refl
of_its_code (Err Operand) = refl
of_its_code (Err Room) = refl
of_its_code (Err OneAddress) = refl

pub one_result : (r s : Result (Unit {0}) WriteRefusal) → write_code_of r ≡ write_code_of s → r ≡ s
one_result r s same = sym (of_its_code r) ∙ ap of_code same ∙ of_its_code s

-- two results that meet one promise are equal, and so are their buffers
pub one_writing : {w : Writing} {code code' : ℕ} {entry exit exit' : List ℕ}
    → Wrote w code entry exit → Wrote w code' entry exit' → (code ≡ code') × (exit ≡ exit')
one_writing a b = (a.told ∙ sym b.told, a.buffer ∙ sym b.buffer)

pub one_event : (e : Event) {code code' : ℕ} {entry exit exit' : List ℕ}
    → WroteEvent e code entry exit → WroteEvent e code' entry exit' → (code ≡ code') × (exit ≡ exit')
one_event e a b = one_writing a b

pub one_header : (variant count : ℕ) {code code' : ℕ} {entry exit exit' : List ℕ}
    → WroteHeader variant count code entry exit → WroteHeader variant count code' entry exit' → (code ≡ code') × (exit ≡ exit')
one_header variant count a b = one_writing a b

pub one_header_2 : (first second count : ℕ) {code code' : ℕ} {entry exit exit' : List ℕ}
    → WroteHeader2 first second count code entry exit → WroteHeader2 first second count code' entry exit' → (code ≡ code') × (exit ≡ exit')
one_header_2 first second count a b = one_writing a b

-- ---- an event, a header, and a header of two devices: refused, or its bytes if they fit

module _ (e : Event) (room : ℕ) {entry : List ℕ} where
  pub event_refused : operands_of e ≡ false → Wrote (write_event_of e room) 4 entry entry
  unfolding write_event_of
  event_refused g = rw g (refused 4 entry)

  pub event_fits : {code : ℕ} {exit : List ℕ} → operands_of e ≡ true
      → Wrote (fitting_of 4 room (encode_of e)) code entry exit → Wrote (write_event_of e room) code entry exit
  unfolding write_event_of
  event_fits g w = rw g w

module _ (variant count room : ℕ) {entry : List ℕ} where
  pub header_refused : variant_of variant ≡ false → Wrote (write_header_of variant count room) 2 entry entry
  unfolding write_header_of
  header_refused g = rw g (refused 2 entry)

  pub header_fits : {code : ℕ} {exit : List ℕ} → variant_of variant ≡ true
      → Wrote (fitting_of 6 room (header_of (variant ∷ []) count)) code entry exit → Wrote (write_header_of variant count room) code entry exit
  unfolding write_header_of
  header_fits g w = rw g w

module _ (first second count room : ℕ) {entry : List ℕ} where
  pub header_2_refused : (variant_of first && variant_of second) ≡ false → Wrote (write_header2_of first second count room) 2 entry entry
  unfolding write_header2_of
  header_2_refused g = rw g (refused 2 entry)

  module _ (good : (variant_of first && variant_of second) ≡ true) where
    pub header_2_address : one_address_of first second ≡ true → Wrote (write_header2_of first second count room) 9 entry entry
    unfolding write_header2_of
    header_2_address same = rw (good, same) (refused 9 entry)

    pub header_2_fits : {code : ℕ} {exit : List ℕ} → one_address_of first second ≡ false
        → Wrote (fitting_of 7 room (header_of (first ∷ second ∷ []) count)) code entry exit → Wrote (write_header2_of first second count room) code entry exit
    unfolding write_header2_of
    header_2_fits apart w = rw (good, apart) w
