-- The writer of record bytes against the writer of events. `is_event`: if the bytes read as an event, it is that event's writer.
-- `is_the_writer`: so it is for the four bytes that any event is written as. `is_refused`: if they do not read as one, it gives the decoder's
-- 3 or 4. `one_record`: two results that meet the promise are equal, and so are their buffers.
-- Assumes nothing.
use Prim.Native.Nat.{ℕ}
use mathlib.Core.Path.{◌≡◌, refl, ◌∙◌}
use mathlib.Core.List.{List}
use lib.ListN.{length, get_or}
use Rattle.laws.proofs.Choices.{by_test}
use Rattle.device.specs.declared.Event.{Event}
use Rattle.device.specs.Ranges.{operands_of}
use Rattle.std.specs.Prelude.{Ok, Err}
use Rattle.record.specs.declared.refusal.Refusal.{Refusal}
use Rattle.record.specs.declared.refusal.Refusal.TheVariants.{Kind, Operand}
use Rattle.record.specs.Record.{decode_of, code_of, encode_of}
use Rattle.record.specs.Writer.{write_event_of, refuses, write_code_of, of_record, WroteEvent}
use Rattle.record.proofs.RoundTrip.{reads_back, reads_refused, only_those}
use Rattle.record.proofs.Writings.{one_writing}
use Rattle.bench_write.specs.BenchWrite.{write_bytes_of, WroteBytes}

module _ (kind a b c room : ℕ) where
  pub is_event : (e : Event) → decode_of 2 kind a b c ≡ Ok e → write_bytes_of kind a b c room ≡ write_event_of e room
  unfolding write_bytes_of write_event_of code_of
  is_event e q = let told = only_those 2 kind a b c e q in rw (q, told.operands, ← told.bytes)

  pub is_refused : (why : Refusal) → decode_of 2 kind a b c ≡ Err why → write_bytes_of kind a b c room ≡ refuses (code_of (Err why))
  unfolding write_bytes_of code_of
  is_refused Kind q = rw q
  is_refused Operand q = rw q

-- ---- what the call returns

pub same_code : (why : Refusal) → write_code_of (Err (of_record why)) ≡ code_of (Err why)
unfolding code_of
same_code Kind = refl
same_code Operand = refl

module _ (kind a b c : ℕ) {entry : List ℕ} where
  pub refused : (why : Refusal) → decode_of 2 kind a b c ≡ Err why → WroteBytes kind a b c (code_of (Err why)) entry entry
  refused why q = rw (is_refused kind a b c (length entry) why q) (record { told = refl; buffer = refl })

  pub written : {code : ℕ} {exit : List ℕ} (e : Event) → decode_of 2 kind a b c ≡ Ok e → WroteEvent e code entry exit → WroteBytes kind a b c code entry exit
  written e q w = rw (is_event kind a b c (length entry) e q) w

pub is_the_writer : (e : Event) (room : ℕ)
    → write_bytes_of (get_or (encode_of e) 0 0) (get_or (encode_of e) 1 0) (get_or (encode_of e) 2 0) (get_or (encode_of e) 3 0) room ≡ write_event_of e room
unfolding write_event_of code_of
is_the_writer e room =
    by_test (operands_of e) (λ h. is_event _ _ _ _ room e (reads_back 2 e h (λ _. refl)))
    (λ h. is_refused _ _ _ _ room Operand (reads_refused 2 e h (λ _. refl)) ∙ rw h)

pub one_record : (kind a b c : ℕ) {code code' : ℕ} {entry exit exit' : List ℕ}
    → WroteBytes kind a b c code entry exit → WroteBytes kind a b c code' entry exit' → (code ≡ code') × (exit ≡ exit')
one_record kind a b c p q = one_writing p q
