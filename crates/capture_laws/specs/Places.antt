-- Where a call stands when it ends, by its code: how far it has consumed, and what keeps it from going further.
-- Assumes nothing.
use Rattle.std.specs.Prelude.{ℕ, ◌+◌, ◌*◌, ◌<◌, ◌≡◌, true, List, [], length, get_or, take}
use Rattle.capture.specs.declared.Reader.{Reader}
use Rattle.capture.specs.Reader.{Out, hold_of, quiet_of, turn_of, call_of}
use Rattle.capture_laws.specs.Codes.{lasting_of}

-- nothing consumed, nothing written, the state as given
pub record Unmoved (s : Reader) (o : Out) : Type 0 where
  pub consumed : o.consumed ≡ 0
  pub answers : o.answers ≡ []
  pub reader : o.reader ≡ s

-- the byte at a place, from 0
abbrev pub byte_at : List ℕ → ℕ → ℕ
byte_at xs place = get_or xs place 0

-- code 0: so many bytes consumed, these answers written, this state reached
abbrev pub taken_of : ℕ → List ℕ → Reader → Out
taken_of consumed answers s = record { code = 0; consumed = consumed; answers = answers; reader = s }

-- the call ends before a byte. A call with the bytes before it alone takes them all, writes the same answers, and leads to `before`
pub record EndsBefore (s : Reader) (xs : List ℕ) (room : ℕ) (o : Out) (before : Reader) : Type 0 where
  pub there : o.consumed < length xs
  pub front : call_of s (take o.consumed xs) room ≡ taken_of o.consumed o.answers before

-- 1 to 5, and 9: from the state before it the byte is refused with the code, and the end state is that state, holding the code
pub record Refuses (s : Reader) (xs : List ℕ) (room : ℕ) (o : Out) : Type 0 where
  pub before : Reader
  pub place : EndsBefore s xs room o before
  pub judged : turn_of before (byte_at xs o.consumed) ≡ quiet_of (hold_of before o.code)
  pub reader : o.reader ≡ hold_of before o.code

-- 7: from the state before it, which is the end state, the byte completes a valid record, and fewer than two bytes of room are left
pub record Waits (s : Reader) (xs : List ℕ) (room : ℕ) (o : Out) : Type 0 where
  pub place : EndsBefore s xs room o o.reader
  pub taken : (turn_of o.reader (byte_at xs o.consumed)).reader.held ≡ 0
  pub pair : (turn_of o.reader (byte_at xs o.consumed)).pair ≡ true
  pub few : room < length o.answers + 2

-- a call from state s with bytes xs and some room, ended with this outcome
pub record Stands (s : Reader) (xs : List ℕ) (room : ℕ) (o : Out) : Type 0 where
  -- 0: every byte is consumed
  pub done : o.code ≡ 0 → o.consumed ≡ length xs
  -- 8, and a lasting code already held
  pub out_of_ranges : o.code ≡ 8 → Unmoved s o
  pub held : (s.held ≡ 0 → ⊥) → Unmoved s o
  -- 1 to 5 and 9, none held before
  pub refuses : s.held ≡ 0 → lasting_of o.code ≡ true → Refuses s xs room o
  -- 7
  pub waits : o.code ≡ 7 → Waits s xs room o

-- the bytes of a capture that a state has taken: those of the header, four for each record done, and the carried ones
abbrev pub consumed_of : Reader → ℕ
consumed_of s = s.head + s.done * 4 + s.carried
