-- The bench: one call takes a whole capture and an answer buffer. All is said by the whole-capture definition.
-- Assumes nothing.
use Rattle.std.specs.Prelude.{ℕ, ◌+◌, ◌*◌, ◌/◌, ◌≡◌, cond, List, ◌++◌, leb, eqb, length, take, drop}
use Rattle.capture.specs.declared.Reader.{Reader}
use Rattle.capture.specs.Reader.{end_of}
use Rattle.capture.specs.Whole.{Whole, whole_of}

-- the code, and the answer bytes that go to the front of the buffer
pub record Bench : Type 0 where
  pub code : ℕ
  pub answers : List ℕ

-- the reader's code if not 0, else the finishing one
abbrev pub last_code : Whole → ℕ
last_code w = cond (eqb w.code 0) w.finishing w.code

-- the same of a call's code and state
abbrev pub last_of : ℕ → Reader → ℕ
last_of code reader = cond (eqb code 0) (end_of reader) code

-- room for every answer
abbrev pub roomy : Whole → Bench
roomy w = record { code = last_code w; answers = w.answers }

-- short room: 7, and the pairs that fit
abbrev pub short : Whole → ℕ → Bench
short w room = record { code = 7; answers = take (room / 2 * 2) w.answers }

unfoldable pub bench_of : List ℕ → ℕ → Bench
bench_of capture room =
    cond (leb (length (whole_of capture).answers) room) (roomy (whole_of capture)) (short (whole_of capture) room)

-- sixteen times the answer bytes written, plus the code; every other byte of the buffer is as it was
pub record Ran (b : Bench) (result : ℕ) (entry exit : List ℕ) : Type 0 where
  pub told : result ≡ length b.answers * 16 + b.code
  pub buffer : exit ≡ b.answers ++ drop (length b.answers) entry

-- of a capture, with a buffer that held `entry`
abbrev pub RanWhole : List ℕ → ℕ → List ℕ → List ℕ → Type 0
RanWhole capture result entry exit = Ran (bench_of capture (length entry)) result entry exit
