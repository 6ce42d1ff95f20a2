-- The program's detour: it keeps no record, but what those read make of every earlier latch and fault count, and with each record more works that out anew.
-- Nothing of document 02 stands here; `proofs/Tables.antt` says that it is `decided_of`, and T_CRIT_A after the records read.
-- Assumes nothing.
use Rattle.std.specs.Prelude.{ℕ, Bool, true, false, ◌&&◌, cond, List, [], ◌∷◌, ℤ, eqb, slice_index, Result, Ok, Err}
use Rattle.temperature.specs.Temperature.{open_reading, cleared_of}
use Rattle.registers.specs.Page.{setting_of}
use Rattle.conversion.specs.Conversion.{reading_of, latch_of, local_of, local_out_of, faults_of, remote_shown_of}
use Rattle.device.specs.declared.Device.{Device}
use Rattle.device.specs.Pins.{tcrit_of}
use Rattle.record.specs.declared.refusal.Refusal.{Refusal}
use Rattle.record.specs.Record.{Record}
use Rattle.record.specs.Fours.{Quad}
use Rattle.soak.specs.declared.Made.{Made}
use Rattle.soak.specs.declared.Ends.{Ends}
use Rattle.soak.specs.Soak.{met_of, supposing, alike}

-- ---- a record

abbrev pub quad : ℕ → ℕ → ℕ → ℕ → Quad
quad kind a b c = record { kind = kind; a = a; b = b; c = c }

-- of four bytes
abbrev pub quad_in : List ℕ → Quad
quad_in bytes = quad (slice_index bytes 0) (slice_index bytes 1) (slice_index bytes 2) (slice_index bytes 3)

-- P2: the remote reading of a 05 or 06, in eighths
unfoldable pub remote_of : List ℕ → ℕ → ℕ → ℕ → ℤ
remote_of s kind b c = cond (eqb kind 0x06) open_reading.eighths (reading_of s b c).eighths

-- what a record that is read as an event tells, else why it is refused
abbrev pub told_if : Record → ℕ → ℤ → Result (ℕ × ℤ) Refusal
told_if (Ok e) local remote = Ok (local, remote)
told_if (Err why) local remote = Err why

-- the local byte and the remote reading of a valid 05 or 06
abbrev pub readings_of : List ℕ → Quad → Result (ℕ × ℤ) Refusal
readings_of s q = told_if (met_of q) q.a (remote_of s q.kind q.b q.c)

-- ---- what the records read make of an earlier latch

-- none is read: a latch is what it was
abbrev pub same : Made
same = record { clear = false; set = true }

abbrev pub began_of : Ends
began_of = record { local = same; none = same; one = same; more = same }

abbrev pub made_of : Made → Bool → Bool
made_of m latch = cond latch m.set m.clear

-- P8: with one conversion more before them
abbrev pub through_of : Made → Bool → Bool → Made
through_of m critical cleared = record { clear = made_of m (latch_of critical cleared false); set = made_of m (latch_of critical cleared true) }

-- of the remote latch, by the fault count; 2 and 3 are alike
abbrev pub counted_of : Ends → ℕ → Made
counted_of t faults = cond (eqb faults 0) t.none (cond (eqb faults 1) t.one t.more)

unfoldable pub local_before : List ℕ → Ends → ℕ → Made
local_before s t local = through_of t.local (local_out_of s local).crit (cleared_of (local_of local) (setting_of s 0x20) (setting_of s 0x21))

-- P4: from this fault count
unfoldable pub remote_before : List ℕ → Ends → ℤ → ℕ → Made
remote_before s t remote faults =
    through_of (counted_of t (faults_of s faults remote)) (remote_shown_of s faults remote).crit (cleared_of remote (setting_of s 0x19) (setting_of s 0x21))

unfoldable pub before_of : List ℕ → Ends → ℕ → ℤ → Ends
before_of s t local remote =
    record { local = local_before s t local; none = remote_before s t remote 0; one = remote_before s t remote 1; more = remote_before s t remote 2 }

-- ---- what that tells

unfoldable pub decided_by : Ends → Bool
decided_by t =
    alike (t.local.clear ∷ t.local.set ∷ [])
    && alike (t.none.clear ∷ t.none.set ∷ t.one.clear ∷ t.one.set ∷ t.more.clear ∷ t.more.set ∷ [])

unfoldable pub pulled_by : Device → Ends → Bool
pulled_by d t =
    let n = d.sensed in
    tcrit_of (supposing d n.faults (made_of t.local n.llatch) (made_of (counted_of t n.faults) n.rlatch))
