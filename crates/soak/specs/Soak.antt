-- Request f, is T_CRIT_A pulled at the end of a long soak? One device's state in run mode, and a stretch of records of four bytes under its one setup, read
-- from the end backwards only until both channels are decided or the start is reached.
-- Assumes nothing.
use Rattle.std.specs.Prelude.{ℕ, ◌+◌, ◌%◌, ◌≤◌, ◌≡◌, Bool, true, false, not, ◌||◌, ◌&&◌, cond, List, [], ◌∷◌, map, reverse, eqb, length}
use Rattle.conversion.specs.Channels.{Channel, local_channel, remote_channel, latch_at}
use Rattle.device.specs.declared.Device.{Device}
use Rattle.device.specs.declared.Event.{Event}
use Rattle.device.specs.Pins.{tcrit_of}
use Rattle.device.specs.Bus.{standby_of}
use Rattle.device.specs.Ranges.{all_true, variant_of, ranged_of}
use Rattle.device.specs.Run.{after_of}
use Rattle.record.specs.Record.{Record}
use Rattle.std.specs.Prelude.{Ok, Err}
use Rattle.record.specs.declared.refusal.Refusal.TheVariants.{Kind}
use Rattle.record.specs.Record.{code_of}
use Rattle.record.specs.Fours.{Quad, quads, quad_of}
use Rattle.soak.specs.declared.Soaked.{Soaked}

-- ---- the state given

-- in its ranges, of a variant, and in run mode
pub record Running (d : Device) : Type 0 where
  pub variant : variant_of d.variant ≡ true
  pub ranged : ranged_of d ≡ true
  pub awake : standby_of d.settings ≡ false

-- ---- a record of the stretch

-- a valid 05 or 06 is its event. Another kind is refused as such, 3, whatever its operands, 08 and 09 too; a 05 or 06 that breaks document 01's table is
-- refused for its operand, 4
unfoldable pub met_of : Quad → Record
met_of q = cond (eqb q.kind 0x05 || eqb q.kind 0x06) (quad_of 1 q) (Err Kind)

-- the records of the stretch, the latest first
abbrev pub latest_first : List ℕ → List Quad
latest_first records = reverse (quads records)

-- ---- decided

-- the same device, supposing another fault count and other latches before the records read
abbrev pub supposing : Device → ℕ → Bool → Bool → Device
supposing d faults llatch rlatch =
    record {
      variant = d.variant;
      pointer = d.pointer;
      pending = d.pending;
      status = d.status;
      low = d.low;
      lowkept = d.lowkept;
      sensed = record {
        local = d.sensed.local;
        remote = d.sensed.remote;
        live = d.sensed.live;
        faults = faults;
        llatch = llatch;
        rlatch = rlatch;
      };
      settings = d.settings;
    }

-- the latch that the records read, the earliest first, leave a channel
abbrev pub latch_after : Channel → Device → List Event → Bool
latch_after ch d read = latch_at ch (after_of d read).sensed

-- a channel is decided when the records read give the same latch for every earlier latch and fault count, which is 0 to 3
abbrev pub Decided : Channel → Device → List Event → Type 0
Decided ch d read =
    (n m : ℕ) → n ≤ 3 → m ≤ 3 → (l r l' r' : Bool) → latch_after ch (supposing d n l r) read ≡ latch_after ch (supposing d m l' r') read

-- the same as a test: by each earlier fault count, from both latches clear and from both set. No channel looks at the other's latch, so that these are all
-- (soak_laws/proofs/Reading.antt: decided_exactly)
abbrev pub each_earlier : (ℕ → Bool → Bool) → List Bool
each_earlier f = f 0 false ∷ f 0 true ∷ f 1 false ∷ f 1 true ∷ f 2 false ∷ f 2 true ∷ f 3 false ∷ f 3 true ∷ []

-- all true or all false
abbrev pub alike : List Bool → Bool
alike latches = all_true latches || all_true (map not latches)

unfoldable pub decided_of : Channel → Device → List Event → Bool
decided_of ch d read = alike (each_earlier (λ (n : ℕ) (o : Bool). latch_after ch (supposing d n o o) read))

-- masked or not
abbrev pub both_decided : Device → List Event → Bool
both_decided d read = decided_of local_channel d read && decided_of remote_channel d read

-- ---- from the end backwards

-- a refusal, with so many records read
abbrev pub refuses_of : ℕ → ℕ → Soaked
refuses_of code read = record { code = code; pulled = false; read = read }

-- T_CRIT_A after the records read, from the state given: either the start is reached, or what came before them does not matter
abbrev pub answers_of : Device → List Event → Soaked
answers_of d read = record { code = 0; pulled = tcrit_of (after_of d read); read = length read }

-- at a valid 05 or 06 the reading goes on; any other record is refused, and counted among those read
abbrev pub on_met : Record → (Event → Soaked) → ℕ → Soaked
on_met (Ok e) further read = further e
on_met (Err why) further read = refuses_of (code_of (Err why)) read

-- what is read so far, the earliest first, and the records before it, the latest first. Only records actually read are judged
unfoldable pub back_of : Device → List Event → List Quad → Soaked
back_of d read [] = answers_of d read
back_of d read (q ∷ before) =
    cond (both_decided d read) (answers_of d read)
    (on_met (met_of q) (λ (e : Event). back_of d (e ∷ read) before) (length read + 1))

-- 8 for a state out of its ranges or of no variant, then 10 in standby, then 4 for a length that is no multiple of four, with no record read
unfoldable pub soak_of : Device → List ℕ → Soaked
soak_of d records =
    cond (variant_of d.variant && ranged_of d)
    (cond (standby_of d.settings) (refuses_of 10 0)
    (cond (eqb (length records % 4) 0) (back_of d [] (latest_first records)) (refuses_of 4 0)))
    (refuses_of 8 0)
