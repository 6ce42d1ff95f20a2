-- What the reader's loops promise each other: what is known between two bytes of a call. `feed` promises no more than `Meets`.
-- Assumes nothing.
use Rattle.std.specs.Prelude.{ℕ, ◌+◌, ◌-◌, ◌/◌, min, ◌≤◌, ◌<◌, ◌≡◌, List, [], ◌∷◌, length, get_or, take, drop}
use Rattle.std.specs.Prelude.{Bool, true, ◌&&◌, ◌||◌, cond, eqb, Result, Ok, Err}
use Rattle.pair.specs.declared.Bus.{Bus}
use Rattle.capture.specs.declared.Reader.{Reader}
use Rattle.capture.specs.declared.Ahead.{Ahead}
use Rattle.capture.specs.declared.Fed.{Fed}
use Rattle.device.specs.Bus.{powered_of}
use Rattle.device.specs.Ranges.{variant_of}
use Rattle.registers.specs.Page.{address_of}
use Rattle.pair.specs.Bus.{placed_of, counted_bus, first_address}
use Rattle.capture.specs.declared.refusal.Refusal.{Refusal}
use Rattle.capture.specs.declared.refusal.Refusal.TheVariants.{DeviceCount, Variant, OneAddress}
use Rattle.capture.specs.Refusal.{refusal_code_of}
use Rattle.capture.specs.Reader.{with_done, with_carried, with_bus, hold_of, ranges_of, Out, join_of, feed_of, Meets}

-- the call's outcome o is what has been done, and then that of the rest
pub record Going (o : Out) (input entry answers : List ℕ) (s : Reader) (at written : ℕ) : Type 0 where
  pub ok : ranges_of s ≡ true
  pub within : at ≤ length input
  pub room : written ≤ length entry
  pub long : length answers ≡ length entry
  pub rest : drop written answers ≡ drop written entry
  pub same : o ≡ join_of at (take written answers) (feed_of s (drop at input) (length entry - written))

-- whatever the call's outcome, it is no other from there on
abbrev pub Onward : List ℕ → List ℕ → Reader → ℕ → ℕ → List ℕ → Reader → ℕ → ℕ → Type 0
Onward input before s at written after s' at' written' =
    (o : Out) (entry : List ℕ) → Going o input entry before s at written → Going o input entry after s' at' written'

-- three bytes of a record are carried: the next one completes it
unfoldable pub waits_of : Reader → Bool
waits_of s = eqb s.held 0 && eqb s.carried 3

-- the next state, or the state that holds the code of why there is none
abbrev pub told_of : Reader → Result Reader Refusal → Reader
told_of s (Ok next) = next
told_of s (Err why) = hold_of s (refusal_code_of why)

-- the bus at its device count, or why not
abbrev pub opened_or : Bus → ℕ → Result Bus Refusal
opened_or p b = cond (eqb b 1 || eqb b 2) (Ok (counted_bus p b)) (Err DeviceCount)

-- the bus at a variant of one of its devices, or why not
abbrev pub variant_or : Bus → Bool → ℕ → Result Bus Refusal
variant_or p second b =
    cond (variant_of b) (cond (second && eqb (address_of b) (first_address p)) (Err OneAddress) (Ok (placed_of p second (powered_of b)))) (Err Variant)

-- so many records done with this bus, and a record's first three bytes carried
abbrev pub carrying_of : Reader → ℕ → Bus → ℕ → ℕ → ℕ → Reader
carrying_of s done bus kind a b = with_carried (with_done (with_bus s bus) done) 3 (kind ∷ a ∷ b ∷ [])

-- how many records can be taken from a fourth byte on: one that restarts both devices; else of so many counted and not done, those whole in so
-- many bytes, and with room for answers
abbrev pub upto_of : Bool → ℕ → ℕ → ℕ → ℕ
upto_of restart counted bytes room = cond restart 1 (min counted (min ((bytes + 3) / 4) (room / 2)))

-- bytes that complete no record are taken: up to the end, a refused byte, or one that completes a record
pub record Led (input : List ℕ) (s : Reader) (from : ℕ) (n : Reader) (at : ℕ) : Type 0 where
  pub onward : (answers : List ℕ) (written : ℕ) → Onward input answers s from written answers n at written
  pub forward : from ≤ at
  pub within : at ≤ length input
  pub ready : at < length input → n.held ≡ 0 → waits_of n ≡ true

-- a state in its ranges, the fourth byte of a record next and there, and room for its answers
pub record Ready (a : Ahead) (input answers : List ℕ) (start : ℕ) : Type 0 where
  pub waits : waits_of a.reader ≡ true
  pub within : a.at < length input
  pub room : start + 2 ≤ length answers

-- records are taken: one at least, or the first is refused
pub record Took (input before : List ℕ) (s : Reader) (from start : ℕ) (after : List ℕ) (r : Fed) : Type 0 where
  pub onward : r.code ≡ 0 → Onward input before s from start after r.reader r.consumed r.written
  pub forward : r.code ≡ 0 → from < r.consumed
  pub ends : (r.code ≡ 0 → ⊥) → (o : Out) (entry : List ℕ) → Going o input entry before s from start → Meets o r entry after

-- no room for a record that c completes
abbrev pub Full : Reader → ℕ → ℕ → ℕ → Fed → Type 0
Full s c at written r =
    (o : Out) (input entry answers : List ℕ) → Going o input entry answers s at written → at < length input → get_or input at 0 ≡ c
    → length answers - written < 2 → Meets o r entry answers
