-- Request g: the answers with code 0, in the request's words.
-- Assumes nothing.
use Rattle.std.specs.Prelude.{ℕ, ◌*◌, ◌≡◌, ℤ}
use Rattle.fan.specs.declared.Fan.{Fan}
use Rattle.fan.specs.declared.Driven.{Driven}
use Rattle.fan.specs.declared.Number.{Number}
use Rattle.fan.specs.Table.{table_of, value_of, entry_stands, Highest}
use Rattle.fan.specs.Drive.{counted_of, Nearest, Duty}

-- the step is the highest entry whose temperature the reading reaches, or, for entries up to the earlier step, whose temperature less hysteresis it reaches;
-- no such entry means PWM value 0; the duty is of that PWM value at that frequency
pub record Drives (f : Fan) (earlier : ℕ) (reading : ℤ) (d : Driven) : Type 0 where
  pub code : d.code ≡ 0
  pub step : Highest (entry_stands (table_of f.table) f.hysteresis earlier reading) 8 d.step
  pub value : d.value ≡ value_of (table_of f.table) d.step
  pub duty : Duty f.frequency d.value d.duty

-- duty is value over 2n, all of it when value is 2n or more, at most half a hundredth of a percent from the exact fraction, ties upward
pub record IsDuty (frequency value : ℕ) (d : Number) : Type 0 where
  pub code : d.code ≡ 0
  pub duty : Duty frequency value d.value

-- the preset of about 75 percent is one and a half n, a half going up, but 1 at n = 1
pub record IsPreset (frequency : ℕ) (d : Number) : Type 0 where
  pub code : d.code ≡ 0
  pub at_one : counted_of frequency ≡ 1 → d.value ≡ 1
  pub nearest : (counted_of frequency ≡ 1 → ⊥) → Nearest (3 * counted_of frequency) 2 d.value
