-- Request g: which code is given, and exactly when.
-- Assumes nothing.
use Rattle.std.specs.Prelude.{ℕ, suc, ◌≤◌, ◌<◌, List}
use Rattle.fan.specs.declared.Fan.{Fan}
use Rattle.fan.specs.Table.{table_of, temperature_of, value_of}

-- temperatures fall along the table: an entry's is above the next one's
pub record Falls (table : List (List ℕ)) : Type 0 where
  pub entry : ℕ
  pub first : 0 < entry
  pub last : entry < 8
  pub lower : temperature_of table (suc entry) < temperature_of table entry

-- they do not: none is above the next one
pub record NeverFalls (table : List (List ℕ)) : Type 0 where
  pub each : (k : ℕ) → 0 < k → k < 8 → temperature_of table k ≤ temperature_of table (suc k)

-- every number is in its range
pub record InRange (f : Fan) (earlier : ℕ) : Type 0 where
  pub temperatures : (k : ℕ) → 0 < k → k ≤ 8 → temperature_of (table_of f.table) k ≤ 127
  pub values : (k : ℕ) → 0 < k → k ≤ 8 → value_of (table_of f.table) k ≤ 63
  pub hysteresis : f.hysteresis ≤ 31
  pub frequency : f.frequency ≤ 31
  pub earlier_step : earlier ≤ 8

pub data Gives (f : Fan) (earlier : ℕ) : ℕ → Type 0 where
  -- 11: temperatures fall along the table, whatever else is out of its range
  falling : Falls (table_of f.table) → Gives f earlier 11
  -- 4: they do not, and some number is out of its range
  outside : NeverFalls (table_of f.table) → (InRange f earlier → ⊥) → Gives f earlier 4
  -- 0: neither applies
  good : NeverFalls (table_of f.table) → InRange f earlier → Gives f earlier 0

-- of a duty: frequency and PWM value are in their ranges; of a preset: the frequency is
abbrev pub DutyInRange : ℕ → ℕ → Type 0
DutyInRange frequency value = (frequency ≤ 31) × (value ≤ 63)

abbrev pub PresetInRange : ℕ → Type 0
PresetInRange frequency = frequency ≤ 31

pub data NumberGives (in_range : Type 0) : ℕ → Type 0 where
  -- 4: a number is out of its range
  none : (in_range → ⊥) → NumberGives in_range 4
  -- 0: none is
  some : in_range → NumberGives in_range 0
