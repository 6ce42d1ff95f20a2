-- Request g: what the three calls answer. A fan, an answer of a step and a number are the structs of src/lib.rt.
-- Assumes nothing.
use Rattle.std.specs.Prelude.{ℕ, ◌||◌, cond, List, ltb, eqb, ℤ}
use Rattle.fan.specs.declared.Fan.{Fan}
use Rattle.fan.specs.declared.Driven.{Driven}
use Rattle.fan.specs.declared.Number.{Number}
use Rattle.fan.specs.Table.{table_of, value_of, step_of, falls_of, out_of}
use Rattle.fan.specs.Drive.{duty_of, preset_of}

-- 11 for temperatures that fall along the table, as they stand; then 4 for any number out of its range: a temperature, a PWM value, the hysteresis, the
-- frequency or the earlier step
unfoldable pub code_of : List (List ℕ) → ℕ → ℕ → ℕ → ℕ
code_of table hysteresis frequency earlier =
    cond (falls_of table) 11
    (cond (out_of table || ltb 31 hysteresis || ltb 31 frequency || ltb 8 earlier) 4 0)

-- a refusal: every other number is 0
abbrev pub refuses_of : ℕ → Driven
refuses_of code = record { code = code; step = 0; value = 0; duty = 0 }

-- a step, its PWM value, and the duty of that value
abbrev pub drives_of : List (List ℕ) → ℕ → ℕ → Driven
drives_of table frequency step = record { code = 0; step = step; value = value_of table step; duty = duty_of frequency (value_of table step) }

-- the step after a reading
unfoldable pub step_answer_of : Fan → ℕ → ℤ → Driven
step_answer_of f earlier reading =
    let table = table_of f.table in
    let code = code_of table f.hysteresis f.frequency earlier in
    cond (eqb code 0) (drives_of table f.frequency (step_of table f.hysteresis earlier reading)) (refuses_of code)

-- a number, or 4 and 0
abbrev pub number_of : ℕ → Number
number_of value = record { code = 0; value = value }

abbrev pub no_number : Number
no_number = record { code = 4; value = 0 }

-- the duty of a PWM value: 4 for a frequency or a value out of its range
unfoldable pub duty_answer_of : ℕ → ℕ → Number
duty_answer_of frequency value = cond (ltb 31 frequency || ltb 63 value) no_number (number_of (duty_of frequency value))

-- the preset: 4 for a frequency out of its range
unfoldable pub preset_answer_of : ℕ → Number
preset_answer_of frequency = cond (ltb 31 frequency) no_number (number_of (preset_of frequency))
