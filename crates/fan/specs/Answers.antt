-- The answers of src/lib.rt, as the structs that C gets.
-- Assumes nothing.
use Rattle.std.specs.Prelude.{ℕ, cond, eqb, Result, Ok, Err}
use Rattle.fan.specs.declared.Step.{Step}
use Rattle.fan.specs.declared.Refusal.{Refusal}
use Rattle.fan.specs.declared.Refusal.TheVariants.{Falling, Operand}
use Rattle.fan.specs.declared.Driven.{Driven}
use Rattle.fan.specs.declared.Number.{Number}
use Rattle.fan.specs.Fan.{refuses_of, number_of}

-- the code of a refusal
abbrev pub refusal_code : Refusal → ℕ
refusal_code Falling = 11
refusal_code Operand = 4

-- 0, or the code of a refusal
abbrev pub code_told : {A : Type 0} → Result A Refusal → ℕ
code_told (Ok x) = 0
code_told (Err refusal) = refusal_code refusal

-- a step, or a refusal, of which every other number is 0
abbrev pub driven_of : Result Step Refusal → Driven
driven_of (Ok s) = record { code = 0; step = s.number; value = s.value; duty = s.duty }
driven_of (Err refusal) = refuses_of (refusal_code refusal)

-- a number, or a refusal and 0
abbrev pub told_of : Result ℕ Refusal → Number
told_of (Ok value) = number_of value
told_of (Err refusal) = record { code = refusal_code refusal; value = 0 }

-- the refusal of a code, and what the answers stand for
abbrev pub from_code : ℕ → Refusal
from_code code = cond (eqb code 11) Falling Operand

abbrev pub from_driven : Driven → Result Step Refusal
from_driven d = cond (eqb d.code 0) (Ok (record { number = d.step; value = d.value; duty = d.duty })) (Err (from_code d.code))

abbrev pub from_told : Number → Result ℕ Refusal
from_told n = cond (eqb n.code 0) (Ok n.value) (Err (from_code n.code))
