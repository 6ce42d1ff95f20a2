-- A soak's answer in the library's types, and what C gets of it.
-- Assumes nothing.
use Rattle.std.specs.Prelude.{ℕ, ◌<◌, ⊤, cond, eqb, Result, Ok, Err}
use Rattle.record.specs.declared.refusal.Refusal.TheVariants.{Kind, Operand}
use Rattle.record.specs.Record.{code_of}
use Rattle.soak.specs.declared.Answer.{Answer}
use Rattle.soak.specs.declared.Refusal.{Refusal}
use Rattle.soak.specs.declared.Refusal.TheVariants.{OutOfRange, Standby, Uneven, Record}
use Rattle.soak.specs.declared.Soaked.{Soaked}
use Rattle.soak.specs.Soak.{refuses_of}

abbrev pub refusal_code : Refusal → ℕ
refusal_code OutOfRange = 8
refusal_code Standby = 10
refusal_code Uneven = 4
refusal_code (Record why read) = code_of (Err why)

-- how many records were read
abbrev pub refusal_read : Refusal → ℕ
refusal_read OutOfRange = 0
refusal_read Standby = 0
refusal_read Uneven = 0
refusal_read (Record why read) = read

abbrev pub soaked_of : Result Answer Refusal → Soaked
soaked_of (Ok answer) = record { code = 0; pulled = answer.pulled; read = answer.read }
soaked_of (Err refusal) = refuses_of (refusal_code refusal) (refusal_read refusal)

-- the result of which C gets this
abbrev pub from_soaked : Soaked → Result Answer Refusal
from_soaked s =
    cond (eqb s.code 0) (Ok (record { pulled = s.pulled; read = s.read }))
    (cond (eqb s.code 8) (Err OutOfRange)
    (cond (eqb s.code 10) (Err Standby)
    (cond (eqb s.code 3) (Err (Record Kind s.read))
    (cond (eqb s.read 0) (Err Uneven) (Err (Record Operand s.read))))))

-- a record that is refused is counted among those read
abbrev pub Counted : Refusal → Type 0
Counted OutOfRange = ⊤
Counted Standby = ⊤
Counted Uneven = ⊤
Counted (Record why read) = 0 < read
