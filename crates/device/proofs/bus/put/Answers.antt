use Rattle.registers.proofs.Settings.{write_not_shot, write_shot}
use Rattle.device.specs.Bus.{put_of}
use mathlib.Core.Path.{sym, ◌∙◌}
use Rattle.device.proofs.bus.put.Goals as goal

pub returns-in-Some : goal.returns-in-Some
unfolding put_of
returns-in-Some c =
    let may = sym c.allowed.ensures ∙ c.if-not-allowed.false in
    let other = write_not_shot _ _ (sym c.position.ensures ∙ c.in-Some.is) in
    rw (c.answered.ensures, c.stored.ensures, may, other)

pub returns-in-None : goal.returns-in-None
unfolding put_of
returns-in-None c =
    let may = sym c.allowed.ensures ∙ c.if-not-allowed.false in
    let none = sym c.position.ensures ∙ c.in-None.is in
    rw (c.answered-in-None.ensures, c.fired.ensures, may, write_shot _ may none)
