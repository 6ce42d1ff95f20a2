use mathlib.Core.Path.{sym, ap, ◌∙◌}
use Rattle.registers.specs.Page.{setting_of}
use Rattle.registers.proofs.Settings.{somewhere, read_below, settable_position}
use Rattle.device.specs.Bus.{low_read_of, read_only_value_of, value_of, get_of}
use Rattle.device.proofs.AfterRead.{settable_read}
use Rattle.device.proofs.bus.get.Goals as goal

pub bounds-d-i : goal.bounds-d-i
bounds-d-i c = read_below _ _ (sym c.position.ensures ∙ c.in-Some.is)

pub returns-in-Some : goal.returns-in-Some
unfolding get_of value_of setting_of
returns-in-Some c =
    let there = sym c.position.ensures ∙ c.in-Some.is in
    let settable = sym (settable_position _) ∙ ap somewhere there in
    let may = sym c.allowed.ensures ∙ c.if-not-allowed.false in
    rw (c.answered.ensures, c.pointed-n.ensures, may, settable, there, settable_read _ _ settable)

pub returns-in-None : goal.returns-in-None
unfolding get_of value_of read_only_value_of low_read_of
returns-in-None c =
    let none = sym c.position.ensures ∙ c.in-None.is in
    let may = sym c.allowed.ensures ∙ c.if-not-allowed.false in
    rw (c.read_only.ensures, c.pointed-n.ensures, may, sym (settable_position _) ∙ ap somewhere none)
