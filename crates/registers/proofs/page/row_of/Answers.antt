use mathlib.Core.Logic.{⊎_elim}
use Rattle.registers.specs.Opened.{registers_opened}
use Rattle.registers.proofs.Entries.{without_close, without_far}
use Rattle.registers.proofs.page.row_of.Goals as goal

pub returns-in-0 : goal.returns-in-0
unfolding registers_opened
returns-in-0 c = rw c.in-0.is

pub returns-in-1 : goal.returns-in-1
unfolding registers_opened
returns-in-1 c = rw c.in-1.is

pub returns-in-2 : goal.returns-in-2
unfolding registers_opened
returns-in-2 c = rw c.in-2.is

pub returns-in-3 : goal.returns-in-3
unfolding registers_opened
returns-in-3 c = rw c.settable.ensures (⊎_elim (λ e. rw e) (λ e. rw e) c.in-3.is)

pub returns-in-4 : goal.returns-in-4
unfolding registers_opened
returns-in-4 c = rw c.settable-in-4.ensures (⊎_elim (λ e. rw e) (λ e. rw e) c.in-4.is)

pub returns-in-5 : goal.returns-in-5
unfolding registers_opened
returns-in-5 c = rw c.settable-in-5.ensures (⊎_elim (λ e. rw e) (λ e. rw e) c.in-5.is)

pub returns-in-6 : goal.returns-in-6
unfolding registers_opened
returns-in-6 c = rw c.settable-in-6.ensures (⊎_elim (λ e. rw e) (λ e. rw e) c.in-6.is)

pub returns-in-7 : goal.returns-in-7
unfolding registers_opened
returns-in-7 c = rw c.settable-in-7.ensures (⊎_elim (λ e. rw e) (λ e. rw e) c.in-7.is)

pub returns-in-8 : goal.returns-in-8
unfolding registers_opened
returns-in-8 c = rw c.settable-in-8.ensures (⊎_elim (λ e. rw e) (λ e. rw e) c.in-8.is)

pub returns-in-15 : goal.returns-in-15
unfolding registers_opened
returns-in-15 c = rw c.in-15.is

pub returns-in-16 : goal.returns-in-16
unfolding registers_opened
returns-in-16 c = rw c.in-16.is

pub returns-in-17 : goal.returns-in-17
unfolding registers_opened
returns-in-17 c = rw (c.settable-in-17.ensures, c.in-17.is)

pub returns-in-18 : goal.returns-in-18
unfolding registers_opened
returns-in-18 c = rw (c.settable-in-18.ensures, c.in-18.is)

pub returns-in-19 : goal.returns-in-19
unfolding registers_opened
returns-in-19 c = rw (c.settable-in-19.ensures, c.in-19.is)

pub returns-in-20 : goal.returns-in-20
unfolding registers_opened
returns-in-20 c = rw (c.settable-in-20.ensures, c.in-20.is)

pub returns-in-25 : goal.returns-in-25
unfolding registers_opened
returns-in-25 c = rw (c.settable-in-25.ensures, c.in-25.is)

pub returns-in-32 : goal.returns-in-32
unfolding registers_opened
returns-in-32 c = rw (c.settable-in-32.ensures, c.in-32.is)

pub returns-in-33 : goal.returns-in-33
unfolding registers_opened
returns-in-33 c = rw (c.settable-in-33.ensures, c.in-33.is)

pub returns-in_default : goal.returns-in_default
returns-in_default c =
    without_close c.args.reg c.ranges.reg.fits c.if-reg-le33.true c.in_default.in_default-own.rest

pub returns-in-191 : goal.returns-in-191
unfolding registers_opened
returns-in-191 c = rw (c.settable-in-191.ensures, c.in-191.is)

pub returns-in-254 : goal.returns-in-254
unfolding registers_opened
returns-in-254 c = rw c.in-254.is

pub returns-in-255 : goal.returns-in-255
unfolding registers_opened
returns-in-255 c = rw c.in-255.is

pub returns-in-176-to-190 : goal.returns-in-176-to-190
returns-in-176-to-190 c =
    without_far c.args.reg c.ranges.reg.fits c.if-reg-le33.false c.in-176-to-190.in_default-own.rest

pub returns-in_default-reg : goal.returns-in_default-reg
returns-in_default-reg c =
    without_far c.args.reg c.ranges.reg.fits c.if-reg-le33.false c.in_default-reg.in_default-own.rest

pub returns-in_default-reg-2 : goal.returns-in_default-reg-2
returns-in_default-reg-2 c =
    without_far c.args.reg c.ranges.reg.fits c.if-reg-le33.false c.in_default-reg.in_default-own.rest
