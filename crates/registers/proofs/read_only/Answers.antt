use mathlib.Core.Path.{sym}
use Prim.Native.Nat.{◌≤◌}
use native.Mathlib.Omega.{arith}
use borrow.Author.Tests.{ne_eqb}
use Rattle.registers.specs.Page.{read_only_of, every_variant}
use Rattle.registers.proofs.Entries.{column_all, column_none, read_only_else}
use Rattle.registers.proofs.read_only.Goals as goal

pub returns-in-1-to-3 : goal.returns-in-1-to-3
unfolding read_only_of
returns-in-1-to-3 c =
    let v = c.args.variant in
    let lo : 1 ≤ v = omega arith in
    let hi : v ≤ 3 = omega arith in
    rw (c.in-254.is, column_all v 1 lo hi)

pub returns-in_default-variant : goal.returns-in_default-variant
unfolding read_only_of
returns-in_default-variant c =
    let v = c.args.variant in
    rw (c.in-254.is, column_none v (every_variant 1) (ne_eqb v 1 (λ e. omega arith)) (ne_eqb v 2 (λ e. omega arith)) (ne_eqb v 3 (λ e. omega arith)))

pub returns-in_default-variant-3 : goal.returns-in_default-variant-3
unfolding read_only_of
returns-in_default-variant-3 c =
    let v = c.args.variant in
    rw (c.in-254.is, column_none v (every_variant 1) (ne_eqb v 1 (λ e. omega arith)) (ne_eqb v 2 (λ e. omega arith)) (ne_eqb v 3 (λ e. omega arith)))

pub returns-in-1 : goal.returns-in-1
unfolding read_only_of
returns-in-1 c = rw (c.in-255.is, c.in-1.is)

pub returns-in-2 : goal.returns-in-2
unfolding read_only_of
returns-in-2 c = rw (c.in-255.is, c.in-2.is)

pub returns-in-3 : goal.returns-in-3
unfolding read_only_of
returns-in-3 c = rw (c.in-255.is, c.in-3.is)

pub returns-in_default-variant-2 : goal.returns-in_default-variant-2
unfolding read_only_of
returns-in_default-variant-2 c =
    let n = c.in_default-variant-2.in_default-variant-2-own.rest in
    rw (c.in-255.is, ne_eqb _ _ n.0.0.1, ne_eqb _ _ n.0.1, ne_eqb _ _ n.1)

pub returns-in_default : goal.returns-in_default
returns-in_default c =
    let n = c.in_default.in_default-own.rest in
    sym (read_only_else c.args.variant c.args.reg c.ranges.reg.fits (ne_eqb _ _ n.0.1) (ne_eqb _ _ n.1))
