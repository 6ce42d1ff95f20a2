use borrow.Author.Rules.{rules}
use mir.Syntax.{w8}
use mir.Val.{Fits}
use mathlib.Core.Path.{◌∙◌}
use lib.ListN.{get_or}
use Rattle.device.proofs.Masks.{six}
use Rattle.device.proofs.ranges.masks.Goals as goal

pub returns : goal.returns
returns c =
    let s = c.args.s in
    let b1 : Fits w8 (get_or s 1 0) = search rules in
    let b2 : Fits w8 (get_or s 2 0) = search rules in
    let b3 : Fits w8 (get_or s 3 0) = search rules in
    let b4 : Fits w8 (get_or s 4 0) = search rules in
    let b5 : Fits w8 (get_or s 5 0) = search rules in
    let b6 : Fits w8 (get_or s 6 0) = search rules in
    let b10 : Fits w8 (get_or s 10 0) = search rules in
    let b11 : Fits w8 (get_or s 11 0) = search rules in
    let dropping = rw (c.keeps-6.ensures, c.keeps-5.ensures, c.keeps-4.ensures, c.keeps-3.ensures, c.keeps-2.ensures, c.keeps.ensures) at c.all.ensures in
    dropping ∙ six s b1.fits b2.fits b3.fits b4.fits b5.fits b6.fits b10.fits b11.fits
