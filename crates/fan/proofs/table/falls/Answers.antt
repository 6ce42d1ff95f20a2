use Rattle.std.proofs.Common.{rules, arith, List, [], ◌≡◌, ◌∙◌, ◌+◌, ℕ, suc, refl, ap, get_or, length, drop, length-drop}
use Rattle.std.proofs.lemmas.List.{take_all}
use native.Mathlib.Numerals.{add-one}
use Rattle.std.proofs.lemmas.Grind.{get_or_after_one}
use Rattle.fan.specs.Table.{some_of, falls_of}
use Rattle.fan.proofs.Entries.{falls_at, some_more}
use Rattle.fan.proofs.table.falls.Goals as goal

pub loop-entry-init : goal.loop-entry-init
unfolding some_of
loop-entry-init c = (refl, refl)

pub loop-entry-preserved : goal.loop-entry-preserved
loop-entry-preserved c =
    let l = c.loop-entry in
    let many : length c.args.table ≡ 8 = search rules in
    let rest = take_all 7 (drop 1 c.args.table) (omega (arith, many, length-drop 1 c.args.table)) in
    let next = ap (λ (xs : List (List ℕ)). get_or xs l.entry-index []) rest ∙ get_or_after_one c.args.table l.entry-index [] in
    let at = l.entry-index in
    let there : 1 + at ≡ suc at = omega arith in
    let more = some_more (falls_at c.args.table) at in
    (rw (more, l.invariant.0, l.invariant.1, next, there, add-one at), rw (next, there, add-one at, add-one (suc at)))

pub returns : goal.returns
unfolding falls_of
returns c =
    let many : length c.args.table ≡ 8 = search rules in
    let e : c.loop-entry.entry-index ≡ 7 = omega (arith, many, length-drop 1 c.args.table) in
    rw e at c.loop-entry.invariant.0
