use Rattle.std.proofs.Common.{rules, arith, [], ◌∙◌, ◌≡◌, length}
use Rattle.std.proofs.lemmas.List.{take_all}
use Rattle.std.proofs.lemmas.List.Folds.{list_any_more}
use Rattle.fan.proofs.Entries.{out, some_out}
use Rattle.fan.proofs.table.out_of_range.Goals as goal

pub loop-entry-preserved : goal.loop-entry-preserved
loop-entry-preserved c =
    let l = c.loop-entry in
    rw (list_any_more out c.args.table l.entry-index [] (omega arith), l.invariant)

pub returns : goal.returns
returns c =
    let many : length c.args.table ≡ 8 = search rules in
    let all = take_all c.loop-entry.entry-index c.args.table (omega (arith, many)) in
    (rw all at c.loop-entry.invariant) ∙ some_out c.args.table many
