use Rattle.std.proofs.Common.{rules, ◌≡◌, ℕ, ◌+◌}
use mathlib.Core.Path.{sym, ◌∙◌}
use mir.Facts.{to_z-of_z}
use Rattle.std.specs.Option.{option_map_or}
use Rattle.fan.proofs.Entries.{at_place}
use Rattle.fan.proofs.table.step.Goals as goal

pub returns : goal.returns
returns c =
    let h = rw (to_z-of_z c.ranges.reading) at c.highest.ensures in
    let step : c.map_or.result ≡ option_map_or (λ (i : ℕ). i + 1) c.highest.result 0 = search rules in
    step ∙ sym (at_place c.args.table c.args.hysteresis c.args.earlier c.args.reading c.highest.result h.none h.here h.above)
