-- `told_back`: what is told of a report or a refusal tells which it was.
-- Assumes nothing.
use mathlib.Core.Path.{◌≡◌, refl}
use Rattle.std.specs.Prelude.{Result, Ok, Err}
use Rattle.tach.specs.declared.Report.{Report}
use Rattle.tach.specs.declared.Refusal.{Refusal}
use Rattle.tach.specs.declared.Refusal.TheVariants.{FewStamps, EqualStamps}
use Rattle.tach.specs.Tach.{told_of, from_told}

pub told_back : (r : Result Report Refusal) → from_told (told_of r) ≡ r
told_back (Ok report) = refl
told_back (Err FewStamps) = refl
told_back (Err EqualStamps) = refl
