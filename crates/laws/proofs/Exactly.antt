-- A table of codes: if the code given has its line, and each line's code is the one given, then a code is given exactly if its line says so.
-- Assumes nothing.
use mathlib.Core.Path.{◌≡◌}
use mathlib.Core.Logic.{◌↔◌}

pub by_lines : {A : Type 0} (Line : A → Type 0) (given : A) → Line given → ((code : A) → Line code → given ≡ code) → (code : A) → (given ≡ code) ↔ Line code
by_lines Line given line each code = ((λ e. rw e at line), each code)
